use Rattle.stack_commands.proofs.ScriptTalkLaws.{lines_stay, talks_follow, talks_refuse}
use Rattle.stack_commands.proofs.talking.talks_are_scripts.Goals as goal

pub returns-clause-follow : goal.returns-clause-follow
returns-clause-follow c = talks_follow

pub returns-clause-refuse : goal.returns-clause-refuse
returns-clause-refuse c = talks_refuse

pub returns-clause-together : goal.returns-clause-together
returns-clause-together c = lines_stay
