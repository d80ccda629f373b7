use Rattle.level_debuggers.proofs.ScriptLaws.{arrivals_are_said, arrivals_at_any_are_said, scripts_walk, steps_are_said, text_stays, up_is_said, up_says_moment}
use Rattle.level_debuggers.{proofs.ScriptLaws.words_are_said, proofs.ShowLaws.show_is_said}
use Rattle.level_debuggers.proofs.laws.scripts_walk.Goals as goal

pub returns-clause-walk : goal.returns-clause-walk
returns-clause-walk c = scripts_walk

pub returns-clause-show : goal.returns-clause-show
returns-clause-show c = show_is_said

pub returns-clause-up : goal.returns-clause-up
returns-clause-up c = up_is_said

pub returns-clause-words : goal.returns-clause-words
returns-clause-words c = words_are_said

pub returns-clause-arrivals : goal.returns-clause-arrivals
returns-clause-arrivals c = arrivals_are_said

pub returns-clause-any : goal.returns-clause-any
returns-clause-any c = arrivals_at_any_are_said

pub returns-clause-steps : goal.returns-clause-steps
returns-clause-steps c = steps_are_said

pub returns-clause-moment : goal.returns-clause-moment
returns-clause-moment c = up_says_moment

pub returns-clause-text : goal.returns-clause-text
returns-clause-text c = text_stays
