use Rattle.stack_commands.proofs.talking.print_talk_end.Goals as goal

pub returns-in-Script-clause-prefix : goal.returns-in-Script-clause-prefix
returns-in-Script-clause-prefix g c = rw c.in-Script.is c.print_end.ensures.prefix

pub returns-in-Refused-clause-prefix : goal.returns-in-Refused-clause-prefix
returns-in-Refused-clause-prefix g c = rw c.in-Refused.is c.print_verdict.ensures.prefix
