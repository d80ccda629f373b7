use Rattle.gypsy_codegen.proofs.GuardLaws.{guards_calls, guard_wants_two, calls_have_two, free_is_before}
use Rattle.gypsy_codegen.proofs.laws.guards_tell_room.Goals as goal

pub returns-clause-goes : goal.returns-clause-goes
returns-clause-goes c = guards_calls

pub returns-clause-wants_two : goal.returns-clause-wants_two
returns-clause-wants_two c = guard_wants_two

pub returns-clause-calls_have_two : goal.returns-clause-calls_have_two
returns-clause-calls_have_two c = calls_have_two

pub returns-clause-free : goal.returns-clause-free
returns-clause-free c = free_is_before
