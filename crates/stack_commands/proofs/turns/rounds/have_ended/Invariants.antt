use Rattle.std.{proofs.Common.{◌≡◌, drop}, specs.List.list_all}
use Rattle.fm_turns.specs.Turns.{states_of}
use Rattle.stack_commands.specs.Internal.Told.{has_ended}
use Rattle.stack_commands.proofs.turns.rounds.have_ended.Given as goal

-- the tasks that are left settle it
abbrev pub invariant-loop-i : goal.invariant-loop-i
invariant-loop-i l = list_all has_ended (drop l.i (states_of l.turns)) ≡ list_all has_ended (states_of l.turns)
