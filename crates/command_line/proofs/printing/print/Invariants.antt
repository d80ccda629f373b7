use Rattle.std.proofs.Common.{◌≡◌, ◌≤◌, ◌++◌, ℕ, List, length}
use Rattle.stack_shelf.specs.Shelf.{appended}
use Rattle.command_line.specs.Devices.{lines_of, took_each}
use Rattle.command_line.proofs.printing.print.Given as goal

-- what was printed, and the rest, is the text
abbrev pub invariant-loop-rest : goal.invariant-loop-rest
invariant-loop-rest g l =
    let sink = g.K.Sink in
    record {
      printed : (done : List ℕ) × (done ++ l.rest ≡ l.fn.text) × (sink.taken l.out ≡ appended (sink.taken l.initial.out) done);
      lines : took_each sink.took l.initial.out (lines_of l.fn.text) ≡ took_each sink.took l.out (lines_of l.rest);
      faults : sink.faults l.initial.out ≤ sink.faults l.out;
    }

abbrev pub decreases-loop-rest : goal.decreases-loop-rest
decreases-loop-rest g l = length l.rest
