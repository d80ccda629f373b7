use Rattle.std.specs.Io.KnownBytes.{Keeps}
use Rattle.stack_shelf.proofs.line_reading.next_byte.Given as goal

-- nothing was read
abbrev pub invariant-loop : goal.invariant-loop
invariant-loop g l = Keeps (g.R.Read.remaining l.initial.reader) (g.R.Read.remaining l.reader)
