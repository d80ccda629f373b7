use Rattle.std.{proofs.Common.{◌≡◌, ℕ, List, ◌++◌}, specs.Io.KnownBytes.Appends}
use Rattle.stack_shelf.proofs.streams.write_whole.Given as goal

-- the bytes before the rest were appended
abbrev pub invariant-loop : goal.invariant-loop
invariant-loop g l = (done : List ℕ) × (l.initial.rest ≡ done ++ l.rest) × Appends (g.W.Write.contents l.initial.writer) (g.W.Write.contents l.writer) done
