use Rattle.std.{proofs.Common.{◌≤◌, length}, specs.Io.KnownBytes.Consumes}
use Rattle.stack_shelf.proofs.streams.read_within.Given as goal

-- what was read is within the limit, and is what the reader has given
abbrev pub invariant-loop : goal.invariant-loop
invariant-loop g l = record {
  within : length l.bytes.items ≤ l.limit;
  given : Consumes (g.R.Read.remaining l.initial.reader) (g.R.Read.remaining l.reader) l.bytes.items;
}
