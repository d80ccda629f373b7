use Rattle.std.{proofs.Common.{◌≢◌, ◌≤◌, All, length}, specs.Io.KnownBytes.Consumes}
use Rattle.stack_shelf.proofs.line_reading.line_from.Given as goal

-- what was read has no line feed, is within the limit, and is what the reader has given
abbrev pub invariant-loop : goal.invariant-loop
invariant-loop g l = record {
  within : length l.line.items ≤ l.limit;
  others : All (λ byte. byte ≢ 10) l.line.items;
  given : Consumes (g.R.Read.remaining l.initial.reader) (g.R.Read.remaining l.reader) l.line.items;
}
