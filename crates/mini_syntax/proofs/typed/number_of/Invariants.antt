use Rattle.std.proofs.Common.{◌≡◌, ◌≤◌, drop}
use Rattle.mini_syntax.specs.Breaches.{number_after, number_of}
use Rattle.mini_syntax.proofs.typed.number_of.Given as goal

-- the number of the digits so far
abbrev pub invariant-loop-digit : goal.invariant-loop-digit
invariant-loop-digit l = record {
  small : l.number ≤ 2147483647;
  so_far : number_after l.number (drop l.digit-index l.digits) ≡ number_of l.digits;
}
