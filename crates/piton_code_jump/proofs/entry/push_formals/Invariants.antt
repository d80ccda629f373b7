use Rattle.std.proofs.Common.{◌≡◌, ◌++◌}
use Rattle.piton_semantics.specs.Templates.{formal_pieces}
use Rattle.piton_code_jump.proofs.entry.push_formals.Given as goal

-- the formals so far
abbrev pub invariant-loop : goal.invariant-loop
invariant-loop g l = l.pieces.items ≡ l.fn.pieces.items ++ formal_pieces l.counter
