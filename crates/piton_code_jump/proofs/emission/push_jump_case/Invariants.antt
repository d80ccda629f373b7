use Rattle.std.proofs.Common.{◌≡◌, ◌++◌, map, take}
use Rattle.piton_check.{specs.Instruction.place_of, specs.declared.piece.Piece.TheVariants.Place}
use Rattle.piton_semantics.specs.Templates.{jump_case_pieces}
use Rattle.piton_code_jump.proofs.emission.push_jump_case.Given as goal

-- the places so far
abbrev pub invariant-loop-arg : goal.invariant-loop-arg
invariant-loop-arg g l = l.pieces.items ≡ l.fn.pieces.items ++ (jump_case_pieces ++ map (λ to. Place l.program to) (map place_of (take l.arg-index l.args)))
