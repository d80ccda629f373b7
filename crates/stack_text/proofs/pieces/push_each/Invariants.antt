use Rattle.std.{proofs.Common.{◌≡◌, ◌++◌, drop}, specs.List.flat_map}
use Rattle.stack_text.proofs.pieces.push_each.Given as goal

-- the pieces so far and those that are left are all
abbrev pub invariant-loop-piece : goal.invariant-loop-piece
invariant-loop-piece g l =
    l.text.items ++ flat_map (λ piece. piece.now) (drop l.piece-index l.pieces) ≡ l.initial.text.items ++ flat_map (λ piece. piece.now) l.pieces
