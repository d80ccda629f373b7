use Rattle.std.proofs.Common.{◌≡◌, ◌++◌, take}
use Rattle.piton_semantics.specs.Templates.{code_pieces}
use Rattle.piton_semantics.proofs.piece.push_code.Given as goal

-- the words so far
abbrev pub invariant-loop-word : goal.invariant-loop-word
invariant-loop-word g l = l.pieces.items ≡ l.fn.pieces.items ++ code_pieces (take l.word-index l.words)
