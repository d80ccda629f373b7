use Rattle.std.proofs.Common.{◌≡◌, ◌+◌, map, drop}
use Rattle.gypsy_syntax.specs.Programs.{words_of}
use Rattle.gypsy_semantics.proofs.room.formal_words.Given as goal

abbrev pub invariant-loop-shape : goal.invariant-loop-shape
invariant-loop-shape l = l.words + words_of (map (λ f. f.1) (drop l.shape-index l.formals)) ≡ words_of (map (λ f. f.1) l.formals)
