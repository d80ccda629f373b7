use Rattle.std.proofs.Common.{◌≡◌, ◌+◌, map, drop}
use Rattle.gypsy_syntax.specs.Programs.{words_of}
use Rattle.gypsy_codegen.proofs.words.local_count.Given as goal

abbrev pub invariant-loop-value : goal.invariant-loop-value
invariant-loop-value l =
    l.words + words_of (map (λ v. v.shape) (map (λ v. v.1) (drop l.value-index l.locals))) ≡ words_of (map (λ v. v.shape) (map (λ v. v.1) l.locals))
