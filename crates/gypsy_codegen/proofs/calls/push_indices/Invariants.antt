use Rattle.std.proofs.Common.{◌≡◌, ◌++◌, ◌+◌, map, drop}
use Rattle.gypsy_syntax.specs.Programs.{words_of}
use Rattle.gypsy_codegen.specs.Internal.Views.{index_text}
use Rattle.gypsy_codegen.proofs.calls.push_indices.Given as goal

abbrev pub invariant-loop-number : goal.invariant-loop-number
invariant-loop-number g l = record {
  words : l.first + words_of (map (λ v. v.shape) (map (λ v. v.1) (drop l.number l.locals))) ≡ l.words;
  lines :
      l.emitter ++ index_text l.words l.number l.first (map (λ v. v.shape) (map (λ v. v.1) (drop l.number l.locals))) ≡
      l.fn.emitter ++ index_text l.words 0 0 (map (λ v. v.shape) (map (λ v. v.1) l.locals));
}
