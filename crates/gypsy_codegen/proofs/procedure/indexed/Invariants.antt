use Rattle.std.proofs.Common.{◌≡◌, ◌++◌, ◌+◌, map, drop}
use Rattle.piton_words.specs.declared.word.Word.TheVariants.{Nat}
use Rattle.gypsy_syntax.specs.Programs.{words_of}
use Rattle.gypsy_codegen.{specs.Text.temporaries_of, specs.Internal.Views.nameless, specs.WordsOf.starts}
use Rattle.gypsy_codegen.proofs.procedure.indexed.Given as goal

abbrev pub invariant-loop-number : goal.invariant-loop-number
invariant-loop-number g l = record {
  words : l.first + words_of (drop l.number l.shapes) ≡ words_of l.shapes;
  made :
      l.temporaries.items ++ temporaries_of nameless (drop l.number l.names) (map (λ at. Nat at) (starts l.first (drop l.number l.shapes))) ≡
      temporaries_of nameless l.names (map (λ at. Nat at) (starts 0 l.shapes));
}
