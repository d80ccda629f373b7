use Rattle.std.proofs.Common.{◌≡◌, ◌++◌, drop}
use Rattle.gypsy_codegen.specs.WordsOf.{words_of_values}
use Rattle.stack_build.proofs.value_words.push_values.Given as goal

abbrev pub invariant-loop-value : goal.invariant-loop-value
invariant-loop-value g l =
    l.words.items ++ words_of_values (drop l.value-index l.values) ≡ l.initial.words.items ++ words_of_values l.values
