use Rattle.std.proofs.Common.{◌≡◌, ◌++◌, map}
use Rattle.gypsy_codegen.specs.Internal.Views.{word_constant}
use Rattle.gypsy_codegen.proofs.calls.constants.Given as goal

abbrev pub invariant-loop-word : goal.invariant-loop-word
invariant-loop-word g l =
    l.emitter ++ map word_constant l.word-iterator.rest.items ≡ l.fn.emitter ++ map word_constant l.fn.words.items
