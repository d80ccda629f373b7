use Rattle.piton_semantics.specs.Placed.{placed}
use Rattle.stack_build.proofs.WordsLaws.{words-trimmed, placed_are_words, registers_are_words}
use Rattle.stack_build.proofs.laws.placed_are_words.Goals as goal

pub returns : goal.returns
returns c = λ system sound small. (registers_are_words system sound small, words-trimmed (placed system).words (placed_are_words system sound small))
