use Rattle.std.{proofs.Common.{◌≡◌, ◌++◌, drop, take}, specs.Prelude.IsTrue, specs.List.flat_map}
use Rattle.fm_image.specs.Spelling.{are_words}
use Rattle.fm_asm.specs.Printing.{word_line}
use Rattle.fm_asm.proofs.printing.push_words.Given as goal

-- the lines so far and those of what is left are those of all, and the words so far have 32 bits
abbrev pub invariant-loop-word : goal.invariant-loop-word
invariant-loop-word g l = record {
  so_far : l.text.items ++ flat_map word_line (drop l.word-index l.words) ≡ l.initial.text.items ++ flat_map word_line l.words;
  fit : IsTrue (are_words (take l.word-index l.words));
}
