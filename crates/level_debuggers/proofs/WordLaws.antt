-- Words of memory, line by line.
use Rattle.std.proofs.Common.{◌≡◌, ◌+◌, ◌%◌, ◌^◌, ℕ, List, [], ◌++◌, Option, refl, ap, ◌∙◌, add-one}
use Rattle.fm_machine.specs.State.{Fm}
use Rattle.display_maps.specs.Reading.{word_in}
use Rattle.level_debuggers.specs.FmLevels.{word_line, word_lines}

-- one word more
pub next_word : (state : Fm) (address n : ℕ) (word : Option ℕ) (old new : List ℕ) → old ≡ word_lines state address n
    → word ≡ word_in state ((address + n) % 2 ^ 32) → new ≡ old ++ word_line ((address + n) % 2 ^ 32) word → new ≡ word_lines state address (n + 1)
unfolding word_lines
next_word state address n word old new so_far is more =
    let there = (address + n) % 2 ^ 32 in
    rw (add-one n)
    (more ∙ ap (λ (text : List ℕ). text ++ word_line there word) so_far
    ∙ ap (λ (w : Option ℕ). word_lines state address n ++ word_line there w) is)

-- a number in front of whose words is none
pub no_words : (state : Fm) (address : ℕ) → [] ≡ word_lines state address 0
unfolding word_lines
no_words state address = refl
