-- The text that is built.
use Rattle.std.specs.Prelude.{◌≡◌, ℕ, List}
use Rattle.proved_programs.specs.Texts.Sum.{sum_text}

-- the text of the file examples/arrays/sum.gypsy
pub record IsSumText (text : List ℕ) : Type 0 where
  pub is : text ≡ sum_text
