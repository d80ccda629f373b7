-- Where variables stand.
use Rattle.std.{proofs.Common.{◌≡◌, ℕ, zero, suc, ◌+◌, ◌-◌, ◌≤◌, ◌<◌, List, [], ◌∷◌, length, take, ap, arith}, specs.Prelude.get_or}
use Rattle.stack_text.{specs.declared.shape.Shape.Shape, specs.declared.shape.Kind.TheVariants.Integer, specs.Values.item_count}
use Rattle.gypsy_syntax.specs.Programs.{simple, words_of}

-- the words of the first variables are no more than all
pub words_before : (b : ℕ) (shapes : List Shape) → words_of (take b shapes) ≤ words_of shapes
words_before zero shapes = omega arith
words_before (suc b) [] = omega arith
words_before (suc b) (s ∷ shapes) = omega (arith, words_before b shapes)

-- those of one variable too, or one word past the last variable
pub words_with : (b : ℕ) (shapes : List Shape) →
    words_of (take b shapes) + (item_count (get_or shapes b (simple Integer)) - 1) ≤ words_of shapes
words_with zero [] = omega arith
words_with (suc b) [] = omega arith
words_with zero (s ∷ shapes) = omega arith
words_with (suc b) (s ∷ shapes) = omega (arith, words_with b shapes)

-- and so are those of any one variable
pub words_at : (b : ℕ) (shapes : List Shape) (s : Shape) → b < length shapes → s ≡ get_or shapes b s → item_count s ≤ words_of shapes
words_at b [] s lt is = absurd (omega (arith, lt))
words_at zero (t ∷ shapes) s lt is = let count = ap item_count is in omega (arith, count)
words_at (suc b) (t ∷ shapes) s lt is = omega (arith, words_at b shapes s (omega (arith, lt)) is)
