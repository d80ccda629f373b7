-- A number of one bit.
use Rattle.std.{proofs.Common.{◌≡◌, ℕ, suc, Bool, true, false, ◌||◌, eqb, refl, sym, true≢false, arith}, proofs.lemmas.Bool.eqb-true, specs.Prelude.pos}
use Rattle.stack_text.specs.declared.shape.Kind.TheVariants.{Boolean}
use Rattle.gypsy_syntax.specs.Ranges.{is_in_range}

-- is less than 2
pub no_bit : (n : ℕ) → is_in_range Boolean (pos (suc (suc n))) ≡ true → ⊥
no_bit n h = by_tests (eqb (suc (suc n)) 0) (eqb (suc (suc n)) 1) refl refl h
  where
    by_tests : (a b : Bool) → eqb (suc (suc n)) 0 ≡ a → eqb (suc (suc n)) 1 ≡ b → (a || b) ≡ true → ⊥
    by_tests true b e f h = let k = eqb-true (suc (suc n)) 0 e in omega arith
    by_tests false true e f h = let k = eqb-true (suc (suc n)) 1 f in omega arith
    by_tests false false e f h = true≢false (sym h)
