-- Needs that are pushed one after another.
use Rattle.std.proofs.Common.{◌≡◌, ℕ, zero, suc, ◌+◌, ◌<◌, List, [], ◌∷◌, ◌++◌, length, length-append, refl, sym, ◌∙◌, ap, arith, ⊎_elim}
use Rattle.std.proofs.lemmas.Bool.{cases_lt}
use Rattle.gypsy_syntax.specs.Programs.{Program}
use Rattle.gypsy_space.{specs.Events.{need_at, need_of, IsSmall}, specs.StatementNeeds.{AreFirst, capped_need}, specs.declared.need.Need.Need}

before : (ns : List Need) (n : Need) (p : ℕ) → p < length ns → need_at (ns ++ n ∷ []) p ≡ need_at ns p
before [] n p lt = absurd (omega (arith, lt))
before (m ∷ ns) n zero lt = refl
before (m ∷ ns) n (suc p) lt = before ns n p (omega (arith, lt))

at_end : (ns : List Need) (n : Need) (p : ℕ) → p ≡ length ns → need_at (ns ++ n ∷ []) p ≡ n
at_end [] n zero e = refl
at_end [] n (suc p) e = absurd (omega (arith, e))
at_end (m ∷ ns) n zero e = absurd (omega (arith, e))
at_end (m ∷ ns) n (suc p) e = at_end ns n p (omega (arith, e))

small_all : (ns : List Need) (n : Need) → ((p : ℕ) → IsSmall (need_at ns p)) → IsSmall n → (p : ℕ) → IsSmall (need_at (ns ++ n ∷ []) p)
small_all [] n h s zero = s
small_all [] n h s (suc p) = h 0
small_all (m ∷ ns) n h s zero = h 0
small_all (m ∷ ns) n h s (suc p) = small_all ns n (λ i. h (suc i)) s p

pub first_none : (q : Program) → AreFirst q 0 []
first_none q = record {
  number = refl;
  each = λ p lt. absurd (omega (arith, lt));
  small = λ p. record { temp = omega arith; ctrl = omega arith; locals_words = omega arith; vars = omega arith; code_words = omega arith };
}

pub first_pushed : (q : Program) (k : ℕ) (ns : List Need) (n : Need) → AreFirst q k ns → n ≡ capped_need (need_of q k) → IsSmall n
    → AreFirst q (k + 1) (ns ++ n ∷ [])
first_pushed q k ns n f e s = record {
  number = length-append ns (n ∷ []) ∙ ap (λ i. i + 1) f.number;
  each = λ p lt.
      ⊎_elim
      (λ less. before ns n p (omega (arith, less, f.number)) ∙ f.each p less)
      (λ more. let here : p ≡ k = omega (arith, lt, more) in at_end ns n p (omega (arith, here, f.number)) ∙ e
      ∙ ap (λ (i : ℕ). capped_need (need_of q i)) (sym here))
      (cases_lt p k);
  small = small_all ns n f.small s;
}
