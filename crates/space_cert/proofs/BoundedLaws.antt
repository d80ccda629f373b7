-- Bounds that aren't large.
use Rattle.std.{proofs.Common.{◌≡◌, ℕ, suc, ◌≤◌, ◌^◌, [], ◌∷◌, true, Option, Some, None, refl}, proofs.lemmas.Bool.{le-leb, and_from}, specs.Option.option_map}
use Rattle.gypsy_space.specs.Needs.{StackSizes}
use Rattle.space_cert.{specs.Bounded.{is_bound, are_bounds}, specs.Covers.{Bounds, as_words}, specs.Order.AreBounds}

-- all of them
pub all_bounds : (bs : Bounds) → AreBounds bs → are_bounds bs ≡ true
all_bounds [] h = refl
all_bounds (o ∷ bs) h = and_from (is_bound o) (are_bounds bs) (first o (λ b e. h 0 b e)) (all_bounds bs (λ p b e. h (suc p) b e))
  where
    first : (o : Option (ℕ × ℕ)) → ((b : StackSizes) → option_map as_words o ≡ Some b → (b.temp ≤ 2 ^ 40) × (b.ctrl ≤ 2 ^ 40)) → is_bound o ≡ true
    first None f = refl
    first (Some b) f = and_from _ _ (le-leb b.0 (2 ^ 40) (f (as_words b) refl).0) (le-leb b.1 (2 ^ 40) (f (as_words b) refl).1)
