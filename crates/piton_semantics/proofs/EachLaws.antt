-- What holds of each element of a list.
use Rattle.std.{proofs.Common.{◌≡◌, ℕ, zero, suc, Some, List, [], ◌∷◌, ◌++◌, reverse, take, drop, subst}, specs.Prelude.{slice_get, slice_set, get_or}}
use Rattle.std.{proofs.lemmas.Option.same_Some, proofs.lemmas.List.reverse-append}
use Rattle.piton_semantics.specs.Fits.{Each}

module _ {A : Type 0} (P : A → Type 0) where
  pub each_get : (xs : List A) (k : ℕ) (x : A) → Each P xs → slice_get xs k ≡ Some x → P x
  each_get [] k x all h = cc
  each_get (y ∷ ys) zero x all h = subst P (same_Some y x h) all.0
  each_get (y ∷ ys) (suc k) x all h = each_get ys k x all.1 h

  pub each_set : (xs : List A) (k : ℕ) (x : A) → Each P xs → P x → Each P (slice_set xs k x)
  each_set [] k x all h = tt
  each_set (y ∷ ys) zero x all h = (h, all.1)
  each_set (y ∷ ys) (suc k) x all h = (all.0, each_set ys k x all.1 h)

  pub each_take : (n : ℕ) (xs : List A) → Each P xs → Each P (take n xs)
  each_take zero xs all = tt
  each_take (suc n) [] all = tt
  each_take (suc n) (x ∷ xs) all = (all.0, each_take n xs all.1)

  pub each_drop : (n : ℕ) (xs : List A) → Each P xs → Each P (drop n xs)
  each_drop zero xs all = all
  each_drop (suc n) [] all = tt
  each_drop (suc n) (x ∷ xs) all = each_drop n xs all.1

  pub each_append : (xs ys : List A) → Each P xs → Each P ys → Each P (xs ++ ys)
  each_append [] ys all rest = rest
  each_append (x ∷ xs) ys all rest = (all.0, each_append xs ys all.1 rest)

  pub each_reverse : (xs : List A) → Each P xs → Each P (reverse xs)
  each_reverse [] all = tt
  each_reverse (x ∷ xs) all = rw (reverse-append (x ∷ []) xs) (each_append (reverse xs) (x ∷ []) (each_reverse xs all.1) (all.0, tt))

  pub each_at : (xss : List (List A)) (k : ℕ) → Each (Each P) xss → Each P (get_or xss k [])
  each_at [] k all = tt
  each_at (xs ∷ xss) zero all = all.0
  each_at (xs ∷ xss) (suc k) all = each_at xss k all.1
