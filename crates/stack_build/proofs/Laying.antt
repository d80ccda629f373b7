-- Words of a stack, which are listed from its bottom and lie in memory from its top.
use Rattle.std.proofs.Common.{◌≡◌, ◌+◌, ℕ, List, [], ◌∷◌, ◌++◌, length, map, refl, sym, subst, arith}
use mathlib.Core.List.{reverse_aux}
use Rattle.fm_code.specs.Execution.{Holds}

pub reversed_append : {A : Type 0} (xs ys zs : List A) → reverse_aux (xs ++ ys) zs ≡ reverse_aux ys (reverse_aux xs zs)
reversed_append [] ys zs = refl
reversed_append (x ∷ xs) ys zs = reversed_append xs ys (x ∷ zs)

pub reversed_front : {A : Type 0} (xs ys zs : List A) → reverse_aux xs (ys ++ zs) ≡ reverse_aux xs ys ++ zs
reversed_front [] ys zs = refl
reversed_front (x ∷ xs) ys zs = reversed_front xs (x ∷ ys) zs

pub map-reversed : {A B : Type 0} (f : A → B) (xs ys : List A) → map f (reverse_aux xs ys) ≡ reverse_aux (map f xs) (map f ys)
map-reversed f [] ys = refl
map-reversed f (x ∷ xs) ys = map-reversed f xs (x ∷ ys)

-- behind words that are reversed in front of others stand those
pub Holds-reversed : (b : ℕ) (m : List ℕ) (p q : ℕ) (xs ys : List ℕ) → q ≡ p + length xs → Holds b m p (reverse_aux xs ys) → Holds b m q ys
Holds-reversed b m p q [] ys e h =
    let same : p ≡ q = omega arith in
    subst (λ a. Holds b m a ys) same h
Holds-reversed b m p q (x ∷ xs) ys e h =
    let one : q ≡ p + length xs + 1 = omega arith in
    let before : Holds b m (p + length xs) (x ∷ ys) = Holds-reversed b m p (p + length xs) xs (x ∷ ys) refl h in
    subst (λ a. Holds b m a ys) (sym one) before.1
