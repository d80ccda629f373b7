-- Words of areas, of frames and of stacks at their places in longer lists.
use Rattle.std.proofs.Common.{◌≡◌, ℕ, zero, suc, ◌+◌, ◌<◌, Some, List, [], ◌∷◌, ◌++◌, length, refl, sym, ap, ◌∙◌, subst, arith, length-append}
use Rattle.std.{specs.Prelude.{map, reverse, slice_get, slice_set}, proofs.lemmas.Grind.reverse_onto, proofs.lemmas.List.map-append}
use Rattle.fm_code.specs.Areas.{joined, words_before}

-- the words of a list that is followed by another, and of one that follows another
pub get_front : {A : Type 0} (xs ys : List A) (k : ℕ) (x : A) → slice_get xs k ≡ Some x → slice_get (xs ++ ys) k ≡ Some x
get_front [] ys k w h = cc
get_front (x ∷ xs) ys zero w h = h
get_front (x ∷ xs) ys (suc k) w h = get_front xs ys k w h

pub set_front : {A : Type 0} (xs ys : List A) (k : ℕ) (x : A) → k < length xs → slice_set (xs ++ ys) k x ≡ slice_set xs k x ++ ys
set_front [] ys k v h = absurd (omega arith)
set_front (x ∷ xs) ys zero v h = refl
set_front (x ∷ xs) ys (suc k) v h = ap (λ zs. x ∷ zs) (set_front xs ys k v (omega arith))

pub get_after : {A : Type 0} (xs ys : List A) (k : ℕ) → slice_get (xs ++ ys) (length xs + k) ≡ slice_get ys k
get_after [] ys k =
    let e : length {A = ℕ} [] + k ≡ k = omega arith in ap (slice_get ys) e
get_after (x ∷ xs) ys k =
    let e : length (x ∷ xs) + k ≡ suc (length xs + k) = omega arith in
    ap (slice_get (x ∷ xs ++ ys)) e ∙ get_after xs ys k

pub set_after : {A : Type 0} (xs ys : List A) (k : ℕ) (v : A) → slice_set (xs ++ ys) (length xs + k) v ≡ xs ++ slice_set ys k v
set_after [] ys k v =
    let e : length {A = ℕ} [] + k ≡ k = omega arith in ap (λ n. slice_set ys n v) e
set_after (x ∷ xs) ys k v =
    let e : length (x ∷ xs) + k ≡ suc (length xs + k) = omega arith in
    ap (λ n. slice_set (x ∷ xs ++ ys) n v) e ∙ ap (λ zs. x ∷ zs) (set_after xs ys k v)

-- the same in a list of what a function gives
pub get_map : {A B : Type 0} (f : A → B) (xs : List A) (k : ℕ) (x : A) → slice_get xs k ≡ Some x → slice_get (map f xs) k ≡ Some (f x)
get_map f [] k x h = cc
get_map f (y ∷ xs) zero x h = let e : y ≡ x = cc in ap (λ z. Some (f z)) e
get_map f (y ∷ xs) (suc k) x h = get_map f xs k x h

pub set_map : {A B : Type 0} (f : A → B) (xs : List A) (k : ℕ) (x : A) → slice_set (map f xs) k (f x) ≡ map f (slice_set xs k x)
set_map f [] k x = refl
set_map f (y ∷ xs) zero x = refl
set_map f (y ∷ xs) (suc k) x = ap (λ zs. f y ∷ zs) (set_map f xs k x)

pub reverse_map : {A B : Type 0} (f : A → B) (xs : List A) → reverse (map f xs) ≡ map f (reverse xs)
reverse_map f [] = refl
reverse_map f (x ∷ xs) =
    reverse_onto (map f xs) (f x) [] ∙ ap (λ ys. ys ++ f x ∷ []) (reverse_map f xs) ∙ sym (map-append f (reverse xs) (x ∷ []))
    ∙ ap (map f) (sym (reverse_onto xs x []))

-- a word of an area is a word of all areas
pub joined_get : (xss : List (List ℕ)) (a o w : ℕ) (xs : List ℕ) → slice_get xss a ≡ Some xs → slice_get xs o ≡ Some w
    → slice_get (joined xss) (words_before xss a + o) ≡ Some w
joined_get [] a o w xs h g = cc
joined_get (ys ∷ xss) zero o w xs h g =
    let e : ys ≡ xs = cc in
    let n : 0 + o ≡ o = omega arith in
    ap (slice_get (ys ++ joined xss)) n ∙ get_front ys (joined xss) o w (subst (λ zs. slice_get zs o ≡ Some w) (sym e) g)
joined_get (ys ∷ xss) (suc a) o w xs h g =
    let n : length ys + words_before xss a + o ≡ length ys + (words_before xss a + o) = omega arith in
    ap (slice_get (ys ++ joined xss)) n ∙ get_after ys (joined xss) (words_before xss a + o) ∙ joined_get xss a o w xs h g

-- a word of an area set
pub joined_set : (xss : List (List ℕ)) (a o v : ℕ) (xs : List ℕ) → slice_get xss a ≡ Some xs → o < length xs
    → slice_set (joined xss) (words_before xss a + o) v ≡ joined (slice_set xss a (slice_set xs o v))
joined_set [] a o v xs h q = cc
joined_set (ys ∷ xss) zero o v xs h q =
    let e : ys ≡ xs = cc in
    let n : 0 + o ≡ o = omega arith in
    ap (λ k. slice_set (ys ++ joined xss) k v) n ∙ set_front ys (joined xss) o v (omega (arith, ap length e)) ∙ ap (λ zs. slice_set zs o v ++ joined xss) e
joined_set (ys ∷ xss) (suc a) o v xs h q =
    let n : length ys + words_before xss a + o ≡ length ys + (words_before xss a + o) = omega arith in
    ap (λ k. slice_set (ys ++ joined xss) k v) n ∙ set_after ys (joined xss) (words_before xss a + o) v ∙ ap (λ zs. ys ++ zs) (joined_set xss a o v xs h q)

-- and such a place is within the words of all areas
pub joined_below : (xss : List (List ℕ)) (a o : ℕ) (xs : List ℕ) → slice_get xss a ≡ Some xs → o < length xs → words_before xss a + o < length (joined xss)
joined_below [] a o xs h q = cc
joined_below (ys ∷ xss) zero o xs h q =
    let e : ys ≡ xs = cc in
    let n = length-append ys (joined xss) in
    omega (arith, ap length e)
joined_below (ys ∷ xss) (suc a) o xs h q =
    let n = length-append ys (joined xss) in
    let g = joined_below xss a o xs h q in
    omega arith
