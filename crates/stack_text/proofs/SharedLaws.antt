-- Lemmas on truth values, options, lists, names and kinds that several crates need.
use Rattle.std.proofs.Common.{◌≡◌, Bool, true, false, refl, ◌&&◌, not, ℕ, [], Option, Some, None, is_none, List, ◌∷◌, ◌++◌, ◌+◌, ap, ◌∙◌, zero, suc, ◌<◌}
use Rattle.std.proofs.Common.{length, arith, slice_get, map, get_or, take, reverse, ℤ, pos, append_assoc, sym, ap₂, ◌||◌, ◌≤◌, find, cond, option_map}
use Rattle.std.{specs.Prelude.{nat_le, nat_lt}, proofs.lemmas.List.{reverse-append, map-append, length-map}, specs.Str.bytes_eq}
use Rattle.std.{proofs.lemmas.Slice.Eq.bytes_eq-Decides, specs.List.{list_any, list_all, position, position_or_len, IsDistinct}}
use Rattle.std.{proofs.lemmas.Map.Keys.{IsDistinct-tail, apart_from_distinct}, proofs.lemmas.Bool.{and_parts, leb-true}}
use Rattle.stack_text.{specs.Breaches.when, specs.Names.{is_name, begins_with_letter, is_name_byte, is_truth_word, place_among}, specs.declared.shape.Kind.Kind}
use Rattle.stack_text.{specs.declared.shape.Kind.TheVariants.{Integer, Boolean, Character}, specs.Values.same_kind}

pub and_false : (b : Bool) → (b && false) ≡ false
and_false true = refl
and_false false = refl

pub or_false : (b : Bool) → (b || false) ≡ b
or_false true = refl
or_false false = refl

or_assoc : (a b c : Bool) → (a || (b || c)) ≡ ((a || b) || c)
or_assoc true b c = refl
or_assoc false b c = refl

-- one item more
pub any_push : {X : Type 0} (test : X → Bool) (xs : List X) (x : X) → list_any test (xs ++ x ∷ []) ≡ (list_any test xs || test x)
any_push test [] x = or_false (test x)
any_push test (y ∷ xs) x = ap (λ b. test y || b) (any_push test xs x) ∙ or_assoc (test y) (list_any test xs) (test x)

pub rule_holds : (b : Bool) (place rule : ℕ) → when (not b) place rule ≡ [] → b ≡ true
rule_holds true place rule e = refl
rule_holds false place rule e = cc

pub rule_fails : (b : Bool) (place rule : ℕ) → when b place rule ≡ [] → b ≡ false
rule_fails true place rule e = cc
rule_fails false place rule e = refl

pub some_of : {X : Type 0} (o : Option X) → is_none o ≡ false → (x : X) × (o ≡ Some x)
some_of None e = cc
some_of (Some x) e = (x, refl)

pub append_none : {X : Type 0} (a b : List X) → a ++ b ≡ [] → (a ≡ []) × (b ≡ [])
append_none [] b e = (refl, e)
append_none (x ∷ a) b e = cc

pub both_none : {X : Type 0} (a b : List X) → a ≡ [] → b ≡ [] → a ++ b ≡ []
both_none a b e f = ap (λ z. z ++ b) e ∙ f

pub get_some : {X : Type 0} (xs : List X) (k : ℕ) → k < length xs → (x : X) × (slice_get xs k ≡ Some x)
get_some [] k lt = absurd (omega (arith, lt))
get_some (x ∷ xs) zero lt = (x, refl)
get_some (x ∷ xs) (suc k) lt = get_some xs k (omega (arith, lt))

pub get_front : {A : Type 0} (a b : List A) (i : ℕ) (v : A) → slice_get a i ≡ Some v → slice_get (a ++ b) i ≡ Some v
get_front [] b i v h = cc
get_front (w ∷ a) b zero v h = h
get_front (w ∷ a) b (suc i) v h = get_front a b i v h

pub get_after : {A : Type 0} (a b : List A) (i : ℕ) → slice_get (a ++ b) (length a + i) ≡ slice_get b i
get_after [] b i = let e : 0 + i ≡ i = omega arith in ap (slice_get b) e
get_after (w ∷ a) b i =
    let e : length (w ∷ a) + i ≡ suc (length a + i) = omega arith in
    ap (slice_get (w ∷ (a ++ b))) e ∙ get_after a b i

pub get_map : {X Y : Type 0} (g : X → Y) (xs : List X) (i : ℕ) (x : X) → slice_get xs i ≡ Some x → slice_get (map g xs) i ≡ Some (g x)
get_map g [] i x h = cc
get_map g (y ∷ xs) zero x h = let same : y ≡ x = cc in ap (λ z. Some (g z)) same
get_map g (y ∷ xs) (suc i) x h = get_map g xs i x h

pub reverse_snoc : {A : Type 0} (xs : List A) (x : A) → reverse (xs ++ x ∷ []) ≡ x ∷ reverse xs
reverse_snoc xs x = reverse-append xs (x ∷ [])

pub one_item : (items : List ℤ) → length items ≡ 1 → items ≡ get_or items 0 (pos 0) ∷ []
one_item [] h = absurd (omega (arith, h))
one_item (z ∷ []) h = refl
one_item (z ∷ y ∷ items) h = absurd (omega (arith, h))

pub seen_more : {X Y : Type 0} (see : X → Y) (items new : List X) (x : X) (y : Y) (rest all : List Y) → new ≡ items ++ x ∷ [] → see x ≡ y
    → map see items ++ y ∷ rest ≡ all → map see new ++ rest ≡ all
seen_more {X} {Y} see items new x y rest all pushed is so_far =
    ap (λ (xs : List X). map see xs ++ rest) pushed
    ∙ ap (λ (ys : List Y). ys ++ rest) (map-append see items (x ∷ []))
    ∙ append_assoc (map see items) (see x ∷ []) rest
    ∙ ap (λ (z : Y). map see items ++ z ∷ rest) is
    ∙ so_far

pub bytes_same : (xs ys : List ℕ) → bytes_eq xs ys ≡ true → xs ≡ ys
bytes_same xs ys h = (bytes_eq-Decides xs ys).0 h

pub bytes_apart : (xs ys : List ℕ) → bytes_eq xs ys ≡ false → bytes_eq ys xs ≡ false
bytes_apart xs ys ne = by_test (bytes_eq ys xs) refl
  where
    by_test : (b : Bool) → bytes_eq ys xs ≡ b → b ≡ false
    by_test false e = refl
    by_test true e = absurd (let f = (bytes_eq-Decides xs ys).1 (sym ((bytes_eq-Decides ys xs).0 e)) in cc)

-- the first of what a list becomes is what the first of the list becomes
pub find_map : {X Y Z : Type 0} (g : X → Y) (p : Y → Bool) (last : Y → Z) (xs : List X)
    → option_map last (find p (map g xs)) ≡ option_map (λ x. last (g x)) (find (λ x. p (g x)) xs)
find_map g p last [] = refl
find_map g p last (x ∷ xs) = pick (p (g x)) (find_map g p last xs)
  where
    pick : (b : Bool) → option_map last (find p (map g xs)) ≡ option_map (λ x. last (g x)) (find (λ x. p (g x)) xs)
        → option_map last (cond b (Some (g x)) (find p (map g xs))) ≡ option_map (λ y. last (g y)) (cond b (Some x) (find (λ y. p (g y)) xs))
    pick true e = refl
    pick false e = e

-- a name among names that differ stands for the first time
pub no_earlier : (names : List (List ℕ)) (i : ℕ) (name : List ℕ) → i < length names → name ≡ get_or names i name → IsDistinct bytes_eq names
    → list_any (bytes_eq name) (take i names) ≡ false
no_earlier [] i name lt is own = absurd (omega arith)
no_earlier (x ∷ xs) zero name lt is own = refl
no_earlier (x ∷ xs) (suc i) name lt is own =
    let apart = apart_from_distinct bytes_eq (x ∷ xs) 0 (suc i) name own (omega arith) lt in
    let other : bytes_eq x name ≡ false = ap (bytes_eq x) is ∙ apart in
    rw (bytes_apart x name other) (no_earlier xs i name (omega arith) is (IsDistinct-tail bytes_eq x xs own))

-- the first item of a name stands where the name does
places_map : {X Y : Type 0} (test : Y → Bool) (f : X → Y) (xs : List X) → position_or_len (λ x. test (f x)) xs ≡ position_or_len test (map f xs)
places_map test f [] = refl
places_map test f (x ∷ xs) = ap (λ (n : ℕ). cond (not (test (f x))) (1 + n) 0) (places_map test f xs)

pub place_among-map : {X : Type 0} (name : List ℕ) (name_of : X → List ℕ) (xs : List X)
    → position (λ x. bytes_eq name (name_of x)) xs ≡ place_among name (map name_of xs)
unfolding place_among
place_among-map name name_of xs =
    ap₂ (λ (n l : ℕ). cond (nat_lt n l) (Some n) None) (places_map (bytes_eq name) name_of xs) (sym (length-map xs name_of))

pub name_few : (name : List ℕ) → is_name name ≡ true → length name ≤ 64
name_few name h =
    let a = and_parts (begins_with_letter name && list_all is_name_byte name && nat_le (length name) 64) (not (is_truth_word name)) h in
    let b = and_parts (begins_with_letter name && list_all is_name_byte name) (nat_le (length name) 64) a.0 in
    leb-true (length name) 64 b.1

pub kind_same : (j k : Kind) → same_kind j k ≡ true → j ≡ k
kind_same Integer Integer e = refl
kind_same Integer Boolean e = cc
kind_same Integer Character e = cc
kind_same Boolean Integer e = cc
kind_same Boolean Boolean e = refl
kind_same Boolean Character e = cc
kind_same Character Integer e = cc
kind_same Character Boolean e = cc
kind_same Character Character e = refl
