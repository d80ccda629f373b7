-- The least of breaches, part by part.
use Rattle.std.proofs.Common.{◌≡◌, ℕ, ◌+◌, ◌<◌, List, [], ◌∷◌, ◌++◌, length, get_or, take, Option, Some, None, refl, sym, ap, ◌∙◌, append_assoc, arith}
use Rattle.std.{specs.List.flat_map, proofs.lemmas.Bool.Decides.nat_tests, proofs.lemmas.List.{append-nil, take_more}}
use Rattle.stack_text.{specs.declared.breach.Breach.Breach, specs.Breaches.{lesser, lesser_of, least, Notes}}

lesser-assoc : (b c d : Breach) → lesser (lesser b c) d ≡ lesser b (lesser c d)
lesser-assoc b c d = grind (arith, nat_tests)

lesser_of-assoc : (x y z : Option Breach) → lesser_of (lesser_of x y) z ≡ lesser_of x (lesser_of y z)
lesser_of-assoc None y z = refl
lesser_of-assoc (Some b) None z = refl
lesser_of-assoc (Some b) (Some c) None = refl
lesser_of-assoc (Some b) (Some c) (Some d) = ap (λ (x : Breach). Some x) (lesser-assoc b c d)

pub least-append : (bs cs : List Breach) → least (bs ++ cs) ≡ lesser_of (least bs) (least cs)
least-append [] cs = refl
least-append (b ∷ bs) cs = ap (lesser_of (Some b)) (least-append bs cs) ∙ sym (lesser_of-assoc (Some b) (least bs) (least cs))

-- what was noted, and then more
pub notes_more : (x y z : Option Breach) (bs cs : List Breach) → Notes x bs y → Notes y cs z → Notes x (bs ++ cs) z
notes_more x y z bs cs h k =
    k ∙ ap (λ (w : Option Breach). lesser_of w (least cs)) h ∙ lesser_of-assoc x (least bs) (least cs) ∙ ap (lesser_of x) (sym (least-append bs cs))

-- nothing noted
pub notes_none : (x : Option Breach) → Notes x [] x
notes_none None = refl
notes_none (Some b) = refl

flat_map-push : {X : Type 0} (f : X → List Breach) (xs : List X) (x : X) → flat_map f (xs ++ x ∷ []) ≡ flat_map f xs ++ f x
flat_map-push f [] x = append-nil (f x)
flat_map-push f (y ∷ xs) x = ap (λ (bs : List Breach). f y ++ bs) (flat_map-push f xs x) ∙ sym (append_assoc (f y) (flat_map f xs) (f x))

-- the breaches of the items so far, and of one more
pub notes_next : {X : Type 0} (f : X → List Breach) (xs : List X) (i : ℕ) (item : X) (x y z : Option Breach) → i < length xs → item ≡ get_or xs i item →
    Notes x (flat_map f (take i xs)) y → Notes y (f item) z → Notes x (flat_map f (take (i + 1) xs)) z
notes_next {X} f xs i item x y z lt is h k =
    notes_more x y z (flat_map f (take i xs)) (f item) h k
    ∙ ap (λ (bs : List Breach). lesser_of x (least bs))
    (sym (ap (flat_map f) (take_more xs i item lt ∙ ap (λ (u : X). take i xs ++ u ∷ []) (sym is)) ∙ flat_map-push f (take i xs) item))

-- where there is no least breach, there is none
pub none_least : (bs : List Breach) → least bs ≡ None → bs ≡ []
none_least [] h = refl
none_least (b ∷ bs) h = by_least (least bs) h
  where
    by_least : (found : Option Breach) → lesser_of (Some b) found ≡ None → b ∷ bs ≡ []
    by_least None k = absurd cc
    by_least (Some c) k = absurd cc
