-- What an empty list of violations says of its parts.
use Rattle.std.proofs.Common.{◌≡◌, ℕ, zero, suc, List, [], ◌∷◌, ◌++◌, map, get_or, slice_get, Bool, true, false, if◌then◌else◌, Some, flat_map, refl, ap, sym}
use Rattle.std.proofs.Common.{◌∙◌}
use Rattle.gypsy_syntax.specs.ProgramFits.{Each}
use Rattle.stack_text.{specs.declared.breach.Breach.Breach, proofs.SharedLaws.append_none}

pub three : {X : Type 0} (a b c : List X) → a ++ b ++ c ≡ [] → (a ≡ []) × (b ≡ []) × (c ≡ [])
three a b c e = let h = append_none (a ++ b) c e in let k = append_none a b h.0 in (k.0, k.1, h.1)

pub four : {X : Type 0} (a b c d : List X) → a ++ b ++ c ++ d ≡ [] → (a ≡ []) × (b ≡ []) × (c ≡ []) × (d ≡ [])
four a b c d e = let h = append_none (a ++ b ++ c) d e in let k = three a b c h.0 in (k.0, k.1, k.2, h.1)

-- the choice that breaks no rule
pub chosen : (b : Bool) (a : List Breach) (v : Breach) → (if b then a else v ∷ []) ≡ [] → (b ≡ true) × (a ≡ [])
chosen true a v e = (refl, e)
chosen false a v e = cc

pub unless : (b : Bool) (a : List Breach) → (if b then [] else a) ≡ [] → b ≡ false → a ≡ []
unless true a e f = cc
unless false a e f = e

pub each_of : {X : Type 0} (f : X → List Breach) (P : X → Type 0) (xs : List X) → ((x : X) → f x ≡ [] → P x) → flat_map f xs ≡ [] → Each P xs
each_of f P [] h e = tt
each_of f P (x ∷ xs) h e = let k = append_none (f x) (flat_map f xs) e in (h x k.0, each_of f P xs h k.1)

pub each_map : {X Y : Type 0} (g : X → Y) (P : Y → Type 0) (Q : X → Type 0) (xs : List X) → ((x : X) → Q x → P (g x)) → Each Q xs → Each P (map g xs)
each_map g P Q [] h e = tt
each_map g P Q (x ∷ xs) h e = (h x e.0, each_map g P Q xs h e.1)

-- at a place of the list
pub at_place : {X : Type 0} (f : X → List Breach) (xs : List X) (i : ℕ) (x : X) → flat_map f xs ≡ [] → slice_get xs i ≡ Some x → f x ≡ []
at_place f [] i x e h = cc
at_place f (y ∷ xs) zero x e h =
    let same : y ≡ x = cc in
    ap f (sym same) ∙ (append_none (f y) (flat_map f xs) e).0
at_place f (y ∷ xs) (suc i) x e h = at_place f xs i x (append_none (f y) (flat_map f xs) e).1 h

pub get_or_map : {X Y : Type 0} (g : X → Y) (xs : List X) (i : ℕ) (x : X) (d : Y) → slice_get xs i ≡ Some x → get_or (map g xs) i d ≡ g x
get_or_map g [] i x d h = cc
get_or_map g (y ∷ xs) zero x d h = let same : y ≡ x = cc in ap g same
get_or_map g (y ∷ xs) (suc i) x d h = get_or_map g xs i x d h

-- each of a list, and what stands past its end
pub each_place : {X Y : Type 0} (f : X → List Breach) (g : X → Y) (P : Y → Type 0) (d : Y) (xs : List X) (i : ℕ) → ((x : X) → f x ≡ [] → P (g x)) → P d
    → flat_map f xs ≡ [] → P (get_or (map g xs) i d)
each_place f g P d [] i h past e = past
each_place f g P d (x ∷ xs) zero h past e = h x (append_none (f x) (flat_map f xs) e).0
each_place f g P d (x ∷ xs) (suc i) h past e = each_place f g P d xs i h past (append_none (f x) (flat_map f xs) e).1
