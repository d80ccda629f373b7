-- A list of names: what is found, and what is entered.
use Rattle.std.proofs.Common.{◌≡◌, ℕ, zero, suc, ◌+◌, ◌<◌, ◌≤◌, List, [], ◌∷◌, ◌++◌, map, length, get_or, take, Bool, true, false, cond, is_some, bytes_eq}
use Rattle.std.{proofs.Common.{refl, sym, ap, ◌∙◌, arith}, specs.List.{position, IsDistinct}, specs.Map.keys_of, proofs.lemmas.List.{map_push, length-append}}
use Rattle.std.{proofs.lemmas.List.{length-map, take_more, take-map}, proofs.lemmas.Map.Made.is_some-lookup}
use Rattle.stack_text.{specs.Names.{is_among, place_among}, proofs.SharedLaws.{no_earlier, place_among-map}}
use Rattle.name_tables.{specs.Entries.{Entries, look_up, entries_now, with_entry}, specs.Lists.with_name, specs.declared.name_key.NameKey.NameKey}

-- a name is listed exactly if it has an entry
pub listed : {V : Type 0} (entries : Entries V) (name : List ℕ) → is_some (look_up entries name) ≡ is_among name (keys_of entries)
listed entries name = is_some-lookup (bytes_eq name) entries

-- the names of borrowed keys
keys_now : {V : Type 0} (es : List (NameKey × V)) → map (λ key. key.bytes.now) (keys_of es) ≡ keys_of (entries_now es)
keys_now [] = refl
keys_now (e ∷ es) = ap (λ (names : List (List ℕ)). e.0.bytes.now ∷ names) (keys_now es)

-- there is a name for each borrowed key
pub names_length : {V : Type 0} (es : List (NameKey × V)) → length (keys_of (entries_now es)) ≡ length es
names_length [] = refl
names_length (e ∷ es) = omega (arith, names_length es)

-- a name is found at its place
pub place_now : {V : Type 0} (name : List ℕ) (es : List (NameKey × V))
    → position (λ key. bytes_eq name key.bytes.now) (keys_of es) ≡ place_among name (keys_of (entries_now es))
place_now name es = place_among-map name (λ (key : NameKey). key.bytes.now) (keys_of es) ∙ ap (place_among name) (keys_now es)

-- the names after one was entered
pub with_now : {V : Type 0} (old new : Entries V) (name : List ℕ) (v : V) → new ≡ with_entry old name v → keys_of new ≡ with_name (keys_of old) name
with_now {V} old new name v is =
    ap (λ (entries : Entries V). keys_of entries) is ∙ by_test (is_some (look_up old name))
    ∙ ap (λ (b : Bool). cond b (keys_of old) (keys_of old ++ name ∷ [])) (listed old name)
  where
    by_test : (b : Bool) → keys_of (cond b old (old ++ (name, v) ∷ [])) ≡ cond b (keys_of old) (keys_of old ++ name ∷ [])
    by_test true = refl
    by_test false = map_push (λ (e : List ℕ × V). e.0) old (name, v)

-- ---- the names of items that differ

-- the name of an item is the one in its place among the names
own_name : {X : Type 0} (name_of : X → List ℕ) (xs : List X) (i : ℕ) (x : X) → i < length xs → x ≡ get_or xs i x
    → name_of x ≡ get_or (map name_of xs) i (name_of x)
own_name name_of [] i x lt is = absurd (omega (arith, lt))
own_name name_of (y ∷ xs) zero x lt is = ap name_of is
own_name name_of (y ∷ xs) (suc i) x lt is = own_name name_of xs i x (omega (arith, lt)) is

-- one item more
pub names_next : {X : Type 0} (name_of : X → List ℕ) (xs : List X) (i : ℕ) (x : X) (name : List ℕ) (names new : List (List ℕ)) → i < length xs
    → x ≡ get_or xs i x → name ≡ name_of x → IsDistinct bytes_eq (map name_of xs) → new ≡ with_name names name
    → names ≡ map name_of (take i xs) → new ≡ map name_of (take (i + 1) xs)
names_next {X} name_of xs i x name names new lt is same own entered so_far =
    let below : i < length (map name_of xs) = omega (arith, lt, length-map xs name_of) in
    let absent : is_among (name_of x) (map name_of (take i xs)) ≡ false =
    ap (is_among (name_of x)) (sym (take-map name_of i xs)) ∙ no_earlier (map name_of xs) i (name_of x) below (own_name name_of xs i x lt is) own in
    entered ∙ ap (λ (ns : List (List ℕ)). with_name ns name) so_far
    ∙ ap (with_name (map name_of (take i xs))) same
    ∙ ap (λ (b : Bool). cond b (map name_of (take i xs)) (map name_of (take i xs) ++ name_of x ∷ [])) absent
    ∙ sym (map_push name_of (take i xs) x)
    ∙ ap (map name_of) (sym (take_more xs i x lt ∙ ap (λ (y : X). take i xs ++ y ∷ []) (sym is)))
