-- Names that stand earlier, one name after the other.
use Rattle.std.proofs.Common.{◌≡◌, ℕ, ◌+◌, ◌<◌, length, List, [], ◌∷◌, ◌++◌, map, get_or, take, Option, Bool, true, false, cond, ◌||◌, bytes_eq, refl, ap, sym}
use Rattle.std.{proofs.Common.{◌∙◌, append_assoc}, specs.List.list_any, proofs.lemmas.List.{append-nil, map_push, take_more}}
use Rattle.std.proofs.lemmas.Slice.Eq.{bytes_eq-Decides}
use Rattle.stack_text.{specs.Names.is_among, specs.declared.breach.Breach.Breach, specs.declared.name.Named.Named, specs.Breaches.{when, lesser_of, least}}
use Rattle.stack_text.{specs.Breaches.Notes, proofs.BreachLaws.notes_more, proofs.SharedLaws.{any_push, or_false}}
use Rattle.name_tables.specs.Lists.{with_name}
use Rattle.gypsy_check.{specs.Declarations.repeats, specs.Tables.{is_named, KnowsNames}}

or_swap : (a b : Bool) → (a || b) ≡ (b || a)
or_swap true true = refl
or_swap true false = refl
or_swap false true = refl
or_swap false false = refl

-- ---- one more name

any_more : {X : Type 0} (test : X → Bool) (xs : List X) (x : X) → list_any test (xs ++ x ∷ []) ≡ (test x || list_any test xs)
any_more test xs x = any_push test xs x ∙ or_swap (list_any test xs) (test x)

is_named-push : (name : List ℕ) (ns : List Named) (n : Named) → is_named name (ns ++ n ∷ []) ≡ (bytes_eq name n.name || is_named name ns)
is_named-push name = any_more (λ n. bytes_eq name n.name)

repeats-push : (rule : ℕ) (earlier : List (List ℕ)) (ns : List Named) (n : Named) →
    repeats rule earlier (ns ++ n ∷ []) ≡ repeats rule earlier ns ++ when (is_named n.name ns || is_among n.name earlier) n.place rule
repeats-push rule earlier [] n = append-nil _
repeats-push rule earlier (m ∷ ns) n =
    ap (λ (bs : List Breach). when (is_among m.name earlier) m.place rule ++ bs) (repeats-push rule (m.name ∷ earlier) ns n)
    ∙ sym (append_assoc (when (is_among m.name earlier) m.place rule) (repeats rule (m.name ∷ earlier) ns)
    (when (is_named n.name ns || (bytes_eq n.name m.name || is_among n.name earlier)) n.place rule))
    ∙ ap (λ (b : Bool). (when (is_among m.name earlier) m.place rule ++ repeats rule (m.name ∷ earlier) ns) ++ when b n.place rule)
    (first (is_named n.name ns) (bytes_eq n.name m.name) (is_among n.name earlier))
  where
    first : (a b c : Bool) → (a || (b || c)) ≡ ((b || a) || c)
    first true true c = refl
    first true false c = refl
    first false true c = refl
    first false false c = refl

-- ---- a list, one item after the other

pub items_more : {X Y : Type 0} (key : X → Y) (front : List Y) (xs : List X) (i : ℕ) (x : X) → i < length xs → x ≡ get_or xs i x →
    front ++ map key (take (i + 1) xs) ≡ (front ++ map key (take i xs)) ++ key x ∷ []
items_more {X} {Y} key front xs i x lt is =
    let more = ap (map key) (take_more xs i x lt ∙ ap (λ (y : X). take i xs ++ y ∷ []) (sym is)) ∙ map_push key (take i xs) x in
    ap (λ (ns : List Y). front ++ ns) more ∙ sym (append_assoc front (map key (take i xs)) (key x ∷ []))

pub list_more : {X : Type 0} (front xs : List X) (i : ℕ) (x : X) → i < length xs → x ≡ get_or xs i x → front ++ take (i + 1) xs ≡ (front ++ take i xs) ++ x ∷ []
list_more {X} front xs i x lt is =
    ap (λ (ys : List X). front ++ ys) (take_more xs i x lt ∙ ap (λ (y : X). take i xs ++ y ∷ []) (sym is)) ∙ sym (append_assoc front (take i xs) (x ∷ []))

-- the list has those so far, and one more
pub known_more : (before after : List Named) (n : Named) (old new : List (List ℕ)) → after ≡ before ++ n ∷ [] → KnowsNames old before
    → ((name : List ℕ) → is_among name new ≡ (bytes_eq name n.name || is_among name old)) → KnowsNames new after
known_more before after n old new more so_far entered name =
    entered name ∙ ap (λ (b : Bool). bytes_eq name n.name || b) (so_far name) ∙ sym (is_named-push name before n) ∙ ap (is_named name) (sym more)

-- the repetitions so far, and one more
pub noted_more : (rule : ℕ) (before after : List Named) (n : Named) (a b c : Option Breach) (old : List ℕ → Bool) → after ≡ before ++ n ∷ [] →
    ((name : List ℕ) → old name ≡ is_named name before) → Notes a (repeats rule [] before) b → Notes b (when (old n.name) n.place rule) c
    → Notes a (repeats rule [] after) c
noted_more rule before after n a b c old more so_far h k =
    let known : old n.name ≡ (is_named n.name before || false) = so_far n.name ∙ sym (or_false (is_named n.name before)) in
    notes_more a b c (repeats rule [] before) (when (old n.name) n.place rule) h k
    ∙ ap (λ (q : Bool). lesser_of a (least (repeats rule [] before ++ when q n.place rule))) known
    ∙ ap (λ (bs : List Breach). lesser_of a (least bs)) (sym (repeats-push rule [] before n))
    ∙ ap (λ (ms : List Named). lesser_of a (least (repeats rule [] ms))) (sym more)

-- ---- a list of names

-- a name that is listed makes no difference
listed : (name other : List ℕ) (names : List (List ℕ)) → is_among other names ≡ true → is_among name names ≡ (bytes_eq name other || is_among name names)
listed name other names h = by_test (bytes_eq name other) refl
  where
    by_test : (b : Bool) → bytes_eq name other ≡ b → is_among name names ≡ (b || is_among name names)
    by_test false e = refl
    by_test true e = ap (λ (n : List ℕ). is_among n names) ((bytes_eq-Decides name other).0 e) ∙ h

-- the names of a list in which one was entered
pub listed_with : (names : List (List ℕ)) (new name : List ℕ) → is_among name (with_name names new) ≡ (bytes_eq name new || is_among name names)
listed_with names new name = by_test (is_among new names) refl
  where
    by_test : (b : Bool) → is_among new names ≡ b → is_among name (cond b names (names ++ new ∷ [])) ≡ (bytes_eq name new || is_among name names)
    by_test true e = listed name new names e
    by_test false e = any_more (bytes_eq name) names new
