-- Tables of names, one name after the other.
use Rattle.std.proofs.Common.{◌≡◌, ℕ, suc, ◌+◌, ◌<◌, List, [], ◌∷◌, ◌++◌, map, length, get_or, take, Option, Some, None, Bool, true, false, cond, is_some}
use Rattle.std.{proofs.Common.{position, refl, sym, ap, ◌∙◌, append_assoc, arith}, specs.List.position_from, proofs.lemmas.Iterator.Adapters.position_from-zero}
use Rattle.std.proofs.lemmas.List.{append-nil, map_push, take_more, length-append, length-map, length-take-le}
use Rattle.stack_text.{specs.declared.breach.Breach.Breach, specs.Breaches.{when, lesser_of, least, Notes}, specs.Options.first_or}
use Rattle.stack_text.proofs.BreachLaws.{notes_more}
use Rattle.piton_check.{specs.Declarations.{Declaration, is_named, first_of, repeat_of, repeats}, specs.Tables.repeated}

-- ---- the position of one more

position_from-push : {X : Type 0} (test : X → Bool) (n : ℕ) (xs : List X) (x : X)
    → position_from test n (xs ++ x ∷ []) ≡ first_or (position_from test n xs) (test x) (n + length xs)
position_from-push test n [] x = by_test (test x)
  where
    by_test : (b : Bool) → cond b (Some n) None ≡ first_or None b (n + 0)
    by_test true = ap Some (omega arith)
    by_test false = refl
position_from-push {X} test n (y ∷ xs) x = by_test (test y) (position_from-push test (n + 1) xs x)
  where
    by_test : (b : Bool) → position_from test (n + 1) (xs ++ x ∷ []) ≡ first_or (position_from test (n + 1) xs) (test x) (n + 1 + length xs)
        → cond b (Some n) (position_from test (n + 1) (xs ++ x ∷ [])) ≡ first_or (cond b (Some n) (position_from test (n + 1) xs)) (test x)
        (n + suc (length xs))
    by_test true h = refl
    by_test false h =
        let counted : n + 1 + length xs ≡ n + suc (length xs) = omega arith in
        h ∙ ap (first_or (position_from test (n + 1) xs) (test x)) counted

pub position-push : {X : Type 0} (test : X → Bool) (xs : List X) (x : X) → position test (xs ++ x ∷ []) ≡ first_or (position test xs) (test x) (length xs)
position-push test xs x =
    position_from-zero test (xs ++ x ∷ []) ∙ position_from-push test 0 xs x
    ∙ ap (λ (found : Option ℕ). first_or found (test x) (0 + length xs)) (sym (position_from-zero test xs))
    ∙ ap (first_or (position test xs) (test x)) (omega arith)

-- ---- repeated names

repeats-push : (rule : ℕ) (earlier ds : List Declaration) (d : Declaration) → repeats rule earlier (ds ++ d ∷ []) ≡ repeats rule earlier ds
    ++ repeat_of rule (earlier ++ ds) d
repeats-push rule earlier [] d = append-nil _ ∙ ap (λ (e : List Declaration). repeat_of rule e d) (sym (append-nil earlier))
repeats-push rule earlier (c ∷ ds) d =
    ap (λ (bs : List Breach). repeat_of rule earlier c ++ bs) (repeats-push rule (earlier ++ c ∷ []) ds d)
    ∙ sym (append_assoc (repeat_of rule earlier c) (repeats rule (earlier ++ c ∷ []) ds) (repeat_of rule ((earlier ++ c ∷ []) ++ ds) d))
    ∙ ap (λ (e : List Declaration). (repeat_of rule earlier c ++ repeats rule (earlier ++ c ∷ []) ds) ++ repeat_of rule e d) (append_assoc earlier (c ∷ []) ds)

known_repeat : (known : List ℕ → Option ℕ) (rule : ℕ) (ds : List Declaration) (d : Declaration) → ((name : List ℕ) → known name ≡ first_of ds name)
    → repeated known rule d ≡ repeat_of rule ds d
known_repeat known rule ds None so_far = refl
known_repeat known rule ds (Some n) so_far = ap (λ (found : Option ℕ). when (is_some found) n.place rule) (so_far n.name)

-- ---- a list of declarations, one item after the other

front_more : {X : Type 0} (f : X → Declaration) (front : List Declaration) (xs : List X) (i : ℕ) (x : X) → i < length xs → x ≡ get_or xs i x →
    front ++ map f (take (i + 1) xs) ≡ (front ++ map f (take i xs)) ++ f x ∷ []
front_more {X} f front xs i x lt is =
    let more = ap (map f) (take_more xs i x lt ∙ ap (λ (y : X). take i xs ++ y ∷ []) (sym is)) ∙ map_push f (take i xs) x in
    ap (λ (ds : List Declaration). front ++ ds) more ∙ sym (append_assoc front (map f (take i xs)) (f x ∷ []))

front_length : {X : Type 0} (f : X → Declaration) (front : List Declaration) (xs : List X) (i : ℕ) → i < length xs
    → length (front ++ map f (take i xs)) ≡ length front + i
front_length f front xs i lt =
    omega (arith, length-append front (map f (take i xs)), length-map (take i xs) f, length-take-le i xs)

-- the table knows those so far, and one more
pub known_next : {X : Type 0} (f : X → Declaration) (front : List Declaration) (xs : List X) (i : ℕ) (x : X) (d : Declaration) (p : ℕ)
    (old new : List ℕ → Option ℕ) → i < length xs → x ≡ get_or xs i x → d ≡ f x → p ≡ length front + i →
    ((name : List ℕ) → old name ≡ first_of (front ++ map f (take i xs)) name) → ((name : List ℕ) → new name ≡ first_or (old name) (is_named name d) p) →
    (name : List ℕ) → new name ≡ first_of (front ++ map f (take (i + 1) xs)) name
known_next f front xs i x d p old new lt is d_is at_end so_far entered name =
    let ds = front ++ map f (take i xs) in
    entered name ∙ ap (λ (e : Declaration). first_or (old name) (is_named name e) p) d_is
    ∙ ap (λ (found : Option ℕ). first_or found (is_named name (f x)) p) (so_far name)
    ∙ ap (first_or (first_of ds name) (is_named name (f x))) (at_end ∙ sym (front_length f front xs i lt))
    ∙ sym (position-push (is_named name) ds (f x)) ∙ ap (λ (es : List Declaration). first_of es name) (sym (front_more f front xs i x lt is))

-- the repetitions so far, and one more
pub noted_next : {X : Type 0} (f : X → Declaration) (front : List Declaration) (rule : ℕ) (xs : List X) (i : ℕ) (x : X) (d : Declaration)
    (a b c : Option Breach) (old : List ℕ → Option ℕ) → i < length xs → x ≡ get_or xs i x → d ≡ f x →
    ((name : List ℕ) → old name ≡ first_of (front ++ map f (take i xs)) name) → Notes a (repeats rule [] (front ++ map f (take i xs))) b
    → Notes b (repeated old rule d) c →
    Notes a (repeats rule [] (front ++ map f (take (i + 1) xs))) c
noted_next f front rule xs i x d a b c old lt is d_is so_far h k =
    let ds = front ++ map f (take i xs) in
    notes_more a b c (repeats rule [] ds) (repeated old rule d) h k
    ∙ ap (λ (e : Declaration). lesser_of a (least (repeats rule [] ds ++ repeated old rule e))) d_is
    ∙ ap (λ (bs : List Breach). lesser_of a (least (repeats rule [] ds ++ bs))) (known_repeat old rule ds (f x) so_far)
    ∙ ap (λ (bs : List Breach). lesser_of a (least bs)) (sym (repeats-push rule [] ds (f x)))
    ∙ ap (λ (es : List Declaration). lesser_of a (least (repeats rule [] es))) (sym (front_more f front xs i x lt is))
