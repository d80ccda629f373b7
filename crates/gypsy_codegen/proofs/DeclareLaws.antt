-- Declarations that differ: none repeats another, and each is found where it stands.
use Rattle.std.proofs.Common.{◌≡◌, ℕ, zero, suc, ◌+◌, ◌<◌, ◌≤◌, ◌^◌, List, [], ◌∷◌, ◌++◌, map, length, get_or, bytes_eq, false, cond, Some, None, is_some, refl}
use Rattle.std.{proofs.Common.{ap, ◌∙◌, arith}, specs.List.position_from, proofs.lemmas.Slice.Eq.bytes_eq-Decides}
use Rattle.std.{proofs.lemmas.Iterator.Adapters.position_from-zero, proofs.lemmas.Bool.or_parts}
use Rattle.stack_text.{specs.Names.is_among, specs.declared.name.Named.Named, specs.Breaches.when, specs.Grammar.Printed.unplaced, specs.Options.first_or}
use Rattle.stack_text.proofs.SharedLaws.{rule_fails, append_none, bytes_apart}
use Rattle.piton_check.{specs.Declarations.{Declaration, is_named, first_of, repeats}, proofs.TableLaws.position-push}
use Rattle.gypsy_syntax.specs.ProgramFits.{Each}
use Rattle.gypsy_check.specs.Declarations.{repeats as repetitions}
use Rattle.gypsy_codegen.{specs.Written.{Names, Line, Plain, Marked, label_text}, proofs.LabelLaws.{Misses, Distinct, Ranged, declared, label_differs}}

-- no declaration is of this name
abbrev pub Absent : List ℕ → List Declaration → Type 0
Absent name [] = Unit {0}
Absent name (None ∷ ds) = Absent name ds
Absent name (Some m ∷ ds) = (bytes_eq m.name name ≡ false) × Absent name ds

-- no append_none are of one name
abbrev pub Apart : List Declaration → Type 0
Apart [] = Unit {0}
Apart (None ∷ ds) = Apart ds
Apart (Some n ∷ ds) = Absent n.name ds × Apart ds

-- none of the second is among the first
abbrev Clear : List Declaration → List Declaration → Type 0
Clear earlier [] = Unit {0}
Clear earlier (None ∷ ds) = Clear earlier ds
Clear earlier (Some n ∷ ds) = (first_of earlier n.name ≡ None) × Clear earlier ds

pushed_none : (earlier : List Declaration) (d : Declaration) (name : List ℕ) → first_of earlier name ≡ None → is_named name d ≡ false
    → first_of (earlier ++ d ∷ []) name ≡ None
pushed_none earlier d name e f =
    position-push (is_named name) earlier d ∙ ap (λ o. first_or o (is_named name d) (length earlier)) e ∙ ap (λ b. first_or None b (length earlier)) f

clear_none : (earlier ds : List Declaration) → Clear earlier ds → Clear (earlier ++ None ∷ []) ds
clear_none earlier [] c = tt
clear_none earlier (None ∷ ds) c = clear_none earlier ds c
clear_none earlier (Some m ∷ ds) c = (pushed_none earlier None m.name c.0 refl, clear_none earlier ds c.1)

clear_some : (earlier ds : List Declaration) (n : Named) → Clear earlier ds → Absent n.name ds → Clear (earlier ++ Some n ∷ []) ds
clear_some earlier [] n c a = tt
clear_some earlier (None ∷ ds) n c a = clear_some earlier ds n c a
clear_some earlier (Some m ∷ ds) n c a = (pushed_none earlier (Some n) m.name c.0 a.0, clear_some earlier ds n c.1 a.1)

no_repeats_after : (rule : ℕ) (earlier ds : List Declaration) → Clear earlier ds → Apart ds → repeats rule earlier ds ≡ []
no_repeats_after rule earlier [] c a = refl
no_repeats_after rule earlier (None ∷ ds) c a = no_repeats_after rule (earlier ++ None ∷ []) ds (clear_none earlier ds c) a
no_repeats_after rule earlier (Some n ∷ ds) c a =
    ap (λ o. when (is_some o) n.place rule ++ repeats rule (earlier ++ Some n ∷ []) ds) c.0
    ∙ no_repeats_after rule (earlier ++ Some n ∷ []) ds (clear_some earlier ds n c.1 a.0) a.1

clear_first : (ds : List Declaration) → Clear [] ds
clear_first [] = tt
clear_first (None ∷ ds) = clear_first ds
clear_first (Some n ∷ ds) = (refl, clear_first ds)

pub no_repeats : (rule : ℕ) (ds : List Declaration) → Apart ds → repeats rule [] ds ≡ []
no_repeats rule ds a = no_repeats_after rule [] ds (clear_first ds) a

-- ---- labels

absent_label : (n : Names) (l hi : ℕ) (ls : List Line) → hi ≤ 2 ^ 32 → l < hi → Misses l ls → Ranged 0 hi ls → Absent (label_text l) (declared n ls)
absent_label n l hi [] le lt x r = tt
absent_label n l hi (Plain i ∷ ls) le lt x r = absent_label n l hi ls le lt x r
absent_label n l hi (Marked m i ∷ ls) le lt x r =
    (label_differs m l (omega (arith, r.1, le)) (omega (arith, lt, le)) x.0, absent_label n l hi ls le lt x.1 r.2)

pub labels_apart : (n : Names) (hi : ℕ) (ls : List Line) → hi ≤ 2 ^ 32 → Distinct ls → Ranged 0 hi ls → Apart (declared n ls)
labels_apart n hi [] le d r = tt
labels_apart n hi (Plain i ∷ ls) le d r = labels_apart n hi ls le d r
labels_apart n hi (Marked m i ∷ ls) le d r = (absent_label n m hi ls le r.1 d.0 r.2, labels_apart n hi ls le d.1 r.2)

-- ---- names

abbrev pub declarations : List (List ℕ) → List Declaration
declarations names = map (λ name. Some (unplaced name)) names

abbrev pub Unlike : List ℕ → List (List ℕ) → Type 0
Unlike name names = Each (λ m. bytes_eq m name ≡ false) names

-- no append_none are the same
abbrev pub Differ : List (List ℕ) → Type 0
Differ [] = Unit {0}
Differ (n ∷ names) = Unlike n names × Differ names

absent_name : (name : List ℕ) (names : List (List ℕ)) → Unlike name names → Absent name (declarations names)
absent_name name [] u = tt
absent_name name (m ∷ names) u = (u.0, absent_name name names u.1)

pub names_apart : (names : List (List ℕ)) → Differ names → Apart (declarations names)
names_apart [] d = tt
names_apart (n ∷ names) d = (absent_name n names d.0, names_apart names d.1)

unlike_at : (name : List ℕ) (names : List (List ℕ)) (b : ℕ) → Unlike name names → b < length names → bytes_eq (get_or names b []) name ≡ false
unlike_at name [] b u lt = absurd (omega (arith, lt))
unlike_at name (m ∷ names) zero u lt = u.0
unlike_at name (m ∷ names) (suc b) u lt = unlike_at name names b u.1 (omega (arith, lt))

found_from : (at : ℕ) (names : List (List ℕ)) (b : ℕ) → Differ names → b < length names
    → position_from (is_named (get_or names b [])) at (declarations names) ≡ Some (at + b)
found_from at [] b d lt = absurd (omega (arith, lt))
found_from at (m ∷ names) zero d lt =
    ap (λ t. cond t (Some at) (position_from (is_named m) (at + 1) (declarations names))) ((bytes_eq-Decides m m).1 refl) ∙ ap Some (omega arith)
found_from at (m ∷ names) (suc b) d lt =
    ap (λ t. cond t (Some at) (position_from (is_named (get_or names b [])) (at + 1) (declarations names))) (unlike_at m names b d.0 (omega (arith, lt)))
    ∙ found_from (at + 1) names b d.1 (omega (arith, lt)) ∙ ap Some (omega arith)

-- each is found where it stands
pub found_at : (names : List (List ℕ)) (b : ℕ) → Differ names → b < length names → first_of (declarations names) (get_or names b []) ≡ Some b
found_at names b d lt =
    position_from-zero (is_named (get_or names b [])) (declarations names) ∙ found_from 0 names b d lt ∙ ap Some (omega arith)

-- none of the second is like one of the first
abbrev pub Cross : List (List ℕ) → List (List ℕ) → Type 0
Cross xs ys = Each (λ x. Unlike x ys) xs

unlike_both : (name : List ℕ) (xs ys : List (List ℕ)) → Unlike name xs → Unlike name ys → Unlike name (xs ++ ys)
unlike_both name [] ys u v = v
unlike_both name (x ∷ xs) ys u v = (u.0, unlike_both name xs ys u.1 v)

unlike_front : (name : List ℕ) (xs ys : List (List ℕ)) → Unlike name (xs ++ ys) → Unlike name xs × Unlike name ys
unlike_front name [] ys u = (tt, u)
unlike_front name (x ∷ xs) ys u = let h = unlike_front name xs ys u.1 in ((u.0, h.0), h.1)

pub differ_both : (xs ys : List (List ℕ)) → Differ xs → Differ ys → Cross xs ys → Differ (xs ++ ys)
differ_both [] ys d e c = e
differ_both (x ∷ xs) ys d e c = (unlike_both x xs ys d.0 c.0, differ_both xs ys d.1 e c.1)

differ_parts : (xs ys : List (List ℕ)) → Differ (xs ++ ys) → Differ xs × Differ ys × Cross xs ys
differ_parts [] ys d = (tt, d, tt)
differ_parts (x ∷ xs) ys d =
    let h = differ_parts xs ys d.1 in
    let u = unlike_front x xs ys d.0 in ((u.0, h.0), h.1, (u.1, h.2))

cross_one : (y : List ℕ) (xs ys : List (List ℕ)) → Cross xs (y ∷ ys) → Unlike y xs × Cross xs ys
cross_one y [] ys c = (tt, tt)
cross_one y (x ∷ xs) ys c = let h = cross_one y xs ys c.1 in ((bytes_apart y x c.0.0, h.0), (c.0.1, h.1))

cross_swap : (xs ys : List (List ℕ)) → Cross xs ys → Cross ys xs
cross_swap xs [] c = tt
cross_swap xs (y ∷ ys) c = let h = cross_one y xs ys c in (h.0, cross_swap xs ys h.1)

pub differ_swap : (xs ys : List (List ℕ)) → Differ (xs ++ ys) → Differ (ys ++ xs)
differ_swap xs ys d = let h = differ_parts xs ys d in differ_both ys xs h.1 h.0 (cross_swap xs ys h.2)

-- ---- names that a source doesn't repeat

unlike_earlier : (rule : ℕ) (earlier : List (List ℕ)) (name : List ℕ) (xs : List Named)
    → ((m : List ℕ) → is_among m earlier ≡ false → bytes_eq m name ≡ false) →
    repetitions rule earlier xs ≡ [] → Unlike name (map (λ n. n.name) xs)
unlike_earlier rule earlier name [] h e = tt
unlike_earlier rule earlier name (x ∷ xs) h e =
    let k = append_none (when (is_among x.name earlier) x.place rule) (repetitions rule (x.name ∷ earlier) xs) e in (
      h x.name (rule_fails (is_among x.name earlier) x.place rule k.0),
      unlike_earlier rule (x.name ∷ earlier) name xs (λ m g. h m (or_parts (bytes_eq m x.name) (is_among m earlier) g).1) k.1,
    )

pub differ_source : (rule : ℕ) (earlier : List (List ℕ)) (xs : List Named) → repetitions rule earlier xs ≡ [] → Differ (map (λ n. n.name) xs)
differ_source rule earlier [] e = tt
differ_source rule earlier (x ∷ xs) e =
    let k = append_none (when (is_among x.name earlier) x.place rule) (repetitions rule (x.name ∷ earlier) xs) e in (
      unlike_earlier rule (x.name ∷ earlier) x.name xs (λ m g. (or_parts (bytes_eq m x.name) (is_among m earlier) g).0) k.1,
      differ_source rule (x.name ∷ earlier) xs k.1,
    )
