-- Variables by their names, one after the other.
use Rattle.std.proofs.Common.{◌≡◌, ℕ, List, [], ◌∷◌, ◌++◌, map, find, Option, Some, Bool, true, false, cond, ◌||◌, is_some, option_map, bytes_eq, refl, sym, ap}
use Rattle.std.{proofs.Common.◌∙◌, specs.List.list_any, proofs.lemmas.List.map_push}
use Rattle.stack_text.{specs.declared.breach.Breach.Breach, specs.declared.name.Named.Named, specs.Breaches.{when, Notes}, specs.Options.first_or}
use Rattle.gypsy_syntax.{specs.declared.literal.Decl.Decl, specs.declared.literal.Local.Local, specs.declared.literal.TypeText.TypeText}
use Rattle.gypsy_syntax.{specs.declared.proc.Proc.Proc, specs.Views.SourceView.proc_of}
use Rattle.gypsy_check.{specs.Declarations.{type_of, is_condition, repeats}, specs.Tables.{is_named, first_type, declared}, proofs.CalleeLaws.find-push}
use Rattle.gypsy_check.{proofs.CalleeLaws.past_map, proofs.LookupLaws.{or_else, type_is, condition_is}, proofs.RepeatLaws.noted_more}

-- ---- one more variable

first_type-push : (ds : List Decl) (d : Decl) (name : List ℕ) → first_type (ds ++ d ∷ []) name
    ≡ first_or (first_type ds name) (bytes_eq name d.name.name) d.shape
first_type-push ds d name =
    ap (option_map (λ (e : Decl). e.shape)) (find-push (λ (e : Decl). bytes_eq name e.name.name) ds d)
    ∙ past_map (λ (e : Decl). e.shape) (find (λ (e : Decl). bytes_eq name e.name.name) ds) (bytes_eq name d.name.name) d

some_type : (ds : List Decl) (name : List ℕ) → is_some (first_type ds name) ≡ is_named name (map (λ (d : Decl). d.name) ds)
some_type [] name = refl
some_type (d ∷ ds) name = by_test (bytes_eq name d.name.name) (some_type ds name)
  where
    by_test : (b : Bool) → is_some (first_type ds name) ≡ is_named name (map (λ (e : Decl). e.name) ds) →
        is_some (option_map (λ (e : Decl). e.shape) (cond b (Some d) (find (λ (e : Decl). bytes_eq name e.name.name) ds)))
        ≡ (b || is_named name (map (λ (e : Decl). e.name) ds))
    by_test true h = refl
    by_test false h = h

-- the table has the types so far, and one more
pub types_next : (before after : List Decl) (d : Decl) (old new : List ℕ → Option TypeText) → after ≡ before ++ d ∷ [] →
    ((name : List ℕ) → old name ≡ first_type before name) → ((name : List ℕ) → new name ≡ first_or (old name) (bytes_eq name d.name.name) d.shape) →
    (name : List ℕ) → new name ≡ first_type after name
types_next before after d old new more so_far entered name =
    entered name ∙ ap (λ (o : Option TypeText). first_or o (bytes_eq name d.name.name) d.shape) (so_far name) ∙ sym (first_type-push before d name)
    ∙ ap (λ (ds : List Decl). first_type ds name) (sym more)

-- the repetitions so far, and one more
pub repeats_next : (before after : List Decl) (d : Decl) (a b c : Option Breach) (old : List ℕ → Option TypeText) → after ≡ before ++ d ∷ [] →
    ((name : List ℕ) → old name ≡ first_type before name) → Notes a (repeats 4 [] (map (λ (e : Decl). e.name) before)) b
    → Notes b (when (is_some (old d.name.name)) d.name.place 4) c →
    Notes a (repeats 4 [] (map (λ (e : Decl). e.name) after)) c
repeats_next before after d a b c old more so_far h k =
    noted_more 4 (map (λ (e : Decl). e.name) before) (map (λ (e : Decl). e.name) after) d.name a b c (λ name. is_some (old name))
    (ap (map (λ (e : Decl). e.name)) more ∙ map_push (λ (e : Decl). e.name) before d)
    (λ name. ap (λ (o : Option TypeText). is_some o) (so_far name) ∙ some_type before name) h k

-- the names of formals and locals
pub names_of : (ds : List Decl) (ls : List Local) → map (λ (d : Decl). d.name) (ds ++ map (λ (l : Local). l.decl) ls) ≡ map (λ (d : Decl). d.name) ds
    ++ map (λ (l : Local). l.decl.name) ls
names_of [] [] = refl
names_of [] (l ∷ ls) = ap (λ (ns : List Named). l.decl.name ∷ ns) (names_of [] ls)
names_of (d ∷ ds) ls = ap (λ (ns : List Named). d.name ∷ ns) (names_of ds ls)

-- ---- what a procedure declares

first_of_two : (ds : List Decl) (ls : List Local) (name : List ℕ) →
    first_type (ds ++ map (λ (l : Local). l.decl) ls) name ≡ or_else (first_type ds name)
    (option_map (λ (l : Local). l.decl.shape) (find (λ (l : Local). bytes_eq name l.decl.name.name) ls))
first_of_two [] [] name = refl
first_of_two [] (l ∷ ls) name = by_test (bytes_eq name l.decl.name.name) (first_of_two [] ls name)
  where
    by_test : (b : Bool) → first_type (map (λ (m : Local). m.decl) ls) name ≡ option_map (λ (m : Local). m.decl.shape)
        (find (λ (m : Local). bytes_eq name m.decl.name.name) ls) →
        option_map (λ (d : Decl). d.shape) (cond b (Some l.decl) (find (λ (d : Decl). bytes_eq name d.name.name) (map (λ (m : Local). m.decl) ls)))
        ≡ option_map (λ (m : Local). m.decl.shape) (cond b (Some l) (find (λ (m : Local). bytes_eq name m.decl.name.name) ls))
    by_test true h = refl
    by_test false h = h
first_of_two (d ∷ ds) ls name = by_test (bytes_eq name d.name.name) (first_of_two ds ls name)
  where
    by_test : (b : Bool) → first_type (ds ++ map (λ (m : Local). m.decl) ls) name
        ≡ or_else (first_type ds name) (option_map (λ (m : Local). m.decl.shape) (find (λ (m : Local). bytes_eq name m.decl.name.name) ls)) →
        option_map (λ (e : Decl). e.shape) (cond b (Some d) (find (λ (e : Decl). bytes_eq name e.name.name) (ds ++ map (λ (m : Local). m.decl) ls))) ≡
        or_else (option_map (λ (e : Decl). e.shape) (cond b (Some d) (find (λ (e : Decl). bytes_eq name e.name.name) ds)))
        (option_map (λ (m : Local). m.decl.shape) (find (λ (m : Local). bytes_eq name m.decl.name.name) ls))
    by_test true h = refl
    by_test false h = h

-- the type of a procedure's variable, and whether a condition is declared
pub type_known : (p : Proc) (name : List ℕ) → first_type (declared p) name ≡ type_of (proc_of p) name
type_known p name = first_of_two p.formals.items p.locals.items name ∙ sym (type_is p name)

named_two : (name : List ℕ) (ns ms : List Named) → is_named name (ns ++ ms)
    ≡ (list_any (λ (n : Named). bytes_eq name n.name) ns || list_any (λ (n : Named). bytes_eq name n.name) ms)
named_two name [] ms = refl
named_two name (n ∷ ns) ms = by_test (bytes_eq name n.name) (named_two name ns ms)
  where
    by_test : (b : Bool) → is_named name (ns ++ ms) ≡ (list_any (λ (m : Named). bytes_eq name m.name) ns || list_any (λ (m : Named). bytes_eq name m.name) ms) →
        (b || is_named name (ns ++ ms)) ≡ ((b || list_any (λ (m : Named). bytes_eq name m.name) ns) || list_any (λ (m : Named). bytes_eq name m.name) ms)
    by_test true h = refl
    by_test false h = h

pub condition_known : (p : Proc) (name : List ℕ) → is_named name (p.conds.items ++ p.local_conds.items) ≡ is_condition (proc_of p) name
condition_known p name = named_two name p.conds.items p.local_conds.items ∙ sym (condition_is p name)
