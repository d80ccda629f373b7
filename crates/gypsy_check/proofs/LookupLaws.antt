-- First positions, and the first of a list that has a name.
use Rattle.std.proofs.Common.{◌≡◌, ℕ, suc, ◌+◌, List, [], ◌∷◌, ◌++◌, map, length, find, bytes_eq, nat_lt, cond, Bool, true, false, not, ◌||◌, Option, Some}
use Rattle.std.{proofs.Common.{None, is_none, option_map, refl, ap, ◌∙◌, ⊎_elim, arith, lt-ltb, le-ltb}, specs.List.{list_any, prefix_len}}
use Rattle.std.proofs.lemmas.Bool.{cases_lt}
use Rattle.stack_text.{specs.Names.place_among, specs.declared.name.Named.Named, proofs.SharedLaws.find_map}
use Rattle.gypsy_syntax.{specs.declared.literal.TypeText.TypeText, specs.Resolved.{condition_names, procedure_at}, specs.declared.literal.Decl.Decl}
use Rattle.gypsy_syntax.{specs.declared.literal.Local.Local, specs.declared.proc.Proc.Proc, specs.Sources.{LocalOf, ProcOf}, specs.Views.SourceView.local_of}
use Rattle.gypsy_syntax.specs.Views.SourceView.{proc_of}
use Rattle.gypsy_check.specs.Declarations.{type_at, type_of, is_condition}

shift : (p l : ℕ) → cond (nat_lt (1 + p) (suc l)) (Some (1 + p)) None ≡ option_map suc (cond (nat_lt p l) (Some p) None)
shift p l =
    ⊎_elim
    (λ lt. rw (lt-ltb p l lt, lt-ltb (1 + p) (suc l) (omega arith)) (ap Some (omega arith)))
    (λ le. rw (le-ltb p l le, le-ltb (1 + p) (suc l) (omega arith)) refl)
    (cases_lt p l)

first_or : (b : Bool) (p l : ℕ) → cond (nat_lt (cond (not b) (1 + p) 0) (suc l)) (Some (cond (not b) (1 + p) 0)) None
    ≡ cond b (Some 0) (option_map suc (cond (nat_lt p l) (Some p) None))
first_or true p l = rw (lt-ltb 0 (suc l) (omega arith)) refl
first_or false p l = shift p l

pub place_nil : (name : List ℕ) → place_among name [] ≡ None
unfolding place_among
place_nil name = refl

pub place_cons : (name n : List ℕ) (ns : List (List ℕ)) → place_among name (n ∷ ns) ≡ cond (bytes_eq name n) (Some 0) (option_map suc (place_among name ns))
unfolding place_among
place_cons name n ns = first_or (bytes_eq name n) (prefix_len (λ x. not (bytes_eq name x)) ns) (length ns)

type_past : (t : TypeText) (ts : List TypeText) (o : Option ℕ) → type_at (t ∷ ts) (option_map suc o) ≡ type_at ts o
type_past t ts None = refl
type_past t ts (Some i) = refl

abbrev pub or_else : {X : Type 0} → Option X → Option X → Option X
or_else None o = o
or_else (Some x) o = Some x

one_list : {X : Type 0} (key : X → List ℕ) (type : X → TypeText) (name : List ℕ) (xs : List X)
    → type_at (map type xs) (place_among name (map key xs)) ≡ option_map type (find (λ x. bytes_eq name (key x)) xs)
one_list key type name [] = ap (type_at []) (place_nil name)
one_list key type name (x ∷ xs) =
    ap (type_at (map type (x ∷ xs))) (place_cons name (key x) (map key xs)) ∙ pick (bytes_eq name (key x)) (one_list key type name xs)
  where
    pick : (b : Bool) → type_at (map type xs) (place_among name (map key xs)) ≡ option_map type (find (λ y. bytes_eq name (key y)) xs)
        → type_at (type x ∷ map type xs) (cond b (Some 0) (option_map suc (place_among name (map key xs))))
        ≡ option_map type (cond b (Some x) (find (λ y. bytes_eq name (key y)) xs))
    pick true e = refl
    pick false e = type_past (type x) (map type xs) (place_among name (map key xs)) ∙ e

pub two_lists : {X Y : Type 0} (key : X → List ℕ) (type : X → TypeText) (key' : Y → List ℕ) (type' : Y → TypeText) (name : List ℕ) (xs : List X)
    (ys : List Y) → type_at (map type xs ++ map type' ys) (place_among name (map key xs ++ map key' ys))
    ≡ or_else (option_map type (find (λ x. bytes_eq name (key x)) xs)) (option_map type' (find (λ y. bytes_eq name (key' y)) ys))
two_lists key type key' type' name [] ys = one_list key' type' name ys
two_lists key type key' type' name (x ∷ xs) ys = ap (type_at (map type (x ∷ xs) ++ map type' ys)) (place_cons name (key x) (map key xs ++ map key' ys))
    ∙ pick (bytes_eq name (key x)) (two_lists key type key' type' name xs ys)
  where
    pick : (b : Bool) → type_at (map type xs ++ map type' ys) (place_among name (map key xs ++ map key' ys))
        ≡ or_else (option_map type (find (λ z. bytes_eq name (key z)) xs)) (option_map type' (find (λ y. bytes_eq name (key' y)) ys))
        → type_at (type x ∷ map type xs ++ map type' ys) (cond b (Some 0) (option_map suc (place_among name (map key xs ++ map key' ys))))
        ≡ or_else (option_map type (cond b (Some x) (find (λ z. bytes_eq name (key z)) xs))) (option_map type' (find (λ y. bytes_eq name (key' y)) ys))
    pick true e = refl
    pick false e = type_past (type x) (map type xs ++ map type' ys) (place_among name (map key xs ++ map key' ys)) ∙ e

pub among : (name : List ℕ) (ns : List (List ℕ)) → not (is_none (place_among name ns)) ≡ list_any (bytes_eq name) ns
among name [] = ap (λ o. not (is_none o)) (place_nil name)
among name (n ∷ ns) = ap (λ o. not (is_none o)) (place_cons name n ns) ∙ pick (bytes_eq name n) (among name ns)
  where
    past : (o : Option ℕ) → not (is_none (option_map suc o)) ≡ not (is_none o)
    past None = refl
    past (Some i) = refl

    pick : (b : Bool) → not (is_none (place_among name ns)) ≡ list_any (bytes_eq name) ns
        → not (is_none (cond b (Some 0) (option_map suc (place_among name ns)))) ≡ (b || list_any (bytes_eq name) ns)
    pick true e = refl
    pick false e = past (place_among name ns) ∙ e

pub any_two : {X : Type 0} (key : X → List ℕ) (name : List ℕ) (xs ys : List X) → list_any (bytes_eq name) (map key xs ++ map key ys)
    ≡ (list_any (λ x. bytes_eq name (key x)) xs || list_any (λ y. bytes_eq name (key y)) ys)
any_two key name [] [] = refl
any_two key name [] (y ∷ ys) = ap (λ b. bytes_eq name (key y) || b) (any_two key name [] ys)
any_two key name (x ∷ xs) ys = pick (bytes_eq name (key x)) (any_two key name xs ys)
  where
    pick : (b : Bool) → list_any (bytes_eq name) (map key xs ++ map key ys)
        ≡ (list_any (λ x. bytes_eq name (key x)) xs || list_any (λ y. bytes_eq name (key y)) ys)
        → (b || list_any (bytes_eq name) (map key xs ++ map key ys))
        ≡ (b || list_any (λ x. bytes_eq name (key x)) xs || list_any (λ y. bytes_eq name (key y)) ys)
    pick true e = refl
    pick false e = e

-- the type of a procedure's variable, formals before locals
pub type_is : (p : Proc) (name : List ℕ) → type_of (proc_of p) name ≡ or_else
    (option_map (λ (d : Decl). d.shape) (find (λ (d : Decl). bytes_eq name d.name.name) p.formals.items))
    (option_map (λ (l : Local). l.decl.shape) (find (λ (l : Local). bytes_eq name l.decl.name.name) p.locals.items))
type_is p name =
    two_lists (λ (d : Decl). d.name.name) (λ (d : Decl). d.shape) (λ (l : LocalOf). l.decl.name.name) (λ (l : LocalOf). l.decl.shape) name
    p.formals.items (map local_of p.locals.items) ∙
    ap (or_else (option_map (λ (d : Decl). d.shape) (find (λ (d : Decl). bytes_eq name d.name.name) p.formals.items)))
    (find_map local_of (λ (l : LocalOf). bytes_eq name l.decl.name.name) (λ (l : LocalOf). l.decl.shape) p.locals.items)

pub condition_is : (p : Proc) (name : List ℕ) → is_condition (proc_of p) name
    ≡ (list_any (λ (n : Named). bytes_eq name n.name) p.conds.items || list_any (λ (n : Named). bytes_eq name n.name) p.local_conds.items)
condition_is p name = among name (condition_names (proc_of p)) ∙ any_two (λ (n : Named). n.name) name p.conds.items p.local_conds.items

pub procedure_past : (p : ProcOf) (ps : List ProcOf) (o : Option ℕ) → procedure_at (p ∷ ps) (option_map suc o) ≡ procedure_at ps o
procedure_past p ps None = refl
procedure_past p ps (Some i) = refl

-- the first procedure of a name
pub procedure_is : (name : List ℕ) (ps : List Proc) → procedure_at (map proc_of ps)
    (place_among name (map (λ (p : ProcOf). p.name.name) (map proc_of ps))) ≡ option_map proc_of (find (λ (p : Proc). bytes_eq name p.name.name) ps)
procedure_is name [] = ap (procedure_at []) (place_nil name)
procedure_is name (p ∷ ps) = ap (procedure_at (map proc_of (p ∷ ps))) (place_cons name p.name.name (map (λ (r : ProcOf). r.name.name) (map proc_of ps)))
    ∙ pick (bytes_eq name p.name.name) (procedure_is name ps)
  where
    pick : (b : Bool) → procedure_at (map proc_of ps) (place_among name (map (λ (r : ProcOf). r.name.name) (map proc_of ps)))
        ≡ option_map proc_of (find (λ (r : Proc). bytes_eq name r.name.name) ps) → procedure_at (proc_of p ∷ map proc_of ps)
        (cond b (Some 0) (option_map suc (place_among name (map (λ (r : ProcOf). r.name.name) (map proc_of ps)))))
        ≡ option_map proc_of (cond b (Some p) (find (λ (r : Proc). bytes_eq name r.name.name) ps))
    pick true e = refl
    pick false e = procedure_past (proc_of p) (map proc_of ps) (place_among name (map (λ (r : ProcOf). r.name.name) (map proc_of ps))) ∙ e

pub option_map_twice : {X Y Z : Type 0} (f : X → Y) (g : Y → Z) (o : Option X) → option_map (λ x. g (f x)) o ≡ option_map g (option_map f o)
option_map_twice f g None = refl
option_map_twice f g (Some x) = refl
