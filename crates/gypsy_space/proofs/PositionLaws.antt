-- Where a name stands first among those of two lists.
use Rattle.std.proofs.Common.{◌≡◌, ℕ, suc, ◌+◌, List, [], ◌∷◌, ◌++◌, map, length, Bool, true, false, cond, Option, Some, None, option_map, bytes_eq, refl, sym}
use Rattle.std.{proofs.Common.{ap, ap₂, ◌∙◌, zero-add, arith}, specs.List.position, specs.Option.unwrap_or, proofs.lemmas.List.length-map}
use Rattle.std.proofs.lemmas.Simd.{map-map}
use Rattle.stack_text.{specs.Names.place_among, specs.declared.name.Named.Named, proofs.SharedLaws.place_among-map}
use Rattle.gypsy_syntax.{specs.declared.literal.Decl.Decl, specs.declared.literal.Local.Local, specs.declared.proc.Proc.Proc, specs.Resolved.condition_names}
use Rattle.gypsy_syntax.{specs.Resolved.{position_of, variable_names}, specs.Views.SourceView.{local_of, proc_of}, specs.Sources.LocalOf}
use Rattle.gypsy_check.proofs.LookupLaws.{place_cons, place_nil}

-- the place in the first list, and else in the second, after so many
abbrev pub place_or : ℕ → Option ℕ → Option ℕ → Option ℕ
place_or k (Some i) o = Some i
place_or k None o = option_map (λ i. k + i) o

place_or-suc : (k : ℕ) (m o : Option ℕ) → option_map suc (place_or k m o) ≡ place_or (suc k) (option_map suc m) o
place_or-suc k (Some i) o = refl
place_or-suc k None None = refl
place_or-suc k None (Some i) = ap Some (let e : suc (k + i) ≡ suc k + i = omega arith in e)

place_or-zero : (o : Option ℕ) → place_or 0 None o ≡ o
place_or-zero None = refl
place_or-zero (Some i) = ap Some (zero-add i)

pub place_among-append : (name : List ℕ) (ms ns : List (List ℕ)) → place_among name (ms ++ ns)
    ≡ place_or (length ms) (place_among name ms) (place_among name ns)
place_among-append name [] ns = sym (ap (λ (m : Option ℕ). place_or 0 m (place_among name ns)) (place_nil name) ∙ place_or-zero (place_among name ns))
place_among-append name (m ∷ ms) ns =
    place_cons name m (ms ++ ns)
    ∙ pick (bytes_eq name m) (place_among-append name ms ns)
    ∙ ap (λ (o : Option ℕ). place_or (suc (length ms)) o (place_among name ns)) (sym (place_cons name m ms))
  where
    pick : (b : Bool) → place_among name (ms ++ ns) ≡ place_or (length ms) (place_among name ms) (place_among name ns) →
        cond b (Some 0) (option_map suc (place_among name (ms ++ ns))) ≡ place_or (suc (length ms))
        (cond b (Some 0) (option_map suc (place_among name ms))) (place_among name ns)
    pick true e = refl
    pick false e = ap (option_map suc) e ∙ place_or-suc (length ms) (place_among name ms) (place_among name ns)

-- the position of a name among those of two lists of items
pub position_two : {X Y : Type 0} (name : List ℕ) (key : X → List ℕ) (other : Y → List ℕ) (xs : List X) (ys : List Y) →
    place_or (length xs) (position (λ x. bytes_eq name (key x)) xs) (position (λ y. bytes_eq name (other y)) ys) ≡ place_among name (map key xs ++ map other ys)
position_two name key other xs ys =
    ap₂ (λ (m n : Option ℕ). place_or (length xs) m n) (place_among-map name key xs) (place_among-map name other ys)
    ∙ ap (λ (k : ℕ). place_or k (place_among name (map key xs)) (place_among name (map other ys))) (sym (length-map xs key))
    ∙ sym (place_among-append name (map key xs) (map other ys))

-- the position of a variable and of a condition
pub variable_position : (p : Proc) (name : List ℕ) (m o : Option ℕ) → m ≡ position (λ (d : Decl). bytes_eq name d.name.name) p.formals.items
    → o ≡ position (λ (l : Local). bytes_eq name l.decl.name.name) p.locals.items →
    unwrap_or (place_or (length p.formals.items) m o) 0 ≡ position_of name (variable_names (proc_of p))
variable_position p name m o e f =
    ap (λ (i : Option ℕ). unwrap_or i 0)
    (ap₂ (place_or (length p.formals.items)) e f
    ∙ position_two name (λ (d : Decl). d.name.name) (λ (l : Local). l.decl.name.name) p.formals.items p.locals.items
    ∙ ap (λ (ns : List (List ℕ)). place_among name (map (λ (d : Decl). d.name.name) p.formals.items ++ ns))
    (sym (map-map (λ (l : LocalOf). l.decl.name.name) local_of p.locals.items)))

pub condition_position : (p : Proc) (name : List ℕ) (m o : Option ℕ) → m ≡ position (λ (n : Named). bytes_eq name n.name) p.conds.items
    → o ≡ position (λ (n : Named). bytes_eq name n.name) p.local_conds.items →
    unwrap_or (place_or (length p.conds.items) m o) 0 ≡ position_of name (condition_names (proc_of p))
condition_position p name m o e f =
    ap (λ (i : Option ℕ). unwrap_or i 0)
    (ap₂ (place_or (length p.conds.items)) e f ∙ position_two name (λ (n : Named). n.name) (λ (n : Named). n.name) p.conds.items p.local_conds.items)
