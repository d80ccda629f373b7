-- The arguments of a predefined procedure that break no rule fit.
use Rattle.std.proofs.Common.{◌≡◌, ℕ, ◌<◌, ◌≤◌, ℤ, pos, negsuc, List, [], ◌∷◌, map, length, slice_get, if◌then◌else◌, true, false, not, Option, Some, None}
use Rattle.std.{proofs.Common.{is_none, unwrap_or, refl, ap, sym, ◌∙◌, subst, arith, flat_map, eqb-true, ◌==◌}, specs.List.list_any}
use Rattle.stack_text.{specs.Names.place_among, specs.declared.shape.Kind.Kind, specs.declared.shape.Kind.TheVariants.Integer, specs.declared.shape.Shape.Shape}
use Rattle.stack_text.{specs.Breaches.when, proofs.SharedLaws.{rule_holds, rule_fails, append_none, kind_same}}
use Rattle.gypsy_syntax.{specs.declared.literal.TypeText.TypeText, specs.Sources.{LiteralOf, ArgOf, variable, constant, arg_place, ProcOf, SourceOf}}
use Rattle.gypsy_syntax.specs.Resolved.{variable_names, variable_types, length_of, shape_of, literal_kind, literal_value, variable_of, argument_of}
use Rattle.gypsy_syntax.{specs.Resolved.procedure_of, specs.declared.slot.Form.Form, specs.declared.slot.Form.TheVariants.{Simple, Array, Literal}}
use Rattle.gypsy_syntax.{specs.declared.slot.Slot.Slot, specs.Programs.{simple, shapes_of, Var, Lit}, specs.ProgramFits.{ArgFits, ArgsFit, slot_kind}}
use Rattle.gypsy_syntax.specs.ValuesFit.{ValueFits}
use Rattle.gypsy_check.{specs.Declarations.{type_at, type_of}, specs.Types.{has_length, is_of_kind}, specs.Arguments.{kind_of_type, kind_of_literal, kind_of}}
use Rattle.gypsy_check.{specs.Arguments.{is_wanted, settled_by, is_undeclared}, specs.Rules.{literal_breaches, slots_breaches, argument_breaches}}
use Rattle.gypsy_check.{specs.Rules.{declared_breaches, number_breaches, predef_breaches, type_breaches}, proofs.CleanLaws.{chosen, unless, at_place}}
use Rattle.gypsy_check.{proofs.NameLaws.shape_found, proofs.LiteralLaws.{kind_self, literal_fits, array_length}}

type_kept : (types : List TypeText) (o : Option ℕ) (t : TypeText) → flat_map type_breaches types ≡ [] → type_at types o ≡ Some t → has_length t.length ≡ true
type_kept types None t e h = cc
type_kept types (Some i) t e h = rule_holds (has_length t.length) t.place 7 (at_place type_breaches types i t e h)

-- each variable's type has a length
pub type_good : (p : ProcOf) (name : List ℕ) (t : TypeText) → flat_map type_breaches (variable_types p) ≡ [] → type_of p name ≡ Some t
    → has_length t.length ≡ true
type_good p name t e h = type_kept (variable_types p) (place_among name (variable_names p)) t e h

simple_shape : (k j : Kind) (n : Option ℤ) → (if is_none n then Some k else None) ≡ Some j → record { kind = k; length = length_of n } ≡ simple j
simple_shape k j None e = let same : k ≡ j = cc in ap simple same
simple_shape k j (Some n) e = cc

abbrev sized : Kind → ℕ → Shape
sized k n = record { kind = k; length = n }

array_shape : (k j : Kind) (n : Option ℤ) → has_length n ≡ true → (if is_none n then None else Some k) ≡ Some j → (m : ℕ) × (0 < m) × (m ≤ 4096)
    × (sized k (length_of n) ≡ sized j m)
array_shape k j None g e = cc
array_shape k j (Some (pos n)) g e =
    let r = array_length n g in let same : k ≡ j = cc in (n, r.0, r.1, ap (λ i. sized i n) same)
array_shape k j (Some (negsuc n)) g e = cc

-- a variable of the form
variable_fits : (shapes : List Shape) (i : ℕ) (form : Form) (o : Option TypeText) (j : Kind)
    → ((t : TypeText) → o ≡ Some t → (has_length t.length ≡ true) × (slice_get shapes i ≡ Some (shape_of t))) → kind_of_type form o ≡ Some j
    → ArgFits shapes form j (Var i)
variable_fits shapes i form None j h e = cc
variable_fits shapes i Simple (Some t) j h e = (h t refl).1 ∙ ap Some (simple_shape t.kind j t.length e)
variable_fits shapes i Array (Some t) j h e =
    let a = h t refl in
    let r = array_shape t.kind j t.length a.0 e in
    (r.0, r.1, r.2, a.1 ∙ ap Some r.3)
variable_fits shapes i Literal (Some t) j h e = cc

-- a literal of the form
constant_fits : (shapes : List Shape) (form : Form) (l : LiteralOf) (j : Kind) → literal_breaches l ≡ [] → kind_of_literal form l ≡ Some j
    → ArgFits shapes form j (Lit (literal_value l))
constant_fits shapes Simple l j h e = cc
constant_fits shapes Array l j h e = cc
constant_fits shapes Literal l j h e =
    let kind_is : unwrap_or (literal_kind l) Integer ≡ j = ap (λ o. unwrap_or o Integer) e in
    let good : is_of_kind j (literal_kind l) ≡ true = ap (is_of_kind j) e ∙ kind_self j in
    let P : Kind → Type 0 = λ k. ValueFits record { shape = simple k; items = (literal_value l).items } in
    (ap simple kind_is, subst P (sym kind_is) (literal_fits j l good h))

argument_fits : (s : SourceOf) (p : ProcOf) (form : Form) (a : ArgOf) (j : Kind) → flat_map type_breaches (variable_types p) ≡ []
    → argument_breaches p a ≡ [] → kind_of p form a ≡ Some j → ArgFits (shapes_of (procedure_of s p)) form j (argument_of p a)
argument_fits s p form (variable n) j g h e =
    variable_fits (shapes_of (procedure_of s p)) (variable_of p n) form (type_of p n.name) j
    (λ t is. (type_good p n.name t g is, shape_found s p n.name t is)) e
argument_fits s p form (constant l) j g h e = constant_fits (shapes_of (procedure_of s p)) form l j h e

-- the kind that is shared is the one that is settled
abbrev pub Agrees : Option Kind → Kind → Type 0
Agrees None k = Unit {0}
Agrees (Some j) k = j ≡ k

-- what a wanted argument says
wanted : (settled slot o : Option Kind) → is_wanted settled slot o ≡ true → (j : Kind) × (o ≡ Some j)
    × ((k : Kind) → Agrees (settled_by settled slot o) k → Agrees settled k × (j ≡ slot_kind k slot))
wanted settled slot None e = cc
wanted None None (Some j) e = (j, refl, λ k a. (tt, a))
wanted None (Some c) (Some j) e = (j, refl, λ k a. (tt, kind_same j c e))
wanted (Some i) None (Some j) e = (j, refl, λ k a. (a, kind_same j i e ∙ a))
wanted (Some i) (Some c) (Some j) e = (j, refl, λ k a. (a, kind_same j c e))

abbrev default : Option Kind → Kind
default settled = unwrap_or settled Integer

agrees : (settled : Option Kind) → Agrees settled (default settled)
agrees None = tt
agrees (Some k) = refl

slots_fit : (s : SourceOf) (p : ProcOf) (settled : Option Kind) (slots : List Slot) (args : List ArgOf) → flat_map type_breaches (variable_types p) ≡ []
    → flat_map (argument_breaches p) args ≡ [] → length args ≡ length slots → slots_breaches p settled slots args ≡ [] → (k : Kind) × Agrees settled k
    × ArgsFit (shapes_of (procedure_of s p)) k slots (map (argument_of p) args)
slots_fit s p settled [] [] g h n e = (default settled, agrees settled, tt)
slots_fit s p settled [] (a ∷ args) g h n e = absurd (omega (arith, n))
slots_fit s p settled (slot ∷ slots) [] g h n e = absurd (omega (arith, n))
slots_fit s p settled (slot ∷ slots) (a ∷ args) g h n e =
    let o = kind_of p slot.form a in
    let c = append_none (when (not (is_wanted settled slot.kind o)) (arg_place a) 23) (slots_breaches p (settled_by settled slot.kind o) slots args) e in
    let b = append_none (argument_breaches p a) (flat_map (argument_breaches p) args) h in
    let w = wanted settled slot.kind o (rule_holds (is_wanted settled slot.kind o) (arg_place a) 23 c.0) in
    let r = slots_fit s p (settled_by settled slot.kind o) slots args g b.1 (omega (arith, n)) c.1 in
    let v = w.2 r.0 r.1 in
    (r.0, v.0, (subst (λ k. ArgFits (shapes_of (procedure_of s p)) slot.form k (argument_of p a)) v.1 (argument_fits s p slot.form a w.0 g b.0 w.1), r.2))

all_declared : (p : ProcOf) (args : List ArgOf) → flat_map (argument_breaches p) args ≡ [] → list_any (is_undeclared p) args ≡ false
all_declared p [] e = refl
all_declared p (variable n ∷ args) e =
    let k = append_none (argument_breaches p (variable n)) (flat_map (argument_breaches p) args) e in
    let d : is_none (type_of p n.name) ≡ false = rule_fails (is_none (type_of p n.name)) n.place 14 k.0 in
    rw d (all_declared p args k.1)
all_declared p (constant l ∷ args) e =
    all_declared p args (append_none (argument_breaches p (constant l)) (flat_map (argument_breaches p) args) e).1

pub predef_fits : (s : SourceOf) (p : ProcOf) (place : ℕ) (slots : List Slot) (args : List ArgOf) → flat_map type_breaches (variable_types p) ≡ []
    → predef_breaches p place slots args ≡ [] → (k : Kind) × ArgsFit (shapes_of (procedure_of s p)) k slots (map (argument_of p) args)
predef_fits s p place slots args g e =
    let parts = append_none (flat_map (argument_breaches p) args) (number_breaches p place slots args) e in
    let c = chosen (length args == length slots) (declared_breaches p slots args) (record { place = place; rule = 22 }) parts.1 in
    let u = unless (list_any (is_undeclared p) args) (slots_breaches p None slots args) c.1 (all_declared p args parts.0) in
    let r = slots_fit s p None slots args g parts.0 (eqb-true (length args) (length slots) c.0) u in
    (r.0, r.2)
