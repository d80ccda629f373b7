-- Whether values and sizes suit the start of a run.
use Rattle.std.{proofs.Common.{◌≡◌, List, [], ◌∷◌, ◌==◌, ◌&&◌, length, nat_le, true, refl, sym, subst, eqb-true, eq-eqb, le-leb}, specs.List.list_all}
use Rattle.std.proofs.lemmas.Bool.{and_parts, and_from, leb-true}
use Rattle.stack_text.{specs.declared.shape.Shape.Shape, specs.Values.{ValueOf, item_count, same_kind}, proofs.SharedLaws.kind_same}
use Rattle.gypsy_syntax.{specs.Ranges.is_in_range, specs.ValuesFit.{ValueFits, VarsFit}, specs.Programs.{Program, proc_at}}
use Rattle.gypsy_check.proofs.LiteralLaws.{kind_self}
use Rattle.gypsy_space.specs.Needs.{StackSizes, main_need}
use Rattle.gypsy_semantics.specs.Views.Fitting.{CanStart, are_as_many, are_values, can_start, is_value_of, same_shape, suffice}

shapes_same : (a b : Shape) → same_shape a b ≡ true → a ≡ b
shapes_same a b e =
    let p = and_parts (same_kind a.kind b.kind) (a.length == b.length) e in
    let k = kind_same a.kind b.kind p.0 in
    let n = eqb-true a.length b.length p.1 in
    λ i. record { kind = k i; length = n i }

shape_itself : (a : Shape) → same_shape a a ≡ true
shape_itself a = and_from (same_kind a.kind a.kind) (a.length == a.length) (kind_self a.kind) (eq-eqb a.length a.length refl)

value_is : (s : Shape) (v : ValueOf) → is_value_of s v ≡ true → (v.shape ≡ s) × ValueFits v
unfolding is_value_of
value_is s v e =
    let a = and_parts (same_shape v.shape s && are_as_many s v.items) (list_all (is_in_range s.kind) v.items) e in
    let b = and_parts (same_shape v.shape s) (are_as_many s v.items) a.0 in
    let d = and_parts (nat_le s.length 4096) (length v.items == item_count s) b.1 in
    let same : v.shape ≡ s = shapes_same v.shape s b.0 in
    let P : Shape → Type 0 = λ t. ValueFits record { shape = t; items = v.items } in
    let fits : P s = record { few = leb-true s.length 4096 d.0; number = eqb-true (length v.items) (item_count s) d.1; items = a.1 } in
    (same, subst P (sym same) fits)

value_of_shape : (s : Shape) (v : ValueOf) → v.shape ≡ s → ValueFits v → is_value_of s v ≡ true
unfolding is_value_of
value_of_shape s v same fits =
    let P : Shape → Type 0 = λ t. is_value_of t v ≡ true in
    subst P same
    (and_from (same_shape v.shape v.shape && are_as_many v.shape v.items) (list_all (is_in_range v.shape.kind) v.items)
    (and_from (same_shape v.shape v.shape) (are_as_many v.shape v.items) (shape_itself v.shape)
    (and_from (nat_le v.shape.length 4096) (length v.items == item_count v.shape) (le-leb v.shape.length 4096 fits.few)
    (eq-eqb (length v.items) (item_count v.shape) fits.number)))
    fits.items)

pub values_are : (shapes : List Shape) (x : List ValueOf) → are_values shapes x ≡ true → VarsFit shapes x
values_are [] [] e = tt
values_are [] (v ∷ x) e = absurd cc
values_are (s ∷ shapes) [] e = absurd cc
values_are (s ∷ shapes) (v ∷ x) e =
    let p = and_parts (is_value_of s v) (are_values shapes x) e in
    let h = value_is s v p.0 in
    (h.0, h.1, values_are shapes x p.1)

pub are_those : (shapes : List Shape) (x : List ValueOf) → VarsFit shapes x → are_values shapes x ≡ true
are_those [] [] h = refl
are_those [] (v ∷ x) h = absurd h
are_those (s ∷ shapes) [] h = absurd h
are_those (s ∷ shapes) (v ∷ x) h = and_from (is_value_of s v) (are_values shapes x) (value_of_shape s v h.0 h.1) (are_those shapes x h.2)

pub is_start : (q : Program) (x : List ValueOf) (sizes : StackSizes) → can_start q x sizes ≡ true → CanStart q x sizes
is_start q x sizes e =
    let need = main_need q in
    let p = and_parts (are_values (proc_at q q.main).formals x) (suffice need sizes) e in
    let r = and_parts (nat_le need.temp sizes.temp) (nat_le need.ctrl sizes.ctrl) p.1 in
    record {
      values_fit = values_are (proc_at q q.main).formals x p.0;
      sizes_suffice = record { temp = leb-true need.temp sizes.temp r.0; ctrl = leb-true need.ctrl sizes.ctrl r.1 };
    }

pub start_is : (q : Program) (x : List ValueOf) (sizes : StackSizes) → CanStart q x sizes → can_start q x sizes ≡ true
start_is q x sizes h =
    let need = main_need q in
    and_from (are_values (proc_at q q.main).formals x) (suffice need sizes) (are_those (proc_at q q.main).formals x h.values_fit)
    (and_from (nat_le need.temp sizes.temp) (nat_le need.ctrl sizes.ctrl) (le-leb need.temp sizes.temp h.sizes_suffice.temp)
    (le-leb need.ctrl sizes.ctrl h.sizes_suffice.ctrl))
