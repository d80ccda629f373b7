-- What a predefined procedure writes has the shape of its first argument.
use Rattle.std.proofs.Common.{◌≡◌, ℕ, zero, suc, ◌<◌, ℤ, pos, negsuc, ◌+ℤ◌, ◌-ℤ◌, ◌*ℤ◌, neg_ℤ, List, [], ◌∷◌, map, length, get_or, slice_get, slice_set, nat_lt}
use Rattle.std.{proofs.Common.{if◌then◌else◌, Bool, true, false, Some, refl, ap, sym, ◌∙◌, subst, arith, true≢false, ltb-true, length-set}, specs.List.list_all}
use Rattle.std.proofs.lemmas.Bool.{and_parts, and_from}
use Rattle.stack_text.{specs.declared.shape.Kind.Kind, specs.declared.shape.Kind.TheVariants.Integer, specs.declared.shape.Shape.Shape, specs.Values.ValueOf}
use Rattle.gypsy_syntax.{specs.declared.predef.Predef.Predef, specs.declared.slot.Form.Form, specs.declared.slot.Form.TheVariants.{Simple, Array, Literal}}
use Rattle.gypsy_syntax.{specs.declared.slot.Slot.Slot, specs.Predefined.{slots_of, integer_slot, boolean_slot, shared, predef_effect}, specs.Programs.simple}
use Rattle.gypsy_syntax.{specs.Programs.{Arg, Var, Lit}, specs.ProgramFits.{ArgFits, ArgsFit, slot_kind}, specs.Ranges.is_in_range, specs.ValuesFit.ValueFits}
use Rattle.gypsy_syntax.{specs.ValuesFit.VarsFit, specs.Effects.{Effect, Normal, Fault, Beyond, integer_value, truth_value, item_of_value, value_at}}
use Rattle.gypsy_syntax.{specs.Effects.{number_effect, indexed, stored}, proofs.RangeLaws.{get_holds, simple_item}}
use Rattle.gypsy_syntax.specs.declared.predef.Predef.TheVariants as row
use Rattle.gypsy_semantics.specs.Calls.{value_of, values_of, target_of}

-- a value of this form and kind
abbrev FormFits : Form → Kind → ValueOf → Type 0
FormFits Simple k v = (v.shape ≡ simple k) × ValueFits v
FormFits Array k v = (n : ℕ) × (0 < n) × (v.shape ≡ record { kind = k; length = n }) × ValueFits v
FormFits Literal k v = (v.shape ≡ simple k) × ValueFits v

abbrev ValuesMatch : Kind → List Slot → List ValueOf → Type 0
ValuesMatch k [] [] = Unit {0}
ValuesMatch k [] (v ∷ vs) = ⊥
ValuesMatch k (slot ∷ slots) [] = ⊥
ValuesMatch k (slot ∷ slots) (v ∷ vs) = FormFits slot.form (slot_kind k slot.kind) v × ValuesMatch k slots vs

-- Variables.

pub value_fits : (shapes : List Shape) (x : List ValueOf) (i : ℕ) (s : Shape) → VarsFit shapes x → slice_get shapes i ≡ Some s
    → ((value_at x i).shape ≡ s) × ValueFits (value_at x i)
value_fits [] x i s h e = cc
value_fits (t ∷ shapes) [] i s h e = absurd h
value_fits (t ∷ shapes) (v ∷ x) zero s h e = let same : t ≡ s = cc in (h.0 ∙ same, h.1)
value_fits (t ∷ shapes) (v ∷ x) (suc i) s h e = value_fits shapes x i s h.2 e

pub set_fits : (shapes : List Shape) (x : List ValueOf) (i : ℕ) (v : ValueOf) → VarsFit shapes x → slice_get shapes i ≡ Some v.shape → ValueFits v
    → VarsFit shapes (slice_set x i v)
set_fits [] [] i v h e f = tt
set_fits [] (u ∷ x) i v h e f = absurd h
set_fits (t ∷ shapes) [] i v h e f = absurd h
set_fits (t ∷ shapes) (u ∷ x) zero v h e f = let same : v.shape ≡ t = cc in (same, f, h.2)
set_fits (t ∷ shapes) (u ∷ x) (suc i) v h e f = (h.0, h.1, set_fits shapes x i v h.2 e f)

-- Arguments.

arg_value : (shapes : List Shape) (x : List ValueOf) (form : Form) (k : Kind) (a : Arg) → VarsFit shapes x → ArgFits shapes form k a
    → FormFits form k (value_of x a)
arg_value shapes x Simple k (Var i) h f = value_fits shapes x i (simple k) h f
arg_value shapes x Array k (Var i) h f =
    let v = value_fits shapes x i record { kind = k; length = f.0 } h f.3 in
    (f.0, f.1, v.0, v.1)
arg_value shapes x Literal k (Var i) h f = absurd f
arg_value shapes x Simple k (Lit v) h f = absurd f
arg_value shapes x Array k (Lit v) h f = absurd f
arg_value shapes x Literal k (Lit v) h f = f

args_values : (shapes : List Shape) (x : List ValueOf) (k : Kind) (slots : List Slot) (args : List Arg) → VarsFit shapes x → ArgsFit shapes k slots args
    → ValuesMatch k slots (map (value_of x) args)
args_values shapes x k [] [] h f = tt
args_values shapes x k [] (a ∷ args) h f = absurd f
args_values shapes x k (slot ∷ slots) [] h f = absurd f
args_values shapes x k (slot ∷ slots) (a ∷ args) h f = (arg_value shapes x slot.form (slot_kind k slot.kind) a h f.0, args_values shapes x k slots args h f.1)

value_0 : (k : Kind) (s : Slot) (slots : List Slot) (vs : List ValueOf) → ValuesMatch k (s ∷ slots) vs → FormFits s.form (slot_kind k s.kind) (value_at vs 0)
value_0 k s slots [] h = absurd h
value_0 k s slots (v ∷ vs) h = h.0

value_1 : (k : Kind) (s t : Slot) (slots : List Slot) (vs : List ValueOf) → ValuesMatch k (s ∷ t ∷ slots) vs
    → FormFits t.form (slot_kind k t.kind) (value_at vs 1)
value_1 k s t slots [] h = absurd h
value_1 k s t slots (v ∷ vs) h = value_0 k t slots vs h.1

value_2 : (k : Kind) (s t u : Slot) (slots : List Slot) (vs : List ValueOf) → ValuesMatch k (s ∷ t ∷ u ∷ slots) vs
    → FormFits u.form (slot_kind k u.kind) (value_at vs 2)
value_2 k s t u slots [] h = absurd h
value_2 k s t u slots (v ∷ vs) h = value_1 k t u slots vs h.1

-- Effects.

abbrev EffectFits : Shape → Effect → Type 0
EffectFits s (Normal v) = (v.shape ≡ s) × ValueFits v
EffectFits s Fault = Unit {0}
EffectFits s Beyond = Unit {0}

pub truth_fits : (b : Bool) → ValueFits (truth_value b)
truth_fits true = record { few = omega arith; number = refl; items = refl }
truth_fits false = record { few = omega arith; number = refl; items = refl }

item_value : (k : Kind) (z : ℤ) → is_in_range k z ≡ true → ValueFits record { shape = simple k; items = z ∷ [] }
item_value k z e = record { few = omega arith; number = refl; items = and_from (is_in_range k z) true e refl }

number_fits : (z : ℤ) → EffectFits (simple Integer) (number_effect z)
number_fits z = pick (is_in_range Integer z) refl
  where
    pick : (b : Bool) → is_in_range Integer z ≡ b → EffectFits (simple Integer) (if b then Normal (integer_value z) else Fault)
    pick true e = (refl, item_value Integer z e)
    pick false e = tt

pub set_holds : (test : ℤ → Bool) (items : List ℤ) (i : ℕ) (z : ℤ) → list_all test items ≡ true → test z ≡ true → list_all test (slice_set items i z) ≡ true
set_holds test [] i z h e = refl
set_holds test (y ∷ items) zero z h e = and_from (test z) (list_all test items) e (and_parts (test y) (list_all test items) h).1
set_holds test (y ∷ items) (suc i) z h e =
    let p = and_parts (test y) (list_all test items) h in
    and_from (test y) (list_all test (slice_set items i z)) p.0 (set_holds test items i z p.1 e)

-- the item at an index is a simple value, or none is there
indexed_fits : (k : Kind) (n : ℕ) (a : ValueOf) (z : ℤ) → a.shape ≡ record { kind = k; length = n } → ValueFits a → EffectFits (simple k) (indexed a z)
indexed_fits k n a (negsuc i) e f = tt
indexed_fits k n a (pos i) e f = pick (nat_lt i (length a.items)) refl
  where
    kind_is : a.shape.kind ≡ k
    kind_is = ap (λ (s : Shape). s.kind) e

    pick : (b : Bool) → nat_lt i (length a.items) ≡ b → EffectFits (simple k)
        (if b then Normal record { shape = simple a.shape.kind; items = get_or a.items i (pos 0) ∷ [] } else Beyond)
    pick true l = (
      ap simple kind_is,
      item_value a.shape.kind (get_or a.items i (pos 0)) (get_holds (is_in_range a.shape.kind) a.items i f.items (ltb-true i (length a.items) l)),
    )
    pick false l = tt

stored_fits : (k : Kind) (n : ℕ) (a : ValueOf) (y z : ℤ) → a.shape ≡ record { kind = k; length = n } → ValueFits a → is_in_range k z ≡ true
    → EffectFits a.shape (stored a y z)
stored_fits k n a (negsuc i) z e f g = tt
stored_fits k n a (pos i) z e f g = pick (nat_lt i (length a.items))
  where
    good : is_in_range a.shape.kind z ≡ true
    good = ap (λ (s : Shape). is_in_range s.kind z) e ∙ g

    pick : (b : Bool) → EffectFits a.shape (if b then Normal record { shape = a.shape; items = slice_set a.items i z } else Beyond)
    pick true = (
      refl,
      record {
        few = f.few;
        number = length-set a.items i z ∙ f.number;
        items = set_holds (is_in_range a.shape.kind) a.items i z f.items good;
      },
    )
    pick false = tt

-- what is stored in an array is in the range of its kind
pub stored_item : (shapes : List Shape) (x : List ValueOf) (k : Kind) (args : List Arg) → VarsFit shapes x
    → ArgsFit shapes k (slots_of row.MgArrayElementAssignment) args → is_in_range (value_at (map (value_of x) args) 0).shape.kind
    (item_of_value (value_at (map (value_of x) args) 2)) ≡ true
stored_item shapes x k args h f =
    let vs = map (value_of x) args in
    let match : ValuesMatch k (slots_of row.MgArrayElementAssignment) vs = args_values shapes x k (slots_of row.MgArrayElementAssignment) args h f in
    let a = value_0 k (shared Array) (integer_slot ∷ shared Simple ∷ []) vs match in
    let z = value_2 k (shared Array) integer_slot (shared Simple) [] vs match in
    ap (λ (s : Shape). is_in_range s.kind (item_of_value (value_at vs 2))) a.2 ∙ simple_item k (value_at vs 2) z.0 z.1

truth_effect : (k : Kind) (s : Slot) (slots : List Slot) (vs : List ValueOf) (b : Bool) → ValuesMatch k (boolean_slot ∷ slots) vs
    → EffectFits (value_at vs 0).shape (Normal (truth_value b))
truth_effect k s slots vs b h = (sym (value_0 k boolean_slot slots vs h).0, truth_fits b)

number_of : (k : Kind) (slots : List Slot) (vs : List ValueOf) (z : ℤ) → ValuesMatch k (integer_slot ∷ slots) vs
    → EffectFits (value_at vs 0).shape (number_effect z)
number_of k slots vs z h = subst (λ s. EffectFits s (number_effect z)) (sym (value_0 k integer_slot slots vs h).0) (number_fits z)

effect_fits : (r : Predef) (k : Kind) (vs : List ValueOf) → ValuesMatch k (slots_of r) vs → EffectFits (value_at vs 0).shape (predef_effect r vs)
unfolding predef_effect
effect_fits row.MgSimpleVariableAssignment k vs h =
    let a = value_0 k (shared Simple) (shared Simple ∷ []) vs h in
    let b = value_1 k (shared Simple) (shared Simple) [] vs h in
    (b.0 ∙ sym a.0, b.1)
effect_fits row.MgSimpleConstantAssignment k vs h =
    let a = value_0 k (shared Simple) (shared Literal ∷ []) vs h in
    let b = value_1 k (shared Simple) (shared Literal) [] vs h in
    (b.0 ∙ sym a.0, b.1)
effect_fits row.MgSimpleVariableEq k vs h = truth_effect k boolean_slot (shared Simple ∷ shared Simple ∷ []) vs _ h
effect_fits row.MgSimpleConstantEq k vs h = truth_effect k boolean_slot (shared Simple ∷ shared Literal ∷ []) vs _ h
effect_fits row.MgIntegerLe k vs h = truth_effect k boolean_slot (integer_slot ∷ integer_slot ∷ []) vs _ h
effect_fits row.MgIntegerUnaryMinus k vs h = number_of k (integer_slot ∷ []) vs (neg_ℤ (item_of_value (value_at vs 1))) h
effect_fits row.MgIntegerAdd k vs h =
    number_of k (integer_slot ∷ integer_slot ∷ []) vs (item_of_value (value_at vs 1) +ℤ item_of_value (value_at vs 2)) h
effect_fits row.MgIntegerSubtract k vs h =
    number_of k (integer_slot ∷ integer_slot ∷ []) vs (item_of_value (value_at vs 1) -ℤ item_of_value (value_at vs 2)) h
effect_fits row.MgIntegerMultiply k vs h =
    number_of k (integer_slot ∷ integer_slot ∷ []) vs (item_of_value (value_at vs 1) *ℤ item_of_value (value_at vs 2)) h
effect_fits row.MgBooleanOr k vs h = truth_effect k boolean_slot (boolean_slot ∷ boolean_slot ∷ []) vs _ h
effect_fits row.MgBooleanAnd k vs h = truth_effect k boolean_slot (boolean_slot ∷ boolean_slot ∷ []) vs _ h
effect_fits row.MgBooleanNot k vs h = truth_effect k boolean_slot (boolean_slot ∷ []) vs _ h
effect_fits row.MgIndexArray k vs h =
    let d = value_0 k (shared Simple) (shared Array ∷ integer_slot ∷ []) vs h in
    let a = value_1 k (shared Simple) (shared Array) (integer_slot ∷ []) vs h in
    subst (λ s. EffectFits s (indexed (value_at vs 1) (item_of_value (value_at vs 2)))) (sym d.0)
    (indexed_fits k a.0 (value_at vs 1) (item_of_value (value_at vs 2)) a.2 a.3)
effect_fits row.MgArrayElementAssignment k vs h =
    let a = value_0 k (shared Array) (integer_slot ∷ shared Simple ∷ []) vs h in
    let x = value_2 k (shared Array) integer_slot (shared Simple) [] vs h in
    stored_fits k a.0 (value_at vs 0) (item_of_value (value_at vs 1)) (item_of_value (value_at vs 2)) a.2 a.3 (simple_item k (value_at vs 2) x.0 x.1)

-- The variable that is written.

abbrev is_variable : Form → Bool
is_variable Simple = true
is_variable Array = true
is_variable Literal = false

variable_shape : (shapes : List Shape) (form : Form) (k : Kind) (i : ℕ) → ArgFits shapes form k (Var i) → (t : Shape) × (slice_get shapes i ≡ Some t)
variable_shape shapes Simple k i f = (simple k, f)
variable_shape shapes Array k i f = (record { kind = k; length = f.0 }, f.3)
variable_shape shapes Literal k i f = absurd f

no_literal : (shapes : List Shape) (form : Form) (k : Kind) (v : ValueOf) → is_variable form ≡ true → ArgFits shapes form k (Lit v) → ⊥
no_literal shapes Simple k v e f = f
no_literal shapes Array k v e f = f
no_literal shapes Literal k v e f = true≢false (sym e)

target_shape : (shapes : List Shape) (x : List ValueOf) (k : Kind) (s : Slot) (slots : List Slot) (args : List Arg) → is_variable s.form ≡ true
    → VarsFit shapes x → ArgsFit shapes k (s ∷ slots) args → slice_get shapes (target_of args) ≡ Some (value_at (map (value_of x) args) 0).shape
unfolding target_of
target_shape shapes x k s slots [] e h f = absurd f
target_shape shapes x k s slots (Lit v ∷ args) e h f = absurd (no_literal shapes s.form (slot_kind k s.kind) v e f.0)
target_shape shapes x k s slots (Var i ∷ args) e h f =
    let t = variable_shape shapes s.form (slot_kind k s.kind) i f.0 in
    t.1 ∙ ap Some (sym (value_fits shapes x i t.0 h t.1).0)

-- the first argument of each is a variable
first_slot : (r : Predef) → (s : Slot) × (slots : List Slot) × (slots_of r ≡ s ∷ slots) × (is_variable s.form ≡ true)
first_slot row.MgSimpleVariableAssignment = (_, _, refl, refl)
first_slot r = (_, _, refl, refl)

-- a predefined call keeps the variables' shapes
pub apply_fits : (shapes : List Shape) (x : List ValueOf) (k : Kind) (r : Predef) (args : List Arg) (v : ValueOf) → VarsFit shapes x
    → ArgsFit shapes k (slots_of r) args → predef_effect r (values_of x args) ≡ Normal v → VarsFit shapes (slice_set x (target_of args) v)
unfolding values_of
apply_fits shapes x k r args v h f e =
    let s = first_slot r in
    let match : ValuesMatch k (slots_of r) (map (value_of x) args) = args_values shapes x k (slots_of r) args h f in
    let written : EffectFits (value_at (map (value_of x) args) 0).shape (Normal v) =
    subst (EffectFits (value_at (map (value_of x) args) 0).shape) e (effect_fits r k (map (value_of x) args) match) in
    let target = target_shape shapes x k s.0 s.1 args s.3 h (subst (λ slots. ArgsFit shapes k slots args) s.2 f) in
    set_fits shapes x (target_of args) v h (target ∙ ap Some (sym written.0)) written.1
