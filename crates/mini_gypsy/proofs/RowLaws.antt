-- Each operator's predefined procedure does what the operator does.
use Rattle.std.{proofs.Common.{◌≡◌, ℕ, ℤ, ◌+ℤ◌, ◌-ℤ◌, ◌*ℤ◌, neg_ℤ, List, [], ◌∷◌, true, false, not, ◌||◌, ◌&&◌, refl, ap}, specs.Prelude.Bool}
use Rattle.std.specs.Prelude as std
use Rattle.stack_text.{specs.Values.ValueOf, specs.declared.shape.Kind.TheVariants.Integer}
use Rattle.gypsy_syntax.{specs.Predefined.effect_by, specs.Effects.{Effect, Normal, integer_value, truth_value, value_at, number_effect, is_true_value}}
use Rattle.gypsy_syntax.{specs.Effects.are_same, specs.Ranges.is_in_range, specs.Programs.{Arg, Var}}
use Rattle.gypsy_syntax.specs.Effects as effect
use Rattle.gypsy_semantics.{specs.Calls.target_of, specs.Meaning.applied}
use Rattle.mini_syntax.specs.declared.sort.Sort.TheVariants as sort
use Rattle.mini_syntax.{specs.declared.operator.Prefix.Prefix, specs.declared.operator.Prefix.TheVariants.{Not, Minus}, specs.declared.operator.Infix.Infix}
use Rattle.mini_syntax.{specs.declared.operator.Infix.TheVariants.{Or, And, AtMost, Equals, Add, Subtract, Multiply}, specs.Operands.prefix_takes}
use Rattle.mini_syntax.specs.Operands.{infix_takes}
use Rattle.mini_gypsy.{specs.Meant.{Worth, Number, Truth, Fault, number_worth, prefix_worth, infix_worth, same_truth, assigned}, specs.Steps.prefix_row}
use Rattle.mini_gypsy.specs.Steps.{infix_row}

abbrev pub effect_of : Worth → Effect
effect_of (Number z) = Normal (integer_value z)
effect_of (Truth b) = Normal (truth_value b)
effect_of Fault = effect.Fault

-- what a predefined procedure writes is what an assignment writes
pub applied_worth : (c : ℕ) (args : List Arg) (w : Worth) (x : List ValueOf) → applied (Var c ∷ args) (effect_of w) x ≡ assigned c w x
unfolding target_of
applied_worth c args (Number z) x = refl
applied_worth c args (Truth b) x = refl
applied_worth c args Fault x = refl

number_is : (z : ℤ) → number_effect z ≡ effect_of (number_worth z)
number_is z = pick (is_in_range Integer z)
  where
    pick : (b : Bool) → std.cond b (Normal (integer_value z)) effect.Fault ≡ effect_of (std.cond b (Number z) Fault)
    pick true = refl
    pick false = refl

truth_is : (b : Bool) → is_true_value (truth_value b) ≡ b
truth_is true = refl
truth_is false = refl

pub prefix_number : (op : Prefix) (c : ValueOf) (z : ℤ) → prefix_takes op sort.Int ≡ true →
    effect_by (prefix_row op) (value_at (c ∷ integer_value z ∷ [])) ≡ effect_of (prefix_worth op (Number z))
unfolding effect_by prefix_worth
prefix_number Not c z e = cc
prefix_number Minus c z e = number_is (neg_ℤ z)

pub prefix_truth : (op : Prefix) (c : ValueOf) (b : Bool) → prefix_takes op sort.Bool ≡ true →
    effect_by (prefix_row op) (value_at (c ∷ truth_value b ∷ [])) ≡ effect_of (prefix_worth op (Truth b))
unfolding effect_by prefix_worth
prefix_truth Not c b e = ap (λ (a : Bool). Normal (truth_value (not a))) (truth_is b)
prefix_truth Minus c b e = cc

pub infix_numbers : (op : Infix) (c : ValueOf) (y z : ℤ) → infix_takes op sort.Int sort.Int ≡ true →
    effect_by (infix_row op) (value_at (c ∷ integer_value y ∷ integer_value z ∷ [])) ≡ effect_of (infix_worth op (Number y) (Number z))
unfolding effect_by infix_worth
infix_numbers Or c y z e = cc
infix_numbers And c y z e = cc
infix_numbers AtMost c y z e = refl
infix_numbers Equals c y z e = refl
infix_numbers Add c y z e = number_is (y +ℤ z)
infix_numbers Subtract c y z e = number_is (y -ℤ z)
infix_numbers Multiply c y z e = number_is (y *ℤ z)

same_is : (a b : Bool) → are_same (truth_value a) (truth_value b) ≡ same_truth a b
same_is true true = refl
same_is true false = refl
same_is false true = refl
same_is false false = refl

or_is : (a b : Bool) → (is_true_value (truth_value a) || is_true_value (truth_value b)) ≡ (a || b)
or_is true b = refl
or_is false b = truth_is b

and_is : (a b : Bool) → (is_true_value (truth_value a) && is_true_value (truth_value b)) ≡ (a && b)
and_is true b = truth_is b
and_is false b = refl

pub infix_truths : (op : Infix) (c : ValueOf) (a b : Bool) → infix_takes op sort.Bool sort.Bool ≡ true →
    effect_by (infix_row op) (value_at (c ∷ truth_value a ∷ truth_value b ∷ [])) ≡ effect_of (infix_worth op (Truth a) (Truth b))
unfolding effect_by infix_worth
infix_truths Or c a b e = ap (λ (v : Bool). Normal (truth_value v)) (or_is a b)
infix_truths And c a b e = ap (λ (v : Bool). Normal (truth_value v)) (and_is a b)
infix_truths AtMost c a b e = cc
infix_truths Equals c a b e = ap (λ (v : Bool). Normal (truth_value v)) (same_is a b)
infix_truths Add c a b e = cc
infix_truths Subtract c a b e = cc
infix_truths Multiply c a b e = cc

pub no_mixed : (op : Infix) → infix_takes op sort.Int sort.Bool ≡ true → ⊥
no_mixed Or e = cc
no_mixed And e = cc
no_mixed AtMost e = cc
no_mixed Equals e = cc
no_mixed Add e = cc
no_mixed Subtract e = cc
no_mixed Multiply e = cc

pub no_mixed_either : (op : Infix) → infix_takes op sort.Bool sort.Int ≡ true → ⊥
no_mixed_either Or e = cc
no_mixed_either And e = cc
no_mixed_either AtMost e = cc
no_mixed_either Equals e = cc
no_mixed_either Add e = cc
no_mixed_either Subtract e = cc
no_mixed_either Multiply e = cc

-- a fault of an operand is a fault
pub prefix_fault : (op : Prefix) → prefix_worth op Fault ≡ Fault
unfolding prefix_worth
prefix_fault Not = refl
prefix_fault Minus = refl

pub infix_fault : (op : Infix) (w : Worth) → infix_worth op Fault w ≡ Fault
unfolding infix_worth
infix_fault Or w = refl
infix_fault And w = refl
infix_fault AtMost w = refl
infix_fault Equals w = refl
infix_fault Add w = refl
infix_fault Subtract w = refl
infix_fault Multiply w = refl

pub infix_second : (op : Infix) (v : Worth) → infix_worth op v Fault ≡ Fault
unfolding infix_worth
infix_second Or (Number z) = refl
infix_second Or (Truth b) = refl
infix_second Or Fault = refl
infix_second And (Number z) = refl
infix_second And (Truth b) = refl
infix_second And Fault = refl
infix_second AtMost (Number z) = refl
infix_second AtMost (Truth b) = refl
infix_second AtMost Fault = refl
infix_second Equals (Number z) = refl
infix_second Equals (Truth b) = refl
infix_second Equals Fault = refl
infix_second Add (Number z) = refl
infix_second Add (Truth b) = refl
infix_second Add Fault = refl
infix_second Subtract (Number z) = refl
infix_second Subtract (Truth b) = refl
infix_second Subtract Fault = refl
infix_second Multiply (Number z) = refl
infix_second Multiply (Truth b) = refl
infix_second Multiply Fault = refl
