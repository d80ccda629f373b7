-- The values of variables, as worths of their sorts.
use Rattle.std.{proofs.Common.{◌≡◌, ℕ, zero, suc, ◌<◌, List, [], ◌∷◌, length, true, false, Some, refl, ap, subst, arith}, specs.Prelude.{slice_get, slice_set}}
use Rattle.std.specs.Prelude.{◌+ℤ◌, ◌-ℤ◌, ◌*ℤ◌}
use Rattle.std.specs.Prelude as std
use Rattle.stack_text.{specs.Values.ValueOf, specs.declared.shape.Kind.TheVariants.Integer}
use Rattle.gypsy_syntax.{specs.Effects.{Normal, integer_value, truth_value, value_at}, specs.Ranges.is_in_range}
use Rattle.mini_syntax.{specs.declared.sort.Sort.Sort, specs.declared.sort.Sort.TheVariants.{Int, Bool}, specs.declared.operator.Prefix.Prefix}
use Rattle.mini_syntax.{specs.declared.operator.Prefix.TheVariants.{Not, Minus}, specs.declared.operator.Infix.Infix}
use Rattle.mini_syntax.{specs.declared.operator.Infix.TheVariants.{Or, And, AtMost, Equals, Add, Subtract, Multiply}, specs.Language.{Exp, Variable, Before}}
use Rattle.mini_syntax.{specs.Language.Between, specs.Operands.{sort_of, prefix_sort, infix_sort}}
use Rattle.mini_syntax.specs.Language as language
use Rattle.mini_gypsy.{specs.Meant.{Worth, Number, Truth, Fault, number_worth, prefix_worth, infix_worth, worth_in, expression_value}, proofs.RowLaws.effect_of}

-- a worth of the sort, or a fault
abbrev pub HasSort : Sort → Worth → Type 0
HasSort s (Number z) = s ≡ Int
HasSort s (Truth b) = s ≡ Bool
HasSort s Fault = Unit {0}

-- a value is the worth's, unless that is a fault
abbrev pub Holds : Worth → ValueOf → Type 0
Holds (Number z) v = v ≡ integer_value z
Holds (Truth b) v = v ≡ truth_value b
Holds Fault v = Unit {0}

-- each variable has a simple value of its sort
abbrev pub AreHeld : List Sort → List ValueOf → Type 0
AreHeld [] [] = Unit {0}
AreHeld [] (v ∷ d) = ⊥
AreHeld (s ∷ sorts) [] = ⊥
AreHeld (s ∷ sorts) (v ∷ d) = Holds (worth_in s v) v × AreHeld sorts d

pub held_length : (sorts : List Sort) (d : List ValueOf) → AreHeld sorts d → length d ≡ length sorts
held_length [] [] h = refl
held_length [] (v ∷ d) h = absurd h
held_length (s ∷ sorts) [] h = absurd h
held_length (s ∷ sorts) (v ∷ d) h = ap suc (held_length sorts d h.1)

pub record IsThere (s : Sort) (d : List ValueOf) (i : ℕ) : Type 0 where
  pub below : i < length d
  pub holds : Holds (worth_in s (value_at d i)) (value_at d i)

pub held_there : (sorts : List Sort) (d : List ValueOf) (i : ℕ) (s : Sort) → AreHeld sorts d → slice_get sorts i ≡ Some s → IsThere s d i
held_there [] d i s h e = cc
held_there (r ∷ sorts) [] i s h e = absurd h
held_there (r ∷ sorts) (v ∷ d) zero s h e =
    let same : r ≡ s = cc in
    record { below = omega arith; holds = subst (λ (p : Sort). Holds (worth_in p v) v) same h.0 }
held_there (r ∷ sorts) (v ∷ d) (suc i) s h e =
    let rest = held_there sorts d i s h.1 e in
    record { below = let lt = rest.below in omega arith; holds = rest.holds }

pub held_set : (sorts : List Sort) (d : List ValueOf) (i : ℕ) (s : Sort) (v : ValueOf) → AreHeld sorts d → slice_get sorts i ≡ Some s
    → Holds (worth_in s v) v → AreHeld sorts (slice_set d i v)
held_set [] d i s v h e holds = cc
held_set (r ∷ sorts) [] i s v h e holds = absurd h
held_set (r ∷ sorts) (w ∷ d) zero s v h e holds =
    let same : s ≡ r = cc in
    (subst (λ (p : Sort). Holds (worth_in p v) v) same holds, h.1)
held_set (r ∷ sorts) (w ∷ d) (suc i) s v h e holds = (h.0, held_set sorts d i s v h.1 e holds)

-- a value that was written is read again
pub number_again : (z : std.ℤ) → Holds (worth_in Int (integer_value z)) (integer_value z)
number_again z = refl

pub truth_again : (b : std.Bool) → Holds (worth_in Bool (truth_value b)) (truth_value b)
truth_again true = refl
truth_again false = refl

-- what a variable's value is, as an effect
pub held_effect : (s : Sort) (v : ValueOf) → Holds (worth_in s v) v → Normal v ≡ effect_of (worth_in s v)
held_effect Int v h = ap Normal h
held_effect Bool v h = ap Normal h

variable_sort : (s : Sort) (v : ValueOf) → HasSort s (worth_in s v)
variable_sort Int v = refl
variable_sort Bool v = refl

number_sort : (z : std.ℤ) → HasSort Int (number_worth z)
number_sort z = pick (is_in_range Integer z)
  where
    pick : (b : std.Bool) → HasSort Int (std.cond b (Number z) Fault)
    pick true = refl
    pick false = tt

prefix_result : (op : Prefix) (w : Worth) → HasSort (prefix_sort op) (prefix_worth op w)
unfolding prefix_worth
prefix_result Not (Number z) = tt
prefix_result Not (Truth b) = refl
prefix_result Not Fault = tt
prefix_result Minus (Number z) = number_sort (std.neg_ℤ z)
prefix_result Minus (Truth b) = tt
prefix_result Minus Fault = tt

infix_result : (op : Infix) (v w : Worth) → HasSort (infix_sort op) (infix_worth op v w)
unfolding infix_worth
infix_result Or (Number y) w = tt
infix_result Or (Truth a) (Number z) = tt
infix_result Or (Truth a) (Truth b) = refl
infix_result Or (Truth a) Fault = tt
infix_result Or Fault w = tt
infix_result And (Number y) w = tt
infix_result And (Truth a) (Number z) = tt
infix_result And (Truth a) (Truth b) = refl
infix_result And (Truth a) Fault = tt
infix_result And Fault w = tt
infix_result AtMost (Number y) (Number z) = refl
infix_result AtMost (Number y) (Truth b) = tt
infix_result AtMost (Number y) Fault = tt
infix_result AtMost (Truth a) w = tt
infix_result AtMost Fault w = tt
infix_result Equals (Number y) (Number z) = refl
infix_result Equals (Number y) (Truth b) = tt
infix_result Equals (Number y) Fault = tt
infix_result Equals (Truth a) (Number z) = tt
infix_result Equals (Truth a) (Truth b) = refl
infix_result Equals (Truth a) Fault = tt
infix_result Equals Fault w = tt
infix_result Add (Number y) (Number z) = number_sort (y +ℤ z)
infix_result Add (Number y) (Truth b) = tt
infix_result Add (Number y) Fault = tt
infix_result Add (Truth a) w = tt
infix_result Add Fault w = tt
infix_result Subtract (Number y) (Number z) = number_sort (y -ℤ z)
infix_result Subtract (Number y) (Truth b) = tt
infix_result Subtract (Number y) Fault = tt
infix_result Subtract (Truth a) w = tt
infix_result Subtract Fault w = tt
infix_result Multiply (Number y) (Number z) = number_sort (y *ℤ z)
infix_result Multiply (Number y) (Truth b) = tt
infix_result Multiply (Number y) Fault = tt
infix_result Multiply (Truth a) w = tt
infix_result Multiply Fault w = tt

-- an expression is worth something of its sort
pub value_sort : (e : Exp) (d : List ValueOf) → HasSort (sort_of e) (expression_value e d)
unfolding expression_value
value_sort (Variable s i) d = variable_sort s (value_at d i)
value_sort (language.Number n) d = refl
value_sort (language.Truth b) d = refl
value_sort (Before op e) d = prefix_result op (expression_value e d)
value_sort (Between op a b) d = infix_result op (expression_value a d) (expression_value b d)
