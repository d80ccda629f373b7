-- The meaning of the infix language: what an expression is worth, and what a program does to its variables.
use Rattle.std.specs.Prelude.{ℕ, zero, suc, ℤ, pos, ◌+ℤ◌, ◌-ℤ◌, ◌*ℤ◌, neg_ℤ, int_le, List, slice_set, Some, None, Bool, true, false, not}
use Rattle.std.specs.{Prelude.{◌&&◌, ◌||◌, if◌then◌else◌}, Ordering.{int_eq}}
use Rattle.stack_text.specs.{declared.shape.Kind.TheVariants.{Integer}, Values.{ValueOf}}
use Rattle.gypsy_syntax.specs.{Effects.{integer_value, truth_value, item_of_value, is_true_value, value_at}, Ranges.{is_in_range}}
use Rattle.gypsy_syntax.specs.Programs.{Routine}
use Rattle.gypsy_semantics.specs.Meaning.{MeaningOutcome, Done, Unfinished, then_do, either_way}
use Rattle.mini_syntax.specs.{declared.sort.Sort.{Sort}, declared.operator.Prefix.{Prefix}, declared.operator.Prefix.TheVariants.{Not}}
use Rattle.mini_syntax.specs.{declared.operator.Prefix.TheVariants.{Minus}, declared.operator.Infix.{Infix}}
use Rattle.mini_syntax.specs.{declared.operator.Infix.TheVariants.{Or, And, AtMost, Equals, Add, Subtract, Multiply}, Language.{Exp}}
use Rattle.mini_syntax.specs.Language.{Variable, Before, Between, Stmt, Nothing, Then, Assign, While, If}
use Rattle.mini_syntax.specs.declared.sort.Sort.TheVariants as sort
use Rattle.mini_syntax.specs.Language as language

-- what an expression is worth: a number, a truth value, or a fault
pub data Worth : Type 0 where
  Number : (z : ℤ) → Worth
  Truth : (b : Bool) → Worth
  Fault : Worth

-- a result, which is a fault outside 32 signed bits
abbrev pub number_worth : ℤ → Worth
number_worth z = if is_in_range Integer z then Number z else Fault

abbrev pub same_truth : Bool → Bool → Bool
same_truth true b = b
same_truth false b = not b

unfoldable pub prefix_worth : Prefix → Worth → Worth
prefix_worth Not (Truth b) = Truth (not b)
prefix_worth Minus (Number z) = number_worth (neg_ℤ z)
prefix_worth op w = Fault

-- a fault also where an operand is one
unfoldable pub infix_worth : Infix → Worth → Worth → Worth
infix_worth Or (Truth a) (Truth b) = Truth (a || b)
infix_worth And (Truth a) (Truth b) = Truth (a && b)
infix_worth AtMost (Number y) (Number z) = Truth (int_le y z)
infix_worth Equals (Number y) (Number z) = Truth (int_eq y z)
infix_worth Equals (Truth a) (Truth b) = Truth (same_truth a b)
infix_worth Add (Number y) (Number z) = number_worth (y +ℤ z)
infix_worth Subtract (Number y) (Number z) = number_worth (y -ℤ z)
infix_worth Multiply (Number y) (Number z) = number_worth (y *ℤ z)
infix_worth op v w = Fault

-- what a variable with this value is worth
abbrev pub worth_in : Sort → ValueOf → Worth
worth_in sort.Int v = Number (item_of_value v)
worth_in sort.Bool v = Truth (is_true_value v)

-- what an expression is worth where the variables have these values: operands from left to right, all of them
unfoldable pub expression_value : Exp → List ValueOf → Worth
unfolding prefix_worth infix_worth
expression_value (Variable sort i) x = worth_in sort (value_at x i)
expression_value (language.Number n) x = Number (pos n)
expression_value (language.Truth b) x = Truth b
expression_value (Before op e) x = prefix_worth op (expression_value e x)
expression_value (Between op a b) x = infix_worth op (expression_value a x) (expression_value b x)

-- an assignment sets its variable; a fault ends the program with routineerror, and the variables stay
abbrev pub assigned : ℕ → Worth → List ValueOf → MeaningOutcome
assigned i (Number z) x = Done (slice_set x i (integer_value z)) None
assigned i (Truth b) x = Done (slice_set x i (truth_value b)) None
assigned i Fault x = Done x (Some Routine)

-- one of two runs, by a test; a fault in it ends the program in the same way
abbrev pub by_test : Worth → List ValueOf → MeaningOutcome → MeaningOutcome → MeaningOutcome
by_test (Truth b) x o p = either_way b o p
by_test (Number z) x o p = Done x (Some Routine)
by_test Fault x o p = Done x (Some Routine)

-- Statements run in turn with the same bound, and after one that is unfinished or ended the program no further one runs. The
-- bound falls at each further round of a `while`.
unfoldable pub program_run : Stmt → List ValueOf → ℕ → MeaningOutcome
unfolding expression_value
program_run s x zero = Unfinished
program_run Nothing x (suc n) = Done x None
program_run (Then s t) x (suc n) = then_do (program_run s x (suc n)) (λ y. program_run t y (suc n))
program_run (Assign i e) x (suc n) = assigned i (expression_value e x) x
program_run (While e s) x (suc n) =
    by_test (expression_value e x) x (then_do (program_run s x (suc n)) (λ y. program_run (While e s) y n)) (Done x None)
program_run (If e s t) x (suc n) = by_test (expression_value e x) x (program_run s x (suc n)) (program_run t x (suc n))
