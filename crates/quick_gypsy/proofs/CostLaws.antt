-- Each row of quick code takes no more instructions than the predefined call that it stands for.
use Rattle.std.proofs.Common.{◌≤◌, List, arith}
use Rattle.stack_text.specs.Values.{ValueOf}
use Rattle.gypsy_syntax.{specs.declared.predef.Predef.Predef, specs.Programs.Arg, specs.Predefined.predef_cost, specs.Effects.{Effect, Normal, Fault, Beyond}}
use Rattle.gypsy_syntax.specs.Effects.{value_at, item_of_value}
use Rattle.gypsy_syntax.specs.declared.predef.Predef.TheVariants as row
use Rattle.quick_code.{specs.Access.{Access, Held, Known, find_count}, specs.Products.product_count, proofs.ProductNumbers.product_few}
use Rattle.quick_gypsy.{specs.Layout.Layout, specs.RowCode.{assign_count, row_cost, arg_access}}

pub find_small : (x : Access) → find_count x ≤ 1
find_small (Held k) = omega arith
find_small (Known a) = omega arith

assign_small : (x y : Access) → assign_count x y ≤ 28
assign_small x (Held k) = omega (arith, find_small x)
assign_small x (Known a) = omega (arith, find_small x)

product_small : (vs : List ValueOf) → product_count (item_of_value (value_at vs 1)) (item_of_value (value_at vs 2)) ≤ 165
product_small vs = product_few (item_of_value (value_at vs 1)) (item_of_value (value_at vs 2))

pub row_bound : (L : Layout) (args : List Arg) (r : Predef) (vs : List ValueOf) (e : Effect) → row_cost L args r vs e ≤ (predef_cost r e).0
unfolding predef_cost
row_bound L args row.MgSimpleVariableAssignment vs e = assign_small (arg_access L args 0) (arg_access L args 1)
row_bound L args row.MgSimpleConstantAssignment vs e = omega (arith, find_small (arg_access L args 0))
row_bound L args row.MgSimpleVariableEq vs e =
    omega (arith, find_small (arg_access L args 0), find_small (arg_access L args 1), find_small (arg_access L args 2))
row_bound L args row.MgSimpleConstantEq vs e = omega (arith, find_small (arg_access L args 0), find_small (arg_access L args 1))
row_bound L args row.MgIntegerLe vs e =
    omega (arith, find_small (arg_access L args 0), find_small (arg_access L args 1), find_small (arg_access L args 2))
row_bound L args row.MgIntegerUnaryMinus vs (Normal v) = omega (arith, find_small (arg_access L args 0), find_small (arg_access L args 1))
row_bound L args row.MgIntegerUnaryMinus vs Fault = omega (arith, find_small (arg_access L args 1))
row_bound L args row.MgIntegerUnaryMinus vs Beyond = omega (arith, find_small (arg_access L args 1))
row_bound L args row.MgIntegerAdd vs (Normal v) =
    omega (arith, find_small (arg_access L args 0), find_small (arg_access L args 1), find_small (arg_access L args 2))
row_bound L args row.MgIntegerAdd vs Fault = omega (arith, find_small (arg_access L args 1), find_small (arg_access L args 2))
row_bound L args row.MgIntegerAdd vs Beyond = omega (arith, find_small (arg_access L args 1), find_small (arg_access L args 2))
row_bound L args row.MgIntegerSubtract vs (Normal v) =
    omega (arith, find_small (arg_access L args 0), find_small (arg_access L args 1), find_small (arg_access L args 2))
row_bound L args row.MgIntegerSubtract vs Fault = omega (arith, find_small (arg_access L args 1), find_small (arg_access L args 2))
row_bound L args row.MgIntegerSubtract vs Beyond = omega (arith, find_small (arg_access L args 1), find_small (arg_access L args 2))
row_bound L args row.MgIntegerMultiply vs (Normal v) =
    omega (arith, find_small (arg_access L args 0), find_small (arg_access L args 1), find_small (arg_access L args 2), product_small vs)
row_bound L args row.MgIntegerMultiply vs Fault =
    omega (arith, find_small (arg_access L args 1), find_small (arg_access L args 2), product_small vs)
row_bound L args row.MgIntegerMultiply vs Beyond =
    omega (arith, find_small (arg_access L args 1), find_small (arg_access L args 2), product_small vs)
row_bound L args row.MgBooleanOr vs e =
    omega (arith, find_small (arg_access L args 0), find_small (arg_access L args 1), find_small (arg_access L args 2))
row_bound L args row.MgBooleanAnd vs e =
    omega (arith, find_small (arg_access L args 0), find_small (arg_access L args 1), find_small (arg_access L args 2))
row_bound L args row.MgBooleanNot vs e = omega (arith, find_small (arg_access L args 0), find_small (arg_access L args 1))
row_bound L args row.MgIndexArray vs (Normal v) = omega (arith, find_small (arg_access L args 0), find_small (arg_access L args 2))
row_bound L args row.MgIndexArray vs Fault = omega (arith, find_small (arg_access L args 2))
row_bound L args row.MgIndexArray vs Beyond = omega (arith, find_small (arg_access L args 2))
row_bound L args row.MgArrayElementAssignment vs (Normal v) = omega (arith, find_small (arg_access L args 1), find_small (arg_access L args 2))
row_bound L args row.MgArrayElementAssignment vs Fault = omega (arith, find_small (arg_access L args 1))
row_bound L args row.MgArrayElementAssignment vs Beyond = omega (arith, find_small (arg_access L args 1))
