-- What holds of each row of the predefined procedures, by computing it of all.
use Rattle.std.proofs.Common.{◌≤◌, ◌<◌, length, arith}
use Rattle.gypsy_syntax.{specs.declared.predef.Predef.Predef, specs.Effects.{Effect, Normal, Fault, Beyond}, specs.Predefined.{predefs, predef_cost}}
use Rattle.gypsy_syntax.specs.Predefined.{predef_ctrl, predef_number, predef_temp, predef_words}
use Rattle.gypsy_syntax.specs.declared.predef.Predef.TheVariants as row

pub number_below : (r : Predef) → predef_number r < length predefs
number_below row.MgSimpleVariableAssignment = omega arith
number_below r = omega arith

pub low_temp : (r : Predef) → predef_temp r ≤ 4
low_temp row.MgSimpleVariableAssignment = omega arith
low_temp r = omega arith

pub low_ctrl : (r : Predef) → predef_ctrl r ≤ 10
low_ctrl row.MgSimpleVariableAssignment = omega arith
low_ctrl r = omega arith

pub few_words : (r : Predef) → predef_words r ≤ 9
few_words row.MgSimpleVariableAssignment = omega arith
few_words r = omega arith

pub costs_some : (r : Predef) (e : Effect) → 0 < (predef_cost r e).0
unfolding predef_cost
costs_some row.MgSimpleVariableAssignment (Normal v) = omega arith
costs_some r (Normal v) = omega arith
costs_some row.MgSimpleVariableAssignment Fault = omega arith
costs_some r Fault = omega arith
costs_some row.MgSimpleVariableAssignment Beyond = omega arith
costs_some r Beyond = omega arith
