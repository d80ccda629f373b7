-- The closed programs compute.
use Rattle.std.proofs.Common.{refl}
use Rattle.piton_semantics.{specs.Views.{then_on, where_true}, specs.Step.{piton_run, run_cost, cost_after}}
use Rattle.gypsy_space.specs.Needs.{call_need}
use Rattle.gypsy_semantics.specs.Calls.{main_start, is_passed_on}
use Rattle.gypsy_codegen.specs.Examples.{ExamplesEnd}

pub examples_end : ExamplesEnd
unfolding piton_run then_on where_true run_cost cost_after call_need main_start is_passed_on
examples_end = record {
  nothing = (refl, refl);
  assigned = (refl, refl);
  left = (refl, refl);
  signalled = (refl, refl);
  is_true = (refl, refl);
  is_false = (refl, refl);
  called = (refl, refl);
  overflowed = (refl, refl);
  indexed = (refl, refl);
  too_high = (refl, refl);
  negative = (refl, refl);
  counted_down = (refl, refl);
  with_enough = (refl, refl);
  without_ctrl = (refl, refl);
  without_temp = (refl, refl);
  handled = (refl, refl);
  formal_out = (refl, refl);
  local_out = (refl, refl);
  uncaught = (refl, refl);
}
