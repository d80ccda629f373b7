-- The examples, computed.
use Rattle.std.proofs.Common.{refl}
use Rattle.gypsy_syntax.specs.Predefined.{predef_effect, effect_by}
use Rattle.gypsy_space.specs.Needs.{main_used}
use Rattle.gypsy_semantics.specs.Calls.{values_of, target_of, main_start, main_formals}
use Rattle.quick_moments.specs.StepExample.{StepsAreShown}

pub steps_are_shown : StepsAreShown
unfolding predef_effect effect_by values_of target_of main_used main_start main_formals
steps_are_shown = record { upto_marks = refl; upto_costs = refl; upto_count = refl; doubling_marks = refl; doubling_costs = refl }
