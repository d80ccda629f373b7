-- The marks and moments of the closed programs, by computing.
use Rattle.std.proofs.Common.{refl}
use Rattle.gypsy_space.specs.Costs.{spend}
use Rattle.gypsy_syntax.specs.Predefined.{predef_cost, predef_effect}
use Rattle.gypsy_semantics.specs.Calls.{main_start, main_formals, values_of, target_of}
use Rattle.gypsy_codegen.specs.MarkExamples.{MarksAre}

pub marks_are : MarksAre
unfolding spend predef_cost predef_effect main_start main_formals values_of target_of
marks_are = record { first = refl; first_addresses = refl; all = refl; begins = refl; ends = refl; stays = refl }
