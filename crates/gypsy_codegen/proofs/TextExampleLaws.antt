-- The texts of the closed sources, by computing.
use Rattle.std.{proofs.Common.refl, specs.Fmt.digits}
use Rattle.stack_text.specs.Names.{place_among}
use Rattle.gypsy_space.specs.Needs.{call_need}
use Rattle.gypsy_semantics.specs.Calls.{is_passed_on}
use Rattle.gypsy_codegen.{specs.Written.label_text, specs.TextExamples.TextsAre}

pub texts_are : TextsAre
unfolding digits place_among call_need is_passed_on label_text
texts_are = record { of_leaving = refl; of_passing_on = refl }
