use Rattle.quick_generate.{proofs.ExampleLaws.{swap_is_quickened, upto_is_quickened}, proofs.StoredLaws.{sources_are_quickened, texts_are_quickened}}
use Rattle.quick_generate.proofs.laws.quickened_images_mean.Goals as goal

pub returns-clause-sources : goal.returns-clause-sources
returns-clause-sources c =
    sources_are_quickened c.runs_are_meant.ensures c.quick_images_implement.ensures c.quick_programs_are_no_slower.ensures
    c.quick_images_end_as_meant.ensures.ends c.quick_images_end_as_meant.ensures.goes_on

pub returns-clause-texts : goal.returns-clause-texts
returns-clause-texts c =
    texts_are_quickened c.runs_are_meant.ensures c.quick_images_implement.ensures c.quick_programs_are_no_slower.ensures
    c.quick_images_end_as_meant.ensures.ends c.quick_images_end_as_meant.ensures.goes_on c.builds_implement.ensures.implements
    c.builds_stay_inside.ensures.base

pub returns-clause-example : goal.returns-clause-example
returns-clause-example c = upto_is_quickened

pub returns-clause-call : goal.returns-clause-call
returns-clause-call c = swap_is_quickened
