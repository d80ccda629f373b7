use Rattle.cli_stack.proofs.SoonerLaws.{quick_sooner}
use Rattle.cli_stack.proofs.laws.quick_is_go_sooner.Goals as goal

pub returns : goal.returns
returns c =
    let built = c.builds_implement.ensures in
    quick_sooner built.implements built.values c.runs_are_meant.ensures c.quickened_images_mean.ensures.texts
