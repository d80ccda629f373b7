use Rattle.quick_moments.{proofs.EndLaws.quick_runs_end, proofs.ImageLaws.{quick_images_show, quick_images_follow, quick_sums_are_costs}}
use Rattle.quick_moments.proofs.laws.quick_images_show.Goals as goal

pub returns-clause-moments : goal.returns-clause-moments
returns-clause-moments c = quick_images_show

pub returns-clause-source : goal.returns-clause-source
returns-clause-source c = quick_images_follow

pub returns-clause-ends : goal.returns-clause-ends
returns-clause-ends c = quick_runs_end

pub returns-clause-sum : goal.returns-clause-sum
returns-clause-sum c = quick_sums_are_costs
