use Rattle.std.proofs.Common.{ℕ, subst, ap, ◌∙◌}
use Rattle.gypsy_meaning.{specs.Internal.Finishing.{IsFinished, end_price}, proofs.FinishingLaws.leave_finishes}
use Rattle.gypsy_meaning.specs.declared.running.Ending.TheVariants as ending
use Rattle.gypsy_meaning.proofs.running.Meaning.leave_main.Goals as goal

pub returns : goal.returns
returns c =
    let cond = c.main_condition-cond.result in
    let P : ℕ → Type 0 = λ cost. IsFinished (ending.Raised cond) cost c.args.self.now c.finish.new.self in
    let price = c.end_price.ensures ∙ ap end_price c.is_passed_on-passed.ensures in
    leave_finishes c.args.self.now c.finish.new.self c.args.cond cond c.requires.turn.0 c.requires.turn.1 c.requires.alone c.main_condition-cond.ensures
    (subst P price c.finish.ensures)
