use Rattle.std.proofs.Common.{ℕ, subst}
use Rattle.gypsy_meaning.{specs.Internal.Finishing.IsFinished, proofs.FinishingLaws.end_finishes}
use Rattle.gypsy_meaning.specs.declared.running.Ending.TheVariants as ending
use Rattle.gypsy_meaning.proofs.running.Meaning.end_main.Goals as goal

pub returns : goal.returns
returns c =
    let P : ℕ → Type 0 = λ cost. IsFinished ending.Normal cost c.args.self.now c.finish.new.self in
    end_finishes c.args.needs.now.procedures.items c.args.self.now c.finish.new.self c.requires.turn c.requires.alone
    (subst P c.cost.ensures.count c.finish.ensures)
