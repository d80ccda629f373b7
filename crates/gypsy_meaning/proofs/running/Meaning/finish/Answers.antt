use Rattle.std.proofs.Common.{sym, subst}
use Rattle.gypsy_meaning.{specs.Internal.Finishing.IsFinished, specs.declared.running.Meaning.Meaning, proofs.FinishingLaws.finished}
use Rattle.gypsy_meaning.proofs.running.Meaning.finish.Goals as goal

pub returns : goal.returns
returns c =
    let m = c.args.self.now in
    let P : Meaning → Type 0 = IsFinished c.args.ending c.args.cost m in
    subst P (sym c.pay.ensures) (finished c.args.ending c.args.cost m c.truncate.new.self c.formal_count-count.result c.truncate.ensures.items
    c.formal_count-count.ensures)
