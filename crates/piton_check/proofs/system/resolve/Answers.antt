use Rattle.std.proofs.lemmas.Result.{on_ok_weaker}
use Rattle.piton_check.specs.Violations.{name_breaches, part_breaches}
use Rattle.stack_text.proofs.BreachLaws.{notes_more}
use Rattle.piton_check.proofs.system.resolve.Goals as goal

pub returns-clause-noted : goal.returns-clause-noted
returns-clause-noted g c =
    on_ok_weaker c.parts.result
    (notes_more c.args.best.now c.names.new.best c.parts.new.best (name_breaches c.args.system.now) (part_breaches c.args.system.now)
    c.in_ok-names.ensures.noted)
    c.parts.ensures.noted
