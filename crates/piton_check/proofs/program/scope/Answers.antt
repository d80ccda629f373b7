use Rattle.stack_text.proofs.BreachLaws.{notes_more}
use Rattle.piton_check.specs.Declarations.{label_names, local_names, repeats}
use Rattle.std.specs.Prelude.{[]}
use Rattle.piton_check.proofs.program.scope.Goals as goal

pub returns-clause-noted : goal.returns-clause-noted
returns-clause-noted g c =
    notes_more c.args.best.now c.locals.new.best c.labels.new.best (repeats 5 [] (local_names c.args.text.now)) (repeats 6 [] (label_names c.args.text.now))
    c.in_ok-locals.ensures.noted c.in_ok-labels.ensures.noted
