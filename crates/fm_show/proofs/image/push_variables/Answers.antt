use Rattle.stack_text.proofs.Loops.{pieces_next}
use Rattle.fm_show.specs.ImageListing.{variable_line}
use Rattle.fm_show.proofs.image.push_variables.Goals as goal

pub loop-variable-preserved : goal.loop-variable-preserved
loop-variable-preserved g c =
    pieces_next variable_line c.args.variables.now c.loop-variable.variable-index c.variable-item.result _ _ _ c.loop-variable-test.true
    c.variable-item.is c.in_ok-push_variable.ensures c.loop-variable.invariant
