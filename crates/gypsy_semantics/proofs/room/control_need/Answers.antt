use Rattle.std.proofs.Common.{◌+◌, ap, ◌∙◌}
use Rattle.gypsy_space.{specs.Nodes.seen_program, specs.declared.need.Need.Need}
use Rattle.gypsy_semantics.proofs.NeedLaws.{control_is}
use Rattle.gypsy_semantics.proofs.room.control_need.Goals as goal

pub returns : goal.returns
returns c =
    ap (λ (k : Need). 2 + k.vars + k.ctrl) c.need_of-need.ensures
    ∙ control_is (seen_program c.args.program.now) c.args.needs.now.procedures.items c.requires.needs c.requires.fits
