use Rattle.mini_gypsy.proofs.LowerLaws.{lawful_read, text_lowers}
use Rattle.mini_gypsy.proofs.lowering.lower.Goals as goal

pub lower_program-requires : goal.lower_program-requires
lower_program-requires g c = record { lawful = lawful_read c.args.text.now c.in_ok-program.program c.in_ok-program.ensures.read }

pub returns-clause-lowers : goal.returns-clause-lowers
returns-clause-lowers g c = text_lowers c.args.text.now c.in_ok-program.program _ c.in_ok-program.ensures.read c.in_ok-accepted.ensures.accepted.form
    c.in_ok-accepted.ensures.lowered
