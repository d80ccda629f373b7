use Rattle.mini_gypsy.proofs.LowerLaws.{no_fault, one_source}
use Rattle.mini_gypsy.proofs.laws.lowering_is_one.Goals as goal

pub returns : goal.returns
returns c = record { source = one_source; either = no_fault }
