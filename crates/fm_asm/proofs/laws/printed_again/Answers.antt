use Rattle.fm_asm.{proofs.LengthLaws.printed_short, proofs.PrintLaws.{printed_spells, printed_is_assembled}}
use Rattle.fm_asm.proofs.laws.printed_again.Goals as goal

pub returns-clause-spells : goal.returns-clause-spells
returns-clause-spells c = printed_spells

pub returns-clause-back : goal.returns-clause-back
returns-clause-back c = printed_is_assembled

pub returns-clause-short : goal.returns-clause-short
returns-clause-short c = printed_short
