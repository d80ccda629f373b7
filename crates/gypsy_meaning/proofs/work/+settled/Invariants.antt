use Rattle.gypsy_meaning.proofs.work.+settled.Given as goal

abbrev pub decreases-settled : goal.decreases-settled
decreases-settled g l = l.below
