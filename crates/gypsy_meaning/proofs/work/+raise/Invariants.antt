use Rattle.gypsy_meaning.proofs.work.+raise.Given as goal

abbrev pub decreases-raise : goal.decreases-raise
decreases-raise g l = l.below
