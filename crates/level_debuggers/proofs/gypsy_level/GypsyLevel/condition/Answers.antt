use Rattle.level_debuggers.proofs.gypsy_level.GypsyLevel.condition.Goals as goal

pub returns : goal.returns
returns c = c.condition.ensures _ _ c.requires
