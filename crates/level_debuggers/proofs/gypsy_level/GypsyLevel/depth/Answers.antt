use Rattle.level_debuggers.proofs.gypsy_level.GypsyLevel.depth.Goals as goal

pub returns : goal.returns
returns c = c.depth.ensures _ _ c.requires
