use Rattle.level_debuggers.proofs.gypsy_level.GypsyLevel.variables.Goals as goal

pub returns-clause-names : goal.returns-clause-names
returns-clause-names c = c.variables.ensures.names _ _ c.requires
