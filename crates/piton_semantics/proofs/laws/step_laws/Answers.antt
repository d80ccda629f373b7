use Rattle.piton_semantics.{proofs.SoundLaws.known, proofs.KeepLaws.step_kept, proofs.RunLaws.{steps_run, steps_cost, along, halts, fails}}
use Rattle.piton_semantics.proofs.laws.step_laws.Goals as goal

pub returns-clause-kept : goal.returns-clause-kept
returns-clause-kept c = λ s p q sound. step_kept s p q (known s sound)

pub returns-clause-runs : goal.returns-clause-runs
returns-clause-runs c = λ s j n p q steps. (steps_run s j n p q steps, steps_cost s j n p q steps)

pub returns-clause-counted : goal.returns-clause-counted
returns-clause-counted c = along

pub returns-clause-halts : goal.returns-clause-halts
returns-clause-halts c = halts

pub returns-clause-fails : goal.returns-clause-fails
returns-clause-fails c = fails
