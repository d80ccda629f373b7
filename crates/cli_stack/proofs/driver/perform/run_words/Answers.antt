use Rattle.cli_stack.proofs.driver.perform.run_words.Goals as goal

pub returns-in-Ok-clause-leaves : goal.returns-in-Ok-clause-leaves
returns-in-Ok-clause-leaves g c = λ watches. rw c.in-Ok.ensures (c.perform.ensures.leaves watches)
