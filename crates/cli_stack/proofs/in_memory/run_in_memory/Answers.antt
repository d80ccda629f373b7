use Rattle.cli_stack.proofs.in_memory.run_in_memory.Goals as goal

pub returns : goal.returns
returns g c = let kept = c.cli.ensures.promises in (kept.0, kept.1, kept.2.known)
