use Rattle.std.proofs.Common.{inl, inr, refl, rules}
use Rattle.cli_stack.proofs.ConverseLaws.{at_memory}
use Rattle.cli_stack.proofs.conversing.tell_run.Goals as goal

pub returns-in-Err-Memory : goal.returns-in-Err-Memory
returns-in-Err-Memory g c =
    inr (inr (inl (
      refl,
      c.in-Err-Memory.ensures.refused (search rules),
      at_memory _ _ _ _ _ _ _ _ _ _ _ c.in-Err-Memory.ensures.partly (search rules),
    )))
