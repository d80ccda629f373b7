use Rattle.std.proofs.Common.{◌++◌, ◌∙◌, List, ℕ, ap, arith}
use Rattle.stack_commands.proofs.TaskLoops.{next_told}
use Rattle.stack_commands.proofs.turns.rounds.tasks_text.Goals as goal

pub loop-i-preserved : goal.loop-i-preserved
loop-i-preserved g c =
    next_told c.args.budget c.args.turns.now c.loop-i.i c.loop-i.text.items c.extend_from_slice.new.items.items c.in_ok-task_text.field-0.items
    (omega (arith, c.requires.all, c.loop-i-test.true)) c.in_ok-task_text.ensures
    (c.in_ok-extend_from_slice.ensures.items ∙ ap (λ (text : List ℕ). c.loop-i.text.items ++ text) c.as_slice.ensures.value) c.loop-i.invariant
