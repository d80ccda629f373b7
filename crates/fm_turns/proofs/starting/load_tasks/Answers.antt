use Rattle.std.proofs.Common.{◌≡◌, ◌≤◌, ◌∙◌, List, [], ◌∷◌, ◌++◌, ℕ, ap, sym, arith}
use Rattle.fm_turns.{specs.declared.context.TaskContext.TaskContext, specs.Starting.{NewTask, new_task, machine_of}, proofs.StartingLaws.next_holds}
use Rattle.fm_turns.proofs.StartingLaws.{rest_hold, contexts_next, memory_next}
use Rattle.fm_machine.specs.State.{Fm}
use Rattle.fm_loader.specs.Loaded.{Fits, with_words}
use Rattle.fm_turns.proofs.starting.load_tasks.Goals as goal

pub load_task-requires-clause-fits : goal.load_task-requires-clause-fits
load_task-requires-clause-fits g c =
    next_holds c.loop-task.task-iterator.rest.items c.next.new.self.rest.items c.in-Some.task (λ task. new_task task.0 task.1.items)
    (λ task. Fits task.image.slots task.values) c.in-Some.ensures.steps.0 c.loop-task.invariant.fit

pub load_task-requires-clause-above : goal.load_task-requires-clause-above
load_task-requires-clause-above g c =
    let base : c.loop-task.machine.state.base ≡ c.args.machine.now.state.base = ap (λ (s : Fm). s.base) c.loop-task.invariant.same in
    let above : c.args.machine.now.state.base ≤ c.in-Some.task.0.base
    = next_holds c.loop-task.task-iterator.rest.items c.next.new.self.rest.items c.in-Some.task (λ task. new_task task.0 task.1.items)
    (λ task. c.args.machine.now.state.base ≤ task.image.base) c.in-Some.ensures.steps.0 c.loop-task.invariant.above in
    omega arith

pub loop-task-preserved : goal.loop-task-preserved
loop-task-preserved g c =
    let base : ℕ = c.args.machine.now.state.base in
    let task : NewTask = new_task c.in-Some.task.0 c.in-Some.task.1.items in
    let base_is : c.loop-task.machine.state.base ≡ base = ap (λ (s : Fm). s.base) c.loop-task.invariant.same in
    let copied : c.load_task.new.machine.state ≡ record c.loop-task.machine.state
    { memory = with_words base task.image.base (machine_of task).memory c.loop-task.machine.state.memory }
    = c.in_ok-load_task.ensures.memory ∙ ap (λ b. record c.loop-task.machine.state
    { memory = with_words b task.image.base (machine_of task).memory c.loop-task.machine.state.memory }) base_is in
    record {
      contexts = contexts_next c.loop-task.task-iterator.rest.items c.next.new.self.rest.items c.in-Some.task (λ task. new_task task.0 task.1.items)
          c.loop-task.contexts.items c.push.new.items.items _ c.in-Some.ensures.steps.0
          (c.in_ok-push.ensures.items ∙ ap (λ (x : TaskContext). c.loop-task.contexts.items ++ x ∷ []) c.in_ok-load_task.ensures.context)
          c.loop-task.invariant.contexts;
      memory = memory_next c.loop-task.task-iterator.rest.items c.next.new.self.rest.items c.in-Some.task (λ task. new_task task.0 task.1.items) base
          c.loop-task.machine.state.memory c.load_task.new.machine.state.memory _ c.in-Some.ensures.steps.0 (ap (λ (s : Fm). s.memory) copied)
          c.loop-task.invariant.memory;
      same = copied ∙ ap (λ (s : Fm). record s { memory = with_words base task.image.base (machine_of task).memory c.loop-task.machine.state.memory })
          c.loop-task.invariant.same
          ∙ ap (λ (m : List ℕ). record c.args.machine.now.state { memory = m }) (sym (ap (λ (s : Fm). s.memory) copied));
      fit = rest_hold c.loop-task.task-iterator.rest.items c.next.new.self.rest.items c.in-Some.task (λ task. new_task task.0 task.1.items)
          (λ task. Fits task.image.slots task.values) c.in-Some.ensures.steps.0 c.loop-task.invariant.fit;
      above = rest_hold c.loop-task.task-iterator.rest.items c.next.new.self.rest.items c.in-Some.task (λ task. new_task task.0 task.1.items)
          (λ task. base ≤ task.image.base) c.in-Some.ensures.steps.0 c.loop-task.invariant.above;
    }
