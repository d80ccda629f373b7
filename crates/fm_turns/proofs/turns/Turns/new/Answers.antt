use Rattle.std.{proofs.Common.{◌≡◌, ◌∙◌, List, ap}, proofs.lemmas.Result.err_from_is_err_and}
use Rattle.fm_machine.specs.State.{Fm, zeroed}
use Rattle.fm_turns.{specs.Starting.{NewTask, new_task, new_tasks, first_base}, proofs.StartingLaws.{images_begin, starts_above, loaded_all, started_all}}
use Rattle.fm_turns.proofs.StartingLaws.{starts_as_parts, contexts_begin_within, size_known, base_known, window_known, not_started}
use Rattle.fm_turns.proofs.turns.Turns.new.Goals as goal

pub returns-in_err-size-clause-turns : goal.returns-in_err-size-clause-turns
returns-in_err-size-clause-turns g c =
    let p = err_from_is_err_and c.from_residual.result c.from_residual.ensures.1 in
    rw (p.1, p.2) (not_started (g.H.Heap.may_refuse c.args.heap) c.args.tasks.items c.as_slice.result.now (λ task. new_task task.0 task.1.items)
    c.in_err-size.field-0.0 c.in_err-size.ensures.value c.as_slice.ensures.value c.in_err-size.ensures.fault)

pub machine-requires : goal.machine-requires
machine-requires g c =
    window_known c.args.tasks.items c.as_slice.result.now c.as_slice-2.result.now (λ task. new_task task.0 task.1.items) c.in_ok-size.size
    c.first_base-base.result c.in_ok-size.ensures.window c.as_slice.ensures.value c.first_base-base.ensures c.as_slice-2.ensures.value

pub load_tasks-requires-clause-above : goal.load_tasks-requires-clause-above
load_tasks-requires-clause-above g c =
    let size = size_known c.args.tasks.items c.as_slice.result.now (λ task. new_task task.0 task.1.items) c.in_ok-size.size c.in_ok-size.ensures.value
    c.as_slice.ensures.value in
    let base = base_known c.args.tasks.items c.as_slice-2.result.now (λ task. new_task task.0 task.1.items) c.first_base-base.result
    c.first_base-base.ensures c.as_slice-2.ensures.value in
    starts_above (new_tasks c.args.tasks.items) c.in_ok-size.size c.in_ok-machine.machine.state.base size
    (ap (λ (s : Fm). s.base) c.in_ok-machine.ensures ∙ base)

pub invariant_of-result : goal.invariant_of-result
invariant_of-result g c =
    let tasks : List NewTask = new_tasks c.args.tasks.items in
    let size = size_known c.args.tasks.items c.as_slice.result.now (λ task. new_task task.0 task.1.items) c.in_ok-size.size c.in_ok-size.ensures.value
    c.as_slice.ensures.value in
    let base = base_known c.args.tasks.items c.as_slice-2.result.now (λ task. new_task task.0 task.1.items) c.first_base-base.result
    c.first_base-base.ensures c.as_slice-2.ensures.value in
    let begun : c.in_ok-machine.machine.state ≡ zeroed (first_base tasks) c.in_ok-size.size =
    c.in_ok-machine.ensures ∙ ap (λ b. zeroed b c.in_ok-size.size) base in
    let made = loaded_all tasks c.in_ok-size.size c.in_ok-machine.machine.state c.load_tasks.new.machine.state size begun c.in_ok-contexts.ensures.memory in
    starts_as_parts tasks c.in_ok-size.size c.load_tasks.new.machine.state c.in_ok-contexts.contexts.items size made c.in_ok-contexts.ensures.contexts

pub returns-clause-turns : goal.returns-clause-turns
returns-clause-turns g c =
    let tasks : List NewTask = new_tasks c.args.tasks.items in
    let size = size_known c.args.tasks.items c.as_slice.result.now (λ task. new_task task.0 task.1.items) c.in_ok-size.size c.in_ok-size.ensures.value
    c.as_slice.ensures.value in
    let base = base_known c.args.tasks.items c.as_slice-2.result.now (λ task. new_task task.0 task.1.items) c.first_base-base.result
    c.first_base-base.ensures c.as_slice-2.ensures.value in
    let begun : c.in_ok-machine.machine.state ≡ zeroed (first_base tasks) c.in_ok-size.size =
    c.in_ok-machine.ensures ∙ ap (λ b. zeroed b c.in_ok-size.size) base in
    let made = loaded_all tasks c.in_ok-size.size c.in_ok-machine.machine.state c.load_tasks.new.machine.state size begun c.in_ok-contexts.ensures.memory in
    started_all tasks c.in_ok-size.size c.load_tasks.new.machine.state c.in_ok-contexts.contexts.items size made c.in_ok-contexts.ensures.contexts

pub returns-clause-within : goal.returns-clause-within
returns-clause-within g c budget = contexts_begin_within budget (new_tasks c.args.tasks.items) c.in_ok-contexts.contexts.items c.in_ok-contexts.ensures.contexts

pub returns-clause-images : goal.returns-clause-images
returns-clause-images g c =
    images_begin c.args.tasks.items (λ task. new_task task.0 task.1.items) c.in_ok-contexts.contexts.items c.in_ok-contexts.ensures.contexts
