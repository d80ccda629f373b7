use Rattle.std.proofs.Common.{◌≡◌, ◌∙◌, length, ap, arith}
use Rattle.fm_machine.specs.State.{Fm}
use Rattle.fm_image.{specs.Image.ImageOf, proofs.LimitLaws.sized}
use Rattle.fm_loader.specs.Loaded.{loaded}
use Rattle.fm_turns.{specs.Starting.{NewTask, new_task, machine_of}, proofs.LoadedLaws.{loaded_size, context_copied}}
use Rattle.fm_turns.proofs.starting.load_task.Goals as goal

pub copy_window-requires-clause-above : goal.copy_window-requires-clause-above
copy_window-requires-clause-above g c =
    let task : NewTask = new_task c.args.task.0 c.args.task.1.items in
    let own : c.in_ok-own.own.state ≡ machine_of task = c.in_ok-own.ensures.value ∙ ap (loaded c.args.task.0) c.as_slice.ensures.value in
    let base : c.in_ok-own.own.state.base ≡ task.image.base = ap (λ (s : Fm). s.base) own in
    let size : length c.in_ok-own.own.state.memory ≡ task.image.size = ap (λ (s : Fm). length s.memory) own ∙ loaded_size task in
    let base_is : c.image.inside.base ≡ task.image.base = ap (λ (i : ImageOf). i.base) c.image.view_is in
    let size_is : c.image.inside.size ≡ task.image.size = ap (λ (i : ImageOf). i.size) c.image.view_is in
    omega arith

pub copy_window-requires-clause-few : goal.copy_window-requires-clause-few
copy_window-requires-clause-few g c = let below = (sized _ c.image.invariant).below in omega (arith, below)

pub returns-clause-memory : goal.returns-clause-memory
returns-clause-memory g c =
    let task : NewTask = new_task c.args.task.0 c.args.task.1.items in
    let own : c.in_ok-own.own.state ≡ machine_of task = c.in_ok-own.ensures.value ∙ ap (loaded c.args.task.0) c.as_slice.ensures.value in
    context_copied task c.image.inside.base c.image.inside.size c.in_ok-own.own.state c.args.machine.now.state c.copy_window.new.to.state
    (ap (λ (i : ImageOf). i.base) c.image.view_is) (ap (λ (i : ImageOf). i.size) c.image.view_is) own c.copy_window.ensures
