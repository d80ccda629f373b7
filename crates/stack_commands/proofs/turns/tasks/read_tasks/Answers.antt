use Rattle.std.{proofs.Common.{◌≡◌, ◌++◌, ◌∙◌, [], ◌∷◌, List, ℕ, length, map, sym, ap, subst, arith}, specs.Prelude.All, proofs.lemmas.List.map-append}
use Rattle.std.proofs.lemmas.List.Elements.{All-push}
use Rattle.fm_loader.{specs.Loaded.Fits, specs.Values.values_in}
use Rattle.fm_image.specs.Image.{ImageOf}
use Rattle.fm_turns.specs.Starting.{NewTask, new_task, new_tasks}
use Rattle.stack_commands.{specs.Commands.Turns.values_or_fault, proofs.TaskLoops.next_read}
use Rattle.stack_commands.proofs.turns.tasks.read_tasks.Goals as goal

pub loop-image-preserved : goal.loop-image-preserved
loop-image-preserved g c =
    let image : ImageOf = c.in-Some.image in
    let task : NewTask = new_task image c.in_ok-values.values.items in
    let new : new_tasks c.push.new.items.items ≡ new_tasks c.loop-image.tasks.items ++ task ∷ [] =
    ap new_tasks c.in_ok-push.ensures.items ∙ map-append (λ pair. new_task pair.0 pair.1.items) c.loop-image.tasks.items
    ((image, c.in_ok-values.values) ∷ []) in
    let is : c.loop-image.image-iterator.rest.items ≡ image ∷ c.next.new.self.rest.items = c.in-Some.ensures.steps.0 in
    let P : NewTask → Type 0 = λ task. Fits task.image.slots task.values in
    record {
      tasks_are = next_read (map (λ text. text.now) c.args.texts.now) c.loop-image.i image c.loop-image.image-iterator.rest.items
          c.next.new.self.rest.items is (new_tasks c.loop-image.tasks.items) (new_tasks c.push.new.items.items) c.in_ok-values.values.items _
          (sym (ap (λ (text : List ℕ). values_or_fault c.loop-image.i (values_in image.slots text)) c.text_at.ensures.value)
          ∙ c.in_ok-values.ensures.value) new c.loop-image.invariant.tasks_are;
      fit = subst (All P) (sym new) (All-push P (new_tasks c.loop-image.tasks.items) task c.loop-image.invariant.fit c.in_ok-values.ensures.fits);
      count = omega (arith, ap length is, c.loop-image.invariant.count);
    }
