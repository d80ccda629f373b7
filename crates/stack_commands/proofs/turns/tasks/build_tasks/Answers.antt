use Rattle.std.proofs.Common.{◌≡◌, ◌≤◌, ◌+◌, ◌++◌, ◌∙◌, [], ◌∷◌, length, ap, arith, length-append}
use Rattle.gypsy_space.specs.Needs.{stack_sizes}
use Rattle.stack_commands.proofs.TaskLoops.{next_built}
use Rattle.stack_commands.proofs.turns.tasks.build_tasks.Goals as goal

pub loop-i-preserved : goal.loop-i-preserved
loop-i-preserved g c =
    let new : c.push.new.items.items ≡ c.loop-i.images.items ++ c.in_ok-image.image ∷ [] = c.in_ok-push.ensures.items in
    let small : c.size_of-base.result ≤ 1048576 = c.size_of-base.ensures.few in
    record {
      images_are = next_built (stack_sizes c.args.control c.args.temporary) (λ text. text.now) c.args.sources.now c.loop-i.i c.loop-i.base
          _ (omega arith) c.loop-i.images.items c.push.new.items.items c.in_ok-image.image _ _ c.in_ok-image.ensures
          (ap (λ n. c.loop-i.base + n) c.size_of-base.ensures.value) new c.loop-i.invariant.images_are;
      low = omega arith;
      count = ap length new ∙ length-append c.loop-i.images.items (c.in_ok-image.image ∷ []) ∙ ap (λ n. n + 1) c.loop-i.invariant.count;
    }
