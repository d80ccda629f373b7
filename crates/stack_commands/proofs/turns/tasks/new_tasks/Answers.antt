use Rattle.std.{proofs.Common.{◌≤◌, length, map, sym, ◌∙◌, arith}, proofs.lemmas.Bool.eqb-false, proofs.lemmas.List.length-map}
use Rattle.std.proofs.lemmas.List.Elements.{All-map}
use Rattle.gypsy_space.specs.Needs.{stack_sizes}
use Rattle.fm_turns.specs.Starting.{new_tasks}
use Rattle.stack_commands.proofs.TurnsLaws.{ready_from}
use Rattle.stack_commands.proofs.turns.tasks.new_tasks.Goals as goal

pub small_enough-requires : goal.small_enough-requires
small_enough-requires g c = omega (arith, c.in_ok-images.ensures.count, c.if-sources-gt-TASKS.false)

pub read_tasks-requires-clause-few : goal.read_tasks-requires-clause-few
read_tasks-requires-clause-few g c = omega (arith, c.in_ok-small_enough.ensures.count, c.in_ok-images.ensures.count, c.if-sources-gt-TASKS.false)

pub returns-clause-ready : goal.returns-clause-ready
returns-clause-ready g c =
    let none = eqb-false (length c.args.sources.now) 0 (sym c.is_empty.ensures ∙ c.if-is_empty.false) in
    let count = length-map c.args.sources.now (λ text. text.now) in
    ready_from c.builds_implement.ensures.implements c.builds_implement.ensures.values c.builds_stay_inside.ensures.base
    c.builds_stay_inside.ensures.inside (stack_sizes c.args.control c.args.temporary) (g.H.Heap.may_refuse c.args.heap)
    (λ tasks. new_tasks tasks.items)
    (map (λ text. text.now) c.args.sources.now) (map (λ text. text.now) c.args.texts.now) c.in_ok-images.images.items c.in_ok-small_enough.field-0.items
    c.read_tasks.result
    (All-map (λ text. length text ≤ 2147483648) (λ text. text.now) c.args.sources.now c.requires.sources) (omega (arith, none, count))
    (omega (arith, count, c.if-sources-gt-TASKS.false))
    c.in_ok-images.ensures.images c.in_ok-small_enough.ensures.images c.read_tasks.ensures.tasks
