use Rattle.std.{proofs.Common.{◌≡◌, ◌∙◌, Some, ap}, specs.Prelude.slice_get}
use Rattle.fm_machine.specs.State.{Fm, zeroed}
use Rattle.display_maps.specs.Reading.{reading}
use Rattle.fm_turns.{specs.declared.context.TaskContext.TaskContext, specs.Windows.words_in, specs.Turns.TurnsOf, specs.Readings.readings_of}
use Rattle.fm_turns.proofs.ReadingLaws.{part_at, read_at, unless_weaker}
use Rattle.fm_turns.proofs.turns.Turns.read.Goals as goal

pub read_window-requires : goal.read_window-requires
read_window-requires g c =
    part_at _ _ c.args.i c.deref.result.now c.self.inside.contexts.items c.in-Some.context.now c.deref.ensures.value c.in-Some.ensures.lookup.3.0
    c.in-Some.ensures.lookup.1 c.self.invariant

pub returns : goal.returns
returns g c =
    let context : TaskContext = c.in-Some.context.now in
    let s : Fm = c.self.inside.machine.state in
    unless_weaker (g.H.Heap.may_refuse c.args.heap) c.read_window.result (λ read. read ≡ reading context.image
    (record (zeroed context.image.base context.image.size) { memory = words_in context.image.base context.image.size s }))
    (λ read. slice_get (readings_of c.args.self.now) c.args.i ≡ Some read)
    (read_at c.args.self.now s c.deref.result.now c.args.i context (ap (λ (t : TurnsOf). t.base) c.self.view_is)
    (ap (λ (t : TurnsOf). t.memory) c.self.view_is) (c.deref.ensures.value ∙ ap (λ (t : TurnsOf). t.contexts) c.self.view_is)
    c.in-Some.ensures.lookup.3.0 c.in-Some.ensures.lookup.1)
    c.read_window.ensures
