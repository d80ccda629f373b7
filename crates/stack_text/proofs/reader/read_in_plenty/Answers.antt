use Rattle.std.proofs.Common.{length}
use Rattle.stack_heap.specs.Heaps.{RefusesWithin, room_after}
use Rattle.stack_text.{specs.Views.TreeView.node_of, proofs.TreeInLaws.reads_exactly}
use Rattle.stack_text.proofs.reader.read_in_plenty.Goals as goal

pub returns : goal.returns
returns g c =
    let why : Type 0 = RefusesWithin (g.H.BoundedHeap.may_refuse_room c.args.heap) (room_after (length c.args.text.now)) in
    reads_exactly (g.H.BoundedHeap.may_refuse c.args.heap) node_of why c.read_text_tree.result _
    c.requires.plenty c.read_text_tree.ensures.value c.read_text_tree.ensures.room
