use Rattle.std.proofs.Common.{ap, arith, length, rules}
use Rattle.stack_text.{specs.declared.tree.Tree.the_lemmas, proofs.PrintLaws.{printed_more, printed_all, printed_front, printed_item}}
use Rattle.stack_text.proofs.printer.+print_into.Goals as goal

pub loop-index-preserved : goal.loop-index-preserved
loop-index-preserved g t c =
    printed_more c.args.out.now.items c.loop-index.out.items c.separate.new.out.items c.print_into.new.out.items c.deref-item-items.result.now
    c.loop-index.index c.item-item.result
    c.loop-index-test.true c.item-item.is c.loop-index.invariant c.in_ok-separate-in-List.ensures c.in_ok-print_into-in-List.ensures

pub returns-in_ok-push-in-List-2 : goal.returns-in_ok-push-in-List-2
returns-in_ok-push-in-List-2 g t c =
    printed_all c.args.out.now.items c.loop-index.out.items c.push-in-List.new.items.items c.in-List.place c.in-List.items c.args.tree.now
    c.loop-index.index (omega (arith, ap length c.deref-item-items.ensures.value)) c.in-List.is
    (rw c.deref-item-items.ensures.value at c.loop-index.invariant) c.in_ok-push-in-List-2.ensures.items

pub separate-requires : goal.separate-requires
separate-requires g t c =
    printed_front (g.H.BoundedHeap.bound c.args.heap) c.args.out.now.items c.loop-index.out.items c.in-List.place c.in-List.items c.args.tree.now
    c.loop-index.index c.in-List.is c.requires (rw c.deref-item-items.ensures.value at c.loop-index.invariant)

pub push-requires-in-List-clause-short : goal.push-requires-in-List-clause-short
push-requires-in-List-clause-short g t c = λ bounded.
    let so_far = printed_front (g.H.BoundedHeap.bound c.args.heap) c.args.out.now.items c.loop-index.out.items c.in-List.place c.in-List.items
    c.args.tree.now c.loop-index.index c.in-List.is c.requires (rw c.deref-item-items.ensures.value at c.loop-index.invariant) bounded in
    omega (arith, so_far)

pub print_into-requires : goal.print_into-requires
print_into-requires g t c = λ κs lives.
    let fits = printed_item (g.H.BoundedHeap.bound c.args.heap) c.args.out.now.items c.loop-index.out.items c.separate.new.out.items c.in-List.place
    c.in-List.items c.args.tree.now c.loop-index.index c.item-item.result c.in-List.is c.requires
    (rw c.deref-item-items.ensures.value at c.loop-index-test.true) (rw c.deref-item-items.ensures.value at c.item-item.is)
    (rw c.deref-item-items.ensures.value at c.loop-index.invariant) c.in_ok-separate-in-List.ensures in
    (search (rules, the_lemmas), (lives, fits))
