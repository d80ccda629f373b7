use Rattle.std.{proofs.Common.{arith, refl, length}, proofs.lemmas.Result.err_from_is_err_and}
use Rattle.stack_text.{specs.Internal.OpenLists.opened, proofs.HeapLaws.{refuses_less, few_open, few_outer, refused_before}, proofs.OpenListLaws.steps_atom}
use Rattle.stack_text.proofs.OpenListLaws.{steps_close, steps_open, steps_deep}
use Rattle.stack_text.proofs.reader.step.Goals as goal

pub returns-in-Some-clause-value : goal.returns-in-Some-clause-value
returns-in-Some-clause-value g c = rw c.in-Closing.is
    (steps_close (g.H.BoundedHeap.may_refuse c.args.heap) c.args.stack.now.items c.pop.new.self.items c.put.new.stack.items c.in-Some.field-0
    c.args.found.start c.put.result c.in-Some.ensures.items c.put.ensures.value)

pub returns-in-Atom-clause-value : goal.returns-in-Atom-clause-value
returns-in-Atom-clause-value g c = rw c.in-Atom.is
    (steps_atom (g.H.BoundedHeap.may_refuse c.args.heap) c.args.stack.now.items c.put-in-Atom.new.stack.items c.args.found.start _ _ c.put-in-Atom.result refl
    c.put-in-Atom.ensures.value)

pub returns-then-len-ge-MOST_NESTING-clause-value : goal.returns-then-len-ge-MOST_NESTING-clause-value
returns-then-len-ge-MOST_NESTING-clause-value g c = rw (c.fault_at-then-len-ge-MOST_NESTING.ensures, c.in-Opening.is)
    (steps_deep (g.H.BoundedHeap.may_refuse c.args.heap) c.args.stack.now.items c.args.stack.now.items c.args.found.start (omega arith))

pub returns-in_ok-push-in-Opening-clause-value : goal.returns-in_ok-push-in-Opening-clause-value
returns-in_ok-push-in-Opening-clause-value g c =
    rw c.in-Opening.is (steps_open (g.H.BoundedHeap.may_refuse c.args.heap) c.args.stack.now.items c.push.new.items.items c.args.found.start c.new-items.result
    c.new-items.ensures.items (omega arith) c.in_ok-push-in-Opening.ensures.items)

pub returns-in_err-push-in-Opening-clause-room : goal.returns-in_err-push-in-Opening-clause-room
returns-in_err-push-in-Opening-clause-room g c =
    let p = err_from_is_err_and c.from_residual.result c.from_residual.ensures.1 in
    rw p.1 (λ _. refuses_less (g.H.BoundedHeap.may_refuse_room c.args.heap) (length c.args.stack.now.items) (length (opened c.args.stack.now.items))
    (few_open c.args.stack.now.items) c.in_err-push-in-Opening.ensures.room)

pub returns-in-Some-clause-room : goal.returns-in-Some-clause-room
returns-in-Some-clause-room g c =
    refused_before (g.H.BoundedHeap.may_refuse_room c.args.heap) c.args.stack.now.items c.pop.new.self.items c.in-Some.field-0 c.put.result
    c.in-Some.ensures.items c.put.ensures.room

pub push-requires-clause-short : goal.push-requires-clause-short
push-requires-clause-short g c = λ bounded. omega (arith, few_open c.args.stack.now.items, c.requires.short bounded)

pub put-requires : goal.put-requires
put-requires g c = λ bounded.
    omega (arith, few_outer c.args.stack.now.items c.pop.new.self.items c.in-Some.field-0 c.in-Some.ensures.items, c.requires.short bounded)
