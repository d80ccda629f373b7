use Rattle.std.{proofs.Common.{rules, ◌<◌, ◌-◌, arith, refl, length}, proofs.lemmas.Result.err_from_is_err_and, specs.Prelude.vec_len}
use Rattle.stack_text.{specs.Internal.OpenLists.opened, proofs.HeapLaws.{refuses_less, few_items}, proofs.OpenListLaws.puts_in_place}
use Rattle.stack_text.proofs.reader.put.Goals as goal

pub returns-in_ok-push-in-Some-clause-value : goal.returns-in_ok-push-in-Some-clause-value
returns-in_ok-push-in-Some-clause-value g c =
    let nonempty : 0 < vec_len c.args.stack.now = search rules in
    puts_in_place c.args.stack.now.items (vec_len c.args.stack.now - 1) c.in-Some.innermost.now
    (record { place = c.in-Some.innermost.now.place; items = c.push.new.items }) c.args.tree
    (omega (arith, nonempty)) c.in-Some.ensures.value refl c.in_ok-push-in-Some.ensures.items

pub returns-in_err-push-in-Some-clause-room : goal.returns-in_err-push-in-Some-clause-room
returns-in_err-push-in-Some-clause-room g c =
    let nonempty : 0 < vec_len c.args.stack.now = search rules in
    let p = err_from_is_err_and c.from_residual.result c.from_residual.ensures.1 in
    rw p.1 (λ _. refuses_less (g.H.BoundedHeap.may_refuse_room c.args.heap) (length c.in-Some.innermost.now.items.items)
    (length (opened c.args.stack.now.items))
    (few_items c.args.stack.now.items (vec_len c.args.stack.now - 1) c.in-Some.innermost.now (omega (arith, nonempty)) c.in-Some.ensures.value)
    c.in_err-push-in-Some.ensures.room)

pub push-requires-clause-short : goal.push-requires-clause-short
push-requires-clause-short g c = λ bounded.
    let nonempty : 0 < vec_len c.args.stack.now = search rules in
    omega (
      arith,
      c.requires bounded,
      few_items c.args.stack.now.items (vec_len c.args.stack.now - 1) c.in-Some.innermost.now (omega (arith, nonempty)) c.in-Some.ensures.value,
    )
