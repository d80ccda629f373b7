use Rattle.std.{proofs.Common.{◌≡◌, ℕ, List, [], Ok, map, refl, sym, subst, ◌∙◌}, proofs.lemmas.Result.err_from_is_err_and}
use Rattle.fm_image.{specs.Rules.FailsUnless, specs.Fields.items_at, specs.Reading.{procedure_at, procedures_at}, proofs.ItemLaws.{goes_on, ends, is_done}}
use Rattle.fm_image.proofs.NameLaws.{named_more}
use Rattle.fm_image.proofs.reading.procedures.Goals as goal

pub returns-in_err-next : goal.returns-in_err-next
unfolding procedures_at
returns-in_err-next g c =
    let p = err_from_is_err_and c.from_residual-in_err-next.result c.from_residual-in_err-next.ensures.1 in
    let whole : procedures_at c.args.end c.args.left.now ≡ items_at (λ earlier. procedure_at c.args.end (map (λ x. x.name) earlier)) c.in_ok-count.count
    [] c.in_ok-count.rest.now = rw c.in_ok-count.ensures refl in
    let failed = subst (λ (ns : List (List ℕ)). FailsUnless (g.H.Heap.may_refuse c.args.heap) c.in_err-next.field-0.0
    (procedure_at c.args.end ns c.loop.rest.now)) c.loop.invariant.known c.in_err-next.ensures.procedure in
    rw (p.1, p.2) (ends (g.H.Heap.may_refuse c.args.heap) c.in_err-next.field-0.0 (λ earlier. procedure_at c.args.end (map (λ x. x.name) earlier))
    c.loop.procedures.items c.in_ok-count.count c.loop.counter c.loop.rest.now (procedures_at c.args.end c.args.left.now) c.loop-test.true failed
    (c.loop.invariant.read ∙ sym whole))

pub loop-preserved : goal.loop-preserved
loop-preserved g c =
    let done = subst (λ (ns : List (List ℕ)). procedure_at c.args.end ns c.loop.rest.now ≡ Ok (c.in_ok-next.next, c.in_ok-next.after.now))
    c.loop.invariant.known c.in_ok-next.ensures.procedure in
    record {
      read = rw c.in_ok-push.ensures.items (goes_on (λ earlier. procedure_at c.args.end (map (λ x. x.name) earlier)) c.loop.procedures.items
          c.in_ok-count.count c.loop.counter c.loop.rest.now c.in_ok-next.next c.in_ok-next.after.now
          (items_at (λ earlier. procedure_at c.args.end (map (λ x. x.name) earlier)) c.in_ok-count.count [] c.in_ok-count.rest.now) c.loop-test.true
          done c.loop.invariant.read);
      known = named_more (λ x. x.name) c.loop.procedures.items c.push.new.items.items c.in_ok-next.next _ _ c.in_ok-push.ensures.items
          c.in_ok-next.ensures.entered c.loop.invariant.known;
    }

pub returns : goal.returns
unfolding procedures_at
returns g c =
    let whole : procedures_at c.args.end c.args.left.now ≡ items_at (λ earlier. procedure_at c.args.end (map (λ x. x.name) earlier)) c.in_ok-count.count
    [] c.in_ok-count.rest.now = rw c.in_ok-count.ensures refl in
    is_done (λ earlier. procedure_at c.args.end (map (λ x. x.name) earlier)) c.loop.procedures.items c.in_ok-count.count c.loop.counter c.loop.rest.now
    (procedures_at c.args.end c.args.left.now) c.loop-test.false (c.loop.invariant.read ∙ sym whole)
