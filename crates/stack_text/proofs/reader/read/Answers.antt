use Rattle.std.{proofs.Common.{◌∙◌, ap, arith, List, map, ◌++◌, drop, length}, proofs.lemmas.Result.err_from_is_err_and}
use Rattle.stack_text.{proofs.HeapLaws.{refuses_less, few_opened}, specs.Tokens.{Token, tokens, between}, specs.Trees.as_kept, specs.TextFaults.first_fault}
use Rattle.stack_text.{specs.Internal.OpenLists.{opened, context}, specs.Internal.TokenSpans.token_in, proofs.OpenListLaws.{text_ends, text_finishes}}
use Rattle.stack_text.proofs.OpenListLaws.{kept_goes_on, unfinished}
use Rattle.stack_text.proofs.reader.read.Goals as goal

pub returns-in_err-tree-clause-value : goal.returns-in_err-tree-clause-value
returns-in_err-tree-clause-value g c =
    let toks = c.in-Some.ensures.some.tokens_are in
    let old = c.loop-found.stack.items in
    let p = err_from_is_err_and c.from_residual.result c.from_residual.ensures.1 in
    rw (p.1, p.2) (text_ends (g.H.BoundedHeap.may_refuse c.args.heap) c.args.text.now old c.step.new.stack.items (token_in c.args.text.now c.in-Some.found)
    c.in_err-tree.field-0.0 (tokens between c.in-Some.found.end (drop c.in-Some.found.end c.args.text.now))
    c.in_err-tree.ensures.value (c.loop-found.invariant.fault_is ∙ ap (λ (ts : List Token). first_fault (length c.args.text.now) (context old) ts) toks))

pub returns-in-Some-2-clause-value : goal.returns-in-Some-2-clause-value
returns-in-Some-2-clause-value g c =
    let toks = c.in-Some.ensures.some.tokens_are in
    let old = c.loop-found.stack.items in
    text_finishes (g.H.BoundedHeap.may_refuse c.args.heap) c.args.text.now old c.step.new.stack.items (token_in c.args.text.now c.in-Some.found)
    c.in-Some-2.tree (tokens between c.in-Some.found.end (drop c.in-Some.found.end c.args.text.now)) c.finish.result
    (rw c.in-Some-2.is at c.in_ok-tree.ensures.value) c.finish.ensures
    (c.loop-found.invariant.kept_is ∙ ap (λ (ts : List Token). opened old ++ map as_kept ts) toks)
    (c.loop-found.invariant.fault_is ∙ ap (λ (ts : List Token). first_fault (length c.args.text.now) (context old) ts) toks)

pub loop-found-preserved : goal.loop-found-preserved
loop-found-preserved g c =
    let toks = c.in-Some.ensures.some.tokens_are in
    let old = c.loop-found.stack.items in
    let h = rw c.in-None.is at c.in_ok-tree.ensures.value in
    let rest = tokens between c.in-Some.found.end (drop c.in-Some.found.end c.args.text.now) in
    record {
      within = c.in-Some.ensures.some.in_order.2;
      kept_is = kept_goes_on (g.H.BoundedHeap.may_refuse c.args.heap) (map as_kept (tokens between 0 c.args.text.now)) old c.step.new.stack.items
          (token_in c.args.text.now c.in-Some.found) rest h
          (c.loop-found.invariant.kept_is ∙ ap (λ (ts : List Token). opened old ++ map as_kept ts) toks);
      fault_is = c.loop-found.invariant.fault_is ∙ ap (λ (ts : List Token). first_fault (length c.args.text.now) (context old) ts) toks
          ∙ h.1 (length c.args.text.now) rest;
    }

pub returns-in-Some-pop-clause-value : goal.returns-in-Some-pop-clause-value
returns-in-Some-pop-clause-value g c =
    unfinished c.args.text.now c.loop-found.stack.items c.pop.new.self.items c.in-Some-pop.innermost c.in-Some-pop.ensures.items
    (c.loop-found.invariant.fault_is ∙ ap (λ (ts : List Token). first_fault (length c.args.text.now) (context c.loop-found.stack.items) ts)
    c.in_default.ensures.none)

pub returns-in_err-tree-clause-room : goal.returns-in_err-tree-clause-room
returns-in_err-tree-clause-room g c =
    let p = err_from_is_err_and c.from_residual.result c.from_residual.ensures.1 in
    rw (p.1, p.2) (λ is. refuses_less (g.H.BoundedHeap.may_refuse_room c.args.heap) (length (opened c.loop-found.stack.items)) (length c.args.text.now)
    (few_opened c.args.text.now c.loop-found.stack.items _ c.loop-found.invariant.kept_is) (c.in_err-tree.ensures.room is))

pub step-requires-clause-short : goal.step-requires-clause-short
step-requires-clause-short g c = λ bounded.
    omega (arith, few_opened c.args.text.now c.loop-found.stack.items _ c.loop-found.invariant.kept_is, c.requires.short bounded)
