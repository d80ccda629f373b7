use Rattle.std.proofs.Common.{◌≡◌, ◌+◌, ◌-◌, ◌++◌, ◌∷◌, [], List, ap, sym, ◌∙◌, subst, length, map, replicate, true, vec_len, get_or, ◌≤◌, ◌<◌, rules, arith}
use Rattle.std.{specs.declared.alloc.Global.Global, specs.declared.rc.Rc.Rc, proofs.lemmas.List.drop_all}
use Rattle.stack_heap.specs.Heaps.{IfOkUnless}
use Rattle.gypsy_syntax.specs.Programs.{Proc, Routine, Stmt}
use Rattle.gypsy_space.{specs.Needs.has_room, specs.CallSites.sequenced, specs.declared.program.Condition.Condition, specs.Nodes.{held_values, seen_cond}}
use Rattle.gypsy_space.{specs.Nodes.{seen_statement, seen_statements}, proofs.NodeLaws.seen_statement-seq, specs.declared.program.Node.Node}
use Rattle.quick_gypsy.specs.InLine.{condition_from}
use Rattle.quick_generate.{specs.Lining.{CanGo, inside}, specs.LinedViews.{line_in, more_in, called_program, size_in, sizes_of, used_in}}
use Rattle.quick_generate.{proofs.LinedSizeLaws.few_inside, proofs.LineLaws.{body_numbers, call_is, locals_counted, locals_fit, more_is, on_ok_of, next_more}}
use Rattle.quick_generate.proofs.LineLaws.{part_can, part_more, part_next, part_stands, rest_numbers, sequenced-skip, then_numbers, ways_fit}
use Rattle.quick_generate.proofs.lining.+lines.Goals as goal

pub line-line_parts-requires : goal.line-line_parts-requires
line-line_parts-requires g t c κs within =
    let k : seen_statement c.args.node.now.value ≡ seen_statements c.in-Seq.parts.value.items =
    ap seen_statement (sym c.deref.ensures ∙ c.in-Seq.is) ∙ seen_statement-seq c.in-Seq.parts in
    (omega (arith, c.decreases), (within, (c.requires.table, (rw k at c.requires.can, rw k at c.requires.numbers))))

pub line-line_inside-requires-in-If-2 : goal.line-line_inside-requires-in-If-2
line-line_inside-requires-in-If-2 g t c κs within =
    let calls = c.args.calls.now in
    let h = c.args.context.now in
    let yes : Stmt = seen_statement c.in-If.yes.value in
    let no : Stmt = seen_statement c.in-If.no.value in
    let k = ap seen_statement (sym c.deref.ensures ∙ c.in-If.is) in
    let can = rw k at c.requires.can in
    let numbers = rw k at c.requires.numbers in
    let few = few_inside (called_program calls) (sizes_of calls) h.activation.calls c.args.levels (used_in h.activation) yes (omega (arith, numbers.small)) in (
      omega (arith, c.decreases),
      (
        within,
        (
          c.requires.table,
          (
            can.1,
            then_numbers h c.args.made.now.next c.line_inside-in-If.new.made.next (inside c.args.levels (size_in calls h.activation (c.args.levels - 1) yes))
                (inside c.args.levels (size_in calls h.activation (c.args.levels - 1) no)) (length (more_in calls h.activation yes)) numbers
                c.in_ok-first-in-If.ensures.next few,
          ),
        ),
      ),
    )

pub line-line_inside-requires-in-Begin-2 : goal.line-line_inside-requires-in-Begin-2
line-line_inside-requires-in-Begin-2 g t c κs within =
    let calls = c.args.calls.now in
    let h = c.args.context.now in
    let body : Stmt = seen_statement c.in-Begin.body.value in
    let arm : Stmt = seen_statement c.in-Begin.arm.value in
    let k = ap seen_statement (sym c.deref.ensures ∙ c.in-Begin.is) in
    let can = rw k at c.requires.can in
    let numbers = rw k at c.requires.numbers in
    let few =
    few_inside (called_program calls) (sizes_of calls) h.activation.calls c.args.levels (used_in h.activation) body (omega (arith, numbers.small)) in (
      omega (arith, c.decreases),
      (
        within,
        (
          c.requires.table,
          (
            can.2,
            then_numbers h c.args.made.now.next c.line_inside-in-Begin.new.made.next
                (inside c.args.levels (size_in calls h.activation (c.args.levels - 1) body))
                (inside c.args.levels (size_in calls h.activation (c.args.levels - 1) arm)) (length (more_in calls h.activation body)) numbers
                c.in_ok-first-in-Begin.ensures.next few,
          ),
        ),
      ),
    )

pub line-returns-in_ok-shared-in-Seq-clause-statement : goal.line-returns-in_ok-shared-in-Seq-clause-statement
line-returns-in_ok-shared-in-Seq-clause-statement g t c =
    let k : seen_statement c.args.node.now.value ≡ seen_statements c.in-Seq.parts.value.items =
    ap seen_statement (sym c.deref.ensures ∙ c.in-Seq.is) ∙ seen_statement-seq c.in-Seq.parts in
    seen_statement-seq c.in_ok-shared-in-Seq.field-0 ∙ ap (λ v. seen_statements v.items) c.in_ok-shared-in-Seq.ensures.value
    ∙ rw k c.in_ok-lined-in-Seq.ensures.statement

pub line-returns-in_ok-shared-in-Seq-clause-locals : goal.line-returns-in_ok-shared-in-Seq-clause-locals
line-returns-in_ok-shared-in-Seq-clause-locals g t c =
    let k : seen_statement c.args.node.now.value ≡ seen_statements c.in-Seq.parts.value.items =
    ap seen_statement (sym c.deref.ensures ∙ c.in-Seq.is) ∙ seen_statement-seq c.in-Seq.parts in
    rw k c.in_ok-lined-in-Seq.ensures.locals

pub line-returns-in_ok-shared-in-Seq-clause-next : goal.line-returns-in_ok-shared-in-Seq-clause-next
line-returns-in_ok-shared-in-Seq-clause-next g t c =
    let k : seen_statement c.args.node.now.value ≡ seen_statements c.in-Seq.parts.value.items =
    ap seen_statement (sym c.deref.ensures ∙ c.in-Seq.is) ∙ seen_statement-seq c.in-Seq.parts in
    rw k c.in_ok-lined-in-Seq.ensures.next

pub line_call-callee-requires-clause-next : goal.line_call-callee-requires-clause-next
line_call-callee-requires-clause-next g t c =
    let calls = c.args.calls.now in
    let h = c.args.context.now in
    let site = c.args.site.now in
    let callee = c.procedure-callee.result.now in
    let room : has_room (called_program calls) (sizes_of calls) site.callee (used_in h.activation) ≡ true = search rules in
    let numbers = c.requires.numbers in
    locals_fit calls h c.args.levels c.args.made.now.next site callee room numbers c.procedure-callee.ensures

pub line_call-take_locals-requires : goal.line_call-take_locals-requires
line_call-take_locals-requires g t c =
    let calls = c.args.calls.now in
    let h = c.args.context.now in
    let site = c.args.site.now in
    let callee = c.procedure-callee.result.now in
    let room : has_room (called_program calls) (sizes_of calls) site.callee (used_in h.activation) ≡ true = search rules in
    let numbers = c.requires.numbers in
    let fit = locals_fit calls h c.args.levels c.args.made.now.next site callee room numbers c.procedure-callee.ensures in
    let count = locals_counted calls h c.args.levels c.args.made.now.next site callee room numbers c.procedure-callee.ensures in
    omega (arith, fit, count, ap (λ xs. length xs) c.as_slice.ensures.value)

pub line_call-line_inside-requires : goal.line_call-line_inside-requires
line_call-line_inside-requires g t c κs within =
    let calls = c.args.calls.now in
    let h = c.args.context.now in
    let site = c.args.site.now in
    let callee = c.procedure-callee.result.now in
    let room : has_room (called_program calls) (sizes_of calls) site.callee (used_in h.activation) ≡ true = search rules in
    let numbers = c.requires.numbers in
    let count = locals_counted calls h c.args.levels c.args.made.now.next site callee room numbers c.procedure-callee.ensures in
    let can : CanGo (called_program calls) (seen_statement callee.body.value) =
    subst (λ (r : Proc). CanGo (called_program calls) r.body) (sym c.procedure-callee.ensures) (c.requires.table.all site.callee) in (
      omega (arith, c.decreases),
      (
        within,
        (
          c.requires.table,
          (
            can,
            body_numbers calls h c.args.levels c.args.made.now.next site callee room numbers c.procedure-callee.ensures
                c.in_ok-inner.inner c.conds_of.result c.conds_of.ensures c.in_ok-inner.ensures.inner c.in_ok-inner.ensures.nests
                c.in_ok-inner.ensures.first c.take_locals.new.made.next
                (omega (arith, c.in_ok-take_locals.ensures.next, count, ap (λ xs. length xs) c.as_slice.ensures.value)),
          ),
        ),
      ),
    )

pub line_call-after_locals-requires : goal.line_call-after_locals-requires
line_call-after_locals-requires g t c =
    let calls = c.args.calls.now in
    let h = c.args.context.now in
    let site = c.args.site.now in
    let callee = c.procedure-callee.result.now in
    let room : has_room (called_program calls) (sizes_of calls) site.callee (used_in h.activation) ≡ true = search rules in
    let numbers = c.requires.numbers in
    let fit = locals_fit calls h c.args.levels c.args.made.now.next site callee room numbers c.procedure-callee.ensures in
    let count = locals_counted calls h c.args.levels c.args.made.now.next site callee room numbers c.procedure-callee.ensures in
    omega (arith, fit, count, ap (λ xs. length xs) c.as_slice-2.ensures.value)

pub line_call-passing-requires : goal.line_call-passing-requires
line_call-passing-requires g t c =
    let calls = c.args.calls.now in
    let h = c.args.context.now in
    let site = c.args.site.now in
    let callee = c.procedure-callee.result.now in
    let room : has_room (called_program calls) (sizes_of calls) site.callee (used_in h.activation) ≡ true = search rules in
    let numbers = c.requires.numbers in
    let named = c.in_ok-ways.ensures ∙ ap (λ (cs : List Condition). map (condition_from h.first_cond) (map seen_cond cs) ++ replicate c.len.result Routine)
    c.as_slice-3.ensures.value in
    let fit = ways_fit calls h c.args.levels c.args.made.now.next site callee room numbers c.procedure-callee.ensures
    c.in_ok-ways.ways.items c.len.result c.requires.can (omega (arith, c.len.ensures)) named in
    omega (arith, fit, ap (λ xs. length xs) c.as_slice-4.ensures.value)

pub line_call-returns-clause-statement : goal.line_call-returns-clause-statement
line_call-returns-clause-statement g t c =
    let calls = c.args.calls.now in
    let h = c.args.context.now in
    let site = c.args.site.now in
    let callee = c.procedure-callee.result.now in
    let room : has_room (called_program calls) (sizes_of calls) site.callee (used_in h.activation) ≡ true = search rules in
    let numbers = c.requires.numbers in
    let count = locals_counted calls h c.args.levels c.args.made.now.next site callee room numbers c.procedure-callee.ensures in
    let named = c.in_ok-ways.ensures ∙ ap (λ (cs : List Condition). map (condition_from h.first_cond) (map seen_cond cs) ++ replicate c.len.result Routine)
    c.as_slice-3.ensures.value in
    let ways = ap (λ (cs : List Condition). map seen_cond cs) c.as_slice-4.ensures.value ∙ named in
    subst (λ (s : Stmt). IfOkUnless (g.H.Heap.may_refuse c.args.heap) c.passing.result (λ lined. seen_statement lined ≡ s))
    (call_is calls h c.args.levels c.args.made.now.next site callee room numbers c.procedure-callee.ensures
    c.in_ok-inner.inner c.conds_of.result c.conds_of.ensures c.in_ok-inner.ensures.inner c.in_ok-inner.ensures.nests
    c.in_ok-inner.ensures.first c.take_locals.new.made.next _ _ (seen_statement c.in_ok-body.body.value) _ c.len.result
    (omega (arith, c.in_ok-take_locals.ensures.next, count, ap (λ xs. length xs) c.as_slice.ensures.value)) c.in_ok-body.ensures.statement
    (ap (λ xs. held_values xs) c.as_slice-2.ensures.value) c.in_ok-begun.ensures (omega (arith, c.len.ensures)) ways)
    c.passing.ensures

pub line_call-returns-clause-locals : goal.line_call-returns-clause-locals
line_call-returns-clause-locals g t c =
    let calls = c.args.calls.now in
    let h = c.args.context.now in
    let site = c.args.site.now in
    let callee = c.procedure-callee.result.now in
    let room : has_room (called_program calls) (sizes_of calls) site.callee (used_in h.activation) ≡ true = search rules in
    let numbers = c.requires.numbers in
    let taken = c.in_ok-take_locals.ensures.locals
    ∙ ap (λ xs. held_values c.args.made.now.locals.items ++ held_values xs) c.as_slice.ensures.value in
    let more = more_is calls h c.args.levels c.args.made.now.next site callee room numbers c.procedure-callee.ensures
    c.in_ok-inner.inner c.conds_of.result c.conds_of.ensures c.in_ok-inner.ensures.inner c.in_ok-inner.ensures.nests
    c.in_ok-inner.ensures.first 0 (held_values c.args.made.now.locals.items) (held_values c.take_locals.new.made.locals.items)
    (held_values c.line_inside.new.made.locals.items) taken c.in_ok-body.ensures.locals in
    on_ok_of (g.H.Heap.may_refuse c.args.heap) c.passing.result _ _ more c.passing.ensures

pub line_call-returns-clause-next : goal.line_call-returns-clause-next
line_call-returns-clause-next g t c =
    let calls = c.args.calls.now in
    let h = c.args.context.now in
    let site = c.args.site.now in
    let callee = c.procedure-callee.result.now in
    let room : has_room (called_program calls) (sizes_of calls) site.callee (used_in h.activation) ≡ true = search rules in
    let numbers = c.requires.numbers in
    let taken : c.take_locals.new.made.next ≡ c.args.made.now.next + length callee.locals.items =
    omega (arith, c.in_ok-take_locals.ensures.next, ap (λ xs. length xs) c.as_slice.ensures.value) in
    let more = next_more calls h c.args.levels c.args.made.now.next site callee room numbers c.procedure-callee.ensures
    c.in_ok-inner.inner c.conds_of.result c.conds_of.ensures c.in_ok-inner.ensures.inner c.in_ok-inner.ensures.nests
    c.in_ok-inner.ensures.first c.take_locals.new.made.next c.line_inside.new.made.next taken c.in_ok-body.ensures.next in
    on_ok_of (g.H.Heap.may_refuse c.args.heap) c.passing.result _ _ more c.passing.ensures

pub line_parts-loop-index-preserved : goal.line_parts-loop-index-preserved
line_parts-loop-index-preserved g t c =
    let calls = c.args.calls.now in
    let h = c.args.context.now in
    let k = c.args.levels in
    let all = c.args.parts.now.value.items in
    let index = c.loop-index.index in
    let x = c.index.result.now in
    let lt : index < length all = omega (arith, c.loop-index-test.true, c.len-index-end.ensures, ap vec_len c.deref.ensures) in
    let is : x ≡ get_or all index x = c.index.ensures ∙ ap (λ v. get_or v.items index x) c.deref-in-loop-index.ensures in
    let old : List (Rc Node Global) = c.loop-index.lined.items in
    let new : List (Rc Node Global) = c.push.new.items.items in
    let pushed : new ≡ old ++ c.in_ok-part.part ∷ [] = search rules in
    record {
      can = (part_can calls h k all index x lt is c.loop-index.invariant.can).1;
      numbers =
          rest_numbers calls h k all index x lt is c.loop-index.made.next c.line_inside.new.made.next c.loop-index.invariant.numbers
          c.in_ok-part.ensures.next;
      statement =
          part_stands calls h k all index x lt is c.loop-index.made.next c.line_inside.new.made.next old new c.in_ok-part.part _ pushed
          c.in_ok-part.ensures.next c.in_ok-part.ensures.statement c.loop-index.invariant.statement;
      locals =
          part_more calls h k all index x lt is (held_values c.loop-index.made.locals.items) (held_values c.line_inside.new.made.locals.items) _
          c.in_ok-part.ensures.locals c.loop-index.invariant.locals;
      next =
          part_next calls h k all index x lt is c.loop-index.made.next c.line_inside.new.made.next _ c.in_ok-part.ensures.next
          c.loop-index.invariant.next;
    }

pub line_parts-returns-clause-statement : goal.line_parts-returns-clause-statement
line_parts-returns-clause-statement g t c =
    let calls = c.args.calls.now in
    let h = c.args.context.now in
    let all = c.args.parts.now.value.items in
    let past : length all ≤ c.loop-index.index = omega (arith, c.loop-index-test.false, c.len-index-end.ensures, ap vec_len c.deref.ensures) in
    sym (sequenced-skip c.loop-index.lined.items)
    ∙ ap (λ (ns : List (Rc Node Global)). sequenced c.loop-index.lined.items (line_in calls h c.loop-index.made.next (seen_statements ns)))
    (sym (drop_all c.loop-index.index all past))
    ∙ c.loop-index.invariant.statement
