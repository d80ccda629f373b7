use Rattle.std.{proofs.Common.{◌+◌, ◌<◌, inl, inr, sym, ap, ◌∙◌, List, arith}, specs.Prelude.reverse}
use Rattle.mini_syntax.{specs.declared.expected.Expected.Expected, specs.Expected.is_over, proofs.JudgeLaws.{below_further, breaks_first, ends_early}}
use Rattle.mini_syntax.proofs.JudgeLaws.{goes_further, has_program}
use Rattle.mini_syntax.proofs.judging.judge_text.Goals as goal

pub returns-in-Some-2-clause-fault : goal.returns-in-Some-2-clause-fault
returns-in-Some-2-clause-fault g c =
    let j = rw c.in-Some-2.is at c.in_ok-rule.ensures in
    rw c.refused.ensures (inl (breaks_first c.args.text.now c.loop-found.at c.loop-found.lexemes.items c.loop-found.stack.items
    c.judge_token.new.stack.items c.loop-found.counts c.in-Some.found c.loop-found.invariant.stands
    c.in-Some.ensures.some c.in-Some-2.rule j))

pub loop-found-preserved : goal.loop-found-preserved
loop-found-preserved g c =
    let finds = c.in-Some.ensures.some in
    let j = rw c.in_default-2.is at c.in_ok-rule.ensures in
    let low = finds.in_order.0 in
    let high = finds.in_order.1 in
    let later : c.loop-found.at + 1 < c.in-Some.found.«end» + 1 = omega (arith, low, high) in
    record {
      within = finds.in_order.2;
      below = rw c.count_more-counts.ensures (below_further c.loop-found.counts c.in-Some.found.kind (c.loop-found.at + 1) (c.in-Some.found.«end» + 1)
          c.loop-found.invariant.below later);
      stands = rw c.count_more-counts.ensures (goes_further c.args.text.now c.loop-found.at c.loop-found.lexemes.items c.loop-found.stack.items
          c.judge_token.new.stack.items c.loop-found.counts c.in-Some.found
          c.loop-found.invariant.stands finds c.lexeme.result c.keep.new.lexemes.items c.lexeme.ensures c.in_ok-keep.ensures j);
    }

pub returns-then-is_over-clause-program : goal.returns-then-is_over-clause-program
returns-then-is_over-clause-program g c =
    has_program c.args.text.now c.loop-found.at c.loop-found.lexemes.items c.loop-found.stack.items c.loop-found.counts c.loop-found.invariant.stands
    c.in_default.ensures.none
    (ap (λ (items : List Expected). is_over (reverse items)) (sym c.as_slice.ensures.value) ∙ sym c.if-is_over.ensures)

pub returns-clause-fault : goal.returns-clause-fault
returns-clause-fault g c =
    rw c.refused-else-is_over.ensures (inr (ends_early c.args.text.now c.loop-found.at c.loop-found.lexemes.items c.loop-found.stack.items
    c.loop-found.counts c.loop-found.invariant.stands c.in_default.ensures.none
    (ap (λ (items : List Expected). is_over (reverse items)) (sym c.as_slice.ensures.value) ∙ sym c.if-is_over.ensures)))
