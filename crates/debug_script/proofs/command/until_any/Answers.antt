use Rattle.std.{proofs.Common.{Bor, ℕ, List, drop, ap, subst, sym, ◌∙◌}, proofs.lemmas.Result.err_from_is_err_and, proofs.lemmas.List.take_rest}
use Rattle.stack_text.specs.Gives.{FailsUnless}
use Rattle.debug_script.{specs.Commands.{last_place, rule_of, until_any}, proofs.UntilLaws.{last_fails, last_read, next_place, place_fails}}
use Rattle.debug_script.proofs.WordLaws.{words_seen}
use Rattle.debug_script.proofs.command.until_any.Goals as goal

pub returns-in_err-place_from : goal.returns-in_err-place_from
returns-in_err-place_from g c =
    let p = err_from_is_err_and c.from_residual.result c.from_residual.ensures.1 in
    rw (p.1, p.2)
    (place_fails c.loop-part.places.items (words_seen (drop c.loop-part.start c.args.words.now)) (until_any (words_seen c.args.words.now))
    c.loop-part.invariant.so_far (words_seen c.in-Some.part.now) (words_seen (drop c.in-Some.behind c.args.words.now))
    (g.H.Heap.may_refuse c.args.heap) (rule_of c.in_err-place_from.field-0.0) c.in-Some.ensures.parts c.in_err-place_from.ensures)

pub loop-part-preserved : goal.loop-part-preserved
loop-part-preserved g c = record {
  so_far =
      rw c.in_ok-push.ensures.items
      (next_place c.loop-part.places.items (words_seen (drop c.loop-part.start c.args.words.now)) (until_any (words_seen c.args.words.now))
      c.loop-part.invariant.so_far (words_seen c.in-Some.part.now) (words_seen (drop c.in-Some.behind c.args.words.now))
      _ c.in-Some.ensures.parts c.in_ok-place_from.ensures);
  within = c.in-Some.ensures.within.1;
}

pub returns-in_err-place : goal.returns-in_err-place
returns-in_err-place g c =
    let p = err_from_is_err_and c.from_residual-in_err-place.result c.from_residual-in_err-place.ensures.1 in
    rw (p.1, p.2)
    (last_fails c.loop-part.places.items (words_seen (drop c.loop-part.start c.args.words.now)) (until_any (words_seen c.args.words.now))
    c.loop-part.invariant.so_far (g.H.Heap.may_refuse c.args.heap) (rule_of c.in_err-place.field-0.0) c.in_default.ensures.parts
    (subst (λ (words : List (Bor (List ℕ))). FailsUnless (g.H.Heap.may_refuse c.args.heap) (rule_of c.in_err-place.field-0.0)
    (last_place (words_seen words))) (take_rest c.args.words.now c.loop-part.start) c.in_err-place.ensures))

pub returns : goal.returns
returns g c =
    rw c.in_ok-push-2.ensures.items
    (last_read c.loop-part.places.items (words_seen (drop c.loop-part.start c.args.words.now)) (until_any (words_seen c.args.words.now))
    c.loop-part.invariant.so_far c.in_ok-place.place c.in_ok-place.limit c.in_default.ensures.parts
    (ap (λ (words : List (Bor (List ℕ))). last_place (words_seen words)) (sym (take_rest c.args.words.now c.loop-part.start)) ∙ c.in_ok-place.ensures))
