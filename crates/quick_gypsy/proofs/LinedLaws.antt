-- Main, with all calls in line: what `agrees` says of it.
use Rattle.std.proofs.Common.{◌≡◌, ℕ, ◌+◌, ◌<◌, ◌≤◌, List, [], ◌++◌, map, length, take, get_or, false, Some, None, refl, ap, sym, ◌∙◌, subst, arith, inl, inr}
use Rattle.std.{proofs.Common.{length-append, append_assoc}, specs.Prelude.option_map, proofs.lemmas.List.{length-map, get_or-take, length-take-le, take-take}}
use Rattle.std.proofs.Math.ListN.{get_or-append}
use Rattle.stack_text.specs.Values.{ValueOf}
use Rattle.gypsy_syntax.{specs.Programs.{Leave, Routine, Space, Declared, Program, proc_at, body_of, shapes_of, conds_of}, specs.Effects.{value_at, no_value}}
use Rattle.gypsy_space.{specs.Costs.{Tally, start_tally}, specs.Needs.{StackSizes, main_used}}
use Rattle.gypsy_semantics.{specs.Calls.{CurrentCondition, main_way, main_start, main_formals}, specs.Meaning.{MeaningOutcome, Done, Unfinished, main_end}}
use Rattle.gypsy_semantics.{specs.Meaning.meaning, specs.Counted.{CountedOutcome, CountedDone, CountedUnfinished, counted_evaluate, counted_main_end}}
use Rattle.gypsy_semantics.{specs.Counted.uncounted, proofs.CountLaws.meaning-uncounted}
use Rattle.quick_code.specs.Access.{Known}
use Rattle.quick_gypsy.{specs.Layout.Layout, specs.Quick.quick_cost, specs.InLine.{condition_from, numbers_from, main_context, new_locals, lined_main}}
use Rattle.quick_gypsy.{specs.InLineRuns.{lined_start, lined_outcome, CanLine, CallsAreLined, LinedCallsGoOn, QuickIsNoSlower}, proofs.ViewLaws.view}
use Rattle.quick_gypsy.{proofs.ViewLaws.{same_view, numbers_length, number_at, numbers_apart}, proofs.AgreeLaws.Agree, proofs.InLineLaws.{Bounds, IsInMain}}
use Rattle.quick_gypsy.proofs.InLineLaws.{agrees}

-- what main's variables are, seen among all
front_view : (n : ℕ) (x X : List ValueOf) → length x ≡ n → ((b : ℕ) → b < n → value_at x b ≡ value_at X b) → x ≡ view (numbers_from 0 n) X
front_view n x X long h =
    same_view (numbers_from 0 n) X x (omega (arith, long, numbers_length 0 n))
    (λ b lt. let there : b < n = omega (arith, lt, numbers_length 0 n) in
    let same : b ≡ get_or (numbers_from 0 n) b 0 = omega (arith, number_at 0 n b there) in h b there ∙ ap (value_at X) same)

taken_view : (n : ℕ) (X : List ValueOf) → n ≤ length X → take n X ≡ view (numbers_from 0 n) X
taken_view n X le = front_view n (take n X) X (length-take-le n X le) (λ b lt. get_or-take n X b no_value lt)

from_zero : (c : CurrentCondition) → option_map (condition_from 0) c ≡ c
from_zero None = refl
from_zero (Some Leave) = refl
from_zero (Some Routine) = refl
from_zero (Some Space) = refl
from_zero (Some (Declared i)) = let same : 0 + i ≡ i = omega arith in ap (λ j. Some (Declared j)) same

module _ (q : Program) (sizes : StackSizes) (d : ℕ) (values : List ValueOf) (can : CanLine q sizes d values) where
  count : ℕ
  count = length (shapes_of (proc_at q q.main))

  main_count : count ≡ length (proc_at q q.main).formals + length (proc_at q q.main).locals
  unfolding count
  main_count =
      length-append (proc_at q q.main).formals (map (λ v. v.shape) (proc_at q q.main).locals)
      ∙ omega (arith, length-map (proc_at q q.main).locals (λ (v : ValueOf). v.shape))

  start_view : main_start q values ≡ view (main_context q).variables (lined_start q sizes d values)
  unfolding main_start main_context count
  start_view =
      let locals = (proc_at q q.main).locals in
      let new = new_locals q sizes d (main_used q) (body_of q q.main) in
      let long : length (values ++ locals) ≡ count = length-append values locals ∙ omega (arith, main_count, can.number) in
      front_view count (values ++ locals) (values ++ (locals ++ new)) long
      (λ b lt. sym (get_or-append (values ++ locals) new no_value b (omega (arith, lt, long))) ∙ ap (λ l. value_at l b) (append_assoc values locals new))

  start_length : (main_context q).next + length (new_locals q sizes d (main_used q) (body_of q q.main)) ≡ length (lined_start q sizes d values)
  unfolding main_context count
  start_length =
      let locals = (proc_at q q.main).locals in
      let new = new_locals q sizes d (main_used q) (body_of q q.main) in
      omega (arith, length-append values (locals ++ new), length-append locals new, main_count, can.number)

  main_is : IsInMain (main_context q) (shapes_of (proc_at q q.main)) (conds_of (proc_at q q.main)) 0
  unfolding main_context
  main_is =
      record {
        count = sym (numbers_length 0 (length (shapes_of (proc_at q q.main))));
        apart = numbers_apart (length (shapes_of (proc_at q q.main)));
        low = omega arith;
        old = omega arith;
      }

  abbrev Sides : Type 0 → Type 0 → CountedOutcome → MeaningOutcome → Tally → ℕ → Type 0
  Sides A B o O t k =
      Agree A B (main_context q).variables 0 0 (conds_of (proc_at q q.main)) false (lined_start q sizes d values) t o O k

  sides : (A B : Type 0) (L : Layout) (m n : ℕ) (t : Tally) → Bounds A B d m n
      → Sides A B (counted_evaluate q sizes m (body_of q q.main) (main_used q) (main_start q values) t) (lined_outcome q sizes d values n) t
      (quick_cost q sizes L n (lined_main q sizes d).body (main_used q) (lined_start q sizes d values))
  unfolding main_context
  sides A B L m n t b =
      subst (λ x. Sides A B (counted_evaluate q sizes m (body_of q q.main) (main_used q) x t) (lined_outcome q sizes d values n) t
      (quick_cost q sizes L n (lined_main q sizes d).body (main_used q) (lined_start q sizes d values))) (sym start_view)
      (agrees A B q sizes L (main_used q) can.fits m (body_of q q.main) n d (main_context q) (shapes_of (proc_at q q.main)) (conds_of (proc_at q q.main))
      false 0 (lined_start q sizes d values) t b (can.fits.procs q.main).body can.nests main_is (omega (arith, start_length)))

  -- any layout, where none matters
  nowhere : Layout
  nowhere = record { end = 0; shapes = []; access = λ b. Known 0 }

  formals_same : (y Y : List ValueOf) → view (main_context q).variables Y ≡ y → count ≤ length Y → main_formals q Y ≡ main_formals q y
  unfolding main_context main_formals count
  formals_same y Y e le =
      let k = length (proc_at q q.main).formals in
      sym (take-take k (length (shapes_of (proc_at q q.main))) Y (omega (arith, main_count)))
      ∙ ap (take k) (taken_view (length (shapes_of (proc_at q q.main))) Y le ∙ e)

  start_long : count ≤ length (lined_start q sizes d values)
  unfolding main_context count
  start_long = omega (arith, start_length)

  done_at : (o : CountedOutcome) (O : MeaningOutcome) (t : Tally) (k : ℕ) (finals : List ValueOf) (way : CurrentCondition)
      → uncounted (counted_main_end q o) ≡ Done finals way → Sides ⊥ (Unit {0}) o O t k → main_end q O ≡ Done finals way
  done_at (CountedDone y None t') (Done Y None) t k finals way e h =
      ap (λ f. Done f None) (formals_same y Y h.seen (omega (arith, start_long, h.keeps.long))) ∙ e
  done_at (CountedDone y None t') (Done Y (Some C)) t k finals way e h = let f = h.way in absurd cc
  done_at (CountedDone y (Some c) t') (Done Y None) t k finals way e h = let f = h.way in absurd cc
  done_at (CountedDone y (Some c) t') (Done Y (Some C)) t k finals way e h =
      let f : Some C ≡ Some c = h.way ∙ from_zero (Some c) in
      let g : C ≡ c = cc in
      ap (λ a. Done (main_formals q Y) (Some (main_way q a))) g
      ∙ ap (λ l. Done l (Some (main_way q c))) (formals_same y Y h.seen (omega (arith, start_long, h.keeps.long))) ∙ e
  done_at (CountedDone y c t') Unfinished t k finals way e h = absurd h
  done_at CountedUnfinished O t k finals way e h = absurd cc

  unfinished_at : (o : CountedOutcome) (O : MeaningOutcome) (t : Tally) (k : ℕ) → uncounted (counted_main_end q o) ≡ Unfinished
      → Sides (Unit {0}) ⊥ o O t k → O ≡ Unfinished
  unfinished_at (CountedDone y None t') O t k e h = absurd cc
  unfinished_at (CountedDone y (Some c) t') O t k e h = absurd cc
  unfinished_at CountedUnfinished (Done Y C) t k e h = absurd h
  unfinished_at CountedUnfinished Unfinished t k e h = refl

  cost_at : (O : MeaningOutcome) (t t' : Tally) (k : ℕ) (y : List ValueOf) (c : CurrentCondition) → Sides ⊥ (Unit {0}) (CountedDone y c t') O t k
      → k + t.count ≤ t'.count
  cost_at (Done Y C) t t' k y c h = h.cost
  cost_at Unfinished t t' k y c h = absurd h

  pub lined_done : (n : ℕ) (finals : List ValueOf) (way : CurrentCondition) → meaning q sizes values n ≡ Done finals way
      → main_end q (lined_outcome q sizes d values n) ≡ Done finals way
  lined_done n finals way e =
      done_at (counted_evaluate q sizes n (body_of q q.main) (main_used q) (main_start q values) start_tally) (lined_outcome q sizes d values n) start_tally
      (quick_cost q sizes nowhere n (lined_main q sizes d).body (main_used q) (lined_start q sizes d values)) finals way
      (meaning-uncounted q sizes values n ∙ e) (sides ⊥ (Unit {0}) nowhere n n start_tally (inr (tt, omega arith)))

  pub lined_unfinished : (n : ℕ) → meaning q sizes values (n + d) ≡ Unfinished → lined_outcome q sizes d values n ≡ Unfinished
  lined_unfinished n e =
      unfinished_at (counted_evaluate q sizes (n + d) (body_of q q.main) (main_used q) (main_start q values) start_tally)
      (lined_outcome q sizes d values n) start_tally
      (quick_cost q sizes nowhere n (lined_main q sizes d).body (main_used q) (lined_start q sizes d values))
      (meaning-uncounted q sizes values (n + d) ∙ e) (sides (Unit {0}) ⊥ nowhere (n + d) n start_tally (inl (tt, omega arith)))

  pub lined_cost : (L : Layout) (n : ℕ) (y : List ValueOf) (c : CurrentCondition) (t t' : Tally)
      → counted_evaluate q sizes n (body_of q q.main) (main_used q) (main_start q values) t ≡ CountedDone y c t'
      → quick_cost q sizes L n (lined_main q sizes d).body (main_used q) (lined_start q sizes d values) + t.count ≤ t'.count
  lined_cost L n y c t t' e =
      let k = quick_cost q sizes L n (lined_main q sizes d).body (main_used q) (lined_start q sizes d values) in
      cost_at (lined_outcome q sizes d values n) t t' k y c
      (subst (λ o. Sides ⊥ (Unit {0}) o (lined_outcome q sizes d values n) t k) e (sides ⊥ (Unit {0}) L n n t (inr (tt, omega arith))))

pub calls_are_lined : CallsAreLined
calls_are_lined q sizes d values n finals way can e = lined_done q sizes d values can n finals way e

pub lined_calls_go_on : LinedCallsGoOn
lined_calls_go_on q sizes d values n can e = lined_unfinished q sizes d values can n e

pub quick_is_no_slower : QuickIsNoSlower
quick_is_no_slower L q sizes d values n y c t t' can e = lined_cost q sizes d values can L n y c t t' e
