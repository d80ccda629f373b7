-- A quick program takes no more instructions than the plain one.
use Rattle.std.{proofs.Common.{◌≡◌, ℕ, ◌+◌, ◌≤◌, Bool, true, false, Some, None, List, refl, arith}, specs.Prelude.option_map}
use Rattle.stack_text.specs.Values.{ValueOf}
use Rattle.gypsy_syntax.specs.Programs.{Program, body_of}
use Rattle.gypsy_space.{specs.Costs.{Tally, spend, start_tally, main_spend}, specs.Needs.{StackSizes, main_used}}
use Rattle.gypsy_semantics.{specs.Calls.{is_passed_on, main_start}, specs.Meaning.{MeaningOutcome, Done, Unfinished}, specs.Counted.CountedOutcome}
use Rattle.gypsy_semantics.specs.Counted.{CountedDone, CountedUnfinished, counted_evaluate, counted_main_end, tally_of}
use Rattle.quick_gypsy.{specs.Quick.quick_cost, specs.InLine.lined_main, specs.InLineRuns.{CanLine, lined_start, lined_outcome}}
use Rattle.quick_gypsy.proofs.LinedLaws.{quick_is_no_slower}
use Rattle.quick_build.{specs.QuickImage.{layout_in, most_nested}, specs.QuickImplements.{exit_cost, program_cost, QuickProgramsAreNoSlower}}

exit_small : (o : MeaningOutcome) → exit_cost o ≤ 3
exit_small (Done x None) = omega arith
exit_small (Done x (Some c)) = omega arith
exit_small Unfinished = omega arith

passed : (b : Bool) (k count : ℕ) (t : Tally) → k ≤ t.count → Some (main_spend b t).count ≡ Some count → k + 3 ≤ count
unfolding main_spend spend
passed true k count t h e = let same : t.count + 4 ≡ count = cc in omega (arith, h, same)
passed false k count t h e = let same : t.count + 7 ≡ count = cc in omega (arith, h, same)

module _ (vs : List ℕ) (q : Program) (end : ℕ) (sizes : StackSizes) (values : List ValueOf) (bound count : ℕ) (can : CanLine q sizes most_nested values) where
  whole : (p : CountedOutcome) → counted_evaluate q sizes bound (body_of q q.main) (main_used q) (main_start q values) start_tally ≡ p
      → option_map (λ (t : Tally). t.count) (tally_of (counted_main_end q p)) ≡ Some count → program_cost vs q sizes end values bound ≤ count
  unfolding spend
  whole (CountedDone y None t) is e =
      let same : t.count + 5 ≡ count = cc in
      let L = layout_in vs (lined_main q sizes most_nested) end in
      let k = quick_cost q sizes L bound (lined_main q sizes most_nested).body (main_used q) (lined_start q sizes most_nested values) in
      let few : k + 0 ≤ t.count = quick_is_no_slower L q sizes most_nested values bound y None start_tally t can is in
      omega (arith, few, same, exit_small (lined_outcome q sizes most_nested values bound))
  whole (CountedDone y (Some c) t) is e =
      let L = layout_in vs (lined_main q sizes most_nested) end in
      let k = quick_cost q sizes L bound (lined_main q sizes most_nested).body (main_used q) (lined_start q sizes most_nested values) in
      let few : k + 0 ≤ t.count = quick_is_no_slower L q sizes most_nested values bound y (Some c) start_tally t can is in
      let more : k + 3 ≤ count = passed (is_passed_on q q.main c) k count t (omega (arith, few)) e in
      omega (arith, more, exit_small (lined_outcome q sizes most_nested values bound))
  whole CountedUnfinished is e = absurd cc

pub programs_no_slower : QuickProgramsAreNoSlower
programs_no_slower vs q end sizes values bound count can e =
    whole vs q end sizes values bound count can
    (counted_evaluate q sizes bound (body_of q q.main) (main_used q) (main_start q values) start_tally) refl e
