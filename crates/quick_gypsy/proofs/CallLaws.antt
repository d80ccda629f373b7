-- A call in line: its locals, its callee's conditions, and its end.
use Rattle.std.proofs.Common.{◌≡◌, ℕ, zero, suc, ◌+◌, ◌-◌, ◌*◌, ◌<◌, ◌≤◌, List, [], ◌∷◌, ◌++◌, map, length, get_or, slice_set, Bool, true, false, Some, None}
use Rattle.std.{proofs.Common.{refl, ap, sym, ◌∙◌, subst, arith, ltb-true, length-append}, specs.Prelude.{◌==◌, nat_lt, replicate, if◌then◌else◌}}
use Rattle.std.{proofs.lemmas.Bool.{eqb-true, eq-eqb, ltb-false}, proofs.lemmas.List.{length-map, get_or-map, length-replicate}}
use Rattle.std.{proofs.Math.Seq.get_or-append_right, proofs.Math.ListN.get_or-append}
use Rattle.stack_text.specs.Values.{ValueOf}
use Rattle.gypsy_syntax.specs.Programs.{ConditionOf, Leave, Routine, Space, Declared, Program, Stmt, Signal, Begin, proc_at, conds_of}
use Rattle.gypsy_syntax.{specs.Predefined.predef_effect, specs.ProgramFits.{Each, Distinct, CondFits}}
use Rattle.gypsy_space.{specs.Costs.{Tally, spend, out_spend}, specs.Needs.StackSizes}
use Rattle.gypsy_semantics.{specs.Calls.{has_cond, copied_out, matching, values_of, target_of}, specs.Kept.RaisedFits, specs.Meaning.{MeaningOutcome, Done}}
use Rattle.gypsy_semantics.{specs.Meaning.{Unfinished, then_do, either_way, caught, evaluate}, specs.Counted.{CountedOutcome, CountedDone, CountedUnfinished}}
use Rattle.gypsy_semantics.specs.Counted.{counted_returned}
use Rattle.quick_gypsy.{specs.Layout.Layout, specs.Quick.{after_part, quick_cost}, specs.InLine.{condition_from, after_locals, passing}}
use Rattle.quick_gypsy.{proofs.CostLaws.find_small, proofs.AgreeLaws.{Agree, long}, proofs.ViewLaws.{view, Apart, Keeps, keeps_then, callee_variables}}
use Rattle.quick_gypsy.proofs.ViewLaws.{caller_keeps, copied_back, written, written_length, written_below}

-- What the locals take.

then_skip : (o : MeaningOutcome) → then_do o (λ x. Done x None) ≡ o
then_skip (Done x None) = refl
then_skip (Done x (Some c)) = refl
then_skip Unfinished = refl

part_none : (o : MeaningOutcome) → after_part o (λ x. 0) ≡ 0
part_none (Done x None) = refl
part_none (Done x (Some c)) = refl
part_none Unfinished = refl

-- What conditions become on their way out.

abbrev pub passed : ℕ → List ConditionOf → MeaningOutcome → MeaningOutcome
passed i [] o = o
passed i (c ∷ cs) o = passed (suc i) cs (caught o (Declared i ∷ []) (λ y. Done y (Some c)))

-- a condition that isn't among those from number i on
abbrev pub IsOld : ℕ → ConditionOf → Type 0
IsOld i Leave = Unit {0}
IsOld i Routine = Unit {0}
IsOld i Space = Unit {0}
IsOld i (Declared k) = k < i

older : (i : ℕ) (c : ConditionOf) → IsOld i c → IsOld (suc i) c
older i Leave h = tt
older i Routine h = tt
older i Space h = tt
older i (Declared k) h = omega (arith, h)

all_older : (i : ℕ) (cs : List ConditionOf) → Each (IsOld i) cs → Each (IsOld (suc i)) cs
all_older i [] h = tt
all_older i (c ∷ cs) h = (older i c h.0, all_older i cs h.1)

old_misses : (i : ℕ) (c : ConditionOf) → IsOld i c → has_cond c (Declared i ∷ []) ≡ false
old_misses i Leave h = refl
old_misses i Routine h = refl
old_misses i Space h = refl
old_misses i (Declared k) h = pick (k == i) refl
  where
    pick : (t : Bool) → (k == i) ≡ t → (if t then true else false) ≡ false
    pick true e = let same : k ≡ i = eqb-true k i e in absurd (omega (arith, h, same))
    pick false e = refl

passed_none : (i : ℕ) (cs : List ConditionOf) (y : List ValueOf) → passed i cs (Done y None) ≡ Done y None
passed_none i [] y = refl
passed_none i (c ∷ cs) y = passed_none (suc i) cs y

pub passed_unfinished : (i : ℕ) (cs : List ConditionOf) → passed i cs Unfinished ≡ Unfinished
passed_unfinished i [] = refl
passed_unfinished i (c ∷ cs) = passed_unfinished (suc i) cs

passed_old : (i : ℕ) (cs : List ConditionOf) (y : List ValueOf) (c : ConditionOf) → IsOld i c → passed i cs (Done y (Some c)) ≡ Done y (Some c)
passed_old i [] y c h = refl
passed_old i (d ∷ cs) y c h =
    ap (λ t. passed (suc i) cs (either_way t (Done y (Some d)) (Done y (Some c)))) (old_misses i c h) ∙ passed_old (suc i) cs y c (older i c h)

passed_hit : (i : ℕ) (cs : List ConditionOf) (y : List ValueOf) (j : ℕ) → j < length cs → Each (IsOld i) cs
    → passed i cs (Done y (Some (Declared (i + j)))) ≡ Done y (Some (get_or cs j Routine))
passed_hit i [] y j lt h = absurd (omega (arith, lt))
passed_hit i (d ∷ cs) y zero lt h =
    let same : (i + 0 == i) ≡ true = eq-eqb (i + 0) i (omega arith) in
    ap (λ t. passed (suc i) cs (either_way (if t then true else false) (Done y (Some d)) (Done y (Some (Declared (i + 0)))))) same
    ∙ passed_old (suc i) cs y d (older i d h.0)
passed_hit i (d ∷ cs) y (suc j) lt h =
    let next : i + suc j ≡ suc i + j = omega arith in
    ap (λ t. passed (suc i) cs (either_way (if t then true else false) (Done y (Some d)) (Done y (Some (Declared (i + suc j))))))
    (differs (i + suc j == i) refl)
    ∙ ap (λ k. passed (suc i) cs (Done y (Some (Declared k)))) next ∙ passed_hit (suc i) cs y j (omega (arith, lt)) (all_older i cs h.1)
  where
    differs : (t : Bool) → (i + suc j == i) ≡ t → (i + suc j == i) ≡ false
    differs true e = let same : i + suc j ≡ i = eqb-true (i + suc j) i e in absurd (omega (arith, same))
    differs false e = e

module _ (q : Program) (sizes : StackSizes) (u : StackSizes) (n : ℕ) where
  pub locals_run : (place b : ℕ) (vs : List ValueOf) (s : Stmt) (X : List ValueOf)
      → evaluate q sizes (suc n) (after_locals place b vs s) u X ≡ evaluate q sizes (suc n) s u (written b vs X)
  unfolding predef_effect values_of target_of
  locals_run place b [] s X = then_skip (evaluate q sizes (suc n) s u X)
  locals_run place b (v ∷ vs) s X = locals_run place (suc b) vs s (slice_set X b v)

  pub locals_cost : (L : Layout) (place b : ℕ) (vs : List ValueOf) (s : Stmt) (X : List ValueOf)
      → quick_cost q sizes L (suc n) (after_locals place b vs s) u X ≤ 2 * length vs + quick_cost q sizes L (suc n) s u (written b vs X)
  unfolding predef_effect values_of target_of
  locals_cost L place b [] s X = omega (arith, part_none (evaluate q sizes (suc n) s u X))
  locals_cost L place b (v ∷ vs) s X =
      let rest : quick_cost q sizes L (suc n) (after_locals place (suc b) vs s) u (slice_set X b v)
      ≤ 2 * length vs + quick_cost q sizes L (suc n) s u (written (suc b) vs (slice_set X b v)) =
      locals_cost L place (suc b) vs s (slice_set X b v) in
      omega (arith, rest, find_small (L.access b))

  pub passing_run : (place i : ℕ) (cs : List ConditionOf) (s : Stmt) (X : List ValueOf)
      → evaluate q sizes (suc n) (passing place i cs s) u X ≡ passed i cs (evaluate q sizes (suc n) s u X)
  passing_run place i [] s X = refl
  passing_run place i (c ∷ cs) s X = passing_run place (suc i) cs (Begin place s (Declared i ∷ []) (Signal place c)) X

  pub passing_cost : (L : Layout) (place i : ℕ) (cs : List ConditionOf) (s : Stmt) (X : List ValueOf)
      → quick_cost q sizes L (suc n) (passing place i cs s) u X ≡ quick_cost q sizes L (suc n) s u X
  passing_cost L place i [] s X = refl
  passing_cost L place i (c ∷ cs) s X =
      passing_cost L place (suc i) cs (Begin place s (Declared i ∷ []) (Signal place c)) X ∙ omega arith

-- The callee's conditions.

replicated : (n j : ℕ) → get_or (replicate n Routine) j Routine ≡ Routine
replicated zero j = refl
replicated (suc n) zero = refl
replicated (suc n) (suc j) = replicated n j

old_from : (first conds next : ℕ) (looping : Bool) (c : ConditionOf) → first + conds ≤ next → CondFits looping conds c → IsOld next (condition_from first c)
old_from first conds next looping Leave le h = tt
old_from first conds next looping Routine le h = tt
old_from first conds next looping Space le h = tt
old_from first conds next looping (Declared i) le h = omega (arith, h, le)

all_old : (first conds next : ℕ) (looping : Bool) (locals : ℕ) (cs : List ConditionOf) → first + conds ≤ next → Each (CondFits looping conds) cs
    → Each (IsOld next) (map (condition_from first) cs ++ replicate locals Routine)
all_old first conds next looping zero [] le h = tt
all_old first conds next looping (suc locals) [] le h = (tt, all_old first conds next looping locals [] le h)
all_old first conds next looping locals (c ∷ cs) le h = (old_from first conds next looping c le h.0, all_old first conds next looping locals cs le h.1)

-- what a condition of the callee becomes
leaves : (q : Program) (p : ℕ) (cs : List ConditionOf) (first conds next : ℕ) (looping : Bool) (y : List ValueOf) (c : ConditionOf)
    → length cs ≡ (proc_at q p).conds → first + conds ≤ next → Each (CondFits looping conds) cs → RaisedFits false (conds_of (proc_at q p)) c
    → passed next (map (condition_from first) cs ++ replicate (proc_at q p).local_conds Routine) (Done y (Some (condition_from next c)))
    ≡ Done y (Some (condition_from first (matching q p cs c)))
unfolding matching
leaves q p cs first conds next looping y Leave number le fit h = absurd cc
leaves q p cs first conds next looping y Routine number le fit h =
    passed_old next (map (condition_from first) cs ++ replicate (proc_at q p).local_conds Routine) y Routine tt
leaves q p cs first conds next looping y Space number le fit h =
    passed_old next (map (condition_from first) cs ++ replicate (proc_at q p).local_conds Routine) y Space tt
leaves q p cs first conds next looping y (Declared i) number le fit h =
    let outs = map (condition_from first) cs ++ replicate (proc_at q p).local_conds Routine in
    let long : length outs ≡ (proc_at q p).conds + (proc_at q p).local_conds =
    length-append (map (condition_from first) cs) (replicate (proc_at q p).local_conds Routine)
    ∙ omega (arith, length-map cs (condition_from first), length-replicate {A = ConditionOf} (proc_at q p).local_conds Routine, number) in
    passed_hit next outs y i (omega (arith, h, long)) (all_old first conds next looping (proc_at q p).local_conds cs le fit)
    ∙ ap (λ c. Done y (Some c)) (pick (nat_lt i (proc_at q p).conds) refl)
  where
    pick : (t : Bool) → nat_lt i (proc_at q p).conds ≡ t
        → get_or (map (condition_from first) cs ++ replicate (proc_at q p).local_conds Routine) i Routine
        ≡ condition_from first (if t then get_or cs i Routine else Routine)
    pick true e =
        let lt : i < length cs = let one : i < (proc_at q p).conds = ltb-true i (proc_at q p).conds e in omega (arith, one, number) in
        get_or-append (map (condition_from first) cs) (replicate (proc_at q p).local_conds Routine) Routine i
        (omega (arith, lt, length-map cs (condition_from first)))
        ∙ get_or-map (condition_from first) cs i Routine Routine lt
    pick false e =
        let far : (proc_at q p).conds ≤ i = ltb-false i (proc_at q p).conds e in
        get_or-append_right (map (condition_from first) cs) (replicate (proc_at q p).local_conds Routine) i Routine
        (omega (arith, far, number, length-map cs (condition_from first)))
        ∙ replicated (proc_at q p).local_conds (i - length (map (condition_from first) cs))

-- a condition of the caller is one that it may raise
pub raised_of : (looping : Bool) (n : ℕ) (c : ConditionOf) → CondFits looping n c → RaisedFits looping n c
raised_of looping n Leave h = h
raised_of looping n Routine h = h
raised_of looping n Space h = absurd h
raised_of looping n (Declared i) h = h

actual_raised : (looping : Bool) (n : ℕ) (cs : List ConditionOf) (i : ℕ) → Each (CondFits looping n) cs → RaisedFits looping n (get_or cs i Routine)
actual_raised looping n [] i h = tt
actual_raised looping n (c ∷ cs) zero h = raised_of looping n c h.0
actual_raised looping n (c ∷ cs) (suc i) h = actual_raised looping n cs i h.1

matched : (q : Program) (p : ℕ) (looping : Bool) (n : ℕ) (cs : List ConditionOf) (d : ConditionOf) → Each (CondFits looping n) cs
    → RaisedFits looping n (matching q p cs d)
unfolding matching
matched q p looping n cs Leave h = tt
matched q p looping n cs Routine h = tt
matched q p looping n cs Space h = tt
matched q p looping n cs (Declared i) h = pick (nat_lt i (proc_at q p).conds)
  where
    pick : (t : Bool) → RaisedFits looping n (if t then get_or cs i Routine else Routine)
    pick true = actual_raised looping n cs i h
    pick false = tt

-- The end of a call.
module _ (A B : Type 0) (vs : List ℕ) (below first conds next next_cond : ℕ) (looping : Bool) (q : Program) (p : ℕ) (xs : List ℕ) (cs : List ConditionOf)
    (X locals : List ValueOf) (is : Apart vs next) (distinct : Distinct xs) (there : Each (λ a. a < length vs) xs) (low : below ≤ next)
    (number : length cs ≡ (proc_at q p).conds) (old : first + conds ≤ next_cond) (fit : Each (CondFits looping conds) cs) where
  begun : Keeps (callee_variables vs next xs (length locals)) next X (written next locals X)
  begun = record { long = written_length next locals X; same = λ i lt h. written_below next locals X i lt }

  all_kept : (Y : List ValueOf) → Keeps (callee_variables vs next xs (length locals)) next (written next locals X) Y
      → Keeps (callee_variables vs next xs (length locals)) next X Y
  all_kept Y h = keeps_then (callee_variables vs next xs (length locals)) next X (written next locals X) Y begun h

  back : (y Y : List ValueOf) → view (callee_variables vs next xs (length locals)) Y ≡ y
      → Keeps (callee_variables vs next xs (length locals)) next (written next locals X) Y → view vs Y ≡ copied_out xs y (view vs X)
  back y Y e h =
      sym (copied_back vs next xs (length locals) is distinct there X Y (all_kept Y h)) ∙ ap (λ z. copied_out xs z (view vs X)) e

  kept : (Y : List ValueOf) → Keeps (callee_variables vs next xs (length locals)) next (written next locals X) Y → Keeps vs below X Y
  kept Y h = caller_keeps vs next xs (length locals) is distinct there below X Y low (all_kept Y h)

  pub returned_agree : (t t1 : Tally) (o : CountedOutcome) (O : MeaningOutcome) (k K : ℕ) → K + t.count ≤ k + t1.count
      → Agree A B (callee_variables vs next xs (length locals)) next next_cond (conds_of (proc_at q p)) false (written next locals X) t1 o O k
      → Agree A B vs below first conds looping X t (counted_returned q p xs cs (view vs X) o)
      (passed next_cond (map (condition_from first) cs ++ replicate (proc_at q p).local_conds Routine) O) K
  unfolding spend out_spend
  returned_agree t t1 (CountedDone y None t') (Done Y None) k K le h =
      let outs = map (condition_from first) cs ++ replicate (proc_at q p).local_conds Routine in
      subst (λ r. Agree A B vs below first conds looping X t (counted_returned q p xs cs (view vs X) (CountedDone y None t')) r K)
      (sym (passed_none next_cond outs Y))
      (record {
        seen = back y Y h.seen h.keeps;
        keeps = kept Y h.keeps;
        way = refl;
        ends = tt;
        cost = let a : k + t1.count ≤ t'.count = h.cost in omega (arith, a, le);
      })
  returned_agree t t1 (CountedDone y None t') (Done Y (Some C)) k K le h = let e = h.way in absurd cc
  returned_agree t t1 (CountedDone y (Some c) t') (Done Y None) k K le h = let e = h.way in absurd cc
  returned_agree t t1 (CountedDone y (Some c) t') (Done Y (Some C)) k K le h =
      let outs = map (condition_from first) cs ++ replicate (proc_at q p).local_conds Routine in
      let e : C ≡ condition_from next_cond c = cc in
      let f : passed next_cond outs (Done Y (Some C)) ≡ Done Y (Some (condition_from first (matching q p cs c))) =
      ap (λ d. passed next_cond outs (Done Y (Some d))) e ∙ leaves q p cs first conds next_cond looping Y c number old fit h.ends in
      subst (λ r. Agree A B vs below first conds looping X t (counted_returned q p xs cs (view vs X) (CountedDone y (Some c) t')) r K) (sym f)
      (record {
        seen = back y Y h.seen h.keeps;
        keeps = kept Y h.keeps;
        way = refl;
        ends = matched q p looping conds cs c fit;
        cost = let a : k + t1.count ≤ t'.count = h.cost in omega (arith, a, le);
      })
  returned_agree t t1 (CountedDone y None t') Unfinished k K le h =
      let outs = map (condition_from first) cs ++ replicate (proc_at q p).local_conds Routine in
      subst (λ r. Agree A B vs below first conds looping X t (counted_returned q p xs cs (view vs X) (CountedDone y None t')) r K)
      (sym (passed_unfinished next_cond outs)) h
  returned_agree t t1 (CountedDone y (Some c) t') Unfinished k K le h =
      let outs = map (condition_from first) cs ++ replicate (proc_at q p).local_conds Routine in
      subst (λ r. Agree A B vs below first conds looping X t (counted_returned q p xs cs (view vs X) (CountedDone y (Some c) t')) r K)
      (sym (passed_unfinished next_cond outs)) h
  returned_agree t t1 CountedUnfinished (Done Y C) k K le h =
      long A B vs below first conds looping X t
      (passed next_cond (map (condition_from first) cs ++ replicate (proc_at q p).local_conds Routine) (Done Y C)) K h
  returned_agree t t1 CountedUnfinished Unfinished k K le h =
      let outs = map (condition_from first) cs ++ replicate (proc_at q p).local_conds Routine in
      subst (λ r. Agree A B vs below first conds looping X t CountedUnfinished r K) (sym (passed_unfinished next_cond outs)) tt
