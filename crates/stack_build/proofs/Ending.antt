-- What a meaning that is done ends with.
use Rattle.std.proofs.Common.{◌≡◌, ◌<◌, ◌≤◌, ◌-◌, ℕ, zero, suc, Bool, true, false, cond, eqb, List, [], ◌∷◌, length, Some, None, refl, ap, subst, ◌∙◌, arith}
use Rattle.std.{specs.Prelude.{slice_get, get_or}, proofs.lemmas.Bool.eqb-true, proofs.lemmas.Option.slice_get-get_or}
use Rattle.stack_text.specs.Values.{ValueOf}
use Rattle.display_maps.specs.declared.shown.Shown.TheVariants as shown
use Rattle.display_maps.specs.Reading.{named_or_odd, condition_of, space_name}
use Rattle.gypsy_syntax.{specs.Programs.{Leave, Routine, Space, Declared, Program, proc_at}, specs.ProgramFits.ProgramFits, specs.ValuesFit.VarsFit}
use Rattle.gypsy_space.{specs.Costs.Tally, specs.Needs.StackSizes}
use Rattle.gypsy_semantics.{specs.Calls.CurrentCondition, specs.Counted.{CountedDone, counted_meaning}, specs.Machine.{State, Move, Next, Ended, gypsy_step}}
use Rattle.gypsy_semantics.{specs.Machine.{Ending, Over, go_on, run, start}, specs.Kept.{StateFits, EndFits, MoveFits}, proofs.Keeping.{step_keeps, start_fits}}
use Rattle.gypsy_semantics.proofs.Runs.{agree}
use Rattle.gypsy_codegen.specs.WordsOf.{number_of_way}
use Rattle.stack_build.specs.Implements.{way_shown}

-- values that fit main's formals, and a condition that main may end with
pub record EndsWell (q : Program) (x : List ValueOf) (c : CurrentCondition) : Type 0 where
  pub values : VarsFit (proc_at q q.main).formals x
  pub way : EndFits q c

module _ (q : Program) (sizes : StackSizes) (fits : ProgramFits q) (x : List ValueOf) (c : CurrentCondition) (t : Tally) where
  move_ends : (m : Move) (rest : State → Ending) → MoveFits q m → ((g : State) → StateFits q g → rest g ≡ Over x c t → EndsWell q x c)
      → go_on m rest ≡ Over x c t → EndsWell q x c
  move_ends (Next g) rest f later e = later g f e
  move_ends (Ended y d u) rest f later e =
      let values : y ≡ x = cc in
      let way : d ≡ c = cc in
      record { values = subst (VarsFit (proc_at q q.main).formals) values f.0; way = subst (EndFits q) way f.1 }

  run_ends : (j : ℕ) (g : State) → StateFits q g → run q sizes j g ≡ Over x c t → EndsWell q x c
  run_ends zero g f e = absurd cc
  run_ends (suc j) g f e = move_ends (gypsy_step q sizes g) (run q sizes j) (step_keeps q sizes fits g f) (λ h k. run_ends j h k) e

  pub ends_well : (v : List ValueOf) (n : ℕ) → VarsFit (proc_at q q.main).formals v → counted_meaning q sizes v n ≡ CountedDone x c t → EndsWell q x c
  ends_well v n f done =
      let r = (agree q sizes v).done n x c t done in
      run_ends r.0 (start q v) (start_fits q sizes fits v f) r.1

-- a number from 3 on is that of a declared condition
pub declared_read : (names : List (List ℕ)) (w : ℕ) → 3 ≤ w → condition_of names w ≡ named_or_odd (slice_get names (w - 3)) w
unfolding condition_of
declared_read names w le = by_tests (eqb w 0) (eqb w 1) (eqb w 2) refl refl refl
  where
    by_tests : (a b d : Bool) → eqb w 0 ≡ a → eqb w 1 ≡ b → eqb w 2 ≡ d →
        cond a shown.Leave (cond b shown.Routine (cond d shown.Normal (named_or_odd (slice_get names (w - 3)) w))) ≡ named_or_odd (slice_get names (w - 3)) w
    by_tests true b d e f g = absurd (let k = eqb-true w 0 e in omega arith)
    by_tests false true d e f g = absurd (let k = eqb-true w 1 f in omega arith)
    by_tests false false true e f g = absurd (let k = eqb-true w 2 g in omega arith)
    by_tests false false false e f g = refl

-- the number of a declared condition is read as that, behind spaceerror
pub own_read : (names : List (List ℕ)) (i : ℕ) → i < length names → condition_of (space_name ∷ names) (suc (suc (suc (suc i))))
    ≡ shown.Named (get_or names i [])
own_read names i lt =
    let at : suc (suc (suc (suc i))) - 3 ≡ suc i = omega arith in
    declared_read (space_name ∷ names) (suc (suc (suc (suc i)))) (omega arith)
    ∙ ap (λ (k : ℕ). named_or_odd (slice_get (space_name ∷ names) k) (suc (suc (suc (suc i))))) at
    ∙ ap (λ o. named_or_odd o (suc (suc (suc (suc i))))) (slice_get-get_or names i [] lt)

-- the number of what a program ends with is read as that
pub way_read : (q : Program) (names : List (List ℕ)) (c : CurrentCondition) → EndFits q c → length names ≡ (proc_at q q.main).conds
    → condition_of (space_name ∷ names) (number_of_way c) ≡ way_shown names c
unfolding condition_of
way_read q names None f e = refl
way_read q names (Some Leave) f e = refl
way_read q names (Some Routine) f e = refl
way_read q names (Some Space) f e = refl
way_read q names (Some (Declared i)) f e = own_read names i (omega (arith, e, f))
