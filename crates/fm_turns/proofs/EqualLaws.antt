-- Turns of one length, until no task runs any more.
use Rattle.std.proofs.Common.{◌≡◌, ◌≢◌, ◌⊎◌, inl, inr, ℕ, zero, suc, ◌+◌, ◌-◌, ◌*◌, ◌<◌, ◌≤◌, List, [], ◌∷◌, length, map, replicate, Bool, true, false}
use Rattle.std.{proofs.Common.{if◌then◌else◌, Ok, eqb, leb, refl, sym, ap, subst, ◌∙◌, arith}, specs.Prelude.{min, sum, All, ◌^◌}, specs.Int.div_ceil}
use Rattle.std.{specs.List.list_any, proofs.Math.Nat.{add-mul, lt_of_mul-lt-mul_right}, proofs.lemmas.Bool.{or_parts, leb-true, leb-false, eqb-true, eqb-false}}
use Rattle.std.{proofs.lemmas.Bool.{eq-eqb, ne_eqb}, proofs.lemmas.Grind.div_ceil_times, proofs.lemmas.Nat.mul-le, proofs.lemmas.List.length-replicate}
use Rattle.std.{proofs.lemmas.List.Elements.{All-head, All-tail}, proofs.lemmas.List.Folds.sum_by-replicate}
use Rattle.fm_machine.{specs.State.Fm, specs.Outcome.{RunOutcome, outcome}, specs.declared.processor.Run.Run}
use Rattle.fm_machine.specs.declared.processor.Run.TheVariants as run
use Rattle.display_maps.specs.Reading.{ReadingOf, reading}
use Rattle.fm_turns.{specs.declared.task.Task.Task, specs.declared.task.Task.TheVariants.{Running, Ended, Spent, Outside}, specs.Windows.IsInside}
use Rattle.fm_turns.{specs.Turns.{TurnsOf, rounds_of}, specs.Starting.{NewTask, machine_of, started}, specs.Alone.{StaysInside, alone, round_reaching}}
use Rattle.fm_turns.{specs.Alone.{round_of_end, running_or_spent_alone, state_alone}, specs.EqualTurns.{is_running, has_running, RoundIsQuotient, whole_run}}
use Rattle.fm_turns.{specs.EqualTurns.{state_at_end, EndAsAlone, EachEndsAsAlone}, proofs.OutcomeLaws.{outcome_ended, ended_within, stays_within}}
use Rattle.fm_turns.{proofs.AloneLaws.{Runs, IsSpent, Short, runs, spent, short}, proofs.OwnLaws.each_as_alone}

-- ---- the round of a count

sum_equal : (n turn : ℕ) → sum (replicate n turn) ≡ n * turn
sum_equal n turn = sum_by-replicate (λ x. x) n turn

-- a number of turns has the count, and one turn fewer doesn't
record Reaches (turn count r : ℕ) : Type 0 where
  has : count ≤ r * turn
  least : r * turn < count + turn

reaching : (turn : ℕ) → 1 ≤ turn → (n count : ℕ) → 1 ≤ count → count ≤ n * turn → Reaches turn count (round_reaching count (replicate n turn))
reaching turn some zero count one le = absurd (omega arith)
reaching turn some (suc n) count one le = by (λ one le. reaching turn some n (count - turn) one le) (leb count turn) refl
  where
    by : (1 ≤ count - turn → count - turn ≤ n * turn → Reaches turn (count - turn) (round_reaching (count - turn) (replicate n turn))) → (b : Bool)
        → leb count turn ≡ b
        → Reaches turn count (if b then 1 else 1 + round_reaching (count - turn) (replicate n turn))
    by on true e = let few = leb-true count turn e in record { has = omega arith; least = omega arith }
    by on false e =
        let above = leb-false count turn e in
        let whole : suc n * turn ≡ n * turn + turn = ap (λ m. m * turn) (let s : suc n ≡ n + 1 = omega arith in s) ∙ add-mul n 1 turn ∙ omega arith in
        let rest = on (omega arith) (omega arith) in
        let r : ℕ = round_reaching (count - turn) (replicate n turn) in
        let more : (1 + r) * turn ≡ 1 * turn + r * turn = add-mul 1 r turn in
        let has = rest.has in
        let least = rest.least in
        record { has = omega arith; least = omega arith }

only_one : (turn count r s : ℕ) → Reaches turn count r → Reaches turn count s → r ≤ s
only_one turn count r s p q =
    let more : (s + 1) * turn ≡ s * turn + 1 * turn = add-mul s 1 turn in
    let has = q.has in
    let least = p.least in
    let below : r < s + 1 = lt_of_mul-lt-mul_right turn (omega arith) in
    omega arith

pub round_is_quotient : RoundIsQuotient
round_is_quotient turn n count some within = by (eqb count 0) refl
  where
    up : Reaches turn count (div_ceil count turn)
    up = let p = div_ceil_times count turn (omega arith) in record { has = p.0; least = p.1 }

    by : (b : Bool) → eqb count 0 ≡ b → (if b then 0 else round_reaching count (replicate n turn)) ≡ div_ceil count turn
    by true e =
        let none : count ≡ 0 = eqb-true count 0 e in
        let nought : Reaches turn count 0 = record { has = omega arith; least = omega arith } in
        let a = only_one turn count 0 (div_ceil count turn) nought up in
        let b = only_one turn count (div_ceil count turn) 0 up nought in
        omega arith
    by false e =
        let ne = eqb-false count 0 e in
        let here = reaching turn some n count (omega arith) within in
        let a = only_one turn count (round_reaching count (replicate n turn)) (div_ceil count turn) here up in
        let b = only_one turn count (div_ceil count turn) (round_reaching count (replicate n turn)) up here in
        omega arith

-- ---- a task

-- after these turns a task is as its run within the budget leaves it
record EndsSo (turn budget : ℕ) (lengths : List ℕ) (task : NewTask) : Type 0 where
  state : state_alone budget lengths (alone budget lengths task).run ≡ state_at_end turn budget (whole_run budget task).run
  machine : (alone budget lengths task).state ≡ (whole_run budget task).state

module _ (turn budget rounds : ℕ) (some : 1 ≤ turn) (needed : rounds * turn < budget + turn) where
  lengths : List ℕ
  lengths = replicate rounds turn

  sum_is : sum lengths ≡ rounds * turn
  unfolding lengths
  sum_is = sum_equal rounds turn

  length_is : length lengths ≡ rounds
  unfolding lengths
  length_is = length-replicate rounds turn

  quotient : (count : ℕ) → count ≤ rounds * turn → round_of_end count lengths ≡ div_ceil count turn
  unfolding lengths
  quotient count within = round_is_quotient turn rounds count some within

  -- the turns have come to the budget, or the task doesn't run
  abbrev IsOver : Task → Type 0
  IsOver state = (budget ≤ rounds * turn) ⊎ (is_running state ≡ false)

  still_running : (task : NewTask) (s : Fm) → alone budget lengths task ≡ record { run = run.Spent; state = s } → Runs budget lengths
      → IsOver (running_or_spent_alone budget lengths) → EndsSo turn budget lengths task
  still_running task s is r (inr over) = absurd (let on : true ≡ false = sym (ap is_running r.state) ∙ over in cc)
  still_running task s is r (inl enough) =
      let within = r.within in
      let none : rounds ≡ 0 =
      no_rounds rounds (λ one. let less : sum lengths < budget = r.before (omega (arith, one, length_is)) in omega (arith, less, enough, sum_is)) in
      let nothing : rounds * turn ≡ 0 = ap (λ n. n * turn) none ∙ omega arith in
      let empty : budget ≡ 0 = omega (arith, enough, nothing) in
      let least : min (sum lengths) budget ≡ budget = omega (arith, within, empty) in
      let whole : whole_run budget task ≡ record { run = run.Spent; state = s } = ap (λ n. outcome n task.image.final_pc (machine_of task)) (sym least) ∙ is in
      let zero_sum : sum lengths ≡ 0 = sum_is ∙ nothing in
      record {
        state = ap (λ (o : RunOutcome). state_alone budget lengths o.run) is ∙ r.state ∙ ap Running zero_sum
            ∙ sym (ap (λ (b : Bool). if b then Running 0 else Spent budget (div_ceil budget turn)) (eq-eqb budget 0 empty))
            ∙ sym (ap (λ (o : RunOutcome). state_at_end turn budget o.run) whole);
        machine = ap (λ (o : RunOutcome). o.state) is ∙ sym (ap (λ (o : RunOutcome). o.state) whole);
      }
    where
      no_rounds : (n : ℕ) → (1 ≤ n → ⊥) → n ≡ 0
      no_rounds zero h = refl
      no_rounds (suc n) h = absurd (h (omega arith))

  now_spent : (task : NewTask) (s : Fm) → alone budget lengths task ≡ record { run = run.Spent; state = s } → IsSpent budget lengths
      → EndsSo turn budget lengths task
  now_spent task s is r =
      let within = r.within in
      let one : 1 ≤ rounds = omega (arith, r.some, length_is) in
      let turned : 1 * turn ≤ rounds * turn = mul-le 1 turn rounds turn one (omega arith) in
      let ne : budget ≢ 0 = λ e. omega (arith, needed, turned) in
      let least : min (sum lengths) budget ≡ budget = omega arith in
      let whole : whole_run budget task ≡ record { run = run.Spent; state = s } = ap (λ n. outcome n task.image.final_pc (machine_of task)) (sym least) ∙ is in
      let round : round_reaching budget lengths ≡ div_ceil budget turn =
      sym (ap (λ (b : Bool). if b then 0 else round_reaching budget lengths) (ne_eqb budget 0 ne)) ∙ quotient budget (omega (arith, within, sum_is)) in
      record {
        state = ap (λ (o : RunOutcome). state_alone budget lengths o.run) is ∙ r.state ∙ ap (Spent budget) round
            ∙ sym (ap (λ (b : Bool). if b then Running 0 else Spent budget (div_ceil budget turn)) (ne_eqb budget 0 ne))
            ∙ sym (ap (λ (o : RunOutcome). state_at_end turn budget o.run) whole);
        machine = ap (λ (o : RunOutcome). o.state) is ∙ sym (ap (λ (o : RunOutcome). o.state) whole);
      }

  ends_by : (task : NewTask) → StaysInside task → (r : Run) (s : Fm) → alone budget lengths task ≡ record { run = r; state = s }
      → IsOver (state_alone budget lengths r) → EndsSo turn budget lengths task
  ends_by task stays (run.Ended k) s is over =
      let made : k ≤ min (sum lengths) budget =
      ended_within (machine_of task) task.image.final_pc (min (sum lengths) budget) k (ap (λ (o : RunOutcome). o.run) is) in
      let whole : whole_run budget task ≡ record { run = run.Ended k; state = s } =
      outcome_ended (machine_of task) s task.image.final_pc (min (sum lengths) budget) budget k (omega arith) is in
      record {
        state = ap (λ (o : RunOutcome). state_alone budget lengths o.run) is ∙ ap (Ended k) (quotient k (omega (arith, made, sum_is)))
            ∙ sym (ap (λ (o : RunOutcome). state_at_end turn budget o.run) whole);
        machine = ap (λ (o : RunOutcome). o.state) is ∙ sym (ap (λ (o : RunOutcome). o.state) whole);
      }
  ends_by task stays run.Spent s is over = by_short (short budget lengths)
    where
      by_short : Short budget lengths → EndsSo turn budget lengths task
      by_short (runs r) = still_running task s is r over
      by_short (spent r) = now_spent task s is r
  ends_by task stays (run.Outside a k) s is over =
      let inside = stays_within (machine_of task) task.image.final_pc (min (sum lengths) budget) stays in
      absurd (subst (λ (o : RunOutcome). IsInside o.run) is inside)

  task_ends : (task : NewTask) → StaysInside task → IsOver (state_alone budget lengths (alone budget lengths task).run) → EndsSo turn budget lengths task
  task_ends task stays over = ends_by task stays (alone budget lengths task).run (alone budget lengths task).state refl over

  -- ---- all tasks

  abbrev states_alone : List NewTask → List Task
  states_alone tasks = map (λ task. state_alone budget lengths (alone budget lengths task).run) tasks

  AreOver : List NewTask → Type 0
  AreOver tasks = (budget ≤ rounds * turn) ⊎ (list_any is_running (states_alone tasks) ≡ false)

  parts : (task : NewTask) (others : List NewTask) → AreOver (task ∷ others) → IsOver (state_alone budget lengths (alone budget lengths task).run)
      × AreOver others
  unfolding AreOver
  parts task others (inl enough) = (inl enough, inl enough)
  parts task others (inr none) =
      let p = or_parts (is_running (state_alone budget lengths (alone budget lengths task).run)) (list_any is_running (states_alone others)) none in
      (inr p.0, inr p.1)

  states_end : (tasks : List NewTask) → All StaysInside tasks → AreOver tasks → states_alone tasks
      ≡ map (λ task. state_at_end turn budget (whole_run budget task).run) tasks
  states_end [] stay over = refl
  states_end (task ∷ others) stay over =
      let p = parts task others over in
      let one = task_ends task (All-head StaysInside task others stay) p.0 in
      let rest = states_end others (All-tail StaysInside task others stay) p.1 in
      ap (λ (state : Task). state ∷ states_alone others) one.state ∙ ap
      (λ (states : List Task). state_at_end turn budget (whole_run budget task).run ∷ states) rest

  readings_end : (tasks : List NewTask) → All StaysInside tasks → AreOver tasks
      → map (λ task. reading task.image (alone budget lengths task).state) tasks ≡ map (λ task. reading task.image (whole_run budget task).state) tasks
  readings_end [] stay over = refl
  readings_end (task ∷ others) stay over =
      let p = parts task others over in
      let one = task_ends task (All-head StaysInside task others stay) p.0 in
      let rest = readings_end others (All-tail StaysInside task others stay) p.1 in
      ap (λ (s : Fm). reading task.image s ∷ map (λ task. reading task.image (alone budget lengths task).state) others) one.machine
      ∙ ap (λ (reads : List ReadingOf). reading task.image (whole_run budget task).state ∷ reads) rest

  all_end : (tasks : List NewTask) (turns : TurnsOf) → started tasks ≡ Ok turns → All StaysInside tasks → rounds < 2 ^ 64
      → (budget ≤ rounds * turn) ⊎ (has_running (rounds_of budget (replicate rounds turn) turns) ≡ false)
      → EndAsAlone turn budget tasks (rounds_of budget (replicate rounds turn) turns)
  unfolding lengths AreOver
  all_end tasks turns start stay few enough =
      let r = each_as_alone tasks turns budget (replicate rounds turn) start stay (subst (λ n. n < 2 ^ 64) (sym length_is) few) in
      let over : AreOver tasks = subst (λ (states : List Task). (budget ≤ rounds * turn) ⊎ (list_any is_running states ≡ false)) r.states enough in
      record { states = r.states ∙ states_end tasks stay over; readings = r.readings ∙ readings_end tasks stay over }

-- tasks end as each of them ends alone
pub each_ends_as_alone : EachEndsAsAlone
each_ends_as_alone tasks turns turn budget rounds start stay some few all = all_end turn budget rounds some all.needed tasks turns start stay few all.enough
