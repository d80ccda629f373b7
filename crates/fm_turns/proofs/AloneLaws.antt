-- A turn on the memory of all is what the task goes on with alone.
use Rattle.std.proofs.Common.{◌≡◌, ◌≢◌, ℕ, ◌+◌, ◌-◌, ◌<◌, ◌≤◌, ◌||◌, List, [], ◌∷◌, ◌++◌, length, Bool, true, false, if◌then◌else◌, Result, Ok, Err, eqb, leb}
use Rattle.std.{proofs.Common.{ltb, refl, sym, ap, subst, ◌∙◌, arith, length-append, ⊎_elim}, specs.Prelude.{min, sum}, proofs.lemmas.Bool.cases_lt}
use Rattle.std.{proofs.lemmas.Bool.{leb-false, ltb-true, ltb-false, eqb-true, eqb-false, le-leb, lt-leb, eq-eqb, ne_eqb}, proofs.lemmas.List.Sums.sum_by-cons}
use Rattle.std.proofs.lemmas.List.Sums.{sum_by_push}
use Rattle.fm_machine.{specs.State.Fm, specs.Step.{fm_step, then_on}, specs.Run.{fm_run, Avoids, IsFirst}, specs.Outcome.{IsOutcome, RunOutcome, outcome}}
use Rattle.fm_machine.{specs.declared.fault.Outside.Outside, proofs.RunLaws.{outcome_is, run_add, run_more, not_both}, specs.declared.processor.Run.Run}
use Rattle.fm_machine.specs.declared.processor.Run.TheVariants as run
use Rattle.fm_image.specs.Image.{ImageOf}
use Rattle.fm_turns.{specs.declared.task.Task.Task, specs.declared.task.Task.TheVariants.{Running, Ended, Spent}}
use Rattle.fm_turns.{specs.declared.context.TaskContext.TaskContext, specs.declared.round.Round.Round, specs.Windows.{widened_words, IsBehind, IsInside}}
use Rattle.fm_turns.{specs.Windows.StaysInsideFrom, specs.Starting.machine_of, specs.Turns.{turn_length, running_or_spent, state_after, AfterTurn, after_run}}
use Rattle.fm_turns.{specs.Turns.{after_turn_in, after_turn}, specs.Alone.{round_reaching, round_of_end, running_or_spent_alone, state_alone, context_after}}
use Rattle.fm_turns.{specs.Alone.{count_of, alone, AloneIsCounted, AloneIsLeast, AloneIsWhole}, proofs.WindowLaws.KeepsWindow, proofs.OutcomeLaws.outcome_kept}
use Rattle.fm_turns.proofs.OutcomeLaws.{later_run, outcome_later, outcome_ended, ended_within, not_at_once, outcome_wider, stays_within}

-- ---- the round in which turns come to so many instructions

sum_cons : (x : ℕ) (xs : List ℕ) → sum (x ∷ xs) ≡ x + sum xs
sum_cons x xs = sum_by-cons (λ n. n) x xs

sum_push : (xs : List ℕ) (x : ℕ) → sum (xs ++ x ∷ []) ≡ sum xs + x
sum_push xs x = sum_by_push (λ n. n) xs x

-- a further round doesn't change it, where they came to it before
round_kept : (count turn : ℕ) (lengths : List ℕ) → 1 ≤ count + length lengths → count ≤ sum lengths
    → round_reaching count (lengths ++ turn ∷ []) ≡ round_reaching count lengths
round_kept count turn [] some within = absurd (omega arith)
round_kept count turn (x ∷ xs) some within =
    by (λ some within. round_kept (count - x) turn xs some within) (leb count x) refl
  where
    by : (1 ≤ (count - x) + length xs → count - x ≤ sum xs → round_reaching (count - x) (xs ++ turn ∷ []) ≡ round_reaching (count - x) xs) → (b : Bool)
        → leb count x ≡ b
        → (if b then 1 else 1 + round_reaching (count - x) (xs ++ turn ∷ [])) ≡ (if b then 1 else 1 + round_reaching (count - x) xs)
    by on true e = refl
    by on false e =
        let above = leb-false count x e in
        let whole = sum_cons x xs in
        ap (λ n. 1 + n) (on (omega arith) (omega arith))

-- it is this round, where they come to it only now
round_last : (count turn : ℕ) (lengths : List ℕ) → (1 ≤ length lengths → sum lengths < count) → count ≤ sum lengths + turn
    → round_reaching count (lengths ++ turn ∷ []) ≡ length lengths + 1
round_last count turn [] before within =
    let here : leb count turn ≡ true = le-leb count turn (omega arith) in
    ap (λ (b : Bool). if b then 1 else 1 + 0) here
round_last count turn (x ∷ xs) before within =
    let whole = sum_cons x xs in
    let more : sum (x ∷ xs) < count = before (omega arith) in
    let above : leb count x ≡ false = lt-leb count x (omega arith) in
    let rest : round_reaching (count - x) (xs ++ turn ∷ []) ≡ length xs + 1 = round_last (count - x) turn xs (λ some. omega arith) (omega arith) in
    ap (λ (b : Bool). if b then 1 else 1 + round_reaching (count - x) (xs ++ turn ∷ [])) above ∙ ap (λ n. 1 + n) rest ∙ omega arith

round_of_end_kept : (count turn : ℕ) (lengths : List ℕ) → count ≤ sum lengths → round_of_end count (lengths ++ turn ∷ []) ≡ round_of_end count lengths
round_of_end_kept count turn lengths within = by (eqb count 0) refl
  where
    by : (b : Bool) → eqb count 0 ≡ b → (if b then 0 else round_reaching count (lengths ++ turn ∷ [])) ≡ (if b then 0 else round_reaching count lengths)
    by true e = refl
    by false e = let ne = eqb-false count 0 e in round_kept count turn lengths (omega arith) within

round_of_end_last : (count turn : ℕ) (lengths : List ℕ) → sum lengths < count → count ≤ sum lengths + turn
    → round_of_end count (lengths ++ turn ∷ []) ≡ length lengths + 1
round_of_end_last count turn lengths before within =
    let some : count ≢ 0 = λ e. omega arith in
    ap (λ (b : Bool). if b then 0 else round_reaching count (lengths ++ turn ∷ [])) (ne_eqb count 0 some)
    ∙ round_last count turn lengths (λ some. before) within

-- ---- how a task stands that isn't at its final pc

-- it still runs: no round was made, or its turns have not come to the budget
pub record Runs (budget : ℕ) (lengths : List ℕ) : Type 0 where
  pub within : sum lengths ≤ budget
  pub before : 1 ≤ length lengths → sum lengths < budget
  pub state : running_or_spent_alone budget lengths ≡ Running (sum lengths)

pub record IsSpent (budget : ℕ) (lengths : List ℕ) : Type 0 where
  pub some : 1 ≤ length lengths
  pub within : budget ≤ sum lengths
  pub state : running_or_spent_alone budget lengths ≡ Spent budget (round_reaching budget lengths)

no_sum : (lengths : List ℕ) → length lengths ≡ 0 → sum lengths ≡ 0
no_sum [] e = refl
no_sum (x ∷ xs) e = absurd (omega arith)

pub data Short (budget : ℕ) (lengths : List ℕ) : Type 0 where
  runs : Runs budget lengths → Short budget lengths
  spent : IsSpent budget lengths → Short budget lengths

pub short : (budget : ℕ) (lengths : List ℕ) → Short budget lengths
short budget lengths = by (eqb (length lengths) 0) (ltb (sum lengths) budget) refl refl
  where
    by : (b c : Bool) → eqb (length lengths) 0 ≡ b → ltb (sum lengths) budget ≡ c → Short budget lengths
    by true c none less =
        let empty : length lengths ≡ 0 = eqb-true (length lengths) 0 none in
        let sum_is = no_sum lengths empty in
        runs record {
          within = omega arith;
          before = λ some. absurd (omega arith);
          state = ap (λ (d : Bool). if d || ltb (sum lengths) budget then Running (sum lengths) else Spent budget (round_reaching budget lengths)) none;
        }
    by false true none less =
        let lt = ltb-true (sum lengths) budget less in
        runs record {
          within = omega arith;
          before = λ some. lt;
          state = ap (λ (d : Bool). if d || ltb (sum lengths) budget then Running (sum lengths) else Spent budget (round_reaching budget lengths)) none
              ∙ ap (λ (d : Bool). if false || d then Running (sum lengths) else Spent budget (round_reaching budget lengths)) less;
        }
    by false false none less =
        let ne = eqb-false (length lengths) 0 none in
        let le = ltb-false (sum lengths) budget less in
        spent record {
          some = omega arith;
          within = le;
          state = ap (λ (d : Bool). if d || ltb (sum lengths) budget then Running (sum lengths) else Spent budget (round_reaching budget lengths)) none
              ∙ ap (λ (d : Bool). if false || d then Running (sum lengths) else Spent budget (round_reaching budget lengths)) less;
        }

-- after a round, by whether its turns have come to the budget
short_running : (budget turn : ℕ) (lengths : List ℕ) → sum lengths + turn < budget
    → running_or_spent_alone budget (lengths ++ turn ∷ []) ≡ Running (sum lengths + turn)
short_running budget turn lengths less = by (short budget (lengths ++ turn ∷ []))
  where
    by : Short budget (lengths ++ turn ∷ []) → running_or_spent_alone budget (lengths ++ turn ∷ []) ≡ Running (sum lengths + turn)
    by (runs r) = r.state ∙ ap Running (sum_push lengths turn)
    by (spent r) = let within = r.within in absurd (omega (arith, sum_push lengths turn))

short_spent : (budget turn : ℕ) (lengths : List ℕ) → budget ≤ sum lengths + turn
    → running_or_spent_alone budget (lengths ++ turn ∷ []) ≡ Spent budget (round_reaching budget (lengths ++ turn ∷ []))
short_spent budget turn lengths le = by (short budget (lengths ++ turn ∷ []))
  where
    by : Short budget (lengths ++ turn ∷ []) → running_or_spent_alone budget (lengths ++ turn ∷ [])
        ≡ Spent budget (round_reaching budget (lengths ++ turn ∷ []))
    by (spent r) = r.state
    by (runs r) =
        let n = length-append lengths (turn ∷ []) in
        let less : sum (lengths ++ turn ∷ []) < budget = r.before (omega arith) in
        absurd (omega (arith, sum_push lengths turn))

-- ---- a turn

inside_before : (m : ℕ) (r : Run) → IsInside (later_run m r) → IsInside r
inside_before m (run.Ended k) h = tt
inside_before m run.Spent h = tt
inside_before m (run.Outside a k) h = h

abbrev pub round_after : ℕ → ℕ → List ℕ → Round
round_after budget turn lengths = record { number = length lengths + 1; turn = turn; budget = budget }

-- what is a task's own, with the registers and flags of a state
abbrev pub context_at : ImageOf → Fm → Task → TaskContext
context_at image s state = record { image = image; registers = s.registers; flags = s.flags; state = state }

-- the turn of a task at a state of its own leads to another state of its own, and leaves the words before and after
abbrev TurnsTo : Round → ℕ → List ℕ → List ℕ → ImageOf → Fm → Task → Fm → Task → Type 0
TurnsTo round base before after image s state t state' =
    let left : AfterTurn = record { memory = widened_words before after t.memory; context = context_at image t state' } in
    after_turn_in round base (widened_words before after s.memory) (context_at image s state) state ≡ left

abbrev pub left_at : List ℕ → List ℕ → ImageOf → Fm → Task → AfterTurn
left_at before after image t state = record { memory = widened_words before after t.memory; context = context_at image t state }

-- the steps that a running task makes in its turn
abbrev turn_run : ℕ → ℕ → List ℕ → ℕ → Fm → RunOutcome
turn_run budget turn lengths pc s = outcome (turn_length (round_after budget turn lengths) (sum lengths)) pc s

module _ (base : ℕ) (before after : List ℕ) (image : ImageOf) (start : Fm) (budget turn : ℕ) (lengths : List ℕ) (at : IsBehind base before start)
    (stays : StaysInsideFrom start image.final_pc) where
  -- a running task goes on as alone
  ran : (s : Fm) (p : RunOutcome) → Runs budget lengths → outcome (min (sum lengths) budget) image.final_pc start
      ≡ record { run = run.Spent; state = s } → turn_run budget turn lengths image.final_pc s ≡ p
      → (o : RunOutcome) → o ≡ record { run = later_run (min (sum lengths) budget) p.run; state = p.state } → IsInside p.run
      → state_after (round_after budget turn lengths) (sum lengths) p.run ≡ state_alone budget (lengths ++ turn ∷ []) o.run
  ran s p r e is o later inside = by p.run refl inside
    where
      unreached : (b : Bool) → ltb (sum lengths + turn) budget ≡ b → running_or_spent (round_after budget turn lengths)
          (sum lengths + turn_length (round_after budget turn lengths) (sum lengths)) ≡ running_or_spent_alone budget (lengths ++ turn ∷ [])
      unreached true e =
          let less = ltb-true (sum lengths + turn) budget e in
          let count : sum lengths + min turn (budget - sum lengths) ≡ sum lengths + turn = omega arith in
          let ne : eqb (sum lengths + turn) budget ≡ false = ne_eqb (sum lengths + turn) budget (λ same. omega arith) in
          ap (running_or_spent (round_after budget turn lengths)) count ∙ ap
          (λ (b : Bool). if b then Spent (sum lengths + turn) (length lengths + 1) else Running (sum lengths + turn)) ne
          ∙ sym (short_running budget turn lengths less)
      unreached false e =
          let le = ltb-false (sum lengths + turn) budget e in
          let within = r.within in
          let count : sum lengths + min turn (budget - sum lengths) ≡ budget = omega arith in
          let round = round_last budget turn lengths r.before le in
          ap (running_or_spent (round_after budget turn lengths)) count ∙ ap
          (λ (b : Bool). if b then Spent budget (length lengths + 1) else Running budget) (eq-eqb budget budget refl)
          ∙ ap (λ n. Spent budget n) (sym round) ∙ sym (short_spent budget turn lengths le)

      by : (q : Run) → p.run ≡ q → IsInside q → state_after (round_after budget turn lengths) (sum lengths) p.run
          ≡ state_alone budget (lengths ++ turn ∷ []) o.run
      by (run.Ended k) ends inside =
          let within = r.within in
          let made : k ≤ turn_length (round_after budget turn lengths) (sum lengths) =
          ended_within s image.final_pc (turn_length (round_after budget turn lengths) (sum lengths)) k (ap (λ (x : RunOutcome). x.run) is ∙ ends) in
          let some : 0 < k = not_at_once start s image.final_pc (min (sum lengths) budget) (turn_length (round_after budget turn lengths) (sum lengths))
          k e (ap (λ (x : RunOutcome). x.run) is ∙ ends) in
          let count : min (sum lengths) budget + k ≡ sum lengths + k = omega arith in
          let round = round_of_end_last (sum lengths + k) turn lengths (omega arith) (omega arith) in
          ap (state_after (round_after budget turn lengths) (sum lengths)) ends ∙ ap (λ n. Ended (sum lengths + k) n) (sym round)
          ∙ ap (λ n. Ended n (round_of_end n (lengths ++ turn ∷ []))) (sym count)
          ∙ sym (ap (λ (x : RunOutcome). state_alone budget (lengths ++ turn ∷ []) x.run) later
          ∙ ap (λ (x : Run). state_alone budget (lengths ++ turn ∷ []) (later_run (min (sum lengths) budget) x)) ends)
      by run.Spent ends inside =
          ap (state_after (round_after budget turn lengths) (sum lengths)) ends ∙ unreached (ltb (sum lengths + turn) budget) refl
          ∙ sym (ap (λ (x : RunOutcome). state_alone budget (lengths ++ turn ∷ []) x.run) later
          ∙ ap (λ (x : Run). state_alone budget (lengths ++ turn ∷ []) (later_run (min (sum lengths) budget) x)) ends)
      by (run.Outside a k) ends inside = absurd inside

  turns_so : (r : Run) (s : Fm) → outcome (min (sum lengths) budget) image.final_pc start ≡ record { run = r; state = s }
      → TurnsTo (round_after budget turn lengths) base before after image s (state_alone budget lengths r)
      (outcome (min (sum (lengths ++ turn ∷ [])) budget) image.final_pc start).state
      (state_alone budget (lengths ++ turn ∷ []) (outcome (min (sum (lengths ++ turn ∷ [])) budget) image.final_pc start).run)
  turns_so (run.Ended k) s e =
      let more = sum_push lengths turn in
      let made : k ≤ min (sum lengths) budget = ended_within start image.final_pc (min (sum lengths) budget) k (ap (λ (o : RunOutcome). o.run) e) in
      let next = outcome_ended start s image.final_pc (min (sum lengths) budget) (min (sum (lengths ++ turn ∷ [])) budget) k (omega arith) e in
      let round = round_of_end_kept k turn lengths (omega arith) in
      ap (λ n. left_at before after image s (Ended k n)) (sym round) ∙ ap
      (λ (o : RunOutcome). left_at before after image o.state (state_alone budget (lengths ++ turn ∷ []) o.run)) (sym next)
  turns_so (run.Outside a k) s e =
      absurd (subst (λ (o : RunOutcome). IsInside o.run) e (stays_within start image.final_pc (min (sum lengths) budget) stays))
  turns_so run.Spent s e = by (short budget lengths)
    where
      by : Short budget lengths → TurnsTo (round_after budget turn lengths) base before after image s (running_or_spent_alone budget lengths)
          (outcome (min (sum (lengths ++ turn ∷ [])) budget) image.final_pc start).state
          (state_alone budget (lengths ++ turn ∷ []) (outcome (min (sum (lengths ++ turn ∷ [])) budget) image.final_pc start).run)
      by (spent h) =
          let within = h.within in
          let some = h.some in
          let more = sum_push lengths turn in
          let same : min (sum lengths) budget ≡ min (sum (lengths ++ turn ∷ [])) budget = omega arith in
          let next : outcome (min (sum (lengths ++ turn ∷ [])) budget) image.final_pc start ≡ record { run = run.Spent; state = s } =
          ap (λ n. outcome n image.final_pc start) (sym same) ∙ e in
          let round = round_kept budget turn lengths (omega arith) within in
          subst (λ (state : Task). TurnsTo (round_after budget turn lengths) base before after image s state
          (outcome (min (sum (lengths ++ turn ∷ [])) budget) image.final_pc start).state
          (state_alone budget (lengths ++ turn ∷ []) (outcome (min (sum (lengths ++ turn ∷ [])) budget) image.final_pc start).run)) (sym h.state)
          (ap (λ n. left_at before after image s (Spent budget n)) (sym round) ∙ ap (left_at before after image s)
          (sym (short_spent budget turn lengths (omega arith)))
          ∙ ap (λ (o : RunOutcome). left_at before after image o.state (state_alone budget (lengths ++ turn ∷ []) o.run)) (sym next))
      by (runs h) =
          let within = h.within in
          let more = sum_push lengths turn in
          let m : ℕ = min (sum lengths) budget in
          let n : ℕ = turn_length (round_after budget turn lengths) (sum lengths) in
          let p : RunOutcome = outcome n image.final_pc s in
          let all : m + n ≡ min (sum (lengths ++ turn ∷ [])) budget = omega arith in
          let later : outcome (m + n) image.final_pc start ≡ record { run = later_run m p.run; state = p.state } = outcome_later start s image.final_pc m n e in
          let next : outcome (min (sum (lengths ++ turn ∷ [])) budget) image.final_pc start ≡ record { run = later_run m p.run; state = p.state } =
          ap (λ k. outcome k image.final_pc start) (sym all) ∙ later in
          let inside : IsInside p.run =
          inside_before m p.run (subst (λ (o : RunOutcome). IsInside o.run) later (stays_within start image.final_pc (m + n) stays)) in
          let kept : KeepsWindow start s = subst (λ (o : RunOutcome). KeepsWindow start o.state) e (outcome_kept m image.final_pc start) in
          let wider = outcome_wider base before after image.final_pc n s (kept.base ∙ at) inside in
          let stands = ran s p h e refl (outcome (min (sum (lengths ++ turn ∷ [])) budget) image.final_pc start) next inside in
          subst (λ (state : Task). TurnsTo (round_after budget turn lengths) base before after image s state
          (outcome (min (sum (lengths ++ turn ∷ [])) budget) image.final_pc start).state
          (state_alone budget (lengths ++ turn ∷ []) (outcome (min (sum (lengths ++ turn ∷ [])) budget) image.final_pc start).run)) (sym h.state)
          (ap (after_run (round_after budget turn lengths) (context_at image s (Running (sum lengths))) (sum lengths)) wider
          ∙ ap (left_at before after image p.state) stands
          ∙ ap (λ (o : RunOutcome). left_at before after image o.state
          (state_alone budget (lengths ++ turn ∷ []) (outcome (min (sum (lengths ++ turn ∷ [])) budget) image.final_pc start).run)) (sym next))

  -- a turn on the memory of all does to a task what it goes on with alone, and leaves the words before and after
  pub turn_alone : after_turn (round_after budget turn lengths) base
      (widened_words before after (outcome (min (sum lengths) budget) image.final_pc start).state.memory)
      (context_after budget lengths image (outcome (min (sum lengths) budget) image.final_pc start))
      ≡ left_at before after image (outcome (min (sum (lengths ++ turn ∷ [])) budget) image.final_pc start).state
      (state_alone budget (lengths ++ turn ∷ []) (outcome (min (sum (lengths ++ turn ∷ [])) budget) image.final_pc start).run)
  turn_alone = turns_so (outcome (min (sum lengths) budget) image.final_pc start).run (outcome (min (sum lengths) budget) image.final_pc start).state refl

-- ---- as many steps as were made

-- a task at its budget, or short of it, has made as many as its run alone allows
short_count : (budget : ℕ) (lengths : List ℕ) → count_of (running_or_spent_alone budget lengths) ≡ min (sum lengths) budget
short_count budget lengths = by (short budget lengths)
  where
    by : Short budget lengths → count_of (running_or_spent_alone budget lengths) ≡ min (sum lengths) budget
    by (runs h) = let within = h.within in let least : sum lengths ≡ min (sum lengths) budget = omega arith in ap count_of h.state ∙ least
    by (spent h) = let within = h.within in let least : budget ≡ min (sum lengths) budget = omega arith in ap count_of h.state ∙ least

-- the machine alone is the loaded machine after as many steps as the task has made
pub alone_is_counted : AloneIsCounted
alone_is_counted budget lengths task =
    by (alone budget lengths task).run (outcome_is (machine_of task) task.image.final_pc (min (sum lengths) budget))
  where
    by : (r : Run) → IsOutcome (machine_of task) task.image.final_pc (min (sum lengths) budget) r (alone budget lengths task).state
        → fm_run (count_of (state_alone budget lengths r)) (machine_of task) ≡ Ok (alone budget lengths task).state
    by (run.Ended k) h = h.1.reached
    by run.Spent h = ap (λ n. fm_run n (machine_of task)) (short_count budget lengths) ∙ h.0
    by (run.Outside a k) h = h.1

-- ---- the least of the sum, the budget and the first arrival

first_once : (s : Fm) (pc j k : ℕ) (t u : Fm) → IsFirst s pc j t → IsFirst s pc k u → j ≡ k
first_once s pc j k t u h g =
    ⊎_elim (λ lt. absurd (g.before j t lt h.reached h.there))
    (λ le. ⊎_elim (λ lt. absurd (h.before k u lt g.reached g.there)) (λ back. omega (arith, le, back)) (cases_lt k j)) (cases_lt j k)

-- no run is longer than one that was refused
refused_before : (s t u : Fm) (k n : ℕ) (e : Outside) → fm_run k s ≡ Ok t → fm_step t ≡ Err e → k < n → fm_run n s ≡ Ok u → ⊥
refused_before s t u k n e h step lt g =
    let rest : k + 1 + (n - (k + 1)) ≡ n = omega arith in
    let stops : fm_run n s ≡ Err e = ap (λ i. fm_run i s) (sym rest) ∙ run_add (k + 1) (n - (k + 1)) s
    ∙ ap (λ (r : Result Fm Outside). then_on r (fm_run (n - (k + 1)))) (run_more k s t (Err e) h step) in
    not_both (fm_run n s) e u stops g

pub alone_is_least : AloneIsLeast
alone_is_least budget lengths task count s first =
    by (alone budget lengths task).run (outcome_is (machine_of task) task.image.final_pc (min (sum lengths) budget))
  where
    later : (m : ℕ) → Avoids (machine_of task) task.image.final_pc (m + 1) → m < count
    later m avoids = ⊎_elim (λ lt. lt) (λ le. absurd (avoids count s (omega (arith, le)) first.reached first.there)) (cases_lt m count)

    by : (r : Run) → IsOutcome (machine_of task) task.image.final_pc (min (sum lengths) budget) r (alone budget lengths task).state
        → count_of (state_alone budget lengths r) ≡ min count (min (sum lengths) budget)
    by (run.Ended k) h =
        let same : k ≡ count = first_once (machine_of task) task.image.final_pc k count (alone budget lengths task).state s h.1 first in
        let within : k ≤ min (sum lengths) budget = h.0 in
        omega (arith, same, within)
    by run.Spent h =
        let past : min (sum lengths) budget < count = later (min (sum lengths) budget) h.1 in
        let least : min (sum lengths) budget ≡ min count (min (sum lengths) budget) = omega (arith, past) in
        short_count budget lengths ∙ least
    by (run.Outside a k) h =
        absurd (refused_before (machine_of task) (alone budget lengths task).state s k count record { address = a } h.1 h.2 (later k h.3) first.reached)

-- short of its final pc a task that stays inside makes all that it may
pub alone_is_whole : AloneIsWhole
alone_is_whole budget lengths task stays avoids =
    by (alone budget lengths task).run (outcome_is (machine_of task) task.image.final_pc (min (sum lengths) budget))
  where
    by : (r : Run) → IsOutcome (machine_of task) task.image.final_pc (min (sum lengths) budget) r (alone budget lengths task).state
        → count_of (state_alone budget lengths r) ≡ min (sum lengths) budget
    by (run.Ended k) h =
        let within : k ≤ min (sum lengths) budget = h.0 in
        absurd (avoids k (alone budget lengths task).state (omega (arith, within)) h.1.reached h.1.there)
    by run.Spent h = short_count budget lengths
    by (run.Outside a k) h = absurd (stays k (alone budget lengths task).state record { address = a } h.1 h.3 h.2)
