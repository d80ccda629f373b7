-- Rounds of tasks that keep to their own windows, beside each of them alone.
use Rattle.std.proofs.Common.{◌≡◌, ℕ, ◌+◌, ◌<◌, ◌==◌, ◌^◌, ◌&&◌, List, [], ◌∷◌, ◌++◌, length, map, Bool, true, false, not, if◌then◌else◌, eqb, leb, ltb, Result}
use Rattle.std.{proofs.Common.{Ok, Err, refl, sym, ap, ◌∙◌, arith, append_assoc, length-append}, specs.Prelude.{flat_map, min, sum, All}}
use Rattle.std.{proofs.lemmas.Bool.{and_parts, eqb-true}, proofs.lemmas.List.append-nil, proofs.lemmas.List.Elements.{All-head, All-tail}}
use Rattle.fm_machine.{specs.State.Fm, specs.Run.pc_of, specs.Outcome.{RunOutcome, outcome}}
use Rattle.fm_machine.specs.declared.processor.Run.TheVariants as run
use Rattle.fm_turns.{specs.declared.task.Task.Task, specs.declared.task.Task.TheVariants.{Running, Ended}, specs.declared.context.TaskContext.TaskContext}
use Rattle.fm_turns.{specs.declared.fault.TurnsFault.TurnsFault, specs.declared.fault.TurnsFault.TheVariants.{Count, Apart, Size}, specs.Turns.TurnsOf}
use Rattle.fm_turns.{specs.Turns.{AfterTurn, AfterTurns, in_front, after_turns, round_of, rounds_of}, specs.Starting.{NewTask, machine_of, context_of}}
use Rattle.fm_turns.{specs.Starting.{first_base, adjoin_from, adjoin, total_size, side_by_side, window_size, started_in, started}, specs.Alone.StaysInside}
use Rattle.fm_turns.{specs.Alone.{alone, state_alone, context_alone, all_alone, RoundsAsAlone}, proofs.OutcomeLaws.outcome_kept, proofs.AloneLaws.round_after}
use Rattle.fm_turns.{proofs.AloneLaws.turn_alone, proofs.LoadedLaws.loaded_size}

-- ---- tasks that start

-- tasks start exactly where there are few, side by side, in a window that is small enough
pub record Starts (tasks : List NewTask) : Type 0 where
  pub adjoin_is : adjoin tasks ≡ true
  pub size_is : window_size tasks ≡ Ok (total_size tasks)

pub starts : (tasks : List NewTask) (size : ℕ) → window_size tasks ≡ Ok size → (size ≡ total_size tasks) × Starts tasks
unfolding window_size
starts tasks size h = by (not (leb 1 (length tasks) && leb (length tasks) 8)) (adjoin tasks) (ltb 1048576 (total_size tasks)) refl refl refl h
  where
    by : (a b c : Bool) → not (leb 1 (length tasks) && leb (length tasks) 8) ≡ a → adjoin tasks ≡ b → ltb 1048576 (total_size tasks) ≡ c
        → (if a then Err Count else if not b then Err Apart else if c then Err (Size (total_size tasks)) else Ok (total_size tasks)) ≡ Ok size
        → (size ≡ total_size tasks) × Starts tasks
    by true b c few side small h = absurd cc
    by false false c few side small h = absurd cc
    by false true true few side small h = absurd cc
    by false true false few side small h =
        let is : total_size tasks ≡ size = cc in
        (sym is, record { adjoin_is = side; size_is = rw (few, side, small) refl })

started_is : (r : Result ℕ TurnsFault) (tasks : List NewTask) (turns : TurnsOf) → started_in r tasks ≡ Ok turns → (size : ℕ) × (r ≡ Ok size)
    × (side_by_side tasks ≡ turns)
started_is (Ok size) tasks turns h = (size, refl, cc)
started_is (Err fault) tasks turns h = absurd cc

-- ---- before the first round

abbrev at_start : NewTask → Bool → RunOutcome
at_start task b = if b then record { run = run.Ended 0; state = machine_of task } else record { run = run.Spent; state = machine_of task }

alone_at_start : (budget : ℕ) (task : NewTask) → alone budget [] task ≡ at_start task (pc_of (machine_of task) == task.image.final_pc)
unfolding outcome
alone_at_start budget task =
    let none : min 0 budget ≡ 0 = omega arith in
    ap (λ n. outcome n task.image.final_pc (machine_of task)) none

same_state : (task : NewTask) (b : Bool) → (at_start task b).state ≡ machine_of task
same_state task true = refl
same_state task false = refl

same_task_state : (budget : ℕ) (task : NewTask) (b : Bool) → state_alone budget [] (at_start task b).run ≡ (if b then Ended 0 0 else Running 0)
same_task_state budget task true = refl
same_task_state budget task false = refl

memory_at_start : (budget : ℕ) (task : NewTask) → (machine_of task).memory ≡ (alone budget [] task).state.memory
memory_at_start budget task =
    let is = alone_at_start budget task in
    sym (ap (λ (o : RunOutcome). o.state.memory) is ∙ ap (λ (s : Fm). s.memory) (same_state task (pc_of (machine_of task) == task.image.final_pc)))

context_at_start : (budget : ℕ) (task : NewTask) → context_of task.image (machine_of task) ≡ context_alone budget [] task
context_at_start budget task =
    let b : Bool = pc_of (machine_of task) == task.image.final_pc in
    let is = alone_at_start budget task in
    let at : Fm → Task → TaskContext = λ s state. record { image = task.image; registers = s.registers; flags = s.flags; state = state } in
    sym (ap (λ (o : RunOutcome). at o.state (state_alone budget [] o.run)) is ∙ ap (λ (s : Fm). at s (state_alone budget [] (at_start task b).run))
    (same_state task b) ∙ ap (at (machine_of task)) (same_task_state budget task b))

memories_at_start : (budget : ℕ) (tasks : List NewTask) → flat_map (λ task. (machine_of task).memory) tasks
    ≡ flat_map (λ task. (alone budget [] task).state.memory) tasks
memories_at_start budget [] = refl
memories_at_start budget (task ∷ others) =
    ap (λ (m : List ℕ). m ++ flat_map (λ task. (machine_of task).memory) others) (memory_at_start budget task)
    ∙ ap (λ (m : List ℕ). (alone budget [] task).state.memory ++ m) (memories_at_start budget others)

contexts_at_start : (budget : ℕ) (tasks : List NewTask) → map (λ task. context_of task.image (machine_of task)) tasks ≡ map (context_alone budget []) tasks
contexts_at_start budget [] = refl
contexts_at_start budget (task ∷ others) =
    ap (λ (context : TaskContext). context ∷ map (λ task. context_of task.image (machine_of task)) others) (context_at_start budget task)
    ∙ ap (λ (contexts : List TaskContext). context_alone budget [] task ∷ contexts) (contexts_at_start budget others)

-- before the first round each task is as it is alone
pub begun_alone : (budget : ℕ) (tasks : List NewTask) → side_by_side tasks ≡ all_alone budget [] tasks
begun_alone budget tasks =
    ap (λ (m : List ℕ). record (side_by_side tasks) { memory = m }) (memories_at_start budget tasks)
    ∙ ap (λ (contexts : List TaskContext). record (all_alone budget [] tasks) { contexts = contexts }) (contexts_at_start budget tasks)

-- ---- a round

-- the words of tasks that ran alone
abbrev pub memories : ℕ → List ℕ → List NewTask → List ℕ
memories budget lengths tasks = flat_map (λ task. (alone budget lengths task).state.memory) tasks

-- the memory of a task that ran alone has the size of its image's window
pub alone_size : (budget : ℕ) (lengths : List ℕ) (task : NewTask) → length (alone budget lengths task).state.memory ≡ task.image.size
alone_size budget lengths task =
    (outcome_kept (min (sum lengths) budget) task.image.final_pc (machine_of task)).memory ∙ loaded_size task

round_alone : (base from budget turn : ℕ) (lengths before : List ℕ) (tasks : List NewTask) → from ≡ base + length before → adjoin_from from tasks ≡ true
    → All StaysInside tasks
    → after_turns (round_after budget turn lengths) base (before ++ memories budget lengths tasks) (map (context_alone budget lengths) tasks)
    ≡ record { memory = before ++ memories budget (lengths ++ turn ∷ []) tasks; contexts = map (context_alone budget (lengths ++ turn ∷ [])) tasks }
unfolding after_turns
round_alone base from budget turn lengths before [] at adjoin stay = refl
round_alone base from budget turn lengths before (task ∷ others) at adjoin stay =
    let p = and_parts (eqb task.image.base from) (adjoin_from (from + task.image.size) others) adjoin in
    let here : task.image.base ≡ from = eqb-true task.image.base from p.0 in
    let place : task.image.base ≡ base + length before = here ∙ at in
    let round = round_after budget turn lengths in
    let longer : List ℕ = lengths ++ turn ∷ [] in
    let rest : List ℕ = memories budget lengths others in
    let own : List ℕ = (alone budget longer task).state.memory in
    let n : length own ≡ task.image.size = alone_size budget longer task in
    let more : from + task.image.size ≡ base + length (before ++ own) = omega (arith, length-append before own) in
    let one = turn_alone base before rest task.image (machine_of task) budget turn lengths place (All-head StaysInside task others stay) in
    let after = round_alone base (from + task.image.size) budget turn lengths (before ++ own) others more p.1 (All-tail StaysInside task others stay) in
    ap (λ (t : AfterTurn). in_front t.context (after_turns round base t.memory (map (context_alone budget lengths) others))) one
    ∙ ap (λ (m : List ℕ). in_front (context_alone budget longer task) (after_turns round base m (map (context_alone budget lengths) others)))
    (sym (append_assoc before own rest))
    ∙ ap (in_front (context_alone budget longer task)) after
    ∙ ap (λ (m : List ℕ). in_front (context_alone budget longer task) record { memory = m; contexts = map (context_alone budget longer) others })
    (append_assoc before own (memories budget longer others))

-- a round takes tasks from where each is as it is alone to where each is so
pub next_alone : (budget turn : ℕ) (lengths : List ℕ) (tasks : List NewTask) → adjoin tasks ≡ true → All StaysInside tasks → length lengths + 1 < 2 ^ 64
    → round_of turn budget (all_alone budget lengths tasks) ≡ all_alone budget (lengths ++ turn ∷ []) tasks
next_alone budget turn lengths tasks adjoin stay few =
    let at : first_base tasks ≡ first_base tasks + 0 = omega arith in
    let number : min (length lengths + 1) 18446744073709551615 ≡ length lengths + 1 = omega arith in
    let longer : length lengths + 1 ≡ length (lengths ++ turn ∷ []) = omega (arith, length-append lengths (turn ∷ [])) in
    let turns_are = round_alone (first_base tasks) (first_base tasks) budget turn lengths [] tasks at adjoin stay in
    let made : ℕ → AfterTurns → TurnsOf = λ rounds t. record { rounds = rounds; base = first_base tasks; memory = t.memory; contexts = t.contexts } in
    ap (λ rounds. made rounds (after_turns record { number = rounds; turn = turn; budget = budget } (first_base tasks) (memories budget lengths tasks)
    (map (context_alone budget lengths) tasks))) number
    ∙ ap (made (length lengths + 1)) turns_are
    ∙ ap (λ rounds. made rounds record {
      memory = memories budget (lengths ++ turn ∷ []) tasks;
      contexts = map (context_alone budget (lengths ++ turn ∷ [])) tasks;
    }) longer

-- ---- rounds

rounds_alone : (budget : ℕ) (made lengths : List ℕ) (tasks : List NewTask) → adjoin tasks ≡ true → All StaysInside tasks → length made + length lengths < 2 ^ 64
    → rounds_of budget lengths (all_alone budget made tasks) ≡ all_alone budget (made ++ lengths) tasks
rounds_alone budget made [] tasks adjoin stay few = ap (λ (ls : List ℕ). all_alone budget ls tasks) (sym (append-nil made))
rounds_alone budget made (turn ∷ lengths) tasks adjoin stay few =
    let longer = length-append made (turn ∷ []) in
    ap (rounds_of budget lengths) (next_alone budget turn made tasks adjoin stay (omega arith))
    ∙ rounds_alone budget (made ++ turn ∷ []) lengths tasks adjoin stay (omega arith)
    ∙ ap (λ (ls : List ℕ). all_alone budget ls tasks) (append_assoc made (turn ∷ []) lengths)

-- after any rounds all tasks are where each of them comes alone
pub rounds_as_alone : RoundsAsAlone
rounds_as_alone tasks turns budget lengths start stay few =
    let s = started_is (window_size tasks) tasks turns start in
    let adjoin = (starts tasks s.0 s.1).1.adjoin_is in
    ap (rounds_of budget lengths) (sym s.2 ∙ begun_alone budget tasks) ∙ rounds_alone budget [] lengths tasks adjoin stay (omega arith)

pub starts_adjoining : (tasks : List NewTask) (turns : TurnsOf) → started tasks ≡ Ok turns → adjoin tasks ≡ true
starts_adjoining tasks turns start =
    let s = started_is (window_size tasks) tasks turns start in
    (starts tasks s.0 s.1).1.adjoin_is
