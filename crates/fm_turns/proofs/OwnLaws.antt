-- The machine that each task has to itself, of tasks that ran alone.
use Rattle.std.proofs.Common.{◌≡◌, ℕ, ◌+◌, ◌-◌, List, [], ◌∷◌, ◌++◌, length, take, drop, map, true, eqb, refl, sym, ap, subst, ◌∙◌, arith, append_assoc}
use Rattle.std.{proofs.Common.length-append, specs.Prelude.{min, sum}, proofs.lemmas.Bool.{and_parts, eqb-true}, proofs.Math.Seq.take-append_seam}
use Rattle.std.proofs.Math.Seq.{drop-append_seam}
use Rattle.fm_machine.specs.State.{Fm}
use Rattle.fm_image.specs.Image.{ImageOf}
use Rattle.display_maps.specs.Reading.{reading}
use Rattle.fm_turns.{specs.declared.context.TaskContext.TaskContext, specs.Windows.widened_words, specs.Turns.TurnsOf, specs.OwnMachines.own_machine}
use Rattle.fm_turns.{specs.Starting.{NewTask, machine_of, first_base, adjoin_from, adjoin}, specs.Alone.{alone, state_alone, context_alone, all_alone}}
use Rattle.fm_turns.{specs.Readings.{IsAsAlone, EachAsAlone}, proofs.OutcomeLaws.outcome_kept, proofs.RoundsLaws.{memories, alone_size, rounds_as_alone}}
use Rattle.fm_turns.proofs.RoundsLaws.{starts_adjoining}

-- the words of a window between others
words_between : (base b size : ℕ) (before m after : List ℕ) → b ≡ base + length before → length m ≡ size
    → take size (drop (b - base) (widened_words before after m)) ≡ m
words_between base b size before m after at n =
    let place : b - base ≡ length before = omega arith in
    ap (λ k. take size (drop k (widened_words before after m))) place ∙ ap (take size) (drop-append_seam before (m ++ after))
    ∙ ap (λ k. take k (m ++ after)) (sym n) ∙ take-append_seam m after

-- a memory from base on, without regard to the tasks
abbrev in_memory : ℕ → ℕ → List TaskContext → List ℕ → TurnsOf
in_memory rounds base contexts memory = record { rounds = rounds; base = base; memory = memory; contexts = contexts }

own_alone : (rounds base budget : ℕ) (lengths before after : List ℕ) (contexts : List TaskContext) (task : NewTask) → task.image.base ≡ base + length before
    → own_machine (in_memory rounds base contexts (widened_words before after (alone budget lengths task).state.memory))
    (context_alone budget lengths task) ≡ (alone budget lengths task).state
own_alone rounds base budget lengths before after contexts task at =
    let s : Fm = (alone budget lengths task).state in
    let base_is : s.base ≡ task.image.base = (outcome_kept (min (sum lengths) budget) task.image.final_pc (machine_of task)).base in
    let words = words_between base task.image.base task.image.size before s.memory after at (alone_size budget lengths task) in
    ap (λ (m : List ℕ). record s { base = task.image.base; memory = m }) words ∙ ap (λ b. record s { base = b }) (sym base_is)

-- whatever is seen of each task's image and own machine is what is seen of it alone
seen_alone : {X : Type 0} (seen : ImageOf → Fm → X) (rounds base from budget : ℕ) (lengths before : List ℕ) (contexts : List TaskContext)
    (tasks : List NewTask) → from ≡ base + length before → adjoin_from from tasks ≡ true
    → map (λ context. seen context.image (own_machine (in_memory rounds base contexts (before ++ memories budget lengths tasks)) context))
    (map (context_alone budget lengths) tasks)
    ≡ map (λ task. seen task.image (alone budget lengths task).state) tasks
seen_alone seen rounds base from budget lengths before contexts [] at adjoin = refl
seen_alone {X} seen rounds base from budget lengths before contexts (task ∷ others) at adjoin =
    let p = and_parts (eqb task.image.base from) (adjoin_from (from + task.image.size) others) adjoin in
    let here : task.image.base ≡ from = eqb-true task.image.base from p.0 in
    let own : List ℕ = (alone budget lengths task).state.memory in
    let n : length own ≡ task.image.size = alone_size budget lengths task in
    let more : from + task.image.size ≡ base + length (before ++ own) = omega (arith, length-append before own) in
    let one = own_alone rounds base budget lengths before (memories budget lengths others) contexts task (here ∙ at) in
    let rest = seen_alone seen rounds base (from + task.image.size) budget lengths (before ++ own) contexts others more p.1 in
    let both = sym (append_assoc before own (memories budget lengths others)) in
    ap (λ (s : Fm). seen task.image s ∷ map (λ context. seen context.image
    (own_machine (in_memory rounds base contexts (widened_words before (memories budget lengths others) own)) context))
    (map (context_alone budget lengths) others)) one
    ∙ ap (λ (m : List ℕ). seen task.image (alone budget lengths task).state ∷ map
    (λ context. seen context.image (own_machine (in_memory rounds base contexts m) context)) (map (context_alone budget lengths) others)) both
    ∙ ap (λ (xs : List X). seen task.image (alone budget lengths task).state ∷ xs) rest

states_alone : (budget : ℕ) (lengths : List ℕ) (tasks : List NewTask) → map (λ context. context.state) (map (context_alone budget lengths) tasks)
    ≡ map (λ task. state_alone budget lengths (alone budget lengths task).run) tasks
states_alone budget lengths [] = refl
states_alone budget lengths (task ∷ others) =
    ap (λ xs. state_alone budget lengths (alone budget lengths task).run ∷ xs) (states_alone budget lengths others)

-- each task is as it is alone, where they all lie side by side
all_as_alone : (budget : ℕ) (lengths : List ℕ) (tasks : List NewTask) → adjoin tasks ≡ true → IsAsAlone budget lengths tasks (all_alone budget lengths tasks)
all_as_alone budget lengths tasks adjoin =
    let at : first_base tasks ≡ first_base tasks + 0 = omega arith in
    let contexts : List TaskContext = map (context_alone budget lengths) tasks in
    record {
      states = states_alone budget lengths tasks;
      machines = seen_alone (λ image s. s) (length lengths) (first_base tasks) (first_base tasks) budget lengths [] contexts tasks at adjoin;
      readings = seen_alone reading (length lengths) (first_base tasks) (first_base tasks) budget lengths [] contexts tasks at adjoin;
    }

-- after any rounds each task is as it is alone
pub each_as_alone : EachAsAlone
each_as_alone tasks turns budget lengths start stay few =
    let adjoin = starts_adjoining tasks turns start in
    subst (IsAsAlone budget lengths tasks) (sym (rounds_as_alone tasks turns budget lengths start stay few)) (all_as_alone budget lengths tasks adjoin)
