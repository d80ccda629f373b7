-- Tasks that are loaded one after the other, and what they are then.
use Rattle.std.proofs.Common.{if◌then◌else◌, ◌≡◌, ℕ, ◌+◌, ◌<◌, ◌≤◌, ◌==◌, List, [], ◌∷◌, ◌++◌, length, map, replicate, Bool, true, false, ltb, leb, eqb, Result}
use Rattle.std.{proofs.Common.{Ok, refl, sym, ap, subst, ◌∙◌, arith, append_assoc}, specs.Prelude.{flat_map, All, slice_index, Some, Err}}
use Rattle.std.{proofs.lemmas.Bool.{and_parts, eqb-true, ne_eqb, le-ltb, lt-leb}, proofs.lemmas.List.length-replicate, proofs.lemmas.List.Elements.All-cons}
use Rattle.std.{proofs.lemmas.List.Elements.{All-nil, All-head, All-tail}, proofs.lemmas.List.Sums.sum_by-cons}
use Rattle.stack_text.specs.Gives.{FailsUnless}
use Rattle.fm_machine.specs.State.{Fm, zeroed, is_refused}
use Rattle.fm_image.specs.Image.{ImageOf}
use Rattle.fm_loader.specs.Loaded.{with_words}
use Rattle.fm_turns.{specs.declared.context.TaskContext.TaskContext, specs.declared.fault.TurnsFault.TurnsFault, specs.declared.task.Task.TheVariants.Running}
use Rattle.fm_turns.{specs.declared.task.Task.TheVariants.Ended, specs.Turns.{TurnsOf, IsPart, IsWithin, AreWithin}, specs.Starting.{NewTask, machine_of}}
use Rattle.fm_turns.specs.Starting.{state_at_start, context_of, first_base, adjoin_from, adjoin, total_size, window_size, started_in, started, with_tasks}
use Rattle.fm_turns.{specs.Starting.fault_of, proofs.LoadedLaws.{with_tasks_laid, length-with_tasks_laid}, proofs.RoundsLaws.starts}

abbrev contexts_of : List NewTask → List TaskContext
contexts_of tasks = map (λ task. context_of task.image (machine_of task)) tasks

-- ---- a loop over the tasks

-- what holds of all that are left holds of the next, and of those after it
pub next_holds : {A : Type 0} (items rest : List A) (x : A) (seen : A → NewTask) (P : NewTask → Type 0) → items ≡ x ∷ rest → All P (map seen items) → P (seen x)
next_holds {A} items rest x seen P e h =
    let all : All P (seen x ∷ map seen rest) = subst (λ (xs : List A). All P (map seen xs)) e h in
    All-head P (seen x) (map seen rest) all

pub rest_hold : {A : Type 0} (items rest : List A) (x : A) (seen : A → NewTask) (P : NewTask → Type 0) → items ≡ x ∷ rest → All P (map seen items)
    → All P (map seen rest)
rest_hold {A} items rest x seen P e h =
    let all : All P (seen x ∷ map seen rest) = subst (λ (xs : List A). All P (map seen xs)) e h in
    All-tail P (seen x) (map seen rest) all

pub contexts_next : {A : Type 0} (items rest : List A) (x : A) (seen : A → NewTask) (contexts new all : List TaskContext) → items ≡ x ∷ rest
    → new ≡ contexts ++ context_of (seen x).image (machine_of (seen x)) ∷ []
    → contexts ++ contexts_of (map seen items) ≡ all → new ++ contexts_of (map seen rest) ≡ all
contexts_next {A} items rest x seen contexts new all e is h =
    ap (λ (xs : List TaskContext). xs ++ contexts_of (map seen rest)) is ∙ append_assoc contexts (context_of (seen x).image (machine_of (seen x)) ∷ [])
    (contexts_of (map seen rest))
    ∙ sym (ap (λ (xs : List A). contexts ++ contexts_of (map seen xs)) e) ∙ h

pub memory_next : {A : Type 0} (items rest : List A) (x : A) (seen : A → NewTask) (base : ℕ) (memory new all : List ℕ) → items ≡ x ∷ rest
    → new ≡ with_words base (seen x).image.base (machine_of (seen x)).memory memory
    → with_tasks base (map seen items) memory ≡ all → with_tasks base (map seen rest) new ≡ all
memory_next {A} items rest x seen base memory new all e is h =
    ap (with_tasks base (map seen rest)) is ∙ sym (ap (λ (xs : List A). with_tasks base (map seen xs) memory) e) ∙ h

-- ---- windows side by side

-- a machine has the window of all
pub has_window : (base size : ℕ) → 1 ≤ size → size ≤ 1048576 → base + size < 4294967296 → is_refused base size ≡ false
has_window base size some few below =
    let a : eqb size 0 ≡ false = ne_eqb size 0 (λ e. omega arith) in
    let b : ltb 1048576 size ≡ false = le-ltb 1048576 size few in
    let c : leb 4294967296 (base + size) ≡ false = lt-leb 4294967296 (base + size) below in
    rw (a, b, c) refl

above_from : (base from : ℕ) (tasks : List NewTask) → base ≤ from → adjoin_from from tasks ≡ true → All (λ task. base ≤ task.image.base) tasks
above_from base from [] le adjoin = All-nil (λ task. base ≤ task.image.base)
above_from base from (task ∷ others) le adjoin =
    let p = and_parts (eqb task.image.base from) (adjoin_from (from + task.image.size) others) adjoin in
    let here : task.image.base ≡ from = eqb-true task.image.base from p.0 in
    All-cons (λ task. base ≤ task.image.base) task others (omega arith) (above_from base (from + task.image.size) others (omega arith) p.1)

parts_from : (base size from : ℕ) (tasks : List NewTask) → base ≤ from → from + total_size tasks ≤ base + size → adjoin_from from tasks ≡ true
    → All (IsPart base size) (map (λ context. context.image) (contexts_of tasks))
parts_from base size from [] le fit adjoin = All-nil (IsPart base size)
parts_from base size from (task ∷ others) le fit adjoin =
    let p = and_parts (eqb task.image.base from) (adjoin_from (from + task.image.size) others) adjoin in
    let here : task.image.base ≡ from = eqb-true task.image.base from p.0 in
    let whole : total_size (task ∷ others) ≡ task.image.size + total_size others = sum_by-cons (λ task. task.image.size) task others in
    All-cons (IsPart base size) task.image (map (λ context. context.image) (contexts_of others)) (omega arith, omega arith)
    (parts_from base size (from + task.image.size) others (omega arith) (omega arith) p.1)

-- tasks that start begin at the base of the first one or above
pub starts_above : (tasks : List NewTask) (size base : ℕ) → window_size tasks ≡ Ok size → base ≡ first_base tasks → All (λ task. base ≤ task.image.base) tasks
starts_above tasks size base h is =
    above_from base (first_base tasks) tasks (omega arith) (starts tasks size h).1.adjoin_is

-- the one machine once all are loaded
pub loaded_all : (tasks : List NewTask) (size : ℕ) (s t : Fm) → window_size tasks ≡ Ok size → s ≡ zeroed (first_base tasks) size
    → t ≡ record s { memory = with_tasks s.base tasks s.memory }
    → t ≡ record (zeroed (first_base tasks) size) { memory = flat_map (λ task. (machine_of task).memory) tasks }
loaded_all tasks size s t h begun filled =
    let p = starts tasks size h in
    let total : size ≡ total_size tasks = p.0 in
    let at : first_base tasks ≡ first_base tasks + 0 = omega arith in
    let zeros : length (replicate size 0) ≡ total_size tasks = length-replicate size 0 ∙ total in
    filled ∙ ap (λ (u : Fm). record u { memory = with_tasks u.base tasks u.memory }) begun
    ∙ ap (λ (m : List ℕ). record (zeroed (first_base tasks) size) { memory = m })
    (with_tasks_laid (first_base tasks) (first_base tasks) [] (replicate size 0) tasks at p.1.adjoin_is zeros)

-- what is made of them is what they start as
pub started_all : (tasks : List NewTask) (size : ℕ) (t : Fm) (contexts : List TaskContext) → window_size tasks ≡ Ok size
    → t ≡ record (zeroed (first_base tasks) size) { memory = flat_map (λ task. (machine_of task).memory) tasks } → contexts ≡ contexts_of tasks
    → started tasks ≡ Ok record { rounds = 0; base = t.base; memory = t.memory; contexts = contexts }
started_all tasks size t contexts h is are =
    let made : Fm → List TaskContext → Result TurnsOf TurnsFault = λ u xs. Ok record { rounds = 0; base = u.base; memory = u.memory; contexts = xs } in
    ap (λ (r : Result ℕ TurnsFault). started_in r tasks) h ∙ sym
    (ap (λ (u : Fm). made u contexts) is ∙ ap
    (made record (zeroed (first_base tasks) size) { memory = flat_map (λ task. (machine_of task).memory) tasks }) are)

pub starts_as_parts : (tasks : List NewTask) (size : ℕ) (t : Fm) (contexts : List TaskContext) → window_size tasks ≡ Ok size
    → t ≡ record (zeroed (first_base tasks) size) { memory = flat_map (λ task. (machine_of task).memory) tasks } → contexts ≡ contexts_of tasks
    → All (IsPart t.base (length t.memory)) (map (λ context. context.image) contexts)
starts_as_parts tasks size t contexts h is are =
    let p = starts tasks size h in
    let n = length-with_tasks_laid tasks in
    let parts : All (IsPart (first_base tasks) (length (flat_map (λ task. (machine_of task).memory) tasks)))
    (map (λ context. context.image) (contexts_of tasks))
    = parts_from (first_base tasks) (length (flat_map (λ task. (machine_of task).memory) tasks)) (first_base tasks) tasks (omega arith) (omega arith)
    p.1.adjoin_is in
    subst (λ (xs : List TaskContext). All (IsPart t.base (length t.memory)) (map (λ context. context.image) xs)) (sym are)
    (subst (λ (u : Fm). All (IsPart u.base (length u.memory)) (map (λ context. context.image) (contexts_of tasks))) (sym is) parts)

-- ---- tasks seen through a slice of them

pub size_known : {A : Type 0} (items slice : List A) (seen : A → NewTask) (size : ℕ) → Ok size ≡ window_size (map seen slice) → slice ≡ items
    → window_size (map seen items) ≡ Ok size
size_known {A} items slice seen size h same = ap (λ (xs : List A). window_size (map seen xs)) (sym same) ∙ sym h

-- tasks that have no window can't start
pub not_started : {A : Type 0} (refused : Type 0) (items slice : List A) (seen : A → NewTask) (fault : TurnsFault) → Err fault ≡ window_size (map seen slice)
    → slice ≡ items → fault_of fault ≡ Some fault → FailsUnless refused (fault_of fault) (started (map seen items))
not_started {A} refused items slice seen fault is same known =
    rw known (ap (λ (r : Result ℕ TurnsFault). started_in r (map seen items))
    (ap (λ (xs : List A). window_size (map seen xs)) (sym same) ∙ sym is))

pub base_known : {A : Type 0} (items slice : List A) (seen : A → NewTask) (base : ℕ) → base ≡ first_base (map seen slice) → slice ≡ items
    → base ≡ first_base (map seen items)
base_known {A} items slice seen base h same = h ∙ ap (λ (xs : List A). first_base (map seen xs)) same

pub window_known : {A : Type 0} (items slice other : List A) (seen : A → NewTask) (size base : ℕ)
    → is_refused (first_base (map seen slice)) size ≡ false → slice ≡ items → base ≡ first_base (map seen other) → other ≡ items
    → is_refused base size ≡ false
window_known {A} items slice other seen size base h same is again =
    let here : base ≡ first_base (map seen slice) = is ∙ ap (λ (xs : List A). first_base (map seen xs)) (again ∙ sym same) in
    ap (λ b. is_refused b size) here ∙ h

-- ---- counts at the start

at_start_within : (budget final_pc : ℕ) (s : Fm) → IsWithin budget (state_at_start final_pc s)
at_start_within budget final_pc s = by (slice_index s.registers 15 == final_pc)
  where
    by : (b : Bool) → IsWithin budget (if b then Ended 0 0 else Running 0)
    by true = tt
    by false = omega arith

begun_within : (budget : ℕ) (tasks : List NewTask) → AreWithin budget (contexts_of tasks)
begun_within budget [] = All-nil (λ context. IsWithin budget context.state)
begun_within budget (task ∷ others) =
    All-cons (λ context. IsWithin budget context.state) (context_of task.image (machine_of task)) (contexts_of others)
    (at_start_within budget task.image.final_pc (machine_of task)) (begun_within budget others)

-- no count is over any budget
pub contexts_begin_within : (budget : ℕ) (tasks : List NewTask) (contexts : List TaskContext) → contexts ≡ contexts_of tasks → AreWithin budget contexts
contexts_begin_within budget tasks contexts are = subst (AreWithin budget) (sym are) (begun_within budget tasks)

-- the images are those that were given
pub images_begin : {A : Type 0} (items : List A) (seen : A → NewTask) (contexts : List TaskContext) → contexts ≡ contexts_of (map seen items)
    → map (λ context. context.image) contexts ≡ map (λ x. (seen x).image) items
images_begin {A} items seen contexts are = ap (λ (xs : List TaskContext). map (λ context. context.image) xs) are ∙ begun items
  where
    begun : (xs : List A) → map (λ context. context.image) (contexts_of (map seen xs)) ≡ map (λ x. (seen x).image) xs
    begun [] = refl
    begun (x ∷ xs) = ap (λ (images : List ImageOf). (seen x).image ∷ images) (begun xs)
