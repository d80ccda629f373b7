-- The memory of a machine as it is loaded, and tasks loaded side by side.
use Rattle.std.proofs.Common.{◌≡◌, ℕ, ◌+◌, ◌-◌, ◌≤◌, ℤ, List, [], ◌∷◌, ◌++◌, length, take, drop, true, eqb, refl, sym, ap, ◌∙◌, arith, append_assoc}
use Rattle.std.{proofs.Common.length-append, specs.Prelude.{flat_map, replicate, slice_set}, proofs.lemmas.Bool.{and_parts, eqb-true}}
use Rattle.std.{proofs.lemmas.List.{length-replicate, length-drop, append-nil, take_all, drop_all}, proofs.Math.Seq.set-append_seam}
use Rattle.std.proofs.lemmas.List.Sums.{sum_by-cons}
use Rattle.stack_text.specs.Values.{ValueOf}
use Rattle.fm_words.specs.Word.{word_of_int}
use Rattle.fm_machine.{specs.State.{Fm, with_word}, proofs.WindowLaws.length-with_word}
use Rattle.fm_image.specs.declared.slot.Slot.{Slot}
use Rattle.fm_loader.specs.Loaded.{with_words, with_items, with_values}
use Rattle.fm_turns.{specs.Windows.words_in, specs.Starting.{NewTask, machine_of, adjoin_from, total_size, with_tasks}}

-- ---- how many words a loaded machine has

length-with_words : (base a : ℕ) (words memory : List ℕ) → length (with_words base a words memory) ≡ length memory
length-with_words base a [] memory = refl
length-with_words base a (word ∷ words) memory =
    length-with_words base (a + 1) words (with_word base memory a word) ∙ length-with_word base memory a word

length-with_items : (base a : ℕ) (items : List ℤ) (memory : List ℕ) → length (with_items base a items memory) ≡ length memory
length-with_items base a [] memory = refl
length-with_items base a (item ∷ items) memory =
    length-with_items base (a - 1) items (with_word base memory a (word_of_int item)) ∙ length-with_word base memory a (word_of_int item)

length-with_values : (base : ℕ) (slots : List Slot) (values : List ValueOf) (memory : List ℕ) → length (with_values base slots values memory) ≡ length memory
length-with_values base [] values memory = refl
length-with_values base (slot ∷ slots) [] memory = refl
length-with_values base (slot ∷ slots) (value ∷ values) memory =
    length-with_values base slots values (with_items base slot.address value.items memory) ∙ length-with_items base slot.address value.items memory

-- a loaded machine has the window of its image
pub loaded_size : (task : NewTask) → length (machine_of task).memory ≡ task.image.size
loaded_size task =
    length-with_values task.image.base task.image.slots task.values (with_words task.image.base task.image.base task.image.words (replicate task.image.size 0))
    ∙ length-with_words task.image.base task.image.base task.image.words (replicate task.image.size 0) ∙ length-replicate task.image.size 0

-- the words of its window are all that it has
pub loaded_words : (task : NewTask) → words_in task.image.base task.image.size (machine_of task) ≡ (machine_of task).memory
loaded_words task =
    let none : task.image.base - task.image.base ≡ 0 = omega arith in
    ap (λ k. take task.image.size (drop k (machine_of task).memory)) none ∙ take_all task.image.size (machine_of task).memory (omega (arith, loaded_size task))

-- ---- words stored in a row

stored_one : (base a word old : ℕ) (before memory : List ℕ) → a ≡ base + length before
    → with_word base (before ++ old ∷ memory) a word ≡ before ++ word ∷ memory
unfolding with_word
stored_one base a word old before memory at =
    let place : a - base ≡ length before = omega arith in
    ap (λ k. slice_set (before ++ old ∷ memory) k word) place ∙ set-append_seam before old memory word

-- words stored behind the words before them take the place of as many
stored_behind : (base a : ℕ) (before words memory : List ℕ) → a ≡ base + length before → length words ≤ length memory
    → with_words base a words (before ++ memory) ≡ before ++ (words ++ drop (length words) memory)
stored_behind base a before [] memory at fit = refl
stored_behind base a before (word ∷ words) [] at fit = absurd (omega arith)
stored_behind base a before (word ∷ words) (old ∷ memory) at fit =
    let longer = length-append before (word ∷ []) in
    ap (with_words base (a + 1) words) (stored_one base a word old before memory at)
    ∙ ap (with_words base (a + 1) words) (sym (append_assoc before (word ∷ []) memory))
    ∙ stored_behind base (a + 1) (before ++ word ∷ []) words memory (omega arith) (omega arith)
    ∙ append_assoc before (word ∷ []) (words ++ drop (length words) memory)

-- words stored in a window of as many
pub stored_whole : (base : ℕ) (words memory : List ℕ) → length words ≡ length memory → with_words base base words memory ≡ words
stored_whole base words memory size =
    let at : base ≡ base + 0 = omega arith in
    let none : drop (length words) memory ≡ [] = drop_all (length words) memory (omega arith) in
    stored_behind base base [] words memory at (omega arith) ∙ ap (λ (m : List ℕ). words ++ m) none ∙ append-nil words

-- ---- tasks loaded side by side

-- the rest of the window of all, filled by the tasks that are left
pub with_tasks_laid : (base from : ℕ) (before rest : List ℕ) (tasks : List NewTask) → from ≡ base + length before → adjoin_from from tasks ≡ true
    → length rest ≡ total_size tasks
    → with_tasks base tasks (before ++ rest) ≡ before ++ flat_map (λ task. (machine_of task).memory) tasks
with_tasks_laid base from before [] [] at adjoin size = refl
with_tasks_laid base from before (x ∷ rest) [] at adjoin size = absurd (omega arith)
with_tasks_laid base from before rest (task ∷ others) at adjoin size =
    let p = and_parts (eqb task.image.base from) (adjoin_from (from + task.image.size) others) adjoin in
    let here : task.image.base ≡ from = eqb-true task.image.base from p.0 in
    let own : List ℕ = (machine_of task).memory in
    let n : length own ≡ task.image.size = loaded_size task in
    let whole : total_size (task ∷ others) ≡ task.image.size + total_size others = sum_by-cons (λ task. task.image.size) task others in
    let left = length-drop (length own) rest in
    let longer = length-append before own in
    ap (with_tasks base others) (stored_behind base task.image.base before own rest (omega arith) (omega arith)
    ∙ sym (append_assoc before own (drop (length own) rest)))
    ∙ with_tasks_laid base (from + task.image.size) (before ++ own) (drop (length own) rest) others (omega arith) p.1 (omega arith)
    ∙ append_assoc before own (flat_map (λ task. (machine_of task).memory) others)

-- the words of all fill the window of all
pub length-with_tasks_laid : (tasks : List NewTask) → length (flat_map (λ task. (machine_of task).memory) tasks) ≡ total_size tasks
length-with_tasks_laid [] = refl
length-with_tasks_laid (task ∷ others) =
    let whole : total_size (task ∷ others) ≡ task.image.size + total_size others = sum_by-cons (λ task. task.image.size) task others in
    let rest = length-with_tasks_laid others in
    omega (arith, loaded_size task, length-append (machine_of task).memory (flat_map (λ task. (machine_of task).memory) others))

-- the words of a task's own machine, copied into a machine
pub context_copied : (task : NewTask) (base size : ℕ) (own s t : Fm) → base ≡ task.image.base → size ≡ task.image.size → own ≡ machine_of task
    → t ≡ record s { memory = with_words s.base base (words_in base size own) s.memory }
    → t ≡ record s { memory = with_words s.base task.image.base (machine_of task).memory s.memory }
context_copied task base size own s t base_is size_is own_is copied =
    copied ∙ ap (λ b. record s { memory = with_words s.base b (words_in b size own) s.memory }) base_is
    ∙ ap (λ n. record s { memory = with_words s.base task.image.base (words_in task.image.base n own) s.memory }) size_is
    ∙ ap (λ (o : Fm). record s { memory = with_words s.base task.image.base (words_in task.image.base task.image.size o) s.memory }) own_is
    ∙ ap (λ (ws : List ℕ). record s { memory = with_words s.base task.image.base ws s.memory }) (loaded_words task)
