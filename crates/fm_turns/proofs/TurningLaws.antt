-- Turns one after the other, and what they keep.
use Rattle.std.proofs.Common.{◌≡◌, ℕ, suc, Bool, true, false, if◌then◌else◌, eqb, ◌+◌, ◌<◌, ◌≤◌, List, [], ◌∷◌, ◌++◌, length, take, drop, get_or, map, refl}
use Rattle.std.{proofs.Common.{sym, ap, subst, ◌∙◌, arith, append_assoc}, specs.Prelude.All, proofs.Math.ListN.set, proofs.lemmas.List.{drop_more, drop-set-lt}}
use Rattle.std.{proofs.lemmas.List.{length-drop, drop_all, take_all, append-nil}, proofs.lemmas.List.Elements.{All-cons, All-nil, All-head, All-tail}}
use Rattle.std.{proofs.lemmas.Grind.drop_more_same, proofs.Math.Seq.take-suc-set}
use Rattle.fm_words.specs.declared.condition.Flags.{Flags}
use Rattle.fm_machine.{specs.Outcome.outcome, specs.declared.processor.Run.Run}
use Rattle.fm_machine.specs.declared.processor.Run.TheVariants as run
use Rattle.fm_image.specs.Image.{ImageOf}
use Rattle.fm_turns.{specs.declared.task.Task.Task, specs.declared.task.Task.TheVariants.{Running, Ended, Spent, Outside}}
use Rattle.fm_turns.{specs.declared.context.TaskContext.TaskContext, specs.declared.round.Round.Round, specs.Turns.{machine_at_turn, turn_length}}
use Rattle.fm_turns.specs.Turns.{running_or_spent, state_after, AfterTurn, after_turn_in, after_turn, AfterTurns, in_front, after_turns, IsWithin, AreWithin}
use Rattle.fm_turns.{specs.Turns.{IsPart, IsOver, OverIsOver}, proofs.OutcomeLaws.outcome_kept}

-- ---- a loop over the tasks

-- tasks that are left are those that were there
pub left_within : (budget n : ℕ) (items before : List TaskContext) (or : TaskContext) → n < length items → drop n items ≡ drop n before
    → AreWithin budget before → IsWithin budget (get_or items n or).state
left_within budget n items before or lt left within =
    let a = length-drop n items in
    let b = length-drop n before in
    let lt' : n < length before = omega (arith, ap length left) in
    let same : get_or items n or ∷ drop (n + 1) items ≡ get_or before n or ∷ drop (n + 1) before =
    sym (drop_more items n or lt) ∙ left ∙ drop_more before n or lt' in
    let is : get_or items n or ≡ get_or before n or = cc in
    subst (λ (context : TaskContext). IsWithin budget context.state) (sym is) (within n or lt')

-- what is left once a task has had its turn, and what is done then
pub record SoFar (round : Round) (base n : ℕ) (items before : List TaskContext) (memory : List ℕ) (all : AfterTurns) : Type 0 where
  pub left : drop n items ≡ drop n before
  pub memory_is : (after_turns round base memory (drop n items)).memory ≡ all.memory
  pub contexts : take n items ++ (after_turns round base memory (drop n items)).contexts ≡ all.contexts

pub turns_next : (round : Round) (base n : ℕ) (items before : List TaskContext) (or new : TaskContext) (memory after : List ℕ) (all : AfterTurns)
    → n < length items → SoFar round base n items before memory all
    → after ≡ (after_turn round base memory (get_or items n or)).memory → new ≡ (after_turn round base memory (get_or items n or)).context
    → SoFar round base (n + 1) (set items n new) before after all
unfolding after_turns
turns_next round base n items before or new memory after all lt h memory_is context_is =
    let context : TaskContext = get_or items n or in
    let turn : AfterTurn = after_turn round base memory context in
    let front = drop_more items n or lt in
    let rest : drop (n + 1) (set items n new) ≡ drop (n + 1) items = drop-set-lt (n + 1) items n new (omega arith) in
    let one : n + 1 ≡ suc n = omega arith in
    let done : take (n + 1) (set items n new) ≡ take n items ++ new ∷ [] = ap (λ k. take k (set items n new)) one ∙ take-suc-set items n new lt in
    let now : after_turns round base memory (drop n items) ≡ in_front turn.context (after_turns round base turn.memory (drop (n + 1) items)) =
    ap (after_turns round base memory) front in
    let after_is : after_turns round base after (drop (n + 1) (set items n new)) ≡ after_turns round base turn.memory (drop (n + 1) items) =
    ap (after_turns round base after) rest ∙ ap (λ (m : List ℕ). after_turns round base m (drop (n + 1) items)) memory_is in
    let rest_left : drop (n + 1) items ≡ drop (n + 1) before = drop_more_same items before n h.left in
    record {
      left = rest ∙ rest_left;
      memory_is = ap (λ (t : AfterTurns). t.memory) after_is ∙ sym (ap (λ (t : AfterTurns). t.memory) now) ∙ h.memory_is;
      contexts = ap (λ (xs : List TaskContext). xs ++ (after_turns round base after (drop (n + 1) (set items n new))).contexts) done
          ∙ ap (λ (t : AfterTurns). (take n items ++ new ∷ []) ++ t.contexts) after_is
          ∙ append_assoc (take n items) (new ∷ []) (after_turns round base turn.memory (drop (n + 1) items)).contexts
          ∙ ap (λ (x : TaskContext). take n items ++ x ∷ (after_turns round base turn.memory (drop (n + 1) items)).contexts) context_is
          ∙ sym (ap (λ (t : AfterTurns). take n items ++ t.contexts) now) ∙ h.contexts;
    }

-- once no task is left
pub turns_all : (round : Round) (base n : ℕ) (items before : List TaskContext) (memory : List ℕ) (all : AfterTurns) → length items ≤ n
    → SoFar round base n items before memory all → (memory ≡ all.memory) × (items ≡ all.contexts)
unfolding after_turns
turns_all round base n items before memory all le h =
    let none : drop n items ≡ [] = drop_all n items le in
    let nothing : after_turns round base memory (drop n items) ≡ after_turns round base memory [] = ap (after_turns round base memory) none in (
      sym (ap (λ (t : AfterTurns). t.memory) nothing) ∙ h.memory_is,
      sym (ap (λ (xs : List TaskContext). xs ++ (after_turns round base memory (drop n items)).contexts) (take_all n items le)
          ∙ ap (λ (t : AfterTurns). items ++ t.contexts) nothing ∙ append-nil items) ∙ h.contexts,
    )

-- ---- what turns keep

length-after_turn : (round : Round) (base : ℕ) (memory : List ℕ) (context : TaskContext) (state : Task)
    → length (after_turn_in round base memory context state).memory ≡ length memory
length-after_turn round base memory context (Running count) =
    (outcome_kept (turn_length round count) context.image.final_pc (machine_at_turn base memory context)).memory
length-after_turn round base memory context (Ended count number) = refl
length-after_turn round base memory context (Spent count number) = refl
length-after_turn round base memory context (Outside address count number) = refl

image-after_turn : (round : Round) (base : ℕ) (memory : List ℕ) (context : TaskContext) (state : Task)
    → (after_turn_in round base memory context state).context.image ≡ context.image
image-after_turn round base memory context (Running count) = refl
image-after_turn round base memory context (Ended count number) = refl
image-after_turn round base memory context (Spent count number) = refl
image-after_turn round base memory context (Outside address count number) = refl

pub length-after_turns : (round : Round) (base : ℕ) (memory : List ℕ) (contexts : List TaskContext)
    → length (after_turns round base memory contexts).memory ≡ length memory
unfolding after_turns
length-after_turns round base memory [] = refl
length-after_turns round base memory (context ∷ contexts) =
    length-after_turns round base (after_turn round base memory context).memory contexts ∙ length-after_turn round base memory context context.state

pub images-after_turns : (round : Round) (base : ℕ) (memory : List ℕ) (contexts : List TaskContext)
    → map (λ context. context.image) (after_turns round base memory contexts).contexts ≡ map (λ context. context.image) contexts
unfolding after_turns
images-after_turns round base memory [] = refl
images-after_turns round base memory (context ∷ contexts) =
    ap (λ (image : ImageOf). image ∷ map (λ context. context.image)
    (after_turns round base (after_turn round base memory context).memory contexts).contexts)
    (image-after_turn round base memory context context.state)
    ∙ ap (λ (images : List ImageOf). context.image ∷ images) (images-after_turns round base (after_turn round base memory context).memory contexts)

-- windows that are parts of the window of all are so after the turns of all
pub parts_kept : (round : Round) (base base' : ℕ) (memory memory' : List ℕ) (contexts items : List TaskContext) → base' ≡ base
    → memory' ≡ (after_turns round base memory contexts).memory → items ≡ (after_turns round base memory contexts).contexts
    → All (IsPart base (length memory)) (map (λ context. context.image) contexts) → All (IsPart base' (length memory')) (map (λ context. context.image) items)
parts_kept round base base' memory memory' contexts items base_is memory_is items_are parts =
    let images : map (λ context. context.image) items ≡ map (λ context. context.image) contexts =
    ap (λ (xs : List TaskContext). map (λ context. context.image) xs) items_are ∙ images-after_turns round base memory contexts in
    let size : length memory' ≡ length memory = ap length memory_is ∙ length-after_turns round base memory contexts in
    subst (λ (xs : List ImageOf). All (IsPart base' (length memory')) xs) (sym images)
    (subst (λ n. All (IsPart base' n) (map (λ context. context.image) contexts)) (sym size)
    (subst (λ b. All (IsPart b (length memory)) (map (λ context. context.image) contexts)) (sym base_is) parts))

-- a slice of all items that was written is the items now
pub written_back : (len : ℕ) (new items : List TaskContext) → len ≡ length items → length new ≡ length items → take len (new ++ drop (length new) items) ≡ new
written_back len new items is same =
    let none : drop (length new) items ≡ [] = drop_all (length new) items (omega arith) in
    ap (λ (xs : List TaskContext). take len (new ++ xs)) none ∙ ap (take len) (append-nil new) ∙ take_all len new (omega arith)

-- ---- a task that does not run

no_turn : (round : Round) (base : ℕ) (memory : List ℕ) (context : TaskContext) (state : Task) → IsOver state → let left : AfterTurn =
    record { memory = memory; context = context } in after_turn_in round base memory context state ≡ left
no_turn round base memory context (Running count) h = absurd h
no_turn round base memory context (Ended count number) h = refl
no_turn round base memory context (Spent count number) h = refl
no_turn round base memory context (Outside address count number) h = refl

-- its turns change nothing
pub over_is_over : OverIsOver
over_is_over round base memory context h = no_turn round base memory context context.state h

-- ---- counts within the budget

running_or_spent_within : (round : Round) (count : ℕ) → count ≤ round.budget → IsWithin round.budget (running_or_spent round count)
running_or_spent_within round count le = by (eqb count round.budget)
  where
    by : (b : Bool) → IsWithin round.budget (if b then Spent count round.number else Running count)
    by true = tt
    by false = le

state_after_within : (round : Round) (count : ℕ) (r : Run) → count ≤ round.budget → IsWithin round.budget (state_after round count r)
state_after_within round count (run.Ended made) le = tt
state_after_within round count run.Spent le = running_or_spent_within round (count + turn_length round count) (omega arith)
state_after_within round count (run.Outside address made) le = tt

turn_within : (round : Round) (base : ℕ) (memory : List ℕ) (image : ImageOf) (registers : List ℕ) (flags : Flags) (state : Task) → IsWithin round.budget state
    → let context : TaskContext = record { image = image; registers = registers; flags = flags; state = state } in
    IsWithin round.budget (after_turn_in round base memory context state).context.state
turn_within round base memory image registers flags (Running count) le =
    state_after_within round count (outcome (turn_length round count) image.final_pc
    record { base = base; registers = registers; flags = flags; memory = memory }).run le
turn_within round base memory image registers flags (Ended count number) le = tt
turn_within round base memory image registers flags (Spent count number) le = tt
turn_within round base memory image registers flags (Outside address count number) le = tt

-- after the turns of all no count is over the budget
pub turns_within : (round : Round) (base : ℕ) (memory : List ℕ) (contexts : List TaskContext) → AreWithin round.budget contexts
    → AreWithin round.budget (after_turns round base memory contexts).contexts
unfolding after_turns
turns_within round base memory [] h = All-nil (λ context. IsWithin round.budget context.state)
turns_within round base memory (context ∷ contexts) h =
    All-cons (λ context. IsWithin round.budget context.state) (after_turn round base memory context).context
    (after_turns round base (after_turn round base memory context).memory contexts).contexts
    (turn_within round base memory context.image context.registers context.flags context.state
    (All-head (λ context. IsWithin round.budget context.state) context contexts h))
    (turns_within round base (after_turn round base memory context).memory contexts
    (All-tail (λ context. IsWithin round.budget context.state) context contexts h))
