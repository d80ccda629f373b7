-- The loops of `turns`: over sources, images, rounds and tasks.
use Rattle.std.proofs.Common.{◌≡◌, ◌<◌, ◌+◌, ◌++◌, ℕ, List, [], ◌∷◌, length, map, drop, get_or, replicate, Some, Result, Ok, Err, Bool, true, false, ◌&&◌, refl}
use Rattle.std.{proofs.Common.{sym, ap, ◌∙◌, arith, append_assoc}, specs.Prelude.{slice_get, slice_index_or}, specs.List.list_all}
use Rattle.std.{proofs.lemmas.Grind.replicate_next, proofs.lemmas.List.drop_more, proofs.lemmas.Option.{slice_get-get_or, same_Some}}
use Rattle.stack_text.{specs.Results.◌>>=◌, specs.Values.ValueOf, proofs.ResultLoops.{with_front, with_front-with_front}}
use Rattle.fm_image.specs.Image.{ImageOf}
use Rattle.fm_loader.specs.Values.{values_in}
use Rattle.fm_turns.{specs.declared.context.TaskContext.TaskContext, specs.Starting.{NewTask, new_task}, specs.Turns.{TurnsOf, round_of, rounds_of}}
use Rattle.gypsy_space.specs.Needs.{StackSizes}
use Rattle.stack_build.specs.Build.{built}
use Rattle.stack_commands.{specs.declared.turns.tasks.TasksFault.TasksFault, specs.Internal.Told.{told_of, told_from}, specs.Commands.Turns.image_or_fault}
use Rattle.stack_commands.specs.Commands.Turns.{images_from, values_or_fault, tasks_from}

-- 1. Lists of results.

module _ {X F : Type 0} where
  in_front : (x : X) (rest : Result (List X) F) → (rest >>= λ others. Ok (x ∷ others)) ≡ with_front (x ∷ []) rest
  in_front x (Ok xs) = refl
  in_front x (Err fault) = refl

  -- one more is there
  pub one_more : (xs new : List X) (x : X) (rest all : Result (List X) F) → new ≡ xs ++ x ∷ []
      → with_front xs (rest >>= λ others. Ok (x ∷ others)) ≡ all → with_front new rest ≡ all
  one_more xs new x rest all is so_far =
      ap (λ (ys : List X). with_front ys rest) is ∙ sym (with_front-with_front xs (x ∷ []) rest) ∙ ap (with_front xs) (sym (in_front x rest)) ∙ so_far

-- 2. Sources, each built behind the one before.

module _ (sizes : StackSizes) {A : Type 0} (seen : A → List ℕ) (sources : List A) (i base : ℕ) (d : A) (lt : i < length sources) where
  source_next : images_from sizes i base (map seen (drop i sources))
      ≡ (image_or_fault i (built (seen (get_or sources i d)) sizes.ctrl sizes.temp base)
      >>= λ image. images_from sizes (i + 1) (base + image.size) (map seen (drop (i + 1) sources)) >>= λ others. Ok (image ∷ others))
  source_next = ap (λ (xs : List A). images_from sizes i base (map seen xs)) (drop_more sources i d lt)

  pub next_built : (images new : List ImageOf) (image : ImageOf) (next : ℕ) (all : Result (List ImageOf) TasksFault)
      → image_or_fault i (built (seen (get_or sources i d)) sizes.ctrl sizes.temp base) ≡ Ok image
      → next ≡ base + image.size → new ≡ images ++ image ∷ [] → with_front images (images_from sizes i base (map seen (drop i sources))) ≡ all
      → with_front new (images_from sizes (i + 1) next (map seen (drop (i + 1) sources))) ≡ all
  next_built images new image next all found behind more so_far =
      ap (λ b. with_front new (images_from sizes (i + 1) b (map seen (drop (i + 1) sources)))) behind
      ∙ one_more images new image (images_from sizes (i + 1) (base + image.size) (map seen (drop (i + 1) sources))) all more
      (ap (with_front images) (sym (source_next ∙ ap
      (λ (r : Result ImageOf TasksFault). r >>= λ image. images_from sizes (i + 1) (base + image.size) (map seen (drop (i + 1) sources))
      >>= λ others. Ok (image ∷ others)) found)) ∙ so_far)

-- 3. Images, each with the values of its number.

module _ (texts : List (List ℕ)) (i : ℕ) (image : ImageOf) (images rest : List ImageOf) (is : images ≡ image ∷ rest) where
  image_next : tasks_from texts i images ≡ (values_or_fault i (values_in image.slots (slice_index_or texts i []))
      >>= λ values. tasks_from texts (i + 1) rest >>= λ others. Ok (new_task image values ∷ others))
  image_next = ap (tasks_from texts i) is

  pub next_read : (tasks new : List NewTask) (values : List ValueOf) (all : Result (List NewTask) TasksFault)
      → values_or_fault i (values_in image.slots (slice_index_or texts i [])) ≡ Ok values
      → new ≡ tasks ++ new_task image values ∷ [] → with_front tasks (tasks_from texts i images) ≡ all → with_front new (tasks_from texts (i + 1) rest) ≡ all
  next_read tasks new values all found more so_far =
      one_more tasks new (new_task image values) (tasks_from texts (i + 1) rest) all more
      (ap (with_front tasks) (sym (image_next ∙ ap
      (λ (r : Result (List ValueOf) TasksFault). r >>= λ values. tasks_from texts (i + 1) rest
      >>= λ others. Ok (new_task image values ∷ others)) found)) ∙ so_far)

-- 4. Rounds.

rounds_push : (budget turn : ℕ) (lengths : List ℕ) (turns : TurnsOf) → rounds_of budget (lengths ++ turn ∷ []) turns
    ≡ round_of turn budget (rounds_of budget lengths turns)
rounds_push budget turn [] turns = refl
rounds_push budget turn (l ∷ lengths) turns = rounds_push budget turn lengths (round_of l budget turns)

-- one more round was made
pub round_more : (budget turn made : ℕ) (before now next : TurnsOf) → now ≡ rounds_of budget (replicate made turn) before
    → next ≡ round_of turn budget now → next ≡ rounds_of budget (replicate (made + 1) turn) before
round_more budget turn made before now next so_far is =
    is ∙ ap (round_of turn budget) so_far ∙ sym (rounds_push budget turn (replicate made turn) before)
    ∙ ap (λ (ls : List ℕ). rounds_of budget ls before) (sym (replicate_next made turn))

-- 5. Tasks, one after the other.

-- the task of a number is there, and the others follow it
pub task_there : {X : Type 0} (xs : List X) (i : ℕ) → i < length xs → (x : X) × (slice_get xs i ≡ Some x) × (drop i xs ≡ x ∷ drop (i + 1) xs)
task_there [] i lt = absurd (omega arith)
task_there (x ∷ xs) i lt = (get_or (x ∷ xs) i x, slice_get-get_or (x ∷ xs) i x lt, drop_more (x ∷ xs) i x lt)

pub next_told : (budget : ℕ) (turns : TurnsOf) (i : ℕ) (old new text : List ℕ) → i < length turns.contexts
    → ((context : TaskContext) → slice_get turns.contexts i ≡ Some context → text ≡ told_of budget turns i context) → new ≡ old ++ text
    → old ++ told_from budget turns i (drop i turns.contexts) ≡ told_from budget turns 0 turns.contexts
    → new ++ told_from budget turns (i + 1) (drop (i + 1) turns.contexts) ≡ told_from budget turns 0 turns.contexts
next_told budget turns i old new text lt says more so_far =
    let t = task_there turns.contexts i lt in
    let rest : List ℕ = told_from budget turns (i + 1) (drop (i + 1) turns.contexts) in
    ap (λ (ys : List ℕ). ys ++ rest) (more ∙ ap (λ (ys : List ℕ). old ++ ys) (says t.0 t.1)) ∙ append_assoc old (told_of budget turns i t.0) rest
    ∙ ap (λ (cs : List TaskContext). old ++ told_from budget turns i cs) (sym t.2) ∙ so_far

-- a test of all elements, where the first ones pass
pub test_more : {X : Type 0} (p : X → Bool) (xs : List X) (i : ℕ) (x : X) → slice_get xs i ≡ Some x → i < length xs → p x ≡ true
    → list_all p (drop i xs) ≡ list_all p xs → list_all p (drop (i + 1) xs) ≡ list_all p xs
test_more {X} p xs i x there lt passes so_far =
    let t = task_there xs i lt in
    let both : Some t.0 ≡ Some x = sym t.1 ∙ there in
    let same : t.0 ≡ x = same_Some t.0 x both in
    sym (ap (λ (b : Bool). b && list_all p (drop (i + 1) xs)) (ap p same ∙ passes)) ∙ ap (list_all p) (sym t.2) ∙ so_far

pub test_fails : {X : Type 0} (p : X → Bool) (xs : List X) (i : ℕ) (x : X) → slice_get xs i ≡ Some x → i < length xs → p x ≡ false
    → list_all p (drop i xs) ≡ list_all p xs → list_all p xs ≡ false
test_fails {X} p xs i x there lt fails so_far =
    let t = task_there xs i lt in
    let both : Some t.0 ≡ Some x = sym t.1 ∙ there in
    let same : t.0 ≡ x = same_Some t.0 x both in
    sym so_far ∙ ap (list_all p) t.2 ∙ ap (λ (b : Bool). b && list_all p (drop (i + 1) xs)) (ap p same ∙ fails)
