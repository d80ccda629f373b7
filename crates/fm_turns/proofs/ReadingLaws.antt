-- What is read of a task's own window.
use Rattle.std.proofs.Common.{◌≡◌, ℕ, zero, suc, ◌+◌, ◌-◌, ◌<◌, ◌≤◌, List, [], ◌∷◌, length, take, drop, get_or, map, replicate, Some, refl, sym, ap, subst, ◌∙◌}
use Rattle.std.{proofs.Common.arith, specs.Prelude.{All, slice_get, Result, Ok, Err}, specs.Option.option_map, proofs.lemmas.List.length-replicate}
use Rattle.std.{proofs.lemmas.List.length-map, proofs.lemmas.Option.{slice_get-map, slice_get-get_or}}
use Rattle.stack_heap.specs.Heaps.{IfOkUnless}
use Rattle.fm_words.specs.declared.condition.Flags.{Flags}
use Rattle.fm_machine.specs.State.{Fm, zeroed}
use Rattle.fm_image.{specs.declared.slot.Slot.Slot, specs.Image.ImageOf}
use Rattle.stack_text.specs.Values.{item_count}
use Rattle.fm_loader.specs.Loaded.{with_words}
use Rattle.display_maps.{specs.Reading.{ReadingOf, word_or_zero, item_of, words_down, variable_of, reading}, specs.declared.shown.Shown.Shown}
use Rattle.fm_turns.{specs.declared.context.TaskContext.TaskContext, specs.Windows.words_in, specs.Turns.{TurnsOf, IsPart}, specs.OwnMachines.own_machine}
use Rattle.fm_turns.{specs.Readings.readings_of, proofs.CopyLaws.length-words_in, proofs.LoadedLaws.stored_whole}

-- what is so of a result gives what follows from it
pub unless_weaker : {X E : Type 0} (refused : Type 0) (result : Result X E) (P Q : X → Type 0) → ((x : X) → P x → Q x) → IfOkUnless refused result P
    → IfOkUnless refused result Q
unless_weaker refused (Ok x) P Q follows is = follows x is
unless_weaker refused (Err e) P Q follows is = is

-- ---- memory alone is read

module _ (base : ℕ) (memory : List ℕ) (rs rs' : List ℕ) (flags flags' : Flags) where
  words_same : (address n : ℕ) → words_down record { base = base; registers = rs; flags = flags; memory = memory } address n
      ≡ words_down record { base = base; registers = rs'; flags = flags'; memory = memory } address n
  words_same address zero = refl
  words_same address (suc n) = ap (λ (ws : List ℕ). word_or_zero record { base = base; registers = rs; flags = flags; memory = memory } address ∷ ws)
      (words_same (address - 1) n)

  variables_same : (slots : List Slot) → map (variable_of record { base = base; registers = rs; flags = flags; memory = memory }) slots
      ≡ map (variable_of record { base = base; registers = rs'; flags = flags'; memory = memory }) slots
  variables_same [] = refl
  variables_same (slot ∷ slots) =
      ap (λ (ws : List ℕ). (slot.name, map (item_of slot.shape.kind) ws) ∷ map
      (variable_of record { base = base; registers = rs; flags = flags; memory = memory }) slots) (words_same slot.address (item_count slot.shape))
      ∙ ap (λ (vs : List (List ℕ × List Shown)). variable_of record { base = base; registers = rs'; flags = flags'; memory = memory } slot ∷ vs)
      (variables_same slots)

  -- the registers and flags say nothing
  pub reading_same : (image : ImageOf) → reading image record { base = base; registers = rs; flags = flags; memory = memory }
      ≡ reading image record { base = base; registers = rs'; flags = flags'; memory = memory }
  reading_same image = ap (λ (vs : List (List ℕ × List Shown)).
      record (reading image record { base = base; registers = rs; flags = flags; memory = memory }) { items = vs }) (variables_same image.slots)

-- ---- a window copied into a machine of its own

pub copied_own : (base size : ℕ) (from s t : Fm) → from.base ≤ base → base + size ≤ from.base + length from.memory → s ≡ zeroed base size
    → t ≡ record s { memory = with_words s.base base (words_in base size from) s.memory }
    → t ≡ record (zeroed base size) { memory = words_in base size from }
copied_own base size from s t below above begun copied =
    let all : length (words_in base size from) ≡ length (replicate size 0) = length-words_in base size from below above ∙ sym (length-replicate size 0) in
    copied ∙ ap (λ (u : Fm). record u { memory = with_words u.base base (words_in base size from) u.memory }) begun
    ∙ ap (λ (m : List ℕ). record (zeroed base size) { memory = m }) (stored_whole base (words_in base size from) (replicate size 0) all)

-- ---- the task of a number

get_or-map : (xs : List TaskContext) (i : ℕ) (or : TaskContext) → get_or (map (λ context. context.image) xs) i or.image ≡ (get_or xs i or).image
get_or-map [] i or = refl
get_or-map (x ∷ xs) zero or = refl
get_or-map (x ∷ xs) (suc i) or = get_or-map xs i or

-- its window is a part of that of all
pub part_at : (base size i : ℕ) (slice items : List TaskContext) (context : TaskContext) → slice ≡ items → i < length slice
    → context ≡ get_or slice i context → All (IsPart base size) (map (λ context. context.image) items) → IsPart base size context.image
part_at base size i slice items context same lt is parts =
    let here : All (IsPart base size) (map (λ context. context.image) slice) =
    subst (λ (xs : List TaskContext). All (IsPart base size) (map (λ context. context.image) xs)) (sym same) parts in
    let lt' : i < length (map (λ context. context.image) slice) = omega (arith, length-map slice (λ context. context.image)) in
    let image : get_or (map (λ context. context.image) slice) i context.image ≡ context.image =
    get_or-map slice i context ∙ ap (λ (x : TaskContext). x.image) (sym is) in
    subst (IsPart base size) image (here i context.image lt')

-- what is read of its window is its reading
pub read_at : (turns : TurnsOf) (s : Fm) (slice : List TaskContext) (i : ℕ) (context : TaskContext) → s.base ≡ turns.base → s.memory ≡ turns.memory
    → slice ≡ turns.contexts → i < length slice → context ≡ get_or slice i context
    → (read : ReadingOf) → read ≡ reading context.image
    (record (zeroed context.image.base context.image.size) { memory = words_in context.image.base context.image.size s })
    → slice_get (readings_of turns) i ≡ Some read
read_at turns s slice i context base_is memory_is same lt is read e =
    let own : TaskContext → ReadingOf = λ x. reading x.image (own_machine turns x) in
    let words : words_in context.image.base context.image.size s ≡ take context.image.size (drop (context.image.base - turns.base) turns.memory)
    = ap (λ k. take context.image.size (drop (context.image.base - k) s.memory)) base_is
    ∙ ap (λ (m : List ℕ). take context.image.size (drop (context.image.base - turns.base) m)) memory_is in
    let zeros : Fm = zeroed context.image.base context.image.size in
    let is_own : read ≡ own context = e ∙ ap (λ (m : List ℕ). reading context.image (record zeros { memory = m })) words
    ∙ reading_same context.image.base (take context.image.size (drop (context.image.base - turns.base) turns.memory)) zeros.registers context.registers
    zeros.flags context.flags context.image in
    ap (λ (xs : List TaskContext). slice_get (map own xs) i) (sym same) ∙ slice_get-map own slice i
    ∙ ap (option_map own) (slice_get-get_or slice i context lt) ∙ ap (λ (x : TaskContext). Some (own x)) (sym is)
    ∙ ap (λ (r : ReadingOf). Some r) (sym is_own)
