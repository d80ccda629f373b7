-- Every moment of a run of the source is one of the processor.
use Rattle.std.proofs.Common.{◌≡◌, ◌≢◌, ◌+◌, ◌-◌, ◌<◌, ◌≤◌, ℕ, zero, suc, ℤ, List, [], ◌∷◌, ◌++◌, length, map, Bool, true, false, Option, Some, None, Result}
use Rattle.std.{proofs.Common.{Ok, Err, refl, sym, ap, subst, ◌∙◌, ⊎_elim, arith, length-append}, specs.Prelude.{◌^◌, slice_get, slice_index, nat_lt}}
use Rattle.std.{specs.Prelude.{if◌then◌else◌, IsOk, option_map}, specs.List.list_all, proofs.lemmas.Bool.{cases_lt, ltb-true, lt-ltb, and_parts}}
use Rattle.std.proofs.lemmas.List.{length-map}
use Rattle.stack_text.{specs.declared.shape.Kind.Kind, specs.declared.shape.Shape.Shape, specs.Values.ValueOf, proofs.SharedLaws.{get_front, get_after}}
use Rattle.stack_text.proofs.SharedLaws.{get_map}
use Rattle.fm_words.specs.Word.{word_of_int}
use Rattle.fm_machine.{specs.State.{Fm, word_at}, specs.Run.{fm_run, pc_of, Avoids}, specs.Outcome.{IsOutcome, outcome, RunOutcome}}
use Rattle.fm_machine.{specs.declared.fault.Outside.Outside, proofs.RunLaws.{run_add, outcome_only}, proofs.WindowLaws.inside}
use Rattle.fm_machine.specs.Step as machine_step
use Rattle.fm_machine.specs.declared.processor.Run.TheVariants as run
use Rattle.fm_code.{specs.Areas.joined, specs.Execution.Holds, proofs.HoldsLaws.Holds-get}
use Rattle.fm_image.specs.Image.{ImageOf}
use Rattle.fm_loader.specs.Loaded as loader
use Rattle.display_maps.specs.Reading.{word_in}
use Rattle.piton_words.{specs.declared.word.Word.Word, specs.declared.word.Word.TheVariants.Nat}
use Rattle.piton_check.{specs.Instruction.SystemView, specs.Sound.IsSound}
use Rattle.piton_semantics.specs.State as piton
use Rattle.piton_semantics.{specs.State.{PitonState, locals_of, element}, specs.Addresses.{Addresses, word_number, numbers}, specs.Law.Steps}
use Rattle.piton_semantics.{specs.Placed.{areas_start, end_of, addresses_of, final_pc_of, address_of_place, loaded}, specs.StateView.started}
use Rattle.piton_semantics.{specs.Stands.{Stands, frame_words, pointer_to, address_from, return_address}, proofs.RunLaws.{steps_run, steps_cost}}
use Rattle.piton_semantics.proofs.SoundLaws.{known}
use Rattle.piton_linker.specs.Theorem.{ComesToStand, RunsOnProcessor}
use Rattle.gypsy_syntax.{specs.Programs.{Proc, Program, proc_at, shapes_of}, specs.Ranges.is_in_range, specs.ValuesFit.{ValueFits, VarsFit}}
use Rattle.gypsy_syntax.{specs.Effects.value_at, specs.Resolved.program_of, specs.Sources.{ProcOf, SourceOf}}
use Rattle.gypsy_check.specs.Accepted.{IsAccepted}
use Rattle.gypsy_space.{specs.Costs.Tally, specs.Needs.{StackSizes, vars_of}}
use Rattle.gypsy_semantics.{specs.Calls.{CurrentCondition, main_start}, specs.Counted.{CountedOutcome, CountedDone, counted_meaning, uncounted, tally_of}}
use Rattle.gypsy_semantics.{specs.Machine.{Item, Frame, Held, State, At, Move, Next, Ended, start}, specs.Views.RunView.top_way}
use Rattle.gypsy_semantics.{proofs.CountLaws.meaning-uncounted, proofs.EffectLaws.value_fits, proofs.Runs.agree}
use Rattle.gypsy_predef.specs.Runs as stack
use Rattle.gypsy_predef.{specs.Runs.word_of_item, proofs.StackLaws.element_there}
use Rattle.gypsy_codegen.{specs.WordsOf.{words_of_values, zero_value, number_of_way}, specs.Generated.{offset, generated_view}, specs.Moments.moment_from}
use Rattle.gypsy_codegen.{specs.Moments.{AreActivations, VariableStands, ReadsAs, ComesToMark, HasMoment}, proofs.MomentLaws.{moment_over, moment_fits}}
use Rattle.gypsy_codegen.proofs.MomentLaws.{counts_grow}
use Rattle.stack_build.{specs.Formals.{formals_in, conditions_in}, specs.Image.{image_with, source_tables, image_of}, specs.Implements.Implements}
use Rattle.stack_build.{specs.Implements.meaning_shown, specs.ComesTo.ComesTo, specs.Moments.{HoldsVariable, HoldsFrames, MemoryReads, ArrivesAtMark}}
use Rattle.stack_build.{specs.Moments.{ArrivesAtEnd, ArrivesAt, KeepsMoments}, specs.StaysUnfinished.StaysUnfinished, specs.Internal.Showing.shapes_in}
use Rattle.stack_build.{proofs.Initial.is_initial, proofs.Loading.image_loaded, proofs.MainLaws.{IsMain, main_is, zero_values}, proofs.Numbers.item_number}

-- ---- runs

-- a run that is made is made up to each count
pub run_up_to : (k n : ℕ) (m t : Fm) → k ≤ n → fm_run n m ≡ Ok t → (u : Fm) × (fm_run k m ≡ Ok u)
run_up_to k n m t le h = by_part (fm_run k m) refl (sym (run_add k (n - k) m) ∙ ap (λ j. fm_run j m) (omega arith) ∙ h)
  where
    by_part : (r : Result Fm Outside) → fm_run k m ≡ r → machine_step.then_on r (fm_run (n - k)) ≡ Ok t → (u : Fm) × (fm_run k m ≡ Ok u)
    by_part (Ok u) is e = (u, is)
    by_part (Err x) is e = absurd cc

inside_up_to : (n : ℕ) (m t : Fm) → fm_run n m ≡ Ok t → (i : ℕ) → i ≤ n → IsOk (fm_run i m)
inside_up_to n m t h i le = let r = run_up_to i n m t le h in subst (λ (x : Result Fm Outside). IsOk x) (sym r.1) refl

-- where the last count is not at pc either, none is
final_avoided : (m state : Fm) (pc n : ℕ) → Avoids m pc n → pc_of state ≢ pc → fm_run n m ≡ Ok state → (i : ℕ) (u : Fm) → i ≤ n → fm_run i m ≡ Ok u
    → pc_of u ≢ pc
final_avoided m state pc n before last runs i u le e =
    ⊎_elim (λ lt. before i u lt e)
    (λ ge there.
    let same_count : i ≡ n = omega (arith, le, ge) in
    let both : Ok state ≡ Ok u = sym runs ∙ ap (λ k. fm_run k m) (sym same_count) ∙ e in
    let same : state ≡ u = same_state state u both in
    last (ap pc_of same ∙ there))
    (cases_lt i n)
  where
    same_state : (a b : Fm) → let r : Result Fm Outside = Ok a in r ≡ Ok b → a ≡ b
    same_state a b h = cc

-- ---- a machine that stands for a state

pub Holds-behind : (b : ℕ) (m : List ℕ) (p : ℕ) (xs ys : List ℕ) → Holds b m p (xs ++ ys) → Holds b m (p + length xs) ys
Holds-behind b m p [] ys h = let e : p ≡ p + 0 = omega arith in subst (λ (a : ℕ). Holds b m a ys) e h
Holds-behind b m p (x ∷ xs) ys h =
    let e : p + 1 + length xs ≡ p + length (x ∷ xs) = omega arith in
    subst (λ (a : ℕ). Holds b m a ys) e (Holds-behind b m (p + 1) xs ys h.1)

-- the element at a position, from the last word downwards
pub element_held : (A : Addresses) (b : ℕ) (m : List ℕ) (t k : ℕ) (stack : List Word) (w : Word) → Holds b m t (numbers A stack)
    → t + length (numbers A stack) ≡ A.end → element stack k ≡ Some w →
    word_at b m (A.end - 1 - k) ≡ Some (word_number A w)
element_held A b m t k stack w h long e = by_side (nat_lt k (length stack)) refl e
  where
    by_side : (c : Bool) → nat_lt k (length stack) ≡ c → (if c then slice_get stack (length stack - 1 - k) else None) ≡ Some w
        → word_at b m (A.end - 1 - k) ≡ Some (word_number A w)
    by_side true is f =
        let lt = ltb-true k (length stack) is in
        let count : length (numbers A stack) ≡ length stack = length-map stack (word_number A) in
        let at : t + (length stack - 1 - k) ≡ A.end - 1 - k = omega (arith, lt, count, long) in
        subst (λ (a : ℕ). word_at b m a ≡ Some (word_number A w)) at
        (Holds-get b m t (length stack - 1 - k) (word_number A w) (numbers A stack) (get_map (word_number A) stack (length stack - 1 - k) w f) h)
    by_side false is f = absurd cc

-- the local at an offset of the newest frame
pub local_held : (A : Addresses) (b : ℕ) (m : List ℕ) (c k i : ℕ) (frames : List piton.Frame) → Holds b m c (frame_words A frames)
    → slice_get (locals_of frames) k ≡ Some (Nat i) → word_at b m (c + k) ≡ Some i
local_held A b m c k i [] h e = absurd cc
local_held A b m c k i (f ∷ fs) h e =
    let rest = pointer_to A fs (frame_words A fs) ∷ return_address A f fs ∷ frame_words A fs in
    Holds-get b m c k i (numbers A f.locals ++ rest) (get_front (numbers A f.locals) rest k i (get_map (word_number A) f.locals k (Nat i) e)) h

-- the frames, each behind the one that is newer
none_active : (q : Program) (p : ℕ) (fs : List Frame) → AreActivations q p fs [] → ⊥
none_active q p [] h = h
none_active q p (Held c x w xs cs ∷ fs) h = h

module _ (q : Program) (A : Addresses) (m : Fm) where
  -- the word behind the locals
  pub pointer_held : (c n : ℕ) (f : piton.Frame) (fs : List piton.Frame) → length f.locals ≡ n → Holds m.base m.memory c (frame_words A (f ∷ fs)) →
      word_in m (c + n) ≡ Some (pointer_to A fs (frame_words A fs))
  pointer_held c n f fs e h =
      let words = numbers A f.locals in
      let rest = pointer_to A fs (frame_words A fs) ∷ return_address A f fs ∷ frame_words A fs in
      let at : n ≡ length words + 0 = omega (arith, e, length-map f.locals (word_number A)) in
      Holds-get m.base m.memory c n (pointer_to A fs (frame_words A fs)) (words ++ rest) (ap (slice_get (words ++ rest)) at ∙ get_after words rest 0) h

  frames_held : (fs : List Frame) (p c : ℕ) (frames : List piton.Frame) → AreActivations q p fs frames → Holds m.base m.memory c (frame_words A frames) →
      c + length (frame_words A frames) ≡ A.temp_at → HoldsFrames q m c p fs
  frames_held [] p c [] a h long = absurd a
  frames_held [] p c (f ∷ []) a h long = pointer_held c (vars_of (proc_at q p)) f [] a h
  frames_held [] p c (f ∷ g ∷ frames) a h long = absurd a
  frames_held (Held d x w xs cs ∷ fs) p c [] a h long = absurd a
  frames_held (Held d x w xs cs ∷ fs) p c (f ∷ []) a h long = absurd (none_active q d fs a.1)
  frames_held (Held d x w xs cs ∷ fs) p c (f ∷ g ∷ frames) a h long =
      let words = numbers A f.locals in
      let older = frame_words A (g ∷ frames) in
      let next = A.temp_at - length older in
      let head = next ∷ return_address A f (g ∷ frames) ∷ [] in
      let all : length (words ++ (head ++ older)) ≡ length words + length (head ++ older) = length-append words (head ++ older) in
      let two : length (head ++ older) ≡ 2 + length older = omega (arith, length-append head older) in
      let at : c + length words + 2 ≡ next = omega (arith, long, all, two) in
      let behind : Holds m.base m.memory (c + length words + 2) older =
      Holds-behind m.base m.memory (c + length words) head older (Holds-behind m.base m.memory c words (head ++ older) h) in
      let some : next ≢ 0 = not_none next (c + length words) at in
      let ends : next + length older ≡ A.temp_at = omega (arith, long, all, two, at) in (
        next,
        some,
        pointer_held c (vars_of (proc_at q p)) f (g ∷ frames) a.0 h,
        frames_held fs d next (g ∷ frames) a.1 (subst (λ (i : ℕ). Holds m.base m.memory i older) at behind) ends,
      )
    where
      not_none : (n k : ℕ) → k + 2 ≡ n → n ≢ 0
      not_none n k e z = omega (arith, e, z)

-- a frame is there
pub going : (q : Program) (p : ℕ) (fs : List Frame) (frames : List piton.Frame) → AreActivations q p fs frames → (f : piton.Frame)
    × (rest : List piton.Frame) × (frames ≡ f ∷ rest)
going q p fs [] a = absurd (none_active q p fs a)
going q p fs (f ∷ rest) a = (f, rest, refl)

pub item_in_range : (k : Kind) (items : List ℤ) (h : ℕ) (z : ℤ) → list_all (is_in_range k) items ≡ true → slice_get items h ≡ Some z → is_in_range k z ≡ true
item_in_range k [] h z all e = absurd cc
item_in_range k (y ∷ items) zero z all e =
    let same : y ≡ z = cc in
    ap (is_in_range k) (sym same) ∙ (and_parts (is_in_range k y) (list_all (is_in_range k) items) all).0
item_in_range k (y ∷ items) (suc h) z all e = item_in_range k items h z (and_parts (is_in_range k y) (list_all (is_in_range k) items) all).1 e

-- A machine that stands for a state that reads as an activation reads so itself.
module _ (q : Program) (s : SystemView) (m : Fm) (a : PitonState) (stands : Stands s m a) (p : ℕ) (x : List ValueOf) (w : List Item) (fs : List Frame)
    (reads : ReadsAs q a p x w fs) where
  base_is : m.base ≡ s.base
  base_is = stands.is.base_is

  counter_is : pc_of m ≡ address_of_place s a.program a.place
  counter_is =
      let g = going q p fs a.frames reads.frames in
      stands.is.r15_is ∙ ap (address_from (addresses_of s) a) g.2

  -- the newest frame's address
  frame_is : slice_index m.registers 0 ≡ slice_index m.registers 1
  frame_is =
      let g = going q p fs a.frames reads.frames in
      let words = frame_words (addresses_of s) a.frames in
      let r0 : slice_index m.registers 0 ≡ (addresses_of s).temp_at - length words =
      stands.is.r0_is ∙ ap (λ (l : List piton.Frame). pointer_to (addresses_of s) l words) g.2 in
      omega (arith, r0, stands.is.laid.ctrl_end)

  frames_here : HoldsFrames q m (slice_index m.registers 0) p fs
  frames_here =
      let words = frame_words (addresses_of s) a.frames in
      let held : Holds m.base m.memory (slice_index m.registers 1) words =
      subst (λ (b : ℕ). Holds b m.memory (slice_index m.registers 1) words) (sym base_is) stands.is.laid.ctrl_at in
      subst (λ (c : ℕ). HoldsFrames q m c p fs) (sym frame_is)
      (frames_held q (addresses_of s) m fs p (slice_index m.registers 1) a.frames reads.frames held stands.is.laid.ctrl_end)

  condition_here : word_in m (areas_start s) ≡ Some (number_of_way (top_way w))
  condition_here =
      let n = number_of_way (top_way w) in
      let areas : Holds s.base m.memory (areas_start s) (n ∷ []) =
      subst (λ (areas : List (List Word)). Holds s.base m.memory (areas_start s) (joined (map (numbers (addresses_of s)) areas))) reads.condition
      stands.is.laid.areas_at in
      subst (λ (b : ℕ). word_at b m.memory (areas_start s) ≡ Some n) (sym base_is) areas.0

  variable_here : (image : ImageOf) → image.base ≡ s.base → image.base + image.size ≡ end_of s → end_of s < 2 ^ 32 → (b : ℕ) (v : ValueOf) → ValueFits v
      → VariableStands q a p b v → HoldsVariable q image m p b v
  variable_here image base last below_32 b v fits var =
      let words = frame_words (addresses_of s) a.frames in
      let held : Holds m.base m.memory (slice_index m.registers 1) words =
      subst (λ (b : ℕ). Holds b m.memory (slice_index m.registers 1) words) (sym base_is) stands.is.laid.ctrl_at in
      let temp : Holds m.base m.memory (slice_index m.registers 2) (numbers (addresses_of s) a.stack) =
      subst (λ (b : ℕ). Holds b m.memory (slice_index m.registers 2) (numbers (addresses_of s) a.stack)) (sym base_is) stands.is.laid.temp_at in
      record {
        index = var.index;
        local =
            let address : ℕ = slice_index m.registers 0 + offset q p b in
            let found : word_in m address ≡ Some var.index = subst (λ (c : ℕ). word_in m (c + offset q p b) ≡ Some var.index) (sym frame_is)
            (local_held (addresses_of s) m.base m.memory (slice_index m.registers 1) (offset q p b) var.index a.frames held var.local) in
            let within = inside m.base m.memory address var.index found in
            let low : address < 2 ^ 32 = omega (arith, within.1, base_is, stands.is.laid.size, below_32) in
            ap (λ (b : Bool). if b then word_in m address else None) (lt-ltb address (2 ^ 32) low) ∙ found;
        items = λ h z e.
            let there = element_there a.stack (var.index + h) (word_of_item v.shape.kind z)
            (var.words h (word_of_item v.shape.kind z) (get_map (word_of_item v.shape.kind) v.items h z e)) in
            let size : image.size ≡ end_of s - s.base = omega (arith, last, base) in
            let count : length (numbers (addresses_of s) a.stack) ≡ length a.stack = length-map a.stack (word_number (addresses_of s)) in
            let below : var.index + h < image.size = omega (arith, there, count, size, stands.is.laid.temp_end, stands.is.laid.temp_fits) in
            let one = element_held (addresses_of s) m.base m.memory (slice_index m.registers 2) (var.index + h) a.stack (word_of_item v.shape.kind z)
            temp stands.is.laid.temp_end
            (var.words h (word_of_item v.shape.kind z) (get_map (word_of_item v.shape.kind) v.items h z e)) in
            let at : end_of s - 1 - (var.index + h) ≡ image.base + image.size - 1 - (var.index + h) = omega (arith, last) in
            ap (λ (b : Bool). if b then word_in m (image.base + image.size - 1 - (var.index + h)) else None) (lt-ltb (var.index + h) image.size below)
            ∙ subst (λ (i : ℕ). word_in m i ≡ Some (word_of_int z)) at
            (one ∙ ap (λ (n : ℕ). Some n) (item_number (addresses_of s) v.shape.kind z (item_in_range v.shape.kind v.items h z fits.items e)));
      }

-- ---- the image of an accepted source

-- every moment of the step machine is one of this system
abbrev pub MomentsAsMeant : Program → StackSizes → SystemView → Type 0
MomentsAsMeant q sizes system =
    (v : List ValueOf) (j : ℕ) → VarsFit (proc_at q q.main).formals v → HasMoment q system (started system (words_of_values (main_start q v)))
    (moment_from q sizes v j)

module _ (s : SourceOf) (sizes : StackSizes) (base : ℕ) (accepted : IsAccepted s) (sound : IsSound (generated_view (program_of s) sizes base))
    (theorem : RunsOnProcessor (generated_view (program_of s) sizes base)) (below_32 : end_of (generated_view (program_of s) sizes base) < 2 ^ 32) where
  -- the machine that is loaded is the placed one with these words on its stack
  pub loaded_is : (v : List ValueOf) → VarsFit (proc_at (program_of s) (program_of s).main).formals v →
      loader.loaded (image_of s sizes base) v ≡ loaded (generated_view (program_of s) sizes base) (words_of_values (main_start (program_of s) v))
  unfolding image_of main_start
  loaded_is v fits =
      let q : Program = program_of s in
      let m = main_is s accepted in
      let p : ProcOf = m.0 in
      let main : IsMain s p = m.1 in
      let formals : (proc_at q q.main).formals ≡ shapes_in p.formals = ap (λ (z : Proc). z.formals) main.at in
      let here = accepted.fits.procs q.main in
      let zeros : VarsFit (shapes_in p.formals) (map zero_value (proc_at q q.main).formals) =
      subst (λ (shapes : List Shape). VarsFit shapes (map zero_value (proc_at q q.main).formals)) formals
      (zero_values (proc_at q q.main).formals here.formals) in
      let new : VarsFit (shapes_in p.formals) v = subst (λ (shapes : List Shape). VarsFit shapes v) formals fits in
      let whole = image_loaded (generated_view q sizes base) (known (generated_view q sizes base) sound) p.formals
      (map zero_value (proc_at q q.main).formals) v (proc_at q q.main).locals
      zeros new here.locals refl (conditions_in (Some p)) (source_tables s (generated_view q sizes base)) in
      subst (λ (o : Option ProcOf). loader.loaded
      (image_with (formals_in o) (conditions_in o) (source_tables s (generated_view q sizes base)) (generated_view q sizes base)) v
      ≡ loaded (generated_view q sizes base) (words_of_values (v ++ (proc_at q q.main).locals)))
      (sym main.found) whole

  -- it comes to stand for each state that the system comes to
  pub stands_for : (v : List ValueOf) → VarsFit (proc_at (program_of s) (program_of s).main).formals v → (steps count : ℕ) (a : PitonState) →
      Steps (generated_view (program_of s) sizes base) steps count
      (started (generated_view (program_of s) sizes base) (words_of_values (main_start (program_of s) v))) a →
      ComesToStand (generated_view (program_of s) sizes base)
      (loaded (generated_view (program_of s) sizes base) (words_of_values (main_start (program_of s) v))) count a
  unfolding main_start
  stands_for v fits steps count a runs =
      let q : Program = program_of s in
      let S : SystemView = generated_view q sizes base in
      let formals : List Shape = (proc_at q q.main).formals in
      let locals : List ValueOf = (proc_at q q.main).locals in
      let here = accepted.fits.procs q.main in
      let initial = is_initial S formals (map zero_value formals) v locals (zero_values formals here.formals) fits here.locals refl in
      let first : PitonState = started S (words_of_values (v ++ locals)) in
      subst (λ (n : ℕ). ComesToStand S (loaded S (words_of_values (v ++ locals))) n a) (steps_cost S steps count first a runs)
      (theorem (words_of_values (v ++ locals)) steps a initial (steps_run S steps count first a runs))

  pub last_is : (image_of s sizes base).base + (image_of s sizes base).size ≡ end_of (generated_view (program_of s) sizes base)
  unfolding image_of
  last_is = omega arith

  mark_reads : (m : Fm) (a : PitonState) (p : ℕ) (x : List ValueOf) (w : List Item) (fs : List Frame) → VarsFit (shapes_of (proc_at (program_of s) p)) x →
      Stands (generated_view (program_of s) sizes base) m a → ReadsAs (program_of s) a p x w fs
      → MemoryReads (program_of s) sizes (image_of s sizes base) m p x w fs
  unfolding image_of
  mark_reads m a p x w fs vars stands reads =
      let q : Program = program_of s in
      let S : SystemView = generated_view q sizes base in
      record {
        mark = counter_is q S m a stands p x w fs reads ∙ ap (λ (i : ℕ). address_of_place S i a.place) reads.program ∙ ap (address_of_place S p) reads.place;
        condition = ap (λ (o : Option ℕ). Some o) (condition_here q S m a stands p x w fs reads);
        frames = frames_here q S m a stands p x w fs reads;
        variables = λ b shape e.
            variable_here q S m a stands p x w fs reads (image_of s sizes base) refl last_is below_32 b (value_at x b)
            (value_fits (shapes_of (proc_at q p)) x b shape vars e).1 (reads.variables b shape e);
      }

  arrives_at_mark : (v : List ValueOf) → VarsFit (proc_at (program_of s) (program_of s).main).formals v
      → (p : ℕ) (x : List ValueOf) (w : List Item) (fs : List Frame) (t : Tally) → VarsFit (shapes_of (proc_at (program_of s) p)) x →
      ComesToMark (program_of s) (generated_view (program_of s) sizes base)
      (started (generated_view (program_of s) sizes base) (words_of_values (main_start (program_of s) v))) p x w fs t →
      ArrivesAtMark s sizes (image_of s sizes base) v p x w fs t.count
  unfolding image_of
  arrives_at_mark v fits p x w fs t vars comes =
      let q : Program = program_of s in
      let S : SystemView = generated_view q sizes base in
      let M : Fm = loaded S (words_of_values (main_start q v)) in
      let on = stands_for v fits t.steps t.count comes.to comes.runs in
      let same : loader.loaded (image_of s sizes base) v ≡ M = loaded_is v fits in
      let reached : fm_run t.count (loader.loaded (image_of s sizes base) v) ≡ Ok on.state = ap (fm_run t.count) same ∙ on.runs in
      let running = going q p fs comes.to.frames comes.reads.frames in
      let not_final : pc_of on.state ≢ final_pc_of S = λ e. no_frames running.0 running.1 (sym running.2 ∙ on.halted.1 e) in
      record {
        state = on.state;
        reached = reached;
        inside = inside_up_to t.count (loader.loaded (image_of s sizes base) v) on.state reached;
        goes_on = λ i u le e. final_avoided M on.state (final_pc_of S) t.count on.before not_final on.runs i u le (ap (fm_run i) (sym same) ∙ e);
        reads = mark_reads on.state comes.to p x w fs vars on.stands comes.reads;
      }
    where
      no_frames : (f : piton.Frame) (rest : List piton.Frame) → f ∷ rest ≡ [] → ⊥
      no_frames f rest e = cc

  ends_at : Implements (image_of s sizes base) s sizes → (v : List ValueOf) → VarsFit (proc_at (program_of s) (program_of s).main).formals v
      → (j : ℕ) (x : List ValueOf) (c : CurrentCondition) (t : Tally) →
      moment_from (program_of s) sizes v j ≡ Ended x c t → ArrivesAtEnd s (image_of s sizes base) v x c t.count
  ends_at implements v fits j x c t e =
      let q : Program = program_of s in
      let counted : counted_meaning q sizes v (suc j) ≡ CountedDone x c t = (agree q sizes v).ended j x c t (moment_over q sizes j (start q v) x c t e) in
      let comes : ComesTo (image_of s sizes base) v t.count (meaning_shown s x c) =
      implements v x c t.count fits
      record {
        bound = suc j;
        done = sym (meaning-uncounted q sizes v (suc j)) ∙ ap uncounted counted;
        counted = ap (λ (o : CountedOutcome). option_map (λ (t : Tally). t.count) (tally_of o)) counted;
      } in
      record { inside = inside_up_to t.count (loader.loaded (image_of s sizes base) v) comes.state comes.first.reached; comes = comes }

  pub keeps_moments : MomentsAsMeant (program_of s) sizes (generated_view (program_of s) sizes base) → Implements (image_of s sizes base) s sizes
      → KeepsMoments (image_of s sizes base) s sizes
  keeps_moments moments implements v j fits = by_moment (moment_from (program_of s) sizes v j) refl (moments v j fits)
    where
      by_moment : (m : Move) → moment_from (program_of s) sizes v j ≡ m →
          HasMoment (program_of s) (generated_view (program_of s) sizes base)
          (started (generated_view (program_of s) sizes base) (words_of_values (main_start (program_of s) v))) m →
          ArrivesAt s sizes (image_of s sizes base) v m
      by_moment (Next (At p x w fs t)) e h =
          arrives_at_mark v fits p x w fs t (moment_fits (program_of s) sizes accepted.fits v j (At p x w fs t) fits e).0 h
      by_moment (Ended x c t) e h = ends_at implements v fits j x c t e

-- an image that keeps to the source at every moment is unfinished at every budget where the source never ends
pub stays_unfinished : (s : SourceOf) (sizes : StackSizes) (image : ImageOf) → KeepsMoments image s sizes → StaysUnfinished image s sizes
stays_unfinished s sizes image keeps v budget fits never =
    let g = never budget in
    by_state g.0 g.1 (subst (ArrivesAt s sizes image v) g.1 (keeps v budget fits))
  where
    by_state : (g : State) → moment_from (program_of s) sizes v budget ≡ Next g → ArrivesAt s sizes image v (Next g)
        → (outcome budget image.final_pc (loader.loaded image v)).run ≡ run.Spent
    by_state (At p x w fs t) e a =
        let m : Fm = loader.loaded image v in
        let enough : budget ≤ t.count = counts_grow (program_of s) sizes v budget (At p x w fs t) e in
        let r = run_up_to budget t.count m a.state enough a.reached in
        let spent : IsOutcome m image.final_pc budget run.Spent r.0 = (r.1, λ i u lt there. a.goes_on i u (omega (arith, lt, enough)) there) in
        ap (λ (o : RunOutcome). o.run) (outcome_only m image.final_pc budget run.Spent r.0 spent)
