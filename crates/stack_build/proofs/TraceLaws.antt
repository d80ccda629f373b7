-- At every moment the processor's memory has all activations.
use Rattle.std.proofs.Common.{◌≡◌, ◌≢◌, ◌+◌, ◌-◌, ◌<◌, ℕ, List, [], ◌∷◌, ◌++◌, length, Bool, None, Some, refl, sym, ap, subst, ◌∙◌, arith, length-append}
use Rattle.std.{specs.Prelude.{slice_index, if◌then◌else◌}, proofs.lemmas.Bool.lt-ltb, proofs.lemmas.List.length-map}
use Rattle.stack_text.{specs.Values.ValueOf, proofs.SharedLaws.get_map}
use Rattle.fm_words.specs.Word.{word_of_int}
use Rattle.fm_machine.{specs.State.Fm, specs.Run.fm_run}
use Rattle.fm_code.specs.Execution.{Holds}
use Rattle.fm_image.specs.Image.{ImageOf}
use Rattle.fm_loader.specs.Loaded as loader
use Rattle.display_maps.specs.Reading.{word_in}
use Rattle.piton_check.specs.Instruction.{SystemView}
use Rattle.piton_semantics.specs.State as piton
use Rattle.piton_semantics.{specs.State.PitonState, specs.Addresses.{word_number, numbers}, specs.Placed.{end_of, addresses_of, loaded}, specs.Stands.Stands}
use Rattle.piton_semantics.{specs.Stands.{frame_words, pointer_to, return_address}, proofs.ReadyLaws.end_fits}
use Rattle.piton_linker.specs.Theorem.{PitonRunsOnProcessor}
use Rattle.gypsy_syntax.{specs.Programs.{Program, proc_at, shapes_of}, specs.ValuesFit.ValueFits, specs.Effects.value_at, specs.Resolved.program_of}
use Rattle.gypsy_space.specs.Needs.{vars_of}
use Rattle.gypsy_semantics.{specs.Calls.main_start, specs.Machine.{Frame, Held, Move, At, Next, Ended}, specs.Views.RunView.handed_back}
use Rattle.gypsy_semantics.proofs.EffectLaws.{value_fits}
use Rattle.gypsy_predef.{specs.Runs.word_of_item, proofs.StackLaws.element_there}
use Rattle.gypsy_codegen.{specs.Acceptable.GeneratedIsAcceptable, specs.Generated.{offset, generated_view}, specs.Moments.moment_from, specs.Traces.StandsIn}
use Rattle.gypsy_codegen.{specs.Traces.{FrameStands, FramesStand, HasFrames, EachMomentHasFrames}, specs.Whole.opened, specs.WordsOf.words_of_values}
use Rattle.stack_build.{specs.Image.image_of, specs.Traces.{HoldsIn, HoldsAll, HoldsTrace, TracesAt, GeneratedImageKeepsTraces}, proofs.MomentLaws.Holds-behind}
use Rattle.stack_build.{proofs.MomentLaws.{element_held, local_held, pointer_held, item_in_range, stands_for, loaded_is, last_is}, proofs.Numbers.item_number}

module _ (q : Program) (s : SystemView) (m : Fm) (a : PitonState) (stands : Stands s m a) (image : ImageOf) (base : image.base ≡ s.base)
    (last : image.base + image.size ≡ end_of s) where
  -- a variable of the activation whose frame is the first of these
  variable_held : (c p b : ℕ) (v : ValueOf) (f : piton.Frame) (fs : List piton.Frame) → ValueFits v
      → Holds m.base m.memory c (frame_words (addresses_of s) (f ∷ fs)) → StandsIn q a.stack f p b v
      → HoldsIn q image m c p b v
  variable_held c p b v f fs fits held var =
      let temp : Holds m.base m.memory (slice_index m.registers 2) (numbers (addresses_of s) a.stack) =
      subst (λ (i : ℕ). Holds i m.memory (slice_index m.registers 2) (numbers (addresses_of s) a.stack)) (sym stands.is.base_is)
      stands.is.laid.temp_at in
      record {
        index = var.index;
        local = local_held (addresses_of s) m.base m.memory c (offset q p b) var.index (f ∷ fs) held var.local;
        items = λ h z e.
            let there = element_there a.stack (var.index + h) (word_of_item v.shape.kind z)
            (var.words h (word_of_item v.shape.kind z) (get_map (word_of_item v.shape.kind) v.items h z e)) in
            let size : image.size ≡ end_of s - s.base = omega (arith, last, base) in
            let count : length (numbers (addresses_of s) a.stack) ≡ length a.stack = length-map a.stack (word_number (addresses_of s)) in
            let below : var.index + h < image.size = omega (arith, there, count, size, stands.is.laid.temp_end, stands.is.laid.temp_fits) in
            let one = element_held (addresses_of s) m.base m.memory (slice_index m.registers 2) (var.index + h) a.stack (word_of_item v.shape.kind z)
            temp stands.is.laid.temp_end
            (var.words h (word_of_item v.shape.kind z) (get_map (word_of_item v.shape.kind) v.items h z e)) in
            let at : end_of s - 1 - (var.index + h) ≡ image.base + image.size - 1 - (var.index + h) = omega (arith, last) in
            ap (λ (b : Bool). if b then word_in m (image.base + image.size - 1 - (var.index + h)) else None) (lt-ltb (var.index + h) image.size below)
            ∙ subst (λ (i : ℕ). word_in m i ≡ Some (word_of_int z)) at
            (one ∙ ap (λ (n : ℕ). Some n) (item_number (addresses_of s) v.shape.kind z (item_in_range v.shape.kind v.items h z fits.items e)));
      }

  all_held : (c p : ℕ) (y : List ValueOf) (f : piton.Frame) (fs : List piton.Frame) → Holds m.base m.memory c (frame_words (addresses_of s) (f ∷ fs))
      → FrameStands q a.stack f p y → HoldsAll q image m c p y
  all_held c p y f fs held frame b shape e =
      variable_held c p b (value_at y b) f fs (value_fits (shapes_of (proc_at q p)) y b shape frame.fits e).1 held (frame.variables b shape e)

  no_frames : (p : ℕ) (y : List ValueOf) (fs : List Frame) → FramesStand q a.stack p y fs [] → ⊥
  no_frames p y [] h = h
  no_frames p y (Held c x w xs cs ∷ fs) h = h

  trace_held : (fs : List Frame) (p c : ℕ) (y : List ValueOf) (frames : List piton.Frame) → FramesStand q a.stack p y fs frames
      → Holds m.base m.memory c (frame_words (addresses_of s) frames) →
      c + length (frame_words (addresses_of s) frames) ≡ (addresses_of s).temp_at → HoldsTrace q image m c p y fs
  trace_held [] p c y [] h held long = absurd h
  trace_held [] p c y (f ∷ []) h held long = (all_held c p y f [] held h, pointer_held q (addresses_of s) m c (vars_of (proc_at q p)) f [] h.number held)
  trace_held [] p c y (f ∷ g ∷ frames) h held long = absurd h
  trace_held (Held d x w xs cs ∷ fs) p c y [] h held long = absurd h
  trace_held (Held d x w xs cs ∷ fs) p c y (f ∷ []) h held long = absurd (no_frames d x fs h.1)
  trace_held (Held d x w xs cs ∷ fs) p c y (f ∷ g ∷ frames) h held long =
      let A = addresses_of s in
      let words = numbers A f.locals in
      let older = frame_words A (g ∷ frames) in
      let next = A.temp_at - length older in
      let head = next ∷ return_address A f (g ∷ frames) ∷ [] in
      let all : length (words ++ (head ++ older)) ≡ length words + length (head ++ older) = length-append words (head ++ older) in
      let two : length (head ++ older) ≡ 2 + length older = omega (arith, length-append head older) in
      let at : c + length words + 2 ≡ next = omega (arith, long, all, two) in
      let behind : Holds m.base m.memory (c + length words + 2) older =
      Holds-behind m.base m.memory (c + length words) head older (Holds-behind m.base m.memory c words (head ++ older) held) in
      let some : next ≢ 0 = not_none next (c + length words) at in
      let ends : next + length older ≡ A.temp_at = omega (arith, long, all, two, at) in (
        all_held c p y f (g ∷ frames) held h.0,
        (
          next,
          some,
          pointer_held q A m c (vars_of (proc_at q p)) f (g ∷ frames) h.0.number held,
          trace_held fs d next x (g ∷ frames) h.1 (subst (λ (i : ℕ). Holds m.base m.memory i older) at behind) ends,
        ),
      )
    where
      not_none : (n k : ℕ) → k + 2 ≡ n → n ≢ 0
      not_none n k e z = omega (arith, e, z)

  -- the newest frame's address
  frame_is : (fs : List Frame) (p : ℕ) (y : List ValueOf) (frames : List piton.Frame) → FramesStand q a.stack p y fs frames → a.frames ≡ frames
      → slice_index m.registers 0 ≡ slice_index m.registers 1
  frame_is fs p y [] h e = absurd (no_frames p y fs h)
  frame_is fs p y (f ∷ frames) h e =
      let words = frame_words (addresses_of s) a.frames in
      let r0 : slice_index m.registers 0 ≡ (addresses_of s).temp_at - length words =
      stands.is.r0_is ∙ ap (λ (l : List piton.Frame). pointer_to (addresses_of s) l words) e in
      omega (arith, r0, stands.is.laid.ctrl_end)

  trace_here : (fs : List Frame) (p : ℕ) (y : List ValueOf) → FramesStand q a.stack p y fs a.frames → HoldsTrace q image m (slice_index m.registers 0) p y fs
  trace_here fs p y h =
      let words = frame_words (addresses_of s) a.frames in
      let held : Holds m.base m.memory (slice_index m.registers 1) words =
      subst (λ (i : ℕ). Holds i m.memory (slice_index m.registers 1) words) (sym stands.is.base_is) stands.is.laid.ctrl_at in
      subst (λ (c : ℕ). HoldsTrace q image m c p y fs) (sym (frame_is fs p y a.frames h refl))
      (trace_held fs p (slice_index m.registers 1) y a.frames h held stands.is.laid.ctrl_end)

-- from the moments of the system
pub images_keep_traces : EachMomentHasFrames → GeneratedIsAcceptable → PitonRunsOnProcessor → GeneratedImageKeepsTraces
unfolding image_of
images_keep_traces moments acceptable piton_runs s sizes base accepted limits small v j fits =
    by_moment (moment_from (program_of s) sizes v j) (moments (program_of s) sizes base v j accepted.fits limits.sizes_fit fits)
  where
    by_moment : (g : Move) → HasFrames (program_of s) (generated_view (program_of s) sizes base) (opened (program_of s) sizes base v) g
        → TracesAt (program_of s) (image_of s sizes base) v g
    by_moment (Next (At p x w fs t)) h =
        let q : Program = program_of s in
        let S : SystemView = generated_view q sizes base in
        let sound = (acceptable s sizes base accepted limits).sound in
        let theorem = piton_runs S sound small in
        let low = end_fits S sound.low_base small in
        let on = stands_for s sizes base accepted sound theorem low v fits t.steps t.count h.to h.runs in
        let same : loader.loaded (image_of s sizes base) v ≡ loaded S (words_of_values (main_start q v)) =
        loaded_is s sizes base accepted sound theorem low v fits in
        record {
          state = on.state;
          reached = ap (fm_run t.count) same ∙ on.runs;
          trace = trace_here q S on.state h.to on.stands (image_of s sizes base) refl (last_is s sizes base accepted sound theorem low)
              (handed_back x fs) p x h.frames;
        }
    by_moment (Ended x c t) h = tt
