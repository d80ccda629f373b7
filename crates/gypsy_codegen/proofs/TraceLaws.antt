-- At every moment all activations stand in the frames, each with what it would get back now.
use Rattle.std.{proofs.Common.{◌≡◌, ℕ, ◌+◌, ◌<◌, List, [], ◌∷◌, length, refl, sym, ap, ◌∙◌, subst, drop, Some, arith}, specs.Prelude.slice_get}
use Rattle.std.proofs.lemmas.Option.{slice_get_within}
use Rattle.stack_text.{specs.declared.shape.Shape.Shape, specs.Values.{ValueOf, item_count}}
use Rattle.piton_words.specs.declared.word.Word.{Word}
use Rattle.piton_check.specs.Instruction.{SystemView}
use Rattle.piton_semantics.specs.State as piton
use Rattle.piton_semantics.{specs.State.element, specs.Law.Steps}
use Rattle.gypsy_syntax.{specs.Programs.{Program, proc_at, shapes_of}, specs.Effects.value_at, specs.ValuesFit.VarsFit}
use Rattle.gypsy_semantics.{specs.Calls.copied_out, specs.Kept.FramesFit, specs.Machine.{Frame, Held, At, Move, Next, Ended, start, used}}
use Rattle.gypsy_semantics.{specs.Views.RunView.handed_back, proofs.EffectLaws.value_fits}
use Rattle.gypsy_predef.specs.Runs.{Holds, words_of_value}
use Rattle.gypsy_codegen.{specs.Generated.generated_view, specs.Law.{Leads, tally_of}, specs.Memory.{stack_of, index_of, frame_of, index_words}}
use Rattle.gypsy_codegen.{specs.Moments.moment_from, specs.Showing.Waits, specs.Traces.{FrameStands, FramesStand, HasFrames, EachMomentHasFrames}}
use Rattle.gypsy_codegen.{specs.Whole.opened, specs.WordsOf.words_of_values, proofs.LayoutLaws.{frame_at, height, low_fits, index_fits, reads_at}}
use Rattle.gypsy_codegen.{proofs.MomentLaws.{frame_number, moment_fits, moment_reached}, proofs.PushLaws.PredefsRun, proofs.RunLaws.{counts, each_is_shown}}
use Rattle.gypsy_codegen.{proofs.RunLaws.stack_grows, proofs.StackLaws.{push_all-length, value_words}}

module _ (q : Program) (stack : List Word) where
  -- the stack is that of these activations, as far as that goes
  abbrev Begins : ℕ → List ValueOf → List Frame → Type 0
  Begins p y fs = (j : ℕ) → j < length (stack_of q p y fs) → element stack j ≡ element (stack_of q p y fs) j

  holds_here : (p : ℕ) (y : List ValueOf) (fs : List Frame) (b : ℕ) (shape : Shape) → VarsFit (shapes_of (proc_at q p)) y → FramesFit q p fs
      → Begins p y fs → slice_get (shapes_of (proc_at q p)) b ≡ Some shape
      → Holds stack (index_of q p fs b) (words_of_value (value_at y b))
  holds_here p y fs b shape v g begins e h u r =
      let fit = value_fits (shapes_of (proc_at q p)) y b shape v e in
      let inside : h < item_count shape =
      omega (arith, slice_get_within (words_of_value (value_at y b)) h u r, value_words (value_at y b) fit.1, ap item_count fit.0) in
      let tall : length (stack_of q p y fs) ≡ (used q p fs).temp = height q p y fs v g in
      let under : index_of q p fs b + h < length (stack_of q p y fs) = omega (arith, index_fits q p fs b shape g e, inside, tall) in
      begins (index_of q p fs b + h) under ∙ reads_at q p y fs b h shape u v g e r

  -- the newest of the frames
  frame_stands : (p : ℕ) (y : List ValueOf) (fs : List Frame) (program place : ℕ) → VarsFit (shapes_of (proc_at q p)) y → FramesFit q p fs → Begins p y fs
      → FrameStands q stack (record { locals = index_words (frame_of q p fs); program = program; place = place }) p y
  frame_stands p y fs program place v g begins = record {
    fits = v;
    number = frame_number q p fs g;
    variables = λ b shape e. record {
      index = index_of q p fs b;
      local = frame_at q p fs b g (slice_get_within (shapes_of (proc_at q p)) b shape e);
      words = holds_here p y fs b shape v g begins e;
    };
  }

  frames_stand : (fs : List Frame) (p : ℕ) (y : List ValueOf) (frames : List piton.Frame) → VarsFit (shapes_of (proc_at q p)) y → FramesFit q p fs
      → Waits q p fs frames → Begins p y fs
      → FramesStand q stack p y (handed_back y fs) frames
  frames_stand [] p y frames v g wt begins =
      subst (FramesStand q stack p y []) (sym wt.2) (frame_stands p y [] wt.0 wt.1 v g begins)
  frames_stand (Held c x w xs cs ∷ fs) p y frames v g wt begins =
      let z = copied_out xs y x in
      let low = low_fits q p c x y w xs cs fs v g in
      let ws = words_of_values (drop (length (proc_at q p).formals) y) in
      let under : Begins c z fs = λ j h. begins j (omega (arith, h, push_all-length ws (stack_of q c z fs))) ∙ stack_grows q p c x y w xs cs fs j h in
      subst (FramesStand q stack p y (Held c z w xs cs ∷ handed_back z fs)) (sym wt.2)
      (frame_stands p y (Held c x w xs cs ∷ fs) c wt.0 v g begins, frames_stand fs c z wt.1 low g.3 wt.6 under)

pub each_moment_has_frames : PredefsRun → EachMomentHasFrames
each_moment_has_frames bodies q sizes base v j fits sz vf = by_moment (moment_from q sizes v j) refl
  where
    S : SystemView
    S = generated_view q sizes base

    by_moment : (m : Move) → moment_from q sizes v j ≡ m → HasFrames q (generated_view q sizes base) (opened q sizes base v) m
    by_moment (Next (At p x w fs t)) e =
        let l : Leads q S (opened q sizes base v) (tally_of (start q v)) (At p x w fs t) =
        each_is_shown bodies q sizes base v (At p x w fs t) fits sz vf (moment_reached q sizes j (start q v) (At p x w fs t) e) in
        let k = counts l.cost l.steps t l.tally in
        let kept = moment_fits q sizes fits v j (At p x w fs t) vf e in
        record {
          to = l.to;
          runs = subst (λ i. Steps S i t.count (opened q sizes base v) l.to) k.0 (subst (λ i. Steps S l.steps i (opened q sizes base v) l.to) k.1 l.runs);
          frames = frames_stand q l.to.stack fs p x l.to.frames kept.0 kept.2 l.shows.frames (λ i h. ap (λ z. element z i) l.shows.stack);
        }
    by_moment (Ended x c t) e = tt
