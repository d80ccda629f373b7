-- The lines of what waits for a call.
use Rattle.std.proofs.Common.{◌≡◌, ◌+◌, ◌<◌, ◌≤◌, ℕ, zero, suc, List, [], ◌∷◌, ◌++◌, drop, get_or, length, map, Some, None, refl, sym, ap, ◌∙◌, append_assoc}
use Rattle.std.{proofs.Common.{append-nil, arith}, specs.Prelude.slice_get, specs.List.flat_map, proofs.lemmas.List.drop_all}
use Rattle.gypsy_syntax.{specs.Sources.SourceOf, specs.Views.SourceView.proc_of, specs.declared.proc.Proc.Proc}
use Rattle.gypsy_semantics.specs.Views.Shown.{variables_at}
use Rattle.gypsy_meaning.{specs.Views.Stacks.{ActivationOf, activation_seen}, specs.declared.activations.Activation.Activation}
use Rattle.piton_syntax.specs.Systems.{SystemOf}
use Rattle.piton_semantics.specs.State.{Frame}
use Rattle.level_debuggers.{specs.GypsyLevels.{activation_lines, waiting_lines}, specs.PitonLevels.{frame_lines, waiting_frames}, proofs.LocalLaws.drop-found}

-- 1. Activations: those that have the names of the source's variables are printed as they are shown.

abbrev names_in : Activation → List (List ℕ)
names_in a = map (λ v. v.0) a.variables.items

abbrev printed : SourceOf → Activation → List ℕ
printed s a = activation_lines s a.procedure (map (λ v. v.0) a.variables.items) (map (λ v. v.1) a.variables.items)

module _ (s : SourceOf) where
  one_printed : (a : Activation) → names_in a ≡ variables_at s a.procedure → printed s a ≡ waiting_lines s (activation_seen a)
  one_printed a named = ap (λ (names : List (List ℕ)). activation_lines s a.procedure names (map (λ v. v.1) a.variables.items)) named

  each_printed : (all : List Activation) → map names_in all ≡ map (λ a. variables_at s a.procedure) (map activation_seen all)
      → flat_map (printed s) all ≡ flat_map (waiting_lines s) (map activation_seen all)
  each_printed [] named = refl
  each_printed (a ∷ all) named =
      let first : names_in a ≡ variables_at s a.procedure = cc in
      let others : map names_in all ≡ map (λ a. variables_at s a.procedure) (map activation_seen all) = cc in
      ap (λ (text : List ℕ). text ++ flat_map (printed s) all) (one_printed a first)
      ∙ ap (λ (text : List ℕ). waiting_lines s (activation_seen a) ++ text) (each_printed all others)

  pub all_printed : (all : List Activation) (shown : List ActivationOf) → map activation_seen all ≡ shown
      → map (λ a. map (λ v. v.0) a.variables.items) all ≡ map (λ a. variables_at s a.procedure) shown
      → flat_map (λ a. activation_lines s a.procedure (map (λ v. v.0) a.variables.items) (map (λ v. v.1) a.variables.items)) all
      ≡ flat_map (waiting_lines s) shown
  all_printed all shown seen named =
      let own : map names_in all ≡ map (λ a. variables_at s a.procedure) (map activation_seen all) =
      named ∙ ap (map (λ a. variables_at s a.procedure)) (sym seen) in
      each_printed all own ∙ ap (flat_map (waiting_lines s)) seen

-- the name of a procedure, as the code finds it
pub name_there : (ps : List Proc) (k : ℕ) (p : Proc) → k < length ps → p ≡ get_or ps k p
    → p.name.name ≡ get_or (map (λ p. p.name.name) (map proc_of ps)) k []
name_there [] k p lt is = absurd (omega (arith, lt))
name_there (q ∷ ps) zero p lt is = ap (λ (x : Proc). x.name.name) is
name_there (q ∷ ps) (suc k) p lt is = name_there ps k p (omega (arith, lt)) is

-- 2. Frames.

module _ (system : SystemOf) where
  next_shown : (frames : List Frame) (k : ℕ) (newer older : Frame) → slice_get frames k ≡ Some newer → slice_get frames (k + 1) ≡ Some older
      → waiting_frames system (drop k frames)
      ≡ frame_lines system newer.program newer.place older.locals ++ waiting_frames system (drop (k + 1) frames)
  unfolding waiting_frames
  next_shown frames k newer older at below =
      let rest = drop-found frames (k + 1) older below in
      ap (waiting_frames system) (drop-found frames k newer at)
      ∙ ap (λ (fs : List Frame). waiting_frames system (newer ∷ fs)) rest
      ∙ ap (λ (fs : List Frame). frame_lines system newer.program newer.place older.locals ++ waiting_frames system fs) (sym rest)

  none_older : (frames : List Frame) (k : ℕ) → slice_get frames (suc k) ≡ None → waiting_frames system (drop k frames) ≡ []
  unfolding waiting_frames
  none_older [] zero h = refl
  none_older [] (suc k) h = refl
  none_older (f ∷ []) zero h = refl
  none_older (f ∷ g ∷ fs) zero h = absurd cc
  none_older (f ∷ fs) (suc k) h = none_older fs k h

module _ (system : SystemOf) (frames : List Frame) (k : ℕ) (old all : List ℕ) (so_far : old ++ waiting_frames system (drop k frames) ≡ all) where
  pub next_frame : (new : List ℕ) (newer older : Frame) → slice_get frames k ≡ Some newer → slice_get frames (k + 1) ≡ Some older
      → new ≡ old ++ frame_lines system newer.program newer.place older.locals → new ++ waiting_frames system (drop (k + 1) frames) ≡ all
  next_frame new newer older at below more =
      rw more (append_assoc old (frame_lines system newer.program newer.place older.locals) (waiting_frames system (drop (k + 1) frames)))
      ∙ ap (λ (text : List ℕ). old ++ text) (sym (next_shown system frames k newer older at below))
      ∙ so_far

  none_left : drop k frames ≡ [] → old ≡ all
  unfolding waiting_frames
  none_left none = sym (append-nil old) ∙ ap (λ (fs : List Frame). old ++ waiting_frames system fs) (sym none) ∙ so_far

  pub end_frame : length frames ≤ k → old ≡ all
  end_frame le = none_left (drop_all k frames le)

  pub last_frame : slice_get frames (k + 1) ≡ None → old ≡ all
  last_frame none =
      let next : k + 1 ≡ suc k = omega arith in
      let above : slice_get frames (suc k) ≡ None = ap (slice_get frames) (sym next) ∙ none in
      sym (append-nil old) ∙ ap (λ (text : List ℕ). old ++ text) (sym (none_older system frames k above)) ∙ so_far
