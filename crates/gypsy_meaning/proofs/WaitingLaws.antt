-- The activations that wait, as the code makes them one by one.
use Rattle.std.proofs.Common.{◌≡◌, ◌++◌, ◌-◌, suc, List, [], ◌∷◌, length, map, reverse, slice_get, arith, refl, sym, ap, ap₂, ◌∙◌, append_assoc, subst, ℕ}
use Rattle.std.{proofs.Common.{Option, Some, None}, proofs.lemmas.List.reverse-append, proofs.lemmas.Option.same_Some}
use Rattle.stack_text.specs.Values.{ValueOf}
use Rattle.gypsy_syntax.{specs.Programs.Program, specs.Sources.SourceOf}
use Rattle.gypsy_space.{specs.Nodes.seen_program, specs.declared.need.Need.Need}
use Rattle.gypsy_semantics.{specs.Calls.copied_out, specs.Views.RunView.handed_back, specs.Views.Shown.variables_at}
use Rattle.gypsy_meaning.{specs.Internal.Stacking.{activation_back, last_values}, specs.Views.Belongs.{BelongsTo, IsKept}, specs.Views.Held.AreActivations}
use Rattle.gypsy_meaning.{specs.Views.Named.{proc_names, seen_names}, specs.Views.Running.{frame_of, frames_in, kept_frames, seen, stage_by}}
use Rattle.gypsy_meaning.{specs.Views.Stacks.{ActivationOf, activation_of, activation_seen, waiting_at}, specs.declared.activations.Activation.Activation}
use Rattle.gypsy_meaning.{specs.declared.names.Names.Names, specs.declared.running.Ending.Ending, specs.declared.running.Frame.Frame}
use Rattle.gypsy_meaning.{specs.declared.running.Meaning.Meaning, proofs.NamedLaws.variables_same, proofs.ReturningLaws.kept_frames-push}
use Rattle.gypsy_semantics.specs.Machine as machine

pub last_is : (active : List ValueOf) (all : List ActivationOf) (a : ActivationOf) → last_values active (all ++ a ∷ []) ≡ a.values
last_is active [] a = refl
last_is active (b ∷ all) a = last_is b.values all a

-- as the code finds it
pub last_found : (active : List ValueOf) (all : List Activation) (a : Activation) → Some a ≡ slice_get all (length all - 1)
    → map (λ v. v.1) a.variables.items ≡ last_values active (map activation_seen all)
last_found active [] a h = absurd cc
last_found active (b ∷ []) a h = ap (λ (x : Activation). map (λ v. v.1) x.variables.items) (same_Some a b h)
last_found active (b ∷ c ∷ all) a h =
    let behind : length (b ∷ c ∷ all) - 1 ≡ suc (length (c ∷ all) - 1) = omega arith in
    last_found (map (λ v. v.1) b.variables.items) (c ∷ all) a (h ∙ ap (slice_get (b ∷ c ∷ all)) behind)

-- one more is made
pub made_next : (active : List ValueOf) (all : List ActivationOf) (fs : List Frame) (f : Frame) (whole : List ActivationOf) →
    all ++ map activation_of (handed_back (last_values active all) (kept_frames (fs ++ f ∷ []))) ≡ whole →
    let new = all ++ activation_back (last_values active all) f ∷ [] in
    new ++ map activation_of (handed_back (last_values active new) (kept_frames fs)) ≡ whole
made_next active all fs f whole e =
    let y = last_values active all in
    let a = activation_back y f in
    let new = all ++ a ∷ [] in
    let rest = kept_frames fs in
    ap (λ (l : List ValueOf). new ++ map activation_of (handed_back l rest)) (last_is active all a)
    ∙ append_assoc all (a ∷ []) (map activation_of (handed_back a.values rest))
    ∙ ap (λ (gs : List machine.Frame). all ++ map activation_of (handed_back y gs)) (sym (kept_frames-push fs f))
    ∙ e

pub named_next : (all : List (List (List ℕ))) (fs : List Frame) (f : Frame) (whole : List (List (List ℕ))) →
    all ++ map (λ f. map (λ v. v.0) f.variables.items) (reverse (fs ++ f ∷ [])) ≡ whole →
    (all ++ map (λ v. v.0) f.variables.items ∷ []) ++ map (λ f. map (λ v. v.0) f.variables.items) (reverse fs) ≡ whole
named_next all fs f whole e =
    append_assoc all (map (λ v. v.0) f.variables.items ∷ []) (map (λ f. map (λ v. v.0) f.variables.items) (reverse fs))
    ∙ ap (λ (gs : List Frame). all ++ map (λ f. map (λ v. v.0) f.variables.items) gs) (sym (reverse-append fs (f ∷ [])))
    ∙ e

-- all are made
pub all_made : (m : Meaning) → m.ending ≡ None → map activation_of (frames_in m) ≡ waiting_at (seen m).stage
unfolding seen waiting_at
all_made m e = ap (λ (o : Option Ending). waiting_at (stage_by o m)) (sym e)

pub none_made : (m : Meaning) (e : Ending) → m.ending ≡ Some e → [] ≡ waiting_at (seen m).stage
unfolding seen waiting_at
none_made m e is = ap (λ (o : Option Ending). waiting_at (stage_by o m)) (sym is)

module _ (s : SourceOf) (names : List Names) (same : map seen_names names ≡ map proc_names s.procs) (q : Program) where
  names_kept : (y : List ValueOf) (fs : List Frame) → AreActivations q names fs → map (λ f. map (λ v. v.0) f.variables.items) fs
      ≡ map (λ a. variables_at s a.procedure) (map activation_of (handed_back y (map frame_of fs)))
  names_kept y [] h = refl
  names_kept y (f ∷ fs) h =
      let z = copied_out f.call.value.actuals.items y (map (λ v. v.1) f.variables.items) in
      ap₂ (λ (n : List (List ℕ)) (ns : List (List (List ℕ))). n ∷ ns) (h.0.named ∙ variables_same s names same f.procedure) (names_kept z fs h.1)

-- and have their names
pub all_named : (s : SourceOf) (ns : List Need) (m : Meaning) → BelongsTo s ns m → m.ending ≡ None
    → map (λ f. map (λ v. v.0) f.variables.items) (reverse m.waiting.items) ≡ map (λ a. variables_at s a.procedure) (waiting_at (seen m).stage)
all_named s ns m b e =
    let held = subst (IsKept m) e b.kept in
    names_kept s m.names.items b.names (seen_program m.program) (map (λ v. v.1) m.variables.items) (reverse m.waiting.items) held.waiting
    ∙ ap (map (λ a. variables_at s a.procedure)) (all_made m e)
