-- The end of a procedure for which another waits.
use Rattle.std.proofs.Common.{◌≡◌, ℕ, ◌+◌, List, [], ◌∷◌, ◌++◌, map, reverse, Bool, true, false, refl, sym, ap, ap₂, subst, ◌∙◌, arith}
use Rattle.std.{proofs.lemmas.List.reverse-append, specs.Global.Vec}
use Rattle.stack_text.specs.Values.{ValueOf}
use Rattle.gypsy_syntax.specs.Programs.{ConditionOf, Program}
use Rattle.gypsy_space.{specs.Costs.{Tally, spend, out_spend, start_tally}, specs.Needs.stack_sizes, specs.Nodes.{seen_cond, seen_program}}
use Rattle.gypsy_space.{specs.Events.event_count, specs.declared.need.Need.Need}
use Rattle.gypsy_space.specs.declared.event.CostEvent.TheVariants as event
use Rattle.gypsy_semantics.{specs.Calls.{copied_out, is_passed_on, matching}, specs.Machine.{Item, Out, State, At, Next, gypsy_step, settle, raise, used}}
use Rattle.gypsy_semantics.{specs.Views.RunView.{added, bare, handed_back}, proofs.LendingLaws.{back_again, copied_again}}
use Rattle.gypsy_meaning.{specs.Views.Held.{AreActivations, IsActivation, IsHeld, Keeps, Moves}, specs.Views.Named.variables_of}
use Rattle.gypsy_meaning.{specs.Internal.Returning.{Resumes, out_price}, specs.Views.Running.{frame_of, frames_in, frames_of, kept_frames, sizes_of, state_of}}
use Rattle.gypsy_meaning.{specs.Views.Running.paid, specs.Views.Work.{caught_spend, work_of}, specs.declared.names.Names.Names}
use Rattle.gypsy_meaning.{specs.declared.running.Frame.Frame, specs.declared.running.Meaning.Meaning, specs.declared.work.Item.Item as Kept}
use Rattle.gypsy_semantics.specs.Machine as machine

pub kept_frames-push : (fs : List Frame) (f : Frame) → kept_frames (fs ++ f ∷ []) ≡ frame_of f ∷ kept_frames fs
kept_frames-push fs f = ap (map frame_of) (reverse-append fs (f ∷ []))

pub same_state : (p p' : ℕ) (x x' : List ValueOf) (w w' : List Item) (fs fs' : List machine.Frame) (t : Tally) → p ≡ p' → x ≡ x' → w ≡ w' → fs ≡ fs'
    → At p x w fs t ≡ At p' x' w' fs' t
same_state p p' x x' w w' fs fs' t a b c d = cc

-- the last of those that waited is active again, with this work
abbrev Goes-on : Meaning → Meaning → Vec Frame → Frame → List Kept → Type 0
Goes-on m n ws f w = Resumes (record m { waiting = ws }) n (record f { work = w })

resume_held : (cost : ℕ) (m n : Meaning) (ws : Vec Frame) (f : Frame) (w : List Kept) → m.waiting.items ≡ ws.items ++ f ∷ [] → Goes-on m n ws f w
    → IsHeld m → IsHeld (paid cost n)
resume_held cost m n ws f w e r h =
    let q = seen_program m.program in
    let names = m.names.items in
    let gs = ws.items in
    let es : n.waiting.items ≡ gs = ap (λ (v : Vec Frame). v.items) r.waiting in
    let turned : reverse m.waiting.items ≡ f ∷ reverse gs = ap reverse e ∙ reverse-append gs (f ∷ []) in
    let P : List Frame → Type 0 = AreActivations q names in
    let both : AreActivations q names (f ∷ reverse gs) = subst P turned h.waiting in
    let a : IsActivation q names f.procedure f.variables.items f.used_temp f.used_ctrl (kept_frames gs) = both.0 in
    let program : seen_program n.program ≡ q = ap seen_program r.program in
    let table : n.names.items ≡ names = ap (λ t. t.items) r.names in
    record {
      top = record {
        named = r.named ∙ a.named ∙ ap₂ variables_of (sym table) (sym r.procedure);
        used_words =
            ap (λ (p : Program). used p n.procedure (kept_frames n.waiting.items)) program
            ∙ ap (λ (p : ℕ). used q p (kept_frames n.waiting.items)) r.procedure
            ∙ ap (λ (fs : List Frame). used q f.procedure (kept_frames fs)) es
            ∙ a.used_words
            ∙ ap₂ stack_sizes (sym r.used_ctrl) (sym r.used_temp);
      };
      waiting =
          let R : Program → Type 0 = λ p. AreActivations p n.names.items (reverse n.waiting.items) in
          let T : List Names → Type 0 = λ t. AreActivations q t (reverse n.waiting.items) in
          let U : List Frame → Type 0 = λ fs. AreActivations q names (reverse fs) in
          subst R (sym program) (subst T (sym table) (subst U (sym es) both.1));
    }

resume_keeps : (cost : ℕ) (m n : Meaning) (ws : Vec Frame) (f : Frame) (w : List Kept) → Goes-on m n ws f w → Keeps m (paid cost n)
resume_keeps cost m n ws f w r = record {
  program = r.program;
  temp = r.temp;
  ctrl = r.ctrl;
  values = r.start_values;
  names = r.names;
  unnamed = r.unnamed;
  steps = ap (λ (k : ℕ). added k 1) r.steps;
}

-- those that wait, with the last one apart
last_frames : (m : Meaning) (gs : List Frame) (f : Frame) → m.waiting.items ≡ gs ++ f ∷ [] →
    let y = copied_out f.call.value.actuals.items (map (λ v. v.1) m.variables.items) (map (λ v. v.1) f.variables.items) in
    frames_in m ≡ machine.Held f.procedure y (work_of f.work) f.call.value.actuals.items (map seen_cond f.call.value.conds.items) ∷ frames_of y gs
last_frames m gs f e =
    let x : List ValueOf = map (λ v. v.1) m.variables.items in
    ap (λ (fs : List Frame). frames_of x fs) e ∙ ap (handed_back x) (kept_frames-push gs f)

-- formals that are handed back are so once
back_once : (f : Frame) (x : List ValueOf) →
    let y = copied_out f.call.value.actuals.items x (map (λ v. v.1) f.variables.items) in copied_out f.call.value.actuals.items x y ≡ y
back_once f x = copied_again f.call.value.actuals.items x x (map (λ v. v.1) f.variables.items) refl

-- the state after the return
back_at : (m n : Meaning) (ws : Vec Frame) (f : Frame) (w : List Kept) → Goes-on m n ws f w → (work : List Item) (u : Tally) → work ≡ work_of n.work →
    let y = copied_out f.call.value.actuals.items (map (λ v. v.1) m.variables.items) (map (λ v. v.1) f.variables.items) in
    bare (At f.procedure y work (frames_of y ws.items) u) ≡ state_of n
back_at m n ws f w r work u same =
    let gs = ws.items in
    let rest : n.waiting.items ≡ gs = ap (λ (v : Vec Frame). v.items) r.waiting in
    let y = copied_out f.call.value.actuals.items (map (λ v. v.1) m.variables.items) (map (λ v. v.1) f.variables.items) in
    let z : List ValueOf = map (λ v. v.1) n.variables.items in
    let again : handed_back y (frames_of y gs) ≡ frames_of z n.waiting.items =
    back_again y y (kept_frames gs) refl ∙ ap₂ frames_of (sym r.values) (sym rest) in
    same_state f.procedure n.procedure y z work (work_of n.work) (handed_back y (frames_of y gs)) (frames_in n) start_tally (sym r.procedure)
    (sym r.values) same again

pub end_moves : (ns : List Need) (m n : Meaning) (ws : Vec Frame) (f : Frame) (w : List Kept) → work_of m.work ≡ [] → m.waiting.items ≡ ws.items ++ f ∷ [] →
    work_of w ≡ settle (work_of f.work) → Resumes (record m { waiting = ws }) n (record f { work = w }) → Moves m (paid (event_count ns event.EndProc) n)
unfolding event_count spend
end_moves ns m n ws f w nothing last settled r =
    let q = seen_program m.program in
    let sizes = sizes_of m in
    let gs = ws.items in
    let x = map (λ v. v.1) m.variables.items in
    let u : Tally = spend 12 6 start_tally in
    let y = copied_out f.call.value.actuals.items x (map (λ v. v.1) f.variables.items) in
    let g : State = At f.procedure y (settle (work_of f.work)) (frames_of y gs) u in
    let step : gypsy_step q sizes (state_of m) ≡ Next g =
    ap (λ (v : List Item). gypsy_step q sizes (At m.procedure x v (frames_in m) start_tally)) nothing
    ∙ ap (λ (fs : List machine.Frame). gypsy_step q sizes (At m.procedure x [] fs start_tally)) (last_frames m gs f last)
    ∙ ap (λ (l : List ValueOf). Next (At f.procedure l (settle (work_of f.work)) (frames_of y gs) u)) (back_once f x) in
    record {
      goes = (
        g,
        step,
        back_at m n ws f w r (settle (work_of f.work)) u (sym settled ∙ sym (ap work_of r.work)),
        record { counted = ap (λ (k : ℕ). added k 12) r.counted; last = refl },
      );
      keeps = resume_keeps (event_count ns event.EndProc) m n ws f w r;
      ending = r.ending;
      held = resume_held (event_count ns event.EndProc) m n ws f w last r;
    }

out_paid : (passed caught : Bool) (t : Tally) → (caught_spend caught (out_spend passed t)).count ≡ t.count + out_price passed caught
unfolding spend out_spend
out_paid true true t = omega arith
out_paid true false t = refl
out_paid false true t = omega arith
out_paid false false t = refl

pub leave_moves : (m n : Meaning) (ws : Vec Frame) (f : Frame) (w : List Kept) (caught : Bool) (d : ConditionOf) (below : List Item)
    → work_of m.work ≡ Out d ∷ below → m.waiting.items ≡ ws.items ++ f ∷ [] →
    ((p : ℕ) (x : List ValueOf) (fs : List machine.Frame) (t : Tally) →
    raise (matching (seen_program m.program) m.procedure (map seen_cond f.call.value.conds.items) d) p x (work_of f.work) fs t
    ≡ At p x (work_of w) fs (caught_spend caught t)) →
    Resumes (record m { waiting = ws }) n (record f { work = w }) → Moves m (paid (out_price (is_passed_on (seen_program m.program) m.procedure d) caught) n)
leave_moves m n ws f w caught d below out last raises r =
    let q = seen_program m.program in
    let sizes = sizes_of m in
    let gs = ws.items in
    let x = map (λ v. v.1) m.variables.items in
    let passed = is_passed_on q m.procedure d in
    let left : Tally = out_spend passed start_tally in
    let u : Tally = caught_spend caught left in
    let y = copied_out f.call.value.actuals.items x (map (λ v. v.1) f.variables.items) in
    let g : State = At f.procedure y (work_of w) (frames_of y gs) u in
    let raised = matching q m.procedure (map seen_cond f.call.value.conds.items) d in
    let step : gypsy_step q sizes (state_of m) ≡ Next g =
    ap (λ (v : List Item). gypsy_step q sizes (At m.procedure x v (frames_in m) start_tally)) out
    ∙ ap (λ (fs : List machine.Frame). gypsy_step q sizes (At m.procedure x (Out d ∷ below) fs start_tally)) (last_frames m gs f last)
    ∙ ap (λ (l : List ValueOf). Next (raise raised f.procedure l (work_of f.work) (frames_of y gs) left)) (back_once f x)
    ∙ ap Next (raises f.procedure y (frames_of y gs) left) in
    let spent : u.count ≡ 0 + out_price passed caught = out_paid passed caught start_tally in
    let cost : out_price passed caught ≡ u.count = omega (arith, spent) in
    record {
      goes = (
        g,
        step,
        back_at m n ws f w r (work_of w) u (sym (ap work_of r.work)),
        record { counted = ap₂ added r.counted cost; last = cost },
      );
      keeps = resume_keeps (out_price passed caught) m n ws f w r;
      ending = r.ending;
      held = resume_held (out_price passed caught) m n ws f w last r;
    }
