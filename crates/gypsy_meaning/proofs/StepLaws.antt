-- A step of the code is a step of what is shown.
use Rattle.std.proofs.Common.{◌≡◌, ℕ, suc, ◌+◌, List, map, length, take, reverse, Option, Some, None, Result, Ok, Err, IfErr, true, false, refl, sym, ap, ap₂}
use Rattle.std.{proofs.Common.{subst, ◌∙◌}, specs.Global.Vec}
use Rattle.stack_text.specs.Values.{ValueOf}
use Rattle.gypsy_syntax.{specs.Sources.SourceOf, specs.Programs.{Program, proc_at}, specs.Resolved.program_of, specs.ValuesFit.VarsFit}
use Rattle.gypsy_space.{specs.Events.AreNeeds, specs.Costs.start_tally, specs.Needs.{StackSizes, stack_sizes}, specs.Nodes.seen_program}
use Rattle.gypsy_space.specs.declared.need.Need.{Need}
use Rattle.gypsy_meaning.{specs.Views.Belongs.{BelongsTo, IsKept, IsRunOf}, specs.Internal.Entering.IsUnchanged, specs.Views.Held.{AreActivations, EndsRun}}
use Rattle.gypsy_meaning.{specs.Views.Held.{IsActivation, Keeps, Moves}, specs.Views.Named.{seen_names, variables_of}, specs.Views.Running.{Costs, frames_of}}
use Rattle.gypsy_meaning.{specs.Views.Running.{kept_frames, seen, sizes_of, stage_by, state_of, way_of}, specs.Internal.Stepping.{Does, IsReady}}
use Rattle.gypsy_meaning.{specs.Views.Work.work_of, specs.declared.running.Ending.Ending, specs.declared.names.Names.Names, specs.declared.running.Frame.Frame}
use Rattle.gypsy_meaning.{specs.declared.running.Meaning.Meaning, proofs.NamedLaws.{number_same, variables_same, variables_sized}}
use Rattle.gypsy_semantics.{specs.Room.Suffices, specs.Views.RunView.{StageFits, Finished, Running, Seen, Stage, added, after, after_move, answer_by}}
use Rattle.gypsy_semantics.{specs.Views.RunView.{answer_from, answer_of, bare, is_over, left_from, left_of, opening, spent_at}, specs.Kept.FramesFit}
use Rattle.gypsy_semantics.{specs.Kept.StateFits, specs.Machine.{At, Ended, Move, Next, gypsy_step}, specs.declared.answers.Moved.Moved}
use Rattle.gypsy_semantics.{proofs.ReachLaws.{Reached, after_reached, opening_reached}, proofs.SeenLaws.{Fits, after_fits, after_last, after_same}}
use Rattle.gypsy_semantics.proofs.SeenLaws.{opening_fits}
use Rattle.gypsy_semantics.specs.declared.answers.Moved.TheVariants as moved

pub any_err : {T E : Type 0} (r : Result T E) (P : Type 0) → P → IfErr r (λ _. P)
any_err (Ok x) P p = tt
any_err (Err e) P p = p

-- what is shown of a run that isn't over
abbrev seen_at : Meaning → Stage → Seen
seen_at m s = record {
  program = seen_program m.program;
  sizes = sizes_of m;
  values = m.values.items;
  stage = s;
  steps = m.steps;
  counted = m.counted;
  cost = m.cost;
}

running : (m : Meaning) → m.ending ≡ None → seen m ≡ seen_at m (Running (state_of m))
unfolding seen
running m e = ap (λ o. seen_at m (stage_by o m)) e

-- two runs that keep the same show the same but for what a step changes
alike : (m n : Meaning) (s : Stage) (cost : ℕ) → Keeps m n → stage_by n.ending n ≡ s → Costs cost m n →
    seen n ≡ record (seen_at m (Running (state_of m))) { stage = s; steps = added m.steps 1; counted = added m.counted cost; cost = cost }
unfolding seen
alike m n s cost k e f = λ i. record {
  program = seen_program (k.program i);
  sizes = stack_sizes (k.ctrl i) (k.temp i);
  values = (k.values i).items;
  stage = e i;
  steps = k.steps i;
  counted = f.counted i;
  cost = f.last i;
}

stage_waiting : (o : Option Ending) (m : Meaning) (ws : Vec Frame) → ws.items ≡ m.waiting.items → stage_by o (record m { waiting = ws }) ≡ stage_by o m
stage_waiting None m ws e =
    let x = map (λ v. v.1) m.variables.items in
    ap (λ (fs : List Frame). Running (At m.procedure x (work_of m.work) (frames_of x fs) start_tally)) e
stage_waiting (Some o) m ws e = refl

-- where the vector of those that wait may differ
pub seen_waiting : (m : Meaning) (ws : Vec Frame) → ws.items ≡ m.waiting.items → seen (record m { waiting = ws }) ≡ seen m
unfolding seen
seen_waiting m ws e = ap (seen_at m) (stage_waiting m.ending m ws e)

pub unchanged_seen : (m n : Meaning) → IsUnchanged m n → seen n ≡ seen m
unchanged_seen m n h = ap seen h.others ∙ seen_waiting m n.waiting h.waiting

-- a step that was made is one of what is shown
pub record IsStep (m n : Meaning) (answer : Moved) : Type 0 where
  pub answer_is : answer ≡ answer_of (seen m)
  pub left : seen n ≡ left_of (seen m)

module _ (m : Meaning) (e : m.ending ≡ None) where
  q : Program
  q = seen_program m.program

  at : Seen
  at = seen_at m (Running (state_of m))

  by_move : (n : Meaning) (answer : Moved) (a : Move) → gypsy_step (seen_program m.program) (sizes_of m) (state_of m) ≡ a →
      answer ≡ answer_by a → seen n ≡ after_move (seen_at m (Running (state_of m))) a → IsStep m n answer
  unfolding answer_of left_of
  by_move n answer a step is left =
      let v = seen_at m (Running (state_of m)) in
      record {
        answer_is =
            is ∙ ap answer_by (sym step) ∙ ap (λ w. answer_from w w.stage) (sym (running m e));
        left = left ∙ ap (after_move v) (sym step) ∙ ap (λ w. left_from w w.stage) (sym (running m e));
      }

  pub moves_step : (n : Meaning) → Moves m n → IsStep m n moved.Moved
  moves_step n h =
      let g = h.goes.0 in
      let stage : stage_by n.ending n ≡ Running (bare g) = ap (λ o. stage_by o n) (h.ending ∙ e) ∙ ap Running (sym h.goes.2) in
      by_move n moved.Moved (Next g) h.goes.1 refl (alike m n (Running (bare g)) (spent_at g) h.keeps stage h.goes.3)

  pub finishes_step : (n : Meaning) → EndsRun m n → IsStep m n moved.Ended
  finishes_step n h =
      let x = map (λ v. v.1) n.variables.items in
      let c = way_of h.ended_by in
      let stage : stage_by n.ending n ≡ Finished x c = ap (λ o. stage_by o n) h.ending in
      by_move n moved.Ended (Ended x c h.spent) h.ends refl (alike m n (Finished x c) h.spent.count h.keeps stage h.costs)

-- A run that belongs to a source.

abbrev opened : SourceOf → Meaning → Seen
opened s m = opening (program_of s) (sizes_of m) m.values.items

module _ (s : SourceOf) (ns : List Need) (m : Meaning) (b : BelongsTo s ns m) where
  pub program_is : seen_program m.program ≡ program_of s
  unfolding seen
  program_is = ap (λ v. v.program) b.run ∙ (after_same b.number (opened s m)).program

  pub seen_fits : Fits (seen m)
  seen_fits =
      let q = program_of s in
      let start : Fits (opened s m) = opening_fits q (sizes_of m) m.values.items b.accepted.fits b.values_fit b.sizes_suffice.temp b.sizes_suffice.ctrl in
      let P : Seen → Type 0 = Fits in
      subst P (sym b.run) (after_fits b.number (opened s m) b.accepted.fits start)

  pub seen_reached : Reached (seen m)
  seen_reached =
      let P : Seen → Type 0 = Reached in
      subst P (sym b.run) (after_reached b.number (opened s m) (opening_reached (program_of s) (sizes_of m) m.values.items))

  pub is_run : IsRunOf s m
  unfolding seen
  is_run = record { program = program_is; fits = seen_fits.0 }

  pub state_fits : m.ending ≡ None → StateFits (seen_program m.program) (state_of m)
  unfolding seen
  state_fits e =
      let P : Option Ending → Type 0 = λ o. StageFits (seen_program m.program) (stage_by o m) in
      subst P e seen_fits.0

  pub ready : m.ending ≡ None → IsReady ns m
  ready e =
      let same = program_is in
      let P : Program → Type 0 = λ q. AreNeeds q ns in
      let Q : Option Ending → Type 0 = IsKept m in
      let R : Program → Type 0 = λ q. (p : ℕ) → let proc = proc_at q p in length (variables_of m.names.items p) ≡ length proc.formals + length proc.locals in
      record {
        needs_are = subst P (sym same) b.needs_are;
        needs_small = b.needs_small;
        state_fits = state_fits e;
        held = subst Q e b.kept;
        there = number_same s m.names.items b.names m.program same;
        sized = subst R (sym same) (λ p. ap length (variables_same s m.names.items b.names p) ∙ variables_sized s p);
      }

  -- with what a step keeps, and what it leaves
  belongs_after : (n : Meaning) → Keeps m n → seen n ≡ left_of (seen m) → IsKept n n.ending → BelongsTo s ns n
  belongs_after n k left kept =
      let q = program_of s in
      let values : n.values.items ≡ m.values.items = ap (λ v. v.items) k.values in
      let sizes : sizes_of n ≡ sizes_of m = ap₂ stack_sizes k.ctrl k.temp in
      let P : List ValueOf → Type 0 = VarsFit (proc_at q q.main).formals in
      let Q : StackSizes → Type 0 = Suffices q in
      record {
        accepted = b.accepted;
        needs_are = b.needs_are;
        needs_small = b.needs_small;
        values_fit = subst P (sym values) b.values_fit;
        sizes_suffice = subst Q (sym sizes) b.sizes_suffice;
        number = suc b.number;
        run = left ∙ ap left_of b.run ∙ sym (after_last b.number (opened s m)) ∙ sym
            (ap₂ (λ (w : StackSizes) (x : List ValueOf). after (suc b.number) (opening q w x)) sizes values);
        names = ap (λ t. map seen_names t.items) k.names ∙ b.names;
        unnamed_are = k.unnamed ∙ b.unnamed_are;
        kept = kept;
      }

  moves_belongs : m.ending ≡ None → (n : Meaning) → Moves m n → BelongsTo s ns n
  moves_belongs e n h =
      let P : Option Ending → Type 0 = IsKept n in
      let none : n.ending ≡ None = h.ending ∙ e in
      belongs_after n h.keeps (moves_step m e n h).left (subst P (sym none) (h.held (ready e).held))

  finishes_belongs : m.ending ≡ None → (n : Meaning) → EndsRun m n → BelongsTo s ns n
  finishes_belongs e n h =
      let P : Option Ending → Type 0 = IsKept n in
      let q = seen_program m.program in
      let Q : List Frame → Type 0 = λ fs. FramesFit q m.procedure (frames_of (map (λ v. v.1) m.variables.items) fs) in
      let main : m.procedure ≡ q.main = subst Q h.alone (state_fits e).2 in
      let top = (ready e).held.top.named in
      let named : map (λ v. v.0) n.variables.items ≡ take (length (proc_at q q.main).formals) (variables_of m.names.items q.main) =
      h.named ∙ ap (take (length (proc_at q q.main).formals)) (top ∙ ap (variables_of m.names.items) main) in
      let all : IsKept n (Some h.ended_by) =
      named
      ∙ ap₂ (λ (p : Program) (t : List Names). take (length (proc_at p p.main).formals) (variables_of t p.main)) (sym (ap seen_program h.keeps.program))
      (sym (ap (λ t. t.items) h.keeps.names)) in
      belongs_after n h.keeps (finishes_step m e n h).left (subst P (sym h.ending) all)

  -- by its answer
  pub does_step : m.ending ≡ None → (n : Meaning) (answer : Moved) → Does m n answer → IsStep m n answer
  does_step e n moved.Moved h = moves_step m e n h
  does_step e n moved.Ended h = finishes_step m e n h

  pub does_belongs : m.ending ≡ None → (n : Meaning) (answer : Moved) → Does m n answer → BelongsTo s ns n
  does_belongs e n moved.Moved h = moves_belongs e n h
  does_belongs e n moved.Ended h = finishes_belongs e n h

  kept_waiting : (o : Option Ending) (ws : Vec Frame) → ws.items ≡ m.waiting.items → IsKept m o → IsKept (record m { waiting = ws }) o
  kept_waiting None ws e h =
      let q = seen_program m.program in
      let P : List Frame → Type 0 = λ fs. IsActivation q m.names.items m.procedure m.variables.items m.used_temp m.used_ctrl (kept_frames fs) in
      let Q : List Frame → Type 0 = λ fs. AreActivations q m.names.items (reverse fs) in
      record { top = subst P (sym e) h.top; waiting = subst Q (sym e) h.waiting }
  kept_waiting (Some o) ws e h = h

  pub unchanged_belongs : (n : Meaning) → IsUnchanged m n → BelongsTo s ns n
  unchanged_belongs n h =
      let P : Meaning → Type 0 = BelongsTo s ns in
      let all : BelongsTo s ns (record m { waiting = n.waiting }) = record {
        accepted = b.accepted;
        needs_are = b.needs_are;
        needs_small = b.needs_small;
        values_fit = b.values_fit;
        sizes_suffice = b.sizes_suffice;
        number = b.number;
        run = seen_waiting m n.waiting h.waiting ∙ b.run;
        names = b.names;
        unnamed_are = b.unnamed_are;
        kept = kept_waiting m.ending n.waiting h.waiting b.kept;
      } in
      subst P (sym h.others) all

-- a run that ended stays as it is
stays : (v : Seen) (t : Stage) → v.stage ≡ t → is_over t ≡ true → (moved.Ended ≡ answer_from v t) × (v ≡ left_from v t)
stays v (Running g) e h = absurd cc
stays v (Finished x c) e h = (refl, refl)

pub over_stays : (m : Meaning) → is_over (seen m).stage ≡ true → IsStep m m moved.Ended
unfolding answer_of left_of
over_stays m h = let p = stays (seen m) (seen m).stage refl h in record { answer_is = p.0; left = p.1 }

going : (o : Option Ending) (m : Meaning) → is_over (stage_by o m) ≡ false → o ≡ None
going None m h = refl
going (Some e) m h = absurd cc

-- and one that isn't over has no end
pub not_over : (m : Meaning) → is_over (seen m).stage ≡ false → m.ending ≡ None
unfolding seen
not_over m h = going m.ending m h
