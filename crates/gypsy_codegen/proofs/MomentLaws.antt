-- Every moment of the step machine is one of the generated system, and costs an instruction at least.
use Rattle.std.proofs.Common.{◌≡◌, ℕ, zero, suc, ◌+◌, ◌<◌, ◌≤◌, List, [], ◌∷◌, ◌++◌, length, map, Bool, true, false, refl, sym, ap, ◌∙◌, subst, arith}
use Rattle.std.{proofs.Common.length-append, specs.Prelude.slice_get, proofs.lemmas.List.length-map, proofs.lemmas.Option.slice_get_within}
use Rattle.stack_text.specs.Values.{ValueOf}
use Rattle.piton_words.{specs.declared.word.Word.Word, specs.declared.word.Word.TheVariants.Nat}
use Rattle.piton_check.specs.Instruction.{SystemView}
use Rattle.piton_semantics.specs.State as piton
use Rattle.piton_semantics.{specs.State.{PitonState, locals_of}, specs.Law.Steps}
use Rattle.gypsy_syntax.{specs.declared.predef.Predef.Predef, specs.Programs.{ConditionOf, Routine, Space, Arg, Program, proc_at, shapes_of, body_of, Stmt}}
use Rattle.gypsy_syntax.{specs.Programs.{Skip, NoOp, Signal, Seq, Loop, If, Begin, Call, Apply}, specs.ProgramFits.ProgramFits, proofs.PredefLaws.costs_some}
use Rattle.gypsy_syntax.{specs.Predefined.predef_effect, specs.Effects.{Effect, Normal, Fault, Beyond, value_at, is_true_value}, specs.ValuesFit.VarsFit}
use Rattle.gypsy_space.{specs.Costs.{Tally, spend, predef_spend, out_spend, main_spend}, specs.Needs.{StackSizes, vars_of, lack_of, call_spend}}
use Rattle.gypsy_space.{specs.declared.need.Lack.Lack, specs.declared.need.Lack.TheVariants.{Nothing, Temporary, Control}}
use Rattle.gypsy_semantics.{specs.Calls.{CurrentCondition, has_cond, is_leave, is_passed_on, matching, values_of, copied_out}, specs.Machine.{Item, Do, Back}}
use Rattle.gypsy_semantics.specs.Machine.{JoinThen, JoinOne, Guard, Out, Frame, Held, State, At, Move, Next, Ended, opens, settle, open_on, stop_if, raise}
use Rattle.gypsy_semantics.specs.Machine.{either_move, apply_step, call_step, do_step, gypsy_step, used, Ending, Over, Going, run, go_on, start}
use Rattle.gypsy_semantics.{specs.Kept.{FramesFit, StateFits, MoveFits}, specs.Views.RunView.{spent_at, top_way}, proofs.Keeping.{step_keeps, start_fits}}
use Rattle.gypsy_semantics.{proofs.Runs.agree, proofs.LendingLaws.actuals_length}
use Rattle.gypsy_codegen.{specs.WordsOf.{starts, local_shapes, number_of_way}, specs.Generated.{offset, generated_view}, specs.Memory.{base_of, index_of}}
use Rattle.gypsy_codegen.{specs.Memory.{frame_of, index_words}, specs.Showing.{cc_of, Waits, StandsAs}, specs.Law.{Leads, tally_of}, specs.Whole.opened}
use Rattle.gypsy_codegen.{specs.Whole.{Reached, same, later}, specs.Moments.{moved_on, moment, moment_from, AreActivations, ReadsAs, HasMoment}}
use Rattle.gypsy_codegen.{specs.Moments.{EachMomentIsReached, CostsSome, EachStepCosts, CountsGrow}, proofs.StackLaws.starts-length, proofs.LayoutLaws.frame_at}
use Rattle.gypsy_codegen.{proofs.LayoutLaws.{newest, local_number}, proofs.PushLaws.PredefsRun, proofs.RunLaws.{counts, counted_runs, each_is_shown}}
use Rattle.gypsy_codegen.proofs.RunLaws.{place_is_mark, variables_stand}

-- ---- the step machine

module _ (q : Program) (sizes : StackSizes) where
  -- a state at which it stands is reached
  pub moment_reached : (j : ℕ) (g h : State) → moment q sizes j g ≡ Next h → Reached q sizes g h
  moment_reached zero g h e = let is : g ≡ h = cc in subst (λ (k : State). Reached q sizes g k) is same
  moment_reached (suc j) g h e = by_move (gypsy_step q sizes g) refl e (λ k f. moment_reached j k h f)
    where
      by_move : (m : Move) → gypsy_step q sizes g ≡ m → moved_on m (moment q sizes j) ≡ Next h →
          ((k : State) → moment q sizes j k ≡ Next h → Reached q sizes k h) → Reached q sizes g h
      by_move (Next k) step f go = later step (go k f)
      by_move (Ended x c t) step f go = absurd cc

  -- where it has ended, its run is over
  pub moment_over : (j : ℕ) (g : State) (x : List ValueOf) (c : CurrentCondition) (t : Tally) → moment q sizes j g ≡ Ended x c t → run q sizes j g ≡ Over x c t
  moment_over zero g x c t e = absurd cc
  moment_over (suc j) g x c t e = by_move (gypsy_step q sizes g) e (λ k f. moment_over j k x c t f)
    where
      ending_of : Move → Ending
      ending_of (Next k) = Going
      ending_of (Ended y d u) = Over y d u

      by_move : (m : Move) → moved_on m (moment q sizes j) ≡ Ended x c t →
          ((k : State) → moment q sizes j k ≡ Ended x c t → run q sizes j k ≡ Over x c t) → go_on m (run q sizes j) ≡ Over x c t
      by_move (Next k) f go = go k f
      by_move (Ended y d u) f go = ap ending_of f

  module _ (fits : ProgramFits q) where
    reached_fits : (g h : State) → StateFits q g → Reached q sizes g h → StateFits q h
    reached_fits g h sf same = sf
    reached_fits g h sf (later {h = k} e rest) = reached_fits k h (subst (MoveFits q) e (step_keeps q sizes fits g sf)) rest

    pub moment_fits : (v : List ValueOf) (j : ℕ) (g : State) → VarsFit (proc_at q q.main).formals v → moment_from q sizes v j ≡ Next g → StateFits q g
    moment_fits v j g vf e = reached_fits (start q v) g (start_fits q sizes fits v vf) (moment_reached j (start q v) g e)

-- ---- what a state that shows one of the step machine reads as

condition_is : (w : List Item) → cc_of w ≡ number_of_way (top_way w)
condition_is [] = refl
condition_is (Do s ∷ w) = refl
condition_is (Back place s ∷ w) = refl
condition_is (JoinThen place v ∷ w) = refl
condition_is (JoinOne place ∷ w) = refl
condition_is (Guard place cs v ∷ w) = refl
condition_is (Out c ∷ w) = refl

module _ (q : Program) where
  -- the newest frame has a local for each variable
  pub frame_number : (p : ℕ) (fs : List Frame) → FramesFit q p fs → length (index_words (frame_of q p fs)) ≡ vars_of (proc_at q p)
  frame_number p [] g =
      let d = proc_at q p in
      omega (arith, length-map (starts 0 (shapes_of d)) (λ n. Nat n), starts-length 0 (shapes_of d), length-append d.formals (local_shapes d), local_number d)
  frame_number p (Held c x w xs cs ∷ fs) g =
      let d = proc_at q p in
      let f = λ (i : ℕ). index_of q c fs i in
      let st = starts (base_of q c fs) (local_shapes d) in
      omega (
        arith,
        length-map (st ++ map f xs) (λ n. Nat n),
        length-append st (map f xs),
        starts-length (base_of q c fs) (local_shapes d),
        local_number d,
        length-map xs f,
        actuals_length (shapes_of (proc_at q c)) d.formals xs g.0.actuals,
      )

  are_activations : (p : ℕ) (fs : List Frame) (frames : List piton.Frame) → FramesFit q p fs → Waits q p fs frames → AreActivations q p fs frames
  are_activations p [] frames g wt = subst (AreActivations q p []) (sym wt.2) (frame_number p [] g)
  are_activations p (Held c x w xs cs ∷ fs) frames g wt =
      subst (AreActivations q p (Held c x w xs cs ∷ fs)) (sym wt.2) (frame_number p (Held c x w xs cs ∷ fs) g, are_activations c fs wt.1 g.3 wt.6)

  pub reads_as : (a : PitonState) (p : ℕ) (x : List ValueOf) (w : List Item) (fs : List Frame) (t : Tally) → StateFits q (At p x w fs t)
      → StandsAs q a (At p x w fs t) → ReadsAs q a p x w fs
  reads_as a p x w fs t sf sh =
      let new = newest q p fs a.frames sh.frames in
      let locals : locals_of a.frames ≡ index_words (frame_of q p fs) = ap locals_of new.is in
      record {
        program = sh.program;
        place = place_is_mark q a (At p x w fs t) sh;
        condition = sh.condition ∙ ap (λ (n : ℕ). (Nat n ∷ []) ∷ []) (condition_is w);
        frames = are_activations p fs a.frames sf.2 sh.frames;
        variables = λ b shape e. record {
          index = index_of q p fs b;
          local = ap (λ (ws : List Word). slice_get ws (offset q p b)) locals ∙ frame_at q p fs b sf.2 (slice_get_within (shapes_of (proc_at q p)) b shape e);
          words = variables_stand q a p x w fs t b shape sf sh e;
        };
      }

pub each_moment_is_reached : PredefsRun → EachMomentIsReached
each_moment_is_reached bodies q sizes base v j fits sz vf = by_moment (moment_from q sizes v j) refl
  where
    S : SystemView
    S = generated_view q sizes base

    by_moment : (m : Move) → moment_from q sizes v j ≡ m → HasMoment q (generated_view q sizes base) (opened q sizes base v) m
    by_moment (Next (At p x w fs t)) e =
        let l : Leads q S (opened q sizes base v) (tally_of (start q v)) (At p x w fs t) =
        each_is_shown bodies q sizes base v (At p x w fs t) fits sz vf (moment_reached q sizes j (start q v) (At p x w fs t) e) in
        let k = counts l.cost l.steps t l.tally in
        record {
          to = l.to;
          runs = subst (λ i. Steps S i t.count (opened q sizes base v) l.to) k.0 (subst (λ i. Steps S l.steps i (opened q sizes base v) l.to) k.1 l.runs);
          reads = reads_as q l.to p x w fs t (moment_fits q sizes fits v j (At p x w fs t) vf e) l.shows;
        }
    by_moment (Ended x c t) e =
        counted_runs bodies q sizes base v (suc j) x c t fits sz vf ((agree q sizes v).ended j x c t (moment_over q sizes j (start q v) x c t e))

-- ---- no statement that is opened stands on top

abbrev pub IsOpened : List Item → Type 0
IsOpened [] = Unit {0}
IsOpened (Do Skip ∷ w) = ⊥
IsOpened (Do (NoOp place) ∷ w) = Unit {0}
IsOpened (Do (Signal place c) ∷ w) = Unit {0}
IsOpened (Do (Seq a b) ∷ w) = ⊥
IsOpened (Do (Loop place s) ∷ w) = Unit {0}
IsOpened (Do (If place b s v) ∷ w) = Unit {0}
IsOpened (Do (Begin place s cs v) ∷ w) = ⊥
IsOpened (Do (Call place c xs cs) ∷ w) = Unit {0}
IsOpened (Do (Apply place r args) ∷ w) = Unit {0}
IsOpened (Back place s ∷ w) = Unit {0}
IsOpened (JoinThen place v ∷ w) = Unit {0}
IsOpened (JoinOne place ∷ w) = Unit {0}
IsOpened (Guard place cs v ∷ w) = Unit {0}
IsOpened (Out c ∷ w) = Unit {0}

abbrev pub StateOpened : State → Type 0
StateOpened (At p x w fs t) = IsOpened w

abbrev pub MoveOpened : Move → Type 0
MoveOpened (Next g) = StateOpened g
MoveOpened (Ended x c t) = Unit {0}

opens_opened : (s : Stmt) (w ws : List Item) → IsOpened ws → IsOpened (opens s w ws)
opens_opened Skip w ws h = h
opens_opened (NoOp place) w ws h = tt
opens_opened (Signal place c) w ws h = tt
opens_opened (Seq a b) w ws h = opens_opened a (Do b ∷ w) (opens b w ws) (opens_opened b w ws h)
opens_opened (Loop place s) w ws h = tt
opens_opened (If place b s v) w ws h = tt
opens_opened (Begin place s cs v) w ws h = opens_opened s (Guard place cs v ∷ w) (Guard place cs v ∷ w) tt
opens_opened (Call place c xs cs) w ws h = tt
opens_opened (Apply place r args) w ws h = tt

settle_opened : (w : List Item) → IsOpened (settle w)
settle_opened [] = tt
settle_opened (Do s ∷ w) = opens_opened s w (settle w) (settle_opened w)
settle_opened (Back place s ∷ w) = tt
settle_opened (JoinThen place v ∷ w) = tt
settle_opened (JoinOne place ∷ w) = tt
settle_opened (Guard place cs v ∷ w) = tt
settle_opened (Out c ∷ w) = tt

open_opened : (s : Stmt) (w : List Item) → IsOpened (open_on s w)
open_opened s w = opens_opened s w (settle w) (settle_opened w)

stop_opened : (b : Bool) (g h : State) → StateOpened g → StateOpened h → StateOpened (stop_if b g h)
stop_opened true g h x y = x
stop_opened false g h x y = y

raise_opened : (c : ConditionOf) (p : ℕ) (x : List ValueOf) (w : List Item) (fs : List Frame) (t : Tally) → StateOpened (raise c p x w fs t)
raise_opened c p x [] fs t = tt
raise_opened c p x (Do s ∷ w) fs t = raise_opened c p x w fs t
raise_opened c p x (Back place s ∷ w) fs t =
    stop_opened (is_leave c) (At p x (settle w) fs (spend 3 2 t)) (raise c p x w fs t) (settle_opened w) (raise_opened c p x w fs t)
raise_opened c p x (JoinThen place v ∷ w) fs t = raise_opened c p x w fs t
raise_opened c p x (JoinOne place ∷ w) fs t = raise_opened c p x w fs t
raise_opened c p x (Guard place cs v ∷ w) fs t =
    stop_opened (has_cond c cs) (At p x (open_on v (JoinOne place ∷ w)) fs (spend 3 2 t)) (raise c p x w fs t) (open_opened v (JoinOne place ∷ w))
    (raise_opened c p x w fs t)
raise_opened c p x (Out d ∷ w) fs t = raise_opened c p x w fs t

module _ (q : Program) (sizes : StackSizes) where
  either_opened : (b : Bool) (m n : Move) → MoveOpened m → MoveOpened n → MoveOpened (either_move b m n)
  either_opened true m n x y = x
  either_opened false m n x y = y

  call_opened : (l : Lack) (c : ℕ) (xs : List ℕ) (cs : List ConditionOf) (p : ℕ) (x : List ValueOf) (w : List Item) (fs : List Frame) (t : Tally)
      → MoveOpened (call_step q l c xs cs p x w fs t)
  call_opened Nothing c xs cs p x w fs t = open_opened (body_of q c) []
  call_opened Temporary c xs cs p x w fs t = raise_opened Space p x w fs (spend 15 7 t)
  call_opened Control c xs cs p x w fs t = raise_opened Space p x w fs (spend 26 11 t)

  apply_opened : (r : Predef) (args : List Arg) (e : Effect) (p : ℕ) (x : List ValueOf) (w : List Item) (fs : List Frame) (t : Tally)
      → MoveOpened (apply_step r args e p x w fs t)
  apply_opened r args (Normal v) p x w fs t = settle_opened w
  apply_opened r args Fault p x w fs t = raise_opened Routine p x w fs (predef_spend r Fault t)
  apply_opened r args Beyond p x w fs t = raise_opened Routine p x w fs (predef_spend r Beyond t)

  do_opened : (s : Stmt) (p : ℕ) (x : List ValueOf) (w : List Item) (fs : List Frame) (t : Tally) → MoveOpened (do_step q sizes s p x w fs t)
  do_opened Skip p x w fs t = settle_opened w
  do_opened (NoOp place) p x w fs t = settle_opened w
  do_opened (Signal place c) p x w fs t = raise_opened c p x w fs (spend 4 3 t)
  do_opened (Seq a b) p x w fs t = open_opened (Seq a b) w
  do_opened (Loop place s) p x w fs t = open_opened s (Back place s ∷ w)
  do_opened (If place b s v) p x w fs t =
      either_opened (is_true_value (value_at x b)) (Next (At p x (open_on s (JoinThen place v ∷ w)) fs (spend 8 3 t)))
      (Next (At p x (open_on v (JoinOne place ∷ w)) fs (spend 9 4 t)))
      (open_opened s (JoinThen place v ∷ w)) (open_opened v (JoinOne place ∷ w))
  do_opened (Begin place s cs v) p x w fs t = open_opened (Begin place s cs v) w
  do_opened (Call place c xs cs) p x w fs t = call_opened (lack_of q sizes c (used q p fs)) c xs cs p x w fs t
  do_opened (Apply place r args) p x w fs t = apply_opened r args (predef_effect r (values_of x args)) p x w fs t

  step_opened : (g : State) → MoveOpened (gypsy_step q sizes g)
  step_opened (At p x [] [] t) = tt
  step_opened (At p x [] (Held c y w xs cs ∷ fs) t) = settle_opened w
  step_opened (At p x (Do s ∷ w) fs t) = do_opened s p x w fs t
  step_opened (At p x (Back place s ∷ w) fs t) = open_opened (Loop place s) w
  step_opened (At p x (JoinThen place v ∷ w) fs t) = settle_opened w
  step_opened (At p x (JoinOne place ∷ w) fs t) = settle_opened w
  step_opened (At p x (Guard place cs v ∷ w) fs t) = settle_opened w
  step_opened (At p x (Out d ∷ w) [] t) = tt
  step_opened (At p x (Out d ∷ w) (Held c y v xs cs ∷ fs) t) = raise_opened (matching q p cs d) c (copied_out xs x y) v fs (out_spend (is_passed_on q p d) t)

  moment_opened : (j : ℕ) (g : State) → StateOpened g → MoveOpened (moment q sizes j g)
  moment_opened zero g o = o
  moment_opened (suc j) g o = by_move (gypsy_step q sizes g) (step_opened g) (λ k h. moment_opened j k h)
    where
      by_move : (m : Move) → MoveOpened m → ((k : State) → StateOpened k → MoveOpened (moment q sizes j k)) → MoveOpened (moved_on m (moment q sizes j))
      by_move (Next k) h go = go k h
      by_move (Ended x c t) h go = tt

  pub from_opened : (v : List ValueOf) (j : ℕ) (g : State) → moment_from q sizes v j ≡ Next g → StateOpened g
  from_opened v j g e = subst MoveOpened e (moment_opened j (start q v) (open_opened (body_of q q.main) []))

-- ---- what steps cost

predef_spends : (r : Predef) (e : Effect) (t : Tally) → t.count < (predef_spend r e t).count
unfolding spend
predef_spends r e t = let some = costs_some r e in omega (arith, some)

spends : (i k : ℕ) (t : Tally) → 0 < i → t.count < (spend i k t).count
unfolding spend
spends i k t h = omega (arith, h)

out_spends : (b : Bool) (t : Tally) → t.count < (out_spend b t).count
unfolding out_spend
out_spends true t = spends 14 7 t (omega arith)
out_spends false t = spends 17 9 t (omega arith)

main_spends : (b : Bool) (t : Tally) → t.count < (main_spend b t).count
unfolding main_spend
main_spends true t = spends 4 1 t (omega arith)
main_spends false t = spends 7 3 t (omega arith)

call_spends : (q : Program) (c : ℕ) (t : Tally) → t.count < (call_spend q c t).count
unfolding call_spend spend
call_spends q c t = omega arith

stop_spends : (n : ℕ) (b : Bool) (g h : State) → n ≤ spent_at g → n ≤ spent_at h → n ≤ spent_at (stop_if b g h)
stop_spends n true g h x y = x
stop_spends n false g h x y = y

raise_spends : (c : ConditionOf) (p : ℕ) (x : List ValueOf) (w : List Item) (fs : List Frame) (t : Tally) → t.count ≤ spent_at (raise c p x w fs t)
raise_spends c p x [] fs t = omega arith
raise_spends c p x (Do s ∷ w) fs t = raise_spends c p x w fs t
raise_spends c p x (Back place s ∷ w) fs t =
    let more = spends 3 2 t (omega arith) in
    stop_spends t.count (is_leave c) (At p x (settle w) fs (spend 3 2 t)) (raise c p x w fs t) (omega (arith, more)) (raise_spends c p x w fs t)
raise_spends c p x (JoinThen place v ∷ w) fs t = raise_spends c p x w fs t
raise_spends c p x (JoinOne place ∷ w) fs t = raise_spends c p x w fs t
raise_spends c p x (Guard place cs v ∷ w) fs t =
    let more = spends 3 2 t (omega arith) in
    stop_spends t.count (has_cond c cs) (At p x (open_on v (JoinOne place ∷ w)) fs (spend 3 2 t)) (raise c p x w fs t) (omega (arith, more))
    (raise_spends c p x w fs t)
raise_spends c p x (Out d ∷ w) fs t = raise_spends c p x w fs t

-- a condition raised after something was spent
raised : (n : ℕ) (c : ConditionOf) (p : ℕ) (x : List ValueOf) (w : List Item) (fs : List Frame) (t : Tally) → n < t.count → n < spent_at (raise c p x w fs t)
raised n c p x w fs t h = let more = raise_spends c p x w fs t in omega (arith, h, more)

module _ (q : Program) (sizes : StackSizes) where
  either_costs : (b : Bool) (g : State) (m n : Move) → CostsSome g m → CostsSome g n → CostsSome g (either_move b m n)
  either_costs true g m n x y = x
  either_costs false g m n x y = y

  call_costs : (l : Lack) (place c : ℕ) (xs : List ℕ) (cs : List ConditionOf) (p : ℕ) (x : List ValueOf) (w : List Item) (fs : List Frame) (t : Tally)
      → CostsSome (At p x (Do (Call place c xs cs) ∷ w) fs t) (call_step q l c xs cs p x w fs t)
  call_costs Nothing place c xs cs p x w fs t = call_spends q c t
  call_costs Temporary place c xs cs p x w fs t = raised t.count Space p x w fs (spend 15 7 t) (spends 15 7 t (omega arith))
  call_costs Control place c xs cs p x w fs t = raised t.count Space p x w fs (spend 26 11 t) (spends 26 11 t (omega arith))

  apply_costs : (s : Stmt) (r : Predef) (args : List Arg) (e : Effect) (p : ℕ) (x : List ValueOf) (w : List Item) (fs : List Frame) (t : Tally)
      → CostsSome (At p x (Do s ∷ w) fs t) (apply_step r args e p x w fs t)
  apply_costs s r args (Normal v) p x w fs t = predef_spends r (Normal v) t
  apply_costs s r args Fault p x w fs t = raised t.count Routine p x w fs (predef_spend r Fault t) (predef_spends r Fault t)
  apply_costs s r args Beyond p x w fs t = raised t.count Routine p x w fs (predef_spend r Beyond t) (predef_spends r Beyond t)

  do_costs : (s : Stmt) (p : ℕ) (x : List ValueOf) (w : List Item) (fs : List Frame) (t : Tally) → IsOpened (Do s ∷ w)
      → CostsSome (At p x (Do s ∷ w) fs t) (do_step q sizes s p x w fs t)
  do_costs Skip p x w fs t o = absurd o
  do_costs (NoOp place) p x w fs t o = spends 1 1 t (omega arith)
  do_costs (Signal place c) p x w fs t o = raised t.count c p x w fs (spend 4 3 t) (spends 4 3 t (omega arith))
  do_costs (Seq a b) p x w fs t o = absurd o
  do_costs (Loop place s) p x w fs t o = spends 1 1 t (omega arith)
  do_costs (If place b s v) p x w fs t o =
      either_costs (is_true_value (value_at x b)) (At p x (Do (If place b s v) ∷ w) fs t)
      (Next (At p x (open_on s (JoinThen place v ∷ w)) fs (spend 8 3 t))) (Next (At p x (open_on v (JoinOne place ∷ w)) fs (spend 9 4 t)))
      (spends 8 3 t (omega arith)) (spends 9 4 t (omega arith))
  do_costs (Begin place s cs v) p x w fs t o = absurd o
  do_costs (Call place c xs cs) p x w fs t o = call_costs (lack_of q sizes c (used q p fs)) place c xs cs p x w fs t
  do_costs (Apply place r args) p x w fs t o = apply_costs (Apply place r args) r args (predef_effect r (values_of x args)) p x w fs t

  step_costs : (g : State) → StateOpened g → CostsSome g (gypsy_step q sizes g)
  step_costs (At p x [] [] t) o = spends 5 2 t (omega arith)
  step_costs (At p x [] (Held c y w xs cs ∷ fs) t) o = spends 12 6 t (omega arith)
  step_costs (At p x (Do s ∷ w) fs t) o = do_costs s p x w fs t o
  step_costs (At p x (Back place s ∷ w) fs t) o = spends 1 1 t (omega arith)
  step_costs (At p x (JoinThen place v ∷ w) fs t) o = spends 2 2 t (omega arith)
  step_costs (At p x (JoinOne place ∷ w) fs t) o = spends 1 1 t (omega arith)
  step_costs (At p x (Guard place cs v ∷ w) fs t) o = spends 2 2 t (omega arith)
  step_costs (At p x (Out d ∷ w) [] t) o = main_spends (is_passed_on q q.main d) t
  step_costs (At p x (Out d ∷ w) (Held c y v xs cs ∷ fs) t) o =
      raised t.count (matching q p cs d) c (copied_out xs x y) v fs (out_spend (is_passed_on q p d) t) (out_spends (is_passed_on q p d) t)

  counts_grow_from : (j : ℕ) (g h : State) → StateOpened g → moment q sizes j g ≡ Next h → spent_at g + j ≤ spent_at h
  counts_grow_from zero g h o e = let is : g ≡ h = cc in omega (arith, ap spent_at is)
  counts_grow_from (suc j) g h o e = by_move (gypsy_step q sizes g) (step_opened q sizes g) (step_costs g o) e (λ k u f. counts_grow_from j k h u f)
    where
      by_move : (m : Move) → MoveOpened m → CostsSome g m → moved_on m (moment q sizes j) ≡ Next h →
          ((k : State) → StateOpened k → moment q sizes j k ≡ Next h → spent_at k + j ≤ spent_at h) → spent_at g + suc j ≤ spent_at h
      by_move (Next k) u some f go = let rest = go k u f in omega (arith, some, rest)
      by_move (Ended x c t) u some f go = absurd cc

pub each_step_costs : EachStepCosts
each_step_costs q sizes v j g e = step_costs q sizes g (from_opened q sizes v j g e)

pub counts_grow : CountsGrow
counts_grow q sizes v j g e =
    let all = counts_grow_from q sizes j (start q v) g (open_opened (body_of q q.main) []) e in
    omega (arith, all)
