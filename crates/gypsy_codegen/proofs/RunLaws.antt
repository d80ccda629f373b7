-- The start, each reached state, and a whole run.
use Rattle.std.{proofs.Common.{◌≡◌, ℕ, zero, suc, ◌+◌, ◌-◌, List, [], ◌∷◌, length, map, refl, sym, ap, ◌∙◌, subst, arith, ◌<◌, drop}, specs.Prelude.reverse}
use Rattle.std.{specs.Prelude.{◌==◌, slice_get, slice_index, nat_lt}, proofs.lemmas.Bool.{eq-eqb, cond-true, lt-ltb}, proofs.lemmas.List.append-nil}
use Rattle.std.proofs.lemmas.Option.{slice_get_within}
use Rattle.stack_text.specs.Values.{ValueOf, item_count}
use Rattle.piton_words.{specs.declared.word.Word.TheVariants.Nat, specs.declared.word.Word.Word}
use Rattle.piton_check.specs.Instruction.{SystemView, ProgramView}
use Rattle.piton_semantics.specs.State as piton
use Rattle.piton_semantics.{specs.State.{PitonState, program_of, element}, specs.StateView.opening, proofs.RunLaws.halts, specs.Law.Steps}
use Rattle.gypsy_syntax.{specs.Programs.{Program, proc_at, body_of, shapes_of, ConditionOf}, specs.ProgramFits.ProgramFits, specs.Effects.value_at}
use Rattle.gypsy_syntax.specs.ValuesFit.{VarsFit}
use Rattle.gypsy_space.{specs.Costs.{Tally, spend, start_tally}, specs.Needs.StackSizes, proofs.SpendLaws.{spend_two, spend_none}}
use Rattle.gypsy_semantics.{specs.Calls.{CurrentCondition, main_start, copied_out}, specs.Machine.{Item, Do, Back, JoinThen, JoinOne, Guard, Out, Frame, State}}
use Rattle.gypsy_semantics.specs.Machine.{At, Move, Next, Ended, Ending, Over, Going, go_on, run, gypsy_step, start, open_on, Held, used}
use Rattle.gypsy_semantics.{specs.Kept.{StateFits, MoveFits, FramesFit}, specs.Room.{StateRoom, MoveRoom}, specs.Counted.counted_meaning}
use Rattle.gypsy_semantics.{proofs.CountLaws.meaning-uncounted, proofs.Runs.agree, proofs.Keeping.{step_keeps, start_fits}, proofs.Rooms.step_room}
use Rattle.gypsy_semantics.{proofs.Rooms.start_room, proofs.EffectLaws.value_fits, proofs.ReachLaws.counted_too, proofs.LendingLaws.copied_miss}
use Rattle.gypsy_codegen.{specs.WordsOf.{words_of_values, starts, words_before, local_shapes}, specs.Generated.{Scope, size, generated_view}}
use Rattle.gypsy_codegen.{specs.Memory.{stack_of, index_of, base_of}, proofs.PushLaws.{PredefsRun, Live}, specs.Showing.{Stands, Tops, StandsAs, rest_size}}
use Rattle.gypsy_codegen.{specs.Showing.mark_of, specs.Law.{Leads, Halts, Follows, tally_of}, specs.Whole.{opened, SizesFit, CountedRuns, MeaningRuns}}
use Rattle.gypsy_codegen.specs.Whole.{LimitedRunHalts, StartShows, Reached, same, later, EachIsShown, PlaceIsMark, VariablesStand, WaitingStand}
use Rattle.gypsy_codegen.{specs.Whole.{WaitingVariablesStand, ActualsShare, RaiseFollows}, proofs.StackLaws.{push_all-length, below_pushed, value_words}}
use Rattle.gypsy_codegen.{proofs.LayoutLaws.{height, low_fits, index_fits, reads_at}, proofs.StepLaws.{steps_append, pushed_reverse, program_is}}
use Rattle.gypsy_codegen.{proofs.StandLaws.{body_stands, tops, leads, raise_leads}, proofs.RowLaws.steps_follow}
use Rattle.gypsy_predef.specs.Runs.{words_of_value}

-- The start.

pub start_shows : StartShows
start_shows q sizes base v fits =
    let x = main_start q v in
    let ws = words_of_values x in
    let b = tops q q.main 0 (open_on (body_of q q.main) []) (body_stands q q.main) in
    let is = program_is q sizes base q.main fits.main in
    let indices : (program_of (generated_view q sizes base) q.main).temporaries ≡ map (λ n. Nat n) (starts 0 (shapes_of (proc_at q q.main))) =
    ap (λ (p : ProgramView). p.temporaries) is ∙ cond-true (q.main == q.main) (map (λ n. Nat n) (starts 0 (shapes_of (proc_at q q.main)))) []
    (eq-eqb q.main q.main refl) in
    let frame : List Rattle.piton_words.specs.declared.word.Word.Word → List piton.Frame = λ l. record { locals = l; program = q.main; place = 0 } ∷ [] in
    record {
      program = refl;
      tops = b.0;
      condition = ap (λ n. (Nat n ∷ []) ∷ []) (sym b.1);
      stack = sym (pushed_reverse ws [] ∙ append-nil (reverse ws));
      frames = (q.main, 0, ap frame indices);
    }

-- Runs.

leads_on : {q : Program} {s : SystemView} {a : PitonState} {t : Tally} {g k : State} (l : Leads q s a t g) → Leads q s l.to (tally_of g) k → Leads q s a t k
leads_on {q} {s} {a} {t} {g} {k} l m = record {
  steps = l.steps + m.steps;
  cost = l.cost + m.cost;
  to = m.to;
  runs = steps_append s l.steps l.cost m.steps m.cost a l.to m.to l.runs m.runs;
  tally = m.tally ∙ ap (spend m.cost m.steps) l.tally ∙ spend_two m.cost m.steps l.cost l.steps t;
  shows = m.shows;
}

halts_on : {q : Program} {s : SystemView} {a : PitonState} {t : Tally} {g : State} {x : List ValueOf} {c : CurrentCondition} {u : Tally}
    (l : Leads q s a t g) → Halts s l.to (tally_of g) x c u → Halts s a t x c u
halts_on {q} {s} {a} {t} {g} {x} {c} {u} l h = record {
  steps = l.steps + h.steps;
  cost = l.cost + h.cost;
  to = h.to;
  runs = steps_append s l.steps l.cost h.steps h.cost a l.to h.to l.runs h.runs;
  tally = h.tally ∙ ap (spend h.cost h.steps) l.tally ∙ spend_two h.cost h.steps l.cost l.steps t;
  halted = h.halted;
  condition = h.condition;
  locals = h.locals;
  stack = h.stack;
}

abbrev HaltsAs : SystemView → PitonState → Tally → Ending → Type 0
HaltsAs s a t (Over x c u) = Halts s a t x c u
HaltsAs s a t Going = Unit {0}

module _ (q : Program) (sizes : StackSizes) (base : ℕ) (bodies : PredefsRun) (fits : ProgramFits q) (sz : SizesFit q sizes) where
  on_from : (a : PitonState) (t : Tally) (g : State) (e : Ending) (l : Leads q (generated_view q sizes base) a t g)
      → HaltsAs (generated_view q sizes base) l.to (tally_of g) e → HaltsAs (generated_view q sizes base) a t e
  on_from a t g (Over x c u) l h = halts_on l h
  on_from a t g Going l h = tt

  move_halts : (a : PitonState) (t : Tally) (mv : Move) (rest : State → Ending) → MoveFits q mv → MoveRoom q sizes mv
      → ((b : PitonState) (g : State) → StateFits q g → StateRoom q sizes g → StandsAs q b g
      → HaltsAs (generated_view q sizes base) b (tally_of g) (rest g)) → Follows q (generated_view q sizes base) a t mv
      → HaltsAs (generated_view q sizes base) a t (go_on mv rest)
  move_halts a t (Next g) rest mf mr h f = on_from a t g (rest g) f (h f.to g mf mr f.shows)
  move_halts a t (Ended x c u) rest mf mr h f = f

  -- where the step machine ends after j steps, the generated system halts with the same
  run_halts : (j : ℕ) (a : PitonState) (g : State) → StateFits q g → StateRoom q sizes g → StandsAs q a g
      → HaltsAs (generated_view q sizes base) a (tally_of g) (run q sizes j g)
  run_halts zero a g sf sr sh = tt
  run_halts (suc j) a g sf sr sh =
      move_halts a (tally_of g) (gypsy_step q sizes g) (run q sizes j) (step_keeps q sizes fits g sf) (step_room q sizes g sr) (λ b h. run_halts j b h)
      (steps_follow bodies q sizes base a g fits sz.small sf sr sh)

  reached : (a : PitonState) (g k : State) → StateFits q g → StateRoom q sizes g → StandsAs q a g → Reached q sizes g k
      → Leads q (generated_view q sizes base) a (tally_of g) k
  reached a g k sf sr sh same = record { steps = 0; cost = 0; to = a; runs = Rattle.piton_semantics.specs.Law.none; tally = spend_none _; shows = sh }
  reached a g k sf sr sh (later {h = h} e rest) =
      let mf = subst (MoveFits q) e (step_keeps q sizes fits g sf) in
      let mr = subst (MoveRoom q sizes) e (step_room q sizes g sr) in
      let f = subst (Follows q (generated_view q sizes base) a (tally_of g)) e (steps_follow bodies q sizes base a g fits sz.small sf sr sh) in
      leads_on f (reached f.to h k mf mr f.shows rest)

pub counts : (cost steps : ℕ) (t : Tally) → t ≡ spend cost steps start_tally → (steps ≡ t.steps) × (cost ≡ t.count)
unfolding spend
counts cost steps t e =
    let c = ap (λ (z : Tally). z.count) e in
    let s = ap (λ (z : Tally). z.steps) e in
    (omega (arith, s), omega (arith, c))

pub counted_runs : PredefsRun → CountedRuns
counted_runs bodies q sizes base v n x c t fits sz vf d =
    let S = generated_view q sizes base in
    let r = (agree q sizes v).done n x c t d in
    let h : Halts S (opened q sizes base v) start_tally x c t =
    subst (HaltsAs S (opened q sizes base v) start_tally) r.1
    (run_halts q sizes base bodies fits sz r.0 (opened q sizes base v) (start q v) (start_fits q sizes fits v vf)
    (start_room q sizes v sz.suffice.temp sz.suffice.ctrl) (start_shows q sizes base v fits)) in
    let k = counts h.cost h.steps t h.tally in
    record {
      to = h.to;
      runs = subst (λ i. Steps S i t.count (opened q sizes base v) h.to) k.0 (subst (λ i. Steps S h.steps i (opened q sizes base v) h.to) k.1 h.runs);
      halted = h.halted;
      condition = h.condition;
      locals = h.locals;
      stack = h.stack;
    }

pub meaning_runs : PredefsRun → MeaningRuns
meaning_runs bodies q sizes base v n x c fits sz vf d =
    let k = counted_too (counted_meaning q sizes v n) x c (meaning-uncounted q sizes v n ∙ d) in
    (k.0, k.1, counted_runs bodies q sizes base v n x c k.0 fits sz vf k.1)

pub limited_run_halts : PredefsRun → LimitedRunHalts
limited_run_halts bodies q sizes base v n x c t k fits sz vf d =
    let r = counted_runs bodies q sizes base v n x c t fits sz vf d in
    let first = opening (generated_view q sizes base) (words_of_values (main_start q v)) in
    (r, halts (generated_view q sizes base) t.steps t.count k first r.to r.runs (omega arith) (omega arith) r.halted)

pub each_is_shown : PredefsRun → EachIsShown
each_is_shown bodies q sizes base v g fits sz vf r =
    reached q sizes base bodies fits sz (opened q sizes base v) (start q v) g (start_fits q sizes fits v vf)
    (start_room q sizes v sz.suffice.temp sz.suffice.ctrl) (start_shows q sizes base v fits) r

-- The mark.

stands_at : (q : Program) (p : ℕ) (env : List Scope) (at : ℕ) (w : List Item) → Stands q p env at w → at + rest_size q w ≡ size q (body_of q p)
stands_at q p env at [] st = omega (arith, st.1)
stands_at q p env at (Do s ∷ w) st = omega (arith, stands_at q p env (at + size q s) w st.1)
stands_at q p env at (Back place s ∷ w) st = omega (arith, stands_at q p st.0 (at + 3) w st.5)
stands_at q p env at (JoinThen place v ∷ w) st = omega (arith, stands_at q p env (at + 2 + size q v + 1) w st.2)
stands_at q p env at (JoinOne place ∷ w) st = omega (arith, stands_at q p env (at + 1) w st.1)
stands_at q p env at (Guard place cs v ∷ w) st = omega (arith, stands_at q p st.0 (at + 3 + size q v + 1) w st.3)
stands_at q p env at (Out c ∷ w) st = absurd st

tops_at : (q : Program) (p at : ℕ) (w : List Item) → Tops q p at w → at ≡ mark_of q p w
tops_at q p at [] o = omega (arith, stands_at q p o.0 at [] o.1)
tops_at q p at (Do s ∷ w) o = omega (arith, stands_at q p o.0 at (Do s ∷ w) o.1)
tops_at q p at (Back place s ∷ w) o = omega (arith, stands_at q p o.0 at (Back place s ∷ w) o.1)
tops_at q p at (JoinThen place v ∷ w) o = omega (arith, stands_at q p o.0 at (JoinThen place v ∷ w) o.1)
tops_at q p at (JoinOne place ∷ w) o = omega (arith, stands_at q p o.0 at (JoinOne place ∷ w) o.1)
tops_at q p at (Guard place cs v ∷ w) o = omega (arith, stands_at q p o.0 at (Guard place cs v ∷ w) o.1)
tops_at q p at (Out c ∷ w) o = o.0

pub place_is_mark : PlaceIsMark
place_is_mark q a (At p x w fs t) sh = tops_at q p a.place w sh.tops

pub variables_stand : VariablesStand
variables_stand q a p x w fs t b shape sf sh e h u g =
    ap (λ z. element z (index_of q p fs b + h)) sh.stack ∙ reads_at q p x fs b h shape u sf.0 sf.2 e g

-- Activations that wait.

pub stack_grows : (q : Program) (p c : ℕ) (x y : List ValueOf) (w : List Item) (xs : List ℕ) (cs : List ConditionOf) (fs : List Frame) (j : ℕ)
    → j < length (stack_of q c (copied_out xs y x) fs) → element (stack_of q p y (Held c x w xs cs ∷ fs)) j
    ≡ element (stack_of q c (copied_out xs y x) fs) j
stack_grows q p c x y w xs cs fs j h = below_pushed (words_of_values (drop (length (proc_at q p).formals) y)) (stack_of q c (copied_out xs y x) fs) j h

waiting_stand : (q : Program) (fs : List Frame) (p : ℕ) (y : List ValueOf) (stack : List Word) → VarsFit (shapes_of (proc_at q p)) y → FramesFit q p fs
    → ((j : ℕ) → j < length (stack_of q p y fs) → element stack j ≡ element (stack_of q p y fs) j) → WaitingStand q stack fs
waiting_stand q [] p y stack v g ext = tt
waiting_stand q (Held c x w xs cs ∷ fs) p y stack v g ext =
    let x' = copied_out xs y x in
    let low = stack_of q c x' fs in
    let ws = words_of_values (drop (length (proc_at q p).formals) y) in
    let vc = low_fits q p c x y w xs cs fs v g in
    let tall : length low ≡ (used q c fs).temp = height q c x' fs vc g.3 in
    let ext' : (j : ℕ) → j < length low → element stack j ≡ element low j =
    λ j h. ext j (omega (arith, h, push_all-length ws low)) ∙ stack_grows q p c x y w xs cs fs j h in (
      λ b shape miss e h u r.
          let fit = value_fits (shapes_of (proc_at q c)) x b shape g.1 e in
          let inside : h < item_count shape =
          omega (arith, slice_get_within (words_of_value (value_at x b)) h u r, value_words (value_at x b) fit.1, ap item_count fit.0) in
          let under : index_of q c fs b + h < length low = omega (arith, index_fits q c fs b shape g.3 e, inside, tall) in
          ext' (index_of q c fs b + h) under ∙ reads_at q c x' fs b h shape u vc g.3 e
          (ap (λ z. slice_get (words_of_value z) h) (copied_miss xs y x b miss) ∙ r),
      waiting_stand q fs c x' stack vc g.3 ext',
    )

pub waiting_variables_stand : WaitingVariablesStand
waiting_variables_stand q a p x w fs t sf sh =
    waiting_stand q fs p x a.stack sf.0 sf.2 (λ j h. ap (λ z. element z j) sh.stack)

pub actuals_share : ActualsShare
actuals_share q p c b x w xs cs fs h =
    let k = length (proc_at q p).formals in
    cond-true (nat_lt b k) (index_of q c fs (slice_index xs b)) (base_of q c fs + words_before (local_shapes (proc_at q p)) (b - k)) (lt-ltb b k h)

pub raise_follows : PredefsRun → RaiseFollows
raise_follows bodies q sizes base p x w fs fr env at c t fits small v g words waits st =
    let a : Live q sizes base p fs fr = record { fits = fits; small = small; bodies = bodies; frames_fit = g; waits = waits; words = words } in
    leads (raise_leads a x (stack_of q p x fs) refl v c w env at t t refl st)
