-- Each step of the step machine, made by quick code.
use Rattle.std.proofs.Common.{◌≡◌, ℕ, ◌+◌, ◌-◌, List, [], ◌∷◌, ◌++◌, length, Bool, true, false, not, Some, None, refl, ap, ◌∙◌, subst, arith, length-append}
use Rattle.std.specs.Prelude.{slice_set}
use Rattle.stack_text.{specs.declared.shape.Kind.TheVariants.Boolean, specs.Values.ValueOf}
use Rattle.fm_words.{specs.Word.word_of_int, specs.declared.condition.Cc.TheVariants.Zs}
use Rattle.fm_words.specs.declared.operation.Op.TheVariants as op
use Rattle.fm_machine.specs.State.{Fm}
use Rattle.fm_code.{specs.Execution.{Parts, CodeAt}, specs.InstructionWords.flag_z, specs.Templates.jump_code, proofs.CodeLaws.{code_front, code_after}}
use Rattle.gypsy_syntax.specs.Programs.{ConditionOf, Routine, Program, Arg, Stmt, Skip, NoOp, Signal, Seq, Loop, If, Begin, Call, Apply}
use Rattle.gypsy_syntax.{specs.declared.predef.Predef.Predef, specs.Predefined.predef_effect, specs.ValuesFit.VarsFit, specs.Effects.{Effect, Normal, Fault}}
use Rattle.gypsy_syntax.specs.Effects.{Beyond, value_at, is_true_value, item_of_value}
use Rattle.gypsy_space.{specs.Costs.{Tally, pay}, specs.Needs.StackSizes}
use Rattle.gypsy_space.specs.declared.event.CostEvent.TheVariants as event
use Rattle.gypsy_semantics.{specs.Calls.{CurrentCondition, values_of, target_of}, proofs.EffectLaws.apply_fits, specs.Machine.{Item, Do, Back, JoinThen}}
use Rattle.gypsy_semantics.specs.Machine.{JoinOne, Guard, Out, At, settle, open_on, either_move, apply_step, gypsy_step, Next}
use Rattle.quick_code.{specs.Access.find_count, specs.Moments.now, specs.PieceRows.operated, specs.Pieces.{by_word_code, jump_when_code}}
use Rattle.quick_code.{proofs.PieceLaws.piece_rows, proofs.StandLaws.{does_then, jumps_then, comes_as}}
use Rattle.quick_gypsy.{specs.Numbers.numbers_of, specs.Layout.{Layout, first_of}, specs.RowCode.{row_code, row_cost}, specs.Quick.{Targets, loop_targets}}
use Rattle.quick_gypsy.{specs.Quick.{test_code, size, quick, signalled, arm_size, arm_code}, specs.QuickRuns.StandsWith, proofs.NumbersLaws.simple_var}
use Rattle.quick_gypsy.{proofs.ItemLaws.test_item, proofs.RowLaws.{RowDoes, row_runs}, proofs.QuickLaws.quick_length}
use Rattle.quick_moments.{specs.QuickMarks.{work_size, targets_above, StandsQuick}, specs.QuickShows.{Site, IsSite, ShowsQuick}, specs.QuickSteps.caught_by}
use Rattle.quick_moments.specs.QuickSteps.{raised_by, under_way_after, quick_step_cost, statement_cost, over_cost, ComesToMove, QuickStepsShow}
use Rattle.quick_moments.{proofs.OpenLaws.{behind, Ahead, moved, tail, settle_ahead, open_ahead, ahead_of}, proofs.RaiseLaws.{gets_at, at_once, jumped}}
use Rattle.quick_moments.proofs.RaiseLaws.{arrives, raise_shows}

-- a test is as long for each target
tested : (L : Layout) (b otherwise : ℕ) → length (test_code L b otherwise) ≡ length (test_code L b 0)
tested L b otherwise =
    let front = by_word_code op.Move flag_z (L.access b) in
    omega (arith, length-append front (jump_when_code Zs otherwise), length-append front (jump_when_code Zs 0))

module _ (k : Site) (is : IsSite k) (q : Program) (sizes : StackSizes) where
  abbrev P : Parts
  P = k.parts

  abbrev L : Layout
  L = k.layout

  abbrev T : Targets
  T = k.targets

  abbrev Stood : Fm → ℕ → List ValueOf → Type 0
  Stood m pc x = StandsWith P k.table k.ctrl m pc x k.areas

  module _ (m : Fm) (p : ℕ) (x : List ValueOf) (f : VarsFit L.shapes x) (at : ℕ) (w : List Item) (t : Tally) where
    -- a predefined call, by its effect
    apply_shows : (r : Predef) (args : List Arg) (code : List ℕ) (n : ℕ) (e : Effect) (h : Stood m at x) → CodeAt P at code
        → length code ≡ size L (Apply 0 r args) → Ahead k (at + size L (Apply 0 r args)) w
        → ((v : ValueOf) → e ≡ Normal v → VarsFit L.shapes (slice_set x (target_of args) v))
        → RowDoes P k.table code n (targets_above L T (at + size L (Apply 0 r args)) w Routine) (now h.x3 h.fl (numbers_of x) k.areas) x k.areas
        (target_of args) e
        → ComesToMove k q n m (caught_by (raised_by e) w) (apply_step r args e p x w [] t)
    apply_shows r args code n (Normal v) h there e st kept does =
        let c = does.2.leads k.ctrl m at is.are_parts h.stands there in
        let y = slice_set x (target_of args) v in
        let to : at + length code ≡ at + size L (Apply 0 r args) = ap (λ i. at + i) e in
        arrives k is n m (at + size L (Apply 0 r args)) p y (settle w) _
        (record { x3 = does.0; fl = does.1; comes = comes_as c refl to }) (kept v refl)
        (settle_ahead k (at + size L (Apply 0 r args)) w st)
    apply_shows r args code n Fault h there e st kept does =
        let c = does.2.leads k.ctrl m at is.are_parts h.stands there in
        raise_shows k is n m p x f Routine (at + size L (Apply 0 r args)) w _ st (record { x3 = does.0; fl = does.1; comes = c })
    apply_shows r args code n Beyond h there e st kept does =
        let c = does.2.leads k.ctrl m at is.are_parts h.stands there in
        raise_shows k is n m p x f Routine (at + size L (Apply 0 r args)) w _ st (record { x3 = does.0; fl = does.1; comes = c })

    -- a test
    test_shows : (place b : ℕ) (s v : Stmt) (e : Bool) → is_true_value (value_at x b) ≡ e → Stood m at x → Ahead k at (Do (If place b s v) ∷ w)
        → ComesToMove k q (find_count (L.access b) + 1 + 1) m None
        (either_move e (Next (At p x (open_on s (JoinThen place v ∷ w)) [] (pay event.IfTrue t)))
        (Next (At p x (open_on v (JoinOne place ∷ w)) [] (pay event.IfFalse t))))
    test_shows place b s v true e h st =
        let start = at + length (test_code L b 0) in
        let otherwise = start + size L s + 2 in
        let last : at + (length (test_code L b 0) + size L s + 2 + size L v) ≡ start + size L s + (2 + size L v) = omega arith in
        let over : otherwise + size L v ≡ start + size L s + (2 + size L v) = omega arith in
        let T' = targets_above L T (start + size L s + (2 + size L v)) w in
        let whole = subst (λ i. CodeAt P at (quick L (targets_above L T i w) at (If place b s v))) last st.code.0 in
        let end = quick L T' otherwise v in
        let middle = jump_code (otherwise + size L v) ++ end in
        let long : length (test_code L b otherwise) ≡ length (test_code L b 0) = tested L b otherwise in
        let c1 = behind P at (length (test_code L b 0)) (test_code L b otherwise) (quick L T' start s ++ middle) long whole in
        let c2 = behind P start (size L s) (quick L T' start s) middle (quick_length L T' start s) c1 in
        let join : Ahead k (start + size L s) (JoinThen place v ∷ w) = record {
          code = (
            subst (λ i. CodeAt P (start + size L s) (jump_code i)) over (code_front P (start + size L s) (jump_code (otherwise + size L v)) end c2),
            (moved k _ _ w last (tail k (If place b s v) at w st)).code,
          );
          plain = st.plain.1;
          ends = omega (arith, st.ends);
        } in
        let var = simple_var L.shapes x b Boolean f st.plain.0.0 in
        let word = word_of_int (item_of_value (value_at x b)) in
        let a = now h.x3 h.fl (numbers_of x) k.areas in
        let a1 = operated op.Move flag_z word a in
        let d1 = (piece_rows P k.table a).by_word op.Move flag_z (L.access b) (first_of L b) word (is.is_layout.reaches b var.bound) var.word in
        let d2 = (piece_rows P k.table a1).jump_not Zs otherwise (test_item (item_of_value (value_at x b)) var.range ∙ ap not e) in
        let c = (does_then d1 d2).leads k.ctrl m at is.are_parts h.stands
        (code_front P at (test_code L b otherwise) (quick L T' start s ++ middle) whole) in
        arrives k is (find_count (L.access b) + 1 + 1) m start p x (open_on s (JoinThen place v ∷ w)) (pay event.IfTrue t)
        (record { x3 = a1.x3; fl = a1.fl; comes = comes_as c refl (ap (λ i. at + i) long) }) f
        (open_ahead k s start (JoinThen place v ∷ w) (code_front P start (quick L T' start s) middle c1) st.plain.0.1 join)
    test_shows place b s v false e h st =
        let start = at + length (test_code L b 0) in
        let otherwise = start + size L s + 2 in
        let last : at + (length (test_code L b 0) + size L s + 2 + size L v) ≡ otherwise + size L v = omega arith in
        let T' = targets_above L T (otherwise + size L v) w in
        let whole = subst (λ i. CodeAt P at (quick L (targets_above L T i w) at (If place b s v))) last st.code.0 in
        let end = quick L T' otherwise v in
        let middle = jump_code (otherwise + size L v) ++ end in
        let long : length (test_code L b otherwise) ≡ length (test_code L b 0) = tested L b otherwise in
        let c1 = behind P at (length (test_code L b 0)) (test_code L b otherwise) (quick L T' start s ++ middle) long whole in
        let c2 = behind P start (size L s) (quick L T' start s) middle (quick_length L T' start s) c1 in
        let c3 = code_after P (start + size L s) (jump_code (otherwise + size L v)) end c2 in
        let rest = moved k _ _ w last (tail k (If place b s v) at w st) in
        let join : Ahead k (otherwise + size L v) (JoinOne place ∷ w) =
        record { code = rest.code; plain = rest.plain; ends = omega (arith, rest.ends) } in
        let var = simple_var L.shapes x b Boolean f st.plain.0.0 in
        let word = word_of_int (item_of_value (value_at x b)) in
        let a = now h.x3 h.fl (numbers_of x) k.areas in
        let a1 = operated op.Move flag_z word a in
        let d1 = (piece_rows P k.table a).by_word op.Move flag_z (L.access b) (first_of L b) word (is.is_layout.reaches b var.bound) var.word in
        let d2 = (piece_rows P k.table a1).jump_when Zs otherwise (test_item (item_of_value (value_at x b)) var.range ∙ ap not e) in
        let c = (jumps_then d1 d2).leads k.ctrl m at is.are_parts h.stands
        (code_front P at (test_code L b otherwise) (quick L T' start s ++ middle) whole) in
        arrives k is (find_count (L.access b) + 1 + 1) m otherwise p x (open_on v (JoinOne place ∷ w)) (pay event.IfFalse t)
        (record { x3 = a1.x3; fl = a1.fl; comes = c }) f
        (open_ahead k v otherwise (JoinOne place ∷ w) c3 st.plain.0.2 join)

    -- a statement on top
    do_shows : (s : Stmt) → Stood m at x → Ahead k at (Do s ∷ w)
        → ComesToMove k q (statement_cost L x s) m (under_way_after (At p x (Do s ∷ w) [] t)) (gypsy_step q sizes (At p x (Do s ∷ w) [] t))
    do_shows Skip h st =
        let rest = moved k (at + 0) at w (omega arith) (tail k Skip at w st) in
        arrives k is 0 m at p x (settle w) t (at_once k is m at x h) f (settle_ahead k at w rest)
    do_shows (NoOp place) h st =
        let rest = moved k (at + 0) at w (omega arith) (tail k (NoOp place) at w st) in
        arrives k is 0 m at p x (settle w) _ (at_once k is m at x h) f (settle_ahead k at w rest)
    do_shows (Signal place c) h st =
        raise_shows k is 1 m p x f c (at + 2) w _ (tail k (Signal place c) at w st)
        (jumped k is m at (targets_above L T (at + 2) w c) x h st.code.0)
    do_shows (Seq a b) h st =
        arrives k is 0 m at p x (open_on (Seq a b) w) t (at_once k is m at x h) f
        (open_ahead k (Seq a b) at w st.code.0 st.plain.0 (tail k (Seq a b) at w st))
    do_shows (Loop place s) h st =
        let e : at + (size L s + 2) ≡ at + size L s + 2 = omega arith in
        let rest = moved k _ _ w e (tail k (Loop place s) at w st) in
        let start = at + size L s in
        let whole = subst (λ i. CodeAt P at (quick L (targets_above L T i w) at (Loop place s))) e st.code.0 in
        let body = subst (λ i. CodeAt P at (quick L (loop_targets i (targets_above L T i w)) at s ++ jump_code at)) e st.code.0 in
        let back : Ahead k (at + size L s) (Back place s ∷ w) = record {
          code = (at, refl, whole, rest.code);
          plain = (st.plain.0, st.plain.1);
          ends = omega (arith, st.ends);
        } in
        arrives k is 0 m at p x (open_on s (Back place s ∷ w)) _ (at_once k is m at x h) f
        (open_ahead k s at (Back place s ∷ w)
        (code_front P at (quick L (loop_targets (at + size L s + 2) (targets_above L T (at + size L s + 2) w)) at s) (jump_code at) body)
        st.plain.0 back)
    do_shows (If place b s v) h st = test_shows place b s v (is_true_value (value_at x b)) refl h st
    do_shows (Begin place s cs v) h st =
        arrives k is 0 m at p x (open_on (Begin place s cs v) w) t (at_once k is m at x h) f
        (open_ahead k (Begin place s cs v) at w st.code.0 st.plain.0 (tail k (Begin place s cs v) at w st))
    do_shows (Call place p' xs cs) h st = absurd st.plain.0
    do_shows (Apply place r args) h st =
        let vs = values_of x args in
        let T' = targets_above L T (at + size L (Apply place r args)) w in
        let does = row_runs P k.table L is.is_layout x f (T' Routine) h.x3 h.fl k.areas st.plain.0.0 r args st.plain.0.1 in
        apply_shows r args (row_code L (T' Routine) args r) (row_cost L args r vs (predef_effect r vs)) (predef_effect r vs) h st.code.0
        (quick_length L T' at (Apply place r args)) (tail k (Apply place r args) at w st)
        (λ v e. apply_fits L.shapes x st.plain.0.0 r args v f st.plain.0.1 e) does

    -- the end of a body with a handler
    guard_shows : (place : ℕ) (v : Stmt) (g : CurrentCondition) (rest : List ℕ) → Stood m at x
        → CodeAt P at (arm_code g (jump_code (at + 2 + size L v) ++ rest)) → Ahead k (at + arm_size g (size L v)) w
        → ComesToMove k q (over_cost g) m None (Next (At p x (settle w) [] t))
    guard_shows place v None rest h code st =
        let e : at + 2 + size L v ≡ at + (2 + size L v) = omega arith in
        let there = jumped k is m at (at + 2 + size L v) x h (code_front P at (jump_code (at + 2 + size L v)) rest code) in
        arrives k is 1 m (at + (2 + size L v)) p x (settle w) t (gets_at k is 1 m _ _ x e there) f (settle_ahead k _ w st)
    guard_shows place v (Some d) rest h code st =
        let e : at ≡ at + 0 = omega arith in
        arrives k is 0 m (at + 0) p x (settle w) t (gets_at k is 0 m at _ x e (at_once k is m at x h)) f (settle_ahead k _ w st)

  -- the items of a list
  work_shows : (m : Fm) (p : ℕ) (x : List ValueOf) (w : List Item) (t : Tally) → ShowsQuick k m None (At p x w [] t)
      → ComesToMove k q (quick_step_cost L None (At p x w [] t)) m (under_way_after (At p x w [] t)) (gypsy_step q sizes (At p x w [] t))
  work_shows m p x [] t h =
      let e : k.end - 0 ≡ k.end = omega arith in
      record { values = x; left = None; comes = gets_at k is 0 m _ _ x e (at_once k is m _ x h.stands); finals_are = refl; way_is = refl }
  work_shows m p x (Do s ∷ w) t h =
      do_shows m p x h.fits (k.end - work_size L (Do s ∷ w)) w t s h.stands (ahead_of k m _ x (Do s ∷ w) h)
  work_shows m p x (Back place s ∷ w) t h =
      let at = k.end - work_size L (Back place s ∷ w) in
      let st = ahead_of k m _ x (Back place s ∷ w) h in
      let start = st.code.0 in
      let begins : start + size L s ≡ at = st.code.1 in
      let outer = targets_above L T (at + 2) w in
      let inner = loop_targets (start + (size L s + 2)) outer in
      let e : at + 2 ≡ start + (size L s + 2) = omega (arith, begins) in
      let jump = behind P start (size L s) (quick L inner start s) (jump_code start) (quick_length L inner start s) st.code.2 in
      let there = jumped k is m at start x h.stands (subst (λ a. CodeAt P a (jump_code start)) begins jump) in
      let loop : Ahead k start (Do (Loop place s) ∷ w) = record {
        code = (
          subst (λ i. CodeAt P start (quick L (targets_above L T i w) start (Loop place s))) e st.code.2,
          subst (λ i. StandsQuick P L T i w) e st.code.3,
        );
        plain = (st.plain.0, st.plain.1);
        ends = omega (arith, e, st.ends);
      } in
      arrives k is 1 m start p x (Do (Loop place s) ∷ w) _ there h.fits loop
  work_shows m p x (JoinThen place v ∷ w) t h =
      let at = k.end - work_size L (JoinThen place v ∷ w) in
      let st = ahead_of k m _ x (JoinThen place v ∷ w) h in
      let rest : Ahead k (at + (2 + size L v)) w = record { code = st.code.1; plain = st.plain; ends = omega (arith, st.ends) } in
      arrives k is 1 m (at + (2 + size L v)) p x (settle w) _ (jumped k is m at (at + (2 + size L v)) x h.stands st.code.0) h.fits
      (settle_ahead k _ w rest)
  work_shows m p x (JoinOne place ∷ w) t h =
      let at = k.end - work_size L (JoinOne place ∷ w) in
      let st = ahead_of k m _ x (JoinOne place ∷ w) h in
      let rest : Ahead k at w = record { code = st.code; plain = st.plain; ends = omega (arith, st.ends) } in
      arrives k is 0 m at p x (settle w) _ (at_once k is m at x h.stands) h.fits (settle_ahead k at w rest)
  work_shows m p x (Guard place cs v ∷ w) t h =
      let at = k.end - work_size L (Guard place cs v ∷ w) in
      let st = ahead_of k m _ x (Guard place cs v ∷ w) h in
      let to = at + arm_size (signalled v) (size L v) in
      let rest : Ahead k to w = record { code = st.code.1; plain = st.plain.1; ends = omega (arith, st.ends) } in
      guard_shows m p x h.fits at w _ place v (signalled v) (quick L (targets_above L T to w) (at + 2) v) h.stands st.code.0 rest
  work_shows m p x (Out c ∷ w) t h =
      record { values = x; left = Some c; comes = at_once k is m (T c) x h.stands; finals_are = refl; way_is = refl }

  -- an arm without code, whose condition is under way
  arm_steps : (m : Fm) (d : ConditionOf) (p : ℕ) (x : List ValueOf) (w : List Item) (t : Tally) → ShowsQuick k m (Some d) (At p x w [] t)
      → ComesToMove k q 0 m (under_way_after (At p x w [] t)) (gypsy_step q sizes (At p x w [] t))
  arm_steps m d p x [] t h = absurd h.0
  arm_steps m d p x (Do Skip ∷ w) t h = absurd cc
  arm_steps m d p x (Do (NoOp place) ∷ w) t h = absurd cc
  arm_steps m d p x (Do (Signal place c) ∷ w) t h =
      let same : d ≡ c = cc in
      let there = at_once k is m (targets_above L T (k.end - work_size L w) w d) x h.1.stands in
      raise_shows k is 0 m p x h.1.fits c (k.end - work_size L w) w _ (ahead_of k m _ x w h.1)
      (gets_at k is 0 m _ _ x (ap (targets_above L T (k.end - work_size L w) w) same) there)
  arm_steps m d p x (Do (Seq a b) ∷ w) t h = absurd cc
  arm_steps m d p x (Do (Loop place s) ∷ w) t h = absurd cc
  arm_steps m d p x (Do (If place b s v) ∷ w) t h = absurd cc
  arm_steps m d p x (Do (Begin place s cs v) ∷ w) t h = absurd cc
  arm_steps m d p x (Do (Call place p' xs cs) ∷ w) t h = absurd cc
  arm_steps m d p x (Do (Apply place r args) ∷ w) t h = absurd cc
  arm_steps m d p x (Back place s ∷ w) t h = absurd h.0
  arm_steps m d p x (JoinThen place v ∷ w) t h = absurd h.0
  arm_steps m d p x (JoinOne place ∷ w) t h = absurd h.0
  arm_steps m d p x (Guard place cs v ∷ w) t h = absurd h.0
  arm_steps m d p x (Out c ∷ w) t h = absurd h.0

pub quick_steps_show : QuickStepsShow
quick_steps_show k q sizes m None (At p x w [] t) is h = work_shows k is q sizes m p x w t h
quick_steps_show k q sizes m (Some d) (At p x w [] t) is h = arm_steps k is q sizes m d p x w t h
quick_steps_show k q sizes m None (At p x w (f ∷ fs) t) is h = absurd h
quick_steps_show k q sizes m (Some d) (At p x w (f ∷ fs) t) is h = absurd h
