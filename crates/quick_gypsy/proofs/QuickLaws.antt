-- Quick code does what a statement means.
use Rattle.std.proofs.Common.{◌≡◌, ℕ, zero, suc, ◌+◌, ◌-◌, ◌≤◌, Some, None, Bool, true, false, not, List, [], ◌++◌, length, Option, refl, ap, sym, ◌∙◌, subst}
use Rattle.std.{proofs.Common.{arith, length-append}, specs.Prelude.{if◌then◌else◌, slice_set, slice_get}}
use Rattle.stack_text.{specs.declared.shape.Kind.TheVariants.Boolean, specs.Values.ValueOf}
use Rattle.fm_words.{specs.Word.word_of_int, specs.declared.condition.Cc.TheVariants.{Vs, Cs, Zs}, specs.declared.operation.Op.TheVariants.{Move, Neg, Add}}
use Rattle.fm_words.{specs.declared.operation.Op.TheVariants.Sub, specs.Code.no_flags}
use Rattle.fm_machine.{specs.State.Fm, proofs.RunLaws.{run_none, avoids_none, run_then, avoids_then}}
use Rattle.fm_code.{specs.Execution.{Parts, AreParts, CodeAt, final_pc}, specs.InstructionWords.{flag_z, flag_c}, proofs.CodeLaws.{code_front, code_after}}
use Rattle.fm_code.specs.Templates.{jump_code}
use Rattle.gypsy_syntax.{specs.declared.predef.Predef.Predef, specs.Programs.{ConditionOf, Routine, Program, Arg, simple, Stmt, Skip, NoOp, Signal, Seq, Loop}}
use Rattle.gypsy_syntax.{specs.Programs.{If, Begin, Call, Apply}, specs.Predefined.predef_effect, specs.ValuesFit.VarsFit, specs.Effects.{Effect, Normal}}
use Rattle.gypsy_syntax.specs.Effects.{Fault, Beyond, value_at, is_true_value, item_of_value}
use Rattle.gypsy_syntax.specs.declared.predef.Predef.TheVariants as row
use Rattle.gypsy_space.specs.Needs.{StackSizes}
use Rattle.gypsy_semantics.{specs.Calls.{CurrentCondition, has_cond, is_leave, values_of, target_of}, specs.Meaning.{MeaningOutcome, Done, Unfinished, then_do}}
use Rattle.gypsy_semantics.{specs.Meaning.{either_way, caught, round_end, applied, evaluate}, proofs.EffectLaws.apply_fits}
use Rattle.quick_code.{specs.Access.{Access, find_count}, specs.Moments.now, specs.Pieces.{by_word_code, by_literal_code, store_code, move_code, put_code}}
use Rattle.quick_code.{specs.Pieces.{jump_when_code, flag_v, product_code}, specs.PieceRows.operated, proofs.PieceLaws.piece_rows, proofs.StandLaws.does_then}
use Rattle.quick_code.proofs.StandLaws.{jumps_then, comes_then, comes_at_once, comes_as}
use Rattle.quick_gypsy.{specs.Numbers.numbers_of, specs.Layout.{Layout, IsLayout, first_of, count_of, last_address}, specs.RowCode.{row_code, row_cost, load}}
use Rattle.quick_gypsy.{specs.RowCode.{item_code, arg_var, arg_access}, specs.Quick.{Targets, loop_targets, begin_targets, test_code, size, quick, quick_cost}}
use Rattle.quick_gypsy.{specs.Quick.{after_part, after_body, IsPlain, signalled, arm_size, arm_target, arm_code}, specs.QuickRuns.{StandsWith, ComesWith}}
use Rattle.quick_gypsy.{specs.QuickRuns.{GoesOn, goal_of, StatementsRun, StatementsGoOn}, proofs.NumbersLaws.simple_var, proofs.ItemLaws.test_item}
use Rattle.quick_gypsy.proofs.RowLaws.{RowDoes, row_runs}

-- How long the code is.

longer : (a b c : List ℕ) → length b ≡ length c → length (a ++ b) ≡ length (a ++ c)
longer a b c h = omega (arith, length-append a b, length-append a c, h)

item_length : (L : Layout) (f v : ℕ) (i : Access) (rest : List ℕ) → length (item_code L f v i rest) ≡ length (item_code L 0 v i rest)
item_length L f v i rest =
    let d = by_literal_code Add no_flags (last_address L v) ++ rest in
    let c = by_word_code Sub flag_c i in
    longer (by_literal_code Move no_flags (count_of L v - 1)) (c ++ (jump_when_code Cs f ++ d)) (c ++ (jump_when_code Cs 0 ++ d))
    (longer c (jump_when_code Cs f ++ d) (jump_when_code Cs 0 ++ d) refl)

row_length : (L : Layout) (f : ℕ) (args : List Arg) (r : Predef) → length (row_code L f args r) ≡ length (row_code L 0 args r)
row_length L f args row.MgIntegerUnaryMinus =
    let d = store_code (arg_access L args 0) in
    longer (by_word_code Neg flag_v (arg_access L args 1)) (jump_when_code Vs f ++ d) (jump_when_code Vs 0 ++ d) refl
row_length L f args row.MgIntegerAdd =
    let d = store_code (arg_access L args 0) in
    let c = by_word_code Add flag_v (arg_access L args 2) in
    longer (load (arg_access L args 1)) (c ++ (jump_when_code Vs f ++ d)) (c ++ (jump_when_code Vs 0 ++ d))
    (longer c (jump_when_code Vs f ++ d) (jump_when_code Vs 0 ++ d) refl)
row_length L f args row.MgIntegerSubtract =
    let d = store_code (arg_access L args 0) in
    let c = by_word_code Sub flag_v (arg_access L args 2) in
    longer (load (arg_access L args 1)) (c ++ (jump_when_code Vs f ++ d)) (c ++ (jump_when_code Vs 0 ++ d))
    (longer c (jump_when_code Vs f ++ d) (jump_when_code Vs 0 ++ d) refl)
row_length L f args row.MgIntegerMultiply =
    let d = store_code (arg_access L args 0) in
    longer (product_code (arg_access L args 1) (arg_access L args 2)) (jump_when_code Vs f ++ d) (jump_when_code Vs 0 ++ d) refl
row_length L f args row.MgIndexArray =
    item_length L f (arg_var args 1) (arg_access L args 2) (move_code (arg_access L args 0) 3)
row_length L f args row.MgArrayElementAssignment = item_length L f (arg_var args 0) (arg_access L args 1) (put_code (arg_access L args 2))
row_length L f args r = refl

test_length : (L : Layout) (b otherwise : ℕ) → length (test_code L b otherwise) ≡ length (test_code L b 0)
test_length L b otherwise = longer (by_word_code Move flag_z (L.access b)) (jump_when_code Zs otherwise) (jump_when_code Zs 0) refl

arm_length : (g : Option ConditionOf) (code : List ℕ) (words : ℕ) → length code ≡ 2 + words → length (arm_code g code) ≡ arm_size g words
arm_length None code words e = e
arm_length (Some c) code words e = refl

pub quick_length : (L : Layout) (T : Targets) (pc : ℕ) (s : Stmt) → length (quick L T pc s) ≡ size L s
quick_length L T pc Skip = refl
quick_length L T pc (NoOp place) = refl
quick_length L T pc (Signal place c) = refl
quick_length L T pc (Seq a b) =
    omega (arith, length-append (quick L T pc a) (quick L T (pc + size L a) b), quick_length L T pc a, quick_length L T (pc + size L a) b)
quick_length L T pc (Loop place s) =
    omega (
      arith,
      length-append (quick L (loop_targets (pc + (size L s + 2)) T) pc s) (jump_code pc),
      quick_length L (loop_targets (pc + (size L s +
          2)) T) pc s,
    )
quick_length L T pc (If place b s w) =
    let at = pc + length (test_code L b 0) in
    let otherwise = at + size L s + 2 in
    let ending = quick L T otherwise w in
    let middle = jump_code (otherwise + size L w) ++ ending in
    omega (
      arith,
      test_length L b otherwise,
      length-append (test_code L b otherwise) (quick L T at s ++ middle),
      length-append (quick L T at s) middle,
      quick_length L T at s,
      quick_length L T otherwise w,
    )
quick_length L T pc (Begin place s cs w) =
    let arm = pc + size L s + 2 in
    let T' = begin_targets cs (arm_target (signalled w) arm T) T in
    let ending = jump_code (arm + size L w) ++ quick L T arm w in
    let long : length ending ≡ 2 + size L w = omega (arith, quick_length L T arm w) in
    omega (
      arith,
      length-append (quick L T' pc s) (arm_code (signalled w) ending),
      quick_length L T' pc s,
      arm_length (signalled w) ending (size L w) long,
    )
quick_length L T pc (Call place p xs cs) = refl
quick_length L T pc (Apply place r args) = row_length L (T Routine) args r

-- What a run of a statement's code comes to.

record Landed (P : Parts) (table : ℕ → ℕ) (L : Layout) (ctrl areas : List ℕ) (k : ℕ) (m : Fm) (pc : ℕ) (y : List ValueOf) : Type 0 where
  comes : ComesWith P table ctrl k m pc y areas
  fits : VarsFit L.shapes y

-- where the meaning is done, the run has landed; where it isn't done at the bound n, the run goes on
abbrev Lands : Parts → (ℕ → ℕ) → Layout → List ℕ → List ℕ → ℕ → ℕ → Fm → Targets → ℕ → MeaningOutcome → Type 0
Lands P table L ctrl areas n k m T behind (Done y c) = Landed P table L ctrl areas k m (goal_of T behind c) y
Lands P table L ctrl areas n k m T behind Unfinished = GoesOn P n m

module _ (P : Parts) (table : ℕ → ℕ) (L : Layout) (ctrl areas : List ℕ) where
  stands_there : (k : ℕ) (m : Fm) (pc : ℕ) (y : List ValueOf) (h : ComesWith P table ctrl k m pc y areas) → StandsWith P table ctrl h.comes.state pc y areas
  stands_there k m pc y h = record { x3 = h.x3; fl = h.fl; stands = h.comes.stands }

  landed_as : (j k : ℕ) (m : Fm) (pc pc' : ℕ) (y : List ValueOf) → Landed P table L ctrl areas j m pc y → j ≡ k → pc ≡ pc' → Landed P table L ctrl
      areas k m pc' y
  landed_as j k m pc pc' y h e e' =
      record { comes = record { x3 = h.comes.x3; fl = h.comes.fl; comes = comes_as h.comes.comes e e' }; fits = h.fits }

  -- a part, and what follows it
  lands_after : (n n' j k : ℕ) (m : Fm) (T : Targets) (mid behind : ℕ) (y : List ValueOf) (o : MeaningOutcome) → n' ≤ j + n
      → ComesWith P table ctrl j m mid y areas
      → ((m' : Fm) → StandsWith P table ctrl m' mid y areas → Lands P table L ctrl areas n k m' T behind o) → Lands P table L ctrl areas n' (j + k) m
      T behind o
  lands_after n n' j k m T mid behind y (Done z c) e h go =
      let g = go h.comes.state (stands_there j m mid y h) in
      record { comes = record { x3 = g.comes.x3; fl = g.comes.fl; comes = comes_then h.comes g.comes.comes }; fits = g.fits }
  lands_after n n' j k m T mid behind y Unfinished e h go =
      let g = go h.comes.state (stands_there j m mid y h) in
      record {
        steps = j + g.steps;
        state = g.state;
        least = omega (arith, e, g.least);
        runs = run_then j g.steps m h.comes.state g.state h.comes.runs g.runs;
        avoids = avoids_then m h.comes.state (final_pc P) j g.steps h.comes.runs h.comes.avoids g.avoids;
      }

  -- a jump
  jumped : (m : Fm) (pc to : ℕ) (y : List ValueOf) → AreParts P → StandsWith P table ctrl m pc y areas → CodeAt P pc (jump_code to)
      → ComesWith P table ctrl 1 m to y areas
  jumped m pc to y is h code =
      record { x3 = h.x3; fl = h.fl; comes = ((piece_rows P table (now h.x3 h.fl (numbers_of y) areas)).jump to).leads ctrl m pc is h.stands code }

  then_lands : (n j : ℕ) (m : Fm) (T : Targets) (mid behind : ℕ) (o : MeaningOutcome) (go : List ValueOf → MeaningOutcome) (k : List ValueOf → ℕ)
      → Lands P table L ctrl areas n j m T mid o
      → ((y : List ValueOf) (m' : Fm) → VarsFit L.shapes y → StandsWith P table ctrl m' mid y areas → Lands P table L ctrl areas n (k y) m' T behind (go y))
      → Lands P table L ctrl areas n (j + after_part o k) m T behind (then_do o go)
  then_lands n j m T mid behind (Done y None) go k h next =
      lands_after n n j (k y) m T mid behind y (go y) (omega arith) h.comes (λ m' st. next y m' h.fits st)
  then_lands n j m T mid behind (Done y (Some c)) go k h next = landed_as j (j + 0) m (T c) (T c) y h (omega arith) refl
  then_lands n j m T mid behind Unfinished go k h next = h

  round_lands : (n j : ℕ) (m : Fm) (T : Targets) (mid end : ℕ) (o : MeaningOutcome) (again : List ValueOf → MeaningOutcome) (k : List ValueOf → ℕ)
      → Lands P table L ctrl areas n j m (loop_targets end T) mid o
      → ((y : List ValueOf) (m' : Fm) → VarsFit L.shapes y → StandsWith P table ctrl m' mid y areas → Lands P table L ctrl areas n (k y) m' T end (again y))
      → Lands P table L ctrl areas n (j + after_part o k) m T end (round_end o again)
  round_lands n j m T mid end (Done y None) again k h next =
      lands_after n n j (k y) m T mid end y (again y) (omega arith) h.comes (λ m' st. next y m' h.fits st)
  round_lands n j m T mid end (Done y (Some c)) again k h next = pick (is_leave c) h
    where
      pick : (b : Bool) → Landed P table L ctrl areas j m (if b then end else T c) y
          → Lands P table L ctrl areas n (j + 0) m T end (either_way b (Done y None) (Done y (Some c)))
      pick true g = landed_as j (j + 0) m end end y g (omega arith) refl
      pick false g = landed_as j (j + 0) m (T c) (T c) y g (omega arith) refl
  round_lands n j m T mid end Unfinished again k h next = h

  caught_lands : (n j : ℕ) (m : Fm) (T : Targets) (mid arm behind : ℕ) (cs : List ConditionOf) (o : MeaningOutcome) (go : List ValueOf → MeaningOutcome)
      (k : List ValueOf → ℕ) → Lands P table L ctrl areas n j m (begin_targets cs arm T) mid o
      → ((y : List ValueOf) (m' : Fm) → VarsFit L.shapes y → StandsWith P table ctrl m' mid y areas → Landed P table L ctrl areas 1 m' behind y)
      → ((y : List ValueOf) (m' : Fm) → VarsFit L.shapes y → StandsWith P table ctrl m' arm y areas → Lands P table L ctrl areas n (k y) m' T behind (go y))
      → Lands P table L ctrl areas n (j + after_body None o cs k) m T behind (caught o cs go)
  caught_lands n j m T mid arm behind cs (Done y None) go k h over next =
      lands_after n n j 1 m T mid behind y (Done y None) (omega arith) h.comes (λ m' st. over y m' h.fits st)
  caught_lands n j m T mid arm behind cs (Done y (Some c)) go k h over next = pick (has_cond c cs) h
    where
      pick : (b : Bool) → Landed P table L ctrl areas j m (if b then arm else T c) y
          → Lands P table L ctrl areas n (j + (if b then k y else 0)) m T behind (either_way b (go y) (Done y (Some c)))
      pick true g = lands_after n n j (k y) m T arm behind y (go y) (omega arith) g.comes (λ m' st. next y m' g.fits st)
      pick false g = landed_as j (j + 0) m (T c) (T c) y g (omega arith) refl
  caught_lands n j m T mid arm behind cs Unfinished go k h over next = h

  -- a handler that only signals: the conditions go to the target of what it signals
  passed_lands : (n j : ℕ) (m : Fm) (T : Targets) (behind : ℕ) (cs : List ConditionOf) (d : ConditionOf) (o : MeaningOutcome)
      (go : List ValueOf → MeaningOutcome) (k : List ValueOf → ℕ) → Lands P table L ctrl areas n j m (begin_targets cs (T d) T) behind o
      → ((y : List ValueOf) → go y ≡ Done y (Some d)) → Lands P table L ctrl areas n (j + after_body (Some d) o cs k) m T behind (caught o cs go)
  passed_lands n j m T behind cs d (Done y None) go k h is = landed_as j (j + 0) m behind behind y h (omega arith) refl
  passed_lands n j m T behind cs d (Done y (Some c)) go k h is = pick (has_cond c cs) h
    where
      pick : (b : Bool) → Landed P table L ctrl areas j m (if b then T d else T c) y
          → Lands P table L ctrl areas n (j + 0) m T behind (either_way b (go y) (Done y (Some c)))
      pick true g =
          subst (λ o. Lands P table L ctrl areas n (j + 0) m T behind o) (sym (is y)) (landed_as j (j + 0) m (T d) (T d) y g (omega arith) refl)
      pick false g = landed_as j (j + 0) m (T c) (T c) y g (omega arith) refl
  passed_lands n j m T behind cs d Unfinished go k h is = h

  -- a predefined call
  row_lands : (n k : ℕ) (m : Fm) (T : Targets) (pc : ℕ) (code : List ℕ) (args : List Arg) (x : List ValueOf) (e : Effect) → AreParts P
      → (h : StandsWith P table ctrl m pc x areas) → CodeAt P pc code → VarsFit L.shapes x
      → ((v : ValueOf) → e ≡ Normal v → VarsFit L.shapes (slice_set x (target_of args) v))
      → RowDoes P table code k (T Routine) (now h.x3 h.fl (numbers_of x) areas) x areas (target_of args) e
      → Lands P table L ctrl areas n k m T (pc + length code) (applied args e x)
  row_lands n k m T pc code args x (Normal v) is h at fits kept does =
      record { comes = record { x3 = does.0; fl = does.1; comes = does.2.leads ctrl m pc is h.stands at }; fits = kept v refl }
  row_lands n k m T pc code args x Fault is h at fits kept does =
      record { comes = record { x3 = does.0; fl = does.1; comes = does.2.leads ctrl m pc is h.stands at }; fits = fits }
  row_lands n k m T pc code args x Beyond is h at fits kept does =
      record { comes = record { x3 = does.0; fl = does.1; comes = does.2.leads ctrl m pc is h.stands at }; fits = fits }

-- the code behind other code, which is so long
behind : (P : Parts) (pc k : ℕ) (ws vs : List ℕ) → length ws ≡ k → CodeAt P pc (ws ++ vs) → CodeAt P (pc + k) vs
behind P pc k ws vs e code = subst (λ i. CodeAt P (pc + i) vs) e (code_after P pc ws vs code)

at_place : (P : Parts) (pc pc' : ℕ) (ws : List ℕ) → pc ≡ pc' → CodeAt P pc ws → CodeAt P pc' ws
at_place P pc pc' ws e code = subst (λ a. CodeAt P a ws) e code

lands_at : (P : Parts) (table : ℕ → ℕ) (L : Layout) (ctrl areas : List ℕ) (n j k : ℕ) (m : Fm) (T : Targets) (pc pc' : ℕ) (o : MeaningOutcome) → j ≡
    k → pc ≡ pc'
    → Lands P table L ctrl areas n j m T pc o → Lands P table L ctrl areas n k m T pc' o
lands_at P table L ctrl areas n j k m T pc pc' o e e' h =
    subst (λ i. Lands P table L ctrl areas n i m T pc' o) e (subst (λ a. Lands P table L ctrl areas n j m T a o) e' h)

-- the first part of an `if`, and the jump over the second
part_lands : (P : Parts) (table : ℕ → ℕ) (L : Layout) (ctrl areas : List ℕ) → AreParts P → (n j : ℕ) (m : Fm) (T : Targets) (mid behind : ℕ) (o :
    MeaningOutcome)
    → Lands P table L ctrl areas n j m T mid o → CodeAt P mid (jump_code behind) → Lands P table L ctrl areas n (j + after_part o (λ y. 1)) m T behind o
part_lands P table L ctrl areas is n j m T mid behind (Done y None) h code =
    lands_after P table L ctrl areas n n j 1 m T mid behind y (Done y None) (omega arith) h.comes
    (λ m' st. record { comes = jumped P table L ctrl areas m' mid behind y is st code; fits = h.fits })
part_lands P table L ctrl areas is n j m T mid behind (Done y (Some c)) h code = landed_as P table L ctrl areas j (j + 0) m (T c) (T c) y h (omega arith) refl
part_lands P table L ctrl areas is n j m T mid behind Unfinished h code = h

if_lands : (P : Parts) (table : ℕ → ℕ) (L : Layout) (ctrl areas : List ℕ) → AreParts P → IsLayout P table L → (b : ℕ) (x : List ValueOf) (m : Fm) (T
    : Targets)
    (n pc otherwise mid behind ks kw : ℕ) (os ow : MeaningOutcome) → slice_get L.shapes b ≡ Some (simple Boolean) → VarsFit L.shapes x
    → CodeAt P pc (test_code L b otherwise) → StandsWith P table ctrl m pc x areas
    → ((m' : Fm) → StandsWith P table ctrl m' (pc + length (test_code L b 0)) x areas → Lands P table L ctrl areas n ks m' T mid os)
    → CodeAt P mid (jump_code behind)
    → ((m' : Fm) → StandsWith P table ctrl m' otherwise x areas → Lands P table L ctrl areas n kw m' T behind ow)
    → (t : Bool) → is_true_value (value_at x b) ≡ t
    → Lands P table L ctrl areas n (find_count (L.access b) + 1 + 1 + (if t then ks + after_part os (λ y. 1) else kw)) m T behind (either_way t os ow)
if_lands P table L ctrl areas is lay b x m T n pc otherwise mid behind ks kw os ow g fits code st first jump second true h =
    let v = simple_var L.shapes x b Boolean fits g in
    let w = word_of_int (item_of_value (value_at x b)) in
    let a = now st.x3 st.fl (numbers_of x) areas in
    let a1 = operated Move flag_z w a in
    let d1 = (piece_rows P table a).by_word Move flag_z (L.access b) (first_of L b) w (lay.reaches b v.bound) v.word in
    let d2 = (piece_rows P table a1).jump_not Zs otherwise (test_item (item_of_value (value_at x b)) v.range ∙ ap not h) in
    let c = (does_then d1 d2).leads ctrl m pc is st.stands code in
    let there : ComesWith P table ctrl (find_count (L.access b) + 1 + 1) m (pc + length (test_code L b 0)) x areas =
    record { x3 = a1.x3; fl = a1.fl; comes = comes_as c refl (ap (λ i. pc + i) (test_length L b otherwise)) } in
    lands_after P table L ctrl areas n n (find_count (L.access b) + 1 + 1) (ks + after_part os (λ y. 1)) m T (pc + length (test_code L b 0)) behind x os
    (omega arith) there
    (λ m' st'. part_lands P table L ctrl areas is n ks m' T mid behind os (first m' st') jump)
if_lands P table L ctrl areas is lay b x m T n pc otherwise mid behind ks kw os ow g fits code st first jump second false h =
    let v = simple_var L.shapes x b Boolean fits g in
    let w = word_of_int (item_of_value (value_at x b)) in
    let a = now st.x3 st.fl (numbers_of x) areas in
    let a1 = operated Move flag_z w a in
    let d1 = (piece_rows P table a).by_word Move flag_z (L.access b) (first_of L b) w (lay.reaches b v.bound) v.word in
    let d2 = (piece_rows P table a1).jump_when Zs otherwise (test_item (item_of_value (value_at x b)) v.range ∙ ap not h) in
    let c = (jumps_then d1 d2).leads ctrl m pc is st.stands code in
    let there : ComesWith P table ctrl (find_count (L.access b) + 1 + 1) m otherwise x areas = record { x3 = a1.x3; fl = a1.fl; comes = c } in
    lands_after P table L ctrl areas n n (find_count (L.access b) + 1 + 1) kw m T otherwise behind x ow (omega arith) there second

signals : (q : Program) (sizes u : StackSizes) (w : Stmt) (d : ConditionOf) → signalled w ≡ Some d → (n : ℕ) (y : List ValueOf)
    → evaluate q sizes (suc n) w u y ≡ Done y (Some d)
signals q sizes u Skip d e n y = absurd cc
signals q sizes u (NoOp place) d e n y = absurd cc
signals q sizes u (Signal place c) d e n y = let same : c ≡ d = cc in ap (λ a. Done y (Some a)) same
signals q sizes u (Seq a b) d e n y = absurd cc
signals q sizes u (Loop place s) d e n y = absurd cc
signals q sizes u (If place b s w) d e n y = absurd cc
signals q sizes u (Begin place s cs w) d e n y = absurd cc
signals q sizes u (Call place p xs cs) d e n y = absurd cc
signals q sizes u (Apply place r args) d e n y = absurd cc

-- a body with a handler, by what the handler signals
begin_lands : (P : Parts) (table : ℕ → ℕ) (L : Layout) (q : Program) (sizes u : StackSizes) (ctrl areas : List ℕ) → AreParts P → (n j : ℕ) (m : Fm)
    (T : Targets) (pc : ℕ) (s w : Stmt) (cs : List ConditionOf) (o : MeaningOutcome) (g : Option ConditionOf) → signalled w ≡ g
    → CodeAt P pc (quick L (begin_targets cs (arm_target g (pc + size L s + 2) T) T) pc s
    ++ arm_code g (jump_code (pc + size L s + 2 + size L w) ++ quick L T (pc + size L s + 2) w))
    → ((T' : Targets) → CodeAt P pc (quick L T' pc s) → Lands P table L ctrl areas (suc n) j m T' (pc + size L s) o)
    → ((y : List ValueOf) (m' : Fm) → VarsFit L.shapes y → StandsWith P table ctrl m' (pc + size L s + 2) y areas
    → CodeAt P (pc + size L s + 2) (quick L T (pc + size L s + 2) w)
    → Lands P table L ctrl areas (suc n) (quick_cost q sizes L (suc n) w u y) m' T (pc + size L s + 2 + size L w) (evaluate q sizes (suc n) w u y))
    → Lands P table L ctrl areas (suc n) (j + after_body g o cs (quick_cost q sizes L (suc n) w u)) m T (pc + (size L s + arm_size g (size L w)))
    (caught o cs (evaluate q sizes (suc n) w u))
begin_lands P table L q sizes u ctrl areas is n j m T pc s w cs o None e code body arms =
    let arm = pc + size L s + 2 in
    let T' = begin_targets cs arm T in
    let last = quick L T arm w in
    let middle = jump_code (arm + size L w) ++ last in
    let rest = behind P pc (size L s) (quick L T' pc s) middle (quick_length L T' pc s) code in
    let over = code_front P (pc + size L s) (jump_code (arm + size L w)) last rest in
    let armed = code_after P (pc + size L s) (jump_code (arm + size L w)) last rest in
    let whole = caught_lands P table L ctrl areas (suc n) j m T (pc + size L s) arm (arm + size L w) cs o (evaluate q sizes (suc n) w u)
    (quick_cost q sizes L (suc n) w u) (body T' (code_front P pc (quick L T' pc s) middle code))
    (λ y m' g st'. record { comes = jumped P table L ctrl areas m' (pc + size L s) (arm + size L w) y is st' over; fits = g })
    (λ y m' g st'. arms y m' g st' armed) in
    lands_at P table L ctrl areas (suc n) _ _ m T (arm + size L w) (pc + (size L s + (2 + size L w))) _ refl (omega arith) whole
begin_lands P table L q sizes u ctrl areas is n j m T pc s w cs o (Some d) e code body arms =
    let T' = begin_targets cs (T d) T in
    let whole = passed_lands P table L ctrl areas (suc n) j m T (pc + size L s) cs d o (evaluate q sizes (suc n) w u) (quick_cost q sizes L (suc n) w u)
    (body T' (code_front P pc (quick L T' pc s) [] code)) (signals q sizes u w d e n) in
    lands_at P table L ctrl areas (suc n) _ _ m T (pc + size L s) (pc + (size L s + 0)) _ refl (omega arith) whole

module _ (P : Parts) (table : ℕ → ℕ) (L : Layout) (q : Program) (sizes : StackSizes) (u : StackSizes) (ctrl areas : List ℕ)
    (is : AreParts P) (lay : IsLayout P table L) where
  run : (n : ℕ) (s : Stmt) (x : List ValueOf) (T : Targets) (pc : ℕ) (m : Fm) → IsPlain L.shapes s
      → VarsFit L.shapes x → CodeAt P pc (quick L T pc s) → StandsWith P table ctrl m pc x areas
      → Lands P table L ctrl areas n (quick_cost q sizes L n s u x) m T (pc + size L s) (evaluate q sizes n s u x)
  run zero s x T pc m f fits code st = record {
    steps = 0;
    state = m;
    least = omega arith;
    runs = run_none m;
    avoids = avoids_none m
        (final_pc P);
  }
  run (suc n) Skip x T pc m f fits code st =
      landed_as P table L ctrl areas 0 0 m pc (pc + 0) x (record {
        comes = record { x3 = st.x3; fl = st.fl; comes = comes_at_once st.stands };
        fits =
            fits;
      }) refl (omega arith)
  run (suc n) (NoOp place) x T pc m f fits code st =
      landed_as P table L ctrl areas 0 0 m pc (pc + 0) x (record {
        comes = record { x3 = st.x3; fl = st.fl; comes = comes_at_once st.stands };
        fits =
            fits;
      }) refl (omega arith)
  run (suc n) (Signal place c) x T pc m f fits code st =
      record { comes = jumped P table L ctrl areas m pc (T c) x is st code; fits = fits }
  run (suc n) (Seq a b) x T pc m f fits code st =
      let first = run (suc n) a x T pc m f.0 fits (code_front P pc (quick L T pc a) (quick L T (pc + size L a) b) code) st in
      let rest = behind P pc (size L a) (quick L T pc a) (quick L T (pc + size L a) b) (quick_length L T pc a) code in
      let whole = then_lands P table L ctrl areas (suc n) (quick_cost q sizes L (suc n) a u x) m T (pc + size L a) (pc + size L a + size L b)
      (evaluate q sizes (suc n) a u x)
      (evaluate q sizes (suc n) b u) (quick_cost q sizes L (suc n) b u) first
      (λ y m' g st'. run (suc n) b y T (pc + size L a) m' f.1 g rest st') in
      lands_at P table L ctrl areas (suc n) _ _ m T (pc + size L a + size L b) (pc + (size L a + size L b)) _ refl (omega arith) whole
  run (suc n) (Loop place s) x T pc m f fits code st =
      let end = pc + (size L s + 2) in
      let T' = loop_targets end T in
      let body = run (suc n) s x T' pc m f fits (code_front P pc (quick L T' pc s) (jump_code pc) code) st in
      let back = behind P pc (size L s) (quick L T' pc s) (jump_code pc) (quick_length L T' pc s) code in
      round_lands P table L ctrl areas (suc n) (quick_cost q sizes L (suc n) s u x) m T (pc + size L s) end (evaluate q sizes (suc n) s u x)
      (evaluate q sizes n (Loop place s) u) (λ y. 1 + quick_cost q sizes L n (Loop place s) u y) body
      (λ y m' g st'.
      lands_after P table L ctrl areas n (suc n) 1 (quick_cost q sizes L n (Loop place s) u y) m' T pc end y (evaluate q sizes n (Loop place s) u y)
      (omega arith)
      (jumped P table L ctrl areas m' (pc + size L s) pc y is st' back)
      (λ m2 st2. run n (Loop place s) y T pc m2 f g code st2))
  run (suc n) (If place b s w) x T pc m f fits code st =
      let at = pc + length (test_code L b 0) in
      let otherwise = at + size L s + 2 in
      let last = quick L T otherwise w in
      let middle = jump_code (otherwise + size L w) ++ last in
      let c1 = behind P pc (length (test_code L b 0)) (test_code L b otherwise) (quick L T at s ++ middle) (test_length L b otherwise) code in
      let c2 = behind P at (size L s) (quick L T at s) middle (quick_length L T at s) c1 in
      let c3 = code_after P (at + size L s) (jump_code (otherwise + size L w)) last c2 in
      let t = is_true_value (value_at x b) in
      let os = evaluate q sizes (suc n) s u x in
      let ow = evaluate q sizes (suc n) w u x in
      let ks = quick_cost q sizes L (suc n) s u x in
      let kw = quick_cost q sizes L (suc n) w u x in
      let whole = if_lands P table L ctrl areas is lay b x m T (suc n) pc otherwise (at + size L s) (otherwise + size L w) ks kw os ow f.0 fits
      (code_front P pc (test_code L b otherwise) (quick L T at s ++ middle) code) st
      (λ m' st'. run (suc n) s x T at m' f.1 fits (code_front P at (quick L T at s) middle c1) st')
      (code_front P (at + size L s) (jump_code (otherwise + size L w)) last c2)
      (λ m' st'. run (suc n) w x T otherwise m' f.2 fits c3 st') t refl in
      lands_at P table L ctrl areas (suc n) _ _ m T (otherwise + size L w) (pc + (length (test_code L b 0) + size L s + 2 + size L w)) _ refl (omega
      arith) whole
  run (suc n) (Begin place s cs w) x T pc m f fits code st =
      begin_lands P table L q sizes u ctrl areas is n (quick_cost q sizes L (suc n) s u x) m T pc s w cs (evaluate q sizes (suc n) s u x)
      (signalled w) refl code (λ T' there. run (suc n) s x T' pc m f.0 fits there st)
      (λ y m' g st' there. run (suc n) w y T (pc + size L s + 2) m' f.1 g there st')
  run (suc n) (Call place p xs cs) x T pc m f fits code st = absurd f
  run (suc n) (Apply place r args) x T pc m f fits code st =
      let vs = values_of x args in
      let e = predef_effect r vs in
      let does = row_runs P table L lay x fits (T Routine) st.x3 st.fl areas f.0 r args f.1 in
      let whole = row_lands P table L ctrl areas (suc n) (row_cost L args r vs e) m T pc (row_code L (T Routine) args r) args x e is st code fits
      (λ v is_v. apply_fits L.shapes x f.0 r args v fits f.1 is_v) does in
      lands_at P table L ctrl areas (suc n) _ _ m T (pc + length (row_code L (T Routine) args r)) (pc + size L (Apply place r args)) (applied args e x) refl
      (ap (λ i. pc + i) (row_length L (T Routine) args r)) whole

landed_done : (P : Parts) (table : ℕ → ℕ) (L : Layout) (ctrl areas : List ℕ) (n k : ℕ) (m : Fm) (T : Targets) (pc : ℕ) (o : MeaningOutcome) (y : List ValueOf)
    (c : CurrentCondition) → o ≡ Done y c → Lands P table L ctrl areas n k m T pc o → ComesWith P table ctrl k m (goal_of T pc c) y areas
landed_done P table L ctrl areas n k m T pc o y c e h =
    let g = subst (λ r. Lands P table L ctrl areas n k m T pc r) e h in g.comes

pub statements_run : StatementsRun
statements_run P table L q sizes n s u x y c T pc ctrl areas m is lay f fits code st e =
    landed_done P table L ctrl areas n (quick_cost q sizes L n s u x) m T (pc + size L s) (evaluate q sizes n s u x) y c e
    (run P table L q sizes u ctrl areas is lay n s x T pc m f fits code st)

pub statements_go_on : StatementsGoOn
statements_go_on P table L q sizes n s u x T pc ctrl areas m is lay f fits code st e =
    subst (λ o. Lands P table L ctrl areas n (quick_cost q sizes L n s u x) m T (pc + size L s) o) e
    (run P table L q sizes u ctrl areas is lay n s x T pc m f fits code st)
