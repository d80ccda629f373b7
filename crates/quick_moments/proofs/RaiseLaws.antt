-- Where quick code goes when a condition is raised.
use Rattle.std.{proofs.Common.{◌≡◌, ℕ, ◌+◌, ◌-◌, List, [], ◌∷◌, ◌++◌, Bool, true, false, Some, None, refl, sym, subst, arith}, specs.Prelude.if◌then◌else◌}
use Rattle.stack_text.specs.Values.{ValueOf}
use Rattle.fm_machine.specs.State.{Fm}
use Rattle.fm_code.{specs.Execution.{Parts, CodeAt}, specs.Templates.jump_code, proofs.CodeLaws.code_after}
use Rattle.gypsy_syntax.{specs.Programs.{ConditionOf, Stmt, Skip, NoOp, Signal, Seq, Loop, If, Begin, Call, Apply}, specs.ValuesFit.VarsFit}
use Rattle.gypsy_space.specs.Costs.{Tally, pay}
use Rattle.gypsy_space.specs.declared.event.CostEvent.TheVariants as event
use Rattle.gypsy_semantics.{specs.Calls.{CurrentCondition, has_cond, is_leave}, specs.Machine.{Item, Do, Back, JoinThen, JoinOne, Guard, Out, State, At, opens}}
use Rattle.gypsy_semantics.specs.Machine.{settle, open_on, stop_if, raise}
use Rattle.quick_code.{specs.Moments.now, proofs.PieceLaws.piece_rows, proofs.StandLaws.comes_at_once}
use Rattle.quick_gypsy.{specs.Numbers.numbers_of, specs.Layout.Layout, specs.Quick.{Targets, size, quick, IsPlain, signalled, arm_size, arm_target, arm_code}}
use Rattle.quick_gypsy.specs.QuickRuns.{StandsWith, ComesWith}
use Rattle.quick_moments.{specs.QuickMarks.{work_size, targets_above, StandsQuick}, specs.QuickShows.{Site, IsSite, ShowsQuick}, specs.QuickSteps.signalled_by}
use Rattle.quick_moments.{specs.QuickSteps.ComesToShow, proofs.OpenLaws.{Ahead, tail, settle_ahead, open_ahead, shows_ahead}}

-- an arm without code comes to the top as it is
arm_is : (v : Stmt) (d : ConditionOf) (w ws : List Item) → signalled v ≡ Some d → opens v w ws ≡ Do v ∷ w
arm_is Skip d w ws e = absurd cc
arm_is (NoOp place) d w ws e = absurd cc
arm_is (Signal place c) d w ws e = refl
arm_is (Seq a b) d w ws e = absurd cc
arm_is (Loop place s) d w ws e = absurd cc
arm_is (If place b s v) d w ws e = absurd cc
arm_is (Begin place s cs v) d w ws e = absurd cc
arm_is (Call place p xs cs) d w ws e = absurd cc
arm_is (Apply place r args) d w ws e = absurd cc

module _ (k : Site) (is : IsSite k) where
  abbrev P : Parts
  P = k.parts

  abbrev L : Layout
  L = k.layout

  abbrev T : Targets
  T = k.targets

  -- a machine comes to this pc with these values
  abbrev pub Gets : ℕ → Fm → ℕ → List ValueOf → Type 0
  Gets n m pc x = ComesWith P k.table k.ctrl n m pc x k.areas

  pub gets_at : (n : ℕ) (m : Fm) (pc to : ℕ) (x : List ValueOf) → pc ≡ to → Gets n m pc x → Gets n m to x
  gets_at n m pc to x e h = subst (λ a. Gets n m a x) e h

  pub at_once : (m : Fm) (pc : ℕ) (x : List ValueOf) → StandsWith P k.table k.ctrl m pc x k.areas → Gets 0 m pc x
  at_once m pc x h = record { x3 = h.x3; fl = h.fl; comes = comes_at_once h.stands }

  pub stands_there : (n : ℕ) (m : Fm) (pc : ℕ) (x : List ValueOf) (h : Gets n m pc x) → StandsWith P k.table k.ctrl h.comes.state pc x k.areas
  stands_there n m pc x h = record { x3 = h.x3; fl = h.fl; stands = h.comes.stands }

  pub jumped : (m : Fm) (pc to : ℕ) (x : List ValueOf) → StandsWith P k.table k.ctrl m pc x k.areas → CodeAt P pc (jump_code to) → Gets 1 m to x
  jumped m pc to x h code =
      record {
        x3 = h.x3;
        fl = h.fl;
        comes = ((piece_rows P k.table (now h.x3 h.fl (numbers_of x) k.areas)).jump to).leads k.ctrl m pc is.are_parts h.stands code;
      }

  -- and reads as the state with what is ahead there
  pub arrives : (n : ℕ) (m : Fm) (at p : ℕ) (x : List ValueOf) (w : List Item) (t : Tally) → Gets n m at x → VarsFit L.shapes x → Ahead k at w
      → ComesToShow k n m None (At p x w [] t)
  arrives n m at p x w t h f st =
      record {
        state = h.comes.state;
        runs = h.comes.runs;
        avoids = h.comes.avoids;
        shows = shows_ahead k h.comes.state at p x w t st (stands_there n m at x h) f;
      }

  -- Raising.

  module _ (n : ℕ) (m : Fm) (p : ℕ) (x : List ValueOf) (f : VarsFit L.shapes x) where
    -- an arm catches a condition, by what it signals
    arm_shows : (c : ConditionOf) (at place : ℕ) (v : Stmt) (w : List Item) (t : Tally) (g : CurrentCondition) → signalled v ≡ g → IsPlain L.shapes v
        → CodeAt P at (arm_code g (jump_code (at + 2 + size L v) ++ quick L (targets_above L T (at + arm_size g (size L v)) w) (at + 2) v))
        → Ahead k (at + arm_size g (size L v)) w
        → Gets n m (arm_target g (at + 2) (targets_above L T (at + arm_size g (size L v)) w)) x
        → ComesToShow k n m g (At p x (open_on v (JoinOne place ∷ w)) [] t)
    arm_shows c at place v w t None e plain code st h =
        let a : at + (2 + size L v) ≡ at + 2 + size L v = omega arith in
        let last = code_after P at (jump_code (at + 2 + size L v)) (quick L (targets_above L T (at + (2 + size L v)) w) (at + 2) v) code in
        let there = subst (λ i. CodeAt P (at + 2) (quick L (targets_above L T i w) (at + 2) v)) a last in
        let join : Ahead k (at + 2 + size L v) (JoinOne place ∷ w) = record {
          code = subst (λ i. StandsQuick P L T i w) a st.code;
          plain = st.plain;
          ends = omega (arith, st.ends);
        } in
        arrives n m (at + 2) p x (open_on v (JoinOne place ∷ w)) t h f (open_ahead k v (at + 2) (JoinOne place ∷ w) there plain join)
    arm_shows c at place v w t (Some d) e plain code st h =
        let to : at + 0 ≡ k.end - work_size L (JoinOne place ∷ w) = omega (arith, st.ends) in
        let join : Ahead k (at + 0) (JoinOne place ∷ w) = record { code = st.code; plain = st.plain; ends = omega (arith, st.ends) } in
        let goal : ShowsQuick k h.comes.state (Some d) (At p x (Do v ∷ JoinOne place ∷ w) [] t) = (
          e,
          record {
            stands = subst (λ a. StandsWith P k.table k.ctrl h.comes.state (targets_above L T a w d) x k.areas) to (stands_there n m _ x h);
            fits = f;
            room = omega (arith, st.ends);
            code = subst (λ a. StandsQuick P L T a w) to join.code;
            plain = st.plain;
          },
        ) in
        subst (λ ws. ComesToShow k n m (Some d) (At p x ws [] t)) (sym (arm_is v d (JoinOne place ∷ w) (JoinOne place ∷ w) e))
        (record { state = h.comes.state; runs = h.comes.runs; avoids = h.comes.avoids; shows = goal })

    either_shows : (b : Bool) (j l : ℕ) (one two : CurrentCondition) (g g' : State) → (Gets n m j x → ComesToShow k n m one g)
        → (Gets n m l x → ComesToShow k n m two g') → Gets n m (if b then j else l) x → ComesToShow k n m (if b then one else two) (stop_if b g g')
    either_shows true j l one two g g' first second h = first h
    either_shows false j l one two g g' first second h = second h

    pub raise_shows : (c : ConditionOf) (at : ℕ) (w : List Item) (t : Tally) → Ahead k at w → Gets n m (targets_above L T at w c) x
        → ComesToShow k n m (signalled_by c w) (raise c p x w [] t)
    raise_shows c at [] t st h =
        record {
          state = h.comes.state;
          runs = h.comes.runs;
          avoids = h.comes.avoids;
          shows = record { stands = stands_there n m (T c) x h; fits = f; room = omega arith; code = tt; plain = tt };
        }
    raise_shows c at (Do s ∷ w) t st h = raise_shows c (at + size L s) w t (tail k s at w st) h
    raise_shows c at (Back place s ∷ w) t st h =
        let rest : Ahead k (at + 2) w = record { code = st.code.3; plain = st.plain.1; ends = omega (arith, st.ends) } in
        either_shows (is_leave c) (at + 2) (targets_above L T (at + 2) w c) None (signalled_by c w) (At p x (settle w) [] (pay event.Caught t))
        (raise c p x w [] t)
        (λ g. arrives n m (at + 2) p x (settle w) (pay event.Caught t) g f (settle_ahead k (at + 2) w rest))
        (λ g. raise_shows c (at + 2) w t rest g) h
    raise_shows c at (JoinThen place v ∷ w) t st h =
        raise_shows c (at + (2 + size L v)) w t (record { code = st.code.1; plain = st.plain; ends = omega (arith, st.ends) }) h
    raise_shows c at (JoinOne place ∷ w) t st h =
        raise_shows c at w t (record { code = st.code; plain = st.plain; ends = omega (arith, st.ends) }) h
    raise_shows c at (Guard place cs v ∷ w) t st h =
        let to = at + arm_size (signalled v) (size L v) in
        let outer = targets_above L T to w in
        let rest : Ahead k to w = record { code = st.code.1; plain = st.plain.1; ends = omega (arith, st.ends) } in
        either_shows (has_cond c cs) (arm_target (signalled v) (at + 2) outer) (outer c) (signalled v) (signalled_by c w)
        (At p x (open_on v (JoinOne place ∷ w)) [] (pay event.Caught t)) (raise c p x w [] t)
        (λ g. arm_shows c at place v w (pay event.Caught t) (signalled v) refl st.plain.0 st.code.0 rest g)
        (λ g. raise_shows c to w t rest g) h
    raise_shows c at (Out d ∷ w) t st h = absurd st.code
