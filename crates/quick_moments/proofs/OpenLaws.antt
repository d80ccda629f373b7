-- What is ahead of a machine: the code of a list of work, as statements come to its top.
use Rattle.std.proofs.Common.{◌≡◌, ℕ, ◌+◌, ◌-◌, List, [], ◌∷◌, ◌++◌, length, None, subst, arith}
use Rattle.stack_text.specs.Values.{ValueOf}
use Rattle.fm_machine.specs.State.{Fm}
use Rattle.fm_code.{specs.Execution.{Parts, CodeAt}, specs.Templates.jump_code, proofs.CodeLaws.{code_front, code_after}}
use Rattle.gypsy_syntax.{specs.Programs.{Stmt, Skip, NoOp, Signal, Seq, Loop, If, Begin, Call, Apply}, specs.ValuesFit.VarsFit}
use Rattle.gypsy_space.specs.Costs.{Tally}
use Rattle.gypsy_semantics.specs.Machine.{Item, Do, Back, JoinThen, JoinOne, Guard, Out, At, opens, settle, open_on}
use Rattle.quick_gypsy.{specs.Layout.Layout, specs.Quick.{Targets, IsPlain, size, quick, signalled, arm_size, arm_target, arm_code, begin_targets}}
use Rattle.quick_gypsy.{specs.QuickRuns.StandsWith, proofs.QuickLaws.quick_length}
use Rattle.quick_moments.{specs.QuickMarks.{work_size, targets_above, StandsQuick, ArePlain}, specs.QuickShows.{Site, ReadsWork, ShowsQuick}}

-- the code behind other code, which is so long
pub behind : (P : Parts) (pc k : ℕ) (ws vs : List ℕ) → length ws ≡ k → CodeAt P pc (ws ++ vs) → CodeAt P (pc + k) vs
behind P pc k ws vs e code = subst (λ i. CodeAt P (pc + i) vs) e (code_after P pc ws vs code)

-- the code of these items stands from this address to the end
pub record Ahead (k : Site) (at : ℕ) (w : List Item) : Type 0 where
  pub code : StandsQuick k.parts k.layout k.targets at w
  pub plain : ArePlain k.layout.shapes w
  pub ends : at + work_size k.layout w ≡ k.end

module _ (k : Site) where
  abbrev P : Parts
  P = k.parts

  abbrev L : Layout
  L = k.layout

  abbrev T : Targets
  T = k.targets

  pub moved : (at to : ℕ) (w : List Item) → at ≡ to → Ahead k at w → Ahead k to w
  moved at to w e h = subst (λ a. Ahead k a w) e h

  -- a statement on top
  pub with_top : (s : Stmt) (at : ℕ) (w : List Item) → CodeAt P at (quick L (targets_above L T (at + size L s) w) at s) → IsPlain L.shapes s
      → Ahead k (at + size L s) w → Ahead k at (Do s ∷ w)
  with_top s at w h f st = record { code = (h, st.code); plain = (f, st.plain); ends = omega (arith, st.ends) }

  opens_ahead : (s : Stmt) (at : ℕ) (w ws : List Item) → CodeAt P at (quick L (targets_above L T (at + size L s) w) at s) → IsPlain L.shapes s
      → Ahead k (at + size L s) w → Ahead k (at + size L s) ws → Ahead k at (opens s w ws)
  opens_ahead Skip at w ws h f st o = moved (at + 0) at ws (omega arith) o
  opens_ahead (NoOp place) at w ws h f st o = with_top (NoOp place) at w h f st
  opens_ahead (Signal place c) at w ws h f st o = with_top (Signal place c) at w h f st
  opens_ahead (Seq a b) at w ws h f st o =
      let e : at + (size L a + size L b) ≡ at + size L a + size L b = omega arith in
      let T' = targets_above L T (at + size L a + size L b) w in
      let whole = subst (λ i. CodeAt P at (quick L (targets_above L T i w) at (Seq a b))) e h in
      let last = behind P at (size L a) (quick L T' at a) (quick L T' (at + size L a) b) (quick_length L T' at a) whole in
      let first = code_front P at (quick L T' at a) (quick L T' (at + size L a) b) whole in
      let st' = moved _ _ w e st in
      opens_ahead a at (Do b ∷ w) (opens b w ws) first f.0 (with_top b (at + size L a) w last f.1 st')
      (opens_ahead b (at + size L a) w ws last f.1 st' (moved _ _ ws e o))
  opens_ahead (Loop place s) at w ws h f st o = with_top (Loop place s) at w h f st
  opens_ahead (If place b s v) at w ws h f st o = with_top (If place b s v) at w h f st
  opens_ahead (Begin place s cs v) at w ws h f st o =
      let n = arm_size (signalled v) (size L v) in
      let e : at + (size L s + n) ≡ at + size L s + n = omega arith in
      let outer = targets_above L T (at + size L s + n) w in
      let inner = begin_targets cs (arm_target (signalled v) (at + size L s + 2) outer) outer in
      let arm = arm_code (signalled v) (jump_code (at + size L s + 2 + size L v) ++ quick L outer (at + size L s + 2) v) in
      let whole = subst (λ i. CodeAt P at (quick L (targets_above L T i w) at (Begin place s cs v))) e h in
      let guard : Ahead k (at + size L s) (Guard place cs v ∷ w) = record {
        code = (behind P at (size L s) (quick L inner at s) arm (quick_length L inner at s) whole, (moved _ _ w e st).code);
        plain = (f.1, st.plain);
        ends = omega (arith, st.ends);
      } in
      opens_ahead s at (Guard place cs v ∷ w) (Guard place cs v ∷ w) (code_front P at (quick L inner at s) arm whole) f.0 guard guard
  opens_ahead (Call place p xs cs) at w ws h f st o = absurd f
  opens_ahead (Apply place r args) at w ws h f st o = with_top (Apply place r args) at w h f st

  -- what is behind the top statement
  pub tail : (s : Stmt) (at : ℕ) (w : List Item) → Ahead k at (Do s ∷ w) → Ahead k (at + size L s) w
  tail s at w st = record { code = st.code.1; plain = st.plain.1; ends = omega (arith, st.ends) }

  pub settle_ahead : (at : ℕ) (w : List Item) → Ahead k at w → Ahead k at (settle w)
  settle_ahead at [] st = st
  settle_ahead at (Do s ∷ w) st =
      opens_ahead s at w (settle w) st.code.0 st.plain.0 (tail s at w st) (settle_ahead (at + size L s) w (tail s at w st))
  settle_ahead at (Back place s ∷ w) st = st
  settle_ahead at (JoinThen place v ∷ w) st = st
  settle_ahead at (JoinOne place ∷ w) st = st
  settle_ahead at (Guard place cs v ∷ w) st = st
  settle_ahead at (Out c ∷ w) st = absurd st.code

  pub open_ahead : (s : Stmt) (at : ℕ) (w : List Item) → CodeAt P at (quick L (targets_above L T (at + size L s) w) at s) → IsPlain L.shapes s
      → Ahead k (at + size L s) w → Ahead k at (open_on s w)
  open_ahead s at w h f st = opens_ahead s at w (settle w) h f st (settle_ahead (at + size L s) w st)

  -- a machine there reads so
  pub reads_ahead : (m : Fm) (at : ℕ) (x : List ValueOf) (w : List Item) → Ahead k at w → StandsWith P k.table k.ctrl m at x k.areas → VarsFit L.shapes x
      → ReadsWork k m (k.end - work_size L w) x w
  reads_ahead m at x w st h f =
      let e : at ≡ k.end - work_size L w = omega (arith, st.ends) in
      record {
        stands = subst (λ a. StandsWith P k.table k.ctrl m a x k.areas) e h;
        fits = f;
        room = omega (arith, st.ends);
        code = subst (λ a. StandsQuick P L T a w) e st.code;
        plain = st.plain;
      }

  pub shows_ahead : (m : Fm) (at p : ℕ) (x : List ValueOf) (w : List Item) (t : Tally) → Ahead k at w → StandsWith P k.table k.ctrl m at x k.areas
      → VarsFit L.shapes x → ShowsQuick k m None (At p x w [] t)
  shows_ahead m at p x [] t st h f = reads_ahead m at x [] st h f
  shows_ahead m at p x (Do s ∷ w) t st h f = reads_ahead m at x (Do s ∷ w) st h f
  shows_ahead m at p x (Back place s ∷ w) t st h f = reads_ahead m at x (Back place s ∷ w) st h f
  shows_ahead m at p x (JoinThen place v ∷ w) t st h f = reads_ahead m at x (JoinThen place v ∷ w) st h f
  shows_ahead m at p x (JoinOne place ∷ w) t st h f = reads_ahead m at x (JoinOne place ∷ w) st h f
  shows_ahead m at p x (Guard place cs v ∷ w) t st h f = reads_ahead m at x (Guard place cs v ∷ w) st h f
  shows_ahead m at p x (Out c ∷ w) t st h f = absurd st.code

  -- and the other way round
  pub ahead_of : (m : Fm) (pc : ℕ) (x : List ValueOf) (w : List Item) → ReadsWork k m pc x w → Ahead k (k.end - work_size L w) w
  ahead_of m pc x w h = record { code = h.code; plain = h.plain; ends = omega (arith, h.room) }
