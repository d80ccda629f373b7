-- The guard of a call goes to its place where a stack lacks room, and else falls through.
use Rattle.std.proofs.Common.{◌≡◌, ℕ, ◌+◌, ◌-◌, ◌<◌, ◌≤◌, List, ◌∷◌, ◌++◌, length, Result, Bool, true, false, Some, Ok, Err, refl, sym, ap, ◌∙◌, subst, arith}
use Rattle.std.{specs.Prelude.{nat_lt, if◌then◌else◌}, proofs.lemmas.Bool.{lt-ltb, le-ltb}}
use Rattle.piton_words.{specs.declared.word.Word.Word, specs.declared.word.Word.TheVariants.{Nat, Bool as Truth}}
use Rattle.piton_words.specs.declared.op.WordOp.TheVariants as op
use Rattle.piton_words.specs.declared.outcome.Outcome.TheVariants as outcome
use Rattle.piton_syntax.specs.declared.test_kind.TestFamily.TheVariants as family
use Rattle.piton_syntax.specs.declared.test_kind.TestKind.TheVariants as test
use Rattle.piton_check.specs.Instruction as i
use Rattle.piton_check.specs.Instruction.{Instruction, ProgramView, SystemView}
use Rattle.stack_text.specs.Values.{ValueOf}
use Rattle.piton_semantics.{specs.declared.error_kind.ErrorKind.ErrorKind, specs.declared.error_kind.ErrorKind.TheVariants.TempFull, specs.State.Frame}
use Rattle.piton_semantics.{specs.State.{PitonState, program_of, instruction_at, ctrl_used}, specs.Views.{◌>>=◌, test_of, then_on, where_true, Operands}}
use Rattle.piton_semantics.{specs.InstructionRows.{row_of, to_next}, specs.Step.{piton_step, piton_run, cost_of, cost_from, cost_at, step_cost}}
use Rattle.piton_semantics.{specs.Law.{Steps, none, more}, proofs.RowLaws.{step_is, does_push, does_test_and_jump, does_apply}}
use Rattle.piton_semantics.specs.State as piton
use Rattle.gypsy_syntax.{specs.Programs.{Program, proc_at, shapes_of}, specs.ValuesFit.VarsFit}
use Rattle.gypsy_space.{specs.Costs.{Tally, spend}, specs.Needs.{StackSizes, temp_need}}
use Rattle.gypsy_semantics.specs.Machine as machine
use Rattle.gypsy_codegen.{specs.Guard.{below_code, temp_guard, ctrl_guard, guard_code}, specs.Showing.HasAt, specs.Generated.{generated_view, code_of}}
use Rattle.gypsy_codegen.{specs.Memory.stack_of, specs.GuardLaw.{IsAtGuard, moved_to, Guards, GuardsCalls, GuardWantsTwo, CallsHaveTwo, FreeIsBefore}}
use Rattle.gypsy_codegen.{proofs.LayoutLaws.height, proofs.StepLaws.{Pt, state_at, Goes, steps_append, program_is}, proofs.PushLaws.{has_front, has_back}}
use Rattle.gypsy_codegen.proofs.PushLaws.{has_words, Live, free_temp, free_ctrl, here, top}

test_true : (b : Bool) → test_of family.Bool test.T (Truth b) ≡ Ok b
unfolding then_on
test_true b = refl

-- one step of an instruction at its cost
one_step : (s : SystemView) (p q : PitonState) (f : Frame) (fs : List Frame) (x : Instruction) (n : ℕ) → p.frames ≡ f ∷ fs →
    instruction_at s p.program p.place ≡ Some x → row_of s p x ≡ Ok q → cost_of s p x ≡ n → Steps s 1 n p q
one_step s p q f fs x n e h r c =
    let k : step_cost s p + 0 ≡ n = omega (arith, ap (cost_from s p) e, ap (cost_at s p) h, c) in
    subst (λ i. Steps s 1 i p q) k (more f fs e (step_is s p f fs x e h ∙ r) none)

module _ (s : SystemView) where
  -- half of the guard: what is free is pushed, compared and tested
  half : (p : PitonState) (f : Frame) (fs : List Frame) (push : Instruction) (free need to : ℕ) → p.frames ≡ f ∷ fs →
      HasAt (program_of s p.program).instructions p.place (push ∷ below_code need to) → length p.stack + 2 ≤ s.temp →
      row_of s p push ≡ to_next p (Nat free ∷ p.stack) → cost_of s p push ≡ 3 →
      Steps s 4 11 p (moved_to p (if nat_lt free need then to else p.place + 1 + 1 + 1 + 1))
  half p f fs push free need to e h two pushes cost =
      let b = nat_lt free need in
      let p1 : PitonState = record p { place = p.place + 1; stack = Nat free ∷ p.stack } in
      let p2 : PitonState = record p { place = p.place + 1 + 1; stack = Nat need ∷ Nat free ∷ p.stack } in
      let p3 : PitonState = record p { place = p.place + 1 + 1 + 1; stack = Truth b ∷ p.stack } in
      let p4 : PitonState = moved_to p (if b then to else p.place + 1 + 1 + 1 + 1) in
      let o : Operands = record { third = Nat need; second = Nat free; top = Nat need; below = p.stack } in
      let first = one_step s p p1 f fs push 3 e h.0 pushes cost in
      let second = one_step s p1 p2 f fs (i.PushConstant (Nat need)) 1 e h.1.0 (does_push s.temp p1 (Nat need) (omega (arith, two))) refl in
      let third = one_step s p2 p3 f fs (i.Apply op.LtNat) 5 e h.1.1.0 (does_apply s.temp p2 op.LtNat o (outcome.One (Truth b)) refl refl refl) refl in
      let fourth = one_step s p3 p4 f fs (i.TestAndJump family.Bool test.T to) 2 e h.1.1.1.0
      (does_test_and_jump p3 family.Bool test.T to (Truth b) p.stack b refl (test_true b)) refl in
      steps_append s 1 3 3 8 p p1 p4 first (steps_append s 1 1 2 7 p1 p2 p4 second (steps_append s 1 5 1 2 p2 p3 p4 third fourth))

  -- where this place is the one to which the test leads
  to_end : (p : PitonState) (j n : ℕ) (b c : Bool) (x y z : ℕ) → b ≡ c → (if c then x else y) ≡ z → Steps s j n p (moved_to p (if b then x else y))
      → Steps s j n p (moved_to p z)
  to_end p j n b c x y z e f st =
      subst (λ k. Steps s j n p (moved_to p k)) f (subst (λ d. Steps s j n p (moved_to p (if d then x else y))) e st)

  pub guards : (need : StackSizes) (to : ℕ) (p : PitonState) → IsAtGuard s need to p → length p.stack + 2 ≤ s.temp → ctrl_used p.frames ≤ s.ctrl
      → Guards s need to p
  guards need to p g two fits =
      let code = (program_of s p.program).instructions in
      let f = g.frame in
      let fs = g.older in
      let four : ℕ = p.place + 1 + 1 + 1 + 1 in
      let free = s.temp - length p.stack in
      let rest = s.ctrl - ctrl_used p.frames in
      let q : PitonState = moved_to p four in
      let h1 = has_front code p.place (temp_guard need.temp to) (ctrl_guard need.ctrl to) g.code in
      let h2 = has_back code p.place (temp_guard need.temp to) (ctrl_guard need.ctrl to) four (omega arith) g.code in
      let one = half p f fs i.PushTempStkFreeSize free need.temp to g.frames h1 two (does_push s.temp p (Nat free) (omega (arith, two))) refl in
      let two' = half q f fs i.PushCtrlStkFreeSize rest need.ctrl to g.frames h2 two (does_push s.temp q (Nat rest) (omega (arith, two))) refl in
      let on : length p.stack + need.temp ≤ s.temp → Steps s 4 11 p q =
      λ e. to_end p 4 11 (nat_lt free need.temp) false to four four (le-ltb free need.temp (omega (arith, e))) refl one in
      record {
        temp_lacks = λ e. to_end p 4 11 (nat_lt free need.temp) true to four to (lt-ltb free need.temp (omega (arith, e, two))) refl one;
        ctrl_lacks = λ e l. steps_append s 4 11 4 11 p q (moved_to p to) (on e)
            (to_end q 4 11 (nat_lt rest need.ctrl) true to (four + 1 + 1 + 1 + 1) to (lt-ltb rest need.ctrl (omega (arith, l, fits))) refl two');
        has_room = λ e l.
            let last : four + 1 + 1 + 1 + 1 ≡ p.place + 8 = omega arith in
            steps_append s 4 11 4 11 p q (moved_to p (p.place + 8)) (on e)
            (to_end q 4 11 (nat_lt rest need.ctrl) false to (four + 1 + 1 + 1 + 1) (p.place + 8) (le-ltb rest need.ctrl (omega (arith, l, fits))) last
            two');
      }

pub guards_calls : GuardsCalls
guards_calls s need to p g two fits = guards s need to p g two fits

pub free_is_before : FreeIsBefore
free_is_before s p room = does_push s.temp p (Nat (s.temp - length p.stack)) room

where_fails : {A : Type 0} (b : Bool) (kind : ErrorKind) (answer : Result A ErrorKind) → b ≡ false → where_true b kind answer ≡ Err kind
unfolding where_true
where_fails b kind answer h = rw h refl

pub guard_wants_two : GuardWantsTwo
unfolding piton_run then_on
guard_wants_two s need to p g one =
    let free = s.temp - length p.stack in
    let p1 : PitonState = record p { place = p.place + 1; stack = Nat free ∷ p.stack } in
    let pushes : piton_step s p ≡ Ok p1 =
    step_is s p g.frame g.older i.PushTempStkFreeSize g.frames g.code.0 ∙ does_push s.temp p (Nat free) (omega (arith, one)) in
    let full : piton_step s p1 ≡ Err TempFull =
    step_is s p1 g.frame g.older (i.PushConstant (Nat need.temp)) g.frames g.code.1.0
    ∙ where_fails (nat_lt (length p1.stack) s.temp) TempFull (to_next p1 (Nat need.temp ∷ p1.stack)) (le-ltb (length p1.stack) s.temp (omega (arith, one))) in
    ap (λ r. r >>= piton_run s 1) pushes ∙ ap (λ r. r >>= piton_run s 0) full

pub calls_have_two : CallsHaveTwo
calls_have_two q sizes a p x place c xs cs w fs t fits room shows =
    omega (arith, ap length shows.stack, height q p x fs fits.0 fits.2, (has_words q sizes p fs room.1).0, room.0.0.0)

-- In an activation that has two words free.
module _ {q : Program} {sizes : StackSizes} {base p : ℕ} {fs : List machine.Frame} {fr : List piton.Frame} (a : Live q sizes base p fs fr)
    (x : List ValueOf) (st : List Word) (es : st ≡ stack_of q p x fs) (v : VarsFit (shapes_of (proc_at q p)) x)
    (two : 2 ≤ temp_need (proc_at q p)) where
  guards_here : (need : StackSizes) (at cc to : ℕ) (is : List Instruction) → HasAt (code_of q p) at (guard_code need to ++ is)
      → Guards (generated_view q sizes base) need to (state_at p at cc st fr)
  guards_here need at cc to is h =
      let t = top a in
      let front = has_front (code_of q p) at (guard_code need to) is h in
      let is_code = program_is q sizes base p (here a) in
      let there = subst (λ (z : ProgramView). HasAt z.instructions at (guard_code need to)) (sym is_code) front in
      guards (generated_view q sizes base) need to (state_at p at cc st fr)
      record { frame = _; older = t.older; frames = t.is; code = there }
      (omega (arith, free_temp a x st es v, two)) (omega (arith, free_ctrl a))

  module _ (need : StackSizes) (at cc to : ℕ) (is : List Instruction) (t : Tally) (h : HasAt (code_of q p) at (guard_code need to ++ is)) where
    -- the guard of a call without room on the temporary stack
    pub temp_lacks : sizes.temp < length st + need.temp → Goes (generated_view q sizes base) (Pt p at cc st fr t) (Pt p to cc st fr (spend 11 4 t))
    temp_lacks e = record { steps = 4; cost = 11; runs = (guards_here need at cc to is h).temp_lacks e; tally = refl }

    -- of one without room on the control stack alone
    pub ctrl_lacks : length st + need.temp ≤ sizes.temp → sizes.ctrl < ctrl_used fr + need.ctrl
        → Goes (generated_view q sizes base) (Pt p at cc st fr t) (Pt p to cc st fr (spend 22 8 t))
    ctrl_lacks e l = record { steps = 8; cost = 22; runs = (guards_here need at cc to is h).ctrl_lacks e l; tally = refl }

    -- of one with room
    pub has_room : length st + need.temp ≤ sizes.temp → ctrl_used fr + need.ctrl ≤ sizes.ctrl
        → Goes (generated_view q sizes base) (Pt p at cc st fr t) (Pt p (at + 8) cc st fr (spend 22 8 t))
    has_room e l = record { steps = 8; cost = 22; runs = (guards_here need at cc to is h).has_room e l; tally = refl }
