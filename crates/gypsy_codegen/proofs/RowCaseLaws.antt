-- The rows of the step machine, one by one.
use Rattle.std.proofs.Common.{◌≡◌, ℕ, List, [], ◌∷◌, subst}
use Rattle.gypsy_syntax.specs.Programs.{ConditionOf, NoOp, Signal, Loop, If, Call, Apply}
use Rattle.gypsy_space.{specs.Costs.spend, specs.Needs.lack_of, specs.declared.need.Lack.Lack, specs.declared.need.Lack.TheVariants.{Nothing, Temporary}}
use Rattle.gypsy_space.specs.declared.need.Lack.TheVariants.{Control}
use Rattle.gypsy_semantics.specs.Machine.{Item, Do, Back, JoinThen, JoinOne, Guard, Out, At, Next, used, either_move, call_step, apply_step, end_step, out_step}
use Rattle.gypsy_semantics.{specs.Machine.{open_on, gypsy_step}, proofs.Rooms.nothing_lacks}
use Rattle.gypsy_codegen.{specs.Generated.generated_view, specs.Law.Follows, specs.StepRows.{Top, IsShown, at_work, NoOpRow, SignalRow, LoopRow, BackRow}}
use Rattle.gypsy_codegen.specs.StepRows.{ThenRow, ElseRow, JoinThenRow, JoinOneRow, GuardRow, CallRow, LackTemporaryRow, LackControlRow, WriteRow, FaultRow}
use Rattle.gypsy_codegen.{specs.StepRows.{BeyondRow, ReturnRow, OutRow, EndRow, MainOutRow}, proofs.PushLaws.PredefsRun, proofs.RowLaws.steps_follow}

module _ (predefs : PredefsRun) where
  follows : (s : Top) (w : List Item) → IsShown s (at_work s w) → Follows s.source (generated_view s.source s.sizes s.base) s.piton s.spent
      (gypsy_step s.source s.sizes (at_work s w))
  follows s w h = steps_follow predefs s.source s.sizes s.base s.piton (at_work s w) h.fits h.small h.state_fits h.room h.shows

  pub no_op_row : NoOpRow
  no_op_row s place h = follows s (Do (NoOp place) ∷ s.work) h

  pub signal_row : SignalRow
  signal_row s place c h = follows s (Do (Signal place c) ∷ s.work) h

  pub loop_row : LoopRow
  loop_row s place b h = follows s (Do (Loop place b) ∷ s.work) h

  pub back_row : BackRow
  back_row s place b h = follows s (Back place b ∷ s.work) h

  pub then_row : ThenRow
  then_row s place test b c holds h =
      subst (λ z. Follows s.source (generated_view s.source s.sizes s.base) s.piton s.spent
      (either_move z (Next (At s.proc s.vars (open_on b (JoinThen place c ∷ s.work)) s.waiting (spend 8 3 s.spent)))
      (Next (At s.proc s.vars (open_on c (JoinOne place ∷ s.work)) s.waiting (spend 9 4 s.spent))))) holds
      (follows s (Do (If place test b c) ∷ s.work) h)

  pub else_row : ElseRow
  else_row s place test b c fails h =
      subst (λ z. Follows s.source (generated_view s.source s.sizes s.base) s.piton s.spent
      (either_move z (Next (At s.proc s.vars (open_on b (JoinThen place c ∷ s.work)) s.waiting (spend 8 3 s.spent)))
      (Next (At s.proc s.vars (open_on c (JoinOne place ∷ s.work)) s.waiting (spend 9 4 s.spent))))) fails
      (follows s (Do (If place test b c) ∷ s.work) h)

  pub join_then_row : JoinThenRow
  join_then_row s place c h = follows s (JoinThen place c ∷ s.work) h

  pub join_one_row : JoinOneRow
  join_one_row s place h = follows s (JoinOne place ∷ s.work) h

  pub guard_row : GuardRow
  guard_row s place cs b h = follows s (Guard place cs b ∷ s.work) h

  call_by : (s : Top) (place c : ℕ) (xs : List ℕ) (cs : List ConditionOf) (l : Lack) → lack_of s.source s.sizes c (used s.source s.proc s.waiting) ≡ l
      → IsShown s (at_work s (Do (Call place c xs cs) ∷ s.work)) →
      Follows s.source (generated_view s.source s.sizes s.base) s.piton s.spent (call_step s.source l c xs cs s.proc s.vars s.work s.waiting s.spent)
  call_by s place c xs cs l lack h =
      subst (λ z. Follows s.source (generated_view s.source s.sizes s.base) s.piton s.spent
      (call_step s.source z c xs cs s.proc s.vars s.work s.waiting s.spent)) lack (follows s (Do (Call place c xs cs) ∷ s.work) h)

  pub call_row : CallRow
  call_row s place c xs cs room h = call_by s place c xs cs Nothing (nothing_lacks s.source s.sizes c (used s.source s.proc s.waiting) room) h

  pub lack_temporary_row : LackTemporaryRow
  lack_temporary_row s place c xs cs lack h = call_by s place c xs cs Temporary lack h

  pub lack_control_row : LackControlRow
  lack_control_row s place c xs cs lack h = call_by s place c xs cs Control lack h

  pub write_row : WriteRow
  write_row s place r args v e h =
      subst (λ z. Follows s.source (generated_view s.source s.sizes s.base) s.piton s.spent
      (apply_step r args z s.proc s.vars s.work s.waiting s.spent)) e (follows s (Do (Apply place r args) ∷ s.work) h)

  pub fault_row : FaultRow
  fault_row s place r args e h =
      subst (λ z. Follows s.source (generated_view s.source s.sizes s.base) s.piton s.spent
      (apply_step r args z s.proc s.vars s.work s.waiting s.spent)) e (follows s (Do (Apply place r args) ∷ s.work) h)

  pub beyond_row : BeyondRow
  beyond_row s place r args e h =
      subst (λ z. Follows s.source (generated_view s.source s.sizes s.base) s.piton s.spent
      (apply_step r args z s.proc s.vars s.work s.waiting s.spent)) e (follows s (Do (Apply place r args) ∷ s.work) h)

  pub return_row : ReturnRow
  return_row s c x w xs cs fs waits h =
      subst (λ z. Follows s.source (generated_view s.source s.sizes s.base) s.piton s.spent (end_step s.source s.proc s.vars z s.spent)) waits (follows s [] h)

  pub out_row : OutRow
  out_row s d c x w xs cs fs waits h =
      subst (λ z. Follows s.source (generated_view s.source s.sizes s.base) s.piton s.spent (out_step s.source d s.proc s.vars z s.spent)) waits
      (follows s (Out d ∷ []) h)

  pub end_row : EndRow
  end_row s none h =
      subst (λ z. Follows s.source (generated_view s.source s.sizes s.base) s.piton s.spent (end_step s.source s.proc s.vars z s.spent)) none (follows s [] h)

  pub main_out_row : MainOutRow
  main_out_row s d none h =
      subst (λ z. Follows s.source (generated_view s.source s.sizes s.base) s.piton s.spent (out_step s.source d s.proc s.vars z s.spent)) none
      (follows s (Out d ∷ []) h)
