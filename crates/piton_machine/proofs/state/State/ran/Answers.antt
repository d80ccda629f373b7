use Rattle.std.proofs.Common.{◌≡◌, ◌∙◌, ◌-◌, ◌+◌, suc, ap, sym, arith, length}
use Rattle.piton_check.specs.Instruction.{system_view}
use Rattle.piton_semantics.{specs.declared.stepped.PitonRun.PitonRun, specs.StateView.{Seen, Ran, state_run}, proofs.SeenLaws.{ran_next, ran_halted, ran_error}}
use Rattle.piton_semantics.proofs.SeenLaws.{ran_none, end_halted, end_spent}
use Rattle.piton_machine.proofs.state.State.ran.Goals as goal
use Rattle.piton_machine.proofs.state.State.ran.Goals.{then-len-eq0, else-len-eq0}

pub returns-in-Halted-clause-ran : goal.returns-in-Halted-clause-ran
returns-in-Halted-clause-ran c =
    let s = system_view c.args.checked.now in
    let k = c.args.limit - (c.loop-made._made + 1) in
    let more : c.args.limit - c.loop-made._made ≡ suc k = omega (arith, c.loop-made-test.true) in
    c.loop-made.invariant.same
    ∙ ap (λ n. state_run s n c.loop-made.self) more
    ∙ ran_halted s k c.loop-made.self c.stepped.new.self c.in-Halted.ensures.answer c.in-Halted.ensures.left

pub returns-in-Error-clause-ran : goal.returns-in-Error-clause-ran
returns-in-Error-clause-ran c =
    let s = system_view c.args.checked.now in
    let k = c.args.limit - (c.loop-made._made + 1) in
    let more : c.args.limit - c.loop-made._made ≡ suc k = omega (arith, c.loop-made-test.true) in
    c.loop-made.invariant.same
    ∙ ap (λ n. state_run s n c.loop-made.self) more
    ∙ ran_error s k c.loop-made.self c.stepped.new.self c.in-Error.kind c.in-Error.ensures.answer c.in-Error.ensures.left

pub loop-made-preserved : goal.loop-made-preserved
loop-made-preserved c =
    let s = system_view c.args.checked.now in
    let k = c.args.limit - (c.loop-made._made + 1) in
    let more : c.args.limit - c.loop-made._made ≡ suc k = omega (arith, c.loop-made-test.true) in
    record {
      same = c.loop-made.invariant.same
          ∙ ap (λ n. state_run s n c.loop-made.self) more
          ∙ ran_next s k c.loop-made.self c.stepped.new.self c.in-Next.ensures.answer c.in-Next.ensures.left;
      fits = c.in-Next.ensures.fits;
    }

pub returns-clause-ran : goal.returns-clause-ran
returns-clause-ran c =
    let s = system_view c.args.checked.now in
    let none : c.args.limit - c.loop-made._made ≡ 0 = omega (arith, c.loop-made-test.false) in
    let ends : PitonRun → Ran = λ r. record { run = r; seen = c.loop-made.self } in
    let size : c.len.result ≡ length c.loop-made.self.state.frames = c.len.ensures.len ∙ ap (λ (v : Seen). length v.state.frames) c.self.view_is in
    c.loop-made.invariant.same
    ∙ ap (λ n. state_run s n c.loop-made.self) none
    ∙ ran_none s c.loop-made.self
    ∙ elim c.if-len-eq0.branch [
      | then-len-eq0 w ↦ ap ends (end_halted c.loop-made.self.state.frames (sym size ∙ w.if-len-eq0.true) ∙ sym w.result-is)
      | else-len-eq0 w ↦ ap ends (end_spent c.loop-made.self.state.frames (λ e. w.if-len-eq0.false (size ∙ e)) ∙ sym w.result-is)
    ]
