use Rattle.std.{proofs.Common.arith, proofs.lemmas.Result.err_from_is_err_and}
use Rattle.level_debuggers.{specs.Views.Belonging.level_seen, specs.Views.Sessions.session_of, proofs.WalkLaws.{made_none, step_made, step_over, step_refused}}
use Rattle.level_debuggers.proofs.WalkLaws.{step_failed}
use Rattle.level_debuggers.proofs.session.Session.step.Goals as goal

pub loop-made-init : goal.loop-made-init
loop-made-init g c = record { made = made_none _ c.args.self.now.in_range; is = c.requires }

pub loop-made-preserved : goal.loop-made-preserved
loop-made-preserved g c = record {
  made =
      step_made c.loop-made.made c.args.n
      (session_of (λ w. (goal.Watch-dyn g (w.vtable, w.value)).watching w.value) c.args.self.now)
      (session_of (λ w. (goal.Watch-dyn g (w.vtable, w.value)).watching w.value) c.loop-made.self)
      (level_seen c.advance.new.self) c.in_ok-advance.field-0 c.loop-made.invariant.made c.in_ok-advance.ensures.step _ c.in-Makes.event c.in-Makes.is
      c.note.ensures.noted;
  is = c.note.ensures.is c.advance.ensures.is;
}

pub returns-in-Over-clause-ran : goal.returns-in-Over-clause-ran
returns-in-Over-clause-ran g c =
    step_over c.loop-made.made c.args.n
    (session_of (λ w. (goal.Watch-dyn g (w.vtable, w.value)).watching w.value) c.args.self.now)
    (session_of (λ w. (goal.Watch-dyn g (w.vtable, w.value)).watching w.value) c.loop-made.self)
    (level_seen c.advance.new.self) c.in_ok-advance.field-0 c.loop-made.invariant.made c.in_ok-advance.ensures.step (omega arith) c.in-Over.is

pub returns-in-Stops-clause-ran : goal.returns-in-Stops-clause-ran
returns-in-Stops-clause-ran g c =
    step_refused c.loop-made.made c.args.n
    (session_of (λ w. (goal.Watch-dyn g (w.vtable, w.value)).watching w.value) c.args.self.now)
    (session_of (λ w. (goal.Watch-dyn g (w.vtable, w.value)).watching w.value) c.loop-made.self)
    (level_seen c.advance.new.self) c.in_ok-advance.field-0 c.loop-made.invariant.made c.in_ok-advance.ensures.step
    c.in-Stops.stop c.after.result (omega arith) c.in-Stops.is c.after.ensures

pub returns-in_err-advance-clause-memory : goal.returns-in_err-advance-clause-memory
returns-in_err-advance-clause-memory g c =
    let p = err_from_is_err_and c.from_residual.result c.from_residual.ensures.1 in
    rw p.1
    (step_failed c.loop-made.made c.args.n
    (session_of (λ w. (goal.Watch-dyn g (w.vtable, w.value)).watching w.value) c.args.self.now)
    (session_of (λ w. (goal.Watch-dyn g (w.vtable, w.value)).watching w.value) c.loop-made.self)
    (level_seen c.advance.new.self) c.loop-made.invariant.made (omega arith) c.in_err-advance.ensures.unchanged)
