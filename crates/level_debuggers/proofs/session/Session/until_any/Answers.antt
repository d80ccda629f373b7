use Rattle.std.{proofs.Common.{◌≡◌, ℕ, true, false, arith, ap, sym, ◌∙◌}, proofs.lemmas.Result.err_from_is_err_and}
use Rattle.level_debuggers.specs.declared.arrival.Arrival.TheVariants as arrival
use Rattle.level_debuggers.{specs.Levels.stands_at_one, specs.Views.Belonging.level_seen, specs.Views.Sessions.session_of, proofs.ArrivalLaws.arrives}
use Rattle.level_debuggers.{proofs.ArrivalLaws.{never_there, passed, until_over, until_refused}, proofs.WalkLaws.{made_none, step_made, step_failed}}
use Rattle.level_debuggers.proofs.session.Session.until_any.Goals as goal

pub loop-made-init : goal.loop-made-init
loop-made-init g c = record { made = made_none _ c.args.self.now.in_range; before = λ j lt. absurd (omega (arith, lt)); is = c.requires }

pub loop-made-preserved : goal.loop-made-preserved
loop-made-preserved g c = record {
  made =
      step_made c.loop-made.made c.args.limit
      (session_of (λ w. (goal.Watch-dyn g (w.vtable, w.value)).watching w.value) c.args.self.now)
      (session_of (λ w. (goal.Watch-dyn g (w.vtable, w.value)).watching w.value) c.loop-made.self)
      (level_seen c.advance.new.self) c.in_ok-advance.field-0 c.loop-made.invariant.made
      c.in_ok-advance.ensures.step _ c.in-Makes.event c.in-Makes.is c.note.ensures.noted;
  before =
      passed (stands_at_one c.args.places.now) c.loop-made.made c.args.limit
      (session_of (λ w. (goal.Watch-dyn g (w.vtable, w.value)).watching w.value) c.args.self.now)
      (session_of (λ w. (goal.Watch-dyn g (w.vtable, w.value)).watching w.value) c.loop-made.self)
      c.loop-made.invariant.made c.loop-made.invariant.before (sym c.stands_at_one.ensures ∙ c.if-stands_at_one.false);
  is = c.note.ensures.is c.advance.ensures.is;
}

pub returns-in_err-advance-clause-memory : goal.returns-in_err-advance-clause-memory
returns-in_err-advance-clause-memory g c =
    let p = err_from_is_err_and c.from_residual.result c.from_residual.ensures.1 in
    rw p.1
    (step_failed c.loop-made.made c.args.limit
    (session_of (λ w. (goal.Watch-dyn g (w.vtable, w.value)).watching w.value) c.args.self.now)
    (session_of (λ w. (goal.Watch-dyn g (w.vtable, w.value)).watching w.value) c.loop-made.self)
    (level_seen c.advance.new.self) c.loop-made.invariant.made (omega arith) c.in_err-advance.ensures.unchanged)

pub returns-in-Over-clause-ran : goal.returns-in-Over-clause-ran
returns-in-Over-clause-ran g c =
    until_over (stands_at_one c.args.places.now) c.loop-made.made c.args.limit
    (session_of (λ w. (goal.Watch-dyn g (w.vtable, w.value)).watching w.value) c.args.self.now)
    (session_of (λ w. (goal.Watch-dyn g (w.vtable, w.value)).watching w.value) c.loop-made.self)
    (level_seen c.advance.new.self) c.in_ok-advance.field-0 c.loop-made.invariant.made c.loop-made.invariant.before
    (sym c.stands_at_one.ensures ∙ c.if-stands_at_one.false)
    c.in_ok-advance.ensures.step (omega arith) c.in-Over.is

pub returns-in-Stops-clause-ran : goal.returns-in-Stops-clause-ran
returns-in-Stops-clause-ran g c =
    until_refused (stands_at_one c.args.places.now) c.loop-made.made c.args.limit
    (session_of (λ w. (goal.Watch-dyn g (w.vtable, w.value)).watching w.value) c.args.self.now)
    (session_of (λ w. (goal.Watch-dyn g (w.vtable, w.value)).watching w.value) c.loop-made.self)
    (level_seen c.advance.new.self) c.in_ok-advance.field-0 c.loop-made.invariant.made c.loop-made.invariant.before
    (sym c.stands_at_one.ensures ∙ c.if-stands_at_one.false)
    c.in_ok-advance.ensures.step c.in-Stops.stop c.after.result (omega arith) c.in-Stops.is c.after.ensures

pub returns-then-stands_at_one-clause-ran : goal.returns-then-stands_at_one-clause-ran
returns-then-stands_at_one-clause-ran g c =
    arrives (stands_at_one c.args.places.now) c.loop-made.made c.args.limit
    (session_of (λ w. (goal.Watch-dyn g (w.vtable, w.value)).watching w.value) c.args.self.now)
    (session_of (λ w. (goal.Watch-dyn g (w.vtable, w.value)).watching w.value) c.loop-made.self)
    c.loop-made.invariant.made c.loop-made.invariant.before (omega arith) (sym c.stands_at_one.ensures ∙ c.if-stands_at_one.true)

pub returns-then-stands_at_one-2-clause-ran : goal.returns-then-stands_at_one-2-clause-ran
returns-then-stands_at_one-2-clause-ran g c =
    let same : c.loop-made.made ≡ c.args.limit = omega arith in
    arrives (stands_at_one c.args.places.now) c.loop-made.made c.args.limit
    (session_of (λ w. (goal.Watch-dyn g (w.vtable, w.value)).watching w.value) c.args.self.now)
    (session_of (λ w. (goal.Watch-dyn g (w.vtable, w.value)).watching w.value) c.loop-made.self)
    c.loop-made.invariant.made c.loop-made.invariant.before (omega arith) (sym c.stands_at_one-2.ensures ∙ c.if-stands_at_one-2.true)
    ∙ ap (λ (k : ℕ). record {
      arrival = arrival.There k;
      session = (session_of (λ w. (goal.Watch-dyn g (w.vtable, w.value)).watching w.value) c.loop-made.self);
    }) same

pub returns-then-is_over-clause-ran : goal.returns-then-is_over-clause-ran
returns-then-is_over-clause-ran g c =
    never_there (stands_at_one c.args.places.now) c.loop-made.made c.args.limit
    (session_of (λ w. (goal.Watch-dyn g (w.vtable, w.value)).watching w.value) c.args.self.now)
    (session_of (λ w. (goal.Watch-dyn g (w.vtable, w.value)).watching w.value) c.loop-made.self)
    true c.loop-made.invariant.made c.loop-made.invariant.before (sym c.stands_at_one-2.ensures ∙ c.if-stands_at_one-2.false)
    (omega arith) (sym c.is_over.ensures ∙ c.if-is_over.true)

pub returns-else-is_over-clause-ran : goal.returns-else-is_over-clause-ran
returns-else-is_over-clause-ran g c =
    never_there (stands_at_one c.args.places.now) c.loop-made.made c.args.limit
    (session_of (λ w. (goal.Watch-dyn g (w.vtable, w.value)).watching w.value) c.args.self.now)
    (session_of (λ w. (goal.Watch-dyn g (w.vtable, w.value)).watching w.value) c.loop-made.self)
    false c.loop-made.invariant.made c.loop-made.invariant.before (sym c.stands_at_one-2.ensures ∙ c.if-stands_at_one-2.false)
    (omega arith) (sym c.is_over.ensures ∙ c.if-is_over.false)
