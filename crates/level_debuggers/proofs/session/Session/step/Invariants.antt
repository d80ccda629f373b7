use Rattle.level_debuggers.{specs.Views.Sessions.{IsSession, session_of}, proofs.WalkLaws.Made}
use Rattle.level_debuggers.proofs.session.Session.step.Given as goal

abbrev pub invariant-loop-made : goal.invariant-loop-made
invariant-loop-made g l = record {
  made :
      Made l.made
      (session_of (λ w. (goal.Watch-dyn g (w.vtable, w.value)).watching w.value) l.initial.self)
      (session_of (λ w. (goal.Watch-dyn g (w.vtable, w.value)).watching w.value) l.self);
  is : IsSession l.self;
}
