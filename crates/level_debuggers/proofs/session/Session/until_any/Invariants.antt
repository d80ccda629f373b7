use Rattle.std.proofs.Common.{◌≡◌, ◌<◌, ℕ, false}
use Rattle.level_debuggers.{specs.Levels.stands_at_one, specs.Walks.walk, specs.Views.Belonging.level_seen, specs.Views.Sessions.{IsSession, session_of}}
use Rattle.level_debuggers.proofs.WalkLaws.{Made}
use Rattle.level_debuggers.proofs.session.Session.until_any.Given as goal

abbrev pub invariant-loop-made : goal.invariant-loop-made
invariant-loop-made g l = record {
  made :
      Made l.made
      (session_of (λ w. (goal.Watch-dyn g (w.vtable, w.value)).watching w.value) l.initial.self)
      (session_of (λ w. (goal.Watch-dyn g (w.vtable, w.value)).watching w.value) l.self);
  before : (j : ℕ) → j < l.made → stands_at_one l.places (walk j (level_seen l.initial.self.level)).level ≡ false;
  is : IsSession l.self;
}
