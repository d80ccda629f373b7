use Rattle.std.proofs.Common.{◌≡◌, drop}
use Rattle.level_debuggers.{specs.Views.Sessions.{IsSession, session_of}, specs.Walks.SessionOf, specs.Transcripts.{IsLeftIn, followed}}
use Rattle.level_debuggers.proofs.transcript.follow.Given as goal

abbrev pub invariant-loop-line : goal.invariant-loop-line
invariant-loop-line g l = record {
  followed :
      followed l.text.items (drop l.line-index l.lines)
      (session_of (λ w. (goal.Watch-dyn g (w.vtable, w.value)).watching w.value) l.session)
      ≡ followed l.initial.text.items l.lines
      (session_of (λ w. (goal.Watch-dyn g (w.vtable, w.value)).watching w.value) l.initial.session);
  left :
      (left : SessionOf) → IsLeftIn (drop l.line-index l.lines)
      (session_of (λ w. (goal.Watch-dyn g (w.vtable, w.value)).watching w.value) l.session) left
      → IsLeftIn l.lines
      (session_of (λ w. (goal.Watch-dyn g (w.vtable, w.value)).watching w.value) l.initial.session) left;
  is : IsSession l.session;
}
