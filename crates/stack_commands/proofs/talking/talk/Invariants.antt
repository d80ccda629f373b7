use Rattle.std.proofs.Common.{◌≤◌}
use Rattle.level_debuggers.specs.Views.Sessions.{IsSession, session_of}
use Rattle.stack_commands.proofs.TalkLaws.{Heard}
use Rattle.stack_commands.proofs.talking.talk.Given as goal

abbrev pub invariant-loop-before : goal.invariant-loop-before
invariant-loop-before g l =
    let sink = g.K.Sink in
    let lines = g.L.Lines in
    record {
      heard :
          Heard lines.came l.initial.lines l.lines sink.took l.initial.out l.out (sink.taken l.initial.out) (sink.taken l.out)
          (session_of (λ w. (goal.Watch-dyn g (w.vtable, w.value)).watching w.value) l.initial.session)
          (session_of (λ w. (goal.Watch-dyn g (w.vtable, w.value)).watching w.value) l.session) l.before;
      faults : sink.faults l.initial.out ≤ sink.faults l.out;
      counts : lines.faults l.initial.lines ≤ lines.faults l.lines;
      overruns : lines.overruns l.initial.lines ≤ lines.overruns l.lines;
      is : IsSession l.session;
    }
