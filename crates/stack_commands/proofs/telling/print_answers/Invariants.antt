use Rattle.std.{proofs.Common.{◌≤◌, drop}, specs.Prelude.[]}
use Rattle.level_debuggers.{specs.Views.Sessions.{IsSession, session_of}, specs.Transcripts.followed}
use Rattle.stack_commands.proofs.TranscriptLaws.{SoFar}
use Rattle.stack_commands.proofs.telling.print_answers.Given as goal

abbrev pub invariant-loop-line : goal.invariant-loop-line
invariant-loop-line g l =
    let sink = g.K.Sink in
    record {
      so_far :
          SoFar sink.took l.initial.out l.out (sink.taken l.initial.out) (sink.taken l.out)
          (followed [] l.lines (session_of (λ w. (goal.Watch-dyn g (w.vtable, w.value)).watching w.value) l.initial.session))
          (drop l.line-index l.lines)
          (session_of (λ w. (goal.Watch-dyn g (w.vtable, w.value)).watching w.value) l.session);
      faults : sink.faults l.initial.out ≤ sink.faults l.out;
      is : IsSession l.session;
    }
