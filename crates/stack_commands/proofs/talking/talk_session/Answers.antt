use Rattle.stack_commands.proofs.TalkEndLaws.{not_begun}
use Rattle.stack_commands.proofs.talking.talk_session.Goals as goal

pub returns-in-Err-clause-partly : goal.returns-in-Err-clause-partly
returns-in-Err-clause-partly g c = not_begun _ _ _ _ _ g.K.Sink.took _ _ _ (λ is. cc)
