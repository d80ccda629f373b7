use Rattle.mini_syntax.proofs.AnswerLaws.{read}
use Rattle.mini_syntax.proofs.laws.texts_have_an_answer.Goals as goal

pub returns : goal.returns
returns c = read
