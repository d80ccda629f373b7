use Rattle.mini_syntax.{proofs.OneAnswerLaws.{either_way, one_fault}, proofs.OneProgramLaws.program_is}
use Rattle.mini_syntax.proofs.laws.texts_have_one_answer.Goals as goal

pub returns : goal.returns
returns c = record { program = program_is; fault = one_fault; either = either_way }
