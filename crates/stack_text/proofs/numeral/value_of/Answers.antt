use Rattle.std.proofs.lemmas.Str.{IsUtf8-from_ascii}
use Rattle.stack_text.proofs.NumeralLaws.{numeral_ascii, parsed}
use Rattle.stack_text.proofs.numeral.value_of.Goals as goal

pub returns-in-Ok : goal.returns-in-Ok
returns-in-Ok c = rw c.ok.ensures.value (parsed c.args.numeral.now c.parse.result c.requires (rw c.in-Ok.ensures.cases.0 at c.parse.ensures.value.0))

pub returns-in-Err : goal.returns-in-Err
returns-in-Err c = λ h. c.in-Err.ensures.cases.0 (IsUtf8-from_ascii c.args.numeral.now (numeral_ascii c.args.numeral.now c.requires))
