use Rattle.fm_code.proofs.RowLaws.{word_rows}
use Rattle.fm_code.proofs.laws.word_rows.Goals as goal

pub returns : goal.returns
returns c = λ P here. word_rows P here.frame here.pc here.ctrl here.temp here.areas
