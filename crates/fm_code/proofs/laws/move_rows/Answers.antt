use Rattle.fm_code.proofs.RowLaws.{move_rows}
use Rattle.fm_code.proofs.laws.move_rows.Goals as goal

pub returns : goal.returns
returns c = λ P here. move_rows P here.frame here.pc here.ctrl here.temp here.areas
