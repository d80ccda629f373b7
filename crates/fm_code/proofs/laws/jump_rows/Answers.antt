use Rattle.fm_code.proofs.RowLaws.{jump_rows}
use Rattle.fm_code.proofs.laws.jump_rows.Goals as goal

pub returns : goal.returns
returns c = λ P here. jump_rows P here.frame here.pc here.ctrl here.temp here.areas
