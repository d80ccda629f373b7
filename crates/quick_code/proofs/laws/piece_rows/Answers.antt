use Rattle.quick_code.proofs.PieceLaws.{piece_rows}
use Rattle.quick_code.proofs.laws.piece_rows.Goals as goal

pub returns : goal.returns
returns c = λ P table a. piece_rows P table a
