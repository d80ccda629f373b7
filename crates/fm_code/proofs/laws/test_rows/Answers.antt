use Rattle.fm_code.proofs.RowLaws.{test_rows}
use Rattle.fm_code.proofs.laws.test_rows.Goals as goal

pub returns : goal.returns
returns c = test_rows
