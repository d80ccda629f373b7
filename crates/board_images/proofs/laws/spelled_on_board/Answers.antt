use Rattle.board_images.proofs.BoardLaws as board
use Rattle.board_images.proofs.laws.spelled_on_board.Goals as goal

pub returns : goal.returns
returns c = board.spelled_on_board
