use Rattle.board_images.proofs.BoardLaws as board
use Rattle.board_images.proofs.laws.built_on_board.Goals as goal

pub returns : goal.returns
returns c = board.built_on_board c.builds_implement.ensures.implements
