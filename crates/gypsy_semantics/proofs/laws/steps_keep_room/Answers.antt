use Rattle.gypsy_semantics.proofs.Rooms.{start_room, step_room}
use Rattle.gypsy_semantics.proofs.laws.steps_keep_room.Goals as goal

pub returns-clause-start : goal.returns-clause-start
returns-clause-start c = start_room

pub returns-clause-step : goal.returns-clause-step
returns-clause-step c = step_room
