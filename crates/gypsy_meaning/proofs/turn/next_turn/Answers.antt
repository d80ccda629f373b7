use Rattle.gypsy_meaning.proofs.OpenLaws.{last_top}
use Rattle.gypsy_meaning.proofs.turn.next_turn.Goals as goal

pub turn_of-requires-clause-top : goal.turn_of-requires-clause-top
turn_of-requires-clause-top g c = last_top c.args.items.now c.in-Some.top.now c.in-Some.ensures.value
