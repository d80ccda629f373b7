use Rattle.stack_heap.proofs.HeldLaws.{each_list_is_held}
use Rattle.stack_heap.proofs.laws.each_list_is_held.Goals as goal

pub returns : goal.returns
returns g c = each_list_is_held _
