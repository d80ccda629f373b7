use Rattle.cli_stack.proofs.conversing.print_unread.Goals as goal

pub returns-in-Ok : goal.returns-in-Ok
returns-in-Ok g c = (c.conclude_reply.new.kept, rw c.in-Ok.ensures at c.conclude_reply.ensures)
