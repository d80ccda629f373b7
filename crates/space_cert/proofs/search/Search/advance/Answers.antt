use Rattle.std.proofs.Common.{◌≤◌, length, arith}
use Rattle.stack_heap.proofs.UnlessLaws.{if_ok_unless_weaker}
use Rattle.space_cert.{specs.Internal.SearchView.{HasFinished, HasAdvanced, search_of, seen_calls}, proofs.FollowLaws.{entered_below, finish_advances}}
use Rattle.space_cert.proofs.search.Search.advance.Goals as goal

pub finish-requires-clause-marked : goal.finish-requires-clause-marked
finish-requires-clause-marked g c =
    entered_below c.args.self.now.marks.items c.args.self.now.entered.items (search_of c.args.self.now).done c.requires.search.marked

pub returns-then-len-self-clause-advanced : goal.returns-then-len-self-clause-advanced
returns-then-len-self-clause-advanced g c =
    let cs = seen_calls c.args.calls.now in
    let s = search_of c.args.self.now in
    let le : length s.todo ≤ s.top.from = omega (arith, c.if-len-self.true, c.len.ensures, c.args.self.now.todo.ok) in
    if_ok_unless_weaker (g.H.Heap.may_refuse c.args.heap) c.finish.result (HasFinished s (search_of c.finish.new.self))
    (HasAdvanced cs c.args.self.now.main s (search_of c.finish.new.self))
    (finish_advances cs c.args.self.now.main s (search_of c.finish.new.self) c.requires.search le) c.finish.ensures.finished
