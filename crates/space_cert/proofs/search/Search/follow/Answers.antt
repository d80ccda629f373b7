use Rattle.std.{proofs.Common.{◌<◌, length, refl, sym, subst, arith}, proofs.lemmas.List.length-map}
use Rattle.stack_heap.proofs.UnlessLaws.{on_ok_unless_weaker}
use Rattle.space_cert.{specs.Internal.SearchState.{IsSearch, left_to_do, with_call}, specs.Internal.SearchView.{search_of, seen_calls}}
use Rattle.space_cert.{specs.declared.search.Mark.TheVariants.{New, Entered, Done}, proofs.SearchingLaws.{enters_keeps, enters_less, passes_keeps}}
use Rattle.space_cert.{proofs.SearchingLaws.circles_keeps, proofs.FollowLaws.{mark_read, follow_below, follow_joins}}
use Rattle.space_cert.proofs.search.Search.follow.Goals as goal

pub index-requires : goal.index-requires
index-requires g c =
    let lt = follow_below (seen_calls c.args.calls.now) c.args.self.now.main (search_of c.args.self.now) c.args.procedure c.requires.calls
    c.requires.search c.requires.of_top in
    omega (arith, lt, c.requires.search.number, c.args.self.now.marks.ok)

pub enter-requires-clause-there : goal.enter-requires-clause-there
enter-requires-clause-there g c =
    let lt = follow_below (seen_calls c.args.calls.now) c.args.self.now.main (search_of c.args.self.now) c.args.procedure c.requires.calls
    c.requires.search c.requires.of_top in
    omega (arith, lt, length-map c.args.calls.now (λ v. v.items))

pub enter-requires-clause-marked : goal.enter-requires-clause-marked
enter-requires-clause-marked g c =
    let lt = follow_below (seen_calls c.args.calls.now) c.args.self.now.main (search_of c.args.self.now) c.args.procedure c.requires.calls
    c.requires.search c.requires.of_top in
    omega (arith, lt, c.requires.search.number)

pub returns-in-New-clause-search : goal.returns-in-New-clause-search
returns-in-New-clause-search g c =
    let cs = seen_calls c.args.calls.now in
    let s = search_of c.args.self.now in
    let w = c.args.procedure in
    let lt = follow_below cs c.args.self.now.main s w c.requires.calls c.requires.search c.requires.of_top in
    let there : w < length s.marks = omega (arith, lt, c.requires.search.number) in
    let mark = mark_read s.marks w c.index.result.now New there c.index.ensures c.in-New.is in
    on_ok_unless_weaker (g.H.Heap.may_refuse c.args.heap) c.enter.result _ _
    (λ e. subst (λ m. IsSearch cs m (search_of c.enter.new.self)) (sym c.enter.ensures.main)
    (subst (IsSearch cs c.args.self.now.main) (sym e)
    (enters_keeps cs c.args.self.now.main (with_call w s) c.requires.search s.todo w refl c.requires.of_top mark lt))) c.enter.ensures.entered

pub returns-in-New-clause-less : goal.returns-in-New-clause-less
returns-in-New-clause-less g c =
    let cs = seen_calls c.args.calls.now in
    let s = search_of c.args.self.now in
    let w = c.args.procedure in
    let lt = follow_below cs c.args.self.now.main s w c.requires.calls c.requires.search c.requires.of_top in
    let there : w < length s.marks = omega (arith, lt, c.requires.search.number) in
    let mark = mark_read s.marks w c.index.result.now New there c.index.ensures c.in-New.is in
    on_ok_unless_weaker (g.H.Heap.may_refuse c.args.heap) c.enter.result _ _ (λ e. subst (λ x. left_to_do cs x < left_to_do cs (with_call w s)) (sym e)
    (enters_less cs c.args.self.now.main (with_call w s) c.requires.search s.todo w refl c.requires.of_top mark lt)) c.enter.ensures.entered

pub returns-in-Done-clause-search : goal.returns-in-Done-clause-search
returns-in-Done-clause-search g c =
    let cs = seen_calls c.args.calls.now in
    let s = search_of c.args.self.now in
    let w = c.args.procedure in
    let lt = follow_below cs c.args.self.now.main s w c.requires.calls c.requires.search c.requires.of_top in
    let there : w < length s.marks = omega (arith, lt, c.requires.search.number) in
    let mark = mark_read s.marks w c.index.result.now Done there c.index.ensures c.in-Done.is in
    passes_keeps cs c.args.self.now.main (with_call w s) c.requires.search s.todo w refl c.requires.of_top mark

pub returns-then-self-place-clause-search : goal.returns-then-self-place-clause-search
returns-then-self-place-clause-search g c =
    let cs = seen_calls c.args.calls.now in
    let s = search_of c.args.self.now in
    let w = c.args.procedure in
    let lt = follow_below cs c.args.self.now.main s w c.requires.calls c.requires.search c.requires.of_top in
    let there : w < length s.marks = omega (arith, lt, c.requires.search.number) in
    let mark = mark_read s.marks w c.index.result.now (Entered c.in-Entered.place) there c.index.ensures c.in-Entered.is in
    circles_keeps cs c.args.self.now.main (with_call w s) c.requires.search s.todo w refl c.requires.of_top c.in-Entered.place mark c.if-self-place.true

pub returns-in_ok-push-in-Entered-clause-search : goal.returns-in_ok-push-in-Entered-clause-search
returns-in_ok-push-in-Entered-clause-search g c =
    let cs = seen_calls c.args.calls.now in
    let s = search_of c.args.self.now in
    let w = c.args.procedure in
    let lt = follow_below cs c.args.self.now.main s w c.requires.calls c.requires.search c.requires.of_top in
    let there : w < length s.marks = omega (arith, lt, c.requires.search.number) in
    let mark = mark_read s.marks w c.index.result.now (Entered c.in-Entered.place) there c.index.ensures c.in-Entered.is in
    subst (λ m. IsSearch cs m (search_of c.join.new.self)) (sym c.join.ensures.main)
    (follow_joins cs c.args.self.now.main s w c.requires.search c.requires.of_top c.in-Entered.place mark c.if-self-place.false _ (search_of c.join.new.self)
    (λ i. record s { todo = c.in_ok-push-in-Entered.ensures.items i }) c.join.ensures.joined).0

pub returns-in_ok-push-in-Entered-clause-less : goal.returns-in_ok-push-in-Entered-clause-less
returns-in_ok-push-in-Entered-clause-less g c =
    let cs = seen_calls c.args.calls.now in
    let s = search_of c.args.self.now in
    let w = c.args.procedure in
    let lt = follow_below cs c.args.self.now.main s w c.requires.calls c.requires.search c.requires.of_top in
    let there : w < length s.marks = omega (arith, lt, c.requires.search.number) in
    let mark = mark_read s.marks w c.index.result.now (Entered c.in-Entered.place) there c.index.ensures c.in-Entered.is in
    (follow_joins cs c.args.self.now.main s w c.requires.search c.requires.of_top c.in-Entered.place mark c.if-self-place.false _ (search_of c.join.new.self)
    (λ i. record s { todo = c.in_ok-push-in-Entered.ensures.items i }) c.join.ensures.joined).1
