use Rattle.std.proofs.Common.{◌≡◌, ◌++◌, ap, sym, ◌∙◌, length, reverse, set, false, arith, rules}
use Rattle.stack_text.proofs.SharedLaws.{reverse_snoc}
use Rattle.space_cert.{specs.declared.search.Mark.TheVariants.Entered, proofs.SearchCode.{search_same, calls_at}}
use Rattle.space_cert.proofs.search.Search.enter.Goals as goal

pub returns-clause-entered : goal.returns-clause-entered
returns-clause-entered g c =
    let entered : c.len.result ≡ length c.args.self.now.entered.items = omega (arith, c.args.self.now.entered.ok, c.len.ensures) in
    let again : c.len-3.result ≡ length c.args.self.now.entered.items = omega (arith, c.args.self.now.entered.ok, c.len-3.ensures) in
    let todo : c.len-2.result ≡ length c.args.self.now.todo.items = omega (arith, c.args.self.now.todo.ok, c.len-2.ensures) in
    let calls = calls_at c.args.calls.now c.args.procedure c.index-calls-procedure.result c.requires.there c.index-calls-procedure.is in
    search_same _ _
    (ap (λ n. set c.args.self.now.marks.items c.args.procedure (Entered n)) again)
    c.in_ok-push-2.ensures.items
    (c.in_ok-extend_from_slice.ensures.items ∙ ap (λ x. c.args.self.now.todo.items ++ x) (c.as_slice.ensures.value ∙ sym calls))
    (λ i. record { first = entered i; from = todo i; again = false })
    (ap reverse c.in_ok-push.ensures.items ∙ reverse_snoc c.args.self.now.below.items c.args.self.now.top)
    (search rules)
    (search rules)
