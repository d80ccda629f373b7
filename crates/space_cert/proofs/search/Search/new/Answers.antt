use Rattle.std.{proofs.Common.{◌≡◌, ◌<◌, length, replicate, set, ap, sym, subst, ◌∙◌, reverse, arith, rules}, proofs.lemmas.List.length-map}
use Rattle.space_cert.{specs.Internal.SearchState.IsSearch, specs.Internal.SearchView.seen_calls, specs.declared.search.Mark.TheVariants.{New, Entered}}
use Rattle.space_cert.{proofs.SearchCode.{search_same, calls_at}, proofs.SearchingLaws.begins}
use Rattle.space_cert.proofs.search.Search.new.Goals as goal

pub returns-clause-search : goal.returns-clause-search
returns-clause-search g c =
    let marks : c.in_ok-marks.marks.items ≡ replicate (length c.args.calls.now) New = search rules in
    let many = length-map c.args.calls.now (λ v. v.items) in
    let calls = calls_at c.args.calls.now c.args.main c.index-calls-main.result c.requires c.index-calls-main.is in
    let lt : c.args.main < length (seen_calls c.args.calls.now) = omega (arith, many, c.requires) in
    subst (IsSearch (seen_calls c.args.calls.now) c.args.main)
    (search_same _ _
    (ap (λ x. set x c.args.main (Entered 0)) (ap (λ n. replicate n New) many ∙ sym marks))
    (search rules)
    (calls ∙ (sym c.as_slice.ensures.value ∙ sym c.in_ok-todo.ensures.items))
    (search rules)
    (ap reverse (sym c.new.ensures.items))
    (ap reverse (sym c.new-2.ensures.items))
    (search rules))
    (begins (seen_calls c.args.calls.now) c.args.main lt)
