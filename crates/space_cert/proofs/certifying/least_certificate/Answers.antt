use Rattle.std.{proofs.Common.{◌≡◌, ◌<◌, ◌≤◌, length, reverse, take, None, sym, ◌∙◌, subst, arith, rules}, proofs.lemmas.List.length-map, specs.List.All}
use Rattle.gypsy_space.specs.Nodes.{seen_proc, seen_program}
use Rattle.space_cert.{specs.Least.AreLeastBounds, specs.Order.{AreBounds, bounds_by_needs}, specs.Internal.SearchState.IsFound}
use Rattle.space_cert.{specs.Internal.SearchView.{AreCalls, seen_calls}, proofs.BoundedLaws.all_bounds, proofs.CertifyLaws.{calls_there, order_below}}
use Rattle.space_cert.proofs.CertifyLaws.{prefix_bounds, all_small, is_least, is_first}
use Rattle.space_cert.proofs.certifying.least_certificate.Goals as goal

pub call_order-requires-clause-calls : goal.call_order-requires-clause-calls
call_order-requires-clause-calls g c =
    let few : length (seen_program c.args.program.now).procs ≤ 1000 = omega (arith, c.requires.few, length-map c.args.program.now.procedures.items seen_proc) in
    subst (λ x. AreCalls (seen_calls x)) (sym c.as_slice.ensures.value)
    (calls_there (seen_program c.args.program.now) c.requires.fits few c.args.needs.now.procedures.items c.requires.needs c.in_ok-calls.calls.items
    c.in_ok-calls.ensures)

pub returns-in-Some : goal.returns-in-Some
returns-in-Some g c =
    let few : length (seen_program c.args.program.now).procs ≤ 1000 = omega (arith, c.requires.few, length-map c.args.program.now.procedures.items seen_proc) in
    let found = subst (λ x. IsFound (seen_calls x) (seen_program c.args.program.now).main (reverse c.in_ok-order.order.procedures.items)
    c.in_ok-order.order.recursive) c.as_slice.ensures.value c.in_ok-order.ensures in
    is_first (seen_program c.args.program.now) c.requires.fits few c.args.needs.now.procedures.items c.requires.needs c.in_ok-calls.calls.items
    c.in_ok-calls.ensures c.in_ok-order.order.procedures.items c.in_ok-order.order.recursive found c.in-Some.procedure c.in-Some.is

pub bounds_in-requires-clause-there : goal.bounds_in-requires-clause-there
bounds_in-requires-clause-there g c =
    let few : length (seen_program c.args.program.now).procs ≤ 1000 = omega (arith, c.requires.few, length-map c.args.program.now.procedures.items seen_proc) in
    let found = subst (λ x. IsFound (seen_calls x) (seen_program c.args.program.now).main (reverse c.in_ok-order.order.procedures.items)
    c.in_ok-order.order.recursive) c.as_slice.ensures.value c.in_ok-order.ensures in
    subst (λ x. All (λ p. p < length x) c.as_slice-3.result.now) (sym c.as_slice-2.ensures.value)
    (subst (All (λ p. p < length c.in_ok-calls.calls.items)) (sym c.as_slice-3.ensures.value)
    (order_below (seen_program c.args.program.now) c.requires.fits few c.args.needs.now.procedures.items c.requires.needs c.in_ok-calls.calls.items
    c.in_ok-calls.ensures c.in_ok-order.order.procedures.items c.in_ok-order.order.recursive found))

pub bounds_in-requires-clause-bounds : goal.bounds_in-requires-clause-bounds
bounds_in-requires-clause-bounds g c = λ k.
    let few : length (seen_program c.args.program.now).procs ≤ 1000 = omega (arith, c.requires.few, length-map c.args.program.now.procedures.items seen_proc) in
    let found = subst (λ x. IsFound (seen_calls x) (seen_program c.args.program.now).main (reverse c.in_ok-order.order.procedures.items)
    c.in_ok-order.order.recursive) c.as_slice.ensures.value c.in_ok-order.ensures in
    subst (λ x. AreBounds (bounds_by_needs c.args.needs.now.procedures.items (seen_calls x) (reverse (take k c.as_slice-3.result.now))))
    (sym c.as_slice-2.ensures.value)
    (subst (λ y. AreBounds (bounds_by_needs c.args.needs.now.procedures.items (seen_calls c.in_ok-calls.calls.items) (reverse (take k y))))
    (sym c.as_slice-3.ensures.value)
    (prefix_bounds (seen_program c.args.program.now) c.requires.fits few c.args.needs.now.procedures.items c.requires.needs c.in_ok-calls.calls.items
    c.in_ok-calls.ensures c.in_ok-order.order.procedures.items c.in_ok-order.order.recursive found k))

pub invariant_of-result : goal.invariant_of-result
invariant_of-result g c =
    let few : length (seen_program c.args.program.now).procs ≤ 1000 = omega (arith, c.requires.few, length-map c.args.program.now.procedures.items seen_proc) in
    let found = subst (λ x. IsFound (seen_calls x) (seen_program c.args.program.now).main (reverse c.in_ok-order.order.procedures.items)
    c.in_ok-order.order.recursive) c.as_slice.ensures.value c.in_ok-order.ensures in
    let are : c.in_ok-bounds.bounds.items ≡ bounds_by_needs c.args.needs.now.procedures.items (seen_calls c.in_ok-calls.calls.items)
    (reverse c.in_ok-order.order.procedures.items) =
    c.in_ok-bounds.ensures ∙ (λ i. bounds_by_needs c.args.needs.now.procedures.items (seen_calls (c.as_slice-2.ensures.value i))
    (reverse (c.as_slice-3.ensures.value i))) in
    record {
      within = all_bounds c.in_ok-bounds.bounds.items
          (subst AreBounds (sym are) (all_small (seen_program c.args.program.now) c.requires.fits few c.args.needs.now.procedures.items c.requires.needs
          c.in_ok-calls.calls.items c.in_ok-calls.ensures c.in_ok-order.order.procedures.items c.in_ok-order.order.recursive found));
    }

pub returns : goal.returns
returns g c =
    let few : length (seen_program c.args.program.now).procs ≤ 1000 = omega (arith, c.requires.few, length-map c.args.program.now.procedures.items seen_proc) in
    let found = subst (λ x. IsFound (seen_calls x) (seen_program c.args.program.now).main (reverse c.in_ok-order.order.procedures.items)
    c.in_ok-order.order.recursive) c.as_slice.ensures.value c.in_ok-order.ensures in
    let are : c.in_ok-bounds.bounds.items ≡ bounds_by_needs c.args.needs.now.procedures.items (seen_calls c.in_ok-calls.calls.items)
    (reverse c.in_ok-order.order.procedures.items) =
    c.in_ok-bounds.ensures ∙ (λ i. bounds_by_needs c.args.needs.now.procedures.items (seen_calls (c.as_slice-2.ensures.value i))
    (reverse (c.as_slice-3.ensures.value i))) in
    let none : c.in_ok-order.order.recursive ≡ None = search rules in
    subst (AreLeastBounds (seen_program c.args.program.now)) (sym are)
    (is_least (seen_program c.args.program.now) c.requires.fits few c.args.needs.now.procedures.items c.requires.needs c.in_ok-calls.calls.items
    c.in_ok-calls.ensures c.in_ok-order.order.procedures.items c.in_ok-order.order.recursive found none)
