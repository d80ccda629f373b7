use Rattle.std.{proofs.Common.{◌≡◌, ℕ, Ok, subst, length, arith}, proofs.lemmas.Grind.common_steps}
use Rattle.fm_image.{specs.Reading.conditions_at, proofs.ImageLaws.fields_hold}
use Rattle.fm_image.proofs.reading.image.Goals as goal

pub invariant_of-result : goal.invariant_of-result
invariant_of-result g c =
    let nothing : length c.in_ok-procedures.rest.now ≡ 0 = grind (arith, common_steps, c.if-not-is_empty.ensures, c.if-not-is_empty.false) in
    let named = subst (λ (most : ℕ). conditions_at most c.args.end c.in_ok-condition_address.rest.now
    ≡ Ok (c.in_ok-conditions.conditions.items, c.in_ok-conditions.rest.now)) c.most_conditions.ensures.exact c.in_ok-conditions.ensures in
    fields_hold c.args.end c.args.left.now (c.in_ok-version.version, c.in_ok-version.rest.now) (c.in_ok-window.window, c.in_ok-window.rest.now)
    (c.in_ok-registers.registers.items, c.in_ok-registers.rest.now)
    (c.in_ok-flags.flags, c.in_ok-flags.rest.now) (c.in_ok-condition_address.condition_address, c.in_ok-condition_address.rest.now)
    (c.in_ok-conditions.conditions.items, c.in_ok-conditions.rest.now)
    (c.in_ok-slots.slots.items, c.in_ok-slots.rest.now) (c.in_ok-words.words.items, c.in_ok-words.rest.now)
    (record { procedures = c.in_ok-procedures.procedures.items; marks = c.in_ok-procedures.marks.items }, c.in_ok-procedures.rest.now)
    (λ i. omega (arith, c.type_inv.left i))
    c.in_ok-version.ensures c.in_ok-window.ensures c.in_ok-registers.ensures c.in_ok-flags.ensures c.in_ok-condition_address.ensures named
    c.in_ok-slots.ensures c.in_ok-words.ensures c.in_ok-procedures.ensures nothing
