use Rattle.std.{proofs.Common.{◌≡◌, ◌+◌, length, Some, None, bytes_eq, refl, sym, ap, ◌∙◌, arith}, specs.List.position}
use Rattle.stack_text.specs.declared.name.Named.{Named}
use Rattle.gypsy_space.proofs.PositionLaws.{condition_position}
use Rattle.gypsy_space.proofs.resolving.condition_place.Goals as goal

pub returns-in-Some : goal.returns-in-Some
returns-in-Some c =
    condition_position c.args.proc.now c.args.name.now (Some c.in-Some.place)
    (position (λ (n : Named). bytes_eq c.args.name.now n.name) c.args.proc.now.local_conds.items)
    (sym c.in-Some.is ∙ c.formal_condition_place.ensures) refl

pub returns-in-Some-local_condition_place : goal.returns-in-Some-local_condition_place
returns-in-Some-local_condition_place c =
    let count : c.len.result ≡ length c.args.proc.now.conds.items = omega (arith, c.args.proc.now.conds.ok) in
    ap (λ k. k + c.in-Some-local_condition_place.place) count
    ∙ condition_position c.args.proc.now c.args.name.now None (Some c.in-Some-local_condition_place.place)
    (sym c.in-None.is ∙ c.formal_condition_place.ensures) (sym c.in-Some-local_condition_place.is ∙ c.local_condition_place.ensures)

pub returns-in-None-local_condition_place : goal.returns-in-None-local_condition_place
returns-in-None-local_condition_place c =
    condition_position c.args.proc.now c.args.name.now None None (sym c.in-None.is ∙ c.formal_condition_place.ensures)
    (sym c.in-None-local_condition_place.is ∙ c.local_condition_place.ensures)
