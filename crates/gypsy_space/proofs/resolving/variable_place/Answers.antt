use Rattle.std.{proofs.Common.{◌≡◌, ◌+◌, length, Some, None, bytes_eq, refl, sym, ap, ◌∙◌, arith}, specs.List.position}
use Rattle.gypsy_syntax.specs.declared.literal.Local.{Local}
use Rattle.gypsy_space.proofs.PositionLaws.{variable_position}
use Rattle.gypsy_space.proofs.resolving.variable_place.Goals as goal

pub returns-in-Some : goal.returns-in-Some
returns-in-Some c =
    variable_position c.args.proc.now c.args.name.now (Some c.in-Some.place)
    (position (λ (l : Local). bytes_eq c.args.name.now l.decl.name.name) c.args.proc.now.locals.items) (sym c.in-Some.is ∙ c.formal_place.ensures)
    refl

pub returns-in-Some-local_place : goal.returns-in-Some-local_place
returns-in-Some-local_place c =
    let count : c.len.result ≡ length c.args.proc.now.formals.items = omega (arith, c.args.proc.now.formals.ok) in
    ap (λ k. k + c.in-Some-local_place.place) count
    ∙ variable_position c.args.proc.now c.args.name.now None (Some c.in-Some-local_place.place) (sym c.in-None.is ∙ c.formal_place.ensures)
    (sym c.in-Some-local_place.is ∙ c.local_place.ensures)

pub returns-in-None-local_place : goal.returns-in-None-local_place
returns-in-None-local_place c =
    variable_position c.args.proc.now c.args.name.now None None (sym c.in-None.is ∙ c.formal_place.ensures)
    (sym c.in-None-local_place.is ∙ c.local_place.ensures)
