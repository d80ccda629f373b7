use Rattle.std.proofs.Common.{◌≡◌, ◌+◌, None, sym, drop}
use Rattle.stack_text.proofs.Loops.{drop-item}
use Rattle.display_maps.{specs.ReadingAt.{StandingOf, items_at, variables_at}, proofs.StandingLaws.variable_missing}
use Rattle.display_maps.proofs.reading_at.variables_at.Goals as goal

pub returns-in-None : goal.returns-in-None
returns-in-None g c =
    let run : StandingOf = g.S.Standing.standing c.args.run.now in
    let vs = c.args.variables.now in
    let k = c.loop-variable.variable-index in
    let v = c.variable-item.result in
    let none : items_at run v ≡ None = sym (rw c.in-None.is at c.in_ok-items.ensures) in
    let left = drop-item vs k v c.loop-variable-test.true c.variable-item.is in
    variable_missing run _ v (drop (k + 1) vs) (variables_at run vs) none (rw left at c.loop-variable.invariant)
