use Rattle.std.proofs.Common.{map, sym, subst, ap, ◌∙◌}
use Rattle.gypsy_space.specs.Costs.{start_tally, pay}
use Rattle.gypsy_meaning.{specs.Views.Held.Moves, specs.Views.Running.frames_in, specs.declared.running.Meaning.Meaning, specs.declared.turn.Advance.Advance}
use Rattle.gypsy_meaning.proofs.RunningLaws.{step_moves}
use Rattle.gypsy_semantics.specs.Machine.{Next}
use Rattle.gypsy_meaning.proofs.running.Meaning.raise_space.Goals as goal

pub returns-clause-done : goal.returns-clause-done
returns-clause-done g c =
    let m = c.args.self.now in
    let top = c.requires.turn in
    let a : Advance = record { event = c.args.event; caught = c.in_ok-caught.caught } in
    let spent = pay c.args.event start_tally in
    let P : Meaning → Type 0 = Moves m in
    subst P (sym c.advance.ensures)
    (step_moves c.args.needs.now.procedures.items a c.raise_below.new.self m c.requires.plain
    (top.3 ∙ ap Next (c.in_ok-caught.ensures.done top.0 top.1 top.2 m.procedure (map (λ v. v.1) m.variables.items) (frames_in m) spent)))
