use Rattle.std.proofs.Common.{◌≡◌, ◌∙◌, ap, rules}
use Rattle.fm_machine.specs.State.{Fm}
use Rattle.fm_turns.{specs.Turns.turn_length, proofs.OutcomeLaws.outcome_kept}
use Rattle.fm_turns.proofs.turning.run_task.Goals as goal

pub returns-clause-base : goal.returns-clause-base
returns-clause-base c =
    let ran = ap (λ (s : Fm). s.base) c.run_turn-context-inside.ensures.machine in
    let begun : c.set_flags.new.self.state.base ≡ c.args.machine.now.state.base = search rules in
    ran ∙ (outcome_kept (turn_length c.args.round c.args.count) _ c.set_flags.new.self.state).base ∙ begun
