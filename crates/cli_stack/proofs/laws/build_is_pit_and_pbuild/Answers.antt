use Rattle.cli_stack.proofs.PitLaws.{pit_carries, build_in_two}
use Rattle.cli_stack.proofs.laws.build_is_pit_and_pbuild.Goals as goal

pub returns-clause-meaning : goal.returns-clause-meaning
returns-clause-meaning c =
    pit_carries c.generated_is_acceptable.ensures c.places_change_nothing.ensures c.source_runs.ensures c.moments_are_reached.ensures

pub returns-clause-code : goal.returns-clause-code
returns-clause-code c = build_in_two c.generated_is_acceptable.ensures c.places_change_nothing.ensures
