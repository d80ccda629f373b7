use Rattle.gypsy_syntax.specs.Views.SourceView.{source_of}
use Rattle.gypsy_meaning.{specs.Views.Running.seen, proofs.StepLaws.seen_reached}
use Rattle.gypsy_semantics.{proofs.ReachLaws.completes, proofs.RunLaws.answer_agrees}
use Rattle.gypsy_meaning.proofs.running.Meaning.run.Goals as goal

pub returns-clause-agrees : goal.returns-clause-agrees
returns-clause-agrees g c =
    let reached = seen_reached (source_of c.args.accepted.now) c.args.needs.now.procedures.items c.args.self.now c.requires in
    answer_agrees c.args.limit (seen c.args.self.now) (seen c.make_steps.new.self) c.in_ok-run.run' reached c.in_ok-run.ensures.ran

pub returns-clause-completes : goal.returns-clause-completes
returns-clause-completes g c = λ n x d done.
    let reached = seen_reached (source_of c.args.accepted.now) c.args.needs.now.procedures.items c.args.self.now c.requires in
    completes x d (seen c.args.self.now) n reached done

pub returns-in_err-run-clause-completes : goal.returns-in_err-run-clause-completes
returns-in_err-run-clause-completes g c = λ n x d done.
    let reached = seen_reached (source_of c.args.accepted.now) c.args.needs.now.procedures.items c.args.self.now c.requires in
    completes x d (seen c.args.self.now) n reached done
