use Rattle.std.proofs.Common.{◌∙◌}
use Rattle.gypsy_syntax.specs.Views.SourceView.{source_of}
use Rattle.gypsy_meaning.specs.Views.Running.{seen}
use Rattle.stack_commands.proofs.MeanLaws.{said_is}
use Rattle.stack_commands.proofs.mean.ended_text.Goals as goal

pub returns : goal.returns
returns g c =
    let source = source_of c.args.accepted.now in
    let needs = c.args.needs.now.procedures.items in
    c.from_vec.ensures
    ∙ c.in_ok-text.ensures
    ∙ said_is source (seen c.args.meaning.now) _ _ _ _ _ c.steps-steps.ensures c.counted-counted.ensures (c.condition.ensures source needs c.requires)
    (c.variables.ensures.names source needs c.requires) c.variables.ensures.values
