use Rattle.std.proofs.Common.{[], get_or, map, ap, ◌∙◌}
use Rattle.gypsy_syntax.specs.Views.SourceView.{proc_of}
use Rattle.level_debuggers.proofs.WaitingLaws.{name_there}
use Rattle.level_debuggers.proofs.gypsy_level.procedure_name.Goals as goal

pub returns-in-Some : goal.returns-in-Some
returns-in-Some c =
    c.bytes.ensures.bytes
    ∙ name_there c.deref.result.now c.args.procedure c.in-Some.procedure.now c.in-Some.ensures.lookup.3.0 c.in-Some.ensures.lookup.1
    ∙ ap (λ ps. get_or (map (λ p. p.name.name) (map proc_of ps)) c.args.procedure [])
    (c.deref.ensures.value ∙ ap (λ s. s.procs.items) c.source.ensures.value)
