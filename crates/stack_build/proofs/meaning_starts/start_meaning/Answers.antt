use Rattle.std.proofs.Common.{sym, ◌∙◌}
use Rattle.gypsy_space.specs.Needs.{stack_sizes}
use Rattle.gypsy_syntax.specs.Views.SourceView.{source_of}
use Rattle.stack_build.proofs.StartLaws.{short_fails}
use Rattle.stack_build.proofs.meaning_starts.start_meaning.Goals as goal

pub returns-in-Some-clause-start : goal.returns-in-Some-clause-start
returns-in-Some-clause-start g c =
    short_fails (g.H.Heap.may_refuse c.args.heap) (source_of c.args.accepted.now) (stack_sizes c.args.control c.args.temporary) c.args.values.now
    c.in-Some.shortage (sym c.in_ok-shortage.ensures ∙ c.in-Some.is)
