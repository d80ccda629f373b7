use Rattle.std.proofs.Common.{ap}
use Rattle.gypsy_syntax.{specs.Programs.Program, specs.Views.SourceView.source_of}
use Rattle.gypsy_space.{specs.Nodes.{seen_proc, seen_program}, proofs.SmallLaws.{counted_needs, few_procedures}}
use Rattle.gypsy_space.proofs.counting.needs_with.Goals as goal

pub needs_of-requires : goal.needs_of-requires
needs_of-requires g c =
    few_procedures seen_proc c.args.program.now.procedures.items (source_of c.args._accepted.now) c.requires.accepted.form
    (ap (λ (q : Program). q.procs) c.requires.program)

pub returns-clause-exact : goal.returns-clause-exact
returns-clause-exact g c =
    let accepted = c.requires.accepted in
    counted_needs (source_of c.args._accepted.now) accepted.form accepted.fits (seen_program c.args.program.now) c.requires.program
    c.in_ok-needs.needs.procedures.items c.in_ok-needs.ensures.exact
