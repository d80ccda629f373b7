use Rattle.std.proofs.Common.{true≢false, sym, ap, ◌∙◌}
use Rattle.gypsy_syntax.{specs.Resolved.program_of, specs.Views.SourceView.source_of}
use Rattle.gypsy_space.specs.Needs.{stack_sizes}
use Rattle.gypsy_semantics.specs.Views.Fitting.{can_start}
use Rattle.gypsy_meaning.proofs.FittingLaws.{is_start, start_is}
use Rattle.gypsy_meaning.proofs.running.Meaning.try_start.Goals as goal

pub returns-then-not-can_start-clause-none : goal.returns-then-not-can_start-clause-none
returns-then-not-can_start-clause-none g c = λ h.
    let q = program_of (source_of c.args.accepted.now) in
    let sizes = stack_sizes c.args.ctrl c.args.temp in
    let is = c.can_start.ensures ∙ ap (λ r. can_start r c.args.values.now sizes) c.in_ok-program.ensures.program in
    true≢false (sym (start_is q c.args.values.now sizes h) ∙ sym is ∙ c.if-not-can_start.true)

pub start-requires-clause-values : goal.start-requires-clause-values
start-requires-clause-values g c =
    let q = program_of (source_of c.args.accepted.now) in
    let sizes = stack_sizes c.args.ctrl c.args.temp in
    let is = c.can_start.ensures ∙ ap (λ r. can_start r c.args.values.now sizes) c.in_ok-program.ensures.program in
    (is_start q c.args.values.now sizes (sym is ∙ c.if-not-can_start.false)).values_fit
