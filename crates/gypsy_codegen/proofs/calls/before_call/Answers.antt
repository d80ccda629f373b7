use Rattle.std.proofs.Common.{◌≤◌, subst, sym}
use Rattle.gypsy_syntax.specs.Programs.{Proc}
use Rattle.gypsy_space.{specs.Needs.local_words, specs.Nodes.{seen_program, seen_proc}}
use Rattle.gypsy_codegen.{specs.Internal.Views.names_of, proofs.CodeLaws.before_is, proofs.FineLaws.locals_few}
use Rattle.gypsy_codegen.proofs.calls.before_call.Goals as goal

pub push_locals-requires : goal.push_locals-requires
push_locals-requires g c =
    subst (λ (p : Proc). local_words p ≤ 65536) (sym c.procedure_at.ensures)
    (locals_few (seen_program c.args.context.now.program.now) c.requires.ready.fits c.args.site.now.callee)

pub returns : goal.returns
returns g c =
    let context = c.args.context.now in
    let site = c.args.site.now in
    let actuals = c.in_ok-push_actuals.ensures in
    before_is (names_of context) (seen_program context.program.now) context.procedure site.callee site.actuals.items (seen_proc c.procedure_at.result.now)
    c.args.emitter.now c.push_locals.new.emitter c.push_actuals.new.emitter c.call_program.new.emitter c.procedure_at.ensures
    c.in_ok-push_locals.ensures (rw c.as_slice.ensures.value at actuals) c.in_ok-call_program.ensures
