use Rattle.std.proofs.Common.{◌≤◌, ap, subst, sym, ◌∙◌}
use Rattle.gypsy_syntax.specs.Programs.{Proc}
use Rattle.gypsy_space.{specs.Needs.local_words, specs.Nodes.seen_program}
use Rattle.gypsy_codegen.proofs.FineLaws.{locals_few}
use Rattle.gypsy_codegen.proofs.calls.callee_words.Goals as goal

pub local_count-requires : goal.local_count-requires
local_count-requires c =
    rw c.as_slice.ensures.value
    (subst (λ (p : Proc). local_words p ≤ 65536) (sym c.procedure_at-callee.ensures)
    (locals_few (seen_program c.args.context.now.program.now) c.requires.ready.fits c.args.callee))

pub returns : goal.returns
returns c = (rw c.as_slice.ensures.value at c.local_count.ensures) ∙ ap local_words c.procedure_at-callee.ensures
