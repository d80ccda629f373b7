use Rattle.std.{proofs.Common.{refl, ap, ◌∙◌}, specs.Prelude.◌==◌}
use Rattle.gypsy_syntax.{specs.Programs.shapes_of, specs.Views.SourceView.proc_of}
use Rattle.gypsy_space.specs.Nodes.{seen_program}
use Rattle.gypsy_codegen.proofs.CodeLaws.{procedure_is}
use Rattle.gypsy_codegen.proofs.procedure.procedure.Goals as goal

pub returns : goal.returns
returns g c =
    let q = seen_program c.args.program.now in
    let formals = c.in_ok-formals.ensures in
    let temporaries = c.in_ok-temporaries.ensures in
    let instrs = c.in_ok-instrs.ensures in
    procedure_is q c.args.programs.now c.args.number (proc_of c.args.proc.now) (c.args.number == q.main) c.in_ok-frame.frame.items c.in_ok-shapes.shapes.items
    c.in_ok-unplaced.field-0 c.in_ok-formals.formals.items c.in_ok-temporaries.temporaries.items c.in_ok-instrs.instrs.items
    refl c.in_ok-frame.ensures (c.in_ok-shapes.ensures ∙ ap shapes_of c.procedure_at.ensures) c.in_ok-unplaced.ensures
    (rw c.as_slice-3.ensures.value at formals) (rw (c.as_slice-4.ensures.value, c.as_slice-5.ensures.value) at temporaries)
    (rw c.as_slice-2.ensures.value at instrs)
