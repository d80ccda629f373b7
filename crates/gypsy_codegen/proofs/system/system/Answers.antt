use Rattle.std.proofs.Common.{◌≡◌, arith, subst, sym, [], ◌∷◌}
use Rattle.gypsy_syntax.{specs.Programs.Program, specs.Views.SourceView.source_of, proofs.FitsLaws.keeps_fits}
use Rattle.gypsy_space.{specs.Needs.stack_sizes, specs.Nodes.{seen_program, seen_proc}}
use Rattle.gypsy_codegen.{specs.Text.program_texts, specs.Internal.Views.{AreWritable, area_text}, proofs.WritableLaws.{all_writable, system_is}}
use Rattle.gypsy_codegen.proofs.system.system.Goals as goal

pub programs-requires-clause-few : goal.programs-requires-clause-few
programs-requires-clause-few g c =
    let few = (keeps_fits (source_of c.args.source.now) c.requires.accepted.form).few_procs in
    omega (arith, few)

pub programs-requires-clause-writable : goal.programs-requires-clause-writable
programs-requires-clause-writable g c =
    let s = source_of c.args.source.now in
    subst (λ (q : Program). AreWritable q (program_texts s) 0 s.procs) (sym c.requires.program) (all_writable s c.requires.accepted.fits c.requires.few)

pub returns : goal.returns
returns g c =
    let s = source_of c.args.source.now in
    let q = seen_program c.args.program.now in
    let areas : c.in_ok-areas.field-0.items ≡ area_text ∷ [] = c.in_ok-areas.ensures in
    system_is s (stack_sizes c.args.ctrl c.args.temp) c.args.base q c.in_ok-unplaced.field-0 (seen_proc c.procedure_at.result.now)
    c.unplaced_size.result c.unplaced_size-2.result c.unplaced_size-3.result c.in_ok-areas.field-0.items c.in_ok-opening.field-0.items
    c.in_ok-programs.field-0.items
    c.requires.program c.procedure_at.ensures c.in_ok-unplaced.ensures c.unplaced_size.ensures c.unplaced_size-2.ensures c.unplaced_size-3.ensures areas
    c.in_ok-opening.ensures c.in_ok-programs.ensures
