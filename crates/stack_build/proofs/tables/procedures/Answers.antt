use Rattle.std.{proofs.Common.{◌≡◌, ◌<◌, ◌++◌, ◌∷◌, ◌∙◌, [], List, Some, None, length, map, get_or, sym, ap, arith}, specs.Prelude.slice_get}
use Rattle.std.proofs.lemmas.List.{get_or-map, length-map}
use Rattle.fm_image.specs.Procedure.{ProcedureOf}
use Rattle.gypsy_syntax.{specs.Sources.ProcOf, specs.Views.SourceView.proc_of}
use Rattle.gypsy_space.{specs.declared.program.Procedure.Procedure, specs.Nodes.seen_program}
use Rattle.stack_build.{specs.Image.procedure_info, proofs.ListingLaws.{procedure_is, procedure_next, names_at, not_missing, few_at, few_found}}
use Rattle.stack_build.proofs.tables.procedures.Goals as goal

pub procedure-requires : goal.procedure-requires
procedure-requires g c =
    let k = c.loop-number.number in
    let procs : List ProcOf = map proc_of c.args.procs.now in
    let proc : ProcOf = proc_of c.index-procs-number.result in
    let found : Procedure = c.in-Some.found.now in
    let lt : k < length procs = omega (arith, length-map c.args.procs.now proc_of, c.loop-number-test.true) in
    let is : proc ≡ get_or procs k proc =
    ap proc_of c.index-procs-number.is ∙ sym (get_or-map proc_of c.args.procs.now k c.index-procs-number.result proc c.loop-number-test.true) in
    let there : slice_get c.args.program.now.procedures.items k ≡ Some found =
    ap (λ (ps : List Procedure). slice_get ps k) (sym c.deref.ensures.value) ∙ sym c.in-Some.ensures in
    let names = names_at c.args.program.now.procedures.items procs k found proc c.requires.declares.names there lt is in
    record { few = few_found found proc names (few_at procs k proc c.requires.declares.few lt is) }

pub unreachable-requires : goal.unreachable-requires
unreachable-requires g c =
    let k = c.loop-number.number in
    let procs : List ProcOf = map proc_of c.args.procs.now in
    let lt : k < length procs = omega (arith, length-map c.args.procs.now proc_of, c.loop-number-test.true) in
    let none : slice_get c.args.program.now.procedures.items k ≡ None =
    ap (λ (ps : List Procedure). slice_get ps k) (sym c.deref.ensures.value) ∙ sym c.in-None.ensures in
    not_missing c.args.program.now.procedures.items procs k c.requires.declares.names lt none

pub loop-number-preserved : goal.loop-number-preserved
loop-number-preserved g c =
    let k = c.loop-number.number in
    let q = seen_program c.args.program.now in
    let procs : List ProcOf = map proc_of c.args.procs.now in
    let proc : ProcOf = proc_of c.index-procs-number.result in
    let found : Procedure = c.in-Some.found.now in
    let lt : k < length procs = omega (arith, length-map c.args.procs.now proc_of, c.loop-number-test.true) in
    let is : proc ≡ get_or procs k proc =
    ap proc_of c.index-procs-number.is ∙ sym (get_or-map proc_of c.args.procs.now k c.index-procs-number.result proc c.loop-number-test.true) in
    let there : slice_get c.args.program.now.procedures.items k ≡ Some found =
    ap (λ (ps : List Procedure). slice_get ps k) (sym c.deref.ensures.value) ∙ sym c.in-Some.ensures in
    let names = names_at c.args.program.now.procedures.items procs k found proc c.requires.declares.names there lt is in
    let info = c.in_ok-procedure-in-Some.ensures ∙ procedure_is c.args.program.now k proc found there names in
    let now : c.push.new.items.items ≡ c.loop-number.infos.items ++ procedure_info q k proc ∷ [] =
    c.in_ok-push-in-Some.ensures.items ∙ ap (λ (x : ProcedureOf). c.loop-number.infos.items ++ x ∷ []) info in
    procedure_next q procs k proc c.loop-number.infos.items c.push.new.items.items _ lt is now c.loop-number.invariant
