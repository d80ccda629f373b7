use Rattle.std.{proofs.Common.{◌≡◌, ◌<◌, ◌≤◌, ◌^◌, length, sym, ap, ◌∙◌, subst, arith}, proofs.lemmas.List.length-map}
use Rattle.gypsy_syntax.{proofs.FitsLaws.keeps_fits, specs.Programs.Program, specs.ProgramFits.ProgramFits, specs.Resolved.{procedure_of, program_of}}
use Rattle.gypsy_syntax.specs.Views.SourceView.{source_of}
use Rattle.gypsy_space.specs.Nodes.{seen_proc, seen_program}
use Rattle.gypsy_codegen.{specs.Acceptable.total_words, specs.Marks.marks_of, proofs.MarkingLaws.{marks_next, marks_end, names_of_body, body_small}}
use Rattle.gypsy_codegen.proofs.marking.marks_with.Goals as goal

pub overflow_cast-marking : goal.overflow_cast-marking
overflow_cast-marking g c =
    let s = source_of c.args._accepted.now in
    let few = (keeps_fits s c.requires.accepted.form).few_procs in
    let same : length (seen_program c.args.program.now).procs ≡ length (program_of s).procs = ap (λ (q : Program). length q.procs) c.requires.program in
    omega (
      arith,
      few,
      same,
      length-map s.procs (procedure_of s),
      length-map c.args.program.now.procedures.items seen_proc,
      c.loop-number-test.true,
      c.len-number-end.ensures,
    )

pub procedure-requires-clause-names : goal.procedure-requires-clause-names
procedure-requires-clause-names g c =
    let q = seen_program c.args.program.now in
    let fits : ProgramFits q = subst ProgramFits (sym c.requires.program) c.requires.accepted.fits in
    names_of_body q fits c.loop-number.number

pub procedure-requires-clause-room : goal.procedure-requires-clause-room
procedure-requires-clause-room g c =
    let q = seen_program c.args.program.now in
    let fits : ProgramFits q = subst ProgramFits (sym c.requires.program) c.requires.accepted.fits in
    let few : total_words q ≤ 2 ^ 20 = subst (λ (r : Program). total_words r ≤ 2 ^ 20) (sym c.requires.program) c.requires.words in
    let lt : c.loop-number.number < length q.procs =
    omega (arith, length-map c.args.program.now.procedures.items seen_proc, c.loop-number-test.true, c.len-number-end.ensures) in
    body_small q fits few c.loop-number.number lt

pub loop-number-preserved : goal.loop-number-preserved
loop-number-preserved g c =
    let q = seen_program c.args.program.now in
    let lt : c.loop-number.number < length q.procs =
    omega (arith, length-map c.args.program.now.procedures.items seen_proc, c.loop-number-test.true, c.len-number-end.ensures) in
    record {
      marks = marks_next q c.loop-number.listed.items c.procedure.new.marks.items c.loop-number.number lt c.in_ok-procedure.ensures
          c.loop-number.invariant.marks;
    }

pub returns : goal.returns
returns g c =
    let q = seen_program c.args.program.now in
    let ge : length q.procs ≤ c.loop-number.number =
    omega (arith, length-map c.args.program.now.procedures.items seen_proc, c.loop-number-test.false, c.len-number-end.ensures) in
    marks_end q c.loop-number.listed.items c.loop-number.number ge c.loop-number.invariant.marks ∙ ap marks_of c.requires.program
