use Rattle.std.proofs.Common.{◌≤◌, ◌<◌, Some, ap, sym, ◌∙◌, arith}
use Rattle.gypsy_syntax.{specs.Sources.SourceOf, specs.Resolved.program_of, specs.Views.SourceView.source_of}
use Rattle.gypsy_space.{specs.Needs.stack_sizes, specs.Nodes.{seen_proc, seen_program, seen_statement}}
use Rattle.quick_generate.{specs.Lining.{main_size, most_levels, most_lined}, specs.LinedViews.size_in, specs.declared.calls.Calls.Calls}
use Rattle.quick_generate.proofs.LinedMainLaws.{is_found, main_can, main_conditions, main_made, main_variables, none_found, numbers_there, size_same, count_is}
use Rattle.quick_generate.proofs.LinedMainLaws.{table_is}
use Rattle.quick_generate.proofs.lined_main.lined_main.Goals as goal

pub in_main-requires-clause-variables : goal.in_main-requires-clause-variables
in_main-requires-clause-variables g c =
    let few = main_variables (seen_program c.args.program.now) (source_of c.args.accepted.now) c.main_of-main.result.now c.requires.accepted
    c.requires.program c.main_of-main.ensures in
    omega (arith, few)

pub in_main-requires-clause-conds : goal.in_main-requires-clause-conds
in_main-requires-clause-conds g c =
    let few = main_conditions (seen_program c.args.program.now) (source_of c.args.accepted.now) c.main_of-main.result.now c.requires.accepted
    c.requires.program c.main_of-main.ensures in
    omega (arith, few)

pub measure-requires-clause-table : goal.measure-requires-clause-table
measure-requires-clause-table g c =
    table_is _ (source_of c.args.accepted.now) c.requires.accepted c.requires.program c.in_ok-needs.ensures.exact c.in_ok-needs.ensures.small

pub measure-requires-clause-can : goal.measure-requires-clause-can
measure-requires-clause-can g c =
    main_can (seen_program c.args.program.now) (source_of c.args.accepted.now) c.main_of-main.result.now c.requires.accepted c.requires.program
    c.main_of-main.ensures

pub returns-then-measure-gt-MOST_LINED : goal.returns-then-measure-gt-MOST_LINED
returns-then-measure-gt-MOST_LINED g c =
    let s : SourceOf = source_of c.args.accepted.now in
    let main = c.main_of-main.result.now in
    let calls : Calls = record {
      program = c.args.program;
      needs = record { ref_ptr = c.args.program.ref_ptr; now = c.in_ok-needs.needs };
      ctrl = c.args.ctrl;
      temp = c.args.temp;
    } in
    let size = size_same calls s main c.requires.accepted c.requires.program c.main_of-main.ensures c.in_ok-context.context c.in_ok-context.ensures in
    let large : most_lined < main_size (program_of s) (stack_sizes c.args.ctrl c.args.temp) =
    omega (arith, size, c.measure.ensures, c.if-measure-gt-MOST_LINED.true) in
    sym (none_found s (stack_sizes c.args.ctrl c.args.temp) large)

pub lined-requires-clause-table : goal.lined-requires-clause-table
lined-requires-clause-table g c =
    table_is _ (source_of c.args.accepted.now) c.requires.accepted c.requires.program c.in_ok-needs.ensures.exact c.in_ok-needs.ensures.small

pub lined-requires-clause-can : goal.lined-requires-clause-can
lined-requires-clause-can g c =
    main_can (seen_program c.args.program.now) (source_of c.args.accepted.now) c.main_of-main.result.now c.requires.accepted c.requires.program
    c.main_of-main.ensures

pub lined-requires-clause-variables : goal.lined-requires-clause-variables
lined-requires-clause-variables g c =
    let s : SourceOf = source_of c.args.accepted.now in
    let main = c.main_of-main.result.now in
    let calls : Calls = record {
      program = c.args.program;
      needs = record { ref_ptr = c.args.program.ref_ptr; now = c.in_ok-needs.needs };
      ctrl = c.args.ctrl;
      temp = c.args.temp;
    } in
    let count = count_is calls s main c.requires.accepted c.requires.program c.main_of-main.ensures c.in_ok-context.context c.in_ok-context.ensures in
    let few = main_variables (seen_program c.args.program.now) s main c.requires.accepted c.requires.program c.main_of-main.ensures in
    omega (arith, few, count)

pub lined-requires-clause-numbers : goal.lined-requires-clause-numbers
lined-requires-clause-numbers g c =
    let s : SourceOf = source_of c.args.accepted.now in
    let main = c.main_of-main.result.now in
    let calls : Calls = record {
      program = c.args.program;
      needs = record { ref_ptr = c.args.program.ref_ptr; now = c.in_ok-needs.needs };
      ctrl = c.args.ctrl;
      temp = c.args.temp;
    } in
    let size = size_same calls s main c.requires.accepted c.requires.program c.main_of-main.ensures c.in_ok-context.context c.in_ok-context.ensures in
    let small : size_in calls c.in_ok-context.context.activation most_levels (seen_statement main.body.value) ≤ most_lined =
    omega (arith, c.measure.ensures, c.if-measure-gt-MOST_LINED.false) in
    numbers_there calls s main c.requires.accepted c.requires.program c.main_of-main.ensures c.in_ok-context.context c.in_ok-context.ensures small

pub returns : goal.returns
returns g c =
    let s : SourceOf = source_of c.args.accepted.now in
    let main = c.main_of-main.result.now in
    let calls : Calls = record {
      program = c.args.program;
      needs = record { ref_ptr = c.args.program.ref_ptr; now = c.in_ok-needs.needs };
      ctrl = c.args.ctrl;
      temp = c.args.temp;
    } in
    let size = size_same calls s main c.requires.accepted c.requires.program c.main_of-main.ensures c.in_ok-context.context c.in_ok-context.ensures in
    let small : main_size (program_of s) (stack_sizes c.args.ctrl c.args.temp) ≤ most_lined =
    omega (arith, size, c.measure.ensures, c.if-measure-gt-MOST_LINED.false) in
    ap Some (main_made calls s main c.requires.accepted c.requires.program c.main_of-main.ensures c.in_ok-context.context c.in_ok-context.ensures
    (seen_proc c.in_ok-lined.field-0) c.in_ok-lined.ensures)
    ∙ sym (is_found s (stack_sizes c.args.ctrl c.args.temp) small)
