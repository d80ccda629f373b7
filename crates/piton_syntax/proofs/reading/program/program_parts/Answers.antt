use Rattle.std.proofs.lemmas.Result.{err_from_is_err_and}
use Rattle.stack_text.{specs.Trees.place_of, specs.Views.TreeView.{node_of, nodes_of}, specs.Grammar.Judged.each_of, proofs.PartLaws.{first_of_2, first_of_3}}
use Rattle.stack_text.proofs.PartLaws.{first_of_4, first_of_value}
use Rattle.piton_syntax.{specs.Grammar.{instruction_of, list_of, named_of, temporary_of}, specs.Systems.new_program}
use Rattle.piton_syntax.proofs.reading.program.program_parts.Goals as goal

pub returns-in_err-name : goal.returns-in_err-name
returns-in_err-name g c =
    let p = err_from_is_err_and c.from_residual.result c.from_residual.ensures.1 in
    rw (p.1, p.2)
    (first_of_4 (g.H.Heap.may_refuse c.args.heap) c.in_err-name.field-0.0 (new_program c.args.place (place_of (node_of c.args.formals.now)))
    (named_of (node_of c.args.name.now)) (list_of named_of (node_of c.args.formals.now))
    (list_of temporary_of (node_of c.args.temporaries.now)) (each_of instruction_of (nodes_of c.args.instructions.now)) c.in_err-name.ensures)

pub returns-in_err-formals : goal.returns-in_err-formals
returns-in_err-formals g c =
    let p = err_from_is_err_and c.from_residual-in_err-formals.result c.from_residual-in_err-formals.ensures.1 in
    rw (p.1, p.2, c.in_ok-name.ensures)
    (first_of_3 (g.H.Heap.may_refuse c.args.heap) c.in_err-formals.field-0.0
    (new_program c.args.place (place_of (node_of c.args.formals.now)) c.in_ok-name.name) (list_of named_of (node_of c.args.formals.now))
    (list_of temporary_of (node_of c.args.temporaries.now)) (each_of instruction_of (nodes_of c.args.instructions.now)) c.in_err-formals.ensures)

pub returns-in_err-temporaries : goal.returns-in_err-temporaries
returns-in_err-temporaries g c =
    let p = err_from_is_err_and c.from_residual-in_err-temporaries.result c.from_residual-in_err-temporaries.ensures.1 in
    rw (p.1, p.2, c.in_ok-name.ensures, c.in_ok-formals.ensures)
    (first_of_2 (g.H.Heap.may_refuse c.args.heap) c.in_err-temporaries.field-0.0
    (new_program c.args.place (place_of (node_of c.args.formals.now)) c.in_ok-name.name c.in_ok-formals.formals.items)
    (list_of temporary_of (node_of c.args.temporaries.now)) (each_of instruction_of (nodes_of c.args.instructions.now))
    c.in_err-temporaries.ensures)

pub returns-in_err-instrs : goal.returns-in_err-instrs
returns-in_err-instrs g c =
    let p = err_from_is_err_and c.from_residual-in_err-instrs.result c.from_residual-in_err-instrs.ensures.1 in
    rw (p.1, p.2, c.in_ok-name.ensures, c.in_ok-formals.ensures, c.in_ok-temporaries.ensures)
    (first_of_value (g.H.Heap.may_refuse c.args.heap) c.in_err-instrs.field-0.0
    (new_program c.args.place (place_of (node_of c.args.formals.now)) c.in_ok-name.name c.in_ok-formals.formals.items
    c.in_ok-temporaries.temporaries.items) (each_of instruction_of (nodes_of c.args.instructions.now)) c.in_err-instrs.ensures)
