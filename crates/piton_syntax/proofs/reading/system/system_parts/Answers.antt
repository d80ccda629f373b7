use Rattle.std.{proofs.Common.map, proofs.lemmas.Result.err_from_is_err_and}
use Rattle.stack_text.{specs.Views.TreeView.{node_of, nodes_of}, specs.Grammar.Judged.each_of, specs.declared.grammar.fault.FormFault.TheVariants.Form}
use Rattle.stack_text.proofs.PartLaws.{first_of_2, first_of_3, first_of_4, first_of_5, first_of_6, first_of_7, first_of_value}
use Rattle.piton_syntax.{specs.Grammar.{area_of, named_of, number_of, program_of, word_of}, specs.Systems.{AreaOf, new_system}}
use Rattle.piton_syntax.specs.declared.word_text.WordText.{WordText}
use Rattle.piton_syntax.proofs.reading.system.system_parts.Goals as goal

pub returns-in_err-main : goal.returns-in_err-main
returns-in_err-main g c =
    let p = err_from_is_err_and c.from_residual.result c.from_residual.ensures.1 in
    rw (p.1, p.2)
    (first_of_7 (g.H.Heap.may_refuse c.args.heap) c.in_err-main.field-0.0 (new_system c.args.place) (named_of (node_of c.args.trees.main.now))
    (number_of (node_of c.args.trees.ctrl.now)) (number_of (node_of c.args.trees.temp.now)) (number_of (node_of c.args.trees.base.now))
    (each_of area_of (nodes_of c.args.trees.areas.now)) (each_of word_of (nodes_of c.args.trees.stack.now))
    (each_of program_of (nodes_of c.args.trees.programs.now)) c.in_err-main.ensures)

pub returns-in_err-ctrl : goal.returns-in_err-ctrl
returns-in_err-ctrl g c =
    let p = err_from_is_err_and c.from_residual-in_err-ctrl.result c.from_residual-in_err-ctrl.ensures.1 in
    rw (p.1, p.2, c.in_ok-main.ensures)
    (first_of_6 (g.H.Heap.may_refuse c.args.heap) (Form c.in_err-ctrl.field-0.0.rule c.in_err-ctrl.field-0.0.place)
    (new_system c.args.place c.in_ok-main.main) (number_of (node_of c.args.trees.ctrl.now)) (number_of (node_of c.args.trees.temp.now))
    (number_of (node_of c.args.trees.base.now)) (each_of area_of (nodes_of c.args.trees.areas.now))
    (each_of word_of (nodes_of c.args.trees.stack.now)) (each_of program_of (nodes_of c.args.trees.programs.now)) c.in_err-ctrl.ensures)

pub returns-in_err-temp : goal.returns-in_err-temp
returns-in_err-temp g c =
    let p = err_from_is_err_and c.from_residual-in_err-temp.result c.from_residual-in_err-temp.ensures.1 in
    rw (p.1, p.2, c.in_ok-main.ensures, c.in_ok-ctrl.ensures)
    (first_of_5 (g.H.Heap.may_refuse c.args.heap) (Form c.in_err-temp.field-0.0.rule c.in_err-temp.field-0.0.place)
    (new_system c.args.place c.in_ok-main.main c.in_ok-ctrl.ctrl) (number_of (node_of c.args.trees.temp.now))
    (number_of (node_of c.args.trees.base.now)) (each_of area_of (nodes_of c.args.trees.areas.now))
    (each_of word_of (nodes_of c.args.trees.stack.now)) (each_of program_of (nodes_of c.args.trees.programs.now)) c.in_err-temp.ensures)

pub returns-in_err-base : goal.returns-in_err-base
returns-in_err-base g c =
    let p = err_from_is_err_and c.from_residual-in_err-base.result c.from_residual-in_err-base.ensures.1 in
    rw (p.1, p.2, c.in_ok-main.ensures, c.in_ok-ctrl.ensures, c.in_ok-temp.ensures)
    (first_of_4 (g.H.Heap.may_refuse c.args.heap) (Form c.in_err-base.field-0.0.rule c.in_err-base.field-0.0.place)
    (new_system c.args.place c.in_ok-main.main c.in_ok-ctrl.ctrl c.in_ok-temp.temp) (number_of (node_of c.args.trees.base.now))
    (each_of area_of (nodes_of c.args.trees.areas.now)) (each_of word_of (nodes_of c.args.trees.stack.now))
    (each_of program_of (nodes_of c.args.trees.programs.now)) c.in_err-base.ensures)

pub returns-in_err-areas : goal.returns-in_err-areas
returns-in_err-areas g c =
    let p = err_from_is_err_and c.from_residual-in_err-areas.result c.from_residual-in_err-areas.ensures.1 in
    rw (p.1, p.2, c.in_ok-main.ensures, c.in_ok-ctrl.ensures, c.in_ok-temp.ensures, c.in_ok-base.ensures)
    (first_of_3 (g.H.Heap.may_refuse c.args.heap) c.in_err-areas.field-0.0
    (new_system c.args.place c.in_ok-main.main c.in_ok-ctrl.ctrl c.in_ok-temp.temp c.in_ok-base.base)
    (each_of area_of (nodes_of c.args.trees.areas.now)) (each_of word_of (nodes_of c.args.trees.stack.now))
    (each_of program_of (nodes_of c.args.trees.programs.now)) c.in_err-areas.ensures)

pub returns-in_err-stack : goal.returns-in_err-stack
returns-in_err-stack g c =
    let p = err_from_is_err_and c.from_residual-in_err-stack.result c.from_residual-in_err-stack.ensures.1 in
    rw (p.1, p.2, c.in_ok-main.ensures, c.in_ok-ctrl.ensures, c.in_ok-temp.ensures, c.in_ok-base.ensures, c.in_ok-areas.ensures)
    (first_of_2 (g.H.Heap.may_refuse c.args.heap) c.in_err-stack.field-0.0
    (new_system c.args.place c.in_ok-main.main c.in_ok-ctrl.ctrl c.in_ok-temp.temp c.in_ok-base.base
    (map (λ (area : AreaOf). area) c.in_ok-areas.areas.items)) (each_of word_of (nodes_of c.args.trees.stack.now))
    (each_of program_of (nodes_of c.args.trees.programs.now)) c.in_err-stack.ensures)

pub returns-in_err-programs : goal.returns-in_err-programs
returns-in_err-programs g c =
    let p = err_from_is_err_and c.from_residual-in_err-programs.result c.from_residual-in_err-programs.ensures.1 in
    rw (p.1, p.2, c.in_ok-main.ensures, c.in_ok-ctrl.ensures, c.in_ok-temp.ensures, c.in_ok-base.ensures, c.in_ok-areas.ensures, c.in_ok-stack.ensures)
    (first_of_value (g.H.Heap.may_refuse c.args.heap) c.in_err-programs.field-0.0
    (new_system c.args.place c.in_ok-main.main c.in_ok-ctrl.ctrl c.in_ok-temp.temp c.in_ok-base.base
    (map (λ (area : AreaOf). area) c.in_ok-areas.areas.items) (map (λ (word : WordText). word) c.in_ok-stack.stack.items))
    (each_of program_of (nodes_of c.args.trees.programs.now)) c.in_err-programs.ensures)
