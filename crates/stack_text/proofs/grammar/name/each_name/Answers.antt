use Rattle.std.{proofs.Common.{[], ◌∷◌, ap, arith, length}, proofs.lemmas.Result.err_from_is_err_and, proofs.lemmas.List.length-append}
use Rattle.stack_text.{specs.Grammar.Parts.name_or, proofs.PartLaws.{part_fails, part_read, parts_end}}
use Rattle.stack_text.proofs.grammar.name.each_name.Goals as goal

pub returns-in_err-name : goal.returns-in_err-name
returns-in_err-name g c =
    let p = err_from_is_err_and c.from_residual-in_err-name.result c.from_residual-in_err-name.ensures.1 in
    rw (p.1, p.2)
    (part_fails (name_or c.args.rule) c.loop-tree.names.items c.loop-tree.tree-index c.args.trees.now c.loop-tree.invariant.read_is
    (g.H.BoundedHeap.may_refuse c.args.heap) c.in_err-name.field-0.0 c.tree-item.result c.loop-tree-test.true c.tree-item.is c.in_err-name.ensures)

pub loop-tree-preserved : goal.loop-tree-preserved
loop-tree-preserved g c = record {
  read_is = rw c.in_ok-push.ensures.items
      (part_read (name_or c.args.rule) c.loop-tree.names.items c.loop-tree.tree-index c.args.trees.now c.loop-tree.invariant.read_is c.tree-item.result
      c.in_ok-name.name c.loop-tree-test.true c.tree-item.is c.in_ok-name.ensures);
  few = omega (arith, ap length c.in_ok-push.ensures.items, length-append c.loop-tree.names.items (c.in_ok-name.name ∷ []), c.loop-tree.invariant.few);
}

pub returns : goal.returns
returns g c = parts_end (name_or c.args.rule) c.loop-tree.names.items c.loop-tree.tree-index c.args.trees.now c.loop-tree.invariant.read_is
    (omega (arith, c.loop-tree-test.false))
