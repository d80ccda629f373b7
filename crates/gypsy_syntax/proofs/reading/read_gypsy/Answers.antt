use Rattle.std.{proofs.Common.refl, proofs.lemmas.Result.err_from_is_err_and}
use Rattle.stack_text.{specs.Views.TreeView.node_of, proofs.ReaderLaws.{TellsFaults, text_at_fault, tree_at_fault}}
use Rattle.gypsy_syntax.{specs.Views.SourceView.source_of, specs.GypsyReading.{fault_of, gypsy_reader}, proofs.KeepsLaws.read_keeps}
use Rattle.gypsy_syntax.proofs.WalkLaws.{source_part}
use Rattle.gypsy_syntax.proofs.reading.read_gypsy.Goals as goal

tells : TellsFaults gypsy_reader fault_of
tells = record { of_text = λ rule place. refl; of_form = λ rule place. refl; of_memory = refl }

pub returns-in_err-tree : goal.returns-in_err-tree
returns-in_err-tree g c =
    let p = err_from_is_err_and c.from_residual.result c.from_residual.ensures.1 in
    record {
      value = rw (p.1, p.2) (text_at_fault gypsy_reader fault_of tells (g.H.Heap.may_refuse c.args.heap) c.in_err-tree.field-0.0
          c.args.text.now c.in_err-tree.ensures.value);
      keeps = rw p.1 tt;
    }

pub returns-in_err-source : goal.returns-in_err-source
returns-in_err-source g c =
    let p = err_from_is_err_and c.from_residual-in_err-source.result c.from_residual-in_err-source.ensures.1 in
    record {
      value = rw (p.1, p.2) (tree_at_fault gypsy_reader fault_of tells source_part (g.H.Heap.may_refuse c.args.heap) c.in_err-source.field-0.0
          c.args.text.now (node_of c.in_ok-tree.tree) c.in_ok-tree.ensures.value c.in_ok-tree.ensures.order c.in_err-source.ensures);
      keeps = rw p.1 tt;
    }

pub returns-clause-keeps : goal.returns-clause-keeps
returns-clause-keeps g c = read_keeps (node_of c.in_ok-tree.tree) (source_of c.in_ok-source.source) c.in_ok-source.ensures c.in_ok-tree.ensures.well_formed
