use Rattle.std.proofs.Common.{◌≡◌, ◌++◌, None, Some, List, get_or, ap, sym, ◌∙◌, arith}
use Rattle.stack_text.{specs.Trees.Node, specs.TreeText.items_text, specs.Views.TreeView.nodes, specs.Grammar.Printed.items_after}
use Rattle.gypsy_space.specs.Callees.{names_of}
use Rattle.space_cert.{specs.CertText.entry_trees, proofs.PrintedLaws.{left_out, printed_next, printed_end}}
use Rattle.space_cert.proofs.printing.print_entries.Goals as goal

pub loop-index-preserved-in_default : goal.loop-index-preserved-in_default
loop-index-preserved-in_default g c =
    let none : None ≡ get_or c.args.bounds.now c.loop-index.index None = sym c.in_default.is ∙ c.bound_of.ensures in
    record {
      text = ap (λ (ns : List Node). c.loop-index.out.items ++ items_after c.loop-index.printed (nodes ns))
          (left_out c.args.procs.now c.args.bounds.now c.requires c.loop-index.index c.index-procs-index.result c.loop-index-test.true
          c.index-procs-index.is none)
          ∙ c.loop-index.invariant.text;
      few = omega (arith, c.loop-index.invariant.few);
    }

pub loop-index-preserved : goal.loop-index-preserved
loop-index-preserved g c =
    let all = c.args.out.now.items ++ items_text (nodes (entry_trees (names_of c.args.procs.now) c.args.bounds.now)) in
    let some : Some c.in-Some.bound ≡ get_or c.args.bounds.now c.loop-index.index None = sym c.in-Some.is ∙ c.bound_of.ensures in
    record {
      text = printed_next c.args.procs.now c.args.bounds.now c.requires c.loop-index.index c.index-procs-index.result c.loop-index-test.true
          c.index-procs-index.is c.in-Some.bound c.loop-index.printed c.loop-index.out.items c.separate.new.out.items c.print_entry.new.out.items all some
          c.in_ok-separate.ensures c.in_ok-print_entry.ensures c.loop-index.invariant.text;
      few = omega (arith, c.loop-index.invariant.few);
    }

pub returns : goal.returns
returns g c =
    printed_end c.args.procs.now c.args.bounds.now c.loop-index.index c.loop-index.printed c.loop-index.out.items
    (c.args.out.now.items ++ items_text (nodes (entry_trees (names_of c.args.procs.now) c.args.bounds.now))) c.loop-index-test.false
    c.loop-index.invariant.text
