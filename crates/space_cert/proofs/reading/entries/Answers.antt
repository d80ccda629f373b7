use Rattle.std.{proofs.Common.{◌≡◌, length, replicate, None, Ok, ap, ◌∙◌, subst, rules}, proofs.lemmas.List.{length-set, length-replicate}}
use Rattle.std.proofs.lemmas.Result.{err_from_is_err_and}
use Rattle.stack_text.{specs.Gives.FailsUnless, specs.Views.TreeView.{node_of, nodes_of}}
use Rattle.space_cert.{specs.Bounded.are_bounds, specs.Covers.no_bounds, specs.CertText.{entry_at, fault_of, with_entries}, proofs.TextLaws.entry_next}
use Rattle.space_cert.proofs.TextLaws.{entry_stops, entries_end, none_within, set_within}
use Rattle.space_cert.proofs.reading.entries.Goals as goal

pub loop-tree-init : goal.loop-tree-init
loop-tree-init g c =
    let names = c.args.names.now in
    let n : c.len.result ≡ length names = c.len.ensures in
    let v : c.in_ok-bounds.bounds.items ≡ replicate c.len.result None = search rules in
    record {
      read = ap (λ bs. with_entries names bs (nodes_of c.args.trees.now)) (v ∙ ap (λ k. replicate k None) n);
      many = ap length v ∙ (length-replicate c.len.result None ∙ n);
      within = ap are_bounds v ∙ none_within c.len.result;
    }

pub returns-in_err-entry-clause-exact : goal.returns-in_err-entry-clause-exact
returns-in_err-entry-clause-exact g c =
    let names = c.args.names.now in
    let p = err_from_is_err_and c.from_residual-in_err-entry.result c.from_residual-in_err-entry.ensures.1 in
    let told = subst (λ bs. FailsUnless (g.H.Heap.may_refuse c.args.heap) (fault_of c.in_err-entry.field-0.0)
    (entry_at names bs (node_of c.tree-item.result))) c.as_slice.ensures.value
    c.in_err-entry.ensures.exact in
    rw (p.1, p.2) (entry_stops names c.args.trees.now c.loop-tree.tree-index c.tree-item.result c.loop-tree-test.true c.tree-item.is
    c.loop-tree.bounds.items (with_entries names (no_bounds (length names)) (nodes_of c.args.trees.now)) c.loop-tree.invariant.read
    (g.H.Heap.may_refuse c.args.heap) (fault_of c.in_err-entry.field-0.0) told)

pub loop-tree-preserved : goal.loop-tree-preserved
loop-tree-preserved g c =
    let names = c.args.names.now in
    let told = subst (λ bs. entry_at names bs (node_of c.tree-item.result) ≡ Ok c.in_ok-entry.entry) c.as_slice.ensures.value c.in_ok-entry.ensures.exact in
    record {
      read = entry_next names c.args.trees.now c.loop-tree.tree-index c.tree-item.result c.loop-tree-test.true c.tree-item.is c.loop-tree.bounds.items
          (with_entries names (no_bounds (length names)) (nodes_of c.args.trees.now)) c.loop-tree.invariant.read c.in_ok-entry.entry told;
      many = length-set c.loop-tree.bounds.items c.in_ok-entry.entry.0 _ ∙ c.loop-tree.invariant.many;
      within = set_within c.loop-tree.bounds.items c.in_ok-entry.entry.0 c.in_ok-entry.entry.1 c.loop-tree.invariant.within
          c.in_ok-entry.ensures.small.0 c.in_ok-entry.ensures.small.1;
    }

pub returns-clause-exact : goal.returns-clause-exact
returns-clause-exact g c =
    let names = c.args.names.now in
    entries_end names c.args.trees.now c.loop-tree.tree-index c.loop-tree.bounds.items
    (with_entries names (no_bounds (length names)) (nodes_of c.args.trees.now)) c.loop-tree-test.false c.loop-tree.invariant.read
