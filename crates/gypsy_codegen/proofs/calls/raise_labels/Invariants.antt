use Rattle.std.proofs.Common.{◌≡◌, ◌++◌, ◌+◌, map, drop}
use Rattle.gypsy_space.specs.Nodes.{seen_cond}
use Rattle.gypsy_codegen.{specs.Lines.raise_labels, specs.Written.label_arg}
use Rattle.gypsy_codegen.proofs.calls.raise_labels.Given as goal

abbrev pub invariant-loop-number : goal.invariant-loop-number
invariant-loop-number g l =
    l.args.items ++ map label_arg (raise_labels (l.first + l.number) (map seen_cond (drop l.number l.conds))) ≡
    l.fn.args.items ++ map label_arg (raise_labels l.first (map seen_cond l.conds))
