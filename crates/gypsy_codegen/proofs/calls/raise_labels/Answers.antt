use Rattle.std.proofs.Common.{◌≡◌, ℕ, ◌+◌, [], ◌∷◌, List, map, ap, arith}
use Rattle.gypsy_space.{specs.Nodes.seen_cond, specs.declared.program.Condition.Condition, specs.declared.program.Condition.TheVariants.Leave}
use Rattle.gypsy_codegen.{specs.Lines.raise_labels, specs.Written.label_arg, proofs.WriteLaws.numbered_next}
use Rattle.gypsy_codegen.proofs.calls.raise_labels.Goals as goal

pub loop-number-preserved : goal.loop-number-preserved
loop-number-preserved g c =
    let first = c.args.first in
    let k = c.loop-number.number in
    numbered_next (λ (n : ℕ) (ds : List Condition). map label_arg (raise_labels (first + n) (map seen_cond ds))) c.args.conds.now k Leave
    (label_arg (first + k) ∷ []) c.loop-number.args.items c.push_label.new.args.items _ c.loop-number-test.true
    (λ x rest. let next : first + k + 1 ≡ first + (k + 1) = omega arith in ap
    (λ (l : ℕ). label_arg (first + k) ∷ map label_arg (raise_labels l (map seen_cond rest))) next)
    c.in_ok-push_label.ensures c.loop-number.invariant
