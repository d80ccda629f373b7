use Rattle.std.{proofs.Common.{[], ◌∷◌, ◌++◌, append_assoc}, specs.List.flat_map}
use Rattle.stack_text.{specs.TreeText.tree_text, proofs.Loops.pieces_next}
use Rattle.piton_syntax.specs.Printed.{instruction_tree}
use Rattle.piton_syntax.proofs.printing.program.print_instructions.Goals as goal

pub loop-instruction-preserved : goal.loop-instruction-preserved
loop-instruction-preserved g c =
    pieces_next (λ i. 10 ∷ tree_text (instruction_tree i)) c.args.instructions.now c.loop-instruction.instruction-index c.instruction-item.result
    c.loop-instruction.out.items c.print_instruction.new.out.items
    (c.args.out.now.items ++ flat_map (λ i. 10 ∷ tree_text (instruction_tree i)) c.args.instructions.now) c.loop-instruction-test.true c.instruction-item.is
    (rw (c.in_ok-print_instruction.ensures, c.in_ok-push.ensures.items)
    (append_assoc c.loop-instruction.out.items (10 ∷ []) (tree_text (instruction_tree c.instruction-item.result))))
    c.loop-instruction.invariant
