use Rattle.std.{proofs.Common.{[], ◌∷◌, ◌++◌, append_assoc}, specs.List.flat_map}
use Rattle.stack_text.proofs.Loops.{pieces_next}
use Rattle.piton_syntax.specs.Printed.{program_text}
use Rattle.piton_syntax.proofs.printing.print_programs.Goals as goal

pub loop-program-preserved : goal.loop-program-preserved
loop-program-preserved g c =
    pieces_next (λ program. 10 ∷ program_text program) c.args.programs.now c.loop-program.program-index c.program-item.result c.loop-program.out.items
    c.print_program.new.out.items
    (c.args.out.now.items ++ flat_map (λ program. 10 ∷ program_text program) c.args.programs.now) c.loop-program-test.true c.program-item.is
    (rw (c.in_ok-print_program.ensures, c.in_ok-push.ensures.items) (append_assoc c.loop-program.out.items (10 ∷ []) (program_text c.program-item.result)))
    c.loop-program.invariant
