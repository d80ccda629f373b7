use Rattle.std.proofs.Common.{◌+◌, ◌≤◌, arith}
use Rattle.stack_text.{specs.Views.TreeView.node_of, specs.Grammar.Parts.list_length}
use Rattle.piton_syntax.proofs.ProgramLaws.{small_program}
use Rattle.piton_syntax.proofs.reading.program.is_small.Goals as goal

pub returns-then-variables-le-MOST_VARIABLES : goal.returns-then-variables-le-MOST_VARIABLES
returns-then-variables-le-MOST_VARIABLES c =
    let few : list_length (node_of c.args.formals.now) + list_length (node_of c.args.temporaries.now) ≤ 400 = omega arith in
    small_program (node_of c.args.formals.now) (node_of c.args.temporaries.now) c.args.instructions.now few
