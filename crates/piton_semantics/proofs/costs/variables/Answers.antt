use Rattle.std.{proofs.Common.{rules, ◌≡◌, ◌+◌, ◌≤◌, arith}, proofs.lemmas.Grind.common_steps}
use Rattle.piton_check.specs.Instruction.{system_view}
use Rattle.piton_semantics.specs.State.{variables_of}
use Rattle.piton_semantics.proofs.costs.variables.Goals as goal

pub overflow_add-result : goal.overflow_add-result
overflow_add-result c =
    let same : c.from.result + c.len.result ≡ variables_of (system_view c.args.checked.now) c.args.program = grind (arith, common_steps) in
    let few : c.from.result + c.len.result ≤ 400 = omega (arith, same, c.requires c.args.program) in
    search rules

pub returns-in-Some-clause-few : goal.returns-in-Some-clause-few
returns-in-Some-clause-few c =
    let same : c.from.result + c.len.result ≡ variables_of (system_view c.args.checked.now) c.args.program = grind (arith, common_steps) in
    omega (arith, same, c.requires c.args.program)
