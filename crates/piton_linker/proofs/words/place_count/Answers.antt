use Rattle.std.{proofs.Common.{◌≡◌, ◌≤◌, length, arith}, specs.Prelude.◌^◌, proofs.lemmas.Grind.common_steps}
use Rattle.piton_check.specs.Instruction.{system_view}
use Rattle.piton_semantics.specs.State.{program_of}
use Rattle.piton_linker.proofs.EmissionLaws.{places_few}
use Rattle.piton_linker.proofs.words.place_count.Goals as goal

pub overflow_cast-result : goal.overflow_cast-result
overflow_cast-result c =
    let r = c.resolved.result.now in
    let same : c.len.result ≡ length (program_of (system_view r) c.args.program).instructions = grind (arith, common_steps) in
    let few : length (program_of (system_view r) c.args.program).instructions ≤ 2 ^ 20 =
    places_few c.args.checked.now r c.args.program c.resolved.ensures.value c.resolved.ensures.checked in
    omega (arith, same, few)
