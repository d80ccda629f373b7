use Rattle.std.{proofs.Common.{◌≡◌, ◌++◌, ◌∙◌, Some, ap, sym}, specs.Prelude.option_map, proofs.lemmas.Result.err_from_is_err_and}
use Rattle.piton_check.specs.Sound.{local_count}
use Rattle.piton_semantics.{specs.declared.group.Group.TheVariants.Move, specs.Fits.system_in, specs.Groups.resolved_at, specs.PitonInstr.decoded_view}
use Rattle.piton_semantics.{specs.State.program_of, proofs.GroupLaws.{instruction_here, pieces_here}, proofs.StepLaws.each_step_simulated}
use Rattle.piton_code_move.proofs.CountLaws.{few_at}
use Rattle.piton_code_move.proofs.emission.append.Goals as goal

pub push_move-requires : goal.push_move-requires
push_move-requires g c =
    let checked = c.args.checked.now in
    let r = c.resolved.result.now in
    let instr = c.in-Some.instr.now in
    let there : resolved_at r c.args.program c.args.place ≡ Some instr = sym c.instruction.ensures.resolved ∙ ap (option_map (λ i. i.now)) c.in-Some.is in
    let here = instruction_here checked r c.args.program c.args.place instr c.resolved.ensures.value there in
    record {
      counts = few_at (system_in checked) c.resolved.ensures.checked.sound c.args.program c.args.place (decoded_view c.decode.result)
          (here ∙ ap Some (sym c.decode.ensures));
    }

-- memory was refused whatever stands there
pub returns-in_err-push_move-in-Some-clause-pieces : goal.returns-in_err-push_move-in-Some-clause-pieces
returns-in_err-push_move-in-Some-clause-pieces g c =
    let p = err_from_is_err_and c.from_residual.result c.from_residual.ensures.1 in
    rw p.1 (c.in_err-push_move-in-Some.ensures 0 0 0)

pub returns-in_ok-push_move-in-Some-clause-pieces : goal.returns-in_ok-push_move-in-Some-clause-pieces
returns-in_ok-push_move-in-Some-clause-pieces g c =
    let checked = c.args.checked.now in
    let r = c.resolved.result.now in
    let instr = c.in-Some.instr.now in
    let there : resolved_at r c.args.program c.args.place ≡ Some instr = sym c.instruction.ensures.resolved ∙ ap (option_map (λ i. i.now)) c.in-Some.is in
    c.in_ok-push_move-in-Some.ensures c.args.program c.args.place (local_count (program_of (system_in checked) c.args.program))
    ∙ ap (λ ps. c.args.pieces.now.items ++ ps)
    (pieces_here checked r c.args.program c.args.place instr c.resolved.ensures.value there Move (decoded_view c.decode.result) c.decode.ensures
    c.requires)

pub returns-in_ok-push_move-in-Some-clause-steps : goal.returns-in_ok-push_move-in-Some-clause-steps
returns-in_ok-push_move-in-Some-clause-steps g c =
    λ small m p q at here. each_step_simulated (system_in c.args.checked.now) c.resolved.ensures.checked.sound small m p q

pub returns-in-None-clause-steps : goal.returns-in-None-clause-steps
returns-in-None-clause-steps g c = λ small m p q at here. each_step_simulated (system_in c.args.checked.now) c.resolved.ensures.checked.sound small m p q
