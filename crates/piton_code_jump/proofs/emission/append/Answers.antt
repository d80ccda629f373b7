use Rattle.std.{proofs.Common.{◌≡◌, ◌++◌, ◌∙◌, Some, ap, sym}, specs.Prelude.option_map}
use Rattle.piton_check.{specs.Instruction.{instruction_view, system_view}, specs.Resolved.ResolvedOf}
use Rattle.piton_semantics.{specs.declared.group.Group.TheVariants.Jump, specs.Fits.system_in, specs.Groups.{resolved_at, only_of}}
use Rattle.piton_semantics.{specs.PitonInstr.decoded_view, specs.State.variables_of, specs.Templates.pieces_of, proofs.GroupLaws.instruction_here}
use Rattle.piton_semantics.{proofs.GroupLaws.pieces_here, proofs.StepLaws.each_step_simulated}
use Rattle.piton_code_jump.proofs.CountLaws.{next_fits}
use Rattle.piton_code_jump.proofs.emission.append.Goals as goal

pub push_jump-requires : goal.push_jump-requires
push_jump-requires g c =
    let checked = c.args.checked.now in
    let r = c.resolved-resolved.result.now in
    let instr = c.in-Some.instr.now in
    let there : resolved_at r c.args.program c.args.place ≡ Some instr = sym c.instruction.ensures.resolved ∙ ap (option_map (λ i. i.now)) c.in-Some.is in
    let here = instruction_here checked r c.args.program c.args.place instr c.resolved-resolved.ensures.value there in
    record { next = next_fits (system_in checked) c.resolved-resolved.ensures.checked.sound c.args.program c.args.place (instruction_view instr) here }

pub returns-in_ok-push_jump-in-Some-clause-pieces : goal.returns-in_ok-push_jump-in-Some-clause-pieces
returns-in_ok-push_jump-in-Some-clause-pieces g c =
    let checked = c.args.checked.now in
    let r = c.resolved-resolved.result.now in
    let instr = c.in-Some.instr.now in
    let decoded = decoded_view c.decode-decoded.result in
    let there : resolved_at r c.args.program c.args.place ≡ Some instr = sym c.instruction.ensures.resolved ∙ ap (option_map (λ i. i.now)) c.in-Some.is in
    let locals : c.variables-locals.result ≡ variables_of (system_in checked) c.args.program =
    c.variables-locals.ensures.value ∙ ap (λ (u : ResolvedOf). variables_of (system_view u) c.args.program) c.resolved-resolved.ensures.value in
    c.in_ok-push_jump-in-Some.ensures
    ∙ ap (λ ps. c.args.pieces.now.items ++ ps) (
    ap (λ n. only_of Jump decoded (pieces_of c.args.program c.args.place n decoded)) locals
    ∙ pieces_here checked r c.args.program c.args.place instr c.resolved-resolved.ensures.value there Jump decoded c.decode-decoded.ensures c.requires
    )

pub returns-in_ok-push_jump-in-Some-clause-steps : goal.returns-in_ok-push_jump-in-Some-clause-steps
returns-in_ok-push_jump-in-Some-clause-steps g c =
    λ small m p q at here. each_step_simulated (system_in c.args.checked.now) c.resolved-resolved.ensures.checked.sound small m p q

pub returns-in-None-clause-steps : goal.returns-in-None-clause-steps
returns-in-None-clause-steps g c =
    λ small m p q at here. each_step_simulated (system_in c.args.checked.now) c.resolved-resolved.ensures.checked.sound small m p q
