use Rattle.std.{proofs.Common.{◌≡◌, ◌∙◌, ap, sym, subst, Ok, Some}, specs.Prelude.option_map}
use Rattle.piton_semantics.{specs.Fits.IsState, specs.InstructionRows.row_of, specs.StateView.Seen, specs.State.instruction_at, proofs.KeepLaws.row_kept}
use Rattle.piton_check.specs.Instruction.{system_view, instruction_view}
use Rattle.piton_machine.proofs.state.State.stepped.Goals as goal

pub returns-clause-fits : goal.returns-clause-fits
returns-clause-fits c =
    let s = system_view c.args.checked.now in
    let v = c.args.self.now in
    let instr = instruction_view c.in-Some.instr.now in
    let seen = c.self.view_is in
    let here : instruction_at s c.self.inside.program c.self.inside.place ≡ Some instr =
    sym c.instruction.ensures.instruction ∙ ap (option_map (λ i. instruction_view i.now)) c.in-Some.is in
    let at : instruction_at s v.state.program v.state.place ≡ Some instr =
    subst (λ (w : Seen). instruction_at s w.state.program w.state.place ≡ Some instr) seen here in
    let row : row_of s v.state instr ≡ Ok c.act.new.self.state =
    subst (λ i. row_of s v.state i ≡ Ok c.act.new.self.state) c.decode-next.ensures c.in_default-act.ensures.ok in
    let kept : IsState s c.act.new.self.state =
    row_kept s v.state c.act.new.self.state instr c.requires.sound c.requires.fits.state
    (c.requires.sound.instructions v.state.program v.state.place instr at) row in
    record {
      state = subst (λ (w : Seen). IsState s w.state) (sym c.self-2.view_is) kept;
      ctrl = ap (λ (w : Seen). w.ctrl) c.self-2.view_is ∙ ap (λ (w : Seen). w.ctrl) c.in_default-act.ensures.rest ∙ c.requires.fits.ctrl;
      temp = ap (λ (w : Seen). w.temp) c.self-2.view_is ∙ ap (λ (w : Seen). w.temp) c.in_default-act.ensures.rest ∙ c.requires.fits.temp;
    }
