use Rattle.std.{proofs.Common.{subst, sym, arith}, proofs.lemmas.Grind.common_steps}
use Rattle.piton_check.specs.Instruction.{system_view}
use Rattle.piton_semantics.{specs.StateView.{IsSeen, opening}, proofs.SeenLaws.opening_seen}
use Rattle.piton_machine.proofs.state.State.opened.Goals as goal

pub returns-clause-fits : goal.returns-clause-fits
returns-clause-fits g c =
    let s = system_view c.args.checked.now in
    let fits : IsSeen s (opening s c.args.stack.now) = opening_seen s c.args.stack.now c.requires.sound c.requires.room c.requires.words in
    subst (IsSeen s) (sym (grind (arith, common_steps))) fits
