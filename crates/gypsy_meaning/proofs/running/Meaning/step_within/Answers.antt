use Rattle.std.proofs.Common.{ℕ, List, map, refl, sym, subst}
use Rattle.stack_text.{specs.Values.ValueOf, specs.declared.name.Name.Name, specs.declared.value.Value.Value}
use Rattle.gypsy_semantics.specs.Machine.{Item}
use Rattle.gypsy_meaning.{specs.Views.Held.Moves, specs.Views.Work.work_of, specs.Internal.Turns.IsTurn, specs.declared.running.Meaning.Meaning}
use Rattle.gypsy_meaning.{proofs.RunningLaws.{advance_moves, open_moves}, proofs.TurnLaws.{goes_moved, opens_moved}}
use Rattle.gypsy_meaning.proofs.running.Meaning.step_within.Goals as goal

pub returns-in-Opens-clause-done : goal.returns-in-Opens-clause-done
returns-in-Opens-clause-done g c =
    let m = c.args.self.now in
    let x : List ValueOf = map (λ v. v.1) m.variables.items in
    let w = work_of m.work in
    let u = work_of c.turn.new.self in
    let left : ℕ → List Item = λ k. u in
    let T : List (Name × Value) → Type 0 = λ vs. IsTurn (map (λ v. v.1) vs) w left c.in_ok-turn.field-0 in
    let h : T m.variables.items = subst T c.as_slice.ensures.value c.in_ok-turn.ensures.done in
    let P : Meaning → Type 0 = Moves m in
    subst P (sym c.pay.ensures) (open_moves c.turn.new.self m (opens_moved x w w u left c.in-Opens.field-0 c.in_ok-turn.field-0 h c.in-Opens.is refl refl))

pub returns-in-Goes-clause-done : goal.returns-in-Goes-clause-done
returns-in-Goes-clause-done g c =
    let m = c.args.self.now in
    let x : List ValueOf = map (λ v. v.1) m.variables.items in
    let w = work_of m.work in
    let u = work_of c.turn.new.self in
    let left : ℕ → List Item = λ k. u in
    let T : List (Name × Value) → Type 0 = λ vs. IsTurn (map (λ v. v.1) vs) w left c.in_ok-turn.field-0 in
    let h : T m.variables.items = subst T c.as_slice.ensures.value c.in_ok-turn.ensures.done in
    let P : Meaning → Type 0 = Moves m in
    subst P (sym c.advance.ensures)
    (advance_moves c.args.needs.now.procedures.items c.in-Goes.advance c.turn.new.self m
    (goes_moved x w w u left c.in-Goes.field-0 c.in-Goes.advance c.in_ok-turn.field-0 h c.in-Goes.is refl refl))
