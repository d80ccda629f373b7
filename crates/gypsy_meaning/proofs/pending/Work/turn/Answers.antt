use Rattle.std.proofs.Common.{◌≡◌, List, map, ap, sym, ◌∙◌}
use Rattle.stack_text.specs.Values.{ValueOf}
use Rattle.gypsy_meaning.{specs.Views.Work.{left_by, work_of}, specs.declared.work.Item.Item as Kept, proofs.OpenLaws.moved, proofs.TurnLaws.goes_moved}
use Rattle.gypsy_meaning.proofs.TurnLaws.{opens_moved}
use Rattle.gypsy_meaning.proofs.pending.Work.turn.Goals as goal

pub returns-in_ok-change-in-Opens-clause-done : goal.returns-in_ok-change-in-Opens-clause-done
returns-in_ok-change-in-Opens-clause-done g c =
    let x : List ValueOf = map (λ v. v.1) c.args.variables.now in
    let items = c.as_slice.result.now in
    let added = c.next_turn.new.added.items in
    let kept = c.in-Opens.kept in
    let left : work_of c.change.new.items.items ≡ left_by items added kept =
    moved c.self.inside.items.items c.change.new.items.items added kept c.in_ok-change-in-Opens.ensures.done
    ∙ ap (λ (l : List Kept). left_by l added kept) (sym c.as_slice.ensures.value) in
    let same : work_of c.args.self.now ≡ work_of items = ap work_of (sym (c.as_slice.ensures.value ∙ c.self.view_is)) in
    opens_moved x (work_of items) (work_of c.args.self.now) (work_of c.change.new.items.items) (left_by items added) kept c.in_ok-turn.turn
    c.in_ok-turn.ensures c.in-Opens.is same left

pub returns-in_ok-change-in-Goes-clause-done : goal.returns-in_ok-change-in-Goes-clause-done
returns-in_ok-change-in-Goes-clause-done g c =
    let x : List ValueOf = map (λ v. v.1) c.args.variables.now in
    let items = c.as_slice.result.now in
    let added = c.next_turn.new.added.items in
    let kept = c.in-Goes.kept in
    let left : work_of c.change-in-Goes.new.items.items ≡ left_by items added kept =
    moved c.self.inside.items.items c.change-in-Goes.new.items.items added kept c.in_ok-change-in-Goes.ensures.done
    ∙ ap (λ (l : List Kept). left_by l added kept) (sym c.as_slice.ensures.value) in
    let same : work_of c.args.self.now ≡ work_of items = ap work_of (sym (c.as_slice.ensures.value ∙ c.self.view_is)) in
    goes_moved x (work_of items) (work_of c.args.self.now) (work_of c.change-in-Goes.new.items.items) (left_by items added) kept c.in-Goes.advance
    c.in_ok-turn.turn c.in_ok-turn.ensures c.in-Goes.is same left
