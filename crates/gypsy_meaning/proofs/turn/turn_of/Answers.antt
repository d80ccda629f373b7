use Rattle.std.{proofs.Common.{◌≡◌, ◌∷◌, List, length, map, take, drop, refl, ap, ◌∙◌, rules}, proofs.Math.Seq.take-length}
use Rattle.stack_text.specs.Values.{ValueOf}
use Rattle.gypsy_syntax.specs.Programs.{Stmt, Loop}
use Rattle.gypsy_space.specs.Nodes.{seen_statement, seen_statements}
use Rattle.gypsy_semantics.specs.Machine.{Item, Back, Do, settle}
use Rattle.gypsy_meaning.{specs.Views.Work.{item_of, left_by, work_of, work_on}, specs.declared.work.Item.Item as Kept, proofs.TurnLaws.{goes_from, parts_from}}
use Rattle.gypsy_meaning.proofs.turn.turn_of.Goals as goal

pub returns-in_ok-settled-in-Parts : goal.returns-in_ok-settled-in-Parts
returns-in_ok-settled-in-Parts g c =
    let x : List ValueOf = map (λ v. v.1) c.args.variables.now in
    let items = c.args.items.now in
    let v = work_of (take c.args.below items) in
    let ns = drop c.in-Parts.field-1 c.in-Parts.field-0.value.items in
    let is : item_of c.args.top.now ≡ Do (seen_statements ns) = search rules in
    let all : settle (work_of (take (length items) items)) ≡ settle (work_of items) = ap (λ (l : List Kept). settle (work_of l)) (take-length items) in
    parts_from x (work_of items) v (left_by items c.settled.new.added.items c.in_ok-settled-in-Parts.field-0) (seen_statements ns) ns
    (c.requires.top ∙ ap (λ (i : Item). i ∷ v) is) refl (c.in_ok-settled-in-Parts.ensures ∙ all)

pub returns-in_ok-enter_loop-in-Again : goal.returns-in_ok-enter_loop-in-Again
returns-in_ok-enter_loop-in-Again g c =
    let x : List ValueOf = map (λ v. v.1) c.args.variables.now in
    let w = work_of c.args.items.now in
    let v = work_of (take c.args.below c.args.items.now) in
    let u = work_on c.enter_loop.new.added.items v in
    let s : Stmt = Loop c.in-Again.place (seen_statement c.in-Again.body.value) in
    let is : item_of c.args.top.now ≡ Do s = search rules in
    let a = c.in_ok-enter_loop-in-Again.field-0 in
    goes_from x w (Do s ∷ v) u u a a (c.requires.top ∙ ap (λ (i : Item). i ∷ v) is) refl refl (c.in_ok-enter_loop-in-Again.ensures x v)

pub returns-in_ok-loop_again-in-Back : goal.returns-in_ok-loop_again-in-Back
returns-in_ok-loop_again-in-Back g c =
    let x : List ValueOf = map (λ v. v.1) c.args.variables.now in
    let w = work_of c.args.items.now in
    let v = work_of (take c.args.below c.args.items.now) in
    let u = work_on c.loop_again.new.added.items v in
    let i : Item = Back c.in-Back.place (seen_statement c.in-Back.body.value) in
    let is : item_of c.args.top.now ≡ i = search rules in
    let a = c.in_ok-loop_again-in-Back.field-0 in
    goes_from x w (i ∷ v) u u a a (c.requires.top ∙ ap (λ (j : Item). j ∷ v) is) refl refl (c.in_ok-loop_again-in-Back.ensures x v)
