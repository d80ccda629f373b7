use Rattle.std.{proofs.Common.{◌≡◌, ◌∷◌, List, length, map, take, refl, ap, sym, ◌∙◌}, proofs.Math.Seq.take-length}
use Rattle.stack_text.specs.Values.{ValueOf}
use Rattle.gypsy_syntax.specs.Programs.{Stmt, Loop, If}
use Rattle.gypsy_space.{specs.Nodes.seen_statement, proofs.NodeLaws.seen_statement-seq}
use Rattle.gypsy_semantics.specs.Machine.{Do, settle}
use Rattle.gypsy_meaning.{specs.Views.Work.{left_by, work_of, work_on}, specs.declared.work.Item.Item as Kept, proofs.TurnLaws.{goes_from, parts_from}}
use Rattle.gypsy_meaning.proofs.turn.begin.Goals as goal

pub returns-in_ok-enter_loop-in-Loop : goal.returns-in_ok-enter_loop-in-Loop
returns-in_ok-enter_loop-in-Loop g c =
    let x : List ValueOf = map (λ v. v.1) c.args.variables.now in
    let w = work_of c.args.items.now in
    let v = work_of (take c.args.below c.args.items.now) in
    let u = work_on c.enter_loop.new.added.items v in
    let s : Stmt = Loop c.in-Loop.place (seen_statement c.in-Loop.body.value) in
    let is : seen_statement c.args.node.now.value ≡ s = ap seen_statement (sym c.deref.ensures ∙ c.in-Loop.is) in
    let a = c.in_ok-enter_loop-in-Loop.field-0 in
    goes_from x w (Do s ∷ v) u u a a (c.requires.top ∙ ap (λ (r : Stmt). Do r ∷ v) is) refl refl (c.in_ok-enter_loop-in-Loop.ensures x v)

pub returns-in_ok-branch-in-If : goal.returns-in_ok-branch-in-If
returns-in_ok-branch-in-If g c =
    let x : List ValueOf = map (λ v. v.1) c.args.variables.now in
    let w = work_of c.args.items.now in
    let v = work_of (take c.args.below c.args.items.now) in
    let u = work_on c.branch-heap.new.added.items v in
    let s : Stmt = If c.in-If.place c.in-If.test (seen_statement c.in-If.yes.value) (seen_statement c.in-If.no.value) in
    let is : seen_statement c.args.node.now.value ≡ s = ap seen_statement (sym c.deref.ensures ∙ c.in-If.is) in
    let a = c.in_ok-branch-in-If.field-0 in
    goes_from x w (Do s ∷ v) u u a a (c.requires.top ∙ ap (λ (r : Stmt). Do r ∷ v) is) refl refl
    (c.in_ok-branch-in-If.ensures x c.in-If.test v c.is_true-test.ensures)

pub returns-in_ok-settled-in-Seq : goal.returns-in_ok-settled-in-Seq
returns-in_ok-settled-in-Seq g c =
    let x : List ValueOf = map (λ v. v.1) c.args.variables.now in
    let items = c.args.items.now in
    let v = work_of (take c.args.below items) in
    let all : settle (work_of (take (length items) items)) ≡ settle (work_of items) = ap (λ (l : List Kept). settle (work_of l)) (take-length items) in
    parts_from x (work_of items) v (left_by items c.settled.new.added.items c.in_ok-settled-in-Seq.field-0) (seen_statement c.args.node.now.value)
    c.in-Seq.field-0.value.items
    c.requires.top (ap seen_statement (sym c.deref.ensures ∙ c.in-Seq.is) ∙ seen_statement-seq c.in-Seq.field-0) (c.in_ok-settled-in-Seq.ensures ∙ all)
