use Rattle.std.proofs.Common.{◌≡◌, ◌∷◌, ◌-◌, ◌<◌, suc, length, get_or, take, drop, ap, ◌∙◌, rules, arith}
use Rattle.gypsy_semantics.specs.Machine.{Item, Do, settle}
use Rattle.gypsy_space.specs.Nodes.{seen_statement, seen_statements}
use Rattle.gypsy_meaning.{specs.Views.Work.{item_of, work_of}, specs.declared.work.Item.Item as Kept, proofs.WorkLaws.{top_of, settled_opened, settled_empty}}
use Rattle.gypsy_meaning.proofs.WorkLaws.{settled_solid}
use Rattle.gypsy_meaning.proofs.work.+settled.Goals as goal

pub returns-then-branch : goal.returns-then-branch
returns-then-branch g t c =
    let items = c.args.items.now in
    let k : Kept = c.index-items-top.result in
    let n = c.args.below - 1 in
    let e : c.args.below ≡ suc n = omega arith in
    let lt : n < length items = omega (arith, c.requires.within) in
    let at : k ≡ get_or items n k = search rules in
    let is : item_of k ≡ Do (seen_statement c.in-Do.node.value) = search rules in
    let top : work_of (take c.args.below items) ≡ Do (seen_statement c.in-Do.node.value) ∷ work_of (take n items) =
    top_of items c.args.below n k e lt at ∙ ap (λ (i : Item). i ∷ work_of (take n items)) is in
    settled_opened (seen_statement c.in-Do.node.value) c.args.added.now.items c.open.new.work.items c.in_ok-open-in-Do.field-0
    (work_of (take c.args.below items)) (work_of (take n items))
    c.requires.empty top c.if-branch.true c.in_ok-open-in-Do.ensures

pub returns-else-branch : goal.returns-else-branch
returns-else-branch g t c =
    let items = c.args.items.now in
    let k : Kept = c.index-items-top.result in
    let n = c.args.below - 1 in
    let e : c.args.below ≡ suc n = omega arith in
    let lt : n < length items = omega (arith, c.requires.within) in
    let at : k ≡ get_or items n k = search rules in
    let is : item_of k ≡ Do (seen_statement c.in-Do.node.value) = search rules in
    let top : work_of (take c.args.below items) ≡ Do (seen_statement c.in-Do.node.value) ∷ work_of (take n items) =
    top_of items c.args.below n k e lt at ∙ ap (λ (i : Item). i ∷ work_of (take n items)) is in
    let same : settle (work_of (take c.args.below items)) ≡ settle (work_of (take n items)) =
    settled_empty (seen_statement c.in-Do.node.value) c.args.added.now.items c.open.new.work.items c.in_ok-open-in-Do.field-0
    (work_of (take c.args.below items)) (work_of (take n items))
    top c.if-branch.false c.in_ok-open-in-Do.ensures in
    rw same c.settled.ensures

pub returns-then-branch-2 : goal.returns-then-branch-2
returns-then-branch-2 g t c =
    let items = c.args.items.now in
    let k : Kept = c.index-items-top.result in
    let n = c.args.below - 1 in
    let e : c.args.below ≡ suc n = omega arith in
    let lt : n < length items = omega (arith, c.requires.within) in
    let at : k ≡ get_or items n k = search rules in
    let s = seen_statements (drop c.in-Parts.next c.in-Parts.parts.value.items) in
    let is : item_of k ≡ Do s = search rules in
    let top : work_of (take c.args.below items) ≡ Do s ∷ work_of (take n items) =
    top_of items c.args.below n k e lt at ∙ ap (λ (i : Item). i ∷ work_of (take n items)) is in
    settled_opened s c.args.added.now.items c.open_parts.new.work.items c.in_ok-open_parts-in-Parts.field-0 (work_of (take c.args.below items))
    (work_of (take n items))
    c.requires.empty top c.if-branch-2.true c.in_ok-open_parts-in-Parts.ensures

pub returns-else-branch-2 : goal.returns-else-branch-2
returns-else-branch-2 g t c =
    let items = c.args.items.now in
    let k : Kept = c.index-items-top.result in
    let n = c.args.below - 1 in
    let e : c.args.below ≡ suc n = omega arith in
    let lt : n < length items = omega (arith, c.requires.within) in
    let at : k ≡ get_or items n k = search rules in
    let s = seen_statements (drop c.in-Parts.next c.in-Parts.parts.value.items) in
    let is : item_of k ≡ Do s = search rules in
    let top : work_of (take c.args.below items) ≡ Do s ∷ work_of (take n items) =
    top_of items c.args.below n k e lt at ∙ ap (λ (i : Item). i ∷ work_of (take n items)) is in
    let same : settle (work_of (take c.args.below items)) ≡ settle (work_of (take n items)) =
    settled_empty s c.args.added.now.items c.open_parts.new.work.items c.in_ok-open_parts-in-Parts.field-0 (work_of (take c.args.below items))
    (work_of (take n items))
    top c.if-branch-2.false c.in_ok-open_parts-in-Parts.ensures in
    rw same c.settled-else-branch-2.ensures

pub returns-in_default : goal.returns-in_default
returns-in_default g t c =
    let items = c.args.items.now in
    let k : Kept = c.index-items-top.result in
    let n = c.args.below - 1 in
    let e : c.args.below ≡ suc n = omega arith in
    let lt : n < length items = omega (arith, c.requires.within) in
    let at : k ≡ get_or items n k = search rules in
    settled_solid k c.args.added.now.items (work_of (take c.args.below items)) (work_of (take n items)) c.requires.empty
    (top_of items c.args.below n k e lt at) c.in_default.not-Do c.in_default.not-Parts
