use Rattle.std.{proofs.Common.{◌≡◌, ◌∷◌, ◌-◌, ◌<◌, List, suc, length, get_or, take, map, true, false, ap, sym, ◌∙◌, rules, arith}, specs.Global.Vec}
use Rattle.stack_heap.proofs.UnlessLaws.{if_ok_unless_weaker}
use Rattle.gypsy_space.{specs.declared.program.Condition.Condition, specs.Nodes.{seen_cond, seen_statement}}
use Rattle.gypsy_semantics.{specs.Calls.has_cond, specs.Machine.{Item, Back, Guard, JoinOne, open_on}}
use Rattle.gypsy_meaning.{specs.Views.Work.{item_of, work_of, work_on}, specs.declared.work.Item.Item as Kept, proofs.WorkLaws.{top_of, back_caught}}
use Rattle.gypsy_meaning.proofs.WorkLaws.{back_passed, guard_caught, guard_passed, passed_over}
use Rattle.gypsy_meaning.proofs.work.+raise.Goals as goal

pub returns-in_ok-settled-in-Back : goal.returns-in_ok-settled-in-Back
returns-in_ok-settled-in-Back g t c =
    let items = c.args.items.now in
    let k : Kept = c.index-items-top.result in
    let n = c.args.below - 1 in
    let e : c.args.below ≡ suc n = omega arith in
    let lt : n < length items = omega (arith, c.requires.within) in
    let at : k ≡ get_or items n k = search rules in
    let s = seen_statement c.in-Back.field-1.value in
    let is : item_of k ≡ Back c.in-Back.field-0 s = search rules in
    let top : work_of (take c.args.below items) ≡ Back c.in-Back.field-0 s ∷ work_of (take n items) =
    top_of items c.args.below n k e lt at ∙ ap (λ (i : Item). i ∷ work_of (take n items)) is in
    back_caught (seen_cond c.args.cond) c.in-Back.field-0 s (work_of (take c.args.below items)) (work_of (take n items)) _ top
    (sym c.is_leave.ensures ∙ c.if-is_leave.true) c.in_ok-settled-in-Back.ensures

pub returns-else-is_leave : goal.returns-else-is_leave
returns-else-is_leave g t c =
    let items = c.args.items.now in
    let k : Kept = c.index-items-top.result in
    let n = c.args.below - 1 in
    let e : c.args.below ≡ suc n = omega arith in
    let lt : n < length items = omega (arith, c.requires.within) in
    let at : k ≡ get_or items n k = search rules in
    let s = seen_statement c.in-Back.field-1.value in
    let is : item_of k ≡ Back c.in-Back.field-0 s = search rules in
    let top : work_of (take c.args.below items) ≡ Back c.in-Back.field-0 s ∷ work_of (take n items) =
    top_of items c.args.below n k e lt at ∙ ap (λ (i : Item). i ∷ work_of (take n items)) is in
    if_ok_unless_weaker (g.H.Heap.may_refuse c.args.heap) c.raise.result _ _ (λ r h p x fs u.
    back_passed (seen_cond c.args.cond) c.in-Back.field-0 s (work_of (take c.args.below items)) (work_of (take n items)) top
    (sym c.is_leave.ensures ∙ c.if-is_leave.false) p x fs u ∙ h p x fs u) c.raise.ensures

pub returns-in_ok-put_opened-in-Guard : goal.returns-in_ok-put_opened-in-Guard
returns-in_ok-put_opened-in-Guard g t c =
    let items = c.args.items.now in
    let k : Kept = c.index-items-top.result in
    let n = c.args.below - 1 in
    let e : c.args.below ≡ suc n = omega arith in
    let lt : n < length items = omega (arith, c.requires.within) in
    let at : k ≡ get_or items n k = search rules in
    let place = c.in-Guard.place in
    let cs = map seen_cond c.in-Guard.conds.value.items in
    let s = seen_statement c.in-Guard.arm.value in
    let v : List Item = work_of (take n items) in
    let is : item_of k ≡ Guard place cs s = search rules in
    let top : work_of (take c.args.below items) ≡ Guard place cs s ∷ v =
    top_of items c.args.below n k e lt at ∙ ap (λ (i : Item). i ∷ v) is in
    let has : has_cond (seen_cond c.args.cond) cs ≡ true =
    ap (λ (l : List Condition). has_cond (seen_cond c.args.cond) (map seen_cond l))
    (sym (c.as_slice.ensures.value ∙ ap (λ (l : Vec Condition). l.items) c.deref.ensures))
    ∙ sym c.is_among.ensures ∙ c.if-is_among.true in
    let left : work_on c.put_opened.new.work.items v ≡ open_on s (JoinOne place ∷ v) =
    c.in_ok-put_opened-in-Guard.ensures v ∙ ap (λ (l : List Kept). open_on s (JoinOne place ∷ work_on l v)) c.requires.empty in
    guard_caught (seen_cond c.args.cond) place cs s (work_of (take c.args.below items)) v (work_on c.put_opened.new.work.items v) top has left

pub returns-else-is_among : goal.returns-else-is_among
returns-else-is_among g t c =
    let items = c.args.items.now in
    let k : Kept = c.index-items-top.result in
    let n = c.args.below - 1 in
    let e : c.args.below ≡ suc n = omega arith in
    let lt : n < length items = omega (arith, c.requires.within) in
    let at : k ≡ get_or items n k = search rules in
    let place = c.in-Guard.place in
    let cs = map seen_cond c.in-Guard.conds.value.items in
    let s = seen_statement c.in-Guard.arm.value in
    let v : List Item = work_of (take n items) in
    let is : item_of k ≡ Guard place cs s = search rules in
    let top : work_of (take c.args.below items) ≡ Guard place cs s ∷ v =
    top_of items c.args.below n k e lt at ∙ ap (λ (i : Item). i ∷ v) is in
    let has : has_cond (seen_cond c.args.cond) cs ≡ false =
    ap (λ (l : List Condition). has_cond (seen_cond c.args.cond) (map seen_cond l))
    (sym (c.as_slice.ensures.value ∙ ap (λ (l : Vec Condition). l.items) c.deref.ensures))
    ∙ sym c.is_among.ensures ∙ c.if-is_among.false in
    if_ok_unless_weaker (g.H.Heap.may_refuse c.args.heap) c.raise-else-is_among.result _ _ (λ r h p x fs u.
    guard_passed (seen_cond c.args.cond) place cs s (work_of (take c.args.below items)) v top has p x fs u ∙ h p x fs u) c.raise-else-is_among.ensures

pub returns-in_default : goal.returns-in_default
returns-in_default g t c =
    let items = c.args.items.now in
    let k : Kept = c.index-items-top.result in
    let n = c.args.below - 1 in
    let e : c.args.below ≡ suc n = omega arith in
    let lt : n < length items = omega (arith, c.requires.within) in
    let at : k ≡ get_or items n k = search rules in
    if_ok_unless_weaker (g.H.Heap.may_refuse c.args.heap) c.raise-in_default.result _ _ (λ r h p x fs u.
    passed_over k (work_of (take c.args.below items)) (work_of (take n items)) (top_of items c.args.below n k e lt at) c.in_default.not-Back
    c.in_default.not-Guard
    (seen_cond c.args.cond) p x fs u ∙ h p x fs u) c.raise-in_default.ensures
