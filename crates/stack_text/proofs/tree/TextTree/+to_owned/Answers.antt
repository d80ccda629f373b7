use Rattle.std.proofs.Common.{ap, arith, length, rules}
use Rattle.stack_text.{specs.declared.tree.TextTree.the_lemmas, proofs.TreeViewLaws.{copied_more, copied_all}, proofs.LengthLaws.{items_within, item_within}}
use Rattle.stack_text.proofs.LengthLaws.{few_copied}
use Rattle.stack_text.proofs.tree.TextTree.+to_owned.Goals as goal

pub loop-item-preserved : goal.loop-item-preserved
loop-item-preserved g t c =
    copied_more c.loop-item.owned.items c.push.new.items.items c.deref-item-items.result.now c.loop-item.item-index c.item-item.result
    c.in_ok-to_owned-in-List.field-0
    c.loop-item-test.true c.item-item.is c.loop-item.invariant c.in_ok-to_owned-in-List.ensures c.in_ok-push-in-List.ensures.items

pub returns-after-loop-item : goal.returns-after-loop-item
returns-after-loop-item g t c =
    copied_all c.loop-item.owned c.in-List.place c.in-List.items c.args.self.now c.loop-item.item-index
    (omega (arith, ap length c.deref-item-items.ensures.value, c.loop-item-test.false)) c.in-List.is
    (rw c.deref-item-items.ensures.value at c.loop-item.invariant)

pub with_room_for-requires-clause-short : goal.with_room_for-requires-clause-short
with_room_for-requires-clause-short g t c = λ bounded.
    omega (
      arith,
      c.requires bounded,
      ap length c.as_slice.ensures.value,
      items_within c.in-List.place c.in-List.items c.args.self.now c.in-List.is,
    )

pub to_owned-requires : goal.to_owned-requires
to_owned-requires g t c = λ κs lives. (
  search (rules, the_lemmas),
  (
    lives,
    λ bounded.
        omega (
          arith,
          c.requires bounded,
          item_within c.in-List.place c.in-List.items c.args.self.now c.loop-item.item-index c.item-item.result
              c.in-List.is (rw c.deref-item-items.ensures.value at c.loop-item-test.true) (rw c.deref-item-items.ensures.value at c.item-item.is),
        ),
  ),
)

pub push-requires-clause-short : goal.push-requires-clause-short
push-requires-clause-short g t c = λ bounded.
    omega (
      arith,
      c.requires bounded,
      items_within c.in-List.place c.in-List.items c.args.self.now c.in-List.is,
      few_copied c.loop-item.owned.items c.in-List.items.items c.loop-item.item-index (rw c.deref-item-items.ensures.value at c.loop-item.invariant),
    )
