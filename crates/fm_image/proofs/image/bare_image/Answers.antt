use Rattle.std.{proofs.Common.{[], ap, refl, length, eqb, le-leb, List, ℕ}, proofs.lemmas.Bool.and_from}
use Rattle.fm_image.{specs.declared.slot.Slot.Slot, specs.Limits.{is_count, is_condition, is_slot, all_after, are_tables}, proofs.LimitLaws.from_limits}
use Rattle.fm_image.proofs.image.bare_image.Goals as goal

pub invariant_of-result : goal.invariant_of-result
unfolding all_after
invariant_of-result c =
    from_limits _ (record {
      version = refl;
      window = and_from _ _ c.requires.sized c.requires.inside;
      registers = ap (λ (n : ℕ). eqb n 16) c.requires.sixteen;
      condition_address = refl;
      condition_count = ap (λ (ns : List (List ℕ)). is_count 201 (length ns)) c.new.ensures.items;
      conditions = ap (λ (ns : List (List ℕ)). all_after is_condition [] ns) c.new.ensures.items;
      slot_count = ap (λ (ss : List Slot). is_count 200 (length ss)) c.new-2.ensures.items;
      slots = ap (λ (ss : List Slot). all_after (is_slot (record { base = c.args.base; size = c.args.size; final_pc = c.args.final_pc })) [] ss)
          c.new-2.ensures.items;
      words = le-leb _ _ c.requires.few;
      tables = λ i. are_tables (record { base = c.args.base; size = c.args.size; final_pc = c.args.final_pc })
          (record { procedures = c.new-3.ensures.items i; marks = c.new-4.ensures.items i });
    })
