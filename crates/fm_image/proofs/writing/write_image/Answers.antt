use Rattle.fm_image.proofs.LimitLaws.{condition_count, slot_count, word_count, tables_small}
use Rattle.fm_image.proofs.writing.write_image.Goals as goal

pub push_conditions-requires-clause-few : goal.push_conditions-requires-clause-few
push_conditions-requires-clause-few g c = rw c.deref-2.ensures.value (condition_count _ c.image.invariant)

pub push_slots-requires-clause-few : goal.push_slots-requires-clause-few
push_slots-requires-clause-few g c = rw c.deref-3.ensures.value (slot_count _ c.image.invariant)

pub push_words-requires-clause-few : goal.push_words-requires-clause-few
push_words-requires-clause-few g c = rw c.deref-4.ensures.value (word_count _ c.image.invariant)

pub push_tables-requires-clause-procedures : goal.push_tables-requires-clause-procedures
push_tables-requires-clause-procedures g c = rw c.deref-5.ensures.value (tables_small _ c.image.invariant).procedures

pub push_tables-requires-clause-small : goal.push_tables-requires-clause-small
push_tables-requires-clause-small g c = rw c.deref-5.ensures.value (tables_small _ c.image.invariant).small

pub push_tables-requires-clause-marks : goal.push_tables-requires-clause-marks
push_tables-requires-clause-marks g c = rw c.deref-6.ensures.value (tables_small _ c.image.invariant).marks
