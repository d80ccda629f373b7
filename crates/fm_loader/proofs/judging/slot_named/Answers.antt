use Rattle.std.{proofs.Common.{rules, sym, ◌∙◌, refl, length}, proofs.lemmas.Option.slice_get_read}
use Rattle.fm_loader.proofs.NameLaws.{no_slot, slot_below, the_slot}
use Rattle.fm_loader.proofs.judging.slot_named.Goals as goal

pub returns-in_err-index-clause-slot : goal.returns-in_err-index-clause-slot
returns-in_err-index-clause-slot c =
    rw c.from_residual.ensures (no_slot c.args.name.now c.args.names.now c.args.slots.now c.requires c.in_err-index.ensures)

pub returns-in_err-slot-clause-slot : goal.returns-in_err-slot-clause-slot
returns-in_err-slot-clause-slot c =
    let below = slot_below c.args.name.now c.args.names.now c.args.slots.now c.in_ok-index.index c.requires c.in_ok-index.ensures in
    search (rules, below)

pub returns-clause-slot : goal.returns-clause-slot
returns-clause-slot c =
    sym (the_slot c.args.name.now c.args.names.now c.args.slots.now c.in_ok-index.index c.requires c.in_ok-index.ensures
    ∙ slice_get_read c.args.slots.now (length c.args.slots.now) c.in_ok-index.index c.in_ok-slot.slot.now refl c.in_ok-slot.ensures.lookup.3.0
    c.in_ok-slot.ensures.lookup.1)

pub returns-clause-position : goal.returns-clause-position
returns-clause-position c = slice_get_read c.args.slots.now (length c.args.slots.now) c.in_ok-index.index c.in_ok-slot.slot.now refl
    c.in_ok-slot.ensures.lookup.3.0 c.in_ok-slot.ensures.lookup.1
