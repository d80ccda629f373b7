-- What the limits of an image give whoever reads values for it and loads it.
use Rattle.std.{proofs.Common.{◌≡◌, ◌+◌, List, [], ◌∷◌, ◌++◌, map, true, false, ◌&&◌, leb, ltb, eqb, refl, arith}, specs.Prelude.IsTrue}
use Rattle.std.proofs.lemmas.Bool.{and_parts, and_from, lt-leb, ne_eqb, le-ltb}
use Rattle.stack_text.{specs.Names.is_name, specs.Values.item_count}
use Rattle.fm_machine.specs.State.{is_refused}
use Rattle.fm_image.{specs.declared.slot.Slot.Slot, specs.declared.window.Window.Window, specs.Image.ImageOf, specs.Limits.{window_of, is_new, is_slot}}
use Rattle.fm_image.{specs.Limits.{is_slot_address, all_after, is_image}, proofs.LimitLaws.{limits_of, sized}, proofs.NameLaws.slots_differ}
use Rattle.fm_loader.{specs.Values.HaveOwnNames, specs.Loaded.HaveRoom}

-- the slots of an image have different names
pub own_names : (image : ImageOf) → IsTrue (is_image image) → HaveOwnNames image.slots
own_names image h = slots_differ (window_of image) image.slots (limits_of image h).slots

-- ---- room

room_after : (window : Window) (earlier slots : List Slot) → all_after (is_slot window) earlier slots ≡ true → HaveRoom window.base slots
unfolding all_after
room_after window earlier [] h = refl
room_after window earlier (slot ∷ slots) h =
    let p = and_parts (is_slot window earlier slot) (all_after (is_slot window) (earlier ++ slot ∷ []) slots) h in
    let q = and_parts ((is_name slot.name && is_new (map (λ other. other.name) earlier) slot.name) && leb slot.shape.length 4096)
    (is_slot_address window slot.shape slot.address) p.0 in
    let r = and_parts (leb (window.base + item_count slot.shape) (slot.address + 1)) (ltb slot.address (window.base + window.size)) q.1 in
    and_from _ _ r.0 (room_after window (earlier ++ slot ∷ []) slots p.1)

-- the items of each slot are in the window
pub has_room : (image : ImageOf) → IsTrue (is_image image) → HaveRoom image.base image.slots
has_room image h = room_after (window_of image) [] image.slots (limits_of image h).slots

-- a machine has such a window
pub has_window : (image : ImageOf) → IsTrue (is_image image) → is_refused image.base image.size ≡ false
has_window image h =
    let s = sized image h in
    let below = s.below in
    let few = s.few in
    let some = s.some in
    let a : eqb image.size 0 ≡ false = ne_eqb image.size 0 (λ e. omega (arith, some, e)) in
    let b : ltb 1048576 image.size ≡ false = le-ltb 1048576 image.size few in
    let c : leb 4294967296 (image.base + image.size) ≡ false = lt-leb 4294967296 (image.base + image.size) (omega (arith, below)) in
    rw (a, b, c) refl
