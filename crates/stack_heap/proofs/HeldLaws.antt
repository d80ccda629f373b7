-- Vectors of any items.
use Rattle.std.proofs.Common.{length, refl, Vec, Global}
use Rattle.stack_heap.specs.Held.{EachListIsHeld}

pub each_list_is_held : (T : Type 0) → EachListIsHeld T
each_list_is_held T some items room fits below =
    let made : Vec T Global =
    record { ptr = some.ptr; len = length items; cap = room; alloc = some.alloc; items = items; ok = (refl, fits); small = below } in
    (made, refl, refl, refl)
