-- Elements of the stack that are read one after the other.
use Rattle.std.proofs.Common.{◌≡◌, ◌<◌, ◌+◌, ◌-◌, ℕ, suc, List, ◌∷◌, map, ap, arith}
use Rattle.stack_text.specs.declared.shape.Kind.{Kind}
use Rattle.display_maps.specs.Reading.{item_of}
use Rattle.level_debuggers.specs.PitonReadings.{element_at, elements_down}

-- one of them, and those below it
pub elements_next : (kind : Kind) (above : ℕ) (elements : List ℕ) (address n count : ℕ) → count < n
    → map (item_of kind) (elements_down above elements address (n - count))
    ≡ item_of kind (element_at above elements address) ∷ map (item_of kind) (elements_down above elements (address - 1) (n - (count + 1)))
elements_next kind above elements address n count lt =
    let e : n - count ≡ suc (n - (count + 1)) = omega arith in
    ap (λ m. map (item_of kind) (elements_down above elements address m)) e
