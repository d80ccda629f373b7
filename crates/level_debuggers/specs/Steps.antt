-- Steps of a run of some kind.
use Rattle.std.specs.Prelude.{◌≡◌, Bool, true, false}
use Rattle.level_debuggers.specs.{declared.watch.Event.{Event}, declared.advance.Stop.{Stop}, declared.advance.Advance.{Advance}}
use Rattle.level_debuggers.specs.declared.advance.Advance.TheVariants as advance

-- how a run goes on: it is over, its next step is refused, or that step is an event and leads to another state
pub data Next (R : Type 0) : Type 0 where
  Over : Next R
  Stops : (stop : Stop) → Next R
  Makes : (event : Event) (after : R) → Next R

-- what was done from an old state to a new one is what is next
abbrev pub IsAdvance : {R : Type 0} → (R → Next R) → R → R → Advance → Type 0
IsAdvance next old new advance.Over = (next old ≡ Over) × (new ≡ old)
IsAdvance next old new (advance.Stops stop) = (next old ≡ Stops stop) × (new ≡ old)
IsAdvance next old new (advance.Makes event) = next old ≡ Makes event new

abbrev pub is_over : {R : Type 0} → Next R → Bool
is_over Over = true
is_over next = false
