-- What clauses see of a predefined procedure's cost.
use Rattle.std.specs.Prelude.{ℕ}
use Rattle.gypsy_syntax.specs.{declared.predef.Cost.{Cost}, declared.predef.Cost.TheVariants.{Always, ByOutcome}, Effects.{Effect, Normal}}
use Rattle.gypsy_syntax.specs.Effects.{Fault, Beyond}

-- the instructions of a call with this effect
abbrev pub count_by : Cost → Effect → ℕ
count_by (Always count) e = count
count_by (ByOutcome normal fault beyond) (Normal v) = normal
count_by (ByOutcome normal fault beyond) Fault = fault
count_by (ByOutcome normal fault beyond) Beyond = beyond
