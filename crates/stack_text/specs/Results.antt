-- Results, one after the other.
use Rattle.std.specs.Prelude.{Option, Some, None, Result, Ok, Err}

-- the value goes on to the next step, and the first error is the result
infixl 10 ◌>>=◌
abbrev pub ◌>>=◌ : {A B F : Type 0} → Result A F → (A → Result B F) → Result B F
(Ok x) >>= go = go x
(Err fault) >>= go = Err fault

-- the value, or the fault where there is one
abbrev pub unless_fault : {A F : Type 0} → Option F → A → Result A F
unless_fault None x = Ok x
unless_fault (Some fault) x = Err fault
