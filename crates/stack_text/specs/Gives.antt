-- What a call returns, by a definition, where it may also run out of memory.
use Rattle.std.specs.Prelude.{◌≡◌, Option, Some, None, Result, Ok, Err}
use Rattle.stack_text.specs.declared.memory.Memory.{Memory}

-- The call returned the definition's value, seen through the view. Out of memory is its only error, and comes only
-- where memory was refused.
abbrev pub ReturnsUnless : {X Y : Type 0} → Type 0 → (X → Y) → Result X Memory → Y → Type 0
ReturnsUnless refused view (Ok x) value = value ≡ view x
ReturnsUnless refused view (Err _) value = refused

-- The definition has this fault. Where the error is none of the definition's, it is out of memory.
abbrev pub FailsUnless : {Y F : Type 0} → Type 0 → Option F → Result Y F → Type 0
FailsUnless refused (Some fault) value = value ≡ Err fault
FailsUnless refused None value = refused

-- The call returned exactly what the definition gives: its value seen through the view, or its fault. Which fault of
-- the definition an error is, `fault_of` says; it is `None` for out of memory, which comes only where memory was refused.
abbrev pub GivesUnless : {X Y E F : Type 0} → Type 0 → (E → Option F) → (X → Y) → Result X E → Result Y F → Type 0
GivesUnless refused fault_of view (Ok x) value = value ≡ Ok (view x)
GivesUnless refused fault_of view (Err error) value = FailsUnless refused (fault_of error) value

-- The same three of callers that pass the library's heap, of which nothing says when it refuses: out of memory is free.
abbrev pub Returns : {X Y : Type 0} → (X → Y) → Result X Memory → Y → Type 0
Returns view result value = ReturnsUnless (Unit {0}) view result value

abbrev pub Fails : {Y F : Type 0} → Option F → Result Y F → Type 0
Fails fault value = FailsUnless (Unit {0}) fault value

abbrev pub Gives : {X Y E F : Type 0} → (E → Option F) → (X → Y) → Result X E → Result Y F → Type 0
Gives fault_of view result value = GivesUnless (Unit {0}) fault_of view result value
