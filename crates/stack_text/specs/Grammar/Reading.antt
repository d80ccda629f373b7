-- What a reader of one part returns: the part, or the first of its faults in reading order.
use Rattle.std.specs.Prelude.{◌≡◌, List, Result, Ok, Err}
use Rattle.stack_text.specs.{declared.breach.Breach.{Breach}, declared.grammar.fault.FormFault.{FormFault}}
use Rattle.stack_text.specs.{declared.grammar.fault.FormFault.TheVariants.{Form, Memory}, Grammar.Judged.{Judged}}

-- the part has faults, and this is the first; out of memory comes only where memory was refused
abbrev pub IsFirstFault : {X : Type 0} → Type 0 → FormFault → Judged X → Type 0
IsFirstFault refused (Form rule place) part = (others : List Breach) × (part ≡ Err (record { place = place; rule = rule }, others))
IsFirstFault refused Memory part = refused

-- the value is that of the part, seen through the view
abbrev pub ReadsUnless : {X Y : Type 0} → Type 0 → (X → Y) → Result X FormFault → Judged Y → Type 0
ReadsUnless refused view (Ok x) part = part ≡ Ok (view x)
ReadsUnless refused view (Err fault) part = IsFirstFault refused fault part

-- the same of callers that pass the library's heap, of which nothing says when it refuses: out of memory is free
abbrev pub Reads : {X Y : Type 0} → (X → Y) → Result X FormFault → Judged Y → Type 0
Reads view result part = ReadsUnless (Unit {0}) view result part

-- the same of a reader that takes no memory
abbrev pub Finds : {X Y : Type 0} → (X → Y) → Result X Breach → Judged Y → Type 0
Finds view (Ok x) part = part ≡ Ok (view x)
Finds view (Err breach) part = (others : List Breach) × (part ≡ Err (breach, others))
