-- What a module of Verilog means: unsigned vectors of bits as numbers, the widths of expressions and their contexts, assignments that have
-- settled, and an edge of the clock. A bit is 0 or 1, never unknown.
-- It is so of modules whose names are declared, whose parts have bits that are there, and where an integer without a width stands beside
-- something that has one: then no value has a sign.
use Rattle.std.specs.Prelude.{◌≡◌, ℕ, ◌+◌, ◌-◌, ◌*◌, ◌/◌, ◌%◌, ◌^◌, ◌<◌, ◌==◌, ◌&&◌, not, max, List, [], ◌∷◌, ◌++◌, All, bytes_eq, find}
use Rattle.std.specs.{Prelude.{option_map, unwrap_or, bit_and, bit_or, bit_xor, if◌then◌else◌}, List.{flat_map}, Int.{from_bool as bit_of}}
use Rattle.verilog_meaning.specs.Syntax.{Expression, Number, Integer, Named, Part, Word, Join, Inverse, Not, Sum, Equal, And, Xor, Or, Both}
use Rattle.verilog_meaning.specs.Syntax.{Choice, Signal, Item, Wire, Register, Memory, Assign, Clocked, Stored, Module}

-- what an item declares
abbrev pub declared : Item → List Signal
declared (Wire s) = s ∷ []
declared (Register s) = s ∷ []
declared (Memory s count) = s ∷ []
declared item = []

-- the width of a name in a module
abbrev pub width_in : Module → List ℕ → ℕ
width_in m name =
    unwrap_or (option_map (λ s. s.width) (find (λ s. bytes_eq s.name name) (m.inputs ++ m.outputs ++ flat_map declared m.items))) 0

-- how many words a memory has
abbrev pub words_in : List Item → List ℕ → ℕ
words_in [] name = 0
words_in (Memory s count ∷ items) name = if bytes_eq s.name name then count else words_in items name
words_in (item ∷ items) name = words_in items name

-- a snapshot of a module: the value of each name, and each word of each memory, of which those that aren't there may be any
pub record Snapshot : Type 0 where
  pub value : List ℕ → ℕ
  pub word : List ℕ → ℕ → ℕ

-- the width of an expression by itself, from those of names
abbrev pub size : (List ℕ → ℕ) → Expression → ℕ
size width (Number own value) = own
size width (Integer value) = 32
size width (Named name) = width name
size width (Part name high low) = high + 1 - low
size width (Word name at) = width name
size width (Join e f) = size width e + size width f
size width (Inverse e) = size width e
size width (Not e) = 1
size width (Sum e f) = max (size width e) (size width f)
size width (Equal e f) = 1
size width (And e f) = max (size width e) (size width f)
size width (Xor e f) = max (size width e) (size width f)
size width (Or e f) = max (size width e) (size width f)
size width (Both e f) = 1
size width (Choice c e f) = max (size width e) (size width f)

-- The value of an expression where its context has so many bits, at least its own. The operands of `{,}`, `!` and `&&`, the number of a
-- word and the condition of a choice have no context; those of `==` are one another's.
abbrev pub value_of : (List ℕ → ℕ) → Snapshot → ℕ → Expression → ℕ
value_of width now n (Number own number) = number % 2 ^ own
value_of width now n (Integer number) = number % 2 ^ 32
value_of width now n (Named name) = now.value name
value_of width now n (Part name high low) = now.value name / 2 ^ low % 2 ^ (high + 1 - low)
value_of width now n (Word name at) = now.word name (value_of width now (size width at) at)
value_of width now n (Join e f) = value_of width now (size width e) e * 2 ^ size width f + value_of width now (size width f) f
value_of width now n (Inverse e) = 2 ^ n - 1 - value_of width now n e
value_of width now n (Not e) = bit_of (value_of width now (size width e) e == 0)
value_of width now n (Sum e f) = (value_of width now n e + value_of width now n f) % 2 ^ n
value_of width now n (Equal e f) =
    bit_of (value_of width now (max (size width e) (size width f)) e == value_of width now (max (size width e) (size width f)) f)
value_of width now n (And e f) = bit_and (value_of width now n e) (value_of width now n f)
value_of width now n (Xor e f) = bit_xor (value_of width now n e) (value_of width now n f)
value_of width now n (Or e f) = bit_or (value_of width now n e) (value_of width now n f)
value_of width now n (Both e f) = bit_of (not (value_of width now (size width e) e == 0) && not (value_of width now (size width f) f == 0))
value_of width now n (Choice c e f) = if value_of width now (size width c) c == 0 then value_of width now n f else value_of width now n e

-- what a name is assigned: the value in the wider of both widths, cut to the name's
abbrev pub assigned : (List ℕ → ℕ) → Snapshot → List ℕ → Expression → ℕ
assigned width now name e = value_of width now (max (width name) (size width e)) e % 2 ^ width name

-- an assignment has settled
abbrev pub HasSettled : (List ℕ → ℕ) → Snapshot → Item → Type 0
HasSettled width now (Assign name e) = now.value name ≡ assigned width now name e
HasSettled width now item = Unit {0}

-- from a snapshot to one after the next rising edge of the clock, an item's register or memory has taken what it is to take
abbrev pub HasTaken : Module → Snapshot → Snapshot → Item → Type 0
HasTaken m now next (Clocked name e) = next.value name ≡ assigned (width_in m) now name e
HasTaken m now next (Stored c name at e) =
    (r : ℕ) → r < words_in m.items name →
    next.word name r
    ≡ (if not (value_of (width_in m) now (size (width_in m) c) c == 0) && (value_of (width_in m) now (size (width_in m) at) at == r)
    then assigned (width_in m) now name e else now.word name r)
HasTaken m now next item = Unit {0}

-- a cycle of a module: all assignments have settled, and at the edge all is taken from what was before it
pub record IsCycle (m : Module) (now next : Snapshot) : Type 0 where
  pub settled : All (HasSettled (width_in m) now) m.items
  pub taken : All (HasTaken m now next) m.items
