-- The phases of an instruction, in the order of their numbers.
use Rattle.std.specs.Prelude.{ℕ}

-- memory is asked for the instruction
abbrev pub fetch : ℕ
fetch = 0

-- the instruction comes
abbrev pub fetched : ℕ
fetched = 1

-- the first operand is taken, or memory is asked for it
abbrev pub read_a : ℕ
read_a = 2

-- its word comes from memory
abbrev pub got_a : ℕ
got_a = 3

-- the second operand is taken, or memory is asked for it
abbrev pub read_b : ℕ
read_b = 4

-- its word comes from memory
abbrev pub got_b : ℕ
got_b = 5

-- the operation
abbrev pub execute : ℕ
execute = 6

-- memory tells whether the result was stored
abbrev pub stored : ℕ
stored = 7

-- an address was outside the window
abbrev pub fault : ℕ
fault = 8
