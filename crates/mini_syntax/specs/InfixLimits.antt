-- Limits of the infix language.
use Rattle.std.specs.Prelude.{ℕ}

-- the bytes of a variable's name
abbrev pub most_infix_name_bytes : ℕ
most_infix_name_bytes = 60

-- the declared variables
abbrev pub most_infix_variables : ℕ
most_infix_variables = 100
