-- How many parts a system and a program may have.
use Rattle.std.specs.Prelude.{ℕ, ◌+◌, Bool, ◌&&◌, nat_le}
use Rattle.stack_text.specs.{Grammar.Parts.{count_of, list_length}, Trees.{Node, Nodes}}

-- the areas of a system
abbrev pub most_areas : ℕ
most_areas = 1000

-- the programs of a system
abbrev pub most_programs : ℕ
most_programs = 1100

-- the formals and the temporaries of a program
abbrev pub most_program_variables : ℕ
most_program_variables = 400

-- the instructions of a program
abbrev pub most_instructions : ℕ
most_instructions = 1048576

-- the areas and the programs
abbrev pub is_small_system : Nodes → Nodes → Bool
is_small_system areas programs = nat_le (count_of areas) most_areas && nat_le (count_of programs) most_programs

-- the formals, the temporaries and the instructions
abbrev pub is_small_program : Node → Node → Nodes → Bool
is_small_program formals temporaries instrs =
    nat_le (list_length formals + list_length temporaries) most_program_variables && nat_le (count_of instrs) most_instructions
