-- Limits that several crates share.
use Rattle.std.specs.Prelude.{ℕ, ◌^◌}

-- the words of a stack, and those of a procedure's variables
abbrev pub most_stack : ℕ
most_stack = 65536

-- the items of an array
abbrev pub most_array : ℕ
most_array = 4096

-- the bytes of a source, and of the other texts that a command reads beside Piton's
abbrev pub most_text : ℕ
most_text = 1048576

-- the bytes of an image file, and of an assembly text
abbrev pub most_image_file : ℕ
most_image_file = 33554432

-- the steps and the instructions that a command asks for
abbrev pub most_steps : ℕ
most_steps = 2 ^ 40

-- the lists that nest in a text
abbrev pub most_nesting : ℕ
most_nesting = 200

-- the bytes of a name
abbrev pub most_name_bytes : ℕ
most_name_bytes = 64

-- the bytes of a line
abbrev pub most_line_bytes : ℕ
most_line_bytes = 256

-- the variables that a procedure declares, and the conditions
abbrev pub most_declared : ℕ
most_declared = 200

-- the procedures of a source
abbrev pub most_procedures : ℕ
most_procedures = 1000

-- the tasks that take turns
abbrev pub most_tasks : ℕ
most_tasks = 8
