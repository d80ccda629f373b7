-- The state of a run of a checked system.
use Rattle.std.specs.Prelude.{ℕ, ◌+◌, ◌-◌, List, [], ◌∷◌, length, Option, Some, None, nat_lt, if◌then◌else◌, slice_get, slice_set}
use Rattle.std.specs.Prelude.{slice_index_or}
use Rattle.piton_words.specs.declared.word.Word.{Word}
use Rattle.piton_check.specs.Instruction.{Instruction, ProgramView, SystemView}

-- A frame: its locals by offset, and the program and place to which it returns. The oldest one's is never used.
pub record Frame : Type 0 where
  pub locals : List Word
  pub program : ℕ
  pub place : ℕ

-- A state: its place in a program, the frames with the newest first, the temporary stack with its top first, and the areas.
-- Where no frame is left the state has halted, and its place is that of its last `ret`.
pub record PitonState : Type 0 where
  pub program : ℕ
  pub place : ℕ
  pub frames : List Frame
  pub stack : List Word
  pub areas : List (List Word)

-- what stands for a program where there is none
abbrev pub no_program : ProgramView
no_program = record { formals = 0; temporaries = []; instructions = [] }

-- the program at a position
abbrev pub program_of : SystemView → ℕ → ProgramView
program_of s program = slice_index_or s.programs program no_program

-- the instruction at a place of a program
abbrev pub instruction_at : SystemView → ℕ → ℕ → Option Instruction
instruction_at s program place = slice_get (program_of s program).instructions place

-- how many locals a program has
abbrev pub variables_of : SystemView → ℕ → ℕ
variables_of s program = (program_of s program).formals + length (program_of s program).temporaries

-- the words that frames take on the control stack: each its locals and two more
abbrev pub ctrl_used : List Frame → ℕ
ctrl_used [] = 0
ctrl_used (f ∷ fs) = ctrl_used fs + (2 + length f.locals)

-- the locals of the newest frame
abbrev pub locals_of : List Frame → List Word
locals_of [] = []
locals_of (f ∷ fs) = f.locals

-- the frames with a local of the newest one set
abbrev pub with_local : List Frame → ℕ → Word → List Frame
with_local [] offset word = []
with_local (f ∷ fs) offset word = record f { locals = slice_set f.locals offset word } ∷ fs

-- the word at an offset of an area
abbrev pub word_at : List (List Word) → ℕ → ℕ → Option Word
word_at areas area offset = slice_get (slice_index_or areas area []) offset

-- the areas with the word at an offset of one of them set
abbrev pub with_word : List (List Word) → ℕ → ℕ → Word → List (List Word)
with_word areas area offset word = slice_set areas area (slice_set (slice_index_or areas area []) offset word)

-- the word at a position of the stack from the bottom
abbrev pub element : List Word → ℕ → Option Word
element stack position = if nat_lt position (length stack) then slice_get stack (length stack - 1 - position) else None

-- the stack with the word at a position from the bottom set
abbrev pub with_element : List Word → ℕ → Word → List Word
with_element stack position word = slice_set stack (length stack - 1 - position) word

-- the frames without the newest, and where that one returns to
abbrev pub older : List Frame → List Frame
older [] = []
older (f ∷ fs) = fs

abbrev pub return_of : List Frame → Option (ℕ × ℕ)
return_of [] = None
return_of (f ∷ fs) = Some (f.program, f.place)
