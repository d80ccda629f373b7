-- What a checked system keeps, and what each state of its runs keeps.
use Rattle.std.specs.Prelude.{◌≡◌, ℕ, ◌+◌, ◌^◌, ◌<◌, ◌≤◌, List, [], ◌∷◌, length, map, get_or, slice_index_or, Some, All, IsTrue}
use Rattle.piton_syntax.specs.Limits.{most_instructions, most_program_variables}
use Rattle.stack_text.specs.SharedLimits.{most_stack}
use Rattle.piton_words.specs.{declared.word.Word.{Word}, declared.word.Word.TheVariants.{Int, Nat, Bitv, Bool as Truth, Addr, Pc, Subr}}
use Rattle.fm_words.specs.Word.{is_int}
use Rattle.piton_check.specs.Instruction as i
use Rattle.piton_check.specs.{PitonChecking.{CheckedOf}, Instruction.{Instruction, SystemView, system_view}, Sound.{Exists}}
use Rattle.piton_semantics.specs.State.{Frame, PitonState, program_of, instruction_at, variables_of, ctrl_used}
pub use Rattle.stack_text.specs.Lists.{Each}

-- the system of a checked one, its names resolved
abbrev pub system_in : CheckedOf → SystemView
system_in c = system_view c.resolved

abbrev pub IsPlace : SystemView → ℕ → ℕ → Type 0
IsPlace s program place = place < length (program_of s program).instructions

-- an initial stack, from the bottom up, with which a run of a system may begin: as long as the system's, of words that exist
pub record IsInitialStack (s : SystemView) (stack : List Word) : Type 0 where
  pub as_long : length stack ≡ length s.stack
  pub words : All (Exists s) stack

-- a word's number is in the range of its type, and what the word names exists
abbrev pub IsWordOf : SystemView → Word → Type 0
IsWordOf s (Int number) = IsTrue (is_int number)
IsWordOf s (Nat number) = number < 2 ^ 32
IsWordOf s (Bitv bits) = bits < 2 ^ 32
IsWordOf s (Truth truth) = Unit {0}
IsWordOf s (Addr area offset) = offset < get_or (map length s.areas) area 0
IsWordOf s (Pc program place) = IsPlace s program place
IsWordOf s (Subr program) = program < length s.programs

-- what an instruction names exists, and there is a next place where it may go on to one
abbrev pub IsInstructionOf : SystemView → ℕ → ℕ → Instruction → Type 0
IsInstructionOf s program place (i.PushConstant word) = IsWordOf s word × IsPlace s program (place + 1)
IsInstructionOf s program place (i.PushLocal offset) = (offset < variables_of s program) × IsPlace s program (place + 1)
IsInstructionOf s program place (i.PopLocal offset) = (offset < variables_of s program) × IsPlace s program (place + 1)
IsInstructionOf s program place (i.SetLocal offset) = (offset < variables_of s program) × IsPlace s program (place + 1)
IsInstructionOf s program place (i.PushGlobal area) = (0 < get_or (map length s.areas) area 0) × IsPlace s program (place + 1)
IsInstructionOf s program place (i.PopGlobal area) = (0 < get_or (map length s.areas) area 0) × IsPlace s program (place + 1)
IsInstructionOf s program place (i.SetGlobal area) = (0 < get_or (map length s.areas) area 0) × IsPlace s program (place + 1)
IsInstructionOf s program place (i.Jump target) = IsPlace s program target
IsInstructionOf s program place (i.JumpIfTempStkFull target) = IsPlace s program target × IsPlace s program (place + 1)
IsInstructionOf s program place (i.JumpIfTempStkEmpty target) = IsPlace s program target × IsPlace s program (place + 1)
IsInstructionOf s program place (i.JumpCase targets) = (0 < length targets) × Each (IsPlace s program) targets
IsInstructionOf s program place (i.Pushj target) = IsPlace s program target × IsPlace s program (place + 1)
IsInstructionOf s program place i.Popj = Unit {0}
IsInstructionOf s program place (i.TestAndJump family kind target) = IsPlace s program target × IsPlace s program (place + 1)
IsInstructionOf s program place (i.Call callee) = (callee < length s.programs) × IsPlace s program (place + 1)
IsInstructionOf s program place i.Ret = Unit {0}
IsInstructionOf s program place instruction = IsPlace s program (place + 1)

-- What the steps of a sound system need, by program and place.
pub record IsWellFormed (s : SystemView) : Type 0 where
  pub main : s.main < length s.programs
  pub main_formals : (program_of s s.main).formals ≡ 0
  pub main_fits : 2 + length (program_of s s.main).temporaries ≤ s.ctrl
  pub ctrl : s.ctrl ≤ most_stack
  pub temp : s.temp ≤ most_stack
  pub stack_fits : length s.stack ≤ s.temp
  pub stack : Each (IsWordOf s) s.stack
  pub areas : Each (Each (IsWordOf s)) s.areas
  pub temporaries : (program : ℕ) → Each (IsWordOf s) (program_of s program).temporaries
  -- sizes that 32 bits can count
  pub variables : (program : ℕ) → variables_of s program ≤ most_program_variables
  pub lengths : (program : ℕ) → length (program_of s program).instructions ≤ most_instructions
  pub sizes : (area : ℕ) → length (slice_index_or s.areas area []) < 2 ^ 32
  pub begins : (program : ℕ) → program < length s.programs → IsPlace s program 0
  pub instructions : (program place : ℕ) (instruction : Instruction) →
      instruction_at s program place ≡ Some instruction → IsInstructionOf s program place instruction

-- Each frame has as many locals as the program of its place has formals and temporaries: the newest one that of the state's
-- place, each older one that of the return place of the next newer.
abbrev pub AreFrames : SystemView → ℕ → List Frame → Type 0
AreFrames s program [] = Unit {0}
AreFrames s program (f ∷ fs) =
    (length f.locals ≡ variables_of s program) × Each (IsWordOf s) f.locals × IsPlace s f.program f.place × AreFrames s f.program fs

-- What each state of a run keeps.
pub record IsState (s : SystemView) (p : PitonState) : Type 0 where
  pub place : IsPlace s p.program p.place
  pub frames : AreFrames s p.program p.frames
  pub frames_fit : ctrl_used p.frames ≤ s.ctrl
  pub stack : Each (IsWordOf s) p.stack
  pub stack_fits : length p.stack ≤ s.temp
  pub areas : Each (Each (IsWordOf s)) p.areas
  pub lengths : map length p.areas ≡ map length s.areas
