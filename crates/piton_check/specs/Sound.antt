-- What is known of a checked system: all that it names exists, and its numbers are within their limits.
use Rattle.std.specs.Prelude.{◌≡◌, ℕ, ◌+◌, ◌-◌, ◌<◌, ◌≤◌, ◌^◌, [], length, map, get_or, slice_get, Some, All, Contains, IsTrue}
use Rattle.std.specs.List.{sum_by}
use Rattle.piton_syntax.specs.{Limits.{most_instructions, most_areas, most_programs, most_program_variables}, Operations.{tests_of}}
use Rattle.stack_text.specs.SharedLimits.{most_stack}
use Rattle.fm_words.specs.Word.{is_int}
use Rattle.piton_words.specs.declared.word.Word.{Word}
use Rattle.piton_words.specs.declared.word.Word.TheVariants as word
use Rattle.piton_check.specs.Instruction.{Instruction, PushConstant, PushLocal, PopLocal, SetLocal, PushGlobal, PopGlobal, SetGlobal}
use Rattle.piton_check.specs.Instruction.{PushTempStkIndex, PopStar, NoOp, Jump, JumpIfTempStkFull, JumpIfTempStkEmpty, JumpCase, Pushj}
use Rattle.piton_check.specs.Instruction.{Popj, TestAndJump, Call, Ret, ProgramView, SystemView}

-- how many words an area has, how many instructions a program, and how many words a program's variables take
abbrev pub area_length : SystemView → ℕ → ℕ
area_length s area = length (get_or s.areas area [])

abbrev pub program_length : SystemView → ℕ → ℕ
program_length s program = length (get_or (map (λ p. p.instructions) s.programs) program [])

abbrev pub local_count : ProgramView → ℕ
local_count p = p.formals + length p.temporaries

-- a word's number is in the range of its tag, and what it names exists
abbrev pub Exists : SystemView → Word → Type 0
Exists s (word.Int i) = IsTrue (is_int i)
Exists s (word.Nat n) = n < 2 ^ 32
Exists s (word.Bitv n) = n < 2 ^ 32
Exists s (word.Bool b) = Unit {0}
Exists s (word.Addr area offset) = (area < length s.areas) × (offset < area_length s area)
Exists s (word.Pc program place) = (program < length s.programs) × (place < program_length s program)
Exists s (word.Subr program) = program < length s.programs

abbrev pub IsPlace : ProgramView → ℕ → Type 0
IsPlace p place = place < length p.instructions

abbrev pub IsLocal : ProgramView → ℕ → Type 0
IsLocal p offset = offset < local_count p

abbrev pub IsArea : SystemView → ℕ → Type 0
IsArea s area = area < length s.areas

abbrev pub IsProgram : SystemView → ℕ → Type 0
IsProgram s program = program < length s.programs

abbrev pub IsCount : ℕ → Type 0
IsCount n = n ≤ most_stack

-- what an instruction names exists
abbrev pub IsPlaced : SystemView → ProgramView → Instruction → Type 0
IsPlaced s p (PushConstant w) = Exists s w
IsPlaced s p (PushLocal offset) = IsLocal p offset
IsPlaced s p (PopLocal offset) = IsLocal p offset
IsPlaced s p (SetLocal offset) = IsLocal p offset
IsPlaced s p (PushGlobal area) = IsArea s area
IsPlaced s p (PopGlobal area) = IsArea s area
IsPlaced s p (SetGlobal area) = IsArea s area
IsPlaced s p (PushTempStkIndex n) = IsCount n
IsPlaced s p (PopStar n) = IsCount n
IsPlaced s p (Jump place) = IsPlace p place
IsPlaced s p (JumpIfTempStkFull place) = IsPlace p place
IsPlaced s p (JumpIfTempStkEmpty place) = IsPlace p place
IsPlaced s p (JumpCase places) = (0 < length places) × All (IsPlace p) places
IsPlaced s p (Pushj place) = IsPlace p place
IsPlaced s p (TestAndJump family kind place) = Contains (tests_of family) kind × IsPlace p place
IsPlaced s p (Call program) = IsProgram s program
IsPlaced s p i = Unit {0}

-- the instruction after it is not reached from it
abbrev pub IsEnd : Instruction → Type 0
IsEnd Ret = Unit {0}
IsEnd (Jump place) = Unit {0}
IsEnd (JumpCase places) = Unit {0}
IsEnd Popj = Unit {0}
IsEnd i = ⊥

-- how many targets the jumps by cases have, and how many words the areas
abbrev pub target_count : Instruction → ℕ
target_count (JumpCase places) = length places
target_count i = 0

abbrev pub program_targets : ProgramView → ℕ
program_targets p = sum_by target_count p.instructions

abbrev pub all_targets : SystemView → ℕ
all_targets s = sum_by program_targets s.programs

abbrev pub all_words : SystemView → ℕ
all_words s = sum_by length s.areas

pub record IsSoundProgram (s : SystemView) (p : ProgramView) : Type 0 where
  pub temporaries : All (Exists s) p.temporaries
  pub instructions : All (IsPlaced s p) p.instructions
  pub some_instructions : 0 < length p.instructions
  pub last : IsEnd (get_or p.instructions (length p.instructions - 1) NoOp)
  pub few_instructions : length p.instructions ≤ most_instructions
  pub few_locals : local_count p ≤ most_program_variables

-- the program that is run takes nothing, and the control stack has room for its frame
pub record IsMain (s : SystemView) (p : ProgramView) : Type 0 where
  pub is_named : slice_get s.programs s.main ≡ Some p
  pub no_formals : p.formals ≡ 0
  pub has_room : 2 + length p.temporaries ≤ s.ctrl

pub record IsSound (s : SystemView) : Type 0 where
  pub main : (p : ProgramView) × IsMain s p
  pub few_ctrl : s.ctrl ≤ most_stack
  pub some_temp : 0 < s.temp
  pub few_temp : s.temp ≤ most_stack
  pub stack_fits : length s.stack ≤ s.temp
  pub low_base : s.base ≤ 2 ^ 31
  pub areas : All (All (Exists s)) s.areas
  pub some_words : All (λ words. 0 < length words) s.areas
  pub stack : All (Exists s) s.stack
  pub programs : All (IsSoundProgram s) s.programs
  pub few_areas : length s.areas ≤ most_areas
  pub few_programs : length s.programs ≤ most_programs
  pub few_words : all_words s + all_targets s ≤ 2 ^ 31
