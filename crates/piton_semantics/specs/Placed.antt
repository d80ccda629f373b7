-- How many words each part of a placed system takes, and where it begins: at base and the sizes of all that stands before.
use Rattle.std.specs.Prelude.{ℕ, ◌+◌, ◌-◌, ◌*◌, List, [], ◌∷◌, ◌++◌, length, take, reverse, replicate, map}
use Rattle.fm_machine.specs.State.{Fm}
use Rattle.fm_code.specs.{Areas.{joined}, Execution.{Parts}, InstructionWords.{halt_word}}
use Rattle.fm_words.specs.Code.{no_flags}
use Rattle.piton_words.specs.declared.word.Word.{Word}
use Rattle.piton_check.specs.Instruction as i
use Rattle.piton_check.specs.Instruction.{Instruction, ProgramView, SystemView}
use Rattle.piton_semantics.specs.{State.{program_of}, Step.{operation_cost}, Addresses.{Addresses, parts_with, numbers}}
use Rattle.piton_semantics.specs.Templates.{programs_words}

abbrev pub instruction_size : Instruction → ℕ
instruction_size (i.PushConstant word) = 2
instruction_size (i.PushLocal offset) = 4
instruction_size (i.PopLocal offset) = 4
instruction_size (i.SetLocal offset) = 4
instruction_size (i.PushGlobal area) = 3
instruction_size (i.PopGlobal area) = 3
instruction_size (i.SetGlobal area) = 3
instruction_size (i.PushTempStkIndex n) = 4
instruction_size i.PushTempStkFreeSize = 4
instruction_size i.PushCtrlStkFreeSize = 4
instruction_size i.FetchTempStk = 4
instruction_size i.DepositTempStk = 4
instruction_size i.Fetch = 2
instruction_size i.Deposit = 2
instruction_size i.Pop = 1
instruction_size (i.PopStar n) = 2
instruction_size i.Popn = 2
instruction_size i.NoOp = 1
instruction_size (i.Jump place) = 2
instruction_size (i.JumpIfTempStkFull place) = 5
instruction_size (i.JumpIfTempStkEmpty place) = 5
instruction_size (i.JumpCase places) = 4 + length places
instruction_size (i.Pushj place) = 4
instruction_size i.Popj = 1
instruction_size (i.TestAndJump family kind place) = 3
instruction_size (i.Call program) = 4
instruction_size i.PopCall = 4
instruction_size i.Ret = 5
-- each word of an operation on words is an instruction that is executed once
instruction_size (i.Apply op) = operation_cost op

abbrev pub instructions_size : List Instruction → ℕ
instructions_size [] = 0
instructions_size (instruction ∷ rest) = instruction_size instruction + instructions_size rest

-- the frame pointer's word, two for each temporary, one for each formal, and the new frame pointer
abbrev pub prelude_size : ProgramView → ℕ
prelude_size p = 1 + 2 * length p.temporaries + p.formals + 1

abbrev pub program_size : ProgramView → ℕ
program_size p = prelude_size p + instructions_size p.instructions

abbrev pub programs_size : List ProgramView → ℕ
programs_size [] = 0
programs_size (p ∷ ps) = program_size p + programs_size ps

abbrev pub areas_size : List (List Word) → ℕ
areas_size [] = 0
areas_size (area ∷ areas) = length area + areas_size areas

-- the code of the programs in order, the word at the final program counter, the areas, the control stack, the temporary stack

abbrev pub entry_of : SystemView → ℕ → ℕ
entry_of s program = s.base + programs_size (take program s.programs)

abbrev pub address_of_place : SystemView → ℕ → ℕ → ℕ
address_of_place s program place =
    entry_of s program + prelude_size (program_of s program) + instructions_size (take place (program_of s program).instructions)

abbrev pub final_pc_of : SystemView → ℕ
final_pc_of s = s.base + programs_size s.programs

abbrev pub areas_start : SystemView → ℕ
areas_start s = final_pc_of s + 1

abbrev pub address_of_area : SystemView → ℕ → ℕ
address_of_area s area = areas_start s + areas_size (take area s.areas)

abbrev pub ctrl_start : SystemView → ℕ
ctrl_start s = areas_start s + areas_size s.areas

abbrev pub temp_start : SystemView → ℕ
temp_start s = ctrl_start s + s.ctrl

abbrev pub end_of : SystemView → ℕ
end_of s = temp_start s + s.temp

abbrev pub addresses_of : SystemView → Addresses
addresses_of s = record {
  base = s.base;
  place_at = address_of_place s;
  entry_at = entry_of s;
  area_at = address_of_area s;
  final_pc = final_pc_of s;
  areas_at = areas_start s;
  ctrl_at = ctrl_start s;
  temp_at = temp_start s;
  end = end_of s;
}

abbrev pub code_of : SystemView → List ℕ
code_of s = programs_words (addresses_of s) 0 s.programs

abbrev pub parts_of : SystemView → Parts
parts_of s = parts_with (addresses_of s) (code_of s)

-- What stands on the control stack at the start: main's temporaries, and below them no older frame and the final program
-- counter. Its first address, and that of the temporary stack's top.
abbrev pub first_frame : SystemView → List ℕ
first_frame s = numbers (addresses_of s) (program_of s s.main).temporaries ++ 0 ∷ final_pc_of s ∷ []

abbrev pub first_frame_at : SystemView → ℕ
first_frame_at s = temp_start s - 2 - length (program_of s s.main).temporaries

abbrev pub first_top : SystemView → ℕ
first_top s = end_of s - length s.stack

-- the words of a system with this initial stack, from the bottom up; what is not in use is 0
abbrev pub words_with : SystemView → List Word → List ℕ
words_with s stack =
    code_of s ++ (halt_word ∷ (joined (map (numbers (addresses_of s)) s.areas)
    ++ (replicate (first_frame_at s - ctrl_start s) 0
    ++ (first_frame s
    ++ (replicate (first_top s - temp_start s) 0
    ++ numbers (addresses_of s) (reverse stack))))))

abbrev pub placed_registers : SystemView → List ℕ
placed_registers s =
    first_frame_at s ∷ first_frame_at s ∷ first_top s ∷ (replicate 12 0 ++ address_of_place s s.main 0 ∷ [])

-- a placed system: its size, its final program counter, its sixteen registers and its words
pub record Placed : Type 0 where
  pub size : ℕ
  pub final_pc : ℕ
  pub registers : List ℕ
  pub words : List ℕ

abbrev pub placed : SystemView → Placed
placed s = record {
  size = end_of s - s.base;
  final_pc = final_pc_of s;
  registers = placed_registers s;
  words = words_with s s.stack;
}

-- the machine with a placed system, and with these words on its temporary stack
abbrev pub loaded : SystemView → List Word → Fm
loaded s stack = record { base = s.base; registers = placed_registers s; flags = no_flags; memory = words_with s stack }
