-- How many atoms and lists the text of a system has at most, by plain counts: a word is four at most.
use Rattle.std.specs.{Prelude.{ℕ, ◌+◌, ◌*◌, length}, List.{sum_by}}
use Rattle.piton_syntax.specs.Systems.{InstrOf, ProgramOf, AreaOf, SystemOf}

-- with a label
abbrev pub instruction_size : InstrOf → ℕ
instruction_size i = 6 + 4 * length i.args

abbrev pub program_size : ProgramOf → ℕ
program_size p = 4 + length p.formals + 6 * length p.temporaries + sum_by instruction_size p.instrs

abbrev pub area_size : AreaOf → ℕ
area_size a = 2 + 4 * length a.words

abbrev pub text_size : SystemOf → ℕ
text_size s = 8 + sum_by area_size s.areas + 4 * length s.stack + sum_by program_size s.programs
