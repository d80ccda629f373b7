-- The code of each instruction: its pieces, which name what has an address, and its words, once all addresses are known.
use Rattle.std.specs.{Prelude.{ℕ, ◌+◌, List, [], ◌∷◌, ◌++◌, map, replicate, Option, Some, None}, Int.{from_bool as bit_of}}
use Rattle.piton_words.specs.{declared.word.Word.{Word}, declared.word.Word.TheVariants.{Int, Nat, Bitv, Bool as Truth, Addr, Pc, Subr}}
use Rattle.piton_words.specs.declared.op.WordOp.{WordOp}
use Rattle.piton_words.specs.declared.op.WordOp.TheVariants as op
use Rattle.piton_syntax.specs.declared.test_kind.TestKind.{TestKind}
use Rattle.piton_syntax.specs.declared.test_kind.TestKind.TheVariants as test
use Rattle.fm_words.specs.declared.operation.Op.TheVariants as fm
use Rattle.fm_words.specs.{declared.condition.Cc.{Cc}, Word.{word_of_int}}
use Rattle.fm_words.specs.declared.condition.Cc.TheVariants as cc
use Rattle.fm_machine.specs.Masks.{all_flags}
use Rattle.fm_code.specs.InstructionWords.{reg, at, push, pop, literal, literal_at, mov, add, sub, always, setting, when, flag_z}
use Rattle.fm_code.specs.Templates as code
use Rattle.piton_check.specs.{declared.piece.Piece.{Piece}, declared.piece.Piece.TheVariants.{Code, Number, Place, Entry, Area, TempEnd}}
use Rattle.piton_check.specs.{declared.piece.Piece.TheVariants.{TempStart, CtrlStart, Table}, Instruction.{Instruction, ProgramView}}
use Rattle.piton_check.specs.{Instruction.{SystemView}, Sound.{local_count}}
use Rattle.piton_check.specs.Instruction as i
use Rattle.piton_semantics.specs.{State.{program_of, instruction_at}, Addresses.{Addresses}}

-- the code of an operation on words
abbrev pub operation_code : WordOp → List ℕ
operation_code op.Eq = code.eq_code
operation_code op.AddInt = code.two_code fm.Add
operation_code op.AddNat = code.two_code fm.Add
operation_code op.SubInt = code.two_code fm.Sub
operation_code op.SubNat = code.two_code fm.Sub
operation_code op.AddAddr = code.two_code fm.Add
operation_code op.SubAddr = code.two_code fm.Sub
operation_code op.LtInt = code.lt_code cc.Lt
operation_code op.LtNat = code.lt_code cc.Cs
operation_code op.LtAddr = code.lt_code cc.Cs
operation_code op.Add1Int = code.one_code fm.Inc
operation_code op.Add1Nat = code.one_code fm.Inc
operation_code op.Sub1Int = code.one_code fm.Dec
operation_code op.Sub1Nat = code.one_code fm.Dec
operation_code op.NegInt = code.one_code fm.Neg
operation_code op.IntToNat = code.no_op_code
operation_code op.Mult2Nat = code.one_code fm.Add
operation_code op.AddIntWithCarry = code.carry_code fm.Addc cc.Vs
operation_code op.AddNatWithCarry = code.carry_code fm.Addc cc.Cs
operation_code op.SubIntWithCarry = code.carry_code fm.Subb cc.Vs
operation_code op.SubNatWithCarry = code.carry_code fm.Subb cc.Cs
operation_code op.Mult2NatWithCarryOut = code.mult2_carry_code
operation_code op.Div2Nat = code.div2_code
operation_code op.OrBitv = code.two_code fm.Or
operation_code op.AndBitv = code.two_code fm.And
operation_code op.XorBitv = code.two_code fm.Xor
operation_code op.OrBool = code.two_code fm.Or
operation_code op.AndBool = code.two_code fm.And
operation_code op.NotBitv = code.one_code fm.Not
operation_code op.RshBitv = code.one_code fm.Lsr
operation_code op.LshBitv = code.one_code fm.Add
operation_code op.NotBool = code.not_bool_code

-- the condition under which a test jumps
abbrev pub condition_of : TestKind → Cc
condition_of test.Zero = cc.Zs
condition_of test.NotZero = cc.Zc
condition_of test.Neg = cc.Ns
condition_of test.NotNeg = cc.Nc
condition_of test.Pos = cc.Gt
condition_of test.NotPos = cc.Le
condition_of test.T = cc.Zc
condition_of test.F = cc.Zs
condition_of test.AllZero = cc.Zs
condition_of test.NotAllZero = cc.Zc

-- the piece of a word
abbrev pub word_piece : Word → Piece
word_piece (Int number) = Number (word_of_int number)
word_piece (Nat number) = Number number
word_piece (Bitv bits) = Number bits
word_piece (Truth truth) = Number (bit_of truth)
word_piece (Addr area offset) = Area area offset
word_piece (Pc program place) = Place program place
word_piece (Subr program) = Entry program

-- instruction words alone
abbrev pub code_pieces : List ℕ → List Piece
code_pieces words = map (λ w. Code w) words

-- an instruction with its literal
abbrev pub literal_pieces : ℕ → Piece → List Piece
literal_pieces word literal = Code word ∷ literal ∷ []

-- what is done with a local, whose address is then in r3
abbrev pub local_pieces : ℕ → ℕ → List Piece
local_pieces offset word = Code (mov (reg 3) literal) ∷ Number offset ∷ Code (add (reg 3) (reg 0)) ∷ Code word ∷ []

-- what is done with the first word of an area, whose address is then in r3
abbrev pub global_pieces : ℕ → ℕ → List Piece
global_pieces area word = Code (mov (reg 3) literal) ∷ Area area 0 ∷ Code word ∷ []

-- what is done with an address below the temporary stack's end
abbrev pub end_pieces : ℕ → ℕ → ℕ → List Piece
end_pieces minus difference word = Code (mov (reg 3) literal) ∷ TempEnd minus ∷ Code difference ∷ Code word ∷ []

-- how many words are free between a stack's lowest address and its top
abbrev pub free_pieces : ℕ → Piece → List Piece
free_pieces top start =
    Code (mov (reg 3) (reg top)) ∷ Code (sub (reg 3) literal) ∷ start ∷ Code (mov (push 2) (reg 3)) ∷ []

-- a jump where the temporary stack's top is at an address
abbrev pub jump_if_top_pieces : Piece → ℕ → ℕ → List Piece
jump_if_top_pieces top program to =
    Code (mov (reg 3) (reg 2)) ∷ Code (setting flag_z fm.Sub (reg 3) literal) ∷ top ∷
    Code (when cc.Zs fm.Move (reg 15) literal) ∷ Place program to ∷ []

-- a jump by the table that follows
abbrev pub jump_case_pieces : List Piece
jump_case_pieces = Code (mov (reg 3) (pop 2)) ∷ Code (add (reg 3) literal) ∷ Table ∷ Code (mov (reg 15) (at 3)) ∷ []

-- an address pushed, and a jump
abbrev pub call_pieces : ℕ → Piece → Piece → List Piece
call_pieces stack after target =
    Code (mov (push stack) literal) ∷ after ∷ Code (mov (reg 15) literal_at) ∷ target ∷ []

abbrev pub test_pieces : Cc → ℕ → ℕ → List Piece
test_pieces condition program to =
    Code (setting all_flags fm.Move (reg 3) (pop 2)) ∷ Code (when condition fm.Move (reg 15) literal) ∷ Place program to ∷ []

abbrev pub pop_call_pieces : Piece → List Piece
pop_call_pieces after =
    Code (mov (reg 3) (pop 2)) ∷ Code (mov (push 1) literal) ∷ after ∷ Code (mov (reg 15) (reg 3)) ∷ []

abbrev pub ret_pieces : ℕ → List Piece
ret_pieces locals =
    Code (mov (reg 1) (reg 0)) ∷ Code (add (reg 1) literal) ∷ Number locals ∷ Code (mov (reg 0) (pop 1)) ∷
    Code (mov (reg 15) (pop 1)) ∷ []

-- the pieces of an instruction at a place of a program with so many locals
abbrev pub pieces_of : ℕ → ℕ → ℕ → Instruction → List Piece
pieces_of program place locals (i.PushConstant word) = literal_pieces (mov (push 2) literal) (word_piece word)
pieces_of program place locals (i.PushLocal offset) = local_pieces offset (mov (push 2) (at 3))
pieces_of program place locals (i.PopLocal offset) = local_pieces offset (mov (at 3) (pop 2))
pieces_of program place locals (i.SetLocal offset) = local_pieces offset (mov (at 3) (at 2))
pieces_of program place locals (i.PushGlobal area) = global_pieces area (mov (push 2) (at 3))
pieces_of program place locals (i.PopGlobal area) = global_pieces area (mov (at 3) (pop 2))
pieces_of program place locals (i.SetGlobal area) = global_pieces area (mov (at 3) (at 2))
pieces_of program place locals (i.PushTempStkIndex n) = end_pieces (1 + n) (sub (reg 3) (reg 2)) (mov (push 2) (reg 3))
pieces_of program place locals i.PushTempStkFreeSize = free_pieces 2 TempStart
pieces_of program place locals i.PushCtrlStkFreeSize = free_pieces 1 CtrlStart
pieces_of program place locals i.FetchTempStk = end_pieces 1 (sub (reg 3) (at 2)) (mov (at 2) (at 3))
pieces_of program place locals i.DepositTempStk = end_pieces 1 (sub (reg 3) (pop 2)) (mov (at 3) (pop 2))
pieces_of program place locals i.Fetch = Code (mov (reg 3) (at 2)) ∷ Code (mov (at 2) (at 3)) ∷ []
pieces_of program place locals i.Deposit = Code (mov (reg 3) (pop 2)) ∷ Code (mov (at 3) (pop 2)) ∷ []
pieces_of program place locals i.Pop = Code (always fm.Inc (reg 2) (reg 2)) ∷ []
pieces_of program place locals (i.PopStar n) = literal_pieces (add (reg 2) literal) (Number n)
pieces_of program place locals i.Popn = Code (mov (reg 3) (pop 2)) ∷ Code (add (reg 2) (reg 3)) ∷ []
pieces_of program place locals i.NoOp = Code (mov (reg 3) (reg 3)) ∷ []
pieces_of program place locals (i.Jump to) = literal_pieces (mov (reg 15) literal_at) (Place program to)
pieces_of program place locals (i.JumpIfTempStkFull to) = jump_if_top_pieces TempStart program to
pieces_of program place locals (i.JumpIfTempStkEmpty to) = jump_if_top_pieces (TempEnd 0) program to
pieces_of program place locals (i.JumpCase places) = jump_case_pieces ++ map (λ to. Place program to) places
pieces_of program place locals (i.Pushj to) = call_pieces 2 (Place program (place + 1)) (Place program to)
pieces_of program place locals i.Popj = Code (mov (reg 15) (pop 2)) ∷ []
pieces_of program place locals (i.TestAndJump family kind to) = test_pieces (condition_of kind) program to
pieces_of program place locals (i.Call callee) = call_pieces 1 (Place program (place + 1)) (Entry callee)
pieces_of program place locals i.PopCall = pop_call_pieces (Place program (place + 1))
pieces_of program place locals i.Ret = ret_pieces locals
pieces_of program place locals (i.Apply op) = code_pieces (operation_code op)

-- the pieces of what stands at a place of a program
abbrev pub pieces_by : SystemView → ℕ → ℕ → Option Instruction → List Piece
pieces_by s program place None = []
pieces_by s program place (Some instruction) = pieces_of program place (local_count (program_of s program)) instruction

abbrev pub pieces_at : SystemView → ℕ → ℕ → List Piece
pieces_at s program place = pieces_by s program place (instruction_at s program place)

-- a program's prelude: the frame pointer, the temporaries, last first, the formals, and the new frame pointer
abbrev pub temporary_pieces : List Word → List Piece
temporary_pieces [] = []
temporary_pieces (word ∷ rest) = temporary_pieces rest ++ literal_pieces (mov (push 1) literal) (word_piece word)

-- each formal moved from the temporary stack to the control stack
abbrev pub formal_pieces : ℕ → List Piece
formal_pieces formals = replicate formals (Code (mov (push 1) (pop 2)))

abbrev pub entered_pieces : ℕ → List Word → List Piece
entered_pieces formals temporaries =
    Code (mov (push 1) (reg 0)) ∷ (temporary_pieces temporaries
    ++ (formal_pieces formals ++ Code (mov (reg 0) (reg 1)) ∷ []))

abbrev pub prelude_pieces : ProgramView → List Piece
prelude_pieces p = entered_pieces p.formals p.temporaries

-- the word of a piece that stands at an address
abbrev pub word_of : Addresses → ℕ → Piece → ℕ
word_of A a (Code word) = word
word_of A a (Number number) = number
word_of A a (Place program place) = A.place_at program place
word_of A a (Entry program) = A.entry_at program
word_of A a (Area area offset) = A.area_at area + offset
word_of A a (TempEnd minus) = code.below_end A.end minus
word_of A a TempStart = A.temp_at
word_of A a CtrlStart = A.ctrl_at
word_of A a Table = a + 2

-- the words of pieces that stand from an address on
abbrev pub words_of : Addresses → ℕ → List Piece → List ℕ
words_of A a [] = []
words_of A a (piece ∷ pieces) = word_of A a piece ∷ words_of A (a + 1) pieces

-- the words of an instruction at a place of a program with so many locals
abbrev pub template : Addresses → ℕ → ℕ → ℕ → Instruction → List ℕ
template A program place locals instruction =
    words_of A (A.place_at program place) (pieces_of program place locals instruction)

-- the words of instructions of a program from a place on
abbrev pub instructions_words : Addresses → ℕ → ℕ → ℕ → List Instruction → List ℕ
instructions_words A program locals place [] = []
instructions_words A program locals place (instruction ∷ rest) =
    template A program place locals instruction ++ instructions_words A program locals (place + 1) rest

-- the words of a program, its prelude first
abbrev pub prelude_words : Addresses → ℕ → ProgramView → List ℕ
prelude_words A program p = words_of A (A.entry_at program) (prelude_pieces p)

abbrev pub program_words : Addresses → ℕ → ProgramView → List ℕ
program_words A program p = prelude_words A program p ++ instructions_words A program (local_count p) 0 p.instructions

-- the words of programs from one on
abbrev pub programs_words : Addresses → ℕ → List ProgramView → List ℕ
programs_words A program [] = []
programs_words A program (p ∷ ps) = program_words A program p ++ programs_words A (program + 1) ps
