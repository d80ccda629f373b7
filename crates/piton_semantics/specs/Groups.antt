-- The three tables of instructions.
use Rattle.std.specs.Prelude.{◌≡◌, ℕ, Bool, true, false, List, [], slice_get, slice_index_or, Option, Some, None, IfSome}
use Rattle.piton_words.specs.declared.op.WordOp.{WordOp}
use Rattle.piton_syntax.specs.declared.op.PitonOp.{PitonOp}
use Rattle.piton_syntax.specs.declared.op.PitonOp.TheVariants as op
use Rattle.piton_check.specs.{WordOperations.{word_operation}, Instruction.{Instruction}, Resolved.{ResolvedInstrOf, ResolvedOf}}
use Rattle.piton_check.specs.declared.piece.Piece.{Piece}
use Rattle.piton_check.specs.Instruction as i
use Rattle.piton_semantics.specs.{declared.group.Group.{Group}, declared.group.Group.TheVariants.{Move, Jump, Word}}

-- jumps, calls and returns
abbrev pub is_jump : PitonOp → Bool
is_jump op.Jump = true
is_jump op.JumpIfTempStkFull = true
is_jump op.JumpIfTempStkEmpty = true
is_jump op.JumpCase = true
is_jump op.Pushj = true
is_jump op.Popj = true
is_jump op.TestNatAndJump = true
is_jump op.TestIntAndJump = true
is_jump op.TestBoolAndJump = true
is_jump op.TestBitvAndJump = true
is_jump op.Call = true
is_jump op.PopCall = true
is_jump op.Ret = true
is_jump o = false

abbrev pub group_by : Option WordOp → Bool → Group
group_by (Some operation) jump = Word
group_by None true = Jump
group_by None false = Move

-- an operation on words; a jump; any other is a move
abbrev pub group_of : PitonOp → Group
group_of o = group_by (word_operation o) (is_jump o)

-- the instruction at a place of a program, as it was resolved
abbrev pub resolved_at : ResolvedOf → ℕ → ℕ → Option ResolvedInstrOf
resolved_at r program place =
    slice_get (slice_index_or r.programs program record { formals = 0; temporaries = []; instrs = [] }).instrs place

-- what stands at a place of a program is of this group, if anything does
abbrev pub IsOfGroup : Group → ResolvedOf → ℕ → ℕ → Type 0
IsOfGroup group r program place = IfSome (resolved_at r program place) (λ instr. group_of instr.op ≡ group)

-- the table of an instruction with what it needs
abbrev pub instruction_group : Instruction → Group
instruction_group (i.Jump place) = Jump
instruction_group (i.JumpIfTempStkFull place) = Jump
instruction_group (i.JumpIfTempStkEmpty place) = Jump
instruction_group (i.JumpCase places) = Jump
instruction_group (i.Pushj place) = Jump
instruction_group i.Popj = Jump
instruction_group (i.TestAndJump family kind place) = Jump
instruction_group (i.Call program) = Jump
instruction_group i.PopCall = Jump
instruction_group i.Ret = Jump
instruction_group (i.Apply operation) = Word
instruction_group instruction = Move

-- internal: these pieces for an instruction of the group, and none for another
abbrev pub only_same : Group → Group → List Piece → List Piece
only_same Move Move pieces = pieces
only_same Jump Jump pieces = pieces
only_same Word Word pieces = pieces
only_same group other pieces = []

-- internal: the same, where an operation without its argument does nothing, whichever group it is of
abbrev pub only_of : Group → Instruction → List Piece → List Piece
only_of group i.NoOp pieces = pieces
only_of group instruction pieces = only_same group (instruction_group instruction) pieces
