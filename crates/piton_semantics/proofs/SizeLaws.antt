-- The code and the words of a placed system have the sizes that the addresses count.
use Rattle.std.{proofs.Common.{◌≡◌, ℕ, suc, ◌+◌, ◌-◌, List, [], ◌∷◌, ◌++◌, length, map, reverse, refl, ap, ◌∙◌, arith, length-append}, specs.Prelude.◌*◌}
use Rattle.std.{specs.Prelude.replicate, proofs.lemmas.List.{length-map, length-replicate, length-reverse}}
use Rattle.fm_code.{specs.Areas.joined, specs.Execution.final_pc, specs.InstructionWords.{reg, push, pop, literal, mov, halt_word}}
use Rattle.piton_check.{specs.declared.piece.Piece.Piece, specs.declared.piece.Piece.TheVariants.{Code, Place}, specs.Instruction.{Instruction, ProgramView}}
use Rattle.piton_check.{specs.Instruction.SystemView, specs.Sound.local_count}
use Rattle.piton_words.{specs.declared.word.Word.Word, specs.declared.op.WordOp.WordOp}
use Rattle.piton_words.specs.declared.op.WordOp.TheVariants as word_op
use Rattle.piton_check.specs.Instruction as i
use Rattle.piton_semantics.{specs.State.program_of, specs.Step.operation_cost, specs.Fits.IsWellFormed, specs.Addresses.{Addresses, word_number, numbers}}
use Rattle.piton_semantics.specs.Templates.{operation_code, word_piece, literal_pieces, code_pieces, temporary_pieces, prelude_pieces, words_of, template}
use Rattle.piton_semantics.{specs.Templates.{prelude_words, instructions_words, program_words, programs_words}, specs.Placed.instruction_size}
use Rattle.piton_semantics.specs.Placed.{instructions_size, prelude_size, program_size, programs_size, areas_size, final_pc_of, ctrl_start, temp_start}
use Rattle.piton_semantics.specs.Placed.{addresses_of, code_of, parts_of, first_frame, first_frame_at, first_top, placed}

pub length-operation_code : (o : WordOp) → length (operation_code o) ≡ operation_cost o
length-operation_code word_op.Eq = refl
length-operation_code word_op.AddInt = refl
length-operation_code word_op.AddNat = refl
length-operation_code word_op.SubInt = refl
length-operation_code word_op.SubNat = refl
length-operation_code word_op.AddAddr = refl
length-operation_code word_op.SubAddr = refl
length-operation_code word_op.LtInt = refl
length-operation_code word_op.LtNat = refl
length-operation_code word_op.LtAddr = refl
length-operation_code word_op.Add1Int = refl
length-operation_code word_op.Add1Nat = refl
length-operation_code word_op.Sub1Int = refl
length-operation_code word_op.Sub1Nat = refl
length-operation_code word_op.NegInt = refl
length-operation_code word_op.IntToNat = refl
length-operation_code word_op.Mult2Nat = refl
length-operation_code word_op.AddIntWithCarry = refl
length-operation_code word_op.AddNatWithCarry = refl
length-operation_code word_op.SubIntWithCarry = refl
length-operation_code word_op.SubNatWithCarry = refl
length-operation_code word_op.Mult2NatWithCarryOut = refl
length-operation_code word_op.Div2Nat = refl
length-operation_code word_op.OrBitv = refl
length-operation_code word_op.AndBitv = refl
length-operation_code word_op.XorBitv = refl
length-operation_code word_op.OrBool = refl
length-operation_code word_op.AndBool = refl
length-operation_code word_op.NotBitv = refl
length-operation_code word_op.RshBitv = refl
length-operation_code word_op.LshBitv = refl
length-operation_code word_op.NotBool = refl

-- as many words as pieces
pub length-words_of : (A : Addresses) (a : ℕ) (ps : List Piece) → length (words_of A a ps) ≡ length ps
length-words_of A a [] = refl
length-words_of A a (p ∷ ps) = ap suc (length-words_of A (a + 1) ps)

pub length-template : (A : Addresses) (program place locals : ℕ) (instruction : Instruction) →
    length (template A program place locals instruction) ≡ instruction_size instruction
length-template A program place locals (i.PushConstant word) = refl
length-template A program place locals (i.PushLocal offset) = refl
length-template A program place locals (i.PopLocal offset) = refl
length-template A program place locals (i.SetLocal offset) = refl
length-template A program place locals (i.PushGlobal area) = refl
length-template A program place locals (i.PopGlobal area) = refl
length-template A program place locals (i.SetGlobal area) = refl
length-template A program place locals (i.PushTempStkIndex n) = refl
length-template A program place locals i.PushTempStkFreeSize = refl
length-template A program place locals i.PushCtrlStkFreeSize = refl
length-template A program place locals i.FetchTempStk = refl
length-template A program place locals i.DepositTempStk = refl
length-template A program place locals i.Fetch = refl
length-template A program place locals i.Deposit = refl
length-template A program place locals i.Pop = refl
length-template A program place locals (i.PopStar n) = refl
length-template A program place locals i.Popn = refl
length-template A program place locals i.NoOp = refl
length-template A program place locals (i.Jump to) = refl
length-template A program place locals (i.JumpIfTempStkFull to) = refl
length-template A program place locals (i.JumpIfTempStkEmpty to) = refl
length-template A program place locals (i.Pushj to) = refl
length-template A program place locals i.Popj = refl
length-template A program place locals (i.TestAndJump family kind to) = refl
length-template A program place locals (i.Call callee) = refl
length-template A program place locals i.PopCall = refl
length-template A program place locals i.Ret = refl
length-template A program place locals (i.JumpCase places) =
    let table = length-words_of A (A.place_at program place + 1 + 1 + 1 + 1) (map (λ to. Place program to) places) in
    omega (arith, table, length-map places (λ to. Place program to))
length-template A program place locals (i.Apply o) =
    length-words_of A (A.place_at program place) (code_pieces (operation_code o)) ∙ length-map (operation_code o) (λ w. Code w) ∙ length-operation_code o

pub length-numbers : (A : Addresses) (words : List Word) → length (numbers A words) ≡ length words
length-numbers A words = length-map words (word_number A)

pub length-instructions_words : (A : Addresses) (program locals place : ℕ) (is : List Instruction) →
    length (instructions_words A program locals place is) ≡ instructions_size is
length-instructions_words A program locals place [] = refl
length-instructions_words A program locals place (instruction ∷ rest) =
    length-append (template A program place locals instruction) (instructions_words A program locals (place + 1) rest)
    ∙ omega (arith, length-template A program place locals instruction, length-instructions_words A program locals (place + 1) rest)

length-temporary_pieces : (ws : List Word) → length (temporary_pieces ws) ≡ 2 * length ws
length-temporary_pieces [] = refl
length-temporary_pieces (w ∷ ws) =
    length-append (temporary_pieces ws) (literal_pieces (mov (push 1) literal) (word_piece w)) ∙ omega (arith, length-temporary_pieces ws)

pub length-prelude_pieces : (p : ProgramView) → length (prelude_pieces p) ≡ prelude_size p
length-prelude_pieces p =
    let formals = replicate p.formals (Code (mov (push 1) (pop 2))) in
    let last = Code (mov (reg 0) (reg 1)) ∷ [] in
    omega (
      arith,
      length-append (temporary_pieces p.temporaries) (formals ++ last),
      length-temporary_pieces p.temporaries,
      length-append formals last,
      length-replicate p.formals (Code (mov (push 1) (pop 2))),
    )

pub length-prelude_words : (A : Addresses) (program : ℕ) (p : ProgramView) → length (prelude_words A program p) ≡ prelude_size p
length-prelude_words A program p = length-words_of A (A.entry_at program) (prelude_pieces p) ∙ length-prelude_pieces p

pub length-program_words : (A : Addresses) (program : ℕ) (p : ProgramView) → length (program_words A program p) ≡ program_size p
length-program_words A program p =
    length-append (prelude_words A program p) (instructions_words A program (local_count p) 0 p.instructions)
    ∙ omega (arith, length-prelude_words A program p, length-instructions_words A program (local_count p) 0 p.instructions)

pub length-programs_words : (A : Addresses) (program : ℕ) (ps : List ProgramView) → length (programs_words A program ps) ≡ programs_size ps
length-programs_words A program [] = refl
length-programs_words A program (p ∷ ps) =
    length-append (program_words A program p) (programs_words A (program + 1) ps)
    ∙ omega (arith, length-program_words A program p, length-programs_words A (program + 1) ps)

pub length-areas : (A : Addresses) (areas : List (List Word)) → length (joined (map (numbers A) areas)) ≡ areas_size areas
length-areas A [] = refl
length-areas A (area ∷ areas) =
    length-append (numbers A area) (joined (map (numbers A) areas)) ∙ omega (arith, length-numbers A area, length-areas A areas)

-- the placed words fill the placed size
pub length-placed : (s : SystemView) → IsWellFormed s → length (placed s).words ≡ (placed s).size
length-placed s sound =
    let A = addresses_of s in
    let stack = numbers A (reverse s.stack) in
    let free = replicate {A = ℕ} (first_top s - temp_start s) 0 in
    let top = free ++ stack in
    let frame = first_frame s in
    let used = frame ++ top in
    let unused = replicate {A = ℕ} (first_frame_at s - ctrl_start s) 0 in
    let stacks = unused ++ used in
    let areas = joined (map (numbers A) s.areas) in
    let data_words = areas ++ stacks in
    let temporaries = (program_of s s.main).temporaries in
    let stack_size : length stack ≡ length s.stack = length-numbers A (reverse s.stack) ∙ length-reverse s.stack in
    let top_size = length-append free stack in
    let free_size = length-replicate {A = ℕ} (first_top s - temp_start s) 0 in
    let frame_size = length-append (numbers A temporaries) (0 ∷ final_pc_of s ∷ []) in
    let locals_size = length-numbers A temporaries in
    let used_size = length-append frame top in
    let stacks_size = length-append unused used in
    let unused_size = length-replicate {A = ℕ} (first_frame_at s - ctrl_start s) 0 in
    let data_size = length-append areas stacks in
    let areas_count = length-areas A s.areas in
    let code_size = length-programs_words A 0 s.programs in
    length-append (code_of s) (halt_word ∷ data_words)
    ∙ omega (arith, sound.main_fits, sound.stack_fits)

-- behind the code the machine comes to the final program counter
pub code_ends : (s : SystemView) → final_pc (parts_of s) ≡ final_pc_of s
code_ends s = ap (λ n. s.base + n) (length-programs_words (addresses_of s) 0 s.programs)
