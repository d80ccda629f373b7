-- The words of each of Piton's instructions. r0 points to the frame, r1 and r2 to the tops of the control stack and of the
-- temporary stack. A local is named by its offset in the frame; an area, a place and a program by their addresses.
use Rattle.std.specs.Prelude.{ℕ, ◌+◌, ◌-◌, ◌%◌, ◌^◌, List, [], ◌∷◌, ◌++◌, replicate}
use Rattle.fm_words.specs.{declared.operation.Op.{Op}, declared.operation.Op.TheVariants.{Move, Inc, Add, Sub, Lsr, Xor, And}}
use Rattle.fm_words.specs.{declared.condition.Cc.{Cc}, declared.condition.Cc.TheVariants.{Zs, Cs}}
use Rattle.fm_machine.specs.Masks.{all_flags}
use Rattle.fm_code.specs.InstructionWords.{reg, at, push, pop, immediate, literal, literal_at, flag_z, flag_c, flags_cv, always, setting}
use Rattle.fm_code.specs.InstructionWords.{when, mov, add, sub}

-- the word of the literal `=end-k`, which is taken modulo 2^32
abbrev pub below_end : ℕ → ℕ → ℕ
below_end end k = (end + 2 ^ 32 - k) % 2 ^ 32

-- 1. Moves.

-- `MOVE -(r2),=w`
abbrev pub push_constant_code : ℕ → List ℕ
push_constant_code w = mov (push 2) literal ∷ w ∷ []

-- `MOVE r3,=offset; ADD r3,r0; MOVE -(r2),(r3)`
abbrev pub push_local_code : ℕ → List ℕ
push_local_code offset = mov (reg 3) literal ∷ offset ∷ add (reg 3) (reg 0) ∷ mov (push 2) (at 3) ∷ []

-- `MOVE r3,=offset; ADD r3,r0; MOVE (r3),(r2)+`
abbrev pub pop_local_code : ℕ → List ℕ
pop_local_code offset = mov (reg 3) literal ∷ offset ∷ add (reg 3) (reg 0) ∷ mov (at 3) (pop 2) ∷ []

-- `MOVE r3,=offset; ADD r3,r0; MOVE (r3),(r2)`
abbrev pub set_local_code : ℕ → List ℕ
set_local_code offset = mov (reg 3) literal ∷ offset ∷ add (reg 3) (reg 0) ∷ mov (at 3) (at 2) ∷ []

-- `MOVE r3,=address; MOVE -(r2),(r3)`
abbrev pub push_global_code : ℕ → List ℕ
push_global_code address = mov (reg 3) literal ∷ address ∷ mov (push 2) (at 3) ∷ []

-- `MOVE r3,=address; MOVE (r3),(r2)+`
abbrev pub pop_global_code : ℕ → List ℕ
pop_global_code address = mov (reg 3) literal ∷ address ∷ mov (at 3) (pop 2) ∷ []

-- `MOVE r3,=address; MOVE (r3),(r2)`
abbrev pub set_global_code : ℕ → List ℕ
set_global_code address = mov (reg 3) literal ∷ address ∷ mov (at 3) (at 2) ∷ []

-- `MOVE r3,=end-1-index; SUB r3,r2; MOVE -(r2),r3`, where end is the end of the temporary stack
abbrev pub push_temp_stk_index_code : ℕ → ℕ → List ℕ
push_temp_stk_index_code end index =
    mov (reg 3) literal ∷ below_end end (1 + index) ∷ sub (reg 3) (reg 2) ∷ mov (push 2) (reg 3) ∷ []

-- `MOVE r3,r2; SUB r3,=lowest; MOVE -(r2),r3`, where lowest is the lowest address of the temporary stack
abbrev pub push_temp_stk_free_size_code : ℕ → List ℕ
push_temp_stk_free_size_code lowest = mov (reg 3) (reg 2) ∷ sub (reg 3) literal ∷ lowest ∷ mov (push 2) (reg 3) ∷ []

-- `MOVE r3,r1; SUB r3,=lowest; MOVE -(r2),r3`, where lowest is the lowest address of the control stack
abbrev pub push_ctrl_stk_free_size_code : ℕ → List ℕ
push_ctrl_stk_free_size_code lowest = mov (reg 3) (reg 1) ∷ sub (reg 3) literal ∷ lowest ∷ mov (push 2) (reg 3) ∷ []

-- `MOVE r3,=end-1; SUB r3,(r2); MOVE (r2),(r3)`
abbrev pub fetch_temp_stk_code : ℕ → List ℕ
fetch_temp_stk_code end = mov (reg 3) literal ∷ below_end end 1 ∷ sub (reg 3) (at 2) ∷ mov (at 2) (at 3) ∷ []

-- `MOVE r3,=end-1; SUB r3,(r2)+; MOVE (r3),(r2)+`
abbrev pub deposit_temp_stk_code : ℕ → List ℕ
deposit_temp_stk_code end = mov (reg 3) literal ∷ below_end end 1 ∷ sub (reg 3) (pop 2) ∷ mov (at 3) (pop 2) ∷ []

-- `MOVE r3,(r2); MOVE (r2),(r3)`
abbrev pub fetch_code : List ℕ
fetch_code = mov (reg 3) (at 2) ∷ mov (at 2) (at 3) ∷ []

-- `MOVE r3,(r2)+; MOVE (r3),(r2)+`
abbrev pub deposit_code : List ℕ
deposit_code = mov (reg 3) (pop 2) ∷ mov (at 3) (pop 2) ∷ []

-- `INC r2,r2`
abbrev pub pop_code : List ℕ
pop_code = always Inc (reg 2) (reg 2) ∷ []

-- `ADD r2,=n`
abbrev pub pop_star_code : ℕ → List ℕ
pop_star_code n = add (reg 2) literal ∷ n ∷ []

-- `MOVE r3,(r2)+; ADD r2,r3`
abbrev pub popn_code : List ℕ
popn_code = mov (reg 3) (pop 2) ∷ add (reg 2) (reg 3) ∷ []

-- `MOVE r3,r3`, for no-op and for int-to-nat
abbrev pub no_op_code : List ℕ
no_op_code = mov (reg 3) (reg 3) ∷ []

-- 2. Jumps and calls.

-- `MOVE r15,@target`
abbrev pub jump_code : ℕ → List ℕ
jump_code target = mov (reg 15) literal_at ∷ target ∷ []

-- `MOVE r3,r2; SUB{z} r3,=address; MOVE[zs] r15,=target`: a jump where the top of the temporary stack is at an address,
-- which is its lowest address where the stack is full, and its end where the stack is empty
abbrev pub jump_if_top_code : ℕ → ℕ → List ℕ
jump_if_top_code address target =
    mov (reg 3) (reg 2) ∷ setting flag_z Sub (reg 3) literal ∷ address ∷ when Zs Move (reg 15) literal ∷ target ∷ []

-- `MOVE r3,(r2)+; ADD r3,=table; MOVE r15,(r3)`, then the table, one word for each target; pc is the first word's address
abbrev pub jump_case_code : ℕ → List ℕ → List ℕ
jump_case_code pc targets = mov (reg 3) (pop 2) ∷ add (reg 3) literal ∷ (pc + 4) ∷ mov (reg 15) (at 3) ∷ targets

-- `MOVE -(r2),=after; MOVE r15,@target`
abbrev pub pushj_code : ℕ → ℕ → List ℕ
pushj_code after target = mov (push 2) literal ∷ after ∷ mov (reg 15) literal_at ∷ target ∷ []

-- `MOVE r15,(r2)+`
abbrev pub popj_code : List ℕ
popj_code = mov (reg 15) (pop 2) ∷ []

-- `MOVE{cvnz} r3,(r2)+; MOVE[cc] r15,=target`, where the condition cc is the test
abbrev pub test_and_jump_code : Cc → ℕ → List ℕ
test_and_jump_code cc target = setting all_flags Move (reg 3) (pop 2) ∷ when cc Move (reg 15) literal ∷ target ∷ []

-- `MOVE -(r1),=after; MOVE r15,@entry`
abbrev pub call_code : ℕ → ℕ → List ℕ
call_code after entry = mov (push 1) literal ∷ after ∷ mov (reg 15) literal_at ∷ entry ∷ []

-- `MOVE r3,(r2)+; MOVE -(r1),=after; MOVE r15,r3`
abbrev pub pop_call_code : ℕ → List ℕ
pop_call_code after = mov (reg 3) (pop 2) ∷ mov (push 1) literal ∷ after ∷ mov (reg 15) (reg 3) ∷ []

-- `MOVE r1,r0; ADD r1,=locals; MOVE r0,(r1)+; MOVE r15,(r1)+`, where locals is the number of formals and temporaries
abbrev pub ret_code : ℕ → List ℕ
ret_code locals = mov (reg 1) (reg 0) ∷ add (reg 1) literal ∷ locals ∷ mov (reg 0) (pop 1) ∷ mov (reg 15) (pop 1) ∷ []

-- `MOVE -(r1),=t` for each temporary of a program, the last one first
abbrev pub temporaries_code : List ℕ → List ℕ
temporaries_code [] = []
temporaries_code (t ∷ ts) = temporaries_code ts ++ mov (push 1) literal ∷ t ∷ []

-- the prelude, with which a program begins: `MOVE -(r1),r0`; its temporaries; `MOVE -(r1),(r2)+` for each formal;
-- `MOVE r0,r1`
abbrev pub prelude_code : ℕ → List ℕ → List ℕ
prelude_code formals ts =
    mov (push 1) (reg 0) ∷ (temporaries_code ts ++ (replicate formals (mov (push 1) (pop 2)) ++ mov (reg 0) (reg 1) ∷ []))

-- 3. Operations on words.

-- `OP (r2),(r2)+`, on the two words at the top
abbrev pub two_code : Op → List ℕ
two_code op = always op (at 2) (pop 2) ∷ []

-- `OP (r2),(r2)`, on the word at the top
abbrev pub one_code : Op → List ℕ
one_code op = always op (at 2) (at 2) ∷ []

-- `XOR (r2),#1`
abbrev pub not_bool_code : List ℕ
not_bool_code = always Xor (at 2) (immediate 1) ∷ []

-- `MOVE r3,(r2)+; XOR{z} r3,(r2); MOVE (r2),#0; MOVE[zs] (r2),#1`
abbrev pub eq_code : List ℕ
eq_code =
    mov (reg 3) (pop 2) ∷ setting flag_z Xor (reg 3) (at 2) ∷ mov (at 2) (immediate 0) ∷
    when Zs Move (at 2) (immediate 1) ∷ []

-- `MOVE r3,(r2)+; MOVE r4,(r2); SUB{cvnz} r4,r3; MOVE (r2),#0; MOVE[cc] (r2),#1`, where the condition cc is the comparison
abbrev pub lt_code : Cc → List ℕ
lt_code cc =
    mov (reg 3) (pop 2) ∷ mov (reg 4) (at 2) ∷ setting all_flags Sub (reg 4) (reg 3) ∷ mov (at 2) (immediate 0) ∷
    when cc Move (at 2) (immediate 1) ∷ []

-- `MOVE r3,(r2)+; MOVE r4,(r2)+; LSR{c} (r2),(r2); MOVE (r2),#0; OP{cv} r4,r3; MOVE[cc] (r2),#1; MOVE -(r2),r4`, where the
-- condition cc is that the result of OP is out of range
abbrev pub carry_code : Op → Cc → List ℕ
carry_code op cc =
    mov (reg 3) (pop 2) ∷ mov (reg 4) (pop 2) ∷ setting flag_c Lsr (at 2) (at 2) ∷ mov (at 2) (immediate 0) ∷
    setting flags_cv op (reg 4) (reg 3) ∷ when cc Move (at 2) (immediate 1) ∷ mov (push 2) (reg 4) ∷ []

-- `MOVE r3,(r2); ADD{c} r3,r3; MOVE (r2),#0; MOVE[cs] (r2),#1; MOVE -(r2),r3`
abbrev pub mult2_carry_code : List ℕ
mult2_carry_code =
    mov (reg 3) (at 2) ∷ setting flag_c Add (reg 3) (reg 3) ∷ mov (at 2) (immediate 0) ∷
    when Cs Move (at 2) (immediate 1) ∷ mov (push 2) (reg 3) ∷ []

-- `MOVE r3,(r2); MOVE r4,#1; AND r4,r3; LSR (r2),r3; MOVE -(r2),r4`
abbrev pub div2_code : List ℕ
div2_code =
    mov (reg 3) (at 2) ∷ mov (reg 4) (immediate 1) ∷ always And (reg 4) (reg 3) ∷ always Lsr (at 2) (reg 3) ∷
    mov (push 2) (reg 4) ∷ []
