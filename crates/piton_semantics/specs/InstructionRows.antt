-- The rows of the instructions.
use Rattle.std.specs.Prelude.{ℕ, ◌+◌, ◌-◌, ◌==◌, List, [], ◌∷◌, ◌++◌, length, map, reverse, take, drop, Bool, true, false, nat_lt, nat_le}
use Rattle.std.specs.Prelude.{if◌then◌else◌, Result, Ok, slice_get}
use Rattle.piton_words.specs.{declared.word.Word.{Word}, declared.word.Word.TheVariants.{Nat, Pc}, declared.op.WordOp.{WordOp}}
use Rattle.piton_words.specs.{declared.outcome.Outcome.{Outcome}, declared.outcome.Outcome.TheVariants.{One, Two}}
use Rattle.piton_words.specs.declared.op.WordOp.TheVariants as op
use Rattle.piton_words.specs.OperationRows as words
use Rattle.piton_syntax.specs.{declared.test_kind.TestFamily.{TestFamily}, declared.test_kind.TestKind.{TestKind}}
use Rattle.piton_semantics.specs.{declared.error_kind.ErrorKind.{ErrorKind}, declared.error_kind.ErrorKind.TheVariants.{TempEmpty, Range}}
use Rattle.piton_semantics.specs.{declared.error_kind.ErrorKind.TheVariants.{TempFull, CtrlFull}, State.{Frame, PitonState, ctrl_used}}
use Rattle.piton_semantics.specs.{State.{locals_of, with_local, word_at, with_word, element, with_element}, Views.{◌>>=◌, where_true}}
use Rattle.piton_semantics.specs.Views.{found, one_of, two_of, words_taken, operands_of, nat_of, addr_of, pc_of, subr_of, lifted, test_of}
use Rattle.piton_check.specs.Instruction as i
use Rattle.piton_check.specs.Instruction.{Instruction, ProgramView, SystemView}

-- what a row gives: the next state, or why there is none
abbrev pub Row : Type 0
Row = Result PitonState ErrorKind

-- on to a place, or to the next one, with this stack
abbrev pub to_place : PitonState → ℕ → List Word → Row
to_place p place stack = Ok record p { place = place; stack = stack }

abbrev pub to_next : PitonState → List Word → Row
to_next p stack = to_place p (p.place + 1) stack

-- the answer, where the stack has room for one more word
abbrev pub with_room : ℕ → PitonState → Row → Row
with_room temp p answer = where_true (nat_lt (length p.stack) temp) TempFull answer

abbrev pub pushed : ℕ → PitonState → Word → Row
pushed temp p word = with_room temp p (to_next p (word ∷ p.stack))

-- The moves.

abbrev pub push_local : ℕ → PitonState → ℕ → Row
push_local temp p offset = do
  word ← found (slice_get (locals_of p.frames) offset) Range
  pushed temp p word

abbrev pub set_local : PitonState → ℕ → Word → List Word → Row
set_local p offset word stack = to_next (record p { frames = with_local p.frames offset word }) stack

abbrev pub pop_local : PitonState → ℕ → Row
pop_local p offset = do
  one ← one_of p.stack
  set_local p offset one.top one.below

abbrev pub set_local_row : PitonState → ℕ → Row
set_local_row p offset = do
  one ← one_of p.stack
  set_local p offset one.top p.stack

abbrev pub push_global : ℕ → PitonState → ℕ → Row
push_global temp p area = do
  word ← found (word_at p.areas area 0) Range
  pushed temp p word

abbrev pub set_word : PitonState → ℕ → ℕ → Word → List Word → Row
set_word p area offset word stack = to_next (record p { areas = with_word p.areas area offset word }) stack

abbrev pub pop_global : PitonState → ℕ → Row
pop_global p area = do
  one ← one_of p.stack
  set_word p area 0 one.top one.below

abbrev pub set_global : PitonState → ℕ → Row
set_global p area = do
  one ← one_of p.stack
  set_word p area 0 one.top p.stack

abbrev pub push_temp_stk_index : ℕ → PitonState → ℕ → Row
push_temp_stk_index temp p n = where_true (nat_lt n (length p.stack)) Range (pushed temp p (Nat (length p.stack - 1 - n)))

abbrev pub fetch_temp_stk : PitonState → Row
fetch_temp_stk p = do
  one ← one_of p.stack
  position ← nat_of one.top
  word ← found (element one.below position) Range
  to_next p (word ∷ one.below)

abbrev pub deposit_temp_stk : PitonState → Row
deposit_temp_stk p = do
  two ← two_of p.stack
  position ← nat_of two.top
  where_true (nat_lt position (length two.below)) Range (to_next p (with_element two.below position two.second))

abbrev pub fetch : PitonState → Row
fetch p = do
  one ← one_of p.stack
  address ← addr_of one.top
  word ← found (word_at p.areas address.0 address.1) Range
  to_next p (word ∷ one.below)

abbrev pub deposit : PitonState → Row
deposit p = do
  two ← two_of p.stack
  address ← addr_of two.top
  set_word p address.0 address.1 two.second two.below

abbrev pub pop : PitonState → Row
pop p = do
  one ← one_of p.stack
  to_next p one.below

abbrev pub pop_star : PitonState → ℕ → Row
pop_star p n = where_true (nat_le n (length p.stack)) TempEmpty (to_next p (drop n p.stack))

abbrev pub popn : PitonState → Row
popn p = do
  one ← one_of p.stack
  n ← nat_of one.top
  where_true (nat_le n (length one.below)) Range (to_next p (drop n one.below))

abbrev pub no_op : PitonState → Row
no_op p = to_next p p.stack

-- The jumps and calls.

abbrev pub jump : PitonState → ℕ → Row
jump p place = to_place p place p.stack

abbrev pub pushj : ℕ → PitonState → ℕ → Row
pushj temp p place = with_room temp p (to_place p place (Pc p.program (p.place + 1) ∷ p.stack))

abbrev pub jump_where : PitonState → Bool → ℕ → List Word → Row
jump_where p test place stack = to_place p (if test then place else p.place + 1) stack

abbrev pub jump_case : PitonState → List ℕ → Row
jump_case p places = do
  one ← one_of p.stack
  n ← nat_of one.top
  place ← found (slice_get places n) Range
  to_place p place one.below

abbrev pub popj : PitonState → Row
popj p = do
  one ← one_of p.stack
  target ← pc_of one.top
  where_true (target.0 == p.program) Range (to_place p target.1 one.below)

abbrev pub test_and_jump : PitonState → TestFamily → TestKind → ℕ → Row
test_and_jump p family kind place = do
  one ← one_of p.stack
  test ← test_of family kind one.top
  jump_where p test place one.below

-- the frame of a program that is called with this stack
abbrev pub frame_of : PitonState → ProgramView → List Word → Frame
frame_of p callee stack =
    record { locals = reverse (take callee.formals stack) ++ callee.temporaries; program = p.program; place = p.place + 1 }

abbrev pub entered : PitonState → ℕ → ProgramView → List Word → Row
entered p program callee stack =
    Ok record p { program = program; place = 0; frames = frame_of p callee stack ∷ p.frames; stack = drop callee.formals stack }

-- a program called, its formals on top of this stack and the last of them at its top
abbrev pub call : SystemView → PitonState → ℕ → List Word → Row
call s p program stack = do
  callee ← found (slice_get s.programs program) Range
  where_true
      (nat_le callee.formals (length stack))
      TempEmpty
      (where_true
      (nat_le (ctrl_used p.frames + (2 + (callee.formals + length callee.temporaries))) s.ctrl)
      CtrlFull
      (entered p program callee stack))

abbrev pub pop_call : SystemView → PitonState → Row
pop_call s p = do
  one ← one_of p.stack
  program ← subr_of one.top
  call s p program one.below

-- the newest frame dropped; the place stays where it was the last
abbrev pub ret : PitonState → List Frame → Row
ret p [] = Ok p
ret p (f ∷ []) = Ok record p { frames = [] }
ret p (f ∷ g ∷ fs) = Ok record p { program = f.program; place = f.place; frames = g ∷ fs }

-- The words.

-- the operations that push one word more than they pop
abbrev pub does_grow : WordOp → Bool
does_grow op.Mult2NatWithCarryOut = true
does_grow op.Div2Nat = true
does_grow op = false

abbrev pub results_on : Outcome → List Word → List Word
results_on (One word) below = word ∷ below
results_on (Two lower upper) below = upper ∷ lower ∷ below

abbrev pub apply : ℕ → PitonState → WordOp → Row
apply temp p op = do
  operands ← operands_of (words_taken op) p.stack
  outcome ← lifted (words.row_of op operands.third operands.second operands.top (map length p.areas))
  let next = to_next p (results_on outcome operands.below) in if does_grow op then with_room temp p next else next

-- The row of an instruction.
abbrev pub row_of : SystemView → PitonState → Instruction → Row
row_of s p (i.PushConstant word) = pushed s.temp p word
row_of s p (i.PushLocal offset) = push_local s.temp p offset
row_of s p (i.PopLocal offset) = pop_local p offset
row_of s p (i.SetLocal offset) = set_local_row p offset
row_of s p (i.PushGlobal area) = push_global s.temp p area
row_of s p (i.PopGlobal area) = pop_global p area
row_of s p (i.SetGlobal area) = set_global p area
row_of s p (i.PushTempStkIndex n) = push_temp_stk_index s.temp p n
row_of s p i.PushTempStkFreeSize = pushed s.temp p (Nat (s.temp - length p.stack))
row_of s p i.PushCtrlStkFreeSize = pushed s.temp p (Nat (s.ctrl - ctrl_used p.frames))
row_of s p i.FetchTempStk = fetch_temp_stk p
row_of s p i.DepositTempStk = deposit_temp_stk p
row_of s p i.Fetch = fetch p
row_of s p i.Deposit = deposit p
row_of s p i.Pop = pop p
row_of s p (i.PopStar n) = pop_star p n
row_of s p i.Popn = popn p
row_of s p i.NoOp = no_op p
row_of s p (i.Jump place) = jump p place
row_of s p (i.JumpIfTempStkFull place) = jump_where p (length p.stack == s.temp) place p.stack
row_of s p (i.JumpIfTempStkEmpty place) = jump_where p (length p.stack == 0) place p.stack
row_of s p (i.JumpCase places) = jump_case p places
row_of s p (i.Pushj place) = pushj s.temp p place
row_of s p i.Popj = popj p
row_of s p (i.TestAndJump family kind place) = test_and_jump p family kind place
row_of s p (i.Call program) = call s p program p.stack
row_of s p i.PopCall = pop_call s p
row_of s p i.Ret = ret p p.frames
row_of s p (i.Apply op) = apply s.temp p op
