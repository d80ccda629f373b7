-- From such a stack a row goes on to such a state: one law for each row, by computation.
use Rattle.std.proofs.Common.{◌≡◌, ℕ, ◌+◌, ◌-◌, ◌≤◌, ◌<◌, Result, Ok, Option, Some, Bool, true, false, List, ◌∷◌, length, map, drop, refl, ap, ◌∙◌}
use Rattle.std.{specs.Prelude.{nat_lt, nat_le, slice_get, if◌then◌else◌}, proofs.lemmas.Bool.{lt-ltb, le-leb}}
use Rattle.piton_words.{specs.declared.word.Word.Word, specs.declared.word.Word.TheVariants.Nat, specs.declared.op.WordOp.WordOp}
use Rattle.piton_words.specs.declared.outcome.Outcome.{Outcome}
use Rattle.piton_words.specs.OperationRows as words
use Rattle.piton_syntax.{specs.declared.test_kind.TestFamily.TestFamily, specs.declared.test_kind.TestKind.TestKind}
use Rattle.piton_semantics.{specs.declared.error_kind.ErrorKind.ErrorKind, specs.declared.error_kind.ErrorKind.TheVariants.{TempEmpty, Range, TempFull}}
use Rattle.piton_semantics.{specs.declared.error_kind.ErrorKind.TheVariants.CtrlFull, specs.State.{Frame, PitonState, instruction_at, ctrl_used, locals_of}}
use Rattle.piton_semantics.{specs.State.{with_local, word_at, with_word, element, with_element}, specs.Views.{◌>>=◌, then_on, where_true, found, one_of}}
use Rattle.piton_semantics.{specs.Views.{Operands, words_taken, operands_of, test_of, lifted}, specs.InstructionRows.{Row, to_place, to_next, with_room}}
use Rattle.piton_semantics.specs.InstructionRows.{pushed, push_local, pop_local, set_local_row, set_local, push_global, pop_global, set_word}
use Rattle.piton_semantics.specs.InstructionRows.{push_temp_stk_index, fetch_temp_stk, deposit_temp_stk, pop_star, jump_where, jump_case, test_and_jump}
use Rattle.piton_semantics.{specs.InstructionRows.{entered, call, does_grow, results_on, apply, row_of}, specs.Step.{step_from, piton_step}}
use Rattle.piton_check.specs.Instruction.{Instruction, ProgramView, SystemView}

-- The step of a state with a frame is the row of the instruction at its place, forward and back.
pub step_is : (s : SystemView) (p : PitonState) (f : Frame) (fs : List Frame) (instruction : Instruction) →
    p.frames ≡ f ∷ fs → instruction_at s p.program p.place ≡ Some instruction → piton_step s p ≡ row_of s p instruction
unfolding then_on
step_is s p f fs instruction e h =
    ap (step_from s p) e ∙ ap (λ o. found o Range >>= row_of s p) h

pub where_holds : {A : Type 0} (b : Bool) (kind : ErrorKind) (answer : Result A ErrorKind) → b ≡ true → where_true b kind answer ≡ answer
unfolding where_true
where_holds b kind answer h = rw h refl

pub found_some : {A : Type 0} (o : Option A) (kind : ErrorKind) (x : A) → o ≡ Some x → found o kind ≡ Ok x
found_some o kind x h = ap (λ o. found o kind) h

pub goes_on : {A B : Type 0} (r : Result A ErrorKind) (x : A) (go : A → Result B ErrorKind) → r ≡ Ok x → (r >>= go) ≡ go x
unfolding then_on
goes_on r x go h = ap (λ r. r >>= go) h

-- where the stack has room
pub room_there : (temp : ℕ) (p : PitonState) (answer : Row) → length p.stack < temp → with_room temp p answer ≡ answer
room_there temp p answer h = where_holds (nat_lt (length p.stack) temp) TempFull answer (lt-ltb (length p.stack) temp h)

pub does_push : (temp : ℕ) (p : PitonState) (word : Word) → length p.stack < temp → pushed temp p word ≡ to_next p (word ∷ p.stack)
does_push temp p word h = room_there temp p (to_next p (word ∷ p.stack)) h

-- The moves.

pub does_push_local : (temp : ℕ) (p : PitonState) (offset : ℕ) (word : Word) → slice_get (locals_of p.frames) offset ≡ Some word →
    length p.stack < temp → push_local temp p offset ≡ to_next p (word ∷ p.stack)
does_push_local temp p offset word h room =
    goes_on (found (slice_get (locals_of p.frames) offset) Range) word (pushed temp p) (found_some (slice_get (locals_of p.frames) offset) Range word h)
    ∙ does_push temp p word room

pub does_pop_local : (p : PitonState) (offset : ℕ) (t : Word) (below : List Word) → p.stack ≡ t ∷ below →
    pop_local p offset ≡ to_next (record p { frames = with_local p.frames offset t }) below
unfolding then_on
does_pop_local p offset t below e = ap (λ stack. one_of stack >>= λ one. set_local p offset one.top one.below) e

pub does_set_local : (p : PitonState) (offset : ℕ) (t : Word) (below : List Word) → p.stack ≡ t ∷ below →
    set_local_row p offset ≡ to_next (record p { frames = with_local p.frames offset t }) p.stack
unfolding then_on
does_set_local p offset t below e = ap (λ stack. one_of stack >>= λ one. set_local p offset one.top p.stack) e

pub does_push_global : (temp : ℕ) (p : PitonState) (area : ℕ) (word : Word) → word_at p.areas area 0 ≡ Some word →
    length p.stack < temp → push_global temp p area ≡ to_next p (word ∷ p.stack)
does_push_global temp p area word h room =
    goes_on (found (word_at p.areas area 0) Range) word (pushed temp p) (found_some (word_at p.areas area 0) Range word h) ∙ does_push temp p word room

pub does_pop_global : (p : PitonState) (area : ℕ) (t : Word) (below : List Word) → p.stack ≡ t ∷ below →
    pop_global p area ≡ to_next (record p { areas = with_word p.areas area 0 t }) below
unfolding then_on
does_pop_global p area t below e = ap (λ stack. one_of stack >>= λ one. set_word p area 0 one.top one.below) e

pub does_push_temp_stk_index : (temp : ℕ) (p : PitonState) (n : ℕ) → n < length p.stack → length p.stack < temp →
    push_temp_stk_index temp p n ≡ to_next p (Nat (length p.stack - 1 - n) ∷ p.stack)
does_push_temp_stk_index temp p n h room =
    where_holds (nat_lt n (length p.stack)) Range (pushed temp p (Nat (length p.stack - 1 - n))) (lt-ltb n (length p.stack) h)
    ∙ does_push temp p (Nat (length p.stack - 1 - n)) room

pub does_fetch_temp_stk : (p : PitonState) (n : ℕ) (below : List Word) (word : Word) → p.stack ≡ Nat n ∷ below →
    element below n ≡ Some word → fetch_temp_stk p ≡ to_next p (word ∷ below)
unfolding then_on
does_fetch_temp_stk p n below word e h = rw e (ap (λ o. found o Range >>= λ w. to_next p (w ∷ below)) h)

pub does_deposit_temp_stk : (p : PitonState) (n : ℕ) (word : Word) (below : List Word) → p.stack ≡ Nat n ∷ word ∷ below →
    n < length below → deposit_temp_stk p ≡ to_next p (with_element below n word)
unfolding then_on
does_deposit_temp_stk p n word below e h =
    rw e (where_holds (nat_lt n (length below)) Range (to_next p (with_element below n word)) (lt-ltb n (length below) h))

pub does_pop_star : (p : PitonState) (n : ℕ) → n ≤ length p.stack → pop_star p n ≡ to_next p (drop n p.stack)
does_pop_star p n h = where_holds (nat_le n (length p.stack)) TempEmpty (to_next p (drop n p.stack)) (le-leb n (length p.stack) h)

-- The jumps and calls. Those without a premise compute: `no_op`, `jump`, `jump_where`.

pub does_jump_case : (p : PitonState) (places : List ℕ) (n place : ℕ) (below : List Word) → p.stack ≡ Nat n ∷ below →
    slice_get places n ≡ Some place → jump_case p places ≡ to_place p place below
unfolding then_on
does_jump_case p places n place below e h = rw e (ap (λ o. found o Range >>= λ to. to_place p to below) h)

pub does_test_and_jump : (p : PitonState) (family : TestFamily) (kind : TestKind) (place : ℕ) (t : Word) (below : List Word) (test : Bool) →
    p.stack ≡ t ∷ below → test_of family kind t ≡ Ok test → test_and_jump p family kind place ≡ jump_where p test place below
unfolding then_on
does_test_and_jump p family kind place t below test e h =
    ap (λ stack. one_of stack >>= λ one. test_of family kind one.top >>= λ test. jump_where p test place one.below) e
    ∙ ap (λ r. r >>= λ test. jump_where p test place below) h

pub does_call : (s : SystemView) (p : PitonState) (program : ℕ) (callee : ProgramView) (stack : List Word) → slice_get s.programs program ≡ Some callee →
    callee.formals ≤ length stack → ctrl_used p.frames + (2 + (callee.formals + length callee.temporaries)) ≤ s.ctrl →
    call s p program stack ≡ entered p program callee stack
unfolding then_on
does_call s p program callee stack h enough room =
    ap (λ o. found o Range >>= λ callee. where_true (nat_le callee.formals (length stack)) TempEmpty
    (where_true (nat_le (ctrl_used p.frames + (2 + (callee.formals + length callee.temporaries))) s.ctrl) CtrlFull
    (entered p program callee stack))) h
    ∙ where_holds (nat_le callee.formals (length stack)) TempEmpty _ (le-leb callee.formals (length stack) enough)
    ∙ where_holds (nat_le (ctrl_used p.frames + (2 + (callee.formals + length callee.temporaries))) s.ctrl) CtrlFull (entered p program callee stack)
    (le-leb _ _ room)

-- The words: the operands are there, and the operation's row gives an outcome.
pub does_apply : (temp : ℕ) (p : PitonState) (o : WordOp) (operands : Operands) (out : Outcome) → operands_of (words_taken o) p.stack ≡ Ok operands →
    words.row_of o operands.third operands.second operands.top (map length p.areas) ≡ Ok out → does_grow o ≡ false →
    apply temp p o ≡ to_next p (results_on out operands.below)
unfolding then_on
does_apply temp p o operands out e h small =
    ap (λ r. r >>= λ operands. lifted (words.row_of o operands.third operands.second operands.top (map length p.areas))
    >>= λ outcome. let next = to_next p (results_on outcome operands.below) in if does_grow o then with_room temp p next else next) e
    ∙ ap (λ r. lifted r >>= λ outcome. let next = to_next p (results_on outcome operands.below) in if does_grow o then with_room temp p next else next) h
    ∙ ap (λ b. let next = to_next p (results_on out operands.below) in if b then with_room temp p next else next) small
