-- What a step at an instruction of the code does, one law for each kind of target.
use Rattle.std.{proofs.Common.{◌≡◌, ℕ, ◌+◌, ◌-◌, ◌%◌, ◌^◌, ◌<◌, Some, Bool, true, false, List, ◌∷◌, ◌++◌, length, refl, arith}, specs.Prelude.if◌then◌else◌}
use Rattle.std.specs.Prelude.{slice_set}
use Rattle.fm_words.{specs.declared.operation.Op.Op, specs.declared.operation.Op.TheVariants.Move, specs.declared.condition.Cc.Cc}
use Rattle.fm_words.{specs.declared.condition.Flags.Flags, specs.declared.instruction.Mode.TheVariants.{Register, Indirect, PreDecrement}}
use Rattle.fm_words.{specs.declared.instruction.OperandA.OperandA, specs.Alu.{alu_of, does_hold}, specs.Code.no_flags}
use Rattle.fm_machine.{specs.State.{Fm, word_at, with_word}, specs.Step.flags_set}
use Rattle.fm_code.{specs.InstructionWords.{reg, at, push, immediate, literal, always, mov, setting, when}, specs.Execution.{Parts, CodeWord}}
use Rattle.fm_code.proofs.LayoutLaws.{laid_push, laid_push_ctrl, laid_temp, laid_ctrl, laid_areas, laid_drop, laid_drop_ctrl}
use Rattle.fm_code.{proofs.RegisterLaws.{with_register, next, past}, proofs.OperandLaws.{RunsTo, ReadsOperand, state_of, found, kept, some_word_at}}
use Rattle.fm_code.proofs.OperandLaws.{into_register, into_memory, conditional, from_literal, from_immediate}

module _ {P : Parts} {n : ℕ} {s : Fm} {r : ℕ → ℕ} {fl : Flags} {ctrl temp areas : List ℕ} {a : OperandA} {x : ℕ} {r1 : ℕ → ℕ} {ctrl1 temp1 : List ℕ} where
  -- `OP{set} r0,a`: the result into a register that is no top of a stack
  pub into_r0 : (op : Op) (set : Flags) (c : RunsTo P n s r fl ctrl temp areas) → ReadsOperand P c.m r fl areas a x r1 ctrl1 temp1
      → CodeWord P (r 15) (setting set op (reg 0) a) → RunsTo P (n + 1) s (with_register r1 0 (alu_of op fl.c x (r1 0)).word)
      (flags_set set fl (alu_of op fl.c x (r1 0))) ctrl1 temp1 areas
  into_r0 op set c from w = into_register op set 0 c from w (omega arith) from.laid

  pub into_r3 : (op : Op) (set : Flags) (c : RunsTo P n s r fl ctrl temp areas) → ReadsOperand P c.m r fl areas a x r1 ctrl1 temp1
      → CodeWord P (r 15) (setting set op (reg 3) a) → RunsTo P (n + 1) s (with_register r1 3 (alu_of op fl.c x (r1 3)).word)
      (flags_set set fl (alu_of op fl.c x (r1 3))) ctrl1 temp1 areas
  into_r3 op set c from w = into_register op set 3 c from w (omega arith) from.laid

  pub into_r4 : (op : Op) (set : Flags) (c : RunsTo P n s r fl ctrl temp areas) → ReadsOperand P c.m r fl areas a x r1 ctrl1 temp1
      → CodeWord P (r 15) (setting set op (reg 4) a) → RunsTo P (n + 1) s (with_register r1 4 (alu_of op fl.c x (r1 4)).word)
      (flags_set set fl (alu_of op fl.c x (r1 4))) ctrl1 temp1 areas
  into_r4 op set c from w = into_register op set 4 c from w (omega arith) from.laid

  pub into_r15 : (op : Op) (set : Flags) (c : RunsTo P n s r fl ctrl temp areas) → ReadsOperand P c.m r fl areas a x r1 ctrl1 temp1
      → CodeWord P (r 15) (setting set op (reg 15) a) → RunsTo P (n + 1) s (with_register r1 15 (alu_of op fl.c x (r1 15)).word)
      (flags_set set fl (alu_of op fl.c x (r1 15))) ctrl1 temp1 areas
  into_r15 op set c from w = into_register op set 15 c from w (omega arith) from.laid

module _ {P : Parts} {n : ℕ} {s : Fm} {r : ℕ → ℕ} {fl : Flags} {ctrl temp areas : List ℕ} {a : OperandA} {x : ℕ} {r1 : ℕ → ℕ} {ctrl1 temp1 : List ℕ} where
  -- `MOVE -(r2),a`: a word pushed on the temporary stack
  pub push_temp : (c : RunsTo P n s r fl ctrl temp areas) → ReadsOperand P c.m r fl areas a x r1 ctrl1 temp1 → CodeWord P (r 15) (mov (push 2) a)
      → P.temp_at < r1 2 → RunsTo P (n + 1) s (with_register r1 2 (r1 2 - 1)) fl ctrl1 (x ∷ temp1) areas
  push_temp c from w room =
      let i = c.is in
      let laid = from.laid in
      let old = some_word_at c (r1 2 - 1) (omega arith) (omega arith) in
      let down : (r1 2 + (2 ^ 32 - 1)) % 2 ^ 32 ≡ r1 2 - 1 = omega arith in
      let laid' = laid_push P i c.m (r1 1) (r1 2) ctrl1 temp1 areas laid (r1 2 - 1) x (omega arith) (omega arith) in
      into_memory Move no_flags PreDecrement 2 (r1 2 - 1) old.0 (with_register r1 2 (r1 2 - 1)) c from w (omega arith) (rw down refl) (rw down refl) old.1 laid'

  -- `MOVE -(r1),a`: a word pushed on the control stack
  pub push_ctrl : (c : RunsTo P n s r fl ctrl temp areas) → ReadsOperand P c.m r fl areas a x r1 ctrl1 temp1 → CodeWord P (r 15) (mov (push 1) a)
      → P.ctrl_at < r1 1 → RunsTo P (n + 1) s (with_register r1 1 (r1 1 - 1)) fl (x ∷ ctrl1) temp1 areas
  push_ctrl c from w room =
      let i = c.is in
      let laid = from.laid in
      let old = some_word_at c (r1 1 - 1) (omega arith) (omega arith) in
      let down : (r1 1 + (2 ^ 32 - 1)) % 2 ^ 32 ≡ r1 1 - 1 = omega arith in
      let laid' = laid_push_ctrl P i c.m (r1 1) (r1 2) ctrl1 temp1 areas laid (r1 1 - 1) x (omega arith) (omega arith) in
      into_memory Move no_flags PreDecrement 1 (r1 1 - 1) old.0 (with_register r1 1 (r1 1 - 1)) c from w (omega arith) (rw down refl) (rw down refl) old.1 laid'

  -- `MOVE (r3),a`, where r3 points at the k-th word of the temporary stack, of the control stack, or of the areas
  pub into_temp : (k : ℕ) (c : RunsTo P n s r fl ctrl temp areas) → ReadsOperand P c.m r fl areas a x r1 ctrl1 temp1 → CodeWord P (r 15) (mov (at 3) a)
      → r1 3 ≡ r1 2 + k → k < length temp1 → RunsTo P (n + 1) s r1 fl ctrl1 (slice_set temp1 k x) areas
  into_temp k c from w e below =
      let i = c.is in
      let laid = from.laid in
      let old = some_word_at c (r1 3) (omega arith) (omega arith) in
      let laid' = laid_temp P i c.m (r1 1) (r1 2) ctrl1 temp1 areas laid (r1 3) k x e below in
      into_memory Move no_flags Indirect 3 (r1 3) old.0 r1 c from w (omega arith) refl refl old.1 laid'

  pub into_ctrl : (k : ℕ) (c : RunsTo P n s r fl ctrl temp areas) → ReadsOperand P c.m r fl areas a x r1 ctrl1 temp1 → CodeWord P (r 15) (mov (at 3) a)
      → r1 3 ≡ r1 1 + k → k < length ctrl1 → RunsTo P (n + 1) s r1 fl (slice_set ctrl1 k x) temp1 areas
  into_ctrl k c from w e below =
      let i = c.is in
      let laid = from.laid in
      let old = some_word_at c (r1 3) (omega arith) (omega arith) in
      let laid' = laid_ctrl P i c.m (r1 1) (r1 2) ctrl1 temp1 areas laid (r1 3) k x e below in
      into_memory Move no_flags Indirect 3 (r1 3) old.0 r1 c from w (omega arith) refl refl old.1 laid'

  pub into_areas : (k : ℕ) (c : RunsTo P n s r fl ctrl temp areas) → ReadsOperand P c.m r fl areas a x r1 ctrl1 temp1 → CodeWord P (r 15) (mov (at 3) a)
      → r1 3 ≡ P.areas_at + k → k < length areas → RunsTo P (n + 1) s r1 fl ctrl1 temp1 (slice_set areas k x)
  into_areas k c from w e below =
      let i = c.is in
      let laid = from.laid in
      let old = some_word_at c (r1 3) (omega arith) (omega arith) in
      let laid' = laid_areas P i c.m (r1 1) (r1 2) ctrl1 temp1 areas laid (r1 3) k x e below in
      into_memory Move no_flags Indirect 3 (r1 3) old.0 r1 c from w (omega arith) refl refl old.1 laid'

module _ {P : Parts} {n : ℕ} {s : Fm} {r : ℕ → ℕ} {fl : Flags} {ctrl temp areas : List ℕ} {a : OperandA} {x y : ℕ} {r1 : ℕ → ℕ} {ctrl1 temp1 : List ℕ} where
  -- `OP{set} (r2),a`: the top of the temporary stack replaced by a result
  pub into_top : (op : Op) (set : Flags) (c : RunsTo P n s r fl ctrl temp areas) → ReadsOperand P c.m r fl areas a x r1 ctrl1 (y ∷ temp1)
      → CodeWord P (r 15) (setting set op (at 2) a) → RunsTo P (n + 1) s r1 (flags_set set fl (alu_of op fl.c x y)) ctrl1
      ((alu_of op fl.c x y).word ∷ temp1) areas
  into_top op set c from w =
      let laid' = laid_temp P c.is c.m (r1 1) (r1 2) ctrl1 (y ∷ temp1) areas from.laid (r1 2) 0 (alu_of op fl.c x y).word (omega arith) (omega arith) in
      into_memory op set Indirect 2 (r1 2) y r1 c from w (omega arith) refl refl from.laid.temp_at.0 laid'

module _ {P : Parts} {n : ℕ} {s : Fm} {r : ℕ → ℕ} {fl : Flags} {ctrl temp areas : List ℕ} where
  -- `MOVE[k] r15,=X`: a jump where the condition holds
  pub jump_when : {x : ℕ} (k : Cc) (c : RunsTo P n s r fl ctrl temp areas) → CodeWord P (r 15) (when k Move (reg 15) literal) → CodeWord P (r 15 + 1) x
      → RunsTo P (n + 1) s (with_register (past r) 15 (if does_hold k fl then x else r 15 + 1 + 1)) fl ctrl temp areas
  jump_when {x} k c w w' = by_test (does_hold k fl) refl
    where
      by_test : (t : Bool) → does_hold k fl ≡ t → RunsTo P (n + 1) s (with_register (past r) 15 (if t then x else r 15 + 1 + 1)) fl ctrl temp areas
      by_test true h =
          conditional k Register 15 (r 15 + 1 + 1) true (with_register (past r) 15 x) c.m c (from_literal c w') w (omega arith) h refl refl c.laid
      by_test false h =
          conditional k Register 15 (r 15 + 1 + 1) false (with_register (past r) 15 (r 15 + 1 + 1)) c.m c (from_literal c w') w (omega arith) h refl refl c.laid

  -- `MOVE[k] (r2),#1`: the top of the temporary stack 1 where the condition holds
  pub one_when : {y : ℕ} (k : Cc) (c : RunsTo P n s r fl ctrl (y ∷ temp) areas) → CodeWord P (r 15) (when k Move (at 2) (immediate 1))
      → RunsTo P (n + 1) s (next r) fl ctrl ((if does_hold k fl then 1 else y) ∷ temp) areas
  one_when {y} k c w = by_test (does_hold k fl) refl
    where
      top : word_at P.base c.m (r 2) ≡ Some y
      top = c.laid.temp_at.0

      by_test : (t : Bool) → does_hold k fl ≡ t → RunsTo P (n + 1) s (next r) fl ctrl ((if t then 1 else y) ∷ temp) areas
      by_test true h =
          let laid' = laid_temp P c.is c.m (r 1) (r 2) ctrl (y ∷ temp) areas c.laid (r 2) 0 1 (omega arith) (omega arith) in
          conditional k Indirect 2 y true (next r) (with_word P.base c.m (r 2) 1) c (from_immediate 1 c (omega arith)) w (omega arith) h
          (found P.base c.m (r 2) y top) (kept (state_of P.base (next r) fl c.m) (r 2) 1 y top) laid'
      by_test false h =
          conditional k Indirect 2 y false (next r) c.m c (from_immediate 1 c (omega arith)) w (omega arith) h (found P.base c.m (r 2) y top) refl c.laid

module _ {P : Parts} {n : ℕ} {s : Fm} {r : ℕ → ℕ} {fl : Flags} {ctrl temp areas : List ℕ} {a : OperandA} {x : ℕ} {r1 : ℕ → ℕ} {ctrl1 temp1 : List ℕ} where
  -- `OP r2,a` and `OP r1,a`: the words xs dropped from a stack
  pub into_r2 : (op : Op) (xs : List ℕ) (c : RunsTo P n s r fl ctrl temp areas) → ReadsOperand P c.m r fl areas a x r1 ctrl1 (xs ++ temp1)
      → CodeWord P (r 15) (always op (reg 2) a) → (alu_of op fl.c x (r1 2)).word ≡ length xs + r1 2
      → RunsTo P (n + 1) s (with_register r1 2 (alu_of op fl.c x (r1 2)).word) fl ctrl1 temp1 areas
  into_r2 op xs c from w e =
      into_register op no_flags 2 c from w (omega arith) (laid_drop P c.m (r1 1) (r1 2) xs ctrl1 temp1 areas _ e from.laid)

  pub into_r1 : (op : Op) (xs : List ℕ) (c : RunsTo P n s r fl ctrl temp areas) → ReadsOperand P c.m r fl areas a x r1 (xs ++ ctrl1) temp1
      → CodeWord P (r 15) (always op (reg 1) a) → (alu_of op fl.c x (r1 1)).word ≡ length xs + r1 1
      → RunsTo P (n + 1) s (with_register r1 1 (alu_of op fl.c x (r1 1)).word) fl ctrl1 temp1 areas
  into_r1 op xs c from w e =
      into_register op no_flags 1 c from w (omega arith) (laid_drop_ctrl P c.m (r1 1) (r1 2) xs ctrl1 temp1 areas _ e from.laid)
