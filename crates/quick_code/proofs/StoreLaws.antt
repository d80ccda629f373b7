-- A step at an instruction that stores in a register if a condition holds.
use Rattle.std.{proofs.Common.{◌≡◌, ℕ, ◌+◌, ◌<◌, Ok, Bool, true, false, List, refl, ap, ◌∙◌}, specs.Prelude.{if◌then◌else◌, slice_index}}
use Rattle.fm_words.{specs.declared.operation.Op.Op, specs.declared.condition.Cc.Cc, specs.declared.condition.Flags.Flags}
use Rattle.fm_words.{specs.declared.instruction.OperandA.OperandA, specs.declared.instruction.Instr.Instr, specs.Alu.{alu_of, does_hold}}
use Rattle.fm_words.{specs.Encoding.encode_of, proofs.FieldLaws.decode_encode}
use Rattle.fm_machine.{specs.State.Fm, specs.Step.{fm_step, effect_of, effect_of_values, value_a, value_at, value_b, registers_after_a, address_of, reads_b}}
use Rattle.fm_machine.{specs.Step.{flags_set, store_result, then_on}, proofs.StepLaws.{unread, ending}}
use Rattle.fm_code.{specs.InstructionWords.{instruction, reg}, specs.Execution.{Parts, IsLaidOut, CodeWord}, proofs.RegisterLaws.{registers_of, with_register}}
use Rattle.fm_code.{proofs.RegisterLaws.{next, index_of, set_of}, proofs.OperandLaws.{RunsTo, ReadsOperand, state_of, fetch, one_step_more}}

-- an instruction whose second operand has a value, read or not
read_or_not : (s : Fm) (i : Instr) (rs : List ℕ) (x y : ℕ) → value_at s (address_of i.mode_b i.reg_b rs) (slice_index rs i.reg_b) ≡ Ok y
    → then_on (value_b s i rs) (λ b. effect_of_values s i rs x b) ≡ effect_of_values s i rs x y
read_or_not s i rs x y e = by_op (reads_b i.op) refl
  where
    by_op : (t : Bool) → reads_b i.op ≡ t → then_on (if t then value_at s (address_of i.mode_b i.reg_b rs) (slice_index rs i.reg_b) else Ok 0)
        (λ b. effect_of_values s i rs x b) ≡ effect_of_values s i rs x y
    by_op true h = ap (λ v. then_on v (λ b. effect_of_values s i rs x b)) e
    by_op false h = ap (ending s i rs) (unread i.op s.flags.c x 0 y h)

-- an instruction from the values of its operands
acts : (s : Fm) (i : Instr) (rs rs1 : List ℕ) (x y : ℕ) → value_a s i.a rs ≡ Ok x → registers_after_a i.a rs ≡ rs1
    → value_at s (address_of i.mode_b i.reg_b rs1) (slice_index rs1 i.reg_b) ≡ Ok y → effect_of s i rs ≡ effect_of_values s i rs1 x y
acts s i rs rs1 x y ea ep eb =
    ap (λ v. then_on v (λ a. then_on (value_b s i (registers_after_a i.a rs)) (λ b. effect_of_values s i (registers_after_a i.a rs) a b))) ea
    ∙ ap (λ q. then_on (value_b s i q) (λ b. effect_of_values s i q x b)) ep ∙ read_or_not s i rs1 x y eb

module _ {P : Parts} {n : ℕ} {s : Fm} {r : ℕ → ℕ} {fl : Flags} {ctrl temp areas : List ℕ} {a : OperandA} {x : ℕ} {r1 : ℕ → ℕ} {ctrl1 temp1 : List ℕ} where
  -- `OP[cc]{set} rk,a`: the flags are set in any case
  step_when : (op : Op) (cc : Cc) (set : Flags) (k : ℕ) (t : Bool) (c : RunsTo P n s r fl ctrl temp areas)
      → ReadsOperand P c.m r fl areas a x r1 ctrl1 temp1 → CodeWord P (r 15) (encode_of (instruction op cc set (reg k) a)) → k < 16 → does_hold cc fl ≡ t
      → (let out = alu_of op fl.c x (r1 k) in
      let after : Fm = record { base = P.base; registers = registers_of r1; flags = flags_set set fl out; memory = c.m } in
      fm_step (state_of P.base r fl c.m)
      ≡ (if t then store_result after (address_of (instruction op cc set (reg k) a).mode_b k (registers_of r1)) k out.word else Ok after))
  step_when op cc set k t c from w h holds =
      let i = instruction op cc set (reg k) a in
      let state = state_of P.base r fl c.m in
      let out = alu_of op fl.c x (r1 k) in
      let after : Fm = record { base = P.base; registers = registers_of r1; flags = flags_set set fl out; memory = c.m } in
      let f = fetch c w in
      let at_code : fm_step state ≡ effect_of state i (registers_of (next r)) =
      rw (f.is, f.up) (ap (λ j. effect_of state j (registers_of (next r))) (decode_encode i (h, from.fits))) in
      at_code ∙ acts state i (registers_of (next r)) (registers_of r1) x (r1 k) from.value from.passed (ap Ok (index_of k r1 h))
      ∙ ap (λ (b : Bool). if b then store_result after (address_of i.mode_b k (registers_of r1)) k out.word else Ok after) holds

  pub stores_when : (op : Op) (cc : Cc) (set : Flags) (k : ℕ) (c : RunsTo P n s r fl ctrl temp areas)
      → ReadsOperand P c.m r fl areas a x r1 ctrl1 temp1 → CodeWord P (r 15) (encode_of (instruction op cc set (reg k) a)) → k < 16 → does_hold cc fl ≡ true
      → (let r' = with_register r1 k (alu_of op fl.c x (r1 k)).word in IsLaidOut P c.m (r' 1) (r' 2) ctrl1 temp1 areas)
      → RunsTo P (n + 1) s (with_register r1 k (alu_of op fl.c x (r1 k)).word) (flags_set set fl (alu_of op fl.c x (r1 k))) ctrl1 temp1 areas
  stores_when op cc set k c from w h holds laid =
      let out = alu_of op fl.c x (r1 k) in
      let fl' = flags_set set fl out in
      one_step_more c (with_register r1 k out.word) fl' c.m w
      (step_when op cc set k true c from w h holds
      ∙ ap (λ rs. Ok record { base = P.base; registers = rs; flags = fl'; memory = c.m }) (set_of k out.word r1 h)) laid

  pub skips_when : (op : Op) (cc : Cc) (set : Flags) (k : ℕ) (c : RunsTo P n s r fl ctrl temp areas)
      → ReadsOperand P c.m r fl areas a x r1 ctrl1 temp1 → CodeWord P (r 15) (encode_of (instruction op cc set (reg k) a)) → k < 16 → does_hold cc fl ≡ false
      → RunsTo P (n + 1) s r1 (flags_set set fl (alu_of op fl.c x (r1 k))) ctrl1 temp1 areas
  skips_when op cc set k c from w h holds =
      one_step_more c r1 (flags_set set fl (alu_of op fl.c x (r1 k))) c.m w (step_when op cc set k false c from w h holds) from.laid
