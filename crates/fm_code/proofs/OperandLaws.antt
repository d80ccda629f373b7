-- A step at an instruction of the code: the values of its operands, and where its result goes.
use Rattle.std.proofs.Common.{◌≡◌, ◌≢◌, ℕ, ◌+◌, ◌-◌, ◌%◌, ◌^◌, ◌<◌, ◌≤◌, Ok, Some, Bool, true, false, List, ◌∷◌, refl, ap, ◌∙◌, subst, arith, rules}
use Rattle.std.{specs.Prelude.{if◌then◌else◌, slice_index, is_some}, proofs.lemmas.Int.ints, proofs.lemmas.Option.slice_get_within}
use Rattle.fm_words.{specs.declared.operation.Op.Op, specs.declared.operation.Op.TheVariants.Move, specs.declared.condition.Cc.Cc}
use Rattle.fm_words.{specs.declared.condition.Cc.TheVariants.Al, specs.declared.condition.Flags.Flags, specs.declared.instruction.Mode.Mode}
use Rattle.fm_words.{specs.declared.instruction.OperandA.OperandA, specs.declared.instruction.OperandA.TheVariants.Place}
use Rattle.fm_words.{specs.declared.instruction.Instr.Instr, specs.Alu.{alu_of, does_hold}, specs.Code.no_flags, specs.Encoding.{encode_of, IsInstr, IsOperand}}
use Rattle.fm_words.proofs.FieldLaws.{decode_encode}
use Rattle.fm_machine.{specs.State.{Fm, word_at, with_word}, specs.Step.{fm_step, found_word, effect_of, effect_of_values, value_a, value_at, value_b}}
use Rattle.fm_machine.{specs.Step.{registers_after, registers_after_a, address_of, reads_b, flags_set, store_result, store_at_if, then_on}, specs.Run.fm_run}
use Rattle.fm_machine.{specs.Run.Avoids, proofs.RunLaws.{run_more, avoids_more}, proofs.StepLaws.{unread, ending}, proofs.WindowLaws.some_word}
use Rattle.fm_code.{specs.InstructionWords.{instruction, when, setting, reg, at, pop, immediate, literal, literal_at}, specs.Execution.{Parts, AreParts}}
use Rattle.fm_code.{specs.Execution.{IsLaidOut, code_words, final_pc, CodeWord}, proofs.ListLaws.get_front, proofs.HoldsLaws.Holds-get}
use Rattle.fm_code.{proofs.LayoutLaws.{laid_pop, laid_pop_ctrl}, proofs.RegisterLaws.{registers_of, with_register, next, past, index_of, set_of}}

-- the state of these registers and flags, with the window m
abbrev pub state_of : ℕ → (ℕ → ℕ) → Flags → List ℕ → Fm
state_of base r fl m = record { base = base; registers = registers_of r; flags = fl; memory = m }

-- After n steps from s the machine has these registers and flags, and its window is laid out with these words on both
-- stacks, from their tops, and in the areas. Before that its pc was never the final one.
pub record RunsTo (P : Parts) (n : ℕ) (s : Fm) (r : ℕ → ℕ) (fl : Flags) (ctrl temp areas : List ℕ) : Type 0 where
  pub m : List ℕ
  pub is : AreParts P
  pub runs : fm_run n s ≡ Ok (state_of P.base r fl m)
  pub avoids : Avoids s (final_pc P) n
  pub laid : IsLaidOut P m (r 1) (r 2) ctrl temp areas

-- the final pc run after the code
not_final : {P : Parts} {pc w : ℕ} → CodeWord P pc w → pc ≢ final_pc P
not_final {P} {pc} {w} there e =
    let k = slice_get_within P.code (pc - P.base) w there.found in
    let above = there.above in
    omega arith

-- what the machine reads at a word of the code, and that the next address is a 32-bit number
pub record Fetch (P : Parts) (m : List ℕ) (pc w : ℕ) : Type 0 where
  pub is : word_at P.base m pc ≡ Some w
  pub up : (pc + 1) % 2 ^ 32 ≡ pc + 1

module _ {P : Parts} {n : ℕ} {s : Fm} {r : ℕ → ℕ} {fl : Flags} {ctrl temp areas : List ℕ} where
  -- one step more, at a word of the code
  pub one_step_more : (c : RunsTo P n s r fl ctrl temp areas) (r' : ℕ → ℕ) (fl' : Flags) (m' : List ℕ) {ctrl' temp' areas' : List ℕ} {w : ℕ}
      → CodeWord P (r 15) w → fm_step (state_of P.base r fl c.m) ≡ Ok (state_of P.base r' fl' m') → IsLaidOut P m' (r' 1) (r' 2) ctrl' temp' areas'
      → RunsTo P (n + 1) s r' fl' ctrl' temp' areas'
  one_step_more c r' fl' m' there e laid' =
      record {
        m = m';
        is = c.is;
        runs = run_more n s (state_of P.base r fl c.m) (Ok (state_of P.base r' fl' m')) c.runs e;
        avoids = avoids_more s (state_of P.base r fl c.m) (final_pc P) n c.runs (not_final there) c.avoids;
        laid = laid';
      }

  -- the word of the code there is read
  pub fetch : {pc w : ℕ} (c : RunsTo P n s r fl ctrl temp areas) → CodeWord P pc w → Fetch P c.m pc w
  fetch {pc = pc} {w = w} c there =
      let above = there.above in
      let e : P.base + (pc - P.base) ≡ pc = omega arith in
      let h = Holds-get P.base c.m P.base (pc - P.base) w (code_words P) (get_front P.code _ _ w there.found) c.laid.code in
      let k = slice_get_within P.code (pc - P.base) w there.found in
      let i = c.is in
      record { is = subst (λ a. word_at P.base c.m a ≡ Some w) e h; up = omega arith }

  -- each address of the window is read
  pub some_word_at : (c : RunsTo P n s r fl ctrl temp areas) (a : ℕ) → P.base ≤ a → a < P.end → (u : ℕ) × (word_at P.base c.m a ≡ Some u)
  some_word_at c a p q =
      let e = c.laid.size in some_word P.base c.m a p (omega arith)

  -- a step at an instruction of the code
  step_at : (c : RunsTo P n s r fl ctrl temp areas) (i : Instr) → IsInstr i → CodeWord P (r 15) (encode_of i)
      → fm_step (state_of P.base r fl c.m) ≡ effect_of (state_of P.base r fl c.m) i (registers_of (next r))
  step_at c i is w =
      let f = fetch c w in
      rw (f.is, f.up) (ap (λ j. effect_of (state_of P.base r fl c.m) j (registers_of (next r))) (decode_encode i is))

-- an instruction whose second operand has a value, read or not
read_or_not : (s : Fm) (i : Instr) (rs : List ℕ) (x y : ℕ) → value_at s (address_of i.mode_b i.reg_b rs) (slice_index rs i.reg_b) ≡ Ok y
    → then_on (value_b s i rs) (λ b. effect_of_values s i rs x b) ≡ effect_of_values s i rs x y
read_or_not s i rs x y e = by_op (reads_b i.op) refl
  where
    by_op : (t : Bool) → reads_b i.op ≡ t → then_on (if t then value_at s (address_of i.mode_b i.reg_b rs) (slice_index rs i.reg_b) else Ok 0)
        (λ b. effect_of_values s i rs x b) ≡ effect_of_values s i rs x y
    by_op true h = ap (λ v. then_on v (λ b. effect_of_values s i rs x b)) e
    by_op false h = ap (ending s i rs) (unread i.op s.flags.c x 0 y h)

-- an instruction from the values of its operands
acts : (s : Fm) (i : Instr) (rs rs1 : List ℕ) (x y : ℕ) → value_a s i.a rs ≡ Ok x → registers_after_a i.a rs ≡ rs1
    → value_at s (address_of i.mode_b i.reg_b rs1) (slice_index rs1 i.reg_b) ≡ Ok y → effect_of s i rs ≡ effect_of_values s i rs1 x y
acts s i rs rs1 x y ea ep eb =
    ap (λ v. then_on v (λ a. then_on (value_b s i (registers_after_a i.a rs)) (λ b. effect_of_values s i (registers_after_a i.a rs) a b))) ea
    ∙ ap (λ q. then_on (value_b s i q) (λ b. effect_of_values s i q x b)) ep ∙ read_or_not s i rs1 x y eb

-- a word that is read
pub found : (base : ℕ) (m : List ℕ) (a x : ℕ) → word_at base m a ≡ Some x → found_word (word_at base m a) a ≡ Ok x
found base m a x e = ap (λ o. found_word o a) e

-- a word that is stored
pub kept : (t : Fm) (a w y : ℕ) → word_at t.base t.memory a ≡ Some y → store_at_if (is_some (word_at t.base t.memory a)) t a w
    ≡ Ok record t { memory = with_word t.base t.memory a w }
kept t a w y e = ap (λ o. store_at_if (is_some o) t a w) e

-- What the operand a gives when it is read after the fetch of its instruction: the value x, and then these registers and
-- words on both stacks.
pub record ReadsOperand (P : Parts) (m : List ℕ) (r : ℕ → ℕ) (fl : Flags) (areas : List ℕ) (a : OperandA) (x : ℕ) (r1 : ℕ → ℕ)
    (ctrl1 temp1 : List ℕ) : Type 0 where
  pub fits : IsOperand a
  pub value : value_a (state_of P.base r fl m) a (registers_of (next r)) ≡ Ok x
  pub passed : registers_after_a a (registers_of (next r)) ≡ registers_of r1
  pub laid : IsLaidOut P m (r1 1) (r1 2) ctrl1 temp1 areas

module _ {P : Parts} {n : ℕ} {s : Fm} {r : ℕ → ℕ} {fl : Flags} {ctrl temp areas : List ℕ} where
  -- `#1`
  pub from_immediate : (k : ℕ) (c : RunsTo P n s r fl ctrl temp areas) → k < 256 → ReadsOperand P c.m r fl areas (immediate k) k (next r) ctrl temp
  from_immediate k c h =
      record { fits = number_fits k h; value = refl; passed = refl; laid = c.laid }
    where
      number_fits : (k : ℕ) → k < 256 → IsOperand (immediate k)
      number_fits k h = (search rules, grind (arith, ints))

  -- `=X`
  pub from_literal : {x : ℕ} (c : RunsTo P n s r fl ctrl temp areas) → CodeWord P (r 15 + 1) x → ReadsOperand P c.m r fl areas literal x (past r) ctrl temp
  from_literal {x} c w =
      let f = fetch c w in
      record { fits = omega arith; value = found P.base c.m (r 15 + 1) x f.is; passed = rw f.up refl; laid = c.laid }

  -- `@X`
  pub from_literal_at : {x : ℕ} (c : RunsTo P n s r fl ctrl temp areas) → CodeWord P (r 15 + 1) x
      → ReadsOperand P c.m r fl areas literal_at x (next r) ctrl temp
  from_literal_at {x} c w =
      let f = fetch c w in
      record { fits = omega arith; value = found P.base c.m (r 15 + 1) x f.is; passed = refl; laid = c.laid }

  -- `r3`
  pub from_register : (k : ℕ) (c : RunsTo P n s r fl ctrl temp areas) → k < 16 → ReadsOperand P c.m r fl areas (reg k) (next r k) (next r) ctrl temp
  from_register k c h =
      record { fits = h; value = ap Ok (index_of k (next r) h); passed = refl; laid = c.laid }

  -- `(r3)`, of which the word is known
  pub from_address : (k a : ℕ) {x : ℕ} (c : RunsTo P n s r fl ctrl temp areas) → k < 16 → next r k ≡ a → word_at P.base c.m a ≡ Some x
      → ReadsOperand P c.m r fl areas (at k) x (next r) ctrl temp
  from_address k a {x} c h e there =
      record {
        fits = h;
        value = ap (λ b. found_word (word_at P.base c.m b) b) (index_of k (next r) h ∙ e) ∙ found P.base c.m a x there;
        passed = refl;
        laid = c.laid;
      }

  -- `(r2)`, the top of the temporary stack
  pub from_top : {x : ℕ} (c : RunsTo P n s r fl ctrl (x ∷ temp) areas) → ReadsOperand P c.m r fl areas (at 2) x (next r) ctrl (x ∷ temp)
  from_top {x} c =
      record { fits = omega arith; value = found P.base c.m (r 2) x c.laid.temp_at.0; passed = refl; laid = c.laid }

  -- `(r2)+`, which pops it
  pub from_pop : {x : ℕ} (c : RunsTo P n s r fl ctrl (x ∷ temp) areas) → ReadsOperand P c.m r fl areas (pop 2) x (with_register (next r) 2 (r 2 + 1)) ctrl temp
  from_pop {x} c =
      let i = c.is in
      let laid = c.laid in
      let up : (r 2 + 1) % 2 ^ 32 ≡ r 2 + 1 = omega arith in
      record {
        fits = omega arith;
        value = found P.base c.m (r 2) x c.laid.temp_at.0;
        passed = rw up refl;
        laid = laid_pop P c.m _ _ _ _ _ _ c.laid;
      }

  -- `(r1)+`, which pops the control stack
  pub from_ctrl : {x : ℕ} (c : RunsTo P n s r fl (x ∷ ctrl) temp areas) → ReadsOperand P c.m r fl areas (pop 1) x (with_register (next r) 1 (r 1 + 1)) ctrl temp
  from_ctrl {x} c =
      let i = c.is in
      let laid = c.laid in
      let up : (r 1 + 1) % 2 ^ 32 ≡ r 1 + 1 = omega arith in
      record {
        fits = omega arith;
        value = found P.base c.m (r 1) x c.laid.ctrl_at.0;
        passed = rw up refl;
        laid = laid_pop_ctrl P c.m _ _ _ _ _ _ c.laid;
      }

module _ {P : Parts} {n : ℕ} {s : Fm} {r : ℕ → ℕ} {fl : Flags} {ctrl temp areas : List ℕ} {a : OperandA} {x : ℕ} {r1 : ℕ → ℕ} {ctrl1 temp1 : List ℕ} where
  -- the result into a register, `OP{set} r3,a`
  pub into_register : (op : Op) (set : Flags) (k : ℕ) {ctrl' temp' : List ℕ} (c : RunsTo P n s r fl ctrl temp areas)
      → ReadsOperand P c.m r fl areas a x r1 ctrl1 temp1 → CodeWord P (r 15) (setting set op (reg k) a) → k < 16
      → (let r' = with_register r1 k (alu_of op fl.c x (r1 k)).word in IsLaidOut P c.m (r' 1) (r' 2) ctrl' temp' areas)
      → RunsTo P (n + 1) s (with_register r1 k (alu_of op fl.c x (r1 k)).word) (flags_set set fl (alu_of op fl.c x (r1 k))) ctrl' temp' areas
  into_register op set k c from w h laid' =
      let i = instruction op Al set (reg k) a in
      let out = alu_of op fl.c x (r1 k) in
      let fl' = flags_set set fl out in
      let step = step_at c i (h, from.fits) w in
      let act = acts (state_of P.base r fl c.m) i (registers_of (next r)) (registers_of r1) x (r1 k) from.value from.passed (ap Ok (index_of k r1 h)) in
      let stored : effect_of_values (state_of P.base r fl c.m) i (registers_of r1) x (r1 k)
      ≡ Ok (state_of P.base (with_register r1 k out.word) fl' c.m) =
      ap (λ rs. Ok record { base = P.base; registers = rs; flags = fl'; memory = c.m }) (set_of k out.word r1 h) in
      one_step_more c (with_register r1 k out.word) fl' c.m w (step ∙ act ∙ stored) laid'

  -- the result into memory, at the address d of the target b, where the word was y
  pub into_memory : (op : Op) (set : Flags) (mode : Mode) (k d y : ℕ) (r' : ℕ → ℕ) {ctrl' temp' areas' : List ℕ} (c : RunsTo P n s r fl ctrl temp areas)
      → ReadsOperand P c.m r fl areas a x r1 ctrl1 temp1 → CodeWord P (r 15) (setting set op (Place mode k) a) → k < 16
      → address_of mode k (registers_of r1) ≡ Some d → registers_after mode k (registers_of r1) ≡ registers_of r' → word_at P.base c.m d ≡ Some y
      → IsLaidOut P (with_word P.base c.m d (alu_of op fl.c x y).word) (r' 1) (r' 2) ctrl' temp' areas'
      → RunsTo P (n + 1) s r' (flags_set set fl (alu_of op fl.c x y)) ctrl' temp' areas'
  into_memory op set mode k d y r' c from w h ed ep there laid' =
      let i = instruction op Al set (Place mode k) a in
      let out = alu_of op fl.c x y in
      let fl' = flags_set set fl out in
      let state = state_of P.base r fl c.m in
      let step = step_at c i (h, from.fits) w in
      let old : value_at state (address_of mode k (registers_of r1)) (slice_index (registers_of r1) k) ≡ Ok y =
      ap (λ o. value_at state o (slice_index (registers_of r1) k)) ed ∙ found P.base c.m d y there in
      let act = acts state i (registers_of (next r)) (registers_of r1) x y from.value from.passed old in
      let placed : effect_of_values state i (registers_of r1) x y ≡ store_result
      record { base = P.base; registers = registers_of r'; flags = fl'; memory = c.m } (Some d) k out.word =
      λ t. store_result record { base = P.base; registers = ep t; flags = fl'; memory = c.m } (ed t) k out.word in
      one_step_more c r' fl' (with_word P.base c.m d out.word) w (step ∙ act ∙ placed ∙ kept (state_of P.base r' fl' c.m) d out.word y there) laid'

module _ {P : Parts} {n : ℕ} {s : Fm} {r : ℕ → ℕ} {fl : Flags} {ctrl temp areas : List ℕ} {a : OperandA} {x : ℕ} {r1 : ℕ → ℕ} {ctrl1 temp1 : List ℕ} where
  -- a word moved where a condition holds of the flags, `MOVE[k] b,a`, whose second operand has the word y
  pub conditional : (k : Cc) (mode : Mode) (b y : ℕ) (t : Bool) (r' : ℕ → ℕ) (m' : List ℕ) {ctrl' temp' areas' : List ℕ}
      (c : RunsTo P n s r fl ctrl temp areas) → ReadsOperand P c.m r fl areas a x r1 ctrl1 temp1 → CodeWord P (r 15) (when k Move (Place mode b) a)
      → b < 16 → does_hold k fl ≡ t → value_at (state_of P.base r fl c.m) (address_of mode b (registers_of r1)) (slice_index (registers_of r1) b) ≡ Ok y
      → (let after : Fm = record { base = P.base; registers = registers_after mode b (registers_of r1); flags = fl; memory = c.m } in
      (if t then store_result after (address_of mode b (registers_of r1)) b x else Ok after) ≡ Ok (state_of P.base r' fl m'))
      → IsLaidOut P m' (r' 1) (r' 2) ctrl' temp' areas' → RunsTo P (n + 1) s r' fl ctrl' temp' areas'
  conditional k mode b y t r' m' c from w h is old last laid' =
      let i = instruction Move k no_flags (Place mode b) a in
      let state = state_of P.base r fl c.m in
      let step = step_at c i (h, from.fits) w in
      let act = acts state i (registers_of (next r)) (registers_of r1) x y from.value from.passed old in
      let after : Fm = record { base = P.base; registers = registers_after mode b (registers_of r1); flags = fl; memory = c.m } in
      let test : effect_of_values state i (registers_of r1) x y
      ≡ (if t then store_result after (address_of mode b (registers_of r1)) b x else Ok after) =
      ap (λ u. if u then store_result after (address_of mode b (registers_of r1)) b x else Ok after) is in
      one_step_more c r' fl m' w (step ∙ act ∙ test ∙ last) laid'
