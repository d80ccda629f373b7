-- What each piece does, by the laws of single instructions.
use Rattle.std.proofs.Common.{◌≡◌, ℕ, zero, suc, ◌+◌, ◌-◌, ◌<◌, Some, Ok, Bool, true, false, List, [], ◌∷◌, length, refl, ap, ◌∙◌, subst, arith, length-append}
use Rattle.std.{specs.Prelude.{if◌then◌else◌, reverse, slice_get, slice_set, slice_index}, proofs.lemmas.List.{length-reverse, length-set}}
use Rattle.fm_words.{specs.declared.operation.Op.Op, specs.declared.operation.Op.TheVariants.Move, specs.declared.condition.Cc.Cc}
use Rattle.fm_words.{specs.declared.condition.Flags.Flags, specs.declared.instruction.Mode.TheVariants.Indirect, specs.declared.instruction.OperandA.OperandA}
use Rattle.fm_words.{specs.Alu.{alu_of, does_hold}, specs.Code.no_flags}
use Rattle.fm_machine.{specs.State.{Fm, word_at, with_word}, specs.Step.{flags_set, found_word, store_at}}
use Rattle.fm_code.{specs.Execution.{Parts, CodeAt, CodeWord}, specs.InstructionWords.{reg, at, immediate, literal, mov, setting, when}}
use Rattle.fm_code.{proofs.CodeLaws.{code_front, code_after}, proofs.LayoutLaws.laid_temp, proofs.RegisterLaws.{index_of, registers_of, with_register, next}}
use Rattle.fm_code.{proofs.RegisterLaws.past, proofs.OperandLaws.{RunsTo, ReadsOperand, state_of, found, kept, some_word_at, into_memory, conditional}}
use Rattle.fm_code.{proofs.OperandLaws.{from_immediate, from_literal, from_literal_at, from_register}, specs.Templates.jump_code}
use Rattle.fm_code.proofs.TargetLaws as target
use Rattle.quick_code.{specs.Access.{Access, Held, register_of, find_code, find_count}, specs.Moments.{Now, Does, Jumps}, specs.Pieces.by_word_code}
use Rattle.quick_code.specs.Pieces.{by_literal_code, store_code, store_literal_code, truth_code, move_code, put_code, jump_when_code, set_area_code}
use Rattle.quick_code.{specs.PieceRows.{LeadsTo, PieceRows, operated, with_var}, proofs.StackLaws.set_from_bottom, proofs.StandLaws.{At, other, does, jumps}}
use Rattle.quick_code.{proofs.ReachLaws.{untouched, at_of, find, reads}, proofs.ProductLaws.product_row}

-- `MOVE (rk),a`, where rk has the address of a variable's word
into_var : {P : Parts} {n : ℕ} {s : Fm} {r : ℕ → ℕ} {fl : Flags} {ctrl areas : List ℕ} {o : OperandA} {v : ℕ} {r1 : ℕ → ℕ} (vars : List ℕ) (k i : ℕ)
    (c : RunsTo P n s r fl ctrl (reverse vars) areas) → ReadsOperand P c.m r fl areas o v r1 ctrl (reverse vars) → CodeWord P (r 15) (mov (at k) o)
    → k < 15 → r1 k ≡ P.end - 1 - i → i < length vars → RunsTo P (n + 1) s r1 fl ctrl (reverse (slice_set vars i v)) areas
into_var {P} {n} {s} {r} {fl} {ctrl} {areas} {o} {v} {r1} vars k i c from w high e within =
    let is = c.is in
    let laid = from.laid in
    let q = length vars - 1 - i in
    let d : P.end - 1 - i ≡ r1 2 + q = omega (arith, length-reverse vars, laid.temp_end, within) in
    let below : q < length (reverse vars) = omega (arith, length-reverse vars, within) in
    let old = some_word_at c (P.end - 1 - i) (omega arith) (omega (arith, length-reverse vars, laid.temp_end, within)) in
    let laid' = laid_temp P is c.m (r1 1) (r1 2) ctrl (reverse vars) areas laid (P.end - 1 - i) q v d below in
    let c1 = into_memory Move no_flags Indirect k (P.end - 1 - i) old.0 r1 c from w (omega (arith, high))
    (ap Some (index_of k r1 (omega (arith, high)) ∙ e)) refl old.1 laid' in
    subst (λ t. RunsTo P (n + 1) s r1 fl ctrl t areas) (set_from_bottom vars i v within) c1

-- `MOVE[cc] (rk),#1`
one_when : {P : Parts} {n : ℕ} {s : Fm} {r : ℕ → ℕ} {fl : Flags} {ctrl areas : List ℕ} (vars : List ℕ) (cc : Cc) (k i : ℕ)
    (c : RunsTo P n s r fl ctrl (reverse vars) areas) → CodeWord P (r 15) (when cc Move (at k) (immediate 1))
    → k < 15 → r k ≡ P.end - 1 - i → i < length vars
    → RunsTo P (n + 1) s (next r) fl ctrl (reverse (if does_hold cc fl then slice_set vars i 1 else vars)) areas
one_when {P} {n} {s} {r} {fl} {ctrl} {areas} vars cc k i c w high e within = by_test (does_hold cc fl) refl
  where
    address : slice_index (registers_of (next r)) k ≡ P.end - 1 - i
    address = index_of k (next r) (omega (arith, high)) ∙ other r 15 (r 15 + 1) k (omega (arith, high)) ∙ e

    old : (u : ℕ) × (word_at P.base c.m (P.end - 1 - i) ≡ Some u)
    old = let is = c.is in let laid = c.laid in some_word_at c (P.end - 1 - i) (omega (arith, length-reverse vars, within)) (omega (
      arith,
      length-reverse vars,
      within,
    ))

    read : found_word (word_at P.base c.m (slice_index (registers_of (next r)) k)) (slice_index (registers_of (next r)) k) ≡ Ok old.0
    read = ap (λ b. found_word (word_at P.base c.m b) b) address ∙ found P.base c.m (P.end - 1 - i) old.0 old.1

    by_test : (t : Bool) → does_hold cc fl ≡ t → RunsTo P (n + 1) s (next r) fl ctrl (reverse (if t then slice_set vars i 1 else vars)) areas
    by_test true h =
        let laid = c.laid in
        let q = length vars - 1 - i in
        let d : P.end - 1 - i ≡ r 2 + q = omega (arith, length-reverse vars, laid.temp_end, within) in
        let below : q < length (reverse vars) = omega (arith, length-reverse vars, within) in
        let laid' = laid_temp P c.is c.m (r 1) (r 2) ctrl (reverse vars) areas laid (P.end - 1 - i) q 1 d below in
        let after_part : Fm = state_of P.base (next r) fl c.m in
        let c1 = conditional cc Indirect k old.0 true (next r) (with_word P.base c.m (P.end - 1 - i) 1) c (from_immediate 1 c (omega arith)) w (omega
        (arith, high)) h
        read (ap (λ b. store_at after_part b 1) address ∙ kept after_part (P.end - 1 - i) 1 old.0 old.1) laid' in
        subst (λ z. RunsTo P (n + 1) s (next r) fl ctrl z areas) (set_from_bottom vars i 1 within) c1
    by_test false h =
        conditional cc Indirect k old.0 false (next r) c.m c (from_immediate 1 c (omega arith)) w (omega (arith, high)) h read refl c.laid

set_twice : (xs : List ℕ) (i v w : ℕ) → slice_set (slice_set xs i v) i w ≡ slice_set xs i w
set_twice [] i v w = refl
set_twice (x ∷ xs) zero v w = refl
set_twice (x ∷ xs) (suc i) v w = ap (λ ys. x ∷ ys) (set_twice xs i v w)

chosen : (t : Bool) (xs : List ℕ) (i : ℕ) → (if t then slice_set (slice_set xs i 0) i 1 else slice_set xs i 0) ≡ slice_set xs i (if t then 1 else 0)
chosen true xs i = set_twice xs i 0 1
chosen false xs i = refl

-- the pc behind a variable's address and one or two words more
module _ {P : Parts} {table : ℕ → ℕ} {a : Now} where
  by_word : (op : Op) (set : Flags) (x : Access) (i w : ℕ) → LeadsTo P table x i → slice_get a.vars i ≡ Some w
      → Does P table (by_word_code op set x) (find_count x + 1) a (operated op set w a)
  by_word op set x i w reach there = does law
    where
      law : (ctrl : List ℕ) (s : Fm) (pc : ℕ) → At P table ctrl 0 s pc a → CodeAt P pc (by_word_code op set x)
          → At P table ctrl (find_count x + 1) s (pc + length (by_word_code op set x)) (operated op set w a)
      law ctrl s pc c code =
          let ending = setting set op (reg 3) (at (register_of x)) ∷ [] in
          let f = find x (P.end - 1 - i) reach c (code_front P pc (find_code x) ending code) in
          let words = rw (← f.here.r15_is) at (code_after P pc (find_code x) ending code) in
          let r = f.here.r in
          let c1 = target.into_r3 op set f.here.run (reads (register_of x) i w f.here f.address_is f.high there) words.0 in
          at_of (operated op set w a) c1 (omega arith) (ap (λ v. flags_set set a.fl (alu_of op a.fl.c w v)) f.here.r3_is) refl refl
          (λ k low high. untouched r (r 15 + 1) 3 (alu_of op a.fl.c w (r 3)).word k low high (omega arith) ∙ f.here.held k low high)
          (ap (λ v. (alu_of op a.fl.c w v).word) f.here.r3_is) (omega (arith, f.here.r15_is, length-append (find_code x) ending))

  by_literal : (op : Op) (set : Flags) (w : ℕ) → Does P table (by_literal_code op set w) 1 a (operated op set w a)
  by_literal op set w = does law
    where
      law : (ctrl : List ℕ) (s : Fm) (pc : ℕ) → At P table ctrl 0 s pc a → CodeAt P pc (by_literal_code op set w)
          → At P table ctrl 1 s (pc + length (by_literal_code op set w)) (operated op set w a)
      law ctrl s pc c code =
          let words = rw (← c.r15_is) at code in
          let r = c.r in
          let c1 = target.into_r3 op set c.run (from_literal c.run words.1.0) words.0 in
          at_of (operated op set w a) c1 (omega arith) (ap (λ v. flags_set set a.fl (alu_of op a.fl.c w v)) c.r3_is) refl refl
          (λ k low high. untouched r (r 15 + 1 + 1) 3 (alu_of op a.fl.c w (r 3)).word k low high (omega arith) ∙ c.held k low high)
          (ap (λ v. (alu_of op a.fl.c w v).word) c.r3_is) (omega (arith, c.r15_is))

  store : (x : Access) (i : ℕ) → LeadsTo P table x i → i < length a.vars → Does P table (store_code x) (find_count x + 1) a (with_var i a.x3 a)
  store x i reach within = does law
    where
      law : (ctrl : List ℕ) (s : Fm) (pc : ℕ) → At P table ctrl 0 s pc a → CodeAt P pc (store_code x)
          → At P table ctrl (find_count x + 1) s (pc + length (store_code x)) (with_var i a.x3 a)
      law ctrl s pc c code =
          let ending = mov (at (register_of x)) (reg 3) ∷ [] in
          let f = find x (P.end - 1 - i) reach c (code_front P pc (find_code x) ending code) in
          let words = rw (← f.here.r15_is) at (code_after P pc (find_code x) ending code) in
          let r = f.here.r in
          let c1 = into_var a.vars (register_of x) i f.here.run (from_register 3 f.here.run (omega arith)) words.0 f.high
          (other r 15 (r 15 + 1) (register_of x) (omega (arith, f.high)) ∙ f.address_is) within in
          at_of (with_var i a.x3 a) c1 (omega arith) refl (ap (λ v. reverse (slice_set a.vars i v)) f.here.r3_is) refl
          (λ k low high. other r 15 (r 15 + 1) k (omega (arith, high)) ∙ f.here.held k low high) f.here.r3_is
          (omega (arith, f.here.r15_is, length-append (find_code x) ending))

  store_literal : (x : Access) (i w : ℕ) → LeadsTo P table x i → i < length a.vars
      → Does P table (store_literal_code x w) (find_count x + 1) a (with_var i w a)
  store_literal x i w reach within = does law
    where
      law : (ctrl : List ℕ) (s : Fm) (pc : ℕ) → At P table ctrl 0 s pc a → CodeAt P pc (store_literal_code x w)
          → At P table ctrl (find_count x + 1) s (pc + length (store_literal_code x w)) (with_var i w a)
      law ctrl s pc c code =
          let ending = mov (at (register_of x)) literal ∷ w ∷ [] in
          let f = find x (P.end - 1 - i) reach c (code_front P pc (find_code x) ending code) in
          let words = rw (← f.here.r15_is) at (code_after P pc (find_code x) ending code) in
          let r = f.here.r in
          let c1 = into_var a.vars (register_of x) i f.here.run (from_literal f.here.run words.1.0) words.0 f.high
          (other r 15 (r 15 + 1 + 1) (register_of x) (omega (arith, f.high)) ∙ f.address_is) within in
          at_of (with_var i w a) c1 (omega arith) refl refl refl
          (λ k low high. other r 15 (r 15 + 1 + 1) k (omega (arith, high)) ∙ f.here.held k low high) f.here.r3_is
          (omega (arith, f.here.r15_is, length-append (find_code x) ending))

  truth : (cc : Cc) (x : Access) (i : ℕ) → LeadsTo P table x i → i < length a.vars
      → Does P table (truth_code cc x) (find_count x + 2) a (with_var i (if does_hold cc a.fl then 1 else 0) a)
  truth cc x i reach within = does law
    where
      law : (ctrl : List ℕ) (s : Fm) (pc : ℕ) → At P table ctrl 0 s pc a → CodeAt P pc (truth_code cc x)
          → At P table ctrl (find_count x + 2) s (pc + length (truth_code cc x)) (with_var i (if does_hold cc a.fl then 1 else 0) a)
      law ctrl s pc c code =
          let k = register_of x in
          let ending = mov (at k) (immediate 0) ∷ when cc Move (at k) (immediate 1) ∷ [] in
          let f = find x (P.end - 1 - i) reach c (code_front P pc (find_code x) ending code) in
          let words = rw (← f.here.r15_is) at (code_after P pc (find_code x) ending code) in
          let r = f.here.r in
          let there = other r 15 (r 15 + 1) k (omega (arith, f.high)) ∙ f.address_is in
          let c1 = into_var a.vars k i f.here.run (from_immediate 0 f.here.run (omega arith)) words.0 f.high there within in
          let c2 = one_when (slice_set a.vars i 0) cc k i c1 words.1.0 f.high there (omega (arith, length-set a.vars i 0, within)) in
          at_of (with_var i (if does_hold cc a.fl then 1 else 0) a) c2 (omega arith) refl (ap reverse (chosen (does_hold cc a.fl) a.vars i)) refl
          (λ j low high. other (next r) 15 (r 15 + 1 + 1) j (omega (arith, high)) ∙ other r 15 (r 15 + 1) j (omega (arith, high)) ∙ f.here.held j low high)
          f.here.r3_is (omega (arith, f.here.r15_is, length-append (find_code x) ending))

  moved : (x : Access) (k i j w : ℕ) → LeadsTo P table x i → i < length a.vars → k < 15
      → ((ctrl : List ℕ) (n : ℕ) (s : Fm) (pc : ℕ) (c : At P table ctrl n s pc a) → c.r k ≡ P.end - 1 - j) → slice_get a.vars j ≡ Some w
      → Does P table (move_code x k) (find_count x + 1) a (with_var i w a)
  moved x k i j w reach within high source there = does law
    where
      law : (ctrl : List ℕ) (s : Fm) (pc : ℕ) → At P table ctrl 0 s pc a → CodeAt P pc (move_code x k)
          → At P table ctrl (find_count x + 1) s (pc + length (move_code x k)) (with_var i w a)
      law ctrl s pc c code =
          let ending = mov (at (register_of x)) (at k) ∷ [] in
          let f = find x (P.end - 1 - i) reach c (code_front P pc (find_code x) ending code) in
          let words = rw (← f.here.r15_is) at (code_after P pc (find_code x) ending code) in
          let r = f.here.r in
          let c1 = into_var a.vars (register_of x) i f.here.run (reads k j w f.here (source ctrl (0 + find_count x) s (pc + length (find_code x))
          f.here) high there) words.0 f.high
          (other r 15 (r 15 + 1) (register_of x) (omega (arith, f.high)) ∙ f.address_is) within in
          at_of (with_var i w a) c1 (omega arith) refl refl refl
          (λ n low less. other r 15 (r 15 + 1) n (omega (arith, less)) ∙ f.here.held n low less) f.here.r3_is
          (omega (arith, f.here.r15_is, length-append (find_code x) ending))

  fetch : (x : Access) (i j w : ℕ) → LeadsTo P table x i → i < length a.vars → a.x3 ≡ P.end - 1 - j → slice_get a.vars j ≡ Some w
      → Does P table (move_code x 3) (find_count x + 1) a (with_var i w a)
  fetch x i j w reach within e there = moved x 3 i j w reach within (omega arith) (λ ctrl n s pc c. c.r3_is ∙ e) there

  copy : (x : Access) (k i j w : ℕ) → LeadsTo P table x i → i < length a.vars → LeadsTo P table (Held k) j → slice_get a.vars j ≡ Some w
      → Does P table (move_code x k) (find_count x + 1) a (with_var i w a)
  copy x k i j w reach within h there = moved x k i j w reach within h.1 (λ ctrl n s pc c. c.held k h.0 h.1 ∙ h.2) there

  put : (x : Access) (i j w : ℕ) → LeadsTo P table x i → slice_get a.vars i ≡ Some w → a.x3 ≡ P.end - 1 - j → j < length a.vars
      → Does P table (put_code x) (find_count x + 1) a (with_var j w a)
  put x i j w reach there e within = does law
    where
      law : (ctrl : List ℕ) (s : Fm) (pc : ℕ) → At P table ctrl 0 s pc a → CodeAt P pc (put_code x)
          → At P table ctrl (find_count x + 1) s (pc + length (put_code x)) (with_var j w a)
      law ctrl s pc c code =
          let ending = mov (at 3) (at (register_of x)) ∷ [] in
          let f = find x (P.end - 1 - i) reach c (code_front P pc (find_code x) ending code) in
          let words = rw (← f.here.r15_is) at (code_after P pc (find_code x) ending code) in
          let r = f.here.r in
          let c1 = into_var a.vars 3 j f.here.run (reads (register_of x) i w f.here f.address_is f.high there) words.0 (omega arith) (f.here.r3_is ∙
          e) within in
          at_of (with_var j w a) c1 (omega arith) refl refl refl
          (λ k low high. other r 15 (r 15 + 1) k (omega (arith, high)) ∙ f.here.held k low high) f.here.r3_is
          (omega (arith, f.here.r15_is, length-append (find_code x) ending))

  jump_not : (cc : Cc) (to : ℕ) → does_hold cc a.fl ≡ false → Does P table (jump_when_code cc to) 1 a a
  jump_not cc to h = does law
    where
      law : (ctrl : List ℕ) (s : Fm) (pc : ℕ) → At P table ctrl 0 s pc a → CodeAt P pc (jump_when_code cc to)
          → At P table ctrl 1 s (pc + length (jump_when_code cc to)) a
      law ctrl s pc c code =
          let words = rw (← c.r15_is) at code in
          let r = c.r in
          let c1 = target.jump_when cc c.run words.0 words.1.0 in
          at_of a c1 (omega arith) refl refl refl
          (λ k low high. other (past r) 15 (if does_hold cc a.fl then to else r 15 + 1 + 1) k (omega (arith, high))
          ∙ other r 15 (r 15 + 1 + 1) k (omega (arith, high)) ∙ c.held k low high)
          c.r3_is (ap (λ (t : Bool). if t then to else r 15 + 1 + 1) h ∙ omega (arith, c.r15_is))

  jump_when : (cc : Cc) (to : ℕ) → does_hold cc a.fl ≡ true → Jumps P table (jump_when_code cc to) 1 a to a
  jump_when cc to h = jumps law
    where
      law : (ctrl : List ℕ) (s : Fm) (pc : ℕ) → At P table ctrl 0 s pc a → CodeAt P pc (jump_when_code cc to) → At P table ctrl 1 s to a
      law ctrl s pc c code =
          let words = rw (← c.r15_is) at code in
          let r = c.r in
          let c1 = target.jump_when cc c.run words.0 words.1.0 in
          at_of a c1 (omega arith) refl refl refl
          (λ k low high. other (past r) 15 (if does_hold cc a.fl then to else r 15 + 1 + 1) k (omega (arith, high))
          ∙ other r 15 (r 15 + 1 + 1) k (omega (arith, high)) ∙ c.held k low high)
          c.r3_is (ap (λ (t : Bool). if t then to else r 15 + 1 + 1) h)

  jump : (to : ℕ) → Jumps P table (jump_code to) 1 a to a
  jump to = jumps law
    where
      law : (ctrl : List ℕ) (s : Fm) (pc : ℕ) → At P table ctrl 0 s pc a → CodeAt P pc (jump_code to) → At P table ctrl 1 s to a
      law ctrl s pc c code =
          let words = rw (← c.r15_is) at code in
          let r = c.r in
          let c1 = target.into_r15 Move no_flags c.run (from_literal_at c.run words.1.0) words.0 in
          at_of a c1 (omega arith) refl refl refl
          (λ k low high. other (next r) 15 to k (omega (arith, high)) ∙ other r 15 (r 15 + 1) k (omega (arith, high)) ∙ c.held k low high) c.r3_is refl

  set_area : (address k w : ℕ) → address ≡ P.areas_at + k → k < length a.areas
      → Does P table (set_area_code address w) 2 a (record a { x3 = address; areas = slice_set a.areas k w })
  set_area address k w e below = does law
    where
      law : (ctrl : List ℕ) (s : Fm) (pc : ℕ) → At P table ctrl 0 s pc a → CodeAt P pc (set_area_code address w)
          → At P table ctrl 2 s (pc + length (set_area_code address w)) (record a { x3 = address; areas = slice_set a.areas k w })
      law ctrl s pc c code =
          let words = rw (← c.r15_is) at code in
          let r = c.r in
          let c1 = target.into_r3 Move no_flags c.run (from_literal c.run words.1.0) words.0 in
          let c2 = target.into_areas k c1 (from_literal c1 words.1.1.1.0) words.1.1.0 e below in
          at_of (record a { x3 = address; areas = slice_set a.areas k w }) c2 (omega arith) refl refl refl
          (λ j low high. other (with_register (past r) 3 address) 15 (r 15 + 1 + 1 + 1 + 1) j (omega (arith, high))
          ∙ untouched r (r 15 + 1 + 1) 3 address j low high (omega arith) ∙ c.held j low high) refl (omega (arith, c.r15_is))

pub piece_rows : (P : Parts) (table : ℕ → ℕ) (a : Now) → PieceRows P table a
piece_rows P table a =
    record {
      by_word = by_word;
      by_literal = by_literal;
      store = store;
      store_literal = store_literal;
      truth = truth;
      fetch = fetch;
      copy = copy;
      put = put;
      jump_not = jump_not;
      jump_when = jump_when;
      jump = jump;
      set_area = set_area;
      product = λ x y i j v w to_x to_y at_x at_y fits_x fits_y. product_row x y i j v w to_x to_y at_x at_y fits_x fits_y;
    }
