-- What the words of jumps, tests, calls and returns do.
use Rattle.std.proofs.Common.{◌≡◌, ℕ, ◌+◌, ◌-◌, ◌*◌, ◌%◌, ◌^◌, ◌<◌, ◌≤◌, ◌==◌, Some, Bool, List, [], ◌∷◌, ◌++◌, length, refl, sym, ap, ◌∙◌, arith}
use Rattle.std.{proofs.Common.{length-append, append_assoc}, specs.Prelude.{if◌then◌else◌, slice_get, replicate, reverse}, proofs.lemmas.Bool.Decides.nat_tests}
use Rattle.std.{proofs.lemmas.List.{length-replicate, length-reverse}, proofs.lemmas.Grind.reverse_onto}
use Rattle.fm_words.{specs.declared.operation.Op.TheVariants.{Move, Add, Sub}, specs.declared.condition.Cc.Cc, specs.declared.condition.Cc.TheVariants.Zs}
use Rattle.fm_words.{specs.Alu.does_hold, specs.Code.no_flags}
use Rattle.fm_machine.{specs.State.Fm, specs.Masks.all_flags}
use Rattle.fm_code.{specs.InstructionWords.{reg, push, pop, literal, mov, flag_z}, specs.Flags.flags_of_word, specs.Templates.{below_end, jump_code}}
use Rattle.fm_code.specs.Templates.{jump_if_top_code, jump_case_code, pushj_code, popj_code, test_and_jump_code, call_code, pop_call_code, ret_code}
use Rattle.fm_code.{specs.Templates.{temporaries_code, prelude_code}, specs.Execution.{Parts, CodeAt}, proofs.CodeLaws.{code_front, code_after, code_get}}
use Rattle.fm_code.{proofs.RegisterLaws.{with_register, next}, proofs.OperandLaws.{fetch, from_literal, from_literal_at, from_register, from_address, from_pop}}
use Rattle.fm_code.{proofs.OperandLaws.from_ctrl, proofs.TargetLaws.{into_r0, into_r1, into_r3, into_r15, push_temp, push_ctrl, jump_when}}
use Rattle.fm_code.proofs.RunLaws.{RunsToView, runs_to_view, with_ctrl, with_count, ctrl_top}

module _ {P : Parts} {n : ℕ} {s : Fm} {f pc : ℕ} {ctrl temp areas : List ℕ} where
  -- a jump
  pub jump : (target : ℕ) → RunsToView P n s f pc ctrl temp areas → CodeAt P pc (jump_code target) → RunsToView P (n + 1) s f target ctrl temp areas
  jump target h code =
      let words = rw (← h.r15_is) at code in
      let c1 = into_r15 Move no_flags h.run (from_literal_at h.run words.1.0) words.0 in
      runs_to_view c1 refl h.r0_is refl

  -- a jump where the top of the temporary stack is at an address
  jump_if_top : (address target : ℕ) (t : Bool) → RunsToView P n s f pc ctrl temp areas → CodeAt P pc (jump_if_top_code address target)
      → ((P.end - length temp + 2 ^ 32 - address) % 2 ^ 32 == 0) ≡ t → RunsToView P (n + 3) s f (if t then target else pc + 5) ctrl temp areas
  jump_if_top address target t h code is =
      let laid = h.run.laid in
      let i = h.run.is in
      let words = rw (← h.r15_is) at code in
      let c1 = into_r3 Move no_flags h.run (from_register 2 h.run (omega arith)) words.0 in
      let c2 = into_r3 Sub flag_z c1 (from_literal c1 words.1.1.0) words.1.0 in
      let c3 = jump_when Zs c2 words.1.1.1.0 words.1.1.1.1.0 in
      let d : h.r 2 ≡ P.end - length temp = omega arith in
      let e : h.r 15 + 1 + 1 + 1 + 1 + 1 ≡ pc + 5 = let e15 = h.r15_is in omega arith in
      runs_to_view c3 (omega arith) h.r0_is (λ j. if (ap (λ v. (v + 2 ^ 32 - address) % 2 ^ 32 == 0) d ∙ is) j then target else e j)

  -- a jump where the temporary stack is full, and where it is empty
  pub jump_if_temp_stk_full : (target : ℕ) → RunsToView P n s f pc ctrl temp areas → CodeAt P pc (jump_if_top_code P.temp_at target)
      → RunsToView P (n + 3) s f (if length temp == P.end - P.temp_at then target else pc + 5) ctrl temp areas
  jump_if_temp_stk_full target h code =
      let laid = h.run.laid in
      let fits = h.run.is.fits in
      jump_if_top P.temp_at target (length temp == P.end - P.temp_at) h code (full (length temp) P.temp_at P.end fits (omega arith))
    where
      full : (k a b : ℕ) → b < 2 ^ 32 → a + k ≤ b → ((b - k + 2 ^ 32 - a) % 2 ^ 32 == 0) ≡ (k == b - a)
      full k a b p q =
          let e : (b - k + 2 ^ 32 - a) % 2 ^ 32 ≡ b - k - a = omega arith in
          rw e (grind (arith, nat_tests))

  pub jump_if_temp_stk_empty : (target : ℕ) → RunsToView P n s f pc ctrl temp areas → CodeAt P pc (jump_if_top_code (below_end P.end 0) target)
      → RunsToView P (n + 3) s f (if length temp == 0 then target else pc + 5) ctrl temp areas
  jump_if_temp_stk_empty target h code =
      let laid = h.run.laid in
      let fits = h.run.is.fits in
      jump_if_top (below_end P.end 0) target (length temp == 0) h code (empty (length temp) P.end fits (omega arith))
    where
      empty : (k b : ℕ) → b < 2 ^ 32 → k ≤ b → ((b - k + 2 ^ 32 - below_end b 0) % 2 ^ 32 == 0) ≡ (k == 0)
      empty k b p q =
          let e : (b - k + 2 ^ 32 - below_end b 0) % 2 ^ 32 ≡ (2 ^ 32 - k) % 2 ^ 32 = omega arith in
          rw e (grind (arith, nat_tests))

  -- a jump by a table
  pub jump_case : (t target : ℕ) (targets : List ℕ) → RunsToView P n s f pc ctrl (t ∷ temp) areas → CodeAt P pc (jump_case_code pc targets)
      → slice_get targets t ≡ Some target → RunsToView P (n + 3) s f target ctrl temp areas
  jump_case t target targets h code there =
      let i = h.run.is in
      let e15 = h.r15_is in
      let place : pc + 4 + t ≡ pc + 1 + 1 + 1 + 1 + t = omega arith in
      let entry = code_get P (pc + 1 + 1 + 1 + 1) t target targets there code.1.1.1.1 in
      let words = rw (← h.r15_is) at code in
      let c1 = into_r3 Move no_flags h.run (from_pop h.run) words.0 in
      let c2 = into_r3 Add no_flags c1 (from_literal c1 words.1.1.0) words.1.0 in
      let read = fetch c2 entry in
      let up = read.up in
      let a : (h.r 15 + 4 + t) % 2 ^ 32 ≡ pc + 1 + 1 + 1 + 1 + t = omega arith in
      let c3 = into_r15 Move no_flags c2 (from_address 3 (pc + 1 + 1 + 1 + 1 + t) c2 (omega arith) a read.is) words.1.1.1.0 in
      runs_to_view c3 (omega arith) h.r0_is refl

  -- an address pushed, and a jump; the top popped, and a jump there
  pub pushj : (after target : ℕ) → RunsToView P n s f pc ctrl temp areas → CodeAt P pc (pushj_code after target) → P.temp_at + length temp < P.end
      → RunsToView P (n + 2) s f target ctrl (after ∷ temp) areas
  pushj after target h code room =
      let laid = h.run.laid in
      let words = rw (← h.r15_is) at code in
      let c1 = push_temp h.run (from_literal h.run words.1.0) words.0 (omega arith) in
      let c2 = into_r15 Move no_flags c1 (from_literal_at c1 words.1.1.1.0) words.1.1.0 in
      runs_to_view c2 (omega arith) h.r0_is refl

  pub popj : (target : ℕ) → RunsToView P n s f pc ctrl (target ∷ temp) areas → CodeAt P pc popj_code → RunsToView P (n + 1) s f target ctrl temp areas
  popj target h code =
      let words = rw (← h.r15_is) at code in
      let c1 = into_r15 Move no_flags h.run (from_pop h.run) words.0 in
      runs_to_view c1 refl h.r0_is refl

  -- a word popped, and a jump where the condition holds of it
  pub test_and_jump : (k : Cc) (x target : ℕ) → RunsToView P n s f pc ctrl (x ∷ temp) areas → CodeAt P pc (test_and_jump_code k target)
      → RunsToView P (n + 2) s f (if does_hold k (flags_of_word x) then target else pc + 3) ctrl temp areas
  test_and_jump k x target h code =
      let words = rw (← h.r15_is) at code in
      let c1 = into_r3 Move all_flags h.run (from_pop h.run) words.0 in
      let c2 = jump_when k c1 words.1.0 words.1.1.0 in
      let e : h.r 15 + 1 + 1 + 1 ≡ pc + 3 = let e15 = h.r15_is in omega arith in
      runs_to_view c2 (omega arith) h.r0_is (ap (λ a. if does_hold k (flags_of_word x) then target else a) e)

-- a program's temporaries pushed on the control stack
pub length-temporaries : (ts : List ℕ) → length (temporaries_code ts) ≡ 2 * length ts
length-temporaries [] = refl
length-temporaries (t ∷ ts) =
    length-append (temporaries_code ts) (mov (push 1) literal ∷ t ∷ []) ∙ (let e = length-temporaries ts in omega arith)

temporaries_pushed : {P : Parts} (n : ℕ) {s : Fm} {f : ℕ} (pc : ℕ) (ts : List ℕ) {ctrl temp areas : List ℕ} → RunsToView P n s f pc ctrl temp areas
    → CodeAt P pc (temporaries_code ts) → P.ctrl_at + length ts + length ctrl ≤ P.temp_at
    → RunsToView P (n + length ts) s f (pc + 2 * length ts) (ts ++ ctrl) temp areas
temporaries_pushed n pc [] h code room = with_count h (omega arith) (omega arith)
temporaries_pushed {P} n {s} {f} pc (t ∷ ts) {ctrl} h code room =
    let laid = h.run.laid in
    let most = temporaries_pushed n pc ts h (code_front P pc (temporaries_code ts) _ code) (omega arith) in
    let many = length-append ts ctrl in
    let long = length-temporaries ts in
    let last = code_after P pc (temporaries_code ts) (mov (push 1) literal ∷ t ∷ []) code in
    let words = rw (← most.r15_is) at (rw long at last) in
    let laid2 = most.run.laid in
    let c1 = push_ctrl most.run (from_literal most.run words.1.0) words.0 (omega arith) in
    let e15 = most.r15_is in
    runs_to_view c1 (omega arith) most.r0_is (omega arith)

-- the formals moved from the top of the temporary stack to the control stack
reverse_front : (x : ℕ) (xs ctrl : List ℕ) → reverse xs ++ (x ∷ ctrl) ≡ reverse (x ∷ xs) ++ ctrl
reverse_front x xs ctrl =
    sym (append_assoc (reverse xs) (x ∷ []) ctrl) ∙ ap (λ ys. ys ++ ctrl) (sym (reverse_onto xs x []))

formals_moved : {P : Parts} (n : ℕ) {s : Fm} {f : ℕ} (pc : ℕ) (xs : List ℕ) {ctrl temp areas : List ℕ} → RunsToView P n s f pc ctrl (xs ++ temp) areas
    → CodeAt P pc (replicate (length xs) (mov (push 1) (pop 2))) → P.ctrl_at + length xs + length ctrl ≤ P.temp_at
    → RunsToView P (n + length xs) s f (pc + length xs) (reverse xs ++ ctrl) temp areas
formals_moved n pc [] h code room = with_count h (omega arith) (omega arith)
formals_moved {P} n {s} {f} pc (x ∷ xs) {ctrl} {temp} {areas} h code room =
    let laid = h.run.laid in
    let words = rw (← h.r15_is) at code in
    let c1 = push_ctrl h.run (from_pop h.run) words.0 (omega arith) in
    let one : RunsToView P (n + 1) s f (pc + 1) (x ∷ ctrl) (xs ++ temp) areas = runs_to_view c1 refl h.r0_is (ap (λ a. a + 1) h.r15_is) in
    let rest = formals_moved (n + 1) (pc + 1) xs one code.1 (omega arith) in
    with_ctrl (with_count rest (omega arith) (omega arith)) (reverse_front x xs ctrl)

module _ {P : Parts} {n : ℕ} {s : Fm} {f pc : ℕ} {ctrl temp areas : List ℕ} where
  -- How a program begins: r0 pushed on the control stack, its temporaries pushed, its formals moved there, and r0 the
  -- address of the first of them. The formals xs are on the temporary stack, the last one at its top.
  pub prelude : (f' : ℕ) (xs ts : List ℕ) → RunsToView P n s f pc ctrl (xs ++ temp) areas → CodeAt P pc (prelude_code (length xs) ts)
      → P.ctrl_at + 1 + length xs + length ts + length ctrl ≤ P.temp_at → f' + length xs + length ts + 1 + length ctrl ≡ P.temp_at
      → RunsToView P (n + 2 + length xs + length ts) s f' (pc + 2 + 2 * length ts + length xs) (reverse xs ++ (ts ++ (f ∷ ctrl))) temp areas
  prelude f' xs ts h code room top =
      let laid = h.run.laid in
      let words = rw (← h.r15_is) at code in
      let moves = replicate (length xs) (mov (push 1) (pop 2)) in
      let many = length-replicate (length xs) (mov (push 1) (pop 2)) in
      let long = length-temporaries ts in
      let size = length-append ts (f ∷ ctrl) in
      let c1 = push_ctrl h.run (from_register 0 h.run (omega arith)) words.0 (omega arith) in
      let h1 : RunsToView P (n + 1) s f (pc + 1) (h.r 0 ∷ ctrl) (xs ++ temp) areas = runs_to_view c1 refl h.r0_is (ap (λ a. a + 1) h.r15_is) in
      let h2 = with_ctrl h1 (ap (λ a. a ∷ ctrl) h.r0_is) in
      let h3 = temporaries_pushed (n + 1) (pc + 1) ts h2 (code_front P (pc + 1) (temporaries_code ts) _ code.1) (omega arith) in
      let rest = rw long at (code_after P (pc + 1) (temporaries_code ts) (moves ++ mov (reg 0) (reg 1) ∷ []) code.1) in
      let h4 = formals_moved (n + 1 + length ts) (pc + 1 + 2 * length ts) xs h3 (code_front P (pc + 1 + 2 * length ts) moves _ rest) (omega arith) in
      let last = rw many at (code_after P (pc + 1 + 2 * length ts) moves (mov (reg 0) (reg 1) ∷ []) rest) in
      let words5 = rw (← h4.r15_is) at last in
      let c5 = into_r0 {r = h4.r} {fl = h4.fl} {x = h4.r 1} {r1 = next h4.r} Move no_flags h4.run
      (from_register {r = h4.r} {fl = h4.fl} 1 h4.run (omega arith)) words5.0 in
      let laid4 = h4.run.laid in
      let whole = length-append (reverse xs) (ts ++ (f ∷ ctrl)) in
      let turned = length-reverse xs in
      let e15 = h4.r15_is in
      runs_to_view {r = with_register (next h4.r) 0 (h4.r 1)} {fl = h4.fl} c5 (omega arith) (omega arith) (omega arith)

module _ {P : Parts} {n : ℕ} {s : Fm} {f pc : ℕ} {ctrl temp areas : List ℕ} where
  -- a call: the return address pushed on the control stack, a jump to entry, and the prelude there
  pub call : (after entry f' : ℕ) (xs ts : List ℕ) → RunsToView P n s f pc ctrl (xs ++ temp) areas → CodeAt P pc (call_code after entry)
      → CodeAt P entry (prelude_code (length xs) ts) → P.ctrl_at + 2 + length xs + length ts + length ctrl ≤ P.temp_at
      → f' + length xs + length ts + 2 + length ctrl ≡ P.temp_at → RunsToView P (n + 4 + length xs + length ts) s f'
      (entry + 2 + 2 * length ts + length xs) (reverse xs ++ (ts ++ (f ∷ after ∷ ctrl))) temp areas
  call after entry f' xs ts h code begins room top =
      let laid = h.run.laid in
      let words = rw (← h.r15_is) at code in
      let c1 = push_ctrl h.run (from_literal h.run words.1.0) words.0 (omega arith) in
      let c2 = into_r15 Move no_flags c1 (from_literal_at c1 words.1.1.1.0) words.1.1.0 in
      let h2 : RunsToView P (n + 1 + 1) s f entry (after ∷ ctrl) (xs ++ temp) areas = runs_to_view c2 refl h.r0_is refl in
      with_count (prelude f' xs ts h2 begins (omega arith) (omega arith)) (omega arith) refl

  -- the same with entry on top of the temporary stack
  pub pop_call : (after entry f' : ℕ) (xs ts : List ℕ) → RunsToView P n s f pc ctrl (entry ∷ (xs ++ temp)) areas → CodeAt P pc (pop_call_code after)
      → CodeAt P entry (prelude_code (length xs) ts) → P.ctrl_at + 2 + length xs + length ts + length ctrl ≤ P.temp_at
      → f' + length xs + length ts + 2 + length ctrl ≡ P.temp_at → RunsToView P (n + 5 + length xs + length ts) s f'
      (entry + 2 + 2 * length ts + length xs) (reverse xs ++ (ts ++ (f ∷ after ∷ ctrl))) temp areas
  pop_call after entry f' xs ts h code begins room top =
      let laid = h.run.laid in
      let words = rw (← h.r15_is) at code in
      let c1 = into_r3 Move no_flags h.run (from_pop h.run) words.0 in
      let c2 = push_ctrl c1 (from_literal c1 words.1.1.0) words.1.0 (omega arith) in
      let c3 = into_r15 Move no_flags c2 (from_register 3 c2 (omega arith)) words.1.1.1.0 in
      let h3 : RunsToView P (n + 1 + 1 + 1) s f entry (after ∷ ctrl) (xs ++ temp) areas = runs_to_view c3 refl h.r0_is refl in
      with_count (prelude f' xs ts h3 begins (omega arith) (omega arith)) (omega arith) refl

  -- a return: the locals dropped from the control stack, and the older r0 and the return address popped
  pub ret : (older back : ℕ) (locals : List ℕ) → RunsToView P n s f pc (locals ++ (older ∷ back ∷ ctrl)) temp areas
      → CodeAt P pc (ret_code (length locals)) → f + length (locals ++ (older ∷ back ∷ ctrl)) ≡ P.temp_at
      → RunsToView P (n + 4) s older back ctrl temp areas
  ret older back locals h code top =
      let laid = h.run.laid in
      let i = h.run.is in
      let words = rw (← h.r15_is) at code in
      let many = length-append locals (older ∷ back ∷ ctrl) in
      let e1 = ctrl_top h top in
      let e0 = h.r0_is in
      let c1 = into_r1 Move [] h.run (from_register 0 h.run (omega arith)) words.0 (omega arith) in
      let c2 = into_r1 Add locals c1 (from_literal c1 words.1.1.0) words.1.0 (omega arith) in
      let c3 = into_r0 Move no_flags c2 (from_ctrl c2) words.1.1.1.0 in
      let c4 = into_r15 Move no_flags c3 (from_ctrl c3) words.1.1.1.1.0 in
      runs_to_view c4 (omega arith) refl refl
