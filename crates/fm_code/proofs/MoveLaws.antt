-- What the words of pushes, pops, fetches and deposits do.
use Rattle.std.{proofs.Common.{◌≡◌, ℕ, ◌+◌, ◌-◌, ◌%◌, ◌^◌, ◌<◌, Some, List, [], ◌∷◌, ◌++◌, length, refl, ap, arith, length-append}, specs.Prelude.slice_get}
use Rattle.std.{specs.Prelude.slice_set, proofs.lemmas.Option.slice_get_within}
use Rattle.fm_words.{specs.declared.operation.Op.TheVariants.{Move, Inc, Add, Sub}, specs.Code.no_flags}
use Rattle.fm_machine.specs.State.{Fm}
use Rattle.fm_code.specs.Templates.{below_end, push_constant_code, push_local_code, pop_local_code, set_local_code, push_global_code, pop_global_code}
use Rattle.fm_code.specs.Templates.{set_global_code, push_temp_stk_index_code, push_temp_stk_free_size_code, push_ctrl_stk_free_size_code, fetch_temp_stk_code}
use Rattle.fm_code.{specs.Templates.{deposit_temp_stk_code, fetch_code, deposit_code, pop_code, pop_star_code, popn_code, no_op_code}, specs.Execution.Parts}
use Rattle.fm_code.{specs.Execution.CodeAt, proofs.HoldsLaws.Holds-get, proofs.OperandLaws.{from_literal, from_register, from_address, from_top, from_pop}}
use Rattle.fm_code.{proofs.TargetLaws.{into_r2, into_r3, push_temp, into_top, into_temp, into_ctrl, into_areas}, proofs.RunLaws.{RunsToView, runs_to_view}}
use Rattle.fm_code.proofs.RunLaws.{with_temp, ctrl_top}

module _ {P : Parts} {n : ℕ} {s : Fm} {f pc : ℕ} {ctrl temp areas : List ℕ} where
  -- a literal pushed
  pub push_constant : (w : ℕ) → RunsToView P n s f pc ctrl temp areas → CodeAt P pc (push_constant_code w) → P.temp_at + length temp < P.end
      → RunsToView P (n + 1) s f (pc + 2) ctrl (w ∷ temp) areas
  push_constant w h code room =
      let laid = h.run.laid in
      let words = rw (← h.r15_is) at code in
      let c1 = push_temp h.run (from_literal h.run words.1.0) words.0 (omega arith) in
      let e15 = h.r15_is in
      runs_to_view c1 refl h.r0_is (omega arith)

  -- a local pushed, which is the k-th word of the control stack
  pub push_local : (k w : ℕ) → RunsToView P n s f pc ctrl temp areas → CodeAt P pc (push_local_code k) → slice_get ctrl k ≡ Some w
      → f + length ctrl ≡ P.temp_at → P.temp_at + length temp < P.end → RunsToView P (n + 3) s f (pc + 4) ctrl (w ∷ temp) areas
  push_local k w h code there top room =
      let laid = h.run.laid in
      let i = h.run.is in
      let words = rw (← h.r15_is) at code in
      let below = slice_get_within ctrl k w there in
      let e0 = h.r0_is in
      let e1 = ctrl_top h top in
      let c1 = into_r3 Move no_flags h.run (from_literal h.run words.1.0) words.0 in
      let c2 = into_r3 Add no_flags c1 (from_register 0 c1 (omega arith)) words.1.1.0 in
      let a : (h.r 0 + k) % 2 ^ 32 ≡ h.r 1 + k = omega arith in
      let read = Holds-get P.base c2.m (h.r 1) k w ctrl there c2.laid.ctrl_at in
      let c3 = push_temp c2 (from_address 3 (h.r 1 + k) c2 (omega arith) a read) words.1.1.1.0 (omega arith) in
      let e15 = h.r15_is in
      runs_to_view c3 (omega arith) h.r0_is (omega arith)

  -- a word popped into a local, and one copied into it
  pub pop_local : (k v : ℕ) → RunsToView P n s f pc ctrl (v ∷ temp) areas → CodeAt P pc (pop_local_code k) → k < length ctrl
      → f + length ctrl ≡ P.temp_at → RunsToView P (n + 3) s f (pc + 4) (slice_set ctrl k v) temp areas
  pop_local k v h code below top =
      let laid = h.run.laid in
      let i = h.run.is in
      let words = rw (← h.r15_is) at code in
      let e0 = h.r0_is in
      let e1 = ctrl_top h top in
      let c1 = into_r3 Move no_flags h.run (from_literal h.run words.1.0) words.0 in
      let c2 = into_r3 Add no_flags c1 (from_register 0 c1 (omega arith)) words.1.1.0 in
      let c3 = into_ctrl k c2 (from_pop c2) words.1.1.1.0 (omega arith) below in
      let e15 = h.r15_is in
      runs_to_view c3 (omega arith) h.r0_is (omega arith)

  pub set_local : (k v : ℕ) → RunsToView P n s f pc ctrl (v ∷ temp) areas → CodeAt P pc (set_local_code k) → k < length ctrl
      → f + length ctrl ≡ P.temp_at → RunsToView P (n + 3) s f (pc + 4) (slice_set ctrl k v) (v ∷ temp) areas
  set_local k v h code below top =
      let laid = h.run.laid in
      let i = h.run.is in
      let words = rw (← h.r15_is) at code in
      let e0 = h.r0_is in
      let e1 = ctrl_top h top in
      let c1 = into_r3 Move no_flags h.run (from_literal h.run words.1.0) words.0 in
      let c2 = into_r3 Add no_flags c1 (from_register 0 c1 (omega arith)) words.1.1.0 in
      let c3 = into_ctrl k c2 (from_top c2) words.1.1.1.0 (omega arith) below in
      let e15 = h.r15_is in
      runs_to_view c3 (omega arith) h.r0_is (omega arith)

  -- a word of the areas pushed, popped into, and copied into
  pub push_global : (a k w : ℕ) → RunsToView P n s f pc ctrl temp areas → CodeAt P pc (push_global_code a) → a ≡ P.areas_at + k
      → slice_get areas k ≡ Some w → P.temp_at + length temp < P.end → RunsToView P (n + 2) s f (pc + 3) ctrl (w ∷ temp) areas
  push_global a k w h code e there room =
      let laid = h.run.laid in
      let words = rw (← h.r15_is) at code in
      let c1 = into_r3 Move no_flags h.run (from_literal h.run words.1.0) words.0 in
      let read = Holds-get P.base c1.m P.areas_at k w areas there c1.laid.areas_at in
      let c2 = push_temp c1 (from_address 3 (P.areas_at + k) c1 (omega arith) e read) words.1.1.0 (omega arith) in
      let e15 = h.r15_is in
      runs_to_view c2 (omega arith) h.r0_is (omega arith)

  pub pop_global : (a k v : ℕ) → RunsToView P n s f pc ctrl (v ∷ temp) areas → CodeAt P pc (pop_global_code a) → a ≡ P.areas_at + k → k < length areas
      → RunsToView P (n + 2) s f (pc + 3) ctrl temp (slice_set areas k v)
  pop_global a k v h code e below =
      let words = rw (← h.r15_is) at code in
      let c1 = into_r3 Move no_flags h.run (from_literal h.run words.1.0) words.0 in
      let c2 = into_areas k c1 (from_pop c1) words.1.1.0 e below in
      let e15 = h.r15_is in
      runs_to_view c2 (omega arith) h.r0_is (omega arith)

  pub set_global : (a k v : ℕ) → RunsToView P n s f pc ctrl (v ∷ temp) areas → CodeAt P pc (set_global_code a) → a ≡ P.areas_at + k → k < length areas
      → RunsToView P (n + 2) s f (pc + 3) ctrl (v ∷ temp) (slice_set areas k v)
  set_global a k v h code e below =
      let words = rw (← h.r15_is) at code in
      let c1 = into_r3 Move no_flags h.run (from_literal h.run words.1.0) words.0 in
      let c2 = into_areas k c1 (from_top c1) words.1.1.0 e below in
      let e15 = h.r15_is in
      runs_to_view c2 (omega arith) h.r0_is (omega arith)

  -- the index from the bottom of the index-th word from the top pushed
  pub push_temp_stk_index : (index : ℕ) → RunsToView P n s f pc ctrl temp areas → CodeAt P pc (push_temp_stk_index_code P.end index)
      → index < length temp → P.temp_at + length temp < P.end → RunsToView P (n + 3) s f (pc + 4) ctrl ((length temp - 1 - index) ∷ temp) areas
  push_temp_stk_index index h code below room =
      let laid = h.run.laid in
      let i = h.run.is in
      let words = rw (← h.r15_is) at code in
      let c1 = into_r3 Move no_flags h.run (from_literal h.run words.1.0) words.0 in
      let c2 = into_r3 Sub no_flags c1 (from_register 2 c1 (omega arith)) words.1.1.0 in
      let c3 = push_temp c2 (from_register 3 c2 (omega arith)) words.1.1.1.0 (omega arith) in
      let is : (below_end P.end (1 + index) + 2 ^ 32 - h.r 2) % 2 ^ 32 ≡ length temp - 1 - index = omega arith in
      let e15 = h.r15_is in
      with_temp (runs_to_view c3 (omega arith) h.r0_is (omega arith)) (ap (λ v. v ∷ temp) is)

  -- the words that are free on a stack pushed
  pub push_temp_stk_free_size : RunsToView P n s f pc ctrl temp areas → CodeAt P pc (push_temp_stk_free_size_code P.temp_at)
      → P.temp_at + length temp < P.end → RunsToView P (n + 3) s f (pc + 4) ctrl ((P.end - P.temp_at - length temp) ∷ temp) areas
  push_temp_stk_free_size h code room =
      let laid = h.run.laid in
      let i = h.run.is in
      let words = rw (← h.r15_is) at code in
      let c1 = into_r3 Move no_flags h.run (from_register 2 h.run (omega arith)) words.0 in
      let c2 = into_r3 Sub no_flags c1 (from_literal c1 words.1.1.0) words.1.0 in
      let c3 = push_temp c2 (from_register 3 c2 (omega arith)) words.1.1.1.0 (omega arith) in
      let is : (h.r 2 + 2 ^ 32 - P.temp_at) % 2 ^ 32 ≡ P.end - P.temp_at - length temp = omega arith in
      let e15 = h.r15_is in
      with_temp (runs_to_view c3 (omega arith) h.r0_is (omega arith)) (ap (λ v. v ∷ temp) is)

  pub push_ctrl_stk_free_size : RunsToView P n s f pc ctrl temp areas → CodeAt P pc (push_ctrl_stk_free_size_code P.ctrl_at)
      → P.temp_at + length temp < P.end → RunsToView P (n + 3) s f (pc + 4) ctrl ((P.temp_at - P.ctrl_at - length ctrl) ∷ temp) areas
  push_ctrl_stk_free_size h code room =
      let laid = h.run.laid in
      let i = h.run.is in
      let words = rw (← h.r15_is) at code in
      let c1 = into_r3 Move no_flags h.run (from_register 1 h.run (omega arith)) words.0 in
      let c2 = into_r3 Sub no_flags c1 (from_literal c1 words.1.1.0) words.1.0 in
      let c3 = push_temp c2 (from_register 3 c2 (omega arith)) words.1.1.1.0 (omega arith) in
      let is : (h.r 1 + 2 ^ 32 - P.ctrl_at) % 2 ^ 32 ≡ P.temp_at - P.ctrl_at - length ctrl = omega arith in
      let e15 = h.r15_is in
      with_temp (runs_to_view c3 (omega arith) h.r0_is (omega arith)) (ap (λ v. v ∷ temp) is)

  -- the top, an index from the bottom, replaced by the word there
  pub fetch_temp_stk : (t w : ℕ) → RunsToView P n s f pc ctrl (t ∷ temp) areas → CodeAt P pc (fetch_temp_stk_code P.end) → t < length temp
      → slice_get temp (length temp - 1 - t) ≡ Some w → RunsToView P (n + 3) s f (pc + 4) ctrl (w ∷ temp) areas
  fetch_temp_stk t w h code below there =
      let laid = h.run.laid in
      let i = h.run.is in
      let words = rw (← h.r15_is) at code in
      let c1 = into_r3 Move no_flags h.run (from_literal h.run words.1.0) words.0 in
      let c2 = into_r3 Sub no_flags c1 (from_top c1) words.1.1.0 in
      let a : (below_end P.end 1 + 2 ^ 32 - t) % 2 ^ 32 ≡ h.r 2 + 1 + (length temp - 1 - t) = omega arith in
      let read = Holds-get P.base c2.m (h.r 2 + 1) (length temp - 1 - t) w temp there c2.laid.temp_at.1 in
      let c3 = into_top Move no_flags c2 (from_address 3 (h.r 2 + 1 + (length temp - 1 - t)) c2 (omega arith) a read) words.1.1.1.0 in
      let e15 = h.r15_is in
      runs_to_view c3 (omega arith) h.r0_is (omega arith)

  -- an index from the bottom and a word popped, and the word stored there
  pub deposit_temp_stk : (t v : ℕ) → RunsToView P n s f pc ctrl (t ∷ v ∷ temp) areas → CodeAt P pc (deposit_temp_stk_code P.end) → t < length temp
      → RunsToView P (n + 3) s f (pc + 4) ctrl (slice_set temp (length temp - 1 - t) v) areas
  deposit_temp_stk t v h code below =
      let laid = h.run.laid in
      let i = h.run.is in
      let words = rw (← h.r15_is) at code in
      let c1 = into_r3 Move no_flags h.run (from_literal h.run words.1.0) words.0 in
      let c2 = into_r3 Sub no_flags c1 (from_pop c1) words.1.1.0 in
      let c3 = into_temp (length temp - 1 - t) c2 (from_pop c2) words.1.1.1.0 (omega arith) (omega arith) in
      let e15 = h.r15_is in
      runs_to_view c3 (omega arith) h.r0_is (omega arith)

  -- the top, an address in the areas, replaced by the word there
  pub fetch : (a k w : ℕ) → RunsToView P n s f pc ctrl (a ∷ temp) areas → CodeAt P pc fetch_code → a ≡ P.areas_at + k → slice_get areas k ≡ Some w
      → RunsToView P (n + 2) s f (pc + 2) ctrl (w ∷ temp) areas
  fetch a k w h code e there =
      let words = rw (← h.r15_is) at code in
      let c1 = into_r3 Move no_flags h.run (from_top h.run) words.0 in
      let read = Holds-get P.base c1.m P.areas_at k w areas there c1.laid.areas_at in
      let c2 = into_top Move no_flags c1 (from_address 3 (P.areas_at + k) c1 (omega arith) e read) words.1.0 in
      let e15 = h.r15_is in
      runs_to_view c2 (omega arith) h.r0_is (omega arith)

  -- an address in the areas and a word popped, and the word stored there
  pub deposit : (a k v : ℕ) → RunsToView P n s f pc ctrl (a ∷ v ∷ temp) areas → CodeAt P pc deposit_code → a ≡ P.areas_at + k → k < length areas
      → RunsToView P (n + 2) s f (pc + 2) ctrl temp (slice_set areas k v)
  deposit a k v h code e below =
      let words = rw (← h.r15_is) at code in
      let c1 = into_r3 Move no_flags h.run (from_pop h.run) words.0 in
      let c2 = into_areas k c1 (from_pop c1) words.1.0 e below in
      let e15 = h.r15_is in
      runs_to_view c2 (omega arith) h.r0_is (omega arith)

  -- one word popped, a number of words, and as many as the top says
  pub pop : (v : ℕ) → RunsToView P n s f pc ctrl (v ∷ temp) areas → CodeAt P pc pop_code → RunsToView P (n + 1) s f (pc + 1) ctrl temp areas
  pop v h code =
      let laid = h.run.laid in
      let i = h.run.is in
      let words = rw (← h.r15_is) at code in
      let c1 = into_r2 Inc (v ∷ []) h.run (from_register 2 h.run (omega arith)) words.0 (omega arith) in
      let e15 = h.r15_is in
      runs_to_view c1 refl h.r0_is (omega arith)

  pub pop_star : (xs : List ℕ) → RunsToView P n s f pc ctrl (xs ++ temp) areas → CodeAt P pc (pop_star_code (length xs))
      → RunsToView P (n + 1) s f (pc + 2) ctrl temp areas
  pop_star xs h code =
      let laid = h.run.laid in
      let i = h.run.is in
      let words = rw (← h.r15_is) at code in
      let many = length-append xs temp in
      let c1 = into_r2 Add xs h.run (from_literal h.run words.1.0) words.0 (omega arith) in
      let e15 = h.r15_is in
      runs_to_view c1 refl h.r0_is (omega arith)

  pub popn : (xs : List ℕ) → RunsToView P n s f pc ctrl (length xs ∷ xs ++ temp) areas → CodeAt P pc popn_code
      → RunsToView P (n + 2) s f (pc + 2) ctrl temp areas
  popn xs h code =
      let laid = h.run.laid in
      let i = h.run.is in
      let words = rw (← h.r15_is) at code in
      let many = length-append xs temp in
      let c1 = into_r3 Move no_flags h.run (from_pop h.run) words.0 in
      let c2 = into_r2 Add xs c1 (from_register 3 c1 (omega arith)) words.1.0 (omega arith) in
      let e15 = h.r15_is in
      runs_to_view c2 (omega arith) h.r0_is (omega arith)

  -- nothing but the next pc
  pub no_op : RunsToView P n s f pc ctrl temp areas → CodeAt P pc no_op_code → RunsToView P (n + 1) s f (pc + 1) ctrl temp areas
  no_op h code =
      let words = rw (← h.r15_is) at code in
      let c1 = into_r3 Move no_flags h.run (from_register 3 h.run (omega arith)) words.0 in
      runs_to_view c1 refl h.r0_is (ap (λ a. a + 1) h.r15_is)
