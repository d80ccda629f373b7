-- A step inside a window is the same step in a wider one, and leaves all other words.
use Rattle.std.proofs.Common.{◌≡◌, ℕ, zero, suc, ◌+◌, ◌-◌, ◌<◌, List, [], ◌∷◌, ◌++◌, length, Bool, true, false, if◌then◌else◌, Option, Some, None, Result, Ok}
use Rattle.std.{proofs.Common.{Err, refl, ap, subst, ◌∙◌, arith}, specs.Prelude.{slice_get, slice_set, slice_index, nat_lt, is_some}, proofs.lemmas.Bool.le-ltb}
use Rattle.fm_words.{specs.declared.instruction.OperandA.OperandA, specs.declared.instruction.OperandA.TheVariants.{Immediate, Place}}
use Rattle.fm_words.{specs.declared.instruction.Instr.Instr, specs.Alu.{alu_of, does_hold}, specs.Code.decode_of}
use Rattle.fm_machine.{specs.State.{Fm, word_at, with_word}, specs.Step.{then_on, found_word, read_word, with_increment, address_of, registers_after, value_at}}
use Rattle.fm_machine.specs.Step.{value_a, registers_after_a, reads_b, value_b, flags_set, store_at_if, store_at, store_result, effect_of_values}
use Rattle.fm_machine.{specs.Step.{effect_of_rest, effect_of, fm_step}, specs.declared.fault.Outside.Outside, proofs.WindowLaws.{inside, length-with_word}}
use Rattle.fm_machine.proofs.StepLaws.{found_there}
use Rattle.fm_turns.specs.Windows.{widened_words, widened, IsBehind}

-- ---- words

get-front : (xs ys : List ℕ) (i w : ℕ) → slice_get xs i ≡ Some w → slice_get (xs ++ ys) i ≡ Some w
get-front [] ys i w h = absurd cc
get-front (x ∷ xs) ys zero w h = h
get-front (x ∷ xs) ys (suc i) w h = get-front xs ys i w h

get-behind : (xs ys : List ℕ) (i j : ℕ) → j ≡ length xs + i → slice_get (xs ++ ys) j ≡ slice_get ys i
get-behind [] ys i j e = let same : j ≡ i = omega arith in ap (slice_get ys) same
get-behind (x ∷ xs) ys i zero e = absurd (omega arith)
get-behind (x ∷ xs) ys i (suc j) e = get-behind xs ys i j (omega arith)

set-front : (xs ys : List ℕ) (i w : ℕ) → i < length xs → slice_set (xs ++ ys) i w ≡ slice_set xs i w ++ ys
set-front [] ys i w lt = absurd (omega arith)
set-front (x ∷ xs) ys zero w lt = refl
set-front (x ∷ xs) ys (suc i) w lt = ap (λ (l : List ℕ). x ∷ l) (set-front xs ys i w (omega arith))

set-behind : (xs ys : List ℕ) (i j w : ℕ) → j ≡ length xs + i → slice_set (xs ++ ys) j w ≡ xs ++ slice_set ys i w
set-behind [] ys i j w e = let same : j ≡ i = omega arith in ap (λ k. slice_set ys k w) same
set-behind (x ∷ xs) ys i zero w e = absurd (omega arith)
set-behind (x ∷ xs) ys i (suc j) w e = ap (λ (l : List ℕ). x ∷ l) (set-behind xs ys i j w (omega arith))

-- a word of the window is the same word in the wider one
pub read_between : (base b a w : ℕ) (before m after : List ℕ) → b ≡ base + length before → word_at b m a ≡ Some w
    → word_at base (widened_words before after m) a ≡ Some w
unfolding word_at
read_between base b a w before m after at h =
    let p = (inside b m a w h).0 in
    let e : nat_lt a base ≡ false = le-ltb a base (omega (arith, p)) in
    let e' : nat_lt a b ≡ false = le-ltb a b p in
    let own : slice_get m (a - b) ≡ Some w = rw e' at h in
    let place : a - base ≡ length before + (a - b) = omega (arith, p) in
    rw e (get-behind before (m ++ after) (a - b) (a - base) place ∙ get-front m after (a - b) w own)

-- a word stored in the window leaves the words before and after it
pub store_between : (base b a w u : ℕ) (before m after : List ℕ) → b ≡ base + length before → word_at b m a ≡ Some u
    → with_word base (widened_words before after m) a w ≡ widened_words before after (with_word b m a w)
unfolding word_at with_word
store_between base b a w u before m after at h =
    let p = inside b m a u h in
    let above = p.0 in
    let below = p.1 in
    let place : a - base ≡ length before + (a - b) = omega arith in
    let here : a - b < length m = omega arith in
    set-behind before (m ++ after) (a - b) (a - base) w place ∙ ap (λ (l : List ℕ). before ++ l) (set-front m after (a - b) w here)

-- ---- one step

-- what a chain that goes on has on its way
went_on : {A B : Type 0} (r r' : Result A Outside) (f f' : A → Result B Outside) (t t' : B) → ((x : A) → r ≡ Ok x → r' ≡ Ok x)
    → ((x : A) → f x ≡ Ok t → f' x ≡ Ok t') → then_on r f ≡ Ok t → then_on r' f' ≡ Ok t'
went_on (Ok x) r' f f' t t' same on h = ap (λ q. then_on q f') (same x refl) ∙ on x h
went_on (Err e) r' f f' t t' same on h = absurd cc

module _ (base : ℕ) (before after : List ℕ) where
  read_wider : (s : Fm) → IsBehind base before s → (a w : ℕ) → read_word s a ≡ Ok w → read_word (widened base before after s) a ≡ Ok w
  read_wider s at a w h =
      ap (λ o. found_word o a) (read_between base s.base a w before s.memory after at (found_there (word_at s.base s.memory a) a w h))

  value_wider : (s : Fm) → IsBehind base before s → (place : Option ℕ) (own w : ℕ) → value_at s place own ≡ Ok w
      → value_at (widened base before after s) place own ≡ Ok w
  value_wider s at None own w h = h
  value_wider s at (Some a) own w h = read_wider s at a w h

  a_wider : (s : Fm) → IsBehind base before s → (x : OperandA) (rs : List ℕ) (w : ℕ) → value_a s x rs ≡ Ok w → value_a (widened base before after s) x rs ≡ Ok w
  a_wider s at (Immediate n) rs w h = h
  a_wider s at (Place mode r) rs w h = value_wider s at (address_of mode r rs) (slice_index rs r) w h

  b_wider : (s : Fm) → IsBehind base before s → (reads : Bool) (place : Option ℕ) (own w : ℕ) → (if reads then value_at s place own else Ok 0) ≡ Ok w
      → (if reads then value_at (widened base before after s) place own else Ok 0) ≡ Ok w
  b_wider s at true place own w h = value_wider s at place own w h
  b_wider s at false place own w h = h

  stored_wider : (s t : Fm) → IsBehind base before s → (a word : ℕ) → store_at s a word ≡ Ok t
      → store_at (widened base before after s) a word ≡ Ok (widened base before after t)
  stored_wider s t at a word h = by (word_at s.base s.memory a) refl h
    where
      by : (o : Option ℕ) → word_at s.base s.memory a ≡ o → store_at_if (is_some o) s a word ≡ Ok t
          → store_at (widened base before after s) a word ≡ Ok (widened base before after t)
      by (Some u) there h =
          let is : record s { memory = with_word s.base s.memory a word } ≡ t = cc in
          let wider = read_between base s.base a u before s.memory after at there in
          let new = store_between base s.base a word u before s.memory after at there in
          ap (λ o. store_at_if (is_some o) (widened base before after s) a word) wider
          ∙ ap (λ (m : List ℕ). Ok record (widened base before after s) { memory = m }) new ∙ ap (λ (v : Fm). Ok (widened base before after v)) is
      by None there h = absurd cc

  result_wider : (s t : Fm) → IsBehind base before s → (place : Option ℕ) (r word : ℕ) → store_result s place r word ≡ Ok t
      → store_result (widened base before after s) place r word ≡ Ok (widened base before after t)
  result_wider s t at None r word h =
      let is : record s { registers = slice_set s.registers r word } ≡ t = cc in
      ap (λ (v : Fm). Ok (widened base before after v)) is
  result_wider s t at (Some a) r word h = stored_wider s t at a word h

  end_wider : (s t : Fm) → IsBehind base before s → (stores : Bool) (place : Option ℕ) (r word : ℕ)
      → (if stores then store_result s place r word else Ok s) ≡ Ok t
      → (if stores then store_result (widened base before after s) place r word else Ok (widened base before after s))
      ≡ Ok (widened base before after t)
  end_wider s t at true place r word h = result_wider s t at place r word h
  end_wider s t at false place r word h = let is : s ≡ t = cc in ap (λ (v : Fm). Ok (widened base before after v)) is

  values_wider : (s t : Fm) → IsBehind base before s → (i : Instr) (rs : List ℕ) (a b : ℕ) → effect_of_values s i rs a b ≡ Ok t
      → effect_of_values (widened base before after s) i rs a b ≡ Ok (widened base before after t)
  values_wider s t at i rs a b h =
      let next : Fm = record s { registers = registers_after i.mode_b i.reg_b rs; flags = flags_set i.set s.flags (alu_of i.op s.flags.c a b) } in
      end_wider next t at (does_hold i.cc s.flags) (address_of i.mode_b i.reg_b rs) i.reg_b (alu_of i.op s.flags.c a b).word h

  rest_wider : (s t : Fm) → IsBehind base before s → (i : Instr) (rs : List ℕ) (a : ℕ) → effect_of_rest s i rs a ≡ Ok t
      → effect_of_rest (widened base before after s) i rs a ≡ Ok (widened base before after t)
  rest_wider s t at i rs a h =
      went_on (value_b s i rs) (value_b (widened base before after s) i rs) (effect_of_values s i rs a)
      (effect_of_values (widened base before after s) i rs a) t (widened base before after t)
      (b_wider s at (reads_b i.op) (address_of i.mode_b i.reg_b rs) (slice_index rs i.reg_b))
      (λ b. values_wider s t at i rs a b) h

  effect_wider : (s t : Fm) → IsBehind base before s → (i : Instr) (rs : List ℕ) → effect_of s i rs ≡ Ok t
      → effect_of (widened base before after s) i rs ≡ Ok (widened base before after t)
  effect_wider s t at i rs h =
      went_on (value_a s i.a rs) (value_a (widened base before after s) i.a rs) (effect_of_rest s i (registers_after_a i.a rs))
      (effect_of_rest (widened base before after s) i (registers_after_a i.a rs)) t (widened base before after t)
      (a_wider s at i.a rs) (λ a. rest_wider s t at i (registers_after_a i.a rs) a) h

  -- a step that stays in the window is the same step in the wider one, and leaves the words before and after
  pub step_wider : (s t : Fm) → IsBehind base before s → fm_step s ≡ Ok t → fm_step (widened base before after s) ≡ Ok (widened base before after t)
  step_wider s t at h =
      let pc = slice_index s.registers 15 in
      let go : Fm → ℕ → Result Fm Outside = λ u word. effect_of u (decode_of word) (with_increment s.registers 15) in
      went_on (read_word s pc) (read_word (widened base before after s) pc) (go s) (go (widened base before after s)) t (widened base before after t)
      (read_wider s at pc) (λ word. effect_wider s t at (decode_of word) (with_increment s.registers 15)) h

-- ---- what a step keeps

-- the same window, with other words
pub record KeepsWindow (s t : Fm) : Type 0 where
  pub base : t.base ≡ s.base
  pub memory : length t.memory ≡ length s.memory

then_kept : {A : Type 0} (r : Result A Outside) (f : A → Result Fm Outside) (s t : Fm) → ((x : A) → f x ≡ Ok t → KeepsWindow s t) → then_on r f ≡ Ok t
    → KeepsWindow s t
then_kept (Ok x) f s t on h = on x h
then_kept (Err e) f s t on h = absurd cc

store_kept : (s t : Fm) (some : Bool) (a word : ℕ) → store_at_if some s a word ≡ Ok t → KeepsWindow s t
store_kept s t true a word h =
    let is : record s { memory = with_word s.base s.memory a word } ≡ t = cc in
    subst (KeepsWindow s) is record { base = refl; memory = length-with_word s.base s.memory a word }
store_kept s t false a word h = absurd cc

result_kept : (s t : Fm) (place : Option ℕ) (r word : ℕ) → store_result s place r word ≡ Ok t → KeepsWindow s t
result_kept s t None r word h =
    let is : record s { registers = slice_set s.registers r word } ≡ t = cc in
    subst (KeepsWindow s) is record { base = refl; memory = refl }
result_kept s t (Some a) r word h = store_kept s t (is_some (word_at s.base s.memory a)) a word h

end_kept : (s t : Fm) (stores : Bool) (place : Option ℕ) (r word : ℕ) → (if stores then store_result s place r word else Ok s) ≡ Ok t → KeepsWindow s t
end_kept s t true place r word h = result_kept s t place r word h
end_kept s t false place r word h = let is : s ≡ t = cc in subst (KeepsWindow s) is record { base = refl; memory = refl }

values_kept : (s t : Fm) (i : Instr) (rs : List ℕ) (a b : ℕ) → effect_of_values s i rs a b ≡ Ok t → KeepsWindow s t
values_kept s t i rs a b h =
    let next : Fm = record s { registers = registers_after i.mode_b i.reg_b rs; flags = flags_set i.set s.flags (alu_of i.op s.flags.c a b) } in
    let k = end_kept next t (does_hold i.cc s.flags) (address_of i.mode_b i.reg_b rs) i.reg_b (alu_of i.op s.flags.c a b).word h in
    record { base = k.base; memory = k.memory }

pub step_kept : (s t : Fm) → fm_step s ≡ Ok t → KeepsWindow s t
step_kept s t h =
    let rs = with_increment s.registers 15 in
    then_kept (read_word s (slice_index s.registers 15)) (λ word. effect_of s (decode_of word) rs) s t
    (λ word. then_kept (value_a s (decode_of word).a rs) (effect_of_rest s (decode_of word) (registers_after_a (decode_of word).a rs)) s t
    (λ a. then_kept (value_b s (decode_of word) (registers_after_a (decode_of word).a rs))
    (effect_of_values s (decode_of word) (registers_after_a (decode_of word).a rs) a) s t
    (λ b. values_kept s t (decode_of word) (registers_after_a (decode_of word).a rs) a b))) h
