-- A machine's words have 32 bits.
use Rattle.std.proofs.Common.{◌≡◌, ℕ, zero, suc, ◌-◌, ◌^◌, ◌<◌, Bool, true, false, List, [], ◌∷◌, Some, None, subst, arith}
use Rattle.std.{proofs.lemmas.Option.get_or_from_slice_get, specs.Prelude.{slice_set, nat_lt, slice_get, if◌then◌else◌}}
use Rattle.fm_words.{specs.declared.instruction.Mode.Mode, specs.declared.instruction.Mode.TheVariants.{Register, Indirect, PreDecrement, PostIncrement}}
use Rattle.fm_machine.{specs.State.{word_at, with_word}, specs.Step.{registers_after, with_increment}}
use Rattle.fm_circuit.specs.Following.{AreWords}

pub words_set : (xs : List ℕ) (r x : ℕ) → AreWords xs → x < 2 ^ 32 → AreWords (slice_set xs r x)
words_set [] r x h p i = h i
words_set (y ∷ ys) zero x h p zero = p
words_set (y ∷ ys) zero x h p (suc i) = h (suc i)
words_set (y ∷ ys) (suc r) x h p zero = h zero
words_set (y ∷ ys) (suc r) x h p (suc i) = words_set ys r x (λ k. h (suc k)) p i

pub words_after : (mode : Mode) (r : ℕ) (rs : List ℕ) → AreWords rs → AreWords (registers_after mode r rs)
words_after Register r rs h = h
words_after Indirect r rs h = h
words_after PreDecrement r rs h = words_set rs r _ h (omega arith)
words_after PostIncrement r rs h = words_set rs r _ h (omega arith)

pub words_increment : (rs : List ℕ) (r : ℕ) → AreWords rs → AreWords (with_increment rs r)
words_increment rs r h = words_set rs r _ h (omega arith)

pub word_found : (base : ℕ) (m : List ℕ) (a x : ℕ) → AreWords m → word_at base m a ≡ Some x → x < 2 ^ 32
unfolding word_at
word_found base m a x h e = by_test (nat_lt a base) e
  where
    by_test : (t : Bool) → (if t then None else slice_get m (a - base)) ≡ Some x → x < 2 ^ 32
    by_test true e = absurd (let no : None ≡ Some x = e in cc)
    by_test false e = subst (λ v. v < 2 ^ 32) (get_or_from_slice_get m (a - base) x 0 e) (h (a - base))

pub words_with : (base : ℕ) (m : List ℕ) (a x : ℕ) → AreWords m → x < 2 ^ 32 → AreWords (with_word base m a x)
unfolding with_word
words_with base m a x h p = words_set m (a - base) x h p
