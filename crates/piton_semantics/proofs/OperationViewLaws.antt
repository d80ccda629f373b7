-- What follows where a row of an operation has an answer.
use Rattle.std.{proofs.Common.{◌≡◌, ℕ, Bool, true, false, Result, Ok, Err, refl, ap, subst}, specs.Prelude.ℤ}
use Rattle.piton_words.{specs.declared.word.Word.Word, specs.declared.word.Word.TheVariants.{Int, Nat, Bitv, Bool as Truth, Addr}}
use Rattle.piton_words.{specs.declared.outcome.Outcome.Outcome, specs.declared.outcome.WordError.WordError, specs.declared.outcome.WordError.TheVariants.Tag}
use Rattle.piton_words.{specs.declared.outcome.WordError.TheVariants.Range, specs.Views.{int_of, nat_of, bitv_of, bool_of, addr_of, where_true}}
use Rattle.stack_text.specs.Results.{◌>>=◌}

pub refused : {A : Type 0} (e : WordError) (out : Outcome) → (let r : Result Outcome WordError = Err e in r) ≡ Ok out → A
refused e out h = absurd cc

pub by_int : (w : Word) (go : ℤ → Result Outcome WordError) (out : Outcome) (Q : Word → Type 0) → (int_of w >>= go) ≡ Ok out
    → ((z : ℤ) → go z ≡ Ok out → Q (Int z)) → Q w
by_int (Int z) go out Q h k = k z h
by_int w go out Q h k = refused Tag out h

pub by_nat : (w : Word) (go : ℕ → Result Outcome WordError) (out : Outcome) (Q : Word → Type 0) → (nat_of w >>= go) ≡ Ok out
    → ((z : ℕ) → go z ≡ Ok out → Q (Nat z)) → Q w
by_nat (Nat z) go out Q h k = k z h
by_nat w go out Q h k = refused Tag out h

pub by_bitv : (w : Word) (go : ℕ → Result Outcome WordError) (out : Outcome) (Q : Word → Type 0) → (bitv_of w >>= go) ≡ Ok out
    → ((z : ℕ) → go z ≡ Ok out → Q (Bitv z)) → Q w
by_bitv (Bitv z) go out Q h k = k z h
by_bitv w go out Q h k = refused Tag out h

pub by_bool : (w : Word) (go : Bool → Result Outcome WordError) (out : Outcome) (Q : Word → Type 0) → (bool_of w >>= go) ≡ Ok out
    → ((z : Bool) → go z ≡ Ok out → Q (Truth z)) → Q w
by_bool (Truth z) go out Q h k = k z h
by_bool w go out Q h k = refused Tag out h

pub by_addr : (w : Word) (go : ℕ × ℕ → Result Outcome WordError) (out : Outcome) (Q : Word → Type 0) → (addr_of w >>= go) ≡ Ok out
    → ((a o : ℕ) → go (a, o) ≡ Ok out → Q (Addr a o)) → Q w
by_addr (Addr a o) go out Q h k = k a o h
by_addr w go out Q h k = refused Tag out h

pub by_true : (b : Bool) (r : Result Outcome WordError) (out : Outcome) (Q : Type 0) → where_true b r ≡ Ok out → (b ≡ true → r ≡ Ok out → Q) → Q
by_true true r out Q h k = k refl h
by_true false r out Q h k = refused Range out h

-- the answer itself
answer_of : Outcome → Result Outcome WordError → Outcome
answer_of d (Ok o) = o
answer_of d (Err e) = d

pub by_ok : (o out : Outcome) (Q : Outcome → Type 0) → (let r : Result Outcome WordError = Ok o in r) ≡ Ok out → Q o → Q out
unfolding answer_of
by_ok o out Q h q = subst Q (ap (answer_of o) h) q
