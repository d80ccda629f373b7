-- What a word operation that is no error found: one inversion for each view of piton_words.
use Rattle.std.{proofs.Common.{◌≡◌, ℕ, ℤ, pos, negsuc, Result, Ok, Err, Bool, true, false, refl, ap}, specs.Prelude.{◌^◌, ◌<◌, unsigned_abs}}
use Rattle.std.proofs.lemmas.Bool.{ltb-true}
use Rattle.piton_words.{specs.declared.word.Word.Word, specs.declared.word.Word.TheVariants.{Int, Nat, Bitv, Bool as Truth, Addr, Pc, Subr}}
use Rattle.piton_words.{specs.declared.outcome.Outcome.Outcome, specs.declared.outcome.WordError.WordError, specs.Views.{int_of, nat_of, bitv_of, bool_of}}
use Rattle.piton_words.{specs.Views.where_true, specs.OperationRows.{ints, nats, bitvs, bools}}
use Rattle.fm_words.specs.Word.{is_nat}
use Rattle.stack_text.{specs.Results.◌>>=◌, proofs.ResultLaws.bind_ok}

-- the values in two equal answers
pub same_Ok : {A E : Type 0} {x y : A} → ◌≡◌ {A = Result A E} (Ok x) (Ok y) → x ≡ y
same_Ok {x = x} h = ap (λ r. elim r [ Ok z ↦ z | Err e ↦ x ]) h

-- what went on had a value
pub record WentOn {A B : Type 0} (r : Result A WordError) (go : A → Result B WordError) (y : B) : Type 0 where
  pub value : A
  pub is : r ≡ Ok value
  pub goes : go value ≡ Ok y

pub went_on : {A B : Type 0} (r : Result A WordError) (go : A → Result B WordError) (y : B) → (r >>= go) ≡ Ok y → WentOn r go y
went_on r go y h = let first = bind_ok r go y h in record { value = first.0; is = first.1; goes = first.2 }

pub int_is : (w : Word) (i : ℤ) → int_of w ≡ Ok i → w ≡ Int i
int_is (Int j) i h = ap Int (same_Ok h)
int_is (Nat n) i h = cc
int_is (Bitv n) i h = cc
int_is (Truth b) i h = cc
int_is (Addr a o) i h = cc
int_is (Pc q l) i h = cc
int_is (Subr q) i h = cc

pub nat_is : (w : Word) (n : ℕ) → nat_of w ≡ Ok n → w ≡ Nat n
nat_is (Int j) n h = cc
nat_is (Nat m) n h = ap Nat (same_Ok h)
nat_is (Bitv m) n h = cc
nat_is (Truth b) n h = cc
nat_is (Addr a o) n h = cc
nat_is (Pc q l) n h = cc
nat_is (Subr q) n h = cc

pub bitv_is : (w : Word) (n : ℕ) → bitv_of w ≡ Ok n → w ≡ Bitv n
bitv_is (Int j) n h = cc
bitv_is (Nat m) n h = cc
bitv_is (Bitv m) n h = ap Bitv (same_Ok h)
bitv_is (Truth b) n h = cc
bitv_is (Addr a o) n h = cc
bitv_is (Pc q l) n h = cc
bitv_is (Subr q) n h = cc

pub bool_is : (w : Word) (b : Bool) → bool_of w ≡ Ok b → w ≡ Truth b
bool_is (Int j) b h = cc
bool_is (Nat m) b h = cc
bool_is (Bitv m) b h = cc
bool_is (Truth c) b h = ap Truth (same_Ok h)
bool_is (Addr a o) b h = cc
bool_is (Pc q l) b h = cc
bool_is (Subr q) b h = cc

-- a condition that held
pub record Held (b : Bool) (answer : Result Outcome WordError) (out : Outcome) : Type 0 where
  pub holds : b ≡ true
  pub goes : answer ≡ Ok out

pub held : (b : Bool) (answer : Result Outcome WordError) (out : Outcome) → where_true b answer ≡ Ok out → Held b answer out
held true answer out h = record { holds = refl; goes = h }
held false answer out h = cc

pub nat_fits : (i : ℤ) → is_nat i ≡ true → unsigned_abs i < 2 ^ 32
nat_fits (pos n) h = ltb-true n (2 ^ 32) h
nat_fits (negsuc n) h = cc

-- the second and the top of one type
pub record Both {A : Type 0} (made : A → Word) (second top : Word) (row : A → A → Result Outcome WordError) (out : Outcome) : Type 0 where
  pub s : A
  pub t : A
  pub second_is : second ≡ made s
  pub top_is : top ≡ made t
  pub goes : row s t ≡ Ok out

both_are : {A : Type 0} (of : Word → Result A WordError) (made : A → Word) → ((w : Word) (x : A) → of w ≡ Ok x → w ≡ made x) →
    (second top : Word) (row : A → A → Result Outcome WordError) (out : Outcome) →
    (of top >>= λ t. of second >>= λ s. row s t) ≡ Ok out → Both made second top row out
both_are of made is second top row out h =
    let a = went_on (of top) (λ t. of second >>= λ s. row s t) out h in
    let b = went_on (of second) (λ s. row s a.value) out a.goes in
    record { s = b.value; t = a.value; second_is = is second b.value b.is; top_is = is top a.value a.is; goes = b.goes }

pub ints_are : (second top : Word) (row : ℤ → ℤ → Result Outcome WordError) (out : Outcome) →
    ints second top row ≡ Ok out → Both Int second top row out
ints_are = both_are int_of Int int_is

pub nats_are : (second top : Word) (row : ℕ → ℕ → Result Outcome WordError) (out : Outcome) →
    nats second top row ≡ Ok out → Both Nat second top row out
nats_are = both_are nat_of Nat nat_is

pub bitvs_are : (second top : Word) (row : ℕ → ℕ → Result Outcome WordError) (out : Outcome) →
    bitvs second top row ≡ Ok out → Both Bitv second top row out
bitvs_are = both_are bitv_of Bitv bitv_is

pub bools_are : (second top : Word) (row : Bool → Bool → Result Outcome WordError) (out : Outcome) →
    bools second top row ≡ Ok out → Both Truth second top row out
bools_are = both_are bool_of Truth bool_is
