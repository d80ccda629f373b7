-- What a row that is no error found: one inversion for each view.
use Rattle.std.proofs.Common.{◌≡◌, ℕ, Result, Ok, Err, Option, Some, None, Bool, true, false, List, [], ◌∷◌, refl, ap}
use Rattle.piton_words.{specs.declared.word.Word.Word, specs.declared.word.Word.TheVariants.{Int, Nat, Bitv, Bool as Truth, Addr, Pc, Subr}}
use Rattle.piton_words.specs.declared.outcome.WordError.{WordError}
use Rattle.piton_semantics.{specs.declared.error_kind.ErrorKind.ErrorKind, specs.Views.{◌>>=◌, then_on, where_true, found, One, Two, one_of, two_of, pc_of}}
use Rattle.piton_semantics.{specs.Views.lifted, proofs.WordViewLaws.same_Ok}

-- what went on had a value
pub record WentOn {A B : Type 0} (r : Result A ErrorKind) (go : A → Result B ErrorKind) (y : B) : Type 0 where
  pub value : A
  pub is : r ≡ Ok value
  pub goes : go value ≡ Ok y

pub went_on : {A B : Type 0} {r : Result A ErrorKind} {go : A → Result B ErrorKind} {y : B} → (r >>= go) ≡ Ok y → WentOn r go y
unfolding then_on
went_on {r = Ok x} h = record { value = x; is = refl; goes = h }
went_on {r = Err e} h = cc

-- a condition that held
pub record Held {A : Type 0} (b : Bool) (answer : Result A ErrorKind) (y : A) : Type 0 where
  pub holds : b ≡ true
  pub goes : answer ≡ Ok y

pub held : {A : Type 0} {b : Bool} {answer : Result A ErrorKind} {y : A} (e : ErrorKind) → where_true b e answer ≡ Ok y → Held b answer y
unfolding where_true
held {b = true} e h = record { holds = refl; goes = h }
held {b = false} e h = cc

pub found_is : {A : Type 0} (o : Option A) (e : ErrorKind) (x : A) → found o e ≡ Ok x → o ≡ Some x
found_is (Some y) e x h = ap Some (same_Ok h)
found_is None e x h = cc

pub one_is : (stack : List Word) (one : One) → one_of stack ≡ Ok one → stack ≡ one.top ∷ one.below
one_is [] one h = cc
one_is (t ∷ below) one h = ap (λ (o : One). o.top ∷ o.below) (same_Ok h)

pub two_are : (stack : List Word) (two : Two) → two_of stack ≡ Ok two → stack ≡ two.top ∷ two.second ∷ two.below
two_are [] two h = cc
two_are (t ∷ []) two h = cc
two_are (t ∷ s ∷ below) two h = ap (λ (o : Two). o.top ∷ o.second ∷ o.below) (same_Ok h)

pub pc_is : (w : Word) (a : ℕ × ℕ) → pc_of w ≡ Ok a → w ≡ Pc a.0 a.1
pc_is (Int j) a h = cc
pc_is (Nat m) a h = cc
pc_is (Bitv m) a h = cc
pc_is (Truth c) a h = cc
pc_is (Addr area offset) a h = cc
pc_is (Pc q l) a h = ap (λ (p : ℕ × ℕ). Pc p.0 p.1) (same_Ok h)
pc_is (Subr q) a h = cc

-- an operation that was no error
pub lifted_is : {A : Type 0} (r : Result A WordError) (x : A) → lifted r ≡ Ok x → r ≡ Ok x
lifted_is (Ok y) x h = ap Ok (same_Ok h)
lifted_is (Err e) x h = cc
