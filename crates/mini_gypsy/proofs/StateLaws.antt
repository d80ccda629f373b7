-- The variables of main: the declared ones, and then the temporaries.
use Rattle.std.{proofs.Common.{◌≡◌, ℕ, suc, ◌+◌, ◌-◌, ◌<◌, List, [], ◌∷◌, ◌++◌, length, refl, sym, ap, ◌∙◌, arith}, specs.Prelude.{slice_set, Some, None}}
use Rattle.std.proofs.lemmas.List.{get_or-append-add, get_or_append_left, set-append_left, set-append_right}
use Rattle.stack_text.specs.Values.{ValueOf}
use Rattle.gypsy_syntax.{specs.Effects.{value_at, no_value}, specs.Programs.Program}
use Rattle.gypsy_syntax.specs.Programs as gypsy
use Rattle.gypsy_space.specs.Needs.{StackSizes}
use Rattle.gypsy_semantics.specs.Meaning.{MeaningOutcome, Done, Unfinished, evaluate, then_do}
use Rattle.mini_gypsy.specs.Steps.{in_turn}

pub read_declared : (d t : List ValueOf) (i : ℕ) → i < length d → value_at (d ++ t) i ≡ value_at d i
read_declared d t i lt = get_or_append_left d t no_value i lt

pub read_temporary : (n : ℕ) (d t : List ValueOf) (i : ℕ) → length d ≡ n → value_at (d ++ t) (n + i) ≡ value_at t i
read_temporary n d t i e = ap (λ (k : ℕ). value_at (d ++ t) (k + i)) (sym e) ∙ get_or-append-add d t i no_value

pub write_declared : (d t : List ValueOf) (i : ℕ) (v : ValueOf) → i < length d → slice_set (d ++ t) i v ≡ slice_set d i v ++ t
write_declared d t i v lt = set-append_left d t i v lt

pub write_temporary : (n : ℕ) (d t : List ValueOf) (i : ℕ) (v : ValueOf) → length d ≡ n → slice_set (d ++ t) (n + i) v ≡ d ++ slice_set t i v
write_temporary n d t i v e =
    let back : n + i - n ≡ i = omega arith in
    set-append_right d t n (n + i) v e (omega arith) ∙ ap (λ (k : ℕ). d ++ slice_set t k v) back

-- one after the other
then_through : (o : MeaningOutcome) (f g h : List ValueOf → MeaningOutcome) → ((y : List ValueOf) → f y ≡ then_do (g y) h)
    → then_do o f ≡ then_do (then_do o g) h
then_through (Done x None) f g h e = e x
then_through (Done x (Some c)) f g h e = refl
then_through Unfinished f g h e = refl

pub turn_append : (q : Program) (sizes : StackSizes) (m : ℕ) (u : StackSizes) (xs ys : List gypsy.Stmt) (x : List ValueOf) →
    evaluate q sizes (suc m) (in_turn (xs ++ ys)) u x ≡ then_do (evaluate q sizes (suc m) (in_turn xs) u x) (evaluate q sizes (suc m) (in_turn ys) u)
turn_append q sizes m u [] ys x = refl
turn_append q sizes m u (s ∷ xs) ys x =
    then_through (evaluate q sizes (suc m) s u x)
    (evaluate q sizes (suc m) (in_turn (xs ++ ys)) u) (evaluate q sizes (suc m) (in_turn xs) u) (evaluate q sizes (suc m) (in_turn ys) u)
    (λ y. turn_append q sizes m u xs ys y)

pub then_none : (o : MeaningOutcome) → then_do o (λ y. Done y None) ≡ o
then_none (Done x None) = refl
then_none (Done x (Some c)) = refl
then_none Unfinished = refl

-- one statement alone
pub turn_one : (q : Program) (sizes : StackSizes) (m : ℕ) (u : StackSizes) (s : gypsy.Stmt) (x : List ValueOf) →
    evaluate q sizes (suc m) (in_turn (s ∷ [])) u x ≡ evaluate q sizes (suc m) s u x
turn_one q sizes m u s x = then_none (evaluate q sizes (suc m) s u x)
