-- Copying a callee's formals back into the caller's variables.
use Rattle.std.proofs.Common.{◌≡◌, ℕ, zero, suc, ◌<◌, ◌≤◌, List, [], ◌∷◌, ◌++◌, length, map, drop, refl, sym, ap, ◌∙◌, subst, arith}
use Rattle.std.{specs.Prelude.{slice_index, slice_set, slice_get}, proofs.lemmas.List.{length-set, get_or-set_same, set-get_or, set_comm}}
use Rattle.std.proofs.lemmas.Option.{slice_get_within}
use Rattle.stack_text.{specs.declared.shape.Shape.Shape, specs.Values.ValueOf}
use Rattle.gypsy_syntax.{specs.ProgramFits.{Misses, Distinct, ActualsFit, Each}, specs.Effects.{value_at, no_value}, specs.ValuesFit.VarsFit}
use Rattle.gypsy_semantics.{specs.Calls.copied_out, proofs.LendingLaws.copied_miss}

-- each is below n
abbrev pub Below : ℕ → List ℕ → Type 0
Below n [] = Unit {0}
Below n (a ∷ xs) = (a < n) × Below n xs

pub copied_at : (xs : List ℕ) (y x : List ValueOf) (i : ℕ) → Distinct xs → Below (length x) xs → i < length xs → i < length y
    → value_at (copied_out xs y x) (slice_index xs i) ≡ value_at y i
copied_at [] y x i d b lx ly = absurd (omega arith)
copied_at (a ∷ xs) [] x i d b lx ly = absurd (omega arith)
copied_at (a ∷ xs) (v ∷ y) x zero d b lx ly = copied_miss xs y (slice_set x a v) a d.0 ∙ get_or-set_same x a v no_value b.0
copied_at (a ∷ xs) (v ∷ y) x (suc i) d b lx ly =
    copied_at xs y (slice_set x a v) i d.1 (subst (λ n. Below n xs) (sym (length-set x a v)) b.1) (omega arith) (omega arith)

pub copied_set_miss : (xs : List ℕ) (y x : List ValueOf) (a : ℕ) (v : ValueOf) → Misses a xs
    → copied_out xs y (slice_set x a v) ≡ slice_set (copied_out xs y x) a v
copied_set_miss [] y x a v m = refl
copied_set_miss (b ∷ xs) [] x a v m = refl
copied_set_miss (b ∷ xs) (w ∷ y) x a v m = ap (copied_out xs y) (set_comm x a b v w m.0) ∙ copied_set_miss xs y (slice_set x b w) a v m.1

set_twice : (x : List ValueOf) (a : ℕ) (v w : ValueOf) → slice_set (slice_set x a v) a w ≡ slice_set x a w
set_twice [] a v w = refl
set_twice (y ∷ x) zero v w = refl
set_twice (y ∷ x) (suc a) v w = ap (λ l. y ∷ l) (set_twice x a v w)

pub copied_set : (xs : List ℕ) (y x : List ValueOf) (i : ℕ) (v : ValueOf) → Distinct xs → i < length xs → i < length y
    → copied_out xs (slice_set y i v) x ≡ slice_set (copied_out xs y x) (slice_index xs i) v
copied_set [] y x i v d lx ly = absurd (omega arith)
copied_set (a ∷ xs) [] x i v d lx ly = absurd (omega arith)
copied_set (a ∷ xs) (w ∷ y) x zero v d lx ly = ap (copied_out xs y) (sym (set_twice x a w v)) ∙ copied_set_miss xs y (slice_set x a w) a v d.0
copied_set (a ∷ xs) (w ∷ y) x (suc i) v d lx ly = copied_set xs y (slice_set x a w) i v d.1 (omega arith) (omega arith)

pub copied_past : (xs : List ℕ) (y x : List ValueOf) (i : ℕ) (v : ValueOf) → length xs ≤ i → copied_out xs (slice_set y i v) x ≡ copied_out xs y x
copied_past [] y x i v l = refl
copied_past (a ∷ xs) [] x i v l = refl
copied_past (a ∷ xs) (w ∷ y) x zero v l = absurd (omega arith)
copied_past (a ∷ xs) (w ∷ y) x (suc i) v l = copied_past xs y (slice_set x a w) i v (omega arith)

back_at : (ls x : List ValueOf) (xs : List ℕ) (z : List ValueOf) → z ≡ x → copied_out xs (map (value_at x) xs ++ ls) z ≡ x
back_at ls x [] z e = e
back_at ls x (a ∷ xs) z e =
    back_at ls x xs (slice_set z a (value_at x a)) (ap (λ u. slice_set u a (value_at x a)) e ∙ set-get_or x a no_value)

pub copied_back : (xs : List ℕ) (ls x : List ValueOf) → copied_out xs (map (value_at x) xs ++ ls) x ≡ x
copied_back xs ls x = back_at ls x xs x refl

-- Actuals that fit.

pub actuals_below : (shapes formals : List Shape) (xs : List ℕ) → ActualsFit shapes formals xs → Below (length shapes) xs
actuals_below shapes [] [] f = tt
actuals_below shapes [] (x ∷ xs) f = absurd f
actuals_below shapes (s ∷ formals) [] f = absurd f
actuals_below shapes (s ∷ formals) (x ∷ xs) f = (slice_get_within shapes x s f.0, actuals_below shapes formals xs f.1)

-- the actual of a formal has its shape
pub actual_shape : (shapes formals rest : List Shape) (xs : List ℕ) (b : ℕ) → ActualsFit shapes formals xs → b < length formals
    → slice_get shapes (slice_index xs b) ≡ slice_get (formals ++ rest) b
actual_shape shapes [] rest xs b f h = absurd (omega arith)
actual_shape shapes (s ∷ formals) rest [] b f h = absurd f
actual_shape shapes (s ∷ formals) rest (x ∷ xs) zero f h = f.0
actual_shape shapes (s ∷ formals) rest (x ∷ xs) (suc b) f h = actual_shape shapes formals rest xs b f.1 (omega arith)

-- Variables that fit.

pub vars_number : (shapes : List Shape) (x : List ValueOf) → VarsFit shapes x → length x ≡ length shapes
vars_number [] [] h = refl
vars_number [] (v ∷ x) h = absurd h
vars_number (s ∷ shapes) [] h = absurd h
vars_number (s ∷ shapes) (v ∷ x) h = ap suc (vars_number shapes x h.2)

pub vars_behind : (formals rest : List Shape) (y : List ValueOf) → VarsFit (formals ++ rest) y → VarsFit rest (drop (length formals) y)
vars_behind [] rest y h = h
vars_behind (s ∷ formals) rest [] h = absurd h
vars_behind (s ∷ formals) rest (v ∷ y) h = vars_behind formals rest y h.2

-- Lists.

pub each_both : {X : Type 0} (P : X → Type 0) (a b : List X) → Each P a → Each P b → Each P (a ++ b)
each_both P [] b x y = y
each_both P (c ∷ a) b x y = (x.0, each_both P a b x.1 y)
