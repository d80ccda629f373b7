-- Arguments by their numbers.
use Rattle.std.proofs.Common.{◌≡◌, ℕ, zero, suc, ◌<◌, ◌≤◌, List, [], ◌∷◌, map, length, get_or, refl, ap, ◌∙◌, arith}
use Rattle.gypsy_space.{specs.Nodes.seen_arg, specs.declared.program.Argument.Argument}
use Rattle.gypsy_syntax.specs.Programs.{Arg, Var, Lit}
use Rattle.quick_gypsy.specs.RowCode.{arg_number, arg_var}
use Rattle.quick_generate.specs.Rows.{literal_number, var_of}

first_var : (a : Arg) (args : List Arg) → var_of a ≡ arg_var (a ∷ args) 0
first_var (Var b) args = refl
first_var (Lit v) args = refl

next_var : (a : Arg) (args : List Arg) (i : ℕ) → arg_var args i ≡ arg_var (a ∷ args) (suc i)
next_var (Var b) args i = refl
next_var (Lit v) args i = refl

pub var_there : (args : List Argument) (i : ℕ) (a : Argument) → i < length args → a ≡ get_or args i a
    → var_of (seen_arg a) ≡ arg_var (map seen_arg args) i
var_there [] i a lt is = absurd (omega (arith, lt))
var_there (x ∷ args) zero a lt is = ap (λ (y : Argument). var_of (seen_arg y)) is ∙ first_var (seen_arg x) (map seen_arg args)
var_there (x ∷ args) (suc i) a lt is = var_there args i a (omega (arith, lt)) is ∙ next_var (seen_arg x) (map seen_arg args) i

pub var_none : (args : List Argument) (i : ℕ) → length args ≤ i → 0 ≡ arg_var (map seen_arg args) i
var_none [] i past = refl
var_none (x ∷ args) zero past = absurd (omega (arith, past))
var_none (x ∷ args) (suc i) past = var_none args i (omega (arith, past)) ∙ next_var (seen_arg x) (map seen_arg args) i

first_number : (a : Arg) (args : List Arg) → literal_number a ≡ arg_number (a ∷ args) 0
first_number (Var b) args = refl
first_number (Lit v) args = refl

next_number : (a : Arg) (args : List Arg) (i : ℕ) → arg_number args i ≡ arg_number (a ∷ args) (suc i)
next_number (Var b) args i = refl
next_number (Lit v) args i = refl

pub number_there : (args : List Argument) (i : ℕ) (a : Argument) → i < length args → a ≡ get_or args i a
    → literal_number (seen_arg a) ≡ arg_number (map seen_arg args) i
number_there [] i a lt is = absurd (omega (arith, lt))
number_there (x ∷ args) zero a lt is = ap (λ (y : Argument). literal_number (seen_arg y)) is ∙ first_number (seen_arg x) (map seen_arg args)
number_there (x ∷ args) (suc i) a lt is = number_there args i a (omega (arith, lt)) is ∙ next_number (seen_arg x) (map seen_arg args) i

pub number_none : (args : List Argument) (i : ℕ) → length args ≤ i → 0 ≡ arg_number (map seen_arg args) i
number_none [] i past = refl
number_none (x ∷ args) zero past = absurd (omega (arith, past))
number_none (x ∷ args) (suc i) past = number_none args i (omega (arith, past)) ∙ next_number (seen_arg x) (map seen_arg args) i
