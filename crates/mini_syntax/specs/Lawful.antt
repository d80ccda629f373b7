-- Programs that break no rule.
use Rattle.std.specs.{Prelude.{◌≡◌, ℕ, suc, ◌+◌, ◌≤◌, ◌<◌, List, [], ◌∷◌, map, length, max, get_or, true, false}, List.{list_all}}
use Rattle.std.specs.Str.{bytes_eq}
use Rattle.mini_syntax.specs.{InfixLimits.{most_infix_variables}, declared.program.Declared.{Declared}, Language.{Exp, Variable, Number}}
use Rattle.mini_syntax.specs.{Language.{Truth, Before, Between, Stmt, Nothing, Then, Assign, While, If}, Names.{is_variable_name}}
use Rattle.mini_syntax.specs.Sorted.{AreFine}
use Rattle.stack_text.specs.SharedLimits.{most_text}

abbrev pub nth_name : List (List ℕ) → ℕ → List ℕ
nth_name names i = get_or names i []

-- no name is a later one's
abbrev pub AreApart : List (List ℕ) → Type 0
AreApart [] = Unit {0}
AreApart (name ∷ names) = ((i : ℕ) → i < length names → bytes_eq (nth_name names i) name ≡ false) × AreApart names

-- how many blocks nest
abbrev pub levels : Stmt → ℕ
levels Nothing = 0
levels (Then s t) = max (levels s) (levels t)
levels (Assign i e) = 0
levels (While e s) = suc (levels s)
levels (If e s t) = suc (max (levels s) (levels t))

-- how many operators, operands and statements there are
abbrev pub size_of : Exp → ℕ
size_of (Variable sort i) = 1
size_of (Number n) = 1
size_of (Truth b) = 1
size_of (Before op e) = suc (size_of e)
size_of (Between op a b) = suc (size_of a + size_of b)

abbrev pub part_count : Stmt → ℕ
part_count Nothing = 0
part_count (Then s t) = part_count s + part_count t
part_count (Assign i e) = suc (size_of e)
part_count (While e s) = suc (size_of e + part_count s)
part_count (If e s t) = suc (size_of e + part_count s + part_count t)

-- the declared variables and the statements of a program that breaks no rule
pub record IsLawful (ds : List Declared) (s : Stmt) : Type 0 where
  pub names : list_all (λ d. is_variable_name d.name) ds ≡ true
  pub apart : AreApart (map (λ d. d.name) ds)
  pub few : length ds ≤ most_infix_variables
  pub fine : AreFine (map (λ d. d.sort) ds) s
  pub shallow : levels s ≤ 40
  pub short : part_count s ≤ most_text
