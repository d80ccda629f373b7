-- Programs in which each operator, test and assignment has what it takes, and no expression is too deep.
use Rattle.std.specs.Prelude.{◌≡◌, ℕ, suc, ◌≤◌, ◌<◌, ◌^◌, List, slice_get, max, Some, true}
use Rattle.mini_syntax.specs.{declared.sort.Sort.{Sort}, declared.sort.Sort.TheVariants.{Bool}, Language.{Exp, Variable, Number, Truth}}
use Rattle.mini_syntax.specs.{Language.{Before, Between, Stmt, Nothing, Then, Assign, While, If}, Operands.{prefix_takes, infix_takes}}
use Rattle.mini_syntax.specs.Operands.{sort_of}

-- how deep an expression is at most: it has 40 operators
abbrev pub depths : ℕ
depths = 41

-- how many temporaries of a sort an expression needs
abbrev pub depth : Exp → ℕ
depth (Variable sort i) = 1
depth (Number n) = 1
depth (Truth b) = 1
depth (Before op e) = depth e
depth (Between op a b) = max (depth a) (suc (depth b))

-- each variable is declared with its sort, each number has 32 signed bits, and each operator takes its operands
abbrev pub IsWellSorted : List Sort → Exp → Type 0
IsWellSorted sorts (Variable sort i) = slice_get sorts i ≡ Some sort
IsWellSorted sorts (Number n) = n < 2 ^ 31
IsWellSorted sorts (Truth b) = Unit {0}
IsWellSorted sorts (Before op e) = IsWellSorted sorts e × (prefix_takes op (sort_of e) ≡ true)
IsWellSorted sorts (Between op a b) = IsWellSorted sorts a × IsWellSorted sorts b × (infix_takes op (sort_of a) (sort_of b) ≡ true)

-- and it isn't too deep
pub record IsFine (sorts : List Sort) (sort : Sort) (e : Exp) : Type 0 where
  pub sorted : IsWellSorted sorts e
  pub same : sort_of e ≡ sort
  pub shallow : depth e ≤ depths

abbrev pub AreFine : List Sort → Stmt → Type 0
AreFine sorts Nothing = Unit {0}
AreFine sorts (Then s t) = AreFine sorts s × AreFine sorts t
AreFine sorts (Assign i e) = (slice_get sorts i ≡ Some (sort_of e)) × IsFine sorts (sort_of e) e
AreFine sorts (While e s) = IsFine sorts Bool e × AreFine sorts s
AreFine sorts (If e s t) = IsFine sorts Bool e × AreFine sorts s × AreFine sorts t
