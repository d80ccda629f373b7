-- Programs of the infix language, with a variable's sort and its position among the declarations in place of its name.
use Rattle.std.specs.Prelude.{ℕ, Bool}
use Rattle.mini_syntax.specs.{declared.sort.Sort.{Sort}, declared.operator.Prefix.{Prefix}, declared.operator.Infix.{Infix}}

pub data Exp : Type 0 where
  Variable : (sort : Sort) (i : ℕ) → Exp
  Number : (n : ℕ) → Exp
  Truth : (b : Bool) → Exp
  Before : (op : Prefix) (e : Exp) → Exp
  Between : (op : Infix) (a b : Exp) → Exp

-- a program's statements, and a block's; `Then` is one after the other
pub data Stmt : Type 0 where
  Nothing : Stmt
  Then : (s t : Stmt) → Stmt
  Assign : (i : ℕ) (e : Exp) → Stmt
  While : (test : Exp) (s : Stmt) → Stmt
  If : (test : Exp) (s t : Stmt) → Stmt
