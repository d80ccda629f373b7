-- Expressions that were made from their operands.
use Rattle.std.specs.Prelude.{◌≡◌, ℕ, Option, Some}
use Rattle.stack_text.specs.{declared.breach.Breach.{Breach}, Breaches.{Notes}}
use Rattle.mini_syntax.specs.{declared.operator.Infix.{Infix}, declared.operator.Prefix.{Prefix}, declared.typed.Typed.{Typed}}
use Rattle.mini_syntax.specs.{Breaches.{infix_breaches, prefix_breaches}, Language.{Before, Between}, ProgramView.{exp_of}}
use Rattle.mini_syntax.specs.Operands.{infix_sort, prefix_sort}

-- the operator before its operand, or between its operands, and noted where these have other sorts than it takes
pub record IsPrefix (place : ℕ) (op : Prefix) (operand : Typed) (best next : Option Breach) (typed : Typed) : Type 0 where
  pub exp_is : exp_of typed.exp ≡ Before op (exp_of operand.exp)
  pub sort_is : typed.sort ≡ Some (prefix_sort op)
  pub noted : Notes best (prefix_breaches place op operand.sort) next

pub record IsInfix (place : ℕ) (op : Infix) (left right : Typed) (best next : Option Breach) (typed : Typed) : Type 0 where
  pub exp_is : exp_of typed.exp ≡ Between op (exp_of left.exp) (exp_of right.exp)
  pub sort_is : typed.sort ≡ Some (infix_sort op)
  pub noted : Notes best (infix_breaches place op left.sort right.sort) next
