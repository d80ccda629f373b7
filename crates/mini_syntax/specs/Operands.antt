-- What operators take and give.
use Rattle.std.specs.Prelude.{true, false}
use Rattle.std.specs.Prelude as std
use Rattle.mini_syntax.specs.{declared.sort.Sort.{Sort}, declared.sort.Sort.TheVariants.{Int, Bool}, declared.operator.Prefix.{Prefix}}
use Rattle.mini_syntax.specs.{declared.operator.Prefix.TheVariants.{Not, Minus}, declared.operator.Infix.{Infix}}
use Rattle.mini_syntax.specs.{declared.operator.Infix.TheVariants.{Or, And, AtMost, Equals, Add, Subtract, Multiply}, Language.{Exp}}
use Rattle.mini_syntax.specs.Language.{Variable, Number, Truth, Before, Between}

-- the sort of its operand
abbrev pub prefix_takes : Prefix → Sort → std.Bool
prefix_takes Not Bool = true
prefix_takes Minus Int = true
prefix_takes op s = false

-- the sorts of its operands; `=` takes two of one sort
abbrev pub infix_takes : Infix → Sort → Sort → std.Bool
infix_takes Or Bool Bool = true
infix_takes And Bool Bool = true
infix_takes AtMost Int Int = true
infix_takes Equals Int Int = true
infix_takes Equals Bool Bool = true
infix_takes Add Int Int = true
infix_takes Subtract Int Int = true
infix_takes Multiply Int Int = true
infix_takes op s t = false

-- the sorts of their results
abbrev pub prefix_sort : Prefix → Sort
prefix_sort Not = Bool
prefix_sort Minus = Int

abbrev pub infix_sort : Infix → Sort
infix_sort Or = Bool
infix_sort And = Bool
infix_sort AtMost = Bool
infix_sort Equals = Bool
infix_sort Add = Int
infix_sort Subtract = Int
infix_sort Multiply = Int

-- the sort of what an expression is worth
abbrev pub sort_of : Exp → Sort
sort_of (Variable sort i) = sort
sort_of (Number n) = Int
sort_of (Truth b) = Bool
sort_of (Before op e) = prefix_sort op
sort_of (Between op a b) = infix_sort op
