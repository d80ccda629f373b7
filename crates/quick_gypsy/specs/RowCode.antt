-- The quick code of a predefined call, and how many instructions it takes.
use Rattle.std.specs.Prelude.{ℕ, zero, suc, ◌+◌, ◌-◌, List, [], ◌∷◌, ◌++◌}
use Rattle.stack_text.specs.Values.{ValueOf}
use Rattle.fm_words.specs.{declared.condition.Cc.TheVariants.{Vs, Zs, Ge, Cs}, declared.operation.Op.TheVariants.{Move, Neg, Add, Sub, Xor}}
use Rattle.fm_words.specs.{declared.operation.Op.TheVariants.{Or, And}, Code.{no_flags}, Word.{word_of_int}}
use Rattle.fm_machine.specs.Masks.{all_flags}
use Rattle.fm_code.specs.InstructionWords.{flag_z, flag_c}
use Rattle.gypsy_syntax.specs.{declared.predef.Predef.{Predef}, Programs.{Arg, Var, Lit}, Effects.{Effect, Normal, Fault, Beyond}}
use Rattle.gypsy_syntax.specs.Effects.{item_of_value, value_at}
use Rattle.gypsy_syntax.specs.declared.predef.Predef.TheVariants as row
use Rattle.quick_code.specs.{Access.{Access, Held, Known, find_count}, Pieces.{by_word_code, by_literal_code, store_code}}
use Rattle.quick_code.specs.Pieces.{store_literal_code, truth_code, move_code, put_code, jump_when_code, flag_v, product_code}
use Rattle.quick_code.specs.Products.{product_count}
use Rattle.quick_gypsy.specs.Layout.{Layout, count_of, last_address}

-- the variable that an argument is
abbrev pub arg_var : List Arg → ℕ → ℕ
arg_var [] i = 0
arg_var (Var b ∷ args) zero = b
arg_var (Lit v ∷ args) zero = 0
arg_var (a ∷ args) (suc i) = arg_var args i

-- the number of a literal argument
abbrev pub arg_number : List Arg → ℕ → ℕ
arg_number [] i = 0
arg_number (Var b ∷ args) zero = 0
arg_number (Lit v ∷ args) zero = word_of_int (item_of_value v)
arg_number (a ∷ args) (suc i) = arg_number args i

abbrev pub arg_access : Layout → List Arg → ℕ → Access
arg_access L args i = L.access (arg_var args i)

-- r3 from a variable
abbrev pub load : Access → List ℕ
load x = by_word_code Move no_flags x

-- a variable from another one: in one instruction where a register has the address of that
abbrev pub assign_code : Access → Access → List ℕ
assign_code x (Held k) = move_code x k
assign_code x (Known a) = load (Known a) ++ store_code x

abbrev pub assign_count : Access → Access → ℕ
assign_count x (Held k) = find_count x + 1
assign_count x (Known a) = 2 + (find_count x + 1)

-- r3 the address of an item of an array, or a jump where its index is in none: the index is subtracted from the last one, without a sign
abbrev pub item_code : Layout → ℕ → ℕ → Access → List ℕ → List ℕ
item_code L f a i rest =
    by_literal_code Move no_flags (count_of L a - 1) ++ (by_word_code Sub flag_c i ++
    (jump_when_code Cs f ++ (by_literal_code Add no_flags (last_address L a) ++ rest)))

-- where f is the target of routineerror
abbrev pub row_code : Layout → ℕ → List Arg → Predef → List ℕ
row_code L f args row.MgSimpleVariableAssignment = assign_code (arg_access L args 0) (arg_access L args 1)
row_code L f args row.MgSimpleConstantAssignment = store_literal_code (arg_access L args 0) (arg_number args 1)
row_code L f args row.MgSimpleVariableEq =
    load (arg_access L args 2) ++ (by_word_code Xor flag_z (arg_access L args 1) ++ truth_code Zs (arg_access L args 0))
row_code L f args row.MgSimpleConstantEq =
    by_literal_code Move no_flags (arg_number args 2) ++
    (by_word_code Xor flag_z (arg_access L args 1) ++ truth_code Zs (arg_access L args 0))
row_code L f args row.MgIntegerLe =
    load (arg_access L args 2) ++ (by_word_code Sub all_flags (arg_access L args 1) ++ truth_code Ge (arg_access L args 0))
row_code L f args row.MgIntegerUnaryMinus =
    by_word_code Neg flag_v (arg_access L args 1) ++ (jump_when_code Vs f ++ store_code (arg_access L args 0))
row_code L f args row.MgIntegerAdd =
    load (arg_access L args 1) ++
    (by_word_code Add flag_v (arg_access L args 2) ++ (jump_when_code Vs f ++ store_code (arg_access L args 0)))
row_code L f args row.MgIntegerSubtract =
    load (arg_access L args 1) ++
    (by_word_code Sub flag_v (arg_access L args 2) ++ (jump_when_code Vs f ++ store_code (arg_access L args 0)))
row_code L f args row.MgIntegerMultiply =
    product_code (arg_access L args 1) (arg_access L args 2) ++
    (jump_when_code Vs f ++ store_code (arg_access L args 0))
row_code L f args row.MgBooleanOr =
    load (arg_access L args 1) ++ (by_word_code Or no_flags (arg_access L args 2) ++ store_code (arg_access L args 0))
row_code L f args row.MgBooleanAnd =
    load (arg_access L args 1) ++ (by_word_code And no_flags (arg_access L args 2) ++ store_code (arg_access L args 0))
row_code L f args row.MgBooleanNot =
    load (arg_access L args 1) ++ (by_literal_code Xor no_flags 1 ++ store_code (arg_access L args 0))
row_code L f args row.MgIndexArray =
    item_code L f (arg_var args 1) (arg_access L args 2) (move_code (arg_access L args 0) 3)
row_code L f args row.MgArrayElementAssignment =
    item_code L f (arg_var args 0) (arg_access L args 1) (put_code (arg_access L args 2))

-- what finding an argument's address takes
abbrev pub arg_find : Layout → List Arg → ℕ → ℕ
arg_find L args i = find_count (arg_access L args i)

-- so many instructions more where the call doesn't fail
abbrev pub unless_fails : ℕ → Effect → ℕ
unless_fails k (Normal v) = k
unless_fails k Fault = 0
unless_fails k Beyond = 0

-- how many instructions a predefined call takes, from the values of its arguments and its effect
abbrev pub row_cost : Layout → List Arg → Predef → List ValueOf → Effect → ℕ
row_cost L args row.MgSimpleVariableAssignment vs e = assign_count (arg_access L args 0) (arg_access L args 1)
row_cost L args row.MgSimpleConstantAssignment vs e = arg_find L args 0 + 1
row_cost L args row.MgSimpleVariableEq vs e = arg_find L args 2 + 1 + (arg_find L args 1 + 1 + (arg_find L args 0 + 2))
row_cost L args row.MgSimpleConstantEq vs e = 1 + (arg_find L args 1 + 1 + (arg_find L args 0 + 2))
row_cost L args row.MgIntegerLe vs e = arg_find L args 2 + 1 + (arg_find L args 1 + 1 + (arg_find L args 0 + 2))
row_cost L args row.MgIntegerUnaryMinus vs e = arg_find L args 1 + 1 + (1 + unless_fails (arg_find L args 0 + 1) e)
row_cost L args row.MgIntegerAdd vs e =
    arg_find L args 1 + 1 + (arg_find L args 2 + 1 + (1 + unless_fails (arg_find L args 0 + 1) e))
row_cost L args row.MgIntegerSubtract vs e =
    arg_find L args 1 + 1 + (arg_find L args 2 + 1 + (1 + unless_fails (arg_find L args 0 + 1) e))
row_cost L args row.MgIntegerMultiply vs e =
    arg_find L args 1 + arg_find L args 2 + product_count (item_of_value (value_at vs 1)) (item_of_value (value_at vs 2)) +
    (1 + unless_fails (arg_find L args 0 + 1) e)
row_cost L args row.MgBooleanOr vs e = arg_find L args 1 + 1 + (arg_find L args 2 + 1 + (arg_find L args 0 + 1))
row_cost L args row.MgBooleanAnd vs e = arg_find L args 1 + 1 + (arg_find L args 2 + 1 + (arg_find L args 0 + 1))
row_cost L args row.MgBooleanNot vs e = arg_find L args 1 + 1 + (1 + (arg_find L args 0 + 1))
row_cost L args row.MgIndexArray vs e =
    1 + (arg_find L args 2 + 1 + (1 + unless_fails (1 + (arg_find L args 0 + 1)) e))
row_cost L args row.MgArrayElementAssignment vs e =
    1 + (arg_find L args 1 + 1 + (1 + unless_fails (1 + (arg_find L args 2 + 1)) e))
