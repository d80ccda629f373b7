-- Parts that rows of quick code have in common, and how many words each row has.
use Rattle.std.specs.Prelude.{ℕ, zero, suc, ◌+◌, ◌-◌, List, ◌++◌}
use Rattle.fm_words.specs.{declared.operation.Op.{Op}, declared.operation.Op.TheVariants.{Move, Add, Sub}, declared.condition.Cc.{Cc}}
use Rattle.fm_words.specs.{declared.condition.Cc.TheVariants.{Vs, Cs}, declared.condition.Flags.{Flags}, Code.{no_flags}}
use Rattle.fm_words.specs.Word.{word_of_int}
use Rattle.fm_code.specs.InstructionWords.{flag_c}
use Rattle.gypsy_syntax.specs.{declared.predef.Predef.{Predef}, Programs.{Arg, Var, Lit}, Effects.{item_of_value}}
use Rattle.gypsy_syntax.specs.declared.predef.Predef.TheVariants as row
use Rattle.quick_code.specs.Pieces.{flag_v, by_word_code, by_literal_code, store_code, truth_code, jump_when_code}
use Rattle.quick_gypsy.specs.{Layout.{Layout, count_of, last_address}, RowCode.{arg_access, arg_var, load}}

-- the variable that an argument is, and the number of a literal
abbrev pub var_of : Arg → ℕ
var_of (Var b) = b
var_of (Lit v) = 0

abbrev pub literal_number : Arg → ℕ
literal_number (Var b) = 0
literal_number (Lit v) = word_of_int (item_of_value v)

-- the truth of a comparison of two variables
abbrev pub compared_code : Layout → List Arg → Op → Flags → Cc → List ℕ
compared_code L args op set cc =
    load (arg_access L args 2) ++ (by_word_code op set (arg_access L args 1) ++ truth_code cc (arg_access L args 0))

-- a sum or a difference
abbrev pub counted_code : Layout → ℕ → List Arg → Op → List ℕ
counted_code L f args op =
    load (arg_access L args 1) ++
    (by_word_code op flag_v (arg_access L args 2) ++ (jump_when_code Vs f ++ store_code (arg_access L args 0)))

-- two Booleans joined
abbrev pub joined_code : Layout → List Arg → Op → List ℕ
joined_code L args op = load (arg_access L args 1) ++ (by_word_code op no_flags (arg_access L args 2) ++ store_code (arg_access L args 0))

-- what comes before the access to an item of the array with this number among the arguments
abbrev pub front_code : Layout → ℕ → List Arg → ℕ → List ℕ
front_code L f args n =
    by_literal_code Move no_flags (count_of L (arg_var args n) - 1) ++ (by_word_code Sub flag_c (arg_access L args (n + 1)) ++
    (jump_when_code Cs f ++ by_literal_code Add no_flags (last_address L (arg_var args n))))

-- a copy, if finding the target takes x words, and finding the source y
abbrev pub copy_size : ℕ → ℕ → ℕ
copy_size x zero = x + 1
copy_size x (suc y) = suc y + 1 + (x + 1)

-- how many words a row has, if finding its variables takes x, y and z words
abbrev pub row_size : ℕ → ℕ → ℕ → Predef → ℕ
row_size x y z row.MgSimpleVariableAssignment = copy_size x y
row_size x y z row.MgSimpleConstantAssignment = x + 2
row_size x y z row.MgSimpleVariableEq = x + y + z + 4
row_size x y z row.MgSimpleConstantEq = x + y + 5
row_size x y z row.MgIntegerLe = x + y + z + 4
row_size x y z row.MgIntegerUnaryMinus = x + y + 4
row_size x y z row.MgIntegerAdd = x + y + z + 5
row_size x y z row.MgIntegerSubtract = x + y + z + 5
row_size x y z row.MgIntegerMultiply = x + y + z + 15
row_size x y z row.MgBooleanOr = x + y + z + 3
row_size x y z row.MgBooleanAnd = x + y + z + 3
row_size x y z row.MgBooleanNot = x + y + 4
row_size x y z row.MgIndexArray = x + z + 8
row_size x y z row.MgArrayElementAssignment = y + z + 8
