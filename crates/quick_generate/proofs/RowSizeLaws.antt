-- How many words rows of quick code have.
use Rattle.std.proofs.Common.{◌≡◌, ℕ, ◌+◌, ◌-◌, List, ◌++◌, length, refl, arith, length-append}
use Rattle.fm_words.{specs.declared.operation.Op.Op, specs.declared.operation.Op.TheVariants.{Move, Neg, Add, Sub, Xor, Or, And}}
use Rattle.fm_words.{specs.declared.condition.Cc.Cc, specs.declared.condition.Cc.TheVariants.{Vs, Zs, Ge, Cs}, specs.declared.condition.Flags.Flags}
use Rattle.fm_words.specs.Code.{no_flags}
use Rattle.fm_machine.specs.Masks.{all_flags}
use Rattle.fm_code.specs.InstructionWords.{flag_z, flag_c}
use Rattle.gypsy_syntax.{specs.declared.predef.Predef.Predef, specs.Programs.Arg}
use Rattle.gypsy_syntax.specs.declared.predef.Predef.TheVariants as row
use Rattle.quick_code.{specs.Access.{Access, Held, Known, find_code}, specs.Pieces.{by_word_code, by_literal_code, store_code, store_literal_code, truth_code}}
use Rattle.quick_code.specs.Pieces.{flag_v, factors_code, move_code, product_code, put_code, jump_when_code, rounds_code, signs_code}
use Rattle.quick_gypsy.{specs.Layout.{Layout, count_of, last_address}, specs.RowCode.{arg_access, arg_number, arg_var, assign_code, item_code, load, row_code}}
use Rattle.quick_generate.specs.Rows.{copy_size, row_size}

-- pieces
pub by_word_size : (op : Op) (set : Flags) (x : Access) → length (by_word_code op set x) ≡ length (find_code x) + 1
by_word_size op set (Held k) = refl
by_word_size op set (Known a) = refl

store_size : (x : Access) → length (store_code x) ≡ length (find_code x) + 1
store_size (Held k) = refl
store_size (Known a) = refl

literal_size : (x : Access) (w : ℕ) → length (store_literal_code x w) ≡ length (find_code x) + 2
literal_size (Held k) w = refl
literal_size (Known a) w = refl

truth_size : (cc : Cc) (x : Access) → length (truth_code cc x) ≡ length (find_code x) + 2
truth_size cc (Held k) = refl
truth_size cc (Known a) = refl

move_size : (x : Access) (k : ℕ) → length (move_code x k) ≡ length (find_code x) + 1
move_size (Held j) k = refl
move_size (Known a) k = refl

put_size : (x : Access) → length (put_code x) ≡ length (find_code x) + 1
put_size (Held k) = refl
put_size (Known a) = refl

assign_size : (x y : Access) → length (assign_code x y) ≡ copy_size (length (find_code x)) (length (find_code y))
assign_size x (Held k) = move_size x k
assign_size x (Known a) = omega (arith, length-append (load (Known a)) (store_code x), store_size x)

-- three parts, and four
parts : (a b c : List ℕ) → length (a ++ (b ++ c)) ≡ length a + (length b + length c)
parts a b c = omega (arith, length-append a (b ++ c), length-append b c)

more_parts : (a b c d : List ℕ) → length (a ++ (b ++ (c ++ d))) ≡ length a + (length b + (length c + length d))
more_parts a b c d = omega (arith, length-append a (b ++ (c ++ d)), parts b c d)

compared : (op : Op) (set : Flags) (cc : Cc) (x y z : Access) →
    length (load z ++ (by_word_code op set y ++ truth_code cc x)) ≡ length (find_code x) + length (find_code y) + length (find_code z) + 4
compared op set cc x y z =
    omega (
      arith,
      parts (load z) (by_word_code op set y) (truth_code cc x),
      by_word_size Move no_flags z,
      by_word_size op set y,
      truth_size cc x,
    )

counted : (f : ℕ) (op : Op) (x y z : Access) →
    length (load y ++ (by_word_code op flag_v z ++ (jump_when_code Vs f ++ store_code x)))
    ≡ length (find_code x) + length (find_code y) + length (find_code z) + 5
counted f op x y z =
    omega (
      arith,
      more_parts (load y) (by_word_code op flag_v z) (jump_when_code Vs f) (store_code x),
      by_word_size Move no_flags y,
      by_word_size op flag_v z,
      store_size x,
    )

factors_size : (x y : Access) → length (factors_code x y) ≡ length (find_code x) + length (find_code y) + 3
factors_size (Held j) (Held k) = refl
factors_size (Held j) (Known b) = refl
factors_size (Known a) (Held k) = refl
factors_size (Known a) (Known b) = refl

multiplied : (f : ℕ) (x y z : Access) →
    length (product_code y z ++ (jump_when_code Vs f ++ store_code x)) ≡ length (find_code x) + length (find_code y) + length (find_code z) + 15
multiplied f x y z =
    omega (
      arith,
      parts (product_code y z) (jump_when_code Vs f) (store_code x),
      length-append (factors_code y z) (signs_code ++ rounds_code),
      factors_size y z,
      store_size x,
    )

joined : (op : Op) (x y z : Access) →
    length (load y ++ (by_word_code op no_flags z ++ store_code x)) ≡ length (find_code x) + length (find_code y) + length (find_code z) + 3
joined op x y z =
    omega (
      arith,
      parts (load y) (by_word_code op no_flags z) (store_code x),
      by_word_size Move no_flags y,
      by_word_size op no_flags z,
      store_size x,
    )

item : (L : Layout) (f a : ℕ) (i : Access) (rest : List ℕ) → length (item_code L f a i rest) ≡ length (find_code i) + length rest + 7
item L f a i rest =
    let first = by_literal_code Move no_flags (count_of L a - 1) in
    let last = by_literal_code Add no_flags (last_address L a) in
    omega (
      arith,
      more_parts first (by_word_code Sub flag_c i) (jump_when_code Cs f) (last ++ rest),
      by_word_size Sub flag_c i,
      length-append last rest,
    )

pub row_size_is : (L : Layout) (f : ℕ) (args : List Arg) (r : Predef) → length (row_code L f args r)
    ≡ row_size (length (find_code (arg_access L args 0))) (length (find_code (arg_access L args 1))) (length (find_code (arg_access L args 2))) r
row_size_is L f args row.MgSimpleVariableAssignment = assign_size (arg_access L args 0) (arg_access L args 1)
row_size_is L f args row.MgSimpleConstantAssignment = literal_size (arg_access L args 0) (arg_number args 1)
row_size_is L f args row.MgSimpleVariableEq = compared Xor flag_z Zs (arg_access L args 0) (arg_access L args 1) (arg_access L args 2)
row_size_is L f args row.MgSimpleConstantEq =
    let x = arg_access L args 0 in
    let y = arg_access L args 1 in
    omega (
      arith,
      parts (by_literal_code Move no_flags (arg_number args 2)) (by_word_code Xor flag_z y) (truth_code Zs x),
      by_word_size Xor flag_z y,
      truth_size Zs x,
    )
row_size_is L f args row.MgIntegerLe = compared Sub all_flags Ge (arg_access L args 0) (arg_access L args 1) (arg_access L args 2)
row_size_is L f args row.MgIntegerUnaryMinus =
    let x = arg_access L args 0 in
    let y = arg_access L args 1 in
    omega (arith, parts (by_word_code Neg flag_v y) (jump_when_code Vs f) (store_code x), by_word_size Neg flag_v y, store_size x)
row_size_is L f args row.MgIntegerAdd = counted f Add (arg_access L args 0) (arg_access L args 1) (arg_access L args 2)
row_size_is L f args row.MgIntegerSubtract = counted f Sub (arg_access L args 0) (arg_access L args 1) (arg_access L args 2)
row_size_is L f args row.MgIntegerMultiply = multiplied f (arg_access L args 0) (arg_access L args 1) (arg_access L args 2)
row_size_is L f args row.MgBooleanOr = joined Or (arg_access L args 0) (arg_access L args 1) (arg_access L args 2)
row_size_is L f args row.MgBooleanAnd = joined And (arg_access L args 0) (arg_access L args 1) (arg_access L args 2)
row_size_is L f args row.MgBooleanNot =
    let x = arg_access L args 0 in
    let y = arg_access L args 1 in
    omega (arith, parts (load y) (by_literal_code Xor no_flags 1) (store_code x), by_word_size Move no_flags y, store_size x)
row_size_is L f args row.MgIndexArray =
    let x = arg_access L args 0 in
    omega (arith, item L f (arg_var args 1) (arg_access L args 2) (move_code x 3), move_size x 3)
row_size_is L f args row.MgArrayElementAssignment =
    let z = arg_access L args 2 in
    omega (arith, item L f (arg_var args 0) (arg_access L args 1) (put_code z), put_size z)
