-- The words of quick code are numbers of 32 bits.
use Rattle.std.proofs.Common.{◌≡◌, ◌<◌, ◌+◌, ◌-◌, ◌*◌, ◌/◌, ◌%◌, ℕ, zero, suc, true, false, Bool, cond, List, [], ◌∷◌, ◌++◌, length, map, get_or, Option, Some}
use Rattle.std.{proofs.Common.{None, refl, sym, ap, subst, ◌∙◌, arith}, proofs.lemmas.Int.ints, specs.Prelude.{◌^◌, ◌==◌, nat_lt, replicate, reverse}}
use Rattle.std.{specs.Prelude.{if◌then◌else◌, ℤ, pos}, proofs.lemmas.Bool.{and_parts, and_from, lt-ltb}, proofs.lemmas.List.Folds.list_all-append}
use Rattle.std.specs.List.{list_all}
use mathlib.Core.List.{reverse_aux}
use Rattle.fm_words.{specs.declared.operation.Op.Op, specs.declared.operation.Op.TheVariants.{Move, Neg, Add, Sub, Lsr, Xor, Or, And}}
use Rattle.fm_words.{specs.declared.condition.Cc.Cc, specs.declared.condition.Cc.TheVariants.{Al, Vc, Vs, Nc, Zs, Ge, Cs}, specs.declared.condition.Flags.Flags}
use Rattle.fm_words.{specs.declared.instruction.Instr.Instr, specs.Code.no_flags, specs.Encoding.{encode_of, IsInstr, significant}, specs.Word.word_of_int}
use Rattle.fm_words.{proofs.FieldLaws.{decode_encode, encode_decode}, proofs.WordLaws.word_of_int_below}
use Rattle.fm_machine.specs.Masks.{all_flags}
use Rattle.fm_code.{specs.InstructionWords.{reg, at, immediate, literal, literal_at, instruction, flag_z, flag_c}, specs.Templates.jump_code}
use Rattle.fm_image.specs.Spelling.{are_words}
use Rattle.stack_text.{specs.declared.shape.Shape.Shape, specs.declared.shape.Kind.Kind, specs.Values.ValueOf}
use Rattle.gypsy_syntax.{specs.declared.predef.Predef.Predef, specs.declared.slot.Slot.Slot, specs.declared.slot.Form.Form}
use Rattle.gypsy_syntax.{specs.declared.slot.Form.TheVariants.{Simple, Array, Literal}, specs.Programs.{Arg, Var, Lit, ConditionOf, Routine, Stmt, Skip, NoOp}}
use Rattle.gypsy_syntax.{specs.Programs.{Signal, Seq, Loop, If, Begin, Call, Apply, words_of}, specs.Predefined.slots_of, specs.Effects.item_of_value}
use Rattle.gypsy_syntax.{specs.ProgramFits.{ArgFits, ArgsFit, slot_kind}, specs.ValuesFit.VarsFit, specs.Ranges.is_in_range}
use Rattle.gypsy_syntax.specs.declared.predef.Predef.TheVariants as row
use Rattle.gypsy_semantics.specs.Calls.{has_cond, is_leave}
use Rattle.quick_code.{specs.Access.{Access, Held, Known, register_of, find_code}, specs.Pieces.{by_word_code, by_literal_code, store_code, store_literal_code}}
use Rattle.quick_code.specs.Pieces.{truth_code, move_code, put_code, jump_when_code, set_area_code, factors_code, flag_n, flag_v, flags_cz, product_code}
use Rattle.quick_code.specs.Pieces.{rounds_code, signs_code}
use Rattle.quick_gypsy.{specs.Layout.{Layout, count_of, last_address}, specs.RowCode.{arg_access, arg_number, arg_var, assign_code, item_code, load, row_code}}
use Rattle.quick_gypsy.specs.Quick.{IsPlain, Targets, arm_code, arm_size, arm_target, begin_targets, loop_targets, quick, signalled, size, test_code}
use Rattle.quick_gypsy.{specs.Numbers.{numbers_of, value_numbers}, proofs.ItemLaws.item_is_int}
use Rattle.quick_generate.proofs.FrameLaws.{words_with}

-- 1. Lists of words.

pub record AreWords (ws : List ℕ) : Type 0 where
  pub all : are_words ws ≡ true

pub no_words : AreWords []
no_words = record { all = refl }

pub number_word : (n : ℕ) (ws : List ℕ) → n < 2 ^ 32 → AreWords ws → AreWords (n ∷ ws)
number_word n ws lt h = record { all = and_from _ _ (lt-ltb n 4294967296 lt) h.all }

pub words-append : (xs ys : List ℕ) → AreWords xs → AreWords ys → AreWords (xs ++ ys)
words-append xs ys h k = record { all = list_all-append (λ n. nat_lt n 4294967296) xs ys ∙ and_from (are_words xs) (are_words ys) h.all k.all }

pub words-replicate : (n : ℕ) → AreWords (replicate n 0)
words-replicate zero = no_words
words-replicate (suc n) = number_word 0 (replicate n 0) (omega arith) (words-replicate n)

reversed : (xs ys : List ℕ) → are_words xs ≡ true → are_words ys ≡ true → are_words (reverse_aux xs ys) ≡ true
reversed [] ys h k = k
reversed (x ∷ xs) ys h k = let p = and_parts (nat_lt x 4294967296) (are_words xs) h in reversed xs (x ∷ ys) p.1 (and_from _ _ p.0 k)

pub words-reversed : (xs : List ℕ) → AreWords xs → AreWords (reverse xs)
words-reversed xs h = record { all = reversed xs [] h.all refl }

-- 2. Instructions.

significant_below : (w : ℕ) → significant w < 2 ^ 32
significant_below w = by_test (w / 2 ^ 9 % 2 == 1)
  where
    by_test : (t : Bool) → cond t (w % 2 ^ 28) (w % 2 ^ 28 - w / 2 ^ 6 % 8 * 2 ^ 6) < 2 ^ 32
    by_test true = omega arith
    by_test false = omega arith

encoded_below : (i : Instr) → IsInstr i → encode_of i < 2 ^ 32
encoded_below i h = subst (λ (w : ℕ). w < 2 ^ 32) (sym (encode_decode (encode_of i)) ∙ ap (λ (j : Instr). encode_of j) (decode_encode i h))
    (significant_below (encode_of i))

instruction_word : (i : Instr) (ws : List ℕ) → IsInstr i → AreWords ws → AreWords (encode_of i ∷ ws)
instruction_word i ws h k = number_word (encode_of i) ws (encoded_below i h) k

-- 3. Pieces.

-- a register that there is, or an address of 32 bits
abbrev pub IsReach : Access → Type 0
IsReach (Held k) = k < 16
IsReach (Known a) = a < 2 ^ 32

register_below : (x : Access) → IsReach x → register_of x < 16
register_below (Held k) h = h
register_below (Known a) h = omega arith

find_words : (x : Access) → IsReach x → AreWords (find_code x)
find_words (Held k) h = no_words
find_words (Known a) h = instruction_word (instruction Move Al no_flags (reg 4) literal) (a ∷ []) (omega arith, omega arith) (number_word a [] h no_words)

by_word_words : (op : Op) (set : Flags) (x : Access) → IsReach x → AreWords (by_word_code op set x)
by_word_words op set x h =
    words-append (find_code x) _ (find_words x h)
    (instruction_word (instruction op Al set (reg 3) (at (register_of x))) [] (omega arith, register_below x h) no_words)

by_literal_words : (op : Op) (set : Flags) (w : ℕ) → w < 2 ^ 32 → AreWords (by_literal_code op set w)
by_literal_words op set w lt = instruction_word (instruction op Al set (reg 3) literal) (w ∷ []) (omega arith, omega arith) (number_word w [] lt no_words)

store_words : (x : Access) → IsReach x → AreWords (store_code x)
store_words x h =
    words-append (find_code x) _ (find_words x h)
    (instruction_word (instruction Move Al no_flags (at (register_of x)) (reg 3)) [] (register_below x h, omega arith) no_words)

store_literal_words : (x : Access) (w : ℕ) → IsReach x → w < 2 ^ 32 → AreWords (store_literal_code x w)
store_literal_words x w h lt =
    words-append (find_code x) _ (find_words x h)
    (instruction_word (instruction Move Al no_flags (at (register_of x)) literal) (w ∷ []) (register_below x h, omega arith) (number_word w [] lt no_words))

truth_words : (cc : Cc) (x : Access) → IsReach x → AreWords (truth_code cc x)
truth_words cc x h =
    words-append (find_code x) _ (find_words x h)
    (instruction_word (instruction Move Al no_flags (at (register_of x)) (immediate 0)) _ (register_below x h, (omega (arith, ints), omega (arith, ints)))
    (instruction_word (instruction Move cc no_flags (at (register_of x)) (immediate 1)) []
    (register_below x h, (omega (arith, ints), omega (arith, ints))) no_words))

move_words : (x : Access) (k : ℕ) → IsReach x → k < 16 → AreWords (move_code x k)
move_words x k h lt =
    words-append (find_code x) _ (find_words x h)
    (instruction_word (instruction Move Al no_flags (at (register_of x)) (at k)) [] (register_below x h, lt) no_words)

put_words : (x : Access) → IsReach x → AreWords (put_code x)
put_words x h =
    words-append (find_code x) _ (find_words x h)
    (instruction_word (instruction Move Al no_flags (at 3) (at (register_of x))) [] (omega arith, register_below x h) no_words)

jump_when_words : (cc : Cc) (to : ℕ) → to < 2 ^ 32 → AreWords (jump_when_code cc to)
jump_when_words cc to lt = instruction_word (instruction Move cc no_flags (reg 15) literal) (to ∷ []) (omega arith, omega arith) (number_word to [] lt no_words)

pub jump_words : (to : ℕ) → to < 2 ^ 32 → AreWords (jump_code to)
jump_words to lt = instruction_word (instruction Move Al no_flags (reg 15) literal_at) (to ∷ []) (omega arith, omega arith) (number_word to [] lt no_words)

pub set_area_words : (address w : ℕ) → address < 2 ^ 32 → w < 2 ^ 32 → AreWords (set_area_code address w)
set_area_words address w lt small =
    instruction_word (instruction Move Al no_flags (reg 3) literal) _ (omega arith, omega arith)
    (number_word address _ lt
    (instruction_word (instruction Move Al no_flags (at 3) literal) (w ∷ []) (omega arith, omega arith) (number_word w [] small no_words)))

-- `OP[cc]{set} rk,rj`, and `OP[cc] r15,#k`
between : (op : Op) (cc : Cc) (set : Flags) (k j : ℕ) (ws : List ℕ) → k < 16 → j < 16 → AreWords ws
    → AreWords (encode_of (instruction op cc set (reg k) (reg j)) ∷ ws)
between op cc set k j ws h g = instruction_word (instruction op cc set (reg k) (reg j)) ws (h, g)

by_small : (op : Op) (cc : Cc) (r k : ℕ) (ws : List ℕ) → r < 16 → k < 256 → AreWords ws
    → AreWords (encode_of (instruction op cc no_flags (reg r) (immediate k)) ∷ ws)
by_small op cc r k ws h few = instruction_word (instruction op cc no_flags (reg r) (immediate k)) ws (h, (omega (arith, ints), omega (arith, ints, few)))

factors_words : (x y : Access) → IsReach x → IsReach y → AreWords (factors_code x y)
factors_words x y h g =
    by_small Move Al 3 0 _ (omega arith) (omega arith)
    (words-append (find_code x) _ (find_words x h)
    (instruction_word (instruction Move Al no_flags (reg 0) (at (register_of x))) _ (omega arith, register_below x h)
    (words-append (find_code y) _ (find_words y g)
    (instruction_word (instruction Move Al flag_n (reg 4) (at (register_of y))) [] (omega arith, register_below y g) no_words))))

signs_words : AreWords signs_code
signs_words =
    by_small Add Nc 15 3 _ (omega arith) (omega arith)
    (between Neg Al no_flags 4 4 _ (omega arith) (omega arith)
    (between Neg Al flag_v 0 0 _ (omega arith) (omega arith)
    (by_small Add Vs 15 5 [] (omega arith) (omega arith) no_words)))

rounds_words : AreWords rounds_code
rounds_words =
    between Lsr Al flags_cz 4 4 _ (omega arith) (omega arith)
    (between Add Cs flag_v 3 0 _ (omega arith) (omega arith)
    (by_small Add Zs 15 2 _ (omega arith) (omega arith)
    (between Add Al flag_v 0 0 _ (omega arith) (omega arith)
    (by_small Sub Vc 15 5 [] (omega arith) (omega arith) no_words))))

product_words : (x y : Access) → IsReach x → IsReach y → AreWords (product_code x y)
product_words x y h g =
    words-append (factors_code x y) _ (factors_words x y h g) (words-append signs_code rounds_code signs_words rounds_words)

-- 4. Values.

items_words : (k : Kind) (items : List ℤ) → list_all (is_in_range k) items ≡ true → AreWords (map word_of_int items)
items_words k [] h = no_words
items_words k (z ∷ items) h =
    let p = and_parts (is_in_range k z) (list_all (is_in_range k) items) h in
    number_word (word_of_int z) (map word_of_int items) (word_of_int_below z (item_is_int k z p.0)) (items_words k items p.1)

pub values_words : (shapes : List Shape) (x : List ValueOf) → VarsFit shapes x → AreWords (numbers_of x)
values_words [] [] h = no_words
values_words [] (v ∷ x) h = absurd h
values_words (s ∷ shapes) [] h = absurd h
values_words (s ∷ shapes) (v ∷ x) h =
    words-append (value_numbers v) (numbers_of x) (items_words v.shape.kind v.items h.1.items) (values_words shapes x h.2)

item_below : (k : Kind) (items : List ℤ) → list_all (is_in_range k) items ≡ true → word_of_int (get_or items 0 (pos 0)) < 2 ^ 32
item_below k [] h = omega arith
item_below k (z ∷ items) h =
    let p = and_parts (is_in_range k z) (list_all (is_in_range k) items) h in word_of_int_below z (item_is_int k z p.0)

argument_below : (shapes : List Shape) (form : Form) (k : Kind) (v : ValueOf) → ArgFits shapes form k (Lit v) → word_of_int (item_of_value v) < 2 ^ 32
argument_below shapes Simple k v h = absurd h
argument_below shapes Array k v h = absurd h
argument_below shapes Literal k v h = item_below v.shape.kind v.items h.1.items

arguments_below : (shapes : List Shape) (k : Kind) (slots : List Slot) (args : List Arg) (i : ℕ) → ArgsFit shapes k slots args → arg_number args i < 2 ^ 32
arguments_below shapes k [] [] i h = omega arith
arguments_below shapes k [] (a ∷ args) i h = absurd h
arguments_below shapes k (slot ∷ slots) [] i h = absurd h
arguments_below shapes k (slot ∷ slots) (Var b ∷ args) zero h = omega arith
arguments_below shapes k (slot ∷ slots) (Lit v ∷ args) zero h = argument_below shapes slot.form (slot_kind k slot.kind) v h.0
arguments_below shapes k (slot ∷ slots) (a ∷ args) (suc i) h = arguments_below shapes k slots args i h.1

-- 5. Statements.

-- the variables are reached by registers that there are, or by addresses of 32 bits, and the window ends at one
pub record IsNear (L : Layout) : Type 0 where
  pub reach : (b : ℕ) → IsReach (L.access b)
  pub room : words_of L.shapes < L.end
  pub fits : L.end < 2 ^ 32

module _ (L : Layout) (near : IsNear L) where
  count_below : (b : ℕ) → count_of L b - 1 < 2 ^ 32
  count_below b = let w = words_with b L.shapes in let room = near.room in let fits = near.fits in omega (arith, w, room, fits)

  last_below : (b : ℕ) → last_address L b < 2 ^ 32
  last_below b = let fits = near.fits in omega (arith, fits)

  item_words : (f a : ℕ) (i : Access) (rest : List ℕ) → f < 2 ^ 32 → IsReach i → AreWords rest → AreWords (item_code L f a i rest)
  item_words f a i rest lt h k =
      words-append (by_literal_code Move no_flags (count_of L a - 1)) _ (by_literal_words Move no_flags (count_of L a - 1) (count_below a))
      (words-append (by_word_code Sub flag_c i) _ (by_word_words Sub flag_c i h)
      (words-append (jump_when_code Cs f) _ (jump_when_words Cs f lt)
      (words-append (by_literal_code Add no_flags (last_address L a)) rest (by_literal_words Add no_flags (last_address L a) (last_below a)) k)))

  assign_words : (x y : Access) → IsReach x → IsReach y → AreWords (assign_code x y)
  assign_words x (Held k) h g = move_words x k h g
  assign_words x (Known a) h g = words-append (load (Known a)) (store_code x) (by_word_words Move no_flags (Known a) g) (store_words x h)

  module _ (f : ℕ) (lt : f < 2 ^ 32) (args : List Arg) (literals : (i : ℕ) → arg_number args i < 2 ^ 32) where
    reached : (i : ℕ) → IsReach (arg_access L args i)
    reached i = near.reach (arg_var args i)

    -- r3 from one variable and by another one
    two : (op : Op) (set : Flags) (i j : ℕ) (rest : List ℕ) → AreWords rest →
        AreWords (load (arg_access L args i) ++ (by_word_code op set (arg_access L args j) ++ rest))
    two op set i j rest k =
        words-append (load (arg_access L args i)) _ (by_word_words Move no_flags (arg_access L args i) (reached i))
        (words-append (by_word_code op set (arg_access L args j)) rest (by_word_words op set (arg_access L args j) (reached j)) k)

    -- stored where nothing is lost
    checked : AreWords (jump_when_code Vs f ++ store_code (arg_access L args 0))
    checked = words-append (jump_when_code Vs f) _ (jump_when_words Vs f lt) (store_words (arg_access L args 0) (reached 0))

    row_words : (r : Predef) → AreWords (row_code L f args r)
    row_words row.MgSimpleVariableAssignment = assign_words (arg_access L args 0) (arg_access L args 1) (reached 0) (reached 1)
    row_words row.MgSimpleConstantAssignment = store_literal_words (arg_access L args 0) (arg_number args 1) (reached 0) (literals 1)
    row_words row.MgSimpleVariableEq = two Xor flag_z 2 1 _ (truth_words Zs (arg_access L args 0) (reached 0))
    row_words row.MgSimpleConstantEq =
        words-append (by_literal_code Move no_flags (arg_number args 2)) _ (by_literal_words Move no_flags (arg_number args 2) (literals 2))
        (words-append (by_word_code Xor flag_z (arg_access L args 1)) _ (by_word_words Xor flag_z (arg_access L args 1) (reached 1))
        (truth_words Zs (arg_access L args 0) (reached 0)))
    row_words row.MgIntegerLe = two Sub all_flags 2 1 _ (truth_words Ge (arg_access L args 0) (reached 0))
    row_words row.MgIntegerUnaryMinus =
        words-append (by_word_code Neg flag_v (arg_access L args 1)) _ (by_word_words Neg flag_v (arg_access L args 1) (reached 1)) checked
    row_words row.MgIntegerAdd = two Add flag_v 1 2 _ checked
    row_words row.MgIntegerSubtract = two Sub flag_v 1 2 _ checked
    row_words row.MgIntegerMultiply =
        words-append (product_code (arg_access L args 1) (arg_access L args 2)) _
        (product_words (arg_access L args 1) (arg_access L args 2) (reached 1) (reached 2)) checked
    row_words row.MgBooleanOr = two Or no_flags 1 2 _ (store_words (arg_access L args 0) (reached 0))
    row_words row.MgBooleanAnd = two And no_flags 1 2 _ (store_words (arg_access L args 0) (reached 0))
    row_words row.MgBooleanNot =
        words-append (load (arg_access L args 1)) _ (by_word_words Move no_flags (arg_access L args 1) (reached 1))
        (words-append (by_literal_code Xor no_flags 1) _ (by_literal_words Xor no_flags 1 (omega arith)) (store_words (arg_access L args 0) (reached 0)))
    row_words row.MgIndexArray =
        item_words f (arg_var args 1) (arg_access L args 2) _ lt (reached 2) (move_words (arg_access L args 0) 3 (reached 0) (omega arith))
    row_words row.MgArrayElementAssignment = item_words f (arg_var args 0) (arg_access L args 1) _ lt (reached 1) (put_words (arg_access L args 2) (reached 2))

  test_words : (b to : ℕ) → to < 2 ^ 32 → AreWords (test_code L b to)
  test_words b to lt =
      words-append (by_word_code Move flag_z (L.access b)) _ (by_word_words Move flag_z (L.access b) (near.reach b)) (jump_when_words Zs to lt)

  pick_below : (t : Bool) (m n : ℕ) → m < 2 ^ 32 → n < 2 ^ 32 → (if t then m else n) < 2 ^ 32
  pick_below true m n h k = h
  pick_below false m n h k = k

  -- a body with a handler, by what the handler signals
  arm_words : (g : Option ConditionOf) (T : Targets) (pc n m : ℕ) (cs : List ConditionOf) → ((c : ConditionOf) → T c < 2 ^ 32)
      → pc + (n + arm_size g m) < 2 ^ 32 → (body : Targets → List ℕ) (last : List ℕ)
      → ((T' : Targets) → ((c : ConditionOf) → T' c < 2 ^ 32) → pc + n < 2 ^ 32 → AreWords (body T')) → (pc + n + 2 + m < 2 ^ 32 → AreWords last)
      → AreWords (body (begin_targets cs (arm_target g (pc + n + 2) T) T) ++ arm_code g (jump_code (pc + n + 2 + m) ++ last))
  arm_words None T pc n m cs low lt body last inside behind =
      let arm : ℕ = pc + n + 2 in
      let inner : (c : ConditionOf) → begin_targets cs arm T c < 2 ^ 32 = λ c. pick_below (has_cond c cs) arm (T c) (omega (arith, lt)) (low c) in
      words-append (body (begin_targets cs arm T)) _ (inside (begin_targets cs arm T) inner (omega (arith, lt)))
      (words-append (jump_code (arm + m)) _ (jump_words (arm + m) (omega (arith, lt))) (behind (omega (arith, lt))))
  arm_words (Some d) T pc n m cs low lt body last inside behind =
      let inner : (c : ConditionOf) → begin_targets cs (T d) T c < 2 ^ 32 = λ c. pick_below (has_cond c cs) (T d) (T c) (low d) (low c) in
      words-append (body (begin_targets cs (T d) T)) _ (inside (begin_targets cs (T d) T) inner (omega (arith, lt))) no_words

  pub code_words : (T : Targets) (pc : ℕ) (s : Stmt) → ((c : ConditionOf) → T c < 2 ^ 32) → IsPlain L.shapes s
      → pc + size L s < 2 ^ 32 → AreWords (quick L T pc s)
  code_words T pc Skip low fit lt = no_words
  code_words T pc (NoOp place) low fit lt = no_words
  code_words T pc (Signal place c) low fit lt = jump_words (T c) (low c)
  code_words T pc (Seq a b) low fit lt =
      words-append (quick L T pc a) _ (code_words T pc a low fit.0 (omega (arith, lt)))
      (code_words T (pc + size L a) b low fit.1 (omega (arith, lt)))
  code_words T pc (Loop place s) low fit lt =
      let end : ℕ = pc + (size L s + 2) in
      let inner : (c : ConditionOf) → loop_targets end T c < 2 ^ 32 = λ c. pick_below (is_leave c) end (T c) (omega (arith, lt)) (low c) in
      words-append (quick L (loop_targets end T) pc s) _ (code_words (loop_targets end T) pc s inner fit (omega (arith, lt)))
      (jump_words pc (omega (arith, lt)))
  code_words T pc (If place b s w) low fit lt =
      let from : ℕ = pc + length (test_code L b 0) in
      let otherwise : ℕ = from + size L s + 2 in
      words-append (test_code L b otherwise) _ (test_words b otherwise (omega (arith, lt)))
      (words-append (quick L T from s) _ (code_words T from s low fit.1 (omega (arith, lt)))
      (words-append (jump_code (otherwise + size L w)) _ (jump_words (otherwise + size L w) (omega (arith, lt)))
      (code_words T otherwise w low fit.2 (omega (arith, lt)))))
  code_words T pc (Begin place s cs w) low fit lt =
      arm_words (signalled w) T pc (size L s) (size L w) cs low lt (λ T'. quick L T' pc s) (quick L T (pc + size L s + 2) w)
      (λ T' inner less. code_words T' pc s inner fit.0 less)
      (λ less. code_words T (pc + size L s + 2) w low fit.1 less)
  code_words T pc (Call place p xs cs) low fit lt = absurd fit
  code_words T pc (Apply place r args) low fit lt =
      row_words (T Routine) (low Routine) args (λ i. arguments_below L.shapes fit.0 (slots_of r) args i fit.1) r
