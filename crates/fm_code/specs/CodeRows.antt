-- What the words of each of Piton's instructions do, and in how many steps. Stacks are listed from their tops.
use Rattle.std.specs.Prelude.{◌≡◌, ℕ, ◌+◌, ◌-◌, ◌*◌, ◌/◌, ◌%◌, ◌^◌, ◌<◌, ◌≤◌, ◌==◌, Some, Bool, true, not, ◌&&◌, ◌||◌, ℤ, pos, ◌+ℤ◌, ◌-ℤ◌}
use Rattle.std.specs.Prelude.{◌*ℤ◌, int_lt, nat_lt, if◌then◌else◌, List, ◌∷◌, ◌++◌, length, reverse, slice_get, slice_set, bit_and, bit_or}
use Rattle.std.specs.{Prelude.{bit_xor}, Int.{from_bool as bit_of}}
use Rattle.fm_words.specs.{declared.condition.Cc.{Cc}, declared.condition.Cc.TheVariants.{Cs, Vs, Nc, Ns, Zc, Zs, Lt, Gt, Le}}
use Rattle.fm_words.specs.{declared.operation.Op.TheVariants.{Inc, Addc, Add, Neg, Dec, Subb, Sub, Lsr, Xor, Or, And, Not}, Word.{is_int}}
use Rattle.fm_words.specs.{Word.{is_nat, word_of_int, wrapped, are_same_ints}, Alu.{does_hold, are_same}}
use Rattle.fm_code.specs.{Flags.{flags_of_word}, Execution.{Parts, CodeAt, View, Executes}, Templates.{below_end, push_constant_code}}
use Rattle.fm_code.specs.Templates.{push_local_code, pop_local_code, set_local_code, push_global_code, pop_global_code, set_global_code}
use Rattle.fm_code.specs.Templates.{push_temp_stk_index_code, push_temp_stk_free_size_code, push_ctrl_stk_free_size_code}
use Rattle.fm_code.specs.Templates.{fetch_temp_stk_code, deposit_temp_stk_code, fetch_code, deposit_code, pop_code, pop_star_code}
use Rattle.fm_code.specs.Templates.{popn_code, no_op_code, jump_code, jump_if_top_code, jump_case_code, pushj_code, popj_code}
use Rattle.fm_code.specs.Templates.{test_and_jump_code, call_code, pop_call_code, ret_code, prelude_code, two_code, one_code, not_bool_code}
use Rattle.fm_code.specs.Templates.{eq_code, lt_code, carry_code, mult2_carry_code, div2_code}

-- the temporary stack has room for another word
abbrev pub HasRoom : Parts → List ℕ → Type 0
HasRoom P temp = P.temp_at + length temp < P.end

-- r0 is the first address of the control stack's words
abbrev pub IsFrame : Parts → ℕ → List ℕ → Type 0
IsFrame P f ctrl = f + length ctrl ≡ P.temp_at

-- a is the address of the k-th word of the areas
abbrev pub IsIn : Parts → ℕ → ℕ → Type 0
IsIn P a k = a ≡ P.areas_at + k

-- the control stack after a call: the formals xs, which were on the temporary stack with the last one at its top, so
-- that the first one has offset 0; the temporaries ts; r0 of the caller; and the address after the call
abbrev pub framed : List ℕ → List ℕ → ℕ → ℕ → List ℕ → List ℕ
framed xs ts f after ctrl = reverse xs ++ (ts ++ (f ∷ after ∷ ctrl))

-- what an operation with a carry pushes for its exact result: whether that is out of range, and then what 32 bits keep of
-- it. The first is for integers, the second for numbers without a sign.
abbrev pub int_carried : ℤ → List ℕ → List ℕ
int_carried z temp = wrapped z ∷ bit_of (not (is_int z)) ∷ temp

abbrev pub nat_carried : ℤ → List ℕ → List ℕ
nat_carried z temp = wrapped z ∷ bit_of (not (is_nat z)) ∷ temp

-- A row says what its words do from here on, which is a view: where the code is, and what stands on the stacks below what
-- the row itself names.

-- the view with another word at the top of the temporary stack
abbrev pub with_top : ℕ → View → View
with_top w here = record here { temp = w ∷ here.temp }

-- the view so many words further on in the code
abbrev pub past : ℕ → View → View
past words here = record here { pc = here.pc + words }

-- moves
pub record MoveRows (P : Parts) (here : View) : Type 0 where
  pub push_constant : (w : ℕ) → HasRoom P here.temp →
      Executes P (push_constant_code w) 1 here (past 2 (with_top w here))
  pub push_local : (k w : ℕ) → slice_get here.ctrl k ≡ Some w → IsFrame P here.frame here.ctrl → HasRoom P here.temp →
      Executes P (push_local_code k) 3 here (past 4 (with_top w here))
  pub pop_local : (k v : ℕ) → k < length here.ctrl → IsFrame P here.frame here.ctrl →
      Executes P (pop_local_code k) 3 (with_top v here) (past 4 (record here { ctrl = slice_set here.ctrl k v }))
  pub set_local : (k v : ℕ) → k < length here.ctrl → IsFrame P here.frame here.ctrl →
      Executes P (set_local_code k) 3 (with_top v here) (past 4 (with_top v (record here { ctrl = slice_set here.ctrl k v })))
  pub push_global : (a k w : ℕ) → IsIn P a k → slice_get here.areas k ≡ Some w → HasRoom P here.temp →
      Executes P (push_global_code a) 2 here (past 3 (with_top w here))
  pub pop_global : (a k v : ℕ) → IsIn P a k → k < length here.areas →
      Executes P (pop_global_code a) 2 (with_top v here) (past 3 (record here { areas = slice_set here.areas k v }))
  pub set_global : (a k v : ℕ) → IsIn P a k → k < length here.areas →
      Executes P (set_global_code a) 2 (with_top v here) (past 3 (with_top v (record here { areas = slice_set here.areas k v })))
  -- the index from the bottom of the k-th word from the top, and how many words are free on each stack
  pub push_temp_stk_index : (k : ℕ) → k < length here.temp → HasRoom P here.temp →
      Executes P (push_temp_stk_index_code P.end k) 3 here (past 4 (with_top (length here.temp - 1 - k) here))
  pub push_temp_stk_free_size : HasRoom P here.temp →
      Executes P (push_temp_stk_free_size_code P.temp_at) 3 here
      (past 4 (with_top (P.end - P.temp_at - length here.temp) here))
  pub push_ctrl_stk_free_size : HasRoom P here.temp →
      Executes P (push_ctrl_stk_free_size_code P.ctrl_at) 3 here
      (past 4 (with_top (P.temp_at - P.ctrl_at - length here.ctrl) here))
  -- the index t counts from the bottom
  pub fetch_temp_stk : (t w : ℕ) → t < length here.temp → slice_get here.temp (length here.temp - 1 - t) ≡ Some w →
      Executes P (fetch_temp_stk_code P.end) 3 (with_top t here) (past 4 (with_top w here))
  pub deposit_temp_stk : (t v : ℕ) → t < length here.temp →
      Executes P (deposit_temp_stk_code P.end) 3 (with_top t (with_top v here))
      (past 4 (record here { temp = slice_set here.temp (length here.temp - 1 - t) v }))
  pub fetch : (a k w : ℕ) → IsIn P a k → slice_get here.areas k ≡ Some w →
      Executes P fetch_code 2 (with_top a here) (past 2 (with_top w here))
  pub deposit : (a k v : ℕ) → IsIn P a k → k < length here.areas →
      Executes P deposit_code 2 (with_top a (with_top v here)) (past 2 (record here { areas = slice_set here.areas k v }))
  pub pop : (v : ℕ) →
      Executes P pop_code 1 (with_top v here) (past 1 here)
  pub pop_star : (xs : List ℕ) →
      Executes P (pop_star_code (length xs)) 1 (record here { temp = xs ++ here.temp }) (past 2 here)
  pub popn : (xs : List ℕ) →
      Executes P popn_code 2 (record here { temp = length xs ∷ xs ++ here.temp }) (past 2 here)
  -- also int-to-nat
  pub no_op :
      Executes P no_op_code 1 here (past 1 here)

-- jumps and calls
pub record JumpRows (P : Parts) (here : View) : Type 0 where
  pub jump : (to : ℕ) →
      Executes P (jump_code to) 1 here (record here { pc = to })
  pub jump_if_temp_stk_full : (to : ℕ) →
      Executes P (jump_if_top_code P.temp_at to) 3 here
      (record here { pc = if length here.temp == P.end - P.temp_at then to else here.pc + 5 })
  pub jump_if_temp_stk_empty : (to : ℕ) →
      Executes P (jump_if_top_code (below_end P.end 0) to) 3 here
      (record here { pc = if length here.temp == 0 then to else here.pc + 5 })
  pub jump_case : (t to : ℕ) (targets : List ℕ) → slice_get targets t ≡ Some to →
      Executes P (jump_case_code here.pc targets) 3 (with_top t here) (record here { pc = to })
  pub pushj : (after to : ℕ) → HasRoom P here.temp →
      Executes P (pushj_code after to) 2 here (with_top after (record here { pc = to }))
  pub popj : (to : ℕ) →
      Executes P popj_code 1 (with_top to here) (record here { pc = to })
  pub test_and_jump : (k : Cc) (x to : ℕ) →
      Executes P (test_and_jump_code k to) 2 (with_top x here)
      (record here { pc = if does_hold k (flags_of_word x) then to else here.pc + 3 })
  -- the prelude of a program with the formals xs and the temporaries ts, whose frame is then at g
  pub prelude : (after g : ℕ) (xs ts : List ℕ) →
      P.ctrl_at + length (framed xs ts here.frame after here.ctrl) ≤ P.temp_at →
      IsFrame P g (framed xs ts here.frame after here.ctrl) →
      Executes P (prelude_code (length xs) ts) (2 + length xs + length ts)
      (record here { ctrl = after ∷ here.ctrl; temp = xs ++ here.temp })
      (past (length (prelude_code (length xs) ts)) (record here { frame = g; ctrl = framed xs ts here.frame after here.ctrl }))
  -- a call of such a program, whose prelude is at entry
  pub call : (after entry g : ℕ) (xs ts : List ℕ) →
      CodeAt P entry (prelude_code (length xs) ts) →
      P.ctrl_at + length (framed xs ts here.frame after here.ctrl) ≤ P.temp_at →
      IsFrame P g (framed xs ts here.frame after here.ctrl) →
      Executes P (call_code after entry) (4 + length xs + length ts) (record here { temp = xs ++ here.temp })
      (record here { frame = g; pc = entry + length (prelude_code (length xs) ts); ctrl = framed xs ts here.frame after here.ctrl })
  pub pop_call : (after entry g : ℕ) (xs ts : List ℕ) →
      CodeAt P entry (prelude_code (length xs) ts) →
      P.ctrl_at + length (framed xs ts here.frame after here.ctrl) ≤ P.temp_at →
      IsFrame P g (framed xs ts here.frame after here.ctrl) →
      Executes P (pop_call_code after) (5 + length xs + length ts) (record here { temp = entry ∷ (xs ++ here.temp) })
      (record here { frame = g; pc = entry + length (prelude_code (length xs) ts); ctrl = framed xs ts here.frame after here.ctrl })
  pub ret : (older back : ℕ) (locals : List ℕ) → IsFrame P here.frame (locals ++ (older ∷ back ∷ here.ctrl)) →
      Executes P (ret_code (length locals)) 4 (record here { ctrl = locals ++ (older ∷ back ∷ here.ctrl) })
      (record here { frame = older; pc = back })

-- operations on words, where x is at the top
pub record WordRows (P : Parts) (here : View) : Type 0 where
  pub eq : (y x : ℕ) →
      Executes P eq_code 4 (with_top x (with_top y here)) (past 4 (with_top (bit_of (y == x)) here))
  pub eq_int : (y x : ℤ) → is_int y ≡ true → is_int x ≡ true →
      Executes P eq_code 4 (with_top (word_of_int x) (with_top (word_of_int y) here))
      (past 4 (with_top (bit_of (are_same_ints y x)) here))
  pub eq_bool : (y x : Bool) →
      Executes P eq_code 4 (with_top (bit_of x) (with_top (bit_of y) here)) (past 4 (with_top (bit_of (are_same y x)) here))
  pub add_int : (y x : ℤ) → is_int y ≡ true → is_int x ≡ true → is_int (y +ℤ x) ≡ true →
      Executes P (two_code Add) 1 (with_top (word_of_int x) (with_top (word_of_int y) here))
      (past 1 (with_top (word_of_int (y +ℤ x)) here))
  pub sub_int : (y x : ℤ) → is_int y ≡ true → is_int x ≡ true → is_int (y -ℤ x) ≡ true →
      Executes P (two_code Sub) 1 (with_top (word_of_int x) (with_top (word_of_int y) here))
      (past 1 (with_top (word_of_int (y -ℤ x)) here))
  -- also of addresses
  pub add_nat : (y x : ℕ) → y + x < 2 ^ 32 →
      Executes P (two_code Add) 1 (with_top x (with_top y here)) (past 1 (with_top (y + x) here))
  pub sub_nat : (y x : ℕ) → x ≤ y → y < 2 ^ 32 →
      Executes P (two_code Sub) 1 (with_top x (with_top y here)) (past 1 (with_top (y - x) here))
  pub lt_int : (y x : ℤ) → is_int y ≡ true → is_int x ≡ true →
      Executes P (lt_code Lt) 5 (with_top (word_of_int x) (with_top (word_of_int y) here))
      (past 5 (with_top (bit_of (int_lt y x)) here))
  pub lt_nat : (y x : ℕ) →
      Executes P (lt_code Cs) 5 (with_top x (with_top y here)) (past 5 (with_top (bit_of (nat_lt y x)) here))
  pub add1_int : (x : ℤ) → is_int x ≡ true → is_int (x +ℤ pos 1) ≡ true →
      Executes P (one_code Inc) 1 (with_top (word_of_int x) here) (past 1 (with_top (word_of_int (x +ℤ pos 1)) here))
  pub add1_nat : (x : ℕ) → x + 1 < 2 ^ 32 →
      Executes P (one_code Inc) 1 (with_top x here) (past 1 (with_top (x + 1) here))
  pub sub1_int : (x : ℤ) → is_int x ≡ true → is_int (x -ℤ pos 1) ≡ true →
      Executes P (one_code Dec) 1 (with_top (word_of_int x) here) (past 1 (with_top (word_of_int (x -ℤ pos 1)) here))
  pub sub1_nat : (x : ℕ) → 0 < x → x < 2 ^ 32 →
      Executes P (one_code Dec) 1 (with_top x here) (past 1 (with_top (x - 1) here))
  pub neg_int : (x : ℤ) → is_int x ≡ true → is_int (pos 0 -ℤ x) ≡ true →
      Executes P (one_code Neg) 1 (with_top (word_of_int x) here) (past 1 (with_top (word_of_int (pos 0 -ℤ x)) here))
  pub mult2_nat : (x : ℕ) → 2 * x < 2 ^ 32 →
      Executes P (one_code Add) 1 (with_top x here) (past 1 (with_top (2 * x) here))
  pub add_int_with_carry : (u : Bool) (y x : ℤ) → is_int y ≡ true → is_int x ≡ true →
      Executes P (carry_code Addc Vs) 7 (with_top (word_of_int x) (with_top (word_of_int y) (with_top (bit_of u) here)))
      (past 7 (record here { temp = int_carried (y +ℤ x +ℤ pos (bit_of u)) here.temp }))
  pub sub_int_with_carry : (u : Bool) (y x : ℤ) → is_int y ≡ true → is_int x ≡ true →
      Executes P (carry_code Subb Vs) 7 (with_top (word_of_int x) (with_top (word_of_int y) (with_top (bit_of u) here)))
      (past 7 (record here { temp = int_carried (y -ℤ x -ℤ pos (bit_of u)) here.temp }))
  pub add_nat_with_carry : (u : Bool) (y x : ℕ) →
      Executes P (carry_code Addc Cs) 7 (with_top x (with_top y (with_top (bit_of u) here)))
      (past 7 (record here { temp = nat_carried (pos y +ℤ pos x +ℤ pos (bit_of u)) here.temp }))
  pub sub_nat_with_carry : (u : Bool) (y x : ℕ) → y < 2 ^ 32 → x < 2 ^ 32 →
      Executes P (carry_code Subb Cs) 7 (with_top x (with_top y (with_top (bit_of u) here)))
      (past 7 (record here { temp = nat_carried (pos y -ℤ pos x -ℤ pos (bit_of u)) here.temp }))
  pub mult2_nat_with_carry_out : (x : ℕ) → HasRoom P (x ∷ here.temp) →
      Executes P mult2_carry_code 5 (with_top x here)
      (past 5 (record here { temp = nat_carried (pos 2 *ℤ pos x) here.temp }))
  pub div2_nat : (x : ℕ) → HasRoom P (x ∷ here.temp) →
      Executes P div2_code 5 (with_top x here) (past 5 (with_top (x % 2) (with_top (x / 2) here)))
  pub or_bitv : (y x : ℕ) →
      Executes P (two_code Or) 1 (with_top x (with_top y here)) (past 1 (with_top (bit_or x y) here))
  pub and_bitv : (y x : ℕ) →
      Executes P (two_code And) 1 (with_top x (with_top y here)) (past 1 (with_top (bit_and x y) here))
  pub xor_bitv : (y x : ℕ) →
      Executes P (two_code Xor) 1 (with_top x (with_top y here)) (past 1 (with_top (bit_xor x y) here))
  pub or_bool : (y x : Bool) →
      Executes P (two_code Or) 1 (with_top (bit_of x) (with_top (bit_of y) here)) (past 1 (with_top (bit_of (y || x)) here))
  pub and_bool : (y x : Bool) →
      Executes P (two_code And) 1 (with_top (bit_of x) (with_top (bit_of y) here)) (past 1 (with_top (bit_of (y && x)) here))
  pub not_bitv : (x : ℕ) →
      Executes P (one_code Not) 1 (with_top x here) (past 1 (with_top (2 ^ 32 - 1 - x) here))
  pub rsh_bitv : (x : ℕ) →
      Executes P (one_code Lsr) 1 (with_top x here) (past 1 (with_top (x / 2) here))
  pub lsh_bitv : (x : ℕ) →
      Executes P (one_code Add) 1 (with_top x here) (past 1 (with_top (2 * x % 2 ^ 32) here))
  pub not_bool : (x : Bool) →
      Executes P not_bool_code 1 (with_top (bit_of x) here) (past 1 (with_top (bit_of (not x)) here))

-- what the conditions of the tests say, after a word was moved
pub record TestRows : Type 0 where
  pub is_zero : (x : ℕ) → does_hold Zs (flags_of_word x) ≡ (x == 0)
  pub not_zero : (x : ℕ) → does_hold Zc (flags_of_word x) ≡ not (x == 0)
  pub is_zero_int : (x : ℤ) → is_int x ≡ true → does_hold Zs (flags_of_word (word_of_int x)) ≡ are_same_ints x (pos 0)
  pub not_zero_int : (x : ℤ) → is_int x ≡ true → does_hold Zc (flags_of_word (word_of_int x)) ≡ not (are_same_ints x (pos 0))
  pub is_neg : (x : ℤ) → is_int x ≡ true → does_hold Ns (flags_of_word (word_of_int x)) ≡ int_lt x (pos 0)
  pub not_neg : (x : ℤ) → is_int x ≡ true → does_hold Nc (flags_of_word (word_of_int x)) ≡ not (int_lt x (pos 0))
  pub is_pos : (x : ℤ) → is_int x ≡ true → does_hold Gt (flags_of_word (word_of_int x)) ≡ int_lt (pos 0) x
  pub not_pos : (x : ℤ) → is_int x ≡ true → does_hold Le (flags_of_word (word_of_int x)) ≡ not (int_lt (pos 0) x)
  pub is_true : (x : Bool) → does_hold Zc (flags_of_word (bit_of x)) ≡ x
  pub is_false : (x : Bool) → does_hold Zs (flags_of_word (bit_of x)) ≡ not x
