-- What each piece does, and in how many instructions.
use Rattle.std.specs.Prelude.{◌≡◌, ℕ, ◌+◌, ◌-◌, ◌<◌, ℤ, ◌*ℤ◌, List, Some, true, false, not, if◌then◌else◌, slice_get, slice_set, length}
use Rattle.fm_words.specs.{declared.operation.Op.{Op}, declared.condition.Cc.{Cc}, declared.condition.Flags.{Flags}, Alu.{alu_of}}
use Rattle.fm_words.specs.{Alu.{does_hold}, Word.{is_int, word_of_int}}
use Rattle.fm_machine.specs.Step.{flags_set}
use Rattle.fm_code.specs.{Execution.{Parts}, Templates.{jump_code}}
use Rattle.quick_code.specs.{Access.{Access, Held, Reaches, find_count}, Moments.{Now, Does, Jumps}, Pieces.{by_word_code, by_literal_code}}
use Rattle.quick_code.specs.Pieces.{store_code, store_literal_code, truth_code, move_code, put_code, jump_when_code, set_area_code}
use Rattle.quick_code.specs.{Pieces.{product_code}, Products.{product_count}}

-- an access leads to the word of this index, counted from the bottom of the temporary stack
abbrev pub LeadsTo : Parts → (ℕ → ℕ) → Access → ℕ → Type 0
LeadsTo P table x i = Reaches table x (P.end - 1 - i)

-- a moment with the result of an operation in r3
abbrev pub operated : Op → Flags → ℕ → Now → Now
operated op set w a =
    record a { x3 = (alu_of op a.fl.c w a.x3).word; fl = flags_set set a.fl (alu_of op a.fl.c w a.x3) }

-- a moment with the word of an index set
abbrev pub with_var : ℕ → ℕ → Now → Now
with_var i w a = record a { vars = slice_set a.vars i w }

-- From a moment the code leads behind it after k instructions. Then this integer is in r3, or the overflow flag is set if it doesn't fit in
-- 32 signed bits.
pub record Gives (P : Parts) (table : ℕ → ℕ) (code : List ℕ) (k : ℕ) (a : Now) (z : ℤ) : Type 0 where
  pub x3 : ℕ
  pub fl : Flags
  pub does : Does P table code k a (record a { x3 = x3; fl = fl })
  pub overflow : fl.v ≡ not (is_int z)
  pub word : is_int z ≡ true → x3 ≡ word_of_int z

pub record PieceRows (P : Parts) (table : ℕ → ℕ) (a : Now) : Type 0 where
  pub by_word : (op : Op) (set : Flags) (x : Access) (i w : ℕ) → LeadsTo P table x i → slice_get a.vars i ≡ Some w →
      Does P table (by_word_code op set x) (find_count x + 1) a (operated op set w a)
  pub by_literal : (op : Op) (set : Flags) (w : ℕ) →
      Does P table (by_literal_code op set w) 1 a (operated op set w a)
  pub store : (x : Access) (i : ℕ) → LeadsTo P table x i → i < length a.vars →
      Does P table (store_code x) (find_count x + 1) a (with_var i a.x3 a)
  pub store_literal : (x : Access) (i w : ℕ) → LeadsTo P table x i → i < length a.vars →
      Does P table (store_literal_code x w) (find_count x + 1) a (with_var i w a)
  pub truth : (cc : Cc) (x : Access) (i : ℕ) → LeadsTo P table x i → i < length a.vars →
      Does P table (truth_code cc x) (find_count x + 2) a (with_var i (if does_hold cc a.fl then 1 else 0) a)
  pub fetch : (x : Access) (i j w : ℕ) → LeadsTo P table x i → i < length a.vars → a.x3 ≡ P.end - 1 - j →
      slice_get a.vars j ≡ Some w →
      Does P table (move_code x 3) (find_count x + 1) a (with_var i w a)
  pub copy : (x : Access) (k i j w : ℕ) → LeadsTo P table x i → i < length a.vars → LeadsTo P table (Held k) j →
      slice_get a.vars j ≡ Some w →
      Does P table (move_code x k) (find_count x + 1) a (with_var i w a)
  pub put : (x : Access) (i j w : ℕ) → LeadsTo P table x i → slice_get a.vars i ≡ Some w → a.x3 ≡ P.end - 1 - j → j < length a.vars →
      Does P table (put_code x) (find_count x + 1) a (with_var j w a)
  pub jump_not : (cc : Cc) (target : ℕ) → does_hold cc a.fl ≡ false →
      Does P table (jump_when_code cc target) 1 a a
  pub jump_when : (cc : Cc) (target : ℕ) → does_hold cc a.fl ≡ true →
      Jumps P table (jump_when_code cc target) 1 a target a
  pub jump : (target : ℕ) →
      Jumps P table (jump_code target) 1 a target a
  pub set_area : (address k w : ℕ) → address ≡ P.areas_at + k → k < length a.areas →
      Does P table (set_area_code address w) 2 a (record a { x3 = address; areas = slice_set a.areas k w })
  pub product : (x y : Access) (i j : ℕ) (v w : ℤ) → LeadsTo P table x i → LeadsTo P table y j →
      slice_get a.vars i ≡ Some (word_of_int v) → slice_get a.vars j ≡ Some (word_of_int w) →
      is_int v ≡ true → is_int w ≡ true →
      Gives P table (product_code x y) (find_count x + find_count y + product_count v w) a (v *ℤ w)
