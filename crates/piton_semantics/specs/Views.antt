-- What a row finds on the stack, in a word and in the system: each view goes on or fails.
use Rattle.std.specs.Prelude.{ℕ, zero, suc, ℤ, pos, negsuc, ◌==◌, List, [], ◌∷◌, Option, Some, None, Result, Ok, Err, Bool, true, false}
use Rattle.std.specs.Prelude.{not}
use Rattle.piton_words.specs.{declared.word.Word.{Word}, declared.word.Word.TheVariants.{Pc, Subr}, declared.op.WordOp.{WordOp}}
use Rattle.piton_words.specs.declared.outcome.WordError.{WordError}
use Rattle.piton_words.specs.Views as words
use Rattle.piton_words.specs.declared.op.WordOp.TheVariants as op
use Rattle.piton_words.specs.declared.outcome.WordError.TheVariants as word_error
use Rattle.piton_syntax.specs.{declared.test_kind.TestFamily.{TestFamily}, declared.test_kind.TestKind.{TestKind}}
use Rattle.piton_syntax.specs.declared.test_kind.TestFamily.TheVariants as family
use Rattle.piton_syntax.specs.declared.test_kind.TestKind.TheVariants as test
use Rattle.piton_semantics.specs.{declared.error_kind.ErrorKind.{ErrorKind}, declared.error_kind.ErrorKind.TheVariants.{TempEmpty, Tag}}
use Rattle.piton_semantics.specs.declared.error_kind.ErrorKind.TheVariants.{Range}

-- what is found goes on to the next view, and the first that fails is the answer
unfoldable pub then_on : {A B : Type 0} → Result A ErrorKind → (A → Result B ErrorKind) → Result B ErrorKind
then_on (Ok x) go = go x
then_on (Err e) go = Err e

infixl 10 ◌>>=◌
abbrev pub ◌>>=◌ : {A B : Type 0} → Result A ErrorKind → (A → Result B ErrorKind) → Result B ErrorKind
answer >>= go = then_on answer go

-- where a condition fails, this error is the answer
unfoldable pub where_true : {A : Type 0} → Bool → ErrorKind → Result A ErrorKind → Result A ErrorKind
where_true true error answer = answer
where_true false error answer = Err error

-- what is there; where it isn't, this error is the answer
abbrev pub found : {A : Type 0} → Option A → ErrorKind → Result A ErrorKind
found (Some x) error = Ok x
found None error = Err error

-- one word, or two, and what lies below
pub record One : Type 0 where
  pub top : Word
  pub below : List Word

pub record Two : Type 0 where
  pub top : Word
  pub second : Word
  pub below : List Word

abbrev pub one_of : List Word → Result One ErrorKind
one_of (t ∷ below) = Ok record { top = t; below = below }
one_of [] = Err TempEmpty

abbrev pub two_of : List Word → Result Two ErrorKind
two_of (t ∷ s ∷ below) = Ok record { top = t; second = s; below = below }
two_of stack = Err TempEmpty

-- the words that an operation takes, and what lies below; the words that it doesn't take are the top too
pub record Operands : Type 0 where
  pub third : Word
  pub second : Word
  pub top : Word
  pub below : List Word

-- how many words an operation takes
abbrev pub words_taken : WordOp → ℕ
words_taken op.Add1Int = 1
words_taken op.Add1Nat = 1
words_taken op.Sub1Int = 1
words_taken op.Sub1Nat = 1
words_taken op.NegInt = 1
words_taken op.IntToNat = 1
words_taken op.Mult2Nat = 1
words_taken op.Mult2NatWithCarryOut = 1
words_taken op.Div2Nat = 1
words_taken op.NotBitv = 1
words_taken op.RshBitv = 1
words_taken op.LshBitv = 1
words_taken op.NotBool = 1
words_taken op.AddIntWithCarry = 3
words_taken op.AddNatWithCarry = 3
words_taken op.SubIntWithCarry = 3
words_taken op.SubNatWithCarry = 3
words_taken op.Eq = 2
words_taken op.AddInt = 2
words_taken op.AddNat = 2
words_taken op.SubInt = 2
words_taken op.SubNat = 2
words_taken op.AddAddr = 2
words_taken op.SubAddr = 2
words_taken op.LtInt = 2
words_taken op.LtNat = 2
words_taken op.LtAddr = 2
words_taken op.OrBitv = 2
words_taken op.AndBitv = 2
words_taken op.XorBitv = 2
words_taken op.OrBool = 2
words_taken op.AndBool = 2

abbrev pub operands_of : ℕ → List Word → Result Operands ErrorKind
operands_of (suc zero) (t ∷ below) = Ok record { third = t; second = t; top = t; below = below }
operands_of (suc (suc zero)) (t ∷ s ∷ below) = Ok record { third = t; second = s; top = t; below = below }
operands_of (suc (suc (suc zero))) (t ∷ s ∷ u ∷ below) = Ok record { third = u; second = s; top = t; below = below }
operands_of n stack = Err TempEmpty

-- the error of a word operation as one of a step
abbrev pub error_of : WordError → ErrorKind
error_of word_error.Tag = Tag
error_of word_error.Range = Range

abbrev pub lifted : {A : Type 0} → Result A WordError → Result A ErrorKind
lifted (Ok x) = Ok x
lifted (Err e) = Err (error_of e)

-- what is in a word of one type, as the operations on words see it; any other word has the wrong tag
abbrev pub int_of : Word → Result ℤ ErrorKind
int_of word = lifted (words.int_of word)

abbrev pub nat_of : Word → Result ℕ ErrorKind
nat_of word = lifted (words.nat_of word)

abbrev pub bitv_of : Word → Result ℕ ErrorKind
bitv_of word = lifted (words.bitv_of word)

abbrev pub bool_of : Word → Result Bool ErrorKind
bool_of word = lifted (words.bool_of word)

abbrev pub addr_of : Word → Result (ℕ × ℕ) ErrorKind
addr_of word = lifted (words.addr_of word)

-- a program and a place
abbrev pub pc_of : Word → Result (ℕ × ℕ) ErrorKind
pc_of (Pc program place) = Ok (program, place)
pc_of word = Err Tag

abbrev pub subr_of : Word → Result ℕ ErrorKind
subr_of (Subr program) = Ok program
subr_of word = Err Tag

-- the tests; none of another type's holds
abbrev pub does_nat_hold : TestKind → ℕ → Bool
does_nat_hold test.Zero n = n == 0
does_nat_hold test.NotZero n = not (n == 0)
does_nat_hold kind n = false

abbrev pub is_zero : ℤ → Bool
is_zero (pos n) = n == 0
is_zero (negsuc n) = false

abbrev pub is_negative : ℤ → Bool
is_negative (pos n) = false
is_negative (negsuc n) = true

abbrev pub is_positive : ℤ → Bool
is_positive (pos n) = not (n == 0)
is_positive (negsuc n) = false

abbrev pub does_int_hold : TestKind → ℤ → Bool
does_int_hold test.Zero i = is_zero i
does_int_hold test.NotZero i = not (is_zero i)
does_int_hold test.Neg i = is_negative i
does_int_hold test.NotNeg i = not (is_negative i)
does_int_hold test.Pos i = is_positive i
does_int_hold test.NotPos i = not (is_positive i)
does_int_hold kind i = false

abbrev pub does_bool_hold : TestKind → Bool → Bool
does_bool_hold test.T b = b
does_bool_hold test.F b = not b
does_bool_hold kind b = false

abbrev pub does_bitv_hold : TestKind → ℕ → Bool
does_bitv_hold test.AllZero bits = bits == 0
does_bitv_hold test.NotAllZero bits = not (bits == 0)
does_bitv_hold kind bits = false

-- whether a test of a type's words holds of a word
abbrev pub test_of : TestFamily → TestKind → Word → Result Bool ErrorKind
test_of family.Nat kind word = nat_of word >>= λ n. Ok (does_nat_hold kind n)
test_of family.Int kind word = int_of word >>= λ i. Ok (does_int_hold kind i)
test_of family.Bool kind word = bool_of word >>= λ b. Ok (does_bool_hold kind b)
test_of family.Bitv kind word = bitv_of word >>= λ bits. Ok (does_bitv_hold kind bits)
