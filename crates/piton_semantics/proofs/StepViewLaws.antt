-- What follows where a step has an answer.
use Rattle.std.proofs.Common.{◌≡◌, ℕ, zero, suc, ◌<◌, Bool, true, false, Option, Some, None, Result, Ok, Err, List, [], ◌∷◌, length, refl, ap, ◌∙◌, subst}
use Rattle.std.{proofs.Common.arith, specs.Prelude.{ℤ, pos, negsuc, not, int_lt, map, get_or, slice_get, slice_index_or}, proofs.lemmas.Bool.Decides.nat_tests}
use Rattle.fm_words.{specs.Alu.does_hold, specs.Word.are_same_ints}
use Rattle.fm_code.{specs.Flags.flags_of_word, proofs.RowLaws.test_rows}
use Rattle.piton_words.{specs.declared.word.Word.Word, specs.declared.word.Word.TheVariants.{Int, Nat, Bitv, Bool as Truth, Addr, Pc, Subr}}
use Rattle.piton_words.specs.declared.outcome.WordError.{WordError}
use Rattle.piton_semantics.{specs.declared.error_kind.ErrorKind.ErrorKind, specs.declared.error_kind.ErrorKind.TheVariants.{TempEmpty, Tag}}
use Rattle.piton_semantics.{specs.State.PitonState, specs.Views.{◌>>=◌, then_on, where_true, found, One, Two, one_of, two_of, nat_of, addr_of, pc_of, subr_of}}
use Rattle.piton_semantics.specs.Views.{lifted, error_of, test_of, does_nat_hold, does_int_hold, does_bool_hold, does_bitv_hold, is_zero, is_negative}
use Rattle.piton_semantics.{specs.Views.is_positive, specs.InstructionRows.Row, specs.Addresses.{Addresses, word_number}, specs.Templates.condition_of}
use Rattle.piton_semantics.{proofs.OperationForms.IsWordBy, proofs.ReadyForms.is_test}
use Rattle.piton_syntax.specs.declared.test_kind.TestFamily.TheVariants as family
use Rattle.piton_syntax.{specs.declared.test_kind.TestFamily.TestFamily, specs.declared.test_kind.TestKind.TestKind}
use Rattle.piton_syntax.specs.declared.test_kind.TestKind.TheVariants as test

pub refused : {A : Type 0} (e : ErrorKind) (p : PitonState) → (let r : Row = Err e in r) ≡ Ok p → A
refused e p h = absurd cc

pub by_one : (ws : List Word) (go : One → Row) (p : PitonState) (Q : List Word → Type 0) → (one_of ws >>= go) ≡ Ok p
    → ((t : Word) (rest : List Word) → go record { top = t; below = rest } ≡ Ok p → Q (t ∷ rest)) → Q ws
unfolding then_on
by_one (t ∷ rest) go p Q h k = k t rest h
by_one [] go p Q h k = refused TempEmpty p h

pub by_two : (ws : List Word) (go : Two → Row) (p : PitonState) (Q : List Word → Type 0) → (two_of ws >>= go) ≡ Ok p
    → ((t v : Word) (rest : List Word) → go record { top = t; second = v; below = rest } ≡ Ok p → Q (t ∷ v ∷ rest)) → Q ws
unfolding then_on
by_two (t ∷ v ∷ rest) go p Q h k = k t v rest h
by_two (t ∷ []) go p Q h k = refused TempEmpty p h
by_two [] go p Q h k = refused TempEmpty p h

pub by_nat : (w : Word) (go : ℕ → Row) (p : PitonState) (Q : Word → Type 0) → (nat_of w >>= go) ≡ Ok p → (((n : ℕ) → go n ≡ Ok p → Q (Nat n))) → Q w
unfolding then_on
by_nat (Nat n) go p Q h k = k n h
by_nat w go p Q h k = refused Tag p h

pub by_addr : (w : Word) (go : ℕ × ℕ → Row) (p : PitonState) (Q : Word → Type 0) → (addr_of w >>= go) ≡ Ok p
    → (((a o : ℕ) → go (a, o) ≡ Ok p → Q (Addr a o))) → Q w
unfolding then_on
by_addr (Addr a o) go p Q h k = k a o h
by_addr w go p Q h k = refused Tag p h

pub by_pc : (w : Word) (go : ℕ × ℕ → Row) (p : PitonState) (Q : Word → Type 0) → (pc_of w >>= go) ≡ Ok p → (((a o : ℕ) → go (a, o) ≡ Ok p → Q (Pc a o))) → Q w
unfolding then_on
by_pc (Pc a o) go p Q h k = k a o h
by_pc w go p Q h k = refused Tag p h

pub by_subr : (w : Word) (go : ℕ → Row) (p : PitonState) (Q : Word → Type 0) → (subr_of w >>= go) ≡ Ok p → (((a : ℕ) → go a ≡ Ok p → Q (Subr a))) → Q w
unfolding then_on
by_subr (Subr a) go p Q h k = k a h
by_subr w go p Q h k = refused Tag p h

pub by_found : {A : Type 0} (o : Option A) (e : ErrorKind) (go : A → Row) (p : PitonState) (Q : Type 0) → (found o e >>= go) ≡ Ok p
    → ((x : A) → o ≡ Some x → go x ≡ Ok p → Q) → Q
unfolding then_on
by_found (Some x) e go p Q h k = k x refl h
by_found None e go p Q h k = refused e p h

pub by_true : (b : Bool) (e : ErrorKind) (r : Row) (p : PitonState) (Q : Type 0) → where_true b e r ≡ Ok p → (b ≡ true → r ≡ Ok p → Q) → Q
unfolding where_true
by_true true e r p Q h k = k refl h
by_true false e r p Q h k = refused e p h

pub by_lifted : {A : Type 0} (r : Result A WordError) (go : A → Row) (p : PitonState) (Q : Type 0) → (lifted r >>= go) ≡ Ok p
    → ((x : A) → r ≡ Ok x → go x ≡ Ok p → Q) → Q
unfolding then_on
by_lifted (Ok x) go p Q h k = k x refl h
by_lifted (Err e) go p Q h k = refused (error_of e) p h

answer_of : PitonState → Row → PitonState
answer_of d (Ok q) = q
answer_of d (Err e) = d

pub by_ok : (q p : PitonState) (Q : PitonState → Type 0) → (let r : Row = Ok q in r) ≡ Ok p → Q q → Q p
unfolding answer_of
by_ok q p Q h x = subst Q (ap (answer_of q) h) x

-- the answer of a test is what its condition tells of the word's flags
pub record Tested (A : Addresses) (kind : TestKind) (w : Word) (go : Bool → Row) (p : PitonState) : Type 0 where
  pub b : Bool
  pub holds : does_hold (condition_of kind) (flags_of_word (word_number A w)) ≡ b
  pub goes : go b ≡ Ok p

zero_is : (z : ℤ) → are_same_ints z (pos 0) ≡ is_zero z
zero_is (pos n) = refl
zero_is (negsuc n) = refl

negative_is : (z : ℤ) → int_lt z (pos 0) ≡ is_negative z
negative_is (pos n) = grind (arith, nat_tests)
negative_is (negsuc n) = refl

positive_is : (z : ℤ) → int_lt (pos 0) z ≡ is_positive z
positive_is (pos n) = grind (arith, nat_tests)
positive_is (negsuc n) = refl

pub by_test : (A : Addresses) (lens : List ℕ) (I : ℕ → ℕ → Type 0) (J : ℕ → Type 0) (f : TestFamily) (kind : TestKind) (w : Word) (go : Bool → Row)
    (p : PitonState) → is_test f kind ≡ true → (test_of f kind w >>= go) ≡ Ok p → IsWordBy lens I J w → Tested A kind w go p
unfolding then_on
by_test A l I J family.Nat test.Zero (Nat n) go p t h q = record { b = does_nat_hold test.Zero n; holds = refl; goes = h }
by_test A l I J family.Nat test.Zero w go p t h q = refused Tag p h
by_test A l I J family.Nat test.NotZero (Nat n) go p t h q = record { b = does_nat_hold test.NotZero n; holds = refl; goes = h }
by_test A l I J family.Nat test.NotZero w go p t h q = refused Tag p h
by_test A l I J family.Bitv test.AllZero (Bitv n) go p t h q = record { b = does_bitv_hold test.AllZero n; holds = refl; goes = h }
by_test A l I J family.Bitv test.AllZero w go p t h q = refused Tag p h
by_test A l I J family.Bitv test.NotAllZero (Bitv n) go p t h q = record { b = does_bitv_hold test.NotAllZero n; holds = refl; goes = h }
by_test A l I J family.Bitv test.NotAllZero w go p t h q = refused Tag p h
by_test A l I J family.Int test.Zero (Int n) go p t h q = record { b = does_int_hold test.Zero n; holds = test_rows.is_zero_int n q ∙ zero_is n; goes = h }
by_test A l I J family.Int test.Zero w go p t h q = refused Tag p h
by_test A l I J family.Int test.NotZero (Int n) go p t h q =
    record { b = does_int_hold test.NotZero n; holds = test_rows.not_zero_int n q ∙ ap not (zero_is n); goes = h }
by_test A l I J family.Int test.NotZero w go p t h q = refused Tag p h
by_test A l I J family.Int test.Neg (Int n) go p t h q = record { b = does_int_hold test.Neg n; holds = test_rows.is_neg n q ∙ negative_is n; goes = h }
by_test A l I J family.Int test.Neg w go p t h q = refused Tag p h
by_test A l I J family.Int test.NotNeg (Int n) go p t h q =
    record { b = does_int_hold test.NotNeg n; holds = test_rows.not_neg n q ∙ ap not (negative_is n); goes = h }
by_test A l I J family.Int test.NotNeg w go p t h q = refused Tag p h
by_test A l I J family.Int test.Pos (Int n) go p t h q = record { b = does_int_hold test.Pos n; holds = test_rows.is_pos n q ∙ positive_is n; goes = h }
by_test A l I J family.Int test.Pos w go p t h q = refused Tag p h
by_test A l I J family.Int test.NotPos (Int n) go p t h q =
    record { b = does_int_hold test.NotPos n; holds = test_rows.not_pos n q ∙ ap not (positive_is n); goes = h }
by_test A l I J family.Int test.NotPos w go p t h q = refused Tag p h
by_test A l I J family.Bool test.T (Truth n) go p t h q = record { b = does_bool_hold test.T n; holds = test_rows.is_true n; goes = h }
by_test A l I J family.Bool test.T w go p t h q = refused Tag p h
by_test A l I J family.Bool test.F (Truth n) go p t h q = record { b = does_bool_hold test.F n; holds = test_rows.is_false n; goes = h }
by_test A l I J family.Bool test.F w go p t h q = refused Tag p h
by_test A l I J f kind w go p t h q = absurd cc

-- the word at an offset of an area is one of the area's
pub record Found (areas : List (List Word)) (a o : ℕ) (w : Word) : Type 0 where
  pub area : List Word
  pub some : slice_get areas a ≡ Some area
  pub there : slice_get area o ≡ Some w

pub by_area : (areas : List (List Word)) (a o : ℕ) (w : Word) → slice_get (slice_index_or areas a []) o ≡ Some w → Found areas a o w
by_area [] a o w h = cc
by_area (xs ∷ xss) zero o w h = record { area = xs; some = refl; there = h }
by_area (xs ∷ xss) (suc a) o w h =
    let g = by_area xss a o w h in record { area = g.area; some = g.some; there = g.there }

-- an area that has a word
pub area_there : (areas : List (List Word)) (a o : ℕ) → o < length (slice_index_or areas a []) → slice_get areas a ≡ Some (slice_index_or areas a [])
area_there [] a o h = absurd (omega arith)
area_there (xs ∷ xss) zero o h = refl
area_there (xs ∷ xss) (suc a) o h = area_there xss a o h

pub area_length : (areas : List (List Word)) (a : ℕ) → get_or (map (λ xs. length xs) areas) a 0 ≡ length (slice_index_or areas a [])
area_length [] a = refl
area_length (xs ∷ xss) zero = refl
area_length (xs ∷ xss) (suc a) = area_length xss a
