-- What the simulation of a step needs of the addresses, of the code, and of the instruction.
use Rattle.std.specs.Prelude.{◌≡◌, ℕ, ◌+◌, ◌<◌, Bool, true, false, List, [], length, map, Some, slice_get, slice_index_or}
use Rattle.fm_code.{specs.Execution.{AreParts, CodeAt}, specs.Areas.words_before, specs.Templates.prelude_code}
use Rattle.piton_words.specs.declared.word.Word.{Word}
use Rattle.piton_syntax.specs.declared.test_kind.TestFamily.TheVariants as family
use Rattle.piton_syntax.{specs.declared.test_kind.TestFamily.TestFamily, specs.declared.test_kind.TestKind.TestKind}
use Rattle.piton_syntax.specs.declared.test_kind.TestKind.TheVariants as test
use Rattle.piton_check.specs.Instruction as i
use Rattle.piton_check.specs.Instruction.{Instruction, ProgramView, SystemView}
use Rattle.piton_semantics.{specs.State.Frame, specs.Addresses.{Addresses, parts_with, numbers}}

-- a kind of test that words of a family have
abbrev pub is_test : TestFamily → TestKind → Bool
is_test family.Nat test.Zero = true
is_test family.Nat test.NotZero = true
is_test family.Int test.Zero = true
is_test family.Int test.NotZero = true
is_test family.Int test.Neg = true
is_test family.Int test.NotNeg = true
is_test family.Int test.Pos = true
is_test family.Int test.NotPos = true
is_test family.Bool test.T = true
is_test family.Bool test.F = true
is_test family.Bitv test.AllZero = true
is_test family.Bitv test.NotAllZero = true
is_test f k = false

-- the parts have the sizes of the system; the areas stand where their names say; each program begins with its prelude
pub record IsReady (A : Addresses) (code : List ℕ) (S : SystemView) (areas : List (List Word)) : Type 0 where
  pub is : AreParts (parts_with A code)
  pub temp_is : A.temp_at + S.temp ≡ A.end
  pub ctrl_is : A.ctrl_at + S.ctrl ≡ A.temp_at
  pub area_is : (a : ℕ) → A.area_at a ≡ A.areas_at + words_before (map (numbers A) areas) a
  pub begins : (a : ℕ) (q : ProgramView) → slice_get S.programs a ≡ Some q →
      CodeAt (parts_with A code) (A.entry_at a) (prelude_code q.formals (numbers A q.temporaries))
  pub first : (a : ℕ) (q : ProgramView) → slice_get S.programs a ≡ Some q →
      A.place_at a 0 ≡ A.entry_at a + length (prelude_code q.formals (numbers A q.temporaries))

-- what a checked system's instruction asks of the newest frame's locals, of the areas, and of its kind of test
abbrev pub Asks : Frame → List (List Word) → Instruction → Type 0
Asks f areas (i.PopLocal k) = k < length f.locals
Asks f areas (i.SetLocal k) = k < length f.locals
Asks f areas (i.PopGlobal a) = 0 < length (slice_index_or areas a [])
Asks f areas (i.SetGlobal a) = 0 < length (slice_index_or areas a [])
Asks f areas (i.TestAndJump family kind l) = is_test family kind ≡ true
Asks f areas i = Unit {0}
