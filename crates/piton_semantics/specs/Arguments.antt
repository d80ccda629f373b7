-- The one argument that an operation wants.
use Rattle.std.specs.Prelude.{ℕ, List, [], ◌∷◌, Option, Some, None}
use Rattle.piton_words.specs.declared.word.Word.{Word}
use Rattle.piton_syntax.specs.declared.test_kind.TestKind.{TestKind}
use Rattle.piton_check.specs.declared.resolved.ResolvedArg.{ResolvedArg}
use Rattle.piton_check.specs.declared.resolved.ResolvedArg.TheVariants as arg

-- the one argument that an operation wants; no checked system has another one
abbrev pub word_argument : List ResolvedArg → Option Word
word_argument (arg.Word word ∷ []) = Some word
word_argument args = None

abbrev pub number_argument : List ResolvedArg → Option ℕ
number_argument (arg.Number number ∷ []) = Some number
number_argument args = None

abbrev pub local_argument : List ResolvedArg → Option ℕ
local_argument (arg.Local local ∷ []) = Some local
local_argument args = None

abbrev pub place_argument : List ResolvedArg → Option ℕ
place_argument (arg.Place place ∷ []) = Some place
place_argument args = None

abbrev pub area_argument : List ResolvedArg → Option ℕ
area_argument (arg.Area area ∷ []) = Some area
area_argument args = None

abbrev pub program_argument : List ResolvedArg → Option ℕ
program_argument (arg.Program program ∷ []) = Some program
program_argument args = None

-- a test, and a place
abbrev pub test_argument : List ResolvedArg → Option (TestKind × ℕ)
test_argument (arg.Test kind ∷ arg.Place place ∷ []) = Some (kind, place)
test_argument args = None
