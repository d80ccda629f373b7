-- Internal: what a pass over the programs leaves open, and how that is filled once all addresses are known.
use Rattle.std.specs.Prelude.{◌≡◌, ℕ, ◌+◌, ◌<◌, List, [], ◌∷◌, length, slice_get, slice_set, Option, Some, None, ◌==◌, if◌then◌else◌}
use Rattle.piton_check.specs.{declared.piece.Piece.{Piece}, declared.piece.Piece.TheVariants.{Code, Number, Place, Table}}
use Rattle.piton_check.specs.Instruction.{SystemView}
use Rattle.piton_semantics.specs.{Fits.{Each}, Addresses.{Addresses}, Placed.{address_of_place, addresses_of}, Templates.{word_of}}
use Rattle.piton_linker.specs.{declared.draft.FixUp.{FixUp}, Tables.{PieceExists}}

-- the addresses of a program's first places
abbrev pub IsRow : SystemView → ℕ → List ℕ → Type 0
IsRow s program row = (place a : ℕ) → slice_get row place ≡ Some a → a ≡ address_of_place s program place

-- the address of a place, where it is one of a program's first
abbrev pub known_place : ℕ → List ℕ → ℕ → ℕ → Option ℕ
known_place program row to place = if to == program then slice_get row place else None

-- the word of a piece that stands at an address inside a program, where no addresses are needed but those of the program's first places
abbrev pub known_word : ℕ → List ℕ → ℕ → Piece → Option ℕ
known_word program row a (Code word) = Some word
known_word program row a (Number number) = Some number
known_word program row a (Place to place) = known_place program row to place
known_word program row a Table = Some (a + 2)
known_word program row a piece = None

-- words so far, and the fix-ups for those that are not known yet
pub record DraftOf : Type 0 where
  pub words : List ℕ
  pub fixups : List FixUp

-- words with each fix-up's place filled by its piece's word
abbrev pub filled : Addresses → List ℕ → List FixUp → List ℕ
filled A words [] = words
filled A words (f ∷ fs) = filled A (slice_set words f.place (word_of A (A.base + f.place) f.piece)) fs

-- what a draft's words are under the addresses of the system
abbrev pub drafted : SystemView → DraftOf → List ℕ
drafted s d = filled (addresses_of s) d.words d.fixups

-- a fix-up's place is one of so many words, and what it names is in the system
abbrev pub IsFixUp : SystemView → ℕ → FixUp → Type 0
IsFixUp s count f = (f.place < count) × PieceExists s f.piece

abbrev pub IsDraft : SystemView → DraftOf → Type 0
IsDraft s d = Each (IsFixUp s (length d.words)) d.fixups
