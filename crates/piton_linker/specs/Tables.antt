-- Internal: the addresses of all places, programs and areas of a placed system, as the code lists them.
use Rattle.std.specs.Prelude.{ℕ, ◌+◌, ◌<◌, List, [], ◌∷◌, length, map, get_or, slice_get, Option, Some, None}
use Rattle.piton_words.specs.declared.word.Word.{Word}
use Rattle.piton_check.specs.{Instruction.{ProgramView, SystemView}, declared.piece.Piece.{Piece}, declared.piece.Piece.TheVariants.{Place}}
use Rattle.piton_check.specs.declared.piece.Piece.TheVariants.{Entry, Area}
use Rattle.piton_semantics.specs.{Fits.{IsPlace}, Addresses.{numbers}, Placed.{address_of_place, instruction_size, prelude_size}}
use Rattle.piton_semantics.specs.{Placed.{program_size, areas_start, ctrl_start, temp_start, end_of, addresses_of}, Templates.{words_of}}
use Rattle.piton_semantics.specs.Templates.{pieces_at}
use Rattle.fm_code.specs.Areas.{joined}

-- the address of each of parts of these sizes, the first of which stands at an address
abbrev pub starts : ℕ → List ℕ → List ℕ
starts a [] = []
starts a (n ∷ ns) = a ∷ starts (a + n) ns

-- the address of each place of a program that stands at an address, and of each place of each program
abbrev pub row_at : ℕ → ProgramView → List ℕ
row_at a p = starts (a + prelude_size p) (map instruction_size p.instructions)

abbrev pub place_rows : ℕ → List ProgramView → List (List ℕ)
place_rows a [] = []
place_rows a (p ∷ ps) = row_at a p ∷ place_rows (a + program_size p) ps

pub record TableOf : Type 0 where
  pub entries : List ℕ
  pub places : List (List ℕ)
  pub areas : List ℕ
  pub base : ℕ
  pub ctrl_start : ℕ
  pub temp_start : ℕ
  pub end : ℕ

abbrev pub table_of : SystemView → TableOf
table_of s = record {
  entries = starts s.base (map program_size s.programs);
  places = place_rows s.base s.programs;
  areas = starts (areas_start s) (map length s.areas);
  base = s.base;
  ctrl_start = ctrl_start s;
  temp_start = temp_start s;
  end = end_of s;
}

-- what a piece names is in the system
abbrev pub PieceExists : SystemView → Piece → Type 0
PieceExists s (Place program place) = IsPlace s program place
PieceExists s (Entry program) = program < length s.programs
PieceExists s (Area area offset) = offset < get_or (map length s.areas) area 0
PieceExists s piece = Unit {0}

-- the address of a place in a table's rows
abbrev pub place_by : Option (List ℕ) → ℕ → Option ℕ
place_by None place = None
place_by (Some row) place = slice_get row place

abbrev pub place_in : List (List ℕ) → ℕ → ℕ → Option ℕ
place_in rows program place = place_by (slice_get rows program) place

-- the words of what stands at a place of a program
abbrev pub words_at : SystemView → ℕ → ℕ → List ℕ
words_at s program place = words_of (addresses_of s) (address_of_place s program place) (pieces_at s program place)

-- the words of areas
abbrev pub areas_words : SystemView → List (List Word) → List ℕ
areas_words s areas = joined (map (numbers (addresses_of s)) areas)
