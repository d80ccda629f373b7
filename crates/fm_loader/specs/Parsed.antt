-- Values as a text has them.
use Rattle.std.specs.{Prelude.{ℕ, pos, List, [], ◌∷◌, Option, Some, None, ◌&&◌, ◌==◌, if◌then◌else◌, codes}, Option.{option_map}}
use Rattle.std.specs.Str.{bytes_eq}
use Rattle.stack_text.specs.{TreeNames.{name_of_tree}, declared.shape.Kind.TheVariants.{Integer, Boolean, Character}, Options.{◌>>=◌}}
use Rattle.stack_text.specs.{Numerals.{is_digits, is_numeral, numeral_value}, Trees.{Node, Nodes, atom, list, none, more}}
use Rattle.fm_words.specs.Word.{signed_32}
use Rattle.fm_loader.specs.{declared.parsed.Scalar.{Scalar}, declared.parsed.ParsedValue.{ParsedValue}}
use Rattle.fm_loader.specs.{declared.parsed.ParsedValue.TheVariants.{Single, Several}, declared.parsed.Entry.{Entry}}

-- `#` and digits
abbrev pub character_of : List ℕ → Option Scalar
character_of [] = None
character_of (mark ∷ digits) =
    if mark == 35 && is_digits digits then Some (record { kind = Character; number = signed_32 (numeral_value digits) }) else None

-- `true`, `false`, a numeral, or a character
unfoldable pub scalar_of : List ℕ → Option Scalar
scalar_of word =
    if bytes_eq word (codes "true") then Some (record { kind = Boolean; number = Some (pos 1) }) else
    if bytes_eq word (codes "false") then Some (record { kind = Boolean; number = Some (pos 0) }) else
    if is_numeral word then Some (record { kind = Integer; number = signed_32 (numeral_value word) }) else character_of word

abbrev pub scalar_at : Node → Option Scalar
scalar_at (atom place word) = scalar_of word
scalar_at (list place trees) = None

unfoldable pub scalars_of : Nodes → Option (List Scalar)
scalars_of none = Some []
scalars_of (more tree trees) = do
  first ← scalar_at tree
  others ← scalars_of trees
  Some (first ∷ others)

-- a single value, or those of an array in parentheses
unfoldable pub parsed_value : Node → Option ParsedValue
parsed_value (atom place word) = option_map Single (scalar_of word)
parsed_value (list place trees) = option_map Several (scalars_of trees)

-- the two trees of a list of two
abbrev pub pair_of : Nodes → Option (Node × Node)
pair_of (more first (more second none)) = Some (first, second)
pair_of trees = None

-- `(NAME VALUE)`
unfoldable pub entry_of : Node → Option Entry
entry_of (atom place word) = None
entry_of (list place trees) = do
  pair ← pair_of trees
  name ← name_of_tree pair.0
  value ← parsed_value pair.1
  Some (record { place = place; name = name; value = value })
