-- What the words, names and numbers of a system mean: positions of first declarations, and numbers in range.
use Rattle.std.specs.{Prelude.{ℕ, ℤ, List, map, length, get_or, Option, Some, None, nat_lt, nat_le, if◌then◌else◌}, Option.{option_map}}
use Rattle.stack_text.specs.{SharedLimits.{most_stack}, Options.{◌>>=◌}}
use Rattle.fm_words.specs.Word.{signed_32, unsigned_32}
use Rattle.piton_words.specs.declared.word.Word.{Word}
use Rattle.piton_words.specs.declared.word.Word.TheVariants as word
use Rattle.piton_syntax.specs.{declared.argument.ArgKind.{ArgKind}, declared.argument.Arguments.{Arguments}}
use Rattle.piton_syntax.specs.declared.argument.Arguments.TheVariants.{Zero, One, TestAndLabel, OneOrMore}
use Rattle.piton_syntax.specs.{declared.word_text.WordItem.{WordItem}, Systems.{ProgramOf, SystemOf}}
use Rattle.piton_syntax.specs.declared.argument.ArgKind.TheVariants as kind
use Rattle.piton_syntax.specs.declared.word_text.WordItem.TheVariants as item
use Rattle.piton_check.specs.{declared.resolved.ResolvedArg.{ResolvedArg}, Declarations.{area_names, program_names, local_names}}
use Rattle.piton_check.specs.Declarations.{label_names, first_of}
use Rattle.piton_check.specs.declared.resolved.ResolvedArg.TheVariants as arg

-- a number that is a position in a list of that length
abbrev pub position_in : ℕ → ℤ → Option ℕ
position_in count number = unsigned_32 number >>= λ n. if nat_lt n count then Some n else None

abbrev pub area_lengths : SystemOf → List ℕ
area_lengths s = map (λ a. length a.words) s.areas

abbrev pub program_lengths : SystemOf → List ℕ
program_lengths s = map (λ p. length p.instrs) s.programs

-- what a word means, where its number is in the range of its tag and all that it names exists
abbrev pub word_of : SystemOf → WordItem → Option Word
word_of s (item.Int n) = option_map word.Int (signed_32 n.number)
word_of s (item.Nat n) = option_map word.Nat (unsigned_32 n.number)
word_of s (item.Bitv n) = option_map word.Bitv (unsigned_32 n.number)
word_of s (item.Bool truth) = Some (word.Bool truth)
word_of s (item.Addr area n) =
    first_of (area_names s) area.name >>= λ a. position_in (get_or (area_lengths s) a 0) n.number >>= λ o. Some (word.Addr a o)
word_of s (item.Pc program n) =
    first_of (program_names s) program.name >>= λ p. position_in (get_or (program_lengths s) p 0) n.number >>= λ i. Some (word.Pc p i)
word_of s (item.Subr program) = option_map word.Subr (first_of (program_names s) program.name)

-- the kind of the names that an operation takes, of which there is one at most
abbrev pub name_kind : Arguments → ArgKind
name_kind Zero = kind.Word
name_kind (One k) = k
name_kind (TestAndLabel family) = kind.Label
name_kind (OneOrMore k) = k

-- what a name of a kind means in a program
abbrev pub name_of : SystemOf → ProgramOf → ArgKind → List ℕ → Option ResolvedArg
name_of s p kind.Local name = option_map arg.Local (first_of (local_names p) name)
name_of s p kind.Area name = option_map arg.Area (first_of (area_names s) name)
name_of s p kind.Label name = option_map arg.Place (first_of (label_names p) name)
name_of s p kind.Program name = option_map arg.Program (first_of (program_names s) name)
name_of s p _ name = None

-- a count that an instruction may have
abbrev pub count_of : ℤ → Option ℕ
count_of number = unsigned_32 number >>= λ n. if nat_le n most_stack then Some n else None
