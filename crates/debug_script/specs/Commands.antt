-- Commands, by their words.
use Rattle.std.specs.Prelude.{ℕ, ℤ, pos, negsuc, ◌^◌, ◌-◌, ◌==◌, Bool, List, [], ◌∷◌, ◌++◌, take, drop, Option, Some, None, Result, Ok, Err}
use Rattle.std.specs.{Prelude.{◌≡◌, length, nat_le, nat_lt, codes, if◌then◌else◌}, List.{slice_split}, Str.{bytes_eq}}
use Rattle.stack_text.specs.{SharedLimits.{most_steps}, Names.{name_of}, Numerals.{is_digits, numeral_value}, Results.{◌>>=◌}}
use Rattle.stack_text.specs.Gives as common
use Rattle.debug_script.specs.{declared.fault.LineFault.{LineFault}, declared.command.Place.{Place}, declared.fault.ScriptRule.{ScriptRule}}
use Rattle.debug_script.specs.{declared.command.Command.{Command}, declared.command.Verb.{Verb}, declared.command.WatchWord.{WatchWord}}
use Rattle.debug_script.specs.declared.fault.LineFault.TheVariants as fault
use Rattle.debug_script.specs.declared.command.Place.TheVariants as place
use Rattle.debug_script.specs.declared.fault.ScriptRule.TheVariants as rules
use Rattle.debug_script.specs.declared.command.Command.TheVariants as command
use Rattle.debug_script.specs.declared.command.Verb.TheVariants as verb
use Rattle.debug_script.specs.declared.command.WatchWord.TheVariants as watch

-- the words of a line: each space ends one, so that a word may be empty
abbrev pub words_of : List ℕ → List (List ℕ)
words_of line = slice_split (λ byte. byte == 32) line

-- the words of what is left of a line
abbrev pub words_left : Option (List ℕ) → List (List ℕ)
words_left None = []
words_left (Some line) = words_of line

unfoldable pub verb_of : List ℕ → Option Verb
verb_of word =
    if bytes_eq word (codes "step") then Some verb.Step
    else (if bytes_eq word (codes "show") then Some verb.Show
    else (if bytes_eq word (codes "up") then Some verb.Up
    else (if bytes_eq word (codes "attach") then Some verb.Attach
    else (if bytes_eq word (codes "detach") then Some verb.Detach
    else (if bytes_eq word (codes "words") then Some verb.Words
    else (if bytes_eq word (codes "until") then Some verb.Until
    else (if bytes_eq word (codes "tally") then Some verb.Tally else None)))))))

unfoldable pub watch_of : List ℕ → Result WatchWord ScriptRule
watch_of word =
    if bytes_eq word (codes "count") then Ok watch.Count
    else (if bytes_eq word (codes "cost") then Ok watch.Cost
    else (if bytes_eq word (codes "last") then Ok watch.Last
    else (if bytes_eq word (codes "peak") then Ok watch.Peak else Err rules.Argument)))

-- a number that is at most this
abbrev pub in_range : ℕ → ℤ → Result ℕ ScriptRule
in_range most (pos n) = if nat_le n most then Ok n else Err rules.Argument
in_range most (negsuc n) = Err rules.Argument

-- the number that decimal digits spell, of which there may be any number
unfoldable pub number_of : ℕ → List ℕ → Result ℕ ScriptRule
number_of most word = if is_digits word then in_range most (numeral_value word) else Err rules.Argument

-- at most 2^40 steps
abbrev pub count_of : List ℕ → Result ℕ ScriptRule
count_of word = number_of most_steps word

-- an address, or another number of 32 bits
abbrev pub address_of : List ℕ → Result ℕ ScriptRule
address_of word = number_of (2 ^ 32 - 1) word

-- the most words of memory that a line asks for
abbrev pub most_words : ℕ
most_words = 4096

abbrev pub words_command : List ℕ → List ℕ → Result Command ScriptRule
words_command address count =
    address_of address >>= λ address. number_of most_words count >>= λ count. Ok (command.Words address count)

-- what stands behind `depth<=` in a word that begins so
unfoldable pub depth_behind : List ℕ → Option (List ℕ)
depth_behind word = if bytes_eq (take 7 word) (codes "depth<=") then Some (drop 7 word) else None

abbrev pub place_by : Option (List ℕ) → List ℕ → Result Place ScriptRule
place_by (Some most) word = address_of most >>= λ n. Ok (place.Depth n)
place_by None word = address_of word >>= λ n. Ok (place.Number n)

-- a place in one word: a depth, as in `depth<=2`, or a number as `show` has it
abbrev pub place_in : List ℕ → Result Place ScriptRule
place_in word = place_by (depth_behind word) word

abbrev pub until_word : List ℕ → List ℕ → Result Command ScriptRule
until_word word limit = place_in word >>= λ there. count_of limit >>= λ most. Ok (command.Until there most)

-- a place in two words, as `show` has it: the name of a program, and the number of an instruction

abbrev pub named_place : Option (List ℕ) → List ℕ → Result Place ScriptRule
named_place None number = Err rules.Argument
named_place (Some name) number = address_of number >>= λ n. Ok (place.Instruction name n)

abbrev pub place_of : List ℕ → List ℕ → Result Place ScriptRule
place_of program number = named_place (name_of program) number

abbrev pub until_instruction : List ℕ → List ℕ → List ℕ → Result Command ScriptRule
until_instruction program number limit =
    place_of program number >>= λ there. count_of limit >>= λ most. Ok (command.Until there most)

abbrev pub until_one : List (List ℕ) → Result Command ScriptRule
until_one (word ∷ limit ∷ []) = until_word word limit
until_one (program ∷ number ∷ limit ∷ []) = until_instruction program number limit
until_one words = Err rules.WordCount

-- the words of several places stand between words `or`
abbrev pub is_or : List ℕ → Bool
is_or word = bytes_eq word (codes "or")

-- how words are split at the first `or`, if there is one
abbrev pub SplitsAtOr : List (List ℕ) → Option (List (List ℕ) × List (List ℕ)) → Type 0
SplitsAtOr words None = slice_split is_or words ≡ words ∷ []
SplitsAtOr words (Some parts) = slice_split is_or words ≡ parts.0 ∷ slice_split is_or parts.1

-- a place by its words
abbrev pub place_from : List (List ℕ) → Result Place ScriptRule
place_from (word ∷ []) = place_in word
place_from (program ∷ number ∷ []) = place_of program number
place_from words = Err rules.WordCount

-- the last place has the number of steps behind it
abbrev pub last_instruction : List ℕ → List ℕ → List ℕ → Result (Place × ℕ) ScriptRule
last_instruction program number limit =
    place_of program number >>= λ there. count_of limit >>= λ most. Ok (there, most)

abbrev pub last_place : List (List ℕ) → Result (Place × ℕ) ScriptRule
last_place (word ∷ limit ∷ []) = place_in word >>= λ there. count_of limit >>= λ most. Ok (there, most)
last_place (program ∷ number ∷ limit ∷ []) = last_instruction program number limit
last_place words = Err rules.WordCount

-- the places of these parts behind some that were read
unfoldable pub until_parts : List Place → List (List (List ℕ)) → Result Command ScriptRule
until_parts places [] = Err rules.WordCount
until_parts places (last ∷ []) = last_place last >>= λ found. Ok (command.UntilAny (places ++ found.0 ∷ []) found.1)
until_parts places (part ∷ next ∷ parts) = place_from part >>= λ there. until_parts (places ++ there ∷ []) (next ∷ parts)

abbrev pub until_any : List (List ℕ) → Result Command ScriptRule
until_any words = until_parts [] (slice_split is_or words)

-- one place, of at most two words, or several
abbrev pub until_command : List (List ℕ) → Result Command ScriptRule
until_command words = if nat_lt 3 (length words) then until_any words else until_one words

-- the one word that `show` may have
abbrev pub show_word : List ℕ → Result Command ScriptRule
show_word word = if bytes_eq word (codes "all") then Ok command.ShowAll else Err rules.WordCount

-- the command of a verb and the words behind it, or the rule that they break
abbrev pub command_by : Verb → List (List ℕ) → Result Command ScriptRule
command_by verb.Step (count ∷ []) = count_of count >>= λ n. Ok (command.Step n)
command_by verb.Show [] = Ok command.Show
command_by verb.Show (word ∷ []) = show_word word
command_by verb.Up [] = Ok command.Up
command_by verb.Attach (watch ∷ []) = watch_of watch >>= λ w. Ok (command.Attach w)
command_by verb.Detach (watch ∷ []) = watch_of watch >>= λ w. Ok (command.Detach w)
command_by verb.Tally (watch ∷ []) = watch_of watch >>= λ w. Ok (command.Tally w)
command_by verb.Words (address ∷ count ∷ []) = words_command address count
command_by verb.Until words = until_command words
command_by verb words = Err rules.WordCount

abbrev pub command_with : Option Verb → List (List ℕ) → Result Command ScriptRule
command_with (Some verb) words = command_by verb words
command_with None words = Err rules.UnknownCommand

abbrev pub command_of : List (List ℕ) → Result Command ScriptRule
command_of [] = Err rules.UnknownCommand
command_of (word ∷ words) = command_with (verb_of word) words

-- the rule that a fault of a line is; there is none where memory ran out
abbrev pub rule_of : LineFault → Option ScriptRule
rule_of (fault.Rule rule) = Some rule
rule_of fault.Memory = None

-- exactly what the definition gives, unless memory was refused
abbrev pub GivesCommandUnless : Type 0 → Result Command LineFault → Result Command ScriptRule → Type 0
GivesCommandUnless refused result value = common.GivesUnless refused rule_of (λ (c : Command). c) result value

abbrev pub GivesLastUnless : Type 0 → Result (Place × ℕ) LineFault → Result (Place × ℕ) ScriptRule → Type 0
GivesLastUnless refused result value = common.GivesUnless refused rule_of (λ (p : Place × ℕ). p) result value

abbrev pub GivesPlaceUnless : Type 0 → Result Place LineFault → Result Place ScriptRule → Type 0
GivesPlaceUnless refused result value = common.GivesUnless refused rule_of (λ (p : Place). p) result value
