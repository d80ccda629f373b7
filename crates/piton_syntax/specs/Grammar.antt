-- The grammar of Piton: the system that a tree is, or its faults, part by part.
use Rattle.std.specs.{Prelude.{ℕ, List, [], ◌∷◌, Ok, Option, Some, None, Bool, true, ◌&&◌, ◌||◌, codes, if◌then◌else◌}, Str.{bytes_eq}}
use Rattle.stack_text.specs.{Names.{is_name}, Numerals.{is_digits, is_numeral, numeral_value, fits_128_bits}, Trees.{Node, Nodes, atom}}
use Rattle.stack_text.specs.{Trees.{list, none, more, place_of}, declared.name.Named.{Named}, Grammar.Judged.{Judged, fault, judged, ◌⊛◌}}
use Rattle.stack_text.specs.{Grammar.Judged.{each_of}, Grammar.Parts.{bytes_of, is_atom_of, list_or, name_or}}
use Rattle.piton_syntax.specs.{declared.argument.ArgKind.{ArgKind}, declared.argument.Arguments.{Arguments}}
use Rattle.piton_syntax.specs.declared.argument.Arguments.TheVariants.{Zero, One, TestAndLabel, OneOrMore}
use Rattle.piton_syntax.specs.{declared.argument.ArgText.{ArgText}, declared.op.PitonOp.{PitonOp}, declared.tag.Tag.{Tag}}
use Rattle.piton_syntax.specs.{declared.test_kind.TestFamily.{TestFamily}, declared.test_kind.TestKind.{TestKind}}
use Rattle.piton_syntax.specs.{declared.word_text.Number.{Number}, declared.word_text.WordText.{WordText}}
use Rattle.piton_syntax.specs.{declared.word_text.WordItem.{WordItem}, Limits.{is_small_program, is_small_system}}
use Rattle.piton_syntax.specs.{Operations.{op_arguments, operation_named, tag_named, test_named}, Systems.{InstrOf, ProgramOf, AreaOf}}
use Rattle.piton_syntax.specs.Systems.{SystemOf, new_word, new_instruction, new_program, new_area, new_system}
use Rattle.piton_syntax.specs.declared.argument.ArgKind.TheVariants as kind
use Rattle.piton_syntax.specs.declared.argument.ArgText.TheVariants as arg
use Rattle.piton_syntax.specs.declared.tag.Tag.TheVariants as tag
use Rattle.piton_syntax.specs.declared.word_text.WordItem.TheVariants as item

-- a name, or P4
abbrev pub named_of : Node → Judged Named
named_of = name_or 4

-- a list of such trees, or P3
abbrev pub list_of : {X : Type 0} → (Node → Judged X) → Node → Judged (List X)
list_of = list_or 3

-- the number of an atom that is a numeral, or P8 where it is out of range
abbrev pub number_of : Node → Judged Number
number_of t =
    judged (place_of t) 8 (fits_128_bits (numeral_value (bytes_of t)))
    (Ok (record { place = place_of t; number = numeral_value (bytes_of t) }))

-- the words of the two truth values
abbrev pub is_true_word : List ℕ → Bool
is_true_word bytes = bytes_eq bytes (codes "t")

abbrev pub is_false_word : List ℕ → Bool
is_false_word bytes = bytes_eq bytes (codes "f")

abbrev pub address : Named → Number → WordItem
address area offset = item.Addr area offset

abbrev pub program_place : Named → Number → WordItem
program_place program number = item.Pc program number

-- a word of one number, whose numeral passes the test, or P5 at the word
abbrev pub one_number : (List ℕ → Bool) → (Number → WordItem) → ℕ → Nodes → Judged WordItem
one_number test make p (more n none) = judged p 5 (is_atom_of test n) (Ok make ⊛ number_of n)
one_number test make p ts = fault p 5

-- a word of a name, and a number in digits alone, or P5 at the word
abbrev pub named_number : (Named → Number → WordItem) → ℕ → Nodes → Judged WordItem
named_number make p (more name (more n none)) =
    judged p 5 (is_atom_of is_name name && is_atom_of is_digits n) (Ok make ⊛ named_of name ⊛ number_of n)
named_number make p ts = fault p 5

-- `int N`, `nat N`, `bitv N`, `bool t`, `bool f`, `addr AREA N`, `pc PROGRAM N` or `subr PROGRAM`, or P5 at the word.
-- Only the number of an `int` may have a sign.
abbrev pub item_of : Option Tag → ℕ → Nodes → Judged WordItem
item_of (Some tag.Int) p ts = one_number is_numeral item.Int p ts
item_of (Some tag.Nat) p ts = one_number is_digits item.Nat p ts
item_of (Some tag.Bitv) p ts = one_number is_digits item.Bitv p ts
item_of (Some tag.Bool) p (more b none) =
    judged p 5 (is_atom_of is_true_word b || is_atom_of is_false_word b) (Ok (item.Bool (is_atom_of is_true_word b)))
item_of (Some tag.Addr) p ts = named_number address p ts
item_of (Some tag.Pc) p ts = named_number program_place p ts
item_of (Some tag.Subr) p (more program none) = judged p 5 (is_atom_of is_name program) (Ok item.Subr ⊛ named_of program)
item_of _ p ts = fault p 5

abbrev pub word_of : Node → Judged WordText
word_of (list p (more (atom q bytes) ts)) = Ok (new_word p) ⊛ item_of (tag_named bytes) p ts
word_of t = fault (place_of t) 5

-- whether an argument is of its kind, where that isn't a word
abbrev pub is_of_kind : ArgKind → Node → Bool
is_of_kind kind.Word t = true
is_of_kind kind.Count t = is_atom_of is_digits t
is_of_kind _ t = is_atom_of is_name t

abbrev pub are_of_kind : ArgKind → Nodes → Bool
are_of_kind k none = true
are_of_kind k (more t ts) = is_of_kind k t && are_of_kind k ts

-- an argument that is of its kind
abbrev pub argument_of : ArgKind → Node → Judged ArgText
argument_of kind.Word t = Ok arg.Word ⊛ word_of t
argument_of kind.Count t = Ok arg.Number ⊛ number_of t
argument_of _ t = Ok arg.Name ⊛ named_of t

-- the test that a tree is, if it is the word of one
abbrev pub test_at : TestFamily → Node → Option TestKind
test_at family (atom p bytes) = test_named family bytes
test_at family (list p ts) = None

abbrev pub one : {X : Type 0} → X → List X
one x = x ∷ []

abbrev pub test_and_label : TestKind → Named → List ArgText
test_and_label test label = arg.Test test ∷ arg.Name label ∷ []

-- a label after a test, or P7 at the operation's list
abbrev pub tested_of : ℕ → Option TestKind → Node → Judged (List ArgText)
tested_of p None label = fault p 7
tested_of p (Some test) label = judged p 7 (is_atom_of is_name label) (Ok (test_and_label test) ⊛ named_of label)

-- as many as the row has, each of its kind, or P7 at the operation's list
abbrev pub arguments_of : Arguments → ℕ → Nodes → Judged (List ArgText)
arguments_of Zero p none = Ok []
arguments_of (One k) p (more t none) = judged p 7 (is_of_kind k t) (Ok one ⊛ argument_of k t)
arguments_of (TestAndLabel family) p (more t (more label none)) = tested_of p (test_at family t) label
arguments_of (OneOrMore k) p (more t ts) = judged p 7 (are_of_kind k (more t ts)) (each_of (argument_of k) (more t ts))
arguments_of _ p ts = fault p 7

-- an operation's arguments, where the operation is known; else P6 at the instruction
abbrev pub called_of : ℕ → Judged (Option Named) → Option PitonOp → ℕ → Nodes → Judged InstrOf
called_of p label None q ts = fault p 6
called_of p label (Some o) q ts = Ok (new_instruction p o) ⊛ label ⊛ arguments_of (op_arguments o) q ts

-- `LABEL () (OPERATION ..)` after `dl`, or P6 at the instruction
abbrev pub labelled_of : ℕ → Nodes → Judged InstrOf
labelled_of p (more label (more (list q none) (more (list r (more (atom s bytes) ts)) none))) =
    called_of p (Ok Some ⊛ named_of label) (operation_named bytes) r ts
labelled_of p ts = fault p 6

abbrev pub instruction_of : Node → Judged InstrOf
instruction_of (list p (more (atom q bytes) ts)) =
    if bytes_eq bytes (codes "dl") then labelled_of p ts else called_of p (Ok None) (operation_named bytes) p ts
instruction_of t = fault (place_of t) 6

-- a name and a word at the start
abbrev pub pair : {X Y : Type 0} → X → Y → X × Y
pair x y = (x, y)

abbrev pub temporary_of : Node → Judged (Named × WordText)
temporary_of (list p (more name (more word none))) = Ok pair ⊛ named_of name ⊛ word_of word
temporary_of t = fault (place_of t) 3

-- `(NAME (FORMAL ..) ((TEMPORARY WORD) ..) INSTRUCTION ..)` with one instruction or more, or P3; P9 where it is too large
abbrev pub program_of : Node → Judged ProgramOf
program_of (list p (more name (more formals (more temporaries (more i is))))) =
    judged p 9 (is_small_program formals temporaries (more i is))
    (Ok (new_program p (place_of formals)) ⊛ named_of name ⊛ list_of named_of formals ⊛ list_of temporary_of temporaries
    ⊛ each_of instruction_of (more i is))
program_of t = fault (place_of t) 3

-- `(NAME WORD ..)` with one word or more, or P2
abbrev pub area_of : Node → Judged AreaOf
area_of (list p (more name (more w ws))) = Ok (new_area p) ⊛ named_of name ⊛ each_of word_of (more w ws)
area_of t = fault (place_of t) 2

-- `(piton MAIN CTRL TEMP BASE (AREA ..) (WORD ..) PROGRAM ..)` with one program or more, or P1; P9 where it is too large
abbrev pub system_of : Node → Judged SystemOf
system_of
    (list p
    (more (atom q bytes)
    (more main (more ctrl (more temp (more base (more (list r areas) (more (list s stack) (more i is))))))))) =
    judged p 1 (bytes_eq bytes (codes "piton") && is_atom_of is_digits ctrl && is_atom_of is_digits temp && is_atom_of is_digits base)
    (judged p 9 (is_small_system areas (more i is))
    (Ok (new_system p) ⊛ named_of main ⊛ number_of ctrl ⊛ number_of temp ⊛ number_of base
    ⊛ each_of area_of areas ⊛ each_of word_of stack ⊛ each_of program_of (more i is)))
system_of t = fault (place_of t) 1
