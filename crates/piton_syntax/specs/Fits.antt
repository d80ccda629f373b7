-- The form of a system in plain words: names are names, arguments are those of the operation's row, what must not be empty
-- isn't, numbers have a sign only where they may, and all counts are within the limits.
use Rattle.std.specs.Prelude.{◌+◌, ◌<◌, ◌≤◌, List, [], ◌∷◌, length, Option, Some, None, All, Contains}
use Rattle.piton_syntax.specs.Limits.{most_instructions, most_areas, most_programs, most_program_variables}
use Rattle.piton_syntax.specs.{declared.argument.ArgKind.{ArgKind}, declared.argument.ArgText.{ArgText}}
use Rattle.piton_syntax.specs.{declared.argument.Arguments.{Arguments}, declared.argument.Arguments.TheVariants.{Zero, One, TestAndLabel}}
use Rattle.piton_syntax.specs.{declared.argument.Arguments.TheVariants.{OneOrMore}, declared.word_text.Number.{Number}}
use Rattle.piton_syntax.specs.{declared.word_text.WordText.{WordText}, declared.word_text.WordItem.{WordItem}, Operations.{op_arguments}}
use Rattle.piton_syntax.specs.{Operations.{tests_of}, Systems.{InstrOf, ProgramOf, AreaOf, SystemOf}}
use Rattle.stack_text.specs.{Grammar.Parts.{IsNamed}, Numerals.{IsNatural, IsNumber}, declared.name.Named.{Named}}
use Rattle.piton_syntax.specs.declared.argument.ArgKind.TheVariants as kind
use Rattle.piton_syntax.specs.declared.argument.ArgText.TheVariants as arg
use Rattle.piton_syntax.specs.declared.word_text.WordItem.TheVariants as item

-- a number of 128 bits, with or without a sign
abbrev pub IsSigned : Number → Type 0
IsSigned n = IsNumber n.number

-- a number of 128 bits without a sign
abbrev pub IsUnsigned : Number → Type 0
IsUnsigned n = IsNatural n.number

abbrev pub FitsItem : WordItem → Type 0
FitsItem (item.Int n) = IsSigned n
FitsItem (item.Nat n) = IsUnsigned n
FitsItem (item.Bitv n) = IsUnsigned n
FitsItem (item.Bool truth) = Unit {0}
FitsItem (item.Addr area offset) = IsNamed area × IsUnsigned offset
FitsItem (item.Pc program number) = IsNamed program × IsUnsigned number
FitsItem (item.Subr program) = IsNamed program

abbrev pub FitsWord : WordText → Type 0
FitsWord w = FitsItem w.item

-- an argument is of its kind
abbrev pub FitsArgument : ArgKind → ArgText → Type 0
FitsArgument kind.Word (arg.Word w) = FitsWord w
FitsArgument kind.Count (arg.Number n) = IsUnsigned n
FitsArgument kind.Local (arg.Name n) = IsNamed n
FitsArgument kind.Area (arg.Name n) = IsNamed n
FitsArgument kind.Label (arg.Name n) = IsNamed n
FitsArgument kind.Program (arg.Name n) = IsNamed n
FitsArgument k a = ⊥

-- the arguments are as many as the row has, each of its kind
abbrev pub FitsArguments : Arguments → List ArgText → Type 0
FitsArguments Zero [] = Unit {0}
FitsArguments (One k) (a ∷ []) = FitsArgument k a
FitsArguments (TestAndLabel family) (arg.Test test ∷ arg.Name label ∷ []) = Contains (tests_of family) test × IsNamed label
FitsArguments (OneOrMore k) (a ∷ others) = All (FitsArgument k) (a ∷ others)
FitsArguments row args = ⊥

abbrev pub FitsLabel : Option Named → Type 0
FitsLabel None = Unit {0}
FitsLabel (Some n) = IsNamed n

pub record FitsInstruction (i : InstrOf) : Type 0 where
  pub label : FitsLabel i.label
  pub args : FitsArguments (op_arguments i.op) i.args

abbrev pub FitsTemporary : Named × WordText → Type 0
FitsTemporary t = IsNamed t.0 × FitsWord t.1

pub record FitsProgram (p : ProgramOf) : Type 0 where
  pub name : IsNamed p.name
  pub formals : All IsNamed p.formals
  pub temporaries : All FitsTemporary p.temporaries
  pub instrs : All FitsInstruction p.instrs
  pub few_locals : length p.formals + length p.temporaries ≤ most_program_variables
  pub some_instrs : 0 < length p.instrs
  pub few_instrs : length p.instrs ≤ most_instructions

pub record FitsArea (a : AreaOf) : Type 0 where
  pub name : IsNamed a.name
  pub words : All FitsWord a.words
  pub some_words : 0 < length a.words

pub record FitsForm (s : SystemOf) : Type 0 where
  pub main : IsNamed s.main
  pub ctrl : IsUnsigned s.ctrl
  pub temp : IsUnsigned s.temp
  pub base : IsUnsigned s.base
  pub areas : All FitsArea s.areas
  pub stack : All FitsWord s.stack
  pub programs : All FitsProgram s.programs
  pub few_areas : length s.areas ≤ most_areas
  pub some_programs : 0 < length s.programs
  pub few_programs : length s.programs ≤ most_programs
