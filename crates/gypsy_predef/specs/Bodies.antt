-- The predefined procedures as programs of Piton: the instructions that their lines are, with offsets and places in place of names.
use Rattle.std.specs.{Prelude.{ℕ, pos, List, [], ◌∷◌, map, length}, List.{flat_map}, Option.{unwrap_or}}
use Rattle.piton_words.specs.{declared.word.Word.{Word}, declared.word.Word.TheVariants.{Int, Nat, Bool as Truth}}
use Rattle.piton_words.specs.declared.op.WordOp.TheVariants as op
use Rattle.piton_syntax.specs.declared.test_kind.TestFamily.TheVariants as family
use Rattle.piton_syntax.specs.declared.test_kind.TestKind.TheVariants as test
use Rattle.piton_syntax.specs.Systems.{ProgramOf}
use Rattle.piton_check.specs.declared.resolved.ResolvedArg.TheVariants as arg
use Rattle.piton_check.specs.{Declarations.{first_of, local_names, label_names}, Instruction.{Instruction, ProgramView, PushConstant}}
use Rattle.piton_check.specs.Instruction.{PushLocal, PopLocal, PopGlobal, FetchTempStk, DepositTempStk, NoOp, Jump, TestAndJump, Ret, Apply}
use Rattle.piton_check.specs.Instruction.{instruction_of}
use Rattle.gypsy_syntax.specs.{declared.predef.Predef.{Predef}, Predefined.{predefs}}
use Rattle.gypsy_syntax.specs.declared.predef.Predef.TheVariants as row
use Rattle.gypsy_predef.specs.{declared.line.Local.{Local}, declared.line.Label.{Label}, declared.line.Temporary.{Temporary}}
use Rattle.gypsy_predef.specs.{declared.line.Line.{Line}, Texts.{local_name, label_name, fail_label, formals_of, temporary_locals}}
use Rattle.gypsy_predef.specs.Texts.{lines_of, body_text}
use Rattle.gypsy_predef.specs.declared.line.Local.TheVariants as local
use Rattle.gypsy_predef.specs.declared.line.Temporary.TheVariants as temporary
use Rattle.gypsy_predef.specs.declared.line.Line.TheVariants as line

module _ (p : ProgramOf) where
  -- where a local lies in the frame, and the place of a label: 0 for a name that the text does not declare
  abbrev pub offset : Local → ℕ
  offset x = unwrap_or (first_of (local_names p) (local_name x)) 0

  abbrev pub place : Label → ℕ
  place l = unwrap_or (first_of (label_names p) (label_name l)) 0

  -- the place of `fail`
  abbrev pub fail_place : ℕ
  fail_place = unwrap_or (first_of (label_names p) fail_label) 0

  -- the instructions of a line of the text
  abbrev pub line_code : Line → List Instruction
  line_code (line.Get x) = PushLocal (offset x) ∷ FetchTempStk ∷ []
  line_code (line.Put d) = PushLocal (offset d) ∷ DepositTempStk ∷ []
  line_code (line.Local o x) = instruction_of o (arg.Local (offset x) ∷ []) ∷ []
  line_code (line.Plain o) = instruction_of o [] ∷ []
  line_code (line.Truth b) = PushConstant (Truth b) ∷ []
  line_code (line.Integer z) = PushConstant (Int z) ∷ []
  line_code (line.Test o k) = instruction_of o (arg.Test k ∷ arg.Place fail_place ∷ []) ∷ []
  line_code (line.TruthAt l b) = PushConstant (Truth b) ∷ []
  line_code (line.At l o) = instruction_of o [] ∷ []
  line_code (line.Branch o k l) = instruction_of o (arg.Test k ∷ arg.Place (place l) ∷ []) ∷ []
  line_code (line.Choose l end) =
      PushLocal (offset local.Y) ∷ TestAndJump family.Int test.Neg (place l) ∷ PushLocal (offset local.Z) ∷ Jump (place end) ∷
      NoOp ∷ PushLocal (offset local.X) ∷ []
  line_code line.Note = PushLocal (offset local.O) ∷ Apply op.OrBool ∷ PopLocal (offset local.O) ∷ []
  line_code line.Fail = PushConstant (Nat 1) ∷ PopGlobal 0 ∷ Ret ∷ []

-- the word that a temporary holds at first
abbrev pub temporary_word : Temporary → Word
temporary_word (temporary.Int x z) = Int z
temporary_word (temporary.Nat x (pos n)) = Nat n
temporary_word (temporary.Nat x z) = Nat 0
temporary_word (temporary.Bool x b) = Truth b

abbrev pub body_of : Predef → ProgramView
body_of r = record {
  formals = length (formals_of r);
  temporaries = map temporary_word (temporary_locals r);
  instructions = flat_map (line_code (body_text r)) (lines_of r);
}

-- how many lengths a call of a row pushes last: one for an array among its arguments
abbrev pub lengths_of : Predef → ℕ
lengths_of row.MgIndexArray = 1
lengths_of row.MgArrayElementAssignment = 1
lengths_of r = 0

-- all programs, in the order of the table
abbrev pub bodies : List ProgramView
bodies = map body_of predefs
