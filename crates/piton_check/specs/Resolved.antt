-- A system with each name replaced by the position of its first declaration. Where a name or a number means nothing, as
-- none does in a checked system, 0 or false is in its place.
use Rattle.std.specs.Prelude.{ℕ, ℤ, List, map, length, unwrap_or, false}
use Rattle.piton_words.specs.declared.word.Word.{Word}
use Rattle.piton_words.specs.declared.word.Word.TheVariants as word
use Rattle.stack_text.specs.declared.name.Named.{Named}
use Rattle.piton_syntax.specs.{declared.argument.ArgKind.{ArgKind}, declared.argument.ArgText.{ArgText}, declared.op.PitonOp.{PitonOp}}
use Rattle.piton_syntax.specs.{declared.word_text.WordText.{WordText}, Operations.{op_arguments}, Systems.{InstrOf, ProgramOf, AreaOf}}
use Rattle.piton_syntax.specs.Systems.{SystemOf}
use Rattle.piton_syntax.specs.declared.argument.ArgText.TheVariants as text
use Rattle.piton_check.specs.{declared.resolved.ResolvedArg.{ResolvedArg}, Declarations.{program_names, first_of}, Meaning.{word_of}}
use Rattle.piton_check.specs.Meaning.{name_kind, name_of, count_of}
use Rattle.piton_check.specs.declared.resolved.ResolvedArg.TheVariants as arg
use Rattle.fm_words.specs.Word.{unsigned_32}

pub record ResolvedInstrOf : Type 0 where
  pub op : PitonOp
  pub args : List ResolvedArg

pub record ResolvedProgramOf : Type 0 where
  pub formals : ℕ
  pub temporaries : List Word
  pub instrs : List ResolvedInstrOf

pub record ResolvedOf : Type 0 where
  pub main : ℕ
  pub ctrl : ℕ
  pub temp : ℕ
  pub base : ℕ
  pub areas : List (List Word)
  pub stack : List Word
  pub programs : List ResolvedProgramOf

abbrev pub resolved_word : SystemOf → WordText → Word
resolved_word s w = unwrap_or (word_of s w.item) (word.Bool false)

abbrev pub resolved_temporary : SystemOf → Named × WordText → Word
resolved_temporary s t = resolved_word s t.1

abbrev pub resolved_area : SystemOf → AreaOf → List Word
resolved_area s a = map (resolved_word s) a.words

-- an argument of an operation whose names are of the kind
abbrev pub resolved_argument : SystemOf → ProgramOf → ArgKind → ArgText → ResolvedArg
resolved_argument s p k (text.Name n) = unwrap_or (name_of s p k n.name) (arg.Number 0)
resolved_argument s p k (text.Number n) = arg.Number (unwrap_or (count_of n.number) 0)
resolved_argument s p k (text.Word w) = arg.Word (resolved_word s w)
resolved_argument s p k (text.Test t) = arg.Test t

abbrev pub resolved_instruction : SystemOf → ProgramOf → InstrOf → ResolvedInstrOf
resolved_instruction s p i = record { op = i.op; args = map (resolved_argument s p (name_kind (op_arguments i.op))) i.args }

abbrev pub resolved_program : SystemOf → ProgramOf → ResolvedProgramOf
resolved_program s p = record {
  formals = length p.formals;
  temporaries = map (resolved_temporary s) p.temporaries;
  instrs = map (resolved_instruction s p) p.instrs;
}

abbrev pub resolved_number : ℤ → ℕ
resolved_number number = unwrap_or (unsigned_32 number) 0

abbrev pub resolved : SystemOf → ResolvedOf
resolved s = record {
  main = unwrap_or (first_of (program_names s) s.main.name) 0;
  ctrl = resolved_number s.ctrl.number;
  temp = resolved_number s.temp.number;
  base = resolved_number s.base.number;
  areas = map (resolved_area s) s.areas;
  stack = map (resolved_word s) s.stack;
  programs = map (resolved_program s) s.programs;
}
