-- Closed sources: the text of their generated procedures, line by line.
use Rattle.std.specs.Prelude.{◌≡◌, ℕ, pos, List, [], ◌∷◌, ◌++◌, map, Option, Some, None, codes}
use Rattle.stack_text.specs.{declared.name.Named.{Named}, declared.shape.Kind.TheVariants.{Integer}, Grammar.Printed.{unplaced}}
use Rattle.piton_syntax.specs.declared.op.PitonOp.TheVariants as op
use Rattle.piton_syntax.specs.declared.test_kind.TestKind.TheVariants as test
use Rattle.piton_syntax.specs.{declared.argument.ArgText.{ArgText}, Systems.{InstrOf}}
use Rattle.piton_syntax.specs.declared.argument.ArgText.TheVariants as arg
use Rattle.piton_syntax.specs.declared.word_text.WordItem.TheVariants as item
use Rattle.gypsy_syntax.specs.{declared.literal.Decl.{Decl}, Sources.{StmtOf, loop, signal, begin, call, predef, variable, constant}}
use Rattle.gypsy_syntax.specs.Sources.{integer, ProcOf, SourceOf}
use Rattle.gypsy_syntax.specs.declared.predef.Predef.TheVariants as row
use Rattle.gypsy_predef.specs.Texts.{instruction, of_name, condition_area, number}
use Rattle.gypsy_predef.specs.Texts as predefined
use Rattle.gypsy_codegen.specs.Text.{written_procedures}

-- the lines of each procedure
abbrev pub lines_of_text : SourceOf → List (List InstrOf)
lines_of_text s = map (λ p. p.instrs) (written_procedures s 0 s.procs)

abbrev pub label : List ℕ → Option Named
label l = Some (unplaced l)

-- a condition's number, pushed and put into `c-c`
abbrev pub natural_at : Option Named → ℕ → InstrOf
natural_at l n = predefined.constant l (item.Nat (number (pos n)))

abbrev pub into_area : InstrOf
into_area = of_name op.PopGlobal condition_area

abbrev pub jump_to : List ℕ → InstrOf
jump_to l = of_name op.Jump l

abbrev pub name_arg : List ℕ → ArgText
name_arg l = arg.Name (unplaced l)

abbrev pub procedure_text : List ℕ → List Decl → List Named → List Named → StmtOf → ProcOf
procedure_text name formals conds local_conds body = record {
  place = 0;
  name = unplaced name;
  formals = formals;
  conds = conds;
  locals = [];
  local_conds = local_conds;
  body = body;
}

-- (proc main () () () () (loop (signal leave)))
abbrev pub leaving_source : SourceOf
leaving_source = record {
  place = 0;
  main = unplaced (codes "main");
  procs = procedure_text (codes "main") [] [] [] (loop 0 (signal 0 (unplaced (codes "leave")))) ∷ [];
}

abbrev pub leaving_lines : List InstrOf
leaving_lines =
    instruction (label (codes "L2")) op.NoOp [] ∷
    natural_at None 0 ∷ into_area ∷ jump_to (codes "L3") ∷
    jump_to (codes "L2") ∷ natural_at (label (codes "L3")) 2 ∷ into_area ∷
    jump_to (codes "L1") ∷ natural_at (label (codes "L0")) 1 ∷ into_area ∷ instruction (label (codes "L1")) op.Ret [] ∷ []

-- (proc main ((x integer)) () () (oops) (begin (call p () (oops)) (oops) (mg-simple-constant-assignment x 5)))
-- (proc p () (bad) () () (signal bad))
abbrev pub passing_on : SourceOf
passing_on = record {
  place = 0;
  main = unplaced (codes "main");
  procs =
      procedure_text (codes "main")
      (record { name = unplaced (codes "x"); shape = record { place = 0; kind = Integer; length = None } } ∷ []) []
      (unplaced (codes "oops") ∷ [])
      (begin 0 (call 0 (unplaced (codes "p")) 0 [] 0 (unplaced (codes "oops") ∷ [])) (unplaced (codes "oops") ∷ [])
      (predef 0 row.MgSimpleConstantAssignment (variable (unplaced (codes "x")) ∷ constant (integer 0 (pos 5)) ∷ []))) ∷
      procedure_text (codes "p") [] (unplaced (codes "bad") ∷ []) [] (signal 0 (unplaced (codes "bad"))) ∷ [];
}

-- fewer words than this free, to a label
abbrev pub below_lines : ℕ → List ℕ → List InstrOf
below_lines need l =
    natural_at None need ∷ instruction None op.LtNat [] ∷
    instruction None op.TestBoolAndJump (arg.Test test.T ∷ name_arg l ∷ []) ∷ []

-- the guard of a call that needs so many words of the temporary stack and so many of the control stack
abbrev pub guard_lines : ℕ → ℕ → List ℕ → List InstrOf
guard_lines temp ctrl l =
    instruction None op.PushTempStkFreeSize [] ∷ (below_lines temp l ++ instruction None op.PushCtrlStkFreeSize [] ∷ below_lines ctrl l)

abbrev pub passing_on_lines : List (List InstrOf)
passing_on_lines =
    (guard_lines 1 2 (codes "L6") ++
    of_name op.Call (codes "p") ∷ instruction None op.PopStar (arg.Number (number (pos 0)) ∷ []) ∷ of_name op.PushGlobal condition_area ∷
    instruction None op.JumpCase
    (name_arg (codes "L4") ∷ name_arg (codes "L4") ∷ name_arg (codes "L5") ∷ name_arg (codes "L6") ∷ name_arg (codes "L7") ∷ []) ∷
    natural_at (label (codes "L4")) 1 ∷ into_area ∷ jump_to (codes "L0") ∷
    natural_at (label (codes "L6")) 3 ∷ into_area ∷ jump_to (codes "L1") ∷
    natural_at (label (codes "L7")) 4 ∷ into_area ∷ jump_to (codes "L2") ∷
    instruction (label (codes "L5")) op.NoOp [] ∷
    jump_to (codes "L3") ∷ natural_at (label (codes "L2")) 2 ∷ into_area ∷
    of_name op.PushLocal (codes "x") ∷ predefined.constant None (item.Int (number (pos 5))) ∷
    of_name op.Call (codes "mg-simple-constant-assignment") ∷ instruction (label (codes "L3")) op.NoOp [] ∷
    jump_to (codes "L1") ∷ natural_at (label (codes "L0")) 1 ∷ into_area ∷ instruction (label (codes "L1")) op.Ret [] ∷ []) ∷
    (natural_at None 4 ∷ into_area ∷ jump_to (codes "L1") ∷
    jump_to (codes "L1") ∷ natural_at (label (codes "L0")) 1 ∷ into_area ∷ instruction (label (codes "L1")) op.Ret [] ∷ []) ∷ []

pub record TextsAre : Type 0 where
  pub of_leaving : lines_of_text leaving_source ≡ leaving_lines ∷ []
  pub of_passing_on : lines_of_text passing_on ≡ passing_on_lines
