-- What keeps the form fits it in plain words, since the tree that it is printed as is read so, and places don't count.
use Rattle.std.{proofs.Common.{List, [], ◌∷◌, map, Option, Some, None, arith}, specs.Prelude.option_map, proofs.lemmas.List.length-map}
use Rattle.stack_text.{specs.declared.name.Named.Named, specs.Grammar.Printed.unplaced_name, proofs.FitsLaws.{all_under, placed_names}}
use Rattle.stack_text.{proofs.KeepsLaws.holds_at, proofs.WalkLaws.Fitted}
use Rattle.piton_syntax.{proofs.WalkLaws.system_part, specs.declared.argument.ArgKind.ArgKind, specs.declared.argument.ArgText.ArgText}
use Rattle.piton_syntax.{specs.declared.argument.Arguments.Arguments, specs.declared.argument.Arguments.TheVariants.{Zero, One, TestAndLabel, OneOrMore}}
use Rattle.piton_syntax.{specs.declared.word_text.WordText.WordText, specs.declared.word_text.WordItem.WordItem, specs.PitonReading.KeepsForm}
use Rattle.piton_syntax.{specs.Operations.op_arguments, specs.Grammar.system_of, specs.Systems.{InstrOf, ProgramOf, AreaOf, SystemOf, unplaced_item}}
use Rattle.piton_syntax.specs.Systems.{unplaced_word, unplaced_argument, unplaced_instruction, unplaced_temporary, unplaced_program, unplaced_area}
use Rattle.piton_syntax.{specs.Systems.without_places, specs.Printed.tree_of, specs.Fits.{FitsItem, FitsWord, FitsArgument, FitsArguments, FitsLabel}}
use Rattle.piton_syntax.specs.Fits.{FitsInstruction, FitsTemporary, FitsProgram, FitsArea, FitsForm}
use Rattle.piton_syntax.specs.declared.argument.ArgKind.TheVariants as kind
use Rattle.piton_syntax.specs.declared.argument.ArgText.TheVariants as arg
use Rattle.piton_syntax.specs.declared.word_text.WordItem.TheVariants as item

placed_word : (w : WordText) → FitsWord (unplaced_word w) → FitsWord w
placed_word w h = by_item w.item h
  where
    by_item : (i : WordItem) → FitsItem (unplaced_item i) → FitsItem i
    by_item (item.Int n) h = h
    by_item (item.Nat n) h = h
    by_item (item.Bitv n) h = h
    by_item (item.Bool b) h = h
    by_item (item.Addr area n) h = h
    by_item (item.Pc program n) h = h
    by_item (item.Subr program) h = h

placed_argument : (k : ArgKind) (a : ArgText) → FitsArgument k (unplaced_argument a) → FitsArgument k a
placed_argument kind.Word (arg.Word w) h = placed_word w h
placed_argument kind.Word (arg.Name n) h = h
placed_argument kind.Word (arg.Number n) h = h
placed_argument kind.Word (arg.Test t) h = h
placed_argument kind.Count (arg.Word w) h = h
placed_argument kind.Count (arg.Name n) h = h
placed_argument kind.Count (arg.Number n) h = h
placed_argument kind.Count (arg.Test t) h = h
placed_argument kind.Local (arg.Word w) h = h
placed_argument kind.Local (arg.Name n) h = h
placed_argument kind.Local (arg.Number n) h = h
placed_argument kind.Local (arg.Test t) h = h
placed_argument kind.Area (arg.Word w) h = h
placed_argument kind.Area (arg.Name n) h = h
placed_argument kind.Area (arg.Number n) h = h
placed_argument kind.Area (arg.Test t) h = h
placed_argument kind.Label (arg.Word w) h = h
placed_argument kind.Label (arg.Name n) h = h
placed_argument kind.Label (arg.Number n) h = h
placed_argument kind.Label (arg.Test t) h = h
placed_argument kind.Program (arg.Word w) h = h
placed_argument kind.Program (arg.Name n) h = h
placed_argument kind.Program (arg.Number n) h = h
placed_argument kind.Program (arg.Test t) h = h

placed_arguments : (row : Arguments) (args : List ArgText) → FitsArguments row (map unplaced_argument args) → FitsArguments row args
placed_arguments Zero [] h = h
placed_arguments Zero (a ∷ args) h = h
placed_arguments (One k) [] h = h
placed_arguments (One k) (a ∷ []) h = placed_argument k a h
placed_arguments (One k) (a ∷ b ∷ args) h = h
placed_arguments (TestAndLabel f) [] h = h
placed_arguments (TestAndLabel f) (arg.Name n ∷ []) h = h
placed_arguments (TestAndLabel f) (arg.Number n ∷ []) h = h
placed_arguments (TestAndLabel f) (arg.Word w ∷ []) h = h
placed_arguments (TestAndLabel f) (arg.Test k ∷ []) h = h
placed_arguments (TestAndLabel f) (arg.Test k ∷ arg.Name n ∷ []) h = h
placed_arguments (TestAndLabel f) (arg.Test k ∷ arg.Number n ∷ []) h = h
placed_arguments (TestAndLabel f) (arg.Test k ∷ arg.Word w ∷ []) h = h
placed_arguments (TestAndLabel f) (arg.Test k ∷ arg.Test l ∷ []) h = h
placed_arguments (TestAndLabel f) (arg.Test k ∷ arg.Name n ∷ c ∷ args) h = h
placed_arguments (TestAndLabel f) (arg.Test k ∷ arg.Number n ∷ c ∷ args) h = h
placed_arguments (TestAndLabel f) (arg.Test k ∷ arg.Word w ∷ c ∷ args) h = h
placed_arguments (TestAndLabel f) (arg.Test k ∷ arg.Test l ∷ c ∷ args) h = h
placed_arguments (TestAndLabel f) (arg.Name n ∷ b ∷ args) h = h
placed_arguments (TestAndLabel f) (arg.Number n ∷ b ∷ args) h = h
placed_arguments (TestAndLabel f) (arg.Word w ∷ b ∷ args) h = h
placed_arguments (OneOrMore k) [] h = h
placed_arguments (OneOrMore k) (a ∷ args) h = all_under (FitsArgument k) unplaced_argument (placed_argument k) (a ∷ args) h

placed_instruction : (i : InstrOf) → FitsInstruction (unplaced_instruction i) → FitsInstruction i
placed_instruction i h = record { label = by_label i.label h.label; args = placed_arguments (op_arguments i.op) i.args h.args }
  where
    by_label : (l : Option Named) → FitsLabel (option_map unplaced_name l) → FitsLabel l
    by_label None h = h
    by_label (Some n) h = h

placed_temporary : (t : Named × WordText) → FitsTemporary (unplaced_temporary t) → FitsTemporary t
placed_temporary t h = (h.0, placed_word t.1 h.1)

placed_program : (p : ProgramOf) → FitsProgram (unplaced_program p) → FitsProgram p
placed_program p h = record {
  name = h.name;
  formals = placed_names p.formals h.formals;
  temporaries = all_under FitsTemporary unplaced_temporary placed_temporary p.temporaries h.temporaries;
  instrs = all_under FitsInstruction unplaced_instruction placed_instruction p.instrs h.instrs;
  few_locals = omega (arith, h.few_locals, length-map p.formals unplaced_name, length-map p.temporaries unplaced_temporary);
  some_instrs = omega (arith, h.some_instrs, length-map p.instrs unplaced_instruction);
  few_instrs = omega (arith, h.few_instrs, length-map p.instrs unplaced_instruction);
}

placed_area : (a : AreaOf) → FitsArea (unplaced_area a) → FitsArea a
placed_area a h = record {
  name = h.name;
  words = all_under FitsWord unplaced_word placed_word a.words h.words;
  some_words = omega (arith, h.some_words, length-map a.words unplaced_word);
}

placed_system : (s : SystemOf) → FitsForm (without_places s) → FitsForm s
placed_system s h = record {
  main = h.main;
  ctrl = h.ctrl;
  temp = h.temp;
  base = h.base;
  areas = all_under FitsArea unplaced_area placed_area s.areas h.areas;
  stack = all_under FitsWord unplaced_word placed_word s.stack h.stack;
  programs = all_under FitsProgram unplaced_program placed_program s.programs h.programs;
  few_areas = omega (arith, h.few_areas, length-map s.areas unplaced_area);
  some_programs = omega (arith, h.some_programs, length-map s.programs unplaced_program);
  few_programs = omega (arith, h.few_programs, length-map s.programs unplaced_program);
}

-- what keeps the form fits it
pub keeps_fits : (s : SystemOf) → KeepsForm s → FitsForm s
keeps_fits s h =
    let read = holds_at (Fitted FitsForm tree_of (tree_of s)) (system_of (tree_of s)) (without_places s) (system_part (tree_of s)).holds h.reads in
    placed_system s read.fits
