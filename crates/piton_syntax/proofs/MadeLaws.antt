-- What fits the form keeps it, where its tree is not too large: the tree of each part is judged to be that part but for
-- places, its atoms are runs, and it is shallow.
use Rattle.std.proofs.Common.{◌∙◌, ◌≡◌, ℕ, zero, suc, ◌+◌, ◌<◌, ◌≤◌, ◌^◌, Bool, true, false, leb, List, [], ◌∷◌, length, map, get_or, Option, Some, None, Ok}
use Rattle.std.{proofs.Common.{All, Contains, refl, sym, ap, subst, arith}, specs.Prelude.◌&&◌, specs.Fmt.signed_decimal, proofs.lemmas.Bool.{le-leb, and_from}}
use Rattle.std.proofs.lemmas.List.Elements.{All-head, All-tail}
use Rattle.stack_text.{specs.declared.name.Named.Named, specs.Names.is_name, specs.Numerals.{is_digits, is_numeral, fits_128_bits}, specs.Trees.{depth, depths}}
use Rattle.stack_text.{specs.Trees.{node_count, AtomsAreRuns, AllAtomsAreRuns}, specs.Views.TreeView.nodes, proofs.AtomLaws.{name_is_run, numeral_is_run}}
use Rattle.stack_text.{specs.Grammar.Printed.{name_tree, tree_of_all, unplaced_name}, specs.Grammar.Judged.◌⊛◌, specs.Grammar.Parts.count_of}
use Rattle.stack_text.{proofs.NumeralTextLaws.{natural_written, numeral-signed_decimal}, proofs.MadeLaws.{Made, made_each, made_names, ok, ◌◂◌, passes}}
use Rattle.piton_syntax.{specs.declared.argument.ArgKind.ArgKind, specs.declared.argument.ArgText.ArgText, specs.declared.argument.Arguments.Arguments}
use Rattle.piton_syntax.{specs.declared.argument.Arguments.TheVariants.{Zero, One, TestAndLabel, OneOrMore}, specs.declared.test_kind.TestFamily.TestFamily}
use Rattle.piton_syntax.{specs.declared.test_kind.TestKind.TestKind, specs.declared.word_text.Number.Number, specs.declared.word_text.WordText.WordText}
use Rattle.piton_syntax.{specs.declared.word_text.WordItem.WordItem, specs.PitonReading.KeepsForm, specs.Limits.{is_small_program, is_small_system}}
use Rattle.piton_syntax.{specs.Operations.{op_arguments, tests_of, test_name, test_named}, specs.Grammar.{named_of, number_of, address, program_place, word_of}}
use Rattle.piton_syntax.specs.Grammar.{is_of_kind, are_of_kind, argument_of, one, test_and_label, tested_of, pair, arguments_of, instruction_of, temporary_of}
use Rattle.piton_syntax.{specs.Grammar.{program_of, area_of, system_of}, specs.Printed.{number_tree, truth_tree, item_tree, word_tree, argument_tree}}
use Rattle.piton_syntax.{specs.Printed.{instruction_tree, temporary_tree, program_tree, area_tree, tree_of}, specs.Systems.{InstrOf, ProgramOf, AreaOf}}
use Rattle.piton_syntax.specs.Systems.{SystemOf, new_word, new_program, new_area, new_system, unplaced_number, unplaced_item, unplaced_word, unplaced_argument}
use Rattle.piton_syntax.{specs.Systems.{unplaced_instruction, unplaced_temporary, unplaced_program, unplaced_area, without_places}, specs.Fits.IsSigned}
use Rattle.piton_syntax.specs.Fits.{IsUnsigned, FitsItem, FitsWord, FitsArgument, FitsArguments, FitsLabel, FitsInstruction, FitsTemporary, FitsProgram}
use Rattle.piton_syntax.{specs.Fits.{FitsArea, FitsForm}, proofs.AgainLaws.{named_again, number_again, word_again, truth_again, named_and_numbered}}
use Rattle.piton_syntax.proofs.AgainLaws.{called_again, unlabelled_again, op_run}
use Rattle.piton_syntax.specs.declared.argument.ArgKind.TheVariants as kind
use Rattle.piton_syntax.specs.declared.argument.ArgText.TheVariants as arg
use Rattle.piton_syntax.specs.declared.test_kind.TestFamily.TheVariants as family
use Rattle.piton_syntax.specs.declared.test_kind.TestKind.TheVariants as test
use Rattle.piton_syntax.specs.declared.word_text.WordItem.TheVariants as item

-- ---- numbers and words

record MadeNumber (test : List ℕ → Bool) (n : Number) : Type 0 where
  reads : number_of (number_tree n) ≡ Ok (unplaced_number n)
  runs : AtomsAreRuns (number_tree n)
  is_written : test (signed_decimal n.number) ≡ true
  fits : fits_128_bits n.number ≡ true

made_signed : (n : Number) → IsSigned n → MadeNumber is_numeral n
made_signed n h = let numeral = numeral-signed_decimal n.number h in
    record { reads = number_again n h; runs = numeral_is_run (signed_decimal n.number) numeral; is_written = numeral; fits = h }

made_unsigned : (n : Number) → IsUnsigned n → MadeNumber is_digits n
made_unsigned n h =
    let k = natural_written n.number h in
    record { reads = number_again n k.0; runs = numeral_is_run (signed_decimal n.number) (numeral-signed_decimal n.number k.0); is_written = k.1; fits = k.0 }

truth_runs : (b : Bool) → AtomsAreRuns (truth_tree b)
truth_runs true = (omega arith, refl)
truth_runs false = (omega arith, refl)

truth_low : (b : Bool) → depth (truth_tree b) ≡ 0
truth_low true = refl
truth_low false = refl

record MadeItem (i : WordItem) : Type 0 where
  reads : word_of (item_tree i) ≡ Ok (new_word 0 (unplaced_item i))
  runs : AtomsAreRuns (item_tree i)
  low : depth (item_tree i) ≤ 1

made_item : (i : WordItem) → FitsItem i → MadeItem i
made_item (item.Int n) h =
    let m = made_signed n h in
    record {
      reads = word_again (item.Int (unplaced_number n)) _
          (passes 0 5 (is_numeral (signed_decimal n.number)) _ _ m.is_written (ok item.Int ◂ m.reads));
      runs =
          ((omega arith, refl), (m.runs, tt));
      low = omega arith;
    }
made_item (item.Nat n) h =
    let m = made_unsigned n h in
    record {
      reads = word_again (item.Nat (unplaced_number n)) _
          (passes 0 5 (is_digits (signed_decimal n.number)) _ _ m.is_written (ok item.Nat ◂ m.reads));
      runs =
          ((omega arith, refl), (m.runs, tt));
      low = omega arith;
    }
made_item (item.Bitv n) h =
    let m = made_unsigned n h in
    record {
      reads = word_again (item.Bitv (unplaced_number n)) _
          (passes 0 5 (is_digits (signed_decimal n.number)) _ _ m.is_written (ok item.Bitv ◂ m.reads));
      runs =
          ((omega arith, refl), (m.runs, tt));
      low = omega arith;
    }
made_item (item.Bool b) h = record { reads = truth_again b; runs = ((omega arith, refl), (truth_runs b, tt)); low = omega (arith, truth_low b) }
made_item (item.Addr area n) h =
    let m = made_unsigned n h.1 in
    record {
      reads = word_again (address (unplaced_name area) (unplaced_number n)) _ (named_and_numbered address area n h.0 m.is_written m.fits);
      runs = ((omega arith, refl), (name_is_run area.name h.0, (m.runs, tt)));
      low = omega arith;
    }
made_item (item.Pc program n) h =
    let m = made_unsigned n h.1 in
    record {
      reads = word_again (program_place (unplaced_name program) (unplaced_number n)) _ (named_and_numbered program_place program n h.0 m.is_written m.fits);
      runs = ((omega arith, refl), (name_is_run program.name h.0, (m.runs, tt)));
      low = omega arith;
    }
made_item (item.Subr program) h = record {
  reads = word_again (item.Subr (unplaced_name program)) _
      (passes 0 5 (is_name program.name) _ _ h (ok item.Subr ◂ named_again program h));
  runs = ((omega arith, refl), (name_is_run program.name h, tt));
  low = omega arith;
}

made_word : (w : WordText) → FitsWord w → Made word_of word_tree unplaced_word 1 w
made_word w h = let m = made_item w.item h in record { reads = m.reads; runs = m.runs; low = m.low }

-- ---- arguments

-- a test of a family is the one that has its word
test_of_family : (f : TestFamily) (k : TestKind) → Contains (tests_of f) k → test_named f (test_name k) ≡ Some k
test_of_family f k h = by_index f h.0 h.1 h.2
  where
    by_index : (f : TestFamily) (i : ℕ) → i < length (tests_of f) → get_or (tests_of f) i k ≡ k → test_named f (test_name k) ≡ Some k
    by_index family.Nat zero lt e = subst (λ (j : TestKind). test_named family.Nat (test_name j) ≡ Some j) e refl
    by_index family.Nat (suc zero) lt e = subst (λ (j : TestKind). test_named family.Nat (test_name j) ≡ Some j) e refl
    by_index family.Nat (suc (suc i)) lt e = absurd (omega (arith, lt))
    by_index family.Int zero lt e = subst (λ (j : TestKind). test_named family.Int (test_name j) ≡ Some j) e refl
    by_index family.Int (suc zero) lt e = subst (λ (j : TestKind). test_named family.Int (test_name j) ≡ Some j) e refl
    by_index family.Int (suc (suc zero)) lt e = subst (λ (j : TestKind). test_named family.Int (test_name j) ≡ Some j) e refl
    by_index family.Int (suc (suc (suc zero))) lt e = subst (λ (j : TestKind). test_named family.Int (test_name j) ≡ Some j) e refl
    by_index family.Int (suc (suc (suc (suc zero)))) lt e = subst (λ (j : TestKind). test_named family.Int (test_name j) ≡ Some j) e refl
    by_index family.Int (suc (suc (suc (suc (suc zero))))) lt e = subst (λ (j : TestKind). test_named family.Int (test_name j) ≡ Some j) e refl
    by_index family.Int (suc (suc (suc (suc (suc (suc i)))))) lt e = absurd (omega (arith, lt))
    by_index family.Bool zero lt e = subst (λ (j : TestKind). test_named family.Bool (test_name j) ≡ Some j) e refl
    by_index family.Bool (suc zero) lt e = subst (λ (j : TestKind). test_named family.Bool (test_name j) ≡ Some j) e refl
    by_index family.Bool (suc (suc i)) lt e = absurd (omega (arith, lt))
    by_index family.Bitv zero lt e = subst (λ (j : TestKind). test_named family.Bitv (test_name j) ≡ Some j) e refl
    by_index family.Bitv (suc zero) lt e = subst (λ (j : TestKind). test_named family.Bitv (test_name j) ≡ Some j) e refl
    by_index family.Bitv (suc (suc i)) lt e = absurd (omega (arith, lt))

-- each test has a word that is a name
test_word : (k : TestKind) → is_name (test_name k) ≡ true
test_word test.Zero = refl
test_word test.NotZero = refl
test_word test.Neg = refl
test_word test.NotNeg = refl
test_word test.Pos = refl
test_word test.NotPos = refl
test_word test.T = refl
test_word test.F = refl
test_word test.AllZero = refl
test_word test.NotAllZero = refl

record MadeArgument (k : ArgKind) (a : ArgText) : Type 0 where
  reads : argument_of k (argument_tree a) ≡ Ok (unplaced_argument a)
  is_kind : is_of_kind k (argument_tree a) ≡ true
  runs : AtomsAreRuns (argument_tree a)
  low : depth (argument_tree a) ≤ 1

made_argument : (k : ArgKind) (a : ArgText) → FitsArgument k a → MadeArgument k a
made_argument kind.Word (arg.Word w) h =
    let m = made_word w h in record { reads = ok arg.Word ◂ m.reads; is_kind = refl; runs = m.runs; low = m.low }
made_argument kind.Count (arg.Number n) h = let m = made_unsigned n h in
    record { reads = ok arg.Number ◂ m.reads; is_kind = m.is_written; runs = m.runs; low = omega arith }
made_argument kind.Local (arg.Name n) h =
    record { reads = ok arg.Name ◂ named_again n h; is_kind = h; runs = name_is_run n.name h; low = omega arith }
made_argument kind.Area (arg.Name n) h =
    record { reads = ok arg.Name ◂ named_again n h; is_kind = h; runs = name_is_run n.name h; low = omega arith }
made_argument kind.Label (arg.Name n) h =
    record { reads = ok arg.Name ◂ named_again n h; is_kind = h; runs = name_is_run n.name h; low = omega arith }
made_argument kind.Program (arg.Name n) h =
    record { reads = ok arg.Name ◂ named_again n h; is_kind = h; runs = name_is_run n.name h; low = omega arith }
made_argument k a h = absurd h

are_kind : (k : ArgKind) (xs : List ArgText) → All (FitsArgument k) xs → are_of_kind k (nodes (map argument_tree xs)) ≡ true
are_kind k [] h = refl
are_kind k (x ∷ xs) h = and_from (is_of_kind k (argument_tree x)) _ (made_argument k x (All-head (FitsArgument k) x xs h)).is_kind
    (are_kind k xs (All-tail (FitsArgument k) x xs h))

record MadeArguments (row : Arguments) (xs : List ArgText) : Type 0 where
  reads : arguments_of row 0 (nodes (map argument_tree xs)) ≡ Ok (map unplaced_argument xs)
  runs : AllAtomsAreRuns (nodes (map argument_tree xs))
  low : depths (nodes (map argument_tree xs)) ≤ 1

made_arguments : (row : Arguments) (xs : List ArgText) → FitsArguments row xs → MadeArguments row xs
made_arguments Zero [] h = record { reads = refl; runs = tt; low = omega arith }
made_arguments Zero (x ∷ xs) h = absurd h
made_arguments (One k) [] h = absurd h
made_arguments (One k) (x ∷ []) h =
    let m = made_argument k x h in
    record {
      reads = passes 0 7 (is_of_kind k (argument_tree x)) _ _ m.is_kind (ok one ◂ m.reads);
      runs = (m.runs, tt);
      low = omega (arith, m.low);
    }
made_arguments (One k) (x ∷ y ∷ xs) h = absurd h
made_arguments (TestAndLabel f) (arg.Test k ∷ arg.Name n ∷ []) h =
    let again : test_named f (test_name k) ≡ Some k = test_of_family f k h.0 in
    record {
      reads = ap (λ (o : Option TestKind). tested_of 0 o (name_tree n)) again
          ∙ passes 0 7 (is_name n.name) _ _ h.1 (ok (test_and_label k) ◂ named_again n h.1);
      runs = (name_is_run (test_name k) (test_word k), (name_is_run n.name h.1, tt));
      low = omega arith;
    }
made_arguments (TestAndLabel f) xs h = absurd h
made_arguments (OneOrMore k) [] h = absurd h
made_arguments (OneOrMore k) (x ∷ xs) h =
    let each = made_each (FitsArgument k) (argument_of k) argument_tree unplaced_argument 1
    (λ y f. let m = made_argument k y f in record { reads = m.reads; runs = m.runs; low = m.low }) (x ∷ xs) h in
    record { reads = passes 0 7 (are_of_kind k (nodes (map argument_tree (x ∷ xs)))) _ _ (are_kind k (x ∷ xs) h) each.reads; runs = each.runs; low = each.low }

-- ---- instructions, programs, areas

made_instruction : (i : InstrOf) → FitsInstruction i → Made instruction_of instruction_tree unplaced_instruction 3 i
made_instruction i h = by_label i.label h.label
  where
    args : MadeArguments (op_arguments i.op) i.args
    args = made_arguments (op_arguments i.op) i.args h.args

    by_label : (l : Option Named) → FitsLabel l → Made instruction_of instruction_tree unplaced_instruction 3 (record i { label = l })
    by_label None fits = record {
      reads = unlabelled_again i.op (nodes (map argument_tree i.args)) _ (called_again (Ok None) i.op None _ (map unplaced_argument i.args) refl args.reads);
      runs = (op_run i.op, args.runs);
      low = omega (arith, args.low);
    }
    by_label (Some n) fits = record {
      reads = called_again (Ok Some ⊛ named_of (name_tree n)) i.op (Some (unplaced_name n)) (nodes (map argument_tree i.args))
          (map unplaced_argument i.args) (ok Some ◂ named_again n fits) args.reads;
      runs = ((omega arith, refl), (name_is_run n.name fits, (tt, ((op_run i.op, args.runs), tt))));
      low = omega (arith, args.low);
    }

made_temporary : (t : Named × WordText) → FitsTemporary t → Made temporary_of temporary_tree unplaced_temporary 2 t
made_temporary t h =
    let w = made_word t.1 h.1 in
    record {
      reads = ok pair ◂ named_again t.0 h.0 ◂ w.reads;
      runs = (name_is_run t.0.name h.0, (w.runs, tt));
      low = omega (arith, w.low);
    }

made_program : (p : ProgramOf) → FitsProgram p → Made program_of program_tree unplaced_program 4 p
made_program p h = by_instrs p.instrs h.instrs h.some_instrs h.few_instrs
  where
    by_instrs : (is : List InstrOf) → All FitsInstruction is → 0 < length is → length is ≤ 1048576
        → Made program_of program_tree unplaced_program 4 (record p { instrs = is })
    by_instrs [] fits some_ few = absurd (omega (arith, some_))
    by_instrs (i ∷ is) fits some_ few =
        let formals = made_names 4 p.formals h.formals in
        let temporaries = made_each FitsTemporary temporary_of temporary_tree unplaced_temporary 2 made_temporary p.temporaries h.temporaries in
        let instrs = made_each FitsInstruction instruction_of instruction_tree unplaced_instruction 3 made_instruction (i ∷ is) fits in
        let formals_tree = tree_of_all (map name_tree p.formals) in
        let temporaries_tree = tree_of_all (map temporary_tree p.temporaries) in
        let locals : count_of (nodes (map name_tree p.formals)) + count_of (nodes (map temporary_tree p.temporaries)) ≤ 400 =
        omega (arith, h.few_locals, formals.count, temporaries.count) in
        let count : count_of (nodes (map instruction_tree (i ∷ is))) ≤ 1048576 = subst (λ (n : ℕ). n ≤ 1048576) (sym instrs.count) few in
        let small : is_small_program formals_tree temporaries_tree (nodes (map instruction_tree (i ∷ is))) ≡ true =
        and_from (leb (count_of (nodes (map name_tree p.formals)) + count_of (nodes (map temporary_tree p.temporaries))) 400) _ (le-leb _ 400 locals)
        (le-leb _ 1048576 count) in
        record {
          reads = passes 0 9 (is_small_program formals_tree temporaries_tree (nodes (map instruction_tree (i ∷ is)))) _ _ small
              (ok (new_program 0 0) ◂ named_again p.name h.name ◂ formals.reads ◂ temporaries.reads ◂ instrs.reads);
          runs = (name_is_run p.name.name h.name, (formals.runs, (temporaries.runs, instrs.runs)));
          low = omega (arith, formals.low, temporaries.low, instrs.low);
        }

made_area : (a : AreaOf) → FitsArea a → Made area_of area_tree unplaced_area 2 a
made_area a h = by_words a.words h.words h.some_words
  where
    by_words : (ws : List WordText) → All FitsWord ws → 0 < length ws → Made area_of area_tree unplaced_area 2 (record a { words = ws })
    by_words [] fits some_ = absurd (omega (arith, some_))
    by_words (w ∷ ws) fits some_ =
        let words = made_each FitsWord word_of word_tree unplaced_word 1 made_word (w ∷ ws) fits in
        record {
          reads = ok (new_area 0) ◂ named_again a.name h.name ◂ words.reads;
          runs = (name_is_run a.name.name h.name, words.runs);
          low = omega (arith, words.low);
        }

made_system : (s : SystemOf) → FitsForm s → Made system_of tree_of without_places 6 s
made_system s h = by_programs s.programs h.programs h.some_programs h.few_programs
  where
    by_programs : (ps : List ProgramOf) → All FitsProgram ps → 0 < length ps → length ps ≤ 1100
        → Made system_of tree_of without_places 6 (record s { programs = ps })
    by_programs [] fits some_ few = absurd (omega (arith, some_))
    by_programs (p ∷ ps) fits some_ few =
        let ctrl = made_unsigned s.ctrl h.ctrl in
        let temp = made_unsigned s.temp h.temp in
        let base = made_unsigned s.base h.base in
        let areas = made_each FitsArea area_of area_tree unplaced_area 2 made_area s.areas h.areas in
        let stack = made_each FitsWord word_of word_tree unplaced_word 1 made_word s.stack h.stack in
        let programs = made_each FitsProgram program_of program_tree unplaced_program 4 made_program (p ∷ ps) fits in
        let area_count : count_of (nodes (map area_tree s.areas)) ≤ 1000 = subst (λ (n : ℕ). n ≤ 1000) (sym areas.count) h.few_areas in
        let program_count : count_of (nodes (map program_tree (p ∷ ps))) ≤ 1100 = subst (λ (n : ℕ). n ≤ 1100) (sym programs.count) few in
        let small : is_small_system (nodes (map area_tree s.areas)) (nodes (map program_tree (p ∷ ps))) ≡ true =
        and_from (leb (count_of (nodes (map area_tree s.areas))) 1000) _ (le-leb _ 1000 area_count) (le-leb _ 1100 program_count) in
        let numbers : (is_digits (signed_decimal s.ctrl.number) && is_digits (signed_decimal s.temp.number) && is_digits (signed_decimal s.base.number))
        ≡ true =
        rw (ctrl.is_written, temp.is_written, base.is_written) refl in
        record {
          reads = passes 0 1 (is_digits (signed_decimal s.ctrl.number) && is_digits (signed_decimal s.temp.number)
              && is_digits (signed_decimal s.base.number)) _ _ numbers
              (passes 0 9 (is_small_system (nodes (map area_tree s.areas)) (nodes (map program_tree (p ∷ ps)))) _ _ small
              (ok (new_system 0) ◂ named_again s.main h.main ◂ ctrl.reads ◂ temp.reads ◂ base.reads ◂ areas.reads ◂ stack.reads ◂ programs.reads));
          runs = ((omega arith, refl), (name_is_run s.main.name h.main, (ctrl.runs, (temp.runs, (base.runs, (areas.runs, (stack.runs, programs.runs)))))));
          low = omega (arith, areas.low, stack.low, programs.low);
        }

-- what fits the form keeps it
pub fits_keeps : (s : SystemOf) → FitsForm s → node_count (tree_of s) ≤ 2 ^ 31 → KeepsForm s
fits_keeps s h few = let m = made_system s h in record { well_formed = record { atoms = m.runs; shallow = omega (arith, m.low); few = few }; reads = m.reads }
