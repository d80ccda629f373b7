-- The program of a procedure.
use Rattle.std.proofs.Common.{◌≡◌, ℕ, ◌+◌, ◌<◌, ◌≤◌, ◌^◌, List, [], ◌∷◌, ◌++◌, map, length, slice_get, All, Bool, true, false, cond, Some, refl, sym, ap, subst}
use Rattle.std.{proofs.Common.{◌∙◌, arith, length-append, flat_map}, specs.Prelude.{IsTrue, ◌==◌}, proofs.lemmas.List.{length-map, append-nil}}
use Rattle.std.proofs.lemmas.List.Elements.{All-nil}
use Rattle.stack_text.{specs.declared.shape.Shape.Shape, specs.Values.item_count, specs.Names.is_name, specs.Grammar.Parts.IsNamed}
use Rattle.stack_text.specs.Grammar.Printed.{unplaced}
use Rattle.piton_words.{specs.declared.word.Word.Word, specs.declared.word.Word.TheVariants.Nat}
use Rattle.piton_syntax.{specs.Systems.SystemOf, specs.Fits.FitsTemporary}
use Rattle.piton_check.{specs.Declarations.{formal_name, temporary_name}, specs.Violations.temporary_breaches, specs.Resolved.resolved_temporary}
use Rattle.piton_check.specs.Instruction as i
use Rattle.gypsy_syntax.{specs.Sources.{ProcOf, SourceOf}, specs.Predefined.predefs, specs.Programs.{Program, no_proc, proc_at, body_of, shapes_of, conds_of}}
use Rattle.gypsy_syntax.{specs.Programs.words_of, specs.Resolved.{shape_of, local_value, procedure_of, program_of}, specs.ProgramFits.{Each, ProgramFits}}
use Rattle.gypsy_space.specs.Needs.{vars_of}
use Rattle.gypsy_check.{specs.Rules.procedure_breaches, proofs.CleanLaws.get_or_map}
use Rattle.gypsy_codegen.{specs.WordsOf.starts, specs.Generated.{size, generated_program}, specs.Written.{Names, Line, Plain, Marked}, specs.Lines.labels}
use Rattle.gypsy_codegen.{specs.Lines.{lines, tail_lines, lines_of}, specs.Text.{frame_texts, names_with, temporaries_of, written_procedure}}
use Rattle.gypsy_codegen.{specs.Acceptable.total_words, proofs.SourceLaws.{ProcForm, frame_differs, frame_named, frame_count}, proofs.InstructionLaws.InRange}
use Rattle.gypsy_codegen.{proofs.InstructionLaws.{Known, Base}, proofs.StackLaws.starts-length, proofs.DeclareLaws.declarations}
use Rattle.gypsy_codegen.{proofs.LinesLaws.{procedure_distinct, procedure_ranged}, proofs.ResolveLaws.{found, procedure_resolves, procedure_count}}
use Rattle.gypsy_codegen.{proofs.FineLaws.{Marks, FineLine, procedure_sure}, proofs.ProgramLaws.{formals_fit, temporaries_fit, temporaries_clean}}
use Rattle.gypsy_codegen.proofs.ProgramLaws.{temporaries_view, temporaries_count, formals_declared, temporaries_declared, Clean, Made, places, last_part}
use Rattle.gypsy_codegen.{proofs.ProgramLaws.{made_good, made_marks, made_clean}, proofs.BaseLaws.world_of, proofs.CountLaws.{labels_least, code_few}}

starts_in_range : (at : ℕ) (shapes : List Shape) → at + words_of shapes ≤ 65536 → Each InRange (map (λ k. Nat k) (starts at shapes))
starts_in_range at [] le = tt
starts_in_range at (s ∷ shapes) le = (omega (arith, le), starts_in_range (at + item_count s) shapes (omega (arith, le)))

-- ---- main's variables are temporaries, those of others formals

module _ (b : Bool) (n : Names) (frame : List (List ℕ)) (ws : List Word) (same : length frame ≡ length ws) where
  frame_declared : map formal_name (cond b [] (map unplaced frame)) ++ map temporary_name (cond b (temporaries_of n frame ws) []) ≡ declarations frame
  frame_declared = by b
    where
      by : (b : Bool) → map formal_name (cond b [] (map unplaced frame)) ++ map temporary_name (cond b (temporaries_of n frame ws) []) ≡ declarations frame
      by true = temporaries_declared n frame ws same
      by false = append-nil (map formal_name (map unplaced frame)) ∙ formals_declared frame

  frame_total : length (cond b [] (map unplaced frame)) + length (cond b (temporaries_of n frame ws) []) ≡ length frame
  frame_total = by b
    where
      by : (b : Bool) → length (cond b [] (map unplaced frame)) + length (cond b (temporaries_of n frame ws) []) ≡ length frame
      by true = omega (arith, temporaries_count n frame ws same)
      by false = omega (arith, length-map frame (λ name. unplaced name))

  formals_right : Each (λ name. IsTrue (is_name name)) frame → All IsNamed (cond b [] (map unplaced frame))
  formals_right h = by b
    where
      by : (b : Bool) → All IsNamed (cond b [] (map unplaced frame))
      by true = All-nil IsNamed
      by false = formals_fit frame h

  formals_count : (m : ℕ) → length frame ≡ m → length (cond b [] (map unplaced frame)) ≡ cond b 0 m
  formals_count m e = by b
    where
      by : (b : Bool) → length (cond b [] (map unplaced frame)) ≡ cond b 0 m
      by true = refl
      by false = length-map frame (λ name. unplaced name) ∙ e

  temporaries_right : Each (λ name. IsTrue (is_name name)) frame → Each InRange ws → All FitsTemporary (cond b (temporaries_of n frame ws) [])
  temporaries_right h k = by b
    where
      by : (b : Bool) → All FitsTemporary (cond b (temporaries_of n frame ws) [])
      by true = temporaries_fit n frame ws h k
      by false = All-nil FitsTemporary

  temporaries_keep : (s : SystemOf) → Each InRange ws → flat_map (temporary_breaches s) (cond b (temporaries_of n frame ws) []) ≡ []
  temporaries_keep s k = by b
    where
      by : (b : Bool) → flat_map (temporary_breaches s) (cond b (temporaries_of n frame ws) []) ≡ []
      by true = temporaries_clean s n frame ws k
      by false = refl

  temporaries_seen : (s : SystemOf) → Each InRange ws → map (resolved_temporary s) (cond b (temporaries_of n frame ws) []) ≡ cond b ws []
  temporaries_seen s k = by b
    where
      by : (b : Bool) → map (resolved_temporary s) (cond b (temporaries_of n frame ws) []) ≡ cond b ws []
      by true = temporaries_view s n frame ws same k
      by false = refl

-- L0 and L1 are among the labels of a procedure
marks_tail : (K : ℕ → Type 0) (ls : List Line) → Marks K (ls ++ tail_lines) → K 0 × K 1
marks_tail K [] m = (m.0, m.1.0)
marks_tail K (Plain i ∷ ls) m = marks_tail K ls m
marks_tail K (Marked l i ∷ ls) m = marks_tail K ls m.1

-- ---- the program

module _ (src : SourceOf) (fits : ProgramFits (program_of src)) (few : total_words (program_of src) ≤ 2 ^ 20) (s : SystemOf) (p : ℕ) (proc : ProcOf)
    (is : slice_get src.procs p ≡ Some proc) (lt : p < length src.procs) (form : ProcForm proc) (clean : procedure_breaches src proc ≡ [])
    (base : Base s (names_with src (frame_texts (program_of src) p proc)) (length (program_of src).procs + length predefs)) where
  abbrev q : Program
  q = program_of src

  abbrev frame : List (List ℕ)
  frame = frame_texts q p proc

  abbrev names : Names
  names = names_with src frame

  abbrev ws : List Word
  ws = map (λ k. Nat k) (starts 0 (shapes_of (proc_at q p)))

  here : proc_at q p ≡ procedure_of src proc
  here = get_or_map (procedure_of src) src.procs p proc no_proc is

  vars_are : length frame ≡ vars_of (proc_at q p)
  vars_are =
      frame_count q p proc
      ∙ sym (ap vars_of here ∙ omega (arith, length-map proc.formals (λ d. shape_of d.shape), length-map proc.locals local_value))

  shapes_count : length (shapes_of (proc_at q p)) ≡ vars_of (proc_at q p)
  shapes_count =
      let d = proc_at q p in omega (arith, length-append d.formals (map (λ v. v.shape) d.locals), length-map d.locals (λ v. v.shape))

  same : length frame ≡ length ws
  same = omega (arith, vars_are, shapes_count, length-map (starts 0 (shapes_of (proc_at q p))) (λ k. Nat k), starts-length 0 (shapes_of (proc_at q p)))

  in_range : Each InRange ws
  in_range = starts_in_range 0 (shapes_of (proc_at q p)) (let h = (fits.procs p).words in omega (arith, h))

  conds_few : conds_of (proc_at q p) < 2 ^ 31
  conds_few = let e = ap conds_of here in let h = form.few_conds in omega (arith, e, h)

  small : size q (body_of q p) + 14 ≤ 2 ^ 20
  small = code_few q fits few p (omega (arith, lt, length-map src.procs (procedure_of src)))

  made_procedure : Made s (written_procedure src p proc) names (lines_of q p) frame (cond (p == q.main) ws []) (length q.procs + length predefs)
      (2 + labels (body_of q p))
  made_procedure =
      let b = p == q.main in
      let few_labels = labels_least q (body_of q p) in
      let e = frame_declared b names frame ws same in
      let differ = frame_differs src q p proc clean in
      let h = frame_named q p proc form.variables in
      record {
        instrs = refl;
        named = form.name;
        formals = formals_right b names frame ws same h;
        temporaries = temporaries_right b names frame ws same h in_range;
        words_clean = temporaries_keep b names frame ws same s in_range;
        words_view = temporaries_seen b names frame ws same s in_range;
        frame_names = e;
        frame_differ = differ;
        few_locals = let c = frame_count q p proc in let d = form.few_variables in omega (arith, c, d);
        count = frame_total b names frame ws same;
        distinct = procedure_distinct q p;
        ranged = procedure_ranged q p;
        small = omega (arith, few_labels, small);
        few = omega (arith, procedure_count q p, small);
        last = (Marked 1 i.Ret, last_part (lines q p [] 2 (body_of q p)) tail_lines (omega arith), refl);
        world = world_of s (written_procedure src p proc) names (length q.procs + length predefs) base e differ h;
      }

  pub procedure_total : length (written_procedure src p proc).formals + length (written_procedure src p proc).temporaries ≡ vars_of (proc_at q p)
  procedure_total = frame_total (p == q.main) names frame ws same ∙ vars_are

  pub procedure_clean : Clean s (written_procedure src p proc) (generated_program q p)
  procedure_clean =
      let t = written_procedure src p proc in
      let f = places t in
      let ls = lines_of q p in
      let words = cond (p == q.main) ws [] in
      let hi = 2 + labels (body_of q p) in
      let programs = length q.procs + length predefs in
      let m = made_procedure in
      let marks = made_marks s t names ls frame words programs hi m in
      let ends = marks_tail (Known t (found f)) (lines q p [] 2 (body_of q p)) marks in
      let sure = subst (λ k. Each (FineLine t (found f) k programs) ls) (sym vars_are) (procedure_sure q fits p conds_few t (found f) ends.0 ends.1 marks) in
      let c = made_clean s t names ls frame words programs hi m sure in
      let code = procedure_resolves q p f (made_good s t names ls frame words programs hi m) in
      let formals = formals_count (p == q.main) names frame ws same (vars_of (proc_at q p)) vars_are in
      record {
        fits = c.fits;
        clean = c.clean;
        view = c.view ∙ (λ k. record { formals = formals k; temporaries = words; instructions = code k });
      }
