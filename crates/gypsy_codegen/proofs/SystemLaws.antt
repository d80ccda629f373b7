-- The generated system keeps the form, breaks no rule, and is seen as the system by places.
use Rattle.std.proofs.Common.{◌≡◌, ℕ, zero, suc, ◌+◌, ◌<◌, ◌≤◌, ◌^◌, max, List, [], ◌∷◌, ◌++◌, map, length, get_or, slice_get, replicate, All, Bool, true, cond}
use Rattle.std.{proofs.Common.{ltb, not, Some, unwrap_or, refl, sym, ap, subst, ◌∙◌, arith, length-append, flat_map}, specs.Prelude.{pos, IsTrue}}
use Rattle.std.{specs.List.list_all, proofs.lemmas.List.{length-map, length-replicate}, proofs.lemmas.List.Elements.{All-nil, All-cons}}
use Rattle.std.{proofs.lemmas.Bool.{le-leb, eq-eqb}, proofs.lemmas.Option.slice_get_within}
use Rattle.stack_text.{specs.declared.shape.Kind.Kind, specs.declared.shape.Kind.TheVariants.{Integer, Boolean, Character}, specs.declared.shape.Shape.Shape}
use Rattle.stack_text.{specs.Values.{ValueOf, item_count}, specs.Names.is_name, specs.Breaches.when, specs.Options.◌>>=◌, specs.Trees.node_count}
use Rattle.stack_text.{specs.Grammar.Printed.unplaced, proofs.SharedLaws.{both_none, get_some}}
use Rattle.piton_words.{specs.declared.word.Word.Word, specs.declared.word.Word.TheVariants.Nat}
use Rattle.piton_syntax.{specs.Systems.{ProgramOf, SystemOf}, specs.Fits.{FitsWord, FitsProgram, FitsArea, FitsForm as TextForm}, specs.Printed.tree_of}
use Rattle.piton_syntax.proofs.MadeLaws.{fits_keeps}
use Rattle.piton_check.{specs.Declarations.{area_names, program_names, program_name, first_of}, specs.Violations.{word_breaches, area_breaches}}
use Rattle.piton_check.specs.Violations.{program_breaches, main_of, main_breaches, is_within, first_frame, size_breaches, name_breaches, violations}
use Rattle.piton_check.{specs.Resolved.{resolved_word, resolved_area, resolved_program, resolved_number, resolved}, specs.Instruction.program_view}
use Rattle.piton_check.{specs.Instruction.system_view, specs.Sound.IsSound, proofs.SoundLaws.is_sound}
use Rattle.piton_check.specs.Instruction as i
use Rattle.gypsy_syntax.{specs.declared.predef.Predef.Predef, specs.Sources.{ProcOf, SourceOf}, specs.Predefined.{predefs, predef_name}, specs.Programs.Program}
use Rattle.gypsy_syntax.{specs.Programs.{proc_at, shapes_of, words_of}, specs.Resolved.{procedure_of, program_of, procedure_names}, specs.ProgramFits.Each}
use Rattle.gypsy_syntax.{specs.ProgramFits.ProgramFits, specs.Ranges.is_in_range, specs.ValuesFit.ValueFits, specs.Fits.FitsForm}
use Rattle.gypsy_syntax.proofs.FitsLaws.{keeps_fits as source_form}
use Rattle.gypsy_space.specs.Needs.{StackSizes, vars_of, frame_of, temp_need, ctrl_need, main_used, main_need}
use Rattle.gypsy_check.{specs.Rules.{procedure_breaches, violations as source_violations}, proofs.CleanLaws.at_place, proofs.NameLaws.{found_below, found_name}}
use Rattle.gypsy_check.specs.Accepted.{IsAccepted}
use Rattle.gypsy_codegen.{proofs.SourceLaws.{procs_form, ProcForm, Kept, kept, named_at}, specs.WordsOf.{zero_value, words_of_values}}
use Rattle.gypsy_codegen.{specs.Generated.{generated_program, count_from, opening_words, generated_view}, specs.Written.{Names, written_word}}
use Rattle.gypsy_codegen.specs.Text.{program_texts, area_texts, frame_texts, names_with, written_procedure, written_procedures, written_area, generated}
use Rattle.gypsy_codegen.{specs.Whole.RunsTo, proofs.PushLaws.PredefsRun, proofs.RunLaws.meaning_runs, specs.Acceptable.{SourceRuns, code_words_of, LimitsFit}}
use Rattle.gypsy_codegen.{specs.Acceptable.IsAcceptable, proofs.InstructionLaws.{InRange, natural_is, word_clean, word_fits, word_resolves, Base}}
use Rattle.gypsy_codegen.{proofs.DeclareLaws.{declarations, found_at, names_apart, no_repeats, Apart}, proofs.FineLaws.{values_in_range, all_words}}
use Rattle.gypsy_codegen.{proofs.ProgramLaws.Clean, proofs.NodeLaws.system_nodes, proofs.BaseLaws.declared_both, proofs.FrameLaws.front_at}
use Rattle.gypsy_codegen.proofs.ProcedureLaws.{procedure_clean, procedure_total}
use Rattle.gypsy_predef.{specs.Bodies.bodies, specs.Texts.{condition_area, body_text, body_texts}, specs.Resolving.{BodiesFit, BodiesKeepRules, BodiesResolve}}
use Rattle.gypsy_predef.proofs.FormLaws.{predef_named}
use Rattle.gypsy_predef.specs.Bodies as predefined
use Rattle.piton_semantics.specs.StateView.{started}
use Rattle.gypsy_semantics.specs.Calls.{main_start}

-- ---- lists

each_at : {X : Type 0} (P : X → Type 0) (xs : List X) (k : ℕ) (x : X) → Each P xs → slice_get xs k ≡ Some x → P x
each_at P [] k x h e = absurd cc
each_at P (y ∷ xs) zero x h e = let same : y ≡ x = cc in subst P same h.0
each_at P (y ∷ xs) (suc k) x h e = each_at P xs k x h.1 e

-- ---- words

words_clean : (s : SystemOf) (n : Names) (ws : List Word) → Each InRange ws → flat_map (word_breaches s) (map (written_word n) ws) ≡ []
words_clean s n [] h = refl
words_clean s n (w ∷ ws) h = both_none _ _ (word_clean s n w h.0) (words_clean s n ws h.1)

words_view : (s : SystemOf) (n : Names) (ws : List Word) → Each InRange ws → map (resolved_word s) (map (written_word n) ws) ≡ ws
words_view s n [] h = refl
words_view s n (w ∷ ws) h = ap (λ z. z ∷ map (resolved_word s) (map (written_word n) ws)) (word_resolves s n w h.0) ∙ ap (λ z. w ∷ z) (words_view s n ws h.1)

words_fit : (n : Names) (ws : List Word) → Each InRange ws → All FitsWord (map (written_word n) ws)
words_fit n [] h = All-nil FitsWord
words_fit n (w ∷ ws) h = All-cons FitsWord (written_word n w) (map (written_word n) ws) (word_fits n w h.0) (words_fit n ws h.1)

zero_in_range : (k : Kind) → is_in_range k (pos 0) ≡ true
zero_in_range Integer = refl
zero_in_range Boolean = refl
zero_in_range Character = refl

pub zeros_in_range : (k : Kind) (n : ℕ) → list_all (is_in_range k) (replicate n (pos 0)) ≡ true
zeros_in_range k zero = refl
zeros_in_range k (suc n) = rw (zero_in_range k) (zeros_in_range k n)

opening_fit : (shapes : List Shape) (x : List ValueOf) → Each (λ s. s.length ≤ 4096) shapes → Each ValueFits x → Each ValueFits (map zero_value shapes ++ x)
opening_fit [] x h k = k
opening_fit (s ∷ shapes) x h k =
    (record { few = h.0; number = length-replicate (item_count s) (pos 0); items = zeros_in_range s.kind (item_count s) }, opening_fit shapes x h.1 k)

opening_shapes : (shapes : List Shape) (x : List ValueOf) → map (λ v. v.shape) (map zero_value shapes ++ x) ≡ shapes ++ map (λ v. v.shape) x
opening_shapes [] x = refl
opening_shapes (s ∷ shapes) x = ap (λ z. s ∷ z) (opening_shapes shapes x)

-- ---- programs that are clean, and what they are seen as

abbrev CleanAll : SystemOf → List ProgramOf → List i.ProgramView → Type 0
CleanAll s [] [] = Unit {0}
CleanAll s [] (m ∷ ms) = ⊥
CleanAll s (t ∷ ts) [] = ⊥
CleanAll s (t ∷ ts) (m ∷ ms) = Clean s t m × CleanAll s ts ms

clean_both : (s : SystemOf) (ts us : List ProgramOf) (ms ns : List i.ProgramView) → CleanAll s ts ms → CleanAll s us ns → CleanAll s (ts ++ us) (ms ++ ns)
clean_both s [] us [] ns h k = k
clean_both s [] us (m ∷ ms) ns h k = absurd h
clean_both s (t ∷ ts) us [] ns h k = absurd h
clean_both s (t ∷ ts) us (m ∷ ms) ns h k = (h.0, clean_both s ts us ms ns h.1 k)

all_clean : (s : SystemOf) (ts : List ProgramOf) (ms : List i.ProgramView) → CleanAll s ts ms → flat_map (program_breaches s) ts ≡ []
all_clean s [] ms h = refl
all_clean s (t ∷ ts) [] h = absurd h
all_clean s (t ∷ ts) (m ∷ ms) h = both_none _ _ h.0.clean (all_clean s ts ms h.1)

all_fit : (s : SystemOf) (ts : List ProgramOf) (ms : List i.ProgramView) → CleanAll s ts ms → All FitsProgram ts
all_fit s [] ms h = All-nil FitsProgram
all_fit s (t ∷ ts) [] h = absurd h
all_fit s (t ∷ ts) (m ∷ ms) h = All-cons FitsProgram t ts h.0.fits (all_fit s ts ms h.1)

all_view : (s : SystemOf) (ts : List ProgramOf) (ms : List i.ProgramView) → CleanAll s ts ms → map program_view (map (resolved_program s) ts) ≡ ms
all_view s [] [] h = refl
all_view s [] (m ∷ ms) h = absurd h
all_view s (t ∷ ts) [] h = absurd h
all_view s (t ∷ ts) (m ∷ ms) h =
    ap (λ z. z ∷ map program_view (map (resolved_program s) ts)) h.0.view ∙ ap (λ z. m ∷ z) (all_view s ts ms h.1)

-- what is known of the texts of the predefined programs
pub record TextsResolve : Type 0 where
  pub fits : BodiesFit
  pub rules : BodiesKeepRules
  pub views : BodiesResolve

predefs_all : TextsResolve → (s : SystemOf) → first_of (area_names s) condition_area ≡ Some 0 → (rs : List Predef) →
    CleanAll s (map body_text rs) (map predefined.body_of rs)
predefs_all texts s area [] = tt
predefs_all texts s area (r ∷ rs) =
    (record { fits = texts.fits r; clean = texts.rules s r area; view = texts.views s r area }, predefs_all texts s area rs)

module _ (src : SourceOf) where
  procs_named : (k : ℕ) (procs : List ProcOf) (rest : List ProgramOf) → map program_name (written_procedures src k procs ++ rest)
      ≡ declarations (map (λ p. p.name.name) procs) ++ map program_name rest
  procs_named k [] rest = refl
  procs_named k (p ∷ procs) rest = ap (λ z. Some (unplaced p.name.name) ∷ z) (procs_named (suc k) procs rest)

  predefs_named : (rs : List Predef) → map program_name (map body_text rs) ≡ declarations (map predef_name rs)
  predefs_named [] = refl
  predefs_named (r ∷ rs) = ap (λ z. Some (unplaced (predef_name r)) ∷ z) (predefs_named rs)

  procs_count : (k : ℕ) (procs : List ProcOf) → length (written_procedures src k procs) ≡ length procs
  procs_count k [] = refl
  procs_count k (p ∷ procs) = ap suc (procs_count (suc k) procs)

  proc_found : (from k : ℕ) (procs : List ProcOf) (rest : List ProgramOf) (p : ProcOf) → slice_get procs k ≡ Some p →
      slice_get (written_procedures src from procs ++ rest) k ≡ Some (written_procedure src (from + k) p)
  proc_found from k [] rest p e = absurd cc
  proc_found from zero (c ∷ procs) rest p e =
      let same : c ≡ p = cc in ap (λ z. Some (written_procedure src from z)) same ∙ ap (λ z. Some (written_procedure src z p)) (omega arith)
  proc_found from (suc k) (c ∷ procs) rest p e = proc_found (suc from) k procs rest p e ∙ ap (λ z. Some (written_procedure src z p)) (omega arith)

  procs_all : (s : SystemOf) (from : ℕ) (procs : List ProcOf) →
      ((k : ℕ) (p : ProcOf) → slice_get procs k ≡ Some p → Clean s (written_procedure src (from + k) p) (generated_program (program_of src) (from + k))) →
      CleanAll s (written_procedures src from procs) (map (generated_program (program_of src)) (count_from from (length procs)))
  procs_all s from [] h = tt
  procs_all s from (p ∷ procs) h =
      let first : from + 0 ≡ from = omega arith in (
        subst (λ z. Clean s (written_procedure src z p) (generated_program (program_of src) z)) first (h 0 p refl),
        procs_all s (suc from) procs (λ k c e. let next : from + suc k ≡ suc from + k = omega arith in
            subst (λ z. Clean s (written_procedure src z c) (generated_program (program_of src) z)) next (h (suc k) c e)),
      )

  predef_names_right : (rs : List Predef) → Each (λ name. IsTrue (is_name name)) (map predef_name rs)
  predef_names_right [] = tt
  predef_names_right (r ∷ rs) = (predef_named r, predef_names_right rs)

  proc_names_right : (procs : List ProcOf) (rest : List (List ℕ)) → Each ProcForm procs → Each (λ name. IsTrue (is_name name)) rest →
      Each (λ name. IsTrue (is_name name)) (map (λ p. p.name.name) procs ++ rest)
  proc_names_right [] rest h k = k
  proc_names_right (p ∷ procs) rest h k = (h.0.name, proc_names_right procs rest h.1 k)

is_within_true : (low high n : ℕ) → low ≤ n → n ≤ high → is_within low high (pos n) ≡ true
is_within_true low high n le few = rw (le-leb low n le, le-leb n high few) refl

no_breach : (b : Bool) (place rule : ℕ) → b ≡ true → when (not b) place rule ≡ []
no_breach b place rule e = ap (λ z. when (not z) place rule) e

-- what main needs
need_ctrl : (q : Program) → (main_need q).ctrl ≡ frame_of (proc_at q q.main) + ctrl_need (proc_at q q.main)
unfolding main_need main_used
need_ctrl q = refl

need_temp : (q : Program) → (main_need q).temp ≡ words_of (shapes_of (proc_at q q.main)) + temp_need (proc_at q q.main)
unfolding main_need main_used
need_temp q = refl

module _ (texts : TextsResolve) (src : SourceOf) (sizes : StackSizes) (base : ℕ) (accepted : IsAccepted src) (fit : LimitsFit (program_of src) sizes base) where
  form : FitsForm src
  form = source_form src accepted.form

  clean : source_violations src ≡ []
  clean = accepted.rules

  procs_fit : Each ProcForm src.procs
  procs_fit = procs_form src.procs form.procs

  abbrev q : Program
  q = program_of src

  abbrev g : SystemOf
  g = generated src sizes base

  k : Kept src
  k = kept src clean

  does_fit : ProgramFits (program_of src)
  does_fit = accepted.fits

  names_are : program_names g ≡ declarations (program_texts src)
  names_are =
      procs_named src 0 src.procs body_texts ∙ ap (λ z. declarations (procedure_names src) ++ z) (predefs_named src predefs)
      ∙ sym (declared_both (procedure_names src) (map predef_name predefs))

  texts_count : length (program_texts src) ≡ length q.procs + length predefs
  texts_count =
      omega (
        arith,
        length-append (procedure_names src) (map predef_name predefs),
        length-map src.procs (λ p. p.name.name),
        length-map src.procs (procedure_of src),
        length-map predefs predef_name,
      )

  texts_right : Each (λ name. IsTrue (is_name name)) (program_texts src)
  texts_right = proc_names_right src src.procs (map predef_name predefs) procs_fit (predef_names_right src predefs)

  base_of : (locals : List (List ℕ)) → Base g (names_with src locals) (length q.procs + length predefs)
  base_of locals = record {
    program = λ c lt. ap (λ ds. first_of ds (get_or (program_texts src) c [])) names_are
        ∙ found_at (program_texts src) c k.names (omega (arith, lt, texts_count));
    area = found_at area_texts 0 (tt, tt) (omega arith);
    program_name = λ c lt. named_at (program_texts src) c texts_right (omega (arith, lt, texts_count));
    area_name = refl;
  }

  programs_all : CleanAll g (written_procedures src 0 src.procs ++ body_texts) (map (generated_program q) (count_from 0 (length src.procs)) ++ bodies)
  programs_all =
      clean_both g (written_procedures src 0 src.procs) body_texts (map (generated_program q) (count_from 0 (length src.procs))) (bodies)
      (procs_all src g 0 src.procs (λ j p e.
      let same : j ≡ 0 + j = omega arith in
      subst (λ z. Clean g (written_procedure src z p) (generated_program q z)) same
      (procedure_clean src does_fit fit.few_words g j p e (slice_get_within src.procs j p e) (each_at ProcForm src.procs j p procs_fit e)
      (at_place (procedure_breaches src) src.procs j p k.procs e) (base_of (frame_texts q j p)))))
      (predefs_all texts g (found_at area_texts 0 (tt, tt) (omega arith)) predefs)

  -- main

  main_below : q.main < length (procedure_names src)
  main_below = found_below src.main.name (procedure_names src) k.main

  main_proc : (p : ProcOf) × (slice_get src.procs q.main ≡ Some p)
  main_proc = get_some src.procs q.main (omega (arith, main_below, length-map src.procs (λ p. p.name.name)))

  main_place : first_of (program_names g) src.main.name ≡ Some q.main
  main_place =
      let name : get_or (program_texts src) q.main [] ≡ src.main.name =
      front_at (procedure_names src) (map predef_name predefs) q.main main_below ∙ found_name src.main.name (procedure_names src) k.main in
      ap (λ ds. first_of ds src.main.name) names_are ∙ ap (first_of (declarations (program_texts src))) (sym name)
      ∙ found_at (program_texts src) q.main k.names (omega (arith, main_below, length-append (procedure_names src) (map predef_name predefs)))

  main_is : main_of g ≡ Some (written_procedure src q.main main_proc.0)
  main_is =
      ap (λ o. o >>= λ m. slice_get g.programs m) main_place
      ∙ proc_found src 0 q.main src.procs body_texts main_proc.0 main_proc.1
      ∙ ap (λ z. Some (written_procedure src z main_proc.0)) (omega arith)

  no_formals : length (written_procedure src q.main main_proc.0).formals ≡ 0
  no_formals = ap (λ b. length (cond b [] (map unplaced (frame_texts q q.main main_proc.0)))) (eq-eqb q.main q.main refl)

  main_count : length (written_procedure src q.main main_proc.0).temporaries ≡ vars_of (proc_at q q.main)
  main_count =
      let p = main_proc.0 in
      let e = main_proc.1 in
      let total = procedure_total src does_fit fit.few_words g q.main p e (slice_get_within src.procs q.main p e)
      (each_at ProcForm src.procs q.main p procs_fit e)
      (at_place (procedure_breaches src) src.procs q.main p k.procs e) (base_of (frame_texts q q.main p)) in
      omega (arith, total, no_formals)

  main_keeps : main_breaches g (main_of g) ≡ []
  main_keeps =
      ap (main_breaches g) main_is ∙ ap (λ n. when (ltb 0 n) 0 4) no_formals

  -- words

  opening_values : Each ValueFits (map zero_value (proc_at q q.main).formals ++ (proc_at q q.main).locals)
  opening_values = opening_fit (proc_at q q.main).formals (proc_at q q.main).locals (does_fit.procs q.main).formals (does_fit.procs q.main).locals

  opening_right : Each InRange (opening_words q)
  opening_right = values_in_range (map zero_value (proc_at q q.main).formals ++ (proc_at q q.main).locals) opening_values

  opening_count : length g.stack ≡ words_of (shapes_of (proc_at q q.main))
  opening_count =
      length-map (opening_words q) (written_word (names_with src []))
      ∙ all_words (map zero_value (proc_at q q.main).formals ++ (proc_at q q.main).locals) opening_values
      ∙ ap words_of (opening_shapes (proc_at q q.main).formals (proc_at q q.main).locals)

  two_right : InRange (Nat 2)
  two_right = omega arith

  sizes_keep : size_breaches g ≡ []
  sizes_keep =
      let frame : first_frame (main_of g) ≡ 2 + vars_of (proc_at q q.main) = ap first_frame main_is ∙ ap (λ n. 2 + n) main_count in
      let ctrl_least : 2 + vars_of (proc_at q q.main) ≤ sizes.ctrl = let h = fit.sizes_fit.suffice.ctrl in let e = need_ctrl q in omega (arith, h, e) in
      let temp_least : max (length g.stack) 1 ≤ sizes.temp = let h = fit.sizes_fit.suffice.temp in let e = need_temp q in omega (arith, h, e, opening_count) in
      both_none _ _ (both_none _ _
      (no_breach (is_within (first_frame (main_of g)) 65536 (pos sizes.ctrl)) 0 14
      (is_within_true (first_frame (main_of g)) 65536 sizes.ctrl (omega (arith, frame, ctrl_least)) fit.few_ctrl))
      (no_breach (is_within (max (length g.stack) 1) 65536 (pos sizes.temp)) 0 14
      (is_within_true (max (length g.stack) 1) 65536 sizes.temp temp_least fit.sizes_fit.small)))
      (no_breach (is_within 0 (2 ^ 31) (pos base)) 0 14 (is_within_true 0 (2 ^ 31) base (omega arith) fit.low_base))

  areas_keep : flat_map (area_breaches g) g.areas ≡ []
  areas_keep = both_none _ _ (words_clean g (names_with src []) (Nat 2 ∷ []) (two_right, tt)) refl

  names_keep : name_breaches g ≡ []
  names_keep = both_none _ _ (no_repeats 2 (area_names g) (tt, tt))
      (no_repeats 1 (program_names g) (subst Apart (sym names_are) (names_apart (program_texts src) k.names)))

  is_clean : violations g ≡ []
  is_clean =
      both_none _ _ names_keep
      (both_none _ _ (both_none _ _ (both_none _ _ (both_none _ _ main_keeps sizes_keep) areas_keep)
      (words_clean g (names_with src []) (opening_words q) opening_right)) (all_clean g _ _ programs_all))

  programs_count : length g.programs ≡ length src.procs + length predefs
  programs_count =
      omega (arith, length-append (written_procedures src 0 src.procs) body_texts, procs_count src 0 src.procs, length-map predefs body_text)

  does_keep : TextForm g
  does_keep = record {
    main = form.main;
    ctrl = let h = fit.few_ctrl in omega (arith, h);
    temp = let h = fit.sizes_fit.small in omega (arith, h);
    base = let h = fit.low_base in omega (arith, h);
    areas = All-cons FitsArea (written_area src) []
        (record { name = refl; words = words_fit (names_with src []) (Nat 2 ∷ []) (two_right, tt); some_words = omega arith }) (All-nil FitsArea);
    stack = words_fit (names_with src []) (opening_words q) opening_right;
    programs = all_fit g _ _ programs_all;
    few_areas = omega arith;
    some_programs = omega (arith, programs_count);
    few_programs = let h = form.few_procs in omega (arith, h, programs_count);
  }

  number_seen : (n : ℕ) → n ≤ 2 ^ 31 → resolved_number (pos n) ≡ n
  number_seen n le = ap (λ o. unwrap_or o 0) (natural_is n (omega (arith, le)))

  is_seen : system_view (resolved g) ≡ generated_view q sizes base
  is_seen =
      let main_seen : unwrap_or (first_of (program_names g) src.main.name) 0 ≡ q.main = ap (λ o. unwrap_or o 0) main_place in
      let ctrl_seen = number_seen sizes.ctrl (let h = fit.few_ctrl in omega (arith, h)) in
      let temp_seen = number_seen sizes.temp (let h = fit.sizes_fit.small in omega (arith, h)) in
      let base_seen = number_seen base fit.low_base in
      let area_seen : map (resolved_area g) g.areas ≡ (Nat 2 ∷ []) ∷ [] = ap (λ z. z ∷ []) (words_view g (names_with src []) (Nat 2 ∷ []) (two_right, tt)) in
      let stack_seen = words_view g (names_with src []) (opening_words q) opening_right in
      let programs_seen : map program_view (map (resolved_program g) g.programs) ≡ (generated_view q sizes base).programs =
      all_view g g.programs (map (generated_program q) (count_from 0 (length src.procs)) ++ bodies) programs_all
      ∙ ap (λ n. map (generated_program q) (count_from 0 n) ++ bodies) (sym (length-map src.procs (procedure_of src))) in
      λ j. record {
        main = main_seen j;
        ctrl = ctrl_seen j;
        temp = temp_seen j;
        base = base_seen j;
        areas = area_seen j;
        stack = stack_seen j;
        programs = programs_seen j;
      }

  nodes_few : node_count (tree_of g) ≤ 2 ^ 31
  nodes_few =
      let words : code_words_of q (count_from 0 (length src.procs)) ≤ 2 ^ 20 =
      subst (λ n. code_words_of q (count_from 0 n) ≤ 2 ^ 20) (length-map src.procs (procedure_of src)) fit.few_words in
      let temp_least = fit.sizes_fit.suffice.temp in
      let need = need_temp q in
      let few = fit.sizes_fit.small in
      system_nodes src does_fit sizes base procs_fit form.few_procs words
      (omega (arith, temp_least, need, few, opening_count, length-map (opening_words q) (written_word (names_with src []))))

  pub is_acceptable : IsAcceptable src sizes base
  is_acceptable =
      record {
        form = fits_keeps g does_keep nodes_few;
        rules = is_clean;
        view = is_seen;
        sound = subst IsSound is_seen (is_sound g does_keep nodes_few is_clean);
      }

-- a run of the system by places is a run of what the text resolves to
pub source_runs : PredefsRun → TextsResolve → SourceRuns
source_runs predefs texts s sizes base v n x c accepted fit vf d =
    let q = program_of s in
    let good = is_acceptable texts s sizes base accepted fit in
    let run = meaning_runs predefs q sizes base v n x c accepted.fits fit.sizes_fit vf d in
    (run.0, run.1, subst (λ z. RunsTo z (started z (words_of_values (main_start q v))) x c run.0) (sym good.view) run.2)
