-- All that the code of an accepted source names is there.
use Rattle.std.proofs.Common.{◌≡◌, ℕ, suc, ◌+◌, ◌<◌, ◌≤◌, ◌^◌, List, [], ◌∷◌, ◌++◌, map, length, drop, get_or, slice_get, append_assoc, Some, refl, sym, ap}
use Rattle.std.{proofs.Common.{◌∙◌, arith, subst, length-append}, specs.Prelude.pos, proofs.lemmas.List.{length-map, map-append}}
use Rattle.std.proofs.lemmas.Option.{slice_get_within}
use Rattle.stack_text.{specs.declared.name.Named.Named, specs.declared.shape.Kind.Kind, specs.declared.shape.Kind.TheVariants.Boolean}
use Rattle.stack_text.{specs.declared.shape.Shape.Shape, specs.Values.ValueOf, proofs.Loops.drop-item, specs.Grammar.Printed.unplaced}
use Rattle.piton_syntax.{specs.declared.word_text.Number.Number, specs.declared.word_text.WordText.WordText, specs.Systems.{AreaOf, ProgramOf, new_system}}
use Rattle.gypsy_syntax.{specs.declared.slot.Form.Form, specs.declared.slot.Form.TheVariants.{Simple, Array, Literal}, specs.declared.slot.Slot.Slot}
use Rattle.gypsy_syntax.{specs.Predefined.{predefs, predef_name, slots_of}, specs.Programs.{Proc as Main, Arg, Var, Lit, Program, no_proc, simple, proc_at}}
use Rattle.gypsy_syntax.specs.Programs.{body_of, shapes_of, conds_of, Stmt, Skip, NoOp, Signal, Seq, Loop, If, Begin, Call, Apply}
use Rattle.gypsy_syntax.{specs.declared.proc.Proc.Proc, specs.Views.SourceView.proc_of, specs.ProgramFits.{Each, ActualsFit, ArgFits, ArgsFit, slot_kind}}
use Rattle.gypsy_syntax.{specs.ProgramFits.{StmtFits, ProgramFits}, specs.Resolved.{shape_of, local_value, procedure_of, procedure_names, program_of}}
use Rattle.gypsy_syntax.specs.Sources.{ProcOf, SourceOf}
use Rattle.gypsy_space.specs.Needs.{StackSizes, vars_of}
use Rattle.gypsy_check.proofs.CleanLaws.{get_or_map}
use Rattle.gypsy_predef.specs.Texts.{body_texts, number}
use Rattle.gypsy_codegen.{specs.Acceptable.total_words, specs.Generated.opening_words, specs.Text.{procedure_with, procedures_with, program_texts, names_with}}
use Rattle.gypsy_codegen.{specs.Text.{written_procedures, generated}, specs.Internal.Views.{HasWord, ArgHasWord, NamesAreThere, IsWritable, AreWritable}}
use Rattle.gypsy_codegen.{specs.Internal.Views.{nameless, opening_text, area_text}, specs.WordsOf.{words_of_values, zero_value}, specs.Written.written_word}
use Rattle.gypsy_codegen.{proofs.CallLaws.values-split, proofs.CodeLaws.words_nameless, proofs.CountLaws.{labels_least, code_few}, proofs.FineLaws.offset_below}
use Rattle.gypsy_codegen.proofs.SourceLaws.{frame_count}

-- ---- statements

module _ (q : Program) (p : ℕ) where
  actuals_there : (formals : List Shape) (xs : List ℕ) → ActualsFit (shapes_of (proc_at q p)) formals xs → Each (HasWord q p) xs
  actuals_there [] [] h = tt
  actuals_there [] (x ∷ xs) h = absurd h
  actuals_there (s ∷ formals) [] h = absurd h
  actuals_there (s ∷ formals) (x ∷ xs) h = (offset_below q p x s h.0, actuals_there formals xs h.1)

  arg_there : (form : Form) (k : Kind) (a : Arg) → ArgFits (shapes_of (proc_at q p)) form k a → ArgHasWord q p a
  arg_there Simple k (Var b) h = offset_below q p b (simple k) h
  arg_there Array k (Var b) h = offset_below q p b (record { kind = k; length = h.0 }) h.3
  arg_there Literal k (Var b) h = absurd h
  arg_there Simple k (Lit v) h = tt
  arg_there Array k (Lit v) h = tt
  arg_there Literal k (Lit v) h = tt

  args_there : (k : Kind) (slots : List Slot) (args : List Arg) → ArgsFit (shapes_of (proc_at q p)) k slots args → Each (ArgHasWord q p) args
  args_there k [] [] h = tt
  args_there k [] (a ∷ args) h = absurd h
  args_there k (slot ∷ slots) [] h = absurd h
  args_there k (slot ∷ slots) (a ∷ args) h = (arg_there slot.form (slot_kind k slot.kind) a h.0, args_there k slots args h.1)

pub names_there : (q : Program) (p n : ℕ) (b : _) (s : Stmt) → StmtFits q (shapes_of (proc_at q p)) n b s → NamesAreThere q p s
names_there q p n b Skip h = tt
names_there q p n b (NoOp place) h = tt
names_there q p n b (Signal place c) h = tt
names_there q p n b (Seq s v) h = (names_there q p n b s h.0, names_there q p n b v h.1)
names_there q p n b (Loop place s) h = names_there q p n _ s h
names_there q p n b (If place x s v) h = (offset_below q p x (simple Boolean) h.0, names_there q p n b s h.1, names_there q p n b v h.2)
names_there q p n b (Begin place s cs v) h = (names_there q p n b s h.1, names_there q p n b v h.2)
names_there q p n b (Call place c xs cs) h = (h.callee, actuals_there q p (proc_at q c).formals xs h.actuals)
names_there q p n b (Apply place r args) h = args_there q p h.0 (slots_of r) args h.1

-- ---- procedures

module _ (s : SourceOf) (fits : ProgramFits (program_of s)) (few : total_words (program_of s) ≤ 2 ^ 20) where
  abbrev q : Program
  q = program_of s

  procs_count : length q.procs ≡ length s.procs
  procs_count = length-map s.procs (procedure_of s)

  texts_count : length (program_texts s) ≡ length q.procs + length predefs
  texts_count =
      omega (
        arith,
        length-append (procedure_names s) (map predef_name predefs),
        length-map s.procs (λ p. p.name.name),
        procs_count,
        length-map predefs predef_name,
      )

  writable_at : (p : ℕ) (proc : ProcOf) → slice_get s.procs p ≡ Some proc → IsWritable q (program_texts s) p proc
  writable_at p proc is =
      let below : p < length s.procs = slice_get_within s.procs p proc is in
      let here : proc_at q p ≡ procedure_of s proc = get_or_map (procedure_of s) s.procs p proc no_proc is in
      let vars : vars_of (proc_at q p) ≡ length proc.formals + length proc.locals =
      ap vars_of here ∙ omega (arith, length-map proc.formals (λ d. shape_of d.shape), length-map proc.locals local_value) in
      let small = code_few q fits few p (omega (arith, below, procs_count)) in
      record {
        fits = fits;
        there = omega (arith, below, procs_count);
        programs_known = texts_count;
        frame = frame_count q p proc ∙ sym vars;
        names = names_there q p (conds_of (proc_at q p)) _ (body_of q p) (fits.procs p).body;
        few_labels = omega (arith, small, labels_least q (body_of q p));
      }

  writable_from : (k : ℕ) (procs : List ProcOf) → ((j : ℕ) (proc : ProcOf) → slice_get procs j ≡ Some proc → IsWritable q (program_texts s) (k + j) proc) →
      AreWritable q (program_texts s) k procs
  writable_from k [] h = tt
  writable_from k (proc ∷ procs) h =
      let first : k + 0 ≡ k = omega arith in (
        subst (λ z. IsWritable q (program_texts s) z proc) first (h 0 proc refl),
        writable_from (suc k) procs (λ j c e. let next : k + suc j ≡ suc k + j = omega arith in
            subst (λ z. IsWritable q (program_texts s) z c) next (h (suc j) c e)),
      )

  pub all_writable : AreWritable q (program_texts s) 0 s.procs
  all_writable =
      writable_from 0 s.procs (λ j proc e. let same : j ≡ 0 + j = omega arith in subst (λ z. IsWritable q (program_texts s) z proc) same (writable_at j proc e))

-- ---- the programs, one behind the other

module _ (q : Program) (programs : List (List ℕ)) (xs : List Proc) (k : ℕ) (x : Proc) (lt : k < length xs) (is : x ≡ get_or xs k x) where
  next_is : k + 1 ≡ suc k
  next_is = omega arith

  pub writable_next : AreWritable q programs k (map proc_of (drop k xs)) → AreWritable q programs (k + 1) (map proc_of (drop (k + 1) xs))
  writable_next h =
      let both = subst (λ (ys : List Proc). AreWritable q programs k (map proc_of ys)) (drop-item xs k x lt is) h in
      subst (λ (n : ℕ). AreWritable q programs n (map proc_of (drop (k + 1) xs))) (sym next_is) both.1

  pub procedures_next : (old new all : List ProgramOf) → new ≡ old ++ procedure_with q programs k (proc_of x) ∷ [] →
      old ++ procedures_with q programs k (map proc_of (drop k xs)) ≡ all → new ++ procedures_with q programs (k + 1) (map proc_of (drop (k + 1) xs)) ≡ all
  procedures_next old new all now so_far =
      let first = procedure_with q programs k (proc_of x) in
      let rest = map proc_of (drop (k + 1) xs) in
      ap (λ (z : List ProgramOf). z ++ procedures_with q programs (k + 1) rest) now
      ∙ append_assoc old (first ∷ []) (procedures_with q programs (k + 1) rest)
      ∙ ap (λ (n : ℕ). old ++ first ∷ procedures_with q programs n rest) next_is
      ∙ ap (λ (ys : List Proc). old ++ procedures_with q programs k (map proc_of ys)) (sym (drop-item xs k x lt is))
      ∙ so_far

-- ---- the system

-- the words of the stack at the start, of the two parts that are written
pub opening_is : (f x : List ValueOf) (old a b : List WordText) → old ≡ [] → a ≡ old ++ map (written_word nameless) (words_of_values f) →
    b ≡ a ++ map (written_word nameless) (words_of_values x) → b ≡ map (written_word nameless) (words_of_values (f ++ x))
opening_is f x old a b empty e g =
    g ∙ ap (λ z. z ++ map (written_word nameless) (words_of_values x)) (e ∙ ap (λ z. z ++ map (written_word nameless) (words_of_values f)) empty)
    ∙ sym (map-append (written_word nameless) (words_of_values f) (words_of_values x)) ∙ ap (map (written_word nameless)) (sym (values-split f x))

-- a system of its parts
pub system_is : (s : SourceOf) (sizes : StackSizes) (base : ℕ) (q : Program) (main : Named) (m : Main) (ctrl temp first : Number) (areas : List AreaOf)
    (stack : List WordText) (programs : List ProgramOf) → q ≡ program_of s → m ≡ proc_at q q.main →
    main ≡ unplaced s.main.name → ctrl ≡ number (pos sizes.ctrl) → temp ≡ number (pos sizes.temp) → first ≡ number (pos base) →
    areas ≡ area_text ∷ [] → stack ≡ opening_text m → programs ≡ procedures_with q (program_texts s) 0 s.procs ++ body_texts →
    new_system 0 main ctrl temp first areas stack programs ≡ generated s sizes base
system_is s sizes base q main m ctrl temp first areas stack programs q_is m_is main_is ctrl_is temp_is base_is areas_are stack_is programs_are =
    let r = program_of s in
    let opened : stack ≡ map (written_word (names_with s [])) (opening_words r) =
    stack_is ∙ ap opening_text (m_is ∙ ap (λ (z : Program). proc_at z z.main) q_is)
    ∙ sym (words_nameless (names_with s []) (map zero_value (proc_at r r.main).formals ++ (proc_at r r.main).locals)) in
    let written : programs ≡ written_procedures s 0 s.procs ++ body_texts =
    programs_are ∙ ap (λ (z : Program). procedures_with z (program_texts s) 0 s.procs ++ body_texts) q_is in
    λ j. new_system 0 (main_is j) (ctrl_is j) (temp_is j) (base_is j) (areas_are j) (opened j) (written j)
