-- A program of lines that name what is there: it keeps the form, breaks no rule, and is seen as the code by places.
use Rattle.std.proofs.Common.{◌≡◌, ℕ, suc, ◌+◌, ◌-◌, ◌<◌, ◌≤◌, ◌^◌, List, [], ◌∷◌, ◌++◌, map, length, slice_get, All, true, Option, Some, unwrap_or, refl, sym}
use Rattle.std.{proofs.Common.{ap, subst, ◌∙◌, arith, flat_map, length-append}, specs.Prelude.{IsTrue, not}, proofs.lemmas.List.length-map}
use Rattle.std.proofs.lemmas.List.Elements.{All-nil, All-cons}
use Rattle.stack_text.{specs.Names.is_name, specs.Grammar.Parts.IsNamed, specs.Breaches.when, specs.Grammar.Printed.unplaced, proofs.SharedLaws.both_none}
use Rattle.stack_text.proofs.SharedLaws.{get_map}
use Rattle.piton_words.specs.declared.word.Word.{Word}
use Rattle.piton_syntax.{specs.Systems.{ProgramOf, SystemOf}, specs.Fits.{FitsInstruction, FitsTemporary, FitsProgram}}
use Rattle.piton_check.specs.Declarations.{label_name as label_of, local_names, label_names, formal_name, temporary_name, first_of, repeats}
use Rattle.piton_check.specs.Violations.{temporary_breaches, instruction_breaches, end_breaches, program_breaches, is_end}
use Rattle.piton_check.{specs.Resolved.{resolved_instruction, resolved_temporary, resolved_program}, specs.Instruction.{Instruction, instruction_view}}
use Rattle.piton_check.specs.Instruction.{program_view}
use Rattle.piton_check.specs.Instruction as i
use Rattle.gypsy_syntax.specs.ProgramFits.{Each}
use Rattle.gypsy_codegen.{specs.Written.{Names, Line, Plain, Marked, label_text, written_word, written, line_with_places}, specs.Text.temporaries_of}
use Rattle.gypsy_codegen.{proofs.InstructionLaws.{InRange, World, Known, says, word_clean, word_fits, word_resolves}, proofs.LabelLaws.{Distinct, Ranged, Good}}
use Rattle.gypsy_codegen.{proofs.LabelLaws.{declared, good_all, label_named}, proofs.DeclareLaws.{Apart, no_repeats, labels_apart, declarations, Differ}}
use Rattle.gypsy_codegen.{proofs.DeclareLaws.names_apart, proofs.ResolveLaws.found, proofs.FineLaws.{Marks, FineLine}}

-- ---- lists

pub last_part : {X : Type 0} (xs ys : List X) → 0 < length ys → slice_get (xs ++ ys) (length (xs ++ ys) - 1) ≡ slice_get ys (length ys - 1)
last_part [] ys some = refl
last_part {X} (x ∷ xs) ys some =
    let more : suc (length (xs ++ ys)) - 1 ≡ suc (length (xs ++ ys) - 1) = omega (arith, some, length-append xs ys) in
    ap (λ k. slice_get (x ∷ xs ++ ys) k) more ∙ last_part xs ys some

-- ---- labels

marks_good : (t : ProgramOf) (hi at : ℕ) (ls : List Line) → hi ≤ 2 ^ 32 → Ranged 0 hi ls → Good (λ m. first_of (label_names t) (label_text m)) at ls →
    Marks (Known t (found (λ m. first_of (label_names t) (label_text m)))) ls
marks_good t hi at [] le r g = tt
marks_good t hi at (Plain i ∷ ls) le r g = marks_good t hi (at + 1) ls le r g
marks_good t hi at (Marked m i ∷ ls) le r g =
    ((g.0 ∙ ap Some (sym (ap (λ o. unwrap_or o 0) g.0)), label_named m (omega (arith, r.1, le))), marks_good t hi (at + 1) ls le r.2 g.1)

-- ---- instructions

module _ (s : SystemOf) (t : ProgramOf) (n : Names) (f : ℕ → ℕ) (locals programs : ℕ) (w : World s t n locals programs) where
  line_clean : (l : Line) → FineLine t f locals programs l → instruction_breaches s t (written n l) ≡ []
  line_clean (Plain ins) h = (says s t n f locals programs w ins h).clean
  line_clean (Marked l ins) h = (says s t n f locals programs w ins h.1).clean

  line_view : (l : Line) → FineLine t f locals programs l → instruction_view (resolved_instruction s t (written n l)) ≡ line_with_places f l
  line_view (Plain ins) h = (says s t n f locals programs w ins h).view
  line_view (Marked l ins) h = (says s t n f locals programs w ins h.1).view

  line_fits : (l : Line) → FineLine t f locals programs l → FitsInstruction (written n l)
  line_fits (Plain ins) h = record { label = tt; args = (says s t n f locals programs w ins h).fits }
  line_fits (Marked l ins) h = record { label = h.0.1; args = (says s t n f locals programs w ins h.1).fits }

  pub lines_clean : (ls : List Line) → Each (FineLine t f locals programs) ls → flat_map (instruction_breaches s t) (map (written n) ls) ≡ []
  lines_clean [] h = refl
  lines_clean (l ∷ ls) h = both_none _ _ (line_clean l h.0) (lines_clean ls h.1)

  pub lines_view : (ls : List Line) → Each (FineLine t f locals programs) ls → map instruction_view
      (map (resolved_instruction s t) (map (written n) ls)) ≡ map (line_with_places f) ls
  lines_view [] h = refl
  lines_view (l ∷ ls) h =
      ap (λ z. z ∷ map instruction_view (map (resolved_instruction s t) (map (written n) ls))) (line_view l h.0)
      ∙ ap (λ z. line_with_places f l ∷ z) (lines_view ls h.1)

  pub lines_fit : (ls : List Line) → Each (FineLine t f locals programs) ls → All FitsInstruction (map (written n) ls)
  lines_fit [] h = All-nil FitsInstruction
  lines_fit (l ∷ ls) h = All-cons FitsInstruction (written n l) (map (written n) ls) (line_fits l h.0) (lines_fit ls h.1)

-- ---- formals and temporaries

pub formals_fit : (names : List (List ℕ)) → Each (λ name. IsTrue (is_name name)) names → All IsNamed (map unplaced names)
formals_fit [] h = All-nil IsNamed
formals_fit (name ∷ names) h = All-cons IsNamed (unplaced name) (map unplaced names) h.0 (formals_fit names h.1)

pub temporaries_fit : (n : Names) (names : List (List ℕ)) (ws : List Word) → Each (λ name. IsTrue (is_name name)) names → Each InRange ws
    → All FitsTemporary (temporaries_of n names ws)
temporaries_fit n [] ws h k = All-nil FitsTemporary
temporaries_fit n (name ∷ names) [] h k = All-nil FitsTemporary
temporaries_fit n (name ∷ names) (w ∷ ws) h k =
    All-cons FitsTemporary (unplaced name, written_word n w) (temporaries_of n names ws) (h.0, word_fits n w k.0) (temporaries_fit n names ws h.1 k.1)

pub temporaries_clean : (s : SystemOf) (n : Names) (names : List (List ℕ)) (ws : List Word) → Each InRange ws
    → flat_map (temporary_breaches s) (temporaries_of n names ws) ≡ []
temporaries_clean s n [] ws k = refl
temporaries_clean s n (name ∷ names) [] k = refl
temporaries_clean s n (name ∷ names) (w ∷ ws) k = both_none _ _ (word_clean s n w k.0) (temporaries_clean s n names ws k.1)

pub temporaries_view : (s : SystemOf) (n : Names) (names : List (List ℕ)) (ws : List Word) → length names ≡ length ws → Each InRange ws →
    map (resolved_temporary s) (temporaries_of n names ws) ≡ ws
temporaries_view s n [] [] e k = refl
temporaries_view s n [] (w ∷ ws) e k = absurd (omega (arith, e))
temporaries_view s n (name ∷ names) [] e k = absurd (omega (arith, e))
temporaries_view s n (name ∷ names) (w ∷ ws) e k =
    ap (λ z. z ∷ map (resolved_temporary s) (temporaries_of n names ws)) (word_resolves s n w k.0)
    ∙ ap (λ z. w ∷ z) (temporaries_view s n names ws (omega (arith, e)) k.1)

pub temporaries_count : (n : Names) (names : List (List ℕ)) (ws : List Word) → length names ≡ length ws → length (temporaries_of n names ws) ≡ length names
temporaries_count n [] [] e = refl
temporaries_count n [] (w ∷ ws) e = absurd (omega (arith, e))
temporaries_count n (name ∷ names) [] e = absurd (omega (arith, e))
temporaries_count n (name ∷ names) (w ∷ ws) e = ap suc (temporaries_count n names ws (omega (arith, e)))

pub formals_declared : (names : List (List ℕ)) → map formal_name (map unplaced names) ≡ declarations names
formals_declared [] = refl
formals_declared (name ∷ names) = ap (λ z. Some (unplaced name) ∷ z) (formals_declared names)

pub temporaries_declared : (n : Names) (names : List (List ℕ)) (ws : List Word) → length names ≡ length ws
    → map temporary_name (temporaries_of n names ws) ≡ declarations names
temporaries_declared n [] [] e = refl
temporaries_declared n [] (w ∷ ws) e = absurd (omega (arith, e))
temporaries_declared n (name ∷ names) [] e = absurd (omega (arith, e))
temporaries_declared n (name ∷ names) (w ∷ ws) e = ap (λ z. Some (unplaced name) ∷ z) (temporaries_declared n names ws (omega (arith, e)))

-- ---- programs

-- the program keeps the form, breaks no rule, and is seen as this one
pub record Clean (s : SystemOf) (t : ProgramOf) (m : i.ProgramView) : Type 0 where
  pub fits : FitsProgram t
  pub clean : program_breaches s t ≡ []
  pub view : program_view (resolved_program s t) ≡ m

-- what is known of a program of lines
pub record Made (s : SystemOf) (t : ProgramOf) (n : Names) (ls : List Line) (frame : List (List ℕ)) (ws : List Word) (programs hi : ℕ) : Type 0 where
  pub instrs : t.instrs ≡ map (written n) ls
  pub named : IsNamed t.name
  pub formals : All IsNamed t.formals
  pub temporaries : All FitsTemporary t.temporaries
  pub words_clean : flat_map (temporary_breaches s) t.temporaries ≡ []
  pub words_view : map (resolved_temporary s) t.temporaries ≡ ws
  pub frame_names : local_names t ≡ declarations frame
  pub frame_differ : Differ frame
  pub few_locals : length frame ≤ 400
  pub count : length t.formals + length t.temporaries ≡ length frame
  pub distinct : Distinct ls
  pub ranged : Ranged 0 hi ls
  pub small : hi ≤ 2 ^ 32
  pub few : length ls ≤ 1048576
  pub last : (l : Line) × (slice_get ls (length ls - 1) ≡ Some l) × (is_end (written n l).op ≡ true)
  pub world : World s t n (length frame) programs

-- the places of its labels
abbrev pub places : ProgramOf → ℕ → Option ℕ
places t = λ m. first_of (label_names t) (label_text m)

ends : (n : Names) (ls : List Line) (l : Line) → slice_get ls (length ls - 1) ≡ Some l → is_end (written n l).op ≡ true
    → end_breaches (slice_get (map (written n) ls) (length (map (written n) ls) - 1)) ≡ []
ends n ls l e h =
    ap (λ k. end_breaches (slice_get (map (written n) ls) (k - 1))) (length-map ls (written n))
    ∙ ap end_breaches (get_map (written n) ls (length ls - 1) l e)
    ∙ ap (λ b. when (not b) (written n l).place 12) h

some_last : (ls : List Line) (l : Line) → slice_get ls (length ls - 1) ≡ Some l → 0 < length ls
some_last [] l e = absurd cc
some_last (x ∷ ls) l e = omega arith

module _ (s : SystemOf) (t : ProgramOf) (n : Names) (ls : List Line) (frame : List (List ℕ)) (ws : List Word) (programs hi : ℕ)
    (m : Made s t n ls frame ws programs hi) where
  labels_are : label_names t ≡ declared n ls
  labels_are = ap (λ is. map label_of is) m.instrs

  pub made_good : Good (places t) 0 ls
  made_good = subst (λ ds. Good (λ l. first_of ds (label_text l)) 0 ls) (sym labels_are) (good_all n hi ls m.small m.distinct m.ranged)

  pub made_marks : Marks (Known t (found (places t))) ls
  made_marks = marks_good t hi 0 ls m.small m.ranged made_good

  pub made_clean : Each (FineLine t (found (places t)) (length frame) programs) ls
      → Clean s t (record { formals = length t.formals; temporaries = ws; instructions = map (line_with_places (found (places t))) ls })
  made_clean sure =
      let f = found (places t) in
      let locals_once : repeats 5 [] (local_names t) ≡ [] = no_repeats 5 (local_names t) (subst Apart (sym m.frame_names) (names_apart frame m.frame_differ)) in
      let labels_once : repeats 6 [] (label_names t) ≡ [] =
      no_repeats 6 (label_names t) (subst Apart (sym labels_are) (labels_apart n hi ls m.small m.distinct m.ranged)) in
      let lines_keep : flat_map (instruction_breaches s t) t.instrs ≡ [] =
      ap (flat_map (instruction_breaches s t)) m.instrs ∙ lines_clean s t n f (length frame) programs m.world ls sure in
      let end_keeps : end_breaches (slice_get t.instrs (length t.instrs - 1)) ≡ [] =
      ap (λ is. end_breaches (slice_get is (length is - 1))) m.instrs ∙ ends n ls m.last.0 m.last.1 m.last.2 in
      let seen : map instruction_view (map (resolved_instruction s t) t.instrs) ≡ map (line_with_places f) ls =
      ap (λ is. map instruction_view (map (resolved_instruction s t) is)) m.instrs ∙ lines_view s t n f (length frame) programs m.world ls sure in
      let instr_count : length t.instrs ≡ length ls = ap length m.instrs ∙ length-map ls (written n) in
      record {
        fits = record {
          name = m.named;
          formals = m.formals;
          temporaries = m.temporaries;
          instrs = subst (All FitsInstruction) (sym m.instrs) (lines_fit s t n f (length frame) programs m.world ls sure);
          few_locals = omega (arith, m.count, m.few_locals);
          some_instrs = let some = some_last ls m.last.0 m.last.1 in omega (arith, some, instr_count);
          few_instrs = omega (arith, instr_count, m.few);
        };
        clean = both_none _ _ (both_none _ _ (both_none _ _ (both_none _ _ locals_once labels_once) m.words_clean) lines_keep) end_keeps;
        view = λ k. record { formals = length t.formals; temporaries = m.words_view k; instructions = seen k };
      }
