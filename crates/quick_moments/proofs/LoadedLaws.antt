-- The machine that is loaded with a quick image and values.
use Rattle.std.proofs.Common.{◌≡◌, ℕ, zero, suc, ◌+◌, ◌-◌, ◌*◌, ◌≤◌, ◌<◌, ◌^◌, Bool, true, false, List, [], ◌∷◌, ◌++◌, length, map, refl, sym, ap, ◌∙◌, subst}
use Rattle.std.{proofs.Common.{arith, length-append, append_assoc, Option}, specs.Prelude.{get_or, ◌==◌, if◌then◌else◌, slice_index, reverse, replicate}}
use Rattle.std.{proofs.Math.ListN.length-reverse_aux, proofs.lemmas.Bool.eqb-true, proofs.lemmas.List.length-replicate}
use mathlib.Core.List.{reverse_aux}
use Rattle.stack_text.specs.Values.{ValueOf}
use Rattle.fm_words.{specs.Code.no_flags, specs.Word.word_of_int}
use Rattle.fm_machine.specs.State.{Fm}
use Rattle.fm_code.{specs.Execution.{AreParts, IsLaidOut, Holds, CodeAt, final_pc}, specs.InstructionWords.halt_word, proofs.CodeLaws.{code_whole, code_front}}
use Rattle.fm_code.proofs.CodeLaws.{code_after}
use Rattle.fm_loader.specs.Loaded.{loaded, with_values}
use Rattle.gypsy_syntax.{specs.declared.literal.Decl.Decl, specs.Programs.{Proc, shapes_of, words_of}, specs.ProgramFits.Each, specs.Resolved.program_of}
use Rattle.gypsy_syntax.{specs.Sources.{ProcOf, SourceOf}, specs.ValuesFit.{ValueFits, VarsFit}}
use Rattle.gypsy_check.specs.Accepted.{IsAccepted}
use Rattle.gypsy_space.specs.Needs.{StackSizes}
use Rattle.gypsy_semantics.proofs.Keeping.{vars_join, locals_fit}
use Rattle.gypsy_codegen.specs.WordsOf.{zero_value}
use Rattle.stack_build.{specs.Formals.{formals_in, shown_formals, shown_conditions}, specs.Image.slots_from, specs.Implements.FitsFormals}
use Rattle.stack_build.{specs.Internal.Showing.shapes_in, proofs.Laying.reversed_append, proofs.MainLaws.{main_is, zero_values}, proofs.Numbers.words_both}
use Rattle.stack_build.{proofs.Storing.{items_words, split, values_stored}, proofs.Windows.all_stand}
use Rattle.quick_code.{specs.Access.{Held, Reaches}, specs.Moments.{now, Stands}}
use Rattle.quick_gypsy.{specs.Numbers.numbers_of, specs.Layout.IsLayout, specs.Quick.{size, quick}, proofs.NumbersLaws.numbers_length}
use Rattle.quick_gypsy.{proofs.QuickLaws.quick_length, proofs.PlainLaws.lined_locals_fit}
use Rattle.quick_build.specs.QuickImage.{access_from, variable_address, register_table, layout_in, condition_cell, exit_numbers, exits_code, exit_place}
use Rattle.quick_build.{specs.QuickImplements.CanBeQuick, proofs.ExitLaws.{exits_length, numbers_count}, proofs.WindowLaws.{at_end, between}}
use Rattle.quick_build.specs.QuickImage.{
  start_of,
  final_of,
  quick_words,
  front_words,
  quick_window,
  quick_registers,
  quick_image_with,
  quick_image,
  quick_parts,
  quick_main,
  most_nested,
}

same_words : (x : List ValueOf) → numbers_of x ≡ items_words x
same_words [] = refl
same_words (v ∷ x) = ap (λ ws. map word_of_int v.items ++ ws) (same_words x)

-- ten registers hold the addresses
ten_at : (f : ℕ → ℕ) (r : ℕ) (j : ℕ) → j < 10 → slice_index (f 0 ∷ f 1 ∷ f 2 ∷ f 3 ∷ f 4 ∷ f 5 ∷ f 6 ∷ f 7 ∷ f 8 ∷ f 9 ∷ r ∷ []) j ≡ f j
ten_at f r zero h = refl
ten_at f r (suc zero) h = refl
ten_at f r (suc (suc zero)) h = refl
ten_at f r (suc (suc (suc zero))) h = refl
ten_at f r (suc (suc (suc (suc zero)))) h = refl
ten_at f r (suc (suc (suc (suc (suc zero))))) h = refl
ten_at f r (suc (suc (suc (suc (suc (suc zero)))))) h = refl
ten_at f r (suc (suc (suc (suc (suc (suc (suc zero))))))) h = refl
ten_at f r (suc (suc (suc (suc (suc (suc (suc (suc zero)))))))) h = refl
ten_at f r (suc (suc (suc (suc (suc (suc (suc (suc (suc zero))))))))) h = refl
ten_at f r (suc (suc (suc (suc (suc (suc (suc (suc (suc (suc j)))))))))) h = absurd (omega (arith, h))

held_at : (f : ℕ → ℕ) (t r k : ℕ) → 5 ≤ k → k < 15
    → slice_index (0 ∷ t ∷ t ∷ 0 ∷ 0 ∷ f 0 ∷ f 1 ∷ f 2 ∷ f 3 ∷ f 4 ∷ f 5 ∷ f 6 ∷ f 7 ∷ f 8 ∷ f 9 ∷ r ∷ []) k ≡ f (k - 5)
held_at f t r zero low high = absurd (omega (arith, low))
held_at f t r (suc zero) low high = absurd (omega (arith, low))
held_at f t r (suc (suc zero)) low high = absurd (omega (arith, low))
held_at f t r (suc (suc (suc zero))) low high = absurd (omega (arith, low))
held_at f t r (suc (suc (suc (suc zero)))) low high = absurd (omega (arith, low))
held_at f t r (suc (suc (suc (suc (suc j))))) low high =
    let e : j ≡ suc (suc (suc (suc (suc j)))) - 5 = omega arith in
    ten_at f r j (omega (arith, high)) ∙ ap f e

-- each variable is reached: those of the list by the registers from k on
reached : (table address : ℕ → ℕ) (k : ℕ) (vs : List ℕ) (b : ℕ) → 5 ≤ k → k + length vs ≤ 15
    → ((j : ℕ) → table (k + j) ≡ address (get_or vs j 0)) → Reaches table (access_from k vs b (address b)) (address b)
reached table address k [] b low high h = refl
reached table address k (v ∷ vs) b low high h =
    let later : (j : ℕ) → table (suc k + j) ≡ address (get_or vs j 0) =
    λ j. let next : suc k + j ≡ k + suc j = omega arith in ap table next ∙ h (suc j) in
    pick (reached table address (suc k) vs b (omega (arith, low)) (omega (arith, high)) later) (v == b) refl
  where
    pick : Reaches table (access_from (suc k) vs b (address b)) (address b) → (t : Bool) → (v == b) ≡ t
        → Reaches table (if t then Held k else access_from (suc k) vs b (address b)) (address b)
    pick rest true e =
        let same : k ≡ k + 0 = omega arith in
        (low, omega (arith, high), ap table same ∙ h 0 ∙ ap address (eqb-true v b e))
    pick rest false e = rest

-- the main procedure, in its window
module _ (vs : List ℕ) (ten : length vs ≤ 10) (p : Proc) (base end : ℕ) (room : final_of vs p base end + 1 ≤ condition_cell p end) (words : words_of
    (shapes_of p) < end) (fits : end < 2 ^ 32) where
  long : length (quick_words vs p base end) ≡ 6 * (2 + p.conds) + size (layout_in vs p end) p.body
  long =
      omega (
        arith,
        length-append (exits_code (condition_cell p end) (final_of vs p base end) (exit_numbers p.conds))
            (quick (layout_in vs p end) (exit_place base p.conds) (start_of p base) p.body),
        exits_length (condition_cell p end) (final_of vs p base end) (exit_numbers p.conds),
        numbers_count p.conds,
        quick_length (layout_in vs p end) (exit_place base p.conds) (start_of p base) p.body,
      )

  pub ends_there : final_pc (quick_parts vs p base end) ≡ final_of vs p base end
  ends_there = omega (arith, long)

  pub are_parts : AreParts (quick_parts vs p base end)
  are_parts =
      record {
        code_below = omega (arith, ends_there, room);
        areas_below = omega (arith, words);
        ctrl_below = omega arith;
        temp_below = omega arith;
        fits = fits;
      }

  pub is_layout : IsLayout (quick_parts vs p base end) (register_table vs p end) (layout_in vs p end)
  is_layout =
      record {
        end_is = refl;
        fits = fits;
        room = omega (arith, words);
        reaches = λ b bound. reached (register_table vs p end) (variable_address p end) 5 vs b (omega arith) (omega (arith, ten)) same;
      }
    where
      same : (j : ℕ) → register_table vs p end (5 + j) ≡ variable_address p end (get_or vs j 0)
      same j = let e : 5 + j - 5 ≡ j = omega arith in ap (λ i. variable_address p end (get_or vs i 0)) e

  -- the window with these values of all variables
  front_long : base + length (front_words vs p base end) ≡ end - words_of (shapes_of p)
  front_long =
      let gap = condition_cell p end - (final_of vs p base end + 1) in
      omega (
        arith,
        long,
        room,
        words,
        length-append (quick_words vs p base end) (halt_word ∷ (replicate gap 0 ++ 2 ∷ [])),
        length-append (replicate {A = ℕ} gap 0) (2 ∷ []),
        length-replicate {A = ℕ} gap 0,
      )

  laid : (y : List ValueOf) → VarsFit (shapes_of p) y → IsLaidOut (quick_parts vs p base end) (front_words vs p base end ++ reverse (numbers_of y))
      (end - words_of (shapes_of p)) (end - words_of (shapes_of p)) [] (reverse (numbers_of y)) (2 ∷ [])
  laid y f =
      let code = quick_words vs p base end in
      let gap = replicate {A = ℕ} (condition_cell p end - (final_of vs p base end + 1)) 0 in
      let r = reverse (numbers_of y) in
      let count : length r ≡ words_of (shapes_of p) = omega (arith, length-reverse_aux (numbers_of y) [], numbers_length (shapes_of p) y f) in
      let whole : (code ++ (halt_word ∷ (gap ++ 2 ∷ []))) ++ r ≡ (code ++ halt_word ∷ []) ++ ((gap ++ 2 ∷ []) ++ r) =
      append_assoc code (halt_word ∷ (gap ++ 2 ∷ [])) r ∙ sym (append_assoc code (halt_word ∷ []) ((gap ++ 2 ∷ []) ++ r)) in
      let middle : (code ++ (halt_word ∷ (gap ++ 2 ∷ []))) ++ r ≡ (code ++ halt_word ∷ gap) ++ ((2 ∷ []) ++ r) =
      ap (λ ws. ws ++ r) (sym (append_assoc code (halt_word ∷ gap) (2 ∷ []))) ∙ append_assoc (code ++ halt_word ∷ gap) (2 ∷ []) r in
      let start : base ≡ base + 0 = omega arith in
      record {
        size = omega (arith, front_long, count, words, length-append (front_words vs p base end) r);
        code = subst (λ m. Holds base m base (code ++ halt_word ∷ [])) (sym whole) (between base [] (code ++ halt_word ∷ []) ((gap ++ 2 ∷ []) ++ r)
            base start);
        areas_at = subst (λ m. Holds base m (condition_cell p end) (2 ∷ [])) (sym middle)
            (between base (code ++ halt_word ∷ gap) (2 ∷ []) r (condition_cell p end)
            (omega (
              arith,
              long,
              room,
              length-append code (halt_word ∷ gap),
              length-replicate {A = ℕ} (condition_cell p end - (final_of vs p base end
                  + 1)) 0,
            )));
        ctrl_at = tt;
        temp_at = subst (λ a. Holds base (front_words vs p base end ++ r) a r) front_long (at_end base (front_words vs p base end) r);
        areas_fit = omega (arith, words);
        ctrl_fits = omega arith;
        ctrl_end = omega arith;
        temp_fits = omega arith;
        temp_end = omega (arith, count, words);
      }

  pub machine : List ValueOf → Fm
  machine y = record {
    base = base;
    registers = quick_registers vs p base end;
    flags = no_flags;
    memory = front_words vs p base end ++ reverse
        (numbers_of y);
  }

  pub begins_with : (y : List ValueOf) → VarsFit (shapes_of p) y
      → Stands (quick_parts vs p base end) (register_table vs p end) [] (machine y) (start_of p base) (now 0 no_flags (numbers_of y) (2 ∷ []))
  unfolding machine
  begins_with y f =
      record {
        base_is = refl;
        sixteen = refl;
        flags_are = refl;
        r3_is = refl;
        r15_is = refl;
        held = held_at (λ j. variable_address p end (get_or vs j 0)) (end - words_of (shapes_of p)) (start_of p base);
        laid = laid y f;
      }

  -- what is loaded
  loads : (ds : List Decl) (conditions : List (List ℕ)) (new : List ValueOf) → p.formals ≡ shapes_in ds → Each (λ s. s.length ≤ 4096) p.formals
      → VarsFit p.formals new → Each ValueFits p.locals
      → loaded (quick_image_with vs ds conditions p base end) new ≡ machine (new ++ p.locals)
  unfolding machine
  loads ds conditions new e few f l =
      let old = map zero_value p.formals in
      let front = front_words vs p base end in
      let front' = front ++ reverse_aux (items_words p.locals) [] in
      let zeros = zero_values p.formals few in
      let all_fit : VarsFit (shapes_of p) (old ++ p.locals) = vars_join p.formals (map (λ (v : ValueOf). v.shape) p.locals) old p.locals zeros
      (locals_fit p.locals l) in
      let spread : (x : List ValueOf) → front ++ reverse (numbers_of (x ++ p.locals)) ≡ front' ++ reverse_aux (items_words x) [] =
      λ x. ap (λ ws. front ++ reverse_aux ws []) (same_words (x ++ p.locals) ∙ words_both x p.locals)
      ∙ ap (λ ws. front ++ ws) (reversed_append (items_words x) (items_words p.locals) [])
      ∙ split front (items_words p.locals) (reverse_aux (items_words x) []) in
      let count : length (reverse (numbers_of (old ++ p.locals))) ≡ words_of (shapes_of p) =
      omega (arith, length-reverse_aux (numbers_of (old ++ p.locals)) [], numbers_length (shapes_of p) (old ++ p.locals) all_fit) in
      let size : length (quick_window vs p base end) ≡ end - base =
      omega (arith, front_long, count, words, length-append front (reverse (numbers_of (old ++ p.locals)))) in
      let counted : length (front' ++ reverse_aux (items_words old) []) ≡ length front' + length (items_words old) =
      length-append front' (reverse_aux (items_words old) []) ∙ omega (arith, length-reverse_aux (items_words old) []) in
      let at : end - 1 ≡ base + length front' + length (items_words old) - 1 =
      omega (arith, size, counted, ap length (spread old), front_long, words) in
      ap (λ (memory : List ℕ). record { base = base; registers = quick_registers vs p base end; flags = no_flags; memory = memory })
      (ap (with_values base (slots_from (end - 1) ds) new) (all_stand base (end - base) (quick_window vs p base end) size ∙ spread old)
      ∙ values_stored base (end - 1) ds old new front' [] (subst (λ shapes. VarsFit shapes old) e zeros) (subst (λ shapes. VarsFit shapes new) e f) at
      ∙ sym (spread new))

-- the source's main, in its window
module _ (vs : List ℕ) (s : SourceOf) (base end : ℕ) (sizes : StackSizes) (values : List ValueOf) (accepted : IsAccepted s)
    (can : CanBeQuick vs s sizes base end) (fits : FitsFormals s values) where
  abbrev p : Proc
  p = quick_main s sizes

  formals_are : p.formals ≡ shapes_in (shown_formals s)
  formals_are =
      let main = main_is s accepted in
      ap (λ (z : Proc). z.formals) main.1.at ∙ ap (λ (o : Option ProcOf). shapes_in (formals_in o)) (sym main.1.found)

  pub loaded_is : loaded (quick_image vs s sizes base end) values ≡ machine vs can.ten p base end can.room can.words can.fits (values ++ p.locals)
  loaded_is =
      let here = accepted.fits.procs (program_of s).main in
      loads vs can.ten p base end can.room can.words can.fits (shown_formals s) (shown_conditions s) values formals_are here.formals fits
      (lined_locals_fit (program_of s) sizes most_nested accepted.fits)

  pub begun_fits : VarsFit (shapes_of p) (values ++ p.locals)
  begun_fits =
      vars_join p.formals (map (λ (v : ValueOf). v.shape) p.locals) values p.locals fits
      (locals_fit p.locals (lined_locals_fit (program_of s) sizes most_nested accepted.fits))

  pub exits_there : CodeAt (quick_parts vs p base end) base (exits_code (condition_cell p end) (final_of vs p base end) (exit_numbers p.conds))
  exits_there =
      code_front (quick_parts vs p base end) base (exits_code (condition_cell p end) (final_of vs p base end) (exit_numbers p.conds))
      (quick (layout_in vs p end) (exit_place base p.conds) (start_of p base) p.body) (code_whole (quick_parts vs p base end))

  pub code_there : CodeAt (quick_parts vs p base end) (start_of p base) (quick (layout_in vs p end) (exit_place base p.conds) (start_of p base) p.body)
  code_there =
      let P = quick_parts vs p base end in
      let exits = exits_code (condition_cell p end) (final_of vs p base end) (exit_numbers p.conds) in
      let code = quick (layout_in vs p end) (exit_place base p.conds) (start_of p base) p.body in
      let after_exits : base + length exits ≡ start_of p base =
      omega (arith, exits_length (condition_cell p end) (final_of vs p base end) (exit_numbers p.conds), numbers_count p.conds) in
      subst (λ a. CodeAt P a code) after_exits (code_after P base exits code (code_whole P))
