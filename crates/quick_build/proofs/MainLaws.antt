-- The machine that is loaded with a quick image and values, its run, and what is read at its end.
use Rattle.std.proofs.Common.{
  ◌≡◌,
  ℕ,
  zero,
  suc,
  ◌+◌,
  ◌-◌,
  ◌*◌,
  ◌≤◌,
  ◌<◌,
  ◌^◌,
  Some,
  None,
  Bool,
  true,
  false,
  List,
  [],
  ◌∷◌,
  ◌++◌,
  length,
  take,
  drop,
  map,
  refl,
  sym,
  ap,
  ◌∙◌,
  subst,
  arith,
}
use Rattle.std.{proofs.Common.{length-append, append_assoc, Option}, specs.Prelude.{get_or, ◌==◌, if◌then◌else◌, slice_index, reverse, replicate}}
use Rattle.std.{proofs.Math.ListN.length-reverse_aux, proofs.lemmas.Bool.eqb-true, proofs.lemmas.List.{length-map, length-replicate}}
use mathlib.Core.List.{reverse_aux}
use Rattle.stack_text.{specs.declared.name.Named.Named, specs.Values.ValueOf}
use Rattle.fm_words.{specs.Code.no_flags, specs.declared.condition.Flags.Flags, specs.Word.word_of_int}
use Rattle.fm_machine.{specs.State.Fm, specs.Run.{IsFirst, Avoids, fm_run}}
use Rattle.fm_code.{specs.Execution.{AreParts, IsLaidOut, Holds, CodeAt, final_pc}, specs.InstructionWords.halt_word, proofs.CodeLaws.{code_whole, code_front}}
use Rattle.fm_code.proofs.CodeLaws.{code_after}
use Rattle.fm_loader.specs.Loaded.{loaded, with_values}
use Rattle.display_maps.specs.Reading.{reading, word_or_zero, condition_of}
use Rattle.gypsy_syntax.{specs.declared.literal.Decl.Decl, specs.Programs.{Proc, Program, proc_at, shapes_of, words_of}, specs.ProgramFits.Each}
use Rattle.gypsy_syntax.{specs.Resolved.program_of, specs.Sources.{ProcOf, SourceOf}, specs.ValuesFit.{ValueFits, VarsFit}}
use Rattle.gypsy_check.specs.Accepted.{IsAccepted}
use Rattle.gypsy_space.{specs.Costs.Tally, specs.Needs.{StackSizes, main_used}}
use Rattle.gypsy_semantics.{specs.Calls.{CurrentCondition, main_formals, main_way}, specs.Meaning.{MeaningOutcome, Done, Unfinished, evaluate, meaning}}
use Rattle.gypsy_semantics.{specs.Meaning.main_end, specs.Counted.{CountedOutcome, CountedDone, CountedUnfinished, counted_meaning, uncounted}}
use Rattle.gypsy_semantics.{proofs.CountLaws.meaning-uncounted, proofs.Keeping.{vars_join, locals_fit}, proofs.LendingLaws.as_many}
use Rattle.gypsy_codegen.specs.WordsOf.{number_of, number_of_way, zero_value}
use Rattle.stack_build.{specs.ComesTo.ComesTo, specs.Formals.{formals_in, formal_conditions_in, shown_formals, shown_conditions, formal_conditions}}
use Rattle.stack_build.{specs.Image.slots_from, specs.Implements.{meaning_shown, way_shown, FitsFormals}, specs.Internal.Showing.shapes_in}
use Rattle.stack_build.{proofs.Ending.{ends_well, way_read}, proofs.Laying.{reversed_append, Holds-reversed}, proofs.MainLaws.{main_is, zero_values}}
use Rattle.stack_build.{proofs.Numbers.words_both, proofs.ReadBack.{word_read, values_read}, proofs.Storing.{items_words, split, values_stored}}
use Rattle.stack_build.{proofs.Windows.all_stand, proofs.MeantLaws.first_once}
use Rattle.quick_code.{specs.Access.{Held, Reaches}, specs.Moments.{now, Stands, Comes}, proofs.StandLaws.comes_then}
use Rattle.quick_gypsy.{specs.Numbers.numbers_of, specs.Layout.IsLayout, specs.Quick.{size, quick, quick_cost}, specs.QuickRuns.{StandsWith, ComesWith}}
use Rattle.quick_gypsy.{specs.QuickRuns.goal_of, proofs.NumbersLaws.numbers_length, proofs.QuickLaws.{statements_run, statements_go_on, quick_length}}
use Rattle.quick_gypsy.{specs.InLineRuns.{CanLine, lined_outcome}, proofs.LinedLaws.{calls_are_lined, lined_calls_go_on}}
use Rattle.quick_gypsy.proofs.PlainLaws.{lined_mains_are_plain, lined_locals_fit}
use Rattle.quick_build.specs.QuickImage.{
  access_from,
  variable_address,
  register_table,
  layout_in,
  condition_cell,
  exit_numbers,
  exits_code,
  exit_of,
  exit_place,
}
use Rattle.quick_build.specs.QuickImage.{
  start_of,
  final_of,
  quick_words,
  front_words,
  quick_window,
  quick_registers,
  quick_image_with,
  quick_image,
  quick_parts,
  quick_main,
  most_nested,
}
use Rattle.quick_build.specs.QuickImplements.{
  exit_cost,
  program_cost,
  CanBeQuick,
  QuickImagesImplement,
  QuickGoesOn,
  QuickImagesGoOn,
  QuickIsMeant,
  QuickImagesEndAsMeant,
  bound_for,
}
use Rattle.quick_build.{proofs.ExitLaws.{exits_length, numbers_count, exit_number, exit_there, exit_jumps}, proofs.WindowLaws.{at_end, between}}

pub same_words : (x : List ValueOf) → numbers_of x ≡ items_words x
same_words [] = refl
same_words (v ∷ x) = ap (λ ws. map word_of_int v.items ++ ws) (same_words x)

-- ten registers hold the addresses
ten_at : (f : ℕ → ℕ) (r : ℕ) (j : ℕ) → j < 10 → slice_index (f 0 ∷ f 1 ∷ f 2 ∷ f 3 ∷ f 4 ∷ f 5 ∷ f 6 ∷ f 7 ∷ f 8 ∷ f 9 ∷ r ∷ []) j ≡ f j
ten_at f r zero h = refl
ten_at f r (suc zero) h = refl
ten_at f r (suc (suc zero)) h = refl
ten_at f r (suc (suc (suc zero))) h = refl
ten_at f r (suc (suc (suc (suc zero)))) h = refl
ten_at f r (suc (suc (suc (suc (suc zero))))) h = refl
ten_at f r (suc (suc (suc (suc (suc (suc zero)))))) h = refl
ten_at f r (suc (suc (suc (suc (suc (suc (suc zero))))))) h = refl
ten_at f r (suc (suc (suc (suc (suc (suc (suc (suc zero)))))))) h = refl
ten_at f r (suc (suc (suc (suc (suc (suc (suc (suc (suc zero))))))))) h = refl
ten_at f r (suc (suc (suc (suc (suc (suc (suc (suc (suc (suc j)))))))))) h = absurd (omega (arith, h))

held_at : (f : ℕ → ℕ) (t r k : ℕ) → 5 ≤ k → k < 15
    → slice_index (0 ∷ t ∷ t ∷ 0 ∷ 0 ∷ f 0 ∷ f 1 ∷ f 2 ∷ f 3 ∷ f 4 ∷ f 5 ∷ f 6 ∷ f 7 ∷ f 8 ∷ f 9 ∷ r ∷ []) k ≡ f (k - 5)
held_at f t r zero low high = absurd (omega (arith, low))
held_at f t r (suc zero) low high = absurd (omega (arith, low))
held_at f t r (suc (suc zero)) low high = absurd (omega (arith, low))
held_at f t r (suc (suc (suc zero))) low high = absurd (omega (arith, low))
held_at f t r (suc (suc (suc (suc zero)))) low high = absurd (omega (arith, low))
held_at f t r (suc (suc (suc (suc (suc j))))) low high =
    let e : j ≡ suc (suc (suc (suc (suc j)))) - 5 = omega arith in
    ten_at f r j (omega (arith, high)) ∙ ap f e

-- each variable is reached: those of the list by the registers from k on
reached : (table address : ℕ → ℕ) (k : ℕ) (vs : List ℕ) (b : ℕ) → 5 ≤ k → k + length vs ≤ 15
    → ((j : ℕ) → table (k + j) ≡ address (get_or vs j 0)) → Reaches table (access_from k vs b (address b)) (address b)
reached table address k [] b low high h = refl
reached table address k (v ∷ vs) b low high h =
    let later : (j : ℕ) → table (suc k + j) ≡ address (get_or vs j 0) =
    λ j. let next : suc k + j ≡ k + suc j = omega arith in ap table next ∙ h (suc j) in
    pick (reached table address (suc k) vs b (omega (arith, low)) (omega (arith, high)) later) (v == b) refl
  where
    pick : Reaches table (access_from (suc k) vs b (address b)) (address b) → (t : Bool) → (v == b) ≡ t
        → Reaches table (if t then Held k else access_from (suc k) vs b (address b)) (address b)
    pick rest true e =
        let same : k ≡ k + 0 = omega arith in
        (low, omega (arith, high), ap table same ∙ h 0 ∙ ap address (eqb-true v b e))
    pick rest false e = rest

-- the main procedure, in its window
module _ (vs : List ℕ) (ten : length vs ≤ 10) (p : Proc) (base end : ℕ) (room : final_of vs p base end + 1 ≤ condition_cell p end) (words : words_of
    (shapes_of p) < end) (fits : end < 2 ^ 32) where
  long : length (quick_words vs p base end) ≡ 6 * (2 + p.conds) + size (layout_in vs p end) p.body
  long =
      omega (
        arith,
        length-append (exits_code (condition_cell p end) (final_of vs p base end) (exit_numbers p.conds))
            (quick (layout_in vs p end) (exit_place base p.conds) (start_of p base) p.body),
        exits_length (condition_cell p end) (final_of vs p base end) (exit_numbers p.conds),
        numbers_count p.conds,
        quick_length (layout_in vs p end) (exit_place base p.conds) (start_of p base) p.body,
      )

  ends_there : final_pc (quick_parts vs p base end) ≡ final_of vs p base end
  ends_there = omega (arith, long)

  are_parts : AreParts (quick_parts vs p base end)
  are_parts =
      record {
        code_below = omega (arith, ends_there, room);
        areas_below = omega (arith, words);
        ctrl_below = omega arith;
        temp_below = omega arith;
        fits = fits;
      }

  is_layout : IsLayout (quick_parts vs p base end) (register_table vs p end) (layout_in vs p end)
  is_layout =
      record {
        end_is = refl;
        fits = fits;
        room = omega (arith, words);
        reaches = λ b bound. reached (register_table vs p end) (variable_address p end) 5 vs b (omega arith) (omega (arith, ten)) same;
      }
    where
      same : (j : ℕ) → register_table vs p end (5 + j) ≡ variable_address p end (get_or vs j 0)
      same j = let e : 5 + j - 5 ≡ j = omega arith in ap (λ i. variable_address p end (get_or vs i 0)) e

  -- the window with these values of all variables
  front_long : base + length (front_words vs p base end) ≡ end - words_of (shapes_of p)
  front_long =
      let gap = condition_cell p end - (final_of vs p base end + 1) in
      omega (
        arith,
        long,
        room,
        words,
        length-append (quick_words vs p base end) (halt_word ∷ (replicate gap 0 ++ 2 ∷ [])),
        length-append (replicate {A = ℕ} gap 0) (2 ∷ []),
        length-replicate {A = ℕ} gap 0,
      )

  laid : (y : List ValueOf) → VarsFit (shapes_of p) y → IsLaidOut (quick_parts vs p base end) (front_words vs p base end ++ reverse (numbers_of y))
      (end - words_of (shapes_of p)) (end - words_of (shapes_of p)) [] (reverse (numbers_of y)) (2 ∷ [])
  laid y f =
      let code = quick_words vs p base end in
      let gap = replicate {A = ℕ} (condition_cell p end - (final_of vs p base end + 1)) 0 in
      let r = reverse (numbers_of y) in
      let count : length r ≡ words_of (shapes_of p) = omega (arith, length-reverse_aux (numbers_of y) [], numbers_length (shapes_of p) y f) in
      let whole : (code ++ (halt_word ∷ (gap ++ 2 ∷ []))) ++ r ≡ (code ++ halt_word ∷ []) ++ ((gap ++ 2 ∷ []) ++ r) =
      append_assoc code (halt_word ∷ (gap ++ 2 ∷ [])) r ∙ sym (append_assoc code (halt_word ∷ []) ((gap ++ 2 ∷ []) ++ r)) in
      let middle : (code ++ (halt_word ∷ (gap ++ 2 ∷ []))) ++ r ≡ (code ++ halt_word ∷ gap) ++ ((2 ∷ []) ++ r) =
      ap (λ ws. ws ++ r) (sym (append_assoc code (halt_word ∷ gap) (2 ∷ []))) ∙ append_assoc (code ++ halt_word ∷ gap) (2 ∷ []) r in
      let start : base ≡ base + 0 = omega arith in
      record {
        size = omega (arith, front_long, count, words, length-append (front_words vs p base end) r);
        code = subst (λ m. Holds base m base (code ++ halt_word ∷ [])) (sym whole) (between base [] (code ++ halt_word ∷ []) ((gap ++ 2 ∷ []) ++ r)
            base start);
        areas_at = subst (λ m. Holds base m (condition_cell p end) (2 ∷ [])) (sym middle)
            (between base (code ++ halt_word ∷ gap) (2 ∷ []) r (condition_cell p end)
            (omega (
              arith,
              long,
              room,
              length-append code (halt_word ∷ gap),
              length-replicate {A = ℕ} (condition_cell p end - (final_of vs p base end
                  + 1)) 0,
            )));
        ctrl_at = tt;
        temp_at = subst (λ a. Holds base (front_words vs p base end ++ r) a r) front_long (at_end base (front_words vs p base end) r);
        areas_fit = omega (arith, words);
        ctrl_fits = omega arith;
        ctrl_end = omega arith;
        temp_fits = omega arith;
        temp_end = omega (arith, count, words);
      }

  machine : List ValueOf → Fm
  machine y = record {
    base = base;
    registers = quick_registers vs p base end;
    flags = no_flags;
    memory = front_words vs p base end ++ reverse
        (numbers_of y);
  }

  begins_with : (y : List ValueOf) → VarsFit (shapes_of p) y
      → Stands (quick_parts vs p base end) (register_table vs p end) [] (machine y) (start_of p base) (now 0 no_flags (numbers_of y) (2 ∷ []))
  unfolding machine
  begins_with y f =
      record {
        base_is = refl;
        sixteen = refl;
        flags_are = refl;
        r3_is = refl;
        r15_is = refl;
        held = held_at (λ j. variable_address p end (get_or vs j 0)) (end - words_of (shapes_of p)) (start_of p base);
        laid = laid y f;
      }

  -- what is loaded
  loads : (ds : List Decl) (conditions : List (List ℕ)) (new : List ValueOf) → p.formals ≡ shapes_in ds → Each (λ s. s.length ≤ 4096) p.formals
      → VarsFit p.formals new → Each ValueFits p.locals
      → loaded (quick_image_with vs ds conditions p base end) new ≡ machine (new ++ p.locals)
  unfolding machine
  loads ds conditions new e few f l =
      let old = map zero_value p.formals in
      let front = front_words vs p base end in
      let front' = front ++ reverse_aux (items_words p.locals) [] in
      let zeros = zero_values p.formals few in
      let all_fit : VarsFit (shapes_of p) (old ++ p.locals) = vars_join p.formals (map (λ (v : ValueOf). v.shape) p.locals) old p.locals zeros
      (locals_fit p.locals l) in
      let spread : (x : List ValueOf) → front ++ reverse (numbers_of (x ++ p.locals)) ≡ front' ++ reverse_aux (items_words x) [] =
      λ x. ap (λ ws. front ++ reverse_aux ws []) (same_words (x ++ p.locals) ∙ words_both x p.locals)
      ∙ ap (λ ws. front ++ ws) (reversed_append (items_words x) (items_words p.locals) [])
      ∙ split front (items_words p.locals) (reverse_aux (items_words x) []) in
      let count : length (reverse (numbers_of (old ++ p.locals))) ≡ words_of (shapes_of p) =
      omega (arith, length-reverse_aux (numbers_of (old ++ p.locals)) [], numbers_length (shapes_of p) (old ++ p.locals) all_fit) in
      let size : length (quick_window vs p base end) ≡ end - base =
      omega (arith, front_long, count, words, length-append front (reverse (numbers_of (old ++ p.locals)))) in
      let counted : length (front' ++ reverse_aux (items_words old) []) ≡ length front' + length (items_words old) =
      length-append front' (reverse_aux (items_words old) []) ∙ omega (arith, length-reverse_aux (items_words old) []) in
      let at : end - 1 ≡ base + length front' + length (items_words old) - 1 =
      omega (arith, size, counted, ap length (spread old), front_long, words) in
      ap (λ (memory : List ℕ). record { base = base; registers = quick_registers vs p base end; flags = no_flags; memory = memory })
      (ap (with_values base (slots_from (end - 1) ds) new) (all_stand base (end - base) (quick_window vs p base end) size ∙ spread old)
      ∙ values_stored base (end - 1) ds old new front' [] (subst (λ shapes. VarsFit shapes old) e zeros) (subst (λ shapes. VarsFit shapes new) e f) at
      ∙ sym (spread new))

-- variables, of which the first are shown
parted : (k : ℕ) (y : List ValueOf) → numbers_of y ≡ items_words (take k y) ++ items_words (drop k y)
parted zero y = same_words y
parted (suc k) [] = refl
parted (suc k) (v ∷ y) =
    ap (λ ws. map word_of_int v.items ++ ws) (parted k y) ∙ sym (append_assoc (map word_of_int v.items) (items_words (take k y)) (items_words (drop k y)))

counted_of : (o : CountedOutcome) (x : List ValueOf) (c : CurrentCondition) → uncounted o ≡ Done x c → (t : Tally) × (o ≡ CountedDone x c t)
counted_of (CountedDone y d t) x c e =
    let a : y ≡ x = cc in
    let b : d ≡ c = cc in
    (t, λ i. CountedDone (a i) (b i) t)
counted_of CountedUnfinished x c e = absurd cc

module _ (vs : List ℕ) (s : SourceOf) (base end : ℕ) (sizes : StackSizes) (values : List ValueOf) (bound : ℕ) (accepted : IsAccepted s) (can :
    CanBeQuick vs s sizes base end)
    (fits : FitsFormals s values) where
  -- its main procedure
  abbrev q : Program
  q = program_of s

  abbrev p : Proc
  p = quick_main s sizes

  formals_are : p.formals ≡ shapes_in (shown_formals s)
  formals_are =
      let main = main_is s accepted in
      ap (λ (z : Proc). z.formals) main.1.at ∙ ap (λ (o : Option ProcOf). shapes_in (formals_in o)) (sym main.1.found)

  conditions_are : length (formal_conditions s) ≡ p.conds
  conditions_are =
      let main = main_is s accepted in
      ap (λ (o : Option ProcOf). length (formal_conditions_in o)) main.1.found ∙ length-map main.0.conds (λ (m : Named). m.name)
      ∙ sym (ap (λ (z : Proc). z.conds) main.1.at)

  abbrev begun : List ValueOf
  begun = values ++ p.locals

  loaded_is : loaded (quick_image vs s sizes base end) values ≡ machine vs can.ten p base end can.room can.words can.fits begun
  loaded_is =
      let here = accepted.fits.procs (program_of s).main in
      loads vs can.ten p base end can.room can.words can.fits (shown_formals s) (shown_conditions s) values formals_are here.formals fits
      (lined_locals_fit (program_of s) sizes most_nested accepted.fits)

  -- at the end
  shows : (y : List ValueOf) (way : CurrentCondition) (k x3 : ℕ) (fl : Flags)
      → meaning (program_of s) sizes values bound ≡ Done (main_formals (program_of s) y) way
      → Comes (quick_parts vs p base end) (register_table vs p end) [] k (machine vs can.ten p base end can.room can.words can.fits begun) (final_of
      vs p base end)
      (now x3 fl (numbers_of y) (number_of_way way ∷ []))
      → ComesTo (quick_image vs s sizes base end) values k (meaning_shown s (main_formals (program_of s) y) way)
  unfolding main_formals
  shows y way k x3 fl done c =
      let finals = take (length p.formals) y in
      let counted = counted_of (counted_meaning (program_of s) sizes values bound) finals way (meaning-uncounted (program_of s) sizes values bound ∙ done) in
      let ends = ends_well (program_of s) sizes accepted.fits finals way counted.0 values bound fits counted.1 in
      let state = c.state in
      let laid = c.stands.laid in
      let based = c.stands.base_is in
      let others = items_words (drop (length p.formals) y) in
      let shown = reverse_aux (items_words finals) [] in
      let top = slice_index state.registers 2 in
      let areas : Holds state.base state.memory (condition_cell p end) (number_of_way way ∷ []) =
      subst (λ b. Holds b state.memory (condition_cell p end) (number_of_way way ∷ [])) (sym based) laid.areas_at in
      let condition : condition_of (shown_conditions s) (word_or_zero state (condition_cell p end)) ≡ way_shown (formal_conditions s) way =
      ap (condition_of (shown_conditions s)) (word_read state (condition_cell p end) (number_of_way way) areas.0)
      ∙ way_read (program_of s) (formal_conditions s) way ends.way conditions_are in
      let stack_is : reverse (numbers_of y) ≡ reverse_aux others shown =
      ap (λ ws. reverse_aux ws []) (parted (length p.formals) y) ∙ reversed_append (items_words finals) others [] in
      let temp : Holds base state.memory top (reverse_aux others shown) = subst (Holds base state.memory top) stack_is laid.temp_at in
      let here : Holds state.base state.memory top (reverse_aux others shown) =
      subst (λ b. Holds b state.memory top (reverse_aux others shown)) (sym based) temp in
      let long : top + length (reverse_aux others shown) ≡ end = subst (λ ws. top + length ws ≡ end) stack_is laid.temp_end in
      let variables = values_read state (shown_formals s) finals [] (top + length others) (end - 1) (subst (λ shapes. VarsFit shapes finals)
      formals_are ends.values)
      (Holds-reversed state.base state.memory top (top + length others) others shown refl here)
      (omega (arith, long, length-reverse_aux others shown, length-reverse_aux (items_words finals) [])) in
      let first : IsFirst (machine vs can.ten p base end can.room can.words can.fits begun) (final_of vs p base end) k state =
      record {
        reached = c.runs;
        there = c.stands.r15_is;
        before = subst (λ a. Avoids (machine vs can.ten p base end can.room can.words can.fits begun) a k) (ends_there vs can.ten p base end can.room
            can.words can.fits) c.avoids;
      } in
      record {
        state = state;
        first = subst (λ m. IsFirst m (final_of vs p base end) k state) (sym loaded_is) first;
        reads = λ i. record { condition = Some (condition i); items = variables i };
      }

  abbrev cost : ℕ
  cost = quick_cost (program_of s) sizes (layout_in vs p end) bound p.body (main_used (program_of s)) begun

  by_outcome : (finals : List ValueOf) (way : CurrentCondition) (o : MeaningOutcome)
      → evaluate (program_of s) sizes bound p.body (main_used (program_of s)) begun ≡ o → main_end (program_of s) o ≡ Done finals way
      → meaning (program_of s) sizes values bound ≡ Done finals way
      → ComesTo (quick_image vs s sizes base end) values (cost + exit_cost o) (meaning_shown s finals way)
  by_outcome finals way (Done y c) e ended done =
      let here = accepted.fits.procs (program_of s).main in
      let P = quick_parts vs p base end in
      let L = layout_in vs p end in
      let exits = exits_code (condition_cell p end) (final_of vs p base end) (exit_numbers p.conds) in
      let code = quick L (exit_place base p.conds) (start_of p base) p.body in
      let whole = code_whole P in
      let exits_there = code_front P base exits code whole in
      let after_exits : base + length exits ≡ start_of p base =
      omega (arith, exits_length (condition_cell p end) (final_of vs p base end) (exit_numbers p.conds), numbers_count p.conds) in
      let code_there : CodeAt P (start_of p base) code = subst (λ a. CodeAt P a code) after_exits (code_after P base exits code whole) in
      let begun_fits : VarsFit (shapes_of p) (values ++ p.locals) =
      vars_join p.formals (map (λ (v : ValueOf). v.shape) p.locals) values p.locals fits
      (locals_fit p.locals (lined_locals_fit (program_of s) sizes most_nested accepted.fits)) in
      let m = machine vs can.ten p base end can.room can.words can.fits (values ++ p.locals) in
      let is = are_parts vs can.ten p base end can.room can.words can.fits in
      let st : StandsWith P (register_table vs p end) [] m (start_of p base) (values ++ p.locals) (2 ∷ []) =
      record { x3 = 0; fl = no_flags; stands = begins_with vs can.ten p base end can.room can.words can.fits (values ++ p.locals) begun_fits } in
      let plain = lined_mains_are_plain (program_of s) sizes most_nested accepted.fits can.nests in
      let run = statements_run P (register_table vs p end) L (program_of s) sizes bound p.body (main_used (program_of s)) (values ++ p.locals) y c
      (exit_place base p.conds) (start_of p base) [] (2 ∷ []) m is (is_layout vs can.ten p base end can.room can.words can.fits) plain begun_fits
      code_there st e in
      at_goal c run exits_there is ended
    where
      at_goal : (c : CurrentCondition)
          → ComesWith (quick_parts vs p base end) (register_table vs p end) [] (quick_cost (program_of s) sizes (layout_in vs p end) bound p.body (main_used
          (program_of s)) (values ++ p.locals))
          (machine vs can.ten p base end can.room can.words can.fits (values ++ p.locals)) (goal_of (exit_place base p.conds) (final_of vs p base
          end) c) y (2 ∷ [])
          → CodeAt (quick_parts vs p base end) base (exits_code (condition_cell p end) (final_of vs p base end) (exit_numbers p.conds)) → AreParts
          (quick_parts vs p base end)
          → main_end (program_of s) (Done y c) ≡ Done finals way
          → ComesTo (quick_image vs s sizes base end) values (quick_cost (program_of s) sizes (layout_in vs p end) bound p.body (main_used (program_of s))
          (values ++ p.locals) + exit_cost (Done y c))
          (meaning_shown s finals way)
      at_goal None run exits is ended =
          let K = quick_cost (program_of s) sizes (layout_in vs p end) bound p.body (main_used (program_of s)) (values ++ p.locals) in
          let ef : main_formals (program_of s) y ≡ finals = cc in
          let ew : None ≡ way = cc in
          let none : K ≡ K + 0 = omega arith in
          let shown = shows y None K run.x3 run.fl (done ∙ sym ended) run.comes in
          subst (λ f. ComesTo (quick_image vs s sizes base end) values (K + 0) (meaning_shown s f way)) ef
          (subst (λ w. ComesTo (quick_image vs s sizes base end) values (K + 0) (meaning_shown s (main_formals (program_of s) y) w)) ew
          (subst (λ k. ComesTo (quick_image vs s sizes base end) values k (meaning_shown s (main_formals (program_of s) y) None)) none shown))
      at_goal (Some d) run exits is ended =
          let K = quick_cost (program_of s) sizes (layout_in vs p end) bound p.body (main_used (program_of s)) (values ++ p.locals) in
          let P = quick_parts vs p base end in
          let w = main_way (program_of s) d in
          let ef : main_formals (program_of s) y ≡ finals = cc in
          let ew : Some w ≡ way = cc in
          let exit = exit_there P (condition_cell p end) (final_of vs p base end) base (exit_numbers p.conds) (exit_of p.conds d) (number_of w)
          (exit_number (program_of s) d) exits in
          let jump = (exit_jumps P (register_table vs p end) (final_of vs p base end) (number_of w) run.x3 run.fl (numbers_of y)).leads
          [] run.comes.state (exit_place base p.conds d) is run.comes.stands exit in
          let shown = shows y (Some w) (K + 3) (condition_cell p end) run.fl (done ∙ sym ended) (comes_then run.comes jump) in
          subst (λ f. ComesTo (quick_image vs s sizes base end) values (K + 3) (meaning_shown s f way)) ef
          (subst (λ v. ComesTo (quick_image vs s sizes base end) values (K + 3) (meaning_shown s (main_formals (program_of s) y) v)) ew shown)
  by_outcome finals way Unfinished e ended done = absurd cc

module _ (vs : List ℕ) (s : SourceOf) (base end : ℕ) (sizes : StackSizes) (values : List ValueOf) (bound : ℕ) (accepted : IsAccepted s) (can :
    CanBeQuick vs s sizes base end)
    (fits : FitsFormals s values) where
  goes_on : lined_outcome (program_of s) sizes most_nested values bound ≡ Unfinished → QuickGoesOn vs s sizes base end values bound
  goes_on e =
      let p = quick_main s sizes in
      let here = accepted.fits.procs (program_of s).main in
      let P = quick_parts vs p base end in
      let L = layout_in vs p end in
      let exits = exits_code (condition_cell p end) (final_of vs p base end) (exit_numbers p.conds) in
      let code = quick L (exit_place base p.conds) (start_of p base) p.body in
      let after_exits : base + length exits ≡ start_of p base =
      omega (arith, exits_length (condition_cell p end) (final_of vs p base end) (exit_numbers p.conds), numbers_count p.conds) in
      let code_there : CodeAt P (start_of p base) code = subst (λ a. CodeAt P a code) after_exits (code_after P base exits code (code_whole P)) in
      let begun_fits : VarsFit (shapes_of p) (values ++ p.locals) =
      vars_join p.formals (map (λ (v : ValueOf). v.shape) p.locals) values p.locals fits
      (locals_fit p.locals (lined_locals_fit (program_of s) sizes most_nested accepted.fits)) in
      let m = machine vs can.ten p base end can.room can.words can.fits (values ++ p.locals) in
      let st : StandsWith P (register_table vs p end) [] m (start_of p base) (values ++ p.locals) (2 ∷ []) =
      record { x3 = 0; fl = no_flags; stands = begins_with vs can.ten p base end can.room can.words can.fits (values ++ p.locals) begun_fits } in
      let plain = lined_mains_are_plain (program_of s) sizes most_nested accepted.fits can.nests in
      let run = statements_go_on P (register_table vs p end) L (program_of s) sizes bound p.body (main_used (program_of s)) (values ++ p.locals)
      (exit_place base p.conds) (start_of p base) [] (2 ∷ []) m (are_parts vs can.ten p base end can.room can.words can.fits)
      (is_layout vs can.ten p base end can.room can.words can.fits) plain begun_fits code_there st e in
      let is = loaded_is vs s base end sizes values bound accepted can fits in
      record {
        steps = run.steps;
        state = run.state;
        least = run.least;
        runs = ap (fm_run run.steps) is ∙ run.runs;
        avoids = subst (λ z. Avoids z (final_of vs p base end) run.steps) (sym is)
            (subst (λ a. Avoids m a run.steps) (ends_there vs can.ten p base end can.room can.words can.fits) run.avoids);
      }

-- its calls can stand in line
can_line : (vs : List ℕ) (s : SourceOf) (sizes : StackSizes) (base end : ℕ) (values : List ValueOf) → IsAccepted s → CanBeQuick vs s sizes base end
    → FitsFormals s values → CanLine (program_of s) sizes most_nested values
can_line vs s sizes base end values accepted can fits =
    record {
      fits = accepted.fits;
      nests = can.nests;
      number = sym (as_many (proc_at (program_of s) (program_of s).main).formals values fits);
    }

pub images_go_on : QuickImagesGoOn
images_go_on vs s base end sizes values n accepted can fits e =
    goes_on vs s base end sizes values n accepted can fits
    (lined_calls_go_on (program_of s) sizes most_nested values n (can_line vs s sizes base end values accepted can fits) e)

pub images_implement : QuickImagesImplement
images_implement vs s base end sizes values finals way bound accepted can fits done =
    by_outcome vs s base end sizes values bound accepted can fits finals way (lined_outcome (program_of s) sizes most_nested values bound) refl
    (calls_are_lined (program_of s) sizes most_nested values bound finals way (can_line vs s sizes base end values accepted can fits) done) done

pub images_end_as_meant : QuickImagesEndAsMeant
images_end_as_meant vs s base end sizes values count state accepted can fits first =
    by_meaning (meaning (program_of s) sizes values (bound_for (count + 1))) refl
  where
    by_meaning : (o : MeaningOutcome) → meaning (program_of s) sizes values (bound_for (count + 1)) ≡ o → QuickIsMeant vs s base end sizes values count state
    by_meaning (Done finals way) e =
        let comes = images_implement vs s base end sizes values finals way (bound_for (count + 1)) accepted can fits e in
        let same = first_once (loaded (quick_image vs s sizes base end) values) (quick_image vs s sizes base end).final_pc (program_cost vs (program_of s)
        sizes end values (bound_for (count + 1))) count
        comes.state state comes.first first in
        record {
          finals = finals;
          way = way;
          done = e;
          counted = same.0;
          reads = ap (reading (quick_image vs s sizes base end)) (sym same.1) ∙ comes.reads;
        }
    by_meaning Unfinished e =
        let on = images_go_on vs s base end sizes values (count + 1) accepted can fits e in
        absurd (on.avoids count state (omega (arith, on.least)) first.reached first.there)
