-- The image of each accepted source does what the source means.
use Rattle.std.{proofs.Common.{◌≡◌, ◌+◌, ◌-◌, ℕ, List, [], ◌∷◌, ◌++◌, length, map, Some, refl, sym, ap, subst, ◌∙◌, arith}, specs.List.zip}
use Rattle.std.{specs.Prelude.slice_index, proofs.Math.ListN.length-reverse_aux, proofs.lemmas.List.map-append}
use mathlib.Core.List.{reverse_aux}
use Rattle.stack_text.specs.Values.{ValueOf}
use Rattle.fm_machine.{specs.State.Fm, specs.Run.IsFirst}
use Rattle.fm_code.{specs.Areas.joined, specs.Execution.Holds}
use Rattle.fm_image.specs.Limits.{Tables}
use Rattle.display_maps.specs.Reading.{word_or_zero, variable_of, condition_of}
use Rattle.piton_words.specs.declared.word.Word.{Word}
use Rattle.piton_check.{specs.Instruction.SystemView, specs.Sound.IsSound}
use Rattle.piton_semantics.{specs.Addresses.{word_number, numbers}, specs.Placed.{areas_start, end_of, addresses_of, final_pc_of, loaded}}
use Rattle.piton_semantics.{specs.StateView.started, proofs.RunLaws.{steps_run, steps_cost}, proofs.SoundLaws.known}
use Rattle.piton_linker.specs.Theorem.{ComesToStand, RunsOnProcessor}
use Rattle.gypsy_syntax.{specs.declared.literal.Decl.Decl, specs.ProgramFits.Each, specs.ValuesFit.{ValueFits, VarsFit}}
use Rattle.gypsy_space.specs.Costs.{Tally}
use Rattle.gypsy_semantics.specs.Calls.{CurrentCondition}
use Rattle.gypsy_codegen.{specs.WordsOf.{words_of_values, number_of_way}, specs.Whole.RunsTo}
use Rattle.stack_build.{specs.Image.{slots_from, image_with}, specs.Implements.{variable_shown, way_shown}, specs.ComesTo.ComesTo, proofs.Laying.map-reversed}
use Rattle.stack_build.{proofs.Laying.{reversed_append, Holds-reversed}, proofs.Storing.items_words, specs.Internal.Showing.shapes_in}
use Rattle.stack_build.{proofs.Numbers.{values_numbers, each_fits}, proofs.Loading.image_loaded, proofs.Initial.is_initial, proofs.ReadBack.word_read}
use Rattle.stack_build.proofs.ReadBack.{values_read}

-- a sound system whose stack begins with words of values of main's formals
module _ (s : SystemView) (sound : IsSound s) (theorem : RunsOnProcessor s) (ds : List Decl) (conditions : List (List ℕ)) (tables : Tables)
    (names : List (List ℕ)) (old new finals locals : List ValueOf) (c : CurrentCondition) (t : Tally)
    (f : VarsFit (shapes_in ds) old) (g : VarsFit (shapes_in ds) new) (h : VarsFit (shapes_in ds) finals) (l : Each ValueFits locals)
    (is : s.stack ≡ words_of_values (old ++ locals)) (run : RunsTo s (started s (words_of_values (new ++ locals))) finals c t) where
  begin : List Word
  begin = words_of_values (new ++ locals)

  -- the processor comes to stand for the state in which the system has halted
  comes : ComesToStand s (loaded s (words_of_values (new ++ locals))) t.count run.to
  comes =
      subst (λ (n : ℕ). ComesToStand s (loaded s (words_of_values (new ++ locals))) n run.to)
      (steps_cost s t.steps t.count (started s (words_of_values (new ++ locals))) run.to run.runs)
      (theorem (words_of_values (new ++ locals)) t.steps run.to (is_initial s (shapes_in ds) old new locals f g l is)
      (steps_run s t.steps t.count (started s (words_of_values (new ++ locals))) run.to run.runs))

  base_is : comes.state.base ≡ s.base
  base_is = comes.stands.is.base_is

  -- the condition
  condition_read : condition_of conditions (number_of_way c) ≡ way_shown names c
      → condition_of conditions (word_or_zero comes.state (areas_start s)) ≡ way_shown names c
  condition_read shown =
      let laid = comes.stands.is.laid in
      let areas : Holds s.base comes.state.memory (areas_start s) (number_of_way c ∷ []) =
      subst (λ (areas : List (List Word)). Holds s.base comes.state.memory (areas_start s) (joined (map (numbers (addresses_of s)) areas)))
      run.condition laid.areas_at in
      let here : Holds comes.state.base comes.state.memory (areas_start s) (number_of_way c ∷ []) =
      subst (λ (b : ℕ). Holds b comes.state.memory (areas_start s) (number_of_way c ∷ [])) (sym base_is) areas in
      ap (condition_of conditions) (word_read comes.state (areas_start s) (number_of_way c) here.0) ∙ shown

  -- the stack
  stack_is : numbers (addresses_of s) run.to.stack ≡ reverse_aux (numbers (addresses_of s) run.locals) (reverse_aux (items_words finals) [])
  stack_is =
      let A = addresses_of s in
      ap (λ (ws : List Word). numbers A ws) run.stack
      ∙ map-reversed (word_number A) (words_of_values finals ++ run.locals) []
      ∙ ap (λ (ws : List ℕ). reverse_aux ws [])
      (map-append (word_number A) (words_of_values finals) run.locals ∙ ap (λ (ws : List ℕ). ws ++ numbers A run.locals)
      (values_numbers A finals (each_fits (shapes_in ds) finals h)))
      ∙ reversed_append (items_words finals) (numbers A run.locals) []

  variables_read : map (variable_of comes.state) (slots_from (end_of s - 1) ds) ≡ map variable_shown (zip (map (λ (d : Decl). d.name.name) ds) finals)
  variables_read =
      let laid = comes.stands.is.laid in
      let others : List ℕ = numbers (addresses_of s) run.locals in
      let words : List ℕ = reverse_aux (items_words finals) [] in
      let top : ℕ = slice_index comes.state.registers 2 in
      let temp : Holds s.base comes.state.memory top (reverse_aux others words) = subst (Holds s.base comes.state.memory top) stack_is laid.temp_at in
      let here : Holds comes.state.base comes.state.memory top (reverse_aux others words) =
      subst (λ (b : ℕ). Holds b comes.state.memory top (reverse_aux others words)) (sym base_is) temp in
      let long : top + length (reverse_aux others words) ≡ end_of s = subst (λ (ws : List ℕ). top + length ws ≡ end_of s) stack_is laid.temp_end in
      let count : length (reverse_aux others words) ≡ length others + length words = length-reverse_aux others words in
      let count_words : length words ≡ length (items_words finals) + 0 = length-reverse_aux (items_words finals) [] in
      values_read comes.state ds finals [] (top + length others) (end_of s - 1) h
      (Holds-reversed comes.state.base comes.state.memory top (top + length others) others words refl here)
      (address top (end_of s) (length (reverse_aux others words)) (length others) (length words) (length (items_words finals)) long count count_words)
    where
      address : (top end all a b n : ℕ) → top + all ≡ end → all ≡ a + b → b ≡ n + 0 → end - 1 ≡ top + a + n - 1
      address top end all a b n e e1 e2 = omega arith

  pub image_comes : condition_of conditions (number_of_way c) ≡ way_shown names c →
      ComesTo (image_with ds conditions tables s) new t.count
      record { condition = Some (way_shown names c); items = map variable_shown (zip (map (λ (d : Decl). d.name.name) ds) finals) }
  image_comes shown =
      let machine = image_loaded s (known s sound) ds old new locals f g l is conditions tables in
      record {
        state = comes.state;
        first = subst (λ (m : Fm). IsFirst m (final_pc_of s) t.count comes.state) (sym machine)
            (record { reached = comes.runs; there = comes.halted.0 run.halted; before = comes.before });
        reads = λ i. record { condition = Some (condition_read shown i); items = variables_read i };
      }
