-- A state of the generated system that reads as an activation shows it where it stands.
use Rattle.std.proofs.Common.{◌≡◌, ◌+◌, ◌-◌, ◌<◌, ℕ, ℤ, Bool, true, false, List, [], ◌∷◌, length, map, reverse, Some, None, refl, sym, ap, ◌∙◌, arith}
use Rattle.std.{proofs.Common.append-nil, specs.List.flat_map, specs.Prelude.{slice_get, nat_lt, if◌then◌else◌}, proofs.lemmas.Bool.{le-ltb, ltb-true}}
use Rattle.std.{proofs.lemmas.List.{get_or-reverse, length-reverse}, proofs.lemmas.Option.{get_or_from_slice_get, slice_get-get_or, same_Some}}
use Rattle.stack_text.{specs.Values.ValueOf, proofs.SharedLaws.get_map}
use Rattle.fm_words.specs.Word.{word_of_int}
use Rattle.fm_machine.specs.State.{word_at}
use Rattle.piton_words.{specs.declared.word.Word.Word, specs.declared.word.Word.TheVariants.Nat}
use Rattle.piton_check.specs.Instruction.{SystemView}
use Rattle.piton_semantics.{specs.Addresses.{Addresses, numbers, word_number}, specs.Placed.{address_of_place, addresses_of, areas_start}}
use Rattle.piton_semantics.specs.State.{PitonState, element, locals_of}
use Rattle.gypsy_syntax.{specs.Effects.value_at, specs.ValuesFit.{ValueFits, VarsFit}, specs.Programs.{Program, proc_at, shapes_of}, specs.Resolved.program_of}
use Rattle.gypsy_syntax.specs.Sources.{SourceOf}
use Rattle.gypsy_space.specs.Needs.{StackSizes}
use Rattle.gypsy_semantics.{specs.Machine.{Frame, Item}, specs.Views.RunView.top_way, proofs.EffectLaws.value_fits}
use Rattle.gypsy_predef.specs.Runs.{word_of_item, words_of_value}
use Rattle.gypsy_codegen.{specs.Generated.{offset, generated_view}, specs.Moments.{ReadsAs, VariableStands}, specs.Showing.mark_of, specs.WordsOf.number_of_way}
use Rattle.stack_build.{specs.Image.image_of, specs.SourceMoments.{ShowsMoment, ShowsVariable}, proofs.Numbers.values_numbers}
use Rattle.level_debuggers.specs.PitonReadings.{area_number, piton_at}

-- the element at a position, from the bottom
element_read : (stack : List Word) (k : ℕ) (w : Word) → element stack k ≡ Some w → slice_get (reverse stack) k ≡ Some w
element_read stack k w e = by_side (nat_lt k (length stack)) refl e
  where
    by_side : (b : Bool) → nat_lt k (length stack) ≡ b → (if b then slice_get stack (length stack - 1 - k) else None) ≡ Some w
        → slice_get (reverse stack) k ≡ Some w
    by_side true is f =
        let lt : k < length stack = ltb-true k (length stack) is in
        slice_get-get_or (reverse stack) k w (omega (arith, lt, length-reverse stack))
        ∙ ap (λ (x : Word). Some x) (get_or-reverse stack k w lt ∙ get_or_from_slice_get stack (length stack - 1 - k) w w f)
    by_side false is f = absurd cc

-- the words of a value are its items
value_numbers : (A : Addresses) (v : ValueOf) → ValueFits v → numbers A (words_of_value v) ≡ map word_of_int v.items
value_numbers A v fits =
    ap (numbers A) (sym (append-nil (words_of_value v))) ∙ values_numbers A (v ∷ []) (fits, tt) ∙ append-nil (map word_of_int v.items)

item_number : (A : Addresses) (v : ValueOf) (h : ℕ) (z : ℤ) → ValueFits v → slice_get v.items h ≡ Some z
    → word_number A (word_of_item v.shape.kind z) ≡ word_of_int z
item_number A v h z fits e =
    let word : slice_get (words_of_value v) h ≡ Some (word_of_item v.shape.kind z) = get_map (word_of_item v.shape.kind) v.items h z e in
    same_Some (word_number A (word_of_item v.shape.kind z)) (word_of_int z)
    (sym (get_map (word_number A) (words_of_value v) h (word_of_item v.shape.kind z) word)
    ∙ ap (λ (ns : List ℕ). slice_get ns h) (value_numbers A v fits) ∙ get_map word_of_int v.items h z e)

-- the one word of the areas, at their first address
first_word : (start n : ℕ) → word_at start (n ∷ []) start ≡ Some n
unfolding word_at
first_word start n =
    let zero_on : start - start ≡ 0 = omega arith in
    ap (λ (b : Bool). if b then None else slice_get (n ∷ []) (start - start)) (le-ltb start start (omega arith)) ∙ ap (slice_get (n ∷ [])) zero_on

-- the word of the one area with this word
pub condition_at : (s : SystemView) (a : PitonState) (n : ℕ) → a.areas ≡ (Nat n ∷ []) ∷ [] → area_number s a (areas_start s) ≡ Some n
condition_at s a n is =
    ap (λ (areas : List (List Word)). word_at (areas_start s) (numbers (addresses_of s) (flat_map (λ area. area) areas)) (areas_start s)) is
    ∙ first_word (areas_start s) n

module _ (q : Program) (s : SystemView) (a : PitonState) (p : ℕ) (x : List ValueOf) (w : List Item) (fs : List Frame) (reads : ReadsAs q a p x w fs) where
  address_is : (piton_at s a).address ≡ address_of_place s p (mark_of q p w)
  address_is = ap (λ (i : ℕ). address_of_place s i a.place) reads.program ∙ ap (address_of_place s p) reads.place

  condition_is : area_number s a (areas_start s) ≡ Some (number_of_way (top_way w))
  condition_is = condition_at s a (number_of_way (top_way w)) reads.condition

  variable_is : (b : ℕ) (v : ValueOf) → ValueFits v → VariableStands q a p b v → ShowsVariable (piton_at s a) (offset q p b) v
  variable_is b v fits var = record {
    index = var.index;
    local = get_map (word_number (addresses_of s)) (locals_of a.frames) (offset q p b) (Nat var.index) var.local;
    items = λ h z e.
        let word = word_of_item v.shape.kind z in
        let there = element_read a.stack (var.index + h) word (var.words h word (get_map (word_of_item v.shape.kind) v.items h z e)) in
        get_map (word_number (addresses_of s)) (reverse a.stack) (var.index + h) word there
        ∙ ap (λ (n : ℕ). Some n) (item_number (addresses_of s) v h z fits e);
  }

-- it stands at the mark, with the condition and the variables
pub state_shows : (source : SourceOf) (sizes : StackSizes) (base : ℕ) (a : PitonState) (p : ℕ) (x : List ValueOf) (w : List Item) (fs : List Frame) →
    VarsFit (shapes_of (proc_at (program_of source) p)) x → ReadsAs (program_of source) a p x w fs →
    ShowsMoment (program_of source) sizes (image_of source sizes base) (piton_at (generated_view (program_of source) sizes base) a) p x w
unfolding image_of
state_shows source sizes base a p x w fs vars reads =
    let q : Program = program_of source in
    let S : SystemView = generated_view q sizes base in
    record {
      mark = address_is q S a p x w fs reads;
      condition = condition_is q S a p x w fs reads;
      variables = λ b shape e. variable_is q S a p x w fs reads b (value_at x b) (value_fits (shapes_of (proc_at q p)) x b shape vars e).1
          (reads.variables b shape e);
    }
