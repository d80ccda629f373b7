-- Where the step machine has come to its end, Piton's machine has halted, and a session says the meaning.
use Rattle.std.proofs.Common.{◌≡◌, ◌≤◌, ◌<◌, ◌+◌, ◌-◌, ℕ, zero, suc, Bool, true, List, [], ◌∷◌, ◌++◌, length, map, reverse, Option, Some, refl, sym, ap, subst}
use Rattle.std.{proofs.Common.{◌∙◌, arith, append_assoc, length-append, if◌then◌else◌}, specs.Prelude.{◌==◌, slice_index, unwrap_or}, specs.List.list_all}
use Rattle.std.{specs.List.zip, proofs.lemmas.Bool.{and_from, le-leb, lt-ltb}, proofs.lemmas.List.{length-map, map-append, reverse-reverse}}
use Rattle.stack_text.{specs.declared.name.Named.Named, specs.declared.shape.Shape.Shape, specs.Values.{ValueOf, item_count}}
use Rattle.fm_words.specs.Word.{word_of_int}
use Rattle.fm_image.{specs.declared.slot.Slot.Slot, specs.Image.ImageOf, specs.Limits.Tables}
use Rattle.display_maps.{specs.declared.shown.Shown.Shown, specs.Reading.{ReadingOf, condition_of, item_of}, specs.ReadingAt.read_from}
use Rattle.display_maps.{specs.Report.lines_of_reading, specs.ValueReading.value_shown, proofs.ItemLaws.items_read}
use Rattle.piton_words.{specs.declared.word.Word.Word, specs.declared.word.Word.TheVariants.Nat}
use Rattle.piton_check.{specs.Instruction.SystemView, specs.PitonChecking.CheckedOf}
use Rattle.piton_semantics.{specs.Addresses.{Addresses, numbers, word_number}, specs.Fits.system_in, specs.Law.{Steps, advanced}, specs.Placed.addresses_of}
use Rattle.piton_semantics.{specs.Placed.{areas_start, ctrl_start, end_of, temp_start}, specs.StateView.{Seen, opening, started}, specs.State.PitonState}
use Rattle.piton_semantics.specs.State as piton
use Rattle.gypsy_syntax.{specs.declared.literal.Decl.Decl, specs.Programs.{Proc, Program, proc_at, shapes_of, words_of}, specs.Resolved.{program_of, shape_of}}
use Rattle.gypsy_syntax.{specs.Sources.{ProcOf, SourceOf}, specs.ValuesFit.VarsFit}
use Rattle.gypsy_check.specs.Accepted.{IsAccepted}
use Rattle.gypsy_space.specs.Needs.{StackSizes, ctrl_need, frame_of, main_need, main_used, temp_need}
use Rattle.gypsy_semantics.{specs.Calls.CurrentCondition, specs.Counted.{CountedDone, counted_meaning}, specs.Machine.{Move, start}, proofs.Runs.agree}
use Rattle.gypsy_codegen.{specs.Acceptable.GeneratedIsAcceptable, specs.Generated.generated_view, specs.Moments.{EachMomentIsReached, HasMoment}}
use Rattle.gypsy_codegen.{specs.Whole.{RunsTo, SizesFit, opened}, specs.WordsOf.{number_of_way, words_of_values}, proofs.MomentLaws.moment_over}
use Rattle.gypsy_codegen.proofs.StackLaws.{values_words}
use Rattle.stack_build.{specs.Formals.{formal_conditions, formal_conditions_in, formals_in, shown_conditions, shown_formals}, specs.Image.image_of}
use Rattle.stack_build.{specs.Image.{image_with, slots_from, source_tables}, specs.Implements.{meaning_shown, variable_shown, way_shown}}
use Rattle.stack_build.{specs.Internal.Showing.shapes_in, specs.Starts.main_words, proofs.Ending.{EndsWell, ends_well, way_read}, proofs.MainLaws.main_is}
use Rattle.stack_build.{proofs.Numbers.{each_fits, values_numbers}, proofs.ReadBack.items_fit, proofs.StartLaws.made, proofs.Storing.items_words}
use Rattle.stack_build.proofs.ImageLimits.{words_front}
use Rattle.level_debuggers.{specs.Levels.{LevelOf, Piton, lifted, next_of, up_text}, specs.PitonLevels.{PitonLevelOf, piton_from}}
use Rattle.level_debuggers.specs.PitonReadings.{area_number, covers, element_at, element_numbers, elements_down, piton_at, piton_end, piton_reading_of}
use Rattle.level_debuggers.{specs.PitonReadings.{piton_up, variable_at}, specs.RunWalks.{SystemsWalk, WalksTo}, specs.Steps.{Makes, Over, Stops}}
use Rattle.level_debuggers.{specs.Texts.{mark_text, no_mark}, specs.Walks.{walk, walk_on}}
use Rattle.level_debuggers.specs.Steps as step
use Rattle.cli_stack.{specs.SessionMoments.{BuiltSaysEnds, system_run}, proofs.StandingLaws.condition_at}

-- 1. A walk stays where a run is over.

pub walk_stays : (n : ℕ) (level : LevelOf) → next_of level ≡ Over → (walk n level).level ≡ level
unfolding walk
walk_stays zero level over = refl
walk_stays (suc n) level over = ap (λ (x : step.Next LevelOf). (walk_on level (walk n) x).level) over

pub walk_past : (n m : ℕ) (level to : LevelOf) → n ≤ m → length (walk n level).events ≡ n → (walk n level).level ≡ to → next_of to ≡ Over
    → (walk m level).level ≡ to
unfolding walk
walk_past zero m level to le whole leads over = walk_stays m level (ap next_of leads ∙ over) ∙ leads
walk_past (suc n) zero level to le whole leads over = absurd (omega (arith, le))
walk_past (suc n) (suc m) level to le whole leads over =
    by_next (next_of level) (λ next long there. walk_past n m next to (omega (arith, le)) long there over) whole leads
  where
    by_next : (x : step.Next LevelOf) → ((next : LevelOf) → length (walk n next).events ≡ n → (walk n next).level ≡ to → (walk m next).level ≡ to)
        → length (walk_on level (walk n) x).events ≡ suc n → (walk_on level (walk n) x).level ≡ to → (walk_on level (walk m) x).level ≡ to
    by_next (Makes event next) go whole leads = go next (omega (arith, whole)) leads
    by_next Over go whole leads = absurd (omega (arith, whole))
    by_next (Stops stop) go whole leads = absurd (omega (arith, whole))

-- 2. The stack, read from its bottom.

-- the element behind so many others
element_behind : (front : List ℕ) (w : ℕ) (rest : List ℕ) → slice_index (front ++ w ∷ rest) (length front) ≡ w
element_behind [] w rest = refl
element_behind (v ∷ front) w rest = element_behind front w rest

elements_read : (above : ℕ) (front ws rest : List ℕ) (a : ℕ) → length front + length ws ≤ above → a ≡ above - 1 - length front
    → elements_down above (front ++ (ws ++ rest)) a (length ws) ≡ ws
elements_read above front [] rest a le e = refl
elements_read above front (w ∷ ws) rest a le e =
    let all : List ℕ = front ++ (w ∷ (ws ++ rest)) in
    let room : length front + suc (length ws) ≤ above = le in
    let at : above - 1 - a ≡ length front = omega (arith, room, e) in
    let here : element_at above all a ≡ w = ap (slice_index all) at ∙ element_behind front w (ws ++ rest) in
    let more : (front ++ w ∷ []) ++ (ws ++ rest) ≡ all = append_assoc front (w ∷ []) (ws ++ rest) in
    let long : length (front ++ w ∷ []) ≡ length front + 1 = length-append front (w ∷ []) in
    let others : elements_down above ((front ++ w ∷ []) ++ (ws ++ rest)) (a - 1) (length ws) ≡ ws =
    elements_read above (front ++ w ∷ []) ws rest (a - 1) (omega (arith, room, long)) (omega (arith, room, e, long)) in
    ap (λ (v : ℕ). v ∷ elements_down above all (a - 1) (length ws)) here
    ∙ ap (λ (vs : List ℕ). w ∷ vs) (ap (λ (es : List ℕ). elements_down above es (a - 1) (length ws)) (sym more) ∙ others)

-- a slot from whose address downwards the stack has a value is read as the value
slot_read : (above : ℕ) (elements : List ℕ) (slot : Slot) (value : ValueOf) → slot.shape ≡ value.shape
    → map (item_of value.shape.kind) (map word_of_int value.items) ≡ value_shown value
    → elements_down above elements slot.address (item_count value.shape) ≡ map word_of_int value.items
    → variable_at above elements slot ≡ (slot.name, value_shown value)
slot_read above elements slot value same items held =
    ap (λ (shape : Shape). (slot.name, map (item_of shape.kind) (elements_down above elements slot.address (item_count shape)))) same
    ∙ ap (λ (words : List ℕ). (slot.name, map (item_of value.shape.kind) words)) held
    ∙ ap (λ (shown : List Shown). (slot.name, shown)) items

-- each slot is read as its value, and the stack has an element for each of its items
record SlotsAreRead (above : ℕ) (elements : List ℕ) (slots : List Slot) (ds : List Decl) (x : List ValueOf) : Type 0 where
  items : map (variable_at above elements) slots ≡ map variable_shown (zip (map (λ (d : Decl). d.name.name) ds) x)
  covered : list_all (covers above elements) slots ≡ true

slots_read : (above : ℕ) (front : List ℕ) (ds : List Decl) (x : List ValueOf) (rest : List ℕ) (a : ℕ) → VarsFit (shapes_in ds) x → 1 ≤ above
    → length front + length (items_words x) ≤ above → a ≡ above - 1 - length front
    → SlotsAreRead above (front ++ (items_words x ++ rest)) (slots_from a ds) ds x
slots_read above front [] [] rest a f some le e = record { items = refl; covered = refl }
slots_read above front [] (v ∷ x) rest a f some le e = absurd f
slots_read above front (d ∷ ds) [] rest a f some le e = absurd f
slots_read above front (d ∷ ds) (v ∷ x) rest a f some le e =
    let is : List ℕ = map word_of_int v.items in
    let others : List ℕ = items_words x in
    let count : ℕ = item_count (shape_of d.shape) in
    let all : List ℕ = front ++ ((is ++ others) ++ rest) in
    let slot : Slot = record { name = d.name.name; shape = shape_of d.shape; address = a } in
    let both : length (is ++ others) ≡ length is + length others = length-append is others in
    let room : length front + length (is ++ others) ≤ above = le in
    let many : length is ≡ item_count v.shape = length-map v.items word_of_int ∙ f.1.number in
    let same : item_count v.shape ≡ count = ap item_count f.0 in
    let whole : front ++ (is ++ (others ++ rest)) ≡ all = ap (λ (l : List ℕ). front ++ l) (sym (append_assoc is others rest)) in
    let down : elements_down above all a (length is) ≡ is =
    ap (λ (l : List ℕ). elements_down above l a (length is)) (sym whole) ∙ elements_read above front is (others ++ rest) a (omega (arith, room, both)) e in
    let kinds = items_fit v.shape.kind v.items f.1.items in
    let one = slot_read above all slot v (sym f.0) (items_read v.shape.kind v.items kinds.0 kinds.1) (ap (elements_down above all a) (sym many) ∙ down) in
    let next : (front ++ is) ++ (others ++ rest) ≡ all = append_assoc front is (others ++ rest) ∙ whole in
    let long : length (front ++ is) ≡ length front + length is = length-append front is in
    let below : a - count ≡ above - 1 - length (front ++ is) = omega (arith, e, many, same, long) in
    let r = slots_read above (front ++ is) ds x rest (a - count) f.2 some (omega (arith, room, both, long)) below in
    let total : length all ≡ length front + (length (is ++ others) + length rest) =
    length-append front ((is ++ others) ++ rest) ∙ ap (λ n. length front + n) (length-append (is ++ others) rest) in
    let at : a < above = omega (arith, e, some) in
    let reaches : above + count ≤ a + 1 + length all = omega (arith, e, room, both, many, same, total) in
    record {
      items = λ i. one i ∷ (ap (λ (l : List ℕ). map (variable_at above l) (slots_from (a - count) ds)) (sym next) ∙ r.items) i;
      covered = and_from _ _ (and_from _ _ (lt-ltb a above at) (le-leb (above + count) (a + 1 + length all) reaches))
          (ap (λ (l : List ℕ). list_all (covers above l) (slots_from (a - count) ds)) (sym next) ∙ r.covered);
    }

-- 3. A halted state.

module _ (s : SystemView) (a : PitonState) (ds : List Decl) (conditions names : List (List ℕ)) (tables : Tables) (x : List ValueOf)
    (c : CurrentCondition) (locals : List Word) (fits : VarsFit (shapes_in ds) x)
    (areas : a.areas ≡ (Nat (number_of_way c) ∷ []) ∷ []) (stack : a.stack ≡ reverse (words_of_values x ++ locals)) (some : 1 ≤ end_of s)
    (room : length (items_words x) ≤ end_of s)
    (shown : condition_of conditions (number_of_way c) ≡ way_shown names c) where
  elements_are : element_numbers s a ≡ [] ++ (items_words x ++ numbers (addresses_of s) locals)
  elements_are =
      let A : Addresses = addresses_of s in
      ap (λ (ws : List Word). numbers A (reverse ws)) stack
      ∙ ap (numbers A) (reverse-reverse (words_of_values x ++ locals))
      ∙ map-append (word_number A) (words_of_values x) locals
      ∙ ap (λ (ws : List ℕ). ws ++ numbers A locals) (values_numbers A x (each_fits (shapes_in ds) x fits))

  slots_are : SlotsAreRead (end_of s) (element_numbers s a) (slots_from (end_of s - 1) ds) ds x
  slots_are =
      subst (λ (es : List ℕ). SlotsAreRead (end_of s) es (slots_from (end_of s - 1) ds) ds x) (sym elements_are)
      (slots_read (end_of s) [] ds x (numbers (addresses_of s) locals) (end_of s - 1) fits some (omega (arith, room)) (omega arith))

  halted_reads : piton_reading_of s (image_with ds conditions tables s) a
      ≡ record { condition = Some (way_shown names c); items = map variable_shown (zip (map (λ (d : Decl). d.name.name) ds) x) }
  halted_reads =
      let condition : Some (condition_of conditions (unwrap_or (area_number s a (areas_start s)) 0)) ≡ Some (way_shown names c) =
      ap (λ (o : Option ℕ). Some (condition_of conditions (unwrap_or o 0))) (condition_at s a (number_of_way c) areas) ∙ ap (λ (w : Shown). Some w) shown in
      λ i. record { condition = condition i; items = slots_are.items i }

-- over, and said
module _ (run : PitonLevelOf) (halted : run.seen.state.frames ≡ []) where
  is_over : next_of (Piton run) ≡ Over
  is_over = ap (λ (fs : List piton.Frame). lifted Piton (piton_from run fs)) halted

  said : list_all (covers (end_of (system_in run.checked)) (element_numbers (system_in run.checked) run.seen.state)) run.image.slots ≡ true
      → (read : ReadingOf) → piton_reading_of (system_in run.checked) run.image run.seen.state ≡ read → up_text (Piton run) ≡ lines_of_reading run.image read
  unfolding piton_up
  said covered read reads =
      ap (λ (b : Bool). if b then piton_end run else mark_text (read_from run.image (piton_at (system_in run.checked) run.seen.state)))
      (ap (λ (fs : List piton.Frame). length fs == 0) halted)
      ∙ ap (λ (b : Bool). if b then lines_of_reading run.image (piton_reading_of (system_in run.checked) run.image run.seen.state) else no_mark) covered
      ∙ ap (lines_of_reading run.image) reads

-- 4. The end of a source's run.

more_room : (k n m : ℕ) → n ≤ m → n ≤ k + m
more_room k n m le = omega (arith, le)

some_room : (k c t : ℕ) → 2 ≤ c → 1 ≤ k + c + t
some_room k c t le = omega (arith, le)

module _ (source : SourceOf) (sizes : StackSizes) (base : ℕ) (accepted : IsAccepted source) (suffice : SizesFit (program_of source) sizes)
    (finals : List ValueOf) (way : CurrentCondition)
    (ends : EndsWell (program_of source) finals way) where
  abbrev q : Program
  q = program_of source

  abbrev S : SystemView
  S = generated_view q sizes base

  -- main's own need is within the stacks
  main_fits : (2 ≤ sizes.ctrl) × (words_of (proc_at q q.main).formals ≤ sizes.temp)
  unfolding main_need main_used
  main_fits =
      let p : Proc = proc_at q q.main in
      let ctrl : frame_of p + ctrl_need p ≤ sizes.ctrl = suffice.suffice.ctrl in
      let temp : words_of (shapes_of p) + temp_need p ≤ sizes.temp = suffice.suffice.temp in
      let front : words_of p.formals ≤ words_of (shapes_of p) = words_front p.formals (map (λ v. v.shape) p.locals) in
      (omega (arith, ctrl), omega (arith, temp, front))

  finals_fit : VarsFit (shapes_in (shown_formals source)) finals
  finals_fit =
      let main = main_is source accepted in
      let formals : (proc_at q q.main).formals ≡ shapes_in (shown_formals source) =
      ap (λ (z : Proc). z.formals) main.1.at ∙ ap (λ (o : Option ProcOf). shapes_in (formals_in o)) (sym main.1.found) in
      subst (λ (shapes : List Shape). VarsFit shapes finals) formals ends.values

  way_is : condition_of (shown_conditions source) (number_of_way way) ≡ way_shown (formal_conditions source) way
  way_is =
      let main = main_is source accepted in
      let count : length (formal_conditions source) ≡ (proc_at q q.main).conds =
      ap (λ (o : Option ProcOf). length (formal_conditions_in o)) main.1.found ∙ length-map (main.0).conds (λ (n : Named). n.name)
      ∙ sym (ap (λ (z : Proc). z.conds) main.1.at) in
      way_read q (formal_conditions source) way ends.way count

  finals_room : length (items_words finals) ≤ end_of S
  finals_room =
      let A : Addresses = addresses_of S in
      let own : length (words_of_values finals) ≡ words_of (proc_at q q.main).formals = values_words (proc_at q q.main).formals finals ends.values in
      let words : length (numbers A (words_of_values finals)) ≡ length (words_of_values finals) = length-map (words_of_values finals) (word_number A) in
      let same : length (numbers A (words_of_values finals)) ≡ length (items_words finals) =
      ap length (values_numbers A finals (each_fits (shapes_in (shown_formals source)) finals finals_fit)) in
      let fits : words_of (proc_at q q.main).formals ≤ sizes.temp = main_fits.1 in
      more_room (temp_start S) (length (items_words finals)) sizes.temp (omega (arith, own, words, same, fits))

  some_end : 1 ≤ end_of S
  some_end = some_room (ctrl_start S) sizes.ctrl sizes.temp main_fits.0

  module _ (to : PitonState) (locals : List Word) (halted : to.frames ≡ []) (areas : to.areas ≡ (Nat (number_of_way way) ∷ []) ∷ [])
      (stack : to.stack ≡ reverse (words_of_values finals ++ locals))
      (checked : CheckedOf) (seen : Seen) (same : system_in checked ≡ S) (at : seen.state ≡ to) where
    abbrev there : PitonLevelOf
    there = record { checked = checked; image = image_of source sizes base; seen = seen }

    end_said : up_text (Piton there) ≡ lines_of_reading (image_of source sizes base) (meaning_shown source finals way)
    unfolding image_of
    end_said =
        let slots = slots_are S to (shown_formals source) (shown_conditions source) (formal_conditions source) (source_tables source S) finals way
        locals finals_fit areas stack some_end finals_room way_is in
        let reads = halted_reads S to (shown_formals source) (shown_conditions source) (formal_conditions source) (source_tables source S) finals way
        locals finals_fit areas stack some_end finals_room way_is in
        said there (ap (λ (p : PitonState). p.frames) at ∙ halted)
        (ap (λ (s : SystemView). list_all (covers (end_of s) (element_numbers s seen.state)) there.image.slots) same
        ∙ ap (λ (p : PitonState). list_all (covers (end_of S) (element_numbers S p)) there.image.slots) at ∙ slots.covered)
        (meaning_shown source finals way)
        (ap (λ (s : SystemView). piton_reading_of s there.image seen.state) same ∙ ap (λ (p : PitonState). piton_reading_of S there.image p) at ∙ reads)

-- 5. What is built.

pub built_ends : GeneratedIsAcceptable → EachMomentIsReached → SystemsWalk → BuiltSaysEnds
built_ends acceptable reached systems source sizes j n b values finals way t accepted fits is stands enough =
    let q : Program = program_of source in
    let S : SystemView = generated_view q sizes 0 in
    let m = made acceptable source sizes accepted b is in
    let image : ImageOf = image_of source sizes 0 in
    let has : RunsTo S (opened q sizes 0 values) finals way t =
    subst (λ (m : Move). HasMoment q S (opened q sizes 0 values) m) stands (reached q sizes 0 values j accepted.fits m.sizes_fit fits) in
    let counted : counted_meaning q sizes values (suc j) ≡ CountedDone finals way t =
    (agree q sizes values).ended j finals way t (moment_over q sizes j (start q values) finals way t stands) in
    let ends : EndsWell q finals way = ends_well q sizes accepted.fits finals way t values (suc j) fits counted in
    let first : Seen = opening (system_in b.piton) (main_words source values) in
    let run : PitonLevelOf = record { checked = b.piton; image = image; seen = first } in
    let to : PitonLevelOf = record { checked = b.piton; image = image; seen = advanced first t.steps t.count has.to } in
    let steps : Steps (system_in b.piton) t.steps t.count first.state has.to =
    subst (λ (s : SystemView). Steps s t.steps t.count (started s (main_words source values)) has.to) (sym m.view) has.runs in
    let w : WalksTo t.steps (Piton run) (Piton to) = systems t.steps t.count run has.to steps (omega arith) (omega arith) in
    let past : (walk n (Piton run)).level ≡ Piton to = walk_past t.steps n (Piton run) (Piton to) enough w.whole w.leads (is_over to has.halted) in
    subst (λ (i : ImageOf). up_text (walk n (system_run source b.piton i values)).level ≡ lines_of_reading i (meaning_shown source finals way)) m.image
    (ap up_text past ∙ end_said source sizes 0 accepted m.sizes_fit finals way ends has.to has.locals has.halted has.condition has.stack b.piton
    (advanced first t.steps t.count has.to) m.view refl)
