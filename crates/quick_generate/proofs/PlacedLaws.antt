-- The image that is made of main's parts is the quick image of the source.
use Rattle.quick_generate.{specs.QuickOf.{StandsForMain, main_proc, whole_image, image_size, registers_by, window_end, words_by}, specs.Views.layout_by}
use Rattle.quick_generate.{specs.Views.frame_layout, specs.declared.frame.Frame.Frame, specs.Sums.limited, proofs.QuickLaws.{cell_is, window_is, words_are}}
use Rattle.quick_generate.proofs.SizeLaws.{size_anywhere}
use Rattle.std.proofs.Common.{◌≡◌, ℕ, ◌+◌, ◌-◌, ◌*◌, ◌≤◌, ◌^◌, List, ◌∷◌, ◌++◌, length, length-append, map, Some, refl, sym, ap, ◌∙◌, arith}
use Rattle.std.{specs.Prelude.reverse, proofs.lemmas.List.length-map}
use Rattle.stack_text.{specs.declared.shape.Shape.Shape, specs.Values.ValueOf}
use Rattle.fm_words.specs.WindowLimit.{most_window}
use Rattle.fm_code.specs.InstructionWords.{halt_word}
use Rattle.fm_image.{specs.declared.slot.Slot.Slot, specs.Bare.bare_image, specs.Image.ImageOf}
use Rattle.piton_linker.specs.Layouts.{trimmed}
use Rattle.gypsy_syntax.{specs.Programs.{Proc, shapes_of, words_of}, specs.Resolved.{local_value, procedure_of, shape_of}, specs.Sources.SourceOf}
use Rattle.gypsy_syntax.specs.declared.literal.Decl.{Decl}
use Rattle.gypsy_check.specs.Accepted.{IsAccepted}
use Rattle.gypsy_space.{specs.Nodes.{seen_proc, seen_statement}, specs.declared.program.Procedure.Procedure}
use Rattle.stack_build.{specs.Formals.{shown_conditions, shown_formals}, specs.Image.slots_from, proofs.MainLaws.main_is}
use Rattle.quick_gypsy.{specs.Layout.Layout, specs.Numbers.numbers_of, specs.Quick.size}
use Rattle.quick_build.specs.QuickImage.{final_of, first_values, layout_in, quick_registers, quick_window}

-- A procedure that stands for main of an accepted source, and a frame that ends its smallest window.
pub record IsHere (frame : Frame) (main : Procedure) (s : SourceOf) (base : ℕ) : Type 0 where
  pub accepted : IsAccepted s
  pub stands : StandsForMain s (seen_proc main)
  pub shapes : frame.shapes.items ≡ shapes_of (seen_proc main)
  pub end : frame.end ≡ window_end frame.chosen.items (seen_proc main) base
  pub small : frame.end ≤ base + most_window
  pub low : base ≤ 2 ^ 31

pub few_conds : (s : SourceOf) → IsAccepted s → (main_proc s).conds ≤ 200
few_conds s accepted =
    let main = main_is s accepted in
    let same : (main_proc s).conds ≡ length main.0.conds = ap (λ (p : Proc). p.conds) main.1.at in
    let few = main.1.form.few_conds in
    omega (arith, same, few)

pub few_variables : (s : SourceOf) → IsAccepted s → length (shapes_of (main_proc s)) ≤ 200
few_variables s accepted =
    let main = main_is s accepted in
    let p : Proc = procedure_of s main.0 in
    let same : length (shapes_of (main_proc s)) ≡ length (shapes_of p) = ap (λ (p : Proc). length (shapes_of p)) main.1.at in
    let few = main.1.form.few_variables in
    omega (
      arith,
      same,
      few,
      length-append p.formals (map (λ (v : ValueOf). v.shape) p.locals),
      length-map main.0.formals (λ (d : Decl). shape_of d.shape),
      length-map p.locals (λ (v : ValueOf). v.shape),
      length-map main.0.locals local_value,
    )

-- so it has few conditions
pub conds_few : (s : SourceOf) (p : Proc) → IsAccepted s → StandsForMain s p → p.conds ≤ 200
conds_few s p accepted stands = let few = few_conds s accepted in omega (arith, few, stands.conds)

-- how long the body's code is, wherever the window ends
pub size_here : (vs : List ℕ) (shapes : List Shape) (end e : ℕ) (p q : Proc) → shapes ≡ shapes_of p → q ≡ p →
    size (layout_by vs shapes end) q.body ≡ size (layout_in vs p e) p.body
size_here vs shapes end e p q same is =
    ap (λ (z : List Shape). size (layout_by vs z end) q.body) same ∙ ap (λ (r : Proc). size (layout_in vs p end) r.body) is
    ∙ size_anywhere vs p end e p.body

-- the window's words, one after the other
pub ends : (frame : Frame) (main : Procedure) (s : SourceOf) (base : ℕ) → IsHere frame main s base →
    base + 6 * (2 + length main.conds.items) + size (frame_layout frame) (seen_statement main.body.value) + (2 + words_of (shapes_of (seen_proc main)))
    ≡ frame.end
ends frame main s base h =
    omega (
      arith,
      size_here frame.chosen.items frame.shapes.items frame.end 0 (seen_proc main) (seen_proc main) h.shapes refl,
      h.end,
    )

-- they end where a number of 32 bits says
pub ends_low : (frame : Frame) (main : Procedure) (s : SourceOf) (base : ℕ) → IsHere frame main s base → frame.end ≤ 2 ^ 31 + 2 ^ 20
ends_low frame main s base h = let small = h.small in let low = h.low in omega (arith, small, low)

pub final_is : (frame : Frame) (main : Procedure) (s : SourceOf) (base conds words : ℕ) → IsHere frame main s base → conds ≡ length main.conds.items
    → words ≡ size (frame_layout frame) (seen_statement main.body.value)
    → base + 6 * (2 + conds) + words ≡ final_of frame.chosen.items (seen_proc main) base (window_end frame.chosen.items (seen_proc main) base)
final_is frame main s base conds words h count sized =
    let p : Proc = seen_proc main in
    let vs : List ℕ = frame.chosen.items in
    omega (
      arith,
      count,
      sized,
      size_here vs frame.shapes.items frame.end (window_end vs p base) p (seen_proc main) h.shapes refl,
    )

pub registers_are : (frame : Frame) (main : Procedure) (s : SourceOf) (base conds : ℕ) (made : List ℕ) → IsHere frame main s base
    → conds ≡ length main.conds.items
    → made ≡ registers_by frame.chosen.items frame.shapes.items frame.end (base + 6 * (2 + conds))
    → made ≡ quick_registers frame.chosen.items (seen_proc main) base (window_end frame.chosen.items (seen_proc main) base)
registers_are frame main s base conds made h count is =
    let p : Proc = seen_proc main in
    let vs : List ℕ = frame.chosen.items in
    is ∙ ap (λ (z : List Shape). registers_by vs z frame.end (base + 6 * (2 + conds))) h.shapes
    ∙ ap (λ (e : ℕ). registers_by vs (shapes_of p) e (base + 6 * (2 + conds))) h.end
    ∙ ap (λ (n : ℕ). registers_by vs (shapes_of p) (window_end vs p base) (base + 6 * (2 + n))) count

pub window_words : (frame : Frame) (main : Procedure) (s : SourceOf) (base : ℕ) (code numbers words : List ℕ) → IsHere frame main s base
    → code ≡ words_by (frame_layout frame) base (length main.conds.items) (seen_statement main.body.value)
    → numbers ≡ numbers_of (first_values (seen_proc main)) → words ≡ trimmed (code ++ (halt_word ∷ 2 ∷ reverse numbers))
    → words ≡ trimmed (quick_window frame.chosen.items (seen_proc main) base (window_end frame.chosen.items (seen_proc main) base))
window_words frame main s base code numbers words h coded numbered is =
    let p : Proc = seen_proc main in
    let vs : List ℕ = frame.chosen.items in
    let end : ℕ = window_end vs p base in
    let values : Proc → List ℕ = λ q. halt_word ∷ 2 ∷ reverse (numbers_of (first_values q)) in
    let placed : frame_layout frame ≡ layout_in vs p end =
    ap (λ (z : List Shape). layout_by vs z frame.end) h.shapes ∙ ap (λ (e : ℕ). layout_in vs p e) h.end in
    is ∙ ap (λ (ws : List ℕ). trimmed (ws ++ (halt_word ∷ 2 ∷ reverse numbers))) coded
    ∙ ap (λ (ns : List ℕ). trimmed (words_by (frame_layout frame) base (length main.conds.items) (seen_statement main.body.value) ++
    (halt_word ∷ 2 ∷ reverse ns))) numbered
    ∙ ap (λ (L : Layout). trimmed (words_by L base (length main.conds.items) (seen_statement main.body.value) ++ values (seen_proc main))) placed
    ∙ ap (λ (ws : List ℕ). trimmed (ws ++ values p)) (words_are vs p base)
    ∙ ap trimmed (window_is vs p base)

pub image_made : (frame : Frame) (main : Procedure) (s : SourceOf) (base final : ℕ) (registers words : List ℕ) (bare : ImageOf)
    (names : List (List ℕ)) (slots : List Slot) → IsHere frame main s base
    → final ≡ final_of frame.chosen.items (seen_proc main) base (window_end frame.chosen.items (seen_proc main) base)
    → registers ≡ quick_registers frame.chosen.items (seen_proc main) base (window_end frame.chosen.items (seen_proc main) base)
    → words ≡ trimmed (quick_window frame.chosen.items (seen_proc main) base (window_end frame.chosen.items (seen_proc main) base))
    → bare ≡ bare_image base (frame.end - base) final registers words → names ≡ shown_conditions s
    → slots ≡ slots_from (frame.end - 1) (shown_formals s) →
    (let image : ImageOf = record bare { condition_address = Some (final + 1); conditions = names; slots = slots } in image)
    ≡ whole_image frame.chosen.items s (seen_proc main) base (window_end frame.chosen.items (seen_proc main) base)
image_made frame main s base final registers words bare names slots h f r w b n t =
    let p : Proc = seen_proc main in
    let vs : List ℕ = frame.chosen.items in
    let end : ℕ = window_end vs p base in
    let b' : bare ≡ bare_image base (end - base) (final_of vs p base end) (quick_registers vs p base end) (trimmed (quick_window vs p base end)) =
    b ∙ (λ i. bare_image base (h.end i - base) (f i) (r i) (w i)) in
    let cell = ap (λ (m : ℕ). m + 1) f ∙ sym (cell_is vs p base) in
    let t' : slots ≡ slots_from (end - 1) (shown_formals s) = t ∙ ap (λ (e : ℕ). slots_from (e - 1) (shown_formals s)) h.end in
    λ i. record (b' i) { condition_address = Some (cell i); conditions = n i; slots = t' i }

-- How many words were counted, at whatever end.
pub image_words : (frame : Frame) (main : Procedure) (vs : List ℕ) (p : Proc) (words : ℕ) → frame.chosen.items ≡ vs → frame.shapes.items ≡ shapes_of p
    → seen_proc main ≡ p
    → words ≡ limited (6 * (2 + length main.conds.items) + size (frame_layout frame) (seen_statement main.body.value) + (2 + words_of frame.shapes.items))
    → words ≡ limited (image_size vs p)
image_words frame main vs p words chosen same is counted =
    omega (
      arith,
      counted,
      ap (λ (q : Proc). q.conds) is,
      ap words_of same,
      size_here frame.chosen.items frame.shapes.items frame.end 0 p (seen_proc main) same is,
      ap (λ (ws : List ℕ). size (layout_in ws p 0) p.body) chosen,
    )
