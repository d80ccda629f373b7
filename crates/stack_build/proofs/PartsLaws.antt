-- An image that is made of the parts of a linked system.
use Rattle.std.{proofs.Common.{◌≡◌, ◌<◌, ◌≤◌, ◌-◌, ℕ, List, Some, true, sym, ap, subst, ◌∙◌, arith}, specs.Prelude.{◌^◌, IsTrue}}
use Rattle.fm_image.{specs.declared.slot.Slot.Slot, specs.Image.ImageOf, specs.Limits.{Tables, are_tables, is_image}}
use Rattle.piton_check.specs.PitonChecking.{CheckedOf, IsChecked}
use Rattle.piton_semantics.{specs.Fits.system_in, specs.Placed.{placed, areas_start, end_of}}
use Rattle.piton_linker.{specs.declared.placement.Layout.Layout, specs.Layouts.layout_of, proofs.ProcessorLaws.checked_end}
use Rattle.gypsy_syntax.specs.declared.literal.Decl.{Decl}
use Rattle.stack_build.{specs.Image.{slots_from, linked_image, image_with}, specs.Internal.Showing.IsShowable, proofs.ImageLimits.{placed_window, system_fits}}

-- its addresses are numbers of 32 bits
pub areas_below : (c : CheckedOf) (layout : Layout) → IsChecked c → (placed (system_in c)).size ≤ 2 ^ 20 → layout ≡ layout_of (system_in c)
    → layout.areas_start < 2 ^ 32
areas_below c layout is small e =
    let fits = checked_end c is small in
    let at : layout.areas_start ≡ areas_start (system_in c) = ap (λ (l : Layout). l.areas_start) e in
    let within : areas_start (system_in c) ≤ end_of (system_in c) = omega arith in
    omega (arith, at, within, fits)

pub end_below : (c : CheckedOf) (layout : Layout) → IsChecked c → (placed (system_in c)).size ≤ 2 ^ 20 → layout ≡ layout_of (system_in c)
    → layout.end - 1 < 2 ^ 32
end_below c layout is small e =
    let fits = checked_end c is small in
    let at : layout.end ≡ end_of (system_in c) = ap (λ (l : Layout). l.end) e in
    omega (arith, at, fits)

-- it is the image of the system
pub parts_are : (c : CheckedOf) (ds : List Decl) (conditions : List (List ℕ)) (tables : Tables) (layout : Layout) (linked : ImageOf)
    (names : List (List ℕ)) (slots : List Slot) (made : Tables) →
    layout ≡ layout_of (system_in c) → linked ≡ linked_image (system_in c) → names ≡ conditions → slots ≡ slots_from (layout.end - 1) ds → made ≡ tables →
    (let image : ImageOf = record linked {
      condition_address = Some layout.areas_start;
      conditions = names;
      slots = slots;
      procedures = made.procedures;
      marks = made.marks;
    } in image)
    ≡ image_with ds conditions tables (system_in c)
parts_are c ds conditions tables layout linked names slots made l b m s t =
    let s' : slots ≡ slots_from (end_of (system_in c) - 1) ds = s ∙ ap (λ (p : Layout). slots_from (p.end - 1) ds) l in
    λ i. record (b i) { condition_address = Some (l i).areas_start; conditions = m i; slots = s' i; procedures = (t i).procedures; marks = (t i).marks }

-- it keeps the limits
pub parts_fit : (c : CheckedOf) (ds : List Decl) (conditions : List (List ℕ)) (tables : Tables) → IsChecked c → (placed (system_in c)).size ≤ 2 ^ 20
    → IsShowable (system_in c) ds conditions → are_tables (placed_window (system_in c)) tables ≡ true →
    (image : ImageOf) → image ≡ image_with ds conditions tables (system_in c) → IsTrue (is_image image)
parts_fit c ds conditions tables is small shows fit image whole =
    subst (λ (z : ImageOf). IsTrue (is_image z)) (sym whole) (system_fits (system_in c) ds conditions tables is.sound small shows fit)
