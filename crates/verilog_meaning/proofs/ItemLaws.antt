-- The items of the module: where each wire's line is, and what holds of all.
use Rattle.std.proofs.Common.{◌≡◌, ℕ, zero, suc, ◌+◌, ◌<◌, true, List, [], ◌∷◌, ◌++◌, length, refl, sym, ap, ◌∙◌, arith, get_or, nat_lt, All, Contains}
use Rattle.std.{proofs.lemmas.Bool.ltb-true, proofs.lemmas.Grind.flat_map-append, proofs.lemmas.List.{length-map, get_or-map, get_or_default}}
use Rattle.std.{proofs.lemmas.List.Elements.{All-append, All-map, Contains-append_left, Contains-append_right}, specs.List.flat_map, specs.Prelude.map}
use Rattle.std.specs.Prelude.{slice_index, position, bytes_eq, unwrap_or}
use Rattle.fm_circuit.{specs.declared.wire.Wire.Wire, specs.declared.circuit.Driver.Driver, specs.Widths.{width_of, wires}, specs.Processor.driver_of}
use Rattle.fm_circuit.specs.Board.{registers}
use Rattle.fm_circuit.specs.declared.wire.Wire.TheVariants as w
use Rattle.fm_circuit.specs.declared.circuit.Driver.TheVariants as d
use Rattle.fm_verilog.specs.WireNames.{name_of}
use Rattle.verilog_meaning.{specs.Syntax.Item, specs.Laws.{Names, is_name}, specs.ProcessorModule.{declaration_of, driving_of, declarations, drivings}}
use Rattle.verilog_meaning.specs.ProcessorModule.{file_items, out_items, module_of, processor}

-- where a wire stands
abbrev place : Wire → ℕ
place wire = unwrap_or (position (λ other. bytes_eq (name_of other) (name_of wire)) wires) 0

place_inside : (wire : Wire) → nat_lt (place wire) (length wires) ≡ true
place_inside w.Phase = refl
place_inside wire = refl

at_place : (wire : Wire) → get_or wires (place wire) wire ≡ wire
at_place w.Phase = refl
at_place wire = refl

listed : (wire : Wire) → Contains wires wire
listed wire = (place wire, ltb-true (place wire) (length wires) (place_inside wire), at_place wire)

-- each wire has a name of its own
named : (wire : Wire) → is_name (name_of wire) ≡ true
named w.Phase = refl
named wire = refl

place_of : List ℕ → ℕ
place_of name = unwrap_or (position (λ other. bytes_eq (name_of other) name) wires) 0

pub names : Names
unfolding place_of
names =
    record {
      are = named;
      differ = λ x y same.
          let at : place x ≡ place y = ap place_of same in
          sym (at_place x) ∙ ap (λ k. get_or wires k x) at
          ∙ get_or_default wires (place y) x y (ltb-true (place y) (length wires) (place_inside y)) ∙ at_place y;
    }

pub positive : (wire : Wire) → nat_lt 0 (width_of wire) ≡ true
positive w.Phase = refl
positive wire = refl

mapped : (f : Wire → Item) (ws : List Wire) (wire : Wire) → Contains ws wire → Contains (map f ws) (f wire)
mapped f ws wire h =
    let long = length-map ws f in
    let lt = h.1 in
    (h.0, omega arith, get_or-map f ws h.0 wire (f wire) lt ∙ ap f h.2)

driving_in : (ws : List Wire) (wire : Wire) → Contains ws wire → Contains (module_of ws).items (driving_of wire (driver_of wire))
driving_in ws wire h =
    Contains-append_left (file_items ++ declarations ws ++ drivings ws) out_items (driving_of wire (driver_of wire))
    (Contains-append_right (file_items ++ declarations ws) (drivings ws) (driving_of wire (driver_of wire))
    (mapped (λ other. driving_of other (driver_of other)) ws wire h))

out_in : (ws : List Wire) (item : Item) → Contains out_items item → Contains (module_of ws).items item
out_in ws item h = Contains-append_right (file_items ++ declarations ws ++ drivings ws) out_items item h

pub driving_there : (wire : Wire) → Contains processor.items (driving_of wire (driver_of wire))
unfolding processor
driving_there wire = driving_in wires wire (listed wire)

pub out_there : (item : Item) → Contains out_items item → Contains processor.items item
unfolding processor
out_there item h = out_in wires item h

-- what is made of all items, one after another
pub items_mapped : {A : Type 0} (f : Item → List A) (ws : List Wire) →
    flat_map f (module_of ws).items ≡ flat_map f file_items ++ flat_map f (declarations ws) ++ flat_map f (drivings ws) ++ flat_map f out_items
items_mapped f ws =
    flat_map-append f (file_items ++ declarations ws ++ drivings ws) out_items
    ∙ ap (λ t. t ++ flat_map f out_items)
    (flat_map-append f (file_items ++ declarations ws) (drivings ws)
    ∙ ap (λ t. t ++ flat_map f (drivings ws)) (flat_map-append f file_items (declarations ws)))

module _ (P : Item → Type 0) (file : All P file_items) (declared : (wire : Wire) → P (declaration_of wire (driver_of wire)))
    (driven : (wire : Wire) → P (driving_of wire (driver_of wire))) (out : All P out_items) where
  all_in : (ws : List Wire) → All P (module_of ws).items
  all_in ws =
      All-append P (file_items ++ declarations ws ++ drivings ws) out_items
      (All-append P (file_items ++ declarations ws) (drivings ws)
      (All-append P file_items (declarations ws) file
      (All-map P (λ wire. declaration_of wire (driver_of wire)) ws (λ k other lt. declared (get_or ws k other))))
      (All-map P (λ wire. driving_of wire (driver_of wire)) ws (λ k other lt. driven (get_or ws k other))))
      out

  -- what holds of the lines of each wire, and of the others, holds of all items
  pub all_items : All P processor.items
  unfolding processor
  all_items = all_in wires

-- the places of registers
abbrev pub IsAt : Wire → Driver → Type 0
IsAt wire (d.Register number reset next) = (on : Wire → ℕ) → slice_index (map on registers) number ≡ on wire
IsAt wire driver = (on : Wire → ℕ) → on wire ≡ on wire

pub all_at : (wire : Wire) → IsAt wire (driver_of wire)
unfolding driver_of
all_at w.Phase = λ on. refl
all_at wire = λ on. refl

-- numbers one after another
abbrev pub numbers_from : ℕ → ℕ → List ℕ
numbers_from k zero = []
numbers_from k (suc m) = k ∷ numbers_from (suc k) m

pub number_at : (f : ℕ → ℕ) (k m i : ℕ) → i < m → slice_index (map f (numbers_from k m)) i ≡ f (k + i)
number_at f k zero i lt = absurd (omega arith)
number_at f k (suc m) zero lt = let e : k ≡ k + 0 = omega arith in ap f e
number_at f k (suc m) (suc i) lt = let e : suc k + i ≡ k + suc i = omega arith in number_at f (suc k) m i (omega arith) ∙ ap f e

-- a list is that of its items
pub rebuilt : (f : ℕ → ℕ) (xs : List ℕ) (k m : ℕ) → length xs ≡ m → ((i : ℕ) → f (k + i) ≡ slice_index xs i) → map f (numbers_from k m) ≡ xs
rebuilt f [] k zero long same = refl
rebuilt f [] k (suc m) long same = absurd (omega (arith, long))
rebuilt f (x ∷ xs) k zero long same = absurd (omega (arith, long))
rebuilt f (x ∷ xs) k (suc m) long same =
    let first : k ≡ k + 0 = omega arith in
    let less : length xs ≡ m = omega (arith, long) in
    λ j. (ap f first ∙ same 0) j ∷ rebuilt f xs (suc k) m less (λ i. let e : suc k + i ≡ k + suc i = omega arith in ap f e ∙ same (suc i)) j
