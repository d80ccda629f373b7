use Rattle.std.proofs.Common.{◌≡◌, ◌∙◌, ◌-◌, ◌+◌, ◌++◌, ◌∷◌, [], ℕ, List, map, sym, ap, append_assoc, arith, rules}
use Rattle.stack_text.{specs.declared.shape.Kind.Kind, specs.Values.item_count}
use Rattle.display_maps.{specs.declared.shown.Shown.Shown, specs.Reading.item_of}
use Rattle.level_debuggers.{specs.PitonReadings.{element_at, elements_down}, proofs.ElementLaws.elements_next}
use Rattle.level_debuggers.proofs.piton_reading.items_of.Goals as goal

pub loop-preserved : goal.loop-preserved
loop-preserved g c =
    let elements : List ℕ = c.args.elements.now in
    let kind : Kind = c.args.slot.now.shape.kind in
    let n : ℕ = item_count c.args.slot.now.shape in
    let left : ℕ = n - (c.loop.counter + 1) in
    let so_far : List Shown = c.loop.items.items in
    let rest : List Shown = map (item_of kind) (elements_down c.args.above elements (c.loop.address - 1) left) in
    let below : c.saturating_sub-address.result ≡ c.loop.address - 1 = search rules in
    let item : c.item_of.result ≡ item_of kind (element_at c.args.above elements c.loop.address) = search rules in
    ap (λ (a : ℕ). c.push.new.items.items ++ map (item_of kind) (elements_down c.args.above elements a left)) below
    ∙ ap (λ (xs : List Shown). xs ++ rest) c.in_ok-push.ensures.items
    ∙ append_assoc so_far (c.item_of.result ∷ []) rest
    ∙ ap (λ (x : Shown). so_far ++ x ∷ rest) item
    ∙ ap (λ (xs : List Shown). so_far ++ xs) (sym (elements_next kind c.args.above elements c.loop.address n c.loop.counter (omega arith)))
    ∙ c.loop.invariant
