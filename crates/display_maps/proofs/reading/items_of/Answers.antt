use Rattle.std.proofs.Common.{◌≡◌, ◌∙◌, ◌-◌, ◌+◌, ◌++◌, ◌∷◌, [], ℕ, List, map, sym, ap, append_assoc, arith, rules}
use Rattle.stack_text.{specs.declared.shape.Kind.Kind, specs.Values.item_count}
use Rattle.fm_machine.specs.State.{Fm}
use Rattle.display_maps.{specs.declared.shown.Shown.Shown, specs.Reading.{word_or_zero, item_of, words_down}, proofs.ItemLaws.items_next}
use Rattle.display_maps.proofs.reading.items_of.Goals as goal

pub loop-preserved : goal.loop-preserved
loop-preserved g c =
    let s : Fm = c.args.machine.now.state in
    let kind : Kind = c.args.slot.now.shape.kind in
    let n : ℕ = item_count c.args.slot.now.shape in
    let left : ℕ = n - (c.loop.counter + 1) in
    let so_far : List Shown = c.loop.items.items in
    let rest : List Shown = map (item_of kind) (words_down s (c.loop.address - 1) left) in
    let below : c.saturating_sub-address.result ≡ c.loop.address - 1 = search rules in
    let item : c.item_of.result ≡ item_of kind (word_or_zero s c.loop.address) = search rules in
    ap (λ (a : ℕ). c.push.new.items.items ++ map (item_of kind) (words_down s a left)) below
    ∙ ap (λ (xs : List Shown). xs ++ rest) c.in_ok-push.ensures.items
    ∙ append_assoc so_far (c.item_of.result ∷ []) rest
    ∙ ap (λ (x : Shown). so_far ++ x ∷ rest) item
    ∙ ap (λ (xs : List Shown). so_far ++ xs) (sym (items_next s kind c.loop.address n c.loop.counter (omega arith)))
    ∙ c.loop.invariant
