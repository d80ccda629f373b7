use Rattle.std.proofs.Common.{◌≡◌, ◌∙◌, List, subst, rules}
use Rattle.stack_heap.specs.Heaps.{IfOkUnless}
use Rattle.piton_words.specs.declared.word.Word.{Word}
use Rattle.piton_semantics.{specs.Addresses.numbers, specs.Fits.system_in, specs.Placed.addresses_of, specs.StateView.IsSeen}
use Rattle.level_debuggers.{specs.PitonReadings.area_words, proofs.AreaLaws.known_words}
use Rattle.level_debuggers.proofs.piton_level.PitonLevel.area_numbers.Goals as goal

pub numbers-requires : goal.numbers-requires
numbers-requires g c =
    let words : c.deref.result.now ≡ area_words c.self.inside.state.state = c.deref.ensures.value ∙ c.in_ok-words.ensures in
    let seen : IsSeen (system_in c.self.inside.placed) c.self.inside.state = search rules in
    record { there = known_words (system_in c.self.inside.placed) c.self.inside.state c.deref.result.now words seen }

pub returns : goal.returns
returns g c =
    let words : c.deref.result.now ≡ area_words c.args.self.now.seen.state = search rules in
    let same : system_in c.self.inside.placed ≡ system_in c.args.self.now.checked = search rules in
    subst (λ s. IfOkUnless (g.H.Heap.may_refuse c.args.heap) c.numbers.result
    (λ made. made.items ≡ numbers (addresses_of s) (area_words c.args.self.now.seen.state))) same
    (subst (λ (ws : List Word).
    IfOkUnless (g.H.Heap.may_refuse c.args.heap) c.numbers.result (λ made. made.items ≡ numbers (addresses_of (system_in c.self.inside.placed)) ws)) words
    c.numbers.ensures)
