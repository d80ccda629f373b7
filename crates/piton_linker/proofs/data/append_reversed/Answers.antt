use Rattle.std.proofs.Common.{◌++◌, ◌∷◌, [], take, reverse, ap, ◌∙◌, refl, append_assoc}
use Rattle.piton_check.specs.Instruction.{system_view}
use Rattle.piton_semantics.{specs.Addresses.numbers, specs.Placed.addresses_of}
use Rattle.piton_linker.proofs.DataLaws.{reversed_more}
use Rattle.piton_linker.proofs.data.append_reversed.Goals as goal

pub loop-done-preserved : goal.loop-done-preserved
loop-done-preserved g c =
    let s = system_view c.args.checked.now in
    let old = c.args.words.now.items in
    let ws = c.args.items.now in
    let k = c.loop-done.done in
    c.in_ok-push.ensures.items
    ∙ ap (λ ns. ns ++ c.number.result ∷ []) c.loop-done.invariant
    ∙ append_assoc old (numbers (addresses_of s) (take k (reverse ws))) (c.number.result ∷ [])
    ∙ ap (λ ns. old ++ ns) (reversed_more s k c.number.result _ ws _ c.number.ensures refl c.loop-done-test.true)
