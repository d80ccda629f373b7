use Rattle.std.proofs.Common.{◌++◌, map, take, ap, sym, ◌∙◌, subst, append_assoc}
use Rattle.piton_check.specs.Instruction.{system_view}
use Rattle.piton_semantics.{specs.Fits.{Each, IsWordOf}, specs.StateView.words_in, proofs.EachLaws.each_get, specs.Addresses.numbers, specs.Placed.addresses_of}
use Rattle.piton_linker.{specs.Tables.areas_words, proofs.BoundLaws.seen_at, proofs.DataLaws.areas_more}
use Rattle.piton_linker.proofs.data.append_areas.Goals as goal

pub append_words-requires-clause-there : goal.append_words-requires-clause-there
append_words-requires-clause-there g c =
    let s = system_view c.args.checked.now in
    let all = map words_in c.args.areas.now in
    let k = c.loop-area.area-index in
    let there = seen_at words_in c.args.areas.now k c.area-item.result c.loop-area-test.true c.area-item.is in
    subst (Each (IsWordOf s)) (sym c.as_slice.ensures.value) (each_get (Each (IsWordOf s)) all k (words_in c.area-item.result) c.requires.there there)

pub loop-area-preserved : goal.loop-area-preserved
loop-area-preserved g c =
    let s = system_view c.args.checked.now in
    let old = c.args.words.now.items in
    let all = map words_in c.args.areas.now in
    let k = c.loop-area.area-index in
    let there = seen_at words_in c.args.areas.now k c.area-item.result c.loop-area-test.true c.area-item.is in
    c.in_ok-append_words.ensures
    ∙ ap (λ ws. ws ++ numbers (addresses_of s) c.as_slice.result.now) c.loop-area.invariant
    ∙ append_assoc old (areas_words s (take k all)) (numbers (addresses_of s) c.as_slice.result.now)
    ∙ ap (λ ws. old ++ (areas_words s (take k all) ++ numbers (addresses_of s) ws)) c.as_slice.ensures.value
    ∙ ap (λ ws. old ++ ws) (areas_more s k all (words_in c.area-item.result) there)
