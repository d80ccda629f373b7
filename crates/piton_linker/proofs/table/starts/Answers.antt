use Rattle.std.{proofs.Common.{◌≤◌, ◌++◌, ◌∷◌, [], length, map, take, ap, sym, ◌∙◌, arith}, proofs.lemmas.List.length-map, proofs.lemmas.List.Sums.sum_by_more}
use Rattle.std.proofs.lemmas.List.Sums.{sum_by_more_le, sum_by-take-le}
use Rattle.piton_linker.{specs.Tables.starts, proofs.LookupLaws.{starts_more, whole}}
use Rattle.piton_linker.proofs.table.starts.Goals as goal

pub overflow_cast-at : goal.overflow_cast-at
overflow_cast-at g c =
    omega (arith, sum_by-take-le g.T.TakesWords.words c.args.parts.now c.loop-part.part-index, c.requires, c.loop-part.invariant.at)

pub size-at-requires : goal.size-at-requires
size-at-requires g c =
    let words = g.T.TakesWords.words in
    let within = sum_by_more_le words c.args.parts.now c.loop-part.part-index c.part-item.result c.loop-part-test.true in
    omega (arith, within, ap words c.part-item.is, c.requires)

pub overflow_add-at : goal.overflow_add-at
overflow_add-at g c =
    let words = g.T.TakesWords.words in
    let within = sum_by_more_le words c.args.parts.now c.loop-part.part-index c.part-item.result c.loop-part-test.true in
    omega (arith, within, ap words c.part-item.is, c.requires, c.loop-part.invariant.at, c.size-at.ensures)

pub loop-part-preserved : goal.loop-part-preserved
loop-part-preserved g c =
    let words = g.T.TakesWords.words in
    let all = c.args.parts.now in
    let k = c.loop-part.part-index in
    let next = sum_by_more words all k c.part-item.result c.loop-part-test.true in
    record {
      at = omega (arith, next, ap words c.part-item.is, c.loop-part.invariant.at, c.size-at.ensures);
      made = c.in_ok-push.ensures.items
          ∙ ap (λ ns. ns ++ c.loop-part.at ∷ []) c.loop-part.invariant.made
          ∙ ap (λ n. take k (starts c.args.first (map words all)) ++ n ∷ []) c.loop-part.invariant.at
          ∙ sym (starts_more words c.args.first k all c.loop-part-test.true);
    }

pub returns : goal.returns
returns g c =
    let words = g.T.TakesWords.words in
    let all = c.args.parts.now in
    let k = c.loop-part.part-index in
    let size : length (map words all) ≤ k = omega (arith, length-map all words, c.loop-part-test.false) in
    c.loop-part.invariant.made ∙ whole c.args.first k (map words all) size
