use Rattle.std.proofs.Common.{◌≡◌, ◌+◌, ◌++◌, ◌∷◌, [], rules, arith}
use Rattle.quick_generate.proofs.InMainLaws.{numbers_next}
use Rattle.quick_generate.proofs.in_main.append_numbers.Goals as goal

pub loop-index-preserved : goal.loop-index-preserved
loop-index-preserved g c =
    let pushed : c.push.new.items.items ≡ c.loop-index.numbers.items ++ (c.args.from + c.loop-index.index) ∷ [] = search rules in (
      omega (arith, c.loop-index-test.true),
      numbers_next c.args.from c.args.count c.loop-index.index _ _ _ c.loop-index-test.true pushed c.loop-index.invariant.1,
    )
