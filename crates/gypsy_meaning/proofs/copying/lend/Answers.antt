use Rattle.std.{proofs.Common.{◌≤◌, List, length, map, sym, ◌∙◌, arith}, proofs.lemmas.List.length-map}
use Rattle.stack_text.specs.Values.{ValueOf}
use Rattle.gypsy_semantics.proofs.LendingLaws.{all_taken, taken_all}
use Rattle.gypsy_meaning.proofs.copying.lend.Goals as goal

pub returns-clause-lent : goal.returns-clause-lent
returns-clause-lent c =
    let xs = c.args.actuals.now in
    let x : List ValueOf = map (λ v. v.1) c.args.caller.now.items in
    let y : List ValueOf = map (λ v. v.1) c.args.callee.now.items in
    let left : List ValueOf = map (λ v. v.1) c.loop-place.caller.items in
    let lent : List ValueOf = map (λ v. v.1) c.loop-place.callee.items in
    let all : length xs ≤ c.loop-place.place = omega (arith, c.loop-place-test.false) in
    let few : length xs ≤ length y = omega (arith, c.requires.few, length-map c.args.callee.now.items (λ v. v.1)) in
    sym (all_taken xs c.loop-place.place left lent all) ∙ c.loop-place.invariant.1 ∙ taken_all xs x y c.requires.lent.distinct few
