use Rattle.std.{proofs.Common.{◌≡◌, List, ◌++◌, ◌∷◌, [], ap, ◌∙◌, rules, arith}, specs.declared.alloc.Global.Global, specs.declared.rc.Rc.Rc}
use Rattle.gypsy_space.{proofs.NodeLaws.seen_statement-seq, specs.Nodes.seen_statements, specs.declared.program.Node.Node}
use Rattle.quick_generate.proofs.LineLaws.{assigned_all, assigned_next}
use Rattle.quick_generate.proofs.lining.after_locals.Goals as goal

pub loop-index-preserved : goal.loop-index-preserved
loop-index-preserved g c =
    let old : List (Rc Node Global) = c.loop-index.parts.items in
    let new : List (Rc Node Global) = c.push.new.items.items in
    let pushed : new ≡ old ++ c.in_ok-part.part ∷ [] = search rules in
    assigned_next c.args.place c.args.next c.loop-index.index c.args.locals.now old new c.in_ok-part.part c.index-locals-index.result
    c.loop-index-test.true c.index-locals-index.is pushed c.in_ok-part.ensures c.loop-index.invariant

pub returns : goal.returns
returns g c =
    let old : List (Rc Node Global) = c.loop-index.parts.items in
    let new : List (Rc Node Global) = c.push-2.new.items.items in
    let pushed : new ≡ old ++ c.args.body ∷ [] = search rules in
    seen_statement-seq c.in_ok-shared.field-0 ∙ ap (λ v. seen_statements v.items) c.in_ok-shared.ensures.value
    ∙ assigned_all c.args.place c.args.next c.loop-index.index c.args.locals.now old new c.args.body (omega (arith, c.loop-index-test.false)) pushed
    c.loop-index.invariant
