use Rattle.std.{proofs.Common.{map, slice_set, ap, ◌∙◌}, proofs.lemmas.List.map-set, proofs.Math.Seq.map-set_same}
use Rattle.gypsy_meaning.proofs.CopyLaws.{read_value}
use Rattle.gypsy_meaning.proofs.copying.exchange.Goals as goal

pub returns-clause-caller : goal.returns-clause-caller
returns-clause-caller c =
    map-set (λ v. v.1) c.args.caller.now.items c.args.variable (c.index_mut.result.now.0, c.swap.new.x)
    ∙ ap (slice_set (map (λ v. v.1) c.args.caller.now.items) c.args.variable)
    (c.swap.ensures.x_after ∙ read_value c.args.callee.now.items c.args.place c.index_mut-2.result.now c.index_mut-2.ensures.value c.requires.place)

pub returns-clause-caller_names : goal.returns-clause-caller_names
returns-clause-caller_names c =
    map-set_same (λ v. v.0) c.args.caller.now.items c.args.variable (c.index_mut.result.now.0, c.swap.new.x) c.index_mut.result.now
    (ap (λ v. v.0) c.index_mut.ensures.value)

pub returns-clause-callee : goal.returns-clause-callee
returns-clause-callee c =
    map-set (λ v. v.1) c.args.callee.now.items c.args.place (c.index_mut-2.result.now.0, c.swap.new.y)
    ∙ ap (slice_set (map (λ v. v.1) c.args.callee.now.items) c.args.place)
    (c.swap.ensures.y_after ∙ read_value c.args.caller.now.items c.args.variable c.index_mut.result.now c.index_mut.ensures.value c.requires.variable)

pub returns-clause-callee_names : goal.returns-clause-callee_names
returns-clause-callee_names c =
    map-set_same (λ v. v.0) c.args.callee.now.items c.args.place (c.index_mut-2.result.now.0, c.swap.new.y) c.index_mut-2.result.now
    (ap (λ v. v.0) c.index_mut-2.ensures.value)
