use Rattle.std.{proofs.Common.{◌∙◌, ◌+◌, ◌++◌, [], map, take, ap, List}, proofs.lemmas.List.take_all}
use Rattle.stack_text.{specs.Breaches.{lesser_of, least}, specs.declared.name.Named.Named}
use Rattle.gypsy_syntax.{specs.declared.literal.Decl.Decl, specs.declared.literal.Local.Local}
use Rattle.gypsy_check.{specs.Declarations.repeats, proofs.RepeatLaws.{items_more, list_more}, proofs.VariableLaws.{types_next, repeats_next, names_of}}
use Rattle.name_tables.specs.Entries.{look_up}
use Rattle.gypsy_check.proofs.names.variables_of.Goals as goal

pub loop-formal-preserved : goal.loop-formal-preserved
loop-formal-preserved g c =
    let one = c.formal-item.result in
    let before = take c.loop-formal.formal-index c.args.formals.now in
    let after = take (c.loop-formal.formal-index + 1) c.args.formals.now in
    let more = list_more [] c.args.formals.now c.loop-formal.formal-index one c.loop-formal-test.true c.formal-item.is in
    record {
      known = types_next before after one (look_up c.loop-formal.variables) (look_up c.declare.new.variables) more c.loop-formal.invariant.known
          c.in_ok-declare.ensures.entered;
      noted = repeats_next before after one c.args.best.now c.loop-formal.best c.declare.new.best (look_up c.loop-formal.variables) more
          c.loop-formal.invariant.known c.loop-formal.invariant.noted c.in_ok-declare.ensures.noted;
    }

pub loop-local-preserved : goal.loop-local-preserved
loop-local-preserved g c =
    let one = c.local-item.result in
    let before = c.args.formals.now ++ map (λ (l : Local). l.decl) (take c.loop-local.local-index c.args.locals.now) in
    let after = c.args.formals.now ++ map (λ (l : Local). l.decl) (take (c.loop-local.local-index + 1) c.args.locals.now) in
    let more = items_more (λ (l : Local). l.decl) c.args.formals.now c.args.locals.now c.loop-local.local-index one c.loop-local-test.true c.local-item.is in
    record {
      known = types_next before after one.decl (look_up c.loop-local.variables) (look_up c.declare-in-loop-local.new.variables) more
          c.loop-local.invariant.known c.in_ok-declare-2.ensures.entered;
      noted = repeats_next before after one.decl c.args.best.now c.loop-local.best c.declare-in-loop-local.new.best (look_up c.loop-local.variables)
          more c.loop-local.invariant.known c.loop-local.invariant.noted c.in_ok-declare-2.ensures.noted;
    }

pub returns-clause-noted : goal.returns-clause-noted
returns-clause-noted g c =
    c.loop-local.invariant.noted
    ∙ ap (λ (ns : List Named). lesser_of c.args.best.now (least (repeats 4 [] ns)))
    (names_of c.args.formals.now (take c.loop-local.local-index c.args.locals.now))
    ∙ ap (λ (ls : List Local). lesser_of c.args.best.now
    (least (repeats 4 [] (map (λ (d : Decl). d.name) c.args.formals.now ++ map (λ (l : Local). l.decl.name) ls))))
    (take_all c.loop-local.local-index c.args.locals.now c.loop-local-test.false)
