use Rattle.std.proofs.Common.{map, ap, ◌∙◌, ◌++◌, List}
use Rattle.gypsy_syntax.{specs.declared.statement.Stmt.Stmt as Made, specs.Views.SourceView.stmt_of}
use Rattle.mini_gypsy.{specs.Lowered.value_parts, proofs.PartLaws.while_pushed}
use Rattle.mini_syntax.specs.ProgramView.{exp_of}
use Rattle.mini_gypsy.proofs.statements.append_while.Goals as goal

pub returns : goal.returns
returns g c =
    let values = value_parts (map (λ d. d.name) c.args.declared.now) 0 (exp_of c.args.test.now) in
    while_pushed values c.args.parts.now.items c.push-2.new.items.items c.append_value.new.parts.items c.push.new.items.items
    c.in_ok-whole.whole c.in_ok-made.made c.in_ok-leave.field-0 (stmt_of c.args.then)
    (c.in_ok-append_value.ensures ∙ ap (λ (xs : List Made). map stmt_of xs ++ values) c.new-round.ensures.items)
    c.in_ok-leave.ensures c.in_ok-made.ensures c.in_ok-push.ensures.items c.in_ok-whole.ensures c.in_ok-push-2.ensures.items
