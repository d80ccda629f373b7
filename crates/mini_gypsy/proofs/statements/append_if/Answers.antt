use Rattle.std.proofs.Common.{map}
use Rattle.gypsy_syntax.specs.Views.SourceView.{stmt_of}
use Rattle.mini_gypsy.{specs.Lowered.{choice_parts, value_parts}, proofs.PartLaws.if_pushed}
use Rattle.mini_syntax.specs.ProgramView.{exp_of}
use Rattle.mini_gypsy.proofs.statements.append_if.Goals as goal

pub returns : goal.returns
returns g c =
    if_pushed (value_parts (map (λ d. d.name) c.args.declared.now) 0 (exp_of c.args.test.now)) c.args.parts.now.items c.append_value.new.parts.items
    c.push.new.items.items
    c.in_ok-made.made (choice_parts (stmt_of c.args.then) (stmt_of c.args.otherwise)) c.in_ok-append_value.ensures c.in_ok-made.ensures
    c.in_ok-push.ensures.items
