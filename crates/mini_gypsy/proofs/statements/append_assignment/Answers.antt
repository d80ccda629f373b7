use Rattle.std.proofs.Common.{map}
use Rattle.mini_syntax.specs.ProgramView.{exp_of}
use Rattle.mini_gypsy.proofs.PartLaws.{assigned_pushed}
use Rattle.mini_gypsy.proofs.statements.append_assignment.Goals as goal

pub returns : goal.returns
returns g c =
    assigned_pushed (map (λ d. d.name) c.args.declared.now) c.args.index (exp_of c.args.value.now) c.sort.result
    c.args.parts.now.items c.append_value.new.parts.items c.push.new.items.items c.in_ok-made.made
    c.sort.ensures c.in_ok-append_value.ensures c.in_ok-made.ensures c.in_ok-push.ensures.items
