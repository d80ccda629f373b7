use Rattle.std.{proofs.Common.{List, ℕ, sym, ap, ◌∙◌, arith}, specs.Str.bytes_eq}
use Rattle.name_tables.specs.Entries.{look_up}
use Rattle.stack_text.specs.Options.{first_or}
use Rattle.mini_syntax.proofs.ScopeLaws.{knows_more}
use Rattle.mini_syntax.proofs.scope.enter.Goals as goal

pub returns-clause-scope : goal.returns-clause-scope
returns-clause-scope g c =
    knows_more (look_up c.args.scope.now.variables) (look_up c.enter.new.self) c.args.scope.now.declared.items c.push.new.items.items
    record { name = c.args.name; sort = c.args.sort } c.len-index.result
    c.requires.scope (omega (arith, c.args.scope.now.declared.ok.0, c.len-index.ensures))
    (λ other. c.in_ok-enter.ensures.entered other ∙ ap
    (λ (name : List ℕ). first_or (look_up c.args.scope.now.variables other) (bytes_eq other name)
    record { index = c.len-index.result; sort = c.args.sort }) (sym c.requires.same))
    c.in_ok-push.ensures.items
