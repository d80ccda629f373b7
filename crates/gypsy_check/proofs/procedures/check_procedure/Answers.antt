use Rattle.std.proofs.Common.{◌∙◌, ◌++◌, false, ap}
use Rattle.stack_text.proofs.BreachLaws.{notes_more}
use Rattle.gypsy_syntax.{specs.declared.proc.Proc.Proc, specs.Views.SourceView.{proc_of, source_of}}
use Rattle.gypsy_check.{specs.Rules.{statement_breaches, variable_breaches, condition_name_breaches, size_breaches}, proofs.NoteLaws.noted}
use Rattle.gypsy_check.proofs.procedures.check_procedure.Goals as goal

pub returns : goal.returns
returns g c =
    let s = source_of c.args.callees.now.source.now in
    let p = proc_of c.args.proc.now in
    let f0 = c.args.best.now in
    let body = statement_breaches s p false p.body in
    let two = notes_more f0 c.declared_variables.new.best c.declared_conditions.new.best (variable_breaches p) (condition_name_breaches p)
    c.in_ok-variables.ensures.noted c.in_ok-conds.ensures.noted in
    let three = notes_more f0 c.declared_conditions.new.best c.check_words.new.best (variable_breaches p ++ condition_name_breaches p) (size_breaches p)
    two c.check_words.ensures in
    notes_more f0 c.check_words.new.best c.check_statement.new.best (variable_breaches p ++ condition_name_breaches p ++ size_breaches p) body three
    (c.in_ok-check_statement.ensures ∙ ap (λ (q : Proc). noted c.check_words.new.best (statement_breaches s (proc_of q) false p.body)) c.new-scope.ensures)
