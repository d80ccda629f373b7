use Rattle.std.proofs.Common.{◌∙◌, ap, List, ℕ}
use Rattle.stack_text.specs.Names.{is_among}
use Rattle.gypsy_syntax.{specs.declared.proc.Proc.Proc, specs.Views.SourceView.proc_of}
use Rattle.gypsy_check.{specs.Declarations.is_condition, proofs.VariableLaws.condition_known}
use Rattle.gypsy_check.proofs.scope.Scope.has_condition.Goals as goal

pub returns : goal.returns
returns c =
    c.contains.ensures
    ∙ ap (λ (text : List ℕ). is_among text c.self.inside.conds) c.bytes.ensures.bytes
    ∙ c.self.invariant.1 c.args.name.now
    ∙ condition_known c.self.inside.proc.now c.args.name.now
    ∙ ap (λ (p : Proc). is_condition (proc_of p) c.args.name.now) c.self.view_is
