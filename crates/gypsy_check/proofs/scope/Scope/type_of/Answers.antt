use Rattle.std.proofs.Common.{◌∙◌, ap, List, ℕ}
use Rattle.gypsy_syntax.{specs.declared.proc.Proc.Proc, specs.Views.SourceView.proc_of}
use Rattle.gypsy_check.{specs.Declarations.type_of, proofs.VariableLaws.type_known}
use Rattle.name_tables.specs.Entries.{look_up}
use Rattle.gypsy_check.proofs.scope.Scope.type_of.Goals as goal

pub returns : goal.returns
returns c =
    c.get.ensures
    ∙ ap (λ (text : List ℕ). look_up c.self.inside.variables text) c.bytes.ensures.bytes
    ∙ c.self.invariant.0 c.args.name.now
    ∙ type_known c.self.inside.proc.now c.args.name.now
    ∙ ap (λ (p : Proc). type_of (proc_of p) c.args.name.now) c.self.view_is
