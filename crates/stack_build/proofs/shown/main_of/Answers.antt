use Rattle.std.{proofs.Common.{Bor, ◌≡◌, ◌∙◌, Option, Some, None, List, bytes_eq, refl, ap}, specs.Prelude.option_map, specs.List.find}
use Rattle.gypsy_syntax.{specs.declared.proc.Proc.Proc, specs.Views.SourceView.proc_of}
use Rattle.stack_build.proofs.ShownLaws.{main_found}
use Rattle.stack_build.proofs.shown.main_of.Goals as goal

viewed : (o : Option (Bor Proc)) → option_map (λ p. proc_of p.now) o ≡ option_map proc_of (option_map (λ p. p.now) o)
viewed None = refl
viewed (Some p) = refl

pub returns : goal.returns
returns c =
    viewed c.first_named.result
    ∙ ap (option_map proc_of) (c.first_named.ensures ∙ ap
    (λ (procs : List Proc). find (λ (p : Proc). bytes_eq c.args.source.now.main.name p.name.name) procs) c.as_slice.ensures.value)
    ∙ main_found c.args.source.now
