use Rattle.std.{proofs.Common.{rules, ◌≡◌, ◌<◌, List, length, sym, subst, arith}, proofs.lemmas.List.length-map}
use Rattle.gypsy_syntax.{specs.declared.proc.Proc.Proc, specs.Resolved.procedure_of, specs.Views.SourceView.{proc_of, source_of}}
use Rattle.stack_commands.proofs.need.procedure_name.Goals as goal

pub procedure_at-requires : goal.procedure_at-requires
procedure_at-requires g c =
    let s = source_of c.args.accepted.now in
    let procs = c.args.accepted.now.procs.items in
    let here : c.args.procedure < length procs = omega (arith, c.requires, length-map s.procs (procedure_of s), length-map procs proc_of) in
    let same : c.as_slice-procs.result.now ≡ procs = search rules in
    subst (λ (slice : List Proc). c.args.procedure < length slice) (sym same) here
