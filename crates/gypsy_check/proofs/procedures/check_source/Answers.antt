use Rattle.std.{proofs.Common.{◌≡◌, ◌∙◌, ◌++◌, [], map, ap, ap₂, sym}, specs.List.flat_map}
use Rattle.stack_text.{specs.Breaches.Notes, proofs.BreachLaws.notes_more}
use Rattle.gypsy_syntax.{specs.declared.proc.Proc.Proc, specs.declared.proc.Source.Source, specs.Sources.ProcOf, specs.Views.SourceView.{proc_of, source_of}}
use Rattle.gypsy_check.{specs.Declarations.repeats, specs.Rules.{procedure_breaches, name_breaches, main_breaches, violations}, proofs.NoteLaws.noted}
use Rattle.gypsy_check.proofs.NoteLaws.{flat_over, names_over}
use Rattle.gypsy_check.proofs.procedures.check_source.Goals as goal

pub returns : goal.returns
unfolding violations
returns g c =
    let raw = c.args.source.now in
    let s = source_of raw in
    let f0 = c.args.best.now in
    let f1 = c.callees_of.new.best in
    let f2 = c.check_main.new.best in
    let f3 = c.check_names.new.best in
    let f4 = c.check_procedures.new.best in
    let one = c.in_ok-callees.callees in
    let of : one.source.now ≡ raw = c.in_ok-callees.ensures.of in
    let procs = raw.procs.items in
    let names : Notes f0 (repeats 1 [] (map (λ (p : ProcOf). p.name) s.procs)) f1 =
    c.in_ok-callees.ensures.noted ∙ ap (λ ns. noted f0 (repeats 1 [] ns)) (names_over procs) in
    let main : Notes f1 (main_breaches s) f2 = c.check_main.ensures ∙ ap (λ (r : Source). noted f1 (main_breaches (source_of r))) of in
    let own : Notes f2 (flat_map name_breaches s.procs) f3 =
    c.check_names.ensures ∙ ap (λ ps. noted f2 (flat_map (λ (p : Proc). name_breaches (proc_of p)) ps)) c.as_slice.ensures.value
    ∙ ap (noted f2) (sym (flat_over proc_of name_breaches procs)) in
    let each : Notes f3 (flat_map (procedure_breaches s) s.procs) f4 =
    c.in_ok-check_procedures.ensures ∙ ap₂ (λ (r : Source) ps. noted f3 (flat_map (λ (p : Proc). procedure_breaches (source_of r) (proc_of p)) ps)) of
    c.as_slice-2.ensures.value
    ∙ ap (noted f3) (sym (flat_over proc_of (procedure_breaches s) procs)) in
    let v1 = repeats 1 [] (map (λ (p : ProcOf). p.name) s.procs) in
    let two = notes_more f0 f1 f2 v1 (main_breaches s) names main in
    let three = notes_more f0 f2 f3 (v1 ++ main_breaches s) (flat_map name_breaches s.procs) two own in
    notes_more f0 f3 f4 (v1 ++ main_breaches s ++ flat_map name_breaches s.procs) (flat_map (procedure_breaches s) s.procs) three each
