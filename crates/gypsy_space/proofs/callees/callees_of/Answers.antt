use Rattle.std.{proofs.Common.{List, ap, sym, ◌∙◌}, proofs.lemmas.Simd.map-map}
use Rattle.stack_text.specs.Names.{place_among}
use Rattle.gypsy_syntax.{specs.declared.proc.Proc.Proc, specs.Sources.ProcOf, specs.Views.SourceView.proc_of}
use Rattle.gypsy_space.specs.Callees.{names_of}
use Rattle.gypsy_space.proofs.callees.callees_of.Goals as goal

pub returns-clause-known : goal.returns-clause-known
returns-clause-known g c = λ name.
    c.in_ok-positions.ensures name
    ∙ ap (λ (ps : List Proc). place_among name (names_of ps)) c.as_slice.ensures.value
    ∙ ap (place_among name) (sym (map-map (λ (p : ProcOf). p.name.name) proc_of c.args.source.now.procs.items))
