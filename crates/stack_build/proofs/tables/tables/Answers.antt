use Rattle.std.{proofs.Common.{◌≡◌, ◌∙◌, List, true, map, sym, ap, subst, rules}, specs.List.list_all}
use Rattle.fm_image.specs.Limits.{is_place}
use Rattle.gypsy_syntax.{specs.declared.proc.Proc.Proc, specs.declared.proc.Source.Source, specs.Views.SourceView.{proc_of, source_of}}
use Rattle.gypsy_codegen.specs.declared.marking.MarkAt.{MarkAt}
use Rattle.stack_build.{specs.Image.procedure_infos, specs.Internal.Listing.Declares, proofs.ListingLaws.{declares, tables_are}}
use Rattle.stack_build.proofs.tables.tables.Goals as goal

pub procedures-requires : goal.procedures-requires
procedures-requires g c =
    let s = source_of c.args.accepted.now in
    let same : map proc_of c.as_slice.result.now ≡ s.procs =
    ap (λ (ps : List Proc). map proc_of ps) c.as_slice.ensures.value ∙ ap (λ (t : Source). (source_of t).procs) c.source-source.ensures.value in
    record { declares = subst (Declares c.args.program.now) (sym same) (declares s c.args.program.now c.source-source.ensures.accepted c.requires.names) }

pub returns-clause-tables : goal.returns-clause-tables
returns-clause-tables g c = λ system generated places.
    let s = source_of c.args.accepted.now in
    let same : map proc_of c.as_slice.result.now ≡ s.procs =
    ap (λ (ps : List Proc). map proc_of ps) c.as_slice.ensures.value ∙ ap (λ (t : Source). (source_of t).procs) c.source-source.ensures.value in
    let held : c.places_fit.result ≡ true = search rules in
    let fit : list_all (λ (m : MarkAt). is_place m.place) c.in_ok-listed.listed.items ≡ true = rw (← c.deref.ensures.value, ← c.places_fit.ensures) held in
    let procedures = c.in_ok-procedures.ensures ∙ (λ i. procedure_infos (c.requires.program i) 0 (same i)) in
    tables_are s system generated c.in_ok-listed.listed.items c.in_ok-listed.ensures _ c.in_ok-procedures.procedures.items c.in_ok-marks.marks.items
    places fit procedures (rw c.deref-2.ensures.value at c.in_ok-marks.ensures)
