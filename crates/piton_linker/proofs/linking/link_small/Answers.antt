use Rattle.std.proofs.Common.{◌≡◌, length, ap, sym, ◌∙◌, arith}
use Rattle.piton_check.{specs.Instruction.system_view, specs.Resolved.ResolvedOf}
use Rattle.piton_semantics.{specs.Fits.system_in, specs.Placed.{addresses_of, programs_size}, proofs.SizeLaws.length-programs_words}
use Rattle.piton_linker.{specs.Tables.{TableOf, table_of}, proofs.DraftLaws.length-drafted, proofs.PlaceLaws.rows_are, proofs.ProcessorLaws.checked_runs}
use Rattle.piton_linker.proofs.ProcessorLaws.{checked_end}
use Rattle.piton_linker.proofs.linking.link_small.Goals as goal

pub complete-code-requires-clause-room : goal.complete-code-requires-clause-room
complete-code-requires-clause-room g c =
    let s = system_in c.args.checked.now in
    let d = c.in_ok-draft.field-0.draft in
    let base : c.resolved-resolved.result.now.base ≡ s.base = ap (λ (u : ResolvedOf). u.base) c.resolved-resolved.ensures.value in
    let size : length d.words ≡ programs_size s.programs =
    sym (length-drafted s d) ∙ ap length c.in_ok-draft.ensures.words ∙ length-programs_words (addresses_of s) 0 s.programs in
    omega (arith, base, size, checked_end c.args.checked.now c.resolved-resolved.ensures.checked c.requires.small)

pub returns-clause-places : goal.returns-clause-places
returns-clause-places g c =
    ap (λ (t : TableOf). t.places) (c.table.view_is ∙ c.in_ok-table.ensures)
    ∙ ap (λ (u : ResolvedOf). (table_of (system_view u)).places) c.resolved-resolved.ensures.value
    ∙ rows_are (system_in c.args.checked.now)

pub returns-clause-runs : goal.returns-clause-runs
returns-clause-runs g c = checked_runs c.args.checked.now c.resolved-resolved.ensures.checked c.requires.small
