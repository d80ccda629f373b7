use Rattle.std.{proofs.Common.{◌≡◌, map, sym, ap, ◌∙◌, arith}, proofs.lemmas.Simd.map-map}
use Rattle.piton_check.{specs.Instruction.{program_view, system_view}, specs.Resolved.{ResolvedOf, ResolvedProgramOf}}
use Rattle.piton_semantics.specs.Placed.{program_size, programs_size}
use Rattle.piton_linker.{specs.Tables.starts, proofs.BoundLaws.programs_seen}
use Rattle.piton_linker.proofs.table.tabulated.Goals as goal

pub starts-requires : goal.starts-requires
starts-requires g c =
    let s = system_view c.args.checked.now in
    let same : map program_view c.as_slice.result.now ≡ s.programs =
    ap (map program_view) (c.as_slice.ensures.value ∙ ap (λ (r : ResolvedOf). r.programs) c.checked.view_is) in
    let size : programs_size (map program_view c.as_slice.result.now) ≡ programs_size s.programs = ap programs_size same in
    let base : c.checked.inside.base ≡ s.base = ap (λ (r : ResolvedOf). r.base) c.checked.view_is in
    omega (arith, c.from.ensures, programs_seen c.as_slice.result.now, size, base, c.requires.fits)

pub completed-requires-clause-entries : goal.completed-requires-clause-entries
completed-requires-clause-entries g c =
    let s = system_view c.args.checked.now in
    let same : map program_view c.as_slice.result.now ≡ s.programs =
    ap (map program_view) (c.as_slice.ensures.value ∙ ap (λ (r : ResolvedOf). r.programs) c.checked.view_is) in
    let base : c.checked.inside.base ≡ s.base = ap (λ (r : ResolvedOf). r.base) c.checked.view_is in
    let first : c.from.result ≡ s.base = omega (arith, c.from.ensures, base) in
    let sizes : map (λ (p : ResolvedProgramOf). program_size (program_view p)) c.as_slice.result.now ≡ map program_size s.programs =
    sym (map-map program_size program_view c.as_slice.result.now) ∙ ap (map program_size) same in
    c.in_ok-entries.ensures ∙ (λ t. starts (first t) (sizes t))
