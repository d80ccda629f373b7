use Rattle.std.proofs.Common.{◌≡◌, ◌+◌, ◌++◌, length, ap, sym, ◌∙◌, subst, arith}
use Rattle.piton_check.{specs.Resolved.ResolvedOf, specs.Instruction.system_view}
use Rattle.piton_semantics.{specs.Fits.{Each, system_in}, specs.State.program_of, specs.Placed.{entry_of, addresses_of}, specs.Templates.prelude_pieces}
use Rattle.piton_semantics.specs.Templates.{words_of}
use Rattle.piton_linker.{proofs.EmissionLaws.prelude_known, specs.Tables.PieceExists, specs.Drafts.{drafted, IsDraft}}
use Rattle.piton_linker.proofs.words.append_prelude.Goals as goal

pub append-requires-clause-draft : goal.append-requires-clause-draft
append-requires-clause-draft g c = subst (λ (u : ResolvedOf). IsDraft (system_view u) c.args.draft.now) (sym c.resolved.ensures.value) c.requires.draft

pub append-requires-clause-row : goal.append-requires-clause-row
append-requires-clause-row g c = λ place a h. absurd cc

pub append-requires-clause-named : goal.append-requires-clause-named
append-requires-clause-named g c =
    let s = system_in c.args.checked.now in
    let value = c.resolved.ensures.value in
    let known = prelude_known s c.resolved.ensures.checked.sound c.args.program c.requires.there in
    let pieces : c.as_slice.result.now ≡ prelude_pieces (program_of s c.args.program) = c.as_slice.ensures.value ∙ c.in_ok-pieces.ensures in
    subst (λ (u : ResolvedOf). Each (PieceExists (system_view u)) c.as_slice.result.now) (sym value) (subst (Each (PieceExists s)) (sym pieces) known.named)

pub append-requires-clause-room : goal.append-requires-clause-room
append-requires-clause-room g c =
    let s = system_in c.args.checked.now in
    let value = c.resolved.ensures.value in
    let known = prelude_known s c.resolved.ensures.checked.sound c.args.program c.requires.there in
    let pieces : c.as_slice.result.now ≡ prelude_pieces (program_of s c.args.program) = c.as_slice.ensures.value ∙ c.in_ok-pieces.ensures in
    let base : c.resolved.result.now.base ≡ s.base = ap (λ (u : ResolvedOf). u.base) value in
    omega (arith, base, ap length pieces, known.room, c.requires.at, c.requires.fits)

pub returns-clause-draft : goal.returns-clause-draft
returns-clause-draft g c = subst (λ (u : ResolvedOf). IsDraft (system_view u) c.append.new.self) c.resolved.ensures.value c.in_ok-append.ensures.draft

pub returns-clause-words : goal.returns-clause-words
returns-clause-words g c =
    let s = system_in c.args.checked.now in
    let value = c.resolved.ensures.value in
    let known = prelude_known s c.resolved.ensures.checked.sound c.args.program c.requires.there in
    let pieces : c.as_slice.result.now ≡ prelude_pieces (program_of s c.args.program) = c.as_slice.ensures.value ∙ c.in_ok-pieces.ensures in
    let old = drafted s c.args.draft.now in
    let n = length c.args.draft.now.words in
    ap (λ (u : ResolvedOf). drafted (system_view u) c.append.new.self) (sym value)
    ∙ c.in_ok-append.ensures.words
    ∙ ap (λ (u : ResolvedOf). drafted (system_view u) c.args.draft.now ++ words_of (addresses_of (system_view u)) (u.base + n) c.as_slice.result.now) value
    ∙ ap (λ a. old ++ words_of (addresses_of s) a c.as_slice.result.now) c.requires.at
    ∙ ap (λ ps. old ++ words_of (addresses_of s) (entry_of s c.args.program) ps) pieces
