use Rattle.std.proofs.Common.{◌≡◌, ◌+◌, length, take, set, get_or, ap, sym, ◌∙◌, arith}
use Rattle.piton_check.{specs.declared.piece.Piece.TheVariants.Code, specs.Resolved.ResolvedOf, specs.Instruction.system_view}
use Rattle.piton_semantics.{specs.Placed.addresses_of, specs.Templates.word_of}
use Rattle.piton_linker.{specs.declared.draft.FixUp.FixUp, specs.Drafts.filled, proofs.DraftLaws.{length-filled, filled_next, fixup_at}}
use Rattle.piton_linker.proofs.draft.fill.Goals as goal

pub index_mut-requires : goal.index_mut-requires
index_mut-requires c =
    let s = system_view c.args.checked.now in
    let fs = c.args.fixups.now in
    let k = c.loop-fixup.fixup-index in
    let ws = c.args.words.now.items in
    let size : length c.loop-fixup.words.items ≡ length ws = ap length c.loop-fixup.invariant ∙ length-filled (addresses_of s) ws (take k fs) in
    let there = fixup_at s (length ws) k fs record { place = 0; piece = Code 0 } c.loop-fixup-test.true c.requires.there in
    omega (arith, size, there.0, c.loop-fixup.words.ok.0)

pub loop-fixup-preserved : goal.loop-fixup-preserved
loop-fixup-preserved c =
    let s = system_view c.args.checked.now in
    let A = addresses_of s in
    let fs = c.args.fixups.now in
    let k = c.loop-fixup.fixup-index in
    let ws = c.args.words.now.items in
    let none : FixUp = record { place = 0; piece = Code 0 } in
    let f = get_or fs k none in
    let base : c.checked.inside.base ≡ s.base = ap (λ (u : ResolvedOf). u.base) c.checked.view_is in
    ap (λ us. set us f.place c.word.result) c.loop-fixup.invariant
    ∙ ap (λ v. set (filled A ws (take k fs)) f.place v) (c.word.ensures ∙ ap (λ b. word_of A (b + f.place) f.piece) base)
    ∙ sym (filled_next A ws k fs none c.loop-fixup-test.true)
