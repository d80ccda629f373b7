use Rattle.std.proofs.Common.{◌≡◌, ◌+◌, ◌++◌, ◌∷◌, [], length, take, get_or, refl, ap, sym, ◌∙◌, arith, length-append, append_assoc}
use Rattle.std.proofs.lemmas.List.{length-take-le}
use Rattle.piton_check.{specs.declared.piece.Piece.TheVariants.Code, specs.Instruction.system_view}
use Rattle.piton_semantics.{specs.Placed.addresses_of, specs.Templates.{word_of, words_of}, proofs.SizeLaws.length-words_of}
use Rattle.piton_linker.{specs.Drafts.drafted, proofs.NameLaws.words_more_by, proofs.DraftLaws.length-drafted}
use Rattle.piton_linker.proofs.draft.Draft.append.Goals as goal

pub push-requires-clause-room : goal.push-requires-clause-room
push-requires-clause-room g c =
    let s = system_view c.args.checked.now in
    let A = addresses_of s in
    let old = c.args.self.now in
    let new = c.loop-piece.self in
    let ps = c.args.pieces.now in
    let k = c.loop-piece.piece-index in
    let a = s.base + length old.words in
    let count : length new.words ≡ length old.words + k =
    sym (length-drafted s new) ∙ ap length c.loop-piece.invariant.words ∙ length-append (drafted s old) (words_of A a (take k ps))
    ∙ omega (arith, length-drafted s old, length-words_of A a (take k ps), length-take-le k ps (omega (arith, c.loop-piece-test.true))) in
    omega (arith, count, c.requires.room, c.loop-piece-test.true)

pub loop-piece-preserved : goal.loop-piece-preserved
loop-piece-preserved g c =
    let s = system_view c.args.checked.now in
    let A = addresses_of s in
    let old = c.args.self.now in
    let new = c.loop-piece.self in
    let ps = c.args.pieces.now in
    let k = c.loop-piece.piece-index in
    let a = s.base + length old.words in
    let count : length new.words ≡ length old.words + k =
    sym (length-drafted s new) ∙ ap length c.loop-piece.invariant.words ∙ length-append (drafted s old) (words_of A a (take k ps))
    ∙ omega (arith, length-drafted s old, length-words_of A a (take k ps), length-take-le k ps (omega (arith, c.loop-piece-test.true))) in
    let here : s.base + length new.words ≡ a + k = omega (arith, count) in
    let w = word_of A (s.base + length new.words) (get_or ps k (Code 0)) in
    record {
      draft = c.in_ok-push.ensures.draft;
      words = c.in_ok-push.ensures.words
          ∙ ap (λ ws. ws ++ w ∷ []) c.loop-piece.invariant.words
          ∙ append_assoc (drafted s old) (words_of A a (take k ps)) (w ∷ [])
          ∙ ap (λ ws. drafted s old ++ ws) (words_more_by s a k (s.base + length new.words) w ps (Code 0) refl here c.loop-piece-test.true);
    }
