use Rattle.std.proofs.Common.{◌≡◌, ◌+◌, ◌++◌, ◌∷◌, [], length, ap, sym, ◌∙◌, arith}
use Rattle.piton_check.{specs.Resolved.ResolvedOf, specs.Instruction.system_view}
use Rattle.piton_linker.{specs.declared.draft.FixUp.FixUp, specs.Drafts.DraftOf, proofs.DraftLaws.{more_known, more_open, still_draft}}
use Rattle.piton_linker.proofs.draft.Draft.push.Goals as goal

pub returns-in_ok-push-in-Some-clause-words : goal.returns-in_ok-push-in-Some-clause-words
returns-in_ok-push-in-Some-clause-words g c =
    let s = system_view c.args.checked.now in
    let d = c.args.self.now in
    let base : c.checked.inside.base ≡ s.base = ap (λ (u : ResolvedOf). u.base) c.checked.view_is in
    let words : c.self.inside.words.items ≡ d.words = ap (λ (e : DraftOf). e.words) c.self.view_is in
    let fixups : c.self.inside.fixups.items ≡ d.fixups = ap (λ (e : DraftOf). e.fixups) c.self.view_is in
    let place : c.len-place.result ≡ length d.words = omega (arith, c.len-place.ensures, c.self.inside.words.ok.0, ap length words) in
    let at : c.checked.inside.base + c.len-place.result ≡ s.base + length d.words = omega (arith, base, place) in
    let w = c.in-Some.word in
    more_known s c.args.program c.args.row.now d _ (c.checked.inside.base + c.len-place.result) w c.args.piece c.requires.row c.requires.draft
    (sym c.known.ensures ∙ c.in-Some.is) at
    (λ t. record { words = (c.in_ok-push-in-Some.ensures.items ∙ ap (λ ws. ws ++ w ∷ []) words) t; fixups = fixups t })

pub returns-in_ok-push-in-None-2-clause-draft : goal.returns-in_ok-push-in-None-2-clause-draft
returns-in_ok-push-in-None-2-clause-draft g c =
    let s = system_view c.args.checked.now in
    let d = c.args.self.now in
    let base : c.checked.inside.base ≡ s.base = ap (λ (u : ResolvedOf). u.base) c.checked.view_is in
    let words : c.self.inside.words.items ≡ d.words = ap (λ (e : DraftOf). e.words) c.self.view_is in
    let fixups : c.self.inside.fixups.items ≡ d.fixups = ap (λ (e : DraftOf). e.fixups) c.self.view_is in
    let place : c.len-place.result ≡ length d.words = omega (arith, c.len-place.ensures, c.self.inside.words.ok.0, ap length words) in
    let f : FixUp = record { place = c.len-place.result; piece = c.args.piece } in
    still_draft s d _ c.len-place.result c.args.piece c.requires.draft c.requires.named place
    (λ t. record {
      words = (c.in_ok-push-in-None-2.ensures.items ∙ ap (λ ws. ws ++ 0 ∷ []) words) t;
      fixups = (c.in_ok-push-in-None.ensures.items ∙ ap (λ fs. fs ++ f ∷ []) fixups) t;
    })

pub returns-in_ok-push-in-None-2-clause-words : goal.returns-in_ok-push-in-None-2-clause-words
returns-in_ok-push-in-None-2-clause-words g c =
    let s = system_view c.args.checked.now in
    let d = c.args.self.now in
    let base : c.checked.inside.base ≡ s.base = ap (λ (u : ResolvedOf). u.base) c.checked.view_is in
    let words : c.self.inside.words.items ≡ d.words = ap (λ (e : DraftOf). e.words) c.self.view_is in
    let fixups : c.self.inside.fixups.items ≡ d.fixups = ap (λ (e : DraftOf). e.fixups) c.self.view_is in
    let place : c.len-place.result ≡ length d.words = omega (arith, c.len-place.ensures, c.self.inside.words.ok.0, ap length words) in
    let f : FixUp = record { place = c.len-place.result; piece = c.args.piece } in
    more_open s d _ c.len-place.result c.args.piece c.requires.draft place
    (λ t. record {
      words = (c.in_ok-push-in-None-2.ensures.items ∙ ap (λ ws. ws ++ 0 ∷ []) words) t;
      fixups = (c.in_ok-push-in-None.ensures.items ∙ ap (λ fs. fs ++ f ∷ []) fixups) t;
    })
