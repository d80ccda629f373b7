use Rattle.std.{proofs.Common.{◌≡◌, ◌+◌, ◌≤◌, ◌++◌, ◌∷◌, [], length, map, take, ap, sym, ◌∙◌, arith, append_assoc}, proofs.lemmas.List.length-map}
use Rattle.piton_check.{specs.Resolved.ResolvedOf, specs.Sound.local_count}
use Rattle.piton_semantics.{specs.Fits.{system_in, IsPlace}, specs.State.program_of, specs.Placed.{entry_of, address_of_place, addresses_of, instruction_size}}
use Rattle.piton_semantics.{specs.Placed.prelude_size, specs.Templates.{prelude_words, instructions_words}}
use Rattle.piton_linker.{specs.Tables.{row_at, words_at}, specs.Drafts.drafted, proofs.DraftLaws.{length-drafted, is_row}, proofs.LookupLaws.instructions_more}
use Rattle.piton_linker.{proofs.LookupLaws.whole, proofs.EmissionLaws.{places_next, place_here, place_known}}
use Rattle.piton_linker.proofs.words.append_program.Goals as goal

pub next-requires : goal.next-requires
next-requires g c =
    let s = system_in c.args.checked.now in
    let program = c.args.program in
    let k = c.loop-place.place in
    let old = c.args.draft.now in
    let new = c.loop-place.draft in
    let begin : s.base + length (drafted s old) ≡ entry_of s program = ap (λ n. s.base + n) (length-drafted s old) ∙ c.requires.at in
    let at : s.base + length new.words ≡ address_of_place s program k =
    ap (λ n. s.base + n) (sym (length-drafted s new) ∙ ap length c.loop-place.invariant.words) ∙ place_here s program k (drafted s old) begin in
    let there : IsPlace s program k = omega (arith, c.loop-place-test.true, c.place_count-count.ensures) in
    let known = place_known s c.resolved.ensures.checked.sound program k there in
    let base : c.resolved.result.now.base ≡ s.base = ap (λ (u : ResolvedOf). u.base) c.resolved.ensures.value in
    omega (arith, at, base, known.room, c.requires.fits)

pub append_place-requires-clause-at : goal.append_place-requires-clause-at
append_place-requires-clause-at g c =
    let s = system_in c.args.checked.now in
    let program = c.args.program in
    let k = c.loop-place.place in
    let old = c.args.draft.now in
    let new = c.loop-place.draft in
    let begin : s.base + length (drafted s old) ≡ entry_of s program = ap (λ n. s.base + n) (length-drafted s old) ∙ c.requires.at in
    let at : s.base + length new.words ≡ address_of_place s program k =
    ap (λ n. s.base + n) (sym (length-drafted s new) ∙ ap length c.loop-place.invariant.words) ∙ place_here s program k (drafted s old) begin in
    let there : IsPlace s program k = omega (arith, c.loop-place-test.true, c.place_count-count.ensures) in
    at

pub append_place-requires-clause-row : goal.append_place-requires-clause-row
append_place-requires-clause-row g c =
    let s = system_in c.args.checked.now in
    let program = c.args.program in
    let k = c.loop-place.place in
    let old = c.args.draft.now in
    let new = c.loop-place.draft in
    let begin : s.base + length (drafted s old) ≡ entry_of s program = ap (λ n. s.base + n) (length-drafted s old) ∙ c.requires.at in
    let at : s.base + length new.words ≡ address_of_place s program k =
    ap (λ n. s.base + n) (sym (length-drafted s new) ∙ ap length c.loop-place.invariant.words) ∙ place_here s program k (drafted s old) begin in
    let there : IsPlace s program k = omega (arith, c.loop-place-test.true, c.place_count-count.ensures) in
    let p = program_of s program in
    let next : c.next.result ≡ address_of_place s program k =
    c.next.ensures ∙ ap (λ (u : ResolvedOf). u.base + length new.words) c.resolved.ensures.value ∙ at in
    let row : c.push.new.items.items ≡ take (k + 1) (row_at (entry_of s program) p) =
    c.in_ok-push.ensures.items
    ∙ ap (λ ns. ns ++ c.next.result ∷ []) c.loop-place.invariant.row
    ∙ ap (λ n. take k (row_at (entry_of s program) p) ++ n ∷ []) next
    ∙ sym (instructions_more (entry_of s program + prelude_size p) k p.instructions there) in
    is_row s program (k + 1) c.as_slice.result.now (c.as_slice.ensures.value ∙ row)

pub loop-place-preserved : goal.loop-place-preserved
loop-place-preserved g c =
    let s = system_in c.args.checked.now in
    let program = c.args.program in
    let k = c.loop-place.place in
    let old = c.args.draft.now in
    let new = c.loop-place.draft in
    let begin : s.base + length (drafted s old) ≡ entry_of s program = ap (λ n. s.base + n) (length-drafted s old) ∙ c.requires.at in
    let at : s.base + length new.words ≡ address_of_place s program k =
    ap (λ n. s.base + n) (sym (length-drafted s new) ∙ ap length c.loop-place.invariant.words) ∙ place_here s program k (drafted s old) begin in
    let there : IsPlace s program k = omega (arith, c.loop-place-test.true, c.place_count-count.ensures) in
    let p = program_of s program in
    let next : c.next.result ≡ address_of_place s program k =
    c.next.ensures ∙ ap (λ (u : ResolvedOf). u.base + length new.words) c.resolved.ensures.value ∙ at in
    let row : c.push.new.items.items ≡ take (k + 1) (row_at (entry_of s program) p) =
    c.in_ok-push.ensures.items
    ∙ ap (λ ns. ns ++ c.next.result ∷ []) c.loop-place.invariant.row
    ∙ ap (λ n. take k (row_at (entry_of s program) p) ++ n ∷ []) next
    ∙ sym (instructions_more (entry_of s program + prelude_size p) k p.instructions there) in
    let front = prelude_words (addresses_of s) program p in
    let back = instructions_words (addresses_of s) program (local_count p) 0 (take k p.instructions) in
    let one = words_at s program k in
    record {
      draft = c.in_ok-append_place.ensures.draft;
      words = c.in_ok-append_place.ensures.words
          ∙ ap (λ ws. ws ++ one) c.loop-place.invariant.words
          ∙ append_assoc (drafted s old) (front ++ back) one
          ∙ ap (λ ws. drafted s old ++ ws) (append_assoc front back one ∙ ap (λ ws. front ++ ws) (sym (places_next s program k there)));
      row = row;
    }

pub returns-clause-places : goal.returns-clause-places
returns-clause-places g c =
    let s = system_in c.args.checked.now in
    let k = c.loop-place.place in
    let p = program_of s c.args.program in
    let size : length (map instruction_size p.instructions) ≤ k =
    omega (arith, length-map p.instructions instruction_size, c.place_count-count.ensures, c.loop-place-test.false) in
    c.loop-place.invariant.row ∙ whole (entry_of s c.args.program + prelude_size p) k (map instruction_size p.instructions) size
