use Rattle.std.{proofs.Common.{◌≡◌, ◌+◌, ◌<◌, ◌≤◌, ◌++◌, ◌∷◌, [], length, map, take, ap, sym, ◌∙◌, arith}, proofs.lemmas.List.{length-map, map_push}}
use Rattle.std.proofs.lemmas.Option.{slice_get-get_or}
use Rattle.piton_check.specs.Resolved.{ResolvedOf}
use Rattle.piton_semantics.{specs.Fits.system_in, specs.State.{no_program, program_of}, specs.Placed.{entry_of, addresses_of, program_size}}
use Rattle.piton_semantics.specs.Templates.{program_words, programs_words}
use Rattle.piton_linker.{specs.Tables.{starts, place_rows}, proofs.BoundLaws.programs_within, proofs.DraftLaws.length-drafted, proofs.LookupLaws.programs_more}
use Rattle.piton_linker.{proofs.LookupLaws.{rows_more, whole, whole_rows}, proofs.EmissionLaws.{programs_next, program_here, take_whole}}
use Rattle.piton_linker.proofs.words.code.Goals as goal

pub next-requires : goal.next-requires
next-requires g c =
    let s = system_in c.args.checked.now in
    let k = c.loop-program.program in
    let new = c.loop-program.draft in
    let there : k < length s.programs = omega (arith, c.program_count-count.ensures, c.loop-program-test.true) in
    let at : s.base + length new.words ≡ entry_of s k =
    ap (λ n. s.base + n) (sym (length-drafted s new) ∙ ap length c.loop-program.invariant.words) ∙ program_here s k in
    let base : c.resolved.result.now.base ≡ s.base = ap (λ (u : ResolvedOf). u.base) c.resolved.ensures.value in
    omega (arith, at, base, programs_within s.programs k, c.requires.fits)

pub append_program-requires-clause-at : goal.append_program-requires-clause-at
append_program-requires-clause-at g c =
    let s = system_in c.args.checked.now in
    let k = c.loop-program.program in
    let new = c.loop-program.draft in
    let there : k < length s.programs = omega (arith, c.program_count-count.ensures, c.loop-program-test.true) in
    let at : s.base + length new.words ≡ entry_of s k =
    ap (λ n. s.base + n) (sym (length-drafted s new) ∙ ap length c.loop-program.invariant.words) ∙ program_here s k in
    at

pub loop-program-preserved : goal.loop-program-preserved
loop-program-preserved g c =
    let s = system_in c.args.checked.now in
    let k = c.loop-program.program in
    let new = c.loop-program.draft in
    let there : k < length s.programs = omega (arith, c.program_count-count.ensures, c.loop-program-test.true) in
    let at : s.base + length new.words ≡ entry_of s k =
    ap (λ n. s.base + n) (sym (length-drafted s new) ∙ ap length c.loop-program.invariant.words) ∙ program_here s k in
    let p = program_of s k in
    let found = slice_get-get_or s.programs k no_program there in
    let next : c.next.result ≡ entry_of s k = c.next.ensures ∙ ap (λ (u : ResolvedOf). u.base + length new.words) c.resolved.ensures.value ∙ at in
    record {
      draft = c.in_ok-append_program.ensures.draft;
      words = c.in_ok-append_program.ensures.words
          ∙ ap (λ ws. ws ++ program_words (addresses_of s) k p) c.loop-program.invariant.words
          ∙ sym (programs_next s k there);
      entries = c.in_ok-push.ensures.items
          ∙ ap (λ ns. ns ++ c.next.result ∷ []) c.loop-program.invariant.entries
          ∙ ap (λ n. take k (starts s.base (map program_size s.programs)) ++ n ∷ []) next
          ∙ sym (programs_more s.base k s.programs there);
      places = ap (map (λ row. row.items)) c.in_ok-push-2.ensures.items
          ∙ map_push (λ row. row.items) c.loop-program.places.items c.in_ok-append_program.field-0
          ∙ ap (λ ns. ns ++ c.in_ok-append_program.field-0.items ∷ []) c.loop-program.invariant.places
          ∙ ap (λ ns. take k (place_rows s.base s.programs) ++ ns ∷ []) c.in_ok-append_program.ensures.places
          ∙ sym (rows_more s.base k s.programs p found);
    }

pub returns-clause-words : goal.returns-clause-words
returns-clause-words g c =
    let s = system_in c.args.checked.now in
    let k = c.loop-program.program in
    let done : length s.programs ≤ k = omega (arith, c.program_count-count.ensures, c.loop-program-test.false) in
    c.loop-program.invariant.words ∙ ap (programs_words (addresses_of s) 0) (take_whole s.programs k done)

pub returns-clause-entries : goal.returns-clause-entries
returns-clause-entries g c =
    let s = system_in c.args.checked.now in
    let k = c.loop-program.program in
    let done : length (map program_size s.programs) ≤ k =
    omega (arith, length-map s.programs program_size, c.program_count-count.ensures, c.loop-program-test.false) in
    c.loop-program.invariant.entries ∙ whole s.base k (map program_size s.programs) done

pub returns-clause-places : goal.returns-clause-places
returns-clause-places g c =
    let s = system_in c.args.checked.now in
    let k = c.loop-program.program in
    let done : length s.programs ≤ k = omega (arith, c.program_count-count.ensures, c.loop-program-test.false) in
    c.loop-program.invariant.places ∙ whole_rows s.base k s.programs done
