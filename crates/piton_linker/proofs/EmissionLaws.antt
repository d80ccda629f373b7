-- What is known of the pieces of a checked system's places and preludes, in its resolved form.
use Rattle.std.proofs.Common.{◌≡◌, ℕ, zero, suc, ◌+◌, ◌<◌, ◌≤◌, Some, List, [], ◌∷◌, ◌++◌, length, take, refl, sym, ap, ◌∙◌, subst, arith, length-append}
use Rattle.std.{proofs.Common.append_assoc, specs.Prelude.{◌^◌, slice_get, slice_index_or}, proofs.lemmas.List.append-nil}
use Rattle.piton_check.{specs.PitonChecking.{CheckedOf, IsChecked}, specs.Resolved.ResolvedOf, specs.Instruction.{Instruction, ProgramView, SystemView}}
use Rattle.piton_check.{specs.Instruction.system_view, specs.Sound.{IsSound, local_count}}
use Rattle.piton_semantics.{specs.State.{program_of, instruction_at}, specs.Fits.{Each, IsPlace, system_in}, proofs.SoundLaws.known, specs.Addresses.Addresses}
use Rattle.piton_semantics.specs.Placed.{entry_of, address_of_place, final_pc_of, prelude_size, instruction_size, instructions_size, programs_size}
use Rattle.piton_semantics.{specs.Placed.addresses_of, specs.Templates.{pieces_of, pieces_by, pieces_at, prelude_pieces, words_of, template, prelude_words}}
use Rattle.piton_semantics.{specs.Templates.{instructions_words, program_words, programs_words}, proofs.SizeLaws.{length-words_of, length-template}}
use Rattle.piton_semantics.proofs.SizeLaws.{length-prelude_pieces, length-prelude_words, length-instructions_words, length-programs_words}
use Rattle.piton_semantics.{proofs.AddressLaws.program_there, proofs.ReadyLaws.programs_end}
use Rattle.piton_linker.{specs.Tables.{words_at, PieceExists}, proofs.NameLaws.{pieces_named, prelude_named}}

-- the instruction at a place
found_at : (is : List Instruction) (k : ℕ) → k < length is → (x : Instruction) × (slice_get is k ≡ Some x)
found_at [] k h = absurd (omega arith)
found_at (x ∷ is) zero h = (x, refl)
found_at (x ∷ is) (suc k) h = found_at is k (omega arith)

-- the pieces at a place
pub record PlaceKnown (s : SystemView) (program place : ℕ) : Type 0 where
  pub named : Each (PieceExists s) (pieces_at s program place)
  pub room : address_of_place s program place + length (pieces_at s program place) ≤ final_pc_of s

sum_within : (is : List Instruction) (k : ℕ) (x : Instruction) → slice_get is k ≡ Some x
    → instructions_size (take k is) + instruction_size x ≤ instructions_size is
sum_within [] k x h = cc
sum_within (y ∷ is) zero x h = let same : y ≡ x = cc in omega (arith, ap instruction_size same)
sum_within (y ∷ is) (suc k) x h = omega (arith, sum_within is k x h)

pub place_known : (s : SystemView) → IsSound s → (program place : ℕ) → IsPlace s program place → PlaceKnown s program place
place_known s sound program place h =
    let found = found_at (program_of s program).instructions place h in
    let x = found.0 in
    let at = address_of_place s program place in
    let locals = local_count (program_of s program) in
    let same : instruction_at s program place ≡ Some x = found.1 in
    let pieces = pieces_of program place locals x in
    let size : length pieces ≡ instruction_size x =
    sym (length-words_of (addresses_of s) at pieces) ∙ length-template (addresses_of s) program place locals x in
    let lt = program_there s.programs program place h in
    let last = programs_end s.programs program record { formals = 0; temporaries = []; instructions = [] } lt in
    let inside = sum_within (program_of s program).instructions place x same in
    let end : at + length pieces ≤ final_pc_of s = omega arith in
    record {
      named = subst (λ o. Each (PieceExists s) (pieces_by s program place o)) (sym same)
          (pieces_named s program place locals x ((known s sound).instructions program place x same));
      room = subst (λ o. at + length (pieces_by s program place o) ≤ final_pc_of s) (sym same) end;
    }

-- the pieces of a prelude
pub record PreludeKnown (s : SystemView) (program : ℕ) : Type 0 where
  pub named : Each (PieceExists s) (prelude_pieces (program_of s program))
  pub room : entry_of s program + length (prelude_pieces (program_of s program)) ≤ final_pc_of s

pub prelude_known : (s : SystemView) → IsSound s → (program : ℕ) → program < length s.programs → PreludeKnown s program
prelude_known s sound program h =
    let p = program_of s program in
    let last = programs_end s.programs program record { formals = 0; temporaries = []; instructions = [] } h in
    let size : length (prelude_pieces p) ≡ prelude_size p = length-prelude_pieces p in
    record {
      named = prelude_named s p ((known s sound).temporaries program);
      room = omega arith;
    }

-- ---- one place more, one program more

instructions_snoc : (A : Addresses) (program locals from k m : ℕ) (is : List Instruction) (x : Instruction) → m ≡ from + k → slice_get is k ≡ Some x
    → instructions_words A program locals from (take (k + 1) is) ≡ instructions_words A program locals from (take k is) ++ template A program m locals x
instructions_snoc A program locals from k m [] x e h = cc
instructions_snoc A program locals from zero m (y ∷ is) x e h =
    let same : y ≡ x = cc in
    let at : from ≡ m = omega arith in
    append-nil (template A program from locals y) ∙ (λ t. template A program (at t) locals (same t))
instructions_snoc A program locals from (suc k) m (y ∷ is) x e h =
    let count : suc k + 1 ≡ suc (k + 1) = omega arith in
    ap (λ n. instructions_words A program locals from (take n (y ∷ is))) count
    ∙ ap (λ ws. template A program from locals y ++ ws) (instructions_snoc A program locals (from + 1) k m is x (omega arith) h)
    ∙ sym (append_assoc (template A program from locals y) (instructions_words A program locals (from + 1) (take k is)) _)

pub places_next : (s : SystemView) (program k : ℕ) → IsPlace s program k
    → (let locals = local_count (program_of s program) in instructions_words (addresses_of s) program locals 0
    (take (k + 1) (program_of s program).instructions) ≡ instructions_words (addresses_of s) program locals 0
    (take k (program_of s program).instructions) ++ words_at s program k)
places_next s program k h =
    let is = (program_of s program).instructions in
    let locals = local_count (program_of s program) in
    let found = found_at is k h in
    let same : instruction_at s program k ≡ Some found.0 = found.1 in
    instructions_snoc (addresses_of s) program locals 0 k k is found.0 (omega arith) found.1
    ∙ ap (λ o. instructions_words (addresses_of s) program locals 0 (take k is) ++ words_of (addresses_of s) (address_of_place s program k)
    (pieces_by s program k o)) (sym same)

pub place_here : (s : SystemView) (program k : ℕ) (old : List ℕ) → s.base + length old ≡ entry_of s program
    → s.base + length (old ++ (prelude_words (addresses_of s) program (program_of s program)
    ++ instructions_words (addresses_of s) program (local_count (program_of s program)) 0 (take k (program_of s program).instructions)))
    ≡ address_of_place s program k
place_here s program k old h =
    let A = addresses_of s in
    let p = program_of s program in
    let front = prelude_words A program p in
    let back = instructions_words A program (local_count p) 0 (take k p.instructions) in
    omega (
      arith,
      length-append old (front ++ back),
      length-append front back,
      length-prelude_words A program p,
      length-instructions_words A program (local_count p) 0 (take k p.instructions),
    )

programs_snoc : (s : SystemView) (from k m : ℕ) (ps : List ProgramView) (d : ProgramView) → m ≡ from + k → k < length ps
    → programs_words (addresses_of s) from (take (k + 1) ps) ≡ programs_words (addresses_of s) from (take k ps)
    ++ program_words (addresses_of s) m (slice_index_or ps k d)
programs_snoc s from k m [] d e h = absurd (omega arith)
programs_snoc s from zero m (p ∷ ps) d e h =
    let at : from ≡ m = omega arith in
    append-nil (program_words (addresses_of s) from p) ∙ ap (λ n. program_words (addresses_of s) n p) at
programs_snoc s from (suc k) m (p ∷ ps) d e h =
    let count : suc k + 1 ≡ suc (k + 1) = omega arith in
    ap (λ n. programs_words (addresses_of s) from (take n (p ∷ ps))) count
    ∙ ap (λ ws. program_words (addresses_of s) from p ++ ws) (programs_snoc s (from + 1) k m ps d (omega arith) (omega arith))
    ∙ sym (append_assoc (program_words (addresses_of s) from p) (programs_words (addresses_of s) (from + 1) (take k ps)) _)

pub programs_next : (s : SystemView) (k : ℕ) → k < length s.programs → programs_words (addresses_of s) 0 (take (k + 1) s.programs)
    ≡ programs_words (addresses_of s) 0 (take k s.programs) ++ program_words (addresses_of s) k (program_of s k)
programs_next s k h = programs_snoc s 0 k k s.programs record { formals = 0; temporaries = []; instructions = [] } (omega arith) h

pub program_here : (s : SystemView) (k : ℕ) → s.base + length (programs_words (addresses_of s) 0 (take k s.programs)) ≡ entry_of s k
program_here s k = ap (λ n. s.base + n) (length-programs_words (addresses_of s) 0 (take k s.programs))

pub places_few : (c : CheckedOf) (r : ResolvedOf) (program : ℕ) → r ≡ c.resolved → IsChecked c
    → length (program_of (system_view r) program).instructions ≤ 2 ^ 20
places_few c r program same h = subst (λ (u : ResolvedOf). length (program_of (system_view u) program).instructions ≤ 2 ^ 20) (sym same)
    ((known (system_in c) h.sound).lengths program)

pub programs_count : (ps : List ProgramView) → length ps ≤ programs_size ps
programs_count [] = omega arith
programs_count (p ∷ ps) = omega (arith, programs_count ps)

pub take_whole : {A : Type 0} (xs : List A) (k : ℕ) → length xs ≤ k → take k xs ≡ xs
take_whole [] zero h = refl
take_whole [] (suc k) h = refl
take_whole (x ∷ xs) zero h = absurd (omega arith)
take_whole (x ∷ xs) (suc k) h = ap (λ ys. x ∷ ys) (take_whole xs k (omega arith))

-- main's first place
pub main_begins : (c : CheckedOf) (r : ResolvedOf) → r ≡ c.resolved → IsChecked c → IsPlace (system_view r) r.main 0
main_begins c r same h =
    let facts = known (system_in c) h.sound in
    subst (λ (u : ResolvedOf). IsPlace (system_view u) u.main 0) (sym same) (facts.begins c.resolved.main facts.main)
