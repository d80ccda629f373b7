-- Each program's prelude and each instruction's code stand where the addresses say.
use Rattle.std.{proofs.Common.{◌≡◌, ℕ, zero, suc, ◌+◌, Some, List, [], ◌∷◌, length, sym, ap, ◌∙◌, subst, arith}, specs.Prelude.{take, slice_get}}
use Rattle.std.proofs.lemmas.Option.{get_or_from_slice_get}
use Rattle.fm_code.{specs.Execution.{Parts, CodeAt}, proofs.CodeLaws.{code_whole, code_front, code_after}}
use Rattle.piton_check.{specs.Instruction.{Instruction, ProgramView, SystemView}, specs.Sound.local_count}
use Rattle.piton_semantics.{specs.State.{no_program, program_of}, specs.Addresses.Addresses, specs.Templates.{template, prelude_words, instructions_words}}
use Rattle.piton_semantics.{specs.Templates.{program_words, programs_words}, specs.Placed.{instruction_size, instructions_size, prelude_size, programs_size}}
use Rattle.piton_semantics.{specs.Placed.{entry_of, address_of_place, addresses_of, parts_of}, proofs.SizeLaws.{length-template, length-prelude_words}}
use Rattle.piton_semantics.proofs.SizeLaws.{length-program_words}

program_in : (P : Parts) (A : Addresses) (from k m pc : ℕ) (ps : List ProgramView) (p : ProgramView) → m ≡ from + k → slice_get ps k ≡ Some p
    → CodeAt P pc (programs_words A from ps) → CodeAt P (pc + programs_size (take k ps)) (program_words A m p)
program_in P A from k m pc [] p e h code = cc
program_in P A from zero m pc (q ∷ ps) p e h code =
    let same : q ≡ p = cc in
    let at : from ≡ m = omega arith in
    let first = code_front P pc (program_words A from q) (programs_words A (from + 1) ps) code in
    let there : pc ≡ pc + programs_size [] = omega arith in
    subst (λ a. CodeAt P a (program_words A m p)) there
    (subst (λ n. CodeAt P pc (program_words A n p)) at (subst (λ (r : ProgramView). CodeAt P pc (program_words A from r)) same first))
program_in P A from (suc k) m pc (q ∷ ps) p e h code =
    let rest = code_after P pc (program_words A from q) (programs_words A (from + 1) ps) code in
    let there : pc + length (program_words A from q) + programs_size (take k ps) ≡ pc + programs_size (take (suc k) (q ∷ ps)) =
    omega (arith, length-program_words A from q) in
    subst (λ a. CodeAt P a (program_words A m p)) there (program_in P A (from + 1) k m (pc + length (program_words A from q)) ps p (omega arith) h rest)

instruction_in : (P : Parts) (A : Addresses) (program locals from place m pc : ℕ) (is : List Instruction) (instruction : Instruction) → m ≡ from + place
    → slice_get is place ≡ Some instruction → CodeAt P pc (instructions_words A program locals from is)
    → CodeAt P (pc + instructions_size (take place is)) (template A program m locals instruction)
instruction_in P A program locals from place m pc [] instruction e h code = cc
instruction_in P A program locals from zero m pc (x ∷ is) instruction e h code =
    let same : x ≡ instruction = cc in
    let at : from ≡ m = omega arith in
    let first = code_front P pc (template A program from locals x) (instructions_words A program locals (from + 1) is) code in
    let there : pc ≡ pc + instructions_size [] = omega arith in
    subst (λ a. CodeAt P a (template A program m locals instruction)) there
    (subst (λ n. CodeAt P pc (template A program n locals instruction)) at
    (subst (λ (y : Instruction). CodeAt P pc (template A program from locals y)) same first))
instruction_in P A program locals from (suc place) m pc (x ∷ is) instruction e h code =
    let rest = code_after P pc (template A program from locals x) (instructions_words A program locals (from + 1) is) code in
    let next = pc + length (template A program from locals x) in
    let there : next + instructions_size (take place is) ≡ pc + instructions_size (take (suc place) (x ∷ is)) =
    omega (arith, length-template A program from locals x) in
    subst (λ a. CodeAt P a (template A program m locals instruction)) there
    (instruction_in P A program locals (from + 1) place m next is instruction (omega arith) h rest)

module _ (s : SystemView) (k : ℕ) (p : ProgramView) (some : slice_get s.programs k ≡ Some p) where
  program_at : CodeAt (parts_of s) (entry_of s k) (program_words (addresses_of s) k p)
  program_at = program_in (parts_of s) (addresses_of s) 0 k k s.base s.programs p (omega arith) some (code_whole (parts_of s))

  pub prelude_at : CodeAt (parts_of s) (entry_of s k) (prelude_words (addresses_of s) k p)
  prelude_at = code_front (parts_of s) (entry_of s k) (prelude_words (addresses_of s) k p)
      (instructions_words (addresses_of s) k (local_count p) 0 p.instructions) program_at

  pub first_at : address_of_place s k 0 ≡ entry_of s k + length (prelude_words (addresses_of s) k p)
  first_at =
      let same = get_or_from_slice_get s.programs k p no_program some in
      let size : prelude_size (program_of s k) ≡ prelude_size p = ap prelude_size same in
      omega (arith, length-prelude_words (addresses_of s) k p, size)

  pub instruction_at : (place : ℕ) (instruction : Instruction) → slice_get p.instructions place ≡ Some instruction
      → CodeAt (parts_of s) (address_of_place s k place) (template (addresses_of s) k place (local_count p) instruction)
  instruction_at place instruction h =
      let A = addresses_of s in
      let same = get_or_from_slice_get s.programs k p no_program some in
      let after = code_after (parts_of s) (entry_of s k) (prelude_words A k p) (instructions_words A k (local_count p) 0 p.instructions) program_at in
      let first = subst (λ a. CodeAt (parts_of s) a (instructions_words A k (local_count p) 0 p.instructions)) (sym first_at) after in
      let here = instruction_in (parts_of s) A k (local_count p) 0 place place (address_of_place s k 0) p.instructions instruction (omega arith) h first in
      let sums : instructions_size (take place (program_of s k).instructions) ≡ instructions_size (take place p.instructions) =
      ap (λ (q : ProgramView). instructions_size (take place q.instructions)) same in
      let there : address_of_place s k 0 + instructions_size (take place p.instructions) ≡ address_of_place s k place = omega arith in
      subst (λ a. CodeAt (parts_of s) a (template A k place (local_count p) instruction)) there here

pub size_next : (is : List Instruction) (place : ℕ) (instruction : Instruction) → slice_get is place ≡ Some instruction
    → instructions_size (take (place + 1) is) ≡ instructions_size (take place is) + instruction_size instruction
size_next [] place instruction h = cc
size_next (x ∷ is) zero instruction h = let same : x ≡ instruction = cc in omega (arith, ap instruction_size same)
size_next (x ∷ is) (suc place) instruction h =
    let count : suc place + 1 ≡ suc (place + 1) = omega arith in
    ap (λ n. instructions_size (take n (x ∷ is))) count ∙ omega (arith, size_next is place instruction h)

-- the next place comes after the code of an instruction
pub next_at : (s : SystemView) (program place locals : ℕ) (instruction : Instruction)
    → slice_get (program_of s program).instructions place ≡ Some instruction → address_of_place s program (place + 1) ≡ address_of_place s program place
    + length (template (addresses_of s) program place locals instruction)
next_at s program place locals instruction h =
    omega (arith, size_next (program_of s program).instructions place instruction h, length-template (addresses_of s) program place locals instruction)
