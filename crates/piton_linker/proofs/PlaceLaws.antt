-- The rows of the table are the addresses of the instructions.
use Rattle.std.{proofs.Common.{◌≡◌, ℕ, suc, ◌+◌, Some, List, [], ◌∷◌, map, refl, ap, ◌∙◌, arith}, specs.Prelude.slice_get}
use Rattle.std.proofs.lemmas.Option.{get_or_from_slice_get}
use Rattle.piton_check.specs.Instruction.{Instruction, ProgramView, SystemView}
use Rattle.piton_semantics.{specs.State.{no_program, program_of}, specs.Placed.{instruction_size, prelude_size, program_size, entry_of, address_of_place}}
use Rattle.piton_semantics.proofs.PlacingLaws.{size_next}
use Rattle.piton_linker.{specs.Layouts.{places_from, places_of}, specs.Tables.{starts, place_rows, table_of}, proofs.BoundLaws.programs_next}

-- those of one program, from a place on
row_from : (s : SystemView) (program place a : ℕ) (is : List Instruction) → a ≡ address_of_place s program place
    → ((j : ℕ) (x : Instruction) → slice_get is j ≡ Some x → slice_get (program_of s program).instructions (place + j) ≡ Some x)
    → starts a (map instruction_size is) ≡ places_from s program place is
row_from s program place a [] e there = refl
row_from s program place a (x ∷ is) e there =
    let all = (program_of s program).instructions in
    let here : slice_get all place ≡ Some x = ap (slice_get all) (omega arith) ∙ there 0 x refl in
    let next : a + instruction_size x ≡ address_of_place s program (place + 1) = omega (arith, size_next all place x here) in
    let rest = row_from s program (place + 1) (a + instruction_size x) is next (λ j y h. ap (slice_get all) (omega arith) ∙ there (suc j) y h) in
    λ t. e t ∷ rest t

-- those of programs, from one on
rows_from : (s : SystemView) (program a : ℕ) (ps : List ProgramView) → a ≡ entry_of s program
    → ((j : ℕ) (p : ProgramView) → slice_get ps j ≡ Some p → slice_get s.programs (program + j) ≡ Some p) → place_rows a ps ≡ places_of s program ps
rows_from s program a [] e there = refl
rows_from s program a (p ∷ ps) e there =
    let here : slice_get s.programs program ≡ Some p = ap (slice_get s.programs) (omega arith) ∙ there 0 p refl in
    let same : program_of s program ≡ p = get_or_from_slice_get s.programs program p no_program here in
    let size : prelude_size (program_of s program) ≡ prelude_size p = ap prelude_size same in
    let first : a + prelude_size p ≡ address_of_place s program 0 = omega arith in
    let row = row_from s program 0 (a + prelude_size p) p.instructions first
    (λ j x h. ap (λ (q : ProgramView). slice_get q.instructions (0 + j)) same ∙ ap (slice_get p.instructions) (omega arith) ∙ h) in
    let next : a + program_size p ≡ entry_of s (program + 1) = omega (arith, programs_next s.programs program p here) in
    let rest = rows_from s (program + 1) (a + program_size p) ps next (λ j q h. ap (slice_get s.programs) (omega arith) ∙ there (suc j) q h) in
    λ t. row t ∷ rest t

pub rows_are : (s : SystemView) → (table_of s).places ≡ places_of s 0 s.programs
rows_are s = rows_from s 0 s.base s.programs (omega arith) (λ j p h. ap (slice_get s.programs) (omega arith) ∙ h)
