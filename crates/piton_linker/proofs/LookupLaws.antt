-- What a table of addresses has, and how it grows.
use Rattle.std.{proofs.Common.{◌≡◌, ℕ, zero, suc, ◌+◌, ◌<◌, ◌≤◌, Some, List, [], ◌∷◌, ◌++◌, length, map, take, refl, sym, ap, ◌∙◌, arith}, specs.Prelude.◌^◌}
use Rattle.std.{specs.Prelude.{unwrap_or, get_or, slice_get, slice_index_or, sum_by}, proofs.lemmas.List.Sums.sum_by-cons}
use Rattle.piton_words.specs.declared.word.Word.{Word}
use Rattle.piton_check.specs.Instruction.{Instruction, ProgramView, SystemView}
use Rattle.piton_semantics.{specs.State.{no_program, program_of}, specs.Fits.IsPlace, specs.Placed.{instruction_size, instructions_size, prelude_size}}
use Rattle.piton_semantics.specs.Placed.{program_size, programs_size, entry_of, address_of_place, address_of_area, areas_start, end_of}
use Rattle.piton_semantics.{proofs.AddressLaws.program_there, proofs.ReadyLaws.area_end}
use Rattle.piton_linker.{specs.Tables.{TableOf, starts, row_at, place_rows, table_of, place_by, place_in}, proofs.BoundLaws.{areas_sum, instructions_sum}}
use Rattle.piton_linker.proofs.BoundLaws.{programs_sum}

-- the next address, where so many words stand before
pub starts_more : {X : Type 0} (size : X → ℕ) (a k : ℕ) (xs : List X) → k < length xs
    → take (k + 1) (starts a (map size xs)) ≡ take k (starts a (map size xs)) ++ (a + sum_by size (take k xs)) ∷ []
starts_more size a k [] lt = absurd (omega arith)
starts_more size a zero (x ∷ xs) lt = ap (λ n. n ∷ []) (omega arith)
starts_more size a (suc k) (x ∷ xs) lt =
    let count : suc k + 1 ≡ suc (k + 1) = omega arith in
    let place : a + size x + sum_by size (take k xs) ≡ a + sum_by size (x ∷ take k xs) = omega (arith, sum_by-cons size x (take k xs)) in
    ap (λ n. take n (starts a (map size (x ∷ xs)))) count
    ∙ ap (λ ns. a ∷ ns) (starts_more size (a + size x) k xs (omega arith) ∙ ap (λ n. take k (starts (a + size x) (map size xs)) ++ n ∷ []) place)

pub programs_more : (a k : ℕ) (ps : List ProgramView) → k < length ps
    → take (k + 1) (starts a (map program_size ps)) ≡ take k (starts a (map program_size ps)) ++ (a + programs_size (take k ps)) ∷ []
programs_more a k ps lt =
    starts_more program_size a k ps lt ∙ ap (λ n. take k (starts a (map program_size ps)) ++ (a + n) ∷ []) (sym (programs_sum (take k ps)))

pub instructions_more : (a k : ℕ) (is : List Instruction) → k < length is
    → take (k + 1) (starts a (map instruction_size is)) ≡ take k (starts a (map instruction_size is)) ++ (a + instructions_size (take k is)) ∷ []
instructions_more a k is lt =
    starts_more instruction_size a k is lt ∙ ap (λ n. take k (starts a (map instruction_size is)) ++ (a + n) ∷ []) (sym (instructions_sum (take k is)))

pub rows_more : (a k : ℕ) (ps : List ProgramView) (p : ProgramView) → slice_get ps k ≡ Some p
    → take (k + 1) (place_rows a ps) ≡ take k (place_rows a ps) ++ row_at (a + programs_size (take k ps)) p ∷ []
rows_more a k [] p h = cc
rows_more a zero (q ∷ ps) p h =
    let same : q ≡ p = cc in
    let place : a ≡ a + programs_size [] = omega arith in
    λ t. row_at (place t) (same t) ∷ []
rows_more a (suc k) (q ∷ ps) p h =
    let count : suc k + 1 ≡ suc (k + 1) = omega arith in
    let place : a + program_size q + programs_size (take k ps) ≡ a + (program_size q + programs_size (take k ps)) = omega arith in
    ap (λ n. take n (place_rows a (q ∷ ps))) count
    ∙ ap (λ ns. row_at a q ∷ ns) (rows_more (a + program_size q) k ps p h ∙ ap (λ n. take k (place_rows (a + program_size q) ps) ++ row_at n p ∷ []) place)

-- look-ups
start_there : {X : Type 0} (size : X → ℕ) (a k : ℕ) (xs : List X) → k < length xs → slice_get (starts a (map size xs)) k ≡ Some (a + sum_by size (take k xs))
start_there size a k [] lt = absurd (omega arith)
start_there size a zero (x ∷ xs) lt = ap Some (omega arith)
start_there size a (suc k) (x ∷ xs) lt = start_there size (a + size x) k xs (omega arith) ∙ ap Some (omega (arith, sum_by-cons size x (take k xs)))

-- a word of an area is in one of the areas
area_below : (area offset : ℕ) (xss : List (List Word)) → offset < get_or (map length xss) area 0 → area < length xss
area_below area offset [] h = absurd (omega arith)
area_below zero offset (xs ∷ xss) h = omega arith
area_below (suc area) offset (xs ∷ xss) h = omega (arith, area_below area offset xss h)

row_there : (a k : ℕ) (ps : List ProgramView) → k < length ps → slice_get (place_rows a ps) k
    ≡ Some (row_at (a + programs_size (take k ps)) (slice_index_or ps k no_program))
row_there a k [] h = absurd (omega arith)
row_there a zero (p ∷ ps) h = ap (λ n. Some (row_at n p)) (omega arith)
row_there a (suc k) (p ∷ ps) h = row_there (a + program_size p) k ps (omega arith) ∙ ap (λ n. Some (row_at n (slice_index_or ps k no_program))) (omega arith)

pub entry_at : (s : SystemView) (program : ℕ) → program < length s.programs → slice_get (table_of s).entries program ≡ Some (entry_of s program)
entry_at s program h =
    start_there program_size s.base program s.programs h ∙ ap (λ n. Some (s.base + n)) (sym (programs_sum (take program s.programs)))

pub area_at : (s : SystemView) (area offset : ℕ) → offset < get_or (map length s.areas) area 0
    → slice_get (table_of s).areas area ≡ Some (address_of_area s area)
area_at s area offset h =
    start_there (λ (ws : List Word). length ws) (areas_start s) area s.areas (area_below area offset s.areas h)
    ∙ ap (λ n. Some (areas_start s + n)) (sym (areas_sum (take area s.areas)))

-- the places of a program
pub record RowThere (s : SystemView) (program place : ℕ) : Type 0 where
  pub row : List ℕ
  pub here : slice_get (table_of s).places program ≡ Some row
  pub place_at : slice_get row place ≡ Some (address_of_place s program place)

pub place_at : (s : SystemView) (program place : ℕ) → IsPlace s program place → RowThere s program place
place_at s program place h =
    let lt = program_there s.programs program place h in
    let first = entry_of s program + prelude_size (program_of s program) in
    let instructions = (program_of s program).instructions in
    record {
      row = row_at (entry_of s program) (program_of s program);
      here = row_there s.base program s.programs lt;
      place_at = start_there instruction_size first place instructions h ∙ ap (λ n. Some (first + n)) (sym (instructions_sum (take place instructions)));
    }

-- all addresses
pub whole : (a k : ℕ) (ns : List ℕ) → length ns ≤ k → take k (starts a ns) ≡ starts a ns
whole a zero [] h = refl
whole a (suc k) [] h = refl
whole a zero (n ∷ ns) h = absurd (omega arith)
whole a (suc k) (n ∷ ns) h = ap (λ ms. a ∷ ms) (whole (a + n) k ns (omega arith))

pub whole_rows : (a k : ℕ) (ps : List ProgramView) → length ps ≤ k → take k (place_rows a ps) ≡ place_rows a ps
whole_rows a zero [] h = refl
whole_rows a (suc k) [] h = refl
whole_rows a zero (p ∷ ps) h = absurd (omega arith)
whole_rows a (suc k) (p ∷ ps) h = ap (λ ms. row_at a p ∷ ms) (whole_rows (a + program_size p) k ps (omega arith))

pub entry_word : (s : SystemView) (t : TableOf) (program : ℕ) → t ≡ table_of s → program < length s.programs
    → unwrap_or (slice_get t.entries program) 0 ≡ entry_of s program
entry_word s t program same h = ap (λ (u : TableOf). unwrap_or (slice_get u.entries program) 0) same ∙ ap (λ o. unwrap_or o 0) (entry_at s program h)

pub place_word : (s : SystemView) (t : TableOf) (program place : ℕ) → t ≡ table_of s → IsPlace s program place
    → unwrap_or (place_in t.places program place) 0 ≡ address_of_place s program place
place_word s t program place same h =
    let there = place_at s program place h in
    ap (λ (u : TableOf). unwrap_or (place_in u.places program place) 0) same ∙ ap (λ o. unwrap_or (place_by o place) 0) there.here
    ∙ ap (λ o. unwrap_or o 0) there.place_at

pub area_word : (s : SystemView) (t : TableOf) (area offset : ℕ) → t ≡ table_of s → offset < get_or (map length s.areas) area 0
    → unwrap_or (slice_get t.areas area) 0 ≡ address_of_area s area
area_word s t area offset same h = ap (λ (u : TableOf). unwrap_or (slice_get u.areas area) 0) same ∙ ap (λ o. unwrap_or o 0) (area_at s area offset h)

pub area_fits : (s : SystemView) (t : TableOf) (area offset : ℕ) → t ≡ table_of s → end_of s < 2 ^ 32 → offset < get_or (map length s.areas) area 0
    → unwrap_or (slice_get t.areas area) 0 + offset < 2 ^ 32
area_fits s t area offset same fits h =
    let at = area_word s t area offset same h in
    omega (arith, at, area_end s.areas area)
