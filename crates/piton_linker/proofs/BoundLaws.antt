-- The words of a sound system are few enough for their sums to be numbers of 64 bits.
use Rattle.std.{proofs.Common.{◌≡◌, ℕ, zero, suc, ◌+◌, ◌<◌, ◌≤◌, List, [], ◌∷◌, length, map, refl, sym, ap, ◌∙◌, subst, arith}, specs.Prelude.{◌*◌, ◌^◌, take}}
use Rattle.std.{specs.Prelude.{slice_get, get_or, Some, Vec, sum_by}, proofs.lemmas.List.Recursion.is_sum_by, proofs.lemmas.List.Sums.sum_by-cons}
use Rattle.std.{proofs.lemmas.List.Sums.sum_by-take-le, proofs.lemmas.Simd.map-map}
use Rattle.piton_words.{specs.declared.word.Word.Word, specs.declared.op.WordOp.WordOp}
use Rattle.piton_words.specs.declared.op.WordOp.TheVariants as word_op
use Rattle.piton_check.{specs.PitonChecking.{CheckedOf, IsChecked}, specs.Resolved.{ResolvedInstrOf, ResolvedProgramOf, ResolvedOf}}
use Rattle.piton_check.{specs.Instruction.{Instruction, ProgramView, SystemView, instruction_view, program_view, system_view}, specs.Sound.IsSound}
use Rattle.piton_check.specs.Sound.{IsSoundProgram, target_count, program_targets}
use Rattle.piton_check.specs.Instruction as i
use Rattle.piton_semantics.{specs.Fits.{Each, system_in}, specs.StateView.words_in, proofs.SoundLaws.all_each, specs.Placed.instruction_size}
use Rattle.piton_semantics.{specs.Placed.{instructions_size, program_size, programs_size, areas_size}, specs.Step.operation_cost}

-- ---- sizes as sums

pub instructions_sum : (is : List Instruction) → instructions_size is ≡ sum_by instruction_size is
instructions_sum is = is_sum_by instructions_size instruction_size refl (λ x xs. refl) is

pub programs_sum : (ps : List ProgramView) → programs_size ps ≡ sum_by program_size ps
programs_sum ps = is_sum_by programs_size program_size refl (λ x xs. refl) ps

pub areas_sum : (xss : List (List Word)) → areas_size xss ≡ sum_by (λ (ws : List Word). length ws) xss
areas_sum xss = is_sum_by areas_size (λ (ws : List Word). length ws) refl (λ x xs. refl) xss

-- of parts as the code has them
pub instructions_seen : (is : List ResolvedInstrOf) → sum_by (λ (i : ResolvedInstrOf). instruction_size (instruction_view i)) is
    ≡ instructions_size (map instruction_view is)
instructions_seen is =
    let size : ResolvedInstrOf → ℕ = λ i. instruction_size (instruction_view i) in
    sym (is_sum_by (λ (js : List ResolvedInstrOf). instructions_size (map instruction_view js)) size refl (λ x xs. refl) is)

pub programs_seen : (ps : List ResolvedProgramOf) → sum_by (λ (p : ResolvedProgramOf). program_size (program_view p)) ps
    ≡ programs_size (map program_view ps)
programs_seen ps =
    let size : ResolvedProgramOf → ℕ = λ p. program_size (program_view p) in
    sym (is_sum_by (λ (qs : List ResolvedProgramOf). programs_size (map program_view qs)) size refl (λ x xs. refl) ps)

pub areas_seen : {Z : Type 0} (areas : List (Vec Word Z)) → sum_by (λ (a : Vec Word Z). length a.items) areas ≡ areas_size (map words_in areas)
areas_seen {Z = Z} areas =
    let size : Vec Word Z → ℕ = λ a. length a.items in
    sym (is_sum_by (λ (xs : List (Vec Word Z)). areas_size (map words_in xs)) size refl (λ x xs. refl) areas)

pub areas_sizes : {Z : Type 0} (areas : List (Vec Word Z)) → map (λ (a : Vec Word Z). length a.items) areas
    ≡ map (λ (ws : List Word). length ws) (map words_in areas)
areas_sizes areas = sym (map-map (λ (ws : List Word). length ws) words_in areas)

-- ---- few enough

operation_few : (o : WordOp) → operation_cost o ≤ 7
operation_few word_op.Eq = omega arith
operation_few word_op.AddInt = omega arith
operation_few word_op.AddNat = omega arith
operation_few word_op.SubInt = omega arith
operation_few word_op.SubNat = omega arith
operation_few word_op.AddAddr = omega arith
operation_few word_op.SubAddr = omega arith
operation_few word_op.LtInt = omega arith
operation_few word_op.LtNat = omega arith
operation_few word_op.LtAddr = omega arith
operation_few word_op.Add1Int = omega arith
operation_few word_op.Add1Nat = omega arith
operation_few word_op.Sub1Int = omega arith
operation_few word_op.Sub1Nat = omega arith
operation_few word_op.NegInt = omega arith
operation_few word_op.IntToNat = omega arith
operation_few word_op.Mult2Nat = omega arith
operation_few word_op.AddIntWithCarry = omega arith
operation_few word_op.AddNatWithCarry = omega arith
operation_few word_op.SubIntWithCarry = omega arith
operation_few word_op.SubNatWithCarry = omega arith
operation_few word_op.Mult2NatWithCarryOut = omega arith
operation_few word_op.Div2Nat = omega arith
operation_few word_op.OrBitv = omega arith
operation_few word_op.AndBitv = omega arith
operation_few word_op.XorBitv = omega arith
operation_few word_op.OrBool = omega arith
operation_few word_op.AndBool = omega arith
operation_few word_op.NotBitv = omega arith
operation_few word_op.RshBitv = omega arith
operation_few word_op.LshBitv = omega arith
operation_few word_op.NotBool = omega arith

instruction_few : (instruction : Instruction) → instruction_size instruction ≤ 7 + target_count instruction
instruction_few (i.PushConstant word) = omega arith
instruction_few (i.PushLocal offset) = omega arith
instruction_few (i.PopLocal offset) = omega arith
instruction_few (i.SetLocal offset) = omega arith
instruction_few (i.PushGlobal area) = omega arith
instruction_few (i.PopGlobal area) = omega arith
instruction_few (i.SetGlobal area) = omega arith
instruction_few (i.PushTempStkIndex n) = omega arith
instruction_few i.PushTempStkFreeSize = omega arith
instruction_few i.PushCtrlStkFreeSize = omega arith
instruction_few i.FetchTempStk = omega arith
instruction_few i.DepositTempStk = omega arith
instruction_few i.Fetch = omega arith
instruction_few i.Deposit = omega arith
instruction_few i.Pop = omega arith
instruction_few (i.PopStar n) = omega arith
instruction_few i.Popn = omega arith
instruction_few i.NoOp = omega arith
instruction_few (i.Jump to) = omega arith
instruction_few (i.JumpIfTempStkFull to) = omega arith
instruction_few (i.JumpIfTempStkEmpty to) = omega arith
instruction_few (i.JumpCase places) = omega arith
instruction_few (i.Pushj to) = omega arith
instruction_few i.Popj = omega arith
instruction_few (i.TestAndJump family kind to) = omega arith
instruction_few (i.Call program) = omega arith
instruction_few i.PopCall = omega arith
instruction_few i.Ret = omega arith
instruction_few (i.Apply o) = omega (arith, operation_few o)

instructions_few : (is : List Instruction) → instructions_size is ≤ 7 * length is + sum_by target_count is
instructions_few [] = omega arith
instructions_few (x ∷ is) = omega (arith, instruction_few x, instructions_few is, sum_by-cons target_count x is)

program_few : (s : SystemView) (p : ProgramView) → IsSoundProgram s p → program_size p ≤ 8000000 + program_targets p
program_few s p h = omega (arith, instructions_few p.instructions, h.few_instructions, h.few_locals)

programs_few : (s : SystemView) (ps : List ProgramView) → Each (IsSoundProgram s) ps → programs_size ps ≤ 8000000 * length ps + sum_by program_targets ps
programs_few s [] h = omega arith
programs_few s (p ∷ ps) h = omega (arith, program_few s p h.0, programs_few s ps h.1, sum_by-cons program_targets p ps)

pub code_few : (s : SystemView) → IsSound s → programs_size s.programs < 2 ^ 40
code_few s sound =
    omega (
      arith,
      programs_few s s.programs (all_each (IsSoundProgram s) (IsSoundProgram s) (λ p h. h) s.programs sound.programs),
      sound.few_programs,
      sound.few_words,
    )

pub data_few : (s : SystemView) → IsSound s → areas_size s.areas < 2 ^ 40
data_few s sound = omega (arith, areas_sum s.areas, sound.few_words)

-- the same of a checked system
pub checked_programs : (c : CheckedOf) (r : ResolvedOf) → r ≡ c.resolved → IsChecked c → programs_size (system_view r).programs < 2 ^ 40
checked_programs c r same h = subst (λ (u : ResolvedOf). programs_size (system_view u).programs < 2 ^ 40) (sym same) (code_few (system_in c) h.sound)

pub checked_areas : (c : CheckedOf) (r : ResolvedOf) → r ≡ c.resolved → IsChecked c → areas_size (system_view r).areas < 2 ^ 40
checked_areas c r same h = subst (λ (u : ResolvedOf). areas_size (system_view u).areas < 2 ^ 40) (sym same) (data_few (system_in c) h.sound)

-- ---- the words of parts, up to one of them

pub lengths_within : (is : List Instruction) (k : ℕ) → instructions_size (take k is) ≤ instructions_size is
lengths_within is k = omega (arith, instructions_sum (take k is), instructions_sum is, sum_by-take-le instruction_size is k)

pub programs_within : (ps : List ProgramView) (k : ℕ) → programs_size (take k ps) ≤ programs_size ps
programs_within ps k = omega (arith, programs_sum (take k ps), programs_sum ps, sum_by-take-le program_size ps k)

pub areas_within : (xss : List (List Word)) (k : ℕ) → areas_size (take k xss) ≤ areas_size xss
areas_within xss k = omega (arith, areas_sum (take k xss), areas_sum xss, sum_by-take-le (λ (ws : List Word). length ws) xss k)

pub programs_next : (ps : List ProgramView) (k : ℕ) (p : ProgramView) → slice_get ps k ≡ Some p
    → programs_size (take (k + 1) ps) ≡ programs_size (take k ps) + program_size p
programs_next [] k p h = cc
programs_next (q ∷ ps) zero p h = let same : q ≡ p = cc in omega (arith, ap program_size same)
programs_next (q ∷ ps) (suc k) p h =
    let count : suc k + 1 ≡ suc (k + 1) = omega arith in
    ap (λ n. programs_size (take n (q ∷ ps))) count ∙ omega (arith, programs_next ps k p h)

-- the item that a loop is at, seen through a view
pub seen_at : {X Y : Type 0} (f : X → Y) (xs : List X) (k : ℕ) (x : X) → k < length xs → x ≡ get_or xs k x → slice_get (map f xs) k ≡ Some (f x)
seen_at f [] k x lt is = absurd (omega arith)
seen_at f (y ∷ xs) zero x lt is = ap (λ z. Some (f z)) (sym is)
seen_at f (y ∷ xs) (suc k) x lt is = seen_at f xs k x (omega arith) is

-- the program that a loop is at: the words before it, and those with it, which are at most the words of all
pub record ProgramAt (ps : List ProgramView) (k : ℕ) (p : ProgramView) : Type 0 where
  pub there : slice_get ps k ≡ Some p
  pub next : programs_size (take (k + 1) ps) ≡ programs_size (take k ps) + program_size p
  pub within : programs_size (take (k + 1) ps) ≤ programs_size ps

pub program_at : (ps : List ResolvedProgramOf) (k : ℕ) (p : ResolvedProgramOf) → k < length ps → p ≡ get_or ps k p
    → ProgramAt (map program_view ps) k (program_view p)
program_at ps k p lt is =
    let all = map program_view ps in
    let there = seen_at program_view ps k p lt is in
    record { there = there; next = programs_next all k (program_view p) there; within = programs_within all (k + 1) }
