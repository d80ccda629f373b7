-- What the checks know of a system is what its steps need.
use Rattle.std.proofs.Common.{◌≡◌, ℕ, zero, suc, ◌+◌, ◌-◌, ◌<◌, ◌≤◌, Some, Bool, true, false, List, [], ◌∷◌, length, map, refl, sym, ap, ◌∙◌, subst, arith}
use Rattle.std.{specs.Prelude.{◌^◌, nat_lt, All, get_or, slice_get, slice_index_or, sum_by}, proofs.lemmas.Option.{slice_get_within, get_or_from_slice_get}}
use Rattle.std.{proofs.lemmas.Option.get_or_from_slice_get, proofs.lemmas.Bool.{ltb-true, ltb-false}, proofs.lemmas.List.Sums.sum_by-cons}
use Rattle.piton_check.{proofs.SoundUseLaws.all_at, specs.Instruction.{Instruction, ProgramView, SystemView, system_view}, specs.PitonChecking.CheckedOf}
use Rattle.piton_check.{specs.PitonChecking.IsChecked, specs.Resolved.ResolvedOf, specs.Sound.{Exists, IsPlaced, IsEnd, IsSoundProgram, IsSound}}
use Rattle.piton_words.{specs.declared.word.Word.Word, specs.declared.word.Word.TheVariants.{Int, Nat, Bitv, Bool as Truth, Addr, Pc, Subr}}
use Rattle.piton_check.specs.Instruction as i
use Rattle.piton_semantics.{specs.State.{no_program, program_of, instruction_at}, specs.Fits.{Each, IsPlace, IsWordOf, IsInstructionOf, IsWellFormed}}
use Rattle.piton_semantics.specs.Fits.{IsInitialStack, system_in}

-- ---- lists

pub all_each : {A : Type 0} (P Q : A → Type 0) → ((x : A) → P x → Q x) → (xs : List A) → All P xs → Each Q xs
all_each P Q f [] h = tt
all_each P Q f (x ∷ xs) h = (f x (h 0 x (omega arith)), all_each P Q f xs (λ k d lt. h (suc k) d (omega arith)))

length_of_area : (areas : List (List Word)) (a : ℕ) → get_or (map length areas) a 0 ≡ length (get_or areas a [])
length_of_area [] a = refl
length_of_area (xs ∷ xss) zero = refl
length_of_area (xs ∷ xss) (suc a) = length_of_area xss a

instructions_of : (ps : List ProgramView) (k : ℕ) → get_or (map (λ (p : ProgramView). p.instructions) ps) k [] ≡ (get_or ps k no_program).instructions
instructions_of [] k = refl
instructions_of (p ∷ ps) zero = refl
instructions_of (p ∷ ps) (suc k) = instructions_of ps k

-- a program that there is, or none
by_program : (ps : List ProgramView) (k : ℕ) (Q : ProgramView → Type 0) → (k < length ps → Q (slice_index_or ps k no_program)) → Q no_program
    → Q (slice_index_or ps k no_program)
by_program [] k Q f g = g
by_program (p ∷ ps) zero Q f g = f (omega arith)
by_program (p ∷ ps) (suc k) Q f g = by_program ps k Q (λ lt. f (omega arith)) g

below_sum : (xss : List (List Word)) (a : ℕ) → length (slice_index_or xss a []) ≤ sum_by length xss
below_sum [] a = omega arith
below_sum (xs ∷ xss) zero = omega (arith, sum_by-cons (λ (ws : List Word). length ws) xs xss)
below_sum (xs ∷ xss) (suc a) = omega (arith, below_sum xss a, sum_by-cons (λ (ws : List Word). length ws) xs xss)

-- ---- words

pub word_known : (s : SystemView) (w : Word) → Exists s w → IsWordOf s w
word_known s (Int z) h = h
word_known s (Nat n) h = h
word_known s (Bitv n) h = h
word_known s (Truth b) h = tt
word_known s (Addr area offset) h = subst (λ n. offset < n) (sym (length_of_area s.areas area)) h.1
word_known s (Pc program place) h = subst (λ (is : List Instruction). place < length is) (instructions_of s.programs program) h.1
word_known s (Subr program) h = h

pub words_known : (s : SystemView) (ws : List Word) → All (Exists s) ws → Each (IsWordOf s) ws
words_known s ws h = all_each (Exists s) (IsWordOf s) (word_known s) ws h

-- ---- programs

-- behind what is no end there is a next place
next_place : (p : ProgramView) (place : ℕ) (instruction : Instruction) →
    IsEnd (get_or p.instructions (length p.instructions - 1) i.NoOp) → slice_get p.instructions place ≡ Some instruction →
    (IsEnd instruction → ⊥) → place + 1 < length p.instructions
next_place p place instruction last there go_on = by_order (nat_lt (place + 1) (length p.instructions)) refl
  where
    below : place < length p.instructions
    below = slice_get_within p.instructions place instruction there

    at_end : place + 1 ≡ length p.instructions → ⊥
    at_end e =
        let k : length p.instructions - 1 ≡ place = omega arith in
        let same : get_or p.instructions (length p.instructions - 1) i.NoOp ≡ instruction =
        ap (λ k. get_or p.instructions k i.NoOp) k ∙ get_or_from_slice_get p.instructions place instruction i.NoOp there in
        go_on (subst IsEnd same last)

    by_order : (b : Bool) → nat_lt (place + 1) (length p.instructions) ≡ b → place + 1 < length p.instructions
    by_order true e = ltb-true (place + 1) (length p.instructions) e
    by_order false e =
        let past : length p.instructions ≤ place + 1 = ltb-false (place + 1) (length p.instructions) e in absurd (at_end (omega (arith, past, below)))

module _ (s : SystemView) (sound : IsSound s) (program place : ℕ) where
  area_some : (area : ℕ) → area < length s.areas → 0 < get_or (map length s.areas) area 0
  area_some area lt = subst (λ n. 0 < n) (sym (length_of_area s.areas area)) (sound.some_words area [] lt)

  known_at : (instruction : Instruction) → IsPlaced s (program_of s program) instruction →
      ((IsEnd instruction → ⊥) → IsPlace s program (place + 1)) → IsInstructionOf s program place instruction
  known_at (i.PushConstant w) h next = (word_known s w h, next (λ e. e))
  known_at (i.PushLocal offset) h next = (h, next (λ e. e))
  known_at (i.PopLocal offset) h next = (h, next (λ e. e))
  known_at (i.SetLocal offset) h next = (h, next (λ e. e))
  known_at (i.PushGlobal area) h next = (area_some area h, next (λ e. e))
  known_at (i.PopGlobal area) h next = (area_some area h, next (λ e. e))
  known_at (i.SetGlobal area) h next = (area_some area h, next (λ e. e))
  known_at (i.PushTempStkIndex n) h next = next (λ e. e)
  known_at i.PushTempStkFreeSize h next = next (λ e. e)
  known_at i.PushCtrlStkFreeSize h next = next (λ e. e)
  known_at i.FetchTempStk h next = next (λ e. e)
  known_at i.DepositTempStk h next = next (λ e. e)
  known_at i.Fetch h next = next (λ e. e)
  known_at i.Deposit h next = next (λ e. e)
  known_at i.Pop h next = next (λ e. e)
  known_at (i.PopStar n) h next = next (λ e. e)
  known_at i.Popn h next = next (λ e. e)
  known_at i.NoOp h next = next (λ e. e)
  known_at (i.Jump to) h next = h
  known_at (i.JumpIfTempStkFull to) h next = (h, next (λ e. e))
  known_at (i.JumpIfTempStkEmpty to) h next = (h, next (λ e. e))
  known_at (i.JumpCase places) h next = (h.0, all_each (λ to. to < length (program_of s program).instructions) (IsPlace s program) (λ to lt. lt) places h.1)
  known_at (i.Pushj to) h next = (h, next (λ e. e))
  known_at i.Popj h next = tt
  known_at (i.TestAndJump family kind to) h next = (h.1, next (λ e. e))
  known_at (i.Call callee) h next = (h, next (λ e. e))
  known_at i.PopCall h next = next (λ e. e)
  known_at i.Ret h next = tt
  known_at (i.Apply o) h next = next (λ e. e)

-- what is placed in a program of the system
pub placed_at : (s : SystemView) → IsSound s → (program place : ℕ) (instruction : Instruction) → instruction_at s program place ≡ Some instruction →
    IsSoundProgram s (program_of s program) × IsPlaced s (program_of s program) instruction
placed_at s sound program place instruction = by_program s.programs program
    (λ (p : ProgramView). slice_get p.instructions place ≡ Some instruction → IsSoundProgram s p × IsPlaced s p instruction)
    (λ lt e. (let known = sound.programs program no_program lt in
    (known, all_at (IsPlaced s (program_of s program)) (program_of s program).instructions place instruction known.instructions e)))
    (λ e. cc)

instruction_known : (s : SystemView) → IsSound s → (program place : ℕ) (instruction : Instruction) → instruction_at s program place ≡ Some instruction
    → IsInstructionOf s program place instruction
instruction_known s sound program place instruction e =
    let h = placed_at s sound program place instruction e in
    known_at s sound program place instruction h.1 (next_place (program_of s program) place instruction h.0.last e)

pub known : (s : SystemView) → IsSound s → IsWellFormed s
known s sound =
    let main = sound.main.0 in
    let is_main = sound.main.1 in
    let same : program_of s s.main ≡ main = get_or_from_slice_get s.programs s.main main no_program is_main.is_named in
    record {
      main = slice_get_within s.programs s.main main is_main.is_named;
      main_formals = ap (λ (p : ProgramView). p.formals) same ∙ is_main.no_formals;
      main_fits = subst (λ (p : ProgramView). 2 + length p.temporaries ≤ s.ctrl) (sym same) is_main.has_room;
      ctrl = sound.few_ctrl;
      temp = sound.few_temp;
      stack_fits = sound.stack_fits;
      stack = words_known s s.stack sound.stack;
      areas = all_each (All (Exists s)) (Each (IsWordOf s)) (words_known s) s.areas sound.areas;
      temporaries = λ k. by_program s.programs k (λ (p : ProgramView). Each (IsWordOf s) p.temporaries)
          (λ lt. words_known s (program_of s k).temporaries (sound.programs k no_program lt).temporaries) tt;
      variables = λ k. by_program s.programs k (λ (p : ProgramView). p.formals + length p.temporaries ≤ 400)
          (λ lt. (sound.programs k no_program lt).few_locals) (omega arith);
      lengths = λ k. by_program s.programs k (λ (p : ProgramView). length p.instructions ≤ 2 ^ 20)
          (λ lt. (sound.programs k no_program lt).few_instructions) (omega arith);
      sizes = λ area. size_below area;
      begins = λ k lt. (sound.programs k no_program lt).some_instructions;
      instructions = instruction_known s sound;
    }
  where
    size_below : (area : ℕ) → length (slice_index_or s.areas area []) < 2 ^ 32
    size_below area = omega (arith, below_sum s.areas area, sound.few_words)

-- what is known of a checked system
pub checked_known : (c : CheckedOf) (r : ResolvedOf) → r ≡ c.resolved → IsChecked c → IsWellFormed (system_view r)
checked_known c r same h = subst (λ (u : ResolvedOf). IsWellFormed (system_view u)) (sym same) (known (system_in c) h.sound)

-- an initial stack fits, and its words are words of the system
pub initial_room : (c : CheckedOf) (r : ResolvedOf) (stack : List Word) → r ≡ c.resolved → IsChecked c → IsInitialStack (system_in c) stack
    → length stack ≤ r.temp
initial_room c r stack same h initial =
    subst (λ (u : ResolvedOf). length stack ≤ u.temp) (sym same) (subst (λ n. n ≤ (system_in c).temp) (sym initial.as_long) h.sound.stack_fits)

pub initial_words : (c : CheckedOf) (r : ResolvedOf) (stack : List Word) → r ≡ c.resolved → IsChecked c → IsInitialStack (system_in c) stack
    → Each (IsWordOf (system_view r)) stack
initial_words c r stack same h initial =
    subst (λ (u : ResolvedOf). Each (IsWordOf (system_view u)) stack) (sym same) (words_known (system_in c) stack initial.words)
