-- The words of a placed system are numbers of 32 bits.
use Rattle.std.proofs.Common.{◌≡◌, ◌<◌, ◌≤◌, ◌+◌, ◌-◌, ℕ, zero, suc, true, false, List, [], ◌∷◌, ◌++◌, length, map, refl, sym, subst, ◌∙◌, arith}
use Rattle.std.{specs.Prelude.{◌^◌, nat_lt, replicate, reverse, take, slice_index_or}, specs.Int.from_bool as bit_of, proofs.lemmas.Bool.{and_parts, and_from}}
use Rattle.std.{proofs.lemmas.Bool.lt-ltb, proofs.lemmas.List.Folds.list_all-append}
use mathlib.Core.List.{reverse_aux}
use Rattle.stack_build.proofs.Laying.{map-reversed}
use Rattle.fm_words.{specs.Word.word_of_int, proofs.WordLaws.word_of_int_below}
use Rattle.fm_code.{specs.Areas.joined, specs.InstructionWords.{reg, push, pop, literal, mov, halt_word}, specs.Templates.{below_end, temporaries_code}}
use Rattle.fm_image.specs.Spelling.{are_words}
use Rattle.piton_words.{specs.declared.word.Word.Word, specs.declared.word.Word.TheVariants.{Int, Nat, Bitv, Bool as Truth, Addr, Pc, Subr}}
use Rattle.piton_words.specs.declared.op.WordOp.{WordOp}
use Rattle.piton_words.specs.declared.op.WordOp.TheVariants as op
use Rattle.piton_syntax.specs.declared.test_kind.TestKind.{TestKind}
use Rattle.piton_syntax.specs.declared.test_kind.TestKind.TheVariants as test
use Rattle.piton_check.specs.Instruction as i
use Rattle.piton_check.{specs.Instruction.{Instruction, ProgramView, SystemView}, specs.Sound.{IsPlaced, IsSoundProgram, IsSound, local_count}}
use Rattle.piton_semantics.{specs.State.program_of, specs.Fits.{Each, IsWordOf}, specs.Addresses.{word_number, numbers}, specs.Templates.operation_code}
use Rattle.piton_semantics.specs.Templates.{condition_of, words_of, prelude_words, template, instructions_words, program_words, programs_words, test_pieces}
use Rattle.piton_semantics.specs.Placed.{program_size, programs_size, entry_of, address_of_place, final_pc_of, address_of_area, ctrl_start, temp_start, end_of}
use Rattle.piton_semantics.{specs.Placed.{addresses_of, code_of, first_frame, first_frame_at, first_top, placed}, proofs.PieceLaws.{codes_are, jump_case_is}}
use Rattle.piton_semantics.{proofs.PieceLaws.prelude_is, proofs.ReadyLaws.area_end, proofs.SoundLaws.{all_each, word_known, words_known, known}}
use Rattle.piton_linker.{specs.Layouts.trimmed, proofs.BoundLaws.{lengths_within, programs_within, areas_within}, proofs.TrimLaws.trimmed-rest}

-- ---- lists

a_word : (n : ℕ) → n < 2 ^ 32 → nat_lt n 4294967296 ≡ true
a_word n lt = lt-ltb n 4294967296 lt

one_word : (n : ℕ) (ws : List ℕ) → n < 2 ^ 32 → are_words ws ≡ true → are_words (n ∷ ws) ≡ true
one_word n ws lt h = and_from _ _ (a_word n lt) h

words-append : (xs ys : List ℕ) → are_words xs ≡ true → are_words ys ≡ true → are_words (xs ++ ys) ≡ true
words-append xs ys h k = list_all-append (λ n. nat_lt n 4294967296) xs ys ∙ and_from (are_words xs) (are_words ys) h k

words-front : (xs ys : List ℕ) → are_words (xs ++ ys) ≡ true → are_words xs ≡ true
words-front xs ys h = (and_parts (are_words xs) (are_words ys) (sym (list_all-append (λ n. nat_lt n 4294967296) xs ys) ∙ h)).0

words-replicate : (n w : ℕ) → nat_lt w 4294967296 ≡ true → are_words (replicate n w) ≡ true
words-replicate zero w h = refl
words-replicate (suc n) w h = and_from _ _ h (words-replicate n w h)

words-reversed : (xs ys : List ℕ) → are_words xs ≡ true → are_words ys ≡ true → are_words (reverse_aux xs ys) ≡ true
words-reversed [] ys h k = k
words-reversed (x ∷ xs) ys h k = let p = and_parts (nat_lt x 4294967296) (are_words xs) h in words-reversed xs (x ∷ ys) p.1 (and_from _ _ p.0 k)

pub words-trimmed : (ws : List ℕ) → are_words ws ≡ true → are_words (trimmed ws) ≡ true
words-trimmed ws h = words-front (trimmed ws) (replicate (length ws - length (trimmed ws)) 0) (subst (λ (xs : List ℕ). are_words xs ≡ true) (trimmed-rest ws) h)

-- ---- addresses

program_within : (ps : List ProgramView) (k : ℕ) → programs_size (take k ps) + program_size
    (slice_index_or ps k record { formals = 0; temporaries = []; instructions = [] }) ≤ programs_size ps + 2
program_within [] zero = omega arith
program_within [] (suc k) = omega arith
program_within (p ∷ ps) zero = omega arith
program_within (p ∷ ps) (suc k) = omega (arith, program_within ps k)

module _ (s : SystemView) (fits : end_of s + 8 < 2 ^ 32) where
  entry_below : (k : ℕ) → entry_of s k < 2 ^ 32
  entry_below k = let within = programs_within s.programs k in omega arith

  -- a place, there or not
  place_below : (k l : ℕ) → address_of_place s k l < 2 ^ 32
  place_below k l =
      let inside = lengths_within (program_of s k).instructions l in
      let last = program_within s.programs k in
      omega arith

  table_below : (k l : ℕ) → address_of_place s k l + 4 < 2 ^ 32
  table_below k l =
      let inside = lengths_within (program_of s k).instructions l in
      let last = program_within s.programs k in
      omega arith

  area_below : (a : ℕ) → address_of_area s a + 0 < 2 ^ 32
  area_below a = let within = areas_within s.areas a in omega arith

  number_below : (w : Word) → IsWordOf s w → word_number (addresses_of s) w < 2 ^ 32
  number_below (Int z) h = word_of_int_below z h
  number_below (Nat n) h = h
  number_below (Bitv n) h = h
  number_below (Truth true) h = omega arith
  number_below (Truth false) h = omega arith
  number_below (Addr area offset) h = let within = area_end s.areas area in omega arith
  number_below (Pc program place) h = place_below program place
  number_below (Subr program) h = entry_below program

  words-numbers : (ws : List Word) → Each (IsWordOf s) ws → are_words (numbers (addresses_of s) ws) ≡ true
  words-numbers [] h = refl
  words-numbers (w ∷ ws) h = one_word (word_number (addresses_of s) w) (numbers (addresses_of s) ws) (number_below w h.0) (words-numbers ws h.1)

  words-areas : (areas : List (List Word)) → Each (Each (IsWordOf s)) areas → are_words (joined (map (numbers (addresses_of s)) areas)) ≡ true
  words-areas [] h = refl
  words-areas (area ∷ areas) h =
      words-append (numbers (addresses_of s) area) (joined (map (numbers (addresses_of s)) areas)) (words-numbers area h.0) (words-areas areas h.1)

  -- ---- code

  words-places : (program : ℕ) (places : List ℕ) → are_words (map (address_of_place s program) places) ≡ true
  words-places program [] = refl
  words-places program (to ∷ places) =
      one_word (address_of_place s program to) (map (address_of_place s program) places) (place_below program to) (words-places program places)

  -- the numbers that an instruction has
  abbrev HasWords : ℕ → Instruction → Type 0
  HasWords locals (i.PushConstant word) = IsWordOf s word
  HasWords locals (i.PushLocal offset) = offset < 2 ^ 32
  HasWords locals (i.PopLocal offset) = offset < 2 ^ 32
  HasWords locals (i.SetLocal offset) = offset < 2 ^ 32
  HasWords locals (i.PopStar n) = n < 2 ^ 32
  HasWords locals i.Ret = locals < 2 ^ 32
  HasWords locals instruction = Unit {0}

  -- one number, or two, among instruction words
  one : (n : ℕ) → n < 2 ^ 32 → are_words (n ∷ []) ≡ true
  one n lt = one_word n [] lt refl

  two : (n m : ℕ) → n < 2 ^ 32 → m < 2 ^ 32 → are_words (n ∷ m ∷ []) ≡ true
  two n m lt lt' = one_word n (m ∷ []) lt (one m lt')

  words-test : (kind : TestKind) (program place to : ℕ) → are_words (words_of (addresses_of s) place (test_pieces (condition_of kind) program to)) ≡ true
  words-test test.Zero program place to = one (address_of_place s program to) (place_below program to)
  words-test test.NotZero program place to = one (address_of_place s program to) (place_below program to)
  words-test test.Neg program place to = one (address_of_place s program to) (place_below program to)
  words-test test.NotNeg program place to = one (address_of_place s program to) (place_below program to)
  words-test test.Pos program place to = one (address_of_place s program to) (place_below program to)
  words-test test.NotPos program place to = one (address_of_place s program to) (place_below program to)
  words-test test.T program place to = one (address_of_place s program to) (place_below program to)
  words-test test.F program place to = one (address_of_place s program to) (place_below program to)
  words-test test.AllZero program place to = one (address_of_place s program to) (place_below program to)
  words-test test.NotAllZero program place to = one (address_of_place s program to) (place_below program to)

  words-operation : (o : WordOp) → are_words (operation_code o) ≡ true
  words-operation op.Eq = refl
  words-operation op.AddInt = refl
  words-operation op.AddNat = refl
  words-operation op.SubInt = refl
  words-operation op.SubNat = refl
  words-operation op.AddAddr = refl
  words-operation op.SubAddr = refl
  words-operation op.LtInt = refl
  words-operation op.LtNat = refl
  words-operation op.LtAddr = refl
  words-operation op.Add1Int = refl
  words-operation op.Add1Nat = refl
  words-operation op.Sub1Int = refl
  words-operation op.Sub1Nat = refl
  words-operation op.NegInt = refl
  words-operation op.IntToNat = refl
  words-operation op.Mult2Nat = refl
  words-operation op.AddIntWithCarry = refl
  words-operation op.AddNatWithCarry = refl
  words-operation op.SubIntWithCarry = refl
  words-operation op.SubNatWithCarry = refl
  words-operation op.Mult2NatWithCarryOut = refl
  words-operation op.Div2Nat = refl
  words-operation op.OrBitv = refl
  words-operation op.AndBitv = refl
  words-operation op.XorBitv = refl
  words-operation op.OrBool = refl
  words-operation op.AndBool = refl
  words-operation op.NotBitv = refl
  words-operation op.RshBitv = refl
  words-operation op.LshBitv = refl
  words-operation op.NotBool = refl

  words-constant : (program place locals : ℕ) (w : Word) → word_number (addresses_of s) w < 2 ^ 32
      → are_words (template (addresses_of s) program place locals (i.PushConstant w)) ≡ true
  words-constant program place locals (Int z) lt = one (word_of_int z) lt
  words-constant program place locals (Nat n) lt = one n lt
  words-constant program place locals (Bitv n) lt = one n lt
  words-constant program place locals (Truth b) lt = one (bit_of b) lt
  words-constant program place locals (Addr area offset) lt = one (address_of_area s area + offset) lt
  words-constant program place locals (Pc k l) lt = one (address_of_place s k l) lt
  words-constant program place locals (Subr k) lt = one (entry_of s k) lt

  words-template : (program place locals : ℕ) (instruction : Instruction) → HasWords locals instruction
      → are_words (template (addresses_of s) program place locals instruction) ≡ true
  words-template program place locals (i.PushConstant word) h = words-constant program place locals word (number_below word h)
  words-template program place locals (i.PushLocal offset) h = one offset h
  words-template program place locals (i.PopLocal offset) h = one offset h
  words-template program place locals (i.SetLocal offset) h = one offset h
  words-template program place locals (i.PushGlobal area) h = one (address_of_area s area + 0) (area_below area)
  words-template program place locals (i.PopGlobal area) h = one (address_of_area s area + 0) (area_below area)
  words-template program place locals (i.SetGlobal area) h = one (address_of_area s area + 0) (area_below area)
  words-template program place locals (i.PushTempStkIndex n) h = one (below_end (end_of s) (1 + n)) (omega arith)
  words-template program place locals i.PushTempStkFreeSize h = one (temp_start s) (omega arith)
  words-template program place locals i.PushCtrlStkFreeSize h = one (ctrl_start s) (omega arith)
  words-template program place locals i.FetchTempStk h = one (below_end (end_of s) 1) (omega arith)
  words-template program place locals i.DepositTempStk h = one (below_end (end_of s) 1) (omega arith)
  words-template program place locals i.Fetch h = refl
  words-template program place locals i.Deposit h = refl
  words-template program place locals i.Pop h = refl
  words-template program place locals (i.PopStar n) h = one n h
  words-template program place locals i.Popn h = refl
  words-template program place locals i.NoOp h = refl
  words-template program place locals (i.Jump to) h = one (address_of_place s program to) (place_below program to)
  words-template program place locals (i.JumpIfTempStkFull to) h = two (temp_start s) (address_of_place s program to) (omega arith) (place_below program to)
  words-template program place locals (i.JumpIfTempStkEmpty to) h =
      two (below_end (end_of s) 0) (address_of_place s program to) (omega arith) (place_below program to)
  words-template program place locals (i.JumpCase places) h =
      subst (λ (ws : List ℕ). are_words ws ≡ true) (sym (jump_case_is (addresses_of s) (address_of_place s program place) program places))
      (one_word (address_of_place s program place + 4) (map (address_of_place s program) places) (table_below program place) (words-places program places))
  words-template program place locals (i.Pushj to) h =
      two (address_of_place s program (place + 1)) (address_of_place s program to) (place_below program (place + 1)) (place_below program to)
  words-template program place locals i.Popj h = refl
  words-template program place locals (i.TestAndJump family kind to) h = words-test kind program (address_of_place s program place) to
  words-template program place locals (i.Call callee) h =
      two (address_of_place s program (place + 1)) (entry_of s callee) (place_below program (place + 1)) (entry_below callee)
  words-template program place locals i.PopCall h = one (address_of_place s program (place + 1)) (place_below program (place + 1))
  words-template program place locals i.Ret h = one locals h
  words-template program place locals (i.Apply o) h =
      subst (λ (ws : List ℕ). are_words ws ≡ true) (sym (codes_are (addresses_of s) (address_of_place s program place) (operation_code o))) (words-operation o)

  -- what a sound program's instructions have
  has_words : (p : ProgramView) (instruction : Instruction) → local_count p ≤ 400 → IsPlaced s p instruction → HasWords (local_count p) instruction
  has_words p (i.PushConstant word) few h = word_known s word h
  has_words p (i.PushLocal offset) few h = omega (arith, h)
  has_words p (i.PopLocal offset) few h = omega (arith, h)
  has_words p (i.SetLocal offset) few h = omega (arith, h)
  has_words p (i.PopStar n) few h = omega (arith, h)
  has_words p i.Ret few h = omega arith
  has_words p (i.PushGlobal area) few h = tt
  has_words p (i.PopGlobal area) few h = tt
  has_words p (i.SetGlobal area) few h = tt
  has_words p (i.PushTempStkIndex n) few h = tt
  has_words p i.PushTempStkFreeSize few h = tt
  has_words p i.PushCtrlStkFreeSize few h = tt
  has_words p i.FetchTempStk few h = tt
  has_words p i.DepositTempStk few h = tt
  has_words p i.Fetch few h = tt
  has_words p i.Deposit few h = tt
  has_words p i.Pop few h = tt
  has_words p i.Popn few h = tt
  has_words p i.NoOp few h = tt
  has_words p (i.Jump to) few h = tt
  has_words p (i.JumpIfTempStkFull to) few h = tt
  has_words p (i.JumpIfTempStkEmpty to) few h = tt
  has_words p (i.JumpCase places) few h = tt
  has_words p (i.Pushj to) few h = tt
  has_words p i.Popj few h = tt
  has_words p (i.TestAndJump family kind to) few h = tt
  has_words p (i.Call callee) few h = tt
  has_words p i.PopCall few h = tt
  has_words p (i.Apply o) few h = tt

  words-instructions : (program locals place : ℕ) (instructions : List Instruction) → Each (HasWords locals) instructions
      → are_words (instructions_words (addresses_of s) program locals place instructions) ≡ true
  words-instructions program locals place [] h = refl
  words-instructions program locals place (x ∷ instructions) h =
      words-append (template (addresses_of s) program place locals x) (instructions_words (addresses_of s) program locals (place + 1) instructions)
      (words-template program place locals x h.0) (words-instructions program locals (place + 1) instructions h.1)

  words-temporaries : (ts : List ℕ) → are_words ts ≡ true → are_words (temporaries_code ts) ≡ true
  words-temporaries [] h = refl
  words-temporaries (t ∷ ts) h =
      let parts = and_parts (nat_lt t 4294967296) (are_words ts) h in
      words-append (temporaries_code ts) (mov (push 1) literal ∷ t ∷ []) (words-temporaries ts parts.1) (and_from _ _ parts.0 refl)

  words-prelude : (program : ℕ) (p : ProgramView) → Each (IsWordOf s) p.temporaries → are_words (prelude_words (addresses_of s) program p) ≡ true
  words-prelude program p h =
      let A = addresses_of s in
      let moves : List ℕ = replicate p.formals (mov (push 1) (pop 2)) in
      let frame : List ℕ = mov (reg 0) (reg 1) ∷ [] in
      let entered = words-append moves frame (words-replicate p.formals (mov (push 1) (pop 2)) refl) refl in
      subst (λ (ws : List ℕ). are_words ws ≡ true) (sym (prelude_is A (entry_of s program) p))
      (words-append (temporaries_code (numbers A p.temporaries)) (moves ++ frame)
      (words-temporaries (numbers A p.temporaries) (words-numbers p.temporaries h)) entered)

  words-programs : (program : ℕ) (ps : List ProgramView) → Each (IsSoundProgram s) ps → are_words (programs_words (addresses_of s) program ps) ≡ true
  words-programs program [] h = refl
  words-programs program (p ∷ ps) h =
      let A = addresses_of s in
      let few = h.0.few_locals in
      let code = words-instructions program (local_count p) 0 p.instructions
      (all_each (IsPlaced s p) (HasWords (local_count p)) (λ x k. has_words p x few k) p.instructions h.0.instructions) in
      words-append (program_words A program p) (programs_words A (program + 1) ps)
      (words-append (prelude_words A program p) (instructions_words A program (local_count p) 0 p.instructions)
      (words-prelude program p (words_known s p.temporaries h.0.temporaries)) code)
      (words-programs (program + 1) ps h.1)

module _ (s : SystemView) (sound : IsSound s) (small : (placed s).size ≤ 2 ^ 20) where
  below : end_of s + 8 < 2 ^ 32
  below = let low = sound.low_base in omega arith

  pub placed_are_words : are_words (placed s).words ≡ true
  placed_are_words =
      let A = addresses_of s in
      let facts = known s sound in
      let areas : List ℕ = joined (map (numbers A) s.areas) in
      let unused : List ℕ = replicate (first_frame_at s - ctrl_start s) 0 in
      let free : List ℕ = replicate (first_top s - temp_start s) 0 in
      let locals : List ℕ = numbers A (program_of s s.main).temporaries in
      let stack : List ℕ = numbers A (reverse s.stack) in
      let fits = below in
      let stack_are : are_words stack ≡ true =
      subst (λ (ws : List ℕ). are_words ws ≡ true) (sym (map-reversed (word_number A) s.stack []))
      (words-reversed (numbers A s.stack) [] (words-numbers s fits s.stack facts.stack) refl) in
      let last : are_words (0 ∷ final_pc_of s ∷ []) ≡ true = and_from _ _ refl (one_word (final_pc_of s) [] (omega arith) refl) in
      let frame_are : are_words (first_frame s) ≡ true =
      words-append locals (0 ∷ final_pc_of s ∷ []) (words-numbers s fits (program_of s s.main).temporaries (facts.temporaries s.main)) last in
      let code = words-programs s fits 0 s.programs (all_each (IsSoundProgram s) (IsSoundProgram s) (λ p h. h) s.programs sound.programs) in
      words-append (code_of s) (halt_word ∷ (areas ++ (unused ++ (first_frame s ++ (free ++ stack))))) code
      (and_from _ _ refl (words-append areas (unused ++ (first_frame s ++ (free ++ stack))) (words-areas s fits s.areas facts.areas)
      (words-append unused (first_frame s ++ (free ++ stack)) (words-replicate (first_frame_at s - ctrl_start s) 0 refl)
      (words-append (first_frame s) (free ++ stack) frame_are (words-append free stack (words-replicate (first_top s - temp_start s) 0 refl) stack_are)))))

  pub registers_are_words : are_words (placed s).registers ≡ true
  registers_are_words =
      let fits = below in
      let frame : first_frame_at s < 2 ^ 32 = omega arith in
      let top : first_top s < 2 ^ 32 = omega arith in
      one_word (first_frame_at s) (first_frame_at s ∷ first_top s ∷ (replicate 12 0 ++ address_of_place s s.main 0 ∷ [])) frame
      (one_word (first_frame_at s) (first_top s ∷ (replicate 12 0 ++ address_of_place s s.main 0 ∷ [])) frame
      (one_word (first_top s) (replicate 12 0 ++ address_of_place s s.main 0 ∷ []) top
      (words-append (replicate 12 0) (address_of_place s s.main 0 ∷ []) refl (one_word (address_of_place s s.main 0) [] (place_below s fits s.main 0) refl))))
