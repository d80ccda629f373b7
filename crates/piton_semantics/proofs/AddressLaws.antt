-- Each place, program and area has an address of its own, and the number of a word tells it from all words of its tag.
use Rattle.std.proofs.Common.{◌≡◌, ℕ, zero, suc, ◌+◌, ◌≤◌, ◌<◌, ℤ, pos, negsuc, Bool, true, false, List, [], ◌∷◌, length, map, refl, ap, sym, ◌∙◌, subst, arith}
use Rattle.std.{specs.Prelude.{◌^◌, take, get_or, Ok}, specs.Int.from_bool as bit_of, proofs.lemmas.Bool.ltb-true}
use Rattle.fm_words.specs.Word.{is_int, word_of_int}
use Rattle.piton_words.{specs.declared.word.Word.Word, specs.declared.word.Word.TheVariants.{Int, Nat, Bitv, Bool as Truth, Addr, Pc, Subr}}
use Rattle.piton_words.{specs.OperationRows.are_same, specs.declared.op.WordOp.WordOp}
use Rattle.piton_words.specs.declared.op.WordOp.TheVariants as word_op
use Rattle.piton_check.specs.Instruction as i
use Rattle.piton_check.specs.Instruction.{Instruction, ProgramView, SystemView}
use Rattle.piton_semantics.{specs.State.program_of, specs.Step.operation_cost, specs.Fits.{IsPlace, IsWordOf}, specs.Addresses.word_number}
use Rattle.piton_semantics.specs.Placed.{instruction_size, instructions_size, prelude_size, program_size, programs_size, areas_size, entry_of, address_of_place}
use Rattle.piton_semantics.specs.Placed.{areas_start, addresses_of}

pub word_of_int-injective : (x y : ℤ) → is_int x ≡ true → is_int y ≡ true → word_of_int x ≡ word_of_int y → x ≡ y
word_of_int-injective (pos m) (pos n) a b e = ap pos e
word_of_int-injective (pos m) (negsuc n) a b e = absurd (omega (arith, ltb-true m (2 ^ 31) a, ltb-true n (2 ^ 31) b))
word_of_int-injective (negsuc m) (pos n) a b e = absurd (omega (arith, ltb-true m (2 ^ 31) a, ltb-true n (2 ^ 31) b))
word_of_int-injective (negsuc m) (negsuc n) a b e = ap negsuc (omega (arith, ltb-true m (2 ^ 31) a, ltb-true n (2 ^ 31) b))

pub bit-injective : (x y : Bool) → bit_of x ≡ bit_of y → x ≡ y
bit-injective true true e = refl
bit-injective true false e = absurd (omega arith)
bit-injective false true e = absurd (omega arith)
bit-injective false false e = refl

-- the lengths of what stands before
abbrev pub offset_of : List ℕ → ℕ → ℕ
offset_of [] k = 0
offset_of (n ∷ ns) zero = 0
offset_of (n ∷ ns) (suc k) = n + offset_of ns k

-- parts one behind another: a place in one of them is in no other
pub same_part : (ns : List ℕ) (a b x y : ℕ) → x < get_or ns a 0 → y < get_or ns b 0 → offset_of ns a + x ≡ offset_of ns b + y → (a ≡ b) × (x ≡ y)
same_part [] a b x y p q e = absurd (omega arith)
same_part (n ∷ ns) zero zero x y p q e = (refl, omega arith)
same_part (n ∷ ns) zero (suc b) x y p q e = absurd (omega arith)
same_part (n ∷ ns) (suc a) zero x y p q e = absurd (omega arith)
same_part (n ∷ ns) (suc a) (suc b) x y p q e =
    let r = same_part ns a b x y p q (omega arith) in
    (ap suc r.0, r.1)

pub areas_offset : (areas : List (List Word)) (a : ℕ) → areas_size (take a areas) ≡ offset_of (map length areas) a
areas_offset [] zero = refl
areas_offset [] (suc a) = refl
areas_offset (area ∷ rest) zero = refl
areas_offset (area ∷ rest) (suc a) = ap (λ n. length area + n) (areas_offset rest a)

-- the numbers of two addresses
pub same_addresses : (start : ℕ) (areas : List (List Word)) (a b x y : ℕ) → x < get_or (map length areas) a 0 → y < get_or (map length areas) b 0 →
    start + areas_size (take a areas) + x ≡ start + areas_size (take b areas) + y → (a ≡ b) × (x ≡ y)
same_addresses start areas a b x y p q e =
    same_part (map length areas) a b x y p q (omega (arith, areas_offset areas a, areas_offset areas b))

operation_cost-positive : (o : WordOp) → 1 ≤ operation_cost o
operation_cost-positive word_op.Eq = omega arith
operation_cost-positive word_op.LtInt = omega arith
operation_cost-positive word_op.LtNat = omega arith
operation_cost-positive word_op.LtAddr = omega arith
operation_cost-positive word_op.AddIntWithCarry = omega arith
operation_cost-positive word_op.AddNatWithCarry = omega arith
operation_cost-positive word_op.SubIntWithCarry = omega arith
operation_cost-positive word_op.SubNatWithCarry = omega arith
operation_cost-positive word_op.Mult2NatWithCarryOut = omega arith
operation_cost-positive word_op.Div2Nat = omega arith
operation_cost-positive o = omega arith

instruction_size-positive : (instruction : Instruction) → 1 ≤ instruction_size instruction
instruction_size-positive (i.PushConstant word) = omega arith
instruction_size-positive (i.PushLocal offset) = omega arith
instruction_size-positive (i.PopLocal offset) = omega arith
instruction_size-positive (i.SetLocal offset) = omega arith
instruction_size-positive (i.PushGlobal area) = omega arith
instruction_size-positive (i.PopGlobal area) = omega arith
instruction_size-positive (i.SetGlobal area) = omega arith
instruction_size-positive (i.PushTempStkIndex n) = omega arith
instruction_size-positive i.PushTempStkFreeSize = omega arith
instruction_size-positive i.PushCtrlStkFreeSize = omega arith
instruction_size-positive i.FetchTempStk = omega arith
instruction_size-positive i.DepositTempStk = omega arith
instruction_size-positive i.Fetch = omega arith
instruction_size-positive i.Deposit = omega arith
instruction_size-positive i.Pop = omega arith
instruction_size-positive (i.PopStar n) = omega arith
instruction_size-positive i.Popn = omega arith
instruction_size-positive i.NoOp = omega arith
instruction_size-positive (i.Jump to) = omega arith
instruction_size-positive (i.JumpIfTempStkFull to) = omega arith
instruction_size-positive (i.JumpIfTempStkEmpty to) = omega arith
instruction_size-positive (i.JumpCase places) = omega arith
instruction_size-positive (i.Pushj to) = omega arith
instruction_size-positive i.Popj = omega arith
instruction_size-positive (i.TestAndJump family kind to) = omega arith
instruction_size-positive (i.Call callee) = omega arith
instruction_size-positive i.PopCall = omega arith
instruction_size-positive i.Ret = omega arith
instruction_size-positive (i.Apply o) = operation_cost-positive o

-- the places of a program's instructions
pub sum_below : (is : List Instruction) (l : ℕ) → l < length is → instructions_size (take l is) < instructions_size is
sum_below [] l h = absurd (omega arith)
sum_below (instruction ∷ is) zero h = omega (arith, instruction_size-positive instruction)
sum_below (instruction ∷ is) (suc l) h = omega (arith, sum_below is l (omega arith))

same_sum : (is : List Instruction) (l m : ℕ) → l < length is → m < length is → instructions_size (take l is) ≡ instructions_size (take m is) → l ≡ m
same_sum [] l m p q e = absurd (omega arith)
same_sum (instruction ∷ is) zero zero p q e = refl
same_sum (instruction ∷ is) zero (suc m) p q e = absurd (omega (arith, instruction_size-positive instruction))
same_sum (instruction ∷ is) (suc l) zero p q e = absurd (omega (arith, instruction_size-positive instruction))
same_sum (instruction ∷ is) (suc l) (suc m) p q e = ap suc (same_sum is l m (omega arith) (omega arith) (omega arith))

-- the programs
pub programs_offset : (ps : List ProgramView) (a : ℕ) → programs_size (take a ps) ≡ offset_of (map program_size ps) a
programs_offset [] zero = refl
programs_offset [] (suc a) = refl
programs_offset (p ∷ ps) zero = refl
programs_offset (p ∷ ps) (suc a) = ap (λ n. program_size p + n) (programs_offset ps a)

pub length_at : (ps : List ProgramView) (a : ℕ) (d : ProgramView) → a < length ps → get_or (map program_size ps) a 0 ≡ program_size (get_or ps a d)
length_at [] a d h = absurd (omega arith)
length_at (p ∷ ps) zero d h = refl
length_at (p ∷ ps) (suc a) d h = length_at ps a d (omega arith)

pub program_there : (ps : List ProgramView) (a l : ℕ) → l < length
    (get_or ps a record { formals = 0; temporaries = []; instructions = [] }).instructions → a < length ps
program_there [] a l h = absurd (omega arith)
program_there (p ∷ ps) zero l h = omega arith
program_there (p ∷ ps) (suc a) l h = omega (arith, program_there ps a l h)

pub same_places : (s : SystemView) (a b l m : ℕ) → IsPlace s a l → IsPlace s b m → address_of_place s a l ≡ address_of_place s b m → (a ≡ b) × (l ≡ m)
same_places s a b l m p q e =
    let first = program_of s a in
    let second = program_of s b in
    let below_a = sum_below first.instructions l p in
    let below_b = sum_below second.instructions m q in
    let size_a = length_at s.programs a record { formals = 0; temporaries = []; instructions = [] } (program_there s.programs a l p) in
    let size_b = length_at s.programs b record { formals = 0; temporaries = []; instructions = [] } (program_there s.programs b m q) in
    let parts = same_part (map program_size s.programs) a b (prelude_size first + instructions_size (take l first.instructions))
    (prelude_size second + instructions_size (take m second.instructions))
    (omega (arith, size_a, below_a)) (omega (arith, size_b, below_b)) (omega (arith, programs_offset s.programs a, programs_offset s.programs b)) in
    let same : second ≡ first = ap (program_of s) (sym parts.0) in
    let m_there : m < length first.instructions = subst (λ (p : ProgramView). m < length p.instructions) same q in
    let sums : prelude_size first + instructions_size (take l first.instructions) ≡ prelude_size first + instructions_size (take m first.instructions) =
    parts.1 ∙ ap (λ (p : ProgramView). prelude_size p + instructions_size (take m p.instructions)) same in
    (parts.0, same_sum first.instructions l m p m_there (omega arith))

pub same_entries : (s : SystemView) (a b : ℕ) → a < length s.programs → b < length s.programs → entry_of s a ≡ entry_of s b → a ≡ b
same_entries s a b p q e =
    let size_a = length_at s.programs a record { formals = 0; temporaries = []; instructions = [] } p in
    let size_b = length_at s.programs b record { formals = 0; temporaries = []; instructions = [] } q in
    (same_part (map program_size s.programs) a b 0 0 (omega (arith, size_a)) (omega (arith, size_b))
    (omega (arith, programs_offset s.programs a, programs_offset s.programs b))).0

-- Words of one tag with one number are the same.
pub same_words : (s : SystemView) (v w : Word) (b : Bool) → IsWordOf s v → IsWordOf s w → are_same v w ≡ Ok b
    → word_number (addresses_of s) v ≡ word_number (addresses_of s) w → v ≡ w
same_words s (Int x) (Int y) b p q h e = ap Int (word_of_int-injective x y p q e)
same_words s (Nat x) (Nat y) b p q h e = ap Nat e
same_words s (Bitv x) (Bitv y) b p q h e = ap Bitv e
same_words s (Truth x) (Truth y) b p q h e = ap Truth (bit-injective x y e)
same_words s (Addr a x) (Addr c y) b p q h e =
    let r = same_addresses (areas_start s) s.areas a c x y p q e in
    ap (λ a. Addr a x) r.0 ∙ ap (Addr c) r.1
same_words s (Pc a x) (Pc c y) b p q h e =
    let r = same_places s a c x y p q e in
    ap (λ a. Pc a x) r.0 ∙ ap (Pc c) r.1
same_words s (Subr a) (Subr c) b p q h e = ap Subr (same_entries s a c p q e)
same_words s v w b p q h e = cc
