-- The pieces that quick code is made of, as words.
use Rattle.std.specs.Prelude.{ℕ, List, [], ◌∷◌, ◌++◌, true, false}
use Rattle.fm_words.specs.{declared.operation.Op.{Op}, declared.operation.Op.TheVariants.{Move, Add, Neg, Sub, Lsr}}
use Rattle.fm_words.specs.{declared.condition.Cc.{Cc}, declared.condition.Cc.TheVariants.{Cs, Vc, Vs, Nc, Zs}}
use Rattle.fm_words.specs.{declared.condition.Flags.{Flags}, Encoding.{encode_of}}
use Rattle.fm_code.specs.InstructionWords.{reg, at, immediate, literal, instruction, always, mov, setting, when}
use Rattle.quick_code.specs.Access.{Access, register_of, find_code}

-- `OP{set} r3,(x)`: an operation on r3 by a variable's word
abbrev pub by_word_code : Op → Flags → Access → List ℕ
by_word_code op set x = find_code x ++ setting set op (reg 3) (at (register_of x)) ∷ []

-- `OP{set} r3,=w`
abbrev pub by_literal_code : Op → Flags → ℕ → List ℕ
by_literal_code op set w = setting set op (reg 3) literal ∷ w ∷ []

-- `MOVE (x),r3`: r3 stored in a variable
abbrev pub store_code : Access → List ℕ
store_code x = find_code x ++ mov (at (register_of x)) (reg 3) ∷ []

-- `MOVE (x),=w`
abbrev pub store_literal_code : Access → ℕ → List ℕ
store_literal_code x w = find_code x ++ mov (at (register_of x)) literal ∷ w ∷ []

-- `MOVE (x),#0; MOVE[cc] (x),#1`: whether the condition holds of the flags
abbrev pub truth_code : Cc → Access → List ℕ
truth_code cc x =
    find_code x ++ mov (at (register_of x)) (immediate 0) ∷ when cc Move (at (register_of x)) (immediate 1) ∷ []

-- `MOVE (x),(rk)`: the word at the address in a register stored in a variable
abbrev pub move_code : Access → ℕ → List ℕ
move_code x k = find_code x ++ mov (at (register_of x)) (at k) ∷ []

-- `MOVE (r3),(x)`: a variable's word stored at the address in r3
abbrev pub put_code : Access → List ℕ
put_code x = find_code x ++ mov (at 3) (at (register_of x)) ∷ []

-- `MOVE[cc] r15,=target`
abbrev pub jump_when_code : Cc → ℕ → List ℕ
jump_when_code cc target = when cc Move (reg 15) literal ∷ target ∷ []

-- `MOVE r3,=address; MOVE (r3),=w`: a word of the areas set
abbrev pub set_area_code : ℕ → ℕ → List ℕ
set_area_code address w = mov (reg 3) literal ∷ address ∷ mov (at 3) literal ∷ w ∷ []

-- A product, r3 = (x) * (y), which sets the overflow flag if it doesn't fit in 32 signed bits. Its jumps are relative to r15.

abbrev pub flag_n : Flags
flag_n = record { c = false; v = false; n = true; z = false }

abbrev pub flag_v : Flags
flag_v = record { c = false; v = true; n = false; z = false }

abbrev pub flags_cz : Flags
flags_cz = record { c = true; v = false; n = false; z = true }

-- `MOVE r3,#0; MOVE r0,(x); MOVE{n} r4,(y)`
abbrev pub factors_code : Access → Access → List ℕ
factors_code x y =
    mov (reg 3) (immediate 0) ∷ (find_code x ++ mov (reg 0) (at (register_of x)) ∷
    (find_code y ++ setting flag_n Move (reg 4) (at (register_of y)) ∷ []))

-- `ADD[nc] r15,#3; NEG r4,r4; NEG{v} r0,r0; ADD[vs] r15,#5`: if the second factor is negative, both change their signs. If the first one
-- can't, because it is -2^31, the code ends with the overflow flag.
abbrev pub signs_code : List ℕ
signs_code =
    when Nc Add (reg 15) (immediate 3) ∷ always Neg (reg 4) (reg 4) ∷ setting flag_v Neg (reg 0) (reg 0) ∷
    when Vs Add (reg 15) (immediate 5) ∷ []

-- `LSR{cz} r4,r4; ADD[cs]{v} r3,r0; ADD[zs] r15,#2; ADD{v} r0,r0; SUB[vc] r15,#5`: a round for each binary digit of r4, from the lowest
-- on. If the digit is 1, r0 is added. Then r0 is doubled, unless the digit was the highest. The code ends there, or when a doubling
-- overflows.
abbrev pub rounds_code : List ℕ
rounds_code =
    setting flags_cz Lsr (reg 4) (reg 4) ∷ encode_of (instruction Add Cs flag_v (reg 3) (reg 0)) ∷
    when Zs Add (reg 15) (immediate 2) ∷ setting flag_v Add (reg 0) (reg 0) ∷ when Vc Sub (reg 15) (immediate 5) ∷ []

abbrev pub product_code : Access → Access → List ℕ
product_code x y = factors_code x y ++ (signs_code ++ rounds_code)
