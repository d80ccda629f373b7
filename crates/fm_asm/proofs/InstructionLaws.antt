-- Instructions are read from what they are written as.
use Rattle.std.proofs.Common.{◌≡◌, ℕ, ◌+◌, ◌-◌, ◌/◌, ◌%◌, ◌<◌, ◌≤◌, ◌==◌, ◌&&◌, Bool, true, false, not, List, [], ◌∷◌, ◌++◌, length, Option, Some, None, refl}
use Rattle.std.{proofs.Common.{sym, ap, ◌∙◌, arith, codes, append-nil, append_assoc, ⊎_elim, eqb-true, nat_le}, specs.Fmt.{decimal, digits}}
use Rattle.std.{specs.List.list_all, specs.Char.is_ascii_digit, proofs.lemmas.Bool.{and_parts, and_from, cases_lt, cond-true}}
use Rattle.std.{proofs.lemmas.Bool.Decides.nat_tests, proofs.lemmas.Fmt.{decimal_digit, decimal_step}}
use Rattle.stack_text.{specs.Numerals.{is_digits, is_numeral}, specs.Options.◌>>=◌}
use Rattle.fm_words.{specs.declared.operation.Op.Op, specs.declared.operation.Op.TheVariants.{Move, Inc, Addc, Add, Neg, Dec, Subb, Sub, Ror, Asr, Lsr, Xor}}
use Rattle.fm_words.{specs.declared.operation.Op.TheVariants.{Or, And, Not, M15}, specs.declared.condition.Cc.Cc, specs.declared.condition.Flags.Flags}
use Rattle.fm_words.{specs.declared.instruction.Mode.Mode, specs.declared.instruction.Mode.TheVariants.{Register, Indirect, PreDecrement, PostIncrement}}
use Rattle.fm_words.specs.declared.instruction.OperandA.{OperandA}
use Rattle.fm_words.specs.declared.condition.Cc.TheVariants as cc
use Rattle.fm_show.specs.Disassembly.{operation_name, condition_text, flags_text, register_name, place_text}
use Rattle.fm_asm.{specs.Cuts.{cut, split_once, after_prefix}, specs.Instructions.{operation_in, condition_named, condition_in, letter_in, flag_letters_in}}
use Rattle.fm_asm.specs.Instructions.{flags_in, named_in, head_in, register_in, closing_mode, indirect_in, decrement_in, direct_in, place_in, immediate_in}
use Rattle.fm_asm.{specs.Instructions.{operand_in, instruction_in}, specs.Assembly.{SpellsOperand, immediate, place, SpellsInstruction}, proofs.CutLaws.lacks}
use Rattle.fm_asm.{proofs.CutLaws.{lacks-append, cut-append, cut-lacks, split_once-append}, proofs.ValueLaws.digits_lack, proofs.TextLaws.is_text_byte}

-- what stands after a byte, with it, and nothing where it isn't there
pub tail : ℕ → Option (List ℕ) → List ℕ
tail byte None = []
tail byte (Some rest) = byte ∷ rest

pub cut-tail : (byte : ℕ) (front : List ℕ) (rest : Option (List ℕ)) → lacks byte front ≡ true → cut byte (front ++ tail byte rest) ≡ (front, rest)
unfolding tail
cut-tail byte front None h = ap (cut byte) (append-nil front) ∙ cut-lacks byte front h
cut-tail byte front (Some rest) h = cut-append byte front rest h

-- ---- the operation

-- a name has no byte that ends it
pub record IsNamed (op : Op) : Type 0 where
  pub read : operation_in (operation_name op) ≡ Some op
  pub bracketless : lacks 91 (operation_name op) ≡ true
  pub braceless : lacks 123 (operation_name op) ≡ true
  pub spaceless : lacks 32 (operation_name op) ≡ true
  pub colonless : lacks 58 (operation_name op) ≡ true
  pub bytes : list_all is_text_byte (operation_name op) ≡ true
  pub short : nat_le (length (operation_name op)) 4 ≡ true

pub operation_named : (op : Op) → IsNamed op
unfolding operation_in
operation_named Move = record { read = refl; bracketless = refl; braceless = refl; spaceless = refl; colonless = refl; bytes = refl; short = refl }
operation_named Inc = record { read = refl; bracketless = refl; braceless = refl; spaceless = refl; colonless = refl; bytes = refl; short = refl }
operation_named Addc = record { read = refl; bracketless = refl; braceless = refl; spaceless = refl; colonless = refl; bytes = refl; short = refl }
operation_named Add = record { read = refl; bracketless = refl; braceless = refl; spaceless = refl; colonless = refl; bytes = refl; short = refl }
operation_named Neg = record { read = refl; bracketless = refl; braceless = refl; spaceless = refl; colonless = refl; bytes = refl; short = refl }
operation_named Dec = record { read = refl; bracketless = refl; braceless = refl; spaceless = refl; colonless = refl; bytes = refl; short = refl }
operation_named Subb = record { read = refl; bracketless = refl; braceless = refl; spaceless = refl; colonless = refl; bytes = refl; short = refl }
operation_named Sub = record { read = refl; bracketless = refl; braceless = refl; spaceless = refl; colonless = refl; bytes = refl; short = refl }
operation_named Ror = record { read = refl; bracketless = refl; braceless = refl; spaceless = refl; colonless = refl; bytes = refl; short = refl }
operation_named Asr = record { read = refl; bracketless = refl; braceless = refl; spaceless = refl; colonless = refl; bytes = refl; short = refl }
operation_named Lsr = record { read = refl; bracketless = refl; braceless = refl; spaceless = refl; colonless = refl; bytes = refl; short = refl }
operation_named Xor = record { read = refl; bracketless = refl; braceless = refl; spaceless = refl; colonless = refl; bytes = refl; short = refl }
operation_named Or = record { read = refl; bracketless = refl; braceless = refl; spaceless = refl; colonless = refl; bytes = refl; short = refl }
operation_named And = record { read = refl; bracketless = refl; braceless = refl; spaceless = refl; colonless = refl; bytes = refl; short = refl }
operation_named Not = record { read = refl; bracketless = refl; braceless = refl; spaceless = refl; colonless = refl; bytes = refl; short = refl }
operation_named M15 = record { read = refl; bracketless = refl; braceless = refl; spaceless = refl; colonless = refl; bytes = refl; short = refl }

-- ---- the store condition

pub record IsBracketed (k : Cc) : Type 0 where
  pub rest : Option (List ℕ)
  pub text : condition_text k ≡ tail 91 rest
  pub read : condition_in rest ≡ Some k
  pub braceless : lacks 123 (condition_text k) ≡ true
  pub spaceless : lacks 32 (condition_text k) ≡ true
  pub colonless : lacks 58 (condition_text k) ≡ true
  pub bytes : list_all is_text_byte (condition_text k) ≡ true
  pub short : nat_le (length (condition_text k)) 4 ≡ true

bracketed : (k : Cc) (text : List ℕ) → condition_text k ≡ 91 ∷ text → condition_in (Some text) ≡ Some k
    → lacks 123 (condition_text k) ≡ true → lacks 32 (condition_text k) ≡ true → lacks 58 (condition_text k) ≡ true
    → list_all is_text_byte (condition_text k) ≡ true → nat_le (length (condition_text k)) 4 ≡ true → IsBracketed k
unfolding tail
bracketed k text is reads braces spaces colons all few =
    record { rest = Some text; text = is; read = reads; braceless = braces; spaceless = spaces; colonless = colons; bytes = all; short = few }

pub condition_bracketed : (k : Cc) → IsBracketed k
unfolding tail condition_in condition_named cut split_once
condition_bracketed cc.Cc = bracketed cc.Cc (codes "cc]") refl refl refl refl refl refl refl
condition_bracketed cc.Cs = bracketed cc.Cs (codes "cs]") refl refl refl refl refl refl refl
condition_bracketed cc.Vc = bracketed cc.Vc (codes "vc]") refl refl refl refl refl refl refl
condition_bracketed cc.Vs = bracketed cc.Vs (codes "vs]") refl refl refl refl refl refl refl
condition_bracketed cc.Nc = bracketed cc.Nc (codes "nc]") refl refl refl refl refl refl refl
condition_bracketed cc.Ns = bracketed cc.Ns (codes "ns]") refl refl refl refl refl refl refl
condition_bracketed cc.Zc = bracketed cc.Zc (codes "zc]") refl refl refl refl refl refl refl
condition_bracketed cc.Zs = bracketed cc.Zs (codes "zs]") refl refl refl refl refl refl refl
condition_bracketed cc.Hi = bracketed cc.Hi (codes "hi]") refl refl refl refl refl refl refl
condition_bracketed cc.Ls = bracketed cc.Ls (codes "ls]") refl refl refl refl refl refl refl
condition_bracketed cc.Ge = bracketed cc.Ge (codes "ge]") refl refl refl refl refl refl refl
condition_bracketed cc.Lt = bracketed cc.Lt (codes "lt]") refl refl refl refl refl refl refl
condition_bracketed cc.Gt = bracketed cc.Gt (codes "gt]") refl refl refl refl refl refl refl
condition_bracketed cc.Le = bracketed cc.Le (codes "le]") refl refl refl refl refl refl refl
condition_bracketed cc.Al = record { rest = None; text = refl; read = refl; braceless = refl; spaceless = refl; colonless = refl; bytes = refl; short = refl }
condition_bracketed cc.Nv = bracketed cc.Nv (codes "nv]") refl refl refl refl refl refl refl

-- ---- the flags

pub record IsBraced (f : Flags) : Type 0 where
  pub rest : Option (List ℕ)
  pub text : flags_text f ≡ tail 123 rest
  pub read : flags_in rest ≡ Some f
  pub spaceless : lacks 32 (flags_text f) ≡ true
  pub colonless : lacks 58 (flags_text f) ≡ true
  pub bytes : list_all is_text_byte (flags_text f) ≡ true
  pub short : nat_le (length (flags_text f)) 6 ≡ true

braced : (f : Flags) (text : List ℕ) → flags_text f ≡ 123 ∷ text → flags_in (Some text) ≡ Some f → lacks 32 (flags_text f) ≡ true
    → lacks 58 (flags_text f) ≡ true
    → list_all is_text_byte (flags_text f) ≡ true → nat_le (length (flags_text f)) 6 ≡ true → IsBraced f
unfolding tail
braced f text is reads spaces colons all few =
    record { rest = Some text; text = is; read = reads; spaceless = spaces; colonless = colons; bytes = all; short = few }

bits_braced : (c v n z : Bool) → IsBraced (record { c = c; v = v; n = n; z = z })
unfolding tail flags_in flag_letters_in letter_in after_prefix
bits_braced false false false false = record { rest = None; text = refl; read = refl; spaceless = refl; colonless = refl; bytes = refl; short = refl }
bits_braced false false false true = braced _ (codes "z}") refl refl refl refl refl refl
bits_braced false false true false = braced _ (codes "n}") refl refl refl refl refl refl
bits_braced false false true true = braced _ (codes "nz}") refl refl refl refl refl refl
bits_braced false true false false = braced _ (codes "v}") refl refl refl refl refl refl
bits_braced false true false true = braced _ (codes "vz}") refl refl refl refl refl refl
bits_braced false true true false = braced _ (codes "vn}") refl refl refl refl refl refl
bits_braced false true true true = braced _ (codes "vnz}") refl refl refl refl refl refl
bits_braced true false false false = braced _ (codes "c}") refl refl refl refl refl refl
bits_braced true false false true = braced _ (codes "cz}") refl refl refl refl refl refl
bits_braced true false true false = braced _ (codes "cn}") refl refl refl refl refl refl
bits_braced true false true true = braced _ (codes "cnz}") refl refl refl refl refl refl
bits_braced true true false false = braced _ (codes "cv}") refl refl refl refl refl refl
bits_braced true true false true = braced _ (codes "cvz}") refl refl refl refl refl refl
bits_braced true true true false = braced _ (codes "cvn}") refl refl refl refl refl refl
bits_braced true true true true = braced _ (codes "cvnz}") refl refl refl refl refl refl

pub flags_braced : (f : Flags) → IsBraced f
flags_braced f = bits_braced f.c f.v f.n f.z

-- ---- what stands before the space

unfoldable pub head_text : Op → Cc → Flags → List ℕ
head_text op k f = (operation_name op ++ condition_text k) ++ flags_text f

pair_of : {A B : Type 0} (p q : A) (r s : B) → p ≡ q → r ≡ s → (let t : A × B = (p, r) in t) ≡ (let t : A × B = (q, s) in t)
pair_of p q r s e f = λ i. (e i, f i)

named_read : (op : Op) (k : Cc) → named_in (operation_name op ++ condition_text k) ≡ Some (op, k)
unfolding named_in
named_read op k =
    let n = operation_named op in
    let b = condition_bracketed k in
    let text : operation_name op ++ condition_text k ≡ operation_name op ++ tail 91 b.rest = ap (λ t. operation_name op ++ t) b.text in
    let parts : cut 91 (operation_name op ++ condition_text k) ≡ (operation_name op, b.rest) = ap (cut 91) text ∙ cut-tail 91 _ b.rest n.bracketless in
    rw parts (rw (n.read, b.read) refl)

pub head_read : (op : Op) (k : Cc) (f : Flags) → head_in (head_text op k f) ≡ Some (op, k, f)
unfolding head_in head_text
head_read op k f =
    let n = operation_named op in
    let b = condition_bracketed k in
    let g = flags_braced f in
    let braceless : lacks 123 (operation_name op ++ condition_text k) ≡ true = lacks-append 123 (operation_name op) _ n.braceless b.braceless in
    let parts : cut 123 ((operation_name op ++ condition_text k) ++ flags_text f) ≡ (operation_name op ++ condition_text k, g.rest) =
    ap (λ t. cut 123 ((operation_name op ++ condition_text k) ++ t)) g.text ∙ cut-tail 123 _ g.rest braceless in
    rw parts (rw (named_read op k, g.read) refl)

pub head_spaceless : (op : Op) (k : Cc) (f : Flags) → lacks 32 (head_text op k f) ≡ true
unfolding head_text
head_spaceless op k f = lacks-append 32 (operation_name op ++ condition_text k) _
    (lacks-append 32 (operation_name op) (condition_text k) (operation_named op).spaceless (condition_bracketed k).spaceless) (flags_braced f).spaceless

pub head_colonless : (op : Op) (k : Cc) (f : Flags) → lacks 58 (head_text op k f) ≡ true
unfolding head_text
head_colonless op k f = lacks-append 58 (operation_name op ++ condition_text k) _
    (lacks-append 58 (operation_name op) (condition_text k) (operation_named op).colonless (condition_bracketed k).colonless) (flags_braced f).colonless

-- ---- registers and places

pub record IsRegisterText (r : ℕ) : Type 0 where
  pub read : register_in (decimal r) ≡ Some r
  pub are_digits : is_digits (decimal r) ≡ true

one_digit : (r : ℕ) → r < 10 → register_in ((48 + r) ∷ []) ≡ Some r
unfolding register_in
one_digit r h =
    let within : (nat_le 48 (48 + r) && nat_le (48 + r) 57) ≡ true = grind (arith, nat_tests) in
    let back : 48 + r - 48 ≡ r = omega arith in
    cond-true (nat_le 48 (48 + r) && nat_le (48 + r) 57) _ _ within ∙ ap Some back

two_digits : (r : ℕ) → 10 ≤ r → r < 16 → register_in (49 ∷ (48 + r % 10) ∷ []) ≡ Some r
unfolding register_in
two_digits r low high =
    let within : (nat_le 48 (48 + r % 10) && nat_le (48 + r % 10) 53) ≡ true = grind (arith, nat_tests) in
    let back : 48 + r % 10 - 38 ≡ r = omega arith in
    cond-true (nat_le 48 (48 + r % 10) && nat_le (48 + r % 10) 53) _ _ within ∙ ap Some back

digit_is : (d : ℕ) → d < 10 → is_ascii_digit (48 + d) ≡ true
digit_is d h = grind (arith, nat_tests)

pub register_text : (r : ℕ) → r < 16 → IsRegisterText r
register_text r h = ⊎_elim (λ small.
    let text : decimal r ≡ (48 + r) ∷ [] = decimal_digit r small in
    let shown : is_digits ((48 + r) ∷ []) ≡ true = rw (digit_is r small) refl in
    record { read = cc (text, one_digit r small); are_digits = ap is_digits text ∙ shown }) (λ big.
    let tens : r / 10 ≡ 1 = omega arith in
    let text : decimal r ≡ 49 ∷ (48 + r % 10) ∷ [] = decimal_step r big (omega arith) ∙ ap (λ n. decimal n ++ ((48 + r % 10) ∷ [])) tens
    ∙ ap (λ ds. ds ++ ((48 + r % 10) ∷ [])) (decimal_digit 1 (omega arith)) in
    let shown : is_digits (49 ∷ (48 + r % 10) ∷ []) ≡ true = rw (digit_is (r % 10) (omega arith)) refl in
    record { read = cc (text, two_digits r big h); are_digits = ap is_digits text ∙ shown }) (cases_lt r 10)

pub register_lacks : (byte r : ℕ) → is_ascii_digit byte ≡ false → r < 16 → lacks byte (decimal r) ≡ true
register_lacks byte r fails h = digits_lack byte (decimal r) fails (register_text r h).are_digits

pub place_read : (m : Mode) (r : ℕ) → r < 16 → place_in (place_text m r) ≡ Some (m, r)
unfolding place_in direct_in indirect_in decrement_in after_prefix closing_mode
place_read Register r h = ap (λ o. o >>= λ register. Some (Register, register)) (register_text r h).read
place_read Indirect r h =
    let parts : split_once 41 (decimal r ++ 41 ∷ []) ≡ Some (decimal r, []) = split_once-append 41 (decimal r) [] (register_lacks 41 r refl h) in
    rw parts (rw (register_text r h).read refl)
place_read PreDecrement r h =
    let parts : split_once 41 (decimal r ++ 41 ∷ []) ≡ Some (decimal r, []) = split_once-append 41 (decimal r) [] (register_lacks 41 r refl h) in
    rw parts (rw (register_text r h).read refl)
place_read PostIncrement r h =
    let parts : split_once 41 (decimal r ++ 41 ∷ 43 ∷ []) ≡ Some (decimal r, 43 ∷ []) = split_once-append 41 (decimal r) (43 ∷ [])
    (register_lacks 41 r refl h) in
    rw parts (rw (register_text r h).read refl)

pub place_lacks : (byte : ℕ) (m : Mode) (r : ℕ) → is_ascii_digit byte ≡ false → lacks byte (codes "r()-+") ≡ true → r < 16 → lacks byte (place_text m r) ≡ true
place_lacks byte m r fails marks h =
    let a = and_parts _ _ marks in
    let b = and_parts _ _ a.1 in
    let c = and_parts _ _ b.1 in
    let d = and_parts _ _ c.1 in
    by_mode m (and_from (not (114 == byte)) true a.0 refl) (and_from _ true b.0 refl) (and_from _ true c.0 refl) (and_from _ true d.0 refl) d.1
  where
    name : lacks byte (114 ∷ []) ≡ true → lacks byte (register_name r) ≡ true
    name k = lacks-append byte (codes "r") (decimal r) k (register_lacks byte r fails h)

    by_mode : (m : Mode) → lacks byte (114 ∷ []) ≡ true → lacks byte (40 ∷ []) ≡ true → lacks byte (41 ∷ []) ≡ true → lacks byte (45 ∷ []) ≡ true
        → lacks byte (43 ∷ []) ≡ true → lacks byte (place_text m r) ≡ true
    by_mode Register k opens closes minus plus = name k
    by_mode Indirect k opens closes minus plus =
        lacks-append byte (codes "(" ++ register_name r) (codes ")") (lacks-append byte (codes "(") (register_name r) opens (name k)) closes
    by_mode PreDecrement k opens closes minus plus = lacks-append byte (codes "-(" ++ register_name r) (codes ")")
        (lacks-append byte (codes "-(") (register_name r) (lacks-append byte (45 ∷ []) (40 ∷ []) minus opens) (name k)) closes
    by_mode PostIncrement k opens closes minus plus =
        lacks-append byte (codes "(" ++ register_name r) _ (lacks-append byte (codes "(") (register_name r) opens (name k))
        (lacks-append byte (41 ∷ []) (43 ∷ []) closes plus)

-- ---- operand A

no_hash : (m : Mode) (r : ℕ) → after_prefix (codes "#") (place_text m r) ≡ None
unfolding after_prefix
no_hash Register r = refl
no_hash Indirect r = refl
no_hash PreDecrement r = refl
no_hash PostIncrement r = refl

pub operand_read : (text : List ℕ) (a : Option OperandA) → SpellsOperand text a → operand_in text ≡ Some a
unfolding operand_in immediate_in after_prefix
operand_read _ _ (immediate digits h) = cond-true (is_numeral digits) _ _ h
operand_read _ _ (place mode reg h) = cc (no_hash mode reg, place_read mode reg h)

-- a numeral has no byte that is neither a digit nor `-`
pub numeral_lacks : (byte : ℕ) (digits : List ℕ) → is_ascii_digit byte ≡ false → (45 == byte) ≡ false → is_numeral digits ≡ true → lacks byte digits ≡ true
numeral_lacks byte [] fails other h = absurd cc
numeral_lacks byte (b ∷ digits) fails other h = by_sign (b == 45) refl
  where
    by_sign : (t : Bool) → (b == 45) ≡ t → lacks byte (b ∷ digits) ≡ true
    by_sign true e =
        let same : b ≡ 45 = eqb-true b 45 e in
        let minus : (b == byte) ≡ false = cc (same, other) in
        let rest : is_digits digits ≡ true = rw e at h in
        and_from _ _ (ap not minus) (digits_lack byte digits fails rest)
    by_sign false e =
        let all : is_digits (b ∷ digits) ≡ true = rw e at h in
        digits_lack byte (b ∷ digits) fails all

pub operand_colonless : (text : List ℕ) (a : Option OperandA) → SpellsOperand text a → lacks 58 text ≡ true
operand_colonless _ _ (immediate digits h) = numeral_lacks 58 digits refl refl h
operand_colonless _ _ (place mode reg h) = place_lacks 58 mode reg refl refl h

-- ---- instructions

-- an instruction in two parts around its space
unfoldable pub operands_text : Mode → ℕ → List ℕ → List ℕ
operands_text m r operand = place_text m r ++ 44 ∷ operand

pub regrouped : (op : Op) (k : Cc) (f : Flags) (m : Mode) (r : ℕ) (operand : List ℕ)
    → operation_name op ++ condition_text k ++ flags_text f ++ codes " " ++ place_text m r ++ codes "," ++ operand ≡ head_text op k f ++ 32
    ∷ operands_text m r operand
unfolding head_text operands_text
regrouped op k f m r operand = simp append_assoc

pub instruction_read : (text : List ℕ) (w : Option ℕ) (i : SpellsInstruction text w)
    → instruction_in (head_text i.op i.condition i.set) (operands_text i.mode i.reg i.operand) ≡ Some w
unfolding instruction_in operands_text
instruction_read text w i =
    let parts : split_once 44 (place_text i.mode i.reg ++ 44 ∷ i.operand) ≡ Some (place_text i.mode i.reg, i.operand) =
    split_once-append 44 (place_text i.mode i.reg) i.operand (place_lacks 44 i.mode i.reg refl refl i.register) in
    rw parts (rw (head_read i.op i.condition i.set, place_read i.mode i.reg i.register, operand_read i.operand i.a i.operand_is)
    (ap (λ (x : Option ℕ). Some x) (sym i.word_is)))
