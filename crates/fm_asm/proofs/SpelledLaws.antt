-- What is read is written so.
use Rattle.std.proofs.Common.{◌≡◌, ℕ, ◌+◌, ◌-◌, ◌/◌, ◌%◌, ◌<◌, ◌≤◌, ◌==◌, ◌&&◌, ◌||◌, Bool, true, false, cond, List, [], ◌∷◌, ◌++◌, Option, Some, None, Result}
use Rattle.std.proofs.Common.{Ok, Err, option_map, unwrap_or, refl, sym, ap, subst, ◌∙◌, arith, codes, append-nil, eqb-true, nat_le, leb-true}
use Rattle.std.{specs.Prelude.find, specs.Fmt.decimal, specs.List.list_all, specs.Str.bytes_eq, proofs.lemmas.Bool.and_parts, proofs.lemmas.Fmt.decimal_digit}
use Rattle.std.proofs.lemmas.Fmt.{decimal_step}
use Rattle.hex.{specs.Hex.decode_sized, specs.declared.error.FromHexError.FromHexError}
use Rattle.stack_text.{specs.Names.is_name, specs.Numerals.{is_digits, numeral_value}, specs.Options.◌>>=◌, proofs.SharedLaws.bytes_same}
use Rattle.stack_text.proofs.KeepsLaws.{found_tests}
use Rattle.fm_words.{specs.declared.operation.Op.Op, specs.declared.condition.Cc.Cc, specs.declared.condition.Flags.Flags, specs.declared.instruction.Mode.Mode}
use Rattle.fm_words.specs.declared.instruction.Mode.TheVariants.{Register, Indirect, PreDecrement, PostIncrement}
use Rattle.fm_words.{specs.declared.instruction.OperandA.OperandA, specs.Code.{ops, no_flags}, specs.Encoding.encode_of}
use Rattle.fm_words.specs.declared.condition.Cc.TheVariants as cc
use Rattle.fm_show.specs.Disassembly.{operation_name, condition_name, condition_text, shown_if, flags_text, place_text}
use Rattle.fm_asm.{specs.Cuts.{cut, split_once, after_prefix}, specs.Values.{Value, number, label, decimal_value, decimal_in, number_of_bytes, hex_value}}
use Rattle.fm_asm.{specs.Values.{hexadecimal_after, as_number, value_in}, specs.Instructions.{operation_in, written_conditions, condition_named, closed}}
use Rattle.fm_asm.specs.Instructions.{condition_in, letter_or, letter_in, flag_letters_in, flags_in, Head, named_in, head_in, register_in, closing_mode}
use Rattle.fm_asm.specs.Instructions.{PlaceOf, indirect_in, decrement_in, direct_in, place_by, place_in, in_9_bits, immediate_in, as_operand, operand_by}
use Rattle.fm_asm.{specs.Instructions.{operand_in, instruction_of, instruction_in}, specs.Assembly.{SpellsValue, decimal as in_decimal, hexadecimal, named}}
use Rattle.fm_asm.{specs.Assembly.{SpellsOperand, immediate, place, SpellsInstruction}, proofs.CutLaws.{cut_whole, whole, split_once_found, after_prefix_found}}
use Rattle.fm_asm.proofs.InstructionLaws.{head_text, operands_text, regrouped}

-- ---- what comes of a step that gave a value

pub by_some : {A : Type 0} (x y : A) → (let o : Option A = Some x in o) ≡ Some y → x ≡ y
by_some x y h = ap (λ o. unwrap_or o x) h

pub record IsBound {A B : Type 0} (o : Option A) (f : A → Option B) (y : B) : Type 0 where
  pub value : A
  pub is : o ≡ Some value
  pub later : f value ≡ Some y

pub bound : {A B : Type 0} (o : Option A) (f : A → Option B) (y : B) → (o >>= f) ≡ Some y → IsBound o f y
bound None f y h = absurd cc
bound (Some x) f y h = record { value = x; is = refl; later = h }

pub record IsMapped {A B : Type 0} (o : Option A) (f : A → B) (y : B) : Type 0 where
  pub value : A
  pub is : o ≡ Some value
  pub image : f value ≡ y

pub mapped : {A B : Type 0} (f : A → B) (o : Option A) (y : B) → option_map f o ≡ Some y → IsMapped o f y
mapped f None y h = absurd cc
mapped f (Some x) y h = record { value = x; is = refl; image = by_some (f x) y h }

pub tested : {A : Type 0} (t : Bool) (o : Option A) (y : A) → cond t o None ≡ Some y → (t ≡ true) × (o ≡ Some y)
tested true o y h = (refl, h)
tested false o y h = absurd cc

pub chosen_of : {A R : Type 0} (t : Bool) (x y : A) (rest : Option A) → cond t (Some x) rest ≡ Some y → (t ≡ true → x ≡ y → R) → (rest ≡ Some y → R) → R
chosen_of true x y rest h if_so if_not = if_so refl (by_some x y h)
chosen_of false x y rest h if_so if_not = if_not h

-- ---- values

hex_spelled : (digits : List ℕ) (v : Value) → option_map as_number (hex_value digits) ≡ Some v → SpellsValue (codes "0x" ++ digits) v
unfolding hex_value
hex_spelled digits v h = by_bytes (decode_sized digits 4) refl h
  where
    by_bytes : (r : Result (List ℕ) FromHexError) → decode_sized digits 4 ≡ r → option_map as_number (number_of_bytes r) ≡ Some v
        → SpellsValue (codes "0x" ++ digits) v
    by_bytes (Err e) is k = absurd cc
    by_bytes (Ok bytes) is k = subst (SpellsValue _) (by_some _ v k) (hexadecimal digits _ (record { bytes = bytes; digits_are = is; number_is = refl }))

pub value_spelled : (word : List ℕ) (v : Value) → value_in word ≡ Some v → SpellsValue word v
unfolding value_in
value_spelled word v h = by_digits (is_digits word) refl h
  where
    by_hex : (o : Option (List ℕ)) → after_prefix (codes "0x") word ≡ o → hexadecimal_after o ≡ Some v → SpellsValue word v
    by_hex None is k = absurd cc
    by_hex (Some digits) is k = subst (λ (w : List ℕ). SpellsValue w v) (sym (after_prefix_found (codes "0x") word digits is)) (hex_spelled digits v k)

    by_name : (t : Bool) → is_name word ≡ t → cond t (Some (label word)) (hexadecimal_after (after_prefix (codes "0x") word)) ≡ Some v → SpellsValue word v
    by_name true e k = subst (SpellsValue word) (by_some (label word) v k) (named word e)
    by_name false e k = by_hex (after_prefix (codes "0x") word) refl k

    by_digits : (t : Bool) → is_digits word ≡ t → cond t (Some (number (decimal_value word)))
        (cond (is_name word) (Some (label word)) (hexadecimal_after (after_prefix (codes "0x") word))) ≡ Some v → SpellsValue word v
    by_digits true e k = subst (SpellsValue word) (by_some (number (decimal_value word)) v k) (in_decimal word e)
    by_digits false e k = by_name (is_name word) refl k

pub decimal_spelled : (word : List ℕ) (n : Option ℕ) → decimal_in word ≡ Some n → (is_digits word ≡ true) × (decimal_value word ≡ n)
unfolding decimal_in
decimal_spelled word n h = by_digits (is_digits word) refl h
  where
    by_digits : (t : Bool) → is_digits word ≡ t → cond t (Some (decimal_value word)) None ≡ Some n → (is_digits word ≡ true) × (decimal_value word ≡ n)
    by_digits true e k = (e, by_some (decimal_value word) n k)
    by_digits false e k = absurd cc

-- ---- what a search found passes

-- ---- registers

pub register_spelled : (digits : List ℕ) (r : ℕ) → register_in digits ≡ Some r → (r < 16) × (digits ≡ decimal r)
unfolding register_in
register_spelled [] r h = absurd cc
register_spelled (d ∷ []) r h = by_test (nat_le 48 d && nat_le d 57) refl h
  where
    by_test : (t : Bool) → (nat_le 48 d && nat_le d 57) ≡ t → cond t (Some (d - 48)) None ≡ Some r → (r < 16) × (d ∷ [] ≡ decimal r)
    by_test false e k = absurd cc
    by_test true e k =
        let parts = and_parts (nat_le 48 d) (nat_le d 57) e in
        let low = leb-true 48 d parts.0 in
        let high = leb-true d 57 parts.1 in
        let is : d - 48 ≡ r = by_some (d - 48) r k in
        let small : r < 10 = omega arith in
        let same : d ≡ 48 + r = omega arith in
        (omega arith, ap (λ x. x ∷ []) same ∙ sym (decimal_digit r small))
register_spelled (t ∷ d ∷ []) r h = by_test (t == 49) refl (nat_le 48 d && nat_le d 53) refl h
  where
    by_test : (a : Bool) → (t == 49) ≡ a → (b : Bool) → (nat_le 48 d && nat_le d 53) ≡ b → cond (a && b) (Some (d - 38)) None ≡ Some r → (r < 16)
        × (t ∷ d ∷ [] ≡ decimal r)
    by_test false ea b eb k = absurd cc
    by_test true ea false eb k = absurd cc
    by_test true ea true eb k =
        let parts = and_parts (nat_le 48 d) (nat_le d 53) eb in
        let low = leb-true 48 d parts.0 in
        let high = leb-true d 53 parts.1 in
        let is : d - 38 ≡ r = by_some (d - 38) r k in
        let ten : 10 ≤ r = omega arith in
        let small : r < 16 = omega arith in
        let one : r / 10 ≡ 1 = omega arith in
        let unit : d ≡ 48 + r % 10 = omega arith in
        let text : decimal r ≡ 49 ∷ (48 + r % 10) ∷ [] = decimal_step r ten (omega arith) ∙ ap (λ n. decimal n ++ ((48 + r % 10) ∷ [])) one
        ∙ ap (λ ds. ds ++ ((48 + r % 10) ∷ [])) (decimal_digit 1 (omega arith)) in
        (small, ap (λ x. x ∷ d ∷ []) (eqb-true t 49 ea) ∙ ap (λ x. 49 ∷ x ∷ []) unit ∙ sym text)
register_spelled (t ∷ d ∷ e ∷ more) r h = absurd cc

-- ---- places and operands

record IsPlace (text : List ℕ) (p : PlaceOf) : Type 0 where
  small : p.1 < 16
  is : text ≡ place_text p.0 p.1

closed_found : (byte : ℕ) (text front : List ℕ) → closed byte text ≡ Some front → text ≡ front ++ byte ∷ []
closed_found byte text front h = by_parts (split_once byte text) refl h
  where
    by_end : (p : List ℕ × List ℕ) → split_once byte text ≡ Some p → (t : Bool) → bytes_eq p.1 [] ≡ t → cond t (Some p.0) None ≡ Some front
        → text ≡ front ++ byte ∷ []
    by_end p is false e k = absurd cc
    by_end p is true e k = cc (split_once_found byte text p.0 p.1 is, bytes_same p.1 [] e, by_some p.0 front k)

    by_parts : (o : Option (List ℕ × List ℕ)) → split_once byte text ≡ o → (o >>= λ parts. cond (bytes_eq parts.1 []) (Some parts.0) None) ≡ Some front
        → text ≡ front ++ byte ∷ []
    by_parts None is k = absurd cc
    by_parts (Some p) is k = by_end p is (bytes_eq p.1 []) refl k

direct_spelled : (text : List ℕ) (p : PlaceOf) → direct_in text ≡ Some p → IsPlace (codes "r" ++ text) p
unfolding direct_in
direct_spelled text p h = by_register (register_in text) refl h
  where
    place_at : ℕ → PlaceOf
    place_at r = (Register, r)

    by_register : (o : Option ℕ) → register_in text ≡ o → (o >>= λ r. Some (place_at r)) ≡ Some p → IsPlace (codes "r" ++ text) p
    by_register None is k = absurd cc
    by_register (Some r) is k =
        let same = by_some (place_at r) p k in
        let found = register_spelled text r is in
        subst (IsPlace (codes "r" ++ text)) same (record { small = found.0; is = ap (λ (ds : List ℕ). codes "r" ++ ds) found.1 })

-- ---- places after `(r` and `-(r`

closing_spelled : (text digits : List ℕ) (m : Mode) (r : ℕ) → closing_mode text ≡ Some m → digits ≡ decimal r
    → codes "(r" ++ digits ++ 41 ∷ text ≡ place_text m r
unfolding closing_mode
closing_spelled text digits m r h is = chosen_of _ Indirect m _ h (λ e k. with_digits ∙ ended [] (bytes_same text [] e) ∙ ap (λ (n : Mode). place_text n r) k)
    (λ later.
    let t = tested (bytes_eq text (codes "+")) (Some PostIncrement) m later in
    with_digits ∙ ended (codes "+") (bytes_same text (codes "+") t.0) ∙ ap (λ (n : Mode). place_text n r) (by_some PostIncrement m t.1))
  where
    with_digits : codes "(r" ++ digits ++ 41 ∷ text ≡ codes "(r" ++ decimal r ++ 41 ∷ text
    with_digits = ap (λ (ds : List ℕ). codes "(r" ++ ds ++ 41 ∷ text) is

    ended : (end : List ℕ) → text ≡ end → codes "(r" ++ decimal r ++ 41 ∷ text ≡ codes "(r" ++ decimal r ++ 41 ∷ end
    ended end e = ap (λ (t : List ℕ). codes "(r" ++ decimal r ++ 41 ∷ t) e

abbrev some_place : Mode → ℕ → Option PlaceOf
some_place m r = Some (m, r)

indirect_spelled : (text : List ℕ) (p : PlaceOf) → indirect_in text ≡ Some p → IsPlace (codes "(r" ++ text) p
unfolding indirect_in
indirect_spelled text p h =
    let parts = bound _ _ p h in
    let register = bound _ _ p parts.later in
    let mode = bound _ _ p register.later in
    let found = register_spelled _ register.value register.is in
    let same = by_some _ p mode.later in
    let text_is = ap (λ t. codes "(r" ++ t) (split_once_found 41 text _ _ parts.is) ∙ closing_spelled _ _ mode.value register.value mode.is found.1 in
    subst (IsPlace _) same (record { small = found.0; is = text_is })
  where
    place_at : Mode → ℕ → PlaceOf
    place_at m r = (m, r)

decrement_spelled : (text : List ℕ) (p : PlaceOf) → decrement_in text ≡ Some p → IsPlace (codes "-(r" ++ text) p
unfolding decrement_in
decrement_spelled text p h =
    let digits = bound _ _ p h in
    let register = bound _ _ p digits.later in
    let found = register_spelled digits.value register.value register.is in
    let same = by_some _ p register.later in
    let text_is = ap (λ t. codes "-(r" ++ t) (closed_found 41 text digits.value digits.is) ∙ ap (λ ds. codes "-(r" ++ ds ++ 41 ∷ []) found.1 in
    subst (IsPlace _) same (record { small = found.0; is = text_is })
  where
    place_at : ℕ → PlaceOf
    place_at r = (PreDecrement, r)

place_spelled : (text : List ℕ) (p : PlaceOf) → place_in text ≡ Some p → IsPlace text p
unfolding place_in
place_spelled text p h = by_front (after_prefix (codes "r") text) refl (after_prefix (codes "(r") text) refl (after_prefix (codes "-(r") text) refl h
  where
    by_front : (direct : Option (List ℕ)) → after_prefix (codes "r") text ≡ direct → (indirect : Option (List ℕ)) → after_prefix (codes "(r") text ≡ indirect
        → (decrement : Option (List ℕ)) → after_prefix (codes "-(r") text ≡ decrement → place_by direct indirect decrement ≡ Some p → IsPlace text p
    by_front (Some rest) d indirect i decrement m k = subst (λ t. IsPlace t p) (sym (after_prefix_found (codes "r") text rest d)) (direct_spelled rest p k)
    by_front None d (Some rest) i decrement m k = subst (λ t. IsPlace t p) (sym (after_prefix_found (codes "(r") text rest i)) (indirect_spelled rest p k)
    by_front None d None i (Some rest) m k = subst (λ t. IsPlace t p) (sym (after_prefix_found (codes "-(r") text rest m)) (decrement_spelled rest p k)
    by_front None d None i None m k = absurd cc

operand_spelled : (text : List ℕ) (a : Option OperandA) → operand_in text ≡ Some a → SpellsOperand text a
unfolding operand_in immediate_in
operand_spelled text a h = by_hash (after_prefix (codes "#") text) refl h
  where
    by_hash : (o : Option (List ℕ)) → after_prefix (codes "#") text ≡ o → operand_by o text ≡ Some a → SpellsOperand text a
    by_hash (Some digits) is k =
        let t = tested _ _ a k in
        subst (λ s. SpellsOperand s a) (sym (after_prefix_found (codes "#") text digits is))
        (subst (SpellsOperand (codes "#" ++ digits)) (by_some (in_9_bits (numeral_value digits)) a t.1) (immediate digits t.0))
    by_hash None is k =
        let m = mapped as_operand _ a k in
        let p = place_spelled text m.value m.is in
        subst (λ s. SpellsOperand s a) (sym p.is) (subst (SpellsOperand (place_text m.value.0 m.value.1)) m.image (place m.value.0 m.value.1 p.small))

-- ---- what stands before the space

-- what each item passes, the one that was found passes
found_is_of : {A : Type 0} (p q : A → Bool) (xs : List A) (x : A) → list_all q xs ≡ true → find p xs ≡ Some x → q x ≡ true
found_is_of p q [] x all h = absurd cc
found_is_of {A} p q (y ∷ xs) x all h =
    let parts = and_parts (q y) (list_all q xs) all in
    chosen_of (p y) y x (find p xs) h (λ e is. subst (λ (z : A). q z ≡ true) is parts.0) (λ later. found_is_of p q xs x parts.1 later)

operation_spelled : (name : List ℕ) (op : Op) → operation_in name ≡ Some op → name ≡ operation_name op
unfolding operation_in
operation_spelled name op h = sym (bytes_same (operation_name op) name (found_tests (λ op. bytes_eq (operation_name op) name) ops op h))

condition_spelled : (name : List ℕ) (k : Cc) → condition_named name ≡ Some k → 91 ∷ name ++ 93 ∷ [] ≡ condition_text k
unfolding condition_named
condition_spelled name k h =
    let named = bytes_same (condition_name k) name (found_tests (λ k. bytes_eq (condition_name k) name) written_conditions k h) in
    let shown = found_is_of (λ k. bytes_eq (condition_name k) name) (λ k. bytes_eq (condition_text k) (91 ∷ condition_name k ++ 93 ∷ []))
    written_conditions k refl h in
    ap (λ (n : List ℕ). 91 ∷ n ++ 93 ∷ []) (sym named) ∙ sym (bytes_same (condition_text k) (91 ∷ condition_name k ++ 93 ∷ []) shown)

bracket_spelled : (front : List ℕ) (rest : Option (List ℕ)) (k : Cc) → condition_in rest ≡ Some k → whole 91 front rest ≡ front ++ condition_text k
unfolding condition_in whole
bracket_spelled front None k h = sym (append-nil front) ∙ ap (λ (c : Cc). front ++ condition_text c) (by_some cc.Al k h)
bracket_spelled front (Some text) k h =
    let name = bound (closed 93 text) condition_named k h in
    ap (λ (t : List ℕ). front ++ 91 ∷ t) (closed_found 93 text name.value name.is) ∙ ap (λ (t : List ℕ). front ++ t) (condition_spelled name.value k name.later)

letter_spelled : (letter text : List ℕ) → text ≡ shown_if (letter_in letter text).0 letter ++ (letter_in letter text).1
unfolding letter_in
letter_spelled letter text = by_letter (after_prefix letter text) refl
  where
    by_letter : (o : Option (List ℕ)) → after_prefix letter text ≡ o → text ≡ shown_if (letter_or text o).0 letter ++ (letter_or text o).1
    by_letter None is = refl
    by_letter (Some rest) is = after_prefix_found letter text rest is

braced_text : (c v n z : Bool) → (c || v || n || z) ≡ true
    → 123 ∷ shown_if c (codes "c") ++ (shown_if v (codes "v") ++ (shown_if n (codes "n") ++ (shown_if z (codes "z") ++ codes "}")))
    ≡ flags_text (record { c = c; v = v; n = n; z = z })
braced_text false false false false h = absurd cc
braced_text false false false true h = refl
braced_text false false true false h = refl
braced_text false false true true h = refl
braced_text false true false false h = refl
braced_text false true false true h = refl
braced_text false true true false h = refl
braced_text false true true true h = refl
braced_text true false false false h = refl
braced_text true false false true h = refl
braced_text true false true false h = refl
braced_text true false true true h = refl
braced_text true true false false h = refl
braced_text true true false true h = refl
braced_text true true true false h = refl
braced_text true true true true h = refl

letters_spelled : (text : List ℕ) (f : Flags) → flag_letters_in text ≡ Some f → 123 ∷ text ≡ flags_text f
unfolding flag_letters_in
letters_spelled text f h =
    let c = letter_in (codes "c") text in
    let v = letter_in (codes "v") c.1 in
    let n = letter_in (codes "n") v.1 in
    let z = letter_in (codes "z") n.1 in
    let t = tested _ _ f h in
    let parts = and_parts _ _ t.0 in
    ap (λ (s : List ℕ). 123 ∷ s) (letter_spelled (codes "c") text) ∙ ap (λ (s : List ℕ). 123 ∷ shown_if c.0 (codes "c") ++ s) (letter_spelled (codes "v") c.1)
    ∙ ap (λ (s : List ℕ). 123 ∷ shown_if c.0 (codes "c") ++ (shown_if v.0 (codes "v") ++ s)) (letter_spelled (codes "n") v.1)
    ∙ ap (λ (s : List ℕ). 123 ∷ shown_if c.0 (codes "c") ++ (shown_if v.0 (codes "v") ++ (shown_if n.0 (codes "n") ++ s))) (letter_spelled (codes "z") n.1)
    ∙ ap (λ (s : List ℕ). 123 ∷ shown_if c.0 (codes "c") ++ (shown_if v.0 (codes "v") ++ (shown_if n.0 (codes "n") ++ (shown_if z.0 (codes "z") ++ s))))
    (bytes_same z.1 (codes "}") parts.0) ∙ braced_text c.0 v.0 n.0 z.0 parts.1 ∙ ap (λ (g : Flags). flags_text g) (by_some (flags_from c.0 v.0 n.0 z.0) f t.1)
  where
    flags_from : Bool → Bool → Bool → Bool → Flags
    flags_from c v n z = record { c = c; v = v; n = n; z = z }

brace_spelled : (front : List ℕ) (rest : Option (List ℕ)) (f : Flags) → flags_in rest ≡ Some f → whole 123 front rest ≡ front ++ flags_text f
unfolding flags_in whole
brace_spelled front None f h = sym (append-nil front) ∙ ap (λ (g : Flags). front ++ flags_text g) (by_some no_flags f h)
brace_spelled front (Some text) f h = ap (λ (t : List ℕ). front ++ t) (letters_spelled text f h)

named_spelled : (text : List ℕ) (n : Op × Cc) → named_in text ≡ Some n → text ≡ operation_name n.0 ++ condition_text n.1
unfolding named_in
named_spelled text n h =
    let op = bound _ _ n h in
    let k = bound _ _ n op.later in
    let same = by_some _ n k.later in
    cut_whole 91 text ∙ bracket_spelled (cut 91 text).0 (cut 91 text).1 k.value k.is
    ∙ ap (λ name. name ++ condition_text k.value) (operation_spelled (cut 91 text).0 op.value op.is) ∙ ap (λ m. operation_name m.0 ++ condition_text m.1) same
  where
    pair : Op → Cc → Op × Cc
    pair op k = (op, k)

abbrev some_head : Op → Cc → Flags → Option Head
some_head op k f = Some (op, k, f)

head_spelled : (text : List ℕ) (head : Head) → head_in text ≡ Some head → text ≡ head_text head.0 head.1 head.2
unfolding head_in head_text
head_spelled text head h =
    let named = bound (named_in (cut 123 text).0) (λ (named : Op × Cc). flags_in (cut 123 text).1 >>= λ f. some_head named.0 named.1 f) head h in
    let flags = bound (flags_in (cut 123 text).1) (λ f. some_head named.value.0 named.value.1 f) head named.later in
    let same = by_some (triple named.value.0 named.value.1 flags.value) head flags.later in
    cut_whole 123 text ∙ brace_spelled (cut 123 text).0 (cut 123 text).1 flags.value flags.is
    ∙ ap (λ (front : List ℕ). front ++ flags_text flags.value) (named_spelled (cut 123 text).0 named.value named.is)
    ∙ ap (λ (g : Head). (operation_name g.0 ++ condition_text g.1) ++ flags_text g.2) same
  where
    triple : Op → Cc → Flags → Head
    triple op k f = (op, k, f)

-- ---- instructions

word_from : Head → PlaceOf → Option OperandA → Option ℕ
word_from head b a = option_map (λ a. encode_of (instruction_of head b a)) a

both_operands : (operands front operand : List ℕ) (m : Mode) (r : ℕ) → operands ≡ front ++ 44 ∷ operand → front ≡ place_text m r
    → operands ≡ operands_text m r operand
unfolding operands_text
both_operands operands front operand m r is begins = is ∙ ap (λ (t : List ℕ). t ++ 44 ∷ operand) begins

joined : (before operands : List ℕ) (op : Op) (k : Cc) (f : Flags) (m : Mode) (r : ℕ) (operand : List ℕ) → before ≡ head_text op k f
    → operands ≡ operands_text m r operand
    → before ++ 32 ∷ operands ≡ operation_name op ++ condition_text k ++ flags_text f ++ codes " " ++ place_text m r ++ codes "," ++ operand
joined before operands op k f m r operand head rest = cc (head, rest, regrouped op k f m r operand)

pub instruction_spelled : (before operands : List ℕ) (w : Option ℕ) → instruction_in before operands ≡ Some w → SpellsInstruction (before ++ 32 ∷ operands) w
unfolding instruction_in word_from
instruction_spelled before operands w h =
    let parts = bound _ _ w h in
    let head = bound _ _ w parts.later in
    let b = bound _ _ w head.later in
    let a = bound _ _ w b.later in
    let place_b = place_spelled _ b.value b.is in
    let operands_are = both_operands operands _ _ b.value.0 b.value.1 (split_once_found 44 operands parts.value.0 parts.value.1 parts.is) place_b.is in
    record {
      op = head.value.0;
      condition = head.value.1;
      set = head.value.2;
      mode = b.value.0;
      reg = b.value.1;
      operand = parts.value.1;
      a = a.value;
      register = place_b.small;
      operand_is = operand_spelled _ a.value a.is;
      text_is = joined before operands _ _ _ b.value.0 b.value.1 _ (head_spelled before head.value head.is) operands_are;
      word_is = sym {a = word_from head.value b.value a.value} (by_some (word_from head.value b.value a.value) w a.later);
    }
