-- A comment up to the first line end.
use Rattle.std.proofs.Common.{◌≡◌, ◌≢◌, ℕ, suc, zero, ◌+◌, ◌<◌, ◌≤◌, Bool, true, false, cond, eqb, leb, ◌||◌, ◌&&◌, List, length, get_or, drop, take, ◌-◌, refl}
use Rattle.std.{proofs.Common.{sym, ap, ◌∙◌, arith}, proofs.lemmas.List.{take_all, length-drop, get_or-drop}, proofs.lemmas.Bool.false_from_ne_true}
use Rattle.stack_text.{specs.declared.class.Class.TheVariants.{LineEnd, Space, Semicolon, Opening, Closing, AtomByte, Invalid}, specs.Tokens.{class_of, tokens}}
use Rattle.stack_text.{specs.Tokens.{between, in_comment}, proofs.TokenLaws.{comment_goes_on, comment_ends, tokens_past}}

others : (a b c d e : Bool) → cond a Space (cond b Semicolon (cond c Opening (cond d Closing (cond e AtomByte Invalid)))) ≢ LineEnd
others true b c d e h = cc
others false true c d e h = cc
others false false true d e h = cc
others false false false true e h = cc
others false false false false true h = cc
others false false false false false h = cc

class_not : (b : ℕ) → eqb b 10 ≡ false → class_of b ≢ LineEnd
class_not b e = rw e (others (eqb b 32 || eqb b 9 || eqb b 13) (eqb b 59) (eqb b 40) (eqb b 41) (leb 33 b && leb b 126))

class_is : (b : ℕ) → eqb b 10 ≡ true → LineEnd ≡ class_of b
class_is b e = rw e refl

-- n bytes of a comment, none of them LF
pub passes : (n : ℕ) (text : List ℕ) (at : ℕ) → at + n ≤ length text → ((k : ℕ) → k < n → eqb (get_or text (at + k) 0) 10 ≡ false)
    → tokens in_comment at (drop at text) ≡ tokens in_comment (at + n) (drop (at + n) text)
passes zero text at le h = ap (λ (i : ℕ). tokens in_comment i (drop i text)) (omega arith)
passes (suc n) text at le h =
    let first : eqb (get_or text at 0) 10 ≡ false = ap (λ (i : ℕ). eqb (get_or text i 0) 10) (omega arith) ∙ h 0 (omega arith) in
    comment_goes_on text at (class_of (get_or text at 0)) (omega arith) refl (class_not (get_or text at 0) first)
    ∙ passes n text (at + 1) (omega arith) (λ k lt. ap (λ (i : ℕ). eqb (get_or text i 0) 10) (omega arith) ∙ h (k + 1) (omega arith))
    ∙ ap (λ (i : ℕ). tokens in_comment i (drop i text)) (omega arith)

pub found : (text : List ℕ) (at n : ℕ) → at + n < length text → ((k : ℕ) → k < n → eqb (get_or text (at + k) 0) 10 ≡ false)
    → eqb (get_or text (at + n) 0) 10 ≡ true →
    tokens in_comment at (drop at text) ≡ tokens between (at + n + 1) (drop (at + n + 1) text)
found text at n lt h e = passes n text at (omega arith) h ∙ comment_ends text (at + n) lt (class_is (get_or text (at + n) 0) e)

pub nowhere : (text : List ℕ) (at n : ℕ) → at + n ≡ length text → ((k : ℕ) → k < n → eqb (get_or text (at + k) 0) 10 ≡ false)
    → tokens in_comment at (drop at text) ≡ tokens between (length text) (drop (length text) text)
nowhere text at n is h =
    passes n text at (omega arith) h ∙ tokens_past in_comment text (at + n) (omega arith) ∙ sym (tokens_past between text (length text) (omega arith))

rest_is : (text : List ℕ) (from : ℕ) → take (length text - from) (drop from text) ≡ drop from text
rest_is text from = take_all (length text - from) (drop from text) (omega (arith, length-drop from text))

-- the same as the search says it, of the rest of the text
pub found_in : (text : List ℕ) (from n : ℕ) → n < length (take (length text - from) (drop from text))
    → ((k : ℕ) → k < n → eqb (get_or (take (length text - from) (drop from text)) k 0) 10 ≡ true → ⊥) →
    eqb (get_or (take (length text - from) (drop from text)) n 0) 10 ≡ true → tokens in_comment from (drop from text)
    ≡ tokens between (from + n + 1) (drop (from + n + 1) text)
found_in text from n lt h e =
    let at : (k : ℕ) → get_or (take (length text - from) (drop from text)) k 0 ≡ get_or text (from + k) 0 =
    λ k. ap (λ (xs : List ℕ). get_or xs k 0) (rest_is text from) ∙ get_or-drop from text k 0 in
    found text from n (omega (arith, lt, ap length (rest_is text from), length-drop from text))
    (λ k l. false_from_ne_true _ (λ t. h k l (ap (λ (b : ℕ). eqb b 10) (at k) ∙ t)))
    (ap (λ (b : ℕ). eqb b 10) (sym (at n)) ∙ e)

pub nowhere_in : (text : List ℕ) (from : ℕ) → from ≤ length text
    → ((k : ℕ) → 0 ≤ k → k < length (take (length text - from) (drop from text))
    → eqb (get_or (take (length text - from) (drop from text)) k 0) 10 ≡ true → ⊥) →
    tokens in_comment from (drop from text) ≡ tokens between (length text) (drop (length text) text)
nowhere_in text from le h =
    let at : (k : ℕ) → get_or (take (length text - from) (drop from text)) k 0 ≡ get_or text (from + k) 0 =
    λ k. ap (λ (xs : List ℕ). get_or xs k 0) (rest_is text from) ∙ get_or-drop from text k 0 in
    nowhere text from (length text - from) (omega arith)
    (λ k l. false_from_ne_true _ (λ t. h k (omega arith) (omega (arith, ap length (rest_is text from), length-drop from text))
    (ap (λ (b : ℕ). eqb b 10) (at k) ∙ t)))
