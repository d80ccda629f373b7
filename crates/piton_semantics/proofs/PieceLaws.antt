-- What the pieces are once all addresses are known.
use Rattle.std.{proofs.Common.{◌≡◌, ℕ, zero, suc, ◌+◌, List, [], ◌∷◌, ◌++◌, length, map, refl, ap, ◌∙◌, arith}, specs.Prelude.replicate}
use Rattle.fm_code.{specs.InstructionWords.{reg, at, push, pop, literal, mov, add}, specs.Templates.{jump_case_code, temporaries_code, prelude_code}}
use Rattle.piton_words.{specs.declared.word.Word.Word, specs.declared.word.Word.TheVariants.{Int, Nat, Bitv, Bool as Truth, Addr, Pc, Subr}}
use Rattle.piton_check.{specs.declared.piece.Piece.Piece, specs.declared.piece.Piece.TheVariants.{Code, Place}, specs.Instruction.ProgramView}
use Rattle.piton_semantics.{specs.Addresses.{Addresses, word_number, numbers}, specs.Templates.{word_piece, code_pieces, jump_case_pieces, literal_pieces}}
use Rattle.piton_semantics.specs.Templates.{temporary_pieces, prelude_pieces, word_of, words_of}

pub word_is : (A : Addresses) (a : ℕ) (w : Word) → word_of A a (word_piece w) ≡ word_number A w
word_is A a (Int number) = refl
word_is A a (Nat number) = refl
word_is A a (Bitv bits) = refl
word_is A a (Truth truth) = refl
word_is A a (Addr area offset) = refl
word_is A a (Pc program place) = refl
word_is A a (Subr program) = refl

places_are : (A : Addresses) (a program : ℕ) (places : List ℕ) → words_of A a (map (λ to. Place program to) places) ≡ map (A.place_at program) places
places_are A a program [] = refl
places_are A a program (to ∷ places) = ap (λ ws. A.place_at program to ∷ ws) (places_are A (a + 1) program places)

pub codes_are : (A : Addresses) (a : ℕ) (words : List ℕ) → words_of A a (code_pieces words) ≡ words
codes_are A a [] = refl
codes_are A a (w ∷ words) = ap (λ ws. w ∷ ws) (codes_are A (a + 1) words)

-- the words of pieces that follow others
words_append : (A : Addresses) (a b : ℕ) (ps qs : List Piece) → b ≡ a + length ps → words_of A a (ps ++ qs) ≡ words_of A a ps ++ words_of A b qs
words_append A a b [] qs e = ap (λ c. words_of A c qs) (omega arith)
words_append A a b (p ∷ ps) qs e = ap (λ ws. word_of A a p ∷ ws) (words_append A (a + 1) b ps qs (omega arith))

temporaries_are : (A : Addresses) (a : ℕ) (ws : List Word) → words_of A a (temporary_pieces ws) ≡ temporaries_code (numbers A ws)
temporaries_are A a [] = refl
temporaries_are A a (w ∷ ws) =
    let b = a + length (temporary_pieces ws) in
    let first = temporaries_are A a ws in
    let last = word_is A (b + 1) w in
    words_append A a b (temporary_pieces ws) (literal_pieces (mov (push 1) literal) (word_piece w)) refl
    ∙ (λ t. first t ++ mov (push 1) literal ∷ last t ∷ [])

formals_are : (A : Addresses) (a n word : ℕ) → words_of A a (replicate n (Code word)) ≡ replicate n word
formals_are A a zero word = refl
formals_are A a (suc n) word = ap (λ ws. word ∷ ws) (formals_are A (a + 1) n word)

-- the words of a jump by cases
pub jump_case_is : (A : Addresses) (a program : ℕ) (places : List ℕ) → words_of A a (jump_case_pieces ++ map (λ to. Place program to) places)
    ≡ jump_case_code a (map (A.place_at program) places)
jump_case_is A a program places =
    let e : a + 1 + 1 + 2 ≡ a + 4 = omega arith in
    let targets = places_are A (a + 1 + 1 + 1 + 1) program places in
    λ t. mov (reg 3) (pop 2) ∷ add (reg 3) literal ∷ e t ∷ mov (reg 15) (at 3) ∷ targets t

pub prelude_is : (A : Addresses) (a : ℕ) (p : ProgramView) → words_of A a (prelude_pieces p) ≡ prelude_code p.formals (numbers A p.temporaries)
prelude_is A a p =
    let first = temporary_pieces p.temporaries in
    let formals = replicate p.formals (Code (mov (push 1) (pop 2))) in
    let last = Code (mov (reg 0) (reg 1)) ∷ [] in
    let b = a + 1 + length first in
    let c = b + length formals in
    let after = words_append A (a + 1) b first (formals ++ last) refl ∙ ap (λ ws. words_of A (a + 1) first ++ ws) (words_append A b c formals last refl) in
    let one = temporaries_are A (a + 1) p.temporaries in
    let two = formals_are A b p.formals (mov (push 1) (pop 2)) in
    ap (λ ws. mov (push 1) (reg 0) ∷ ws) (after ∙ (λ t. one t ++ (two t ++ mov (reg 0) (reg 1) ∷ [])))
