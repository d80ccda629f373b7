-- What a text's length and its tokens say of its program.
use Rattle.std.proofs.Common.{◌≡◌, ℕ, suc, ◌+◌, ◌^◌, ◌≤◌, max, List, [], ◌∷◌, ◌++◌, map, length, find, true, false, cond, Option, Some, None, is_none, bytes_eq}
use Rattle.std.{proofs.Common.{refl, sym, ap, ap₂, ◌∙◌, arith}, specs.Prelude.{◌&&◌, ◌==◌, nat_le}, specs.Char.{is_ascii_alphabetic, is_ascii_digit}}
use Rattle.std.{specs.Char.{is_ascii_lowercase, is_ascii_uppercase}, specs.List.list_all, proofs.lemmas.List.length-append}
use Rattle.std.{proofs.lemmas.Slice.Eq.bytes_eq-Decides, proofs.lemmas.Bool.and_parts}
use Rattle.std.specs.Prelude as std
use Rattle.stack_text.{specs.Names.begins_with_letter, proofs.SharedLaws.rule_fails, proofs.NumberedNameLaws.letter_passes}
use Rattle.mini_syntax.specs.Breaches.{breaches, body_of, decls_breaches, declared_by, declared_of, variable_named, expression_breaches, expression_exp}
use Rattle.mini_syntax.{specs.Breaches.{form_breaches, block_breaches, forms_breaches, form_stmt, block_stmt, forms_stmt}, specs.Internal.Declaring.are_proper}
use Rattle.mini_syntax.{specs.Internal.Declaring.is_proper, specs.declared.mark.Mark.Mark, specs.declared.word.Word.Word}
use Rattle.mini_syntax.{specs.declared.program.Declared.Declared, specs.declared.sort.Sort.Sort, specs.declared.sort.Sort.TheVariants.{Int, Bool}}
use Rattle.mini_syntax.{specs.declared.operator.Prefix.Prefix, specs.declared.operator.Prefix.TheVariants.{Not, Minus}, specs.declared.operator.Infix.Infix}
use Rattle.mini_syntax.{specs.declared.operator.Infix.TheVariants.Or, specs.Grammar.{Expression, variable, number, truth, unary, binary, group}}
use Rattle.mini_syntax.specs.Grammar.{expression_tokens, prefix_token, Form, assign, loop, branch, Block, block, Forms, no_forms, form, Decl, InfixProgram}
use Rattle.mini_syntax.{specs.Grammar.{IsProgram, form_tokens, block_tokens, forms_tokens, decls_tokens}, specs.Language.{Exp, Stmt}, specs.Lawful.IsLawful}
use Rattle.mini_syntax.{specs.Lawful.{part_count, size_of}, specs.Internal.Limits.{FormsAreSmall, forms_blocks}, specs.Names.{is_variable_name, is_word_byte}}
use Rattle.mini_syntax.{specs.Names.{spelling, word_named, words}, specs.Precedence.infix_token, specs.Spelled.{bytes_of_all, declared_bytes, exp_bytes}}
use Rattle.mini_syntax.{specs.Spelled.{program_bytes, stmt_bytes, token_bytes}, specs.Tokens.{Token, number_at, word_at, mark_at, Mode, after_fresh, begins}}
use Rattle.mini_syntax.specs.Tokens.{fresh, is_blank, is_pair, mark_of, mark_token, named_kind, next, longest_run, token_of, tokens, tokens_in, word_token}
use Rattle.mini_syntax.{proofs.EmptyLaws.{two, three}, proofs.LawfulLaws.{name_there, rules_make_lawful}}
use Rattle.mini_syntax.specs.declared.lexer.TokenKind.TheVariants as kind
use Rattle.mini_syntax.specs.declared.mark.Mark.TheVariants as mark
use Rattle.mini_syntax.specs.declared.word.Word.TheVariants as word
use Rattle.mini_syntax.specs.Language as language
use Rattle.mini_syntax.specs.Tokens as mode

-- ---- the bytes of the tokens are those of the text, or fewer

-- bytes that were counted at the token's beginning
abbrev covered : Mode → List ℕ → ℕ
covered mode.between text = 0
covered mode.in_word text = length (longest_run is_word_byte text)
covered mode.in_number text = length (longest_run is_ascii_digit text)
covered mode.in_pair [] = 0
covered mode.in_pair (b ∷ text) = 1

run_more : (test : ℕ → std.Bool) (b : ℕ) (text : List ℕ) → length (longest_run test (b ∷ text)) ≤ suc (length (longest_run test text))
run_more test b text = pick (test b)
  where
    pick : (c : std.Bool) → length (cond c (b ∷ longest_run test text) []) ≤ suc (length (longest_run test text))
    pick true = omega arith
    pick false = omega arith

found_passes : (test : Word → std.Bool) (ws : List Word) (w : Word) → find test ws ≡ Some w → test w ≡ true
found_passes test [] w e = cc
found_passes test (v ∷ ws) w e = pick (test v) refl e (λ rest. found_passes test ws w rest)
  where
    pick : (b : std.Bool) → test v ≡ b → cond b (Some v) (find test ws) ≡ Some w → (find test ws ≡ Some w → test w ≡ true) → test w ≡ true
    pick true p q later = let same : v ≡ w = cc in ap test (sym same) ∙ p
    pick false p q later = later q

-- a word is as long as its bytes
spelling_length : (bytes : List ℕ) (w : Word) → word_named bytes ≡ Some w → length (spelling w) ≡ length bytes
spelling_length bytes w e = ap length (sym ((bytes_eq-Decides bytes (spelling w)).0 (found_passes (λ v. bytes_eq bytes (spelling v)) words w e)))

word_bytes : (at : ℕ) (bytes : List ℕ) → token_bytes (word_token at bytes) ≤ max 1 (length bytes)
word_bytes at bytes = pick (nat_le (length bytes) 60) (word_named bytes) refl
  where
    pick : (c : std.Bool) (o : Option Word) → word_named bytes ≡ o → token_bytes (token_of (cond c (named_kind o) kind.Wrong) at bytes) ≤ max 1 (length bytes)
    pick true None e = omega arith
    pick true (Some w) e = let same = spelling_length bytes w e in omega (arith, same)
    pick false o e = omega arith

pub no_pair : (byte : ℕ) → is_pair (mark_of byte []) ≡ false
no_pair byte = pick _ _ _ (byte == 61) (byte == 43) _ _ _ _ _ _
  where
    pick : (a b c d e f g h i j k : std.Bool) → is_pair
        (cond a (Some mark.Semicolon) (cond b None (cond c None (cond d (Some mark.Equals) (cond e (Some mark.Plus) (cond f (Some mark.Minus)
        (cond g (Some mark.Times) (cond h (Some mark.Open)
        (cond i (Some mark.Close) (cond j (Some mark.OpenBlock) (cond k (Some mark.CloseBlock) None))))))))))) ≡ false
    pick true b c d e f g h i j k = refl
    pick false true c d e f g h i j k = refl
    pick false false true d e f g h i j k = refl
    pick false false false true e f g h i j k = refl
    pick false false false false true f g h i j k = refl
    pick false false false false false true g h i j k = refl
    pick false false false false false false true h i j k = refl
    pick false false false false false false false true i j k = refl
    pick false false false false false false false false true j k = refl
    pick false false false false false false false false false true k = refl
    pick false false false false false false false false false false true = refl
    pick false false false false false false false false false false false = refl

pair_more : (byte : ℕ) (rest : List ℕ) → is_pair (mark_of byte rest) ≡ true → 1 ≤ covered mode.in_pair rest
pair_more byte [] e = let n = no_pair byte in cc
pair_more byte (b ∷ rest) e = omega arith

-- so many bytes are left for each way to go on
record Enough (at : ℕ) (rest : List ℕ) : Type 0 where
  enough : (m : Mode) → bytes_of_all (tokens m at rest) + covered m rest ≤ length rest

fresh_fits : (at byte : ℕ) (rest : List ℕ) → Enough (at + 1) rest → bytes_of_all (fresh at byte rest ++ tokens (after_fresh byte rest) (at + 1) rest)
    ≤ suc (length rest)
fresh_fits at byte rest later = pick (is_blank byte) (is_ascii_alphabetic byte) (is_ascii_digit byte) (mark_of byte rest) (pair_more byte rest)
  where
    by_mark : (m : Mark) → (is_pair (Some m) ≡ true → 1 ≤ covered mode.in_pair rest) →
        bytes_of_all (mark_at at m ∷ tokens (cond (is_pair (Some m)) mode.in_pair mode.between) (at + 1) rest) ≤ suc (length rest)
    by_mark m more = by_pair (is_pair (Some m)) more
      where
        by_pair : (c : std.Bool) → (c ≡ true → 1 ≤ covered mode.in_pair rest) → cond c 2 1
            + bytes_of_all (tokens (cond c mode.in_pair mode.between) (at + 1) rest) ≤ suc (length rest)
        by_pair true more = let e = later.enough mode.in_pair in let one = more refl in omega (arith, e, one)
        by_pair false more = let e = later.enough mode.between in omega (arith, e)

    pick : (blank letter digit : std.Bool) (mk : Option Mark) → (is_pair mk ≡ true → 1 ≤ covered mode.in_pair rest) →
        bytes_of_all (cond blank [] (cond letter (word_token at (longest_run is_word_byte (byte ∷ rest)) ∷ [])
        (cond digit (number_at at (longest_run is_ascii_digit (byte ∷ rest)) ∷ []) (mark_token at mk ∷ []))) ++
        tokens (cond letter mode.in_word (cond digit mode.in_number (cond (is_pair mk) mode.in_pair mode.between))) (at + 1) rest) ≤ suc (length rest)
    pick true letter digit mk more = omega arith
    pick false true digit mk more =
        let e = later.enough mode.in_word in
        omega (arith, word_bytes, run_more)
    pick false false true mk more = let e = later.enough mode.in_number in omega (arith, e, run_more is_ascii_digit byte rest)
    pick false false false None more = let e = later.enough mode.between in omega (arith, e)
    pick false false false (Some m) more = by_mark m more

all_fit : (text : List ℕ) (at : ℕ) → Enough at text
unfolding tokens
all_fit [] at = record { enough = none }
  where
    none : (m : Mode) → bytes_of_all (tokens m at []) + covered m [] ≤ 0
    none mode.between = omega arith
    none mode.in_word = omega arith
    none mode.in_number = omega arith
    none mode.in_pair = omega arith
all_fit (b ∷ text) at = record { enough = some (all_fit text (at + 1)) }
  where
    some : Enough (at + 1) text → (m : Mode) → bytes_of_all (tokens m at (b ∷ text)) + covered m (b ∷ text) ≤ suc (length text)
    some later mode.between = let e = fresh_fits at b text later in omega (arith, e)
    some later mode.in_word = pick (is_word_byte b)
      where
        pick : (c : std.Bool) → bytes_of_all (cond c [] (fresh at b text) ++ tokens (cond c mode.in_word (after_fresh b text)) (at + 1) text)
            + length (cond c (b ∷ longest_run is_word_byte text) []) ≤ suc (length text)
        pick true = let e = later.enough mode.in_word in omega (arith, e)
        pick false = let e = fresh_fits at b text later in omega (arith, e)
    some later mode.in_number = pick (is_ascii_digit b)
      where
        pick : (c : std.Bool) → bytes_of_all (cond c [] (fresh at b text) ++ tokens (cond c mode.in_number (after_fresh b text)) (at + 1) text)
            + length (cond c (b ∷ longest_run is_ascii_digit text) []) ≤ suc (length text)
        pick true = let e = later.enough mode.in_number in omega (arith, e)
        pick false = let e = fresh_fits at b text later in omega (arith, e)
    some later mode.in_pair = let e = later.enough mode.between in omega (arith, e)

pub tokens_fit : (text : List ℕ) → bytes_of_all (tokens_in text) ≤ length text
tokens_fit text = let e = (all_fit text 0).enough mode.between in omega (arith, e)

-- ---- there are no more tokens than bytes

fresh_few : (at byte : ℕ) (rest : List ℕ) → length (fresh at byte rest) ≤ 1
fresh_few at byte rest = pick (is_blank byte) (is_ascii_alphabetic byte) (is_ascii_digit byte)
  where
    pick : (blank letter digit : std.Bool) → length (cond blank [] (cond letter (word_token at (longest_run is_word_byte (byte ∷ rest)) ∷ [])
        (cond digit (number_at at (longest_run is_ascii_digit (byte ∷ rest)) ∷ []) (mark_token at (mark_of byte rest) ∷ [])))) ≤ 1
    pick true letter digit = omega arith
    pick false true digit = omega arith
    pick false false true = omega arith
    pick false false false = omega arith

begins_few : (m : Mode) (at byte : ℕ) (rest : List ℕ) → length (begins m at byte rest) ≤ 1
begins_few mode.between at byte rest = fresh_few at byte rest
begins_few mode.in_word at byte rest = pick (is_word_byte byte)
  where
    pick : (c : std.Bool) → length (cond c [] (fresh at byte rest)) ≤ 1
    pick true = omega arith
    pick false = fresh_few at byte rest
begins_few mode.in_number at byte rest = pick (is_ascii_digit byte)
  where
    pick : (c : std.Bool) → length (cond c [] (fresh at byte rest)) ≤ 1
    pick true = omega arith
    pick false = fresh_few at byte rest
begins_few mode.in_pair at byte rest = omega arith

few_tokens : (text : List ℕ) (m : Mode) (at : ℕ) → length (tokens m at text) ≤ length text
unfolding tokens
few_tokens [] m at = omega arith
few_tokens (b ∷ text) m at =
    let rest = few_tokens text (next m b text) (at + 1) in
    omega (arith, rest, begins_few m at b text, length-append (begins m at b text) (tokens (next m b text) (at + 1) text))

pub tokens_few : (text : List ℕ) → length (tokens_in text) ≤ length text
tokens_few text = few_tokens text mode.between 0

-- ---- the names of a text are names

run_all : (text : List ℕ) → list_all is_word_byte (longest_run is_word_byte text) ≡ true
run_all [] = refl
run_all (b ∷ text) = pick (is_word_byte b) refl (run_all text)
  where
    pick : (c : std.Bool) → is_word_byte b ≡ c → list_all is_word_byte (longest_run is_word_byte text) ≡ true
        → list_all is_word_byte (cond c (b ∷ longest_run is_word_byte text) []) ≡ true
    pick true e all = ap₂ (λ (x y : std.Bool). x && y) e all
    pick false e all = refl

word_good : (at byte : ℕ) (rest : List ℕ) → is_ascii_alphabetic byte ≡ true → is_proper (word_token at (longest_run is_word_byte (byte ∷ rest))) ≡ true
word_good at byte rest letter = pick _ refl _ refl
  where
    first : is_word_byte byte ≡ true
    first = letter_passes (is_ascii_digit byte) (is_ascii_uppercase byte) (is_ascii_lowercase byte) (byte == 95) letter

    begun : begins_with_letter (longest_run is_word_byte (byte ∷ rest)) ≡ true
    begun = ap (λ (c : std.Bool). begins_with_letter (cond c (byte ∷ longest_run is_word_byte rest) [])) first ∙ letter

    pick : (c : std.Bool) → nat_le (length (longest_run is_word_byte (byte ∷ rest))) 60 ≡ c → (o : Option Word)
        → word_named (longest_run is_word_byte (byte ∷ rest)) ≡ o →
        is_proper (token_of (cond c (named_kind o) kind.Wrong) at (longest_run is_word_byte (byte ∷ rest))) ≡ true
    pick true e None f = rw (begun, run_all (byte ∷ rest), e, f) refl
    pick true e (Some w) f = refl
    pick false e o f = refl

mark_good : (at : ℕ) (mk : Option Mark) → is_proper (mark_token at mk) ≡ true
mark_good at None = refl
mark_good at (Some m) = refl

one_good : (t : Token) (more : List Token) → is_proper t ≡ true → are_proper more ≡ true → are_proper (t ∷ more) ≡ true
one_good t more e f = ap₂ (λ (x y : std.Bool). x && y) e f

fresh_good : (at byte : ℕ) (rest : List ℕ) (more : List Token) → are_proper more ≡ true → are_proper (fresh at byte rest ++ more) ≡ true
fresh_good at byte rest more good = pick (is_blank byte) (is_ascii_alphabetic byte) refl (is_ascii_digit byte)
  where
    pick : (blank letter : std.Bool) → is_ascii_alphabetic byte ≡ letter → (digit : std.Bool) →
        are_proper (cond blank [] (cond letter (word_token at (longest_run is_word_byte (byte ∷ rest)) ∷ [])
        (cond digit (number_at at (longest_run is_ascii_digit (byte ∷ rest)) ∷ []) (mark_token at (mark_of byte rest) ∷ []))) ++ more) ≡ true
    pick true letter e digit = good
    pick false true e digit = one_good (word_token at (longest_run is_word_byte (byte ∷ rest))) more (word_good at byte rest e) good
    pick false false e true = good
    pick false false e false = one_good (mark_token at (mark_of byte rest)) more (mark_good at (mark_of byte rest)) good

pub all_good : (text : List ℕ) (m : Mode) (at : ℕ) → are_proper (tokens m at text) ≡ true
unfolding tokens
all_good [] m at = refl
all_good (b ∷ text) mode.between at = fresh_good at b text (tokens (after_fresh b text) (at + 1) text) (all_good text (after_fresh b text) (at + 1))
all_good (b ∷ text) mode.in_word at = pick (is_word_byte b) (λ m. all_good text m (at + 1))
  where
    pick : (c : std.Bool) → ((m : Mode) → are_proper (tokens m (at + 1) text) ≡ true)
        → are_proper (cond c [] (fresh at b text) ++ tokens (cond c mode.in_word (after_fresh b text)) (at + 1) text) ≡ true
    pick true later = later mode.in_word
    pick false later = fresh_good at b text (tokens (after_fresh b text) (at + 1) text) (later (after_fresh b text))
all_good (b ∷ text) mode.in_number at = pick (is_ascii_digit b) (λ m. all_good text m (at + 1))
  where
    pick : (c : std.Bool) → ((m : Mode) → are_proper (tokens m (at + 1) text) ≡ true)
        → are_proper (cond c [] (fresh at b text) ++ tokens (cond c mode.in_number (after_fresh b text)) (at + 1) text) ≡ true
    pick true later = later mode.in_number
    pick false later = fresh_good at b text (tokens (after_fresh b text) (at + 1) text) (later (after_fresh b text))
all_good (b ∷ text) mode.in_pair at = all_good text mode.between (at + 1)

decls_good : (ds : List Decl) (more : List Token) → are_proper (decls_tokens ds ++ more) ≡ true → list_all (λ (d : Decl). is_variable_name d.name) ds ≡ true
decls_good [] more good = refl
decls_good (d ∷ ds) more good =
    let k = and_parts (is_variable_name d.name) (are_proper (decls_tokens ds ++ more)) good in
    ap₂ (λ (x y : std.Bool). x && y) k.0 (decls_good ds more k.1)

pub names_are_names : (text : List ℕ) (p : InfixProgram) → IsProgram text p → list_all (λ (d : Decl). is_variable_name d.name) p.decls ≡ true
names_are_names text p is = decls_good p.decls (forms_tokens p.forms) (ap are_proper (sym is) ∙ all_good text mode.between 0)

-- ---- the bytes of a program's tokens

bytes_append : (ts us : List Token) → bytes_of_all (ts ++ us) ≡ bytes_of_all ts + bytes_of_all us
bytes_append [] us = omega arith
bytes_append (t ∷ ts) us = let rest = bytes_append ts us in omega (arith, rest)

bytes_middle : (ts us : List Token) (t : Token) → bytes_of_all (ts ++ t ∷ us) ≡ bytes_of_all ts + token_bytes t + bytes_of_all us
bytes_middle ts us t = omega (arith, bytes_append ts (t ∷ us))

-- what an expression has at least
record Spans (ds : List Declared) (e : Exp) (ts : List Token) : Type 0 where
  bytes : exp_bytes (map (λ (d : Declared). d.name) ds) e ≤ bytes_of_all ts
  size : size_of e ≤ bytes_of_all ts

-- an operator between
spans_infix : (ds : List Declared) (op : Infix) (a b : Exp) (us vs : List Token) (t : Token) → 1 ≤ token_bytes t → Spans ds a us → Spans ds b vs
    → Spans ds (language.Between op a b) (us ++ t ∷ vs)
spans_infix ds op a b us vs t one l r =
    let all = bytes_middle us vs t in
    record { bytes = omega (arith, l.bytes, r.bytes, all, one); size = omega (arith, l.size, r.size, all, one) }

operator_bytes : (place : ℕ) (op : Infix) → 1 ≤ token_bytes (infix_token place op)
operator_bytes place Or = omega arith
operator_bytes place op = omega arith

sign_bytes : (place : ℕ) (op : Prefix) → 1 ≤ token_bytes (prefix_token place op)
sign_bytes place Not = omega arith
sign_bytes place Minus = omega arith

expression_spans : (ds : List Declared) (e : Expression) → expression_breaches ds e ≡ [] → Spans ds (expression_exp ds e) (expression_tokens e)
expression_spans ds (variable place name) h =
    let same = ap length (name_there ds name (rule_fails (is_none (variable_named ds name)) place 6 h)) in
    record { bytes = omega (arith, same); size = omega arith }
expression_spans ds (number place digits) h = record { bytes = omega arith; size = omega arith }
expression_spans ds (truth place true) h = record { bytes = omega arith; size = omega arith }
expression_spans ds (truth place false) h = record { bytes = omega arith; size = omega arith }
expression_spans ds (unary place op e) h =
    let k = two _ _ h in
    let a = expression_spans ds e k.0 in
    let one = sign_bytes place op in
    record { bytes = omega (arith, a.bytes, one); size = omega (arith, a.size, one) }
expression_spans ds (binary a place op b) h =
    let k = three _ _ _ h in
    spans_infix ds op _ _ _ _ _ (operator_bytes place op) (expression_spans ds a k.0) (expression_spans ds b k.1)
expression_spans ds (group place e closing) h =
    let a = expression_spans ds e h in
    let all = bytes_append (expression_tokens e) (mark_at closing mark.Close ∷ []) in
    record { bytes = omega (arith, a.bytes, all); size = omega (arith, a.size, all) }

-- what statements have at least
record Covers (ds : List Declared) (s : Stmt) (ts : List Token) : Type 0 where
  bytes : stmt_bytes (map (λ (d : Declared). d.name) ds) s ≤ bytes_of_all ts
  count : part_count s ≤ bytes_of_all ts

-- the same of a block with its two braces
record BlockCovers (ds : List Declared) (b : Block) : Type 0 where
  bytes : stmt_bytes (map (λ (d : Declared). d.name) ds) (block_stmt ds b) + 2 ≤ bytes_of_all (block_tokens b)
  count : part_count (block_stmt ds b) + 2 ≤ bytes_of_all (block_tokens b)

mutual
  form_covers : (ds : List Declared) (f : Form) → form_breaches ds f ≡ [] → Covers ds (form_stmt ds f) (form_tokens f)
  form_covers ds (assign place name becomes e closing) h =
      let k = three _ _ _ h in
      let same = ap length (name_there ds name (rule_fails _ place 6 k.0)) in
      let a = expression_spans ds e k.1 in
      let all = bytes_append (expression_tokens e) (mark_at closing mark.Semicolon ∷ []) in
      record { bytes = omega (arith, a.bytes, all, same); count = omega (arith, a.size, all) }
  form_covers ds (loop place e b) h =
      let k = three _ _ (block_breaches ds b) h in
      let a = expression_spans ds e k.0 in
      let c = block_covers ds b k.2 in
      let all = bytes_append (expression_tokens e) (block_tokens b) in
      record { bytes = omega arith; count = omega arith }
  form_covers ds (branch place e b otherwise d) h =
      let k = three _ _ _ h in
      let l = two (block_breaches ds b) (block_breaches ds d) k.2 in
      let a = expression_spans ds e k.0 in
      let c = block_covers ds b l.0 in
      let g = block_covers ds d l.1 in
      let all = bytes_append (expression_tokens e) (block_tokens b ++ word_at otherwise word.Else ∷ block_tokens d) in
      let rest = bytes_middle (block_tokens b) (block_tokens d) (word_at otherwise word.Else) in
      record { bytes = omega (arith, a.bytes, c.bytes, g.bytes, all, rest); count = omega (arith, a.size, c.count, g.count, all, rest) }

  -- with two braces
  block_covers : (ds : List Declared) (b : Block) → block_breaches ds b ≡ [] → BlockCovers ds b
  block_covers ds (block place fs closing) h =
      let a = forms_cover ds fs h in
      let all = bytes_append (forms_tokens fs) (mark_at closing mark.CloseBlock ∷ []) in
      record { bytes = omega (arith, a.bytes, all); count = omega (arith, a.count, all) }

  forms_cover : (ds : List Declared) (fs : Forms) → forms_breaches ds fs ≡ [] → Covers ds (forms_stmt ds fs) (forms_tokens fs)
  forms_cover ds no_forms h = record { bytes = omega arith; count = omega arith }
  forms_cover ds (form f rest) h =
      let k = two (form_breaches ds f) (forms_breaches ds rest) h in
      let a = form_covers ds f k.0 in
      let b = forms_cover ds rest k.1 in
      let all = bytes_append (form_tokens f) (forms_tokens rest) in
      record { bytes = omega (arith, a.bytes, b.bytes, all); count = omega (arith, a.count, b.count, all) }

decls_cover : (ds : List Decl) → declared_bytes (map declared_by ds) ≤ bytes_of_all (decls_tokens ds)
decls_cover [] = omega arith
decls_cover (d ∷ ds) = by_sort d.sort (decls_cover ds)
  where
    by_sort : (s : Sort) → declared_bytes (map declared_by ds) ≤ bytes_of_all (decls_tokens ds) →
        length d.name + 4 + declared_bytes (map declared_by ds) ≤ token_bytes (word_at d.start (word.Sort s))
        + (max 1 (length d.name) + (1 + bytes_of_all (decls_tokens ds)))
    by_sort Int rest = omega (arith, rest)
    by_sort Bool rest = omega (arith, rest)

-- a program of a text that breaks no rule is lawful, and no longer than the text
pub record IsShort (text : List ℕ) (p : InfixProgram) : Type 0 where
  pub lawful : IsLawful (declared_of p) (body_of p)
  pub short : program_bytes (declared_of p) (body_of p) ≤ length text

pub text_is_lawful : (text : List ℕ) (p : InfixProgram) → IsProgram text p → length text ≤ 2 ^ 20 → FormsAreSmall p.forms → forms_blocks p.forms ≤ 40
    → breaches p ≡ [] → IsShort text p
text_is_lawful text p is few small blocks clean =
    let k = two (decls_breaches [] p.decls) (forms_breaches (declared_of p) p.forms) clean in
    let fit = tokens_fit text in
    let same = ap bytes_of_all is in
    let both = bytes_append (decls_tokens p.decls) (forms_tokens p.forms) in
    let body = forms_cover (declared_of p) p.forms k.1 in
    let decls = decls_cover p.decls in
    record {
      lawful = rules_make_lawful p record { names = names_are_names text p is; expressions = small; blocks = blocks } clean (omega arith);
      short = omega (arith, body.bytes, decls, both, same, fit);
    }
