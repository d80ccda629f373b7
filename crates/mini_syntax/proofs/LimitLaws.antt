-- A program of whose tokens none breaks rule 3 or 4 is within the limits.
use Rattle.std.proofs.Common.{◌≡◌, ℕ, suc, ◌+◌, ◌<◌, ◌≤◌, max, List, [], ◌∷◌, ◌++◌, true, false, cond, refl, sym, ap, subst, ◌∙◌, append_assoc, ⊎_elim, arith}
use Rattle.std.{specs.Prelude.{◌^◌, length}, proofs.lemmas.Bool.cases_lt, proofs.lemmas.List.append-nil}
use Rattle.std.specs.Prelude as std
use Rattle.mini_syntax.{specs.Breaches.breaches, specs.declared.lexer.TokenKind.TokenKind, specs.declared.operator.Infix.Infix}
use Rattle.mini_syntax.{specs.declared.operator.Infix.TheVariants.Or, specs.declared.operator.Prefix.Prefix, specs.declared.operator.Prefix.TheVariants.Not}
use Rattle.mini_syntax.{specs.declared.operator.Prefix.TheVariants.Minus, specs.declared.word.Word.Word, specs.Faults.{AreFree, blocks, brackets, too_many}}
use Rattle.mini_syntax.specs.Faults.{begins_expression, closes_block, closes_bracket, count_of, is_operator, open_blocks, open_brackets, operators}
use Rattle.mini_syntax.{specs.Faults.{operators_from, opens_block, opens_bracket}, specs.Grammar.{Expression, unary, binary, group, expression_tokens}}
use Rattle.mini_syntax.specs.Grammar.{prefix_token, Form, assign, loop, branch, Block, block, Forms, no_forms, form, Decl, InfixProgram, GoesOn, IsProgram}
use Rattle.mini_syntax.{specs.Grammar.{form_tokens, block_tokens, forms_tokens, decl_tokens, decls_tokens, program_tokens}, specs.Precedence.infix_token}
use Rattle.mini_syntax.specs.Internal.Limits.{expression_operators, expression_brackets, IsSmall, FormIsSmall, BlockIsSmall, FormsAreSmall, form_blocks}
use Rattle.mini_syntax.{specs.Internal.Limits.{block_blocks, forms_blocks}, specs.Tokens.{Token, name_at, word_at, mark_at, kind_of, tokens_in}}
use Rattle.mini_syntax.proofs.SpanLaws.{IsShort, text_is_lawful}
use Rattle.mini_syntax.specs.declared.mark.Mark.TheVariants as mark
use Rattle.mini_syntax.specs.declared.word.Word.TheVariants as word

-- ---- each token within the limits, after those before it

record Fits (before : List Token) (t : Token) : Type 0 where
  bracket : opens_bracket (kind_of t) ≡ true → open_brackets before < 40
  block : opens_block (kind_of t) ≡ true → open_blocks before < 40
  operator : is_operator (kind_of t) ≡ true → operators before < 40

abbrev Keeps : List Token → List Token → Type 0
Keeps before [] = Unit {0}
Keeps before (t ∷ ts) = Fits before t × Keeps (before ++ t ∷ []) ts

fits_at : (p : InfixProgram) (before : List Token) (t : Token) (after : List Token) → AreFree (program_tokens p)
    → program_tokens p ≡ before ++ t ∷ after → Fits before t
fits_at p before t after free is = record {
  bracket = λ h. ⊎_elim (λ lt. lt) (λ le. absurd (free before t after 3 is (brackets t goes h le))) (cases_lt (open_brackets before) 40);
  block = λ h. ⊎_elim (λ lt. lt) (λ le. absurd (free before t after 3 is (blocks t goes h le))) (cases_lt (open_blocks before) 40);
  operator = λ h. ⊎_elim (λ lt. lt) (λ le. absurd (free before t after 4 is (too_many t goes h le))) (cases_lt (operators before) 40);
}
  where
    goes : GoesOn (before ++ t ∷ [])
    goes = (p, after, is ∙ sym (append_assoc before (t ∷ []) after))

keeps_all : (p : InfixProgram) (before ts : List Token) → AreFree (program_tokens p) → program_tokens p ≡ before ++ ts → Keeps before ts
keeps_all p before [] free is = tt
keeps_all p before (t ∷ ts) free is = (fits_at p before t ts free is, keeps_all p (before ++ t ∷ []) ts free (is ∙ sym (append_assoc before (t ∷ []) ts)))

record Parts (before a b : List Token) : Type 0 where
  first : Keeps before a
  second : Keeps (before ++ a) b

keeps_parts : (before a b : List Token) → Keeps before (a ++ b) → Parts before a b
keeps_parts before [] b k = record { first = tt; second = subst (λ (x : List Token). Keeps x b) (sym (append-nil before)) k }
keeps_parts before (t ∷ a) b k =
    let rest = keeps_parts (before ++ t ∷ []) a b k.1 in
    record { first = (k.0, rest.first); second = subst (λ (x : List Token). Keeps x b) (append_assoc before (t ∷ []) a) rest.second }

-- ---- counts

pub count_append : (test : TokenKind → std.Bool) (a b : List Token) → count_of test (a ++ b) ≡ count_of test a + count_of test b
count_append test [] b = omega arith
count_append test (t ∷ a) b = let rest = count_append test a b in omega (arith, rest)

pub operators_append : (n : ℕ) (a b : List Token) → operators_from n (a ++ b) ≡ operators_from (operators_from n a) b
operators_append n [] b = refl
operators_append n (t ∷ a) b = operators_append (cond (begins_expression (kind_of t)) 0 (cond (is_operator (kind_of t)) (n + 1) n)) a b

-- what an expression's tokens do to the counts: as many brackets are closed as are opened, and no blocks
record Even (ts : List Token) (ops : ℕ) : Type 0 where
  brackets : count_of opens_bracket ts ≡ count_of closes_bracket ts
  opened : count_of opens_block ts ≡ 0
  closed : count_of closes_block ts ≡ 0
  operators : (n : ℕ) → operators_from n ts ≡ n + ops

-- an operator between
even_infix : (a b : List Token) (t : Token) (m n : ℕ) → Even a m → Even b n → Even (t ∷ []) 1 → Even (a ++ t ∷ b) (suc (m + n))
even_infix a b t m n l r o = record {
  brackets = omega (arith, count_append);
  opened = omega (arith, count_append);
  closed = omega (arith, count_append);
  operators = λ k. operators_append k a (t ∷ b) ∙ operators_append _ (t ∷ []) b ∙ r.operators _
      ∙ ap (λ x. x + n) (o.operators _ ∙ ap (λ x. x + 1) (l.operators k)) ∙ (let sums : k + m + 1 + n ≡ k + suc (m + n) = omega arith in sums);
}

even_operator : (place : ℕ) (op : Infix) → Even (infix_token place op ∷ []) 1
even_operator place Or = record { brackets = refl; opened = refl; closed = refl; operators = λ n. refl }
even_operator place op = record { brackets = refl; opened = refl; closed = refl; operators = λ n. refl }

even_sign : (place : ℕ) (op : Prefix) → Even (prefix_token place op ∷ []) 1
even_sign place Not = record { brackets = refl; opened = refl; closed = refl; operators = λ n. refl }
even_sign place Minus = record { brackets = refl; opened = refl; closed = refl; operators = λ n. refl }

even_prefix : (a : List Token) (t : Token) (m : ℕ) → Even (t ∷ []) 1 → Even a m → Even (t ∷ a) (suc m)
even_prefix a t m o l = omega arith

expression_even : (e : Expression) → Even (expression_tokens e) (expression_operators e)
expression_even (unary place op e) = even_prefix (expression_tokens e) (prefix_token place op) (expression_operators e) (even_sign place op) (expression_even e)
expression_even (binary a place op b) = even_infix _ _ _ _ _ (expression_even a) (expression_even b) (even_operator place op)
expression_even (group place e closing) =
    let l = expression_even e in
    let close : List Token = mark_at closing mark.Close ∷ [] in
    record {
      brackets = omega (arith, count_append opens_bracket (expression_tokens e) close, count_append closes_bracket (expression_tokens e) close);
      opened = omega (arith, count_append opens_block (expression_tokens e) close);
      closed = omega (arith, count_append closes_block (expression_tokens e) close);
      operators = λ n. operators_append n (expression_tokens e) close ∙ l.operators n;
    }
expression_even e = record { brackets = refl; opened = refl; closed = refl; operators = λ n. omega arith }

-- ---- the limits of an expression

-- so many brackets are open, and so many operators came before
record Stands (before : List Token) (n k : ℕ) : Type 0 where
  brackets : count_of opens_bracket before ≡ count_of closes_bracket before + n
  operators : operators before ≡ k
  few : n ≤ 40
  small : k ≤ 40

record Within (n k b ops : ℕ) : Type 0 where
  brackets : n + b ≤ 40
  operators : k + ops ≤ 40

after_even : (before ts : List Token) (n k ops : ℕ) → Even ts ops → k + ops ≤ 40 → Stands before n k → Stands (before ++ ts) n (k + ops)
after_even before ts n k ops even le s = record {
  brackets = omega (arith, s.brackets, even.brackets, count_append opens_bracket before ts, count_append closes_bracket before ts);
  operators = operators_append 0 before ts ∙ even.operators (operators before) ∙ ap (λ (x : ℕ). x + ops) s.operators;
  few = s.few;
  small = le;
}

infix_within : (before a b : List Token) (t : Token) (n k l m c d : ℕ) → Keeps before (a ++ t ∷ b) → Stands before n k → Even a l → Even (t ∷ []) 1
    → is_operator (kind_of t) ≡ true
    → (Keeps before a → Within n k c l) → ((before' : List Token) (k' : ℕ) → Keeps before' b → Stands before' n k' → Within n k' d m)
    → Within n k (max c d) (suc (l + m))
infix_within before a b t n k l m c d keeps s even one is left right =
    let parts = keeps_parts before a (t ∷ b) keeps in
    let first = left parts.first in
    let here = after_even before a n k l even first.operators s in
    let next = after_even _ (t ∷ []) n (k + l) 1 one (omega arith) here in
    let second = right _ (k + l + 1) parts.second.1 next in
    record { brackets = omega arith; operators = omega (arith, second.operators) }

prefix_within : (before a : List Token) (t : Token) (n k m d : ℕ) → Keeps before (t ∷ a) → Stands before n k → Even (t ∷ []) 1 → is_operator (kind_of t) ≡ true
    → ((before' : List Token) (k' : ℕ) → Keeps before' a → Stands before' n k' → Within n k' d m) → Within n k d (suc m)
prefix_within before a t n k m d keeps s one is right =
    let next = after_even before (t ∷ []) n k 1 one (omega arith) s in
    let second = right _ (k + 1) keeps.1 next in
    record { brackets = second.brackets; operators = omega arith }

leaf_within : (before : List Token) (n k : ℕ) → Stands before n k → Within n k 0 0
leaf_within before n k s = record { brackets = omega (arith, s.few); operators = omega (arith, s.small) }

operator_counts : (place : ℕ) (op : Infix) → is_operator (kind_of (infix_token place op)) ≡ true
operator_counts place Or = refl
operator_counts place op = refl

sign_counts : (place : ℕ) (op : Prefix) → is_operator (kind_of (prefix_token place op)) ≡ true
sign_counts place Not = refl
sign_counts place Minus = refl

expression_within : (e : Expression) (before : List Token) (n k : ℕ) → Keeps before (expression_tokens e) → Stands before n k →
    Within n k (expression_brackets e) (expression_operators e)
expression_within (unary place op e) before n k keeps s =
    prefix_within before _ _ n k _ _ keeps s (even_sign place op) (sign_counts place op) (λ before' k' h s'. expression_within e before' n k' h s')
expression_within (binary a place op b) before n k keeps s = infix_within before _ _ _ n k _ _ _
    _ keeps s (expression_even a) (even_operator place op) (operator_counts place op)
    (λ h. expression_within a before n k h s) (λ before' k' h s'. expression_within b before' n k' h s')
expression_within (group place e closing) before n k keeps s =
    let lt = keeps.0.bracket refl in
    let next : Stands (before ++ mark_at place mark.Open ∷ []) (suc n) k =
    record {
      brackets = omega (arith, count_append);
      operators = operators_append 0 before _ ∙ s.operators;
      few = omega (arith, lt, s.brackets);
      small = s.small;
    } in
    let inner = expression_within e (before ++ mark_at place mark.Open ∷ []) (suc n) k (keeps_parts _ _ _ keeps.1).first next in
    record { brackets = omega arith; operators = inner.operators }
expression_within e before n k keeps s = leaf_within before n k s

-- ---- statements

-- brackets and blocks are closed as often as they are opened
record Closed (ts : List Token) : Type 0 where
  brackets : count_of opens_bracket ts ≡ count_of closes_bracket ts
  blocks : count_of opens_block ts ≡ count_of closes_block ts

closed_append : (a b : List Token) → Closed a → Closed b → Closed (a ++ b)
closed_append a b l r = record { brackets = omega (arith, count_append); blocks = omega (arith, count_append) }

closed_even : (a : List Token) (n : ℕ) → Even a n → Closed a
closed_even a n e = record { brackets = e.brackets; blocks = e.opened ∙ sym e.closed }

closed_word : (place : ℕ) (w : Word) → Closed (word_at place w ∷ [])
closed_word place w = record { brackets = refl; blocks = refl }

mutual
  form_closed : (f : Form) → Closed (form_tokens f)
  form_closed (assign place name becomes e closing) = closed_append (name_at place name ∷ mark_at becomes mark.Becomes ∷ [])
      _ record { brackets = refl; blocks = refl } (closed_append _ _ (closed_even _ _ (expression_even e)) record { brackets = refl; blocks = refl })
  form_closed (loop place e b) = closed_append _ _ (closed_word place word.While) (closed_append _ _ (closed_even _ _ (expression_even e)) (block_closed b))
  form_closed (branch place e b otherwise c) = closed_append _ _ (closed_word place word.If) (closed_append _ _ (closed_even _
      _ (expression_even e)) (closed_append _ _ (block_closed b) (closed_append _ _ (closed_word otherwise word.Else) (block_closed c))))

  block_closed : (b : Block) → Closed (block_tokens b)
  block_closed (block place fs closing) =
      let c = forms_closed fs in
      let close : List Token = mark_at closing mark.CloseBlock ∷ [] in
      record {
        brackets = omega (arith, count_append opens_bracket (forms_tokens fs) close, count_append closes_bracket (forms_tokens fs) close);
        blocks = omega (arith, count_append opens_block (forms_tokens fs) close, count_append closes_block (forms_tokens fs) close);
      }

  forms_closed : (fs : Forms) → Closed (forms_tokens fs)
  forms_closed no_forms = record { brackets = refl; blocks = refl }
  forms_closed (form f rest) = closed_append (form_tokens f) (forms_tokens rest) (form_closed f) (forms_closed rest)

-- no bracket is open, and so many blocks
record Level (before : List Token) (m : ℕ) : Type 0 where
  brackets : count_of opens_bracket before ≡ count_of closes_bracket before
  blocks : count_of opens_block before ≡ count_of closes_block before + m
  few : m ≤ 40

level_after : (before ts : List Token) (m : ℕ) → Level before m → Closed ts → Level (before ++ ts) m
level_after before ts m l c = record { brackets = omega (arith, count_append); blocks = omega (arith, count_append); few = l.few }

-- where an expression begins
stands_at : (before : List Token) (t : Token) (m : ℕ) → Level before m → opens_bracket (kind_of t) ≡ false → closes_bracket (kind_of t) ≡ false
    → begins_expression (kind_of t) ≡ true → Stands (before ++ t ∷ []) 0 0
stands_at before t m l a b c = record {
  brackets =
      let one : count_of opens_bracket (t ∷ []) ≡ 0 = rw a refl in
      let two : count_of closes_bracket (t ∷ []) ≡ 0 = rw b refl in
      omega (arith, l.brackets, one, two, count_append opens_bracket before (t ∷ []), count_append closes_bracket before (t ∷ []));
  operators = operators_append 0 before (t ∷ []) ∙ rw c refl;
  few = omega arith;
  small = omega arith;
}

record SmallForm (f : Form) (m : ℕ) : Type 0 where
  small : FormIsSmall f
  blocks : m + form_blocks f ≤ 40

record SmallBlock (b : Block) (m : ℕ) : Type 0 where
  small : BlockIsSmall b
  blocks : m + block_blocks b ≤ 40

record SmallForms (fs : Forms) (m : ℕ) : Type 0 where
  small : FormsAreSmall fs
  blocks : m + forms_blocks fs ≤ 40

expression_small : (before : List Token) (e : Expression) → Keeps before (expression_tokens e) → Stands before 0 0 → IsSmall e
expression_small before e keeps s = let w = expression_within e before 0 0 keeps s in (omega (arith, w.operators), omega (arith, w.brackets))

mutual
  form_within : (f : Form) (before : List Token) (m : ℕ) → Keeps before (form_tokens f) → Level before m → SmallForm f m
  form_within (assign place name becomes e closing) before m keeps l =
      let named : List Token = before ++ name_at place name ∷ [] in
      let s = stands_at named _ m (level_after before _ m l record { brackets = refl; blocks = refl }) refl refl refl in
      let parts = keeps_parts _ _ _ keeps.1.1 in
      record { small = expression_small _ e parts.first s; blocks = omega (arith, l.few) }
  form_within (loop place e b) before m keeps l =
      let w : Token = word_at place word.While in
      let s = stands_at before w m l refl refl refl in
      let parts = keeps_parts _ _ (block_tokens b) keeps.1 in
      let here = level_after _ _ m (level_after before (w ∷ []) m l (closed_word place word.While)) (closed_even _ _ (expression_even e)) in
      let inner = block_within b _ m parts.second here in
      record { small = (expression_small _ e parts.first s, inner.small); blocks = inner.blocks }
  form_within (branch place e b otherwise c) before m keeps l =
      let w : Token = word_at place word.If in
      let other : Token = word_at otherwise word.Else in
      let s = stands_at before w m l refl refl refl in
      let parts = keeps_parts (before ++ w ∷ []) (expression_tokens e) (block_tokens b ++ other ∷ block_tokens c) keeps.1 in
      let here = level_after _ _ m (level_after before (w ∷ []) m l (closed_word place word.If)) (closed_even _ _ (expression_even e)) in
      let at : List Token = (before ++ w ∷ []) ++ expression_tokens e in
      let two = keeps_parts at (block_tokens b) (other ∷ block_tokens c) parts.second in
      let first = block_within b at m two.first here in
      let there = level_after _ (other ∷ []) m (level_after at (block_tokens b) m here (block_closed b)) (closed_word otherwise word.Else) in
      let second = block_within c ((at ++ block_tokens b) ++ other ∷ []) m two.second.1 there in
      record { small = (expression_small _ e parts.first s, first.small, second.small); blocks = omega arith }

  block_within : (b : Block) (before : List Token) (m : ℕ) → Keeps before (block_tokens b) → Level before m → SmallBlock b m
  block_within (block place fs closing) before m keeps l =
      let lt = keeps.0.block refl in
      let next : Level (before ++ mark_at place mark.OpenBlock ∷ []) (suc m) =
      record { brackets = omega (arith, count_append); blocks = omega (arith, count_append); few = omega (arith, lt, l.blocks) } in
      let inner = forms_within fs (before ++ mark_at place mark.OpenBlock ∷ []) (suc m) (keeps_parts _ _ _ keeps.1).first next in
      record { small = inner.small; blocks = omega arith }

  forms_within : (fs : Forms) (before : List Token) (m : ℕ) → Keeps before (forms_tokens fs) → Level before m → SmallForms fs m
  forms_within no_forms before m keeps l = record { small = tt; blocks = omega (arith, l.few) }
  forms_within (form f rest) before m keeps l =
      let parts = keeps_parts before (form_tokens f) _ keeps in
      let first = form_within f before m parts.first l in
      let others = forms_within rest _ m parts.second (level_after before (form_tokens f) m l (form_closed f)) in
      record { small = (first.small, others.small); blocks = omega arith }

-- ---- programs

decls_closed : (ds : List Decl) → Closed (decls_tokens ds)
decls_closed [] = record { brackets = refl; blocks = refl }
decls_closed (d ∷ ds) = closed_append (decl_tokens d) _ record { brackets = refl; blocks = refl } (decls_closed ds)

pub record IsWithin (p : InfixProgram) : Type 0 where
  pub small : FormsAreSmall p.forms
  pub blocks : forms_blocks p.forms ≤ 40

pub free_within : (p : InfixProgram) → AreFree (program_tokens p) → IsWithin p
free_within p free =
    let parts = keeps_parts [] (decls_tokens p.decls) (forms_tokens p.forms) (keeps_all p [] (program_tokens p) free refl) in
    let closed = decls_closed p.decls in
    let w = forms_within p.forms (decls_tokens p.decls) 0 parts.second record { brackets = closed.brackets; blocks = omega arith; few = omega arith } in
    record { small = w.small; blocks = omega arith }

-- a text of which no token breaks a rule, and whose program breaks none
pub free_is_lawful : (text : List ℕ) (p : InfixProgram) → IsProgram text p → length text ≤ 2 ^ 20 → AreFree (tokens_in text) → breaches p ≡ [] → IsShort text p
free_is_lawful text p is few free clean =
    let within = free_within p (subst AreFree is free) in
    text_is_lawful text p is few within.small within.blocks clean
