-- What is judged token by token is what keeps a text from being a program.
use Rattle.std.proofs.Common.{◌≡◌, ◌⊎◌, inl, inr, ℕ, ◌+◌, ◌-◌, ◌<◌, ◌≤◌, List, [], ◌∷◌, ◌++◌, length, drop, map, true, false, cond, Option, Some, None, refl}
use Rattle.std.{proofs.Common.{sym, ap, subst, ◌∙◌, append_assoc, arith}, specs.Prelude.{nat_le, reverse}, specs.List.slice_range, proofs.lemmas.Bool.leb-true}
use Rattle.std.{proofs.lemmas.Bool.{leb-false, and_parts}, proofs.lemmas.List.{append-nil, length-append, map_push}}
use Rattle.std.specs.Prelude as std
use Rattle.mini_syntax.{specs.declared.expected.Expected.Expected, specs.declared.judging.Counts.Counts, specs.declared.lexeme.Lexeme.Lexeme}
use Rattle.mini_syntax.{specs.declared.lexer.TokenKind.TokenKind, specs.declared.lexer.TokenSpan.TokenSpan, specs.Expected.{at_start, is_over, taken, takes}}
use Rattle.mini_syntax.specs.Faults.{AreFree, BreaksAt, BreaksFirst, EndsEarly, blocks, brackets, count_of, no_program, no_token, open_blocks, open_brackets}
use Rattle.mini_syntax.specs.Faults.{operators, too_many, begins_expression, closes_block, closes_bracket, is_operator, opens_block, opens_bracket}
use Rattle.mini_syntax.{specs.Grammar.{GoesOn, IsProgram, InfixProgram}, specs.Internal.Judging.{counted, IsBelow, counts_of, is_over_limit, is_wrong, Judges}}
use Rattle.mini_syntax.{specs.Internal.Judging.{limit_of, tally}, specs.Internal.Lexemes.token_seen, specs.Tokens.{Token, name_at, number_at, word_at, mark_at}}
use Rattle.mini_syntax.{specs.Tokens.{wrong_at, kind_of, place_of, token_of, tokens, tokens_in, between}, specs.Internal.TokenSpans.{FindsToken, token_in}}
use Rattle.mini_syntax.{proofs.ExpectedLaws.{end_of, not_taken, over_end, program_taken, taken_append}, proofs.GoesOnLaws.{goes_on, is_whole}}
use Rattle.mini_syntax.proofs.LimitLaws.{count_append, operators_append}
use Rattle.mini_syntax.specs.declared.lexer.TokenKind.TheVariants as kind
use Rattle.mini_syntax.specs.Internal.Judging as judging

-- ---- counts

one_more : (test : TokenKind → std.Bool) (ts : List Token) (t : Token) → count_of test (ts ++ t ∷ []) ≡ tally (count_of test ts) (test (kind_of t))
one_more test ts t = count_append test ts (t ∷ []) ∙ pick (test (kind_of t))
  where
    pick : (c : std.Bool) → count_of test ts + (cond c 1 0 + 0) ≡ tally (count_of test ts) c
    pick true = omega arith
    pick false = omega arith

counts_more : (ts : List Token) (t : Token) → counts_of (ts ++ t ∷ []) ≡ counted (counts_of ts) (kind_of t)
counts_more ts t =
    let a = one_more opens_bracket ts t in
    let b = one_more closes_bracket ts t in
    let d = one_more opens_block ts t in
    let e = one_more closes_block ts t in
    let g : operators (ts ++ t ∷ []) ≡ cond (begins_expression (kind_of t)) 0 (tally (operators ts) (is_operator (kind_of t))) =
    operators_append 0 ts (t ∷ []) in
    λ i. record { opened_brackets = a i; closed_brackets = b i; opened_blocks = d i; closed_blocks = e i; operators = g i }

-- ---- one token

-- the least rule that a token breaks, or none
abbrev pub Verdict : List Token → Token → Option ℕ → Type 0
Verdict before t None = (rule : ℕ) → BreaksAt before t rule → ⊥
Verdict before t (Some rule) = BreaksAt before t rule × ((other : ℕ) → BreaksAt before t other → rule ≤ other)

one_least : (before : List Token) (t : Token) (other : ℕ) → BreaksAt before t other → 1 ≤ other
one_least before t other (no_token place) = omega arith
one_least before t other (no_program u n) = omega arith
one_least before t other (brackets u g o l) = omega arith
one_least before t other (blocks u g o l) = omega arith
one_least before t other (too_many u g o l) = omega arith

wrong_verdict : (before : List Token) (t : Token) → is_wrong (kind_of t) ≡ true → Verdict before t (Some 1)
wrong_verdict before (wrong_at place) e = (no_token place, λ other b. one_least before (wrong_at place) other b)
wrong_verdict before (name_at place bytes) e = cc
wrong_verdict before (number_at place digits) e = cc
wrong_verdict before (word_at place w) e = cc
wrong_verdict before (mark_at place m) e = cc

two_least : (before : List Token) (t : Token) → is_wrong (kind_of t) ≡ false → (other : ℕ) → BreaksAt before t other → 2 ≤ other
two_least before t e other (no_token place) = cc
two_least before t e other (no_program u n) = omega arith
two_least before t e other (brackets u g o l) = omega arith
two_least before t e other (blocks u g o l) = omega arith
two_least before t e other (too_many u g o l) = omega arith

-- what a token breaks with which a program goes on
record Only (before : List Token) (t : Token) (other : ℕ) : Type 0 where
  which : ((other ≡ 3) × (((opens_bracket (kind_of t) ≡ true) × (40 ≤ open_brackets before)) ⊎ ((opens_block (kind_of t) ≡ true) × (40 ≤ open_blocks before))))
      ⊎ ((other ≡ 4) × (is_operator (kind_of t) ≡ true) × (40 ≤ operators before))

only : (before : List Token) (t : Token) → is_wrong (kind_of t) ≡ false → GoesOn (before ++ t ∷ []) → (other : ℕ) → BreaksAt before t other
    → Only before t other
only before t e goes other (no_token place) = cc
only before t e goes other (no_program u n) = absurd (n goes)
only before t e goes other (brackets u g o l) = record { which = inl (refl, inl (o, l)) }
only before t e goes other (blocks u g o l) = record { which = inl (refl, inr (o, l)) }
only before t e goes other (too_many u g o l) = record { which = inr (refl, o, l) }

full : (m n : ℕ) → nat_le (n + 40) m ≡ true → 40 ≤ m - n
full m n e = let h : n + 40 ≤ m = leb-true (n + 40) m e in omega (arith, h)

not_over : (test : std.Bool) (m n : ℕ) → is_over_limit test m n ≡ false → test ≡ true → 40 ≤ m - n → ⊥
not_over test m n e holds le = pick (nat_le (n + 40) m) refl
  where
    pick : (c : std.Bool) → nat_le (n + 40) m ≡ c → ⊥
    pick true h = let both_hold : is_over_limit test m n ≡ true = rw (holds, h) refl in let bad = sym both_hold ∙ e in cc
    pick false h = let lt : m < n + 40 = leb-false (n + 40) m h in omega (arith, lt, le)

three_least : (before : List Token) (t : Token) (other : ℕ) → Only before t other → 3 ≤ other
three_least before t other o = by_which o.which
  where
    by_which : ((other ≡ 3) × (((opens_bracket (kind_of t) ≡ true) × (40 ≤ open_brackets before))
        ⊎ ((opens_block (kind_of t) ≡ true) × (40 ≤ open_blocks before))))
        ⊎ ((other ≡ 4) × (is_operator (kind_of t) ≡ true) × (40 ≤ operators before)) → 3 ≤ other
    by_which (inl x) = let e = x.0 in omega (arith, e)
    by_which (inr x) = let e = x.0 in omega (arith, e)

module _ (before : List Token) (t : Token) (right : is_wrong (kind_of t) ≡ false) (goes : GoesOn (before ++ t ∷ [])) where
  nothing_else : is_over_limit (opens_bracket (kind_of t)) (count_of opens_bracket before) (count_of closes_bracket before) ≡ false →
      is_over_limit (opens_block (kind_of t)) (count_of opens_block before) (count_of closes_block before) ≡ false →
      (other : ℕ) → BreaksAt before t other → (other ≡ 4) × (is_operator (kind_of t) ≡ true) × (40 ≤ operators before)
  nothing_else ex ey other b = by_which (only before t right goes other b).which
    where
      by_which : ((other ≡ 3) × (((opens_bracket (kind_of t) ≡ true) × (40 ≤ open_brackets before))
          ⊎ ((opens_block (kind_of t) ≡ true) × (40 ≤ open_blocks before))))
          ⊎ ((other ≡ 4) × (is_operator (kind_of t) ≡ true) × (40 ≤ operators before)) → (other ≡ 4) × (is_operator (kind_of t) ≡ true)
          × (40 ≤ operators before)
      by_which (inl (e, inl x)) = absurd (not_over (opens_bracket (kind_of t)) (count_of opens_bracket before) (count_of closes_bracket before) ex x.0 x.1)
      by_which (inl (e, inr x)) = absurd (not_over (opens_block (kind_of t)) (count_of opens_block before) (count_of closes_block before) ey x.0 x.1)
      by_which (inr x) = x

  limit_verdict : Verdict before t (limit_of (counts_of before) (kind_of t))
  limit_verdict = pick (is_over_limit (opens_bracket (kind_of t)) (count_of opens_bracket before) (count_of closes_bracket before))
      (is_over_limit (opens_block (kind_of t)) (count_of opens_block before) (count_of closes_block before))
      (is_over_limit (is_operator (kind_of t)) (operators before) 0) refl refl refl
    where
      pick : (x y z : std.Bool) → is_over_limit (opens_bracket (kind_of t)) (count_of opens_bracket before) (count_of closes_bracket before) ≡ x →
          is_over_limit (opens_block (kind_of t)) (count_of opens_block before) (count_of closes_block before) ≡ y
          → is_over_limit (is_operator (kind_of t)) (operators before) 0 ≡ z →
          Verdict before t (cond x (Some 3) (cond y (Some 3) (cond z (Some 4) None)))
      pick true y z ex ey ez =
          let h = and_parts (opens_bracket (kind_of t)) (nat_le (count_of closes_bracket before + 40) (count_of opens_bracket before)) ex in (
            brackets t goes h.0 (full (count_of opens_bracket before) (count_of closes_bracket before) h.1),
            λ other b. three_least before t other (only before t right goes other b),
          )
      pick false true z ex ey ez =
          let h = and_parts (opens_block (kind_of t)) (nat_le (count_of closes_block before + 40) (count_of opens_block before)) ey in (
            blocks t goes h.0 (full (count_of opens_block before) (count_of closes_block before) h.1),
            λ other b. three_least before t other (only before t right goes other b),
          )
      pick false false true ex ey ez =
          let h = and_parts (is_operator (kind_of t)) (nat_le (0 + 40) (operators before)) ez in
          let le : 0 + 40 ≤ operators before = leb-true (0 + 40) (operators before) h.1 in
          (too_many t goes h.0 (omega arith), λ other b. let e : other ≡ 4 = (nothing_else ex ey other b).0 in omega arith)
      pick false false false ex ey ez = λ rule b.
          let h = nothing_else ex ey rule b in
          not_over (is_operator (kind_of t)) (operators before) 0 ez h.1 (let le : 40 ≤ operators before = h.2 in omega arith)

pub taken_one : (before : List Token) (t : Token) (old : List Expected) → taken (Some at_start) before ≡ Some old
    → taken (Some at_start) (before ++ t ∷ []) ≡ takes old (kind_of t)
taken_one before t old e = cc (taken_append (Some at_start) before (t ∷ []), e, taken_end (takes old (kind_of t)))
  where
    taken_end : (o : Option (List Expected)) → taken o [] ≡ o
    taken_end None = refl
    taken_end (Some st) = refl

token_verdict : (old new : List Expected) (rule : Option ℕ) (before : List Token) (t : Token) → Judges old (counts_of before) (kind_of t) rule new →
    taken (Some at_start) before ≡ Some (reverse old) → Verdict before t rule
token_verdict old new rule before t (judging.no_token w r) e = rw r (wrong_verdict before t w)
token_verdict old new rule before t (judging.not_taken w none r) e =
    rw r (no_program t (not_taken (before ++ t ∷ []) (taken_one before t (reverse old) e ∙ none)), two_least before t w)
token_verdict old new rule before t (judging.taken w some r) e =
    rw r (limit_verdict before t w (goes_on (before ++ t ∷ []) (reverse new) (taken_one before t (reverse old) e ∙ some)))

-- ---- one token more

data Split (bs pre : List Token) (t u : Token) : Type 0 where
  same : bs ≡ pre → t ≡ u → Split bs pre t u
  within : (after : List Token) → bs ≡ pre ++ u ∷ after → Split bs pre t u

front : (x y : Token) (bs pre : List Token) (t u : Token) → x ≡ y → Split bs pre t u → Split (x ∷ bs) (y ∷ pre) t u
front x y bs pre t u e (same p q) = let whole : x ∷ bs ≡ y ∷ pre = cc in same whole q
front x y bs pre t u e (within after p) = let whole : x ∷ bs ≡ (y ∷ pre) ++ u ∷ after = cc in within after whole

split : (bs pre after : List Token) (t u : Token) → bs ++ t ∷ [] ≡ pre ++ u ∷ after → Split bs pre t u
split [] [] after t u e = same refl cc
split [] (y ∷ pre) after t u e = absurd (let h = ap length e in omega (arith, h, length-append pre (u ∷ after)))
split (x ∷ bs) [] after t u e = within bs cc
split (x ∷ bs) (y ∷ pre) after t u e =
    let heads : x ≡ y = cc in
    let tails : bs ++ t ∷ [] ≡ pre ++ u ∷ after = cc in
    front x y bs pre t u heads (split bs pre after t u tails)

free_more : (bs : List Token) (t : Token) → AreFree bs → Verdict bs t None → AreFree (bs ++ t ∷ [])
free_more bs t free none pre u after rule e b = pick (split bs pre after t u e)
  where
    pick : Split bs pre t u → ⊥
    pick (same p q) = none rule (subst (λ (x : Token). BreaksAt bs x rule) (sym q) (subst (λ (x : List Token). BreaksAt x u rule) (sym p) b))
    pick (within rest p) = free pre u rest rule p b

-- ---- the text so far

abbrev pub seen : List Lexeme → List Token
seen ls = map token_seen ls

pub record Stands (text : List ℕ) (at : ℕ) (ls : List Lexeme) (stack : List Expected) (n : Counts) : Type 0 where
  pub parts : tokens_in text ≡ seen ls ++ tokens between at (drop at text)
  pub free : AreFree (seen ls)
  pub taken_is : taken (Some at_start) (seen ls) ≡ Some (reverse stack)
  pub counts_are : counts_of (seen ls) ≡ n

kind_is : (text : List ℕ) (found : TokenSpan) → kind_of (token_in text found) ≡ found.kind
kind_is text found = pick found.kind
  where
    pick : (k : TokenKind) → kind_of (token_of k found.start (slice_range text found.start found.«end»)) ≡ k
    pick kind.Name = refl
    pick kind.Number = refl
    pick (kind.Word w) = refl
    pick (kind.Mark m) = refl
    pick kind.Wrong = refl

place_is : (text : List ℕ) (found : TokenSpan) → found.start ≡ place_of (token_in text found)
place_is text found = pick found.kind
  where
    pick : (k : TokenKind) → found.start ≡ place_of (token_of k found.start (slice_range text found.start found.«end»))
    pick kind.Name = refl
    pick kind.Number = refl
    pick (kind.Word w) = refl
    pick (kind.Mark m) = refl
    pick kind.Wrong = refl

module _ (text : List ℕ) (at : ℕ) (ls : List Lexeme) (old new : List Expected) (n : Counts) (found : TokenSpan) (st : Stands text at ls old n)
    (f : FindsToken text at found) where
  verdict : (rule : Option ℕ) → Judges old n found.kind rule new → Verdict (seen ls) (token_in text found) rule
  verdict rule j = token_verdict old new rule (seen ls) _ (subst (λ (k : TokenKind). Judges old (counts_of (seen ls)) k rule new) (sym (kind_is text found))
      (subst (λ (m : Counts). Judges old m found.kind rule new) (sym st.counts_are) j)) st.taken_is

  -- the first token that breaks a rule
  pub breaks_first : (rule : ℕ) → Judges old n found.kind (Some rule) new → BreaksFirst text rule found.start
  breaks_first rule j =
      let v = verdict (Some rule) j in
      record {
        before = seen ls;
        token = token_in text found;
        after = tokens between found.«end» (drop found.«end» text);
        parts = st.parts ∙ ap (λ (ts : List Token). seen ls ++ ts) f.tokens_are;
        free = st.free;
        breaks = v.0;
        least = v.1;
        at = place_is text found;
      }

  now_taken : Judges old n found.kind None new → takes (reverse old) found.kind ≡ Some (reverse new)
  now_taken (judging.no_token w r) = cc
  now_taken (judging.not_taken w none r) = cc
  now_taken (judging.taken w some r) = some

  pub goes_further : (l : Lexeme) (more : List Lexeme) → token_seen l ≡ token_in text found → more ≡ ls ++ l ∷ [] → Judges old n found.kind None new
      → Stands text found.«end» more new (counted n found.kind)
  goes_further l more is pushed j =
      let all : seen more ≡ seen ls ++ token_in text found ∷ [] = ap seen pushed ∙ map_push token_seen ls l ∙ ap (λ (t : Token). seen ls ++ t ∷ []) is in
      record {
        parts = cc (st.parts, f.tokens_are, append_assoc (seen ls) (token_in text found ∷ []) _, all);
        free = subst AreFree (sym all) (free_more (seen ls) (token_in text found) st.free (verdict None j));
        taken_is = ap (taken (Some at_start)) all ∙ taken_one (seen ls) _ _ st.taken_is ∙ ap (takes (reverse old)) (kind_is text found) ∙ now_taken j;
        counts_are = cc (all, counts_more (seen ls) (token_in text found), kind_is text found, st.counts_are);
      }

-- ---- the text's end

module _ (text : List ℕ) (at : ℕ) (ls : List Lexeme) (stack : List Expected) (n : Counts) (st : Stands text at ls stack n)
    (none : tokens between at (drop at text) ≡ []) where
  pub all_seen : seen ls ≡ tokens_in text
  all_seen = sym (st.parts ∙ ap (λ (ts : List Token). seen ls ++ ts) none ∙ append-nil (seen ls))

  pub all_free : AreFree (tokens_in text)
  all_free = subst AreFree all_seen st.free

  pub has_program : is_over (reverse stack) ≡ true → (p : InfixProgram) × IsProgram text p
  has_program over = let w = is_whole (seen ls) (reverse stack) st.taken_is over in (w.0, sym all_seen ∙ sym w.1)

  pub ends_early : is_over (reverse stack) ≡ false → EndsEarly text 2 (length text)
  ends_early over = record {
    free = all_free;
    no_program = λ p is.
        let both_are : Some (end_of p.forms) ≡ Some (reverse stack) =
        sym (program_taken p) ∙ ap (taken (Some at_start)) (sym is ∙ sym all_seen) ∙ st.taken_is in
        let ends : end_of p.forms ≡ reverse stack = cc in
        let bad = sym (over_end p.forms) ∙ ap is_over ends ∙ over in
        cc;
    rule_is = refl;
    at = refl;
  }

-- ---- the counts stay below the place

tally_below : (n m k : ℕ) (b : std.Bool) → n < m → m < k → tally n b < k
tally_below n m k true lt le = omega (arith, lt, le)
tally_below n m k false lt le = omega (arith, lt, le)

operators_below : (n m k : ℕ) (b c : std.Bool) → n < m → m < k → cond c 0 (tally n b) < k
operators_below n m k b true lt le = omega (arith, lt, le)
operators_below n m k b false lt le = tally_below n m k b lt le

pub below_further : (n : Counts) (t : TokenKind) (m k : ℕ) → IsBelow n m → m < k → IsBelow (counted n t) k
below_further n t m k b lt = record {
  opened_brackets = tally_below n.opened_brackets m k (opens_bracket t) b.opened_brackets lt;
  closed_brackets = tally_below n.closed_brackets m k (closes_bracket t) b.closed_brackets lt;
  opened_blocks = tally_below n.opened_blocks m k (opens_block t) b.opened_blocks lt;
  closed_blocks = tally_below n.closed_blocks m k (closes_block t) b.closed_blocks lt;
  operators = operators_below n.operators m k (is_operator t) (begins_expression t) b.operators lt;
}
