-- What the tokens that are left complete, token by token and tree by tree.
use Rattle.std.{proofs.Common.{◌≡◌, ◌≢◌, ℕ, List, [], ◌∷◌, ◌++◌, Option, Some, None, true, false, refl, sym, ap, ◌∙◌}, specs.Prelude.◌&&◌}
use Rattle.std.specs.Prelude as std
use Rattle.mini_syntax.specs.declared.blocks.StatementKind.TheVariants as a_statement
use Rattle.mini_syntax.{specs.declared.expected.Expected.Expected, specs.declared.lexer.TokenKind.TokenKind, specs.declared.mark.Mark.Mark}
use Rattle.mini_syntax.{specs.declared.blocks.StatementKind.StatementKind, specs.declared.expressions.FactorKind.FactorKind, specs.declared.sort.Sort.Sort}
use Rattle.mini_syntax.{specs.declared.operator.Infix.Infix, specs.declared.operator.Prefix.Prefix, specs.Expected.{is_over, may_be_empty, same_mark, taken}}
use Rattle.mini_syntax.{specs.Expected.takes, specs.Internal.Lexemes.next_kind, specs.Precedence.{compared_after, infix_of, may_follow}}
use Rattle.mini_syntax.{specs.Internal.Phrases.{Completes, factor_kind, sort_declared, statement_kind}, specs.Tokens.{Token, mark_at, word_at, kind_of}}
use Rattle.mini_syntax.{specs.Tokens.{place_of, token_of}, proofs.ExpectedLaws.{Leads, none_follows, operator_refused, operator_taken}}
use Rattle.mini_syntax.proofs.GoesOnLaws.{bytes_of, same_marks, token_is}
use Rattle.mini_syntax.specs.declared.expected.Expected.TheVariants as wants
use Rattle.mini_syntax.specs.declared.expressions.FactorKind.TheVariants as a_factor
use Rattle.mini_syntax.specs.declared.lexer.TokenKind.TheVariants as kind
use Rattle.mini_syntax.specs.declared.mark.Mark.TheVariants as mark
use Rattle.mini_syntax.specs.declared.word.Word.TheVariants as word
use Rattle.mini_syntax.specs.declared.operator.Prefix.TheVariants as before

-- ---- trees and tokens in front

pub moved : {from to : List Expected} (old ts us : List Token) → old ≡ ts ++ us → Leads from ts to → Completes from old → Completes to us
moved {from} {to} old ts us e l c = record { last = c.last; taken_is = sym (l.on us) ∙ sym (ap (taken (Some from)) e) ∙ c.taken_is; over = c.over }

pub stepped : (st st' : List Expected) (t : Token) (old ts : List Token) → old ≡ t ∷ ts → takes st (kind_of t) ≡ Some st' → Completes st old → Completes st' ts
stepped st st' t old ts is e c = record { last = c.last; taken_is = cc (e, is, c.taken_is); over = c.over }

pub refused : (st : List Expected) (t : Token) (old ts : List Token) → old ≡ t ∷ ts → takes st (kind_of t) ≡ None → Completes st old → ⊥
refused st t old ts is e c = cc

-- where something is wanted, a token is left
pub not_over : (x : Expected) (st : List Expected) (ts : List Token) → may_be_empty x ≡ false → Completes (x ∷ st) ts → ts ≢ []
not_over x st ts e c none = cc

-- nothing more is left
pub nothing_left : (ts : List Token) → Completes [] ts → ts ≡ []
nothing_left [] c = refl
nothing_left (t ∷ ts) c = absurd (refused [] t (t ∷ ts) ts refl refl c)

-- ---- what is left out at the next token

skipped : (x : Expected) (st : List Expected) (ts : List Token) → may_be_empty x ≡ true
    → (ts ≢ [] → takes (x ∷ st) (next_kind ts) ≡ takes st (next_kind ts)) → Completes (x ∷ st) ts → Completes st ts
skipped x st [] e skip c =
    let stack : x ∷ st ≡ c.last = let same : Some (x ∷ st) ≡ Some c.last = c.taken_is in cc in
    record { last = st; taken_is = refl; over = sym (ap (λ (b : std.Bool). b && is_over st) e) ∙ ap is_over stack ∙ c.over }
skipped x st (t ∷ ts) e skip c =
    let there : t ∷ ts ≢ [] = λ is. cc in
    record { last = c.last; taken_is = sym (ap (λ (o : Option (List Expected)). taken o ts) (skip there)) ∙ c.taken_is; over = c.over }

declaration_skips : (k : TokenKind) (st : List Expected) → sort_declared k ≡ None → takes (wants.MoreDeclarations ∷ st) k ≡ takes st k
declaration_skips (kind.Word (word.Sort s)) st e = cc
declaration_skips k st e = cc

statement_skips : (k : TokenKind) (st : List Expected) → statement_kind k ≡ None → takes (wants.MoreStatements ∷ st) k ≡ takes st k
statement_skips (kind.Word word.While) st e = cc
statement_skips (kind.Word w) st e = cc
statement_skips k st e = cc

pub no_operator : (c : std.Bool) (st : List Expected) (ts : List Token) → None ≡ infix_of (next_kind ts) → Completes (wants.MoreExpression c ∷ st) ts →
    Completes st ts
no_operator c st ts e done = skipped (wants.MoreExpression c) st ts refl (λ h. none_follows c (next_kind ts) st (sym e)) done

pub no_declaration : (st : List Expected) (ts : List Token) → None ≡ sort_declared (next_kind ts) → Completes (wants.MoreDeclarations ∷ st) ts → Completes st ts
no_declaration st ts e c = skipped wants.MoreDeclarations st ts refl (λ h. declaration_skips (next_kind ts) st (sym e)) c

pub no_statement : (st : List Expected) (ts : List Token) → None ≡ statement_kind (next_kind ts) → Completes (wants.MoreStatements ∷ st) ts → Completes st ts
no_statement st ts e c = skipped wants.MoreStatements st ts refl (λ h. statement_skips (next_kind ts) st (sym e)) c

-- ---- operators

-- an operator that comes may come, and its right operand is expected then
pub record Operates (op : Infix) (c : std.Bool) (st : List Expected) (ts : List Token) : Type 0 where
  pub may : may_follow op c ≡ true
  pub completes : Completes (wants.Operand ∷ wants.MoreExpression (compared_after op c) ∷ st) ts

pub operates : (op : Infix) (c : std.Bool) (st : List Expected) (t : Token) (old ts : List Token) → old ≡ t ∷ ts → Some op ≡ infix_of (kind_of t) →
    Completes (wants.MoreExpression c ∷ st) old → Operates op c st ts
operates op c st t old ts is e done = pick (may_follow op c) refl
  where
    pick : (b : std.Bool) → may_follow op c ≡ b → Operates op c st ts
    pick true may = record { may = may; completes = stepped _ _ t old ts is (operator_taken op c (kind_of t) st (sym e) may) done }
    pick false may = absurd (refused (wants.MoreExpression c ∷ st) t old ts is (operator_refused op c (kind_of t) st (sym e) may) done)

-- ---- a token that is wanted

-- a token that isn't taken isn't the next one, so the next one is of the kind that is taken
mark_wanted : (m : Mark) (st : List Expected) (k : TokenKind) → takes (wants.Mark m ∷ st) k ≢ None → k ≡ kind.Mark m
mark_wanted m st (kind.Mark n) some = pick (same_mark m n) refl
  where
    pick : (b : std.Bool) → same_mark m n ≡ b → kind.Mark n ≡ kind.Mark m
    pick true p = ap kind.Mark (sym (same_marks m n p))
    pick false p = absurd (some (rw p refl))
mark_wanted m st k some = absurd (some refl)

pub next_is_mark : (m : Mark) (st : List Expected) (t : Token) (old ts : List Token) → old ≡ t ∷ ts → Completes (wants.Mark m ∷ st) old
    → t ≡ mark_at (place_of t) m
next_is_mark m st t old ts is c =
    let wanted = mark_wanted m st (kind_of t) (λ none. refused (wants.Mark m ∷ st) t old ts is none c) in
    token_is t ∙ ap (λ k. token_of k (place_of t) (bytes_of t)) wanted

same_is : (m : Mark) → same_mark m m ≡ true
same_is mark.Semicolon = refl
same_is m = refl

-- and then the rest is wanted
pub after_mark : (m : Mark) (place : ℕ) (st : List Expected) (old ts : List Token) → old ≡ mark_at place m ∷ ts → Completes (wants.Mark m ∷ st) old
    → Completes st ts
after_mark m place st old ts is c = stepped (wants.Mark m ∷ st) st (mark_at place m) old ts is (rw (same_is m) refl) c

-- `else`
else_wanted : (st : List Expected) (k : TokenKind) → takes (wants.Else ∷ st) k ≢ None → k ≡ kind.Word word.Else
else_wanted st (kind.Word word.Else) some = refl
else_wanted st k some = absurd (some refl)

pub next_is_else : (st : List Expected) (t : Token) (old ts : List Token) → old ≡ t ∷ ts → Completes (wants.Else ∷ st) old → t ≡ word_at (place_of t) word.Else
next_is_else st t old ts is c =
    let wanted = else_wanted st (kind_of t) (λ none. refused (wants.Else ∷ st) t old ts is none c) in
    token_is t ∙ ap (λ k. token_of k (place_of t) (bytes_of t)) wanted

-- a name
name_wanted : (st : List Expected) (k : TokenKind) → takes (wants.Name ∷ st) k ≢ None → k ≡ kind.Name
name_wanted st kind.Name some = refl
name_wanted st k some = absurd (some refl)

pub next_is_name : (st : List Expected) (t : Token) (old ts : List Token) → old ≡ t ∷ ts → Completes (wants.Name ∷ st) old → kind_of t ≡ kind.Name
next_is_name st t old ts is c = name_wanted st (kind_of t) (λ none. refused (wants.Name ∷ st) t old ts is none c)

-- an operand begins a factor
no_operand : (st : List Expected) (k : TokenKind) → None ≡ factor_kind k → takes (wants.Operand ∷ st) k ≡ None
no_operand st (kind.Word (word.Truth b)) none = cc
no_operand st (kind.Mark mark.Minus) none = cc
no_operand st (kind.Word w) none = cc
no_operand st (kind.Mark m) none = cc
no_operand st k none = cc

pub next_is_operand : (st : List Expected) (t : Token) (old ts : List Token) → old ≡ t ∷ ts → Completes (wants.Operand ∷ st) old
    → None ≡ factor_kind (kind_of t) → ⊥
next_is_operand st t old ts is c none = refused (wants.Operand ∷ st) t old ts is (no_operand st (kind_of t) none) c

-- ---- the token that begins a part

-- a declaration begins with its sort
pub sort_is : (sort : Sort) (k : TokenKind) → Some sort ≡ sort_declared k → k ≡ kind.Word (word.Sort sort)
sort_is sort (kind.Word (word.Sort s)) e = cc
sort_is sort k e = cc

abbrev pub prefix_kind : Prefix → TokenKind
prefix_kind before.Not = kind.Word word.Not
prefix_kind before.Minus = kind.Mark mark.Minus

pub prefix_goes_on : (op : Prefix) (st : List Expected) → takes (wants.Operand ∷ st) (prefix_kind op) ≡ Some (wants.Operand ∷ st)
prefix_goes_on before.Not st = refl
prefix_goes_on before.Minus st = refl

abbrev pub factor_opens : FactorKind → TokenKind
factor_opens a_factor.Variable = kind.Name
factor_opens a_factor.Number = kind.Number
factor_opens (a_factor.Truth b) = kind.Word (word.Truth b)
factor_opens (a_factor.Operator op) = prefix_kind op
factor_opens a_factor.Bracket = kind.Mark mark.Open

pub factor_begins : (f : FactorKind) (k : TokenKind) → Some f ≡ factor_kind k → k ≡ factor_opens f
factor_begins f (kind.Word (word.Truth b)) e = cc
factor_begins f (kind.Mark mark.Minus) e = cc
factor_begins f (kind.Word w) e = cc
factor_begins f (kind.Mark m) e = cc
factor_begins f k e = cc

abbrev pub statement_opens : StatementKind → TokenKind
statement_opens a_statement.Assignment = kind.Name
statement_opens a_statement.While = kind.Word word.While
statement_opens a_statement.If = kind.Word word.If

pub statement_begins : (s : StatementKind) (k : TokenKind) → Some s ≡ statement_kind k → k ≡ statement_opens s
statement_begins s (kind.Word word.While) e = cc
statement_begins s (kind.Word w) e = cc
statement_begins s k e = cc
