-- An expression in the making: what was read of it, and one more operator with its right operand.
use Rattle.std.proofs.Common.{◌≡◌, ◌≤◌, ℕ, List, [], ◌∷◌, ◌++◌, length, Option, Some, None, true, sym, ap, ◌∙◌, append_assoc, arith}
use Rattle.std.proofs.lemmas.List.{length-append}
use Rattle.std.specs.Prelude as std
use Rattle.stack_text.specs.declared.breach.Breach.{Breach}
use Rattle.mini_syntax.{specs.declared.expected.Expected.Expected, specs.declared.lexeme.Lexeme.Lexeme, specs.declared.operator.Infix.Infix}
use Rattle.mini_syntax.{specs.declared.program.Declared.Declared, specs.declared.typed.Typed.Typed, specs.Expected.expression, specs.Grammar.Expression}
use Rattle.mini_syntax.{specs.Grammar.{binary, binds, expression_level, expression_tokens}, specs.Precedence.{compared_after, infix_of, infix_token, level_of}}
use Rattle.mini_syntax.{specs.Precedence.right_level, specs.Internal.Combined.IsInfix, specs.Internal.Lexemes.{next_kind, token_seen}}
use Rattle.mini_syntax.{specs.Internal.Phrases.{Awaits, AwaitsOperand, Completes, IsTyped, Reads, infix_within}, specs.Tokens.Token, proofs.AwaitLaws.Operates}
use Rattle.mini_syntax.{proofs.AwaitLaws.{moved, operates}, proofs.ExpectedLaws.expression_leads, proofs.JoinLaws.binary_typed, proofs.PrecedenceLaws.after}
use Rattle.mini_syntax.proofs.PrecedenceLaws.{allows_right, allows_sum, bound_made, infix_is, left_close, none_within, within_is}
use Rattle.mini_syntax.proofs.ReadingLaws.{kind_seen}
use Rattle.mini_syntax.specs.declared.expected.Expected.TheVariants as wants

pub first_operand : {ts : List Token} → AwaitsOperand ts → Awaits (wants.Operand ∷ []) ts
first_operand a = record { rest = wants.MoreExpression a.compared ∷ a.rest; completes = a.completes }

pub expression_operand : {ts : List Token} → Awaits (expression []) ts → AwaitsOperand ts
expression_operand a = record { compared = std.false; rest = a.rest; completes = a.completes }

-- fewer tokens are left
pub read_shrinks : {level : ℕ} {ds : List Declared} {old new : List Token} {best next : Option Breach} {typed : Typed} →
    Reads level ds old new best next typed → length new ≤ length old
read_shrinks {new = new} r = omega (arith, ap length r.tokens_are, length-append (expression_tokens r.tree) new)

-- An expression of a level was read, and it is the left operand of any operator that may come.
pub record Going (level : ℕ) (ds : List Declared) (old new : List Token) (best next : Option Breach) (typed : Typed) : Type 0 where
  pub tree : Expression
  pub close : expression_level tree ≤ level
  pub bound : binds tree ≡ true
  pub tokens_are : old ≡ expression_tokens tree ++ new
  pub typed_as : IsTyped ds tree best next typed
  pub left : (op : Infix) → Some op ≡ infix_of (next_kind new) → expression_level tree ≤ level_of op
  pub compared : std.Bool
  pub rest : List Expected
  pub completes : Completes (wants.MoreExpression (after compared tree) ∷ rest) new

pub going_shrinks : {level : ℕ} {ds : List Declared} {old new : List Token} {best next : Option Breach} {typed : Typed} →
    Going level ds old new best next typed → length new ≤ length old
going_shrinks {new = new} g = omega (arith, ap length g.tokens_are, length-append (expression_tokens g.tree) new)

-- it begins with an operand
pub begun : {level : ℕ} {ds : List Declared} {old new : List Token} {best next : Option Breach} {typed : Typed} →
    AwaitsOperand old → Reads 0 ds old new best next typed → Going level ds old new best next typed
begun {level} {ds} {old} {new} a r =
    record {
      tree = r.tree;
      close = omega arith;
      bound = r.bound;
      tokens_are = r.tokens_are;
      typed_as = r.typed_as;
      left = λ op e. omega arith;
      compared = a.compared;
      rest = a.rest;
      completes = moved old _ new r.tokens_are (expression_leads r.tree a.compared a.rest r.bound (allows_sum a.compared _ (omega arith))) a.completes;
    }

-- it is done where no operator of the level follows
pub done : {level : ℕ} {ds : List Declared} {old new : List Token} {best next : Option Breach} {typed : Typed} →
    Going level ds old new best next typed → None ≡ infix_within level (next_kind new) → Reads level ds old new best next typed
done g none = record { tree = g.tree; close = g.close; bound = g.bound; tokens_are = g.tokens_are; typed_as = g.typed_as; ends = none }

module _ {level : ℕ} {ds : List Declared} {old mid new : List Token} {b1 b2 : Option Breach} {left : Typed} {op : Infix}
    (g : Going level ds old mid b1 b2 left) (l : Lexeme) (is : mid ≡ token_seen l ∷ new) (comes : Some op ≡ infix_within level (next_kind mid)) where
  operator_is : (Some op ≡ infix_of (next_kind mid)) × (level_of op ≤ level)
  operator_is = within_is level (infix_of (next_kind mid)) op comes

  kind_is : Some op ≡ infix_of l.kind
  kind_is = operator_is.0 ∙ ap (λ (ts : List Token). infix_of (next_kind ts)) is ∙ ap infix_of (kind_seen l)

  follows : Operates op (after g.compared g.tree) g.rest new
  follows = operates op (after g.compared g.tree) g.rest (token_seen l) mid new is (kind_is ∙ ap infix_of (sym (kind_seen l))) g.completes

  -- its right operand is expected
  pub right_awaited : AwaitsOperand new
  right_awaited = record { compared = compared_after op (after g.compared g.tree); rest = g.rest; completes = follows.completes }

  -- and is read
  pub grown : {next : List Token} {b3 b4 : Option Breach} {right typed : Typed} → Reads (right_level op) ds new next b2 b3 right →
      IsInfix l.place op left right b3 b4 typed →
      Going level ds old next b1 b4 typed
  grown {next} {b3} {b4} {right} {typed} r made =
      record {
        tree = binary g.tree l.place op r.tree;
        close = operator_is.1;
        bound =
            bound_made g.tree r.tree op l.place record {
              left = left_close op g.tree g.compared g.bound (g.left op operator_is.0) follows.may;
              right = r.close;
              left_bound = g.bound;
              right_bound = r.bound;
            };
        tokens_are = cc (
          g.tokens_are,
          is,
          ap (λ t. t ∷ new) (infix_is op l.kind l.place l.bytes.now kind_is),
          ap (λ ts. infix_token l.place op ∷ ts) r.tokens_are,
          append_assoc _ _ next,
        );
        typed_as = binary_typed ds l.place b1 b2 b3 b4 op g.tree r.tree left right typed g.typed_as r.typed_as made;
        left = λ o e. (let lt = none_within _ _ o r.ends e in omega arith);
        compared = g.compared;
        rest = g.rest;
        completes = moved new _ next r.tokens_are (expression_leads r.tree _ g.rest r.bound (allows_right op _ _ r.close)) follows.completes;
      }
