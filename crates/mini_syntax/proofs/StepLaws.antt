-- What the reader awaits after each part of a program, and the factors, statements and declarations that it makes of the parts.
use Rattle.std.proofs.Common.{◌≡◌, ◌≢◌, ℕ, List, [], ◌∷◌, ◌++◌, Option, Some, None, true, false, refl, sym, ap, ap₂, ◌∙◌, append_assoc, arith}
use Rattle.std.{specs.Prelude.{◌==◌, is_some, length}, proofs.lemmas.Bool.and_parts}
use Rattle.stack_text.{specs.declared.breach.Breach.Breach, specs.Breaches.{Notes, when}, proofs.BreachLaws.notes_more}
use Rattle.mini_syntax.{specs.Breaches.{decl_breaches, variable_named}, specs.Internal.Combined.IsPrefix, specs.Internal.Declaring.{ReadsDecl, ReadsDecls}}
use Rattle.mini_syntax.{specs.Internal.Declaring.{are_proper, is_proper}, specs.declared.expected.Expected.Expected, specs.declared.lexeme.Lexeme.Lexeme}
use Rattle.mini_syntax.{specs.declared.lexer.TokenKind.TokenKind, specs.declared.mark.Mark.Mark, specs.declared.operator.Prefix.Prefix}
use Rattle.mini_syntax.{specs.declared.operator.Prefix.TheVariants.{Not, Minus}, specs.declared.program.Declared.Declared}
use Rattle.mini_syntax.{specs.declared.program.Statement.Statement, specs.declared.sort.Sort.Sort, specs.declared.typed.Typed.Typed, specs.Expected.a_block}
use Rattle.mini_syntax.{specs.Expected.{at_start, expression, may_be_empty, taken, takes}, specs.Grammar.{unary, group, prefix_token, Decl, InfixProgram}}
use Rattle.mini_syntax.{specs.Grammar.{decl_tokens, decls_tokens, expression_tokens, forms_tokens, program_tokens}, specs.Internal.Lexemes.next_kind}
use Rattle.mini_syntax.{specs.Internal.Lexemes.token_seen, specs.Names.is_variable_name, specs.Precedence.{any_level, infix_of}, specs.Internal.Phrases.Awaits}
use Rattle.mini_syntax.{specs.Internal.Phrases.{Completes, Reads, ReadsBlock, ReadsForm, ReadsForms, factor_kind}, specs.Tokens.{Token, name_at, word_at}}
use Rattle.mini_syntax.{specs.Tokens.{mark_at, kind_of, place_of}, proofs.AwaitLaws.{after_mark, moved, next_is_else, next_is_mark, next_is_name}}
use Rattle.mini_syntax.{proofs.AwaitLaws.{next_is_operand, not_over, prefix_kind, stepped}, proofs.ExpectedLaws.{block_leads, decl_leads, decls_lead, end_of}}
use Rattle.mini_syntax.{proofs.ExpectedLaws.{form_leads, forms_leads, over_end, program_taken}, proofs.JoinLaws.unary_typed, proofs.PrecedenceLaws.none_closest}
use Rattle.mini_syntax.{proofs.PrecedenceLaws.unary_bound, proofs.ReadingLaws.{after_expression, kind_seen, token_by_kind}}
use Rattle.mini_syntax.specs.declared.expected.Expected.TheVariants as wants
use Rattle.mini_syntax.specs.declared.lexer.TokenKind.TheVariants as kind
use Rattle.mini_syntax.specs.declared.mark.Mark.TheVariants as mark
use Rattle.mini_syntax.specs.declared.word.Word.TheVariants as word

-- ---- what is awaited

-- a token is left where something is wanted
pub token_left : {x : Expected} {more : List Expected} {ts : List Token} → Awaits (x ∷ more) ts → may_be_empty x ≡ false → ts ≢ []
token_left {x} {more} {ts} a e = not_over x (more ++ a.rest) ts e a.completes

pub kind_next : {old new : List Token} (l : Lexeme) (k : TokenKind) → old ≡ token_seen l ∷ new → next_kind old ≡ k → l.kind ≡ k
kind_next l k is e = sym (kind_seen l) ∙ sym (ap next_kind is) ∙ e

-- less is awaited first
pub first_awaited : (x : Expected) (more : List Expected) {ts : List Token} → Awaits (x ∷ more) ts → Awaits (x ∷ []) ts
first_awaited x more a = record { rest = more ++ a.rest; completes = a.completes }

pub expression_first : (more : List Expected) {ts : List Token} → Awaits (expression more) ts → Awaits (expression []) ts
expression_first more a = record { rest = more ++ a.rest; completes = a.completes }

pub block_first : (more : List Expected) {ts : List Token} → Awaits (a_block more) ts → Awaits (a_block []) ts
block_first more a = record { rest = more ++ a.rest; completes = a.completes }

-- after a token of a kind
pub after_kind : (front to : List Expected) (l : Lexeme) (k : TokenKind) {old new : List Token} → Awaits front old → old ≡ token_seen l ∷ new → l.kind ≡ k →
    ((rest : List Expected) → takes (front ++ rest) k ≡ Some (to ++ rest)) → Awaits to new
after_kind front to l k {old} {new} a is e goes = record {
  rest = a.rest;
  completes = stepped (front ++ a.rest) (to ++ a.rest) (token_seen l) old new is (ap (takes (front ++ a.rest)) (kind_seen l ∙ e) ∙ goes a.rest) a.completes;
}

-- the mark that is wanted is the next token
pub mark_is : (m : Mark) {more : List Expected} {old new : List Token} (l : Lexeme) → Awaits (wants.Mark m ∷ more) old → old ≡ token_seen l ∷ new
    → old ≡ mark_at l.place m ∷ new
mark_is m {more} {old} {new} l a is =
    let k : l.kind ≡ kind.Mark m = sym (kind_seen l) ∙ ap kind_of (next_is_mark m (more ++ a.rest) (token_seen l) old new is a.completes) in
    is ∙ ap (λ (t : Token). t ∷ new) (token_by_kind l (kind.Mark m) k)

-- after a mark
pub mark_passed : (m : Mark) (place : ℕ) (more : List Expected) {old new : List Token} → Awaits (wants.Mark m ∷ more) old → old ≡ mark_at place m ∷ new
    → Awaits more new
mark_passed m place more {old} {new} a is = record { rest = a.rest; completes = after_mark m place (more ++ a.rest) old new is a.completes }

-- after an expression, a statement, a block and statements
pub expression_passed : (more : List Expected) {ds : List Declared} {old new : List Token} {best next : Option Breach} {typed : Typed}
    → Awaits (expression more) old →
    Reads any_level ds old new best next typed → Awaits more new
expression_passed more {ds} {old} {new} {best} {next} {typed} a r =
    record { rest = a.rest; completes = after_expression ds old new best next typed (more ++ a.rest) r a.completes }

pub form_passed : {ds : List Declared} {old new : List Token} {best next : Option Breach} {statement : Statement}
    → Awaits (wants.MoreStatements ∷ []) old → ReadsForm ds old new best next statement →
    Awaits (wants.MoreStatements ∷ []) new
form_passed {old = old} {new = new} a r = record { rest = a.rest; completes = moved old _ new r.tokens_are (form_leads r.tree a.rest r.bound) a.completes }

pub block_passed : (more : List Expected) {ds : List Declared} {old new : List Token} {best next : Option Breach} {body : List Statement}
    → Awaits (a_block more) old → ReadsBlock ds old new best next body →
    Awaits more new
block_passed more {old = old} {new = new} a r = record {
  rest = a.rest;
  completes = moved old _ new r.tokens_are (block_leads r.tree (more ++ a.rest) r.bound) a.completes;
}

pub forms_passed : (more : List Expected) {ds : List Declared} {old new : List Token} {best next : Option Breach} {body : List Statement}
    → Awaits (wants.MoreStatements ∷ more) old →
    ReadsForms ds old new best next body → Awaits more new
forms_passed more {old = old} {new = new} a r = record {
  rest = a.rest;
  completes = r.ends (more ++ a.rest) (moved old (forms_tokens r.tree) new r.tokens_are (forms_leads r.tree (more ++ a.rest) r.bound) a.completes);
}

-- `else`
pub else_is : {more : List Expected} {old new : List Token} (l : Lexeme) → Awaits (wants.Else ∷ more) old → old ≡ token_seen l ∷ new
    → old ≡ word_at (place_of (token_seen l)) word.Else ∷ new
else_is {more} {old} {new} l a is = is ∙ ap (λ (t : Token). t ∷ new) (next_is_else (more ++ a.rest) (token_seen l) old new is a.completes)

pub else_passed : (more : List Expected) {old new : List Token} (l : Lexeme) → Awaits (wants.Else ∷ more) old → old ≡ token_seen l ∷ new → Awaits more new
else_passed more {old} {new} l a is =
    let here : takes (wants.Else ∷ (more ++ a.rest)) (kind_of (token_seen l)) ≡ Some (more ++ a.rest) =
    ap (λ (t : Token). takes (wants.Else ∷ (more ++ a.rest)) (kind_of t)) (next_is_else (more ++ a.rest) (token_seen l) old new is a.completes) in
    record { rest = a.rest; completes = stepped (wants.Else ∷ (more ++ a.rest)) (more ++ a.rest) (token_seen l) old new is here a.completes }

-- ---- factors

pub operand_is : {more : List Expected} {old new : List Token} (l : Lexeme) → Awaits (wants.Operand ∷ more) old → old ≡ token_seen l ∷ new
    → None ≡ factor_kind l.kind → ⊥
operand_is {more} {old} {new} l a is none = next_is_operand (more ++ a.rest) (token_seen l) old new is a.completes (none ∙ ap factor_kind (sym (kind_seen l)))

prefix_is : (op : Prefix) (l : Lexeme) → l.kind ≡ prefix_kind op → token_seen l ≡ prefix_token l.place op
prefix_is Not l e = token_by_kind l (kind.Word word.Not) e
prefix_is Minus l e = token_by_kind l (kind.Mark mark.Minus) e

pub prefix_read : {ds : List Declared} {old mid new : List Token} {b1 b2 b3 : Option Breach} {operand typed : Typed} (op : Prefix) (l : Lexeme)
    → old ≡ token_seen l ∷ mid → l.kind ≡ prefix_kind op →
    Reads 0 ds mid new b1 b2 operand → IsPrefix l.place op operand b2 b3 typed → Reads 0 ds old new b1 b3 typed
prefix_read {ds} {old} {mid} {new} {b1} {b2} {b3} {operand} {typed} op l is e r made = record {
  tree = unary l.place op r.tree;
  close = omega arith;
  bound = unary_bound r.tree r.close r.bound;
  tokens_are = is ∙ ap₂ (λ (t : Token) (ts : List Token). t ∷ ts) (prefix_is op l e) r.tokens_are;
  typed_as = unary_typed ds l.place b1 b2 b3 op r.tree operand typed r.typed_as made;
  ends = r.ends;
}

pub group_read : {ds : List Declared} {old t1 t2 new : List Token} {best next : Option Breach} {typed : Typed} (l : Lexeme) (closing : ℕ)
    → old ≡ token_seen l ∷ t1 → l.kind ≡ kind.Mark mark.Open →
    Reads any_level ds t1 t2 best next typed → t2 ≡ mark_at closing mark.Close ∷ new → Reads 0 ds old new best next typed
group_read {new = new} l closing is e r closes = record {
  tree = group l.place r.tree closing;
  close = omega arith;
  bound = r.bound;
  tokens_are = is ∙ ap₂ (λ (t : Token) (ts : List Token). t ∷ ts) (token_by_kind l _ e)
      (r.tokens_are ∙ ap (λ (ts : List Token). expression_tokens r.tree ++ ts) closes
      ∙ sym (append_assoc (expression_tokens r.tree) (mark_at closing mark.Close ∷ []) new));
  typed_as = record { exp_is = r.typed_as.exp_is; sort_is = r.typed_as.sort_is; noted = r.typed_as.noted };
  ends = none_closest (infix_of _);
}

-- ---- declarations

-- the tokens behind some are proper too
pub proper_rest : (ts us vs : List Token) → are_proper us ≡ true → us ≡ ts ++ vs → are_proper vs ≡ true
proper_rest [] us vs e is = ap are_proper (sym is) ∙ e
proper_rest (t ∷ ts) us vs e is =
    let all : are_proper (t ∷ (ts ++ vs)) ≡ true = ap are_proper (sym is) ∙ e in
    proper_rest ts (ts ++ vs) vs (and_parts (is_proper t) (are_proper (ts ++ vs)) all).1 refl

-- a name is one
pub proper_name : {new : List Token} (l : Lexeme) (old : List Token) → are_proper old ≡ true → old ≡ token_seen l ∷ new → l.kind ≡ kind.Name
    → is_variable_name l.bytes.now ≡ true
proper_name {new} l old e is k =
    let all : are_proper (name_at l.place l.bytes.now ∷ new) ≡ true =
    ap are_proper (sym (is ∙ ap (λ (t : Token). t ∷ new) (token_by_kind l kind.Name k))) ∙ e in
    (and_parts (is_variable_name l.bytes.now) (are_proper new) all).0

pub name_is : {more : List Expected} {old new : List Token} (l : Lexeme) → Awaits (wants.Name ∷ more) old → old ≡ token_seen l ∷ new → l.kind ≡ kind.Name
name_is {more} {old} {new} l a is = sym (kind_seen l) ∙ next_is_name (more ++ a.rest) (token_seen l) old new is a.completes

pub decl_tokens_read : {old t1 t2 new : List Token} (l name : Lexeme) (sort : Sort) (closing : ℕ) → old ≡ token_seen l ∷ t1
    → l.kind ≡ kind.Word (word.Sort sort) →
    t1 ≡ token_seen name ∷ t2 → name.kind ≡ kind.Name → t2 ≡ mark_at closing mark.Semicolon ∷ new →
    old ≡ decl_tokens record { start = l.place; sort = sort; place = name.place; name = name.bytes.now; closing = closing } ++ new
decl_tokens_read l name sort closing is1 k1 is2 k2 is3 = cc

-- what a declaration breaks
pub decl_noted : (ds : List Declared) (d : Decl) (b1 b2 b3 : Option Breach) → Notes b1 (when (is_some (variable_named ds d.name)) d.place 5) b2
    → Notes b2 (when (length ds == 100) d.place 9) b3 →
    Notes b1 (decl_breaches ds d) b3
decl_noted ds d b1 b2 b3 first second = notes_more b1 b2 b3 (when (is_some (variable_named ds d.name)) d.place 5) _ first second

pub decl_passed : {before after : List Declared} {old new : List Token} {best next : Option Breach} → Awaits (wants.MoreDeclarations ∷ []) old
    → ReadsDecl before after old new best next →
    Awaits (wants.MoreDeclarations ∷ []) new
decl_passed {old = old} {new = new} a r = record { rest = a.rest; completes = moved old _ new r.tokens_are (decl_leads r.tree a.rest) a.completes }

-- ---- programs

-- what a program's tokens complete
pub program_completes : (ts : List Token) (p : InfixProgram) → ts ≡ program_tokens p → Completes at_start ts
program_completes ts p e = record { last = end_of p.forms; taken_is = ap (taken (Some at_start)) e ∙ program_taken p; over = over_end p.forms }

-- after the declarations, statements are awaited, and after them nothing
pub decls_passed : {ds : List Declared} {old new : List Token} {best next : Option Breach} → Completes at_start old → ReadsDecls ds old new best next
    → Completes (wants.MoreStatements ∷ []) new
decls_passed {old = old} {new = new} c r = r.ends _ (moved old (decls_tokens r.trees) new r.tokens_are (decls_lead r.trees (wants.MoreStatements ∷ [])) c)

pub all_passed : {ds : List Declared} {old new : List Token} {best next : Option Breach} {body : List Statement}
    → Completes (wants.MoreStatements ∷ []) old → ReadsForms ds old new best next body → Completes [] new
all_passed {old = old} {new = new} c r = r.ends [] (moved old (forms_tokens r.tree) new r.tokens_are (forms_leads r.tree [] r.bound) c)
