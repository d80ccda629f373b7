-- The tokens of every program are taken, one after the other; so where a token isn't taken, no program goes on with it.
use Rattle.std.proofs.Common.{◌≡◌, ℕ, ◌≤◌, List, [], ◌∷◌, ◌++◌, Option, Some, None, true, false, refl, sym, ap, subst, ◌∙◌, append_assoc, arith}
use Rattle.std.{specs.Prelude.{◌&&◌, nat_le}, proofs.lemmas.Bool.{and_parts, leb-true}, proofs.lemmas.List.append-nil}
use Rattle.std.specs.Prelude as std
use Rattle.mini_syntax.{specs.declared.expected.Expected.Expected, specs.declared.lexer.TokenKind.TokenKind, specs.declared.operator.Infix.Infix}
use Rattle.mini_syntax.{specs.declared.operator.Prefix.Prefix, specs.declared.operator.Prefix.TheVariants.{Not, Minus}, specs.Expected.{answered, infix_answer}}
use Rattle.mini_syntax.{specs.Expected.{takes, taken, at_start, is_over, expression, a_block}, specs.Grammar.{Expression, variable, number, truth, unary}}
use Rattle.mini_syntax.specs.Grammar.{binary, group, binds, expression_level, expression_tokens, prefix_token, Form, assign, loop, branch, Block, block, Forms}
use Rattle.mini_syntax.specs.Grammar.{no_forms, form, Decl, InfixProgram, GoesOn, form_binds, block_binds, forms_bind, form_tokens, block_tokens, forms_tokens}
use Rattle.mini_syntax.{specs.Grammar.{decl_tokens, decls_tokens, program_tokens}, specs.Precedence.{compared_after, infix_of, level_of, may_follow}}
use Rattle.mini_syntax.{specs.Tokens.{Token, name_at, mark_at, kind_of}, proofs.PrecedenceLaws.{Allows, after, after_sum, allows_closer, allows_right}}
use Rattle.mini_syntax.proofs.PrecedenceLaws.{allows_sum, bound_parts, infix_seen, left_below, may_come}
use Rattle.mini_syntax.specs.declared.expected.Expected.TheVariants as wants
use Rattle.mini_syntax.specs.declared.mark.Mark.TheVariants as mark

-- the tokens lead from one stack to another, whatever follows
pub record Leads (from : List Expected) (ts : List Token) (to : List Expected) : Type 0 where
  pub on : (vs : List Token) → taken (Some from) (ts ++ vs) ≡ taken (Some to) vs

join : {from mid to : List Expected} (ts us : List Token) → Leads from ts mid → Leads mid us to → Leads from (ts ++ us) to
join {from} {mid} {to} ts us a b = record {
  on = λ vs. ap (taken (Some from)) (append_assoc ts us vs) ∙ a.on (us ++ vs) ∙ b.on vs;
}

-- one token
one : (from to : List Expected) (t : Token) → takes from (kind_of t) ≡ Some to → Leads from (t ∷ []) to
one from to t e = record { on = λ vs. ap (λ (o : Option (List Expected)). taken o vs) e }

before : (from mid to : List Expected) (t : Token) (us : List Token) → takes from (kind_of t) ≡ Some mid → Leads mid us to → Leads from (t ∷ us) to
before from mid to t us e a = record { on = λ vs. ap (λ (o : Option (List Expected)). taken o (us ++ vs)) e ∙ a.on vs }

-- ---- expressions

pub operator_taken : (op : Infix) (c : std.Bool) (k : TokenKind) (rest : List Expected) → infix_of k ≡ Some op → may_follow op c ≡ true →
    takes (wants.MoreExpression c ∷ rest) k ≡ Some (wants.Operand ∷ wants.MoreExpression (compared_after op c) ∷ rest)
operator_taken op c k rest is may = cc

pub operator_refused : (op : Infix) (c : std.Bool) (k : TokenKind) (rest : List Expected) → infix_of k ≡ Some op → may_follow op c ≡ false →
    takes (wants.MoreExpression c ∷ rest) k ≡ None
operator_refused op c k rest is may = cc

pub none_follows : (c : std.Bool) (k : TokenKind) (rest : List Expected) → infix_of k ≡ None → takes (wants.MoreExpression c ∷ rest) k ≡ takes rest k
none_follows c k rest is = ap (λ (o : Option Infix). answered (infix_answer c o) rest (takes rest k)) is

prefix_taken : (op : Prefix) (place : ℕ) (rest : List Expected) → takes (wants.Operand ∷ rest) (kind_of (prefix_token place op)) ≡ Some (wants.Operand ∷ rest)
prefix_taken Not place rest = refl
prefix_taken Minus place rest = refl

pub expression_leads : (e : Expression) (c : std.Bool) (rest : List Expected) → binds e ≡ true → Allows c (expression_level e) →
    Leads (wants.Operand ∷ wants.MoreExpression c ∷ rest) (expression_tokens e) (wants.MoreExpression (after c e) ∷ rest)
expression_leads (variable place name) c rest h allowed = one _ _ (name_at place name) refl
expression_leads (number place digits) c rest h allowed = one _ _ _ refl
expression_leads (truth place b) c rest h allowed = one _ _ _ refl
expression_leads (unary place op e) c rest h allowed =
    let st : List Expected = wants.Operand ∷ wants.MoreExpression c ∷ rest in
    let k = and_parts _ (binds e) h in
    let closest = leb-true (expression_level e) 0 k.0 in
    let low : expression_level e ≤ 2 = omega (arith, closest) in
    before st st _ _ _ (prefix_taken op place _)
    (subst (λ (d : std.Bool). Leads (wants.Operand ∷ wants.MoreExpression c ∷ rest) (expression_tokens e) (wants.MoreExpression d ∷ rest))
    (after_sum e c k.1 low) (expression_leads e c rest k.1 (allows_sum c (expression_level e) low)))
expression_leads (binary a place op b) c rest h allowed =
    let k = bound_parts a b op place h in
    let left = k.left in
    let d = after c a in
    join (expression_tokens a) _
    (expression_leads a c rest k.left_bound (allows_closer c (expression_level a) (level_of op) (omega (arith, left, left_below op)) allowed)) (before _ _ _
    _ (expression_tokens b) (operator_taken op d _ rest (infix_seen place op) (may_come op a c k.left_bound k.left allowed))
    (expression_leads b (compared_after op d) rest k.right_bound (allows_right op d (expression_level b) k.right)))
expression_leads (group place e closing) c rest h allowed =
    let to : List Expected = wants.MoreExpression c ∷ rest in
    before (wants.Operand ∷ to) _ to _ _ refl (join (expression_tokens e) _ (expression_leads e false _ h tt) (one _ to _ refl))

-- ---- statements

none_leads : (st : List Expected) → Leads st [] st
none_leads st = record { on = λ vs. refl }

-- statements in a block, and the end of the block
inside_leads : (fs : Forms) (closing : ℕ) (rest : List Expected) → Leads (wants.MoreStatements ∷ wants.Mark mark.CloseBlock ∷ rest) (forms_tokens fs)
    (wants.MoreStatements ∷ wants.Mark mark.CloseBlock ∷ rest) →
    Leads (wants.MoreStatements ∷ wants.Mark mark.CloseBlock ∷ rest) (forms_tokens fs ++ mark_at closing mark.CloseBlock ∷ []) rest
inside_leads fs closing rest inside = join _ _ inside (one _ rest _ refl)

mutual
  pub form_leads : (f : Form) (rest : List Expected) → form_binds f ≡ true → Leads (wants.MoreStatements ∷ rest) (form_tokens f) (wants.MoreStatements ∷ rest)
  form_leads (assign place name becomes e closing) rest h =
      let more : List Expected = wants.MoreStatements ∷ rest in
      let value : List Expected = expression _ in
      before more _ more _ _ refl (before _ value more _ _ refl (join (expression_tokens e) _ (expression_leads e false _ h tt) (one _ more _ refl)))
  form_leads (loop place e b) rest h =
      let more : List Expected = wants.MoreStatements ∷ rest in
      let k = and_parts (binds e) _ h in
      before more _ more _ _ refl
      (join (expression_tokens e) (block_tokens b) (expression_leads e false (a_block more) k.0 tt) (after_test (after false e) b more k.1))
  form_leads (branch place e b otherwise c) rest h =
      let more : List Expected = wants.MoreStatements ∷ rest in
      let other : List Expected = wants.Else ∷ a_block more in
      let k = and_parts (binds e) _ h in
      let l = and_parts _ _ k.1 in
      before more _ more _ _ refl (join (expression_tokens e) _ (expression_leads e false (a_block other) k.0 tt)
      (join (block_tokens b) _ (after_test (after false e) b other l.0) (before other (a_block more) more _ (block_tokens c) refl (block_leads c more l.1))))

  -- a block after an expression
  after_test : (c : std.Bool) (b : Block) (rest : List Expected) → block_binds b ≡ true → Leads (wants.MoreExpression c ∷ a_block rest) (block_tokens b) rest
  after_test c (block place fs closing) rest h = before _ _ rest _ _ refl (inside_leads fs closing rest (forms_leads fs _ h))

  pub block_leads : (b : Block) (rest : List Expected) → block_binds b ≡ true → Leads (a_block rest) (block_tokens b) rest
  block_leads (block place fs closing) rest h = before (a_block rest) _ rest _ _ refl (inside_leads fs closing rest (forms_leads fs _ h))

  pub forms_leads : (fs : Forms) (rest : List Expected) → forms_bind fs ≡ true →
      Leads (wants.MoreStatements ∷ rest) (forms_tokens fs) (wants.MoreStatements ∷ rest)
  forms_leads no_forms rest h = none_leads (wants.MoreStatements ∷ rest)
  forms_leads (form f fs) rest h =
      let k = and_parts _ _ h in
      join _ _ (form_leads f rest k.0) (forms_leads fs rest k.1)

-- ---- declarations

pub decl_leads : (d : Decl) (rest : List Expected) → Leads (wants.MoreDeclarations ∷ rest) (decl_tokens d) (wants.MoreDeclarations ∷ rest)
decl_leads d rest = before _ _ _ _ _ refl (before _ _ _ _ _ refl (one _ _ _ refl))

pub decls_lead : (ds : List Decl) (rest : List Expected) → Leads (wants.MoreDeclarations ∷ rest) (decls_tokens ds) (wants.MoreDeclarations ∷ rest)
decls_lead [] rest = none_leads (wants.MoreDeclarations ∷ rest)
decls_lead (d ∷ ds) rest = join (decl_tokens d) (decls_tokens ds) (decl_leads d rest) (decls_lead ds rest)

-- ---- programs

-- a statement may begin where declarations were expected
skip : (t : Token) (ts : List Token) (to : List Expected) → takes at_start (kind_of t) ≡ takes (wants.MoreStatements ∷ []) (kind_of t)
    → Leads (wants.MoreStatements ∷ []) (t ∷ ts) to → Leads at_start (t ∷ ts) to
skip t ts to e a = record { on = λ vs. ap (λ (o : Option (List Expected)). taken o (ts ++ vs)) e ∙ a.on vs }

first_form : (f : Form) → form_binds f ≡ true → Leads at_start (form_tokens f) (wants.MoreStatements ∷ [])
first_form (assign place name becomes e closing) h = skip _ _ _ refl (form_leads (assign place name becomes e closing) [] h)
first_form (loop place e b) h = skip _ _ _ refl (form_leads (loop place e b) [] h)
first_form (branch place e b otherwise c) h = skip _ _ _ refl (form_leads (branch place e b otherwise c) [] h)

-- where a program ends
abbrev pub end_of : Forms → List Expected
end_of no_forms = at_start
end_of (form f fs) = wants.MoreStatements ∷ []

all_forms : (fs : Forms) → forms_bind fs ≡ true → Leads at_start (forms_tokens fs) (end_of fs)
all_forms no_forms h = none_leads at_start
all_forms (form f fs) h =
    let k = and_parts (form_binds f) (forms_bind fs) h in
    join (form_tokens f) (forms_tokens fs) (first_form f k.0) (forms_leads fs [] k.1)

program_leads : (p : InfixProgram) → Leads at_start (program_tokens p) (end_of p.forms)
program_leads p = join (decls_tokens p.decls) (forms_tokens p.forms) (decls_lead p.decls (wants.MoreStatements ∷ [])) (all_forms p.forms p.bound)

-- nothing more is expected there
pub over_end : (fs : Forms) → is_over (end_of fs) ≡ true
over_end no_forms = refl
over_end (form f fs) = refl

-- all tokens of a program are taken
pub program_taken : (p : InfixProgram) → taken (Some at_start) (program_tokens p) ≡ Some (end_of p.forms)
program_taken p = ap (taken (Some at_start)) (sym (append-nil (program_tokens p))) ∙ (program_leads p).on []

-- ---- what isn't taken

pub none_taken : (ts : List Token) → taken None ts ≡ None
none_taken [] = refl
none_taken (t ∷ ts) = refl

pub taken_append : (o : Option (List Expected)) (ts us : List Token) → taken o (ts ++ us) ≡ taken (taken o ts) us
taken_append None ts us = none_taken (ts ++ us) ∙ sym (ap (λ (o : Option (List Expected)). taken o us) (none_taken ts) ∙ none_taken us)
taken_append (Some st) [] us = refl
taken_append (Some st) (t ∷ ts) us = taken_append (takes st (kind_of t)) ts us

-- where the tokens aren't all taken, no program goes on with them
pub not_taken : (ts : List Token) → taken (Some at_start) ts ≡ None → GoesOn ts → ⊥
not_taken ts e goes =
    let p = goes.0 in
    let whole : taken (Some at_start) (program_tokens p) ≡ None =
    ap (taken (Some at_start)) goes.2 ∙ taken_append (Some at_start) ts goes.1 ∙ ap (λ (o : Option (List Expected)). taken o goes.1) e ∙ none_taken goes.1 in
    let both = sym (program_taken p) ∙ whole in
    cc
