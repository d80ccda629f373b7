-- How closely operators bind: their tokens, the levels of their operands, and where a comparison may come.
use Rattle.std.{proofs.Common.{◌≡◌, ℕ, suc, ◌<◌, ◌≤◌, List, true, false, cond, Option, Some, None, refl, sym, ap, ap₂, subst, ◌∙◌, arith}, specs.Prelude.◌&&◌}
use Rattle.std.{specs.Prelude.{not, nat_le}, proofs.lemmas.Bool.{and_parts, leb-true, leb-false, le-leb}}
use Rattle.std.specs.Prelude as std
use Rattle.mini_syntax.{specs.declared.lexer.TokenKind.TokenKind, specs.declared.operator.Infix.Infix, specs.declared.operator.Infix.TheVariants.{Or, And}}
use Rattle.mini_syntax.{specs.declared.operator.Infix.TheVariants.{AtMost, Equals, Add, Subtract, Multiply}, specs.Grammar.{Expression, binary, binds}}
use Rattle.mini_syntax.{specs.Grammar.expression_level, specs.Precedence.{any_level, compared_after, infix_of, infix_token, left_level, level_of, may_follow}}
use Rattle.mini_syntax.{specs.Precedence.right_level, specs.Internal.Phrases.within, specs.Tokens.{kind_of, place_of, token_of}}
use Rattle.mini_syntax.specs.declared.lexer.TokenKind.TheVariants as kind
use Rattle.mini_syntax.specs.declared.mark.Mark.TheVariants as mark
use Rattle.mini_syntax.specs.declared.word.Word.TheVariants as word

-- ---- tokens

pub infix_seen : (place : ℕ) (op : Infix) → infix_of (kind_of (infix_token place op)) ≡ Some op
infix_seen place Or = refl
infix_seen place op = refl

pub infix_place : (place : ℕ) (op : Infix) → place_of (infix_token place op) ≡ place
infix_place place Or = refl
infix_place place op = refl

pub infix_is : (op : Infix) (k : TokenKind) (place : ℕ) (bytes : List ℕ) → Some op ≡ infix_of k → token_of k place bytes ≡ infix_token place op
infix_is op (kind.Word word.Or) place bytes e = let same : op ≡ Or = cc in ap (infix_token place) (sym same)
infix_is op (kind.Word word.And) place bytes e = let same : op ≡ And = cc in ap (infix_token place) (sym same)
infix_is op (kind.Mark mark.AtMost) place bytes e = let same : op ≡ AtMost = cc in ap (infix_token place) (sym same)
infix_is op (kind.Mark mark.Equals) place bytes e = let same : op ≡ Equals = cc in ap (infix_token place) (sym same)
infix_is op (kind.Mark mark.Plus) place bytes e = let same : op ≡ Add = cc in ap (infix_token place) (sym same)
infix_is op (kind.Mark mark.Minus) place bytes e = let same : op ≡ Subtract = cc in ap (infix_token place) (sym same)
infix_is op (kind.Mark mark.Times) place bytes e = let same : op ≡ Multiply = cc in ap (infix_token place) (sym same)
infix_is op k place bytes e = cc

-- ---- levels

pub one_above : (op : Infix) → level_of op ≡ suc (right_level op)
one_above Or = refl
one_above op = refl

pub left_below : (op : Infix) → left_level op ≤ level_of op
left_below Or = omega arith
left_below op = omega arith

pub level_in : (op : Infix) → level_of op ≤ any_level
level_in Or = omega arith
level_in op = omega arith

-- the operator of a level
pub within_is : (level : ℕ) (o : Option Infix) (op : Infix) → Some op ≡ within level o → (Some op ≡ o) × (level_of op ≤ level)
within_is level None op e = absurd cc
within_is level (Some p) op e = pick (nat_le (level_of p) level) refl e
  where
    pick : (b : std.Bool) → nat_le (level_of p) level ≡ b → Some op ≡ cond b (Some p) None → (Some op ≡ Some p) × (level_of op ≤ level)
    pick true le is =
        let same : op ≡ p = cc in
        (is, subst (λ (q : Infix). level_of q ≤ level) (sym same) (leb-true (level_of p) level le))
    pick false le is = absurd cc

pub none_within : (level : ℕ) (o : Option Infix) (op : Infix) → None ≡ within level o → Some op ≡ o → level < level_of op
none_within level o op e is = pick (nat_le (level_of op) level) refl (e ∙ ap (within level) (sym is))
  where
    pick : (b : std.Bool) → nat_le (level_of op) level ≡ b → None ≡ cond b (Some op) None → level < level_of op
    pick true le none = absurd cc
    pick false le none = leb-false (level_of op) level le

pub none_at_all : (o : Option Infix) → None ≡ within any_level o → None ≡ o
none_at_all None e = refl
none_at_all (Some op) e = let more = none_within any_level (Some op) op e refl in absurd (omega (arith, more, level_in op))

pub none_closest : (o : Option Infix) → None ≡ within 0 o
none_closest None = refl
none_closest (Some op) = by_row op
  where
    by_row : (q : Infix) → None ≡ within 0 (Some q)
    by_row Or = refl
    by_row q = refl

-- ---- operands

pub both : (x y : std.Bool) → x ≡ true → y ≡ true → (x && y) ≡ true
both x y e f = ap₂ (λ (a b : std.Bool). a && b) e f

pub record Bound (a b : Expression) (op : Infix) : Type 0 where
  pub left : expression_level a ≤ left_level op
  pub right : expression_level b ≤ right_level op
  pub left_bound : binds a ≡ true
  pub right_bound : binds b ≡ true

pub bound_parts : (a b : Expression) (op : Infix) (place : ℕ) → binds (binary a place op b) ≡ true → Bound a b op
bound_parts a b op place e =
    let l : std.Bool = nat_le _ _ in
    let r : std.Bool = nat_le _ _ in
    let all = and_parts (l && r) _ e in
    let levels = and_parts l r all.0 in
    let inside = and_parts (binds a) (binds b) all.1 in
    record { left = leb-true _ _ levels.0; right = leb-true _ _ levels.1; left_bound = inside.0; right_bound = inside.1 }

pub bound_made : (a b : Expression) (op : Infix) (place : ℕ) → Bound a b op → binds (binary a place op b) ≡ true
bound_made a b op place k =
    let l : std.Bool = nat_le _ _ in
    let r : std.Bool = nat_le _ _ in
    both (l && r) _ (both l r (le-leb (expression_level a) (left_level op) k.left) (le-leb (expression_level b) (right_level op) k.right))
    (both (binds a) (binds b) k.left_bound k.right_bound)

pub unary_bound : (e : Expression) → expression_level e ≤ 0 → binds e ≡ true → (nat_le (expression_level e) 0 && binds e) ≡ true
unary_bound e le h = both (nat_le (expression_level e) 0) (binds e) (le-leb (expression_level e) 0 le) h

-- ---- comparisons

-- whether a comparison came since the last `and` or `or`, after an expression
abbrev pub after : std.Bool → Expression → std.Bool
after c (binary a place op b) = after (compared_after op (after c a)) b
after c e = c

arithmetic : (op : Infix) (c : std.Bool) → level_of op ≤ 2 → compared_after op c ≡ c
arithmetic Or c le = absurd (omega (arith, le))
arithmetic And c le = absurd (omega (arith, le))
arithmetic AtMost c le = absurd (omega (arith, le))
arithmetic Equals c le = absurd (omega (arith, le))
arithmetic op c le = refl

-- none comes in a sum
pub after_sum : (e : Expression) (c : std.Bool) → binds e ≡ true → expression_level e ≤ 2 → after c e ≡ c
after_sum (binary a place op b) c h le =
    let k = bound_parts a b op place h in
    after_sum b _ k.right_bound (omega arith) ∙ arithmetic op (after c a) le ∙ after_sum a c k.left_bound (omega (arith, left_below))
after_sum e c h le = refl

-- an expression that may stand before a comparison is none
not_compared : (e : Expression) (c : std.Bool) → binds e ≡ true → expression_level e ≤ 3 → not (after c e) ≡ true → expression_level e ≤ 2
not_compared (binary a place Or b) c h le m = absurd (omega (arith, le))
not_compared (binary a place And b) c h le m = absurd (omega (arith, le))
not_compared (binary a place AtMost b) c h le m =
    let k = bound_parts a b AtMost place h in
    let bad : false ≡ true = sym (ap not (after_sum b true k.right_bound k.right)) ∙ m in
    absurd cc
not_compared (binary a place Equals b) c h le m =
    let k = bound_parts a b Equals place h in
    let bad : false ≡ true = sym (ap not (after_sum b true k.right_bound k.right)) ∙ m in
    absurd cc
not_compared (binary a place op b) c h le m = omega arith
not_compared e c h le m = omega arith

-- so an expression of an operator's level is its left operand where the operator may follow
pub left_close : (op : Infix) (e : Expression) (c : std.Bool) → binds e ≡ true → expression_level e ≤ level_of op → may_follow op (after c e) ≡ true →
    expression_level e ≤ left_level op
left_close AtMost e c h le m = not_compared e c h le m
left_close Equals e c h le m = not_compared e c h le m
left_close op e c h le m = le

-- a comparison may come in an expression of the level
abbrev pub Allows : std.Bool → ℕ → Type 0
Allows true level = level ≤ 2
Allows false level = Unit {0}

pub allows_closer : (c : std.Bool) (k n : ℕ) → k ≤ n → Allows c n → Allows c k
allows_closer true k n le allowed = omega (arith, le, allowed)
allows_closer false k n le allowed = tt

pub allows_sum : (c : std.Bool) (k : ℕ) → k ≤ 2 → Allows c k
allows_sum true k le = le
allows_sum false k le = tt

pub allows_right : (op : Infix) (c : std.Bool) (k : ℕ) → k ≤ right_level op → Allows (compared_after op c) k
allows_right Or c k le = tt
allows_right And c k le = tt
allows_right AtMost c k le = le
allows_right Equals c k le = le
allows_right op c k le = allows_sum c k (omega (arith, le))

none_came : (c : std.Bool) → Allows c 3 → c ≡ false
none_came true allowed = absurd (omega (arith, allowed))
none_came false allowed = refl

pub may_come : (op : Infix) (a : Expression) (c : std.Bool) → binds a ≡ true → expression_level a ≤ left_level op → Allows c (level_of op) →
    may_follow op (after c a) ≡ true
may_come AtMost a c h le allowed = ap not (after_sum a c h le ∙ none_came c allowed)
may_come Equals a c h le allowed = ap not (after_sum a c h le ∙ none_came c allowed)
may_come op a c h le allowed = refl
