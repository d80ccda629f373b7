-- A text is one program at most. An expression's tokens are read from left to right, with what stands before the operand that comes
-- next; so each expression is what reading its tokens gives.
use Rattle.std.proofs.Common.{◌≡◌, ◌≢◌, ℕ, ◌<◌, ◌≤◌, List, [], ◌∷◌, ◌++◌, true, false, cond, Option, Some, None, refl, sym, ap, ap₂, subst, ◌∙◌, append_assoc}
use Rattle.std.{proofs.Common.arith, specs.Prelude.{◌&&◌, nat_le}, proofs.lemmas.Bool.{and_parts, le-leb, leb-true, lt-leb}, proofs.lemmas.List.append-nil}
use Rattle.std.specs.Prelude as std
use denote.Struct.Props.{props}
use Rattle.mini_syntax.{specs.declared.lexer.TokenKind.TokenKind, specs.declared.operator.Infix.Infix, specs.declared.operator.Prefix.Prefix}
use Rattle.mini_syntax.{specs.declared.operator.Prefix.TheVariants.{Not, Minus}, specs.Grammar.{Expression, variable, number, truth, unary, binary, group}}
use Rattle.mini_syntax.specs.Grammar.{binds, expression_level, expression_tokens, prefix_token, Form, assign, loop, branch, Block, block, Forms, no_forms, form}
use Rattle.mini_syntax.specs.Grammar.{Decl, InfixProgram, IsProgram, form_binds, block_binds, forms_bind, form_tokens, block_tokens, forms_tokens, decls_tokens}
use Rattle.mini_syntax.{specs.Grammar.program_tokens, specs.Precedence.{any_level, infix_of, infix_token, level_of}, specs.Internal.Lexemes.next_kind}
use Rattle.mini_syntax.{specs.Tokens.{Token, name_at, number_at, word_at, mark_at, kind_of, place_of}, proofs.PrecedenceLaws.{bound_parts, infix_place}}
use Rattle.mini_syntax.proofs.PrecedenceLaws.{infix_seen, left_below, level_in, one_above}
use Rattle.mini_syntax.specs.declared.lexer.TokenKind.TheVariants as kind
use Rattle.mini_syntax.specs.declared.mark.Mark.TheVariants as mark
use Rattle.mini_syntax.specs.declared.word.Word.TheVariants as word

-- ---- what stands before

-- an operator before its operand; a left operand with its operator; a bracket that is open
data Pending : Type 0 where
  sign : (place : ℕ) (op : Prefix) → Pending
  operation : (a : Expression) (place : ℕ) (op : Infix) → Pending
  bracket : (place : ℕ) → Pending

-- an operand, with what stands before it, the nearest first
record Held : Type 0 where
  pending : List Pending
  operand : Expression

-- before an operator of a level, or the end of an expression, the operators that bind as closely have their operand
abbrev reduced : ℕ → List Pending → Expression → Held
reduced k [] x = record { pending = []; operand = x }
reduced k (sign place op ∷ s) x = reduced k s (unary place op x)
reduced k (operation a place op ∷ s) x = cond {A = Held} (nat_le (level_of op) k) (reduced k s
    (binary a place op x)) record { pending = operation a place op ∷ s; operand = x }
reduced k (bracket place ∷ s) x = record { pending = bracket place ∷ s; operand = x }

-- an operand comes next; one was read; an expression was read, and the tokens behind it are left
data Reader : Type 0 where
  wants : List Pending → Reader
  has : List Pending → Expression → Reader
  found : (e : Expression) (rest : List Token) → Reader
  failed : Reader

abbrev closed : List Pending → Expression → ℕ → Reader
closed (bracket place ∷ s) x closing = has s (group place x closing)
closed s x closing = failed

abbrev ended : Held → Token → List Token → Reader
ended h (mark_at closing mark.Close) ts = closed h.pending h.operand closing
ended h t ts = found h.operand (t ∷ ts)

abbrev behind : Option Infix → List Pending → Expression → Token → List Token → Reader
behind (Some op) s x t ts =
    let h : Held = reduced (level_of op) s x in
    wants (operation h.operand (place_of t) op ∷ h.pending)
behind None s x t ts = ended (reduced any_level s x) t ts

abbrev next : Reader → Token → List Token → Reader
next (wants s) (name_at place name) ts = has s (variable place name)
next (wants s) (number_at place digits) ts = has s (number place digits)
next (wants s) (word_at place (word.Truth b)) ts = has s (truth place b)
next (wants s) (word_at place word.Not) ts = wants (sign place Not ∷ s)
next (wants s) (mark_at place mark.Minus) ts = wants (sign place Minus ∷ s)
next (wants s) (mark_at place mark.Open) ts = wants (bracket place ∷ s)
next (wants s) t ts = failed
next (has s x) t ts = behind (infix_of (kind_of t)) s x t ts
next r t ts = r

abbrev reads : Reader → List Token → Reader
reads r [] = r
reads r (t ∷ ts) = reads (next r t ts) ts

stays : (e : Expression) (rest ts : List Token) → reads (found e rest) ts ≡ found e rest
stays e rest [] = refl
stays e rest (t ∷ ts) = stays e rest ts

-- ---- each tree is read

-- what stands before an expression of a level binds looser
abbrev Looser : ℕ → List Pending → Type 0
Looser k [] = Unit {0}
Looser k (sign place op ∷ s) = k ≤ 0
Looser k (operation a place op ∷ s) = k < level_of op
Looser k (bracket place ∷ s) = Unit {0}

looser_closer : (k n : ℕ) (s : List Pending) → k ≤ n → Looser n s → Looser k s
looser_closer k n [] le l = tt
looser_closer k n (sign place op ∷ s) le l = omega (arith, le, l)
looser_closer k n (operation a place op ∷ s) le l = omega (arith, le, l)
looser_closer k n (bracket place ∷ s) le l = tt

-- and an operator behind it doesn't bind closer
abbrev Loose : ℕ → List Token → Type 0
Loose k ts = (op : Infix) → Some op ≡ infix_of (next_kind ts) → k ≤ level_of op

-- what stands before an operator's left operand is left alone
left_alone : (op : Infix) (s : List Pending) (x : Expression) → Looser (level_of op) s → reduced (level_of op) s x ≡ record { pending = s; operand = x }
left_alone op [] x l = refl
left_alone op (sign place o ∷ s) x l = absurd (omega (arith, l, one_above op))
left_alone op (operation a place o ∷ s) x l =
    ap (λ b. cond {A = Held} b (reduced (level_of op) s (binary a place o x)) record { pending = operation a place o ∷ s; operand = x }) (lt-leb _ _ l)
left_alone op (bracket place ∷ s) x l = refl

-- two operands are one where no operator behind them tells them apart
same_operand : (n : ℕ) (s r : List Pending) (x y : Expression) → n ≤ any_level → ((k : ℕ) → n ≤ k → reduced k s x ≡ reduced k r y) →
    (ts : List Token) → Loose n ts → ts ≢ [] → reads (has s x) ts ≡ reads (has r y) ts
same_operand n s r x y le same [] loose some = absurd (some refl)
same_operand n s r x y le same (t ∷ ts) loose some = ap (λ (m : Reader). reads m ts) (pick (infix_of (kind_of t)) (λ op e. loose op e))
  where
    pick : (o : Option Infix) → ((op : Infix) → Some op ≡ o → n ≤ level_of op) → behind o s x t ts ≡ behind o r y t ts
    pick None further = ap (λ (h : Held). ended h t ts) (same any_level le)
    pick (Some op) further = ap (λ (h : Held). wants (operation h.operand (place_of t) op ∷ h.pending)) (same (level_of op) (further op refl))

sign_read : (place : ℕ) (op : Prefix) (s : List Pending) (ts : List Token) → reads (wants s) (prefix_token place op ∷ ts) ≡ reads (wants (sign place op ∷ s)) ts
sign_read place Not s ts = refl
sign_read place Minus s ts = refl

operator_read : (place : ℕ) (op : Infix) (s : List Pending) (a : Expression) (ts : List Token) → Looser (level_of op) s →
    reads (has s a) (infix_token place op ∷ ts) ≡ reads (wants (operation a place op ∷ s)) ts
operator_read place op s a ts l =
    let t : Token = infix_token place op in
    ap (λ (o : Option Infix). reads (behind o s a t ts) ts) (infix_seen place op)
    ∙ ap₂ (λ (h : Held) (p : ℕ). reads (wants (operation h.operand p op ∷ h.pending)) ts) (left_alone op s a l) (infix_place place op)

some_same : (op o : Infix) → Some op ≡ Some o → op ≡ o
some_same op o e = cc

expression_read : (e : Expression) (s : List Pending) (ts : List Token) → binds e ≡ true → Looser (expression_level e) s → Loose (expression_level e) ts →
    ts ≢ [] →
    reads (wants s) (expression_tokens e ++ ts) ≡ reads (has s e) ts
expression_read (variable place name) s ts h l loose some = refl
expression_read (number place digits) s ts h l loose some = refl
expression_read (truth place b) s ts h l loose some = refl
expression_read (unary place op e) s ts h l loose some =
    let k = and_parts _ (binds e) h in
    let closest = leb-true _ 0 k.0 in
    sign_read place op s (expression_tokens e ++ ts) ∙ expression_read e _ ts k.1 closest (λ o is. omega arith) some
    ∙ same_operand 0 _ s e _ (omega arith) (λ n le. refl) ts (λ o is. omega arith) some
expression_read (binary a place op b) s ts h l loose some =
    let k = bound_parts a b op place h in
    let further : expression_level a ≤ level_of op = omega (arith, left_below) in
    let closer : expression_level b < level_of op = omega (arith, one_above) in
    let us : List Token = infix_token place op ∷ (expression_tokens b ++ ts) in
    let loose_left : Loose (expression_level a) us =
    λ o is. (let same : op ≡ o = some_same op o (sym (infix_seen place op) ∙ sym is) in subst (λ q. expression_level a ≤ level_of q) same further) in
    ap (reads (wants s)) (append_assoc (expression_tokens a) _ ts) ∙ expression_read a s us k.left_bound (looser_closer _ _ s further l) loose_left (λ e. cc)
    ∙ operator_read place op s a (expression_tokens b ++ ts) l ∙ expression_read b _ ts k.right_bound closer (λ o is. (let le = loose o is in omega arith)) some
    ∙ same_operand _ _ s b _ (level_in op)
    (λ n le. ap (λ (c : std.Bool). cond {A = Held} c (reduced n s (binary a place op b)) record { pending = operation a place op ∷ s; operand = b })
    (le-leb (level_of op) n le)) ts loose some
expression_read (group place e closing) s ts h l loose some = cc (
  append_assoc (expression_tokens e) (mark_at closing mark.Close ∷ []) ts,
  expression_read e (bracket place ∷ s) (mark_at closing mark.Close ∷ ts) h tt (λ o is. absurd cc) (λ e. cc),
)

-- an expression ends before a semicolon or a block
data IsEnd : Token → Type 0 where
  semicolon : (place : ℕ) → IsEnd (mark_at place mark.Semicolon)
  opening : (place : ℕ) → IsEnd (mark_at place mark.OpenBlock)

is_found : (e : Expression) (t : Token) (us : List Token) → binds e ≡ true → IsEnd t → reads (wants []) (expression_tokens e ++ t ∷ us) ≡ found e (t ∷ us)
is_found e t us h end = expression_read e [] (t ∷ us) h tt (λ o is. no_operator t o end is) (λ is. cc) ∙ all_read t end
  where
    no_operator : (u : Token) (o : Infix) → IsEnd u → Some o ≡ infix_of (kind_of u) → expression_level e ≤ level_of o
    no_operator u o (semicolon place) is = absurd cc
    no_operator u o (opening place) is = absurd cc

    all_read : (u : Token) → IsEnd u → reads (has [] e) (u ∷ us) ≡ found e (u ∷ us)
    all_read u (semicolon place) = stays e (mark_at place mark.Semicolon ∷ us) us
    all_read u (opening place) = stays e (mark_at place mark.OpenBlock ∷ us) us

record Same {X : Type 0} (x y : X) (us vs : List Token) : Type 0 where
  tree : x ≡ y
  rest : us ≡ vs

expression_same : (e f : Expression) (t u : Token) (us vs : List Token) → binds e ≡ true → binds f ≡ true → IsEnd t → IsEnd u →
    expression_tokens e ++ t ∷ us ≡ expression_tokens f ++ u ∷ vs → Same e f (t ∷ us) (u ∷ vs)
expression_same e f t u us vs h k a b is =
    let both : found e (t ∷ us) ≡ found f (u ∷ vs) = sym (is_found e t us h a) ∙ ap (reads (wants [])) is ∙ is_found f u vs k b in
    record { tree = cc; rest = cc }

-- ---- statements

-- statements end before a brace, or with the text
data AreOver : List Token → Type 0 where
  at_end : AreOver []
  at_brace : (place : ℕ) (us : List Token) → AreOver (mark_at place mark.CloseBlock ∷ us)

-- no statement begins where they are over
none_begins : (g : Form) (ts us vs : List Token) → AreOver us → us ≡ (form_tokens g ++ ts) ++ vs → ⊥
none_begins (assign p n b e q) ts us vs at_end is = cc
none_begins (assign p n b e q) ts us vs (at_brace place ws) is = cc
none_begins (loop p e b) ts us vs at_end is = cc
none_begins (loop p e b) ts us vs (at_brace place ws) is = cc
none_begins (branch p e b l c) ts us vs at_end is = cc
none_begins (branch p e b l c) ts us vs (at_brace place ws) is = cc

-- a block begins with a brace
abbrev opening_of : Block → ℕ
opening_of (block p fs q) = p

abbrev inner_of : Block → List Token
inner_of (block p fs q) = forms_tokens fs ++ mark_at q mark.CloseBlock ∷ []

block_is : (b : Block) → block_tokens b ≡ mark_at (opening_of b) mark.OpenBlock ∷ inner_of b
block_is (block p fs q) = refl

-- an expression and the block behind it
before_block : (e f : Expression) (b c : Block) (us vs : List Token) → binds e ≡ true → binds f ≡ true →
    (expression_tokens e ++ (block_tokens b ++ us)) ≡ (expression_tokens f ++ (block_tokens c ++ vs)) →
    Same e f (block_tokens b ++ us) (block_tokens c ++ vs)
before_block e f b c us vs g k is =
    let at : List Token = inner_of b ++ us in
    let there : List Token = inner_of c ++ vs in
    let left : block_tokens b ++ us ≡ mark_at (opening_of b) mark.OpenBlock ∷ at = ap (λ (ts : List Token). ts ++ us) (block_is b) in
    let right : block_tokens c ++ vs ≡ mark_at (opening_of c) mark.OpenBlock ∷ there = ap (λ (ts : List Token). ts ++ vs) (block_is c) in
    let h = expression_same e f _ _ at there g k (opening (opening_of b)) (opening (opening_of c))
    (ap (λ (ts : List Token). expression_tokens e ++ ts) (sym left) ∙ is ∙ ap (λ (ts : List Token). expression_tokens f ++ ts) right) in
    record { tree = h.tree; rest = left ∙ h.rest ∙ sym right }

mutual
  form_same : (f g : Form) (us vs : List Token) → form_binds f ≡ true → form_binds g ≡ true → form_tokens f ++ us ≡ form_tokens g ++ vs → Same f g us vs
  form_same (assign p n b e q) (assign p' n' b' e' q') us vs x y is =
      let tails : (expression_tokens e ++ mark_at q mark.Semicolon ∷ []) ++ us ≡ (expression_tokens e' ++ mark_at q' mark.Semicolon ∷ []) ++ vs = cc in
      let h = expression_same e e' (mark_at q mark.Semicolon) (mark_at q' mark.Semicolon) us vs x y (semicolon q) (semicolon q')
      (sym (append_assoc (expression_tokens e) (mark_at q mark.Semicolon ∷ []) us) ∙ tails
      ∙ append_assoc (expression_tokens e') (mark_at q' mark.Semicolon ∷ []) vs) in
      record { tree = cc; rest = cc }
  form_same (assign p n b e q) (loop p' e' b') us vs x y is = cc
  form_same (assign p n b e q) (branch p' e' b' l' c') us vs x y is = cc
  form_same (loop p e b) (assign p' n' b' e' q') us vs x y is = cc
  form_same (loop p e b) (loop p' e' b') us vs x y is =
      let bound = and_parts (binds e) (block_binds b) x in
      let bound' = and_parts (binds e') (block_binds b') y in
      let tails : (expression_tokens e ++ block_tokens b) ++ us ≡ (expression_tokens e' ++ block_tokens b') ++ vs = cc in
      let h = before_block e e' b b' us vs bound.0 bound'.0
      (sym (append_assoc (expression_tokens e) (block_tokens b) us) ∙ tails ∙ append_assoc (expression_tokens e') (block_tokens b') vs) in
      let k = block_same b b' us vs bound.1 bound'.1 h.rest in
      record { tree = cc; rest = k.rest }
  form_same (loop p e b) (branch p' e' b' l' c') us vs x y is = cc
  form_same (branch p e b l c) (assign p' n' b' e' q') us vs x y is = cc
  form_same (branch p e b l c) (loop p' e' b') us vs x y is = cc
  form_same (branch p e b l c) (branch p' e' b' l' c') us vs x y is =
      let bound = and_parts (binds e) (block_binds b && block_binds c) x in
      let bound' = and_parts (binds e') (block_binds b' && block_binds c') y in
      let blocks = and_parts (block_binds b) (block_binds c) bound.1 in
      let blocks' = and_parts (block_binds b') (block_binds c') bound'.1 in
      let second : List Token = word_at l word.Else ∷ block_tokens c in
      let second' : List Token = word_at l' word.Else ∷ block_tokens c' in
      let tails : (expression_tokens e ++ (block_tokens b ++ second)) ++ us ≡ (expression_tokens e' ++ (block_tokens b' ++ second')) ++ vs = cc in
      let h = before_block e e' b b' _ _ bound.0 bound'.0 (sym (ap (λ (ts : List Token). expression_tokens e ++ ts) (append_assoc (block_tokens b) second us))
      ∙ sym (append_assoc (expression_tokens e) (block_tokens b ++ second) us) ∙ tails ∙ append_assoc (expression_tokens e') (block_tokens b' ++ second') vs
      ∙ ap (λ (ts : List Token). expression_tokens e' ++ ts) (append_assoc (block_tokens b') second' vs)) in
      let k = block_same b b' _ _ blocks.0 blocks'.0 h.rest in
      let last : block_tokens c ++ us ≡ block_tokens c' ++ vs = cc in
      let m = block_same c c' us vs blocks.1 blocks'.1 last in
      record { tree = cc; rest = m.rest }

  block_same : (b c : Block) (us vs : List Token) → block_binds b ≡ true → block_binds c ≡ true → block_tokens b ++ us ≡ block_tokens c ++ vs → Same b c us vs
  block_same (block p fs q) (block p' fs' q') us vs x y is =
      let tails : (forms_tokens fs ++ mark_at q mark.CloseBlock ∷ []) ++ us ≡ (forms_tokens fs' ++ mark_at q' mark.CloseBlock ∷ []) ++ vs = cc in
      let h = forms_same fs fs' (mark_at q mark.CloseBlock ∷ us) (mark_at q' mark.CloseBlock ∷ vs) x y (at_brace q us) (at_brace q' vs)
      (sym (append_assoc (forms_tokens fs) (mark_at q mark.CloseBlock ∷ []) us) ∙ tails
      ∙ append_assoc (forms_tokens fs') (mark_at q' mark.CloseBlock ∷ []) vs) in
      record { tree = cc; rest = cc }

  forms_same : (fs gs : Forms) (us vs : List Token) → forms_bind fs ≡ true → forms_bind gs ≡ true → AreOver us → AreOver vs →
      forms_tokens fs ++ us ≡ forms_tokens gs ++ vs → Same fs gs us vs
  forms_same no_forms no_forms us vs x y a b is = record { tree = refl; rest = is }
  forms_same no_forms (form g gs) us vs x y a b is = absurd (none_begins g (forms_tokens gs) us vs a is)
  forms_same (form f fs) no_forms us vs x y a b is = absurd (none_begins f (forms_tokens fs) vs us b (sym is))
  forms_same (form f fs) (form g gs) us vs x y a b is =
      let bound = and_parts _ _ x in
      let bound' = and_parts _ _ y in
      let h = form_same f g (forms_tokens fs ++ us) (forms_tokens gs ++ vs) bound.0 bound'.0 (sym (append_assoc _ (forms_tokens fs) us)
      ∙ is ∙ append_assoc _ (forms_tokens gs) vs) in
      let k = forms_same fs gs us vs bound.1 bound'.1 a b h.rest in
      record { tree = cc; rest = k.rest }

-- ---- programs

abbrev begins_decl : TokenKind → std.Bool
begins_decl (kind.Word (word.Sort s)) = true
begins_decl k = false

decls_same : (ds es : List Decl) (us vs : List Token) → begins_decl (next_kind us) ≡ false → begins_decl (next_kind vs) ≡ false
    → decls_tokens ds ++ us ≡ decls_tokens es ++ vs → Same ds es us vs
decls_same [] [] us vs a b is = record { tree = refl; rest = is }
decls_same [] (e ∷ es) us vs a b is = let bad = sym a ∙ ap (λ (ts : List Token). begins_decl (next_kind ts)) is in cc
decls_same (d ∷ ds) [] us vs a b is = let bad = sym b ∙ ap (λ (ts : List Token). begins_decl (next_kind ts)) (sym is) in cc
decls_same (d ∷ ds) (e ∷ es) us vs a b is =
    let same_start : d.start ≡ e.start = cc in
    let same_sort : d.sort ≡ e.sort = cc in
    let same_place : d.place ≡ e.place = cc in
    let same_name : d.name ≡ e.name = cc in
    let same_closing : d.closing ≡ e.closing = cc in
    let tails : decls_tokens ds ++ us ≡ decls_tokens es ++ vs = cc in
    let h = decls_same ds es us vs a b tails in
    let same_d : d ≡ e = λ i. record { start = same_start i; sort = same_sort i; place = same_place i; name = same_name i; closing = same_closing i } in
    let same_ds : ds ≡ es = h.tree in
    record { tree = cc; rest = h.rest }

none_declares : (fs : Forms) → begins_decl (next_kind (forms_tokens fs)) ≡ false
none_declares no_forms = refl
none_declares (form (assign p n b e q) fs) = refl
none_declares (form (loop p e b) fs) = refl
none_declares (form (branch p e b l c) fs) = refl

abbrev made : (ds : List Decl) (fs : Forms) → forms_bind fs ≡ true → InfixProgram
made ds fs bound = record { decls = ds; forms = fs; bound = bound }

one_program : (ds es : List Decl) (fs gs : Forms) (b : forms_bind fs ≡ true) (c : forms_bind gs ≡ true) → ds ≡ es → fs ≡ gs → made ds fs b ≡ made es gs c
one_program ds es fs gs b c same_decls same_forms =
    let once : IsProp (forms_bind fs ≡ true) = hlevel props in
    subst (λ (x : Forms). (d : forms_bind x ≡ true) → made ds fs b ≡ made es x d) same_forms (λ d i. made (same_decls i) fs (once b d i)) c

program_same : (p q : InfixProgram) → program_tokens p ≡ program_tokens q → p ≡ q
program_same p q is =
    let h = decls_same p.decls q.decls _ _ (none_declares p.forms) (none_declares q.forms) is in
    let k = forms_same p.forms q.forms [] [] p.bound q.bound at_end at_end (append-nil _ ∙ h.rest ∙ sym (append-nil (forms_tokens q.forms))) in
    one_program p.decls q.decls p.forms q.forms p.bound q.bound h.tree k.tree

pub program_is : (text : List ℕ) (p q : InfixProgram) → IsProgram text p → IsProgram text q → p ≡ q
program_is text p q a b = program_same p q (sym a ∙ b)
