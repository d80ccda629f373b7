-- What the reader has read, step by step: what the next tokens complete, and the tree that they make.
use Rattle.std.proofs.Common.{◌≡◌, ℕ, suc, ◌+◌, ◌<◌, ◌≤◌, List, [], ◌∷◌, ◌++◌, map, length, Option, Some, None, is_none, true, false, refl, sym, ap, ap₂, ◌∙◌}
use Rattle.std.{proofs.Common.{append_assoc, arith}, specs.Prelude.{◌&&◌, option_map}, proofs.lemmas.Bool.and_parts, proofs.lemmas.List.append-nil}
use Rattle.std.proofs.lemmas.List.{length-append, map_push}
use Rattle.std.specs.Prelude as std
use Rattle.stack_text.{specs.declared.breach.Breach.Breach, specs.Breaches.{Notes, least, lesser_of, when}, proofs.BreachLaws.{notes_more, notes_none}}
use Rattle.mini_syntax.specs.Breaches.{assigns_breaches, block_breaches, declared_by, decl_breaches, decls_breaches, expression_breaches, expression_sort}
use Rattle.mini_syntax.specs.Breaches.{form_breaches, form_stmt, forms_breaches, forms_stmt, or_first, sort_named, test_breaches, variable_named}
use Rattle.mini_syntax.{specs.Internal.Declaring.{ReadsDecl, ReadsDecls}, specs.declared.expected.Expected.Expected, specs.declared.lexeme.Lexeme.Lexeme}
use Rattle.mini_syntax.{specs.declared.lexer.TokenKind.TokenKind, specs.declared.program.Declared.Declared, specs.declared.program.Statement.Statement}
use Rattle.mini_syntax.{specs.declared.scope.Variable.Variable, specs.declared.sort.Sort.Sort, specs.declared.typed.Typed.Typed, specs.Expected.expression}
use Rattle.mini_syntax.specs.Grammar.{Expression, binds, expression_level, form_binds, block_binds, forms_bind, Form, assign, loop, branch, block, Forms}
use Rattle.mini_syntax.specs.Grammar.{no_forms, form, Decl, block_tokens, decl_tokens, decls_tokens, expression_tokens, form_tokens, forms_tokens}
use Rattle.mini_syntax.{specs.Language.{Exp, Stmt, Nothing, Then}, specs.Precedence.{any_level, infix_of}, specs.Internal.Lexemes.{next_kind, token_seen}}
use Rattle.mini_syntax.{specs.Internal.Phrases.{Completes, IsTyped, Reads, ReadsBlock, ReadsForm, ReadsForms}, specs.ProgramView.{block_in, exp_of}}
use Rattle.mini_syntax.{specs.ProgramView.statement_in, specs.Tokens.{Token, name_at, word_at, mark_at, kind_of, token_of}, proofs.AwaitLaws.moved}
use Rattle.mini_syntax.{proofs.AwaitLaws.no_operator, proofs.ExpectedLaws.expression_leads, proofs.PrecedenceLaws.{after, both, none_at_all, none_closest}}
use Rattle.mini_syntax.specs.declared.expected.Expected.TheVariants as wants
use Rattle.mini_syntax.specs.declared.lexer.TokenKind.TheVariants as kind
use Rattle.mini_syntax.specs.declared.mark.Mark.TheVariants as mark
use Rattle.mini_syntax.specs.declared.word.Word.TheVariants as word
use Rattle.mini_syntax.specs.Language as language

-- ---- one token

-- a token by its kind
pub kind_seen : (l : Lexeme) → kind_of (token_seen l) ≡ l.kind
kind_seen l = pick l.kind
  where
    pick : (k : TokenKind) → kind_of (token_of k l.place l.bytes.now) ≡ k
    pick kind.Name = refl
    pick kind.Number = refl
    pick (kind.Word w) = refl
    pick (kind.Mark m) = refl
    pick kind.Wrong = refl

pub token_by_kind : (l : Lexeme) (k : TokenKind) → l.kind ≡ k → token_seen l ≡ token_of k l.place l.bytes.now
token_by_kind l k e = ap (λ (x : TokenKind). token_of x l.place l.bytes.now) e

-- fewer tokens are left
pub shrinks : (old ts new : List Token) → old ≡ ts ++ new → length new ≤ length old
shrinks old ts new e = omega (arith, ap length e, length-append ts new)

pub one_less : (t : Token) (old new : List Token) → old ≡ t ∷ new → length old ≡ suc (length new)
one_less t old new e = ap length e

-- what a test for nothing returned
pub none_told : {X : Type 0} (found : Option X) (r : std.Bool) → std.is_some found ≡ std.not r → r ≡ is_none found
none_told None true e = refl
none_told None false e = cc
none_told (Some x) true e = cc
none_told (Some x) false e = refl

-- ---- operands

-- one of a token
pub leaf : (ds : List Declared) (l : Lexeme) (k : TokenKind) (tree : Expression) (old new : List Token) (best next : Option Breach) (typed : Typed) →
    old ≡ token_seen l ∷ new → l.kind ≡ k →
    expression_level tree ≤ 0 → binds tree ≡ true → expression_tokens tree ≡ token_of k l.place l.bytes.now ∷ [] → IsTyped ds tree best next typed →
    Reads 0 ds old new best next typed
leaf ds l k tree old new best next typed is e close bound tokens x = record {
  tree = tree;
  close = close;
  bound = bound;
  tokens_are = is ∙ ap (λ (t : Token). t ∷ new) (token_by_kind l k e) ∙ ap (λ (ts : List Token). ts ++ new) (sym tokens);
  typed_as = x;
  ends = none_closest (infix_of (next_kind new));
}

-- ---- expressions

-- what follows an expression
pub after_expression : (ds : List Declared) (old new : List Token) (best next : Option Breach) (typed : Typed) (st : List Expected) →
    Reads any_level ds old new best next typed → Completes (expression st) old → Completes st new
after_expression ds old new best next typed st r c = no_operator _ st new (none_at_all _ r.ends)
    (moved old _ new r.tokens_are (expression_leads r.tree std.false st r.bound tt) c)

-- ---- statements

-- an assignment
pub assignment_read : (ds : List Declared) (l : Lexeme) (becomes closing : ℕ) (old t1 t2 t3 new : List Token) (b1 b2 b3 b4 : Option Breach)
    (found : Option Variable) (index : ℕ) (sort : Option Sort) (value : Typed) (statement : Statement) →
    old ≡ token_seen l ∷ t1 → l.kind ≡ kind.Name → t1 ≡ mark_at becomes mark.Becomes ∷ t2 →
    Reads any_level ds t2 t3 b2 b3 value → t3 ≡ mark_at closing mark.Semicolon ∷ new →
    found ≡ variable_named ds l.bytes.now → Notes b1 (when (is_none found) l.place 6) b2 → sort ≡ option_map (λ (v : Variable). v.sort) found
    → index ≡ (or_first found).index →
    Notes b3 (assigns_breaches becomes sort value.sort) b4 → statement_in statement ≡ language.Assign index (exp_of value.exp)
    → ReadsForm ds old new b1 b4 statement
assignment_read ds l becomes closing old t1 t2 t3 new b1 b2 b3 b4 found index sort value statement is1 named is2 r is3 found_is note1 sort_is index_is
    note2 made =
    let name = l.bytes.now in
    let e = r.tree in
    record {
      tree = assign l.place name becomes e closing;
      bound = r.bound;
      tokens_are =
          is1 ∙ ap₂ (λ (t : Token) (ts : List Token). t ∷ ts) (token_by_kind l kind.Name named) is2
          ∙ ap (λ (ts : List Token). name_at l.place name ∷ mark_at becomes mark.Becomes ∷ ts)
          (r.tokens_are ∙ ap (λ (ts : List Token). expression_tokens e ++ ts) is3
          ∙ sym (append_assoc (expression_tokens e) (mark_at closing mark.Semicolon ∷ []) new));
      means = made ∙ ap₂ language.Assign (index_is ∙ ap (λ (o : Option Variable). (or_first o).index) found_is) r.typed_as.exp_is;
      noted =
          notes_more b1 b2 b4 (when (is_none (variable_named ds name)) l.place 6) (expression_breaches ds e ++ assigns_breaches becomes
          (sort_named ds name) (expression_sort ds e))
          (note1 ∙ ap (λ (o : Option Variable). lesser_of b1 (least (when (is_none o) l.place 6))) found_is)
          (notes_more b2 b3 b4 (expression_breaches ds e) (assigns_breaches becomes (sort_named ds name) (expression_sort ds e)) r.typed_as.noted
          (note2 ∙ ap₂ (λ (s t : Option Sort). lesser_of b3 (least (assigns_breaches becomes s t)))
          (sort_is ∙ ap (option_map (λ (v : Variable). v.sort)) found_is) r.typed_as.sort_is));
    }

-- a `while`
pub while_read : (ds : List Declared) (l : Lexeme) (old t1 t2 new : List Token) (b1 b2 b3 b4 : Option Breach) (test : Typed) (body : List Statement)
    (statement : Statement) →
    old ≡ token_seen l ∷ t1 → l.kind ≡ kind.Word word.While →
    Reads any_level ds t1 t2 b1 b2 test → Notes b2 (test_breaches l.place test.sort) b3 →
    ReadsBlock ds t2 new b3 b4 body → statement_in statement ≡ language.While (exp_of test.exp) (block_in body) → ReadsForm ds old new b1 b4 statement
while_read ds l old t1 t2 new b1 b2 b3 b4 test body statement is begun r note h made =
    let e = r.tree in
    let b = h.tree in
    record {
      tree = loop l.place e b;
      bound = both (binds e) (block_binds b) r.bound h.bound;
      tokens_are =
          is ∙ ap₂ (λ (t : Token) (ts : List Token). t ∷ ts) (token_by_kind l (kind.Word word.While) begun)
          (r.tokens_are ∙ ap (λ (ts : List Token). expression_tokens e ++ ts) h.tokens_are ∙ sym (append_assoc (expression_tokens e) (block_tokens b) new));
      means = made ∙ ap₂ language.While r.typed_as.exp_is h.means;
      noted =
          notes_more b1 b2 b4 (expression_breaches ds e) (test_breaches l.place (expression_sort ds e) ++ block_breaches ds b) r.typed_as.noted
          (notes_more b2 b3 b4 (test_breaches l.place (expression_sort ds e)) (block_breaches ds b)
          (note ∙ ap (λ (s : Option Sort). lesser_of b2 (least (test_breaches l.place s))) r.typed_as.sort_is) h.noted);
    }

-- an `if`
pub if_read : (ds : List Declared) (l : Lexeme) (otherwise : ℕ) (old t1 t2 t3 t4 new : List Token) (b1 b2 b3 b4 b5 : Option Breach) (test : Typed)
    (body other : List Statement) (statement : Statement) →
    old ≡ token_seen l ∷ t1 → l.kind ≡ kind.Word word.If →
    Reads any_level ds t1 t2 b1 b2 test → Notes b2 (test_breaches l.place test.sort) b3 →
    ReadsBlock ds t2 t3 b3 b4 body → t3 ≡ word_at otherwise word.Else ∷ t4 → ReadsBlock ds t4 new b4 b5 other →
    statement_in statement ≡ language.If (exp_of test.exp) (block_in body) (block_in other) → ReadsForm ds old new b1 b5 statement
if_read ds l otherwise old t1 t2 t3 t4 new b1 b2 b3 b4 b5 test body other statement is begun r note h is_else k made =
    let e = r.tree in
    let b = h.tree in
    let c = k.tree in
    let second : List Token = word_at otherwise word.Else ∷ block_tokens c in
    record {
      tree = branch l.place e b otherwise c;
      bound = both (binds e) _ r.bound (both _ _ h.bound k.bound);
      tokens_are = cc (
        is,
        token_by_kind l _ begun,
        r.tokens_are,
        ap (λ ts. expression_tokens e ++ ts) (h.tokens_are ∙ ap (λ ts. block_tokens b ++ ts) (is_else
            ∙ ap (λ ts. word_at otherwise word.Else ∷ ts) k.tokens_are) ∙ sym (append_assoc _ second new)),
        append_assoc _ _ new,
      );
      means = cc (made, r.typed_as.exp_is, h.means, k.means);
      noted = notes_more b1 b2 b5 (expression_breaches ds e) _ r.typed_as.noted (notes_more b2 b3 b5 (test_breaches l.place _) _
          (note ∙ ap (λ s. lesser_of b2 (least (test_breaches l.place s))) r.typed_as.sort_is) (notes_more b3 b4 b5 (block_breaches ds b) _ h.noted k.noted));
    }

-- a block
pub block_read : (ds : List Declared) (place closing : ℕ) (old t1 t2 new : List Token) (b1 b2 : Option Breach) (body : List Statement)
    → old ≡ mark_at place mark.OpenBlock ∷ t1 →
    ReadsForms ds t1 t2 b1 b2 body → t2 ≡ mark_at closing mark.CloseBlock ∷ new → ReadsBlock ds old new b1 b2 body
block_read ds place closing old t1 t2 new b1 b2 body is h is_closed = record {
  tree = block place h.tree closing;
  bound = h.bound;
  tokens_are = is ∙ ap (λ ts. mark_at place mark.OpenBlock ∷ ts) (h.tokens_are ∙ ap (λ ts. forms_tokens h.tree ++ ts) is_closed ∙ sym (append_assoc _ _ new));
  means = h.means;
  noted = h.noted;
}

-- fewer tokens are left after a statement, and no more after a block

some_tokens : (f : Form) → 1 ≤ length (form_tokens f)
some_tokens (assign place name becomes e closing) = omega arith
some_tokens (loop place e b) = omega arith
some_tokens (branch place e b otherwise c) = omega arith

pub form_shrinks : {ds : List Declared} {old new : List Token} {best next : Option Breach} {statement : Statement}
    → ReadsForm ds old new best next statement → length new < length old
form_shrinks {new = new} h = let some = some_tokens h.tree in omega (arith, some, ap length h.tokens_are, length-append (form_tokens h.tree) new)

pub block_shrinks : {ds : List Declared} {old new : List Token} {best next : Option Breach} {body : List Statement}
    → ReadsBlock ds old new best next body → length new ≤ length old
block_shrinks {old = old} {new = new} h = shrinks old (block_tokens h.tree) new h.tokens_are

-- ---- statements in turn

-- forms that were read one after the other
abbrev pub forms_of : List Form → Forms
forms_of [] = no_forms
forms_of (f ∷ fs) = form f (forms_of fs)

forms_push : (fs : List Form) (f : Form) → forms_tokens (forms_of (fs ++ f ∷ [])) ≡ forms_tokens (forms_of fs) ++ form_tokens f
forms_push [] f = append-nil (form_tokens f)
forms_push (g ∷ fs) f = cc (forms_push fs f, append_assoc (form_tokens g) (forms_tokens (forms_of fs)) (form_tokens f))

breaches_push : (ds : List Declared) (fs : List Form) (f : Form) → forms_breaches ds (forms_of (fs ++ f ∷ [])) ≡ forms_breaches ds (forms_of fs)
    ++ form_breaches ds f
breaches_push ds [] f = append-nil (form_breaches ds f)
breaches_push ds (g ∷ fs) f = cc (breaches_push ds fs f, append_assoc (form_breaches ds g) (forms_breaches ds (forms_of fs)) (form_breaches ds f))

binds_push : (fs : List Form) (f : Form) → forms_bind (forms_of fs) ≡ true → form_binds f ≡ true → forms_bind (forms_of (fs ++ f ∷ [])) ≡ true
binds_push [] f h k = both (form_binds f) true k refl
binds_push (g ∷ fs) f h k =
    let l = and_parts (form_binds g) (forms_bind (forms_of fs)) h in
    both (form_binds g) (forms_bind (forms_of (fs ++ f ∷ []))) l.0 (binds_push fs f l.1 k)

means_push : (ds : List Declared) (fs : List Form) (f : Form) (ss : List Statement) (s : Statement) → block_in ss ≡ forms_stmt ds (forms_of fs)
    → length ss ≡ length fs → statement_in s ≡ form_stmt ds f →
    block_in (ss ++ s ∷ []) ≡ forms_stmt ds (forms_of (fs ++ f ∷ []))
means_push ds [] f [] s e n is = ap (λ (x : Stmt). Then x Nothing) is
means_push ds [] f (t ∷ ss) s e n is = absurd (omega (arith, n))
means_push ds (g ∷ fs) f [] s e n is = absurd (omega (arith, n))
means_push ds (g ∷ fs) f (t ∷ ss) s e n is =
    let first : statement_in t ≡ form_stmt ds g = cc in
    let rest : block_in ss ≡ forms_stmt ds (forms_of fs) = cc in
    ap₂ Then first (means_push ds fs f ss s rest (omega (arith, n)) is)

-- the statements so far
pub record SoFar (ds : List Declared) (old new : List Token) (best next : Option Breach) (body : List Statement) : Type 0 where
  pub trees : List Form
  pub bound : forms_bind (forms_of trees) ≡ true
  pub tokens_are : old ≡ forms_tokens (forms_of trees) ++ new
  pub count : length body ≡ length trees
  pub means : block_in body ≡ forms_stmt ds (forms_of trees)
  pub noted : Notes best (forms_breaches ds (forms_of trees)) next

pub so_far_shrinks : {ds : List Declared} {old new : List Token} {best next : Option Breach} {body : List Statement} → SoFar ds old new best next body
    → length new ≤ length old
so_far_shrinks {old = old} {new = new} h = shrinks old (forms_tokens (forms_of h.trees)) new h.tokens_are

pub none_yet : (ds : List Declared) (old : List Token) (best : Option Breach) (body : List Statement) → body ≡ [] → SoFar ds old old best best body
none_yet ds old best body e = record { trees = []; bound = refl; tokens_are = refl; count = ap length e; means = ap block_in e; noted = notes_none best }

pub one_more : (ds : List Declared) (old mid new : List Token) (b1 b2 b3 : Option Breach) (body more : List Statement) (s : Statement)
    → SoFar ds old mid b1 b2 body → ReadsForm ds mid new b2 b3 s →
    more ≡ body ++ s ∷ [] → SoFar ds old new b1 b3 more
one_more ds old mid new b1 b2 b3 body more s h k pushed = record {
  trees = h.trees ++ k.tree ∷ [];
  bound = binds_push h.trees k.tree h.bound k.bound;
  tokens_are = h.tokens_are ∙ ap (λ ts. forms_tokens (forms_of h.trees) ++ ts) k.tokens_are ∙ sym (append_assoc _ _ new)
      ∙ ap (λ ts. ts ++ new) (sym (forms_push h.trees k.tree));
  count = omega (arith, ap length pushed, length-append body (s ∷ []), length-append h.trees (k.tree ∷ []));
  means = ap block_in pushed ∙ means_push ds h.trees k.tree body s h.means h.count k.means;
  noted = notes_more b1 b2 b3 (forms_breaches ds (forms_of h.trees)) _ h.noted k.noted
      ∙ ap (λ bs. lesser_of b1 (least bs)) (sym (breaches_push ds h.trees k.tree));
}

pub all_read : (ds : List Declared) (old new : List Token) (best next : Option Breach) (body : List Statement) → SoFar ds old new best next body →
    ((st : List Expected) → Completes (wants.MoreStatements ∷ st) new → Completes st new) → ReadsForms ds old new best next body
all_read ds old new best next body h ends = record {
  tree = forms_of h.trees;
  bound = h.bound;
  tokens_are = h.tokens_are;
  means = h.means;
  noted = h.noted;
  ends = ends;
}

-- ---- declarations

-- a declaration has three tokens
pub decl_shrinks : {before after : List Declared} {old new : List Token} {best next : Option Breach} → ReadsDecl before after old new best next
    → length old ≡ 3 + length new
decl_shrinks h = omega (arith, ap length h.tokens_are)

decls_push : (ds : List Decl) (d : Decl) → decls_tokens (ds ++ d ∷ []) ≡ decls_tokens ds ++ decl_tokens d
decls_push [] d = refl
decls_push (e ∷ ds) d = ap (λ (ts : List Token). decl_tokens e ++ ts) (decls_push ds d)

decls_breaches-push : (earlier : List Declared) (ds : List Decl) (d : Decl) → decls_breaches earlier (ds ++ d ∷ []) ≡ decls_breaches earlier ds
    ++ decl_breaches (earlier ++ map declared_by ds) d
decls_breaches-push earlier [] d = cc (append-nil (decl_breaches earlier d), append-nil earlier)
decls_breaches-push earlier (e ∷ ds) d = cc (
  decls_breaches-push (earlier ++ declared_by e ∷ []) ds d,
  ap (λ (x : List Declared). decls_breaches (earlier ++ declared_by e ∷ []) ds ++ decl_breaches x d) (append_assoc earlier (declared_by e ∷ [])
      (map declared_by ds)),
  append_assoc (decl_breaches earlier e) (decls_breaches (earlier ++ declared_by e ∷ []) ds) (decl_breaches (earlier ++ declared_by e ∷ map declared_by ds) d),
)

-- the declarations so far
pub record DeclaredSoFar (ds : List Declared) (old new : List Token) (best next : Option Breach) : Type 0 where
  pub trees : List Decl
  pub tokens_are : old ≡ decls_tokens trees ++ new
  pub declared : ds ≡ map declared_by trees
  pub noted : Notes best (decls_breaches [] trees) next

pub none_declared : (ds : List Declared) (old : List Token) (best : Option Breach) → ds ≡ [] → DeclaredSoFar ds old old best best
none_declared ds old best e = record { trees = []; tokens_are = refl; declared = e; noted = notes_none best }

pub one_declared : (before after : List Declared) (old mid new : List Token) (b1 b2 b3 : Option Breach) → DeclaredSoFar before old mid b1 b2
    → ReadsDecl before after mid new b2 b3 → DeclaredSoFar after old new b1 b3
one_declared before after old mid new b1 b2 b3 h k = record {
  trees = h.trees ++ k.tree ∷ [];
  tokens_are = h.tokens_are ∙ ap (λ ts. decls_tokens h.trees ++ ts) k.tokens_are ∙ sym (append_assoc _ _ new)
      ∙ ap (λ ts. ts ++ new) (sym (decls_push h.trees k.tree));
  declared = cc (k.declared, h.declared, map_push declared_by h.trees k.tree);
  noted = notes_more b1 b2 b3 (decls_breaches [] h.trees) _ h.noted k.noted
      ∙ ap (λ ds. lesser_of b1 (least (decls_breaches [] h.trees ++ decl_breaches ds k.tree))) h.declared
      ∙ ap (λ bs. lesser_of b1 (least bs)) (sym (decls_breaches-push [] h.trees k.tree));
}

pub all_declared : (ds : List Declared) (old new : List Token) (best next : Option Breach) → DeclaredSoFar ds old new best next →
    ((st : List Expected) → Completes (wants.MoreDeclarations ∷ st) new → Completes st new) → ReadsDecls ds old new best next
all_declared ds old new best next h ends = record { trees = h.trees; tokens_are = h.tokens_are; declared = h.declared; noted = h.noted; ends = ends }
