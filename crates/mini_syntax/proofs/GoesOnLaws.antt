-- Tokens that are taken go on to a program: what is still expected can be given, and each token taken is put in front of it.
use Rattle.std.proofs.Common.{◌≡◌, ℕ, ◌≤◌, List, [], ◌∷◌, ◌++◌, Option, Some, None, true, false, cond, refl, sym, ap, ap₂, subst, ◌∙◌, append_assoc, arith}
use Rattle.std.{specs.Prelude.{◌&&◌, codes, nat_le}, proofs.lemmas.Bool.{leb-true, leb-false}, proofs.lemmas.List.append-nil}
use Rattle.std.specs.Prelude as std
use Rattle.mini_syntax.{specs.declared.expected.Expected.Expected, specs.declared.lexer.TokenKind.TokenKind, specs.declared.mark.Mark.Mark}
use Rattle.mini_syntax.{specs.declared.operator.Infix.Infix, specs.declared.operator.Prefix.Prefix, specs.declared.operator.Prefix.TheVariants.{Not, Minus}}
use Rattle.mini_syntax.{specs.Expected.{takes, taken, at_start, is_over, same_mark}, specs.Grammar.{Expression, variable, number, truth, unary, binary, group}}
use Rattle.mini_syntax.specs.Grammar.{binds, expression_level, expression_tokens, assign, loop, branch, block, Forms, no_forms, form, Decl, InfixProgram}
use Rattle.mini_syntax.{specs.Grammar.{GoesOn, forms_bind, forms_tokens, decls_tokens, program_tokens}, specs.Precedence.{compared_after, infix_of}}
use Rattle.mini_syntax.{specs.Precedence.{infix_token, level_of, may_follow, right_level}, specs.Tokens.{Token, name_at, number_at, word_at, mark_at, wrong_at}}
use Rattle.mini_syntax.{specs.Tokens.{kind_of, place_of, token_of}, proofs.ExpectedLaws.{none_follows, none_taken, operator_refused, operator_taken}}
use Rattle.mini_syntax.proofs.PrecedenceLaws.{Bound, after, after_sum, both, bound_made, bound_parts, infix_is, left_close, one_above, unary_bound}
use Rattle.mini_syntax.specs.declared.expected.Expected.TheVariants as wants
use Rattle.mini_syntax.specs.declared.lexer.TokenKind.TheVariants as kind
use Rattle.mini_syntax.specs.declared.mark.Mark.TheVariants as mark
use Rattle.mini_syntax.specs.declared.word.Word.TheVariants as word

-- ---- tokens by their kinds

abbrev pub bytes_of : Token → List ℕ
bytes_of (name_at place bytes) = bytes
bytes_of (number_at place digits) = digits
bytes_of (word_at place w) = []
bytes_of (mark_at place m) = []
bytes_of (wrong_at place) = []

pub token_is : (t : Token) → t ≡ token_of (kind_of t) (place_of t) (bytes_of t)
token_is (name_at place bytes) = refl
token_is (number_at place digits) = refl
token_is (word_at place w) = refl
token_is (mark_at place m) = refl
token_is (wrong_at place) = refl

-- ---- what an expression goes on with

record Operand : Type 0 where
  tree : Expression
  close : expression_level tree ≤ 0
  bound : binds tree ≡ true

-- an operator with its right operand
record Step : Type 0 where
  place : ℕ
  op : Infix
  operand : Operand

-- each operator may come
abbrev Follow : std.Bool → List Step → Type 0
Follow c [] = Unit {0}
Follow c (s ∷ ss) = (may_follow s.op c ≡ true) × Follow (compared_after s.op c) ss

record More (c : std.Bool) : Type 0 where
  steps : List Step
  follow : Follow c steps

abbrev steps_tokens : List Step → List Token
steps_tokens [] = []
steps_tokens (s ∷ ss) = infix_token s.place s.op ∷ (expression_tokens s.operand.tree ++ steps_tokens ss)

-- one more operator and operand: within the right operand, where the operator binds so closely
abbrev longer : Expression → ℕ → Infix → Expression → Expression
longer (binary a at o b) place op x =
    cond (nat_le (level_of op) (right_level o)) (binary a at o (longer b place op x)) (binary (binary a at o b) place op x)
longer e place op x = binary e place op x

longer_tokens : (e : Expression) (place : ℕ) (op : Infix) (x : Expression) →
    expression_tokens (longer e place op x) ≡ expression_tokens e ++ infix_token place op ∷ expression_tokens x
longer_tokens (binary a at o b) place op x = pick (nat_le (level_of op) (right_level o)) (longer_tokens b place op x)
  where
    pick : (within : std.Bool) → expression_tokens (longer b place op x) ≡ expression_tokens b ++ infix_token place op ∷ expression_tokens x →
        expression_tokens (cond within (binary a at o (longer b place op x)) (binary (binary a at o b) place op x))
        ≡ (expression_tokens a ++ infix_token at o ∷ expression_tokens b) ++ infix_token place op ∷ expression_tokens x
    pick true e = cc (e, append_assoc (expression_tokens a) (infix_token at o ∷ expression_tokens b) (infix_token place op ∷ expression_tokens x))
    pick false e = refl
longer_tokens e place op x = refl

-- it binds as an expression should, and ends with the operator
record Longer (c : std.Bool) (e : Expression) (op : Infix) (tree : Expression) : Type 0 where
  bound : binds tree ≡ true
  close : (k : ℕ) → expression_level e ≤ k → level_of op ≤ k → expression_level tree ≤ k
  after_is : after c tree ≡ compared_after op (after c e)

around : (e : Expression) (c : std.Bool) (place : ℕ) (op : Infix) (x : Operand) → binds e ≡ true → expression_level e ≤ level_of op →
    may_follow op (after c e) ≡ true → Longer c e op (binary e place op x.tree)
around e c place op x h le may =
    record {
      bound = bound_made e x.tree op place record { left = left_close op e c h le may; right = omega arith; left_bound = h; right_bound = x.bound };
      close = λ k p q. q;
      after_is = after_sum x.tree _ x.bound (omega arith);
    }

longer_binds : (e : Expression) (c : std.Bool) (place : ℕ) (op : Infix) (x : Operand) → binds e ≡ true → may_follow op (after c e) ≡ true →
    Longer c e op (longer e place op x.tree)
longer_binds (binary a at o b) c place op x h may = pick _ refl (bound_parts a b o at h) (longer_binds b _ place op x (bound_parts a b o at h).right_bound may)
  where
    pick : (within : std.Bool) → nat_le (level_of op) (right_level o) ≡ within → Bound a b o →
        Longer (compared_after o (after c a)) b op (longer b place op x.tree) →
        Longer c (binary a at o b) op (cond within (binary a at o (longer b place op x.tree)) (binary (binary a at o b) place op x.tree))
    pick true is k g = record {
      bound = bound_made a _ o at record { left = k.left; right = g.close _ k.right (leb-true _ _ is); left_bound = k.left_bound; right_bound = g.bound };
      close = λ n p q. p;
      after_is = g.after_is;
    }
    pick false is k g =
        let further = leb-false _ _ is in
        around _ c place op x h (omega (arith, further, one_above o)) may
longer_binds e c place op x h may = around e c place op x h (omega arith) may

-- an expression from its operand and what follows
record Whole (x : Expression) (steps : List Step) : Type 0 where
  tree : Expression
  bound : binds tree ≡ true
  tokens : expression_tokens tree ≡ expression_tokens x ++ steps_tokens steps

whole_of : (steps : List Step) (e : Expression) (c : std.Bool) → binds e ≡ true → Follow (after c e) steps → Whole e steps
whole_of [] e c h follow = record { tree = e; bound = h; tokens = sym (append-nil (expression_tokens e)) }
whole_of (s ∷ ss) e c h follow =
    let x = s.operand.tree in
    let g = longer_binds e c s.place s.op s.operand h follow.0 in
    let w = whole_of ss (longer e s.place s.op x) c g.bound (subst (λ d. Follow d ss) (sym g.after_is) follow.1) in
    record { tree = w.tree; bound = w.bound; tokens = rw (w.tokens, longer_tokens e s.place s.op x, append_assoc _ _ (steps_tokens ss)) }

whole : (x : Operand) (m : More false) → Whole x.tree m.steps
whole x m = whole_of m.steps x.tree false x.bound (subst (λ d. Follow d m.steps) (sym (after_sum x.tree false x.bound (omega arith))) m.follow)

-- before what follows
abbrev flat : Operand → More false → List Token → List Token
flat x m ts = expression_tokens x.tree ++ (steps_tokens m.steps ++ ts)

whole_tokens : (x : Operand) (m : More false) (ts : List Token) → expression_tokens (whole x m).tree ++ ts ≡ flat x m ts
whole_tokens x m ts = ap (λ us. us ++ ts) (whole x m).tokens ∙ append_assoc _ _ ts

-- ---- what is given for what is expected

record Named : Type 0 where
  place : ℕ
  bytes : List ℕ

record Statements : Type 0 where
  forms : Forms
  bound : forms_bind forms ≡ true

abbrev Given : Expected → Type 0
Given wants.Name = Named
Given (wants.Mark m) = ℕ
Given wants.Else = ℕ
Given wants.Operand = Operand
Given (wants.MoreExpression c) = More c
Given wants.MoreDeclarations = List Decl
Given wants.MoreStatements = Statements

abbrev given_tokens : (x : Expected) → Given x → List Token
given_tokens wants.Name n = name_at n.place n.bytes ∷ []
given_tokens (wants.Mark m) place = mark_at place m ∷ []
given_tokens wants.Else place = word_at place word.Else ∷ []
given_tokens wants.Operand x = expression_tokens x.tree
given_tokens (wants.MoreExpression c) m = steps_tokens m.steps
given_tokens wants.MoreDeclarations ds = decls_tokens ds
given_tokens wants.MoreStatements fs = forms_tokens fs.forms

abbrev All : List Expected → Type 0
All [] = Unit {0}
All (x ∷ st) = Given x × All st

abbrev all_tokens : (st : List Expected) → All st → List Token
all_tokens [] d = []
all_tokens (x ∷ st) d = given_tokens x d.0 ++ all_tokens st d.1

-- something can be given for whatever is expected
abbrev any_given : (x : Expected) → Given x
any_given wants.Name = record { place = 0; bytes = codes "x" }
any_given (wants.Mark m) = 0
any_given wants.Else = 0
any_given wants.Operand = record { tree = number 0 []; close = omega arith; bound = refl }
any_given (wants.MoreExpression c) = record { steps = []; follow = tt }
any_given wants.MoreDeclarations = []
any_given wants.MoreStatements = record { forms = no_forms; bound = refl }

abbrev any_all : (st : List Expected) → All st
any_all [] = tt
any_all (x ∷ st) = (any_given x, any_all st)

-- ---- one token in front

record Before (st : List Expected) (t : Token) (ts : List Token) : Type 0 where
  all : All st
  is : all_tokens st all ≡ t ∷ ts

pub same_marks : (m n : Mark) → same_mark m n ≡ true → m ≡ n
same_marks mark.Semicolon mark.Semicolon e = refl
same_marks mark.Becomes mark.Becomes e = refl
same_marks mark.AtMost mark.AtMost e = refl
same_marks mark.Equals mark.Equals e = refl
same_marks mark.Plus mark.Plus e = refl
same_marks mark.Minus mark.Minus e = refl
same_marks mark.Times mark.Times e = refl
same_marks mark.Open mark.Open e = refl
same_marks mark.Close mark.Close e = refl
same_marks mark.OpenBlock mark.OpenBlock e = refl
same_marks mark.CloseBlock mark.CloseBlock e = refl
same_marks m n e = cc

-- what is given, with its tokens
record Rest (st : List Expected) (ts : List Token) : Type 0 where
  all : All st
  is : all_tokens st all ≡ ts

at_stack : (st st' : List Expected) (ts : List Token) → Some st ≡ Some st' → Rest st' ts → Rest st ts
at_stack st st' ts e d = let same : st ≡ st' = cc in subst (λ (s : List Expected). Rest s ts) (sym same) d

-- nothing is given for what may be left out
left_out : (x : Expected) (none : Given x) (rest : List Expected) (t : Token) (ts : List Token) → given_tokens x none ≡ [] → Before rest t ts
    → Before (x ∷ rest) t ts
left_out x none rest t ts e d = record { all = (none, d.all); is = ap (λ (us : List Token). us ++ all_tokens rest d.all) e ∙ d.is }

front : (t u : Token) (ts us : List Token) → t ≡ u → us ≡ ts → u ∷ us ≡ t ∷ ts
front t u ts us e f = ap₂ (λ (v : Token) (vs : List Token). v ∷ vs) (sym e) f

shift : (a b c d : List Token) → ((a ++ b) ++ c) ++ d ≡ a ++ (b ++ (c ++ d))
shift a b c d = append_assoc (a ++ b) c d ∙ append_assoc a b (c ++ d)

module _ (x : Operand) (m : More false) where
  group_before : (place q : ℕ) (rest : List Token) → expression_tokens (group place (whole x m).tree q) ++ rest
      ≡ mark_at place mark.Open ∷ flat x m (mark_at q mark.Close ∷ rest)
  group_before place q rest = ap (λ ts. mark_at place mark.Open ∷ ts) (append_assoc _ _ rest ∙ whole_tokens x m _)

  assign_before : (place : ℕ) (bytes : List ℕ) (b q : ℕ) (fs : Forms) (rest : List Token) →
      forms_tokens (form (assign place bytes b (whole x m).tree q) fs) ++ rest
      ≡ name_at place bytes ∷ (mark_at b mark.Becomes ∷ flat x m (mark_at q mark.Semicolon ∷ (forms_tokens fs ++ rest)))
  assign_before place bytes b q fs rest = ap (λ ts. name_at place bytes ∷ mark_at b mark.Becomes ∷ ts) (shift _ _ (forms_tokens fs) rest ∙ whole_tokens x m _)

  loop_before : (place p q : ℕ) (fs gs : Forms) (rest : List Token) →
      forms_tokens (form (loop place (whole x m).tree (block p fs q)) gs) ++ rest
      ≡ word_at place word.While ∷ flat x m (mark_at p mark.OpenBlock ∷ (forms_tokens fs ++ mark_at q mark.CloseBlock ∷ (forms_tokens gs ++ rest)))
  loop_before place p q fs gs rest = ap (λ ts. word_at place word.While ∷ ts) (shift _ _ (forms_tokens gs) rest
      ∙ ap (λ ts. expression_tokens (whole x m).tree ++ mark_at p mark.OpenBlock ∷ ts) (append_assoc _ _ (forms_tokens gs ++ rest)) ∙ whole_tokens x m _)

  branch_before : (place p q l p' q' : ℕ) (fs gs hs : Forms) (rest : List Token) →
      forms_tokens (form (branch place (whole x m).tree (block p fs q) l (block p' gs q')) hs) ++ rest
      ≡ word_at place word.If ∷ flat x m (mark_at p mark.OpenBlock ∷ (forms_tokens fs ++ mark_at q mark.CloseBlock ∷ (word_at l word.Else ∷
      (mark_at p' mark.OpenBlock ∷ (forms_tokens gs ++ mark_at q' mark.CloseBlock ∷ (forms_tokens hs ++ rest))))))
  branch_before place p q l p' q' fs gs hs rest =
      let second : List Token = word_at l word.Else ∷ (mark_at p' mark.OpenBlock ∷ (forms_tokens gs ++ mark_at q' mark.CloseBlock ∷ [])) in
      ap (λ ts. word_at place word.If ∷ ts) (shift _ _ (forms_tokens hs) rest ∙ ap (λ ts. expression_tokens (whole x m).tree ++ mark_at p mark.OpenBlock ∷ ts)
      (shift _ _ second _ ∙ ap (λ ts. forms_tokens fs ++ mark_at q mark.CloseBlock ∷ (word_at l word.Else ∷ (mark_at p' mark.OpenBlock ∷ ts)))
      (append_assoc _ _ (forms_tokens hs ++ rest))) ∙ whole_tokens x m _)

abbrev operand_behind : ℕ → Prefix → Operand → Operand
operand_behind place op x = record { tree = unary place op x.tree; close = omega arith; bound = unary_bound x.tree x.close x.bound }

module _ (t : Token) (place : ℕ) (bytes : List ℕ) where
  -- an operator, and what is given for its right operand and more
  more_back : (c : std.Bool) (rest st' : List Expected) (k : TokenKind) → t ≡ token_of k place bytes → takes (wants.MoreExpression c ∷ rest) k ≡ Some st' →
      (ts : List Token) → Rest st' ts → (takes rest k ≡ Some st' → Before rest t ts) → Before (wants.MoreExpression c ∷ rest) t ts
  more_back c rest st' k is e ts d later = by_operator (infix_of k) refl
    where
      by_follow : (op : Infix) → infix_of k ≡ Some op → (b : std.Bool) → may_follow op c ≡ b → Before (wants.MoreExpression c ∷ rest) t ts
      by_follow op p false may = let bad : None ≡ Some st' = sym (operator_refused op c k rest p may) ∙ e in absurd cc
      by_follow op p true may =
          let next : List Expected = wants.Operand ∷ wants.MoreExpression (compared_after op c) ∷ rest in
          let g = at_stack next st' ts (sym (operator_taken op c k rest p may) ∙ e) d in
          let x = g.all in
          record {
            all = (record { steps = record { place = place; op = op; operand = x.0 } ∷ x.1.0.steps; follow = (may, x.1.0.follow) }, x.1.1);
            is =
                ap (λ (us : List Token). infix_token place op ∷ us)
                (append_assoc (expression_tokens x.0.tree) (steps_tokens x.1.0.steps) (all_tokens rest x.1.1))
                ∙ front t (infix_token place op) ts (all_tokens next x) (is ∙ infix_is op k place bytes (sym p)) g.is;
          }

      by_operator : (o : Option Infix) → infix_of k ≡ o → Before (wants.MoreExpression c ∷ rest) t ts
      by_operator None p =
          left_out (wants.MoreExpression c) record { steps = []; follow = tt } rest t ts refl (later (sym (none_follows c k rest p) ∙ e))
      by_operator (Some op) p = by_follow op p (may_follow op c) refl

  -- what is given after a token, with the token in front
  step_back : (st st' : List Expected) (k : TokenKind) → t ≡ token_of k place bytes → takes st k ≡ Some st' → (ts : List Token) → Rest st' ts → Before st t ts
  step_back [] st' k is e ts d = cc
  step_back (wants.Name ∷ rest) st' kind.Name is e ts d =
      let g = at_stack rest st' ts e d in
      record { all = (record { place = place; bytes = bytes }, g.all); is = front t _ ts _ is g.is }
  step_back (wants.Name ∷ rest) st' k is e ts d = cc
  step_back (wants.Mark m ∷ rest) st' (kind.Mark n) is e ts d = pick (same_mark m n) refl e
    where
      pick : (b : std.Bool) → same_mark m n ≡ b → takes (wants.Mark m ∷ rest) (kind.Mark n) ≡ Some st' → Before (wants.Mark m ∷ rest) t ts
      pick true p e =
          let taken_here : takes (wants.Mark m ∷ rest) (kind.Mark n) ≡ Some rest = rw p refl in
          let g = at_stack rest st' ts (sym taken_here ∙ e) d in
          record { all = (place, g.all); is = front t _ ts _ (is ∙ sym (ap (mark_at place) (same_marks m n p))) g.is }
      pick false p e = cc
  step_back (wants.Mark m ∷ rest) st' k is e ts d = cc
  step_back (wants.Else ∷ rest) st' (kind.Word word.Else) is e ts d =
      let g = at_stack rest st' ts e d in
      record { all = (place, g.all); is = front t _ ts _ is g.is }
  step_back (wants.Else ∷ rest) st' k is e ts d = cc
  step_back (wants.Operand ∷ rest) st' kind.Name is e ts d =
      let g = at_stack rest st' ts e d in
      record { all = (record { tree = variable place bytes; close = omega arith; bound = refl }, g.all); is = front t _ ts _ is g.is }
  step_back (wants.Operand ∷ rest) st' kind.Number is e ts d =
      let g = at_stack rest st' ts e d in
      record { all = (record { tree = number place bytes; close = omega arith; bound = refl }, g.all); is = front t _ ts _ is g.is }
  step_back (wants.Operand ∷ rest) st' (kind.Word (word.Truth b)) is e ts d =
      let g = at_stack rest st' ts e d in
      record { all = (record { tree = truth place b; close = omega arith; bound = refl }, g.all); is = front t _ ts _ is g.is }
  step_back (wants.Operand ∷ rest) st' (kind.Word word.Not) is e ts d =
      let g = at_stack _ st' ts e d in
      record { all = (operand_behind place Not g.all.0, g.all.1); is = front t _ ts _ is g.is }
  step_back (wants.Operand ∷ rest) st' (kind.Mark mark.Minus) is e ts d =
      let g = at_stack _ st' ts e d in
      record { all = (operand_behind place Minus g.all.0, g.all.1); is = front t _ ts _ is g.is }
  step_back (wants.Operand ∷ rest) st' (kind.Mark mark.Open) is e ts d =
      let g = at_stack _ st' ts e d in
      let x = g.all in
      record {
        all = (record { tree = group place (whole x.0 x.1.0).tree x.1.1.0; close = omega arith; bound = (whole x.0 x.1.0).bound }, x.1.1.1);
        is = group_before x.0 x.1.0 place x.1.1.0 _ ∙ front t _ ts _ is g.is;
      }
  step_back (wants.Operand ∷ rest) st' k is e ts d = cc
  step_back (wants.MoreExpression c ∷ rest) st' k is e ts d = more_back c rest st' k is e ts d (λ h. step_back rest st' k is h ts d)
  step_back (wants.MoreDeclarations ∷ rest) st' (kind.Word (word.Sort s)) is e ts d =
      let g = at_stack _ st' ts e d in
      let x = g.all in
      record {
        all = (record { start = place; sort = s; place = x.0.place; name = x.0.bytes; closing = x.1.0 } ∷ x.1.1.0, x.1.1.1);
        is = front t _ ts _ is g.is;
      }
  step_back (wants.MoreDeclarations ∷ rest) st' k is e ts d = left_out wants.MoreDeclarations [] rest t ts refl (step_back rest st' k is e ts d)
  step_back (wants.MoreStatements ∷ rest) st' kind.Name is e ts d =
      let g = at_stack _ st' ts e d in
      let x = g.all.1 in
      let y = x.1.1 in
      let value = whole x.0 x.1.0 in
      record {
        all = (record { forms = form (assign place bytes g.all.0 value.tree y.0) y.1.0.forms; bound = both _ _ value.bound y.1.0.bound }, y.1.1);
        is = assign_before x.0 x.1.0 place bytes g.all.0 y.0 y.1.0.forms _ ∙ front t _ ts _ is g.is;
      }
  step_back (wants.MoreStatements ∷ rest) st' (kind.Word word.While) is e ts d =
      let g = at_stack _ st' ts e d in
      let x = g.all in
      let y = x.1.1 in
      let test = whole x.0 x.1.0 in
      let last = y.1.1.1.0 in
      record {
        all = (
          record {
            forms = form (loop place test.tree (block y.0 y.1.0.forms y.1.1.0)) last.forms;
            bound = both _ _ (both (binds test.tree) (forms_bind y.1.0.forms) test.bound y.1.0.bound) last.bound;
          },
          y.1.1.1.1,
        );
        is = loop_before x.0 x.1.0 place y.0 y.1.1.0 y.1.0.forms last.forms _ ∙ front t _ ts _ is g.is;
      }
  step_back (wants.MoreStatements ∷ rest) st' (kind.Word word.If) is e ts d =
      let g = at_stack _ st' ts e d in
      let x = g.all in
      let y = x.1.1 in
      let z = y.1.1.1 in
      let test = whole x.0 x.1.0 in
      let last = z.1.1.1.1.0 in
      record {
        all = (
          record {
            forms = form (branch place test.tree (block y.0 y.1.0.forms y.1.1.0) z.0 (block z.1.0 z.1.1.0.forms z.1.1.1.0)) last.forms;
            bound = both _ _ (both (binds test.tree) _ test.bound
                (both (forms_bind y.1.0.forms) (forms_bind z.1.1.0.forms) y.1.0.bound z.1.1.0.bound)) last.bound;
          },
          z.1.1.1.1.1,
        );
        is = branch_before x.0 x.1.0 place y.0 y.1.1.0 z.0 z.1.0 z.1.1.1.0 y.1.0.forms _ last.forms _ ∙ front t _ ts _ is g.is;
      }
  step_back (wants.MoreStatements ∷ rest) st' k is e ts d = left_out wants.MoreStatements record { forms = no_forms; bound = refl } rest t ts refl
      (step_back rest st' k is e ts d)

-- all tokens that were taken, in front
taken_back : (ts : List Token) (st st' : List Expected) → taken (Some st) ts ≡ Some st' → (us : List Token) → Rest st' us → Rest st (ts ++ us)
taken_back [] st st' e us d = at_stack st st' us e d
taken_back (t ∷ ts) st st' e us d = pick (takes st (kind_of t)) refl e (λ mid h. taken_back ts mid st' h us d)
  where
    pick : (o : Option (List Expected)) → takes st (kind_of t) ≡ o → taken o ts ≡ Some st'
        → ((mid : List Expected) → taken (Some mid) ts ≡ Some st' → Rest mid (ts ++ us)) → Rest st (t ∷ (ts ++ us))
    pick None p h later = let both = sym (none_taken ts) ∙ h in cc
    pick (Some mid) p h later =
        let b = step_back t (place_of t) (bytes_of t) st mid (kind_of t) (token_is t) p (ts ++ us) (later mid h) in
        record { all = b.all; is = b.is }

program_from : (ts : List Token) → Rest at_start ts → (p : InfixProgram) × (program_tokens p ≡ ts)
program_from ts d = (
  record { decls = d.all.0; forms = d.all.1.0.forms; bound = d.all.1.0.bound },
  ap (λ (us : List Token). decls_tokens d.all.0 ++ us) (sym (append-nil (forms_tokens d.all.1.0.forms))) ∙ d.is,
)

-- a program goes on with tokens that are taken
pub goes_on : (ts : List Token) (st : List Expected) → taken (Some at_start) ts ≡ Some st → GoesOn ts
goes_on ts st e =
    let us = all_tokens st (any_all st) in
    let p = program_from (ts ++ us) (taken_back ts at_start st e us record { all = any_all st; is = refl }) in
    (p.0, us, p.1)

-- nothing is given where everything may be left out
over_rest : (st : List Expected) → is_over st ≡ true → Rest st []
over_rest [] e = record { all = tt; is = refl }
over_rest (wants.MoreExpression c ∷ st) e = let r = over_rest st e in record { all = (record { steps = []; follow = tt }, r.all); is = r.is }
over_rest (wants.MoreDeclarations ∷ st) e = let r = over_rest st e in record { all = ([], r.all); is = r.is }
over_rest (wants.MoreStatements ∷ st) e = let r = over_rest st e in record { all = (record { forms = no_forms; bound = refl }, r.all); is = r.is }
over_rest (x ∷ st) e = cc

-- and they are a program where nothing more is expected
pub is_whole : (ts : List Token) (st : List Expected) → taken (Some at_start) ts ≡ Some st → is_over st ≡ true → (p : InfixProgram) × (program_tokens p ≡ ts)
is_whole ts st e over =
    let p = program_from (ts ++ []) (taken_back ts at_start st e [] (over_rest st over)) in
    (p.0, p.1 ∙ append-nil ts)
