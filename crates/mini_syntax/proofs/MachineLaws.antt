-- What the code does with its stack, whose top is last, is what is done with what is expected.
use Rattle.std.{proofs.Common.{◌≡◌, List, [], ◌∷◌, ◌++◌, Some, None, true, false, refl, sym, ap, ◌∙◌}, specs.Prelude.{◌&&◌, reverse}, specs.List.list_all}
use Rattle.std.proofs.lemmas.List.{reverse-append}
use Rattle.std.specs.Prelude as std
use Rattle.mini_syntax.{specs.declared.expected.Answer.Answer, specs.declared.expected.Answer.TheVariants.{Refused, LeftOut, Then}}
use Rattle.mini_syntax.{specs.declared.expected.Expected.Expected, specs.declared.expected.Push.Push, specs.declared.lexer.TokenKind.TokenKind}
use Rattle.mini_syntax.specs.Expected.{answer_of, answered, is_over, may_be_empty, pushed, takes}

-- what is pushed last comes first
pub stack_more : (old new items : List Expected) → new ≡ old ++ items → reverse new ≡ reverse items ++ reverse old
stack_more old new items e = ap reverse e ∙ reverse-append old items

met : (old new : List Expected) (top : Expected) (k : TokenKind) (a : Answer) → old ≡ new ++ top ∷ [] → a ≡ answer_of top k →
    takes (reverse old) k ≡ answered a (reverse new) (takes (reverse new) k)
met old new top k a e is =
    let turned : reverse old ≡ top ∷ reverse new = stack_more new old (top ∷ []) e in
    ap (λ (st : List Expected). takes st k) turned ∙ ap (λ (b : Answer). answered b (reverse new) (takes (reverse new) k)) (sym is)

pub refused : (old new : List Expected) (top : Expected) (k : TokenKind) → old ≡ new ++ top ∷ [] → Refused ≡ answer_of top k → takes (reverse old) k ≡ None
refused old new top k e is = met old new top k Refused e is

pub left_out : (old new : List Expected) (top : Expected) (k : TokenKind) → old ≡ new ++ top ∷ [] → LeftOut ≡ answer_of top k
    → takes (reverse old) k ≡ takes (reverse new) k
left_out old new top k e is = met old new top k LeftOut e is

pub then_more : (old mid new : List Expected) (top : Expected) (k : TokenKind) (what : Push) → old ≡ mid ++ top ∷ [] → Then what ≡ answer_of top k
    → reverse new ≡ pushed what (reverse mid) →
    takes (reverse old) k ≡ Some (reverse new)
then_more old mid new top k what e is more = met old mid top k (Then what) e is ∙ ap Some (sym more)

-- all may be left out, in either order
all_append : (a b : List Expected) → list_all may_be_empty (a ++ b) ≡ (list_all may_be_empty a && list_all may_be_empty b)
all_append [] b = refl
all_append (x ∷ a) b = ap (λ (c : std.Bool). may_be_empty x && c) (all_append a b) ∙ pick (may_be_empty x) (list_all may_be_empty a) (list_all may_be_empty b)
  where
    pick : (p q r : std.Bool) → (p && (q && r)) ≡ ((p && q) && r)
    pick true q r = refl
    pick false q r = refl

pub over_all : (items : List Expected) → list_all may_be_empty items ≡ is_over (reverse items)
over_all [] = refl
over_all (x ∷ items) =
    let turned : reverse (x ∷ items) ≡ reverse items ++ x ∷ [] = reverse-append (x ∷ []) items in
    ap (λ (c : std.Bool). may_be_empty x && c) (over_all items) ∙ pick _ _ ∙ sym (all_append (reverse items) (x ∷ [])) ∙ ap (list_all may_be_empty) (sym turned)
  where
    pick : (p q : std.Bool) → (p && q) ≡ (q && (p && true))
    pick true true = refl
    pick true false = refl
    pick false true = refl
    pick false false = refl
