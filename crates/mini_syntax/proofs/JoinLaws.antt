-- What is made of operands that were read.
use Rattle.std.proofs.Common.{ℕ, List, Option, ap, ap₂, ◌∙◌}
use Rattle.stack_text.{specs.declared.breach.Breach.Breach, specs.Breaches.{least, lesser_of}, proofs.BreachLaws.notes_more}
use Rattle.mini_syntax.{specs.declared.operator.Infix.Infix, specs.declared.operator.Prefix.Prefix, specs.declared.program.Declared.Declared}
use Rattle.mini_syntax.{specs.declared.typed.Typed.Typed, specs.Breaches.{expression_breaches, infix_breaches, prefix_breaches}, specs.Grammar.Expression}
use Rattle.mini_syntax.{specs.Grammar.{unary, binary}, specs.Internal.Combined.{IsInfix, IsPrefix}, specs.Internal.Phrases.IsTyped}

module _ (ds : List Declared) (place : ℕ) (b1 b2 b3 : Option Breach) where
  pub unary_typed : (op : Prefix) (e : Expression) (operand typed : Typed) → IsTyped ds e b1 b2 operand → IsPrefix place op operand b2 b3 typed →
      IsTyped ds (unary place op e) b1 b3 typed
  unary_typed op e operand typed x made = record {
    exp_is = cc (made.exp_is, x.exp_is);
    sort_is = made.sort_is;
    noted = notes_more b1 b2 b3 (expression_breaches ds e) _ x.noted (made.noted ∙ ap (λ s. lesser_of b2 (least (prefix_breaches place op s))) x.sort_is);
  }

  pub binary_typed : (b4 : Option Breach) (op : Infix) (a b : Expression) (left right typed : Typed) → IsTyped ds a b1 b2 left → IsTyped ds b b2 b3 right →
      IsInfix place op left right b3 b4 typed → IsTyped ds (binary a place op b) b1 b4 typed
  binary_typed b4 op a b left right typed x y made =
      let faults = infix_breaches place op _ _ in
      record {
        exp_is = cc (made.exp_is, x.exp_is, y.exp_is);
        sort_is = made.sort_is;
        noted = notes_more b1 b2 b4 (expression_breaches ds a) _ x.noted (notes_more b2 b3 b4 (expression_breaches ds b) faults y.noted
            (made.noted ∙ ap₂ (λ s t. lesser_of b3 (least (infix_breaches place op s t))) x.sort_is y.sort_is));
      }
