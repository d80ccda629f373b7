-- The search as the code keeps it.
use Rattle.std.proofs.Common.{◌≡◌, ℕ, zero, suc, ◌<◌, ◌≤◌, List, [], ◌∷◌, ◌++◌, length, get_or, set, drop, reverse, Bool, true, false, Option, refl, ap, sym}
use Rattle.std.{proofs.Common.{◌∙◌, subst, arith}, proofs.lemmas.List.{append_assoc, drop-append-le, take-append-le, length_push, length-set}, specs.List.All}
use Rattle.std.specs.Global.{Vec}
use Rattle.stack_text.proofs.SharedLaws.{reverse_snoc}
use Rattle.space_cert.{specs.Internal.Search.{earlier, earliest, first_with}, specs.Internal.SearchState.{SearchOf, call_of, done_marks}}
use Rattle.space_cert.{specs.Internal.SearchView.{seen_calls, IsClosing}, specs.declared.search.Search.Search, specs.declared.search.Mark.TheVariants.Done}
use Rattle.space_cert.{proofs.AllLaws.all_left, proofs.MarkLaws.done_marks-push}

pub search_same : (s t : SearchOf) → s.marks ≡ t.marks → s.entered ≡ t.entered → s.todo ≡ t.todo → s.top ≡ t.top → s.below ≡ t.below → s.done ≡ t.done
    → s.first ≡ t.first → s ≡ t
search_same s t a b c d e f g = λ i. record { marks = a i; entered = b i; todo = c i; top = d i; below = e i; done = f i; first = g i }

-- the calls of a procedure, as they are read
pub calls_at : (calls : List (Vec ℕ)) (p : ℕ) (x : Vec ℕ) → p < length calls → x ≡ get_or calls p x → call_of (seen_calls calls) p ≡ x.items
calls_at [] p x lt e = absurd (omega (arith, lt))
calls_at (v ∷ calls) zero x lt e = ap (λ v. v.items) (sym e)
calls_at (v ∷ calls) (suc p) x lt e = calls_at calls p x (omega (arith, lt)) e

pub earliest_push : (ps : List ℕ) (p : ℕ) (first : Option ℕ) → earliest (ps ++ p ∷ []) first ≡ earliest ps (earlier p first)
earliest_push [] p first = refl
earliest_push (x ∷ ps) p first = ap (earlier x) (earliest_push ps p first)

pub first_push : (b : Bool) (ps : List ℕ) (p : ℕ) (first : Option ℕ) → first_with b (ps ++ p ∷ []) first ≡ first_with b ps (first_with b (p ∷ []) first)
first_push true ps p first = earliest_push ps p first
first_push false ps p first = refl

-- one more of the top group is done
pub closes_on : (s t u : Search) (es : List ℕ) (p : ℕ) → IsClosing s t → s.top.first < length t.entered.items → t.entered.items ≡ es ++ p ∷ []
    → u.entered.items ≡ es → u.marks.items ≡ set t.marks.items p Done → u.order.items ≡ t.order.items ++ p ∷ []
    → u.first ≡ first_with t.top.again (p ∷ []) t.first → u.todo.items ≡ t.todo.items → u.top ≡ t.top → u.below.items ≡ t.below.items → u.main ≡ t.main
    → IsClosing s u
closes_on s t u es p h lt is ee em eo ef et ep eb ea = record {
  there = omega (arith, le, ap length ee);
  taken = cc (ee, take-append-le f es (p ∷ []) le, is, h.taken);
  marks_are = (λ i. done_marks (drop f (ee i)) (em i)) ∙ (sym (done_marks-push (drop f es) p _) ∙ (ap (λ x. done_marks x t.marks.items) dropped ∙ h.marks_are));
  order_is = (λ i. drop f (ee i) ++ reverse (eo i)) ∙ (ap (λ x. drop f es ++ x) (reverse_snoc t.order.items p)
      ∙ (sym (append_assoc (drop f es) (p ∷ []) _) ∙ (ap (λ x. x ++ reverse t.order.items) dropped ∙ h.order_is)));
  first_is = (λ i. first_with s.top.again (drop f (ee i)) (ef i))
      ∙ (ap (λ b. first_with s.top.again (drop f es) (first_with b (p ∷ []) t.first)) (ap (λ k. k.again) h.top_is)
      ∙ (sym (first_push s.top.again (drop f es) p t.first) ∙ (ap (λ x. first_with s.top.again x t.first) dropped ∙ h.first_is)));
  within = subst (λ n. All (λ x. x < n) u.entered.items) (sym (ap length em ∙ length-set t.marks.items p Done))
      (subst (All (λ x. x < length t.marks.items)) (sym ee)
      (all_left (λ x. x < length t.marks.items) es (p ∷ []) (subst (All (λ x. x < length t.marks.items)) is h.within)));
  todo_is = et ∙ h.todo_is;
  top_is = ep ∙ h.top_is;
  below_is = eb ∙ h.below_is;
  main_is = ea ∙ h.main_is;
}
  where
    f : ℕ
    f = s.top.first

    le : s.top.first ≤ length es
    le = omega (arith, lt, ap length is, length_push es p)

    dropped : drop s.top.first es ++ p ∷ [] ≡ drop s.top.first t.entered.items
    dropped = sym (drop-append-le s.top.first es (p ∷ []) le) ∙ ap (drop s.top.first) (sym is)
