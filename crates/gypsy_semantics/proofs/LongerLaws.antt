-- What is done within a bound is done the same within each greater one, so a statement has one end.
use Rattle.std.proofs.Common.{◌≡◌, ℕ, zero, suc, ◌+◌, ◌-◌, ◌≤◌, List, Bool, true, false, Some, None, refl, sym, ap, ◌∙◌, subst, arith}
use Rattle.stack_text.specs.Values.{ValueOf}
use Rattle.gypsy_syntax.specs.Programs.{ConditionOf, Program, body_of, Stmt, Skip, NoOp, Signal, Seq, Loop, If, Begin, Call, Apply}
use Rattle.gypsy_syntax.{specs.Predefined.predef_effect, specs.Effects.{value_at, is_true_value}}
use Rattle.gypsy_space.specs.Needs.{StackSizes, with_call, has_room}
use Rattle.gypsy_semantics.{specs.Calls.{CurrentCondition, has_cond, is_leave, values_of, copied_in}, specs.Meaning.{MeaningOutcome, Done, Unfinished, then_do}}
use Rattle.gypsy_semantics.specs.Meaning.{either_way, caught, round_end, applied, returned, if_room, evaluate}

-- where the first is done, the second is the same
abbrev Within : MeaningOutcome → MeaningOutcome → Type 0
Within (Done x c) p = p ≡ Done x c
Within Unfinished p = Unit {0}

same_within : (o : MeaningOutcome) → Within o o
same_within (Done x c) = refl
same_within Unfinished = tt

then_within : (o p : MeaningOutcome) (f g : List ValueOf → MeaningOutcome) → Within o p → ((x : List ValueOf) → Within (f x) (g x))
    → Within (then_do o f) (then_do p g)
then_within (Done x None) p f g w e = subst (λ (r : MeaningOutcome). Within (f x) (then_do r g)) (sym w) (e x)
then_within (Done x (Some c)) p f g w e = ap (λ (r : MeaningOutcome). then_do r g) w
then_within Unfinished p f g w e = tt

either_within : (b : Bool) (o p r t : MeaningOutcome) → Within o r → Within p t → Within (either_way b o p) (either_way b r t)
either_within true o p r t v w = v
either_within false o p r t v w = w

caught_within : (o p : MeaningOutcome) (cs : List ConditionOf) (f g : List ValueOf → MeaningOutcome) → Within o p
    → ((x : List ValueOf) → Within (f x) (g x)) → Within (caught o cs f) (caught p cs g)
caught_within (Done x None) p cs f g w e = ap (λ (r : MeaningOutcome). caught r cs g) w
caught_within (Done x (Some c)) p cs f g w e =
    subst (λ (r : MeaningOutcome). Within (either_way (has_cond c cs) (f x) (Done x (Some c))) (caught r cs g)) (sym w)
    (either_within (has_cond c cs) (f x) (Done x (Some c)) (g x) (Done x (Some c)) (e x) refl)
caught_within Unfinished p cs f g w e = tt

round_within : (o p : MeaningOutcome) (f g : List ValueOf → MeaningOutcome) → Within o p → ((x : List ValueOf) → Within (f x) (g x))
    → Within (round_end o f) (round_end p g)
round_within (Done x None) p f g w e = subst (λ (r : MeaningOutcome). Within (f x) (round_end r g)) (sym w) (e x)
round_within (Done x (Some c)) p f g w e =
    subst (λ (r : MeaningOutcome). Within (either_way (is_leave c) (Done x None) (Done x (Some c))) (round_end r g)) (sym w)
    (either_within (is_leave c) (Done x None) (Done x (Some c)) (Done x None) (Done x (Some c)) refl refl)
round_within Unfinished p f g w e = tt

returned_within : (q : Program) (p : ℕ) (xs : List ℕ) (cs : List ConditionOf) (x : List ValueOf) (o r : MeaningOutcome) → Within o r
    → Within (returned q p xs cs x o) (returned q p xs cs x r)
returned_within q p xs cs x (Done y None) r w = ap (returned q p xs cs x) w
returned_within q p xs cs x (Done y (Some c)) r w = ap (returned q p xs cs x) w
returned_within q p xs cs x Unfinished r w = tt

room_within : (b : Bool) (x : List ValueOf) (o r : MeaningOutcome) → Within o r → Within (if_room b x o) (if_room b x r)
room_within true x o r w = w
room_within false x o r w = refl

-- with one more
next_within : (q : Program) (sizes : StackSizes) (n : ℕ) (s : Stmt) (u : StackSizes) (x : List ValueOf)
    → Within (evaluate q sizes n s u x) (evaluate q sizes (suc n) s u x)
next_within q sizes zero s u x = tt
next_within q sizes (suc n) Skip u x = refl
next_within q sizes (suc n) (NoOp place) u x = refl
next_within q sizes (suc n) (Signal place c) u x = refl
next_within q sizes (suc n) (Seq a b) u x =
    then_within (evaluate q sizes (suc n) a u x) (evaluate q sizes (suc (suc n)) a u x) (evaluate q sizes (suc n) b u) (evaluate q sizes (suc (suc n)) b u)
    (next_within q sizes (suc n) a u x) (next_within q sizes (suc n) b u)
next_within q sizes (suc n) (Loop place s) u x =
    round_within (evaluate q sizes (suc n) s u x) (evaluate q sizes (suc (suc n)) s u x) (evaluate q sizes n (Loop place s) u)
    (evaluate q sizes (suc n) (Loop place s) u)
    (next_within q sizes (suc n) s u x) (next_within q sizes n (Loop place s) u)
next_within q sizes (suc n) (If place b s w) u x =
    either_within (is_true_value (value_at x b)) (evaluate q sizes (suc n) s u x) (evaluate q sizes (suc n) w u x)
    (evaluate q sizes (suc (suc n)) s u x) (evaluate q sizes (suc (suc n)) w u x)
    (next_within q sizes (suc n) s u x) (next_within q sizes (suc n) w u x)
next_within q sizes (suc n) (Begin place s cs w) u x =
    caught_within (evaluate q sizes (suc n) s u x) (evaluate q sizes (suc (suc n)) s u x) cs (evaluate q sizes (suc n) w u) (evaluate q sizes (suc (suc n)) w u)
    (next_within q sizes (suc n) s u x) (next_within q sizes (suc n) w u)
next_within q sizes (suc n) (Call place p xs cs) u x =
    let inner = evaluate q sizes n (body_of q p) (with_call q p u) (copied_in q p xs x) in
    let outer = evaluate q sizes (suc n) (body_of q p) (with_call q p u) (copied_in q p xs x) in
    room_within (has_room q sizes p u) x (returned q p xs cs x inner) (returned q p xs cs x outer)
    (returned_within q p xs cs x inner outer (next_within q sizes n (body_of q p) (with_call q p u) (copied_in q p xs x)))
next_within q sizes (suc n) (Apply place r args) u x = same_within (applied args (predef_effect r (values_of x args)) x)

within_done : (o p : MeaningOutcome) (y : List ValueOf) (c : CurrentCondition) → Within o p → o ≡ Done y c → p ≡ Done y c
within_done o p y c w e = subst (λ (r : MeaningOutcome). Within r p) e w

module _ (q : Program) (sizes : StackSizes) (s : Stmt) (u : StackSizes) (x y : List ValueOf) (c : CurrentCondition) where
  by_more : (k n m : ℕ) → m ≡ k + n → evaluate q sizes n s u x ≡ Done y c → evaluate q sizes m s u x ≡ Done y c
  by_more zero n m e done = let same : n ≡ m = omega arith in subst (λ (i : ℕ). evaluate q sizes i s u x ≡ Done y c) same done
  by_more (suc k) n zero e done = absurd (omega arith)
  by_more (suc k) n (suc m) e done =
      within_done (evaluate q sizes m s u x) (evaluate q sizes (suc m) s u x) y c (next_within q sizes m s u x) (by_more k n m (omega arith) done)

  pub longer : (n m : ℕ) → n ≤ m → evaluate q sizes n s u x ≡ Done y c → evaluate q sizes m s u x ≡ Done y c
  longer n m le done = by_more (m - n) n m (omega arith) done

one_end : (y z : List ValueOf) (c d : CurrentCondition) → Done y c ≡ Done z d → (y ≡ z) × (c ≡ d)
one_end y z c d e = (cc, cc)

pub ends_once : (q : Program) (sizes : StackSizes) (s : Stmt) (u : StackSizes) (x y z : List ValueOf) (c d : CurrentCondition) (n m : ℕ)
    → evaluate q sizes n s u x ≡ Done y c → evaluate q sizes m s u x ≡ Done z d → (y ≡ z) × (c ≡ d)
ends_once q sizes s u x y z c d n m first second =
    one_end y z c d (sym (longer q sizes s u x y c n (n + m) (omega arith) first) ∙ longer q sizes s u x z d m (n + m) (omega arith) second)
