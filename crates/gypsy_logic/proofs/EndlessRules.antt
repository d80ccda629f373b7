-- Rules by which a program is shown never to end: an invariant of a loop that no round leaves, and how the statements round that loop
-- are reached.
use Rattle.std.proofs.Common.{◌≡◌, ℕ, zero, suc, List, map, Bool, true, false, Some, None, refl, ap, ◌∙◌, ◌⊎◌, inl, inr}
use Rattle.stack_text.specs.Values.{ValueOf}
use Rattle.gypsy_syntax.specs.Programs.{ConditionOf, Leave, Routine, Space, Declared, Program, body_of, Stmt, Seq, Loop, If, Begin, Call}
use Rattle.gypsy_syntax.specs.Effects.{value_at, is_true_value}
use Rattle.gypsy_space.specs.Needs.{StackSizes, main_used, with_call, has_room}
use Rattle.gypsy_semantics.{specs.Calls.{CurrentCondition, copied_in, main_start}, specs.Meaning.{MeaningOutcome, Done, Unfinished, then_do, either_way}}
use Rattle.gypsy_semantics.{specs.Meaning.{caught, round_end, returned, if_room, evaluate, main_end}, proofs.LongerLaws.ends_once}
use Rattle.gypsy_logic.{specs.Runs.Runs, specs.Ends.{Condition, Ends, Then, Round, opened}, specs.Endless.{Endless, IsEndless, NoExit}}

module _ {q : Program} {sizes u : StackSizes} where
  -- within a bound a statement that ends is unfinished, or ends so
  within : (n : ℕ) (s : Stmt) (x y : List ValueOf) (c : CurrentCondition) → Runs q sizes u s x y c → (o : MeaningOutcome) → evaluate q sizes n s u x ≡ o
      → (o ≡ Unfinished) ⊎ (o ≡ Done y c)
  within n s x y c r Unfinished e = inl refl
  within n s x y c r (Done z d) e =
      let same = ends_once q sizes s u x z y d c n r.bound e r.done in
      inr (ap (λ (w : List ValueOf). Done w d) same.0 ∙ ap (Done y) same.1)

  -- ---- one after the other

  pub first_endless : {a b : Stmt} {x : List ValueOf} → Endless q sizes u a x → Endless q sizes u (Seq a b) x
  first_endless {a = a} {b = b} {x = x} e = record { unfinished = never_done }
    where
      never_done : (n : ℕ) → evaluate q sizes n (Seq a b) u x ≡ Unfinished
      never_done zero = refl
      never_done (suc n) = ap (λ (o : MeaningOutcome). then_do o (evaluate q sizes (suc n) b u)) (e.unfinished (suc n))

  pub seq_endless : {a b : Stmt} {x : List ValueOf} → Ends q sizes u a x (Then (λ y. Endless q sizes u b y) NoExit) → Endless q sizes u (Seq a b) x
  seq_endless {a = a} {b = b} {x = x} h = record { unfinished = never_done }
    where
      after : (n : ℕ) (y : List ValueOf) (c : CurrentCondition) → Then (λ z. Endless q sizes u b z) NoExit y c → (o : MeaningOutcome) → (o ≡ Unfinished)
          ⊎ (o ≡ Done y c) → then_do o (evaluate q sizes n b u) ≡ Unfinished
      after n y c k o (inl e) = ap (λ (p : MeaningOutcome). then_do p (evaluate q sizes n b u)) e
      after n y None k o (inr e) = ap (λ (p : MeaningOutcome). then_do p (evaluate q sizes n b u)) e ∙ k.unfinished n
      after n y (Some c) k o (inr e) = absurd k

      never_done : (n : ℕ) → evaluate q sizes n (Seq a b) u x ≡ Unfinished
      never_done zero = refl
      never_done (suc n) = after (suc n) h.vars h.way h.holds (evaluate q sizes (suc n) a u x)
          (within (suc n) a x h.vars h.way h.runs (evaluate q sizes (suc n) a u x) refl)

  -- ---- one or the other

  pub if_true_endless : {place b : ℕ} {s w : Stmt} {x : List ValueOf} → is_true_value (value_at x b) ≡ true → Endless q sizes u s x
      → Endless q sizes u (If place b s w) x
  if_true_endless {place = place} {b = b} {s = s} {w = w} {x = x} t e = record { unfinished = never_done }
    where
      never_done : (n : ℕ) → evaluate q sizes n (If place b s w) u x ≡ Unfinished
      never_done zero = refl
      never_done (suc n) = ap (λ (d : Bool). either_way d (evaluate q sizes (suc n) s u x) (evaluate q sizes (suc n) w u x)) t ∙ e.unfinished (suc n)

  pub if_false_endless : {place b : ℕ} {s w : Stmt} {x : List ValueOf} → is_true_value (value_at x b) ≡ false → Endless q sizes u w x
      → Endless q sizes u (If place b s w) x
  if_false_endless {place = place} {b = b} {s = s} {w = w} {x = x} t e = record { unfinished = never_done }
    where
      never_done : (n : ℕ) → evaluate q sizes n (If place b s w) u x ≡ Unfinished
      never_done zero = refl
      never_done (suc n) = ap (λ (d : Bool). either_way d (evaluate q sizes (suc n) s u x) (evaluate q sizes (suc n) w u x)) t ∙ e.unfinished (suc n)

  -- ---- handlers

  pub begin_endless : {place : ℕ} {s : Stmt} {cs : List ConditionOf} {w : Stmt} {x : List ValueOf} → Endless q sizes u s x
      → Endless q sizes u (Begin place s cs w) x
  begin_endless {place = place} {s = s} {cs = cs} {w = w} {x = x} e = record { unfinished = never_done }
    where
      never_done : (n : ℕ) → evaluate q sizes n (Begin place s cs w) u x ≡ Unfinished
      never_done zero = refl
      never_done (suc n) = ap (λ (o : MeaningOutcome). caught o cs (evaluate q sizes (suc n) w u)) (e.unfinished (suc n))

  -- ---- loops

  module _ (place : ℕ) (s : Stmt) (I : Condition) (each : (x : List ValueOf) → I x → Ends q sizes u s x (Round I NoExit)) where
    goes_on : (n : ℕ) (y : List ValueOf) (c : CurrentCondition) → Round I NoExit y c
        → ((z : List ValueOf) → I z → evaluate q sizes n (Loop place s) u z ≡ Unfinished) → (o : MeaningOutcome) → (o ≡ Unfinished) ⊎ (o ≡ Done y c)
        → round_end o (evaluate q sizes n (Loop place s) u) ≡ Unfinished
    goes_on n y c k again o (inl e) = ap (λ (p : MeaningOutcome). round_end p (evaluate q sizes n (Loop place s) u)) e
    goes_on n y None k again o (inr e) = ap (λ (p : MeaningOutcome). round_end p (evaluate q sizes n (Loop place s) u)) e ∙ again y k
    goes_on n y (Some Leave) k again o (inr e) = absurd k
    goes_on n y (Some Routine) k again o (inr e) = absurd k
    goes_on n y (Some Space) k again o (inr e) = absurd k
    goes_on n y (Some (Declared i)) k again o (inr e) = absurd k

    for_ever : (n : ℕ) (x : List ValueOf) → I x → evaluate q sizes n (Loop place s) u x ≡ Unfinished
    for_ever zero x i = refl
    for_ever (suc n) x i =
        let r = each x i in
        goes_on n r.vars r.way r.holds (λ z j. for_ever n z j) (evaluate q sizes (suc n) s u x)
        (within (suc n) s x r.vars r.way r.runs (evaluate q sizes (suc n) s u x) refl)

  -- An invariant that each round keeps, and that no round leaves.
  pub loop_endless : {place : ℕ} {s : Stmt} {x : List ValueOf} (I : Condition) → ((y : List ValueOf) → I y → Ends q sizes u s y (Round I NoExit)) → I x
      → Endless q sizes u (Loop place s) x
  loop_endless {place = place} {s = s} {x = x} I each i = record { unfinished = λ n. for_ever place s I each n x i }

  -- ---- calls of procedures

  pub call_endless : {place p : ℕ} {xs : List ℕ} {cs : List ConditionOf} {x : List ValueOf} → has_room q sizes p u ≡ true
      → Endless q sizes (with_call q p u) (body_of q p) (opened q p (map (value_at x) xs)) → Endless q sizes u (Call place p xs cs) x
  unfolding copied_in
  call_endless {place = place} {p = p} {xs = xs} {cs = cs} {x = x} room e = record { unfinished = never_done }
    where
      never_done : (n : ℕ) → evaluate q sizes n (Call place p xs cs) u x ≡ Unfinished
      never_done zero = refl
      never_done (suc n) =
          ap (λ (b : Bool). if_room b x (returned q p xs cs x (evaluate q sizes n (body_of q p) (with_call q p u) (copied_in q p xs x)))) room
          ∙ ap (returned q p xs cs x) (e.unfinished n)

-- main
pub main_endless : {q : Program} {sizes : StackSizes} {v : List ValueOf} → Endless q sizes (main_used q) (body_of q q.main) (opened q q.main v)
    → IsEndless q sizes v
unfolding main_start
main_endless {q = q} e = record { unfinished = λ n. ap (main_end q) (e.unfinished n) }
