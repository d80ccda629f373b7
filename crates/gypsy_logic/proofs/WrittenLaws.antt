-- A statement changes no variable that it doesn't write.
use Rattle.std.{proofs.Common.{◌≡◌, ℕ, zero, suc, List, [], ◌∷◌, ◌++◌, Bool, true, false, Some, None, refl, ◌∙◌, subst}, proofs.lemmas.List.get_or-set_other}
use Rattle.stack_text.specs.Values.{ValueOf}
use Rattle.gypsy_syntax.specs.Programs.{ConditionOf, Arg, Program, body_of, Stmt, Skip, NoOp, Signal, Seq, Loop, If, Begin, Call, Apply}
use Rattle.gypsy_syntax.{specs.Predefined.predef_effect, specs.ProgramFits.Misses, specs.Effects.{Effect, Normal, Fault, Beyond, no_value, value_at}}
use Rattle.gypsy_syntax.specs.Effects.{is_true_value}
use Rattle.gypsy_space.specs.Needs.{StackSizes, with_call, has_room}
use Rattle.gypsy_semantics.{specs.Calls.{CurrentCondition, has_cond, is_leave, values_of, target_of, copied_in}, specs.Meaning.{MeaningOutcome, Done}}
use Rattle.gypsy_semantics.specs.Meaning.{Unfinished, then_do, either_way, caught, round_end, applied, returned, if_room, evaluate}
use Rattle.gypsy_semantics.proofs.LendingLaws.{copied_miss}
use Rattle.gypsy_logic.{specs.Runs.Runs, specs.Written.{written, KeepsOthers}}

-- ---- which variables a list misses

misses_first : (b : ℕ) (ms bs : List ℕ) → Misses b (ms ++ bs) → Misses b ms
misses_first b [] bs m = tt
misses_first b (a ∷ ms) bs m = (m.0, misses_first b ms bs m.1)

misses_second : (b : ℕ) (ms bs : List ℕ) → Misses b (ms ++ bs) → Misses b bs
misses_second b [] bs m = m
misses_second b (a ∷ ms) bs m = misses_second b ms bs m.1

-- ---- keeping

pub keeps_all : (bs : List ℕ) (x : List ValueOf) → KeepsOthers bs x x
keeps_all bs x b m = refl

-- what an outcome keeps of x
abbrev Keeping : List ℕ → List ValueOf → MeaningOutcome → Type 0
Keeping bs x (Done y c) = KeepsOthers bs x y
Keeping bs x Unfinished = Unit {0}

keeps_more : (ms bs : List ℕ) (x : List ValueOf) (o : MeaningOutcome) → Keeping ms x o → ((b : ℕ) → Misses b bs → Misses b ms) → Keeping bs x o
keeps_more ms bs x (Done y c) k m = λ b misses. k b (m b misses)
keeps_more ms bs x Unfinished k m = tt

keeps_from : (bs : List ℕ) (x y : List ValueOf) (o : MeaningOutcome) → KeepsOthers bs x y → Keeping bs y o → Keeping bs x o
keeps_from bs x y (Done z c) k l = λ b misses. l b misses ∙ k b misses
keeps_from bs x y Unfinished k l = tt

module _ (bs : List ℕ) (x : List ValueOf) where
  then_keeps : (o : MeaningOutcome) (f : List ValueOf → MeaningOutcome) → Keeping bs x o → ((y : List ValueOf) → Keeping bs y (f y))
      → Keeping bs x (then_do o f)
  then_keeps (Done y None) f k l = keeps_from bs x y (f y) k (l y)
  then_keeps (Done y (Some c)) f k l = k
  then_keeps Unfinished f k l = tt

  either_keeps : (b : Bool) (o p : MeaningOutcome) → Keeping bs x o → Keeping bs x p → Keeping bs x (either_way b o p)
  either_keeps true o p k l = k
  either_keeps false o p k l = l

  caught_keeps : (o : MeaningOutcome) (cs : List ConditionOf) (f : List ValueOf → MeaningOutcome) → Keeping bs x o
      → ((y : List ValueOf) → Keeping bs y (f y)) → Keeping bs x (caught o cs f)
  caught_keeps (Done y None) cs f k l = k
  caught_keeps (Done y (Some c)) cs f k l = either_keeps (has_cond c cs) (f y) (Done y (Some c)) (keeps_from bs x y (f y) k (l y)) k
  caught_keeps Unfinished cs f k l = tt

  round_keeps : (o : MeaningOutcome) (f : List ValueOf → MeaningOutcome) → Keeping bs x o → ((y : List ValueOf) → Keeping bs y (f y))
      → Keeping bs x (round_end o f)
  round_keeps (Done y None) f k l = keeps_from bs x y (f y) k (l y)
  round_keeps (Done y (Some c)) f k l = either_keeps (is_leave c) (Done y None) (Done y (Some c)) k k
  round_keeps Unfinished f k l = tt

returned_keeps : (q : Program) (p : ℕ) (xs : List ℕ) (cs : List ConditionOf) (x : List ValueOf) (o : MeaningOutcome) → Keeping xs x (returned q p xs cs x o)
returned_keeps q p xs cs x (Done y None) = λ b misses. copied_miss xs y x b misses
returned_keeps q p xs cs x (Done y (Some c)) = λ b misses. copied_miss xs y x b misses
returned_keeps q p xs cs x Unfinished = tt

room_keeps : (bs : List ℕ) (x : List ValueOf) (b : Bool) (o : MeaningOutcome) → Keeping bs x o → Keeping bs x (if_room b x o)
room_keeps bs x true o k = k
room_keeps bs x false o k = keeps_all bs x

applied_keeps : (args : List Arg) (e : Effect) (x : List ValueOf) → Keeping (target_of args ∷ []) x (applied args e x)
applied_keeps args (Normal v) x = λ b misses. get_or-set_other x (target_of args) b v no_value misses.0
applied_keeps args Fault x = keeps_all (target_of args ∷ []) x
applied_keeps args Beyond x = keeps_all (target_of args ∷ []) x

module _ (q : Program) (sizes : StackSizes) where
  keeps_others : (n : ℕ) (s : Stmt) (u : StackSizes) (x : List ValueOf) → Keeping (written s) x (evaluate q sizes n s u x)
  keeps_others zero s u x = tt
  keeps_others (suc n) Skip u x = keeps_all [] x
  keeps_others (suc n) (NoOp place) u x = keeps_all [] x
  keeps_others (suc n) (Signal place c) u x = keeps_all [] x
  keeps_others (suc n) (Seq a b) u x =
      then_keeps (written a ++ written b) x (evaluate q sizes (suc n) a u x) (evaluate q sizes (suc n) b u)
      (keeps_more (written a) (written a ++ written b) x (evaluate q sizes (suc n) a u x) (keeps_others (suc n) a u x)
      (λ i m. misses_first i (written a) (written b) m))
      (λ y. keeps_more (written b) (written a ++ written b) y (evaluate q sizes (suc n) b u y) (keeps_others (suc n) b u y)
      (λ i m. misses_second i (written a) (written b) m))
  keeps_others (suc n) (Loop place s) u x =
      round_keeps (written s) x (evaluate q sizes (suc n) s u x) (evaluate q sizes n (Loop place s) u) (keeps_others (suc n) s u x)
      (keeps_others n (Loop place s) u)
  keeps_others (suc n) (If place b s w) u x =
      either_keeps (written s ++ written w) x (is_true_value (value_at x b)) (evaluate q sizes (suc n) s u x) (evaluate q sizes (suc n) w u x)
      (keeps_more (written s) (written s ++ written w) x (evaluate q sizes (suc n) s u x) (keeps_others (suc n) s u x)
      (λ i m. misses_first i (written s) (written w) m))
      (keeps_more (written w) (written s ++ written w) x (evaluate q sizes (suc n) w u x) (keeps_others (suc n) w u x)
      (λ i m. misses_second i (written s) (written w) m))
  keeps_others (suc n) (Begin place s cs w) u x =
      caught_keeps (written s ++ written w) x (evaluate q sizes (suc n) s u x) cs (evaluate q sizes (suc n) w u)
      (keeps_more (written s) (written s ++ written w) x (evaluate q sizes (suc n) s u x) (keeps_others (suc n) s u x)
      (λ i m. misses_first i (written s) (written w) m))
      (λ y. keeps_more (written w) (written s ++ written w) y (evaluate q sizes (suc n) w u y) (keeps_others (suc n) w u y)
      (λ i m. misses_second i (written s) (written w) m))
  keeps_others (suc n) (Call place p xs cs) u x =
      let inner = evaluate q sizes n (body_of q p) (with_call q p u) (copied_in q p xs x) in
      room_keeps xs x (has_room q sizes p u) (returned q p xs cs x inner) (returned_keeps q p xs cs x inner)
  keeps_others (suc n) (Apply place r args) u x = applied_keeps args (predef_effect r (values_of x args)) x

  kept : (bs : List ℕ) (x y : List ValueOf) (c : CurrentCondition) (o : MeaningOutcome) → Keeping bs x o → o ≡ Done y c → KeepsOthers bs x y
  kept bs x y c o k e = subst (Keeping bs x) e k

  pub run_keeps : (u : StackSizes) (s : Stmt) (x y : List ValueOf) (c : CurrentCondition) → Runs q sizes u s x y c → KeepsOthers (written s) x y
  run_keeps u s x y c r = kept (written s) x y c (evaluate q sizes r.bound s u x) (keeps_others r.bound s u x) r.done
