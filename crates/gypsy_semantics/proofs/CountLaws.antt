-- Counting changes no meaning.
use Rattle.std.proofs.Common.{◌≡◌, ℕ, zero, suc, List, Bool, true, false, not, ◌&&◌, if◌then◌else◌, Some, None, refl, ap, ◌∙◌}
use Rattle.stack_text.specs.Values.{ValueOf}
use Rattle.gypsy_syntax.{specs.declared.predef.Predef.Predef, specs.Programs.{ConditionOf, Arg, Program, body_of, Stmt, Skip, NoOp, Signal, Seq, Loop, If}}
use Rattle.gypsy_syntax.{specs.Programs.{Begin, Call, Apply}, specs.Predefined.predef_effect, specs.Effects.{Effect, Normal, Fault, Beyond, value_at}}
use Rattle.gypsy_syntax.specs.Effects.{is_true_value}
use Rattle.gypsy_space.{specs.Costs.{Tally, spend, start_tally}, specs.Needs.{StackSizes, main_used, with_call, has_temp_room, has_ctrl_room, has_room}}
use Rattle.gypsy_space.{specs.Needs.{lack_of, call_spend}, specs.declared.need.Lack.TheVariants.{Nothing, Temporary, Control}}
use Rattle.gypsy_semantics.{specs.Calls.{has_cond, is_leave, values_of, copied_in, main_start}, specs.Meaning.{MeaningOutcome, then_do, either_way, caught}}
use Rattle.gypsy_semantics.{specs.Meaning.{round_end, applied, returned, if_room, evaluate, main_end, meaning}, specs.Counted.{CountedOutcome, CountedDone}}
use Rattle.gypsy_semantics.specs.Counted.{CountedUnfinished, counted_then, counted_part, counted_either, counted_caught, counted_round_end, counted_applied}
use Rattle.gypsy_semantics.specs.Counted.{counted_returned, counted_if_room, counted_evaluate, counted_main_end, counted_meaning, uncounted}

either-uncounted : (b : Bool) (o r : CountedOutcome) → uncounted (counted_either b o r) ≡ either_way b (uncounted o) (uncounted r)
either-uncounted true o r = refl
either-uncounted false o r = refl

part-uncounted : (o : CountedOutcome) (pay : Tally → Tally) → uncounted (counted_part o pay) ≡ uncounted o
part-uncounted (CountedDone x None t) pay = refl
part-uncounted (CountedDone x (Some c) t) pay = refl
part-uncounted CountedUnfinished pay = refl

then-uncounted : (o : CountedOutcome) (go : List ValueOf → Tally → CountedOutcome) (next : List ValueOf → MeaningOutcome)
    → ((x : List ValueOf) (t : Tally) → uncounted (go x t) ≡ next x) → uncounted (counted_then o go) ≡ then_do (uncounted o) next
then-uncounted (CountedDone x None t) go next e = e x t
then-uncounted (CountedDone x (Some c) t) go next e = refl
then-uncounted CountedUnfinished go next e = refl

caught-uncounted : (o : CountedOutcome) (cs : List ConditionOf) (go : List ValueOf → Tally → CountedOutcome) (arm : List ValueOf → MeaningOutcome)
    → ((x : List ValueOf) (t : Tally) → uncounted (go x t) ≡ arm x) →
    uncounted (counted_caught o cs go) ≡ caught (uncounted o) cs arm
caught-uncounted (CountedDone x None t) cs go arm e = refl
caught-uncounted (CountedDone x (Some c) t) cs go arm e =
    either-uncounted (has_cond c cs) (counted_part (go x (spend 3 2 t)) (spend 1 1)) (CountedDone x (Some c) t)
    ∙ ap (λ (o : MeaningOutcome). either_way (has_cond c cs) o (uncounted (CountedDone x (Some c) t)))
    (part-uncounted (go x (spend 3 2 t)) (spend 1 1) ∙ e x (spend 3 2 t))
caught-uncounted CountedUnfinished cs go arm e = refl

round-uncounted : (o : CountedOutcome) (go : List ValueOf → Tally → CountedOutcome) (again : List ValueOf → MeaningOutcome)
    → ((x : List ValueOf) (t : Tally) → uncounted (go x t) ≡ again x) → uncounted (counted_round_end o go) ≡ round_end (uncounted o) again
round-uncounted (CountedDone x None t) go again e = e x (spend 1 1 t)
round-uncounted (CountedDone x (Some c) t) go again e = either-uncounted (is_leave c) (CountedDone x None (spend 3 2 t)) (CountedDone x (Some c) t)
round-uncounted CountedUnfinished go again e = refl

applied-uncounted : (r : Predef) (args : List Arg) (e : Effect) (x : List ValueOf) (t : Tally) → uncounted (counted_applied r args e x t) ≡ applied args e x
applied-uncounted r args (Normal v) x t = refl
applied-uncounted r args Fault x t = refl
applied-uncounted r args Beyond x t = refl

returned-uncounted : (q : Program) (p : ℕ) (xs : List ℕ) (cs : List ConditionOf) (x : List ValueOf) (o : CountedOutcome)
    → uncounted (counted_returned q p xs cs x o) ≡ returned q p xs cs x (uncounted o)
returned-uncounted q p xs cs x (CountedDone y None t) = refl
returned-uncounted q p xs cs x (CountedDone y (Some c) t) = refl
returned-uncounted q p xs cs x CountedUnfinished = refl

rooms-uncounted : (temp ctrl : Bool) (x : List ValueOf) (t : Tally) (o : CountedOutcome)
    → uncounted (counted_if_room (if not temp then Temporary else if not ctrl then Control else Nothing) x t o) ≡ if_room (temp && ctrl) x (uncounted o)
rooms-uncounted true true x t o = refl
rooms-uncounted true false x t o = refl
rooms-uncounted false ctrl x t o = refl

room-uncounted : (q : Program) (sizes : StackSizes) (p : ℕ) (u : StackSizes) (x : List ValueOf) (t : Tally) (o : CountedOutcome)
    → uncounted (counted_if_room (lack_of q sizes p u) x t o) ≡ if_room (has_room q sizes p u) x (uncounted o)
unfolding lack_of has_room
room-uncounted q sizes p u x t o = rooms-uncounted (has_temp_room q sizes p u) (has_ctrl_room q sizes p u) x t o

evaluate-uncounted : (q : Program) (sizes : StackSizes) (n : ℕ) (s : Stmt) (u : StackSizes) (x : List ValueOf) (t : Tally)
    → uncounted (counted_evaluate q sizes n s u x t) ≡ evaluate q sizes n s u x
evaluate-uncounted q sizes zero s u x t = refl
evaluate-uncounted q sizes (suc n) Skip u x t = refl
evaluate-uncounted q sizes (suc n) (NoOp place) u x t = refl
evaluate-uncounted q sizes (suc n) (Signal place c) u x t = refl
evaluate-uncounted q sizes (suc n) (Seq a b) u x t =
    then-uncounted (counted_evaluate q sizes (suc n) a u x t) (counted_evaluate q sizes (suc n) b u) (evaluate q sizes (suc n) b u)
    (evaluate-uncounted q sizes (suc n) b u)
    ∙ ap (λ (o : MeaningOutcome). then_do o (evaluate q sizes (suc n) b u)) (evaluate-uncounted q sizes (suc n) a u x t)
evaluate-uncounted q sizes (suc n) (Loop place s) u x t =
    round-uncounted (counted_evaluate q sizes (suc n) s u x (spend 1 1 t)) (counted_evaluate q sizes n (Loop place s) u)
    (evaluate q sizes n (Loop place s) u) (evaluate-uncounted q sizes n (Loop place s) u)
    ∙ ap (λ (o : MeaningOutcome). round_end o (evaluate q sizes n (Loop place s) u)) (evaluate-uncounted q sizes (suc n) s u x (spend 1 1 t))
evaluate-uncounted q sizes (suc n) (If place b s w) u x t =
    either-uncounted (is_true_value (value_at x b)) (counted_part (counted_evaluate q sizes (suc n) s u x (spend 8 3 t)) (spend 2 2))
    (counted_part (counted_evaluate q sizes (suc n) w u x (spend 9 4 t)) (spend 1 1))
    ∙ ap (λ (o : MeaningOutcome). either_way (is_true_value (value_at x b)) o
    (uncounted (counted_part (counted_evaluate q sizes (suc n) w u x (spend 9 4 t)) (spend 1 1))))
    (part-uncounted (counted_evaluate q sizes (suc n) s u x (spend 8 3 t)) (spend 2 2) ∙ evaluate-uncounted q sizes (suc n) s u x (spend 8 3 t))
    ∙ ap (λ (o : MeaningOutcome). either_way (is_true_value (value_at x b)) (evaluate q sizes (suc n) s u x) o)
    (part-uncounted (counted_evaluate q sizes (suc n) w u x (spend 9 4 t)) (spend 1 1) ∙ evaluate-uncounted q sizes (suc n) w u x (spend 9 4 t))
evaluate-uncounted q sizes (suc n) (Begin place s cs w) u x t =
    caught-uncounted (counted_evaluate q sizes (suc n) s u x t) cs (counted_evaluate q sizes (suc n) w u) (evaluate q sizes (suc n) w u)
    (evaluate-uncounted q sizes (suc n) w u)
    ∙ ap (λ (o : MeaningOutcome). caught o cs (evaluate q sizes (suc n) w u)) (evaluate-uncounted q sizes (suc n) s u x t)
evaluate-uncounted q sizes (suc n) (Call place p xs cs) u x t =
    let inner = counted_evaluate q sizes n (body_of q p) (with_call q p u) (copied_in q p xs x) (call_spend q p t) in
    room-uncounted q sizes p u x t (counted_returned q p xs cs x inner)
    ∙ ap (if_room (has_room q sizes p u) x)
    (returned-uncounted q p xs cs x inner ∙ ap (returned q p xs cs x)
    (evaluate-uncounted q sizes n (body_of q p) (with_call q p u) (copied_in q p xs x) (call_spend q p t)))
evaluate-uncounted q sizes (suc n) (Apply place r args) u x t = applied-uncounted r args (predef_effect r (values_of x args)) x t

main-uncounted : (q : Program) (o : CountedOutcome) → uncounted (counted_main_end q o) ≡ main_end q (uncounted o)
main-uncounted q (CountedDone x None t) = refl
main-uncounted q (CountedDone x (Some c) t) = refl
main-uncounted q CountedUnfinished = refl

pub meaning-uncounted : (q : Program) (sizes : StackSizes) (v : List ValueOf) (n : ℕ) → uncounted (counted_meaning q sizes v n) ≡ meaning q sizes v n
meaning-uncounted q sizes v n =
    main-uncounted q (counted_evaluate q sizes n (body_of q q.main) (main_used q) (main_start q v) start_tally)
    ∙ ap (main_end q) (evaluate-uncounted q sizes n (body_of q q.main) (main_used q) (main_start q v) start_tally)
