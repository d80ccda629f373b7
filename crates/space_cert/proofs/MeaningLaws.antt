-- The meaning never ends with spaceerror.
use Rattle.std.{proofs.Common.{◌≡◌, ℕ, zero, suc, List, [], Bool, true, false, Some, None, refl, subst, sym}, proofs.lemmas.List.Elements.All-head}
use Rattle.stack_text.specs.Values.{ValueOf}
use Rattle.gypsy_syntax.specs.Programs.{ConditionOf, Space, Arg, Program, body_of, Stmt, Skip, NoOp, Signal, Seq, Loop, If, Begin, Call, Apply}
use Rattle.gypsy_syntax.{specs.Predefined.predef_effect, specs.Effects.{Effect, Normal, Fault, Beyond}, specs.ProgramFits.{Each, ProgramFits}}
use Rattle.gypsy_space.specs.Needs.{StackSizes, main_used, with_call}
use Rattle.gypsy_semantics.{specs.Calls.{has_cond, is_leave, values_of, copied_in, main_start}, specs.Meaning.{MeaningOutcome, Done, Unfinished, then_do}}
use Rattle.gypsy_semantics.specs.Meaning.{either_way, caught, round_end, applied, returned, if_room, evaluate, main_end, meaning}
use Rattle.space_cert.specs.Covers.{Bounds, bound_at, words_sum, callees, IsAtMost, CoversCall, CoversCalls, IsCertificate, Covers}
use Rattle.space_cert.{specs.Internal.Omits.{IsOther, OmitsSpace, WayIsOther}, proofs.AllLaws.{all_left, all_right}, proofs.CoversLaws.{bound_there, room}}
use Rattle.space_cert.{proofs.CoversLaws.{left, main_within}, proofs.StepLaws.main_bound, proofs.OmitLaws.{body_omits, matching_omits, main_omits}}

abbrev EndsOther : MeaningOutcome → Type 0
EndsOther (Done x c) = WayIsOther c
EndsOther Unfinished = Unit {0}

then_other : (o : MeaningOutcome) (next : List ValueOf → MeaningOutcome) → EndsOther o → ((x : List ValueOf) → EndsOther (next x)) → EndsOther (then_do o next)
then_other (Done x None) next h f = f x
then_other (Done x (Some c)) next h f = h
then_other Unfinished next h f = tt

either_other : (b : Bool) (o r : MeaningOutcome) → EndsOther o → EndsOther r → EndsOther (either_way b o r)
either_other true o r h g = h
either_other false o r h g = g

caught_other : (o : MeaningOutcome) (cs : List ConditionOf) (arm : List ValueOf → MeaningOutcome) → EndsOther o
    → ((x : List ValueOf) → EndsOther (arm x)) → EndsOther (caught o cs arm)
caught_other (Done x None) cs arm h f = tt
caught_other (Done x (Some c)) cs arm h f = either_other (has_cond c cs) (arm x) (Done x (Some c)) (f x) h
caught_other Unfinished cs arm h f = tt

round_other : (o : MeaningOutcome) (again : List ValueOf → MeaningOutcome) → EndsOther o → ((x : List ValueOf) → EndsOther (again x))
    → EndsOther (round_end o again)
round_other (Done x None) again h f = f x
round_other (Done x (Some c)) again h f = either_other (is_leave c) (Done x None) (Done x (Some c)) tt h
round_other Unfinished again h f = tt

applied_other : (args : List Arg) (e : Effect) (x : List ValueOf) → EndsOther (applied args e x)
applied_other args (Normal v) x = tt
applied_other args Fault x = tt
applied_other args Beyond x = tt

returned_other : (q : Program) (p : ℕ) (xs : List ℕ) (cs : List ConditionOf) (x : List ValueOf) (o : MeaningOutcome) → Each IsOther cs → EndsOther o
    → EndsOther (returned q p xs cs x o)
returned_other q p xs cs x (Done y None) f h = tt
returned_other q p xs cs x (Done y (Some c)) f h = matching_omits q p cs c f h
returned_other q p xs cs x Unfinished f h = tt

main_other : (q : Program) (o : MeaningOutcome) → EndsOther o → EndsOther (main_end q o)
main_other q (Done x None) h = tt
main_other q (Done x (Some c)) h = main_omits q c h
main_other q Unfinished h = tt

module _ (q : Program) (bs : Bounds) (sizes : StackSizes) (cert : IsCertificate q bs) (bodies : (p : ℕ) → OmitsSpace (body_of q p)) where
  others : (n : ℕ) (s : Stmt) (u b : StackSizes) (x : List ValueOf) → OmitsSpace s → CoversCalls q bs b s → IsAtMost (words_sum u b) sizes
      → EndsOther (evaluate q sizes n s u x)
  others zero s u b x o f h = tt
  others (suc n) Skip u b x o f h = tt
  others (suc n) (NoOp place) u b x o f h = tt
  others (suc n) (Signal place c) u b x o f h = o
  others (suc n) (Seq a c) u b x o f h = then_other _ _ (others (suc n) a u b x o.0 (all_left (CoversCall q bs b) (callees a) (callees c) f) h)
      (λ y. others (suc n) c u b y o.1 (all_right (CoversCall q bs b) (callees a) (callees c) f) h)
  others (suc n) (Loop place s) u b x o f h = round_other _ _ (others (suc n) s u b x o f h) (λ y. others n (Loop place s) u b y o f h)
  others (suc n) (If place i s w) u b x o f h = either_other _ _ _ (others (suc n) s u b x o.0 (all_left (CoversCall q bs b) (callees s) (callees w) f) h)
      (others (suc n) w u b x o.1 (all_right (CoversCall q bs b) (callees s) (callees w) f) h)
  others (suc n) (Begin place s cs w) u b x o f h = caught_other _ cs _ (others (suc n) s u b x o.0 (all_left (CoversCall q bs b) (callees s) (callees w) f) h)
      (λ y. others (suc n) w u b y o.1 (all_right (CoversCall q bs b) (callees s) (callees w) f) h)
  others (suc n) (Call place p xs cs) u b x o f h =
      let there = bound_there q bs b p _ refl (All-head (CoversCall q bs b) p [] f) in
      let each = cert.each p there.bound there.known in
      let r = evaluate q sizes n _ _ _ in
      subst (λ e. EndsOther (if_room e x (returned q p xs cs x r))) (sym (room q sizes p u b there.bound each.own there.within h))
      (returned_other q p xs cs x r o (others n (body_of q p) (with_call q p u) there.bound (copied_in q p xs x) (bodies p) each.calls
      (left q sizes p u b there.bound each.own there.within h)))
  others (suc n) (Apply place r args) u b x o f h = applied_other args (predef_effect r (values_of x args)) x

pub never_meant : (q : Program) (bs : Bounds) (sizes : StackSizes) → Covers q bs sizes → ProgramFits q → (v : List ValueOf) (n : ℕ) (x : List ValueOf)
    → meaning q sizes v n ≡ Done x (Some Space) → ⊥
never_meant q bs sizes covers fits v n x e =
    let cert = covers.certificate in
    let bodies = body_omits q fits in
    let main = main_bound q bs (bound_at bs q.main) refl cert.main in
    let o = evaluate q sizes n (body_of q q.main) (main_used q) (main_start q v) in
    subst EndsOther e (main_other q o (others q bs sizes cert bodies n (body_of q q.main) (main_used q) main.bound (main_start q v) (bodies q.main)
    (cert.each q.main main.bound main.known).calls (main_within q bs sizes covers main.bound main.known)))
