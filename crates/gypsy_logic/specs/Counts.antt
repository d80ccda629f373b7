-- How statements about programs are said with counts: what a statement ends with, and after how many instructions of the processor.
use Rattle.std.specs.Prelude.{◌≡◌, ℕ, ◌+◌, ◌<◌, ◌≤◌, List, Some, None, ◌==◌, nat_lt, true, false}
use Rattle.stack_text.specs.Values.{ValueOf}
use Rattle.gypsy_syntax.specs.{declared.predef.Predef.{Predef}, Programs.{ConditionOf, Leave, Routine, Space, Declared, Program, Stmt}}
use Rattle.gypsy_syntax.specs.{Programs.{proc_at, body_of}, Predefined.{row_of}, Effects.{Effect, Normal, Fault, Beyond, no_value}}
use Rattle.gypsy_space.specs.{Costs.{Tally, spend, start_tally, count_of, leaving, raised_price}, Needs.{StackSizes, with_call, call_spend}}
use Rattle.gypsy_space.specs.declared.event.CostEvent.TheVariants as event
use Rattle.gypsy_semantics.specs.{Calls.{CurrentCondition, has_cond, copied_out}, Counted.{CountedDone, counted_evaluate, counted_meaning}}
use Rattle.gypsy_logic.specs.Ends.{Exit, Either, Entry, opened, formals_of, passed, ended}

-- From the variables x, with u words of the two stacks in use, the statement s ends with the variables y and the condition c, after n
-- instructions: within each bound from some one on, and whatever was spent before.
pub record RunsAfter (q : Program) (sizes u : StackSizes) (s : Stmt) (x y : List ValueOf) (c : CurrentCondition) (n : ℕ) : Type 0 where
  pub bound : ℕ
  pub steps : ℕ
  pub done : (m : ℕ) (t : Tally) → bound ≤ m → counted_evaluate q sizes m s u x t ≡ CountedDone y c (spend n steps t)

-- ---- what is counted beside the parts of a statement

-- what follows a part in the normal condition alone
abbrev pub join_count : CurrentCondition → ℕ → ℕ
join_count None n = n
join_count (Some c) n = 0

-- of a call with room, up to the body
abbrev pub call_count : Program → ℕ → ℕ
call_count q p = (call_spend q p start_tally).count

-- from the end of the body, by its condition: a formal one, spaceerror, or another
abbrev pub return_count : Program → ℕ → CurrentCondition → ℕ
return_count q p None = count_of event.EndProc
return_count q p (Some Leave) = (raised_price false).0
return_count q p (Some Routine) = (raised_price false).0
return_count q p (Some Space) = (raised_price true).0
return_count q p (Some (Declared i)) = (raised_price (nat_lt i (proc_at q p).conds)).0

-- from the end of main's body
abbrev pub end_count : Program → CurrentCondition → ℕ
end_count q None = count_of event.EndMain
end_count q (Some Leave) = count_of (leaving false)
end_count q (Some Routine) = count_of (leaving false)
end_count q (Some Space) = count_of (leaving true)
end_count q (Some (Declared i)) = count_of (leaving (nat_lt i (proc_at q q.main).conds))

-- of a predefined procedure, by its outcome
abbrev pub predef_count : Predef → Effect → ℕ
predef_count r e = ((row_of r).cost e).0

-- ---- exits

-- what is said of the variables at some place, and of how many instructions were taken up to it
abbrev pub CountedCondition : Type 1
CountedCondition = List ValueOf → ℕ → Type 0

-- what is said of the variables, the condition and the number of instructions that a statement ends with
abbrev pub CountedExit : Type 1
CountedExit = List ValueOf → CurrentCondition → ℕ → Type 0

-- From the variables x, with k instructions taken before, the statement ends, with variables, a condition and a number of instructions in
-- all of which Q holds.
pub record EndsAfter (q : Program) (sizes u : StackSizes) (s : Stmt) (x : List ValueOf) (k : ℕ) (Q : CountedExit) : Type 0 where
  pub vars : List ValueOf
  pub way : CurrentCondition
  pub taken : ℕ
  pub runs : RunsAfter q sizes u s x vars way taken
  pub holds : Q vars way (k + taken)

-- after a first part
abbrev pub ThenAfter : CountedCondition → CountedExit → CountedExit
ThenAfter Next Q y None n = Next y n
ThenAfter Next Q y (Some c) n = Q y (Some c) n

-- after an arm of `if` or of a handler, which a join follows
abbrev pub JoinedAfter : ℕ → CountedExit → CountedExit
JoinedAfter j Q y c n = Q y c (n + join_count c j)

-- after the body of a handler
abbrev pub HandledAfter : List ConditionOf → CountedCondition → CountedExit → CountedExit
HandledAfter cs Arm Q y None n = Q y None (n + count_of event.GuardNormal)
HandledAfter cs Arm Q y (Some c) n = Either (has_cond c cs) (Arm y (n + count_of event.Caught)) (Q y (Some c) n)

-- after a round of a loop
abbrev pub RoundAfter : CountedCondition → CountedExit → CountedExit
RoundAfter Next Q y None n = Next y (n + count_of event.LoopBack)
RoundAfter Next Q y (Some Leave) n = Q y None (n + count_of event.Caught)
RoundAfter Next Q y (Some Routine) n = Q y (Some Routine) n
RoundAfter Next Q y (Some Space) n = Q y (Some Space) n
RoundAfter Next Q y (Some (Declared i)) n = Q y (Some (Declared i)) n

-- the invariant again, with a smaller measure
abbrev pub AgainAfter : (ℕ → CountedCondition) → ℕ → CountedCondition
AgainAfter I n y k = (m : ℕ) × (m < n) × I m y k

-- The variables are those of some state with the measure n, and so many instructions were taken.
abbrev pub StandsAfter : (State : ℕ → Type 0) → ((n : ℕ) → State n → List ValueOf) → ((n : ℕ) → State n → ℕ) → ℕ → CountedCondition
StandsAfter State vars count n y k = (a : State n) × (y ≡ vars n a) × (k ≡ count n a)

-- After a predefined call. Where an index fails, the index says how many instructions that takes: the rules are `fault_after` and
-- `beyond_after`.
abbrev pub PaidAfter : Predef → ℕ → CountedExit → Exit
PaidAfter r k Q y None = Q y None (k + predef_count r (Normal no_value))
PaidAfter r k Q y (Some c) = Either (predef_count r Fault == predef_count r Beyond) (Q y (Some c) (k + predef_count r Fault)) ⊥

-- after the body of a callee
abbrev pub ReturnedAfter : Program → ℕ → List ℕ → List ConditionOf → List ValueOf → CountedExit → CountedExit
ReturnedAfter q p xs cs x Q y c n = Q (copied_out xs y x) (passed q p cs c) (n + return_count q p c)

-- what is said of a procedure's end: its formals' values at its start and at its end, the condition, and the instructions of its body
abbrev pub CountedOutcomeOf : Type 1
CountedOutcomeOf = List ValueOf → List ValueOf → CurrentCondition → ℕ → Type 0

-- the contract of a procedure with the count of its body
pub record MeetsAfter (q : Program) (sizes : StackSizes) (p : ℕ) (Pre : Entry) (Post : CountedOutcomeOf) : Type 0 where
  pub ends : (u : StackSizes) (v : List ValueOf) → Pre u v →
      EndsAfter q sizes (with_call q p u) (body_of q p) (opened q p v) 0 (λ y c n. Post v (formals_of q p y) c n)

-- these values at the end, this condition, and so many instructions
abbrev pub GivesAfter : List ValueOf → CurrentCondition → ℕ → CountedOutcomeOf
GivesAfter w c n v y d m = (y ≡ w) × (d ≡ c) × (m ≡ n)

-- after the body of main
abbrev pub MainEndsAfter : Program → CountedExit → CountedExit
MainEndsAfter q Q y c n = Q (formals_of q q.main y) (ended q c) (n + end_count q c)

-- these variables, this condition, and so many instructions
abbrev pub IsAfter : List ValueOf → CurrentCondition → ℕ → CountedExit
IsAfter x c n y d m = (y ≡ x) × (d ≡ c) × (m ≡ n)

-- The meaning of the program on the values v is done, with values of main's formals, a condition and a number of instructions of which
-- Q holds.
pub record MeansAfter (q : Program) (sizes : StackSizes) (v : List ValueOf) (Q : CountedExit) : Type 0 where
  pub finals : List ValueOf
  pub way : CurrentCondition
  pub tally : Tally
  pub bound : ℕ
  pub done : counted_meaning q sizes v bound ≡ CountedDone finals way tally
  pub holds : Q finals way tally.count
