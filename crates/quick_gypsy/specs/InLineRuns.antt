-- What is proved of calls in line: the statement without calls does what the one with calls does, in at most as many instructions.
use Rattle.std.specs.Prelude.{◌≡◌, ℕ, ◌+◌, ◌≤◌, List, ◌++◌, length}
use Rattle.stack_text.specs.Values.{ValueOf}
use Rattle.gypsy_syntax.specs.{Programs.{Program, proc_at, body_of, shapes_of}, ProgramFits.{Each, ProgramFits}, ValuesFit.{ValueFits}}
use Rattle.gypsy_space.specs.{Costs.{Tally}, Needs.{StackSizes, main_used}}
use Rattle.gypsy_semantics.specs.{Calls.{CurrentCondition, main_start}, Counted.{CountedDone, counted_evaluate}, Meaning.{MeaningOutcome}}
use Rattle.gypsy_semantics.specs.Meaning.{Done, Unfinished, evaluate, main_end, meaning}
use Rattle.quick_gypsy.specs.{Layout.{Layout}, Quick.{IsPlain, quick_cost}, InLine.{Nests, lined_main}}

-- main's variables at the start, with the locals of all calls behind
abbrev pub lined_start : Program → StackSizes → ℕ → List ValueOf → List ValueOf
lined_start q sizes d values = values ++ (lined_main q sizes d).locals

abbrev pub lined_outcome : Program → StackSizes → ℕ → List ValueOf → ℕ → MeaningOutcome
lined_outcome q sizes d values n = evaluate q sizes n (lined_main q sizes d).body (main_used q) (lined_start q sizes d values)

-- of a program that fits, values of main's formals, and calls that nest at most d deep
pub record CanLine (q : Program) (sizes : StackSizes) (d : ℕ) (values : List ValueOf) : Type 0 where
  pub fits : ProgramFits q
  pub nests : Nests q sizes d (main_used q) (body_of q q.main)
  pub number : length values ≡ length (proc_at q q.main).formals

-- where the meaning is done, main with its calls in line is done at the same bound, with the same
abbrev pub CallsAreLined : Type 0
CallsAreLined = (q : Program) (sizes : StackSizes) (d : ℕ) (values : List ValueOf) (n : ℕ) (finals : List ValueOf)
    (way : CurrentCondition) → CanLine q sizes d values → meaning q sizes values n ≡ Done finals way →
    main_end q (lined_outcome q sizes d values n) ≡ Done finals way

-- The other way round. A bound of the meaning falls at each call too, so it is greater by as much as calls may nest.
abbrev pub LinedCallsGoOn : Type 0
LinedCallsGoOn = (q : Program) (sizes : StackSizes) (d : ℕ) (values : List ValueOf) (n : ℕ) → CanLine q sizes d values →
    meaning q sizes values (n + d) ≡ Unfinished → lined_outcome q sizes d values n ≡ Unfinished

-- and it calls nothing
abbrev pub LinedMainsArePlain : Type 0
LinedMainsArePlain = (q : Program) (sizes : StackSizes) (d : ℕ) → ProgramFits q → Nests q sizes d (main_used q) (body_of q q.main) →
    IsPlain (shapes_of (lined_main q sizes d)) (lined_main q sizes d).body

-- each local is a value
abbrev pub LinedLocalsFit : Type 0
LinedLocalsFit = (q : Program) (sizes : StackSizes) (d : ℕ) → ProgramFits q → Each ValueFits (lined_main q sizes d).locals

-- where the plain code's run is done, quick code has taken no more instructions
abbrev pub QuickIsNoSlower : Type 0
QuickIsNoSlower = (L : Layout) (q : Program) (sizes : StackSizes) (d : ℕ) (values : List ValueOf) (n : ℕ) (y : List ValueOf)
    (c : CurrentCondition) (t t' : Tally) → CanLine q sizes d values →
    counted_evaluate q sizes n (body_of q q.main) (main_used q) (main_start q values) t ≡ CountedDone y c t' →
    quick_cost q sizes L n (lined_main q sizes d).body (main_used q) (lined_start q sizes d values) + t.count ≤ t'.count
