-- What a step does with the top of the work.
use Rattle.std.specs.Prelude.{◌≡◌, ℕ, List, [], ◌∷◌, map}
use Rattle.stack_text.specs.Values.{ValueOf}
use Rattle.gypsy_syntax.specs.{Programs.{ConditionOf, Program, Apply, Call, Routine}, declared.predef.Predef.{Predef}}
use Rattle.gypsy_space.specs.{declared.event.Outcome.{Outcome}, Nodes.{seen_cond, seen_arg}, Costs.{Tally, effect_of, pay, predef_spend}}
use Rattle.gypsy_space.specs.{Needs.{StackSizes}, declared.event.CostEvent.{CostEvent}, declared.program.Application.{Application}}
use Rattle.gypsy_space.specs.declared.program.CallSite.{CallSite}
use Rattle.gypsy_space.specs.declared.event.CostEvent.TheVariants as event
use Rattle.gypsy_semantics.specs.Machine.{Item, Do, Frame, At, Next, gypsy_step}
use Rattle.gypsy_semantics.specs.Machine as machine
use Rattle.gypsy_meaning.specs.{Views.Work.{caught_spend}, declared.turn.Advance.{Advance}, declared.turn.Turn.{Turn}}
use Rattle.gypsy_meaning.specs.declared.turn.Turn.TheVariants.{Opens, Goes, Calls, Applies, Ends, Leaves as Leaves'}
use Rattle.gypsy_meaning.specs.declared.work.Item.{Item as Kept}

-- events but calls
abbrev pub IsPlain : CostEvent → Type 0
IsPlain (event.Call callee) = ⊥
IsPlain _ = Unit {0}

-- from this work, over these variables, a step goes on so, to other work
abbrev pub GoesOn : List ValueOf → List Item → List Item → Advance → Type 0
GoesOn x w v a =
    IsPlain a.event ×
    ((q : Program) (sizes : StackSizes) (p : ℕ) (fs : List Frame) (t : Tally) →
    gypsy_step q sizes (At p x w fs t) ≡ Next (At p x v fs (caught_spend a.caught (pay a.event t))))

-- and here at no cost
abbrev pub OpensTo : List ValueOf → List Item → List Item → Type 0
OpensTo x w v =
    (q : Program) (sizes : StackSizes) (p : ℕ) (fs : List Frame) (t : Tally) → gypsy_step q sizes (At p x w fs t) ≡ Next (At p x v fs t)

-- an item that a step takes off, at the cost of this event
abbrev pub Removes : Item → CostEvent → Type 0
Removes i e =
    IsPlain e ×
    ((q : Program) (sizes : StackSizes) (p : ℕ) (x : List ValueOf) (w : List Item) (fs : List Frame) (t : Tally) →
    gypsy_step q sizes (At p x (i ∷ w) fs t) ≡ Next (At p x (machine.settle w) fs (pay e t)))

-- a call, or a predefined call, is on top
abbrev pub IsCall : CallSite → List Item → Type 0
IsCall site w =
    (below : List Item) × (w ≡ Do (Call site.place site.callee site.actuals.items (map seen_cond site.conds.items)) ∷ below)

abbrev pub IsApplication : Application → List Item → Type 0
IsApplication call w = (below : List Item) × (w ≡ Do (Apply call.place call.which (map seen_arg call.args.items)) ∷ below)

abbrev pub Leaves : ConditionOf → List Item → Type 0
Leaves c w = (below : List Item) × (w ≡ machine.Out c ∷ below)

-- where a step changes the work alone, what is left is told by how many items stay
abbrev pub IsTurn : List ValueOf → List Item → (ℕ → List Item) → Turn → Type 0
IsTurn x w left (Opens kept) = OpensTo x w (left kept)
IsTurn x w left (Goes kept a) = GoesOn x w (left kept) a
IsTurn x w left (Calls site) = IsCall site.value w
IsTurn x w left (Applies call) = IsApplication call.value w
IsTurn x w left Ends = w ≡ []
IsTurn x w left (Leaves' c) = Leaves (seen_cond c) w

-- and else the work stays
abbrev pub Stays : List Kept → List Kept → Turn → Type 0
Stays ks ls (Opens kept) = Unit {0}
Stays ks ls (Goes kept a) = Unit {0}
Stays ks ls _ = ls ≡ ks

-- where a predefined call fails over this work
abbrev pub RaisesOn : Predef → Outcome → List Item → List Item → Advance → Type 0
RaisesOn which outcome w v a =
    IsPlain a.event ×
    ((q : Program) (p : ℕ) (x : List ValueOf) (fs : List Frame) (t : Tally) →
    machine.raise Routine p x w fs (predef_spend which (effect_of outcome) t) ≡
    At p x v fs (caught_spend a.caught (pay a.event t)))
