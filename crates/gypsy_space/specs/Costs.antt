-- The price list of a run, and what was spent: instructions of the processor, and steps of Piton.
use Rattle.std.specs.Prelude.{ℕ, ◌+◌, ◌*◌, Bool, true, false}
use Rattle.gypsy_syntax.specs.{declared.predef.Predef.{Predef}, Effects.{Effect, no_value}, Predefined.{predef_cost}}
use Rattle.gypsy_syntax.specs.Effects as effect
use Rattle.gypsy_space.specs.{declared.event.Outcome.{Outcome}, declared.event.Outcome.TheVariants.{Normal, Fault, Beyond}}
use Rattle.gypsy_space.specs.declared.event.CostEvent.{CostEvent}
use Rattle.gypsy_space.specs.declared.event.CostEvent.TheVariants as event

-- an effect that ends so
abbrev pub effect_of : Outcome → Effect
effect_of Normal = effect.Normal no_value
effect_of Fault = effect.Fault
effect_of Beyond = effect.Beyond

-- what an event costs; a call with room costs more, for the variables of its callee
abbrev pub price_of : CostEvent → ℕ × ℕ
price_of event.NoOp = (1, 1)
price_of event.Signal = (4, 3)
price_of event.Caught = (3, 2)
price_of event.LoopRound = (1, 1)
price_of event.LoopBack = (1, 1)
price_of event.IfTrue = (8, 3)
price_of event.IfFalse = (9, 4)
price_of event.JoinThen = (2, 2)
price_of event.JoinOne = (1, 1)
price_of event.GuardNormal = (2, 2)
price_of event.LackTemporary = (15, 7)
price_of event.LackControl = (26, 11)
price_of (event.Call callee) = (26, 9)
price_of event.EndMain = (5, 2)
price_of event.EndProc = (12, 6)
price_of event.OutFormal = (4, 1)
price_of event.OutOther = (7, 3)
price_of event.ReturnRaised = (10, 6)
price_of (event.Predef which outcome) = predef_cost which (effect_of outcome)

-- for a callee's variables, by the words of its locals and the number of its variables
abbrev pub variables_price : ℕ → ℕ → ℕ × ℕ
variables_price words vars = (words + 4 * vars, words + vars)

-- the columns of the list
abbrev pub count_of : CostEvent → ℕ
count_of e = (price_of e).0

abbrev pub steps_of : CostEvent → ℕ
steps_of e = (price_of e).1

-- what was spent
pub record Tally : Type 0 where
  pub count : ℕ
  pub steps : ℕ

unfoldable pub spend : ℕ → ℕ → Tally → Tally
spend i p t = record { count = t.count + i; steps = t.steps + p }

abbrev pub start_tally : Tally
start_tally = record { count = 0; steps = 0 }

-- pays for an event
abbrev pub pay : CostEvent → Tally → Tally
pay e = spend (count_of e) (steps_of e)

-- for a predefined call, by its effect
abbrev pub predef_spend : Predef → Effect → Tally → Tally
predef_spend r e t = spend (predef_cost r e).0 (predef_cost r e).1 t

-- a condition leaves a procedure: a formal one or spaceerror, or another
abbrev pub leaving : Bool → CostEvent
leaving true = event.OutFormal
leaving false = event.OutOther

-- what follows a call whose callee ends with a condition
abbrev pub raised_price : Bool → ℕ × ℕ
raised_price passed = (count_of (leaving passed) + count_of event.ReturnRaised, steps_of (leaving passed) + steps_of event.ReturnRaised)

unfoldable pub out_spend : Bool → Tally → Tally
unfolding spend
out_spend passed t = spend (raised_price passed).0 (raised_price passed).1 t

-- what follows main's body that ends with a condition
unfoldable pub main_spend : Bool → Tally → Tally
unfolding spend
main_spend passed t = pay (leaving passed) t
