-- The state of the step machine, as the code keeps it.
--
-- The code moves the actuals of a call into the callee, and leaves something else in their places: what an activation that
-- waits has there is told by its callee.
use Rattle.std.specs.Prelude.{◌≡◌, ℕ, ◌+◌, List, map, reverse, Bool, true, false, Option, Some, None}
use Rattle.stack_text.specs.Values.{ValueOf}
use Rattle.gypsy_syntax.specs.Programs.{Program}
use Rattle.gypsy_space.specs.{Nodes.{held_values, seen_cond, seen_program}, Costs.{start_tally, count_of}, Needs.{StackSizes, stack_sizes}}
use Rattle.gypsy_space.specs.{Events.{event_count}, declared.event.CostEvent.{CostEvent}, declared.need.Need.{Need}}
use Rattle.gypsy_space.specs.declared.event.CostEvent.TheVariants as event
use Rattle.gypsy_semantics.specs.{Calls.{CurrentCondition}, Machine.{State, At, Held, Next, gypsy_step}, Views.RunView.{Seen, Stage}}
use Rattle.gypsy_semantics.specs.Views.RunView.{Running, Finished, added, bare, handed_back, spent_at}
use Rattle.gypsy_semantics.specs.Machine as machine
use Rattle.gypsy_meaning.specs.{Views.Work.{work_of}, declared.turn.Advance.{Advance}, declared.work.Item.{Item as Kept}}
use Rattle.gypsy_meaning.specs.{declared.running.Ending.{Ending}, declared.running.Frame.{Frame}, declared.running.Meaning.{Meaning}}
use Rattle.gypsy_meaning.specs.declared.running.Ending.TheVariants as ending

abbrev pub frame_of : Frame → machine.Frame
frame_of f =
    Held f.procedure (held_values f.variables.items) (work_of f.work)
    f.call.value.actuals.items (map seen_cond f.call.value.conds.items)

-- as they are kept, the top first: the last one is the top
abbrev pub kept_frames : List Frame → List machine.Frame
kept_frames fs = map frame_of (reverse fs)

-- with what is lent, below an activation with these variables
abbrev pub frames_of : List ValueOf → List Frame → List machine.Frame
frames_of y fs = handed_back y (kept_frames fs)

abbrev pub frames_in : Meaning → List machine.Frame
frames_in m = frames_of (held_values m.variables.items) m.waiting.items

-- with nothing spent
abbrev pub state_of : Meaning → State
state_of m = At m.procedure (held_values m.variables.items) (work_of m.work) (frames_in m) start_tally

abbrev pub sizes_of : Meaning → StackSizes
sizes_of m = stack_sizes m.ctrl m.temp

abbrev pub way_of : Ending → CurrentCondition
way_of ending.Normal = None
way_of (ending.Raised c) = Some (seen_cond c)

abbrev pub stage_by : Option Ending → Meaning → Stage
stage_by None m = Running (state_of m)
stage_by (Some e) m = Finished (held_values m.variables.items) (way_of e)

-- what a run shows
unfoldable pub seen : Meaning → Seen
seen m = record {
  program = seen_program m.program;
  sizes = sizes_of m;
  values = m.values.items;
  stage = stage_by m.ending m;
  steps = m.steps;
  counted = m.counted;
  cost = m.cost;
}

-- a step of this cost is counted
abbrev pub paid : ℕ → Meaning → Meaning
paid cost m = record m { steps = added m.steps 1; counted = added m.counted cost; cost = cost }

-- a step cost so much
pub record Costs (cost : ℕ) (m n : Meaning) : Type 0 where
  pub counted : n.counted ≡ added m.counted cost
  pub last : n.cost ≡ cost

-- of an event, and of a stop where there was one
unfoldable pub price : List Need → CostEvent → Bool → ℕ
price ns e true = event_count ns e + count_of event.Caught
price ns e false = event_count ns e

-- after a step that changes the work alone
abbrev pub advanced : List Need → Advance → List Kept → Meaning → Meaning
advanced ns a w m = paid (price ns a.event a.caught) (record m { work = w })

-- one step leads from a state to another, at the cost that is counted
abbrev pub Goes : Program → StackSizes → Meaning → Meaning → Type 0
Goes q sizes m n =
    (g : State) × (gypsy_step q sizes (state_of m) ≡ Next g) × (bare g ≡ state_of n) × Costs (spent_at g) m n
