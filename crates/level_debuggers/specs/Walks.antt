-- Runs of several steps.
use Rattle.std.specs.Prelude.{◌≡◌, ◌≤◌, ℕ, zero, suc, ◌+◌, ◌==◌, List, [], ◌∷◌, length, map, if◌then◌else◌}
use Rattle.piton_semantics.specs.StateView.{saturated}
use Rattle.level_debuggers.specs.{declared.watch.Event.{Event}, declared.advance.Stop.{Stop}, declared.session.SessionRun.{SessionRun}}
use Rattle.level_debuggers.specs.{Levels.{LevelOf, next_of}, Steps.{Next, Over, Stops, Makes}, Tallies.{Watching, noted, told}}
use Rattle.level_debuggers.specs.declared.advance.Stop.TheVariants as stop
use Rattle.level_debuggers.specs.declared.session.SessionRun.TheVariants as run

-- the events of steps, and where they led
pub record Walk : Type 0 where
  pub events : List Event
  pub level : LevelOf

abbrev pub with_event : Event → Walk → Walk
with_event event walk = record walk { events = event ∷ walk.events }

abbrev pub walk_on : LevelOf → (LevelOf → Walk) → Next LevelOf → Walk
walk_on level go (Makes event after) = with_event event (go after)
walk_on level go next = record { events = []; level = level }

-- so many steps, or fewer where the end or a refusal comes before; no watch is told of them
unfoldable pub walk : ℕ → LevelOf → Walk
walk zero level = record { events = []; level = level }
walk (suc n) level = walk_on level (walk n) (next_of level)

-- what clauses see of a session
pub record SessionOf : Type 0 where
  pub level : LevelOf
  pub steps : ℕ
  pub waiting : List Watching
  pub attached : List Watching

-- a session after a step that its run has made: each attached watch was told it
abbrev pub after_event : Event → SessionOf → SessionOf
after_event event s = record s { steps = saturated (s.steps + 1); attached = map (noted event) s.attached }

-- a session after steps: each attached watch was told their events
abbrev pub after_walk : SessionOf → Walk → SessionOf
after_walk s walk = record s {
  level = walk.level;
  steps = saturated (s.steps + length walk.events);
  attached = map (told walk.events) s.attached;
}

-- a refusal, after so many steps of the session
abbrev pub refused_after : ℕ → Stop → SessionRun
refused_after steps (stop.Error kind program place) = run.Error kind program place steps
refused_after steps (stop.Outside address) = run.Outside address steps

-- how a call ends that was asked for n steps and made some of them, by what is next
abbrev pub ends_by : ℕ → ℕ → ℕ → Next LevelOf → SessionRun
ends_by n made steps Over = run.Ended made
ends_by n made steps (Stops stop) = if made == n then run.Moved n else refused_after steps stop
ends_by n made steps (Makes event after) = run.Moved n

-- the answer of a call, and the session that it leaves
pub record Stepped : Type 0 where
  pub run : SessionRun
  pub session : SessionOf

abbrev pub stepped_by : ℕ → SessionOf → Walk → Stepped
stepped_by n s walk =
    let after = after_walk s walk in
    record { run = ends_by n (length walk.events) after.steps (next_of walk.level); session = after }

-- a call that is asked for n steps
abbrev pub stepped : ℕ → SessionOf → Stepped
stepped n s = stepped_by n s (walk n s.level)

-- some of n steps were made
abbrev pub HasMadeSome : ℕ → SessionOf → SessionOf → Type 0
HasMadeSome n old new = (m : ℕ) × (m ≤ n) × (length (walk m old.level).events ≡ m) × (new ≡ after_walk old (walk m old.level))

-- a session that has made some steps of a call goes on from them: k steps more lead to where all of these lead together
abbrev pub SessionsGoOn : Type 0
SessionsGoOn =
    (n k : ℕ) (old left : SessionOf) → (made : HasMadeSome n old left)
    → (stepped k left).session ≡ (stepped (made.0 + k) old).session
