-- What the code keeps from step to step beside the state: names and the words in use.
use Rattle.std.specs.Prelude.{◌≡◌, ℕ, List, [], ◌∷◌, map, length, reverse, take, Some}
use Rattle.stack_text.specs.{declared.name.Name.{Name}, declared.value.Value.{Value}}
use Rattle.gypsy_syntax.specs.Programs.{Program, proc_at}
use Rattle.gypsy_space.specs.{Costs.{Tally}, Needs.{stack_sizes}, Nodes.{held_names, held_values, seen_program}}
use Rattle.gypsy_semantics.specs.{Machine.{Ended, gypsy_step, used}, Views.RunView.{added}}
use Rattle.gypsy_semantics.specs.Machine as machine
use Rattle.gypsy_meaning.specs.{Views.Named.{variables_of}, Views.Running.{Costs, Goes, frame_of, kept_frames, sizes_of, state_of, way_of}}
use Rattle.gypsy_meaning.specs.{declared.names.Names.{Names}, declared.running.Ending.{Ending}, declared.running.Frame.{Frame}}
use Rattle.gypsy_meaning.specs.declared.running.Meaning.{Meaning}

abbrev pub Variables : Type 0
Variables = List (Name × Value)

-- an activation of a procedure above these: its variables have their names, and these words are in use while it runs
pub record IsActivation (q : Program) (names : List Names) (p : ℕ) (vars : Variables) (temp ctrl : ℕ) (fs : List machine.Frame) : Type 0
  where
    pub named : held_names vars ≡ variables_of names p
    pub used_words : used q p fs ≡ stack_sizes ctrl temp

-- those that wait, the top first
abbrev pub AreActivations : Program → List Names → List Frame → Type 0
AreActivations q names [] = Unit {0}
AreActivations q names (f ∷ fs) =
    IsActivation q names f.procedure f.variables.items f.used_temp f.used_ctrl (map frame_of fs) × AreActivations q names fs

pub record IsHeld (m : Meaning) : Type 0 where
  pub top : let fs = kept_frames m.waiting.items in
      IsActivation (seen_program m.program) m.names.items m.procedure m.variables.items m.used_temp m.used_ctrl fs
  pub waiting : AreActivations (seen_program m.program) m.names.items (reverse m.waiting.items)

-- what no step changes; a step is counted
pub record Keeps (m n : Meaning) : Type 0 where
  pub program : n.program ≡ m.program
  pub temp : n.temp ≡ m.temp
  pub ctrl : n.ctrl ≡ m.ctrl
  pub values : n.values ≡ m.values
  pub names : n.names ≡ m.names
  pub unnamed : n.unnamed ≡ m.unnamed
  pub steps : n.steps ≡ added m.steps 1

-- a step was made, and the run isn't over
pub record Moves (m n : Meaning) : Type 0 where
  pub goes : Goes (seen_program m.program) (sizes_of m) m n
  pub keeps : Keeps m n
  pub ending : n.ending ≡ m.ending
  pub held : IsHeld m → IsHeld n

-- a step ended the run
pub record EndsRun (m n : Meaning) : Type 0 where
  pub alone : m.waiting.items ≡ []
  pub ended_by : Ending
  pub ending : n.ending ≡ Some ended_by
  pub spent : Tally
  pub ends : let x = held_values n.variables.items in
      gypsy_step (seen_program m.program) (sizes_of m) (state_of m) ≡ Ended x (way_of ended_by) spent
  pub costs : Costs spent.count m n
  pub keeps : Keeps m n
  pub named : let q = seen_program m.program in
      held_names n.variables.items ≡ take (length (proc_at q q.main).formals) (held_names m.variables.items)
