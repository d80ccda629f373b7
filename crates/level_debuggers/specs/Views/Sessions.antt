-- Sessions.
use Rattle.std.specs.{Prelude.{map}, declared.dyn_box.DynBox.{DynBox}, declared.alloc.Global.{Global}}
use Rattle.level_debuggers.specs.{declared.session.Session.{Session}, Views.Belonging.{IsLevel, level_seen}, Tallies.{Watching}}
use Rattle.level_debuggers.specs.Walks.{SessionOf}

-- what clauses see of a `Session`, where `seen` is a boxed watch's rule and tally
abbrev pub session_of : {I : Type 0} {F : I → Type 0} → (DynBox I Global F → Watching) → Session I F → SessionOf
session_of seen s = record {
  level = level_seen s.level;
  steps = s.steps;
  waiting = map seen s.waiting.items;
  attached = map seen s.attached.items;
}

-- the parts of a session's run belong together: so it is from `new` on
abbrev pub IsSession : {I : Type 0} {F : I → Type 0} → Session I F → Type 0
IsSession s = IsLevel s.level
