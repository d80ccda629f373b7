-- What watches make of events.
use Rattle.std.specs.Prelude.{◌+◌, max, List, [], ◌∷◌, ◌++◌, drop, fold, replicate}
use Rattle.piton_semantics.specs.StateView.{saturated}
use Rattle.level_debuggers.specs.{declared.watch.Event.{Event}, declared.watch.Tally.{Tally}, declared.watch.Rule.{Rule}}
use Rattle.level_debuggers.specs.declared.watch.Rule.TheVariants.{Count, Cost, Last, Peak}

abbrev pub no_events : Tally
no_events = record { count = 0; peak = 0; last = replicate 8 0 }

-- a tally after one event more
abbrev pub tally_step : Rule → Tally → Event → Tally
tally_step Count tally event = record tally { count = saturated (tally.count + 1) }
tally_step Cost tally event = record tally { count = saturated (tally.count + event.cost) }
tally_step Last tally event = record tally { count = saturated (tally.count + 1); last = drop 1 tally.last ++ event.place ∷ [] }
tally_step Peak tally event = record tally { count = saturated (tally.count + 1); peak = max tally.peak event.depth }

-- what clauses see of a watch
pub record Watching : Type 0 where
  pub rule : Rule
  pub tally : Tally

-- a watch that was told an event, or several
abbrev pub noted : Event → Watching → Watching
noted event watch = record watch { tally = tally_step watch.rule watch.tally event }

abbrev pub told : List Event → Watching → Watching
told events watch = record watch { tally = fold (tally_step watch.rule) watch.tally events }
