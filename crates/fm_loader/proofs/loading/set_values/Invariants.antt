use Rattle.std.proofs.Common.{◌≡◌, drop}
use Rattle.fm_loader.specs.Loaded.{with_values}
use Rattle.fm_loader.proofs.loading.set_values.Given as goal

-- the values that are left make of memory what all make of it, and nothing else changed
abbrev pub invariant-loop-place : goal.invariant-loop-place
invariant-loop-place l = record {
  values : with_values l.base (drop l.place l.slots) (drop l.place l.values) l.machine.state.memory
      ≡ with_values l.base l.slots l.values l.initial.machine.state.memory;
  same : l.machine.state ≡ record l.initial.machine.state { memory = l.machine.state.memory };
}
