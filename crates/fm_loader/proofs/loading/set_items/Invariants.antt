use Rattle.std.proofs.Common.{◌≡◌, ◌-◌, drop}
use Rattle.fm_loader.specs.Loaded.{with_items}
use Rattle.fm_loader.proofs.loading.set_items.Given as goal

-- the items that are left make of memory what all make of it, and nothing else changed
abbrev pub invariant-loop-place : goal.invariant-loop-place
invariant-loop-place l = record {
  items : with_items l.base (l.address - l.place) (drop l.place l.items) l.machine.state.memory
      ≡ with_items l.base l.address l.items l.initial.machine.state.memory;
  same : l.machine.state ≡ record l.initial.machine.state { memory = l.machine.state.memory };
}
