use Rattle.std.proofs.Common.{◌≡◌, ◌+◌, drop}
use Rattle.fm_loader.specs.Loaded.{with_words}
use Rattle.fm_loader.proofs.loading.set_words.Given as goal

-- the words that are left make of memory what all make of it, and nothing else changed
abbrev pub invariant-loop-place : goal.invariant-loop-place
invariant-loop-place l = record {
  words : with_words l.base (l.base + l.place) (drop l.place l.words) l.machine.state.memory ≡ with_words l.base l.base l.words l.initial.machine.state.memory;
  same : l.machine.state ≡ record l.initial.machine.state { memory = l.machine.state.memory };
}
