use Rattle.std.proofs.Common.{◌≡◌}
use Rattle.fm_loader.specs.Values.{all_found}
use Rattle.stack_text.proofs.ResultLoops.{with_front}
use Rattle.fm_loader.proofs.judging.all_found.Given as goal

-- the values so far and those still to come are all
abbrev pub invariant-loop-value : goal.invariant-loop-value
invariant-loop-value g l = all_found l.place l.fn.found.items ≡ with_front l.values.items (all_found l.place l.value-iterator.rest.items)
