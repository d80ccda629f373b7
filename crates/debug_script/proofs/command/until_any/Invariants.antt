use Rattle.std.{proofs.Common.{◌≡◌, ◌≤◌, ◌-◌, drop, length, map}, specs.List.slice_split}
use Rattle.debug_script.specs.Commands.{is_or, until_any, until_parts}
use Rattle.debug_script.proofs.command.until_any.Given as goal

-- the places so far, with those of the words from `start` on, are all
abbrev pub invariant-loop-part : goal.invariant-loop-part
invariant-loop-part g l = record {
  so_far :
      until_parts l.places.items (slice_split is_or (map (λ word. word.now) (drop l.start l.fn.words)))
      ≡ until_any (map (λ word. word.now) l.fn.words);
  within : l.start ≤ length l.fn.words;
}

abbrev pub decreases-loop-part : goal.decreases-loop-part
decreases-loop-part g l = length l.fn.words - l.start
