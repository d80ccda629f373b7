use Rattle.std.proofs.Common.{◌≡◌, ◌≤◌, ◌++◌, length, map, reverse, take}
use Rattle.gypsy_semantics.specs.Views.RunView.{handed_back}
use Rattle.gypsy_meaning.{specs.Internal.Stacking.last_values, specs.Views.Running.{frames_in, kept_frames}, specs.Views.Stacks.activation_of}
use Rattle.gypsy_meaning.specs.Views.Stacks.{activation_seen}
use Rattle.gypsy_meaning.proofs.running.Meaning.all_waiting.Given as goal

-- those so far, and those of the frames that are left, are all
abbrev pub invariant-loop-place : goal.invariant-loop-place
invariant-loop-place g l =
    let all = map activation_seen l.all.items in
    (l.place ≤ length l.self.waiting.items) ×
    (all ++ map activation_of (handed_back (last_values (map (λ v. v.1) l.self.variables.items) all)
    (kept_frames (take l.place l.self.waiting.items))) ≡ map activation_of (frames_in l.self)) ×
    (map (λ a. map (λ v. v.0) a.variables.items) l.all.items ++ map (λ f. map (λ v. v.0) f.variables.items) (reverse (take l.place l.self.waiting.items))
    ≡ map (λ f. map (λ v. v.0) f.variables.items) (reverse l.self.waiting.items))
