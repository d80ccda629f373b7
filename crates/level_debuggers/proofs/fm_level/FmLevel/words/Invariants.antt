use Rattle.std.proofs.Common.{◌≡◌}
use Rattle.level_debuggers.specs.FmLevels.{word_lines}
use Rattle.level_debuggers.proofs.fm_level.FmLevel.words.Given as goal

abbrev pub invariant-loop-place : goal.invariant-loop-place
invariant-loop-place g l = l.text.items ≡ word_lines l.self.state l.address l.place
