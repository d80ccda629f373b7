use Rattle.std.proofs.Common.{◌≡◌, drop}
use Rattle.command_line.specs.Gathered.{text_of}
use Rattle.command_line.proofs.texts.Texts.of.Given as goal

-- no text so far is of the role
abbrev pub invariant-loop-text : goal.invariant-loop-text
invariant-loop-text l = text_of l.role (drop l.text-index l.self) ≡ text_of l.role l.self
