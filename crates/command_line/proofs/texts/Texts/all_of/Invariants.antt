use Rattle.std.{proofs.Common.{◌≡◌, ◌≤◌, ◌++◌, map, length, drop}, specs.Prelude.{◌^◌, All}}
use Rattle.command_line.specs.Gathered.{texts_of}
use Rattle.command_line.proofs.texts.Texts.all_of.Given as goal

-- the texts that were found, and those of the role that are left, are all
abbrev pub invariant-loop-text : goal.invariant-loop-text
invariant-loop-text g l = record {
  value : map (λ text. text.now) l.found.items ++ texts_of l.role (drop l.text-index l.self) ≡ texts_of l.role l.self;
  short : All (λ text. length text.now ≤ 2 ^ 31) l.found.items;
}
