use Rattle.std.proofs.Common.{◌≡◌, ◌+◌, ◌-◌, drop, take}
use Rattle.gypsy_syntax.specs.Programs.{words_of}
use Rattle.quick_build.specs.QuickImage.{access_from}
use Rattle.quick_generate.proofs.frame.Frame.reach.Given as goal

-- none of the variables so far is the one
abbrev pub invariant-loop-chosen : goal.invariant-loop-chosen
invariant-loop-chosen l =
    let address = l.self.end - 1 - words_of (take l.variable l.self.shapes.items) in
    (l.register ≡ 5 + l.chosen-index)
    × (access_from l.register (drop l.chosen-index l.self.chosen.items) l.variable address ≡ access_from 5 l.self.chosen.items l.variable address)
