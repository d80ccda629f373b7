use Rattle.std.{proofs.Common.{◌≡◌, ◌++◌, drop}, specs.List.{flat_map, enumerate_from}}
use Rattle.command_replies.specs.Commands.Prun.{area_line}
use Rattle.command_replies.proofs.prun.area_lines.Given as goal

-- the text so far, and that of the areas that are left, are that of all
abbrev pub invariant-loop-index : goal.invariant-loop-index
invariant-loop-index g l =
    l.out.items ++ flat_map (area_line l.system l.state.state.areas) (enumerate_from l.index (drop l.index l.system.areas))
    ≡ l.initial.out.items ++ flat_map (area_line l.system l.state.state.areas) (enumerate_from 0 l.system.areas)
