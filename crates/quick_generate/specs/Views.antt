-- What clauses see of the generator's types.
use Rattle.std.specs.Prelude.{ℕ, ◌-◌, List, map, take}
use Rattle.stack_text.specs.declared.shape.Shape.{Shape}
use Rattle.gypsy_syntax.specs.Programs.{words_of}
use Rattle.gypsy_space.specs.Nodes.{seen_cond}
use Rattle.quick_code.specs.Access as code
use Rattle.quick_gypsy.specs.{Layout.{Layout}, Quick.{Targets, loop_targets, begin_targets}}
use Rattle.quick_build.specs.QuickImage.{access_from, exit_place}
use Rattle.quick_generate.specs.{declared.access.Access.{Access}, declared.access.Access.TheVariants.{Held, Known}}
use Rattle.quick_generate.specs.{declared.frame.Frame.{Frame}, declared.scopes.Scopes.{Scopes, Outside, InLoop', InBegin'}}

abbrev pub seen_access : Access → code.Access
seen_access (Held register) = code.Held register
seen_access (Known address) = code.Known address

-- variables of these shapes at the end of a window, of which registers hold the addresses of the chosen ones
abbrev pub layout_by : List ℕ → List Shape → ℕ → Layout
layout_by vs shapes end = record {
  end = end;
  shapes = shapes;
  access = λ b. access_from 5 vs b (end - 1 - words_of (take b shapes));
}

abbrev pub frame_layout : Frame → Layout
frame_layout f = layout_by f.chosen.items f.shapes.items f.end

-- where each condition goes, by what stands round a statement
abbrev pub targets : Scopes → Targets
targets (Outside exits) = exit_place exits.now.base exits.now.conds
targets (InLoop' behind p outer) = loop_targets behind (targets outer)
targets (InBegin' conds arm p outer) = begin_targets (map seen_cond conds.now) arm (targets outer)
