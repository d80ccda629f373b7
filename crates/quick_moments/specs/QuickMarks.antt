-- Where the quick code of a list of work stands, item by item.
use Rattle.std.specs.Prelude.{◌≡◌, ℕ, ◌+◌, ◌-◌, List, [], ◌∷◌, ◌++◌, Some, None}
use Rattle.stack_text.specs.declared.shape.Shape.{Shape}
use Rattle.fm_code.specs.{Execution.{Parts, CodeAt}, Templates.{jump_code}}
use Rattle.gypsy_syntax.specs.Programs.{Loop}
use Rattle.gypsy_semantics.specs.{Calls.{CurrentCondition}, Machine.{Item, Do, Back, JoinThen, JoinOne, Guard, Out}}
use Rattle.quick_gypsy.specs.{Layout.{Layout}, Quick.{Targets, IsPlain, size, quick, signalled, arm_size, arm_target, arm_code}}
use Rattle.quick_gypsy.specs.Quick.{loop_targets, begin_targets}

-- how many words the code of an item has
abbrev pub item_size : Layout → Item → ℕ
item_size L (Do s) = size L s
item_size L (Back place s) = 2
item_size L (JoinThen place v) = 2 + size L v
item_size L (JoinOne place) = 0
item_size L (Guard place cs v) = arm_size (signalled v) (size L v)
item_size L (Out c) = 0

-- and that of all items, which is what stands from the top item to the end of the code
abbrev pub work_size : Layout → List Item → ℕ
work_size L [] = 0
work_size L (i ∷ w) = item_size L i + work_size L w

-- Where each condition goes that is raised above these items, whose code begins at this address: a loop sends `leave` behind it, a handler
-- sends its conditions to its arm, and the conditions that no item handles go to the targets of main.
abbrev pub targets_above : Layout → Targets → ℕ → List Item → Targets
targets_above L T at [] = T
targets_above L T at (Do s ∷ w) = targets_above L T (at + size L s) w
targets_above L T at (Back place s ∷ w) = loop_targets (at + 2) (targets_above L T (at + 2) w)
targets_above L T at (JoinThen place v ∷ w) = targets_above L T (at + (2 + size L v)) w
targets_above L T at (JoinOne place ∷ w) = targets_above L T at w
targets_above L T at (Guard place cs v ∷ w) =
    let outer = targets_above L T (at + arm_size (signalled v) (size L v)) w in
    begin_targets cs (arm_target (signalled v) (at + 2) outer) outer
targets_above L T at (Out c ∷ w) = targets_above L T at w

-- The address at which the code of the top item begins, if that of all items ends at this one. A condition that leaves main is at its
-- target.
abbrev pub own_mark : Layout → Targets → ℕ → List Item → ℕ
own_mark L T end (Out c ∷ w) = T c
own_mark L T end w = end - work_size L w

-- The address of the machine when this is the list. An arm that only signals has no code. While it is on top, its condition is under way,
-- so the machine is at the target of that condition already.
abbrev pub quick_mark : Layout → Targets → ℕ → CurrentCondition → List Item → ℕ
quick_mark L T end None w = own_mark L T end w
quick_mark L T end (Some d) [] = end
quick_mark L T end (Some d) (i ∷ w) = targets_above L T (end - work_size L w) w d

-- the code of these items stands from this address on, that of each behind that of the one above it
abbrev pub StandsQuick : Parts → Layout → Targets → ℕ → List Item → Type 0
StandsQuick P L T at [] = Unit {0}
StandsQuick P L T at (Do s ∷ w) =
    CodeAt P at (quick L (targets_above L T (at + size L s) w) at s) × StandsQuick P L T (at + size L s) w
StandsQuick P L T at (Back place s ∷ w) =
    (start : ℕ) × (start + size L s ≡ at) × CodeAt P start (quick L (targets_above L T (at + 2) w) start (Loop place s)) ×
    StandsQuick P L T (at + 2) w
StandsQuick P L T at (JoinThen place v ∷ w) =
    CodeAt P at (jump_code (at + (2 + size L v))) × StandsQuick P L T (at + (2 + size L v)) w
StandsQuick P L T at (JoinOne place ∷ w) = StandsQuick P L T at w
StandsQuick P L T at (Guard place cs v ∷ w) =
    let behind = at + arm_size (signalled v) (size L v) in
    CodeAt P at (arm_code (signalled v) (jump_code (at + 2 + size L v) ++ quick L (targets_above L T behind w) (at + 2) v)) ×
    StandsQuick P L T behind w
StandsQuick P L T at (Out c ∷ w) = ⊥

-- no statement of these items calls a procedure
abbrev pub ArePlain : List Shape → List Item → Type 0
ArePlain shapes [] = Unit {0}
ArePlain shapes (Do s ∷ w) = IsPlain shapes s × ArePlain shapes w
ArePlain shapes (Back place s ∷ w) = IsPlain shapes s × ArePlain shapes w
ArePlain shapes (JoinThen place v ∷ w) = ArePlain shapes w
ArePlain shapes (JoinOne place ∷ w) = ArePlain shapes w
ArePlain shapes (Guard place cs v ∷ w) = IsPlain shapes v × ArePlain shapes w
ArePlain shapes (Out c ∷ w) = ArePlain shapes w
