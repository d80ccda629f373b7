-- What clauses see of work.
use Rattle.std.specs.Prelude.{◌≡◌, ℕ, List, [], ◌∷◌, map, drop, take, Bool, true, false}
use Rattle.gypsy_syntax.specs.Programs.{Stmt, Loop}
use Rattle.gypsy_space.specs.{Costs.{Tally, pay}, Nodes.{seen_cond, seen_statement, seen_statements}}
use Rattle.gypsy_space.specs.declared.event.CostEvent.TheVariants as event
use Rattle.gypsy_semantics.specs.Machine.{Item, opens}
use Rattle.gypsy_semantics.specs.Machine as machine
use Rattle.gypsy_meaning.specs.{declared.work.Item.{Item as Kept}, declared.work.Item.TheVariants.{Do, Parts, Again, Back, JoinThen}}
use Rattle.gypsy_meaning.specs.declared.work.Item.TheVariants.{JoinOne, Guard, Out}

abbrev pub item_of : Kept → Item
item_of (Do n) = machine.Do (seen_statement n.value)
item_of (Parts parts next) = machine.Do (seen_statements (drop next parts.value.items))
item_of (Again place n) = machine.Do (Loop place (seen_statement n.value))
item_of (Back place n) = machine.Back place (seen_statement n.value)
item_of (JoinThen place n) = machine.JoinThen place (seen_statement n.value)
item_of (JoinOne place) = machine.JoinOne place
item_of (Guard place conds n) = machine.Guard place (map seen_cond conds.value.items) (seen_statement n.value)
item_of (Out c) = machine.Out (seen_cond c)

-- items as they are kept, the last one on top, put on other work
abbrev pub work_on : List Kept → List Item → List Item
work_on [] w = w
work_on (k ∷ ks) w = work_on ks (item_of k ∷ w)

abbrev pub work_of : List Kept → List Item
work_of ks = work_on ks []

-- the first ones of these items stay, and others are put on them
abbrev pub left_by : List Kept → List Kept → ℕ → List Item
left_by ks added kept = work_on added (work_of (take kept ks))

-- a statement is put on the items, opened; or it opens to nothing, and they are as they were
abbrev pub OpensOn : Stmt → List Kept → List Kept → Bool → Type 0
OpensOn s ks ls true = (w ws : List Item) → opens s (work_on ks w) ws ≡ work_on ls w
OpensOn s ks ls false = ((w ws : List Item) → opens s w ws ≡ ws) × (ls ≡ ks)

-- what a condition costs that is caught or not
abbrev pub caught_spend : Bool → Tally → Tally
caught_spend true t = pay event.Caught t
caught_spend false t = t
