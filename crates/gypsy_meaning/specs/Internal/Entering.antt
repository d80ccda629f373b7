-- The call of a procedure, as the code has it.
use Rattle.std.specs.{Prelude.{◌≡◌, ℕ, ◌<◌, List, ◌∷◌, [], ◌++◌, map, length, drop}, declared.alloc.Global.{Global}, declared.rc.Rc.{Rc}}
use Rattle.std.specs.Global.{Vec}
use Rattle.stack_text.specs.{declared.name.Name.{Name}, declared.value.Value.{Value}}
use Rattle.gypsy_syntax.specs.{Effects.{value_at}, ProgramFits.{Distinct, Each}, Programs.{Call, Space}}
use Rattle.gypsy_space.specs.{Costs.{start_tally, pay}, Nodes.{held_names, held_values, seen_cond, seen_program}}
use Rattle.gypsy_space.specs.{declared.event.CostEvent.{CostEvent}, declared.need.Need.{Need}, declared.program.CallSite.{CallSite}}
use Rattle.gypsy_semantics.specs.{Calls.{copied_out}, Machine.{Item, Do, Next, gypsy_step, raise}, Views.RunView.{added}}
use Rattle.gypsy_meaning.specs.{Views.Running.{frames_in, sizes_of, state_of}, declared.running.Meaning.{Meaning}}
use Rattle.gypsy_meaning.specs.{declared.work.Item.{Item as Kept}, Views.Work.{work_of}}

-- the item of a call
abbrev pub call_top : CallSite → Item
call_top site = Do (Call site.place site.callee site.actuals.items (map seen_cond site.conds.items))

-- the step is a call without room, which raises spaceerror over what is below the call, at the cost of this event
abbrev pub RaisesSpace : Meaning → CostEvent → Type 0
RaisesSpace m e =
    (i : Item) × (w : List Item) × (work_of m.work ≡ i ∷ w) ×
    (gypsy_step (seen_program m.program) (sizes_of m) (state_of m) ≡
    Next (raise Space m.procedure (held_values m.variables.items) w (frames_in m)
    (pay e start_tally)))

-- all that is seen is as it was
pub record IsUnchanged (m n : Meaning) : Type 0 where
  pub waiting : n.waiting.items ≡ m.waiting.items
  pub others : n ≡ record m { waiting = n.waiting }

-- so many variables have these actuals: no two are the same
pub record AreLent (count : ℕ) (xs : List ℕ) : Type 0 where
  pub there : Each (λ a. a < count) xs
  pub distinct : Distinct xs

-- the active procedure waits at this call, with this work behind it: its actuals are now the callee's first variables, and it
-- has in their places what stood there
pub record Waits (m : Meaning) (callee : Vec (Name × Value)) (work : List Kept) (below : List Item) (site : Rc CallSite Global)
    (n : Meaning) : Type 0
  where
    pub behind : List Kept
    pub behind_is : work_of behind ≡ below
    pub caller : Vec (Name × Value)
    pub waiting : n.waiting.items ≡ m.waiting.items ++ record {
      procedure = m.procedure;
      variables = caller;
      work = behind;
      call = site;
      used_temp = m.used_temp;
      used_ctrl = m.used_ctrl;
    } ∷ []
    pub left : held_values caller.items
        ≡ copied_out site.value.actuals.items (held_values callee.items) (held_values m.variables.items)
    pub left_names : held_names caller.items ≡ held_names m.variables.items
    pub lent : held_values n.variables.items
        ≡ map (value_at (held_values m.variables.items)) site.value.actuals.items
        ++ drop (length site.value.actuals.items) (held_values callee.items)
    pub lent_names : held_names n.variables.items ≡ held_names callee.items
    pub work_is : n.work ≡ work
    pub others : n ≡ record m { variables = n.variables; work = n.work; waiting = n.waiting }

abbrev pub with_words : Need → Meaning → Meaning
with_words need m = record m { used_temp = added m.used_temp need.locals_words; used_ctrl = added m.used_ctrl (added need.vars 2) }
