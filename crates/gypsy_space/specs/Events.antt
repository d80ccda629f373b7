-- Needs as a list, and what an event costs by it.
use Rattle.std.specs.Prelude.{◌≡◌, ℕ, ◌+◌, ◌^◌, ◌<◌, ◌≤◌, List, length, max, get_or, nat_le, Bool, not, ◌&&◌, if◌then◌else◌}
use Rattle.gypsy_syntax.specs.Programs.{Program, proc_at}
use Rattle.gypsy_space.specs.{Costs.{count_of, variables_price}, Needs.{StackSizes, temp_need, ctrl_need, local_words, vars_of, code_words}}
use Rattle.gypsy_space.specs.{declared.event.CostEvent.{CostEvent}, declared.need.Need.{Need}, declared.need.Lack.{Lack}}
use Rattle.gypsy_space.specs.declared.need.Lack.TheVariants.{Nothing, Temporary, Control}
use Rattle.gypsy_space.specs.declared.event.CostEvent.TheVariants as event

-- a procedure's
abbrev pub need_of : Program → ℕ → Need
need_of q p =
    let c = proc_at q p in
    record { temp = temp_need c; ctrl = ctrl_need c; locals_words = local_words c; vars = vars_of c; code_words = code_words q p }

abbrev pub no_need : Need
no_need = record { temp = 0; ctrl = 0; locals_words = 0; vars = 0; code_words = 0 }

abbrev pub need_at : List Need → ℕ → Need
need_at ns p = get_or ns p no_need

-- those of each procedure, in order
pub record AreNeeds (q : Program) (ns : List Need) : Type 0 where
  pub number : length ns ≡ length q.procs
  pub each : (p : ℕ) → p < length q.procs → need_at ns p ≡ need_of q p

pub record IsSmall (n : Need) : Type 0 where
  pub temp : n.temp ≤ 2 ^ 60
  pub ctrl : n.ctrl ≤ 2 ^ 60
  pub locals_words : n.locals_words ≤ 2 ^ 60
  pub vars : n.vars ≤ 2 ^ 60
  pub code_words : n.code_words ≤ 2 ^ 60

-- no number is above 2^60
abbrev pub AreSmall : List Need → Type 0
AreSmall ns = (p : ℕ) → IsSmall (need_at ns p)

-- whether a call has room on each stack, by its size and the words in use
abbrev pub has_temp_room_by : Need → ℕ → ℕ → Bool
has_temp_room_by n size used = nat_le (used + max (n.locals_words + n.vars) (n.locals_words + n.temp)) size

abbrev pub has_ctrl_room_by : Need → ℕ → ℕ → Bool
has_ctrl_room_by n size used = nat_le (used + (2 + n.vars + n.ctrl)) size

-- whether a call has room
unfoldable pub has_room_by : Need → StackSizes → StackSizes → Bool
has_room_by n sizes used = has_temp_room_by n sizes.temp used.temp && has_ctrl_room_by n sizes.ctrl used.ctrl

-- which stack lacks room for a call; the temporary one is looked at first
unfoldable pub lack_by : Need → StackSizes → StackSizes → Lack
lack_by n sizes used =
    if not (has_temp_room_by n sizes.temp used.temp) then Temporary else
    if not (has_ctrl_room_by n sizes.ctrl used.ctrl) then Control else
    Nothing

-- the instructions of an event
unfoldable pub event_count : List Need → CostEvent → ℕ
event_count ns (event.Call callee) =
    let n = need_at ns callee in
    count_of (event.Call callee) + (variables_price n.locals_words n.vars).0
event_count ns e = count_of e
