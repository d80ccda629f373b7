-- What clauses see of the types by which calls go in line.
use Rattle.std.specs.Prelude.{◌≡◌, ℕ, ◌+◌, ◌≤◌, ◌^◌, List, length, map}
use Rattle.stack_text.specs.Values.{ValueOf}
use Rattle.gypsy_syntax.specs.Programs.{Call, Proc, Program, Stmt, body_of, conds_of, shapes_of, words_of}
use Rattle.gypsy_space.specs.{Needs.{StackSizes, frame_of, stack_sizes}, Events.{AreNeeds, AreSmall}, Nodes.{seen_cond, seen_program}}
use Rattle.gypsy_space.specs.declared.program.CallSite.{CallSite}
use Rattle.quick_gypsy.specs.InLine.{in_line, new_locals, numbers_from}
use Rattle.quick_build.specs.QuickImage.{most_nested}
use Rattle.quick_gypsy.specs.InLine as line
use Rattle.quick_generate.specs.{Lining.{CanGo, lined_size, most_lined}, declared.calls.Calls.{Calls}}
use Rattle.quick_generate.specs.{declared.calls.Activation.{Activation}, declared.in_main.InMain.{InMain}}

-- the program
abbrev pub called_program : Calls → Program
called_program calls = seen_program calls.program.now

-- the words in use
abbrev pub used_in : Activation → StackSizes
used_in a = stack_sizes a.ctrl a.temp

-- the sizes of the stacks
abbrev pub sizes_of : Calls → StackSizes
sizes_of calls = stack_sizes calls.ctrl calls.temp

-- a procedure in main, if this is the first variable that isn't taken
abbrev pub seen_in_main : InMain → ℕ → line.InMain
seen_in_main h next = record {
  used = used_in h.activation;
  variables = h.variables.items;
  next = next;
  first_cond = h.first_cond;
  next_cond = h.next_cond;
}

-- the needs are those of the program, whose calls can all go in line
pub record IsTable (calls : Calls) : Type 0 where
  pub needs : AreNeeds (called_program calls) calls.needs.now.procedures.items
  pub small : AreSmall calls.needs.now.procedures.items
  pub all : (p : ℕ) → CanGo (called_program calls) (body_of (called_program calls) p)

-- how much is made of a statement, if k levels are left
abbrev pub size_in : Calls → Activation → ℕ → Stmt → ℕ
size_in calls a k s = lined_size (called_program calls) (sizes_of calls) a.calls k (used_in a) s

-- the statement with its calls in line, and the values of the locals of these
abbrev pub line_in : Calls → InMain → ℕ → Stmt → Stmt
line_in calls h next s = in_line (called_program calls) (sizes_of calls) h.activation.calls (seen_in_main h next) s

abbrev pub more_in : Calls → Activation → Stmt → List ValueOf
more_in calls a s = new_locals (called_program calls) (sizes_of calls) a.calls (used_in a) s

-- a call, as it is kept
abbrev pub seen_call : CallSite → Stmt
seen_call site = Call site.place site.callee site.actuals.items (map seen_cond site.conds.items)

-- so much more can be made: there are numbers for the variables from next on, and for the conditions
pub record HasNumbers (h : InMain) (next size : ℕ) : Type 0 where
  pub small : size ≤ most_lined
  pub variables : next + size ≤ 2 ^ 31
  pub first : h.first_cond ≤ h.next_cond
  pub conditions : h.next_cond + size ≤ 2 ^ 31

-- main itself, in main
pub record IsMainItself (p : Proc) (h : InMain) : Type 0 where
  pub used : used_in h.activation ≡ record { temp = words_of (shapes_of p); ctrl = frame_of p }
  pub calls : h.activation.calls ≡ most_nested
  pub variables : h.variables.items ≡ numbers_from 0 (length (shapes_of p))
  pub first : h.first_cond ≡ 0
  pub next : h.next_cond ≡ conds_of p
