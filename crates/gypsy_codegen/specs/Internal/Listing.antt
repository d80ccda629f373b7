-- Internal: what listing the marks of a procedure knows.
use Rattle.std.specs.Prelude.{map}
use Rattle.gypsy_syntax.specs.{Programs.{Program, Stmt, Call, Apply}, ProgramFits.{ProgramFits}}
use Rattle.gypsy_space.specs.{declared.program.Application.{Application}, declared.program.CallSite.{CallSite}, Events.{AreNeeds}}
use Rattle.gypsy_space.specs.Nodes.{seen_arg, seen_cond, seen_program}
use Rattle.gypsy_codegen.specs.declared.marking.Marking.{Marking}

-- the program whose procedure is marked
abbrev pub marked_program : Marking → Program
marked_program m = seen_program m.program.now

-- it fits, and its needs are known
pub record IsKnown (m : Marking) : Type 0 where
  pub fits : ProgramFits (seen_program m.program.now)
  pub needs : AreNeeds (seen_program m.program.now) m.needs.now.procedures.items

-- calls as statements
abbrev pub call_of : CallSite → Stmt
call_of site = Call site.place site.callee site.actuals.items (map seen_cond site.conds.items)

abbrev pub application_of : Application → Stmt
application_of call = Apply call.place call.which (map seen_arg call.args.items)
