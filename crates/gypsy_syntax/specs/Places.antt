-- A source with 0 in all its places.
use Rattle.std.specs.Prelude.{map}
use Rattle.stack_text.specs.Grammar.Printed.{unplaced_name}
use Rattle.gypsy_syntax.specs.{declared.literal.Decl.{Decl}, declared.literal.TypeText.{TypeText}, Sources.{LiteralOf, LiteralsOf, integer}}
use Rattle.gypsy_syntax.specs.Sources.{truth, character, array, no_items, item, ArgOf, variable, constant, StmtOf, StmtsOf, no_op, signal}
use Rattle.gypsy_syntax.specs.Sources.{seq, loop, branch, begin, call, predef, no_parts, part, LocalOf, ProcOf, SourceOf}

abbrev pub unplaced_type : TypeText → TypeText
unplaced_type t = record t { place = 0 }

abbrev mutual
  pub unplaced_literal : LiteralOf → LiteralOf
  unplaced_literal (integer place number) = integer 0 number
  unplaced_literal (truth place b) = truth 0 b
  unplaced_literal (character place code) = character 0 code
  unplaced_literal (array place items) = array 0 (unplaced_literals items)

  pub unplaced_literals : LiteralsOf → LiteralsOf
  unplaced_literals no_items = no_items
  unplaced_literals (item l ls) = item (unplaced_literal l) (unplaced_literals ls)

abbrev pub unplaced_arg : ArgOf → ArgOf
unplaced_arg (variable n) = variable (unplaced_name n)
unplaced_arg (constant l) = constant (unplaced_literal l)

abbrev pub unplaced_decl : Decl → Decl
unplaced_decl d = record { name = unplaced_name d.name; shape = unplaced_type d.shape }

abbrev pub unplaced_local : LocalOf → LocalOf
unplaced_local l = record { decl = unplaced_decl l.decl; value = unplaced_literal l.value }

abbrev mutual
  pub unplaced_stmt : StmtOf → StmtOf
  unplaced_stmt (no_op place) = no_op 0
  unplaced_stmt (signal place cond) = signal 0 (unplaced_name cond)
  unplaced_stmt (seq place parts) = seq 0 (unplaced_stmts parts)
  unplaced_stmt (loop place body) = loop 0 (unplaced_stmt body)
  unplaced_stmt (branch place test b c) = branch 0 (unplaced_name test) (unplaced_stmt b) (unplaced_stmt c)
  unplaced_stmt (begin place body conds arm) = begin 0 (unplaced_stmt body) (map unplaced_name conds) (unplaced_stmt arm)
  unplaced_stmt (call place callee xs_place xs cs_place cs) =
      call 0 (unplaced_name callee) 0 (map unplaced_name xs) 0 (map unplaced_name cs)
  unplaced_stmt (predef place which args) = predef 0 which (map unplaced_arg args)

  pub unplaced_stmts : StmtsOf → StmtsOf
  unplaced_stmts no_parts = no_parts
  unplaced_stmts (part s ss) = part (unplaced_stmt s) (unplaced_stmts ss)

abbrev pub unplaced_proc : ProcOf → ProcOf
unplaced_proc p = record {
  place = 0;
  name = unplaced_name p.name;
  formals = map unplaced_decl p.formals;
  conds = map unplaced_name p.conds;
  locals = map unplaced_local p.locals;
  local_conds = map unplaced_name p.local_conds;
  body = unplaced_stmt p.body;
}

abbrev pub without_places : SourceOf → SourceOf
without_places s = record { place = 0; main = unplaced_name s.main; procs = map unplaced_proc s.procs }
