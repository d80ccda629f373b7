-- How deep the lists of a statement nest, and how many atoms and lists the text of a source has at most, by plain counts.
use Rattle.std.specs.{Prelude.{ℕ, ◌+◌, ◌*◌, max, length}, List.{sum_by}}
use Rattle.gypsy_syntax.specs.Sources.{LiteralOf, LiteralsOf, integer, truth, character, array, no_items, item, ArgOf, variable, constant}
use Rattle.gypsy_syntax.specs.Sources.{StmtOf, StmtsOf, no_op, signal, seq, loop, branch, begin, call, predef, no_parts, part, LocalOf}
use Rattle.gypsy_syntax.specs.Sources.{ProcOf, SourceOf}

abbrev mutual
  pub nesting : StmtOf → ℕ
  nesting (no_op place) = 1
  nesting (signal place cond) = 1
  nesting (seq place parts) = 1 + deepest parts
  nesting (loop place body) = 1 + nesting body
  nesting (branch place test s t) = 1 + max (nesting s) (nesting t)
  nesting (begin place body conds arm) = 1 + max (nesting body) (nesting arm)
  nesting (call place callee xs_place xs cs_place cs) = 2
  nesting (predef place which args) = 1

  pub deepest : StmtsOf → ℕ
  deepest no_parts = 0
  deepest (part s ss) = max (nesting s) (deepest ss)

abbrev mutual
  pub literal_size : LiteralOf → ℕ
  literal_size (integer place number) = 1
  literal_size (truth place b) = 1
  literal_size (character place code) = 1
  literal_size (array place items) = 1 + items_size items

  pub items_size : LiteralsOf → ℕ
  items_size no_items = 0
  items_size (item l ls) = literal_size l + items_size ls

abbrev pub argument_size : ArgOf → ℕ
argument_size (variable n) = 1
argument_size (constant l) = literal_size l

abbrev mutual
  pub statement_size : StmtOf → ℕ
  statement_size (no_op place) = 2
  statement_size (signal place cond) = 3
  statement_size (seq place parts) = 2 + parts_size parts
  statement_size (loop place body) = 2 + statement_size body
  statement_size (branch place test s t) = 3 + statement_size s + statement_size t
  statement_size (begin place body conds arm) = 3 + statement_size body + length conds + statement_size arm
  statement_size (call place callee xs_place xs cs_place cs) = 5 + length xs + length cs
  statement_size (predef place which args) = 2 + sum_by argument_size args

  pub parts_size : StmtsOf → ℕ
  parts_size no_parts = 0
  parts_size (part s ss) = statement_size s + parts_size ss

-- a declaration is six at most: its list, its name, and an array's type with three words
abbrev pub local_size : LocalOf → ℕ
local_size l = 6 + literal_size l.value

abbrev pub procedure_size : ProcOf → ℕ
procedure_size p =
    7 + 6 * length p.formals + length p.conds + sum_by local_size p.locals + length p.local_conds + statement_size p.body

abbrev pub text_size : SourceOf → ℕ
text_size s = 3 + sum_by procedure_size s.procs
