-- The tree of a source has no more atoms and lists than its plain counts allow.
use Rattle.std.{proofs.Common.{◌≡◌, ◌≤◌, Option, Some, None, Bool, true, false, refl, arith}, specs.Prelude.ℤ}
use Rattle.stack_text.{specs.declared.shape.Kind.Kind, specs.Trees.{node_count, node_counts}, proofs.SizeLaws.{each_over, names_over, sum_over}}
use Rattle.gypsy_syntax.{specs.declared.literal.Decl.Decl, specs.Printed.{type_tree_by, truth_tree, literal_tree, literal_trees, arg_tree, decl_tree}}
use Rattle.gypsy_syntax.{specs.Printed.{local_tree, stmt_tree, stmt_trees, proc_tree, tree_of}, specs.Sizes.{literal_size, items_size, argument_size}}
use Rattle.gypsy_syntax.{specs.Sizes.{statement_size, parts_size, local_size, procedure_size, text_size}, specs.Sources.{LiteralOf, LiteralsOf, integer, truth}}
use Rattle.gypsy_syntax.specs.Sources.{character, array, no_items, item, ArgOf, variable, constant, StmtOf, StmtsOf, no_op, signal, seq, loop, branch, begin}
use Rattle.gypsy_syntax.specs.Sources.{call, predef, no_parts, part, LocalOf, ProcOf, SourceOf}

-- ---- parts

truth_count : (b : Bool) → node_count (truth_tree b) ≡ 1
truth_count true = refl
truth_count false = refl

mutual
  literal_over : (l : LiteralOf) → node_count (literal_tree l) ≤ literal_size l
  literal_over (integer p z) = omega arith
  literal_over (truth p b) = omega (arith, truth_count b)
  literal_over (character p z) = omega arith
  literal_over (array p ls) = let items = items_over ls in omega (arith, items)

  items_over : (ls : LiteralsOf) → node_counts (literal_trees ls) ≤ items_size ls
  items_over no_items = omega arith
  items_over (item l ls) = let one = literal_over l in let others = items_over ls in omega (arith, one, others)

argument_over : (a : ArgOf) → node_count (arg_tree a) ≤ argument_size a
argument_over (variable n) = omega arith
argument_over (constant l) = literal_over l

type_over : (k : Kind) (n : Option ℤ) → node_count (type_tree_by k n) ≤ 4
type_over k None = omega arith
type_over k (Some n) = omega arith

decl_over : (d : Decl) → node_count (decl_tree d) ≤ 6
decl_over d = omega (arith, type_over d.shape.kind d.shape.length)

local_over : (l : LocalOf) → node_count (local_tree l) ≤ local_size l
local_over l = let value = literal_over l.value in omega (arith, type_over l.decl.shape.kind l.decl.shape.length, value)

mutual
  statement_over : (s : StmtOf) → node_count (stmt_tree s) ≤ statement_size s
  statement_over (no_op p) = omega arith
  statement_over (signal p c) = omega arith
  statement_over (seq p ss) = let parts = parts_over ss in omega (arith, parts)
  statement_over (loop p s) = let one = statement_over s in omega (arith, one)
  statement_over (branch p b s t) = let one = statement_over s in let two = statement_over t in omega (arith, one, two)
  statement_over (begin p s cs t) = let one = statement_over s in let two = statement_over t in omega (arith, one, two, names_over cs)
  statement_over (call p f q xs r cs) = omega (arith, names_over xs, names_over cs)
  statement_over (predef p which args) = let each = sum_over argument_size arg_tree argument_over args in omega (arith, each)

  parts_over : (ss : StmtsOf) → node_counts (stmt_trees ss) ≤ parts_size ss
  parts_over no_parts = omega arith
  parts_over (part s ss) = let one = statement_over s in let others = parts_over ss in omega (arith, one, others)

procedure_over : (p : ProcOf) → node_count (proc_tree p) ≤ procedure_size p
procedure_over p =
    let formals = each_over 6 decl_tree decl_over p.formals in
    let locals = sum_over local_size local_tree local_over p.locals in
    let body = statement_over p.body in
    omega (arith, formals, names_over p.conds, locals, names_over p.local_conds, body)

pub text_over : (s : SourceOf) → node_count (tree_of s) ≤ text_size s
text_over s = let procs = sum_over procedure_size proc_tree procedure_over s.procs in omega (arith, procs)
