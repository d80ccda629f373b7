-- The tree of a source, with 0 in all its places, and the text that is printed for it.
use Rattle.std.specs.{Prelude.{ℕ, ℤ, List, [], ◌∷◌, ◌++◌, map, Option, Some, None, Bool, true, false, codes}, Fmt.{signed_decimal}}
use Rattle.stack_text.specs.{Trees.{Node, Nodes, atom, list, none, more}, TreeText.{tree_text}, declared.shape.Kind.{Kind}}
use Rattle.stack_text.specs.{Values.{kind_name}, Grammar.Printed.{lines_text, list_tree, name_tree, tree_of_all}}
use Rattle.gypsy_syntax.specs.{declared.keyword.Keyword.{Keyword}, declared.literal.Decl.{Decl}, declared.literal.TypeText.{TypeText}}
use Rattle.gypsy_syntax.specs.{Keywords.{keyword_name}, Sources.{LiteralOf, LiteralsOf, integer, truth, character, array, no_items, item}}
use Rattle.gypsy_syntax.specs.Sources.{ArgOf, variable, constant, StmtOf, StmtsOf, no_op, signal, seq, loop, branch, begin, call, predef}
use Rattle.gypsy_syntax.specs.Sources.{no_parts, part, LocalOf, ProcOf, SourceOf}
use Rattle.gypsy_syntax.specs.declared.keyword.Keyword.TheVariants as word

abbrev pub number_tree : ℤ → Node
number_tree z = atom 0 (signed_decimal z)

abbrev pub type_tree_by : Kind → Option ℤ → Node
type_tree_by k None = atom 0 (kind_name k)
type_tree_by k (Some n) = tree_of_all (atom 0 (codes "array") ∷ atom 0 (kind_name k) ∷ number_tree n ∷ [])

abbrev pub type_tree : TypeText → Node
type_tree t = type_tree_by t.kind t.length

abbrev pub truth_tree : Bool → Node
truth_tree true = atom 0 (codes "true")
truth_tree false = atom 0 (codes "false")

abbrev mutual
  pub literal_tree : LiteralOf → Node
  literal_tree (integer place number) = number_tree number
  literal_tree (truth place b) = truth_tree b
  literal_tree (character place code) = atom 0 (35 ∷ signed_decimal code)
  literal_tree (array place items) = list 0 (literal_trees items)

  pub literal_trees : LiteralsOf → Nodes
  literal_trees no_items = none
  literal_trees (item l ls) = more (literal_tree l) (literal_trees ls)

abbrev pub arg_tree : ArgOf → Node
arg_tree (variable n) = name_tree n
arg_tree (constant l) = literal_tree l

abbrev pub decl_tree : Decl → Node
decl_tree d = tree_of_all (name_tree d.name ∷ type_tree d.shape ∷ [])

abbrev pub local_tree : LocalOf → Node
local_tree l = tree_of_all (name_tree l.decl.name ∷ type_tree l.decl.shape ∷ literal_tree l.value ∷ [])

abbrev pub keyword_tree : Keyword → Node
keyword_tree k = atom 0 (keyword_name k)

abbrev mutual
  pub stmt_tree : StmtOf → Node
  stmt_tree (no_op place) = tree_of_all (keyword_tree word.NoOp ∷ [])
  stmt_tree (signal place cond) = tree_of_all (keyword_tree word.Signal ∷ name_tree cond ∷ [])
  stmt_tree (seq place parts) = list 0 (more (keyword_tree word.Seq) (stmt_trees parts))
  stmt_tree (loop place body) = tree_of_all (keyword_tree word.Loop ∷ stmt_tree body ∷ [])
  stmt_tree (branch place test b c) = tree_of_all (keyword_tree word.If ∷ name_tree test ∷ stmt_tree b ∷ stmt_tree c ∷ [])
  stmt_tree (begin place body conds arm) =
      tree_of_all (keyword_tree word.Begin ∷ stmt_tree body ∷ list_tree name_tree conds ∷ stmt_tree arm ∷ [])
  stmt_tree (call place callee xs_place xs cs_place cs) =
      tree_of_all (keyword_tree word.Call ∷ name_tree callee ∷ list_tree name_tree xs ∷ list_tree name_tree cs ∷ [])
  stmt_tree (predef place which args) = tree_of_all (keyword_tree (word.Predef which) ∷ map arg_tree args)

  pub stmt_trees : StmtsOf → Nodes
  stmt_trees no_parts = none
  stmt_trees (part s ss) = more (stmt_tree s) (stmt_trees ss)

-- a statement's first word, and what follows it
abbrev pub keyword_of : StmtOf → Keyword
keyword_of (no_op place) = word.NoOp
keyword_of (signal place cond) = word.Signal
keyword_of (seq place parts) = word.Seq
keyword_of (loop place body) = word.Loop
keyword_of (branch place test b c) = word.If
keyword_of (begin place body conds arm) = word.Begin
keyword_of (call place callee xs_place xs cs_place cs) = word.Call
keyword_of (predef place which args) = word.Predef which

abbrev pub after_first : Node → Nodes
after_first (list place (more first rest)) = rest
after_first node = none

abbrev pub stmt_parts : StmtOf → Nodes
stmt_parts s = after_first (stmt_tree s)

-- what a procedure takes, and what is its own
abbrev pub proc_head : ProcOf → List Node
proc_head p = atom 0 (codes "proc") ∷ name_tree p.name ∷ list_tree decl_tree p.formals ∷ list_tree name_tree p.conds ∷ []

abbrev pub proc_rest : ProcOf → List Node
proc_rest p = list_tree local_tree p.locals ∷ list_tree name_tree p.local_conds ∷ stmt_tree p.body ∷ []

abbrev pub proc_tree : ProcOf → Node
proc_tree p = tree_of_all (proc_head p ++ proc_rest p)

-- what stands before the procedures
abbrev pub source_head : SourceOf → List Node
source_head s = atom 0 (codes "program") ∷ name_tree s.main ∷ []

abbrev pub tree_of : SourceOf → Node
tree_of s = tree_of_all (source_head s ++ map proc_tree s.procs)

abbrev pub proc_text : ProcOf → List ℕ
proc_text p = tree_text (proc_tree p)

-- each procedure begins a line, and the text ends with a line end
abbrev pub gypsy_text : SourceOf → List ℕ
gypsy_text s = lines_text proc_text (source_head s) s.procs ++ 10 ∷ []
