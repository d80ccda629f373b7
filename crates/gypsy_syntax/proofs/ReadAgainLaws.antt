-- The text that is printed for a source is read as that source but for places.
use Rattle.std.{proofs.Common.{◌≡◌, ℕ, List, [], ◌∷◌, Option, Some, None, true, false, refl, ap}, specs.Prelude.{ℤ, Bool, codes, drop}}
use Rattle.stack_text.{specs.Trees.{atom, list, without_places as unplaced_tree, all_without_places}, specs.Internal.Spellings.Spells}
use Rattle.stack_text.{specs.declared.shape.Kind.Kind, proofs.SpellingLaws.spelled_is_read, specs.Grammar.Printed.{lines_text, name_tree}}
use Rattle.stack_text.{proofs.ReaderLaws.read_back, proofs.PartTextLaws.{spells_list, unplaced_all}, proofs.PrintLaws.Spells-tree_text}
use Rattle.gypsy_syntax.{specs.declared.literal.Decl.Decl, specs.GypsyReading.{KeepsForm, ReadsAs, gypsy_reader}, specs.Printed.{type_tree_by, truth_tree}}
use Rattle.gypsy_syntax.specs.Printed.{literal_tree, literal_trees, arg_tree, decl_tree, local_tree, stmt_tree, stmt_trees, proc_tree, proc_text, source_head}
use Rattle.gypsy_syntax.{specs.Printed.{tree_of, gypsy_text}, specs.Sources.{LiteralOf, LiteralsOf, integer, truth, character, array, no_items, item, ArgOf}}
use Rattle.gypsy_syntax.specs.Sources.{variable, constant, StmtOf, StmtsOf, no_op, signal, seq, loop, branch, begin, call, predef, no_parts, part, LocalOf}
use Rattle.gypsy_syntax.{specs.Sources.{ProcOf, SourceOf}, proofs.WalkLaws.source_part}

spells_source : (s : SourceOf) → Spells (tree_of s) (lines_text proc_text (source_head s) s.procs)
spells_source s = spells_list proc_tree proc_text (λ p. Spells-tree_text (proc_tree p)) (atom 0 (codes "program")) (drop 1 (source_head s)) s.procs

-- ---- the tree of a source has 0 in all its places

plain_type : (k : Kind) (n : Option ℤ) → unplaced_tree (type_tree_by k n) ≡ type_tree_by k n
plain_type k None = refl
plain_type k (Some n) = refl

plain_truth : (b : Bool) → unplaced_tree (truth_tree b) ≡ truth_tree b
plain_truth true = refl
plain_truth false = refl

mutual
  plain_literal : (l : LiteralOf) → unplaced_tree (literal_tree l) ≡ literal_tree l
  plain_literal (integer place number) = refl
  plain_literal (truth place b) = plain_truth b
  plain_literal (character place code) = refl
  plain_literal (array place items) = ap (list 0) (plain_literals items)

  plain_literals : (ls : LiteralsOf) → all_without_places (literal_trees ls) ≡ literal_trees ls
  plain_literals no_items = refl
  plain_literals (item l ls) = rw (plain_literal l, plain_literals ls) refl

plain_arg : (a : ArgOf) → unplaced_tree (arg_tree a) ≡ arg_tree a
plain_arg (variable n) = refl
plain_arg (constant l) = plain_literal l

plain_decl : (d : Decl) → unplaced_tree (decl_tree d) ≡ decl_tree d
plain_decl d = rw (plain_type d.shape.kind d.shape.length) refl

plain_local : (l : LocalOf) → unplaced_tree (local_tree l) ≡ local_tree l
plain_local l = rw (plain_type l.decl.shape.kind l.decl.shape.length, plain_literal l.value) refl

mutual
  plain_stmt : (s : StmtOf) → unplaced_tree (stmt_tree s) ≡ stmt_tree s
  plain_stmt (no_op place) = refl
  plain_stmt (signal place cond) = refl
  plain_stmt (seq place parts) = rw (plain_stmts parts) refl
  plain_stmt (loop place body) = rw (plain_stmt body) refl
  plain_stmt (branch place test b c) = rw (plain_stmt b, plain_stmt c) refl
  plain_stmt (begin place body conds arm) = rw (plain_stmt body, unplaced_all name_tree (λ n. refl) conds, plain_stmt arm) refl
  plain_stmt (call place callee xs_place xs cs_place cs) = rw (unplaced_all name_tree (λ n. refl) xs, unplaced_all name_tree (λ n. refl) cs) refl
  plain_stmt (predef place which args) = rw (unplaced_all arg_tree plain_arg args) refl

  plain_stmts : (ss : StmtsOf) → all_without_places (stmt_trees ss) ≡ stmt_trees ss
  plain_stmts no_parts = refl
  plain_stmts (part s ss) = rw (plain_stmt s, plain_stmts ss) refl

plain_proc : (p : ProcOf) → unplaced_tree (proc_tree p) ≡ proc_tree p
plain_proc p =
    rw (
      unplaced_all decl_tree plain_decl p.formals,
      unplaced_all name_tree (λ n. refl) p.conds,
      unplaced_all local_tree plain_local p.locals,
      unplaced_all name_tree (λ n. refl) p.local_conds,
      plain_stmt p.body,
    ) refl

plain_source : (s : SourceOf) → unplaced_tree (tree_of s) ≡ tree_of s
plain_source s = rw (unplaced_all proc_tree plain_proc s.procs) refl

-- ---- the text is read again

pub gypsy_text_reads : (s : SourceOf) → KeepsForm s → ReadsAs (gypsy_text s) s
gypsy_text_reads s form =
    let text : List ℕ = lines_text proc_text (source_head s) s.procs in
    let read = spelled_is_read (tree_of s) text (10 ∷ []) form.well_formed (spells_source s) (tt, tt) in
    read_back gypsy_reader source_part (gypsy_text s) s read (plain_source s) form.reads
