-- What fits the form keeps it, where its tree is not too large: the tree of each part is judged to be that part but for
-- places, its atoms are runs, and it is shallow.
use Rattle.std.proofs.Common.{◌∙◌, ◌≡◌, ℕ, suc, ◌+◌, ◌<◌, ◌≤◌, ◌^◌, max, true, false, leb, List, [], ◌∷◌, length, map, Option, Some, None, Ok, All, refl, sym}
use Rattle.std.{proofs.Common.{ap, subst, arith}, specs.Prelude.{ℤ, ◌&&◌}, proofs.lemmas.Bool.{le-leb, and_from}}
use Rattle.stack_text.{specs.declared.name.Named.Named, specs.Trees.{Node, Nodes, list, none, more, depth, depths, node_count, AtomsAreRuns, AllAtomsAreRuns}}
use Rattle.stack_text.{specs.Views.TreeView.nodes, specs.Grammar.Judged.{front, each_of}, specs.Grammar.Parts.count_of, specs.Grammar.Printed.list_tree}
use Rattle.stack_text.{specs.Grammar.Printed.name_tree, proofs.AtomLaws.name_is_run, proofs.MadeLaws.{Made, made_each, made_names, named_again, ok, ◌◂◌}}
use Rattle.stack_text.proofs.MadeLaws.{passes}
use Rattle.gypsy_syntax.{specs.declared.keyword.Keyword.Keyword, specs.declared.literal.Decl.Decl, specs.declared.literal.TypeText.TypeText}
use Rattle.gypsy_syntax.{specs.GypsyReading.KeepsForm, specs.Fits.{FitsLength, AllSimple, FitsLiteral, FitsArgument, FitsDecl, FitsLocal, FitsStatement}}
use Rattle.gypsy_syntax.{specs.Fits.{FitsStatements, FitsProcedure, FitsForm}, specs.Grammar.{simple_type, type_in, simple_in, literal_in, decl_in, local_in}}
use Rattle.gypsy_syntax.{specs.Grammar.{arg_in, is_empty_list, statement_in, form_in, statements_in, are_few, procedure_in, source_in}, specs.Made.literals}
use Rattle.gypsy_syntax.specs.Made.{statements, new_decl, new_local, new_list, new_seq, new_branch, new_begin, new_call, new_predef, new_proc, new_source}
use Rattle.gypsy_syntax.specs.Places.{unplaced_type, unplaced_literal, unplaced_literals, unplaced_arg, unplaced_decl, unplaced_local, unplaced_stmt}
use Rattle.gypsy_syntax.{specs.Places.{unplaced_stmts, unplaced_proc, without_places}, specs.Printed.{type_tree, literal_tree, literal_trees, arg_tree}}
use Rattle.gypsy_syntax.{specs.Printed.{decl_tree, local_tree, keyword_tree, stmt_tree, stmt_trees, proc_tree, tree_of}, specs.Sizes.{nesting, deepest}}
use Rattle.gypsy_syntax.specs.Sources.{LiteralOf, LiteralsOf, integer, truth, character, array, no_items, item, ArgOf, variable, constant, StmtOf, StmtsOf}
use Rattle.gypsy_syntax.specs.Sources.{no_op, signal, seq, loop, branch, begin, call, predef, no_parts, part, LocalOf, ProcOf, SourceOf}
use Rattle.gypsy_syntax.proofs.AgainLaws.{SimpleAgain, simple_again, argument_again, array_again, begin_again, keyword_run, kind_again, kind_run, number_run}
use Rattle.gypsy_syntax.proofs.AgainLaws.{statement_again, variable_again}
use Rattle.gypsy_syntax.specs.declared.keyword.Keyword.TheVariants as word

-- ---- values

simple_runs : (l : LiteralOf) → SimpleAgain l → AtomsAreRuns (literal_tree l)
simple_runs l k = subst AtomsAreRuns (sym k.tree_is) k.run

simple_low : (l : LiteralOf) → SimpleAgain l → depth (literal_tree l) ≡ 0
simple_low l k = ap depth k.tree_is

record MadeItems (ls : LiteralsOf) : Type 0 where
  items : List LiteralOf
  reads : each_of simple_in (literal_trees ls) ≡ Ok items
  same : literals items ≡ unplaced_literals ls
  runs : AllAtomsAreRuns (literal_trees ls)
  low : depths (literal_trees ls) ≡ 0

made_items : (ls : LiteralsOf) → AllSimple ls → MadeItems ls
made_items no_items h = record { items = []; reads = refl; same = refl; runs = tt; low = refl }
made_items (item l ls) h =
    let k = simple_again l h.0 in
    let others = made_items ls h.1 in
    record {
      items = unplaced_literal l ∷ others.items;
      reads = ok front ◂ (ap simple_in k.tree_is ∙ k.reads) ◂ others.reads;
      same = ap (item (unplaced_literal l)) others.same;
      runs = (simple_runs l k, others.runs);
      low = let one_ : depth (literal_tree l) ≡ 0 = simple_low l k in let two_ : depths (literal_trees ls) ≡ 0 = others.low in omega (arith, one_, two_);
    }

simple_literal : (l : LiteralOf) → SimpleAgain l → Made literal_in literal_tree unplaced_literal 1 l
simple_literal l k = record {
  reads = ap literal_in k.tree_is ∙ k.reads;
  runs = simple_runs l k;
  low = let one_ : depth (literal_tree l) ≡ 0 = simple_low l k in omega (arith, one_);
}

made_literal : (l : LiteralOf) → FitsLiteral l → Made literal_in literal_tree unplaced_literal 1 l
made_literal (integer p z) h = simple_literal (integer p z) (simple_again (integer p z) h)
made_literal (truth p b) h = simple_literal (truth p b) (simple_again (truth p b) h)
made_literal (character p z) h = simple_literal (character p z) (simple_again (character p z) h)
made_literal (array p ls) h =
    let m = made_items ls h in
    record {
      reads = (ok (new_list 0) ◂ m.reads) ∙ ap (λ items. Ok (array 0 items)) m.same;
      runs = m.runs;
      low = let none_ : depths (literal_trees ls) ≡ 0 = m.low in omega (arith, none_);
    }

-- ---- types and declarations

record MadeType (t : TypeText) : Type 0 where
  reads : type_in (type_tree t) ≡ Ok (unplaced_type t)
  runs : AtomsAreRuns (type_tree t)
  low : depth (type_tree t) ≤ 1

made_type : (t : TypeText) → FitsLength t.length → MadeType t
made_type t h = by_length t.length h
  where
    by_length : (n : Option ℤ) → FitsLength n → MadeType (record t { length = n })
    by_length None h = record { reads = ap (simple_type 0) (kind_again t.kind); runs = kind_run t.kind; low = omega arith }
    by_length (Some z) h = record { reads = array_again t.kind z h; runs = ((omega arith, refl), (kind_run t.kind, (number_run z h, tt))); low = omega arith }

made_decl : (d : Decl) → FitsDecl d → Made decl_in decl_tree unplaced_decl 2 d
made_decl d h =
    let m = made_type d.shape h.length in
    record {
      reads = ok new_decl ◂ named_again 3 d.name h.name ◂ m.reads;
      runs = (name_is_run d.name.name h.name, (m.runs, tt));
      low = omega (arith, m.low);
    }

made_local : (l : LocalOf) → FitsLocal l → Made local_in local_tree unplaced_local 2 l
made_local l h =
    let m = made_type l.decl.shape h.decl.length in
    let v = made_literal l.value h.value in
    record {
      reads = ok new_local ◂ named_again 3 l.decl.name h.decl.name ◂ m.reads ◂ v.reads;
      runs = (name_is_run l.decl.name.name h.decl.name, (m.runs, (v.runs, tt)));
      low = omega (arith, m.low, v.low);
    }

-- ---- statements

made_argument : (a : ArgOf) → FitsArgument a → Made arg_in arg_tree unplaced_arg 0 a
made_argument (variable n) h = record { reads = variable_again n.name h; runs = name_is_run n.name h; low = omega arith }
made_argument (constant l) h =
    let k = simple_again l h in
    record { reads = argument_again l k; runs = simple_runs l k; low = let one_ : depth (literal_tree l) ≡ 0 = simple_low l k in omega (arith, one_) }

abbrev MadeStatement : StmtOf → Type 0
MadeStatement s = Made statement_in stmt_tree unplaced_stmt (nesting s) s

record MadeParts (ss : StmtsOf) : Type 0 where
  parts : List StmtOf
  reads : statements_in (stmt_trees ss) ≡ Ok parts
  same : statements parts ≡ unplaced_stmts ss
  runs : AllAtomsAreRuns (stmt_trees ss)
  low : depths (stmt_trees ss) ≤ deepest ss

-- a statement from its first word and the trees after it
made_form : (k : Keyword) (s : StmtOf) (us : Nodes) → stmt_tree s ≡ list 0 (more (keyword_tree k) us) → form_in (Some k) 0 us ≡ Ok (unplaced_stmt s)
    → AllAtomsAreRuns us → suc (depths us) ≤ nesting s → MadeStatement s
made_form k s us e reads runs low = record {
  reads = statement_again k s us e reads;
  runs = subst AtomsAreRuns (sym e) (keyword_run k, runs);
  low = let deep : depth (stmt_tree s) ≡ suc (max 0 (depths us)) = ap depth e in omega (arith, deep, low);
}

some_names : (ns : List Named) → 0 < length ns → is_empty_list (list_tree name_tree ns) ≡ false
some_names [] h = absurd (omega (arith, h))
some_names (n ∷ ns) h = refl

nested : (s : StmtOf) → 0 < nesting s
nested (no_op p) = omega arith
nested (signal p c) = omega arith
nested (seq p ss) = omega arith
nested (loop p s) = omega arith
nested (branch p b s t) = omega arith
nested (begin p s cs t) = omega arith
nested (call p f q xs r cs) = omega arith
nested (predef p which args) = omega arith

mutual
  made_statement : (s : StmtOf) → FitsStatement s → MadeStatement s
  made_statement (no_op p) h = made_form word.NoOp (no_op p) none refl refl tt (omega arith)
  made_statement (signal p c) h =
      made_form word.Signal (signal p c) (more (name_tree c) none) refl (ok (signal 0) ◂ named_again 3 c h)
      (name_is_run c.name h, tt) (omega arith)
  made_statement (seq p no_parts) h = absurd h
  made_statement (seq p (part s ss)) h =
      let one_ = made_statement s h.0 in
      let others = made_parts ss h.1 in
      made_form word.Seq (seq p (part s ss)) (stmt_trees (part s ss)) refl
      ((ok (new_seq 0) ◂ (ok front ◂ one_.reads ◂ others.reads))
      ∙ ap (λ parts. Ok (seq 0 (part (unplaced_stmt s) parts))) others.same)
      (one_.runs, others.runs) (omega (arith, one_.low, others.low))
  made_statement (loop p s) h =
      let one_ = made_statement s h in
      made_form word.Loop (loop p s) (more (stmt_tree s) none) refl (ok (loop 0) ◂ one_.reads) (one_.runs, tt) (omega (arith, one_.low))
  made_statement (branch p b s t) h =
      let one_ = made_statement s h.1 in
      let two_ = made_statement t h.2 in
      made_form word.If (branch p b s t) (more (name_tree b) (more (stmt_tree s) (more (stmt_tree t) none))) refl
      (ok (new_branch 0) ◂ named_again 3 b h.0 ◂ one_.reads ◂ two_.reads)
      (name_is_run b.name h.0, (one_.runs, (two_.runs, tt))) (omega (arith, one_.low, two_.low))
  made_statement (begin p s cs t) h =
      let one_ = made_statement s h.0 in
      let names = made_names 3 cs h.2 in
      let two_ = made_statement t h.3 in
      made_form word.Begin (begin p s cs t) (more (stmt_tree s) (more (list_tree name_tree cs) (more (stmt_tree t) none))) refl
      (begin_again (list_tree name_tree cs) _ _ (some_names cs h.1) (ok (new_begin 0) ◂ one_.reads ◂ names.reads ◂ two_.reads))
      (one_.runs, (names.runs, (two_.runs, tt))) (omega (arith, one_.low, names.low, two_.low, nested s))
  made_statement (call p f q xs r cs) h =
      let actuals = made_names 3 xs h.1 in
      let conds = made_names 3 cs h.2 in
      made_form word.Call (call p f q xs r cs) (more (name_tree f) (more (list_tree name_tree xs) (more (list_tree name_tree cs) none))) refl
      (ok (new_call 0 0 0) ◂ named_again 3 f h.0 ◂ actuals.reads ◂ conds.reads)
      (name_is_run f.name h.0, (actuals.runs, (conds.runs, tt))) (omega (arith, actuals.low, conds.low))
  made_statement (predef p which args) h =
      let each = made_each FitsArgument arg_in arg_tree unplaced_arg 0 made_argument args h in
      made_form (word.Predef which) (predef p which args) (nodes (map arg_tree args)) refl
      (ok (new_predef 0 which) ◂ each.reads) each.runs (omega (arith, each.low))

  made_parts : (ss : StmtsOf) → FitsStatements ss → MadeParts ss
  made_parts no_parts h = record { parts = []; reads = refl; same = refl; runs = tt; low = omega arith }
  made_parts (part s ss) h =
      let one_ = made_statement s h.0 in
      let others = made_parts ss h.1 in
      record {
        parts = unplaced_stmt s ∷ others.parts;
        reads = ok front ◂ one_.reads ◂ others.reads;
        same = ap (part (unplaced_stmt s)) others.same;
        runs = (one_.runs, others.runs);
        low = omega (arith, one_.low, others.low);
      }

-- ---- procedures and sources

few_of : {X Y : Type 0} (tree : X → Node) (other : Y → Node) (xs : List X) (ys : List Y) → count_of (nodes (map tree xs)) ≡ length xs
    → count_of (nodes (map other ys)) ≡ length ys → length xs + length ys ≤ 200 →
    are_few (list_tree tree xs) (list_tree other ys) ≡ true
few_of tree other xs ys e f le = let few : count_of (nodes (map tree xs)) + count_of (nodes (map other ys)) ≤ 200 = omega (arith, e, f, le) in le-leb _ 200 few

made_procedure : (p : ProcOf) → FitsProcedure p → Made procedure_in proc_tree unplaced_proc 199 p
made_procedure p h =
    let formals = made_each FitsDecl decl_in decl_tree unplaced_decl 2 made_decl p.formals h.formals in
    let conds = made_names 3 p.conds h.conds in
    let locals = made_each FitsLocal local_in local_tree unplaced_local 2 made_local p.locals h.locals in
    let local_conds = made_names 3 p.local_conds h.local_conds in
    let body = made_statement p.body h.body in
    let few : (are_few (list_tree decl_tree p.formals) (list_tree local_tree p.locals)
    && are_few (list_tree name_tree p.conds) (list_tree name_tree p.local_conds)) ≡ true =
    and_from (are_few (list_tree decl_tree p.formals) (list_tree local_tree p.locals))
    _ (few_of decl_tree local_tree p.formals p.locals formals.count locals.count h.few_variables)
    (few_of name_tree name_tree p.conds p.local_conds conds.count local_conds.count h.few_conds) in
    record {
      reads = passes 0 12 (are_few (list_tree decl_tree p.formals) (list_tree local_tree p.locals)
          && are_few (list_tree name_tree p.conds) (list_tree name_tree p.local_conds)) _ _ few
          (ok (new_proc 0) ◂ named_again 3 p.name h.name ◂ formals.reads ◂ conds.reads ◂ locals.reads ◂ local_conds.reads ◂ body.reads);
      runs = ((omega arith, refl), (name_is_run p.name.name h.name, (formals.runs, (conds.runs, (locals.runs, (local_conds.runs, (body.runs, tt)))))));
      low = omega (arith, formals.low, conds.low, locals.low, local_conds.low, body.low, h.shallow);
    }

made_source : (s : SourceOf) → FitsForm s → Made source_in tree_of without_places 200 s
made_source s h = by_procs s.procs h.procs h.some_procs h.few_procs
  where
    by_procs : (ps : List ProcOf) → All FitsProcedure ps → 0 < length ps → length ps ≤ 1000
        → Made source_in tree_of without_places 200 (record s { procs = ps })
    by_procs [] fits some_ few = absurd (omega (arith, some_))
    by_procs (p ∷ ps) fits some_ few =
        let procs = made_each FitsProcedure procedure_in proc_tree unplaced_proc 199 made_procedure (p ∷ ps) fits in
        let count : count_of (nodes (map proc_tree (p ∷ ps))) ≤ 1000 = subst (λ (n : ℕ). n ≤ 1000) (sym procs.count) few in
        record {
          reads = passes 0 12 (leb (count_of (nodes (map proc_tree (p ∷ ps)))) 1000) _ _ (le-leb _ 1000 count)
              (ok (new_source 0) ◂ named_again 3 s.main h.main ◂ procs.reads);
          runs = ((omega arith, refl), (name_is_run s.main.name h.main, procs.runs));
          low = omega (arith, procs.low);
        }

-- what fits the form keeps it
pub fits_keeps : (s : SourceOf) → FitsForm s → node_count (tree_of s) ≤ 2 ^ 31 → KeepsForm s
fits_keeps s h few = let m = made_source s h in record { well_formed = record { atoms = m.runs; shallow = m.low; few = few }; reads = m.reads }
