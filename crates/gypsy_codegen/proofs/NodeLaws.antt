-- How many atoms and lists the tree of the generated system has at most.
use Rattle.std.proofs.Common.{◌≡◌, ℕ, suc, ◌+◌, ◌*◌, ◌≤◌, ◌^◌, List, [], ◌∷◌, ◌++◌, map, length, Bool, true, false, cond, leb, refl, ap, ◌∙◌, arith}
use Rattle.std.{specs.Prelude.◌==◌, proofs.lemmas.Bool.leb-true, proofs.lemmas.List.map-append}
use Rattle.stack_text.{specs.declared.shape.Shape.Shape, specs.Values.item_count, specs.Trees.{Node, atom, node_count, node_counts}, specs.Views.TreeView.nodes}
use Rattle.stack_text.specs.Grammar.Printed.{tree_of_all, name_tree, unplaced}
use Rattle.piton_words.specs.declared.word.Word.{Word}
use Rattle.piton_words.specs.declared.word.Word.TheVariants as word
use Rattle.piton_words.specs.declared.op.WordOp.TheVariants as op
use Rattle.piton_syntax.specs.declared.test_kind.TestFamily.TheVariants as family
use Rattle.piton_syntax.specs.declared.test_kind.TestKind.TheVariants as test
use Rattle.piton_syntax.{specs.Operations.op_name, specs.Printed.{word_tree, argument_tree, instruction_tree, temporary_tree, program_tree, tree_of}}
use Rattle.piton_check.specs.Instruction as i
use Rattle.piton_check.specs.Instruction.{Instruction}
use Rattle.gypsy_syntax.{specs.declared.predef.Predef.Predef, specs.Sources.{ProcOf, SourceOf}, specs.Programs.{ConditionOf, Routine, Arg, Var, Lit, Program}}
use Rattle.gypsy_syntax.{specs.Programs.{proc_at, body_of, shapes_of, Stmt, Skip, NoOp, Signal, Seq, Loop, If, Begin, Call, Apply}, specs.Resolved.program_of}
use Rattle.gypsy_syntax.{specs.ProgramFits.{Each, ProgramFits}, specs.Predefined.can_fail}
use Rattle.gypsy_syntax.specs.declared.predef.Predef.TheVariants as row
use Rattle.gypsy_space.specs.Needs.{StackSizes, local_words, code_words}
use Rattle.gypsy_codegen.{specs.WordsOf.{starts, words_of_values, local_shapes}, specs.Generated.{Scope, InLoop, InBegin, push_words, push_indices}}
use Rattle.gypsy_codegen.{specs.Generated.{push_actuals, push_args, length_code, predef_position, size, opening_words, count_from}, specs.Written.{Names, Line}}
use Rattle.gypsy_codegen.{specs.Written.{Plain, Marked, written_word, label_arg, written, op_of, args_of}, specs.Lines.{labels, label_to, unmarked}}
use Rattle.gypsy_codegen.{specs.Lines.{marked_raises, raise_labels, before_code, after_lines, lines, tail_lines, lines_of}, specs.Text.frame_texts}
use Rattle.gypsy_codegen.{specs.Text.{names_with, temporaries_of, written_procedure, written_procedures, generated}, specs.Acceptable.code_words_of}
use Rattle.gypsy_codegen.{proofs.SourceLaws.{ProcForm, frame_count}, proofs.ResolveLaws.procedure_count, proofs.CountLaws.code_least}
use Rattle.gypsy_predef.{specs.Calls.test_code, specs.Texts.body_texts}

counts_both : (a b : List Node) → node_counts (nodes (a ++ b)) ≡ node_counts (nodes a) + node_counts (nodes b)
counts_both [] b = omega arith
counts_both (t ∷ a) b = omega (arith, counts_both a b)

word_nodes : (n : Names) (w : Word) → node_count (word_tree (written_word n w)) ≤ 4
word_nodes n (word.Int z) = omega arith
word_nodes n (word.Nat k) = omega arith
word_nodes n (word.Bitv k) = omega arith
word_nodes n (word.Bool true) = omega arith
word_nodes n (word.Bool false) = omega arith
word_nodes n (word.Addr a k) = omega arith
word_nodes n (word.Pc a k) = omega arith
word_nodes n (word.Subr a) = omega arith

names_nodes : (names : List (List ℕ)) → node_counts (nodes (map name_tree (map unplaced names))) ≡ length names
names_nodes [] = refl
names_nodes (x ∷ names) = omega (arith, names_nodes names)

labels_nodes : (tos : List ℕ) → node_counts (nodes (map argument_tree (map label_arg tos))) ≡ length tos
labels_nodes [] = refl
labels_nodes (x ∷ tos) = omega (arith, labels_nodes tos)

words_nodes : (n : Names) (ws : List Word) → node_counts (nodes (map word_tree (map (written_word n) ws))) ≤ 4 * length ws
words_nodes n [] = omega arith
words_nodes n (w ∷ ws) = let h = word_nodes n w in let k = words_nodes n ws in omega (arith, h, k)

temporaries_nodes : (n : Names) (names : List (List ℕ)) (ws : List Word) → node_counts (nodes (map temporary_tree (temporaries_of n names ws))) ≤ 6
    * length names
temporaries_nodes n [] ws = omega arith
temporaries_nodes n (x ∷ names) [] = omega arith
temporaries_nodes n (x ∷ names) (w ∷ ws) = let h = word_nodes n w in let k = temporaries_nodes n names ws in omega (arith, h, k)

-- ---- lines

abbrev targets : Instruction → ℕ
targets (i.JumpCase tos) = length tos
targets ins = 0

abbrev line_targets : Line → ℕ
line_targets (Plain ins) = targets ins
line_targets (Marked l ins) = targets ins

abbrev all_targets : List Line → ℕ
all_targets [] = 0
all_targets (l ∷ ls) = line_targets l + all_targets ls

plain_nodes : (n : Names) (ins : Instruction) → node_count (tree_of_all (atom 0 (op_name (op_of ins)) ∷ map argument_tree (args_of n ins))) ≤ 6 + targets ins
plain_nodes n (i.PushConstant w) = let h = word_nodes n w in omega (arith, h)
plain_nodes n (i.PushLocal b) = omega arith
plain_nodes n (i.PopLocal b) = omega arith
plain_nodes n (i.SetLocal b) = omega arith
plain_nodes n (i.PushGlobal a) = omega arith
plain_nodes n (i.PopGlobal a) = omega arith
plain_nodes n (i.SetGlobal a) = omega arith
plain_nodes n (i.PushTempStkIndex k) = omega arith
plain_nodes n (i.PopStar k) = omega arith
plain_nodes n (i.Jump to) = omega arith
plain_nodes n (i.JumpIfTempStkFull to) = omega arith
plain_nodes n (i.JumpIfTempStkEmpty to) = omega arith
plain_nodes n (i.JumpCase tos) = omega (arith, labels_nodes tos)
plain_nodes n (i.Pushj to) = omega arith
plain_nodes n (i.TestAndJump g k to) = omega arith
plain_nodes n (i.Call c) = omega arith
plain_nodes n (i.Apply o) = omega arith
plain_nodes n i.PushTempStkFreeSize = omega arith
plain_nodes n i.PushCtrlStkFreeSize = omega arith
plain_nodes n i.FetchTempStk = omega arith
plain_nodes n i.DepositTempStk = omega arith
plain_nodes n i.Fetch = omega arith
plain_nodes n i.Deposit = omega arith
plain_nodes n i.Pop = omega arith
plain_nodes n i.Popn = omega arith
plain_nodes n i.NoOp = omega arith
plain_nodes n i.Popj = omega arith
plain_nodes n i.PopCall = omega arith
plain_nodes n i.Ret = omega arith

line_nodes : (n : Names) (l : Line) → node_count (instruction_tree (written n l)) ≤ 10 + line_targets l
line_nodes n (Plain ins) = let h = plain_nodes n ins in omega (arith, h)
line_nodes n (Marked l ins) = let h = plain_nodes n ins in omega (arith, h)

lines_nodes : (n : Names) (ls : List Line) → node_counts (nodes (map instruction_tree (map (written n) ls))) ≤ 10 * length ls + all_targets ls
lines_nodes n [] = omega arith
lines_nodes n (l ∷ ls) = let h = line_nodes n l in let k = lines_nodes n ls in omega (arith, h, k)

targets_both : (a b : List Line) → all_targets (a ++ b) ≡ all_targets a + all_targets b
targets_both [] b = omega arith
targets_both (l ∷ a) b = omega (arith, targets_both a b)

plain_both : (a b : List Instruction) → all_targets (unmarked (a ++ b)) ≡ all_targets (unmarked a) + all_targets (unmarked b)
plain_both [] b = omega arith
plain_both (c ∷ a) b = omega (arith, plain_both a b)

module _ (q : Program) (p : ℕ) where
  words_targets : (ws : List Word) → all_targets (unmarked (push_words ws)) ≡ 0
  words_targets [] = refl
  words_targets (w ∷ ws) = omega (arith, words_targets ws)

  indices_targets : (l k o : ℕ) (shapes : List Shape) → all_targets (unmarked (push_indices l k o shapes)) ≡ 0
  indices_targets l k o [] = refl
  indices_targets l k o (s ∷ shapes) = omega (arith, indices_targets l (k + 1) (o + item_count s) shapes)

  actuals_targets : (xs : List ℕ) → all_targets (unmarked (push_actuals q p xs)) ≡ 0
  actuals_targets [] = refl
  actuals_targets (x ∷ xs) = omega (arith, actuals_targets xs)

  args_targets : (args : List Arg) → all_targets (unmarked (push_args q p args)) ≡ 0
  args_targets [] = refl
  args_targets (Var b ∷ args) = omega (arith, args_targets args)
  args_targets (Lit v ∷ args) = omega (arith, args_targets args)

  length_targets : (shapes : List Shape) (r : Predef) (args : List Arg) → all_targets (unmarked (length_code shapes r args)) ≡ 0
  length_targets shapes row.MgSimpleVariableAssignment args = refl
  length_targets shapes r args = refl

  check_targets : (b : Bool) (to : ℕ) → all_targets
      (unmarked (cond b (i.PushGlobal 0 ∷ i.Apply op.Sub1Nat ∷ i.TestAndJump family.Nat test.Zero to ∷ []) [])) ≡ 0
  check_targets true to = refl
  check_targets false to = refl

  raises_targets : (env : List Scope) (l : ℕ) (cs : List ConditionOf) → all_targets (marked_raises q p env l cs) ≡ 0
  raises_targets env l [] = refl
  raises_targets env l (c ∷ cs) = omega (arith, raises_targets env (l + 1) cs)

  raise_labels_count : (l : ℕ) (cs : List ConditionOf) → length (raise_labels l cs) ≡ length cs
  raise_labels_count l [] = refl
  raise_labels_count l (c ∷ cs) = ap suc (raise_labels_count (l + 1) cs)

  before_targets : (c : ℕ) (xs : List ℕ) → all_targets (unmarked (before_code q p c xs)) ≡ 0
  before_targets c xs =
      let d = proc_at q c in
      let indices = push_indices (local_words d) 0 0 (local_shapes d) in
      let last = i.Call c ∷ [] in
      omega (
        arith,
        plain_both (push_words (words_of_values d.locals)) (indices ++ (push_actuals q p xs ++ last)),
        plain_both indices (push_actuals q p xs ++ last),
        plain_both (push_actuals q p xs) last,
        words_targets (words_of_values d.locals),
        indices_targets (local_words d) 0 0 (local_shapes d),
        actuals_targets xs,
      )

  lines_targets : (env : List Scope) (l : ℕ) (s : Stmt) → all_targets (lines q p env l s) ≤ size q s
  lines_targets env l Skip = omega arith
  lines_targets env l (NoOp place) = omega arith
  lines_targets env l (Signal place c) = omega arith
  lines_targets env l (Seq a b) =
      let x = lines_targets env l a in
      let y = lines_targets env (l + labels a) b in
      omega (arith, targets_both (lines q p env l a) (lines q p env (l + labels a) b), x, y)
  lines_targets env l (Loop place s) =
      let e = InLoop (l + 1) ∷ env in
      let x = lines_targets e (l + 2) s in
      omega (arith, targets_both (lines q p e (l + 2) s) (Plain (i.Jump l) ∷ Marked (l + 1) (i.PushConstant (word.Nat 2)) ∷ Plain (i.PopGlobal 0) ∷ []), x)
  lines_targets env l (If place b s v) =
      let tv = lines q p env (l + 2 + labels s) v in
      let x = lines_targets env (l + 2) s in
      let y = lines_targets env (l + 2 + labels s) v in
      omega (
        arith,
        targets_both (lines q p env (l + 2) s) (Plain (i.Jump (l + 1)) ∷ Marked l i.NoOp ∷ (tv ++ Marked (l + 1) i.NoOp ∷ [])),
        targets_both tv (Marked (l + 1) i.NoOp ∷ []),
        x,
        y,
      )
  lines_targets env l (Begin place s cs v) =
      let e = InBegin cs l ∷ env in
      let tv = lines q p env (l + 2 + labels s) v in
      let x = lines_targets e (l + 2) s in
      let y = lines_targets env (l + 2 + labels s) v in
      omega (
        arith,
        targets_both (lines q p e (l + 2) s) (Plain (i.Jump (l + 1)) ∷ Marked l (i.PushConstant (word.Nat 2)) ∷ Plain (i.PopGlobal 0)
            ∷ (tv ++ Marked (l + 1) i.NoOp ∷ [])),
        targets_both tv (Marked (l + 1) i.NoOp ∷ []),
        x,
        y,
      )
  lines_targets env l (Call place c xs cs) =
      let rs = marked_raises q p env (l + 3) cs in
      omega (
        arith,
        targets_both (unmarked (before_code q p c xs)) (after_lines q p env l (local_words (proc_at q c)) cs),
        before_targets c xs,
        targets_both rs (Marked (l + 1) i.NoOp ∷ []),
        raises_targets env (l + 3) cs,
        raise_labels_count (l + 3) cs,
      )
  lines_targets env l (Apply place r args) =
      let to = label_to q p env Routine in
      let shapes = shapes_of (proc_at q p) in
      let check = test_code r to in
      let rest = i.Call (predef_position q r) ∷ check in
      omega (
        arith,
        plain_both (push_args q p args) (length_code shapes r args ++ rest),
        args_targets args,
        plain_both (length_code shapes r args) rest,
        length_targets shapes r args,
        check_targets (can_fail r) to,
      )

  body_targets : all_targets (lines_of q p) ≤ size q (body_of q p)
  body_targets =
      let x = lines_targets [] 2 (body_of q p) in omega (arith, targets_both (lines q p [] 2 (body_of q p)) tail_lines, x)

-- ---- programs

heads_nodes : (b : Bool) (n : Names) (frame : List (List ℕ)) (ws : List Word) →
    node_counts (nodes (map name_tree (cond b [] (map unplaced frame)))) + node_counts
    (nodes (map temporary_tree (cond b (temporaries_of n frame ws) []))) ≤ 6 * length frame
heads_nodes true n frame ws = let h = temporaries_nodes n frame ws in omega (arith, h)
heads_nodes false n frame ws = omega (arith, names_nodes frame)

module _ (src : SourceOf) (fits : ProgramFits (program_of src)) where
  procedure_nodes : (p : ℕ) (proc : ProcOf) → ProcForm proc → node_count (program_tree (written_procedure src p proc)) ≤ 1300 + 11
      * code_words (program_of src) p
  procedure_nodes p proc form =
      let q = program_of src in
      let frame = frame_texts q p proc in
      let n = names_with src frame in
      let heads = heads_nodes (p == q.main) n frame (map (λ at. word.Nat at) (starts 0 (shapes_of (proc_at q p)))) in
      let body = lines_nodes n (lines_of q p) in
      let case_targets = body_targets q p in
      let few = form.few_variables in
      let least = code_least q fits p in
      omega (arith, heads, body, case_targets, few, frame_count q p proc, procedure_count q p, least)

  procedures_nodes : (from : ℕ) (procs : List ProcOf) → Each ProcForm procs →
      node_counts (nodes (map program_tree (written_procedures src from procs))) ≤ 1300 * length procs + 11
      * code_words_of (program_of src) (count_from from (length procs))
  procedures_nodes from [] h = omega arith
  procedures_nodes from (p ∷ procs) h =
      let x = procedure_nodes from p h.0 in
      let y = procedures_nodes (suc from) procs h.1 in
      omega (arith, x, y)

  predefs_nodes : leb (node_counts (nodes (map program_tree body_texts))) 20000 ≡ true
  predefs_nodes = refl

  pub system_nodes : (sizes : StackSizes) (base : ℕ) → Each ProcForm src.procs → length src.procs ≤ 1000
      → code_words_of (program_of src) (count_from 0 (length src.procs)) ≤ 2 ^ 20 →
      length (opening_words (program_of src)) ≤ 65536 → node_count (tree_of (generated src sizes base)) ≤ 2 ^ 31
  system_nodes sizes base form few words stack =
      let procs = written_procedures src 0 src.procs in
      let others = body_texts in
      let x = procedures_nodes 0 src.procs form in
      let y = leb-true (node_counts (nodes (map program_tree others))) 20000 predefs_nodes in
      let z = words_nodes (names_with src []) (opening_words (program_of src)) in
      let parts : node_counts (nodes (map program_tree (procs ++ others))) ≡ node_counts (nodes (map program_tree procs))
      + node_counts (nodes (map program_tree others)) =
      ap (λ ts. node_counts (nodes ts)) (map-append program_tree procs others) ∙ counts_both (map program_tree procs) (map program_tree others) in
      omega (arith, x, y, z, parts, few, words, stack)
