-- How long the text of the lowered source is.
use Rattle.std.proofs.Common.{◌≡◌, ℕ, zero, suc, ◌+◌, ◌*◌, ◌^◌, ◌<◌, ◌≤◌, List, [], ◌∷◌, ◌++◌, map, length, true, false, Some, refl, arith, length-append}
use Rattle.std.{specs.Prelude.{slice_get, pos, codes}, specs.Fmt.{decimal, digits}, proofs.lemmas.Fmt.length-decimal-le}
use Rattle.std.specs.Prelude as std
use Rattle.stack_text.{specs.Trees.{Node, Nodes, atom, list, none, more}, specs.TreeText.{tree_text, spaced_text}, specs.Views.TreeView.nodes}
use Rattle.stack_text.specs.Grammar.Printed.{list_tree, tree_of_all}
use Rattle.gypsy_syntax.{specs.declared.predef.Predef.Predef, specs.Keywords.keyword_name, specs.Made.{statements, new_seq, new_predef}}
use Rattle.gypsy_syntax.{specs.Predefined.predef_name, specs.Printed.{decl_tree, gypsy_text, local_tree, proc_text, stmt_tree, stmt_trees}}
use Rattle.gypsy_syntax.{specs.ProgramFits.Each, specs.Sources.{integer, truth, constant, loop, no_op, StmtOf}}
use Rattle.gypsy_syntax.specs.declared.predef.Predef.TheVariants as row
use Rattle.mini_syntax.{specs.declared.program.Declared.Declared, specs.declared.sort.Sort.Sort, specs.declared.sort.Sort.TheVariants.{Int, Bool}}
use Rattle.mini_syntax.{specs.Language.{Exp, Variable, Number, Truth, Before, Between, Stmt, Nothing, Then, Assign, While, If}, specs.Lawful.nth_name}
use Rattle.mini_syntax.{specs.Lawful.IsLawful, specs.Names.is_variable_name, specs.Sorted.{IsWellSorted, AreFine}, specs.Spelled.{exp_bytes, stmt_bytes}}
use Rattle.mini_syntax.{specs.Spelled.{declared_bytes, program_bytes}, specs.Operands.{sort_of, prefix_sort, infix_sort}}
use Rattle.mini_gypsy.{proofs.NameLaws.all_named, specs.Lowered.{decl_of, locals_from, temporaries, temporary_name, argument, set_name, value_parts}}
use Rattle.mini_gypsy.{specs.Lowered.{statement_parts, block_parts, choice_parts, leave, main_procedure, lowered}, specs.Steps.{prefix_row, infix_row}}

-- the bytes of statements, with a space before each
abbrev pub parts_length : List StmtOf → ℕ
parts_length parts = length (spaced_text (stmt_trees (statements parts)))

one_part : (s : StmtOf) (parts : List StmtOf) → parts_length (s ∷ parts) ≡ 1 + length (tree_text (stmt_tree s)) + parts_length parts
one_part s parts = let both = length-append (tree_text (stmt_tree s)) (spaced_text (stmt_trees (statements parts))) in omega (arith, both)

parts_append : (xs ys : List StmtOf) → parts_length (xs ++ ys) ≡ parts_length xs + parts_length ys
parts_append [] ys = omega arith
parts_append (x ∷ xs) ys = let rest = parts_append xs ys in omega (arith, one_part x xs, one_part x (xs ++ ys), rest)

-- lists of three and of four atoms
three_atoms : (a b c : List ℕ) → length (tree_text (tree_of_all (atom 0 a ∷ atom 0 b ∷ atom 0 c ∷ []))) ≡ 4 + length a + length b + length c
three_atoms a b c =
    let last = length-append c [] in
    let second = length-append b (32 ∷ (c ++ [])) in
    let first = length-append a (32 ∷ (b ++ (32 ∷ (c ++ [])))) in
    omega (arith, length-append (a ++ (32 ∷ (b ++ (32 ∷ (c ++ []))))) (41 ∷ []), first, second, last)

four_atoms : (a b c d : List ℕ) → length (tree_text (tree_of_all (atom 0 a ∷ atom 0 b ∷ atom 0 c ∷ atom 0 d ∷ []))) ≡ 5 + length a + length b + length c
    + length d
four_atoms a b c d =
    let last = length-append d [] in
    let third = length-append c (32 ∷ (d ++ [])) in
    let second = length-append b (32 ∷ (c ++ (32 ∷ (d ++ [])))) in
    let first = length-append a (32 ∷ (b ++ (32 ∷ (c ++ (32 ∷ (d ++ [])))))) in
    omega (arith, length-append (a ++ (32 ∷ (b ++ (32 ∷ (c ++ (32 ∷ (d ++ []))))))) (41 ∷ []), first, second, third, last)

row_short : (r : Predef) → length (predef_name r) ≤ 32
row_short row.MgSimpleVariableAssignment = omega arith
row_short r = omega arith

two_length : (r : Predef) (a b : List ℕ) → length (tree_text (stmt_tree (new_predef 0 r (argument a ∷ argument b ∷ [])))) ≤ 36 + length a + length b
unfolding keyword_name
two_length r a b = let short = row_short r in omega (arith, three_atoms (predef_name r) a b, short)

three_length : (r : Predef) (a b c : List ℕ) → length (tree_text (stmt_tree (new_predef 0 r (argument a ∷ argument b ∷ argument c ∷ [])))) ≤ 37
    + length a + length b + length c
unfolding keyword_name
three_length r a b c = let short = row_short r in omega (arith, four_atoms (predef_name r) a b c, short)

number_length : (a : List ℕ) (n : ℕ) → n < 2 ^ 31 → length
    (tree_text (stmt_tree (new_predef 0 row.MgSimpleConstantAssignment (argument a ∷ constant (integer 0 (pos n)) ∷ [])))) ≤ 46 + length a
unfolding keyword_name
number_length a n lt =
    let short = length-decimal-le 10 n (omega arith) (omega arith) (omega arith) in
    omega (arith, three_atoms (predef_name row.MgSimpleConstantAssignment) a (decimal n), short)

truth_length : (a : List ℕ) (b : std.Bool) → length
    (tree_text (stmt_tree (new_predef 0 row.MgSimpleConstantAssignment (argument a ∷ constant (truth 0 b) ∷ [])))) ≤ 41 + length a
unfolding keyword_name
truth_length a true = omega (arith, three_atoms (predef_name row.MgSimpleConstantAssignment) a (codes "true"))
truth_length a false = omega (arith, three_atoms (predef_name row.MgSimpleConstantAssignment) a (codes "false"))

module _ (names : List (List ℕ)) (sorts : List Sort) (some : (i : ℕ) (s : Sort) → slice_get sorts i ≡ Some s → 0 < length (nth_name names i)) where
  values_length : (k : ℕ) (e : Exp) → IsWellSorted sorts e → parts_length (value_parts names k e) ≤ 60 * exp_bytes names e
  unfolding value_parts
  values_length k (Variable s i) sorted =
      let long = some i s sorted in
      omega (
        arith,
        one_part (set_name (temporary_name s k) (nth_name names i)) [],
        two_length row.MgSimpleVariableAssignment (temporary_name s k) (nth_name names i),
        long,
      )
  values_length k (Number n) sorted =
      omega (
        arith,
        one_part (new_predef 0 row.MgSimpleConstantAssignment (argument (temporary_name Int k) ∷ constant (integer 0 (pos n)) ∷ [])) [],
        number_length (temporary_name Int k) n sorted,
      )
  values_length k (Truth b) sorted =
      omega (
        arith,
        one_part (new_predef 0 row.MgSimpleConstantAssignment (argument (temporary_name Bool k) ∷ constant (truth 0 b) ∷ [])) [],
        truth_length (temporary_name Bool k) b,
      )
  values_length k (Before op e) sorted =
      let last = new_predef 0 (prefix_row op) (argument (temporary_name (prefix_sort op) k) ∷ argument (temporary_name (sort_of e) k) ∷ []) in
      let first = values_length k e sorted.0 in
      omega (
        arith,
        parts_append (value_parts names k e) (last ∷ []),
        one_part last [],
        two_length (prefix_row op) (temporary_name (prefix_sort op) k) (temporary_name (sort_of e) k),
        first,
      )
  values_length k (Between op a b) sorted =
      let last = new_predef 0 (infix_row op) (argument (temporary_name (infix_sort op) k) ∷ argument (temporary_name (sort_of a) k)
      ∷ argument (temporary_name (sort_of b) (suc k)) ∷ []) in
      let first = values_length k a sorted.0 in
      let second = values_length (suc k) b sorted.1 in
      omega (
        arith,
        parts_append (value_parts names k a) (value_parts names (suc k) b ++ last ∷ []),
        parts_append (value_parts names (suc k) b) (last ∷ []),
        one_part last [],
        three_length (infix_row op) (temporary_name (infix_sort op) k) (temporary_name (sort_of a) k) (temporary_name (sort_of b) (suc k)),
        first,
        second,
      )

-- ---- lists

spaced_more : (t : Node) (ts : Nodes) → length (spaced_text (more t ts)) ≡ 1 + length (tree_text t) + length (spaced_text ts)
spaced_more t ts = let both = length-append (tree_text t) (spaced_text ts) in omega (arith, both)

list_length : (t : Node) (ts : Nodes) → length (tree_text (list 0 (more t ts))) ≡ 2 + length (tree_text t) + length (spaced_text ts)
list_length t ts =
    let both = length-append (tree_text t) (spaced_text ts) in
    let last = length-append (tree_text t ++ spaced_text ts) (41 ∷ []) in
    omega (arith, both, last)

two_nodes : (a b : Node) → length (tree_text (list 0 (more a (more b none)))) ≡ 3 + length (tree_text a) + length (tree_text b)
two_nodes a b = omega (arith, list_length a (more b none), spaced_more b none)

four_nodes : (a b c d : Node) → length (tree_text (list 0 (more a (more b (more c (more d none)))))) ≡ 5 + length (tree_text a) + length (tree_text b)
    + length (tree_text c) + length (tree_text d)
four_nodes a b c d =
    omega (arith, list_length a (more b (more c (more d none))), spaced_more b (more c (more d none)), spaced_more c (more d none), spaced_more d none)

-- ---- statements

seq_length : (parts : List StmtOf) → length (tree_text (stmt_tree (new_seq 0 parts))) ≡ 5 + parts_length parts
unfolding keyword_name
seq_length parts = omega (arith, list_length (atom 0 (codes "seq")) (stmt_trees (statements parts)))

block_length : (parts : List StmtOf) → length (tree_text (stmt_tree (block_parts parts))) ≡ 13 + parts_length parts
unfolding keyword_name
block_length parts = omega (arith, seq_length (no_op 0 ∷ parts), one_part (no_op 0) parts)

leave_length : length (tree_text (stmt_tree leave)) ≡ 14
unfolding keyword_name
leave_length = refl

choice_length : (s t : StmtOf) → length (tree_text (stmt_tree (choice_parts s t))) ≡ 11 + length (tree_text (stmt_tree s)) + length (tree_text (stmt_tree t))
unfolding keyword_name
choice_length s t = omega (arith, four_nodes (atom 0 (codes "if")) (atom 0 (temporary_name Bool 0)) (stmt_tree s) (stmt_tree t))

loop_length : (s : StmtOf) → length (tree_text (stmt_tree (loop 0 s))) ≡ 7 + length (tree_text (stmt_tree s))
unfolding keyword_name
loop_length s = omega (arith, two_nodes (atom 0 (codes "loop")) (stmt_tree s))

module _ (names : List (List ℕ)) (sorts : List Sort) (some : (i : ℕ) (s : Sort) → slice_get sorts i ≡ Some s → 0 < length (nth_name names i)) where
  statements_length : (s : Stmt) → AreFine sorts s → parts_length (statement_parts names s) ≤ 60 * stmt_bytes names s
  unfolding statement_parts
  statements_length Nothing fine = omega arith
  statements_length (Then s t) fine =
      let first = statements_length s fine.0 in
      let second = statements_length t fine.1 in
      omega (arith, parts_append (statement_parts names s) (statement_parts names t), first, second)
  statements_length (Assign i e) fine =
      let last = set_name (nth_name names i) (temporary_name (sort_of e) 0) in
      let first = values_length names sorts some 0 e fine.1.sorted in
      omega (
        arith,
        parts_append (value_parts names 0 e) (last ∷ []),
        one_part last [],
        two_length row.MgSimpleVariableAssignment (nth_name names i) (temporary_name (sort_of e) 0),
        first,
      )
  statements_length (While e s) fine =
      let block = block_parts (statement_parts names s) in
      let choice = choice_parts block leave in
      let body = value_parts names 0 e ++ choice ∷ [] in
      let first = values_length names sorts some 0 e fine.0.sorted in
      let second = statements_length s fine.1 in
      omega (
        arith,
        one_part (loop 0 (new_seq 0 body)) [],
        loop_length (new_seq 0 body),
        seq_length body,
        parts_append (value_parts names 0 e) (choice ∷ []),
        one_part choice [],
        choice_length block leave,
        block_length (statement_parts names s),
        leave_length,
        first,
        second,
      )
  statements_length (If e s t) fine =
      let block = block_parts (statement_parts names s) in
      let other = block_parts (statement_parts names t) in
      let choice = choice_parts block other in
      let first = values_length names sorts some 0 e fine.0.sorted in
      let second = statements_length s fine.1 in
      let third = statements_length t fine.2 in
      omega (
        arith,
        parts_append (value_parts names 0 e) (choice ∷ []),
        one_part choice [],
        choice_length block other,
        block_length (statement_parts names s),
        block_length (statement_parts names t),
        first,
        second,
        third,
      )

-- ---- the whole

decl_length : (d : Declared) → length (tree_text (decl_tree (decl_of d.name d.sort))) ≤ 10 + length d.name
decl_length d = by_sort d.sort
  where
    by_sort : (s : Sort) → length (tree_text (decl_tree (decl_of d.name s))) ≤ 10 + length d.name
    by_sort Int = omega (arith, two_nodes (atom 0 d.name) (atom 0 (codes "integer")))
    by_sort Bool = omega (arith, two_nodes (atom 0 d.name) (atom 0 (codes "boolean")))

formals_length : (ds : List Declared) → length (spaced_text (nodes (map decl_tree (map (λ (d : Declared). decl_of d.name d.sort) ds)))) ≤ 60 * declared_bytes ds
formals_length [] = omega arith
formals_length (d ∷ ds) =
    let rest = formals_length ds in
    omega (
      arith,
      spaced_more (decl_tree (decl_of d.name d.sort)) (nodes (map decl_tree (map (λ (e : Declared). decl_of e.name e.sort) ds))),
      decl_length d,
      rest,
    )

formals_tree : (ds : List Declared) → length (tree_text (list_tree decl_tree (map (λ (d : Declared). decl_of d.name d.sort) ds))) ≤ 2 + 60 * declared_bytes ds
formals_tree [] = omega arith
formals_tree (d ∷ ds) =
    let rest = formals_length ds in
    omega (
      arith,
      list_length (decl_tree (decl_of d.name d.sort)) (nodes (map decl_tree (map (λ (e : Declared). decl_of e.name e.sort) ds))),
      decl_length d,
      rest,
    )

locals_tree : length (tree_text (list_tree local_tree temporaries)) ≡ 1559
unfolding temporaries locals_from digits
locals_tree = refl

seven_nodes : (a b c d e f g : Node) → length (tree_text (list 0 (more a (more b (more c (more d (more e (more f (more g none)))))))))
    ≡ 8 + length (tree_text a) + length (tree_text b) + length (tree_text c) + length (tree_text d) + length (tree_text e) + length (tree_text f)
    + length (tree_text g)
seven_nodes a b c d e f g =
    omega (
      arith,
      list_length a (more b (more c (more d (more e (more f (more g none)))))),
      spaced_more b (more c (more d (more e (more f (more g none))))),
      spaced_more c (more d (more e (more f (more g none)))),
      spaced_more d (more e (more f (more g none))),
      spaced_more e (more f (more g none)),
      spaced_more f (more g none),
      spaced_more g none,
    )

procedure_length : (ds : List Declared) (s : Stmt) → length (proc_text (main_procedure ds s)) ≡ 16
    + length (tree_text (list_tree decl_tree (map (λ (d : Declared). decl_of d.name d.sort) ds))) + 2
    + length (tree_text (list_tree local_tree temporaries)) + 2 + length (tree_text (stmt_tree (main_procedure ds s).body))
procedure_length ds s =
    seven_nodes (atom 0 (codes "proc")) (atom 0 (codes "main")) (list_tree decl_tree (map (λ (d : Declared). decl_of d.name d.sort) ds)) (list 0 none)
    (list_tree local_tree temporaries) (list 0 none) (stmt_tree (main_procedure ds s).body)

one_line : (head text : List ℕ) → length ((40 ∷ ((head ++ (10 ∷ (text ++ []))) ++ 41 ∷ [])) ++ 10 ∷ []) ≡ 4 + length head + length text
one_line head text =
    let one = length-append text [] in
    let two = length-append head (10 ∷ (text ++ [])) in
    let three = length-append (head ++ (10 ∷ (text ++ []))) (41 ∷ []) in
    let four = length-append (40 ∷ ((head ++ (10 ∷ (text ++ []))) ++ 41 ∷ [])) (10 ∷ []) in
    omega (arith, one, two, three, four)

text_length : (ds : List Declared) (s : Stmt) → length (gypsy_text (lowered ds s)) ≡ 16 + length (proc_text (main_procedure ds s))
text_length ds s = one_line (codes "program main") (proc_text (main_procedure ds s))

all_short : (t p f l b parts d st : ℕ) → t ≡ 16 + p → p ≡ 16 + f + 2 + l + 2 + b → f ≤ 2 + 60 * d → l ≡ 1559 → b ≡ 13 + parts → parts ≤ 60 * st
    → t ≤ 60 * (d + st) + 2000
all_short t p f l b parts d st a e g h i j = omega arith

some_bytes : (ds : List Declared) (i : ℕ) (s : Sort) → Each (λ d. is_variable_name d.name ≡ true) ds
    → slice_get (map (λ (d : Declared). d.sort) ds) i ≡ Some s → 0 < length (nth_name (map (λ (d : Declared). d.name) ds) i)
some_bytes [] i s good e = cc
some_bytes (d ∷ ds) zero s good e = begins d.name good.0
  where
    begins : (name : List ℕ) → is_variable_name name ≡ true → 0 < length name
    begins [] h = cc
    begins (b ∷ bytes) h = omega arith
some_bytes (d ∷ ds) (suc i) s good e = some_bytes ds i s good.1 e

-- the printed source has at most 60 bytes for each of the program's tokens' bytes, and 2,000 more
pub lowered_short : (ds : List Declared) (s : Stmt) → IsLawful ds s → length (gypsy_text (lowered ds s)) ≤ 60 * program_bytes ds s + 2000
lowered_short ds s lawful =
    let names = map (λ (d : Declared). d.name) ds in
    let body = statements_length names (map (λ (d : Declared). d.sort) ds) (λ i r e. some_bytes ds i r (all_named ds lawful.names) e) s lawful.fine in
    all_short (length (gypsy_text (lowered ds s))) (length (proc_text (main_procedure ds s)))
    (length (tree_text (list_tree decl_tree (map (λ (d : Declared). decl_of d.name d.sort) ds))))
    (length (tree_text (list_tree local_tree temporaries))) (length (tree_text (stmt_tree (main_procedure ds s).body))) (parts_length (statement_parts names s))
    (declared_bytes ds) (stmt_bytes names s) (text_length ds s) (procedure_length ds s) (formals_tree ds) locals_tree
    (block_length (statement_parts names s)) body
