-- The parts of a source, one walk over them: their faults go up with the places of a tree, places don't count, and what is read fits.
use Rattle.std.proofs.Common.{◌≡◌, ℕ, ◌+◌, ◌<◌, ◌≤◌, suc, max, true, false, List, [], ◌∷◌, length, map, Option, Some, None, All, refl, ap, ◌∙◌, arith}
use Rattle.std.{specs.Prelude.{Bool, ◌&&◌, codes, drop, nat_le}, specs.Str.bytes_eq, proofs.lemmas.Bool.{and_parts, leb-true}}
use Rattle.std.proofs.lemmas.List.Elements.{All-nil, All-cons, All-head, All-tail}
use Rattle.stack_text.specs.Trees.{Node, Nodes, atom, list, none, more, all_without_places, place_of, without_places as bare, node_count, node_counts, depth}
use Rattle.stack_text.{specs.Trees.depths, specs.Names.is_name, specs.Grammar.Parts.{IsNamed, list_length, count_of}, specs.Grammar.Printed.name_tree}
use Rattle.stack_text.{specs.Grammar.Printed.unplaced_name, specs.Views.TreeView.nodes, specs.Numerals.{is_digits, is_numeral, numeral_value, fits_128_bits}}
use Rattle.stack_text.{specs.Numerals.{IsNatural, IsNumber}, specs.declared.shape.Kind.Kind, specs.Grammar.Judged.each_of, proofs.PlacesLaws.same_atom}
use Rattle.stack_text.{proofs.PlacesLaws.{same_count, same_list_length, unplaced_place}, proofs.NumeralTextLaws.natural_digits, proofs.WalkLaws.{Part, Walk}}
use Rattle.stack_text.proofs.WalkLaws.{Walks, Fitted, FittedList, done, ◌▸◌, rest, skip, in_order, found, at_fault, choice, passing, tested, made, more_holds}
use Rattle.stack_text.proofs.WalkLaws.{name, some_nodes, no_more, one_more, each, list_part}
use Rattle.gypsy_syntax.specs.Grammar.{named_in, names_in, number_at, number_in, array_type, simple_type, type_in, is_character, simple_at, simple_in}
use Rattle.gypsy_syntax.specs.Grammar.{literal_in, decl_in, local_in, arg_in, is_empty_list, statement_in, form_in, statements_in, are_few, procedure_in}
use Rattle.gypsy_syntax.{specs.Grammar.source_in, specs.Made.{literals, statements, new_array, new_decl, new_local, new_list, new_seq, new_branch, new_begin}}
use Rattle.gypsy_syntax.{specs.Made.{new_call, new_predef, new_proc, new_source}, specs.Places.{unplaced_type, unplaced_literal, unplaced_literals}}
use Rattle.gypsy_syntax.specs.Places.{unplaced_arg, unplaced_decl, unplaced_local, unplaced_stmt, unplaced_stmts, unplaced_proc, without_places}
use Rattle.gypsy_syntax.specs.Sources.{LiteralOf, StmtOf, ProcOf, SourceOf, integer, truth, character, constant, array, item, seq, part, signal, loop}
use Rattle.gypsy_syntax.{specs.declared.keyword.Keyword.Keyword, specs.Keywords.{keyword_named, kind_named}, specs.declared.literal.TypeText.TypeText}
use Rattle.gypsy_syntax.specs.Fits.{FitsLength, FitsSimple, AllSimple, FitsLiteral, FitsArgument, FitsDecl, FitsLocal, FitsStatement, FitsStatements}
use Rattle.gypsy_syntax.{specs.Fits.{FitsProcedure, FitsForm}, specs.Printed.{truth_tree, type_tree, literal_tree, literal_trees, arg_tree, decl_tree}}
use Rattle.gypsy_syntax.{specs.Printed.{local_tree, stmt_tree, stmt_trees, proc_tree, tree_of}, specs.Sizes.{nesting, deepest}}
use Rattle.gypsy_syntax.specs.declared.keyword.Keyword.TheVariants as word

-- ---- names and numbers

name_part : (t : Node) → Part named_in unplaced_name (Fitted IsNamed name_tree) t
name_part = name 3

names_part : (t : Node) → Part names_in (map unplaced_name) (FittedList IsNamed name_tree) t
names_part = list_part 5 IsNamed name_tree named_in name_part

number_at_part : (p : ℕ) (w : List ℕ) → Walk (atom p w) (λ z. z) IsNumber (number_at p w) (number_at 0 w)
number_at_part p w = passing {b = fits_128_bits (numeral_value w)} 11 refl (λ fits. found refl fits)

code_part : (p : ℕ) (w v : List ℕ) → is_digits v ≡ true → Walk (atom p w) (λ z. z) IsNatural (number_at p v) (number_at 0 v)
code_part p w v digits = passing {b = fits_128_bits (numeral_value v)} 11 refl (λ fits. found refl (natural_digits v digits fits))

number_part : (t : Node) → Part number_in (λ z. z) (λ t. IsNumber) t
number_part (atom p w) = number_at_part p w
number_part (list p ts) = at_fault 11 _

-- ---- types and values

abbrev FitsType : TypeText → Type 0
FitsType t = FitsLength t.length

simple_type_part : (p : ℕ) (w : List ℕ) (k : Option Kind)
    → Walk (atom p w) unplaced_type (Fitted FitsType type_tree (atom p w)) (simple_type p k) (simple_type 0 k)
simple_type_part p w None = at_fault 7 _
simple_type_part p w (Some k) = found refl (record { fits = tt; size = omega arith })

array_part : (p : ℕ) (a k n : Node) (kind : Option Kind) → let t = list p (more a (more k (more n none))) in
    Walk t unplaced_type (Fitted FitsType type_tree t) (array_type p kind n) (array_type 0 kind (bare n))
array_part p a k n None = at_fault 7 _
array_part p a k n (Some kind) =
    tested 7 (same_atom is_numeral n) (in_order (new_array p kind) (new_array 0 kind) (skip a (skip k (number_part n ▸ done))) (λ z. refl)
    (λ z h. record { fits = h; size = omega (arith, some_nodes a, some_nodes k, some_nodes n) }))

type_part : (t : Node) → Part type_in unplaced_type (Fitted FitsType type_tree) t
type_part (atom p w) = simple_type_part p w (kind_named w)
type_part (list p (more a (more (atom r k) (more n none)))) = tested 7 (same_atom _ a) (array_part p a (atom r k) n (kind_named k))
type_part (list p (more a (more (list r us) (more n none)))) = tested 7 (same_atom _ a) (array_part p a (list r us) n None)
type_part t = at_fault 7 _

one_word : (b : Bool) → node_count (truth_tree b) ≤ 1
one_word true = omega arith
one_word false = omega arith

after_mark : (w : List ℕ) → is_character w ≡ true → is_digits (drop 1 w) ≡ true
after_mark [] h = absurd cc
after_mark (b ∷ bs) h = (and_parts _ (is_digits bs) h).1

simple_at_part : (p : ℕ) (w : List ℕ) → Walk (atom p w) unplaced_literal (Fitted FitsSimple literal_tree (atom p w)) (simple_at p w) (simple_at 0 w)
simple_at_part p w =
    choice (is_numeral w) (is_numeral w) refl
    (λ is. made (integer p) (integer 0) (λ z. refl) (λ z h. record { fits = h; size = omega arith }) (number_at_part p w))
    (λ other. choice (is_character w) (is_character w) refl
    (λ is. made (character p) (character 0) (λ z. refl) (λ z h. record { fits = h; size = omega arith }) (code_part p w (drop 1 w) (after_mark w is)))
    (λ other. tested 8 refl (found refl (record { fits = tt; size = one_word (bytes_eq w (codes "true")) }))))

simple_part : (t : Node) → Part simple_in unplaced_literal (Fitted FitsSimple literal_tree) t
simple_part (atom p w) = simple_at_part p w
simple_part t = at_fault 8 _

pub literals_unplaced : (ls : List LiteralOf) → literals (map unplaced_literal ls) ≡ unplaced_literals (literals ls)
literals_unplaced [] = refl
literals_unplaced (l ∷ ls) = ap (item (unplaced_literal l)) (literals_unplaced ls)

literal_nodes : (ls : List LiteralOf) → literal_trees (literals ls) ≡ nodes (map literal_tree ls)
literal_nodes [] = refl
literal_nodes (l ∷ ls) = ap (more (literal_tree l)) (literal_nodes ls)

simple_is_value : (l : LiteralOf) → FitsSimple l → FitsLiteral l
simple_is_value (integer p z) h = h
simple_is_value (truth p b) h = h
simple_is_value (character p z) h = h
simple_is_value (array p ls) h = absurd h

all_simple : (ls : List LiteralOf) → All FitsSimple ls → AllSimple (literals ls)
all_simple [] h = tt
all_simple (l ∷ ls) h = (All-head FitsSimple l ls h, all_simple ls (All-tail FitsSimple l ls h))

literal_part : (t : Node) → Part literal_in unplaced_literal (Fitted FitsLiteral literal_tree) t
literal_part (atom p w) = more_holds (λ l h. record { fits = simple_is_value l h.fits; size = h.size }) (simple_at_part p w)
literal_part (list p ts) =
    in_order (new_list p) (new_list 0) (rest (each FitsSimple literal_tree simple_in simple_part ts)) (λ ls. ap (array 0) (literals_unplaced ls))
    (λ ls h. record { fits = all_simple ls h.all; size = omega (arith, h.size, ap node_counts (literal_nodes ls)) })

decl_part : (t : Node) → Part decl_in unplaced_decl (Fitted FitsDecl decl_tree) t
decl_part (list p (more v (more t none))) =
    in_order new_decl new_decl (name_part v ▸ type_part t ▸ done) (λ n s. refl)
    (λ n hn s hs. record { fits = record { name = hn.fits; length = hs.fits }; size = omega (arith, hn.size, hs.size) })
decl_part t = at_fault 4 _

local_part : (t : Node) → Part local_in unplaced_local (Fitted FitsLocal local_tree) t
local_part (list p (more v (more t (more l none)))) =
    in_order new_local new_local (name_part v ▸ type_part t ▸ literal_part l ▸ done) (λ n s x. refl)
    (λ n hn s hs x hx. record {
      fits = record { decl = record { name = hn.fits; length = hs.fits }; value = hx.fits };
      size = omega (arith, hn.size, hs.size, hx.size);
    })
local_part t = at_fault 6 _

-- ---- statements

arg_part : (t : Node) → Part arg_in unplaced_arg (Fitted FitsArgument arg_tree) t
arg_part (atom p w) =
    choice (is_name w) (is_name w) refl (λ is. found refl (record { fits = is; size = omega arith }))
    (λ other. made constant constant (λ l. refl) (λ l h. record { fits = h.fits; size = h.size }) (simple_at_part p w))
arg_part t = at_fault 8 _

same_empty : (t : Node) → is_empty_list (bare t) ≡ is_empty_list t
same_empty (atom p w) = refl
same_empty (list p none) = refl
same_empty (list p (more t ts)) = refl

some_items : (t : Node) → is_empty_list t ≡ false → 0 < depth t → 0 < list_length t
some_items (atom p w) filled deep = absurd (omega (arith, deep))
some_items (list p none) filled deep = absurd cc
some_items (list p (more t ts)) filled deep = omega arith

pub statements_unplaced : (ss : List StmtOf) → statements (map unplaced_stmt ss) ≡ unplaced_stmts (statements ss)
statements_unplaced [] = refl
statements_unplaced (s ∷ ss) = ap (part (unplaced_stmt s)) (statements_unplaced ss)

-- a statement also nests no deeper than its tree
record FittedStmt (t : Node) (s : StmtOf) : Type 0 where
  fits : FitsStatement s
  nested : nesting s ≤ depth t
  size : node_count (stmt_tree s) ≤ node_count t

record FittedStmts (ts : Nodes) (ss : List StmtOf) : Type 0 where
  fits : FitsStatements (statements ss)
  nested : deepest (statements ss) ≤ depths ts
  size : node_counts (stmt_trees (statements ss)) ≤ node_counts ts

seq_fitted : (p q : ℕ) (w : List ℕ) (t : Node) (ts : Nodes) (s : StmtOf) → FittedStmt t s → (ss : List StmtOf) → FittedStmts ts ss
    → FittedStmt (list p (more (atom q w) (more t ts))) (new_seq p (s ∷ ss))
seq_fitted p q w t ts s h ss k =
    record { fits = (h.fits, k.fits); nested = omega (arith, h.nested, k.nested); size = omega (arith, h.size, k.size) }

mutual
  statement_part : (t : Node) → Part statement_in unplaced_stmt FittedStmt t
  statement_part (list p (more (atom q w) ts)) = form_part (keyword_named w) p q w ts
  statement_part t = at_fault 9 _

  form_part : (k : Option Keyword) (p q : ℕ) (w : List ℕ) (ts : Nodes) → let t = list p (more (atom q w) ts) in
      Walk t unplaced_stmt (FittedStmt t) (form_in k p ts) (form_in k 0 (all_without_places ts))
  form_part None p q w ts = at_fault 9 _
  form_part (Some word.NoOp) p q w none = found refl (record { fits = tt; nested = omega arith; size = omega arith })
  form_part (Some word.Signal) p q w (more c none) =
      in_order (signal p) (signal 0) (skip (atom q w) (name_part c ▸ done)) (λ n. refl)
      (λ n h. record { fits = h.fits; nested = omega arith; size = omega (arith, h.size) })
  form_part (Some word.Seq) p q w (more s ss) =
      in_order (new_seq p) (new_seq 0)
      (skip (atom q w) (rest (one_more {R = λ xs. FittedStmt (list p (more (atom q w) (more s ss))) (new_seq p xs)} (seq_fitted p q w s ss)
      (statement_part s) (statement_parts ss)))) (λ xs. ap (seq 0) (statements_unplaced xs)) (λ xs h. h)
  form_part (Some word.Loop) p q w (more s none) =
      in_order (loop p) (loop 0) (skip (atom q w) (statement_part s ▸ done)) (λ x. refl)
      (λ x h. record { fits = h.fits; nested = omega (arith, h.nested); size = omega (arith, h.size) })
  form_part (Some word.If) p q w (more b (more s (more t none))) =
      in_order (new_branch p) (new_branch 0) (skip (atom q w) (name_part b ▸ statement_part s ▸ statement_part t ▸ done)) (λ n x y. refl)
      (λ n hn x hx y hy. record {
        fits = (hn.fits, hx.fits, hy.fits);
        nested = omega (arith, hx.nested, hy.nested);
        size = omega (arith, hn.size, hx.size, hy.size);
      })
  form_part (Some word.Begin) p q w (more s (more cs (more t none))) =
      choice (is_empty_list cs) (is_empty_list (bare cs)) (same_empty cs) (λ empty. at_fault 10 _)
      (λ some. in_order (new_begin p) (new_begin 0) (skip (atom q w) (statement_part s ▸ names_part cs ▸ statement_part t ▸ done)) (λ x ns y. refl)
      (λ x hx ns hn y hy. let many = some_items cs some hn.deep in
      record {
        fits = (hx.fits, omega (arith, many, hn.count), hn.all, hy.fits);
        nested = omega (arith, hx.nested, hy.nested);
        size = omega (arith, hx.size, hn.size, hy.size);
      }))
  form_part (Some word.Call) p q w (more f (more xs (more cs none))) =
      in_order (new_call p (place_of xs) (place_of cs)) (new_call 0 (place_of (bare xs)) (place_of (bare cs)))
      (skip (atom q w) (name_part f ▸ names_part xs ▸ names_part cs ▸ done))
      (λ n ns ms. unplaced_place xs (λ q. new_call 0 q (place_of (bare cs)) (unplaced_name n) (map unplaced_name ns) (map unplaced_name ms))
      ∙ unplaced_place cs (λ q. new_call 0 0 q (unplaced_name n) (map unplaced_name ns) (map unplaced_name ms)))
      (λ n hn ns hx ms hy. record {
        fits = (hn.fits, hx.all, hy.all);
        nested = omega (arith, hx.deep);
        size = omega (arith, hn.size, hx.size, hy.size);
      })
  form_part (Some (word.Predef which)) p q w ts =
      in_order (new_predef p which) (new_predef 0 which) (skip (atom q w) (rest (each FitsArgument arg_tree arg_in arg_part ts))) (λ xs. refl)
      (λ xs h. record { fits = h.all; nested = omega arith; size = omega (arith, h.size) })
  form_part (Some k) p q w ts = at_fault 10 _

  statement_parts : (ts : Nodes) → Walks ts (map unplaced_stmt) (FittedStmts ts) (statements_in ts) (statements_in (all_without_places ts))
  statement_parts none = no_more (record { fits = tt; nested = omega arith; size = omega arith })
  statement_parts (more t ts) =
      one_more (λ x h xs k. record { fits = (h.fits, k.fits); nested = omega (arith, h.nested, k.nested); size = omega (arith, h.size, k.size) })
      (statement_part t) (statement_parts ts)

-- ---- procedures and sources

same_few : (a b c d : Node) → (are_few (bare a) (bare b) && are_few (bare c) (bare d)) ≡ (are_few a b && are_few c d)
same_few a b c d = rw (same_list_length a, same_list_length b, same_list_length c, same_list_length d) refl

few_items : (t u : Node) (n m : ℕ) → are_few t u ≡ true → n ≡ list_length t → m ≡ list_length u → n + m ≤ 200
few_items t u n m few e f = let le : list_length t + list_length u ≤ 200 = leb-true (list_length t + list_length u) 200 few in omega (arith, e, f)

below_last : (a b c d e f g n : ℕ) → suc (max a (max b (max c (max d (max e (max f (max g 0))))))) ≤ suc n → g ≤ n
below_last a b c d e f g n le =
    let one : max b (max c (max d (max e (max f (max g 0))))) ≤ n = omega (arith, le) in
    let two : max d (max e (max f (max g 0))) ≤ n = omega (arith, one) in
    omega (arith, two)

-- a procedure whose tree is not too deep fits
record FittedProc (t : Node) (p : ProcOf) : Type 0 where
  fits : depth t ≤ 199 → FitsProcedure p
  size : node_count (proc_tree p) ≤ node_count t

record FittedProcs (ts : Nodes) (ps : List ProcOf) : Type 0 where
  all : depths ts ≤ 199 → All FitsProcedure ps
  count : length ps ≡ count_of ts
  size : node_counts (nodes (map proc_tree ps)) ≤ node_counts ts

procedure_part : (t : Node) → Part procedure_in unplaced_proc FittedProc t
procedure_part (list p (more w (more name (more formals (more conds (more locals (more local_conds (more body none)))))))) =
    tested 2 (same_atom _ w)
    (passing 12 (same_few formals locals conds local_conds)
    (λ few. let both = and_parts (are_few formals locals) (are_few conds local_conds) few in
    in_order (new_proc p) (new_proc 0)
    (skip w (name_part name ▸ list_part 4 FitsDecl decl_tree decl_in decl_part formals ▸ names_part conds
    ▸ list_part 6 FitsLocal local_tree local_in local_part locals ▸ names_part local_conds ▸ statement_part body ▸ done)) (λ n fs cs ls ds b. refl)
    (λ n hn fs hf cs hc ls hl ds hd s hs. record {
      fits = λ low. let under = below_last (depth w) (depth name) (depth formals) (depth conds) (depth locals) (depth local_conds) (depth body) 198 low in
          record {
            name = hn.fits;
            formals = hf.all;
            conds = hc.all;
            locals = hl.all;
            local_conds = hd.all;
            body = hs.fits;
            few_variables = few_items formals locals (length fs) (length ls) both.0 hf.count hl.count;
            few_conds = few_items conds local_conds (length cs) (length ds) both.1 hc.count hd.count;
            shallow = omega (arith, hs.nested, under);
          };
      size = omega (arith, some_nodes w, hn.size, hf.size, hc.size, hl.size, hd.size, hs.size);
    })))
procedure_part t = at_fault 2 _

procedure_parts : (ts : Nodes) → Walks ts (map unplaced_proc) (FittedProcs ts) (each_of procedure_in ts) (each_of procedure_in (all_without_places ts))
procedure_parts none = no_more (record { all = λ low. All-nil FitsProcedure; count = refl; size = omega arith })
procedure_parts (more t ts) =
    one_more (λ x h xs k. record {
      all = λ low. All-cons FitsProcedure x xs (h.fits (omega (arith, low))) (k.all (omega (arith, low)));
      count = let n : length xs ≡ count_of ts = k.count in omega (arith, n);
      size = omega (arith, h.size, k.size);
    }) (procedure_part t) (procedure_parts ts)

pub record FittedSource (t : Node) (s : SourceOf) : Type 0 where
  pub fits : depth t ≤ 200 → FitsForm s
  pub size : node_count (tree_of s) ≤ node_count t

pub source_part : (t : Node) → Part source_in without_places FittedSource t
source_part (list p (more w (more main (more q qs)))) =
    tested 1 (same_atom _ w)
    (passing 12 (ap (λ (n : ℕ). nat_le n 1000) (same_count (more q qs)))
    (λ few. in_order (new_source p) (new_source 0) (skip w (name_part main ▸ rest (procedure_parts (more q qs)))) (λ n ps. refl)
    (λ n hn ps hp.
    let many : length ps ≡ 1 + count_of qs = hp.count in
    let le : 1 + count_of qs ≤ 1000 = leb-true (count_of (more q qs)) 1000 few in
    record {
      fits = λ low. let deep : suc (max (depth w) (max (depth main) (depths (more q qs)))) ≤ 200 = low in
          record { main = hn.fits; procs = hp.all (omega (arith, deep)); some_procs = omega (arith, many); few_procs = omega (arith, many, le) };
      size = omega (arith, some_nodes w, hn.size, hp.size);
    })))
source_part t = at_fault 1 _
