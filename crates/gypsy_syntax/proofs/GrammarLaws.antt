-- Trees by their items, as the grammar of sources takes them apart.
use Rattle.std.proofs.Common.{Bor, Vec, Global, Option, ◌≡◌, ◌≢◌, ◌<◌, ◌≤◌, ℕ, List, [], ◌∷◌, length, map, get_or, Ok, Some, refl, sym, ap, ◌∙◌, arith}
use Rattle.std.{proofs.Math.Dec.eqb, proofs.lemmas.Bool.{ne_eqb, le-leb, lt-leb}, specs.Prelude.{codes, false, nat_le, true}}
use Rattle.stack_text.{specs.Trees.{Nodes, list, none, more}, specs.Views.TreeView.{node_of, nodes_of}, specs.declared.tree.TextTree.{TextTree, Atom}}
use Rattle.stack_text.{proofs.TreeViewLaws.node_of-atom, specs.Grammar.Judged.{◌⊛◌, each_of, fault, front, judged}, specs.Grammar.Parts.count_of}
use Rattle.stack_text.{specs.Grammar.Reading.IsFirstFault, specs.declared.grammar.fault.FormFault.FormFault, proofs.PartLaws.first_of_value}
use Rattle.stack_text.proofs.TreeListLaws.{count_of_all, rest, rest_is_drop}
use Rattle.gypsy_syntax.{specs.declared.keyword.Keyword.Keyword, specs.Keywords.keyword_named, specs.declared.literal.Literal.Literal}
use Rattle.gypsy_syntax.{specs.declared.literal.Literal.TheVariants.List as MadeList, specs.declared.statement.Stmt.Stmt}
use Rattle.gypsy_syntax.{specs.declared.statement.Stmt.TheVariants.Seq as MadeSeq, specs.Grammar.{form_in, is_empty_list, is_word, literal_in, named_in}}
use Rattle.gypsy_syntax.{specs.Grammar.{procedure_in, simple_in, source_in, statement_in, statements_in}, specs.Made.{new_seq, new_source}}
use Rattle.gypsy_syntax.{specs.Views.SourceView.{literal_of, stmt_of}, proofs.ViewLaws.{list_is_new, seq_is_new}}
use Rattle.gypsy_syntax.specs.declared.keyword.Keyword.TheVariants as word

pub no_items : (place n : ℕ) (ts : List TextTree) → n ≡ length ts → eqb n 0 ≡ is_empty_list (list place (nodes_of ts))
no_items place n [] e = rw e refl
no_items place n (t ∷ ts) e = ne_eqb n 0 (λ k. omega (arith, k, e))

pub list_value : (place : ℕ) (ts : List TextTree) (ls : Vec Literal Global) → each_of simple_in (nodes_of ts) ≡ Ok (map literal_of ls.items)
    → literal_in (list place (nodes_of ts)) ≡ Ok (literal_of (MadeList place ls))
list_value place ts ls e = rw e (ap Ok (sym (list_is_new place ls)))

-- the parts of a sequence are judged one by one
pub statements_each : (ts : Nodes) → statements_in ts ≡ each_of statement_in ts
statements_each none = refl
statements_each (more t ts) = ap (λ r. Ok front ⊛ statement_in t ⊛ r) (statements_each ts)

pub some_parts : (place : ℕ) (ts : List TextTree) (ss : Vec Stmt Global) → length ts ≢ 0 → statements_in (nodes_of ts) ≡ Ok (map stmt_of ss.items)
    → form_in (Some word.Seq) place (nodes_of ts) ≡ Ok (stmt_of (MadeSeq place ss))
some_parts place [] ss ne e = absurd (ne refl)
some_parts place (t ∷ ts) ss ne e = rw e (ap Ok (sym (seq_is_new place ss)))

pub fault_in_parts : (R : Type 0) (e : FormFault) (place : ℕ) (ts : List TextTree) → length ts ≢ 0 → IsFirstFault R e (statements_in (nodes_of ts))
    → IsFirstFault R e (form_in (Some word.Seq) place (nodes_of ts))
fault_in_parts R e place [] ne h = absurd (ne refl)
fault_in_parts R e place (t ∷ ts) ne h = first_of_value R e (new_seq place) (Ok front ⊛ statement_in (node_of t) ⊛ statements_in (nodes_of ts)) h

-- a source by the word that it begins with, its main procedure's name, and what follows
pub source_by_parts : (place : ℕ) (ts : List TextTree) (w main : TextTree) → 3 ≤ length ts → w ≡ get_or ts 0 w → main ≡ get_or ts 1 main
    → source_in (list place (nodes_of ts)) ≡ judged place 1 (is_word (codes "program") (node_of w))
    (judged place 12 (nat_le (count_of (nodes_of (rest 2 ts))) 1000)
    (Ok (new_source place) ⊛ named_in (node_of main) ⊛ each_of procedure_in (nodes_of (rest 2 ts))))
source_by_parts place [] w main le w_is main_is = absurd (omega arith)
source_by_parts place (t ∷ []) w main le w_is main_is = absurd (omega arith)
source_by_parts place (t ∷ u ∷ []) w main le w_is main_is = absurd (omega arith)
source_by_parts place (t ∷ u ∷ v ∷ ts) w main le w_is main_is = rw (w_is, main_is, rest_is_drop 2 (t ∷ u ∷ v ∷ ts)) refl

pub short_source : (place : ℕ) (ts : List TextTree) → length ts < 3 → source_in (list place (nodes_of ts)) ≡ fault place 1
short_source place [] lt = refl
short_source place (t ∷ []) lt = refl
short_source place (t ∷ u ∷ []) lt = refl
short_source place (t ∷ u ∷ v ∷ ts) lt = absurd (omega arith)

pub statement_by_parts : (place : ℕ) (ts : List TextTree) (first : TextTree) (q : ℕ) (text : Bor (List ℕ)) (o : Option Keyword) → 1 ≤ length ts
    → first ≡ get_or ts 0 first → first ≡ Atom q text
    → keyword_named text.now ≡ o → statement_in (list place (nodes_of ts)) ≡ form_in o place (nodes_of (rest 1 ts))
statement_by_parts place [] first q text o le first_is is_atom e = absurd (omega arith)
statement_by_parts place (t ∷ ts) first q text o le first_is is_atom e =
    rw (sym first_is ∙ is_atom, node_of-atom q text, sym e, rest_is_drop 1 (Atom q text ∷ ts)) refl

-- a procedure's seven items
pub seven_parts : (ts : List TextTree) (a b c d e f g : TextTree) → length ts ≡ 7 → a ≡ get_or ts 0 a → b ≡ get_or ts 1 b → c ≡ get_or ts 2 c
    → d ≡ get_or ts 3 d → e ≡ get_or ts 4 e → f ≡ get_or ts 5 f
    → g ≡ get_or ts 6 g
    → nodes_of ts ≡ more (node_of a) (more (node_of b) (more (node_of c) (more (node_of d) (more (node_of e) (more (node_of f) (more (node_of g) none))))))
seven_parts [] a b c d e f g n a_is b_is c_is d_is e_is f_is g_is = absurd (omega (arith, n))
seven_parts (t0 ∷ []) a b c d e f g n a_is b_is c_is d_is e_is f_is g_is = absurd (omega (arith, n))
seven_parts (t0 ∷ t1 ∷ []) a b c d e f g n a_is b_is c_is d_is e_is f_is g_is = absurd (omega (arith, n))
seven_parts (t0 ∷ t1 ∷ t2 ∷ []) a b c d e f g n a_is b_is c_is d_is e_is f_is g_is = absurd (omega (arith, n))
seven_parts (t0 ∷ t1 ∷ t2 ∷ t3 ∷ []) a b c d e f g n a_is b_is c_is d_is e_is f_is g_is = absurd (omega (arith, n))
seven_parts (t0 ∷ t1 ∷ t2 ∷ t3 ∷ t4 ∷ []) a b c d e f g n a_is b_is c_is d_is e_is f_is g_is = absurd (omega (arith, n))
seven_parts (t0 ∷ t1 ∷ t2 ∷ t3 ∷ t4 ∷ t5 ∷ []) a b c d e f g n a_is b_is c_is d_is e_is f_is g_is = absurd (omega (arith, n))
seven_parts (t0 ∷ t1 ∷ t2 ∷ t3 ∷ t4 ∷ t5 ∷ t6 ∷ []) a b c d e f g n a_is b_is c_is d_is e_is f_is g_is = rw (a_is, b_is, c_is, d_is, e_is, f_is, g_is) refl
seven_parts (t0 ∷ t1 ∷ t2 ∷ t3 ∷ t4 ∷ t5 ∷ t6 ∷ t7 ∷ ts) a b c d e f g n a_is b_is c_is d_is e_is f_is g_is = absurd (omega (arith, n))

pub not_seven : (place : ℕ) (ts : List TextTree) → length ts ≢ 7 → procedure_in (list place (nodes_of ts)) ≡ fault place 2
not_seven place [] ne = refl
not_seven place (t0 ∷ []) ne = refl
not_seven place (t0 ∷ t1 ∷ []) ne = refl
not_seven place (t0 ∷ t1 ∷ t2 ∷ []) ne = refl
not_seven place (t0 ∷ t1 ∷ t2 ∷ t3 ∷ []) ne = refl
not_seven place (t0 ∷ t1 ∷ t2 ∷ t3 ∷ t4 ∷ []) ne = refl
not_seven place (t0 ∷ t1 ∷ t2 ∷ t3 ∷ t4 ∷ t5 ∷ []) ne = refl
not_seven place (t0 ∷ t1 ∷ t2 ∷ t3 ∷ t4 ∷ t5 ∷ t6 ∷ []) ne = absurd (ne refl)
not_seven place (t0 ∷ t1 ∷ t2 ∷ t3 ∷ t4 ∷ t5 ∷ t6 ∷ t7 ∷ ts) ne = refl

pub few_procedures : (ts : List TextTree) → length ts ≤ 1000 → nat_le (count_of (nodes_of ts)) 1000 ≡ true
few_procedures ts le = rw (count_of_all ts) (le-leb (length ts) 1000 le)

pub many_procedures : (ts : List TextTree) → 1000 < length ts → nat_le (count_of (nodes_of ts)) 1000 ≡ false
many_procedures ts lt = rw (count_of_all ts) (lt-leb (length ts) 1000 lt)
