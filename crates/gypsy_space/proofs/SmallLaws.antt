-- No number of the needs of an accepted source is above 2^60, so what is counted is exact.
use Rattle.std.proofs.Common.{◌≡◌, ℕ, zero, suc, ◌+◌, ◌*◌, ◌^◌, ◌<◌, ◌≤◌, List, [], ◌∷◌, ◌++◌, length, map, get_or, Bool, true, false, refl, ap, ◌∙◌, subst}
use Rattle.std.{proofs.Common.arith, specs.Prelude.{if◌then◌else◌, ◌==◌}, proofs.lemmas.List.length-map}
use Rattle.stack_text.{specs.declared.name.Named.Named, specs.declared.shape.Shape.Shape, specs.Trees.{node_count, node_counts}, specs.Views.TreeView.nodes}
use Rattle.stack_text.{specs.Values.item_count, specs.Grammar.Printed.name_tree}
use Rattle.gypsy_syntax.{specs.GypsyReading.KeepsForm, specs.Printed.{arg_tree, literal_tree, proc_tree, stmt_tree, stmt_trees}, specs.ProgramFits.ProcFits}
use Rattle.gypsy_syntax.{specs.ProgramFits.ProgramFits, specs.Programs.{Program, Proc, no_proc, proc_at, shapes_of, words_of, Stmt, Skip, NoOp, Signal, Seq}}
use Rattle.gypsy_syntax.{specs.Programs.{Loop, If, Begin, Call, Apply}, specs.Resolved.{argument_of, cond_of, position_of, procedure_names, procedure_of}}
use Rattle.gypsy_syntax.{specs.Resolved.{program_of, statement_of, statement_of_all}, specs.Sources.{ArgOf, variable, constant, LiteralOf, integer, truth}}
use Rattle.gypsy_syntax.specs.Sources.{character, array, StmtOf, StmtsOf, no_op, signal, seq, loop, branch, begin, call, predef, no_parts, part, ProcOf}
use Rattle.gypsy_syntax.{specs.Sources.SourceOf, specs.declared.predef.Predef.Predef, proofs.FitsLaws.keeps_fits, proofs.PredefLaws.few_words}
use Rattle.gypsy_space.{specs.Needs.{arg_words, args_words, code_words, greatest, local_words, statement_words, vars_of}, specs.declared.need.Need.Need}
use Rattle.gypsy_space.{specs.Events.{AreNeeds, need_of}, specs.StatementNeeds.{AreCapped, capped, capped_need}}

-- ---- the words of variables

pub item_count-positive : (s : Shape) → 0 < item_count s
item_count-positive s = grind (arith)

pub words_of-append : (xs ys : List Shape) → words_of (xs ++ ys) ≡ words_of xs + words_of ys
words_of-append [] ys = omega arith
words_of-append (x ∷ xs) ys = let e : words_of (xs ++ ys) ≡ words_of xs + words_of ys = words_of-append xs ys in omega (arith, e)

pub length-words_of : (xs : List Shape) → length xs ≤ words_of xs
length-words_of [] = omega arith
length-words_of (x ∷ xs) = let le = length-words_of xs in let some_ = item_count-positive x in omega (arith, le, some_)

-- the greatest need of a statement is at most what each of its parts may have
pub greatest_within : (each : ℕ) (f : Predef → ℕ) (n : ℕ) → each ≤ n → ((r : Predef) → f r ≤ n) → (s : Stmt) → greatest each f s ≤ n
greatest_within each f n k h Skip = omega arith
greatest_within each f n k h (NoOp place) = omega arith
greatest_within each f n k h (Signal place c) = omega arith
greatest_within each f n k h (Seq a b) = omega (arith, greatest_within each f n k h a, greatest_within each f n k h b)
greatest_within each f n k h (Loop place s) = greatest_within each f n k h s
greatest_within each f n k h (If place b s w) = omega (arith, greatest_within each f n k h s, greatest_within each f n k h w)
greatest_within each f n k h (Begin place s cs w) = omega (arith, greatest_within each f n k h s, greatest_within each f n k h w)
greatest_within each f n k h (Call place p xs cs) = k
greatest_within each f n k h (Apply place r args) = h r

record AreFew (p : Proc) : Type 0 where
  words : local_words p ≤ 65536
  vars : vars_of p ≤ 65536

are_few : (q : Program) (p : Proc) → ProcFits q p → AreFew p
are_few q p fits =
    let all : words_of (shapes_of p) ≡ words_of p.formals + local_words p = words_of-append p.formals (map (λ v. v.shape) p.locals) in
    let formals = length-words_of p.formals in
    let locals : length (map (λ v. v.shape) p.locals) ≤ local_words p = length-words_of (map (λ v. v.shape) p.locals) in
    let count : length (map (λ v. v.shape) p.locals) ≡ length p.locals = length-map p.locals (λ v. v.shape) in
    record { words = omega (arith, all, fits.words); vars = omega (arith, all, fits.words, formals, locals, count) }

-- ---- the words of statements, by the atoms and lists of their text

name_count : (ns : List Named) → node_counts (nodes (map name_tree ns)) ≡ length ns
name_count [] = refl
name_count (n ∷ ns) = let e : node_counts (nodes (map name_tree ns)) ≡ length ns = name_count ns in omega (arith, e)

literal_count : (l : LiteralOf) → 0 < node_count (literal_tree l)
literal_count (integer p z) = omega arith
literal_count (truth p b) = by_truth b
  where
    by_truth : (c : Bool) → 0 < node_count (literal_tree (truth p c))
    by_truth true = omega arith
    by_truth false = omega arith
literal_count (character p z) = omega arith
literal_count (array p ls) = omega arith

arg_count : (p : ProcOf) (a : ArgOf) → arg_words (argument_of p a) ≤ 4 * node_count (arg_tree a)
arg_count p (variable n) = omega arith
arg_count p (constant l) = let some_ = literal_count l in omega (arith, some_)

args_count : (p : ProcOf) (as_ : List ArgOf) → args_words (map (argument_of p) as_) ≤ 4 * node_counts (nodes (map arg_tree as_))
args_count p [] = omega arith
args_count p (a ∷ as_) =
    let one = arg_count p a in
    let others = args_count p as_ in
    let n = node_count (arg_tree a) in
    let m = node_counts (nodes (map arg_tree as_)) in
    let product : 4 * (n + m) ≡ 4 * n + 4 * m = omega arith in
    omega (arith, one, others, product)

module _ (s : SourceOf) (p : ProcOf) (few : (i : ℕ) → AreFew (proc_at (program_of s) i)) where
  mutual
    statement_count : (st : StmtOf) → statement_words (program_of s) (statement_of s p st) ≤ 400000 * node_count (stmt_tree st)
    statement_count (no_op place) = omega arith
    statement_count (signal place c) = omega arith
    statement_count (seq place parts) = let all = parts_count parts in omega (arith, all)
    statement_count (loop place body) = let one = statement_count body in omega (arith, one)
    statement_count (branch place test a b) = let one = statement_count a in let two = statement_count b in omega (arith, one, two)
    statement_count (begin place body cs arm) = let one = statement_count body in let two = statement_count arm in omega (arith, one, two)
    statement_count (call place f xs_place xs cs_place cs) =
        let callee = few (position_of f.name (procedure_names s)) in
        let conds : length (map (cond_of p) cs) ≡ length cs = length-map cs (cond_of p) in
        let names : node_counts (nodes (map name_tree cs)) ≡ length cs = name_count cs in
        omega (arith, callee.words, callee.vars, conds, names)
    statement_count (predef place which args) =
        let all = args_count p args in
        let few_ = few_words which in
        omega (arith, all, few_)

    parts_count : (ss : StmtsOf) → statement_words (program_of s) (statement_of_all s p ss) ≤ 400000 * node_counts (stmt_trees ss)
    parts_count no_parts = omega arith
    parts_count (part st ss) = let one = statement_count st in let others = parts_count ss in omega (arith, one, others)

-- ---- procedures

body_small : (s : SourceOf) → ((i : ℕ) → AreFew (proc_at (program_of s) i)) → (ps : List ProcOf) (n : ℕ) → node_counts (nodes (map proc_tree ps)) ≤ n
    → (i : ℕ) →
    statement_words (program_of s) (get_or (map (procedure_of s) ps) i no_proc).body ≤ 400000 * n
body_small s few [] n le i = omega arith
body_small s few (p ∷ ps) n le zero =
    let words = statement_count s p few p.body in
    let inside : node_count (stmt_tree p.body) ≤ n = omega (arith, le) in
    omega (arith, words, inside)
body_small s few (p ∷ ps) n le (suc i) = body_small s few ps n (omega (arith, le)) i

each_few : (b : Bool) (v : ℕ) → (if b then 2 else 1) * v ≤ 2 * v
each_few true v = omega arith
each_few false v = omega arith

code_small : (s : SourceOf) → KeepsForm s → ((i : ℕ) → AreFew (proc_at (program_of s) i)) → (i : ℕ) → code_words (program_of s) i ≤ 2 ^ 50
unfolding code_words
code_small s form few i =
    let words = body_small s few s.procs (2 ^ 31) (omega (arith, form.well_formed.few)) i in
    let own = few i in
    let vars = each_few (i == (program_of s).main) (vars_of (proc_at (program_of s) i)) in
    omega (arith, words, own.vars, vars)

-- no procedure of an accepted source has more words of code
pub code_modest : (s : SourceOf) → KeepsForm s → ProgramFits (program_of s) → (i : ℕ) → code_words (program_of s) i ≤ 2 ^ 50
code_modest s form fits = code_small s form (λ j. are_few (program_of s) (proc_at (program_of s) j) (fits.procs j))

same_need : (n : Need) → n.locals_words ≤ 2 ^ 60 → n.vars ≤ 2 ^ 60 → n.code_words ≤ 2 ^ 60 → capped_need n ≡ n
same_need n l v w =
    let locals : capped n.locals_words ≡ n.locals_words = omega (arith, l) in
    let vars : capped n.vars ≡ n.vars = omega (arith, v) in
    let words : capped n.code_words ≡ n.code_words = omega (arith, w) in
    λ i. record n { locals_words = locals i; vars = vars i; code_words = words i }

need_exact : (s : SourceOf) → KeepsForm s → ProgramFits (program_of s) → (i : ℕ) → capped_need (need_of (program_of s) i) ≡ need_of (program_of s) i
need_exact s form fits i =
    let few = λ (j : ℕ). are_few (program_of s) (proc_at (program_of s) j) (fits.procs j) in
    let own = few i in
    same_need (need_of (program_of s) i) (omega (arith, own.words)) (omega (arith, own.vars)) (let code = code_small s form few i in omega (arith, code))

-- what is counted for an accepted source is what it needs
pub counted_needs : (s : SourceOf) → KeepsForm s → ProgramFits (program_of s) → (q : Program) → q ≡ program_of s → (ns : List Need) → AreCapped q ns
    → AreNeeds (program_of s) ns
counted_needs s form fits q is ns h =
    let k : AreCapped (program_of s) ns = subst (λ (r : Program). AreCapped r ns) is h in
    record { number = k.number; each = λ p lt. k.each p lt ∙ need_exact s form fits p }

pub few_procedures : {X : Type 0} (f : X → Proc) (xs : List X) (s : SourceOf) → KeepsForm s → map f xs ≡ map (procedure_of s) s.procs → length xs ≤ 2 ^ 32
few_procedures f xs s form e =
    let fits = keeps_fits s form in
    let same : length (map f xs) ≡ length (map (procedure_of s) s.procs) = ap (λ (ps : List Proc). length ps) e in
    omega (arith, same, length-map xs f, length-map s.procs (procedure_of s), fits.few_procs)
