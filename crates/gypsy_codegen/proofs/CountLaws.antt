-- How many lines and labels the code of a source has at most.
use Rattle.std.{proofs.Common.{◌≡◌, ℕ, zero, suc, ◌+◌, ◌*◌, ◌<◌, ◌≤◌, ◌^◌, List, [], ◌∷◌, length, Bool, true, false, ap, arith}, specs.Prelude.◌==◌}
use Rattle.std.specs.Prelude.{if◌then◌else◌}
use Rattle.gypsy_semantics.proofs.LendingLaws.{actuals_length}
use Rattle.stack_text.specs.declared.shape.Shape.{Shape}
use Rattle.gypsy_syntax.{specs.declared.predef.Predef.Predef, specs.Programs.{Arg, Var, Lit, Program, proc_at, body_of, shapes_of, Stmt, Skip, NoOp, Signal}}
use Rattle.gypsy_syntax.{specs.Programs.{Seq, Loop, If, Begin, Call, Apply}, specs.ProgramFits.{StmtFits, ProgramFits}, specs.Predefined.predef_words}
use Rattle.gypsy_syntax.specs.declared.predef.Predef.TheVariants as row
use Rattle.gypsy_space.specs.Needs.{vars_of, args_words, statement_words, code_words}
use Rattle.gypsy_predef.specs.Bodies.{lengths_of}
use Rattle.gypsy_codegen.{specs.Generated.{size, test_size, count_from}, specs.Lines.labels, proofs.FineLaws.words_sized, specs.Acceptable.code_words_of}
use Rattle.gypsy_codegen.specs.Acceptable.{total_words}

args_least : (args : List Arg) → length args ≤ args_words args
args_least [] = omega arith
args_least (Var b ∷ args) = let h = args_least args in omega (arith, h)
args_least (Lit v ∷ args) = let h = args_least args in omega (arith, h)

row_least : (r : Predef) → lengths_of r + test_size r ≤ predef_words r
row_least row.MgSimpleVariableAssignment = omega arith
row_least r = omega arith

-- an instruction takes a word at least
pub size_least : (q : Program) → ProgramFits q → (shapes : List Shape) (n : ℕ) (b : Bool) (s : Stmt) → StmtFits q shapes n b s → size q s ≤ statement_words q s
size_least q fits shapes n b Skip h = omega arith
size_least q fits shapes n b (NoOp place) h = omega arith
size_least q fits shapes n b (Signal place c) h = omega arith
size_least q fits shapes n b (Seq s v) h = let x = size_least q fits shapes n b s h.0 in let y = size_least q fits shapes n b v h.1 in omega (arith, x, y)
size_least q fits shapes n b (Loop place s) h = let x = size_least q fits shapes n true s h in omega (arith, x)
size_least q fits shapes n b (If place t s v) h =
    let x = size_least q fits shapes n b s h.1 in let y = size_least q fits shapes n b v h.2 in omega (arith, x, y)
size_least q fits shapes n b (Begin place s cs v) h =
    let x = size_least q fits shapes n b s h.1 in let y = size_least q fits shapes n b v h.2 in omega (arith, x, y)
size_least q fits shapes n b (Call place c xs cs) h = let x = actuals_length shapes (proc_at q c).formals xs h.actuals in omega (arith, x, words_sized q fits c)
size_least q fits shapes n b (Apply place r args) h = let x = args_least args in let y = row_least r in omega (arith, x, y)

-- a label stands before an instruction of its own
pub labels_least : (q : Program) (s : Stmt) → labels s ≤ size q s
labels_least q Skip = omega arith
labels_least q (NoOp place) = omega arith
labels_least q (Signal place c) = omega arith
labels_least q (Seq s v) = let x = labels_least q s in let y = labels_least q v in omega (arith, x, y)
labels_least q (Loop place s) = let x = labels_least q s in omega (arith, x)
labels_least q (If place t s v) = let x = labels_least q s in let y = labels_least q v in omega (arith, x, y)
labels_least q (Begin place s cs v) = let x = labels_least q s in let y = labels_least q v in omega (arith, x, y)
labels_least q (Call place c xs cs) = omega arith
labels_least q (Apply place r args) = omega arith

words_at : (q : Program) (from n k : ℕ) → k < n → code_words q (from + k) ≤ code_words_of q (count_from from n)
words_at q from zero k lt = absurd (omega (arith, lt))
words_at q from (suc n) zero lt = let same : code_words q (from + 0) ≡ code_words q from = ap (code_words q) (omega arith) in omega (arith, same)
words_at q from (suc n) (suc k) lt =
    let h = words_at q (suc from) n k (omega (arith, lt)) in
    let same : code_words q (from + suc k) ≡ code_words q (suc from + k) = ap (code_words q) (omega arith) in
    omega (arith, h, same)

more_words : (a w : ℕ) → w + 14 ≤ 14 + a + w
more_words a w = omega arith

body_words : (q : Program) (p : ℕ) → statement_words q (body_of q p) + 14 ≤ code_words q p
unfolding code_words
body_words q p = more_words ((if p == q.main then 2 else 1) * vars_of (proc_at q p)) (statement_words q (body_of q p))

-- the lines of a procedure, with its prelude, are no more than its words
pub code_least : (q : Program) → ProgramFits q → (p : ℕ) → size q (body_of q p) + 14 ≤ code_words q p
code_least q fits p =
    let words = body_words q p in
    let least = size_least q fits (shapes_of (proc_at q p)) _ false (body_of q p) (fits.procs p).body in
    omega (arith, words, least)

-- the lines of a procedure are few
pub code_few : (q : Program) → ProgramFits q → total_words q ≤ 2 ^ 20 → (p : ℕ) → p < length q.procs → size q (body_of q p) + 14 ≤ 2 ^ 20
code_few q fits few p lt =
    let h = words_at q 0 (length q.procs) p lt in
    let same : code_words q (0 + p) ≡ code_words q p = ap (code_words q) (omega arith) in
    let words = body_words q p in
    let least = size_least q fits (shapes_of (proc_at q p)) _ false (body_of q p) (fits.procs p).body in
    omega (arith, h, same, words, least, few)
