-- The marks of a program, listed procedure by procedure.
use Rattle.std.proofs.Common.{◌≡◌, ℕ, suc, ◌+◌, ◌-◌, ◌<◌, ◌≤◌, ◌^◌, List, ◌++◌, length, flat_map, sym, ap, ◌∙◌, arith, append_assoc}
use Rattle.std.proofs.lemmas.List.{append-nil}
use Rattle.gypsy_syntax.{specs.Programs.{Program, proc_at, body_of, conds_of}, specs.ProgramFits.ProgramFits}
use Rattle.gypsy_space.{specs.Events.{AreNeeds, need_at}, specs.declared.need.Need.Need}
use Rattle.gypsy_codegen.{specs.declared.marking.MarkAt.MarkAt, specs.Acceptable.total_words, specs.Generated.{size, count_from}, specs.Marks.procedure_marks}
use Rattle.gypsy_codegen.{specs.Marks.marks_of, specs.Internal.Views.NamesAreThere, specs.WordsOf.words_of_values, proofs.CountLaws.code_few}
use Rattle.gypsy_codegen.{proofs.FineLaws.words_sized, proofs.WritableLaws.names_there}

-- one procedure more
pub marks_next : (q : Program) (old new : List MarkAt) (k : ℕ) → k < length q.procs → new ≡ old ++ procedure_marks q k →
    old ++ flat_map (procedure_marks q) (count_from k (length q.procs - k)) ≡ marks_of q →
    new ++ flat_map (procedure_marks q) (count_from (k + 1) (length q.procs - (k + 1))) ≡ marks_of q
marks_next q old new k lt now so_far =
    let left : length q.procs - k ≡ suc (length q.procs - (k + 1)) = omega (arith, lt) in
    let next : k + 1 ≡ suc k = omega arith in
    let rest = flat_map (procedure_marks q) (count_from (suc k) (length q.procs - (k + 1))) in
    ap (λ (ms : List MarkAt). ms ++ flat_map (procedure_marks q) (count_from (k + 1) (length q.procs - (k + 1)))) now
    ∙ ap (λ (i : ℕ). (old ++ procedure_marks q k) ++ flat_map (procedure_marks q) (count_from i (length q.procs - (k + 1)))) next
    ∙ append_assoc old (procedure_marks q k) rest
    ∙ ap (λ (n : ℕ). old ++ flat_map (procedure_marks q) (count_from k n)) (sym left)
    ∙ so_far

-- at the end
pub marks_end : (q : Program) (listed : List MarkAt) (k : ℕ) → length q.procs ≤ k
    → listed ++ flat_map (procedure_marks q) (count_from k (length q.procs - k)) ≡ marks_of q → listed ≡ marks_of q
marks_end q listed k le so_far =
    let none : length q.procs - k ≡ 0 = omega (arith, le) in
    sym (append-nil listed) ∙ ap (λ (n : ℕ). listed ++ flat_map (procedure_marks q) (count_from k n)) (sym none) ∙ so_far

-- what a procedure's names and its size need
pub names_of_body : (q : Program) → ProgramFits q → (p : ℕ) → NamesAreThere q p (body_of q p)
names_of_body q fits p = names_there q p (conds_of (proc_at q p)) _ (body_of q p) (fits.procs p).body

pub body_small : (q : Program) → ProgramFits q → total_words q ≤ 2 ^ 20 → (p : ℕ) → p < length q.procs → size q (body_of q p) ≤ 2 ^ 20
body_small q fits few p lt = let small = code_few q fits few p lt in omega (arith, small)

-- the words of a callee's locals
pub callee_words : (q : Program) (ns : List Need) (c : ℕ) → ProgramFits q → AreNeeds q ns → c < length q.procs
    → (need_at ns c).locals_words ≡ length (words_of_values (proc_at q c).locals)
callee_words q ns c fits needs lt = ap (λ (n : Need). n.locals_words) (needs.each c lt) ∙ sym (words_sized q fits c)
