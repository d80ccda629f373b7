use Rattle.std.{proofs.Common.{◌≡◌, ℕ, ◌+◌, ◌<◌, List, map, length, drop, get_or, refl, ap, sym, ◌∙◌, true, false, arith}, proofs.lemmas.Bool.Decides.nat_tests}
use Rattle.std.{specs.Prelude.{Bool, ◌==◌, if◌then◌else◌}, proofs.lemmas.List.get_or_default}
use Rattle.stack_text.proofs.Loops.{drop-item}
use Rattle.gypsy_syntax.specs.Programs.{ConditionOf, Leave, Routine, Space, Declared}
use Rattle.gypsy_space.{specs.Nodes.seen_cond, specs.declared.program.Condition.Condition}
use Rattle.gypsy_space.specs.declared.program.Condition.TheVariants as condition
use Rattle.gypsy_semantics.specs.Calls.{has_cond, same_cond}
use Rattle.gypsy_codegen.specs.WordsOf.{number_of}
use Rattle.gypsy_codegen.proofs.handled.Handled.new.Goals as goal

same_number : (c d : ConditionOf) → same_cond c d ≡ (number_of c == number_of d)
same_number Leave Leave = refl
same_number Leave Routine = refl
same_number Leave Space = refl
same_number Leave (Declared j) = grind (arith, nat_tests)
same_number Routine Leave = refl
same_number Routine Routine = refl
same_number Routine Space = refl
same_number Routine (Declared j) = grind (arith, nat_tests)
same_number Space Leave = refl
same_number Space Routine = refl
same_number Space Space = refl
same_number Space (Declared j) = grind (arith, nat_tests)
same_number (Declared i) Leave = grind (arith, nat_tests)
same_number (Declared i) Routine = grind (arith, nat_tests)
same_number (Declared i) Space = grind (arith, nat_tests)
same_number (Declared i) (Declared j) = grind (arith, nat_tests)

turned : (same old rest : Bool) →
    (if (if same then true else old) then true else rest) ≡ (if old then true else (if same then true else rest))
turned true true rest = refl
turned true false rest = refl
turned false true rest = refl
turned false false rest = refl

-- one more condition is in the table, and one fewer is to come
more : (c : ConditionOf) (conds : List Condition) (k : ℕ) (d : Condition) (old new : Bool) → k < length conds → d ≡ get_or conds k d →
    new ≡ (if number_of c == number_of (seen_cond d) then true else old) →
    (if old then true else has_cond c (map seen_cond (drop k conds))) ≡ has_cond c (map seen_cond conds) →
    (if new then true else has_cond c (map seen_cond (drop (k + 1) conds))) ≡ has_cond c (map seen_cond conds)
more c conds k d old new lt is now so_far =
    let rest = has_cond c (map seen_cond (drop (k + 1) conds)) in
    ap (λ (b : Bool). if b then true else rest) now
    ∙ ap (λ (b : Bool). if (if b then true else old) then true else rest) (sym (same_number c (seen_cond d)))
    ∙ turned (same_cond c (seen_cond d)) old rest
    ∙ ap (λ (ds : List Condition). if old then true else has_cond c (map seen_cond ds)) (sym (drop-item conds k d lt is))
    ∙ so_far

pub loop-cond-preserved : goal.loop-cond-preserved
loop-cond-preserved g c =
    let conds : List Condition = c.args.conds.now in
    let k = c.loop-cond.cond-index in
    let lt = c.loop-cond-test.true in
    let d : Condition = get_or conds k condition.Leave in
    let marked = rw c.number_of.ensures.exact at c.in_ok-mark.ensures in
    λ e. more e conds k d _ _ lt (get_or_default conds k condition.Leave d lt) (marked (number_of e)) (c.loop-cond.invariant e)
