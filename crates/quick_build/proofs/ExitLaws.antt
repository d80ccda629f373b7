-- The exits of main: one for each condition that it may end with.
use Rattle.std.proofs.Common.{◌≡◌, ℕ, zero, suc, ◌+◌, ◌*◌, ◌<◌, Some, Bool, true, false, List, [], ◌∷◌, length, refl, ap, ◌∙◌, subst, arith}
use Rattle.std.{specs.Prelude.{if◌then◌else◌, nat_lt, slice_get}, proofs.lemmas.Bool.ltb-true}
use Rattle.fm_words.specs.declared.condition.Flags.{Flags}
use Rattle.fm_code.{specs.Execution.{Parts, CodeAt}, proofs.CodeLaws.{code_front, code_after}}
use Rattle.gypsy_syntax.specs.Programs.{ConditionOf, Leave, Routine, Space, Declared, Program, proc_at}
use Rattle.gypsy_semantics.specs.Calls.{is_passed_on, main_way}
use Rattle.gypsy_codegen.specs.WordsOf.{number_of}
use Rattle.quick_code.{specs.Moments.{now, Jumps}, proofs.PieceLaws.piece_rows, proofs.StandLaws.jumps_then}
use Rattle.quick_build.specs.QuickImage.{declared_numbers, exit_numbers, exit_code, exits_code, exit_of}

pub exits_length : (cc final : ℕ) (ns : List ℕ) → length (exits_code cc final ns) ≡ 6 * length ns
exits_length cc final [] = refl
exits_length cc final (n ∷ ns) = omega (arith, exits_length cc final ns)

declared_length : (from n : ℕ) → length (declared_numbers from n) ≡ n
declared_length from zero = refl
declared_length from (suc n) = ap suc (declared_length (suc from) n)

pub numbers_count : (conds : ℕ) → length (exit_numbers conds) ≡ 2 + conds
numbers_count conds = omega (arith, declared_length 4 conds)

declared_get : (from n i : ℕ) → i < n → slice_get (declared_numbers from n) i ≡ Some (from + i)
declared_get from zero i h = absurd (omega (arith, h))
declared_get from (suc n) zero h = let e : from ≡ from + 0 = omega arith in ap Some e
declared_get from (suc n) (suc i) h =
    let e : suc from + i ≡ from + suc i = omega arith in
    declared_get (suc from) n i (omega (arith, h)) ∙ ap Some e

-- the exit of a condition stores the number of what main ends with then
pub exit_number : (q : Program) (c : ConditionOf)
    → slice_get (exit_numbers (proc_at q q.main).conds) (exit_of (proc_at q q.main).conds c) ≡ Some (number_of (main_way q c))
unfolding main_way is_passed_on
exit_number q Leave = refl
exit_number q Routine = refl
exit_number q Space = refl
exit_number q (Declared i) = pick (nat_lt i (proc_at q q.main).conds) refl
  where
    conds : ℕ
    conds = (proc_at q q.main).conds

    pick : (t : Bool) → nat_lt i conds ≡ t
        → slice_get (exit_numbers conds) (if t then 2 + i else 0) ≡ Some (number_of (if t then Declared i else Routine))
    pick true h =
        let two : 2 + i ≡ suc (suc i) = omega arith in
        let four : 4 + i ≡ suc (suc (suc (suc i))) = omega arith in
        ap (slice_get (exit_numbers conds)) two ∙ declared_get 4 conds i (ltb-true i conds h) ∙ ap Some four
    pick false h = refl

-- one of the exits
pub exit_there : (P : Parts) (cell final pc : ℕ) (ns : List ℕ) (j n : ℕ) → slice_get ns j ≡ Some n → CodeAt P pc (exits_code cell final ns)
    → CodeAt P (pc + 6 * j) (exit_code cell final n)
exit_there P cell final pc [] j n h code = cc
exit_there P cell final pc (m ∷ ns) zero n h code =
    let same : m ≡ n = cc in
    let e : pc ≡ pc + 6 * 0 = omega arith in
    subst (λ a. CodeAt P a (exit_code cell final n)) e
    (subst (λ w. CodeAt P pc (exit_code cell final w)) same (code_front P pc (exit_code cell final m) (exits_code cell final ns) code))
exit_there P cell final pc (m ∷ ns) (suc j) n h code =
    let e : pc + 6 + 6 * j ≡ pc + 6 * suc j = omega arith in
    subst (λ a. CodeAt P a (exit_code cell final n)) e
    (exit_there P cell final (pc + 6) ns j n h (code_after P pc (exit_code cell final m) (exits_code cell final ns) code))

-- what an exit does
pub exit_jumps : (P : Parts) (table : ℕ → ℕ) (final n : ℕ) (x3 : ℕ) (fl : Flags) (vars : List ℕ)
    → Jumps P table (exit_code P.areas_at final n) 3 (now x3 fl vars (2 ∷ [])) final (now P.areas_at fl vars (n ∷ []))
exit_jumps P table final n x3 fl vars =
    jumps_then ((piece_rows P table (now x3 fl vars (2 ∷ []))).set_area P.areas_at 0 n (omega arith) (omega arith))
    ((piece_rows P table (now P.areas_at fl vars (n ∷ []))).jump final)
