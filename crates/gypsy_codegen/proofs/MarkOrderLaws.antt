-- The marks of a generated program ascend.
use Rattle.std.proofs.Common.{◌≡◌, ℕ, zero, suc, ◌+◌, ◌<◌, ◌≤◌, List, [], ◌∷◌, ◌++◌, ◌⊎◌, length, flat_map, refl, sym, ap, ◌∙◌, subst, inl, inr, ⊎_elim, arith}
use Rattle.std.proofs.Common.{length-append}
use Rattle.piton_check.specs.Instruction.{ProgramView}
use Rattle.piton_semantics.{specs.State.program_of, specs.Fits.IsPlace}
use Rattle.gypsy_syntax.{specs.Programs.{Program, proc_at, body_of, Stmt, Skip, NoOp, Signal, Seq, Loop, If, Begin, Call, Apply}, specs.ProgramFits.Each}
use Rattle.gypsy_space.specs.Needs.{StackSizes}
use Rattle.gypsy_codegen.{specs.declared.marking.MarkAt.MarkAt, specs.Generated.{size, gen, tail_code, count_from, generated_view}, specs.Marks.mark_at}
use Rattle.gypsy_codegen.specs.Marks.{statement_marks, tail_marks, procedure_marks, marks_of, IsBefore, Ascend, MarksAscend, IsMarkPlace, MarksArePlaces}
use Rattle.gypsy_codegen.{proofs.CopyLaws.each_both, proofs.StepLaws.program_is, proofs.StandLaws.size_gen}

-- marks of program p, each behind the one before, from a place on and below another
abbrev Climb : ℕ → ℕ → ℕ → List MarkAt → Type 0
Climb p low high [] = low ≤ high
Climb p low high (m ∷ ms) = (m.program ≡ p) × (low ≤ m.at) × Climb p (m.at + 1) high ms

climb_lower : (p low least high : ℕ) (ms : List MarkAt) → least ≤ low → Climb p low high ms → Climb p least high ms
climb_lower p low least high [] le h = omega (arith, le, h)
climb_lower p low least high (m ∷ ms) le h = (h.0, omega (arith, le, h.1), h.2)

climb_both : (p low middle high : ℕ) (xs ys : List MarkAt) → Climb p low middle xs → Climb p middle high ys → Climb p low high (xs ++ ys)
climb_both p low middle high [] ys h g = climb_lower p middle low high ys h g
climb_both p low middle high (m ∷ xs) ys h g = (h.0, h.1, climb_both p (m.at + 1) middle high xs ys h.2 g)

climb_higher : (p low high most : ℕ) (ms : List MarkAt) → high ≤ most → Climb p low high ms → Climb p low most ms
climb_higher p low high most [] le h = omega (arith, le, h)
climb_higher p low high most (m ∷ ms) le h = (h.0, h.1, climb_higher p (m.at + 1) high most ms le h.2)

module _ (q : Program) (p : ℕ) where
  -- a statement's marks stand in its code
  statement_climbs : (at : ℕ) (s : Stmt) → Climb p at (at + size q s) (statement_marks q p at s)
  statement_climbs at Skip = omega arith
  statement_climbs at (NoOp place) = (refl, omega arith, omega arith)
  statement_climbs at (Signal place c) = (refl, omega arith, omega arith)
  statement_climbs at (Seq a b) =
      let h = climb_both p at (at + size q a) (at + size q a + size q b) (statement_marks q p at a) (statement_marks q p (at + size q a) b)
      (statement_climbs at a) (statement_climbs (at + size q a) b) in
      climb_higher p at (at + size q a + size q b) (at + (size q a + size q b)) (statement_marks q p at a ++ statement_marks q p (at + size q a) b)
      (omega arith) h
  statement_climbs at (Loop place s) =
      let back : Climb p (at + 1 + size q s) (at + (size q s + 4)) (mark_at p (at + 1 + size q s) place ∷ []) = (refl, omega arith, omega arith) in (
        refl,
        omega arith,
        climb_both p (at + 1) (at + 1 + size q s) (at + (size q s + 4)) (statement_marks q p (at + 1) s)
            (mark_at p (at + 1 + size q s) place ∷ []) (statement_climbs (at + 1) s) back,
      )
  statement_climbs at (If place b s v) =
      let jump = at + 3 + size q s in
      let high = at + (size q s + size q v + 6) in
      let last : Climb p (jump + 2 + size q v) high (mark_at p (jump + 2 + size q v) place ∷ []) = (refl, omega arith, omega arith) in
      let second = climb_both p (jump + 2) (jump + 2 + size q v) high (statement_marks q p (jump + 2) v) (mark_at p (jump + 2 + size q v) place ∷ [])
      (statement_climbs (jump + 2) v) last in
      let rest : Climb p jump high (mark_at p jump place ∷ (statement_marks q p (jump + 2) v ++ mark_at p (jump + 2 + size q v) place ∷ [])) = (
        refl,
        omega arith,
        climb_lower p (jump + 2) (jump + 1) high (statement_marks q p (jump + 2) v ++ mark_at p (jump + 2 + size q v) place ∷ [])
            (omega arith) second,
      ) in
      let first = climb_both p (at + 3) jump high (statement_marks q p (at + 3) s)
      (mark_at p jump place ∷ (statement_marks q p (jump + 2) v ++ mark_at p (jump + 2 + size q v) place ∷ [])) (statement_climbs (at + 3) s) rest in
      (refl, omega arith, climb_lower p (at + 3) (at + 1) high _ (omega arith) first)
  statement_climbs at (Begin place s cs v) =
      let jump = at + size q s in
      let high = at + (size q s + size q v + 4) in
      let last : Climb p (jump + 3 + size q v) high (mark_at p (jump + 3 + size q v) place ∷ []) = (refl, omega arith, omega arith) in
      let second = climb_both p (jump + 3) (jump + 3 + size q v) high (statement_marks q p (jump + 3) v) (mark_at p (jump + 3 + size q v) place ∷ [])
      (statement_climbs (jump + 3) v) last in
      let rest : Climb p jump high (mark_at p jump place ∷ (statement_marks q p (jump + 3) v ++ mark_at p (jump + 3 + size q v) place ∷ [])) = (
        refl,
        omega arith,
        climb_lower p (jump + 3) (jump + 1) high (statement_marks q p (jump + 3) v ++ mark_at p (jump + 3 + size q v) place ∷ [])
            (omega arith) second,
      ) in
      climb_both p at jump high (statement_marks q p at s)
      (mark_at p jump place ∷ (statement_marks q p (jump + 3) v ++ mark_at p (jump + 3 + size q v) place ∷ [])) (statement_climbs at s) rest
  statement_climbs at (Call place c xs cs) = (refl, omega arith, omega arith)
  statement_climbs at (Apply place r args) = (refl, omega arith, omega arith)

  procedure_climbs : Climb p 0 (size q (body_of q p) + 4) (procedure_marks q p)
  procedure_climbs =
      let n = size q (body_of q p) in
      let ends : Climb p (0 + n) (n + 4) (tail_marks p n (proc_at q p).place) =
      (refl, omega arith, (refl, omega arith, (refl, omega arith, omega arith))) in
      climb_both p 0 (0 + n) (n + 4) (statement_marks q p 0 (body_of q p)) (tail_marks p n (proc_at q p).place) (statement_climbs 0 (body_of q p)) ends

-- each behind the one before, from a place of program p on
abbrev From : ℕ → ℕ → List MarkAt → Type 0
From p low [] = Unit {0}
From p low (m ∷ ms) = ((p < m.program) ⊎ ((p ≡ m.program) × (low ≤ m.at))) × From m.program (m.at + 1) ms

from_next : (p low : ℕ) (ms : List MarkAt) → From (suc p) 0 ms → From p low ms
from_next p low [] h = tt
from_next p low (m ∷ ms) h = (inl (⊎_elim (λ lt. omega (arith, lt)) (λ e. omega (arith, e.0)) h.0), h.1)

climb_from : (p low high : ℕ) (xs ys : List MarkAt) → Climb p low high xs → From (suc p) 0 ys → From p low (xs ++ ys)
climb_from p low high [] ys h g = from_next p low ys g
climb_from p low high (m ∷ xs) ys h g =
    let rest = climb_from p (m.at + 1) high xs ys h.2 g in
    (inr (sym h.0, h.1), subst (λ (i : ℕ). From i (m.at + 1) (xs ++ ys)) (sym h.0) rest)

programs_from : (q : Program) (k n : ℕ) → From k 0 (flat_map (procedure_marks q) (count_from k n))
programs_from q k zero = tt
programs_from q k (suc n) =
    climb_from k 0 (size q (body_of q k) + 4) (procedure_marks q k) (flat_map (procedure_marks q) (count_from (suc k) n)) (procedure_climbs q k)
    (programs_from q (suc k) n)

from_ascends : (p low : ℕ) (ms : List MarkAt) → From p low ms → Ascend ms
from_ascends p low [] h = tt
from_ascends p low (m ∷ []) h = tt
from_ascends p low (m ∷ n ∷ ms) h =
    let next : IsBefore m n = ⊎_elim (λ lt. inl lt) (λ e. inr (e.0, omega (arith, e.1))) h.1.0 in
    (next, from_ascends m.program (m.at + 1) (n ∷ ms) h.1)

pub marks_ascend : MarksAscend
marks_ascend q = from_ascends 0 0 (marks_of q) (programs_from q 0 (length q.procs))

-- ---- marks are places

climb_bound : (p low high : ℕ) (ms : List MarkAt) → Climb p low high ms → low ≤ high
climb_bound p low high [] h = h
climb_bound p low high (m ∷ ms) h = let rest = climb_bound p (m.at + 1) high ms h.2 in let here = h.1 in omega (arith, rest, here)

module _ (q : Program) (sizes : StackSizes) (base : ℕ) where
  code_number : (p : ℕ) → p < length q.procs → length (program_of (generated_view q sizes base) p).instructions ≡ size q (body_of q p) + 4
  code_number p lt =
      let n = size q (body_of q p) in
      let body = gen q p n [] 0 (body_of q p) in
      ap (λ (v : ProgramView). length v.instructions) (program_is q sizes base p lt)
      ∙ length-append body (tail_code n) ∙ ap (λ (k : ℕ). k + 4) (size_gen q p n [] 0 (body_of q p))

  climb_places : (p low high : ℕ) (ms : List MarkAt) → p < length q.procs → high ≤ length (program_of (generated_view q sizes base) p).instructions
      → Climb p low high ms → Each (IsMarkPlace q sizes base) ms
  climb_places p low high [] lt le h = tt
  climb_places p low high (m ∷ ms) lt le h =
      let bound = climb_bound p (m.at + 1) high ms h.2 in
      let here : IsPlace (generated_view q sizes base) p m.at = omega (arith, bound, le) in
      ((omega (arith, lt, h.0), subst (λ (i : ℕ). IsPlace (generated_view q sizes base) i m.at) (sym h.0) here), climb_places p (m.at + 1) high ms lt le h.2)

  programs_places : (k n : ℕ) → k + n ≤ length q.procs → Each (IsMarkPlace q sizes base) (flat_map (procedure_marks q) (count_from k n))
  programs_places k zero le = tt
  programs_places k (suc n) le =
      let lt : k < length q.procs = omega (arith, le) in
      let fits : size q (body_of q k) + 4 ≤ length (program_of (generated_view q sizes base) k).instructions = omega (arith, code_number k lt) in
      each_both (IsMarkPlace q sizes base) (procedure_marks q k) (flat_map (procedure_marks q) (count_from (suc k) n))
      (climb_places k 0 (size q (body_of q k) + 4) (procedure_marks q k) lt fits (procedure_climbs q k)) (programs_places (suc k) n (omega (arith, le)))

pub marks_are_places : MarksArePlaces
marks_are_places q sizes base = programs_places q sizes base 0 (length q.procs) (omega arith)
