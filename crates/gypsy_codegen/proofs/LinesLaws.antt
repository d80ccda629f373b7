-- The lines of a statement: its labels are its own and stand once, and with places for labels the lines are the code by places.
use Rattle.std.proofs.Common.{◌≢◌, ℕ, suc, ◌+◌, ◌<◌, ◌≤◌, List, [], ◌∷◌, ◌++◌, length, arith}
use Rattle.piton_check.specs.Instruction.{Instruction}
use Rattle.gypsy_syntax.specs.Programs.{ConditionOf, Program, proc_at, body_of, Stmt, Skip, NoOp, Signal, Seq, Loop, If, Begin, Call, Apply}
use Rattle.gypsy_space.specs.Needs.{local_words, call_need}
use Rattle.gypsy_codegen.{specs.Guard.guard_code, specs.Generated.{Scope, InLoop, InBegin}, specs.Written.{Line, Plain, Marked}, specs.Lines.{labels, unmarked}}
use Rattle.gypsy_codegen.{specs.Lines.{marked_raises, before_code, after_lines, apply_code, lines, lines_of}, proofs.LabelLaws.{Misses, Distinct, Ranged}}

-- ---- ranges of labels

ranged_both : (lo hi : ℕ) (a b : List Line) → Ranged lo hi a → Ranged lo hi b → Ranged lo hi (a ++ b)
ranged_both lo hi [] b x y = y
ranged_both lo hi (Plain i ∷ a) b x y = ranged_both lo hi a b x y
ranged_both lo hi (Marked m i ∷ a) b x y = (x.0, x.1, ranged_both lo hi a b x.2 y)

pub wider : (lo hi lo' hi' : ℕ) (a : List Line) → lo' ≤ lo → hi ≤ hi' → Ranged lo hi a → Ranged lo' hi' a
wider lo hi lo' hi' [] e f x = tt
wider lo hi lo' hi' (Plain i ∷ a) e f x = wider lo hi lo' hi' a e f x
wider lo hi lo' hi' (Marked m i ∷ a) e f x = (omega (arith, x.0, e), omega (arith, x.1, f), wider lo hi lo' hi' a e f x.2)

misses_out : (lo hi n : ℕ) (a : List Line) → ((i : ℕ) → lo ≤ i → i < hi → i ≢ n) → Ranged lo hi a → Misses n a
misses_out lo hi n [] h x = tt
misses_out lo hi n (Plain i ∷ a) h x = misses_out lo hi n a h x
misses_out lo hi n (Marked m i ∷ a) h x = (h m x.0 x.1, misses_out lo hi n a h x.2)

misses_both : (n : ℕ) (a b : List Line) → Misses n a → Misses n b → Misses n (a ++ b)
misses_both n [] b x y = y
misses_both n (Plain i ∷ a) b x y = misses_both n a b x y
misses_both n (Marked m i ∷ a) b x y = (x.0, misses_both n a b x.1 y)

distinct_both : (lo hi : ℕ) (a b : List Line) → Ranged lo hi a → ((m : ℕ) → lo ≤ m → m < hi → Misses m b) → Distinct a → Distinct b → Distinct (a ++ b)
distinct_both lo hi [] b r h x y = y
distinct_both lo hi (Plain i ∷ a) b r h x y = distinct_both lo hi a b r h x y
distinct_both lo hi (Marked m i ∷ a) b r h x y = (misses_both m a b x.0 (h m r.0 r.1), distinct_both lo hi a b r.2 h x.1 y)

pub ranged_plain : (lo hi : ℕ) (is : List Instruction) (b : List Line) → Ranged lo hi b → Ranged lo hi (unmarked is ++ b)
ranged_plain lo hi [] b r = r
ranged_plain lo hi (c ∷ is) b r = ranged_plain lo hi is b r

pub distinct_plain : (is : List Instruction) (b : List Line) → Distinct b → Distinct (unmarked is ++ b)
distinct_plain [] b r = r
distinct_plain (c ∷ is) b r = distinct_plain is b r

pub ranged_only : (lo hi : ℕ) (is : List Instruction) → Ranged lo hi (unmarked is)
ranged_only lo hi [] = tt
ranged_only lo hi (c ∷ is) = ranged_only lo hi is

pub distinct_only : (is : List Instruction) → Distinct (unmarked is)
distinct_only [] = tt
distinct_only (c ∷ is) = distinct_only is

module _ (q : Program) (p : ℕ) where
  raises_ranged : (env : List Scope) (l : ℕ) (cs : List ConditionOf) → Ranged l (l + length cs) (marked_raises q p env l cs)
  raises_ranged env l [] = tt
  raises_ranged env l (c ∷ cs) = (
    omega arith,
    omega arith,
    wider (l + 1) (l + 1 + length cs) l (l + suc (length cs)) (marked_raises q p env (l + 1) cs) (omega arith)
        (omega arith) (raises_ranged env (l + 1) cs),
  )

  raises_distinct : (env : List Scope) (l : ℕ) (cs : List ConditionOf) → Distinct (marked_raises q p env l cs)
  raises_distinct env l [] = tt
  raises_distinct env l (c ∷ cs) = (
    misses_out (l + 1) (l + 1 + length cs) l (marked_raises q p env (l + 1) cs) (λ i x y e. omega (arith, x, e)) (raises_ranged env (l + 1) cs),
    raises_distinct env (l + 1) cs,
  )

  after_ranged : (env : List Scope) (l n : ℕ) (cs : List ConditionOf) → Ranged l (l + (length cs + 3)) (after_lines q p env l n cs)
  after_ranged env l n cs =
      let rs = marked_raises q p env (l + 3) cs in (
        omega arith,
        omega arith,
        (
          omega arith,
          omega arith,
          ranged_both _ _ rs _ (wider (l + 3) (l + 3 + length cs) l (l + (length cs + 3)) rs (omega arith) (omega arith) (raises_ranged env (l + 3) cs))
              (omega arith, omega arith, tt),
        ),
      )

  after_distinct : (env : List Scope) (l n : ℕ) (cs : List ConditionOf) → Distinct (after_lines q p env l n cs)
  after_distinct env l n cs =
      let rs = marked_raises q p env (l + 3) cs in
      let rg = raises_ranged env (l + 3) cs in (
        (
          (λ e. omega (arith, e)),
          misses_both l rs _ (misses_out (l + 3) (l + 3 + length cs) l rs (λ i x y e. omega (arith, x, e)) rg)
              ((λ e. omega (arith, e)), tt),
        ),
        (
          misses_both (l + 2) rs _ (misses_out (l + 3) (l + 3 + length cs) (l + 2) rs (λ i x y e. omega (arith, x, e)) rg) ((λ e. omega (arith, e)), tt),
          distinct_both (l + 3) (l + 3 + length cs) rs _ rg (λ m x y. ((λ e. omega (arith, x, e)), tt)) (raises_distinct env (l + 3) cs) (tt, tt),
        ),
      )

  pub lines_ranged : (env : List Scope) (l : ℕ) (s : Stmt) → Ranged l (l + labels s) (lines q p env l s)
  lines_ranged env l Skip = tt
  lines_ranged env l (NoOp place) = tt
  lines_ranged env l (Signal place c) = tt
  lines_ranged env l (Seq a b) =
      let ta = lines q p env l a in
      let tb = lines q p env (l + labels a) b in
      ranged_both _ _ ta _ (wider l (l + labels a) _ _ ta (omega arith) (omega arith) (lines_ranged env l a))
      (wider (l + labels a) (l + labels a + labels b) _ _ tb (omega arith) (omega arith) (lines_ranged env (l + labels a) b))
  lines_ranged env l (Loop place s) =
      let e = InLoop (l + 1) ∷ env in
      let ts = lines q p e (l + 2) s in (
        omega arith,
        omega arith,
        ranged_both _ _ ts _ (wider (l + 2) (l + 2 + labels s) _ _ ts (omega arith) (omega arith) (lines_ranged e (l + 2) s))
            (omega arith, omega arith, tt),
      )
  lines_ranged env l (If place b s v) =
      let ts = lines q p env (l + 2) s in
      let tv = lines q p env (l + 2 + labels s) v in
      ranged_both _ _ ts _ (wider (l + 2) (l + 2 + labels s) _ _ ts (omega arith) (omega arith) (lines_ranged env (l + 2) s)) (
        omega arith,
        omega arith,
        ranged_both _ _ tv _
            (wider (l + 2 + labels s) (l + 2 + labels s + labels v) _ _ tv (omega arith) (omega arith) (lines_ranged env (l + 2 + labels s) v))
            (omega arith, omega arith, tt),
      )
  lines_ranged env l (Begin place s cs v) =
      let e = InBegin cs l ∷ env in
      let ts = lines q p e (l + 2) s in
      let tv = lines q p env (l + 2 + labels s) v in
      ranged_both _ _ ts _ (wider (l + 2) (l + 2 + labels s) _ _ ts (omega arith) (omega arith) (lines_ranged e (l + 2) s)) (
        omega arith,
        omega arith,
        ranged_both _ _ tv _
            (wider (l + 2 + labels s) (l + 2 + labels s + labels v) _ _ tv (omega arith) (omega arith) (lines_ranged env (l + 2 + labels s) v))
            (omega arith, omega arith, tt),
      )
  lines_ranged env l (Call place c xs cs) =
      let after = after_lines q p env l (local_words (proc_at q c)) cs in
      let behind = ranged_plain l (l + (length cs + 3)) (before_code q p c xs) after (after_ranged env l (local_words (proc_at q c)) cs) in
      ranged_plain l (l + (length cs + 3)) (guard_code (call_need q c) (l + 2)) (unmarked (before_code q p c xs) ++ after) behind
  lines_ranged env l (Apply place r args) = ranged_only l _ (apply_code q p env (Apply place r args))

  lines_misses : (env : List Scope) (l : ℕ) (s : Stmt) (n : ℕ) → ((i : ℕ) → l ≤ i → i < l + labels s → i ≢ n) → Misses n (lines q p env l s)
  lines_misses env l s n h = misses_out l (l + labels s) n (lines q p env l s) h (lines_ranged env l s)

  pub lines_distinct : (env : List Scope) (l : ℕ) (s : Stmt) → Distinct (lines q p env l s)
  lines_distinct env l Skip = tt
  lines_distinct env l (NoOp place) = tt
  lines_distinct env l (Signal place c) = tt
  lines_distinct env l (Seq a b) =
      distinct_both l (l + labels a) (lines q p env l a) _ (lines_ranged env l a)
      (λ m x y. lines_misses env (l + labels a) b m (λ i u v e. omega (arith, x, y, u, v, e)))
      (lines_distinct env l a) (lines_distinct env (l + labels a) b)
  lines_distinct env l (Loop place s) =
      let e = InLoop (l + 1) ∷ env in
      let ts = lines q p e (l + 2) s in
      let rg = lines_ranged e (l + 2) s in (
        misses_both l ts _ (lines_misses e (l + 2) s l (λ i u v f. omega (arith, u, v, f))) ((λ f. omega (arith, f)), tt),
        distinct_both (l + 2) (l + 2 + labels s) ts _ rg (λ m x y. ((λ f. omega (arith, x, y, f)), tt)) (lines_distinct e (l + 2) s) (tt, tt),
      )
  lines_distinct env l (If place b s v) =
      let ts = lines q p env (l + 2) s in
      let tv = lines q p env (l + 2 + labels s) v in
      distinct_both (l + 2) (l + 2 + labels s) ts _ (lines_ranged env (l + 2) s)
      (λ m x y. (
        (λ f. omega (arith, x, y, f)),
        misses_both m tv _ (lines_misses env (l + 2 + labels s) v m (λ i u w f. omega (arith, x, y, u, w, f)))
            ((λ f. omega (arith, x, y, f)), tt),
      ))
      (lines_distinct env (l + 2) s) (
        misses_both l tv _ (lines_misses env (l + 2 + labels s) v l (λ i u w f. omega (arith, u, w, f))) ((λ f. omega (arith, f)), tt),
        distinct_both (l + 2 + labels s) (l + 2 + labels s + labels v) tv _ (lines_ranged env (l + 2 + labels s) v)
            (λ m x y. ((λ f. omega (arith, x, y, f)), tt))
            (lines_distinct env (l + 2 + labels s) v) (tt, tt),
      )
  lines_distinct env l (Begin place s cs v) =
      let e = InBegin cs l ∷ env in
      let ts = lines q p e (l + 2) s in
      let tv = lines q p env (l + 2 + labels s) v in
      distinct_both (l + 2) (l + 2 + labels s) ts _ (lines_ranged e (l + 2) s)
      (λ m x y. (
        (λ f. omega (arith, x, y, f)),
        misses_both m tv _ (lines_misses env (l + 2 + labels s) v m (λ i u w f. omega (arith, x, y, u, w, f)))
            ((λ f. omega (arith, x, y, f)), tt),
      ))
      (lines_distinct e (l + 2) s) (
        misses_both l tv _ (lines_misses env (l + 2 + labels s) v l (λ i u w f. omega (arith, u, w, f))) ((λ f. omega (arith, f)), tt),
        distinct_both (l + 2 + labels s) (l + 2 + labels s + labels v) tv _ (lines_ranged env (l + 2 + labels s) v)
            (λ m x y. ((λ f. omega (arith, x, y, f)), tt))
            (lines_distinct env (l + 2 + labels s) v) (tt, tt),
      )
  lines_distinct env l (Call place c xs cs) =
      let after = after_lines q p env l (local_words (proc_at q c)) cs in
      let behind = distinct_plain (before_code q p c xs) after (after_distinct env l (local_words (proc_at q c)) cs) in
      distinct_plain (guard_code (call_need q c) (l + 2)) (unmarked (before_code q p c xs) ++ after) behind
  lines_distinct env l (Apply place r args) = distinct_only (apply_code q p env (Apply place r args))

  -- Q6 of a procedure
  pub procedure_distinct : Distinct (lines_of q p)
  procedure_distinct =
      let s = body_of q p in
      distinct_both 2 (2 + labels s) (lines q p [] 2 s) _ (lines_ranged [] 2 s) (λ m x y. ((λ f. omega (arith, x, y, f)), ((λ f. omega (arith, x, y, f)), tt)))
      (lines_distinct [] 2 s) (((λ f. omega (arith, f)), tt), (tt, tt))

  pub procedure_ranged : Ranged 0 (2 + labels (body_of q p)) (lines_of q p)
  procedure_ranged =
      let s = body_of q p in
      ranged_both _ _ (lines q p [] 2 s) _ (wider 2 (2 + labels s) 0 (2 + labels s) (lines q p [] 2 s) (omega arith) (omega arith)
      (lines_ranged [] 2 s)) (omega arith, omega arith, (omega arith, omega arith, tt))
