-- What is computed is the least certificate, or the first recursive procedure.
use Rattle.std.proofs.Common.{◌≡◌, ℕ, zero, suc, ◌+◌, ◌<◌, ◌≤◌, Bool, true, false, ◌==◌, if◌then◌else◌, List, [], ◌∷◌, length, get_or, Option, Some, None}
use Rattle.std.{proofs.Common.{Result, Ok, Err, IfErr, inl, inr, refl, sym, ap, ◌∙◌, subst, arith}, proofs.lemmas.Bool.{cases_eq, cases_lt, eqb-true, eq-eqb}}
use Rattle.std.{proofs.lemmas.Bool.{or_cases, or_left, or_right, and_from, and_parts, false_from_ne_true}, proofs.lemmas.List.Elements.{All-nil, All-cons}}
use Rattle.std.{proofs.lemmas.List.Elements.All-contains, specs.List.{All, Contains}, specs.Option.{IsSome, IsSomeAnd, option_map, unwrap_or}}
use Rattle.std.specs.Result.{MatchResult}
use Rattle.gypsy_syntax.{specs.Programs.{Program, proc_at}, specs.ProgramFits.ProgramFits}
use Rattle.gypsy_space.specs.Needs.{StackSizes, stack_sizes}
use Rattle.space_cert.{specs.declared.certificate.Certificate.Certificate, specs.declared.certifying.CertFault.CertFault}
use Rattle.space_cert.{specs.declared.certifying.CertFault.TheVariants.{Recursive, Memory}, specs.Covers.{Bounds, as_words, bound_at, IsAtMost, own_need}}
use Rattle.space_cert.{specs.Covers.{call_bound, CoversCall, CoversRun, IsCertificate}, specs.Reaches.{Directly, Further, calls_of, IsReached, IsRecursive}}
use Rattle.space_cert.{specs.Least.{AreLeastBounds, IsFirstRecursive, IsCertFaultUnless, IsThere}, specs.Order.{greatest_call, run_bound}}
use Rattle.space_cert.specs.Certified.{reaches, is_reached, is_recursive, first_from, greatest_taken, run_within, least_bound, bounds_from, unless_recursive}
use Rattle.space_cert.{specs.Certified.{certified, recursive_of, GivesCertifiedUnless}, proofs.ContainsLaws.{contains_first, contains_later}}
use Rattle.space_cert.{proofs.ReachLaws.{reached_by, computed_reached, reached_below, reached_computed}, proofs.LeastLaws.{greater_least, more_taken}}
use Rattle.space_cert.{proofs.LeastLaws.{some_same, calls_rise, calls_within, covered_by, reached_known, never_recursive}, proofs.CertifyLaws.calls_below}
use Rattle.stack_text.specs.Gives as common

-- 1. The first that passes a test.

record FirstFrom (test : ℕ → Bool) (k r : ℕ) : Type 0 where
  passes : test r ≡ true
  earlier : (s : ℕ) → k ≤ s → s < r → test s ≡ false

first_found : (test : ℕ → Bool) (n k r : ℕ) → first_from test n k ≡ Some r → FirstFrom test k r
unfolding first_from
first_found test zero k r h = absurd cc
first_found test (suc n) k r h = by_test (test k) refl h (first_found test n (k + 1) r)
  where
    later : (s : ℕ) → test k ≡ false → FirstFrom test (k + 1) r → k ≤ s → s < r → test s ≡ false
    later s none first le lt = elim (cases_eq k s) [ inl e ↦ subst (λ x. test x ≡ false) e none | inr d ↦ first.earlier s (omega arith) lt ]

    by_test : (t : Bool) → test k ≡ t → (if t then Some k else first_from test n (k + 1)) ≡ Some r
        → (first_from test n (k + 1) ≡ Some r → FirstFrom test (k + 1) r) → FirstFrom test k r
    by_test true is h rest =
        let same : k ≡ r = ap (λ o. unwrap_or o k) h in
        record { passes = subst (λ x. test x ≡ true) same is; earlier = λ s le lt. absurd (omega arith) }
    by_test false is h rest = let first = rest h in record { passes = first.passes; earlier = λ s le lt. later s is first le lt }

none_found : (test : ℕ → Bool) (n k : ℕ) → first_from test n k ≡ None → (s : ℕ) → k ≤ s → s < k + n → test s ≡ false
unfolding first_from
none_found test zero k h s le lt = absurd (omega (arith, le, lt))
none_found test (suc n) k h s le lt = by_test (test k) refl h (none_found test n (k + 1))
  where
    by_test : (t : Bool) → test k ≡ t → (if t then Some k else first_from test n (k + 1)) ≡ None
        → (first_from test n (k + 1) ≡ None → (s : ℕ) → k + 1 ≤ s → s < k + 1 + n → test s ≡ false) → test s ≡ false
    by_test true is h rest = absurd cc
    by_test false is h rest = elim (cases_eq k s) [ inl e ↦ subst (λ x. test x ≡ false) e is | inr d ↦ rest h s (omega arith) (omega arith) ]

not_both : true ≡ false → ⊥
not_both k = cc

-- 2. How many numbers below a bound pass a test.

abbrev one_if : Bool → ℕ
one_if true = 1
one_if false = 0

unfoldable count : (ℕ → Bool) → ℕ → ℕ
count test zero = 0
count test (suc n) = one_if (test n) + count test n

one_more : (a b : Bool) → (a ≡ true → b ≡ true) → one_if a ≤ one_if b
one_more false true h = omega arith
one_more false false h = omega arith
one_more true true h = omega arith
one_more true false h = absurd (let e : false ≡ true = h refl in cc)

all_count : (n : ℕ) → count (λ _. true) n ≤ n
unfolding count
all_count zero = omega arith
all_count (suc n) = omega (arith, all_count n)

count_more : (test other : ℕ → Bool) → ((s : ℕ) → test s ≡ true → other s ≡ true) → (n : ℕ) → count test n ≤ count other n
unfolding count
count_more test other h zero = omega arith
count_more test other h (suc n) = omega (arith, one_more (test n) (other n) (h n), count_more test other h n)

count_grows : (test other : ℕ → Bool) → ((s : ℕ) → test s ≡ true → other s ≡ true) → (r : ℕ) → test r ≡ false → other r ≡ true → (n : ℕ) → r < n
    → count test n < count other n
unfolding count
count_grows test other h r fails holds zero lt = absurd (omega arith)
count_grows test other h r fails holds (suc n) lt =
    elim (cases_eq r n) [
      | inl e ↦
          let none : one_if (test n) ≡ 0 = ap one_if (ap test (sym e) ∙ fails) in
          let one : one_if (other n) ≡ 1 = ap one_if (ap other (sym e) ∙ holds) in
          omega (arith, none, one, count_more test other h n)
      | inr d ↦ omega (arith, one_more (test n) (other n) (h n), count_grows test other h r fails holds n (omega (arith, lt, d)))
    ]

module _ (q : Program) where
  -- 3. The greatest of what calls take.

  greatest_equal : (f g : ℕ → StackSizes) (ps : List ℕ) (w : StackSizes) → ((r : ℕ) → Contains ps r → f r ≡ g r)
      → greatest_taken q f ps w ≡ greatest_taken q g ps w
  unfolding greatest_taken
  greatest_equal f g [] w h = refl
  greatest_equal f g (p ∷ ps) w h = cc (h p (contains_first p ps), greatest_equal f g ps _ (λ r k. h r (contains_later p ps r k)))

  greatest_same : (taken : ℕ → StackSizes) (bs : Bounds) (ps : List ℕ) (w : StackSizes)
      → ((r : ℕ) → Contains ps r → taken r ≡ unwrap_or (bound_at bs r) (stack_sizes 0 0)) → greatest_taken q taken ps w ≡ greatest_call q bs ps w
  unfolding greatest_taken
  greatest_same taken bs [] w h = refl
  greatest_same taken bs (p ∷ ps) w h = cc (h p (contains_first p ps), greatest_same taken bs ps _ (λ r k. h r (contains_later p ps r k)))

  pub greatest_least : (taken : ℕ → StackSizes) (ps : List ℕ) (w v : StackSizes) → IsAtMost w v
      → ((r : ℕ) → Contains ps r → IsAtMost (call_bound q r (taken r)) v) → IsAtMost (greatest_taken q taken ps w) v
  unfolding greatest_taken
  greatest_least taken [] w v h each = h
  greatest_least taken (p ∷ ps) w v h each = greatest_least taken ps _ v (greater_least h (each p (contains_first p ps)))
      (λ r k. each r (contains_later p ps r k))

  -- no certificate has less, however deep calls are followed
  run_least : (ds : Bounds) → IsCertificate q ds → (depth p : ℕ) (d : StackSizes) → bound_at ds p ≡ Some d → IsAtMost (run_within q depth p) d
  unfolding run_within
  run_least ds cert zero p d is = record { temp = omega arith; ctrl = omega arith }
  run_least ds cert (suc depth) p d is =
      let run = cert.each p d is in
      greatest_least (run_within q depth) (calls_of q p) (own_need (proc_at q p)) d run.own
      (λ r k. callee r (bound_at ds r) refl (All-contains (CoversCall q ds d) (calls_of q p) r run.calls k) (run_least ds cert depth r))
    where
      callee : (r : ℕ) (o : Option StackSizes) → bound_at ds r ≡ o → IsSomeAnd o (λ e. IsAtMost (call_bound q r e) d)
          → ((e : StackSizes) → bound_at ds r ≡ Some e → IsAtMost (run_within q depth r) e) → IsAtMost (call_bound q r (run_within q depth r)) d
      callee r None i h least = absurd h
      callee r (Some e) i h least =
          let less = more_taken q r (least e i) in record { temp = omega (arith, less.temp, h.temp); ctrl = omega (arith, less.ctrl, h.ctrl) }

  -- 4. What is reached is computed.

  module _ (fits : ProgramFits q) where
    reached_true : (p : ℕ) → IsReached q p → is_reached q p ≡ true
    reached_true p (inl e) = or_left (q.main == p) (reaches q q.main p) (eq-eqb q.main p e)
    reached_true p (inr h) = or_right (q.main == p) (reaches q q.main p) (reached_computed (calls_of q) (length q.procs) (calls_below q fits) q.main p h)

    true_reached : (p : ℕ) → is_reached q p ≡ true → IsReached q p
    true_reached p h =
        elim (or_cases (q.main == p) (reaches q q.main p) h) [
          | inl e ↦ inl (eqb-true q.main p e)
          | inr k ↦ inr (computed_reached (calls_of q) (length q.procs) q.main p k)
        ]

    true_recursive : (p : ℕ) → is_recursive q p ≡ true → IsRecursive q p
    true_recursive p h =
        let both = and_parts (is_reached q p) (reaches q p p) h in
        record { reached = true_reached p both.0; again = computed_reached (calls_of q) (length q.procs) p p both.1 }

    recursive_true : (p : ℕ) → IsRecursive q p → is_recursive q p ≡ true
    recursive_true p h = and_from (is_reached q p) (reaches q p p) (reached_true p h.reached)
        (reached_computed (calls_of q) (length q.procs) (calls_below q fits) p p h.again)

    recursive_below : (p : ℕ) → IsRecursive q p → p < length q.procs
    recursive_below p h = reached_below (calls_of q) (length q.procs) (calls_below q fits) p p h.again

    reached_there : (p : ℕ) → IsReached q p → p < length q.procs
    reached_there p (inl e) = subst (λ x. x < length q.procs) e fits.main
    reached_there p (inr h) = reached_below (calls_of q) (length q.procs) (calls_below q fits) q.main p h

    reached_callee : (p r : ℕ) → IsReached q p → Contains (calls_of q p) r → IsReached q r
    reached_callee p r (inl e) k = inr (Directly (subst (λ x. Contains (calls_of q x) r) (sym e) k))
    reached_callee p r (inr h) k = inr (Further h k)

    -- 5. Without a recursion a procedure reaches more procedures than one that it calls.

    module _ (none : (p : ℕ) → IsRecursive q p → ⊥) where
      abbrev rank : ℕ → ℕ
      rank p = count (reaches q p) (length q.procs)

      not_again : (p : ℕ) → IsReached q p → reaches q p p ≡ false
      not_again p h = false_from_ne_true (reaches q p p) (λ t. none p (record { reached = h; again = computed_reached (calls_of q) (length q.procs) p p t }))

      rank_falls : (p r : ℕ) → IsReached q p → Contains (calls_of q p) r → rank r < rank p
      rank_falls p r h k =
          count_grows (reaches q r) (reaches q p)
          (λ s t. reached_computed (calls_of q) (length q.procs) (calls_below q fits) p s
          (reached_by (calls_of q) p r s (Directly k) (computed_reached (calls_of q) (length q.procs) r s t)))
          r (not_again r (reached_callee p r h k)) (reached_computed (calls_of q) (length q.procs) (calls_below q fits) p r (Directly k))
          (length q.procs) (reached_there r (reached_callee p r h k))

      rank_few : (p : ℕ) → IsReached q p → rank p < length q.procs
      rank_few p h =
          let grows = count_grows (reaches q p) (λ _. true) (λ s t. refl) p (not_again p h) refl (length q.procs) (reached_there p h) in
          omega (arith, grows, all_count (length q.procs))

      -- so calls need not be followed further
      deep_enough : (k j p : ℕ) → IsReached q p → rank p < k → rank p < j → run_within q k p ≡ run_within q j p
      unfolding run_within
      deep_enough zero j p h lt lt' = absurd (omega arith)
      deep_enough (suc k) zero p h lt lt' = absurd (omega arith)
      deep_enough (suc k) (suc j) p h lt lt' =
          greatest_equal (run_within q k) (run_within q j) (calls_of q p) (own_need (proc_at q p))
          (λ r c. let falls = rank_falls p r h c in deep_enough k j r (reached_callee p r h c) (omega (arith, lt, falls)) (omega (arith, lt', falls)))

      -- 6. The computed bounds.

      abbrev computed : Bounds
      computed = bounds_from q (length q.procs) 0

      many : (n k : ℕ) → length (bounds_from q n k) ≡ n
      unfolding bounds_from
      many zero k = refl
      many (suc n) k = let rest = many n (k + 1) in omega (arith, rest)

      bounds_at : (n k i : ℕ) → i < n → get_or (bounds_from q n k) i None ≡ least_bound q (k + i)
      unfolding bounds_from
      bounds_at zero k i lt = absurd (omega arith)
      bounds_at (suc n) k zero lt = let same : k ≡ k + 0 = omega arith in ap (least_bound q) same
      bounds_at (suc n) k (suc i) lt = let same : k + 1 + i ≡ k + suc i = omega arith in bounds_at n (k + 1) i (omega (arith, lt)) ∙ ap (least_bound q) same

      bounds_past : (n k i : ℕ) → n ≤ i → get_or (bounds_from q n k) i None ≡ None
      unfolding bounds_from
      bounds_past zero k i le = refl
      bounds_past (suc n) k zero le = absurd (omega arith)
      bounds_past (suc n) k (suc i) le = bounds_past n (k + 1) i (omega (arith, le))

      abbrev run_of : ℕ → StackSizes
      run_of p = run_within q (length q.procs) p

      abbrev bound_by : Bool → StackSizes → Option (ℕ × ℕ)
      bound_by t run = if t then Some (run.temp, run.ctrl) else None

      known : (p : ℕ) → IsReached q p → bound_at computed p ≡ Some (run_of p)
      known p h =
          let zero_plus : 0 + p ≡ p = omega arith in
          ap (option_map as_words) (bounds_at (length q.procs) 0 p (reached_there p h) ∙ ap (least_bound q) zero_plus
          ∙ ap (λ t. bound_by t (run_within q (length q.procs) p)) (reached_true p h))

      is_known : (p : ℕ) (b : StackSizes) → bound_at computed p ≡ Some b → IsReached q p
      is_known p b e =
          elim (cases_lt p (length q.procs)) [
            | inr le ↦ absurd (none_some (sym (ap (option_map as_words) (bounds_past (length q.procs) 0 p le)) ∙ e))
            | inl lt ↦
                let zero_plus : 0 + p ≡ p = omega arith in
                let bound = ap (option_map as_words) (sym (bounds_at (length q.procs) 0 p lt ∙ ap (least_bound q) zero_plus)) ∙ e in
                by_test (is_reached q p) refl bound
          ]
        where
          none_some : None ≡ Some b → ⊥
          none_some e = cc

          by_test : (t : Bool) → is_reached q p ≡ t → option_map as_words (bound_by t (run_within q (length q.procs) p)) ≡ Some b → IsReached q p
          by_test true is e = true_reached p is
          by_test false is e = absurd (none_some e)

      -- they are what callees' bounds make them
      run_is : (depth p : ℕ) → IsReached q p → rank p < depth → run_within q depth p ≡ run_bound q computed p
      unfolding run_within
      run_is zero p h lt = absurd (omega arith)
      run_is (suc depth) p h lt =
          greatest_same (run_within q depth) computed (calls_of q p) (own_need (proc_at q p))
          (λ r c.
          let falls = rank_falls p r h c in
          let there = reached_callee p r h c in
          deep_enough depth (length q.procs) r there (omega (arith, lt, falls)) (rank_few r there)
          ∙ ap (λ o. unwrap_or o (stack_sizes 0 0)) (sym (known r there)))

      all_known : (ps : List ℕ) → ((r : ℕ) → Contains ps r → IsReached q r) → All (λ r. IsSome (bound_at computed r)) ps
      all_known [] h = All-nil (λ r. IsSome (bound_at computed r))
      all_known (p ∷ ps) h = All-cons (λ r. IsSome (bound_at computed r)) p ps (subst IsSome (sym (known p (h p (contains_first p ps)))) refl)
          (all_known ps (λ r k. h r (contains_later p ps r k)))

      computed_certificate : IsCertificate q computed
      computed_certificate = record {
        number = many (length q.procs) 0;
        main = subst IsSome (sym (known q.main (inl refl))) refl;
        each = λ p b e.
            let h = is_known p b e in
            let is : run_bound q computed p ≡ b = sym (run_is (length q.procs) p h (rank_few p h)) ∙ some_same (sym (known p h) ∙ e) in
            let calls = calls_of q p in
            let own = own_need (proc_at q p) in
            subst (λ w. CoversRun q computed p w) is (record {
              own = calls_rise q computed calls own;
              calls = covered_by q computed calls (run_bound q computed p) (all_known calls (λ r c. reached_callee p r h c))
                  (calls_within q computed calls own);
            });
      }

      computed_least : AreLeastBounds q computed
      computed_least = record {
        certificate = computed_certificate;
        reached = λ p h. subst IsSome (sym (known p h)) refl;
        others = λ p n. by_bound p n (bound_at computed p) refl;
        least = λ ds cert p b e.
            let h = is_known p b e in
            let is : run_of p ≡ b = some_same (sym (known p h) ∙ e) in
            by_other ds cert p (bound_at ds p) refl (reached_known q ds cert p h) b is;
      }
        where
          by_bound : (p : ℕ) → ¬ IsReached q p → (o : Option StackSizes) → bound_at computed p ≡ o → o ≡ None
          by_bound p n None e = refl
          by_bound p n (Some b) e = absurd (n (is_known p b e))

          by_other : (ds : Bounds) → IsCertificate q ds → (p : ℕ) (o : Option StackSizes) → bound_at ds p ≡ o → IsSome o → (b : StackSizes)
              → run_of p ≡ b → IsSomeAnd o (IsAtMost b)
          by_other ds cert p None e k b is = cc
          by_other ds cert p (Some d) e k b is = subst (λ w. IsAtMost w d) is (run_least ds cert (length q.procs) p d e)

    -- 7. The answers.

    pub certified_is : MatchResult (certified q) (AreLeastBounds q) (IsFirstRecursive q)
    unfolding certified
    certified_is = by_first (first_from (is_recursive q) (length q.procs) 0) refl
      where
        by_first : (o : Option ℕ) → first_from (is_recursive q) (length q.procs) 0 ≡ o
            → MatchResult (unless_recursive o (bounds_from q (length q.procs) 0)) (AreLeastBounds q) (IsFirstRecursive q)
        by_first None e = computed_least (λ p h. not_both
            (sym (recursive_true p h) ∙ none_found (is_recursive q) (length q.procs) 0 e p (omega arith) (omega (arith, recursive_below p h))))
        by_first (Some p) e =
            let first = first_found (is_recursive q) (length q.procs) 0 p e in
            record {
              recursive = true_recursive p first.passes;
              first = λ r lt h. not_both (sym (recursive_true r h) ∙ first.earlier r (omega arith) lt);
            }

-- 8. There is one.

same_bounds : (bs ds : Bounds) → length bs ≡ length ds → ((p : ℕ) → get_or bs p None ≡ get_or ds p None) → bs ≡ ds
same_bounds [] [] e h = refl
same_bounds [] (d ∷ ds) e h = absurd (omega (arith, e))
same_bounds (b ∷ bs) [] e h = absurd (omega (arith, e))
same_bounds (b ∷ bs) (d ∷ ds) e h =
    let first : b ≡ d = h 0 in
    let rest = same_bounds bs ds (omega (arith, e)) (λ p. h (suc p)) in
    λ i. first i ∷ rest i

least_one : (q : Program) (bs ds : Bounds) → AreLeastBounds q bs → AreLeastBounds q ds → bs ≡ ds
least_one q bs ds h g = same_bounds bs ds (h.certificate.number ∙ sym g.certificate.number)
    (λ p. one (get_or bs p None) (get_or ds p None) (λ b e. lower bs ds h g.certificate p b e) (λ d e. lower ds bs g h.certificate p d e) refl refl)
  where
    lower : (bs ds : Bounds) → AreLeastBounds q bs → IsCertificate q ds → (p : ℕ) (b : ℕ × ℕ) → get_or bs p None ≡ Some b
        → IsSomeAnd (bound_at ds p) (IsAtMost (as_words b))
    lower bs ds h cert p b e = h.least ds cert p (as_words b) (ap (option_map as_words) e)

    one : (o i : Option (ℕ × ℕ)) → ((b : ℕ × ℕ) → o ≡ Some b → IsSomeAnd (option_map as_words i) (IsAtMost (as_words b)))
        → ((d : ℕ × ℕ) → i ≡ Some d → IsSomeAnd (option_map as_words o) (IsAtMost (as_words d))) → o ≡ o → i ≡ i → o ≡ i
    one None None below above k l = refl
    one (Some b) None below above k l = absurd (below b refl)
    one None (Some d) below above k l = absurd (above d refl)
    one (Some b) (Some d) below above k l =
        let down = below b refl in
        let up = above d refl in
        let temp : b.0 ≡ d.0 = omega arith in
        let ctrl : b.1 ≡ d.1 = omega arith in
        λ i. Some (temp i, ctrl i)

-- what the code finds is what is computed
pub certified_gives : (R : Type 0) (q : Program) → ProgramFits q → (r : Result Certificate CertFault)
    → MatchResult r (λ (c : Certificate). AreLeastBounds q c.bounds.items) (IsCertFaultUnless R q)
    → GivesCertifiedUnless R (λ (c : Certificate). c.bounds.items) r (certified q)
certified_gives R q fits r h = by_both (certified q) (certified_is q fits) r h
  where
    by_both : (v : Result Bounds ℕ) → MatchResult v (AreLeastBounds q) (IsFirstRecursive q) → (r : Result Certificate CertFault)
        → MatchResult r (λ (c : Certificate). AreLeastBounds q c.bounds.items) (IsCertFaultUnless R q)
        → common.GivesUnless R recursive_of (λ (c : Certificate). c.bounds.items) r v
    by_both (Ok bs) g (Ok c) h = ap (λ b. Ok b) (least_one q bs c.bounds.items g h)
    by_both (Ok bs) g (Err (Recursive p)) h = absurd (never_recursive q p bs h.recursive g.certificate)
    by_both (Err p) g (Ok c) h = absurd (never_recursive q p c.bounds.items g.recursive h.certificate)
    by_both (Err p) g (Err (Recursive r)) h =
        let same : p ≡ r = elim (cases_lt p r) [
          | inl lt ↦ absurd (h.first p lt g.recursive)
          | inr le ↦ elim (cases_lt r p) [ inl lt ↦ absurd (g.first r lt h.recursive) | inr le' ↦ omega arith ]
        ] in
        ap (λ x. Err x) same
    by_both (Ok bs) g (Err Memory) h = h
    by_both (Err p) g (Err Memory) h = h

-- that procedure is there
pub fault_there : {X : Type 0} (R : Type 0) (q : Program) → ProgramFits q → (P : X → Type 0) (r : Result X CertFault)
    → MatchResult r P (IsCertFaultUnless R q) → IfErr r (IsThere q)
fault_there R q fits P (Ok c) h = tt
fault_there R q fits P (Err (Recursive p)) h = recursive_below q fits p h.recursive
fault_there R q fits P (Err Memory) h = tt
