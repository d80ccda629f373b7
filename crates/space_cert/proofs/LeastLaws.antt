-- The bounds that are found along an order are the least certificate.
use Rattle.std.proofs.Common.{◌≡◌, ℕ, zero, suc, ◌+◌, ◌<◌, ◌≤◌, max, List, [], ◌∷◌, length, Option, Some, None, inl, inr, refl, ap, sym, ◌∙◌, subst, arith}
use Rattle.std.{proofs.lemmas.Bool.cases_eq, proofs.lemmas.List.{get_or-set_same, get_or-set_other, length-set, length-replicate}}
use Rattle.std.{proofs.lemmas.List.Elements.{All-nil, All-cons, All-head, All-tail, All-contains}, specs.List.{All, Contains}, specs.Option.{IsSome, IsSomeAnd}}
use Rattle.std.specs.Option.{option_map, unwrap_or}
use Rattle.gypsy_syntax.specs.Programs.{Program, proc_at}
use Rattle.gypsy_space.specs.Needs.{StackSizes, stack_sizes, main_used}
use Rattle.space_cert.specs.Covers.{Bounds, no_bounds, as_words, bound_at, words_sum, IsAtMost, own_need, call_bound, CoversCall, CoversRun, IsCertificate}
use Rattle.space_cert.{specs.Covers.{sizes_for, Covers}, specs.Reaches.{Reaches, Directly, Further, calls_of, IsReached, IsRecursive}}
use Rattle.space_cert.{specs.Least.AreLeastBounds, specs.Order.{IsOrder, greater, call_words, greatest_call, run_bound, with_bound, bounds_of_order}}
use Rattle.space_cert.{proofs.CoversLaws.{main_within, some_there}, proofs.ContainsLaws.{contains_none, contains_first, contains_later, contains_cases}}

-- Words.

refl_at_most : (u : StackSizes) → IsAtMost u u
refl_at_most u = record { temp = omega arith; ctrl = omega arith }

trans_at_most : {u v w : StackSizes} → IsAtMost u v → IsAtMost v w → IsAtMost u w
trans_at_most h g = record { temp = omega (arith, h.temp, g.temp); ctrl = omega (arith, h.ctrl, g.ctrl) }

greater_left : (u v : StackSizes) → IsAtMost u (greater u v)
greater_left u v = record { temp = omega arith; ctrl = omega arith }

greater_right : (u v : StackSizes) → IsAtMost v (greater u v)
greater_right u v = record { temp = omega arith; ctrl = omega arith }

pub greater_least : {u v w : StackSizes} → IsAtMost u w → IsAtMost v w → IsAtMost (greater u v) w
greater_least h g = record { temp = omega (arith, h.temp, g.temp); ctrl = omega (arith, h.ctrl, g.ctrl) }

pub more_taken : (q : Program) (p : ℕ) {b d : StackSizes} → IsAtMost b d → IsAtMost (call_bound q p b) (call_bound q p d)
more_taken q p {b} {d} h = omega arith
  where
    more : (l v b d : ℕ) → b ≤ d → max (l + v) (l + b) ≤ max (l + v) (l + d)
    more l v b d h = omega (arith, h)

-- Bounds.

pub none_at : (n p : ℕ) → bound_at (no_bounds n) p ≡ None
none_at zero p = refl
none_at (suc n) zero = refl
none_at (suc n) (suc p) = none_at n p

bound_same : (bs : Bounds) (p : ℕ) (w : StackSizes) → p < length bs → bound_at (with_bound bs p w) p ≡ Some w
bound_same bs p w h = ap (option_map as_words) (get_or-set_same bs p (Some (w.temp, w.ctrl)) None h)

pub bound_other : (bs : Bounds) (p r : ℕ) (w : StackSizes) → (r ≡ p → ⊥) → bound_at (with_bound bs p w) r ≡ bound_at bs r
bound_other bs p r w h = ap (option_map as_words) (get_or-set_other bs p r (Some (w.temp, w.ctrl)) None h)

pub some_same : {u v : StackSizes} → Some u ≡ Some v → u ≡ v
some_same {u} {v} e = ap (λ o. unwrap_or o u) e

module _ (q : Program) (bs : Bounds) where
  pub calls_rise : (ps : List ℕ) (w : StackSizes) → IsAtMost w (greatest_call q bs ps w)
  calls_rise [] w = refl_at_most w
  calls_rise (p ∷ ps) w = trans_at_most (greater_left w (call_words q bs p)) (calls_rise ps (greater w (call_words q bs p)))

  pub calls_within : (ps : List ℕ) (w : StackSizes) → All (λ p. IsAtMost (call_words q bs p) (greatest_call q bs ps w)) ps
  calls_within [] w = All-nil (λ p. IsAtMost (call_words q bs p) w)
  calls_within (p ∷ ps) w =
      let v = greater w _ in
      All-cons (λ r. IsAtMost (call_words q bs r) (greatest_call q bs ps v)) p ps (trans_at_most (greater_right w (call_words q bs p)) (calls_rise ps v))
      (calls_within ps v)

  pub calls_least : (ps : List ℕ) (w v : StackSizes) → IsAtMost w v → All (λ p. IsAtMost (call_words q bs p) v) ps → IsAtMost (greatest_call q bs ps w) v
  calls_least [] w v h f = h
  calls_least (p ∷ ps) w v h f =
      let P : ℕ → Type 0 = λ r. IsAtMost (call_words q bs r) v in
      calls_least ps (greater w (call_words q bs p)) v (greater_least h (All-head P p ps f)) (All-tail P p ps f)

-- Along an order.

module _ (q : Program) where
  Below : List ℕ → Type 0
  Below = All (λ p. p < length q.procs)

  pub length_by : (order : List ℕ) → length (bounds_of_order q order) ≡ length q.procs
  length_by [] = length-replicate (length q.procs) None
  length_by (p ∷ before) = length-set (bounds_of_order q before) p _ ∙ length_by before

  pub unknown : (order : List ℕ) (r : ℕ) → (Contains order r → ⊥) → bound_at (bounds_of_order q order) r ≡ None
  unknown [] r h = none_at (length q.procs) r
  unknown (p ∷ before) r h = bound_other _ p r _ (λ e. h (subst (λ x. Contains (p ∷ before) x) (sym e) (contains_first p before)))
      ∙ unknown before r (λ k. h (contains_later p before r k))

  -- bounds that are there stay the same
  stays : (p : ℕ) (before : List ℕ) (r : ℕ) → (Contains before p → ⊥) → Contains before r
      → bound_at (bounds_of_order q (p ∷ before)) r ≡ bound_at (bounds_of_order q before) r
  stays p before r n h = bound_other _ p r _ (λ e. n (subst (Contains before) e h))

  pub known_now : (p : ℕ) (before : List ℕ) → p < length q.procs → bound_at (bounds_of_order q (p ∷ before)) p ≡ Some (run_bound q (bounds_of_order q before) p)
  known_now p before lt =
      let e = length_by before in
      bound_same (bounds_of_order q before) p (run_bound q (bounds_of_order q before) p) (omega (arith, lt, e))

  pub known : (order : List ℕ) → IsOrder (calls_of q) order → All (λ p. p < length q.procs) order → (r : ℕ) → Contains order r
      → IsSome (bound_at (bounds_of_order q order) r)
  known [] o lt r h = absurd (contains_none h)
  known (p ∷ before) o lt r h =
      elim (contains_cases p before r h) [
        | inl e ↦ subst (λ x. IsSome (bound_at (bounds_of_order q (p ∷ before)) x)) e
            (subst IsSome (sym (known_now p before (All-head (λ x. x < length q.procs) p before lt))) refl)
        | inr k ↦ subst IsSome (sym (stays p before r o.0 k)) (known before o.2 (All-tail (λ x. x < length q.procs) p before lt) r k)
      ]

  -- the callees' bounds are those of calls
  pub covered_by : (bs : Bounds) (ps : List ℕ) (w : StackSizes) → All (λ r. IsSome (bound_at bs r)) ps → All (λ r. IsAtMost (call_words q bs r) w) ps
      → All (CoversCall q bs w) ps
  covered_by bs [] w k h = All-nil (CoversCall q bs w)
  covered_by bs (p ∷ ps) w k h = All-cons (CoversCall q bs w) p ps
      (pick _ (All-head (λ r. IsSome (bound_at bs r)) p ps k) (All-head (λ r. IsAtMost (call_words q bs r) w) p ps h))
      (covered_by bs ps w (All-tail (λ r. IsSome (bound_at bs r)) p ps k) (All-tail (λ r. IsAtMost (call_words q bs r) w) p ps h))
    where
      pick : (o : Option StackSizes) → IsSome o → IsAtMost (call_bound q p (unwrap_or o (stack_sizes 0 0))) w → IsSomeAnd o (λ d. IsAtMost (call_bound q p d) w)
      pick None e g = cc
      pick (Some d) e g = g

  -- what covers a call goes on covering it
  covers_later : (p : ℕ) (before : List ℕ) (b : StackSizes) → (Contains before p → ⊥) → (ps : List ℕ)
      → All (CoversCall q (bounds_of_order q before) b) ps → All (CoversCall q (bounds_of_order q (p ∷ before)) b) ps
  covers_later p before b n [] h = All-nil (CoversCall q (bounds_of_order q (p ∷ before)) b)
  covers_later p before b n (r ∷ ps) h = All-cons (CoversCall q _ b) r ps
      (elim (cases_eq r p) [
        | inl e ↦ absurd (subst (λ o. IsSomeAnd o (λ d. IsAtMost (call_bound q r d) b))
            (ap (bound_at (bounds_of_order q before)) e ∙ unknown before p n) (All-head (CoversCall q (bounds_of_order q before) b) r ps h))
        | inr d ↦ subst (λ o. IsSomeAnd o (λ d. IsAtMost (call_bound q r d) b))
            (sym (bound_other (bounds_of_order q before) p r (run_bound q (bounds_of_order q before) p) d))
            (All-head (CoversCall q (bounds_of_order q before) b) r ps h)
      ]) (covers_later p before b n ps (All-tail (CoversCall q (bounds_of_order q before) b) r ps h))

  each_known : (order : List ℕ) → IsOrder (calls_of q) order → All (λ p. p < length q.procs) order → (ps : List ℕ) → All (Contains order) ps
      → All (λ r. IsSome (bound_at (bounds_of_order q order) r)) ps
  each_known order o lt [] h = All-nil (λ r. IsSome (bound_at (bounds_of_order q order) r))
  each_known order o lt (p ∷ ps) h =
      All-cons (λ r. IsSome (bound_at (bounds_of_order q order) r)) p ps (known order o lt p (All-head (Contains order) p ps h))
      (each_known order o lt ps (All-tail (Contains order) p ps h))

  pub covers : (order : List ℕ) → IsOrder (calls_of q) order → All (λ p. p < length q.procs) order → (r : ℕ) (b : StackSizes)
      → bound_at (bounds_of_order q order) r ≡ Some b → CoversRun q (bounds_of_order q order) r b
  covers [] o lt r b e = absurd (none_some (sym (none_at (length q.procs) r) ∙ e))
    where
      none_some : None ≡ Some b → ⊥
      none_some e = cc
  covers (p ∷ before) o lt r b e =
      elim (cases_eq r p) [
        | inl i ↦
            let now = known_now p before (All-head (λ x. x < length q.procs) p before lt) in
            let is : run_bound q (bounds_of_order q before) p ≡ b = some_same (sym now ∙ (ap (bound_at (bounds_of_order q (p ∷ before))) (sym i) ∙ e)) in
            subst (λ x. CoversRun q (bounds_of_order q (p ∷ before)) x b) (sym i)
            (subst (CoversRun q (bounds_of_order q (p ∷ before)) p) is (first p before o (All-tail (λ x. x < length q.procs) p before lt)))
        | inr d ↦
            let old = covers before o.2 (All-tail (λ x. x < length q.procs) p before lt) r b
            (sym (bound_other (bounds_of_order q before) p r (run_bound q (bounds_of_order q before) p) d) ∙ e) in
            record { own = old.own; calls = covers_later p before b o.0 (calls_of q r) old.calls }
      ]
    where
      first : (p : ℕ) (before : List ℕ) → IsOrder (calls_of q) (p ∷ before) → All (λ x. x < length q.procs) before
          → CoversRun q (bounds_of_order q (p ∷ before)) p (run_bound q (bounds_of_order q before) p)
      first p before o lt =
          let bs = bounds_of_order q before in
          let w = run_bound q bs p in
          let known = each_known before o.2 lt (calls_of q p) o.1 in
          let within = covered_by bs (calls_of q p) w known (calls_within q bs (calls_of q p) (own_need (proc_at q p))) in
          record { own = calls_rise q bs (calls_of q p) (own_need (proc_at q p)); calls = covers_later p before w o.0 (calls_of q p) within }

  -- one call: by no greater bounds it takes no more
  call_least : (r : ℕ) (d : StackSizes) (o i : Option StackSizes) → IsSome o → ((b : StackSizes) → o ≡ Some b → IsSomeAnd i (IsAtMost b))
      → IsSomeAnd i (λ e. IsAtMost (call_bound q r e) d) → IsAtMost (call_bound q r (unwrap_or o (stack_sizes 0 0))) d
  call_least r d None i k lower h = cc
  call_least r d (Some b) None k lower h = absurd h
  call_least r d (Some b) (Some e) k lower h = trans_at_most (more_taken q r (lower b refl)) h

  all_least : (bs ds : Bounds) (d : StackSizes) → ((r : ℕ) (b : StackSizes) → bound_at bs r ≡ Some b → IsSomeAnd (bound_at ds r) (IsAtMost b))
      → (ps : List ℕ) → All (λ r. IsSome (bound_at bs r)) ps → All (CoversCall q ds d) ps → All (λ r. IsAtMost (call_words q bs r) d) ps
  all_least bs ds d lower [] k h = All-nil (λ r. IsAtMost (call_words q bs r) d)
  all_least bs ds d lower (r ∷ ps) k h = All-cons (λ x. IsAtMost (call_words q bs x) d) r ps
      (call_least r d _ _ (All-head (λ x. IsSome (bound_at bs x)) r ps k) (lower r) (All-head (CoversCall q ds d) r ps h))
      (all_least bs ds d lower ps (All-tail (λ x. IsSome (bound_at bs x)) r ps k) (All-tail (CoversCall q ds d) r ps h))

  last_least : (ds : Bounds) → IsCertificate q ds → (p : ℕ) (before : List ℕ) → IsOrder (calls_of q) (p ∷ before) → All (λ x. x < length q.procs) before
      → ((r : ℕ) (b : StackSizes) → bound_at (bounds_of_order q before) r ≡ Some b → IsSomeAnd (bound_at ds r) (IsAtMost b)) → (o : Option StackSizes)
      → bound_at ds p ≡ o → IsSome o → IsSomeAnd o (IsAtMost (run_bound q (bounds_of_order q before) p))
  last_least ds cert p before o lt lower None e k = cc
  last_least ds cert p before o lt lower (Some d) e k =
      let bs = bounds_of_order q before in
      let run = cert.each p d e in
      calls_least q bs _ _ d run.own (all_least bs ds d lower (calls_of q p) (each_known before o.2 lt (calls_of q p) o.1) run.calls)

  -- no certificate has less
  pub least : (ds : Bounds) → IsCertificate q ds → (order : List ℕ) → IsOrder (calls_of q) order → All (λ p. p < length q.procs) order
      → All (λ p. IsSome (bound_at ds p)) order → (r : ℕ) (b : StackSizes) → bound_at (bounds_of_order q order) r ≡ Some b
      → IsSomeAnd (bound_at ds r) (IsAtMost b)
  least ds cert [] o lt k r b e = absurd (none_some (sym (none_at (length q.procs) r) ∙ e))
    where
      none_some : None ≡ Some b → ⊥
      none_some e = cc
  least ds cert (p ∷ before) o lt k r b e =
      let lower = least ds cert before o.2 (All-tail (λ x. x < length q.procs) p before lt) (All-tail (λ x. IsSome (bound_at ds x)) p before k) in
      elim (cases_eq r p) [
        | inl i ↦
            let now = known_now p before (All-head (λ x. x < length q.procs) p before lt) in
            let is : run_bound q (bounds_of_order q before) p ≡ b = some_same (sym now ∙ (ap (bound_at (bounds_of_order q (p ∷ before))) (sym i) ∙ e)) in
            let last = last_least ds cert p before o (All-tail (λ x. x < length q.procs) p before lt) lower (bound_at ds p) refl
            (All-head (λ x. IsSome (bound_at ds x)) p before k) in
            subst (λ x. IsSomeAnd (bound_at ds x) (IsAtMost b)) (sym i) (subst (λ w. IsSomeAnd (bound_at ds p) (IsAtMost w)) is last)
        | inr d ↦ lower r b (sym (bound_other (bounds_of_order q before) p r (run_bound q (bounds_of_order q before) p) d) ∙ e)
      ]

  -- what main reaches

  callee_known : (bs : Bounds) → IsCertificate q bs → (p r : ℕ) → IsSome (bound_at bs p) → Contains (calls_of q p) r → IsSome (bound_at bs r)
  callee_known bs cert p r k h = pick (bound_at bs p) refl k
    where
      pick : (o : Option StackSizes) → bound_at bs p ≡ o → IsSome o → IsSome (bound_at bs r)
      pick None e k = cc
      pick (Some b) e k = some_there _ _ (All-contains (CoversCall q bs b) (calls_of q p) r (cert.each p b e).calls h)

  along : (bs : Bounds) → IsCertificate q bs → (p r : ℕ) → IsSome (bound_at bs p) → Reaches (calls_of q) p r → IsSome (bound_at bs r)
  along bs cert p r k (Directly h) = callee_known bs cert p r k h
  along bs cert p r k (Further {r = s} h g) = callee_known bs cert s r (along bs cert p s k h) g

  -- each procedure that main reaches has bounds in a certificate
  pub reached_known : (bs : Bounds) → IsCertificate q bs → (p : ℕ) → IsReached q p → IsSome (bound_at bs p)
  reached_known bs cert p (inl e) = subst (λ x. IsSome (bound_at bs x)) e cert.main
  reached_known bs cert p (inr h) = along bs cert q.main p cert.main h

  all_known : (bs : Bounds) → IsCertificate q bs → (ps : List ℕ) → All (IsReached q) ps → All (λ p. IsSome (bound_at bs p)) ps
  all_known bs cert [] h = All-nil (λ p. IsSome (bound_at bs p))
  all_known bs cert (p ∷ ps) h =
      All-cons (λ x. IsSome (bound_at bs x)) p ps (reached_known bs cert p (All-head (IsReached q) p ps h))
      (all_known bs cert ps (All-tail (IsReached q) p ps h))

  -- the bounds along an order of what main reaches are the least certificate
  pub least_by : (order : List ℕ) → IsOrder (calls_of q) order → All (λ p. p < length q.procs) order → All (IsReached q) order → Contains order q.main
      → AreLeastBounds q (bounds_of_order q order)
  least_by order o lt reached main =
      let cert : IsCertificate q (bounds_of_order q order) = record {
        number = length_by order;
        main = known order o lt q.main main;
        each = covers order o lt;
      } in
      record {
        certificate = cert;
        reached = reached_known _ cert;
        others = λ p n. unknown order p (λ k. n (All-contains (IsReached q) order p reached k));
        least = λ ds other r b e. least ds other order o lt (all_known ds other order reached) r b e;
      }

  -- At main, and where there is recursion.

  pub covers_main : (bs : Bounds) → AreLeastBounds q bs → Covers q bs (sizes_for q bs)
  covers_main bs h = record { certificate = h.certificate; within = refl_at_most (sizes_for q bs) }

  pub least_main : (bs ds : Bounds) (sizes : StackSizes) → AreLeastBounds q bs → Covers q ds sizes → IsAtMost (sizes_for q bs) sizes
  least_main bs ds sizes h covers = main (bound_at bs q.main) refl h.certificate.main
    where
      least_words : (b : StackSizes) (o : Option StackSizes) → bound_at ds q.main ≡ o → IsSomeAnd o (IsAtMost b) → IsAtMost (words_sum (main_used q) b) sizes
      least_words b None i k = absurd k
      least_words b (Some d) i k =
          let within = main_within q ds sizes covers d i in
          record { temp = omega arith; ctrl = omega arith }

      main : (o : Option StackSizes) → bound_at bs q.main ≡ o → IsSome o → IsAtMost (sizes_for q bs) sizes
      main None e k = cc
      main (Some b) e k = subst (λ o. IsAtMost (words_sum (main_used q) (unwrap_or o (stack_sizes 0 0))) sizes) (sym e)
          (least_words b (bound_at ds q.main) refl (h.least ds covers.certificate q.main b e))

  -- a call's bounds on the control stack are less
  falls : (bs : Bounds) → IsCertificate q bs → (p r : ℕ) (b : StackSizes) → bound_at bs p ≡ Some b → Contains (calls_of q p) r → (d : StackSizes)
      × (bound_at bs r ≡ Some d) × (d.ctrl < b.ctrl)
  falls bs cert p r b e h = pick (bound_at bs r) refl (All-contains (CoversCall q bs b) (calls_of q p) r (cert.each p b e).calls h)
    where
      pick : (o : Option StackSizes) → bound_at bs r ≡ o → IsSomeAnd o (λ d. IsAtMost (call_bound q r d) b) → (d : StackSizes)
          × (bound_at bs r ≡ Some d) × (d.ctrl < b.ctrl)
      pick None i k = absurd k
      pick (Some d) i k = (d, i, omega (arith, k.ctrl))

  all_fall : (bs : Bounds) → IsCertificate q bs → (p r : ℕ) (b : StackSizes) → bound_at bs p ≡ Some b → Reaches (calls_of q) p r → (d : StackSizes)
      × (bound_at bs r ≡ Some d) × (d.ctrl < b.ctrl)
  all_fall bs cert p r b e (Directly h) = falls bs cert p r b e h
  all_fall bs cert p r b e (Further {r = s} h g) = on (all_fall bs cert p s b e h)
    where
      on : (d : StackSizes) × (bound_at bs s ≡ Some d) × (d.ctrl < b.ctrl) → (d : StackSizes) × (bound_at bs r ≡ Some d) × (d.ctrl < b.ctrl)
      on (d, i, lt) = down (falls bs cert s r d i g)
        where
          down : (c : StackSizes) × (bound_at bs r ≡ Some c) × (c.ctrl < d.ctrl) → (d : StackSizes) × (bound_at bs r ≡ Some d) × (d.ctrl < b.ctrl)
          down (c, j, le) = (c, j, omega (arith, le, lt))

  pub never_recursive : (p : ℕ) (bs : Bounds) → IsRecursive q p → IsCertificate q bs → ⊥
  never_recursive p bs h cert = pick (bound_at bs p) refl (reached_known bs cert p h.reached)
    where
      pick : (o : Option StackSizes) → bound_at bs p ≡ o → IsSome o → ⊥
      pick None e k = cc
      pick (Some b) e k = no (all_fall bs cert p p b e h.again)
        where
          no : (d : StackSizes) × (bound_at bs p ≡ Some d) × (d.ctrl < b.ctrl) → ⊥
          no (d, i, lt) = omega (arith, lt, ap (λ w. w.ctrl) (some_same (sym e ∙ i)))
