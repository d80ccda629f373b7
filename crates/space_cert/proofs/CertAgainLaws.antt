-- The least certificate of a source is read again.
use Rattle.std.proofs.Common.{◌≡◌, ◌≤◌, ◌+◌, ◌*◌, ◌^◌, ℕ, zero, suc, max, Bool, true, false, if◌then◌else◌, Option, Some, None, Ok, length, refl, sym, ◌∙◌}
use Rattle.std.{proofs.Common.{subst, arith}, proofs.lemmas.Bool.{le-leb, and_from}, proofs.lemmas.List.length-map, specs.Result.MatchResult}
use Rattle.gypsy_syntax.{specs.Predefined.{predef_temp, predef_ctrl}, specs.Programs.{Program, proc_at}, specs.ProgramFits.ProgramFits}
use Rattle.gypsy_syntax.{specs.Resolved.{procedure_names, program_of}, proofs.PredefLaws.{low_temp, low_ctrl}}
use Rattle.gypsy_space.{specs.Needs.{StackSizes, stack_sizes}, proofs.SmallLaws.greatest_within}
use Rattle.space_cert.{specs.Bounded.{is_bound, are_bounds}, specs.CertAgain.CertificatesAreReadAgain, specs.Certified.{is_reached, is_recursive, first_from}}
use Rattle.space_cert.{specs.Certified.{run_within, least_bound, bounds_from, unless_recursive, certified}, specs.Covers.{Bounds, IsAtMost, own_need}}
use Rattle.space_cert.{specs.Covers.call_bound, specs.Least.{AreLeastBounds, IsFirstRecursive}, proofs.CertifiedLaws.{greatest_least, certified_is}}
use Rattle.space_cert.{proofs.CertifyLaws.small_words, proofs.NameLaws.{own_names, are_names, few_names}, proofs.ReadAgainLaws.{printed_short, printed_reads}}

-- 1. No bound is large.

-- twice the words of a procedure for each call that is followed
abbrev limit : ℕ → StackSizes
limit k = stack_sizes (k * 262144) (k * 262144)

module _ (q : Program) (fits : ProgramFits q) where
  own_small : (p k : ℕ) → IsAtMost (own_need (proc_at q p)) (limit (suc k))
  own_small p k = record {
    temp = omega (arith, greatest_within 2 predef_temp 4 (omega arith) low_temp (proc_at q p).body);
    ctrl = omega (arith, greatest_within 0 predef_ctrl 10 (omega arith) low_ctrl (proc_at q p).body);
  }

  call_small : (p k : ℕ) (d : StackSizes) → IsAtMost d (limit k) → IsAtMost (call_bound q p d) (limit (suc k))
  call_small p k d h =
      let words = small_words q _ (fits.procs p) in
      record { temp = more _ _ d.temp k words h.temp; ctrl = under _ _ d.ctrl k words h.ctrl }
    where
      more : (l v d k : ℕ) → l + v ≤ 131072 → d ≤ k * 262144 → max (l + v) (l + d) ≤ suc k * 262144
      more l v d k h g = omega (arith, h, g)

      under : (l v d k : ℕ) → l + v ≤ 131072 → d ≤ k * 262144 → 2 + v + d ≤ suc k * 262144
      under l v d k h g = omega (arith, h, g)

  run_small : (k p : ℕ) → IsAtMost (run_within q k p) (limit k)
  unfolding run_within
  run_small zero p = record { temp = omega arith; ctrl = omega arith }
  run_small (suc k) p = greatest_least q _ _ _ _ (own_small p k) (λ r there. call_small r k (run_within q k r) (run_small k r))

  module _ (few : length q.procs ≤ 1000) where
    one_small : (p : ℕ) → is_bound (least_bound q p) ≡ true
    one_small p = by_reached (is_reached q p) (run_within q (length q.procs) p) (run_small (length q.procs) p)
      where
        by_reached : (b : Bool) (w : StackSizes) → IsAtMost w (limit (length q.procs)) → is_bound (if b then Some (w.temp, w.ctrl) else None) ≡ true
        by_reached true w h = and_from _ _ (le-leb w.temp (2 ^ 40) (omega (arith, h.temp, few))) (le-leb w.ctrl (2 ^ 40) (omega (arith, h.ctrl, few)))
        by_reached false w h = refl

    all_small : (n p : ℕ) → are_bounds (bounds_from q n p) ≡ true
    unfolding bounds_from
    all_small zero p = refl
    all_small (suc n) p = and_from (is_bound (least_bound q p)) (are_bounds (bounds_from q n (p + 1))) (one_small p) (all_small n (p + 1))

-- 2. It is read again.

computed : (q : Program) (bs : Bounds) → certified q ≡ Ok bs → bounds_from q (length q.procs) 0 ≡ bs
unfolding certified
computed q bs is = by_first (first_from (is_recursive q) (length q.procs) 0) is
  where
    by_first : (o : Option ℕ) → unless_recursive o (bounds_from q (length q.procs) 0) ≡ Ok bs → bounds_from q (length q.procs) 0 ≡ bs
    by_first None e = cc
    by_first (Some p) e = absurd cc

pub certificates_again : CertificatesAreReadAgain
certificates_again source bs accepted is =
    let q : Program = program_of source in
    let names = procedure_names source in
    let named = few_names source accepted.form in
    let same : length q.procs ≡ length names = length-map source.procs _ ∙ sym (length-map source.procs _) in
    let few : length q.procs ≤ 1000 = omega arith in
    let small : are_bounds bs ≡ true = cc (computed q bs is, all_small q accepted.fits few (length q.procs) 0) in
    let least : AreLeastBounds q bs = subst (λ r. MatchResult r (AreLeastBounds q) (IsFirstRecursive q)) is (certified_is q accepted.fits) in
    record {
      short = printed_short names bs (are_names source accepted.form) named small;
      again = printed_reads names bs (are_names source accepted.form) named small (own_names source accepted.rules) (least.certificate.number ∙ same);
    }
