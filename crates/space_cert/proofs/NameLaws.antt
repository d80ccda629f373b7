-- Names of procedures: they differ, and each stands where it is found.
use Rattle.std.proofs.Common.{◌≡◌, ℕ, zero, suc, ◌<◌, ◌≤◌, List, [], ◌∷◌, map, length, get_or, Bool, true, false, cond, Option, Some, None, IfSome, option_map}
use Rattle.std.{proofs.Common.{sym, ap, subst, ◌∙◌, arith}, specs.List.{All, AllByRecursion, IsDistinct, position}, specs.Str.bytes_eq}
use Rattle.std.{proofs.lemmas.List.length-map, proofs.lemmas.List.Elements.{All-nil, All-cons, All-head, All-tail}}
use Rattle.std.{proofs.lemmas.List.Quantifiers.position-Some, proofs.lemmas.Map.Keys.{IsDistinct-cons, IsDistinct-tail, apart_from_distinct}}
use Rattle.std.{proofs.lemmas.Simd.map-map, proofs.lemmas.Slice.Eq.bytes_eq-Decides, proofs.lemmas.Bool.or_parts}
use Rattle.stack_text.{specs.Names.{is_name, is_among, place_among}, specs.declared.name.Named.Named, proofs.SharedLaws.{rule_fails, append_none, bytes_apart}}
use Rattle.stack_text.proofs.SharedLaws.{place_among-map}
use Rattle.gypsy_syntax.{specs.declared.proc.Proc.Proc, proofs.FitsLaws.keeps_fits, specs.GypsyReading.KeepsForm, specs.Fits.FitsProcedure}
use Rattle.gypsy_syntax.{specs.Resolved.procedure_names, specs.Views.SourceView.proc_of, specs.Sources.{ProcOf, SourceOf}}
use Rattle.gypsy_check.{specs.Declarations.repeats, specs.Rules.{violations, main_breaches}, proofs.CleanLaws.four, proofs.LookupLaws.place_cons}
use Rattle.gypsy_space.specs.Callees.{names_of}

-- Where a name stands.

pub names_same : (procs : List Proc) → names_of procs ≡ map (λ (p : ProcOf). p.name.name) (map proc_of procs)
names_same procs = sym (map-map (λ (p : ProcOf). p.name.name) proc_of procs)

pub place_same : (name : List ℕ) (procs : List Proc) → position (λ (p : Proc). bytes_eq name p.name.name) procs
    ≡ place_among name (map (λ (p : ProcOf). p.name.name) (map proc_of procs))
place_same name procs = place_among-map name (λ (p : Proc). p.name.name) procs ∙ ap (place_among name) (names_same procs)

pub place_below : (name : List ℕ) (names : List (List ℕ)) (place : Option ℕ) → place ≡ place_among name names → IfSome place (λ p. p < length names)
unfolding place_among
place_below name names None is = tt
place_below name names (Some p) is = (position-Some (bytes_eq name) names p [] (sym is)).0

-- They differ.

-- none of these is m, where m is among the earlier ones
all_apart : (rule : ℕ) (earlier : List (List ℕ)) (m : List ℕ) (ns : List Named) → ((n : List ℕ) → is_among n earlier ≡ false → bytes_eq n m ≡ false)
    → repeats rule earlier ns ≡ [] → AllByRecursion (λ y. bytes_eq m y ≡ false) (map (λ (n : Named). n.name) ns)
all_apart rule earlier m [] f e = tt
all_apart rule earlier m (n ∷ ns) f e =
    let k = append_none _ (repeats rule (n.name ∷ earlier) ns) e in (
      bytes_apart n.name m (f n.name (rule_fails (is_among n.name earlier) n.place rule k.0)),
      all_apart rule (n.name ∷ earlier) m ns (λ x h. f x (or_parts (bytes_eq x n.name) (is_among x earlier) h).1) k.1,
    )

distinct_names : (rule : ℕ) (earlier : List (List ℕ)) (ns : List Named) → repeats rule earlier ns ≡ [] → IsDistinct bytes_eq (map (λ (n : Named). n.name) ns)
unfolding IsDistinct
distinct_names rule earlier [] e = tt
distinct_names rule earlier (n ∷ ns) e =
    let k = append_none _ _ e in
    IsDistinct-cons bytes_eq n.name _ (all_apart rule (n.name ∷ earlier) n.name ns (λ x h. (or_parts (bytes_eq x n.name) (is_among x earlier) h).0) k.1)
    (distinct_names rule (n.name ∷ earlier) ns k.1)

pub own_names : (s : SourceOf) → violations s ≡ [] → IsDistinct bytes_eq (procedure_names s)
unfolding violations
own_names s e =
    let names = map (λ (p : ProcOf). p.name) s.procs in
    let k = four (repeats 1 [] names) (main_breaches s) _ _ e in
    subst (IsDistinct bytes_eq) (map-map (λ (n : Named). n.name) (λ (p : ProcOf). p.name) s.procs) (distinct_names 1 [] names k.0)

-- In a source that keeps the form each is a name, and they are few.

all_names : (procs : List ProcOf) → All FitsProcedure procs → All (λ n. is_name n ≡ true) (map (λ (p : ProcOf). p.name.name) procs)
all_names [] h = All-nil (λ n. is_name n ≡ true)
all_names (p ∷ procs) h = All-cons (λ n. is_name n ≡ true) p.name.name _ (All-head FitsProcedure p procs h).name
    (all_names procs (All-tail FitsProcedure p procs h))

pub are_names : (s : SourceOf) → KeepsForm s → All (λ n. is_name n ≡ true) (procedure_names s)
are_names s form = all_names s.procs (keeps_fits s form).procs

pub few_names : (s : SourceOf) → KeepsForm s → length (procedure_names s) ≤ 1000
few_names s form = omega (arith, (keeps_fits s form).few_procs, length-map s.procs (λ (p : ProcOf). p.name.name))

-- each is found at its place
pub place_own : (names : List (List ℕ)) (i : ℕ) (name : List ℕ) → IsDistinct bytes_eq names → i < length names → name ≡ get_or names i name
    → place_among name names ≡ Some i
place_own [] i name own lt is = absurd (omega (arith, lt))
place_own (x ∷ xs) zero name own lt is =
    let same : bytes_eq name x ≡ true = (bytes_eq-Decides name x).1 is in
    place_cons name x xs ∙ ap (λ (b : Bool). cond b (Some 0) (option_map suc (place_among name xs))) same
place_own (x ∷ xs) (suc i) name own lt is =
    let apart = apart_from_distinct bytes_eq (x ∷ xs) 0 (suc i) name own (omega arith) lt in
    let other : bytes_eq name x ≡ false = bytes_apart x name (ap (bytes_eq x) is ∙ apart) in
    place_cons name x xs ∙ (ap (λ (b : Bool). cond b (Some 0) (option_map suc (place_among name xs))) other
    ∙ ap (option_map suc) (place_own xs i name (IsDistinct-tail bytes_eq x xs own) (omega (arith, lt)) is))
