-- The table of a source's procedures, one procedure after the other.
use Rattle.std.proofs.Common.{◌≡◌, ℕ, suc, ◌<◌, ◌+◌, List, [], ◌∷◌, ◌++◌, length, get_or, take, Bool, true, false, true≢false, cond, Option, Some, None}
use Rattle.std.{proofs.Common.{is_some, option_map, bytes_eq, refl, sym, ap, ◌∙◌, arith}, proofs.lemmas.List.{map_push, take_more, length-map, length-take-le}}
use Rattle.std.proofs.lemmas.Slice.Eq.{bytes_eq-Decides}
use Rattle.stack_text.{specs.Names.place_among, specs.Options.first_or}
use Rattle.gypsy_syntax.specs.declared.proc.Proc.{Proc}
use Rattle.gypsy_check.proofs.LookupLaws.{place_cons, place_nil}
use Rattle.gypsy_space.{specs.Callees.names_of, proofs.PositionLaws.{place_among-append, place_or}}

-- the place among one name more
place_among-push : (name : List ℕ) (ms : List (List ℕ)) (n : List ℕ) → place_among name (ms ++ n ∷ [])
    ≡ first_or (place_among name ms) (bytes_eq name n) (length ms)
place_among-push name ms n =
    place_among-append name ms (n ∷ [])
    ∙ ap (place_or (length ms) (place_among name ms))
    (place_cons name n [] ∙ ap (λ (o : Option ℕ). cond (bytes_eq name n) (Some 0) (option_map suc o)) (place_nil name))
    ∙ by_test (place_among name ms) (bytes_eq name n)
  where
    by_test : (o : Option ℕ) (b : Bool) → place_or (length ms) o (cond b (Some 0) None) ≡ first_or o b (length ms)
    by_test (Some i) b = refl
    by_test None true = ap Some (let e : length ms + 0 ≡ length ms = omega arith in e)
    by_test None false = refl

-- the names so far, and one more
pub place_next : (ps : List Proc) (i : ℕ) (p : Proc) (name : List ℕ) → i < length ps → p ≡ get_or ps i p →
    place_among name (names_of (take (i + 1) ps)) ≡ first_or (place_among name (names_of (take i ps))) (bytes_eq name p.name.name) i
place_next ps i p name lt is =
    let names = names_of (take i ps) in
    let count : length names ≡ i = omega (arith, length-map (take i ps) (λ (q : Proc). q.name.name), length-take-le i ps) in
    ap (λ (qs : List Proc). place_among name (names_of qs)) (take_more ps i p lt ∙ ap (λ (q : Proc). take i ps ++ q ∷ []) (sym is))
    ∙ ap (place_among name) (map_push (λ (q : Proc). q.name.name) (take i ps) p)
    ∙ place_among-push name names p.name.name
    ∙ ap (first_or (place_among name names) (bytes_eq name p.name.name)) count
