-- The procedures of a source by their names, one procedure after the other.
use Rattle.std.proofs.Common.{◌≡◌, ℕ, ◌+◌, ◌<◌, length, List, [], ◌∷◌, ◌++◌, map, get_or, take, find, Option, Some, None, Bool, true, false, cond, ◌||◌}
use Rattle.std.{proofs.Common.{is_some, option_map, bytes_eq, refl, sym, ap, ◌∙◌}, proofs.lemmas.List.take_more}
use Rattle.gypsy_syntax.specs.declared.proc.Proc.{Proc}
use Rattle.gypsy_check.specs.Tables.{is_named}
use Rattle.stack_text.specs.Options.{first_or}

pub past_map : {V W : Type 0} (f : V → W) (o : Option V) (b : Bool) (v : V) → option_map f (first_or o b v) ≡ first_or (option_map f o) b (f v)
past_map f (Some x) b v = refl
past_map f None true v = refl
past_map f None false v = refl

-- ---- the first of one more

pub find-push : {X : Type 0} (test : X → Bool) (xs : List X) (x : X) → find test (xs ++ x ∷ []) ≡ first_or (find test xs) (test x) x
find-push test [] x = by_test (test x)
  where
    by_test : (b : Bool) → cond b (Some x) None ≡ first_or None b x
    by_test true = refl
    by_test false = refl
find-push test (y ∷ xs) x = by_test (test y) (find-push test xs x)
  where
    by_test : (b : Bool) → find test (xs ++ x ∷ []) ≡ first_or (find test xs) (test x) x
        → cond b (Some y) (find test (xs ++ x ∷ [])) ≡ first_or (cond b (Some y) (find test xs)) (test x) x
    by_test true h = refl
    by_test false h = h

some_find : (name : List ℕ) (ps : List Proc) → is_some (find (λ (p : Proc). bytes_eq name p.name.name) ps) ≡ is_named name (map (λ (p : Proc). p.name) ps)
some_find name [] = refl
some_find name (p ∷ ps) = by_test (bytes_eq name p.name.name) (some_find name ps)
  where
    by_test : (b : Bool) → is_some (find (λ (q : Proc). bytes_eq name q.name.name) ps) ≡ is_named name (map (λ (q : Proc). q.name) ps) →
        is_some (cond b (Some p) (find (λ (q : Proc). bytes_eq name q.name.name) ps)) ≡ (b || is_named name (map (λ (q : Proc). q.name) ps))
    by_test true h = refl
    by_test false h = h

-- the table has those so far, and one more
pub known_next : (ps : List Proc) (i : ℕ) (p : Proc) (old new : List ℕ → Option Proc) → i < length ps → p ≡ get_or ps i p →
    ((name : List ℕ) → old name ≡ find (λ (q : Proc). bytes_eq name q.name.name) (take i ps))
    → ((name : List ℕ) → new name ≡ first_or (old name) (bytes_eq name p.name.name) p) →
    (name : List ℕ) → new name ≡ find (λ (q : Proc). bytes_eq name q.name.name) (take (i + 1) ps)
known_next ps i p old new lt is so_far entered_is name =
    entered_is name ∙ ap (λ (o : Option Proc). first_or o (bytes_eq name p.name.name) p) (so_far name)
    ∙ sym (find-push (λ (q : Proc). bytes_eq name q.name.name) (take i ps) p)
    ∙ ap (find (λ (q : Proc). bytes_eq name q.name.name)) (sym (take_more ps i p lt ∙ ap (λ (q : Proc). take i ps ++ q ∷ []) (sym is)))

-- a name is known where a procedure so far has it
pub known_name : (ps : List Proc) (i : ℕ) (old : List ℕ → Option Proc)
    → ((name : List ℕ) → old name ≡ find (λ (q : Proc). bytes_eq name q.name.name) (take i ps)) →
    (name : List ℕ) → is_some (old name) ≡ is_named name ([] ++ map (λ (q : Proc). q.name) (take i ps))
known_name ps i old so_far name = ap (λ (o : Option Proc). is_some o) (so_far name) ∙ some_find name (take i ps)
