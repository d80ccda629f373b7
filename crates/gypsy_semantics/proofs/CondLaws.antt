-- Conditions in lists.
use Rattle.std.{specs.List.list_any, proofs.Common.{◌≡◌, List, [], ◌∷◌, map, Bool, true, false, if◌then◌else◌, ◌||◌, refl}}
use Rattle.gypsy_syntax.specs.Programs.{ConditionOf}
use Rattle.gypsy_semantics.specs.Calls.{has_cond, same_cond}
use Rattle.gypsy_space.{specs.Nodes.seen_cond, specs.declared.program.Condition.Condition}

pub has_any : (c : ConditionOf) (ds : List Condition) → has_cond c (map seen_cond ds) ≡ list_any (λ d. same_cond c (seen_cond d)) ds
has_any c [] = refl
has_any c (d ∷ ds) = pick (same_cond c (seen_cond d)) (has_any c ds)
  where
    pick : (b : Bool) → has_cond c (map seen_cond ds) ≡ list_any (λ e. same_cond c (seen_cond e)) ds
        → (if b then true else has_cond c (map seen_cond ds)) ≡ (b || list_any (λ e. same_cond c (seen_cond e)) ds)
    pick true e = refl
    pick false e = e
