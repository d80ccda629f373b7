-- The places of `until`, one after the other.
use Rattle.std.proofs.Common.{◌≡◌, ℕ, Bool, true, false, cond, List, [], ◌∷◌, ◌++◌, Option, Some, None, Result, Ok, Err, refl, sym, ap, ◌∙◌}
use Rattle.std.specs.List.{onto_first, slice_split}
use Rattle.stack_text.specs.Gives as common
use Rattle.stack_text.specs.Results.{◌>>=◌}
use Rattle.debug_script.{specs.declared.command.Command.Command, specs.declared.command.Place.Place, specs.declared.fault.ScriptRule.ScriptRule}
use Rattle.debug_script.{specs.declared.command.Command.TheVariants.UntilAny, specs.Commands.{SplitsAtOr, is_or, last_place, place_from, until_parts}}

-- a part, and those behind it, of which there is one at least
more_parts : (places : List Place) (part words : List (List ℕ)) → until_parts places (part ∷ slice_split is_or words)
    ≡ (place_from part >>= λ there. until_parts (places ++ there ∷ []) (slice_split is_or words))
unfolding until_parts
more_parts places part [] = refl
more_parts places part (word ∷ words) = by_test (is_or word) (slice_split is_or words)
  where
    by_test : (b : Bool) (parts : List (List (List ℕ))) → until_parts places (part ∷ cond b ([] ∷ parts) (onto_first word parts))
        ≡ (place_from part >>= λ there. until_parts (places ++ there ∷ []) (cond b ([] ∷ parts) (onto_first word parts)))
    by_test true parts = refl
    by_test false [] = refl
    by_test false (next ∷ parts) = refl

module _ (places : List Place) (words : List (List ℕ)) (all : Result Command ScriptRule) (so_far : until_parts places (slice_split is_or words) ≡ all) where
  opened : (part behind : List (List ℕ)) → SplitsAtOr words (Some (part, behind)) → (r : Result Place ScriptRule) → place_from part ≡ r
      → (r >>= λ there. until_parts (places ++ there ∷ []) (slice_split is_or behind)) ≡ all
  opened part behind split r e =
      ap (λ (s : Result Place ScriptRule). s >>= λ there. until_parts (places ++ there ∷ []) (slice_split is_or behind)) (sym e)
      ∙ sym (more_parts places part behind) ∙ ap (until_parts places) (sym split) ∙ so_far

  -- a place more is read
  pub next_place : (part behind : List (List ℕ)) (there : Place) → SplitsAtOr words (Some (part, behind)) → place_from part ≡ Ok there
      → until_parts (places ++ there ∷ []) (slice_split is_or behind) ≡ all
  next_place part behind there split e = opened part behind split (Ok there) e

  -- it has a fault, where `None` is out of memory, for which there is a reason
  pub place_fails : (part behind : List (List ℕ)) (refused : Type 0) (fault : Option ScriptRule) → SplitsAtOr words (Some (part, behind))
      → common.FailsUnless refused fault (place_from part) → common.FailsUnless refused fault all
  place_fails part behind refused None split e = e
  place_fails part behind refused (Some fault) split e = sym (opened part behind split (Err fault) e)

  last_opened : SplitsAtOr words None → (r : Result (Place × ℕ) ScriptRule) → last_place words ≡ r
      → (r >>= λ found. Ok (UntilAny (places ++ found.0 ∷ []) found.1)) ≡ all
  unfolding until_parts
  last_opened split r e =
      ap (λ (s : Result (Place × ℕ) ScriptRule). s >>= λ found. Ok (UntilAny (places ++ found.0 ∷ []) found.1)) (sym e)
      ∙ ap (until_parts places) (sym split) ∙ so_far

  -- the last place is read, or has a fault
  pub last_read : (there : Place) (limit : ℕ) → SplitsAtOr words None → last_place words ≡ Ok (there, limit)
      → all ≡ Ok (UntilAny (places ++ there ∷ []) limit)
  last_read there limit split e = sym (last_opened split (Ok (there, limit)) e)

  pub last_fails : (refused : Type 0) (fault : Option ScriptRule) → SplitsAtOr words None
      → common.FailsUnless refused fault (last_place words) → common.FailsUnless refused fault all
  last_fails refused None split e = e
  last_fails refused (Some fault) split e = sym (last_opened split (Err fault) e)
