-- Breaches of rules, and the least of them.
use Rattle.std.specs.Prelude.{◌≡◌, ℕ, List, [], ◌∷◌, Option, Some, None, Bool, ◌==◌, ◌||◌, ◌&&◌, nat_lt, if◌then◌else◌}
use Rattle.stack_text.specs.declared.breach.Breach.{Breach}

-- one breach where the test holds
abbrev pub when : Bool → ℕ → ℕ → List Breach
when test place rule = if test then record { place = place; rule = rule } ∷ [] else []

-- the lesser of two breaches: place before rule
abbrev pub lesser : Breach → Breach → Breach
lesser b c = if nat_lt c.place b.place || (c.place == b.place && nat_lt c.rule b.rule) then c else b

-- the same of breaches that may not be there
abbrev pub lesser_of : Option Breach → Option Breach → Option Breach
lesser_of None found = found
lesser_of (Some b) None = Some b
lesser_of (Some b) (Some c) = Some (lesser b c)

-- the least of several, which there is unless there are none
abbrev pub least : List Breach → Option Breach
least [] = None
least (b ∷ bs) = lesser_of (Some b) (least bs)

-- the least of one or more
abbrev pub least_of : Breach → List Breach → Breach
least_of b [] = b
least_of b (c ∷ bs) = lesser b (least_of c bs)

-- what was the least is now the least with these
abbrev pub Notes : Option Breach → List Breach → Option Breach → Type 0
Notes old breaches new = new ≡ lesser_of old (least breaches)
