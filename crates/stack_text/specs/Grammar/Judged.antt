-- What a tree is judged to be: a value, or what is wrong with it.
use Rattle.std.specs.Prelude.{ℕ, List, [], ◌∷◌, ◌++◌, Result, Ok, Err, Bool, if◌then◌else◌}
use Rattle.stack_text.specs.{declared.breach.Breach.{Breach}, Trees.{Node, Nodes, none, more}}

-- a value, or all faults in reading order, of which there is one at least
abbrev pub Judged : Type 0 → Type 0
Judged X = Result X (Breach × List Breach)

-- the one fault of a tree that isn't looked into
abbrev pub fault : {X : Type 0} → ℕ → ℕ → Judged X
fault place rule = Err (record { place = place; rule = rule }, [])

-- where the test fails, the tree at the place has a fault, and isn't looked into further
abbrev pub judged : {X : Type 0} → ℕ → ℕ → Bool → Judged X → Judged X
judged place rule test within = if test then within else fault place rule

-- one part more of a value; the faults are those of all parts
infixl 30 ◌⊛◌
abbrev pub ◌⊛◌ : {X Y : Type 0} → Judged (X → Y) → Judged X → Judged Y
(Ok f) ⊛ (Ok x) = Ok (f x)
(Ok f) ⊛ (Err fs) = Err fs
(Err fs) ⊛ (Ok x) = Err fs
(Err fs) ⊛ (Err gs) = Err (fs.0, fs.1 ++ gs.0 ∷ gs.1)

-- an item more, at the front
abbrev pub front : {X : Type 0} → X → List X → List X
front x xs = x ∷ xs

-- each tree of a list
abbrev pub each_of : {X : Type 0} → (Node → Judged X) → Nodes → Judged (List X)
each_of judge none = Ok []
each_of judge (more t ts) = Ok front ⊛ judge t ⊛ each_of judge ts
