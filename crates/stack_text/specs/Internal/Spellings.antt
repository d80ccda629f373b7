-- The texts of a tree with any separators between items.
use Rattle.std.specs.Prelude.{◌≡◌, ℕ, ◌<◌, List, [], ◌∷◌, ◌++◌, length}
use Rattle.stack_text.specs.{declared.class.Class.{Class}, declared.class.Class.TheVariants.{LineEnd, Space}, Tokens.{class_of}}
use Rattle.stack_text.specs.Trees.{Node, Nodes, atom, list, none, more}

-- space, tab, LF or CR
abbrev pub IsSeparator : Class → Type 0
IsSeparator LineEnd = Unit {0}
IsSeparator Space = Unit {0}
IsSeparator _ = ⊥

abbrev pub IsWhitespace : List ℕ → Type 0
IsWhitespace [] = Unit {0}
IsWhitespace (b ∷ bs) = IsSeparator (class_of b) × IsWhitespace bs

abbrev mutual
  -- the text is the tree's, with whitespace between the items of each list and nowhere else
  pub Spells : Node → List ℕ → Type 0
  Spells (atom p bytes) text = text ≡ bytes
  Spells (list p ts) text = (inner : List ℕ) × SpellsAll ts inner × (text ≡ 40 ∷ (inner ++ 41 ∷ []))

  pub SpellsAll : Nodes → List ℕ → Type 0
  SpellsAll none text = text ≡ []
  SpellsAll (more t ts) text = (first : List ℕ) × (others : List ℕ) × Spells t first × SpellsRest ts others × (text ≡ first ++ others)

  -- with whitespace before each
  pub SpellsRest : Nodes → List ℕ → Type 0
  SpellsRest none text = text ≡ []
  SpellsRest (more t ts) text =
      (gap : List ℕ) × (first : List ℕ) × (others : List ℕ)
      × (0 < length gap) × IsWhitespace gap × Spells t first × SpellsRest ts others × (text ≡ gap ++ (first ++ others))
