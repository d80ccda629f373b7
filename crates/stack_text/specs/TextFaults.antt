-- What is wrong with a text that is no tree's, the first thing from the left.
use Rattle.std.specs.Prelude.{◌≡◌, ℕ, suc, List, [], ◌∷◌, length, Option, Some, None, Result, Ok, Err, nat_lt, if◌then◌else◌}
use Rattle.stack_text.specs.{SharedLimits.{most_nesting}, declared.text_fault.TextRule.{TextRule}}
use Rattle.stack_text.specs.{declared.text_fault.TextRule.TheVariants.{G1, G2, G3, G4, G5, G6}, declared.text_fault.TextFault.{TextFault}}
use Rattle.stack_text.specs.{declared.text_fault.TextFault.TheVariants.{Fault, Memory}, Tokens.{Token, opens_at, closes_at, atom_at}}
use Rattle.stack_text.specs.Tokens.{invalid_at, between, tokens}

-- where a token is: before the tree, in a list that opened at a place and has a context itself, or after the tree
pub data Context : Type 0 where
  before : Context
  within : ℕ → Context → Context
  after : Context

-- how many lists are open
abbrev pub open_lists : Context → ℕ
open_lists before = 0
open_lists (within p s) = suc (open_lists s)
open_lists after = 0

-- after a tree that began there
abbrev pub after_tree : Context → Context
after_tree before = after
after_tree (within p s) = within p s
after_tree after = after

-- the first fault of the tokens from a context on, in a text that ends at a place
abbrev pub first_fault : ℕ → Context → List Token → Option (TextRule × ℕ)
first_fault end before [] = Some (G6, end)
first_fault end (within p s) [] = Some (G2, p)
first_fault end after [] = None
first_fault end before (opens_at q ∷ ts) = first_fault end (within q before) ts
first_fault end before (closes_at q ∷ ts) = Some (G3, q)
first_fault end before (atom_at q w ∷ ts) = first_fault end after ts
first_fault end before (invalid_at q ∷ ts) = Some (G1, q)
first_fault end (within p s) (opens_at q ∷ ts) =
    if nat_lt (open_lists (within p s)) most_nesting then first_fault end (within q (within p s)) ts else Some (G4, q)
first_fault end (within p s) (closes_at q ∷ ts) = first_fault end (after_tree s) ts
first_fault end (within p s) (atom_at q w ∷ ts) = first_fault end (within p s) ts
first_fault end (within p s) (invalid_at q ∷ ts) = Some (G1, q)
first_fault end after (opens_at q ∷ ts) = Some (G5, q)
first_fault end after (closes_at q ∷ ts) = Some (G5, q)
first_fault end after (atom_at q w ∷ ts) = Some (G5, q)
first_fault end after (invalid_at q ∷ ts) = Some (G1, q)

-- the first fault of a text, with its place
abbrev pub text_fault : List ℕ → Option (TextRule × ℕ)
text_fault text = first_fault (length text) before (tokens between 0 text)

-- What reading a text says of its faults: something is read only where there is none, and else the first is returned.
-- Out of memory alone is free.
abbrev pub ReportsFault : {X : Type 0} → List ℕ → Result X TextFault → Type 0
ReportsFault text (Ok x) = text_fault text ≡ None
ReportsFault text (Err (Fault rule place)) = text_fault text ≡ Some (rule, place)
ReportsFault text (Err Memory) = Unit {0}
