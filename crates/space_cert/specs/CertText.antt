-- The text of a certificate, `((NAME TEMP CTRL)*)`: the bounds that it gives the procedures of a source, the rules Z1 to Z3 that
-- it may break, and how a certificate is written.
use Rattle.std.specs.Prelude.{ℕ, ℤ, pos, negsuc, nat_le, List, [], ◌∷◌, length, get_or, slice_set, Result, Ok, Err, Option, Some, None}
use Rattle.std.specs.{Prelude.{if◌then◌else◌}, Option.{is_some}, Fmt.{decimal}}
use Rattle.stack_text.specs.{Names.{place_among}, declared.text_fault.TextRule.{TextRule}, Results.{◌>>=◌}, Numerals.{is_digits}}
use Rattle.stack_text.specs.{Numerals.{numeral_value}, Trees.{Node, Nodes, atom, list, none, more}, TreeIn.{tree_in}, TreeText.{tree_text}}
use Rattle.stack_text.specs.{Grammar.Printed.{tree_of_all}, TreeNames.{name_of_tree}}
use Rattle.space_cert.specs.{Bounded.{most_bound}, declared.reading.CertTextFault.{CertTextFault}}
use Rattle.space_cert.specs.{declared.reading.CertTextFault.TheVariants.{Refused, Memory}, Covers.{Bounds, no_bounds}}
use Rattle.stack_text.specs.Gives as common

-- the number of a rule, and a place
abbrev pub Fault : Type 0
Fault = ℕ × ℕ

abbrev pub or_fault : {A : Type 0} → Fault → Option A → Result A Fault
or_fault fault None = Err fault
or_fault fault (Some x) = Ok x

-- Z1. An entry is a list of three trees, the first of them a name.

abbrev pub three_of : Nodes → Option (Node × Node × Node)
three_of (more first (more second (more third none))) = Some (first, second, third)
three_of trees = None

-- Z2. A procedure has the name, and no bounds yet.

abbrev pub free_place : Bounds → ℕ → Option ℕ
free_place bs p = if is_some (get_or bs p None) then None else Some p

abbrev pub place_for : Bounds → Option ℕ → Option ℕ
place_for bs None = None
place_for bs (Some p) = free_place bs p

-- Z3. A bound is a word of digits alone, whose number is at most 2^40.

abbrev pub up_to_limit : ℤ → Option ℕ
up_to_limit (pos n) = if nat_le n most_bound then Some n else None
up_to_limit (negsuc n) = None

abbrev pub number_of : List ℕ → Option ℕ
number_of word = if is_digits word then up_to_limit (numeral_value word) else None

abbrev pub number_at : Node → Option ℕ
number_at (atom place word) = number_of word
number_at (list place trees) = None

-- An entry gives a procedure its bounds, where the entries before it gave bs. The first entry that breaks a rule decides, by the
-- least rule that it breaks, at its place.

unfoldable pub parts_entry : List (List ℕ) → Bounds → ℕ → Node × Node × Node → Result (ℕ × (ℕ × ℕ)) Fault
parts_entry names bs place parts = do
  name ← or_fault (1, place) (name_of_tree parts.0)
  p ← or_fault (2, place) (place_for bs (place_among name names))
  temp ← or_fault (3, place) (number_at parts.1)
  ctrl ← or_fault (3, place) (number_at parts.2)
  Ok (p, (temp, ctrl))

unfoldable pub entry_at : List (List ℕ) → Bounds → Node → Result (ℕ × (ℕ × ℕ)) Fault
entry_at names bs (atom place word) = Err (1, place)
entry_at names bs (list place trees) = or_fault (1, place) (three_of trees) >>= parts_entry names bs place

unfoldable pub with_entries : List (List ℕ) → Bounds → Nodes → Result Bounds Fault
with_entries names bs none = Ok bs
with_entries names bs (more tree trees) = entry_at names bs tree >>= λ e. with_entries names (slice_set bs e.0 (Some e.1)) trees

-- Z1: the tree is no list
abbrev pub bounds_at : List (List ℕ) → Node → Result Bounds Fault
bounds_at names (atom place word) = Err (1, place)
bounds_at names (list place trees) = with_entries names (no_bounds (length names)) trees

-- Z1: the text is no tree
abbrev pub bounds_on : List (List ℕ) → Result Node (TextRule × ℕ) → Result Bounds Fault
bounds_on names (Err fault) = Err (1, fault.1)
bounds_on names (Ok tree) = bounds_at names tree

-- the bounds that a text gives the procedures of these names, or the rule that it breaks, and where
unfoldable pub bounds_in : List (List ℕ) → List ℕ → Result Bounds Fault
bounds_in names text = bounds_on names (tree_in text)

-- As it is written: an entry for each procedure that has bounds, in order, with one space between.

abbrev pub entry_tree : List ℕ → ℕ × ℕ → Node
entry_tree name b = tree_of_all (atom 0 name ∷ atom 0 (decimal b.0) ∷ atom 0 (decimal b.1) ∷ [])

abbrev pub entry_trees : List (List ℕ) → Bounds → List Node
entry_trees [] bs = []
entry_trees (name ∷ names) [] = []
entry_trees (name ∷ names) (None ∷ bs) = entry_trees names bs
entry_trees (name ∷ names) (Some b ∷ bs) = entry_tree name b ∷ entry_trees names bs

abbrev pub certificate_tree : List (List ℕ) → Bounds → Node
certificate_tree names bs = tree_of_all (entry_trees names bs)

unfoldable pub certificate_text : List (List ℕ) → Bounds → List ℕ
certificate_text names bs = tree_text (certificate_tree names bs)

-- What a call says of a text.

abbrev pub fault_of : CertTextFault → Option Fault
fault_of (Refused rule place) = Some (rule, place)
fault_of Memory = None

-- the call returned exactly what the definition gives, seen through the view, unless memory was refused
abbrev pub GivesCertificateTextUnless : {X Y : Type 0} → Type 0 → (X → Y) → Result X CertTextFault → Result Y Fault → Type 0
GivesCertificateTextUnless refused view result value = common.GivesUnless refused fault_of view result value
