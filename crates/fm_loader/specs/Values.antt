-- The values that a text gives the variables of an image, and the rules V1 to V7 that it may break.
use Rattle.std.specs.Prelude.{ℕ, ℤ, pos, List, [], ◌∷◌, ◌++◌, length, map, Option, Some, None, unwrap_or, Result, Ok, Err, Bool, true}
use Rattle.std.specs.{Prelude.{false, not, ◌&&◌, ◌||◌, ◌==◌, if◌then◌else◌}, Option.{option_map, option_or, ok_or}, List.{list_any}}
use Rattle.std.specs.{List.{list_all, find, IsDistinct}, Str.{bytes_eq}}
use Rattle.stack_text.specs.{declared.text_fault.TextRule.{TextRule}, declared.shape.Kind.{Kind}, declared.shape.Shape.{Shape}}
use Rattle.stack_text.specs.{Results.{◌>>=◌, unless_fault}, Trees.{Node, Nodes, atom, list, none, more, place_of}, TreeIn.{tree_in}}
use Rattle.stack_text.specs.Values.{ValueOf, is_item, same_kind}
use Rattle.fm_image.specs.declared.slot.Slot.{Slot}
use Rattle.fm_loader.specs.{declared.fault.Rule.{Rule}, declared.parsed.Scalar.{Scalar}, declared.parsed.ParsedValue.{ParsedValue}}
use Rattle.fm_loader.specs.{declared.parsed.ParsedValue.TheVariants.{Single, Several}, declared.parsed.Entry.{Entry}, Parsed.{entry_of}}
use Rattle.fm_loader.specs.Rules.{rule_number, Fault}
use Rattle.fm_loader.specs.declared.fault.Rule.TheVariants as rules

-- 1. Entries. A text that is no list of entries breaks the first rule: at its own fault where it is no tree, at a tree
-- that is no list, or at the first item that is no entry.

abbrev pub entry_at : Node → Result Entry Fault
entry_at tree = ok_or (entry_of tree) (rule_number rules.Form, place_of tree)

unfoldable pub entries_of : Nodes → Result (List Entry) Fault
entries_of none = Ok []
entries_of (more tree trees) = do
  entry ← entry_at tree
  others ← entries_of trees
  Ok (entry ∷ others)

-- 2. The rule that an entry breaks, the least of them.

-- the number is there, and one that its kind has
abbrev pub is_there : Kind → Option ℤ → Bool
is_there kind None = false
is_there kind (Some number) = is_item kind number

abbrev pub is_within : Scalar → Bool
is_within scalar = is_there scalar.kind scalar.number

-- an array's slot or another kind, and then a number out of range
abbrev pub single_mismatch : Shape → Scalar → Option Rule
single_mismatch shape scalar =
    if not (shape.length == 0 && same_kind shape.kind scalar.kind) then Some rules.Kind else
    if not (is_within scalar) then Some rules.Range else None

-- a simple type's slot or another kind, then another number of values, and then a number out of range
abbrev pub array_mismatch : Shape → List Scalar → Option Rule
array_mismatch shape scalars =
    if shape.length == 0 || not (list_all (λ scalar. same_kind shape.kind scalar.kind) scalars) then Some rules.Kind else
    if not (length scalars == shape.length) then Some rules.Length else
    if not (list_all is_within scalars) then Some rules.Range else None

-- the rule by which a value does not fit a shape
abbrev pub mismatch : Shape → ParsedValue → Option Rule
mismatch shape (Single scalar) = single_mismatch shape scalar
mismatch shape (Several scalars) = array_mismatch shape scalars

abbrev pub slot_named : List ℕ → List Slot → Option Slot
slot_named name slots = find (λ slot. bytes_eq name slot.name) slots

abbrev pub is_named : List ℕ → List Entry → Bool
is_named name entries = list_any (λ entry. bytes_eq name entry.name) entries

-- a name that no slot has, then one that an earlier entry has, and then a value that does not fit
abbrev pub rule_broken : Option Slot → Bool → ParsedValue → Option Rule
rule_broken None is_repeated value = Some rules.Unknown
rule_broken (Some slot) true value = Some rules.Repeated
rule_broken (Some slot) false value = mismatch slot.shape value

abbrev pub rule_of : List Slot → List Entry → Entry → Option Rule
rule_of slots earlier entry = rule_broken (slot_named entry.name slots) (is_named entry.name earlier) entry.value

abbrev pub fault_at : ℕ → Rule → Fault
fault_at place rule = (rule_number rule, place)

-- the first entry that breaks a rule, after earlier ones
unfoldable pub entry_fault : List Slot → List Entry → List Entry → Option Fault
entry_fault slots earlier [] = None
entry_fault slots earlier (entry ∷ entries) =
    option_or (option_map (fault_at entry.place) (rule_of slots earlier entry)) (entry_fault slots (earlier ++ entry ∷ []) entries)

-- 3. The values, in the order of the slots.

abbrev pub number_of : Scalar → ℤ
number_of scalar = unwrap_or scalar.number (pos 0)

abbrev pub numbers_of : ParsedValue → List ℤ
numbers_of (Single scalar) = number_of scalar ∷ []
numbers_of (Several scalars) = map number_of scalars

-- the numbers in the entry of a name, if there is one
abbrev pub numbers_for : List ℕ → List Entry → Option (List ℤ)
numbers_for name [] = None
numbers_for name (entry ∷ entries) = if bytes_eq name entry.name then Some (numbers_of entry.value) else numbers_for name entries

abbrev pub value_with : Shape → List ℤ → ValueOf
value_with shape items = record { shape = shape; items = items }

abbrev pub value_for : List Entry → Slot → Option ValueOf
value_for entries slot = option_map (value_with slot.shape) (numbers_for slot.name entries)

-- the value of an entry for a slot of the shape
abbrev pub value_or_fault : Shape → Entry → Result ValueOf Fault
value_or_fault shape entry =
    unless_fault (option_map (fault_at entry.place) (mismatch shape entry.value)) (value_with shape (numbers_of entry.value))

-- what each slot gets, where no entry breaks a rule
abbrev pub found_in : List Slot → List Entry → Result (List (Option ValueOf)) Fault
found_in slots entries = unless_fault (entry_fault slots [] entries) (map (value_for entries) slots)

-- a slot without an entry, at the whole list
unfoldable pub all_found : ℕ → List (Option ValueOf) → Result (List ValueOf) Fault
all_found place [] = Ok []
all_found place (found ∷ others) = do
  value ← ok_or found (rule_number rules.Missing, place)
  values ← all_found place others
  Ok (value ∷ values)

unfoldable pub values_at : List Slot → Node → Result (List ValueOf) Fault
values_at slots (atom place word) = Err (rule_number rules.Form, place)
values_at slots (list place trees) = do
  entries ← entries_of trees
  found ← found_in slots entries
  all_found place found

abbrev pub values_on : List Slot → Result Node (TextRule × ℕ) → Result (List ValueOf) Fault
values_on slots (Err fault) = Err (rule_number rules.Form, fault.1)
values_on slots (Ok tree) = values_at slots tree

-- the values that a text gives the slots, or else the rule that it breaks, and where
unfoldable pub values_in : List Slot → List ℕ → Result (List ValueOf) Fault
values_in slots text = values_on slots (tree_in text)

-- no slot has the name of another
abbrev pub HaveOwnNames : List Slot → Type 0
HaveOwnNames slots = IsDistinct bytes_eq (map (λ slot. slot.name) slots)
