-- Values of variables as memory that holds them is read.
use Rattle.std.specs.Prelude.{ℤ, pos, List, map, unsigned_abs}
use Rattle.stack_text.specs.{declared.shape.Kind.{Kind}, declared.shape.Kind.TheVariants.{Integer, Boolean, Character}, Values.{ValueOf}}
use Rattle.fm_words.specs.Word.{are_same_ints}
use Rattle.display_maps.specs.{declared.shown.Shown.{Shown}, declared.shown.Shown.TheVariants.{Number, Truth, Code}}

-- an integer; a Boolean, where 1 is true; a character, by its code
abbrev pub item_shown : Kind → ℤ → Shown
item_shown Integer item = Number item
item_shown Boolean item = Truth (are_same_ints item (pos 1))
item_shown Character item = Code (unsigned_abs item)

-- each item of a value
abbrev pub value_shown : ValueOf → List Shown
value_shown value = map (item_shown value.shape.kind) value.items
