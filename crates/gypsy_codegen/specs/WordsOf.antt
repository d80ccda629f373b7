-- The words of values and conditions, and where the words of variables begin.
use Rattle.std.specs.Prelude.{ℕ, suc, ◌+◌, pos, List, [], ◌∷◌, ◌++◌, map, replicate, take, Some, None}
use Rattle.stack_text.specs.{declared.shape.Shape.{Shape}, Values.{ValueOf, item_count}}
use Rattle.piton_words.specs.declared.word.Word.{Word}
use Rattle.gypsy_syntax.specs.Programs.{ConditionOf, Leave, Routine, Space, Declared, Proc, words_of}
use Rattle.gypsy_semantics.specs.Calls.{CurrentCondition}
use Rattle.gypsy_predef.specs.Runs.{words_of_value}

-- the words of values, one after the other
abbrev pub words_of_values : List ValueOf → List Word
words_of_values [] = []
words_of_values (v ∷ x) = words_of_value v ++ words_of_values x

-- the value of a shape whose items are all 0, or false
abbrev pub zero_value : Shape → ValueOf
zero_value s = record { shape = s; items = replicate (item_count s) (pos 0) }

-- the words that stand before variable b, where variables have these shapes
abbrev pub words_before : List Shape → ℕ → ℕ
words_before shapes b = words_of (take b shapes)

-- the index of the first word of each, where the first one stands at this index
abbrev pub starts : ℕ → List Shape → List ℕ
starts at [] = []
starts at (s ∷ shapes) = at ∷ starts (at + item_count s) shapes

-- the shapes of the locals
abbrev pub local_shapes : Proc → List Shape
local_shapes p = map (λ v. v.shape) p.locals

-- the number of a condition in a procedure
abbrev pub number_of : ConditionOf → ℕ
number_of Leave = 0
number_of Routine = 1
number_of Space = 3
number_of (Declared i) = suc (suc (suc (suc i)))

-- what a program ends with: 2 is the number of the normal condition
abbrev pub number_of_way : CurrentCondition → ℕ
number_of_way None = 2
number_of_way (Some c) = number_of c
