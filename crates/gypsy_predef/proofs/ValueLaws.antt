-- What the arguments of a call read as.
use Rattle.std.proofs.Common.{◌≡◌, ℕ, ◌+◌, ◌<◌, pos, Some, Bool, true, false, List, [], ◌∷◌, length, map, get_or, refl, ap, ◌∙◌, subst, arith}
use Rattle.std.{specs.Prelude.slice_get, specs.Option.option_map, proofs.lemmas.Option.{slice_get-map, slice_get-get_or}}
use Rattle.stack_text.{specs.declared.shape.Kind.Kind, specs.declared.shape.Shape.Shape, specs.Values.{ValueOf, item_count}, proofs.SharedLaws.one_item}
use Rattle.piton_words.{specs.declared.word.Word.Word, specs.declared.word.Word.TheVariants.Bool as Truth}
use Rattle.piton_semantics.specs.State.{element}
use Rattle.gypsy_syntax.{specs.declared.slot.Form.TheVariants.{Simple, Array}, specs.declared.slot.Slot.Slot, specs.Programs.simple}
use Rattle.gypsy_syntax.{specs.ProgramFits.slot_kind, specs.Ranges.is_in_range, specs.ValuesFit.ValueFits, specs.Effects.{item_of_value, truth_value}}
use Rattle.gypsy_syntax.proofs.RangeLaws.{simple_item}
use Rattle.gypsy_predef.{specs.Runs.{word_of_item, words_of_value, Argument, ArgumentFits, ArgumentsFit}, proofs.StackLaws.element_there}

-- a simple value has one item, and is one word
pub simple_items : (k : Kind) (v : ValueOf) → v.shape ≡ simple k → ValueFits v → v.items ≡ item_of_value v ∷ []
simple_items k v e f = one_item v.items (f.number ∙ ap item_count e)

pub simple_words : (k : Kind) (v : ValueOf) → v.shape ≡ simple k → ValueFits v → words_of_value v ≡ word_of_item k (item_of_value v) ∷ []
simple_words k v e f = ap (λ (s : Shape). map (word_of_item s.kind) v.items) e ∙ ap (map (word_of_item k)) (simple_items k v e f)

-- a simple variable: its element, and its item's range
pub record IsSimple (stack : List Word) (k : Kind) (a : Argument) : Type 0 where
  pub word : element stack a.index ≡ Some (word_of_item k (item_of_value a.value))
  pub low : a.index < length stack
  pub range : is_in_range k (item_of_value a.value) ≡ true
  pub words : words_of_value a.value ≡ word_of_item k (item_of_value a.value) ∷ []

pub simple_argument : (stack : List Word) (k : Kind) (a : Argument) → ArgumentFits stack Simple k a → IsSimple stack k a
simple_argument stack k a f =
    let words : words_of_value a.value ≡ word_of_item k (item_of_value a.value) ∷ [] = simple_words k a.value f.0 f.1 in
    let first : element stack (a.index + 0) ≡ Some (word_of_item k (item_of_value a.value)) =
    f.2 0 (word_of_item k (item_of_value a.value)) (ap (λ ws. slice_get ws 0) words) in
    let same : a.index + 0 ≡ a.index = omega arith in
    let word : element stack a.index ≡ Some (word_of_item k (item_of_value a.value)) =
    subst (λ i. element stack i ≡ Some (word_of_item k (item_of_value a.value))) same first in
    record {
      word = word;
      low = element_there stack a.index (word_of_item k (item_of_value a.value)) word;
      range = simple_item k a.value f.0 f.1;
      words = words;
    }

-- a literal's word
pub literal_word : (k : Kind) (v : ValueOf) → v.shape ≡ simple k → word_of_item v.shape.kind (item_of_value v) ≡ word_of_item k (item_of_value v)
literal_word k v e = ap (λ (s : Shape). word_of_item s.kind (item_of_value v)) e

pub truth_words : (b : Bool) → words_of_value (truth_value b) ≡ Truth b ∷ []
truth_words true = refl
truth_words false = refl

-- the arguments of two or three slots
pub for_two : (stack : List Word) (k : Kind) (s t : Slot) (P : List Argument → Type 0) →
    ((a b : Argument) → ArgumentFits stack s.form (slot_kind k s.kind) a → ArgumentFits stack t.form (slot_kind k t.kind) b → P (a ∷ b ∷ [])) →
    (args : List Argument) → ArgumentsFit stack k (s ∷ t ∷ []) args → P args
for_two stack k s t P go [] h = absurd h
for_two stack k s t P go (a ∷ []) h = absurd h.1
for_two stack k s t P go (a ∷ b ∷ []) h = go a b h.0 h.1.0
for_two stack k s t P go (a ∷ b ∷ c ∷ args) h = absurd h.1.1

pub for_three : (stack : List Word) (k : Kind) (s t u : Slot) (P : List Argument → Type 0) →
    ((a b c : Argument) → ArgumentFits stack s.form (slot_kind k s.kind) a → ArgumentFits stack t.form (slot_kind k t.kind) b →
    ArgumentFits stack u.form (slot_kind k u.kind) c → P (a ∷ b ∷ c ∷ [])) →
    (args : List Argument) → ArgumentsFit stack k (s ∷ t ∷ u ∷ []) args → P args
for_three stack k s t u P go [] h = absurd h
for_three stack k s t u P go (a ∷ []) h = absurd h.1
for_three stack k s t u P go (a ∷ b ∷ []) h = absurd h.1.1
for_three stack k s t u P go (a ∷ b ∷ c ∷ []) h = go a b c h.0 h.1.0 h.1.1.0
for_three stack k s t u P go (a ∷ b ∷ c ∷ d ∷ args) h = absurd h.1.1.1

-- an element of an array
pub array_word : (stack : List Word) (k : Kind) (a : Argument) (i : ℕ) → ArgumentFits stack Array k a → i < length a.value.items →
    element stack (a.index + i) ≡ Some (word_of_item a.value.shape.kind (get_or a.value.items i (pos 0)))
array_word stack k a i f l =
    f.2 i (word_of_item a.value.shape.kind (get_or a.value.items i (pos 0)))
    (slice_get-map (word_of_item a.value.shape.kind) a.value.items i ∙ ap (option_map (word_of_item a.value.shape.kind))
    (slice_get-get_or a.value.items i (pos 0) l))
