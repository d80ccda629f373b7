-- The text of a word by its tag and what follows.
use Rattle.std.proofs.Common.{◌≡◌, ℕ, List, [], ◌∷◌, ◌++◌, refl, ap, ◌∙◌, append_assoc}
use Rattle.stack_text.specs.TreeText.{spaced_text, tree_text}
use Rattle.piton_syntax.{specs.declared.tag.Tag.Tag, specs.declared.word_text.WordItem.WordItem, specs.Operations.tag_name, specs.Printed.item_parts}
use Rattle.piton_syntax.specs.Printed.{item_tree, tag_of}
use Rattle.piton_syntax.specs.declared.word_text.WordItem.TheVariants as item

item_text : (i : WordItem) → tree_text (item_tree i) ≡ 40 ∷ ((tag_name (tag_of i) ++ spaced_text (item_parts i)) ++ 41 ∷ [])
item_text (item.Int n) = refl
item_text (item.Nat n) = refl
item_text (item.Bitv n) = refl
item_text (item.Bool b) = refl
item_text (item.Addr area n) = refl
item_text (item.Pc program n) = refl
item_text (item.Subr program) = refl

pub printed_item : (out opened inner closed : List ℕ) (i : WordItem) (t : Tag) → t ≡ tag_of i → opened ≡ out ++ 40 ∷ tag_name t
    → inner ≡ opened ++ spaced_text (item_parts i) → closed ≡ inner ++ 41 ∷ []
    → closed ≡ out ++ tree_text (item_tree i)
printed_item out opened inner closed i t tag_is opened_is inner_is closed_is =
    let text : List ℕ = spaced_text (item_parts i) in
    rw (closed_is, inner_is, opened_is, tag_is, item_text i)
    (ap (λ (w : List ℕ). w ++ 41 ∷ []) (append_assoc out (40 ∷ tag_name (tag_of i)) text) ∙ append_assoc out (40 ∷ (tag_name (tag_of i) ++ text)) (41 ∷ []))
