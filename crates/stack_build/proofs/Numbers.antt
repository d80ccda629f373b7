-- The numbers of the words of values.
use Rattle.std.{proofs.Common.{◌≡◌, ℕ, zero, suc, ℤ, pos, negsuc, true, List, [], ◌∷◌, ◌++◌, map, refl, sym, ap, ◌∙◌, true≢false}, specs.List.list_all}
use Rattle.std.{proofs.lemmas.Bool.and_parts, proofs.lemmas.List.{map-append, append_assoc}}
use Rattle.stack_text.{specs.declared.shape.Kind.Kind, specs.declared.shape.Kind.TheVariants.{Integer, Boolean, Character}, specs.declared.shape.Shape.Shape}
use Rattle.stack_text.specs.Values.{ValueOf}
use Rattle.fm_words.specs.Word.{word_of_int}
use Rattle.piton_semantics.specs.Addresses.{Addresses, word_number, numbers}
use Rattle.gypsy_syntax.{specs.ProgramFits.Each, specs.Ranges.is_in_range, specs.ValuesFit.{ValueFits, VarsFit}}
use Rattle.gypsy_predef.specs.Runs.{word_of_item, words_of_value}
use Rattle.gypsy_codegen.specs.WordsOf.{words_of_values}
use Rattle.stack_build.{proofs.Bits.no_bit, proofs.Storing.items_words}

truth_number : (A : Addresses) (n : ℕ) → is_in_range Boolean (pos n) ≡ true → word_number A (word_of_item Boolean (pos n)) ≡ n
truth_number A zero h = refl
truth_number A (suc zero) h = refl
truth_number A (suc (suc n)) h = absurd (no_bit n h)

pub item_number : (A : Addresses) (k : Kind) (z : ℤ) → is_in_range k z ≡ true → word_number A (word_of_item k z) ≡ word_of_int z
item_number A Integer z h = refl
item_number A Boolean (pos n) h = truth_number A n h
item_number A Boolean (negsuc n) h = absurd (true≢false (sym h))
item_number A Character z h = refl

items_numbers : (A : Addresses) (k : Kind) (items : List ℤ) → list_all (is_in_range k) items ≡ true
    → numbers A (map (word_of_item k) items) ≡ map word_of_int items
items_numbers A k [] h = refl
items_numbers A k (z ∷ items) h =
    let p = and_parts (is_in_range k z) (list_all (is_in_range k) items) h in
    λ i. item_number A k z p.0 i ∷ items_numbers A k items p.1 i

-- they are the items, each modulo 2^32
pub values_numbers : (A : Addresses) (x : List ValueOf) → Each ValueFits x → numbers A (words_of_values x) ≡ items_words x
values_numbers A [] h = refl
values_numbers A (v ∷ x) h =
    map-append (word_number A) (words_of_value v) (words_of_values x)
    ∙ (λ i. items_numbers A v.shape.kind v.items h.0.items i ++ values_numbers A x h.1 i)

pub each_fits : (shapes : List Shape) (x : List ValueOf) → VarsFit shapes x → Each ValueFits x
each_fits [] [] h = tt
each_fits [] (v ∷ x) h = absurd h
each_fits (s ∷ shapes) [] h = absurd h
each_fits (s ∷ shapes) (v ∷ x) h = (h.1, each_fits shapes x h.2)

pub words_both : (x y : List ValueOf) → items_words (x ++ y) ≡ items_words x ++ items_words y
words_both [] y = refl
words_both (v ∷ x) y =
    ap (λ (l : List ℕ). map word_of_int v.items ++ l) (words_both x y) ∙ sym (append_assoc (map word_of_int v.items) (items_words x) (items_words y))
