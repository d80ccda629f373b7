-- Words on a stack, counted from the bottom.
use Rattle.std.proofs.Common.{◌≡◌, ℕ, zero, suc, ◌+◌, ◌<◌, ◌≤◌, List, [], ◌∷◌, ◌++◌, length, Some, refl, ap, ◌∙◌, arith, length-append}
use Rattle.std.{proofs.lemmas.List.length-map, specs.Prelude.{slice_set, slice_get}}
use Rattle.stack_text.{specs.declared.shape.Shape.Shape, specs.Values.{ValueOf, item_count}, proofs.SharedLaws.{get_front, get_after}}
use Rattle.piton_words.specs.declared.word.Word.{Word}
use Rattle.piton_semantics.{specs.State.{element, with_element}, proofs.ElementLaws.{element_top, element_below, with_element_top, with_element_below}}
use Rattle.gypsy_syntax.{specs.Programs.words_of, specs.ValuesFit.{ValueFits, VarsFit}, specs.Effects.value_at}
use Rattle.gypsy_predef.specs.Runs.{word_of_item, words_of_value, push_all, with_elements}
use Rattle.gypsy_codegen.specs.WordsOf.{words_of_values, words_before, starts}

pub push_all-length : (ws s : List Word) → length (push_all ws s) ≡ length ws + length s
push_all-length [] s = omega arith
push_all-length (w ∷ ws) s = omega (arith, push_all-length ws (w ∷ s))

pub push_all-append : (a b s : List Word) → push_all (a ++ b) s ≡ push_all b (push_all a s)
push_all-append [] b s = refl
push_all-append (w ∷ a) b s = push_all-append a b (w ∷ s)

-- what lies below is as it was
pub below_pushed : (ws s : List Word) (i : ℕ) → i < length s → element (push_all ws s) i ≡ element s i
below_pushed [] s i h = refl
below_pushed (w ∷ ws) s i h = below_pushed ws (w ∷ s) i (omega arith) ∙ element_below w s i h

pub element_of : (ws s : List Word) (i : ℕ) (v : Word) → slice_get ws i ≡ Some v → element (push_all ws s) (length s + i) ≡ Some v
element_of [] s i v h = cc
element_of (w ∷ ws) s zero v h =
    let e : length s + 0 ≡ length s = omega arith in
    ap (element (push_all ws (w ∷ s))) e ∙ below_pushed ws (w ∷ s) (length s) (omega arith) ∙ element_top w s ∙ h
element_of (w ∷ ws) s (suc i) v h =
    let e : length s + suc i ≡ length (w ∷ s) + i = omega arith in
    ap (element (push_all ws (w ∷ s))) e ∙ element_of ws (w ∷ s) i v h

pub set_below : (ws s : List Word) (i : ℕ) (v : Word) → i < length s → with_element (push_all ws s) i v ≡ push_all ws (with_element s i v)
set_below [] s i v h = refl
set_below (w ∷ ws) s i v h = set_below ws (w ∷ s) i v (omega arith) ∙ ap (push_all ws) (with_element_below w v s i h)

pub set_of : (ws s : List Word) (i : ℕ) (v : Word) → i < length ws → with_element (push_all ws s) (length s + i) v ≡ push_all (slice_set ws i v) s
set_of [] s i v h = absurd (omega arith)
set_of (w ∷ ws) s zero v h =
    let e : length s + 0 ≡ length s = omega arith in
    ap (λ j. with_element (push_all ws (w ∷ s)) j v) e ∙ set_below ws (w ∷ s) (length s) v (omega arith) ∙ ap (push_all ws) (with_element_top w v s)
set_of (w ∷ ws) s (suc i) v h =
    let e : length s + suc i ≡ length (w ∷ s) + i = omega arith in
    ap (λ j. with_element (push_all ws (w ∷ s)) j v) e ∙ set_of ws (w ∷ s) i v (omega arith)

-- a list with these from an index on
abbrev pub set_from : List Word → ℕ → List Word → List Word
set_from ws at [] = ws
set_from ws at (v ∷ vs) = slice_set (set_from ws (suc at) vs) at v

set_same-length : (ws : List Word) (i : ℕ) (v : Word) → length (slice_set ws i v) ≡ length ws
set_same-length [] i v = refl
set_same-length (w ∷ ws) zero v = refl
set_same-length (w ∷ ws) (suc i) v = ap suc (set_same-length ws i v)

with_element-length : (s : List Word) (i : ℕ) (v : Word) → length (with_element s i v) ≡ length s
with_element-length s i v = set_same-length s _ v

with_elements-length : (s : List Word) (i : ℕ) (vs : List Word) → length (with_elements s i vs) ≡ length s
with_elements-length s i [] = refl
with_elements-length s i (v ∷ vs) = with_element-length (with_elements s (i + 1) vs) i v ∙ with_elements-length s (i + 1) vs

pub words_below : (vs ws s : List Word) (i : ℕ) → i + length vs ≤ length s → with_elements (push_all ws s) i vs ≡ push_all ws (with_elements s i vs)
words_below [] ws s i h = refl
words_below (v ∷ vs) ws s i h =
    ap (λ z. with_element z i v) (words_below vs ws s (i + 1) (omega (arith, h)))
    ∙ set_below ws (with_elements s (i + 1) vs) i v (omega (arith, h, with_elements-length s (i + 1) vs))

set_from-length : (ws : List Word) (i : ℕ) (vs : List Word) → length (set_from ws i vs) ≡ length ws
set_from-length ws i [] = refl
set_from-length ws i (v ∷ vs) = set_same-length (set_from ws (suc i) vs) i v ∙ set_from-length ws (suc i) vs

pub words_from : (vs ws s : List Word) (i : ℕ) → i + length vs ≤ length ws → with_elements (push_all ws s) (length s + i) vs ≡ push_all (set_from ws i vs) s
words_from [] ws s i h = refl
words_from (v ∷ vs) ws s i h =
    let e : length s + i + 1 ≡ length s + suc i = omega arith in
    ap (λ j. with_element (with_elements (push_all ws s) j vs) (length s + i) v) e
    ∙ ap (λ z. with_element z (length s + i) v) (words_from vs ws s (suc i) (omega (arith, h)))
    ∙ set_of (set_from ws (suc i) vs) s i v (omega (arith, h, set_from-length ws (suc i) vs))

set_behind_one : (w : Word) (ws : List Word) (i : ℕ) (vs : List Word) → set_from (w ∷ ws) (suc i) vs ≡ w ∷ set_from ws i vs
set_behind_one w ws i [] = refl
set_behind_one w ws i (v ∷ vs) = ap (λ l. slice_set l (suc i) v) (set_behind_one w ws (suc i) vs)

set_behind : (a b : List Word) (i : ℕ) (vs : List Word) → set_from (a ++ b) (length a + i) vs ≡ a ++ set_from b i vs
set_behind [] b i vs = let e : 0 + i ≡ i = omega arith in ap (λ j. set_from b j vs) e
set_behind (w ∷ a) b i vs =
    let e : length (w ∷ a) + i ≡ suc (length a + i) = omega arith in
    ap (λ j. set_from (w ∷ (a ++ b)) j vs) e ∙ set_behind_one w (a ++ b) (length a + i) vs ∙ ap (λ l. w ∷ l) (set_behind a b i vs)

set_front : (a b vs : List Word) → length a ≡ length vs → set_from (a ++ b) 0 vs ≡ vs ++ b
set_front [] b [] h = refl
set_front [] b (v ∷ vs) h = absurd (omega (arith, h))
set_front (w ∷ a) b [] h = absurd (omega (arith, h))
set_front (w ∷ a) b (v ∷ vs) h =
    ap (λ l. slice_set l 0 v) (set_behind_one w (a ++ b) 0 vs) ∙ ap (λ l. v ∷ l) (set_front a b vs (omega (arith, h)))

-- Values.

pub value_words : (v : ValueOf) → ValueFits v → length (words_of_value v) ≡ item_count v.shape
value_words v f = length-map v.items (word_of_item v.shape.kind) ∙ f.number

pub values_words : (shapes : List Shape) (y : List ValueOf) → VarsFit shapes y → length (words_of_values y) ≡ words_of shapes
values_words [] [] h = refl
values_words [] (v ∷ y) h = absurd h
values_words (s ∷ shapes) [] h = absurd h
values_words (s ∷ shapes) (v ∷ y) h =
    omega (arith, length-append (words_of_value v) (words_of_values y), value_words v h.1, ap item_count h.0, values_words shapes y h.2)

-- a word of a variable
pub read_word : (shapes : List Shape) (y : List ValueOf) (b h : ℕ) (w : Word) → VarsFit shapes y → b < length shapes
    → slice_get (words_of_value (value_at y b)) h ≡ Some w → slice_get (words_of_values y) (words_before shapes b + h) ≡ Some w
read_word [] y b h w f lt g = absurd (omega (arith, lt))
read_word (s ∷ shapes) [] b h w f lt g = absurd f
read_word (s ∷ shapes) (v ∷ y) zero h w f lt g =
    let e : 0 + h ≡ h = omega arith in
    ap (slice_get (words_of_values (v ∷ y))) e ∙ get_front (words_of_value v) (words_of_values y) h w g
read_word (s ∷ shapes) (v ∷ y) (suc b) h w f lt g =
    let e : item_count s + words_before shapes b + h ≡ length (words_of_value v) + (words_before shapes b + h) =
    omega (arith, value_words v f.1, ap item_count f.0) in
    ap (slice_get (words_of_values (v ∷ y))) e
    ∙ get_after (words_of_value v) (words_of_values y) (words_before shapes b + h)
    ∙ read_word shapes y b h w f.2 (omega (arith, lt)) g

-- a variable written
pub write_words : (shapes : List Shape) (y : List ValueOf) (b : ℕ) (v : ValueOf) → VarsFit shapes y → slice_get shapes b ≡ Some v.shape → ValueFits v
    → set_from (words_of_values y) (words_before shapes b) (words_of_value v) ≡ words_of_values (slice_set y b v)
write_words [] y b v f g h = cc
write_words (s ∷ shapes) [] b v f g h = absurd f
write_words (s ∷ shapes) (u ∷ y) zero v f g h =
    let same : s ≡ v.shape = cc in
    set_front (words_of_value u) (words_of_values y) (words_of_value v)
    (omega (arith, value_words u f.1, value_words v h, ap item_count f.0, ap item_count same))
write_words (s ∷ shapes) (u ∷ y) (suc b) v f g h =
    let e : item_count s + words_before shapes b ≡ length (words_of_value u) + words_before shapes b = omega (arith, value_words u f.1, ap item_count f.0) in
    ap (λ j. set_from (words_of_values (u ∷ y)) j (words_of_value v)) e
    ∙ set_behind (words_of_value u) (words_of_values y) (words_before shapes b) (words_of_value v)
    ∙ ap (λ l. words_of_value u ++ l) (write_words shapes y b v f.2 g h)

-- the words of a variable lie within
pub words_fit : (shapes : List Shape) (b : ℕ) (s : Shape) → slice_get shapes b ≡ Some s → words_before shapes b + item_count s ≤ words_of shapes
words_fit [] b s g = cc
words_fit (t ∷ shapes) zero s g = let same : t ≡ s = cc in omega (arith, ap item_count same)
words_fit (t ∷ shapes) (suc b) s g = let h = words_fit shapes b s g in omega (arith, h)

pub starts_at : (at : ℕ) (shapes : List Shape) (b : ℕ) → b < length shapes → slice_get (starts at shapes) b ≡ Some (at + words_before shapes b)
starts_at at [] b h = absurd (omega (arith, h))
starts_at at (s ∷ shapes) zero h = let e : at ≡ at + 0 = omega arith in ap Some e
starts_at at (s ∷ shapes) (suc b) h =
    let e : at + item_count s + words_before shapes b ≡ at + (item_count s + words_before shapes b) = omega arith in
    starts_at (at + item_count s) shapes b (omega (arith, h)) ∙ ap Some e

pub starts-length : (at : ℕ) (shapes : List Shape) → length (starts at shapes) ≡ length shapes
starts-length at [] = refl
starts-length at (s ∷ shapes) = ap suc (starts-length (at + item_count s) shapes)
