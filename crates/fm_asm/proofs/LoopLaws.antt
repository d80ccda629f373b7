-- Loops over lines, and over words.
use Rattle.std.proofs.Common.{◌≡◌, ℕ, ◌+◌, ◌<◌, ◌≤◌, List, [], ◌∷◌, ◌++◌, length, map, get_or, take, drop, Option, Some, None, Bool, true, false, cond, refl}
use Rattle.std.{proofs.Common.{sym, ap, ◌∙◌, ◌^◌, append_assoc, nat_lt, lt-ltb}, specs.Prelude.IsTrue, specs.List.flat_map, proofs.lemmas.Bool.and_from}
use Rattle.std.proofs.lemmas.List.{append-nil, map_push, take_more, take_all, drop_more, drop_all, get_or_default}
use Rattle.stack_text.{specs.declared.breach.Breach.Breach, specs.Breaches.{lesser_of, least, Notes}, proofs.BreachLaws.{notes_more, notes_next}}
use Rattle.stack_text.{proofs.Loops.pieces_next, specs.Options.first_or}
use Rattle.fm_image.specs.Spelling.{are_words}
use Rattle.fm_asm.specs.declared.line.Line as declared
use Rattle.fm_asm.{specs.Lines.{Line, line_of}, specs.Labels.{is_labelled, offset_of, repeated, repeats, first_value}, proofs.TextLaws.all-append}

-- ---- the first value

pub value_found : {X : Type 0} (f : X → Option ℕ) (xs : List X) (i : ℕ) (d : X) (w all : ℕ) → i < length xs → Some w ≡ f (get_or xs i d)
    → first_value f (drop i xs) ≡ all → w ≡ all
unfolding first_value
value_found {X} f xs i d w all lt is so_far = cc (is, drop_more xs i d lt, so_far)

pub value_later : {X : Type 0} (f : X → Option ℕ) (xs : List X) (i : ℕ) (d : X) (all : ℕ) → i < length xs → None ≡ f (get_or xs i d)
    → first_value f (drop i xs) ≡ all → first_value f (drop (i + 1) xs) ≡ all
unfolding first_value
value_later {X} f xs i d all lt is so_far = cc (is, drop_more xs i d lt, so_far)

pub value_nowhere : {X : Type 0} (f : X → Option ℕ) (xs : List X) (i : ℕ) (all : ℕ) → length xs ≤ i → first_value f (drop i xs) ≡ all → 0 ≡ all
unfolding first_value
value_nowhere {X} f xs i all past so_far = ap (first_value f) (sym (drop_all i xs past)) ∙ so_far

-- ---- pieces, and words of 32 bits

pub pieces_at : {X Y : Type 0} (f : X → List Y) (xs : List X) (i : ℕ) (d : X) (old new all : List Y) → i < length xs → new ≡ old ++ f (get_or xs i d)
    → old ++ flat_map f (drop i xs) ≡ all → new ++ flat_map f (drop (i + 1) xs) ≡ all
pieces_at f xs i d old new all lt now so_far = pieces_next f xs i (get_or xs i d) old new all lt (get_or_default xs i d (get_or xs i d) lt) now so_far

pub all_pieces : {X Y : Type 0} (f : X → List Y) (xs : List X) (i : ℕ) (out all : List Y) → length xs ≤ i → out ++ flat_map f (drop i xs) ≡ all → out ≡ all
all_pieces {X} {Y} f xs i out all past so_far = sym (append-nil out) ∙ ap (λ (ys : List X). out ++ flat_map f ys) (sym (drop_all i xs past)) ∙ so_far

pub fit_next : (ws : List ℕ) (i d : ℕ) → i < length ws → get_or ws i d < 2 ^ 32 → IsTrue (are_words (take i ws)) → IsTrue (are_words (take (i + 1) ws))
fit_next ws i d lt small so_far = cc (
  take_more ws i d lt,
  all-append (λ w. nat_lt w (2 ^ 32)) (take i ws) (get_or ws i d ∷ []) so_far (and_from (nat_lt
      (get_or ws i d) (2 ^ 32)) true (lt-ltb (get_or ws i d) (2 ^ 32) small) refl),
)

pub all_fit : (ws : List ℕ) (i : ℕ) → length ws ≤ i → IsTrue (are_words (take i ws)) → IsTrue (are_words ws)
all_fit ws i past so_far = ap are_words (sym (take_all i ws past)) ∙ so_far

-- ---- breaches

pub notes_at : {X : Type 0} (f : X → List Breach) (xs : List X) (i : ℕ) (d : X) (x y z : Option Breach) → i < length xs
    → Notes x (flat_map f (take i xs)) y → Notes y (f (get_or xs i d)) z → Notes x (flat_map f (take (i + 1) xs)) z
notes_at f xs i d x y z lt h k = notes_next f xs i (get_or xs i d) x y z lt (get_or_default xs i d (get_or xs i d) lt) h k

-- ---- labels

offset-push : (lines : List Line) (line : Line) (name : List ℕ) → offset_of (lines ++ line ∷ []) name
    ≡ first_or (offset_of lines name) (is_labelled name line.said.label) line.offset
unfolding offset_of
offset-push [] line name = by_test (is_labelled name line.said.label)
  where
    by_test : (b : Bool) → cond b (Some line.offset) None ≡ first_or None b line.offset
    by_test true = refl
    by_test false = refl
offset-push (m ∷ lines) line name = by_test (is_labelled name m.said.label) (offset-push lines line name)
  where
    by_test : (b : Bool) → offset_of (lines ++ line ∷ []) name ≡ first_or (offset_of lines name) (is_labelled name line.said.label) line.offset
        → cond b (Some m.offset) (offset_of (lines ++ line ∷ []) name) ≡ first_or (cond b (Some m.offset) (offset_of lines name))
        (is_labelled name line.said.label) line.offset
    by_test true h = refl
    by_test false h = h

repeats-push : (earlier lines : List Line) (line : Line) → repeats earlier (lines ++ line ∷ []) ≡ repeats earlier lines
    ++ repeated (offset_of (earlier ++ lines)) line.place line.said.label
unfolding repeats
repeats-push earlier [] line = cc (append-nil (repeated (offset_of earlier) line.place line.said.label), append-nil earlier)
repeats-push earlier (m ∷ lines) line = cc (
  repeats-push (earlier ++ m ∷ []) lines line,
  append_assoc earlier (m ∷ []) lines,
  append_assoc (repeated (offset_of earlier) m.place m.said.label) (repeats (earlier ++ m ∷ []) lines) (repeated (offset_of
      (earlier ++ m ∷ lines)) line.place line.said.label),
)

lines_more : (lines : List declared.Line) (i : ℕ) (d : declared.Line) → i < length lines
    → map line_of (take (i + 1) lines) ≡ map line_of (take i lines) ++ line_of (get_or lines i d) ∷ []
lines_more lines i d lt = ap (map line_of) (take_more lines i d lt) ∙ map_push line_of (take i lines) (get_or lines i d)

-- the table has the labels so far, and one more
pub known_next : (lines : List declared.Line) (i : ℕ) (d : declared.Line) (old new : List ℕ → Option ℕ) → i < length lines
    → ((name : List ℕ) → old name ≡ offset_of (map line_of (take i lines)) name)
    → ((name : List ℕ) → new name ≡ first_or (old name) (is_labelled name (line_of (get_or lines i d)).said.label) (get_or lines i d).offset)
    → (name : List ℕ) → new name ≡ offset_of (map line_of (take (i + 1) lines)) name
known_next lines i d old new lt so_far entered_is name = cc (
  entered_is name,
  so_far name,
  offset-push (map line_of (take i lines)) (line_of
      (get_or lines i d)) name,
  lines_more lines i d lt,
)

-- the repetitions so far, and one more
pub noted_next : (lines : List declared.Line) (i : ℕ) (d : declared.Line) (a b c : Option Breach) (old : List ℕ → Option ℕ) → i < length lines
    → ((name : List ℕ) → old name ≡ offset_of (map line_of (take i lines)) name)
    → Notes a (repeats [] (map line_of (take i lines))) b → Notes b (repeated old (get_or lines i d).place (line_of (get_or lines i d)).said.label) c
    → Notes a (repeats [] (map line_of (take (i + 1) lines))) c
noted_next lines i d a b c old lt so_far h k =
    let known : old ≡ offset_of (map line_of (take i lines)) = λ t name. so_far name t in
    notes_more a b c (repeats [] (map line_of (take i lines))) _ h k ∙ ap (λ (f : List ℕ → Option ℕ). lesser_of a
    (least (repeats [] (map line_of (take i lines)) ++ repeated f (get_or lines i d).place (line_of (get_or lines i d)).said.label))) known
    ∙ ap (λ (bs : List Breach). lesser_of a (least bs)) (sym (repeats-push [] (map line_of (take i lines)) (line_of (get_or lines i d))))
    ∙ ap (λ (ls : List Line). lesser_of a (least (repeats [] ls))) (sym (lines_more lines i d lt))
