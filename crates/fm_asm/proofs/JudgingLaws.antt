-- Where a text spells an image, nothing breaks a rule.
use Rattle.std.proofs.Common.{◌≡◌, ℕ, ◌+◌, ◌%◌, ◌^◌, ◌<◌, ◌≤◌, ◌&&◌, ◌||◌, Bool, true, false, cond, not, List, [], ◌∷◌, ◌++◌, length, map, Option, Some, None}
use Rattle.std.{proofs.Common.{is_some, unwrap_or, refl, sym, ap, subst, ◌∙◌, arith, nat_le, ltb-true}, specs.Prelude.option_to_list, specs.List.flat_map}
use Rattle.std.{specs.List.{list_all, list_any}, specs.Str.bytes_eq, proofs.lemmas.Bool.{and_parts, and_from, not-true}, proofs.lemmas.Bool.Decides.nat_tests}
use Rattle.stack_text.{specs.Breaches.when, proofs.SharedLaws.bytes_apart}
use Rattle.fm_image.specs.Spelling.{are_words}
use Rattle.fm_asm.{specs.Statements.{Statement, base, size, final, start, word, instruction}, specs.Lines.Line, specs.Sources.{word_count, kept}}
use Rattle.fm_asm.specs.Labels.{is_labelled, offset_of, repeated, repeats, number_of, undefined, beyond_size, ends_outside, is_outside, statement_breaches}
use Rattle.fm_asm.specs.Labels.{line_breaches, as_word, statement_words, line_words, final_word, final_in, start_word, start_in, first_value}
use Rattle.fm_asm.specs.Assembly.{AreLines, no_line, one_line, statements_of, labels_of, are_distinct, statement_word}

-- ---- a statement is as it is in its list

-- the words of lines are those of their statements
pub words-lines : (b : ℕ) (known : List ℕ → Option ℕ) (lines : List Line) → flat_map (line_words b known) lines
    ≡ flat_map (λ s. statement_words b known (Some s)) (statements_of lines)
unfolding statement_words
words-lines b known [] = refl
words-lines b known (line ∷ lines) = by_statement line.said.statement (words-lines b known lines)
  where
    by_statement : (s : Option Statement) → flat_map (line_words b known) lines ≡ flat_map (λ t. statement_words b known (Some t)) (statements_of lines)
        → statement_words b known s ++ flat_map (line_words b known) lines ≡ flat_map (λ t. statement_words b known (Some t))
        (option_to_list s ++ statements_of lines)
    by_statement None h = h
    by_statement (Some s) h = ap (λ ws. statement_words b known (Some s) ++ ws) h

-- the first `.final` and `.start` of lines are those of their statements
unfoldable pub final_by : ℕ → (List ℕ → Option ℕ) → List Statement → ℕ
final_by b known [] = 0
final_by b known (s ∷ ss) = unwrap_or (final_word b known (Some s)) (final_by b known ss)

pub final-lines : (b : ℕ) (known : List ℕ → Option ℕ) (lines : List Line) → final_in b known lines ≡ final_by b known (statements_of lines)
unfolding first_value final_by
final-lines b known [] = refl
final-lines b known (line ∷ lines) = by_statement line.said.statement (final-lines b known lines)
  where
    by_statement : (s : Option Statement) → final_in b known lines ≡ final_by b known (statements_of lines)
        → unwrap_or (final_word b known s) (final_in b known lines) ≡ final_by b known (option_to_list s ++ statements_of lines)
    by_statement None h = h
    by_statement (Some s) h = ap (unwrap_or (final_word b known (Some s))) h

unfoldable pub start_by : ℕ → (List ℕ → Option ℕ) → List Statement → ℕ
start_by b known [] = 0
start_by b known (s ∷ ss) = unwrap_or (start_word b known (Some s)) (start_by b known ss)

pub start-lines : (b : ℕ) (known : List ℕ → Option ℕ) (lines : List Line) → start_in b known lines ≡ start_by b known (statements_of lines)
unfolding first_value start_by
start-lines b known [] = refl
start-lines b known (line ∷ lines) = by_statement line.said.statement (start-lines b known lines)
  where
    by_statement : (s : Option Statement) → start_in b known lines ≡ start_by b known (statements_of lines)
        → unwrap_or (start_word b known s) (start_in b known lines) ≡ start_by b known (option_to_list s ++ statements_of lines)
    by_statement None h = h
    by_statement (Some s) h = ap (unwrap_or (start_word b known (Some s))) h

-- ---- numbers that fit

pub as_word-fits : (o : Option ℕ) (w : ℕ) → o ≡ Some w → w < 2 ^ 32 → as_word o ≡ w
as_word-fits o w e h = ap as_word e ∙ small
  where
    small : w % 4294967296 ≡ w
    small = omega arith

-- the words of statements whose numbers are there
pub words-statements : (b : ℕ) (known : List ℕ → Option ℕ) (ss : List Statement) (ws : List ℕ) → map (statement_word b known) ss ≡ map (λ w. Some w) ws
    → are_words ws ≡ true
    → flat_map (λ s. statement_words b known (Some s)) ss ≡ ws
unfolding statement_words statement_word
words-statements b known [] [] h fit = refl
words-statements b known [] (w ∷ ws) h fit = absurd cc
words-statements b known (base x ∷ ss) [] h fit = absurd cc
words-statements b known (size x ∷ ss) [] h fit = absurd cc
words-statements b known (final v ∷ ss) [] h fit = absurd cc
words-statements b known (start v ∷ ss) [] h fit = absurd cc
words-statements b known (word v ∷ ss) [] h fit = absurd cc
words-statements b known (instruction w ∷ ss) [] h fit = absurd cc
words-statements b known (base x ∷ ss) (w ∷ ws) h fit = absurd cc
words-statements b known (size x ∷ ss) (w ∷ ws) h fit = absurd cc
words-statements b known (final v ∷ ss) (w ∷ ws) h fit = absurd cc
words-statements b known (start v ∷ ss) (w ∷ ws) h fit = absurd cc
words-statements b known (word v ∷ ss) (w ∷ ws) h fit =
    let first : number_of b known v ≡ Some w = cc in
    let rest : map (statement_word b known) ss ≡ map (λ w. Some w) ws = cc in
    let parts = and_parts _ _ fit in
    ap (λ x. x ∷ flat_map (λ s. statement_words b known (Some s)) ss) (as_word-fits (number_of b known v) w first (ltb-true w (2 ^ 32) parts.0))
    ∙ ap (λ xs. w ∷ xs) (words-statements b known ss ws rest parts.1)
words-statements b known (instruction None ∷ ss) (w ∷ ws) h fit = absurd cc
words-statements b known (instruction (Some x) ∷ ss) (w ∷ ws) h fit =
    let first : x ≡ w = cc in
    let rest : map (statement_word b known) ss ≡ map (λ w. Some w) ws = cc in
    let parts = and_parts _ _ fit in
    ap (λ y. y ∷ flat_map (λ s. statement_words b known (Some s)) ss) first ∙ ap (λ xs. w ∷ xs) (words-statements b known ss ws rest parts.1)

-- ---- no breach

-- how many of the statements are words
unfoldable pub word_total : List Statement → ℕ
word_total [] = 0
word_total (s ∷ ss) = word_count (Some s) + word_total ss

-- a statement whose values are there, and which ends a run inside the window
unfoldable pub is_good : ℕ → ℕ → (List ℕ → Option ℕ) → Statement → Bool
is_good b n known (base x) = true
is_good b n known (size x) = true
is_good b n known (final v) = is_some (number_of b known v) && not (is_outside b n (number_of b known v))
is_good b n known (start v) = is_some (number_of b known v)
is_good b n known (word v) = is_some (number_of b known v)
is_good b n known (instruction w) = true

not_undefined : (place : ℕ) (o : Option ℕ) → is_some o ≡ true → undefined place o ≡ []
not_undefined place None h = absurd cc
not_undefined place (Some x) h = refl

not_beyond : (place n offset : ℕ) → offset < n → beyond_size place n offset ≡ []
not_beyond place n offset h = rw below refl
  where
    below : nat_le n offset ≡ false
    below = grind (arith, nat_tests)

not_outside : (place b n : ℕ) (o : Option ℕ) → not (is_outside b n o) ≡ true → ends_outside place b n o ≡ []
not_outside place b n o h = by_test (is_outside b n o) h
  where
    by_test : (t : Bool) → not t ≡ true → when t place 7 ≡ []
    by_test true k = absurd cc
    by_test false k = refl

good_statement : (b n : ℕ) (known : List ℕ → Option ℕ) (place offset : ℕ) (s : Statement) → is_good b n known s ≡ true
    → offset + word_count (Some s) ≤ n → statement_breaches b n known place offset (Some s) ≡ []
unfolding statement_breaches is_good
good_statement b n known place offset (base x) h few = refl
good_statement b n known place offset (size x) h few = refl
good_statement b n known place offset (final v) h few =
    let parts = and_parts (is_some (number_of b known v)) (not (is_outside b n (number_of b known v))) h in
    rw (not_undefined place (number_of b known v) parts.0, not_outside place b n (number_of b known v) parts.1) refl
good_statement b n known place offset (start v) h few = not_undefined place (number_of b known v) h
good_statement b n known place offset (word v) h few = rw (not_undefined place (number_of b known v) h, not_beyond place n offset (omega arith)) refl
good_statement b n known place offset (instruction w) h few = not_beyond place n offset (omega arith)

pub good_lines : (b n : ℕ) (known : List ℕ → Option ℕ) (place offset : ℕ) (texts : List (List ℕ)) (lines : List Line)
    → AreLines place offset texts lines → list_all (is_good b n known) (statements_of lines) ≡ true
    → offset + word_total (statements_of lines) ≤ n → flat_map (line_breaches b n known) lines ≡ []
unfolding statement_breaches word_total
good_lines b n known _ _ _ _ (no_line place offset) good few = refl
good_lines b n known _ _ _ _ (one_line place offset bytes said rest lines is_line are) good few =
    by_said said.label said.statement good few (λ g f. good_lines b n known (place + length bytes + 1) (offset + word_count said.statement) rest lines are g f)
  where
    line_of_said : Option (List ℕ) → Option Statement → Line
    line_of_said l s = record { place = place; offset = offset; said = record { label = l; statement = s } }

    by_said : (l : Option (List ℕ)) (s : Option Statement) → list_all (is_good b n known) (statements_of (kept (line_of_said l s) ++ lines)) ≡ true
        → offset + word_total (statements_of (kept (line_of_said l s) ++ lines)) ≤ n
        → (list_all (is_good b n known) (statements_of lines) ≡ true → offset + word_count s + word_total (statements_of lines) ≤ n
        → flat_map (line_breaches b n known) lines ≡ [])
        → flat_map (line_breaches b n known) (kept (line_of_said l s) ++ lines) ≡ []
    by_said None None g f later = later g (omega arith)
    by_said (Some l) None g f later = later g (omega arith)
    by_said None (Some s) g f later =
        let parts = and_parts (is_good b n known s) (list_all (is_good b n known) (statements_of lines)) g in
        rw (good_statement b n known place offset s parts.0 (omega arith)) (later parts.1 (omega arith))
    by_said (Some l) (Some s) g f later =
        let parts = and_parts (is_good b n known s) (list_all (is_good b n known) (statements_of lines)) g in
        rw (good_statement b n known place offset s parts.0 (omega arith)) (later parts.1 (omega arith))

-- ---- labels that differ

-- no earlier line has the label
unfoldable pub is_fresh : List Line → List ℕ → Bool
is_fresh earlier name = not (is_some (offset_of earlier name))

offset-push : (lines : List Line) (line : Line) (name : List ℕ) → is_fresh lines name ≡ true → is_labelled name line.said.label ≡ false
    → is_fresh (lines ++ line ∷ []) name ≡ true
unfolding is_fresh offset_of
offset-push [] line name h other = rw other refl
offset-push (m ∷ lines) line name h other = by_test (is_labelled name m.said.label) h (λ k. offset-push lines line name k other)
  where
    by_test : (t : Bool) → not (is_some (cond t (Some m.offset) (offset_of lines name))) ≡ true
        → (not (is_some (offset_of lines name)) ≡ true → not (is_some (offset_of (lines ++ line ∷ []) name)) ≡ true)
        → not (is_some (cond t (Some m.offset) (offset_of (lines ++ line ∷ []) name))) ≡ true
    by_test true k later = absurd cc
    by_test false k later = later k

-- the labels of later lines are fresh after one more line
fresh-push : (earlier : List Line) (line : Line) (names : List (List ℕ)) → list_all (is_fresh earlier) names ≡ true
    → list_all (λ name. not (is_labelled name line.said.label)) names ≡ true
    → list_all (is_fresh (earlier ++ line ∷ [])) names ≡ true
fresh-push earlier line [] h k = refl
fresh-push earlier line (name ∷ names) h k =
    let a = and_parts _ _ h in
    let b = and_parts _ _ k in
    and_from _ _ (offset-push earlier line name a.0 (not-true (is_labelled name line.said.label) b.0)) (fresh-push earlier line names a.1 b.1)

no_label_all : (names : List (List ℕ)) → list_all (λ name. not (is_labelled name None)) names ≡ true
no_label_all [] = refl
no_label_all (name ∷ names) = no_label_all names

others_differ : (own : List ℕ) (names : List (List ℕ)) → not (list_any (bytes_eq own) names) ≡ true
    → list_all (λ name. not (is_labelled name (Some own))) names ≡ true
others_differ own [] h = refl
others_differ own (name ∷ names) h = by_test (bytes_eq own name) refl h (others_differ own names)
  where
    by_test : (t : Bool) → bytes_eq own name ≡ t → not (t || list_any (bytes_eq own) names) ≡ true
        → (not (list_any (bytes_eq own) names) ≡ true → list_all (λ m. not (is_labelled m (Some own))) names ≡ true)
        → (not (bytes_eq name own) && list_all (λ m. not (is_labelled m (Some own))) names) ≡ true
    by_test true e k later = absurd cc
    by_test false e k later = and_from (not (bytes_eq name own)) _ (ap not (bytes_apart own name e)) (later k)

new_is : (place : ℕ) (t : Bool) → not t ≡ true → when t place 4 ≡ []
new_is place true k = absurd cc
new_is place false k = refl

pub none_repeats : (earlier lines : List Line) → are_distinct (labels_of lines) ≡ true → list_all (is_fresh earlier) (labels_of lines) ≡ true
    → repeats earlier lines ≡ []
unfolding repeats are_distinct is_fresh
none_repeats earlier [] differ fresh = refl
none_repeats earlier (line ∷ lines) differ fresh = by_label _ refl differ fresh (none_repeats (earlier ++ line ∷ []) lines)
  where
    by_label : (l : Option (List ℕ)) → line.said.label ≡ l → are_distinct (option_to_list l ++ labels_of lines) ≡ true
        → list_all (is_fresh earlier) (option_to_list l ++ labels_of lines) ≡ true
        → (are_distinct (labels_of lines) ≡ true → list_all (is_fresh (earlier ++ line ∷ [])) (labels_of lines) ≡ true
        → repeats (earlier ++ line ∷ []) lines ≡ [])
        → repeated (offset_of earlier) line.place l ++ repeats (earlier ++ line ∷ []) lines ≡ []
    by_label None e d f later = later d (fresh-push earlier line (labels_of lines) f
        (subst (λ (o : Option (List ℕ)). list_all (λ name. not (is_labelled name o)) (labels_of lines) ≡ true) (sym e) (no_label_all (labels_of lines))))
    by_label (Some own) e d f later =
        let apart = and_parts _ _ d in
        let new = and_parts _ _ f in
        let now : repeated (offset_of earlier) line.place (Some own) ≡ [] = new_is line.place _ new.0 in
        rw now (later apart.1 (fresh-push earlier line (labels_of lines) new.1
        (subst (λ (o : Option (List ℕ)). list_all (λ name. not (is_labelled name o)) (labels_of lines) ≡ true) (sym e)
        (others_differ own (labels_of lines) apart.0))))
