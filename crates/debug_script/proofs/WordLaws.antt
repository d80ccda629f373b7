-- Words of a line, one after the other.
use Rattle.std.proofs.Common.{◌≡◌, Bor, ◌+◌, ◌-◌, ◌<◌, ◌≤◌, ◌==◌, ℕ, suc, List, [], ◌∷◌, ◌++◌, length, take, drop, map, Bool, true, false, cond, Option, Some}
use Rattle.std.{proofs.Common.{None, refl, sym, ap, subst, ◌∙◌, append-nil, append_assoc, arith}, specs.Prelude.{IfSome, MatchOption, codes}}
use Rattle.std.{specs.List.{onto_first, position, position_or_len, slice_split}, specs.Str.bytes_eq, specs.Option.option_copied, proofs.lemmas.Bool.ltb-false}
use Rattle.std.{proofs.lemmas.List.{drop-drop, length-drop, map-append, take_all, take_rest}, proofs.lemmas.List.Quantifiers.position-Some}
use Rattle.std.{proofs.lemmas.List.Splits.{slice_split_none, slice_split_first}, proofs.lemmas.List.Sums.{position_or_len_is, fails_before_first}}
use Rattle.debug_script.specs.Commands.{SplitsAtOr, depth_behind, is_or, words_left, words_of}

abbrev is_space : ℕ → Bool
is_space byte = byte == 32

-- the first space ends the first word, and what stands behind it is left
pub first_of_more : (line : List ℕ) (at : ℕ) → Some at ≡ position is_space line
    → words_of line ≡ take at line ∷ words_of (take (length line - (at + 1)) (drop (at + 1) line))
first_of_more line at found =
    let there = position-Some is_space line at 0 (sym found) in
    let inside : at < length line = there.0 in
    let place : position_or_len is_space line ≡ at = position_or_len_is is_space line at 0 (omega arith) there.2 (λ _. there.1) in
    let whole : take (length line - (at + 1)) (drop (at + 1) line) ≡ drop (at + 1) line =
    take_all (length line - (at + 1)) (drop (at + 1) line) (omega (arith, length-drop (at + 1) line)) in
    slice_split_first is_space line 0 (omega arith)
    ∙ ap (λ n. take n line ∷ words_of (drop (n + 1) line)) place
    ∙ ap (λ (left : List ℕ). take at line ∷ words_of left) (sym whole)

none_past : (b : Bool) (n : ℕ) → None ≡ cond b (Some n) None → b ≡ false
none_past true n e = absurd cc
none_past false n e = refl

-- a line without a space is one word
pub only_word : (line : List ℕ) → None ≡ position is_space line → words_of line ≡ line ∷ []
only_word line none =
    let past : length line ≤ position_or_len is_space line = ltb-false (position_or_len is_space line) (length line) (none_past _ _ none) in
    slice_split_none is_space line (λ k d lt. fails_before_first is_space line k d (omega arith))

-- what stands behind `depth<=`
pub depth_found : (word : List ℕ) (r : Option (Bor (List ℕ)))
    → MatchOption r (bytes_eq (take 7 word) (codes "depth<=") ≡ false)
    (λ behind. (bytes_eq (take 7 word) (codes "depth<=") ≡ true) × (behind.now ≡ drop 7 word) × (length behind.now + 7 ≡ length word))
    → option_copied r ≡ depth_behind word
unfolding depth_behind
depth_found word None h = ap (λ (b : Bool). cond b (Some (drop 7 word)) None) (sym h)
depth_found word (Some behind) h =
    ap (λ (rest : List ℕ). Some rest) h.1 ∙ ap (λ (b : Bool). cond b (Some (drop 7 word)) None) (sym h.0)

-- what is left is shorter after each word
abbrev pub left_measure : Option (Bor (List ℕ)) → ℕ
left_measure None = 0
left_measure (Some line) = suc (length line.now)

pub smaller : (left behind : Option (Bor (List ℕ))) (line : Bor (List ℕ)) → left ≡ Some line → IfSome behind (λ b. length b.now < length line.now)
    → left_measure behind < left_measure left
smaller left behind line is shorter =
    subst (λ (l : Option (Bor (List ℕ))). left_measure behind < left_measure l) (sym is) (by_behind behind shorter)
  where
    by_behind : (behind : Option (Bor (List ℕ))) → IfSome behind (λ b. length b.now < length line.now) → left_measure behind < suc (length line.now)
    by_behind None shorter = omega arith
    by_behind (Some b) shorter = omega (arith, shorter)

-- a word more is read
pub next_word : (words more : List (Bor (List ℕ))) (left behind : Option (Bor (List ℕ))) (line word : Bor (List ℕ)) (all : List (List ℕ)) → left ≡ Some line
    → more ≡ words ++ word ∷ [] → words_of line.now ≡ word.now ∷ words_left (option_copied behind)
    → map (λ w. w.now) words ++ words_left (option_copied left) ≡ all → map (λ w. w.now) more ++ words_left (option_copied behind) ≡ all
next_word words more left behind line word all is pushed first so_far =
    let rest = words_left (option_copied behind) in
    ap (λ (ws : List (Bor (List ℕ))). map (λ (w : Bor (List ℕ)). w.now) ws ++ rest) pushed
    ∙ ap (λ (ws : List (List ℕ)). ws ++ rest) (map-append (λ (w : Bor (List ℕ)). w.now) words (word ∷ []))
    ∙ append_assoc (map (λ (w : Bor (List ℕ)). w.now) words) (word.now ∷ []) rest
    ∙ ap (λ (ws : List (List ℕ)). map (λ (w : Bor (List ℕ)). w.now) words ++ ws) (sym first)
    ∙ ap (λ (l : Option (Bor (List ℕ))). map (λ (w : Bor (List ℕ)). w.now) words ++ words_left (option_copied l)) (sym is)
    ∙ so_far

-- no word is left
pub all_words : (words : List (Bor (List ℕ))) (left : Option (Bor (List ℕ))) (all : List (List ℕ)) → left ≡ None
    → map (λ w. w.now) words ++ words_left (option_copied left) ≡ all → map (λ w. w.now) words ≡ all
all_words words left all none so_far =
    sym (append-nil (map (λ (w : Bor (List ℕ)). w.now) words))
    ∙ ap (λ (l : Option (Bor (List ℕ))). map (λ (w : Bor (List ℕ)). w.now) words ++ words_left (option_copied l)) (sym none)
    ∙ so_far

-- ---- words between which `or` stands

abbrev pub words_seen : List (Bor (List ℕ)) → List (List ℕ)
words_seen words = map (λ word. word.now) words

abbrev or_in : Bor (List ℕ) → Bool
or_in word = is_or word.now

-- parts of words, as they are seen
split_seen : (words : List (Bor (List ℕ))) → slice_split is_or (words_seen words) ≡ map words_seen (slice_split or_in words)
split_seen [] = refl
split_seen (word ∷ words) = by_test (or_in word) (slice_split or_in words) (slice_split is_or (words_seen words)) (split_seen words)
  where
    by_test : (b : Bool) (parts : List (List (Bor (List ℕ)))) (seen : List (List (List ℕ))) → seen ≡ map words_seen parts
        → cond b ([] ∷ seen) (onto_first word.now seen) ≡ map words_seen (cond b ([] ∷ parts) (onto_first word parts))
    by_test true parts seen e = ap (λ (s : List (List (List ℕ))). [] ∷ s) e
    by_test false [] seen e = ap (onto_first word.now) e
    by_test false (part ∷ parts) seen e = ap (onto_first word.now) e

split_at : (d : Bor (List ℕ)) (words : List (Bor (List ℕ))) (at : ℕ) → Some at ≡ position or_in words
    → SplitsAtOr (words_seen words) (Some (words_seen (take at words), words_seen (drop (at + 1) words)))
split_at d words at found =
    let there = position-Some or_in words at d (sym found) in
    let inside : at < length words = there.0 in
    let place : position_or_len or_in words ≡ at = position_or_len_is or_in words at d (omega arith) there.2 (λ _. there.1) in
    split_seen words
    ∙ ap (map words_seen) (slice_split_first or_in words d (omega arith))
    ∙ ap (λ n. words_seen (take n words) ∷ map words_seen (slice_split or_in (drop (n + 1) words))) place
    ∙ ap (λ (parts : List (List (List ℕ))). words_seen (take at words) ∷ parts) (sym (split_seen (drop (at + 1) words)))

split_somewhere : (words : List (Bor (List ℕ))) (at : ℕ) → Some at ≡ position or_in words
    → SplitsAtOr (words_seen words) (Some (words_seen (take at words), words_seen (drop (at + 1) words)))
split_somewhere [] at found = absurd cc
split_somewhere (word ∷ words) at found = split_at word (word ∷ words) at found

no_split : (words : List (Bor (List ℕ))) → None ≡ position or_in words → SplitsAtOr (words_seen words) None
no_split words none =
    let past : length words ≤ position_or_len or_in words = ltb-false (position_or_len or_in words) (length words) (none_past _ _ none) in
    split_seen words
    ∙ ap (map words_seen) (slice_split_none or_in words (λ k d lt. fails_before_first or_in words k d (omega arith)))

-- of the words from a place on, which are seen as a slice
abbrev rest_from : ℕ → List (Bor (List ℕ)) → List (Bor (List ℕ))
rest_from start words = take (length words - start) (drop start words)

pub split_found : (words : List (Bor (List ℕ))) (start at : ℕ) → Some at ≡ position or_in (rest_from start words)
    → SplitsAtOr (words_seen (drop start words)) (Some (words_seen (take (start + at - start) (drop start words)), words_seen (drop (start + at + 1) words)))
split_found words start at found =
    let left : List (Bor (List ℕ)) = drop start words in
    let far : drop (at + 1) left ≡ drop (start + at + 1) words = drop-drop (at + 1) start words ∙ ap (λ n. drop n words) (omega arith) in
    let near : at ≡ start + at - start = omega arith in
    split_somewhere left at (found ∙ ap (position or_in) (take_rest words start))
    ∙ ap (λ n. words_seen (take n left) ∷ slice_split is_or (words_seen (drop (at + 1) left))) near
    ∙ ap (λ (rest : List (Bor (List ℕ))). words_seen (take (start + at - start) left) ∷ slice_split is_or (words_seen rest)) far

pub split_none : (words : List (Bor (List ℕ))) (start : ℕ) → None ≡ position or_in (rest_from start words)
    → SplitsAtOr (words_seen (drop start words)) None
split_none words start none = no_split (drop start words) (none ∙ ap (position or_in) (take_rest words start))
