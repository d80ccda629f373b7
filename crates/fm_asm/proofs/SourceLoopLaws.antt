-- The lines of a text, one after the other.
use Rattle.std.proofs.Common.{◌≡◌, Bor, ℕ, suc, ◌+◌, ◌-◌, ◌≤◌, ◌<◌, ◌==◌, Bool, true, false, cond, List, [], ◌∷◌, ◌++◌, length, Option, Some, None, Result, Ok}
use Rattle.std.{proofs.Common.{Err, refl, sym, ap, subst, ◌∙◌, arith, append_assoc, append-nil}, specs.List.{slice_split, onto_first}}
use Rattle.std.{specs.Option.option_copied, proofs.lemmas.List.length-append}
use Rattle.stack_text.specs.declared.breach.Breach.{Breach}
use Rattle.fm_asm.{specs.declared.due.Due.Due, specs.Cuts.{Cut, in_front, cut}, specs.Lines.{Said, Line}, specs.Sources.{line_read, word_count, kept, SourceOf}}
use Rattle.fm_asm.{specs.Sources.{window_of, ended_by, ended, with_lines, lines_read, source_in}, proofs.CutLaws.{cut_whole, whole}}
use Rattle.fm_asm.specs.declared.due.Due.TheVariants as due

-- what is left of a text of so many bytes, after so many words
abbrev pub IsWithin : Option (Bor (List ℕ)) → ℕ → ℕ → Type 0
IsWithin None offset total = Unit {0}
IsWithin (Some left) offset total = offset + length left.now ≤ total

-- its length, a measure of it, and its lines
abbrev pub left_length : Option (Bor (List ℕ)) → ℕ
left_length None = 0
left_length (Some left) = length left.now

abbrev pub left_measure : Option (Bor (List ℕ)) → ℕ
left_measure None = 0
left_measure (Some left) = suc (length left.now)

abbrev pub lines_left : Option (Bor (List ℕ)) → List (List ℕ)
lines_left None = []
lines_left (Some left) = slice_split (λ b. b == 10) left.now

-- ---- a line is cut off

lines_of_rest : Option (List ℕ) → List (List ℕ)
lines_of_rest None = []
lines_of_rest (Some rest) = slice_split (λ b. b == 10) rest

split-cut : (left : List ℕ) → slice_split (λ b. b == 10) left ≡ (cut 10 left).0 ∷ lines_of_rest (cut 10 left).1
unfolding cut lines_of_rest
split-cut [] = refl
split-cut (b ∷ left) = by_test (b == 10) (split-cut left)
  where
    here : Bool → Cut
    here t = cond t (let now : Cut = ([], Some left) in now) (in_front b (cut 10 left))

    by_test : (t : Bool) → slice_split (λ b. b == 10) left ≡ (cut 10 left).0 ∷ lines_of_rest (cut 10 left).1
        → cond t ([] ∷ slice_split (λ b. b == 10) left) (onto_first b (slice_split (λ b. b == 10) left))
        ≡ (cond t (let now : Cut = ([], Some left) in now) (in_front b (cut 10 left))).0
        ∷ lines_of_rest (cond t (let now : Cut = ([], Some left) in now) (in_front b (cut 10 left))).1
    by_test true h = refl
    by_test false h = ap (onto_first b) h

left-after : (after : Option (Bor (List ℕ))) → lines_of_rest (option_copied after) ≡ lines_left after
unfolding lines_of_rest
left-after None = refl
left-after (Some a) = refl

pub split_off : (left bytes : List ℕ) (after : Option (Bor (List ℕ))) → (let parts : Cut = (bytes, option_copied after) in parts) ≡ cut 10 left
    → slice_split (λ b. b == 10) left ≡ bytes ∷ lines_left after
split_off left bytes after is = cc (split-cut left, is, left-after after)

-- the length of what is cut
pub whole_length : Option (Bor (List ℕ)) → List ℕ → ℕ
whole_length None bytes = length bytes
whole_length (Some a) bytes = length bytes + 1 + length a.now

pub cut_length : (left bytes : List ℕ) (after : Option (Bor (List ℕ))) → (let parts : Cut = (bytes, option_copied after) in parts) ≡ cut 10 left
    → length left ≡ whole_length after bytes
unfolding whole whole_length
cut_length left bytes after is = ap length (cut_whole 10 left ∙ ap (λ (parts : Cut). whole 10 parts.0 parts.1) (sym is)) ∙ by_after after
  where
    by_after : (after : Option (Bor (List ℕ))) → length (whole 10 bytes (option_copied after)) ≡ whole_length after bytes
    by_after None = refl
    by_after (Some a) = omega (arith, length-append bytes (10 ∷ a.now))

-- ---- a line is read

with_lines-twice : (xs ys : List Line) (r : Result SourceOf Breach) → with_lines xs (with_lines ys r) ≡ with_lines (xs ++ ys) r
with_lines-twice xs ys (Ok s) =
    let found : List Line → Result SourceOf Breach = λ ls. Ok (record { base = s.base; size = s.size; lines = ls }) in
    ap found (sym (append_assoc xs ys s.lines))
with_lines-twice xs ys (Err fault) = refl

-- where no line is left, places and counts play no part
any_place : (end p q o r : ℕ) (d : Due) → lines_read end p o d [] ≡ lines_read end q r d []
unfolding lines_read
any_place end p q o r d = refl

place_after : (end count : ℕ) (left bytes : List ℕ) (after : Option (Bor (List ℕ))) (d : Due) → length left ≤ end → length left ≡ whole_length after bytes
    → lines_read end (end - length left + length bytes + 1) count d (lines_left after) ≡ lines_read end (end - left_length after) count d (lines_left after)
unfolding whole_length
place_after end count left bytes None d within long = any_place end (end - length left + length bytes + 1) (end - 0) count count d
place_after end count left bytes (Some a) d within long =
    let same : end - length left + length bytes + 1 ≡ end - length a.now = omega arith in
    ap (λ (p : ℕ). lines_read end p count d (slice_split (λ b. b == 10) a.now)) same

pub next_line : (end offset : ℕ) (left bytes : List ℕ) (after : Option (Bor (List ℕ))) (d next : Due) (said : Said) (before new : List Line)
    (all : Result SourceOf Breach)
    → (let parts : Cut = (bytes, option_copied after) in parts) ≡ cut 10 left → length left ≤ end
    → with_lines before (lines_read end (end - length left) offset d (slice_split (λ b. b == 10) left)) ≡ all
    → line_read d bytes ≡ Ok (said, next) → new ≡ before ++ kept (record { place = end - length left; offset = offset; said = said })
    → with_lines new (lines_read end (end - left_length after) (offset + word_count said.statement) next (lines_left after)) ≡ all
unfolding lines_read
next_line end offset left bytes after d next said before new all parts within so_far reads pushed =
    let line : Line = record { place = end - length left; offset = offset; said = said } in
    let later = lines_read end (end - length left + length bytes + 1) (offset + word_count said.statement) next (lines_left after) in
    let read : lines_read end (end - length left) offset d (bytes ∷ lines_left after) ≡ with_lines (kept line) later = rw reads refl in
    ap (λ (ls : List Line). with_lines ls (lines_read end (end - left_length after) (offset + word_count said.statement) next (lines_left after))) pushed
    ∙ ap (with_lines (before ++ kept line)) (sym
    (place_after end (offset + word_count said.statement) left bytes after next within (cut_length left bytes after parts)))
    ∙ sym (with_lines-twice before (kept line) later)
    ∙ ap (with_lines before) (sym read)
    ∙ ap (λ (ts : List (List ℕ)). with_lines before (lines_read end (end - length left) offset d ts)) (sym (split_off left bytes after parts))
    ∙ so_far

pub line_fails : (end offset rule : ℕ) (left bytes : List ℕ) (after : Option (Bor (List ℕ))) (d : Due) (before : List Line) (all : Result SourceOf Breach)
    → (let parts : Cut = (bytes, option_copied after) in parts) ≡ cut 10 left
    → with_lines before (lines_read end (end - length left) offset d (slice_split (λ b. b == 10) left)) ≡ all
    → line_read d bytes ≡ Err rule → all ≡ Err (record { rule = rule; place = end - length left })
unfolding lines_read
line_fails end offset rule left bytes after d before all parts so_far reads =
    let failed : lines_read end (end - length left) offset d (bytes ∷ lines_left after) ≡ Err (record {
      rule = rule;
      place = end - length left;
    }) = rw reads refl in
    sym so_far ∙ ap (λ (ts : List (List ℕ)). with_lines before (lines_read end (end - length left) offset d ts)) (split_off left bytes after parts)
    ∙ ap (with_lines before) failed

-- ---- no line is left

pub all_read : (end place offset b n : ℕ) (before : List Line) (all : Result SourceOf Breach)
    → with_lines before (lines_read end place offset (due.Words b n) []) ≡ all
    → all ≡ Ok (record { base = b; size = n; lines = before })
unfolding lines_read
all_read end place offset b n before all so_far =
    let found : List Line → Result SourceOf Breach = λ ls. Ok (record { base = b; size = n; lines = ls }) in
    sym so_far ∙ ap found (append-nil before)

-- ---- the same for what the loop holds

with_lines-none : (r : Result SourceOf Breach) → with_lines [] r ≡ r
with_lines-none (Ok s) = refl
with_lines-none (Err fault) = refl

pub begins : (text : List ℕ) (items : List Line) → items ≡ [] → with_lines items
    (lines_read (length text) (length text - length text) 0 due.Base (slice_split (λ b. b == 10) text)) ≡ source_in text
unfolding source_in
begins text items none =
    let zero_place : length text - length text ≡ 0 = omega arith in
    ap (λ (ls : List Line). with_lines ls (lines_read (length text) (length text - length text) 0 due.Base (slice_split (λ b. b == 10) text))) none
    ∙ with_lines-none _ ∙ ap (λ (p : ℕ). lines_read (length text) p 0 due.Base (slice_split (λ b. b == 10) text)) zero_place

pub smaller : (rest : Option (Bor (List ℕ))) (left : Bor (List ℕ)) (bytes : List ℕ) (after : Option (Bor (List ℕ))) → rest ≡ Some left
    → (let parts : Cut = (bytes, option_copied after) in parts) ≡ cut 10 left.now → left_measure after < left_measure rest
unfolding whole_length
smaller rest left bytes after is parts = subst (λ r. left_measure after < left_measure r) (sym is) (by_after after (cut_length left.now bytes after parts))
  where
    by_after : (after : Option (Bor (List ℕ))) → length left.now ≡ whole_length after bytes → left_measure after < suc (length left.now)
    by_after None h = omega arith
    by_after (Some a) h = omega (arith, h)

pub within_next : (rest : Option (Bor (List ℕ))) (left : Bor (List ℕ)) (bytes : List ℕ) (after : Option (Bor (List ℕ))) (offset count total : ℕ)
    → rest ≡ Some left → (let parts : Cut = (bytes, option_copied after) in parts) ≡ cut 10 left.now
    → IsWithin rest offset total → count < 2 → IsWithin after (offset + count) total
unfolding whole_length
within_next rest left bytes after offset count total is parts within few =
    by_after after (cut_length left.now bytes after parts) (subst (λ (r : Option (Bor (List ℕ))). IsWithin r offset total) is within)
  where
    by_after : (after : Option (Bor (List ℕ))) → length left.now ≡ whole_length after bytes → offset + length left.now ≤ total
        → IsWithin after (offset + count) total
    by_after None h le = tt
    by_after (Some a) h le = omega (arith, h)

pub left_within : (rest : Option (Bor (List ℕ))) (left : Bor (List ℕ)) (offset total : ℕ) → rest ≡ Some left → IsWithin rest offset total
    → offset + length left.now ≤ total
left_within rest left offset total is within = subst (λ (r : Option (Bor (List ℕ))). IsWithin r offset total) is within

so_far_at : (end offset : ℕ) (rest : Option (Bor (List ℕ))) (left : Bor (List ℕ)) (d : Due) (before : List Line) (all : Result SourceOf Breach)
    → rest ≡ Some left
    → with_lines before (lines_read end (end - left_length rest) offset d (lines_left rest)) ≡ all
    → with_lines before (lines_read end (end - length left.now) offset d (slice_split (λ b. b == 10) left.now)) ≡ all
so_far_at end offset rest left d before all is h = cc

pub step_on : (end offset count : ℕ) (rest : Option (Bor (List ℕ))) (left : Bor (List ℕ)) (bytes : List ℕ) (after : Option (Bor (List ℕ)))
    (d next : Due) (said : Said) (before new : List Line) (all : Result SourceOf Breach)
    → rest ≡ Some left → (let parts : Cut = (bytes, option_copied after) in parts) ≡ cut 10 left.now → IsWithin rest offset end
    → with_lines before (lines_read end (end - left_length rest) offset d (lines_left rest)) ≡ all
    → line_read d bytes ≡ Ok (said, next) → new ≡ before ++ kept (record { place = end - length left.now; offset = offset; said = said })
    → count ≡ word_count said.statement
    → with_lines new (lines_read end (end - left_length after) (offset + count) next (lines_left after)) ≡ all
step_on end offset count rest left bytes after d next said before new all is parts within so_far reads pushed counted =
    let le : offset + length left.now ≤ end = left_within rest left offset end is within in
    let short : length left.now ≤ end = omega arith in
    ap (λ (k : ℕ). with_lines new (lines_read end (end - left_length after) (offset + k) next (lines_left after))) counted
    ∙ next_line end offset left.now bytes after d next said before new all parts short (so_far_at end offset rest left d before all is so_far) reads pushed

pub step_fails : (end offset rule : ℕ) (rest : Option (Bor (List ℕ))) (left : Bor (List ℕ)) (bytes : List ℕ) (after : Option (Bor (List ℕ))) (d : Due)
    (before : List Line) (all : Result SourceOf Breach)
    → rest ≡ Some left → (let parts : Cut = (bytes, option_copied after) in parts) ≡ cut 10 left.now
    → with_lines before (lines_read end (end - left_length rest) offset d (lines_left rest)) ≡ all
    → line_read d bytes ≡ Err rule → all ≡ Err (record { rule = rule; place = end - length left.now })
step_fails end offset rule rest left bytes after d before all is parts so_far reads =
    line_fails end offset rule left.now bytes after d before all parts (so_far_at end offset rest left d before all is so_far) reads

pub ends_well : (end offset : ℕ) (rest : Option (Bor (List ℕ))) (d : Due) (window : ℕ × ℕ) (before : List Line) (all : Result SourceOf Breach)
    → rest ≡ None → with_lines before (lines_read end (end - left_length rest) offset d (lines_left rest)) ≡ all → Some window ≡ window_of d
    → all ≡ Ok (record { base = window.0; size = window.1; lines = before })
unfolding lines_read
ends_well end offset rest d window before all is so_far there =
    let at_end : with_lines before (ended end d) ≡ all = subst (λ r. with_lines before (lines_read end (end - left_length r) offset d
    (lines_left r)) ≡ all) is so_far in
    sym at_end ∙ ap (λ o. with_lines before (ended_by end o)) (sym there)
    ∙ (let found : List Line → Result SourceOf Breach = λ ls. Ok (record { base = window.0; size = window.1; lines = ls }) in ap found (append-nil before))

pub ends_early : (end offset : ℕ) (rest : Option (Bor (List ℕ))) (d : Due) (before : List Line) (all : Result SourceOf Breach)
    → rest ≡ None → with_lines before (lines_read end (end - left_length rest) offset d (lines_left rest)) ≡ all → None ≡ window_of d
    → all ≡ Err (record { rule = 2; place = end })
unfolding lines_read
ends_early end offset rest d before all is so_far there = cc
