-- What holds of a source that was read, and where nothing breaks a rule.
use Rattle.std.proofs.Common.{◌≡◌, ℕ, ◌+◌, ◌-◌, ◌^◌, ◌≤◌, ◌==◌, Bool, true, false, cond, not, List, [], ◌∷◌, ◌++◌, length, Option, Some, None, Result, Ok, Err}
use Rattle.std.{proofs.Common.{is_some, is_none, refl, sym, ap, subst, ◌∙◌, arith, nat_le, leb-true, ltb-true, leb-false}, specs.Prelude.option_to_list}
use Rattle.std.{specs.Result.result_unwrap_or, specs.List.{flat_map, list_all, slice_split}, proofs.lemmas.Bool.{and_parts, and_from}}
use Rattle.stack_text.{specs.Results.◌>>=◌, specs.declared.breach.Breach.Breach, proofs.SharedLaws.{rule_fails, append_none}}
use Rattle.fm_image.specs.Limits.{is_size, is_inside}
use Rattle.fm_asm.{specs.declared.due.Due.Due, specs.Values.{Value, number, label}, specs.Statements.{Statement, base, size, final, start, word, instruction}}
use Rattle.fm_asm.{specs.Lines.{Said, Line}, specs.Sources.{due_after, due_after_line, at_place, said_of_line, line_read, word_count, kept, SourceOf}}
use Rattle.fm_asm.{specs.Sources.{with_lines, lines_read, source_in, IsOfText}, specs.Labels.{offset_of, number_of, undefined, beyond_size, ends_outside}}
use Rattle.fm_asm.specs.Labels.{is_outside, statement_breaches, line_breaches, repeats, breaches, as_word, statement_words, words_of, final_in}
use Rattle.fm_asm.{specs.Assembly.statements_of, proofs.SourceLaws.{dues, statements-kept, paired}, proofs.JudgingLaws.{words-lines, final_by, final-lines}}
use Rattle.fm_asm.proofs.JudgingLaws.{as_word-fits, word_total, is_good}
use Rattle.fm_asm.specs.declared.due.Due.TheVariants as due

-- ---- what was read

-- each line knows how many words stand before it
unfoldable pub HasOffsets : ℕ → List Line → Type 0
HasOffsets offset [] = Unit {0}
HasOffsets offset (line ∷ lines) = (line.offset ≡ offset) × HasOffsets (offset + word_count line.said.statement) lines

pub record IsReadFrom (offset : ℕ) (d : Due) (s : SourceOf) : Type 0 where
  pub offsets : HasOffsets offset s.lines
  pub in_order : dues d (statements_of s.lines) ≡ Ok (due.Words s.base s.size)

OnRead : ℕ → Due → Result SourceOf Breach → Type 0
OnRead offset d (Ok s) = IsReadFrom offset d s
OnRead offset d (Err fault) = Unit {0}

dues-front : (d next : Due) (s : Option Statement) (rest : List Statement) → due_after_line d s ≡ Ok next → dues d (option_to_list s ++ rest) ≡ dues next rest
unfolding dues
dues-front d next None rest h = let same : d ≡ next = cc in ap (λ (e : Due). dues e rest) same
dues-front d next (Some s) rest h = ap (λ (r : Result Due ℕ). r >>= λ e. dues e rest) h

offsets-kept : (place offset : ℕ) (l : Option (List ℕ)) (s : Option Statement) (lines : List Line) → HasOffsets (offset + word_count s) lines
    → HasOffsets offset (kept (record { place = place; offset = offset; said = record { label = l; statement = s } }) ++ lines)
unfolding HasOffsets
offsets-kept place offset None None lines h = let same : offset + 0 ≡ offset = omega arith in subst (λ (o : ℕ). HasOffsets o lines) same h
offsets-kept place offset None (Some s) lines h = (refl, h)
offsets-kept place offset (Some l) None lines h = (refl, h)
offsets-kept place offset (Some l) (Some s) lines h = (refl, h)

on_with : (place offset : ℕ) (d next : Due) (said : Said) (r : Result SourceOf Breach) → due_after_line d said.statement ≡ Ok next
    → OnRead (offset + word_count said.statement) next r
    → OnRead offset d (with_lines (kept (record { place = place; offset = offset; said = said })) r)
unfolding OnRead
on_with place offset d next said (Err fault) h k = tt
on_with place offset d next said (Ok s) h k = record {
  offsets = offsets-kept place offset said.label said.statement s.lines k.offsets;
  in_order = cc (statements-kept place offset said s.lines, dues-front d next said.statement (statements_of s.lines) h, k.in_order);
}

due_of : (d : Due) (bytes : List ℕ) (said : Said) (next : Due) → line_read d bytes ≡ Ok (said, next) → due_after_line d said.statement ≡ Ok next
unfolding line_read
due_of d bytes said next h = by_said (said_of_line bytes) h
  where
    by_due : (s : Said) (r : Result Due ℕ) → due_after_line d s.statement ≡ r → (r >>= λ e. paired s e) ≡ Ok (said, next)
        → due_after_line d said.statement ≡ Ok next
    by_due s (Err rule) is k = absurd cc
    by_due s (Ok e) is k =
        let first : s ≡ said = ap (λ (r : Result (Said × Due) ℕ). (result_unwrap_or r (said, next)).0) k in
        let second : e ≡ next = ap (λ (r : Result (Said × Due) ℕ). (result_unwrap_or r (said, next)).1) k in
        let ok : Due → Result Due ℕ = λ x. Ok x in
        ap (λ (t : Said). due_after_line d t.statement) (sym first) ∙ is ∙ ap ok second

    by_said : (r : Result Said ℕ) → (r >>= λ s. due_after_line d s.statement >>= λ e. paired s e) ≡ Ok (said, next) → due_after_line d said.statement ≡ Ok next
    by_said (Err rule) k = absurd cc
    by_said (Ok s) k = by_due s (due_after_line d s.statement) refl k

on_line : (end place offset : ℕ) (d : Due) (bytes : List ℕ) (rest : List (List ℕ)) (r : Result (Said × Due) ℕ) → line_read d bytes ≡ r
    → ((o : ℕ) (e : Due) → OnRead o e (lines_read end (place + length bytes + 1) o e rest))
    → OnRead offset d (at_place place r >>= λ next. with_lines (kept (record { place = place; offset = offset; said = next.0 }))
    (lines_read end (place + length bytes + 1) (offset + word_count next.0.statement) next.1 rest))
unfolding OnRead
on_line end place offset d bytes rest (Err rule) is later = tt
on_line end place offset d bytes rest (Ok x) is later = on_with place offset d x.1 x.0 _ (due_of d bytes x.0 x.1 is)
    (later (offset + word_count x.0.statement) x.1)

on_read : (end place offset : ℕ) (d : Due) (texts : List (List ℕ)) → OnRead offset d (lines_read end place offset d texts)
unfolding lines_read OnRead HasOffsets dues
on_read end place offset due.Base [] = tt
on_read end place offset (due.Size b) [] = tt
on_read end place offset (due.Final b n) [] = tt
on_read end place offset (due.Start b n) [] = tt
on_read end place offset (due.Words b n) [] = record { offsets = tt; in_order = refl }
on_read end place offset d (bytes ∷ rest) = on_line end place offset d bytes rest _ refl (λ o e. on_read end (place + length bytes + 1) o e rest)

pub read_is : (s : SourceOf) → IsOfText s → IsReadFrom 0 due.Base s
unfolding OnRead source_in
read_is s (text, is) = subst (OnRead 0 due.Base) is (on_read (length text) 0 0 due.Base (slice_split (λ b. b == 10) text))

-- ---- the header

-- the statements after one that is due, up to the end of a window
record EndsSo (b n : ℕ) (x y : ℕ) : Type 0 where
  base_is : x ≡ b
  size_is : y ≡ n

words_end : (b n x y : ℕ) (ss : List Statement) → dues (due.Words x y) ss ≡ Ok (due.Words b n) → EndsSo b n x y
unfolding dues due_after
words_end b n x y [] h = record { base_is = cc; size_is = cc }
words_end b n x y (base z ∷ ss) h = absurd cc
words_end b n x y (size z ∷ ss) h = absurd cc
words_end b n x y (final v ∷ ss) h = absurd cc
words_end b n x y (start v ∷ ss) h = absurd cc
words_end b n x y (word (number None) ∷ ss) h = absurd cc
words_end b n x y (word (number (Some z)) ∷ ss) h = words_end b n x y ss h
words_end b n x y (word (label name) ∷ ss) h = words_end b n x y ss h
words_end b n x y (instruction None ∷ ss) h = absurd cc
words_end b n x y (instruction (Some w) ∷ ss) h = words_end b n x y ss h

pub record HasHeader (b n : ℕ) (ss : List Statement) : Type 0 where
  pub sized : is_size b n ≡ true
  pub end_value : Value
  pub start_value : Value
  pub words : List Statement
  pub words_due : dues (due.Words b n) words ≡ Ok (due.Words b n)
  pub is : ss ≡ base (Some b) ∷ size (Some n) ∷ final end_value ∷ start start_value ∷ words

header_made : (b n x y : ℕ) (v w : Value) (ss : List Statement) → is_size x y ≡ true → dues (due.Words x y) ss ≡ Ok (due.Words b n)
    → HasHeader b n (base (Some x) ∷ size (Some y) ∷ final v ∷ start w ∷ ss)
header_made b n x y v w ss sized h =
    let e = words_end b n x y ss h in
    record {
      sized = cc (e.base_is, e.size_is, sized);
      end_value = v;
      start_value = w;
      words = ss;
      words_due = subst (λ (m : ℕ). dues (due.Words m n) ss ≡ Ok (due.Words b n)) e.base_is
          (subst (λ (m : ℕ). dues (due.Words x m) ss ≡ Ok (due.Words b n)) e.size_is h);
      is = cc (e.base_is, e.size_is);
    }

after_final : (b n x y : ℕ) (v : Value) (ss : List Statement) → is_size x y ≡ true → dues (due.Start x y) ss ≡ Ok (due.Words b n)
    → HasHeader b n (base (Some x) ∷ size (Some y) ∷ final v ∷ ss)
unfolding dues due_after
after_final b n x y v [] sized h = absurd cc
after_final b n x y v (base z ∷ ss) sized h = absurd cc
after_final b n x y v (size z ∷ ss) sized h = absurd cc
after_final b n x y v (final z ∷ ss) sized h = absurd cc
after_final b n x y v (start (number None) ∷ ss) sized h = absurd cc
after_final b n x y v (start (number (Some z)) ∷ ss) sized h = header_made b n x y v (number (Some z)) ss sized h
after_final b n x y v (start (label name) ∷ ss) sized h = header_made b n x y v (label name) ss sized h
after_final b n x y v (word z ∷ ss) sized h = absurd cc
after_final b n x y v (instruction z ∷ ss) sized h = absurd cc

after_size : (b n x y : ℕ) (ss : List Statement) → is_size x y ≡ true → dues (due.Final x y) ss ≡ Ok (due.Words b n)
    → HasHeader b n (base (Some x) ∷ size (Some y) ∷ ss)
unfolding dues due_after
after_size b n x y [] sized h = absurd cc
after_size b n x y (base z ∷ ss) sized h = absurd cc
after_size b n x y (size z ∷ ss) sized h = absurd cc
after_size b n x y (final (number None) ∷ ss) sized h = absurd cc
after_size b n x y (final (number (Some z)) ∷ ss) sized h = after_final b n x y (number (Some z)) ss sized h
after_size b n x y (final (label name) ∷ ss) sized h = after_final b n x y (label name) ss sized h
after_size b n x y (start z ∷ ss) sized h = absurd cc
after_size b n x y (word z ∷ ss) sized h = absurd cc
after_size b n x y (instruction z ∷ ss) sized h = absurd cc

after_base : (b n x : ℕ) (ss : List Statement) → dues (due.Size x) ss ≡ Ok (due.Words b n) → HasHeader b n (base (Some x) ∷ ss)
unfolding dues due_after
after_base b n x [] h = absurd cc
after_base b n x (base z ∷ ss) h = absurd cc
after_base b n x (size None ∷ ss) h = absurd cc
after_base b n x (size (Some y) ∷ ss) h = by_test (is_size x y) refl h
  where
    by_test : (t : Bool) → is_size x y ≡ t → (cond t (Ok (due.Final x y)) (Err 3) >>= λ e. dues e ss) ≡ Ok (due.Words b n)
        → HasHeader b n (base (Some x) ∷ size (Some y) ∷ ss)
    by_test true e k = after_size b n x y ss e k
    by_test false e k = absurd cc
after_base b n x (final z ∷ ss) h = absurd cc
after_base b n x (start z ∷ ss) h = absurd cc
after_base b n x (word z ∷ ss) h = absurd cc
after_base b n x (instruction z ∷ ss) h = absurd cc

pub header_of : (b n : ℕ) (ss : List Statement) → dues due.Base ss ≡ Ok (due.Words b n) → HasHeader b n ss
unfolding dues due_after
header_of b n [] h = absurd cc
header_of b n (base None ∷ ss) h = absurd cc
header_of b n (base (Some x) ∷ ss) h = after_base b n x ss h
header_of b n (size z ∷ ss) h = absurd cc
header_of b n (final z ∷ ss) h = absurd cc
header_of b n (start z ∷ ss) h = absurd cc
header_of b n (word z ∷ ss) h = absurd cc
header_of b n (instruction z ∷ ss) h = absurd cc

-- ---- where nothing breaks a rule

is_there : (o : Option ℕ) → is_none o ≡ false → is_some o ≡ true
is_there None h = absurd cc
is_there (Some x) h = refl

good_of : (b n : ℕ) (known : List ℕ → Option ℕ) (place offset : ℕ) (s : Statement) → statement_breaches b n known place offset (Some s) ≡ [] → offset ≤ n
    → (is_good b n known s ≡ true) × (offset + word_count (Some s) ≤ n)
unfolding statement_breaches is_good
good_of b n known place offset (base x) h le = (refl, omega arith)
good_of b n known place offset (size x) h le = (refl, omega arith)
good_of b n known place offset (final v) h le =
    let parts = append_none (undefined place (number_of b known v)) (ends_outside place b n (number_of b known v)) h in
    let there = is_there (number_of b known v) (rule_fails (is_none (number_of b known v)) place 5 parts.0) in
    let within = rule_fails (is_outside b n (number_of b known v)) place 7 parts.1 in
    (and_from (is_some (number_of b known v)) (not (is_outside b n (number_of b known v))) there (ap not within), omega arith)
good_of b n known place offset (start v) h le = (is_there (number_of b known v) (rule_fails (is_none (number_of b known v)) place 5 h), omega arith)
good_of b n known place offset (word v) h le =
    let parts = append_none (undefined place (number_of b known v)) (beyond_size place n offset) h in
    let below = leb-false n offset (rule_fails (nat_le n offset) place 6 parts.1) in
    (is_there (number_of b known v) (rule_fails (is_none (number_of b known v)) place 5 parts.0), omega arith)
good_of b n known place offset (instruction w) h le =
    let below = leb-false n offset (rule_fails (nat_le n offset) place 6 h) in
    (refl, omega arith)

pub record AreGood (b n : ℕ) (known : List ℕ → Option ℕ) (offset : ℕ) (ss : List Statement) : Type 0 where
  pub good : list_all (is_good b n known) ss ≡ true
  pub few : offset + word_total ss ≤ n

pub lines_good : (b n : ℕ) (known : List ℕ → Option ℕ) (offset : ℕ) (lines : List Line) → HasOffsets offset lines
    → flat_map (line_breaches b n known) lines ≡ [] → offset ≤ n → AreGood b n known offset (statements_of lines)
unfolding HasOffsets word_total statement_breaches
lines_good b n known offset [] h k le = record { good = refl; few = omega arith }
lines_good b n known offset (line ∷ lines) h k le = by_statement _ h.1 (append_none (statement_breaches b n known line.place line.offset line.said.statement)
    (flat_map (line_breaches b n known) lines) k) (λ o hs ks les. lines_good b n known o lines hs ks les)
  where
    by_statement : (s : Option Statement) → HasOffsets (offset + word_count s) lines → (statement_breaches b n known line.place line.offset s ≡ [])
        × (flat_map (line_breaches b n known) lines ≡ [])
        → ((o : ℕ) → HasOffsets o lines → flat_map (line_breaches b n known) lines ≡ [] → o ≤ n → AreGood b n known o (statements_of lines))
        → AreGood b n known offset (option_to_list s ++ statements_of lines)
    by_statement None hs parts later =
        let l = later _ hs parts.1 (omega arith) in
        record { good = l.good; few = omega arith }
    by_statement (Some s) hs parts later =
        let at : line.offset ≤ n = omega arith in
        let g = good_of b n known line.place line.offset s parts.0 at in
        let l = later _ hs parts.1 (omega arith) in
        record { good = and_from _ _ g.0 l.good; few = omega arith }

words_counted : (b : ℕ) (known : List ℕ → Option ℕ) (ss : List Statement) → length (flat_map (λ s. statement_words b known (Some s)) ss) ≡ word_total ss
unfolding statement_words word_total
words_counted b known [] = refl
words_counted b known (base x ∷ ss) = let l = words_counted b known ss in omega arith
words_counted b known (size x ∷ ss) = let l = words_counted b known ss in omega arith
words_counted b known (final v ∷ ss) = let l = words_counted b known ss in omega arith
words_counted b known (start v ∷ ss) = let l = words_counted b known ss in omega arith
words_counted b known (word v ∷ ss) = let l = words_counted b known ss in omega arith
words_counted b known (instruction w ∷ ss) = let l = words_counted b known ss in omega arith

-- what an image asks of a source that breaks no rule
pub record IsFit (s : SourceOf) : Type 0 where
  pub sized : is_size s.base s.size ≡ true
  pub inside : is_inside s.base s.size (final_in s.base (offset_of s.lines) s.lines) ≡ true
  pub few : length (words_of s) ≤ s.size

found_inside : (b n : ℕ) (o : Option ℕ) → is_some o ≡ true → not (is_outside b n o) ≡ true → is_size b n ≡ true → is_inside b n (as_word o) ≡ true
found_inside b n None there within sized = absurd cc
found_inside b n (Some a) there within sized =
    let inside : is_inside b n a ≡ true = not_not (is_inside b n a) within in
    let limit = leb-true (b + n) (2 ^ 32 - 1) (and_parts _ _ sized).1 in
    let below = ltb-true a (b + n) (and_parts _ _ inside).1 in
    ap (is_inside b n) (as_word-fits (Some a) a refl (omega (arith, limit, below))) ∙ inside
  where
    not_not : (t : Bool) → not (not t) ≡ true → t ≡ true
    not_not true h = refl
    not_not false h = absurd cc

pub source_fits : (s : SourceOf) → IsOfText s → breaches s ≡ [] → IsFit s
unfolding breaches final_by is_good
source_fits s read none =
    let r = read_is s read in
    let h = header_of s.base s.size _ r.in_order in
    let parts = append_none (repeats [] s.lines) _ none in
    let g = lines_good s.base s.size _ 0 s.lines r.offsets parts.1 (omega arith) in
    let good : list_all (is_good s.base s.size (offset_of s.lines))
    (base (Some s.base) ∷ size (Some s.size) ∷ final h.end_value ∷ start h.start_value ∷ h.words) ≡ true =
    ap (list_all (is_good s.base s.size (offset_of s.lines))) (sym h.is) ∙ g.good in
    let ended = and_parts (is_some (number_of s.base (offset_of s.lines) h.end_value)) _ (and_parts _ _ good).0 in
    let last : final_in s.base (offset_of s.lines) s.lines ≡ as_word (number_of s.base (offset_of s.lines) h.end_value) =
    final-lines s.base _ s.lines ∙ ap (final_by s.base (offset_of s.lines)) h.is in
    let count : length (words_of s) ≡ word_total (statements_of s.lines) = ap length (words-lines s.base (offset_of s.lines) s.lines)
    ∙ words_counted s.base _ _ in
    record { sized = h.sized; inside = cc (last, found_inside s.base s.size _ ended.0 ended.1 h.sized); few = omega arith }
