-- Texts that are printed one after the other.
use Rattle.std.proofs.Common.{◌≡◌, ◌++◌, ◌∙◌, ◌⊎◌, ℕ, List, Option, Some, None, Bool, true, false, length, take, drop, refl, ap, sym, subst, inl, inr, arith}
use Rattle.std.{proofs.Common.{append_assoc, append-nil}, proofs.lemmas.Bool.ne_eqb, proofs.lemmas.List.Elements.{All-head, All-tail}}
use Rattle.std.{proofs.Math.Seq.take-append_seam, proofs.lemmas.List.take-append-drop, specs.Prelude.{◌∷◌, [], ◌<◌, ◌≢◌, ◌==◌, All, if◌then◌else◌}}
use Rattle.stack_shelf.specs.Shelf.{appended, PrefixAppended}
use Rattle.command_line.specs.Devices.{IsFirstLine, onto_first, lines_of, took_each}

pub appended-appended : (taken : Option (List ℕ)) (a b : List ℕ) → appended (appended taken a) b ≡ appended taken (a ++ b)
appended-appended None a b = refl
appended-appended (Some t) a b = ap (λ (l : List ℕ). Some l) (append_assoc t a b)

-- one more line was printed
pub line_printed : (old mid new : Option (List ℕ)) (done line after text : List ℕ) → done ++ (line ++ after) ≡ text → mid ≡ appended old done
    → new ≡ appended mid line → (all : List ℕ) × (all ++ after ≡ text) × (new ≡ appended old all)
line_printed old mid new done line after text whole was now =
    (done ++ line, append_assoc done line after ∙ whole, now ∙ ap (λ (t : Option (List ℕ)). appended t line) was ∙ appended-appended old done line)

-- a prefix of what follows, after all that was printed before it, is a prefix of the whole
pub later_prefix : (old mid new : Option (List ℕ)) (done line after text : List ℕ) → done ++ (line ++ after) ≡ text → mid ≡ appended old done
    → PrefixAppended mid new line → PrefixAppended old new text
later_prefix old mid new done line after text whole was prefix =
    let all_before : List ℕ = done ++ take prefix.0 line in
    let split : all_before ++ (drop prefix.0 line ++ after) ≡ text =
    append_assoc done (take prefix.0 line) (drop prefix.0 line ++ after)
    ∙ ap (λ (l : List ℕ). done ++ l) (sym (append_assoc (take prefix.0 line) (drop prefix.0 line) after)
    ∙ ap (λ (l : List ℕ). l ++ after) (take-append-drop prefix.0 line))
    ∙ whole in
    let taken : take (length all_before) text ≡ all_before =
    ap (λ (l : List ℕ). take (length all_before) l) (sym split) ∙ take-append_seam all_before (drop prefix.0 line ++ after) in (
      length all_before,
      prefix.1 ∙ ap (λ (t : Option (List ℕ)). appended t (take prefix.0 line)) was ∙ appended-appended old done (take prefix.0 line)
          ∙ ap (λ (l : List ℕ). appended old l) (sym taken),
    )

-- nothing was printed, which is a prefix of each text
pub nothing_printed : (taken now : Option (List ℕ)) (text : List ℕ) → now ≡ taken → PrefixAppended taken now text
nothing_printed None now text same = (0, same)
nothing_printed (Some t) now text same = (0, same ∙ ap (λ (l : List ℕ). Some l) (sym (append-nil t)))

-- a byte that is no line feed goes on the first line
on_first : (byte : ℕ) (text : List ℕ) → byte ≢ 10 → lines_of (byte ∷ text) ≡ onto_first byte (lines_of text)
on_first byte text other = ap (λ (b : Bool). if b then (byte ∷ []) ∷ lines_of text else onto_first byte (lines_of text)) (ne_eqb byte 10 other)

-- a last line without a line feed is one line
last_line : (byte : ℕ) (line : List ℕ) → All (λ b. b ≢ 10) (byte ∷ line) → lines_of (byte ∷ line) ≡ (byte ∷ line) ∷ []
last_line byte [] others = on_first byte [] (All-head (λ b. b ≢ 10) byte [] others)
last_line byte (next ∷ line) others =
    on_first byte (next ∷ line) (All-head (λ b. b ≢ 10) byte (next ∷ line) others)
    ∙ ap (onto_first byte) (last_line next line (All-tail (λ b. b ≢ 10) byte (next ∷ line) others))

not_below : 0 < 0 → ⊥
not_below below = omega (arith, below)

only_line : (line rest : List ℕ) → 0 < length line → All (λ b. b ≢ 10) line → rest ≡ []
    → lines_of (line ++ rest) ≡ line ∷ lines_of rest
only_line [] rest some others ends = absurd (not_below some)
only_line (byte ∷ line) rest some others ends =
    subst (λ (r : List ℕ). lines_of ((byte ∷ line) ++ r) ≡ (byte ∷ line) ∷ lines_of r) (sym ends)
    (ap lines_of (append-nil (byte ∷ line)) ∙ last_line byte line others)

-- a line that ends with its first line feed is the first of the lines
ended_line : (before rest : List ℕ) → All (λ b. b ≢ 10) before
    → lines_of ((before ++ 10 ∷ []) ++ rest) ≡ (before ++ 10 ∷ []) ∷ lines_of rest
ended_line [] rest others = refl
ended_line (byte ∷ before) rest others =
    on_first byte ((before ++ 10 ∷ []) ++ rest) (All-head (λ b. b ≢ 10) byte before others)
    ∙ ap (onto_first byte) (ended_line before rest (All-tail (λ b. b ≢ 10) byte before others))

-- the first line of a text, and the lines after it
first_of_lines : (line rest : List ℕ) → 0 < length line → IsFirstLine line rest → lines_of (line ++ rest) ≡ line ∷ lines_of rest
first_of_lines line rest some (inl (others, ends)) = only_line line rest some others ends
first_of_lines line rest some (inr (before, is, others)) =
    subst (λ (l : List ℕ). lines_of (l ++ rest) ≡ l ∷ lines_of rest) (sym is) (ended_line before rest others)

-- what is still to be taken, once a sink took one more line
pub line_taken : {S : Type 0} (took : S → List ℕ → S) (before out now : S) (line after rest text : List ℕ)
    → took_each took before (lines_of text) ≡ took_each took out (lines_of rest) → line ++ after ≡ rest → 0 < length line
    → IsFirstLine line after → now ≡ took out line → took_each took before (lines_of text) ≡ took_each took now (lines_of after)
line_taken took before out now line after rest text still whole some first is =
    still ∙ ap (λ (lines : List (List ℕ)). took_each took out lines) (ap lines_of (sym whole) ∙ first_of_lines line after some first)
    ∙ ap (λ s. took_each took s (lines_of after)) (sym is)

-- Texts one after the other, where the first one is whole lines.

abbrev lines_by : Bool → ℕ → List (List ℕ) → List (List ℕ)
lines_by ends byte lines = if ends then (byte ∷ []) ∷ lines else onto_first byte lines

some_by : (ends : Bool) (byte : ℕ) (lines : List (List ℕ)) → (first : List ℕ) × (others : List (List ℕ)) × (lines_by ends byte lines ≡ first ∷ others)
some_by true byte lines = (byte ∷ [], lines, refl)
some_by false byte [] = (byte ∷ [], [], refl)
some_by false byte (line ∷ lines) = (byte ∷ line, lines, refl)

some_lines : (before : List ℕ) → (first : List ℕ) × (others : List (List ℕ)) × (lines_of (before ++ 10 ∷ []) ≡ first ∷ others)
some_lines [] = (10 ∷ [], [], refl)
some_lines (byte ∷ before) = some_by (byte == 10) byte (lines_of (before ++ 10 ∷ []))

seam_by : (ends : Bool) (byte : ℕ) (first : List ℕ) (others rest : List (List ℕ))
    → lines_by ends byte ((first ∷ others) ++ rest) ≡ lines_by ends byte (first ∷ others) ++ rest
seam_by true byte first others rest = refl
seam_by false byte first others rest = refl

-- the lines of a text that ends with a line feed, and then those of what follows it
lines_seam : (before rest : List ℕ) → lines_of ((before ++ 10 ∷ []) ++ rest) ≡ lines_of (before ++ 10 ∷ []) ++ lines_of rest
lines_seam [] rest = refl
lines_seam (byte ∷ before) rest =
    let some = some_lines before in
    ap (lines_by (byte == 10) byte) (lines_seam before rest ∙ ap (λ (lines : List (List ℕ)). lines ++ lines_of rest) some.2)
    ∙ seam_by (byte == 10) byte some.0 some.1 (lines_of rest)
    ∙ sym (ap (λ (lines : List (List ℕ)). lines_by (byte == 10) byte lines ++ lines_of rest) some.2)

took_both : {S : Type 0} (took : S → List ℕ → S) (sink : S) (pieces more : List (List ℕ))
    → took_each took sink (pieces ++ more) ≡ took_each took (took_each took sink pieces) more
took_both took sink [] more = refl
took_both took sink (piece ∷ pieces) more = took_both took (took sink piece) pieces more

abbrev TookBoth : {S : Type 0} → (S → List ℕ → S) → S → List ℕ → List ℕ → Type 0
TookBoth took sink text rest = took_each took (took_each took sink (lines_of text)) (lines_of rest) ≡ took_each took sink (lines_of (text ++ rest))

-- a sink took a text that is empty or ends with a line feed, and then the lines of what follows it: it took those of both
pub took_lines_of_both : {S : Type 0} (took : S → List ℕ → S) (sink : S) (text rest : List ℕ)
    → (text ≡ []) ⊎ ((before : List ℕ) × (text ≡ before ++ 10 ∷ []))
    → took_each took (took_each took sink (lines_of text)) (lines_of rest) ≡ took_each took sink (lines_of (text ++ rest))
took_lines_of_both took sink text rest (inl none) = subst (λ (t : List ℕ). TookBoth took sink t rest) (sym none) refl
took_lines_of_both took sink text rest (inr (before, is)) =
    subst (λ (t : List ℕ). TookBoth took sink t rest) (sym is)
    (sym (took_both took sink (lines_of (before ++ 10 ∷ [])) (lines_of rest)) ∙ ap (took_each took sink) (sym (lines_seam before rest)))

-- a prefix of a text is one of that text with more at its end; so is all of it
pub early_prefix : (old new : Option (List ℕ)) (text more : List ℕ) → PrefixAppended old new text → PrefixAppended old new (text ++ more)
early_prefix None new text more prefix = (0, prefix.1)
early_prefix (Some t) new text more prefix =
    later_prefix (Some t) (Some t) new [] text more (text ++ more) refl (ap (λ (l : List ℕ). Some l) (sym (append-nil t))) prefix

pub whole_prefix : (old new : Option (List ℕ)) (text more : List ℕ) → new ≡ appended old text → PrefixAppended old new (text ++ more)
whole_prefix old new text more is = (length text, is ∙ ap (λ (l : List ℕ). appended old l) (sym (take-append_seam text more)))

-- a prefix of what follows a text
pub last_prefix : (old mid new : Option (List ℕ)) (text more : List ℕ) → mid ≡ appended old text → PrefixAppended mid new more
    → PrefixAppended old new (text ++ more)
last_prefix old mid new text more was prefix =
    later_prefix old mid new text more [] (text ++ more) (ap (λ (l : List ℕ). text ++ l) (append-nil more)) was prefix
