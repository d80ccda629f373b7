-- One byte of a text after the other.
use Rattle.std.proofs.Common.{◌≡◌, ℕ, ◌+◌, ◌-◌, ◌<◌, ◌≤◌, List, [], ◌∷◌, ◌++◌, length, get_or, drop, ⊎_elim, true, false, cond, Some, None, refl, sym, ap}
use Rattle.std.{proofs.Common.{subst, ◌∙◌, append_assoc, arith}, specs.Prelude.{◌==◌, ◌||◌}, specs.Char.{is_ascii_alphabetic, is_ascii_digit}}
use Rattle.std.{specs.Int.is_in_range, specs.List.slice_range, proofs.lemmas.Bool.{cases_lt, eqb-true}, proofs.lemmas.List.{drop_more, drop_all, length-take}}
use Rattle.std.proofs.lemmas.List.{append-nil}
use Rattle.std.specs.Prelude as std
use Rattle.stack_text.proofs.TokenLaws.{slice_range-more}
use Rattle.mini_syntax.{specs.declared.lexer.Run.Run, specs.declared.lexer.TokenSpan.TokenSpan, specs.declared.mark.Mark.Mark, specs.Names.is_word_byte}
use Rattle.mini_syntax.specs.Tokens.{Token, number_at, mark_at, Mode, after_fresh, begins, fresh, is_blank, is_pair, mark_of, mark_token, next, longest_run}
use Rattle.mini_syntax.{specs.Tokens.{tokens, word_kind, word_token}, specs.Internal.TokenSpans.{FindsToken, run_mode, run_test}, proofs.SpanLaws.no_pair}
use Rattle.mini_syntax.specs.declared.lexer.Run.TheVariants as runs
use Rattle.mini_syntax.specs.declared.lexer.TokenKind.TheVariants as kind
use Rattle.mini_syntax.specs.Tokens as mode

-- ---- one byte

pub tokens_step : (m : Mode) (text : List ℕ) (at : ℕ) → at < length text →
    tokens m at (drop at text) ≡ begins m at (get_or text at 0) (drop (at + 1) text)
    ++ tokens (next m (get_or text at 0) (drop (at + 1) text)) (at + 1) (drop (at + 1) text)
unfolding tokens
tokens_step m text at lt = rw (drop_more text at 0 lt) refl

pub tokens_past : (m : Mode) (text : List ℕ) (at : ℕ) → length text ≤ at → tokens m at (drop at text) ≡ []
unfolding tokens
tokens_past m text at le = rw (drop_all at text le) refl

pub run_step : (test : ℕ → std.Bool) (text : List ℕ) (at : ℕ) → at < length text →
    longest_run test (drop at text) ≡ cond (test (get_or text at 0)) (get_or text at 0 ∷ longest_run test (drop (at + 1) text)) []
run_step test text at lt = rw (drop_more text at 0 lt) refl

pub run_past : (test : ℕ → std.Bool) (text : List ℕ) (at : ℕ) → length text ≤ at → longest_run test (drop at text) ≡ []
run_past test text at le = rw (drop_all at text le) refl

-- ---- runs

pub run_goes_on : (test : ℕ → std.Bool) (text : List ℕ) (from at : ℕ) → from ≤ at → at < length text → test (get_or text at 0) ≡ true →
    slice_range text from at ++ longest_run test (drop at text) ≡ slice_range text from (at + 1) ++ longest_run test (drop (at + 1) text)
run_goes_on test text from at le lt e = cc (
  run_step test text at lt,
  ap (λ (c : std.Bool). cond c (get_or text at 0 ∷ longest_run test (drop (at + 1) text)) []) e,
  append_assoc (slice_range text from at) (get_or text at 0 ∷ []) (longest_run test (drop (at + 1) text)),
  slice_range-more text from at le lt,
)

pub run_over : (test : ℕ → std.Bool) (text : List ℕ) (at : ℕ) → at < length text → test (get_or text at 0) ≡ false → longest_run test (drop at text) ≡ []
run_over test text at lt e = run_step test text at lt ∙ ap (λ (c : std.Bool). cond c (get_or text at 0 ∷ longest_run test (drop (at + 1) text)) []) e

pub run_ends : (test : ℕ → std.Bool) (text : List ℕ) (from at : ℕ) → longest_run test (drop from text) ≡ slice_range text from at
    ++ longest_run test (drop at text) → longest_run test (drop at text) ≡ [] →
    slice_range text from at ≡ longest_run test (drop from text)
run_ends test text from at is over = sym (is ∙ ap (λ (r : List ℕ). slice_range text from at ++ r) over ∙ append-nil (slice_range text from at))

pub mode_goes_on : (run : Run) (text : List ℕ) (at : ℕ) → at < length text → run_test run (get_or text at 0) ≡ true →
    tokens (run_mode run) at (drop at text) ≡ tokens (run_mode run) (at + 1) (drop (at + 1) text)
mode_goes_on runs.Word text at lt e =
    let rest = drop (at + 1) text in
    tokens_step mode.in_word text at lt
    ∙ ap (λ c. cond c [] (fresh at (get_or text at 0) rest) ++ tokens (cond c mode.in_word (after_fresh (get_or text at 0) rest)) (at + 1) rest) e
mode_goes_on runs.Number text at lt e =
    let rest = drop (at + 1) text in
    tokens_step mode.in_number text at lt
    ∙ ap (λ c. cond c [] (fresh at (get_or text at 0) rest) ++ tokens (cond c mode.in_number (after_fresh (get_or text at 0) rest)) (at + 1) rest) e

pub mode_over : (run : Run) (text : List ℕ) (at : ℕ) → at < length text → run_test run (get_or text at 0) ≡ false →
    tokens (run_mode run) at (drop at text) ≡ tokens mode.between at (drop at text)
mode_over runs.Word text at lt e =
    let rest = drop (at + 1) text in
    tokens_step mode.in_word text at lt
    ∙ ap (λ c. cond c [] (fresh at (get_or text at 0) rest) ++ tokens (cond c mode.in_word (after_fresh (get_or text at 0) rest)) (at + 1) rest) e
    ∙ sym (tokens_step mode.between text at lt)
mode_over runs.Number text at lt e =
    let rest = drop (at + 1) text in
    tokens_step mode.in_number text at lt
    ∙ ap (λ c. cond c [] (fresh at (get_or text at 0) rest) ++ tokens (cond c mode.in_number (after_fresh (get_or text at 0) rest)) (at + 1) rest) e
    ∙ sym (tokens_step mode.between text at lt)

-- ---- what begins with a byte

-- a blank byte
pub blank : (text : List ℕ) (at : ℕ) → at < length text → is_blank (get_or text at 0) ≡ true →
    tokens mode.between at (drop at text) ≡ tokens mode.between (at + 1) (drop (at + 1) text)
blank text at lt e = tokens_step mode.between text at lt ∙ skips (get_or text at 0) (drop (at + 1) text) e
  where
    same : (b : ℕ) (rest : List ℕ) → fresh at b rest ++ tokens (after_fresh b rest) (at + 1) rest ≡ tokens mode.between (at + 1) rest →
        (c : ℕ) → (c == b) ≡ true → fresh at c rest ++ tokens (after_fresh c rest) (at + 1) rest ≡ tokens mode.between (at + 1) rest
    same b rest is c e =
        let h = sym (eqb-true c b e) in
        subst (λ (x : ℕ). fresh at x rest ++ tokens (after_fresh x rest) (at + 1) rest ≡ tokens mode.between (at + 1) rest) h is

    skips : (b : ℕ) (rest : List ℕ) → is_blank b ≡ true → fresh at b rest ++ tokens (after_fresh b rest) (at + 1) rest ≡ tokens mode.between (at + 1) rest
    skips b rest e = pick (b == 32) (b == 9) (b == 10) (b == 13) refl refl refl refl e
      where
        pick : (p q r s : std.Bool) → (b == 32) ≡ p → (b == 9) ≡ q → (b == 10) ≡ r → (b == 13) ≡ s → (p || q || r || s) ≡ true →
            fresh at b rest ++ tokens (after_fresh b rest) (at + 1) rest ≡ tokens mode.between (at + 1) rest
        pick true q r s ep eq er es h = same 32 rest refl b ep
        pick false true r s ep eq er es h = same 9 rest refl b eq
        pick false false true s ep eq er es h = same 10 rest refl b er
        pick false false false true ep eq er es h = same 13 rest refl b es
        pick false false false false ep eq er es h = cc

-- a byte's token, where it isn't blank, by what the byte is
abbrev pub begun : (blank letter digit : std.Bool) (at byte : ℕ) (rest : List ℕ) → List Token
begun blank letter digit at byte rest =
    cond blank [] (cond letter (word_token at (longest_run is_word_byte (byte ∷ rest)) ∷ [])
    (cond digit (number_at at (longest_run is_ascii_digit (byte ∷ rest)) ∷ []) (mark_token at (mark_of byte rest) ∷ []))) ++
    tokens (cond letter mode.in_word (cond digit mode.in_number (cond (is_pair (mark_of byte rest)) mode.in_pair mode.between))) (at + 1) rest

pub begins_with : (text : List ℕ) (at : ℕ) (a b c : std.Bool) → at < length text → is_blank (get_or text at 0) ≡ a
    → is_ascii_alphabetic (get_or text at 0) ≡ b →
    is_ascii_digit (get_or text at 0) ≡ c → tokens mode.between at (drop at text) ≡ begun a b c at (get_or text at 0) (drop (at + 1) text)
begins_with text at a b c lt ea eb ec = cc (tokens_step mode.between text at lt, ea, eb, ec)

letter_goes_on : (b : ℕ) → is_ascii_alphabetic b ≡ true → is_word_byte b ≡ true
letter_goes_on b e = pick (is_in_range 48 57 b) (is_in_range 65 90 b) (is_in_range 97 122 b) e
  where
    pick : (p q r : std.Bool) → (q || r) ≡ true → (((p || q) || r) || (b == 95)) ≡ true
    pick true q r e = refl
    pick false true r e = refl
    pick false false true e = refl
    pick false false false e = cc

run_is_long : (test : ℕ → std.Bool) (text : List ℕ) (at to : ℕ) → at < length text → test (get_or text at 0) ≡ true
    → slice_range text at to ≡ longest_run test (drop at text) → at < to
run_is_long test text at to lt e is =
    let long = ap length (is ∙ run_step test text at lt ∙ ap (λ (c : std.Bool). cond c (get_or text at 0 ∷ longest_run test (drop (at + 1) text)) []) e) in
    omega (arith, long, length-take (to - at) (drop at text))

-- a word that ends at a place
pub word_found : (text : List ℕ) (at to : ℕ) → at < length text → is_blank (get_or text at 0) ≡ false → is_ascii_alphabetic (get_or text at 0) ≡ true
    → at ≤ to → to ≤ length text →
    slice_range text at to ≡ longest_run is_word_byte (drop at text) → tokens mode.in_word at (drop at text) ≡ tokens mode.between to (drop to text) →
    FindsToken text at (record { kind = word_kind (slice_range text at to); start = at; «end» = to })
word_found text at to lt visible letter le within is rest =
    let more = letter_goes_on (get_or text at 0) letter in
    record {
      tokens_are = begins_with text at false true _ lt visible letter refl
          ∙ ap (λ (w : List ℕ). word_token at w ∷ tokens mode.in_word (at + 1) (drop (at + 1) text)) (sym (run_step is_word_byte text at lt) ∙ sym is)
          ∙ ap (λ (ts : List Token). word_token at (slice_range text at to) ∷ ts) (sym (mode_goes_on runs.Word text at lt more) ∙ rest);
      in_order = (omega arith, run_is_long is_word_byte text at to lt more is, within);
    }

-- a number
pub number_found : (text : List ℕ) (at to : ℕ) → at < length text → is_blank (get_or text at 0) ≡ false → is_ascii_alphabetic (get_or text at 0) ≡ false
    → is_ascii_digit (get_or text at 0) ≡ true →
    at ≤ to → to ≤ length text → slice_range text at to ≡ longest_run is_ascii_digit (drop at text)
    → tokens mode.in_number at (drop at text) ≡ tokens mode.between to (drop to text) →
    FindsToken text at (record { kind = kind.Number; start = at; «end» = to })
number_found text at to lt visible letter digit le within is rest =
    record {
      tokens_are = begins_with text at false false true lt visible letter digit
          ∙ ap (λ w. number_at at w ∷ tokens mode.in_number (at + 1) (drop (at + 1) text)) (sym (run_step is_ascii_digit text at lt) ∙ sym is)
          ∙ ap (λ ts. number_at at (slice_range text at to) ∷ ts) (sym (mode_goes_on runs.Number text at lt digit) ∙ rest);
      in_order = (omega arith, run_is_long is_ascii_digit text at to lt digit is, within);
    }

-- a mark
pair_rest : (byte : ℕ) (text : List ℕ) (at : ℕ) → is_pair (mark_of byte (drop at text)) ≡ true → at < length text
pair_rest byte text at e = ⊎_elim (λ lt. lt) (λ le. absurd (bad le)) (cases_lt at (length text))
  where
    bad : length text ≤ at → ⊥
    bad le = let none = no_pair byte in let h = subst (λ (r : List ℕ). is_pair (mark_of byte r) ≡ true) (drop_all at text le) e in cc

pair_over : (text : List ℕ) (at : ℕ) → at < length text → tokens mode.in_pair at (drop at text) ≡ tokens mode.between (at + 1) (drop (at + 1) text)
pair_over text at lt = tokens_step mode.in_pair text at lt

pub mark_found : (text : List ℕ) (at to : ℕ) (m : Mark) → at < length text → is_blank (get_or text at 0) ≡ false
    → is_ascii_alphabetic (get_or text at 0) ≡ false → is_ascii_digit (get_or text at 0) ≡ false →
    Some m ≡ mark_of (get_or text at 0) (drop (at + 1) text) → to ≡ cond (is_pair (Some m)) (at + 2) (at + 1) →
    FindsToken text at (record { kind = kind.Mark m; start = at; «end» = to })
mark_found text at to m lt visible letter digit is ends = pick (is_pair (Some m)) refl ends
  where
    first : tokens mode.between at (drop at text) ≡ mark_at at m ∷ tokens (cond (is_pair (Some m)) mode.in_pair mode.between) (at + 1) (drop (at + 1) text)
    first = cc (begins_with text at false false false lt visible letter digit, is)

    pick : (c : std.Bool) → is_pair (Some m) ≡ c → to ≡ cond c (at + 2) (at + 1) → FindsToken text at (record { kind = kind.Mark m; start = at; «end» = to })
    pick true e here =
        let more : at + 1 < length text = pair_rest (get_or text at 0) text (at + 1) (ap is_pair (sym is) ∙ e) in
        let there : (at + 1) + 1 ≡ to = omega arith in
        record {
          tokens_are = cc (first, e, pair_over text (at + 1) more, ap (λ (k : ℕ). tokens mode.between k (drop k text)) there);
          in_order = (omega arith, omega arith, omega arith);
        }
    pick false e here =
        let there : at + 1 ≡ to = omega arith in
        record { tokens_are = cc (first, e, there); in_order = (omega arith, omega arith, omega arith) }

-- a byte with which no token begins
pub wrong_found : (text : List ℕ) (at : ℕ) → at < length text → is_blank (get_or text at 0) ≡ false → is_ascii_alphabetic (get_or text at 0) ≡ false
    → is_ascii_digit (get_or text at 0) ≡ false →
    None ≡ mark_of (get_or text at 0) (drop (at + 1) text) → FindsToken text at (record { kind = kind.Wrong; start = at; «end» = at + 1 })
wrong_found text at lt visible letter digit is = record {
  tokens_are = cc (begins_with text at false false false lt visible letter digit, is);
  in_order = (omega arith, omega arith, omega arith);
}

-- a token after what separates tokens
pub later_token : (text : List ℕ) (from at : ℕ) (found : TokenSpan) → from ≤ at → tokens mode.between from (drop from text)
    ≡ tokens mode.between at (drop at text) →
    FindsToken text at found → FindsToken text from found
later_token text from at found le same f = record { tokens_are = same ∙ f.tokens_are; in_order = (omega arith, f.in_order.1, f.in_order.2) }
