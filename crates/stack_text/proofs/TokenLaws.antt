-- One byte of a text after the other.
use Rattle.std.proofs.Common.{◌≡◌, ◌≢◌, ◌⊎◌, inl, inr, ℕ, ◌+◌, ◌-◌, ◌<◌, ◌≤◌, List, [], ◌∷◌, ◌++◌, length, get_or, take, drop, refl, sym, ap, ◌∙◌, append_assoc}
use Rattle.std.{proofs.Common.arith, specs.List.slice_range, proofs.lemmas.List.{drop_more, drop_all, take_more, get_or-drop, length-drop, length-take}}
use Rattle.std.proofs.lemmas.List.{append-nil}
use Rattle.stack_text.{specs.declared.class.Class.Class, specs.declared.class.Class.TheVariants.{LineEnd, Space, Semicolon, Opening, Closing, AtomByte}}
use Rattle.stack_text.{specs.declared.class.Class.TheVariants.Invalid, specs.Tokens.{class_of, Token, atom_at, Mode, between, in_atom, in_comment, next}}
use Rattle.stack_text.specs.Tokens.{if_atom_byte, atom_run, begins, tokens}

-- the tokens from a byte of class k on
pub tokens_step : (m : Mode) (text : List ℕ) (at : ℕ) (k : Class) → at < length text → class_of (get_or text at 0) ≡ k →
    tokens m at (drop at text) ≡ begins m k at (drop at text) ++ tokens (next m k) (at + 1) (drop (at + 1) text)
unfolding tokens
tokens_step m text at k lt is = rw (drop_more text at 0 lt, is) refl

pub tokens_past : (m : Mode) (text : List ℕ) (at : ℕ) → length text ≤ at → tokens m at (drop at text) ≡ []
unfolding tokens
tokens_past m text at le = rw (drop_all at text le) refl

pub run_step : (text : List ℕ) (at : ℕ) (k : Class) → at < length text → class_of (get_or text at 0) ≡ k →
    atom_run (drop at text) ≡ if_atom_byte k (get_or text at 0 ∷ atom_run (drop (at + 1) text))
run_step text at k lt is = rw (drop_more text at 0 lt, is) refl

pub run_past : (text : List ℕ) (at : ℕ) → length text ≤ at → atom_run (drop at text) ≡ []
run_past text at le = rw (drop_all at text le) refl

-- one more byte of a slice
pub slice_range-more : (text : List ℕ) (from at : ℕ) → from ≤ at → at < length text
    → slice_range text from (at + 1) ≡ slice_range text from at ++ get_or text at 0 ∷ []
slice_range-more text from at le lt =
    let one : (at + 1) - from ≡ (at - from) + 1 = omega arith in
    let there : from + (at - from) ≡ at = omega arith in
    let more = take_more (drop from text) (at - from) 0 (omega (arith, length-drop from text)) in
    rw one (more ∙ ap (λ (b : ℕ). take (at - from) (drop from text) ++ b ∷ []) (get_or-drop from text (at - from) 0 ∙ ap (λ (i : ℕ). get_or text i 0) there))

pub if_atom_byte-other : (k : Class) (w : List ℕ) → k ≢ AtomByte → if_atom_byte k w ≡ []
if_atom_byte-other LineEnd w ne = refl
if_atom_byte-other Space w ne = refl
if_atom_byte-other Semicolon w ne = refl
if_atom_byte-other Opening w ne = refl
if_atom_byte-other Closing w ne = refl
if_atom_byte-other AtomByte w ne = absurd (ne refl)
if_atom_byte-other Invalid w ne = refl

-- ---- as the loops of the lexer use them

pub comment_ends : (text : List ℕ) (at : ℕ) → at < length text → LineEnd ≡ class_of (get_or text at 0)
    → tokens in_comment at (drop at text) ≡ tokens between (at + 1) (drop (at + 1) text)
comment_ends text at lt is = tokens_step in_comment text at LineEnd lt (sym is)

pub comment_goes_on : (text : List ℕ) (at : ℕ) (k : Class) → at < length text → k ≡ class_of (get_or text at 0) → k ≢ LineEnd
    → tokens in_comment at (drop at text) ≡ tokens in_comment (at + 1) (drop (at + 1) text)
comment_goes_on text at LineEnd lt is ne = absurd (ne refl)
comment_goes_on text at Space lt is ne = tokens_step in_comment text at Space lt (sym is)
comment_goes_on text at Semicolon lt is ne = tokens_step in_comment text at Semicolon lt (sym is)
comment_goes_on text at Opening lt is ne = tokens_step in_comment text at Opening lt (sym is)
comment_goes_on text at Closing lt is ne = tokens_step in_comment text at Closing lt (sym is)
comment_goes_on text at AtomByte lt is ne = tokens_step in_comment text at AtomByte lt (sym is)
comment_goes_on text at Invalid lt is ne = tokens_step in_comment text at Invalid lt (sym is)

pub atom_goes_on : (text : List ℕ) (at : ℕ) → at < length text → AtomByte ≡ class_of (get_or text at 0)
    → tokens in_atom at (drop at text) ≡ tokens in_atom (at + 1) (drop (at + 1) text)
atom_goes_on text at lt is = tokens_step in_atom text at AtomByte lt (sym is)

pub run_goes_on : (text : List ℕ) (from at : ℕ) → from ≤ at → at < length text → AtomByte ≡ class_of (get_or text at 0) →
    slice_range text from at ++ atom_run (drop at text) ≡ slice_range text from (at + 1) ++ atom_run (drop (at + 1) text)
run_goes_on text from at le lt is =
    ap (λ (r : List ℕ). slice_range text from at ++ r) (run_step text at AtomByte lt (sym is))
    ∙ sym (append_assoc (slice_range text from at) (get_or text at 0 ∷ []) (atom_run (drop (at + 1) text)))
    ∙ ap (λ (r : List ℕ). r ++ atom_run (drop (at + 1) text)) (sym (slice_range-more text from at le lt))

-- where a run ends
pub run_ends : (text : List ℕ) (from at : ℕ) → atom_run (drop from text) ≡ slice_range text from at ++ atom_run (drop at text)
    → atom_run (drop at text) ≡ [] → slice_range text from at ≡ atom_run (drop from text)
run_ends text from at is over = sym (is ∙ ap (λ (r : List ℕ). slice_range text from at ++ r) over ∙ append-nil (slice_range text from at))

pub run_over_at : (text : List ℕ) (at : ℕ) (k : Class) → at < length text → k ≡ class_of (get_or text at 0) → k ≢ AtomByte → atom_run (drop at text) ≡ []
run_over_at text at k lt is ne = run_step text at k lt (sym is) ∙ if_atom_byte-other k (get_or text at 0 ∷ atom_run (drop (at + 1) text)) ne

pub atom_over_at : (text : List ℕ) (at : ℕ) (k : Class) → at < length text → k ≡ class_of (get_or text at 0) → k ≢ AtomByte
    → tokens in_atom at (drop at text) ≡ tokens between at (drop at text)
atom_over_at text at LineEnd lt is ne = tokens_step in_atom text at LineEnd lt (sym is) ∙ sym (tokens_step between text at LineEnd lt (sym is))
atom_over_at text at Space lt is ne = tokens_step in_atom text at Space lt (sym is) ∙ sym (tokens_step between text at Space lt (sym is))
atom_over_at text at Semicolon lt is ne = tokens_step in_atom text at Semicolon lt (sym is) ∙ sym (tokens_step between text at Semicolon lt (sym is))
atom_over_at text at Opening lt is ne = tokens_step in_atom text at Opening lt (sym is) ∙ sym (tokens_step between text at Opening lt (sym is))
atom_over_at text at Closing lt is ne = tokens_step in_atom text at Closing lt (sym is) ∙ sym (tokens_step between text at Closing lt (sym is))
atom_over_at text at AtomByte lt is ne = absurd (ne refl)
atom_over_at text at Invalid lt is ne = tokens_step in_atom text at Invalid lt (sym is) ∙ sym (tokens_step between text at Invalid lt (sym is))

pub blank : (text : List ℕ) (at : ℕ) (k : Class) → at < length text → k ≡ class_of (get_or text at 0) → (k ≡ LineEnd) ⊎ (k ≡ Space)
    → tokens between at (drop at text) ≡ tokens between (at + 1) (drop (at + 1) text)
blank text at k lt is (inl e) = tokens_step between text at LineEnd lt (sym is ∙ e)
blank text at k lt is (inr e) = tokens_step between text at Space lt (sym is ∙ e)

pub comment_begins : (text : List ℕ) (at : ℕ) → at < length text → Semicolon ≡ class_of (get_or text at 0)
    → tokens between at (drop at text) ≡ tokens in_comment (at + 1) (drop (at + 1) text)
comment_begins text at lt is = tokens_step between text at Semicolon lt (sym is)

pub one_byte_token : (text : List ℕ) (at : ℕ) (k : Class) → at < length text → k ≡ class_of (get_or text at 0)
    → tokens between at (drop at text) ≡ begins between k at (drop at text) ++ tokens (next between k) (at + 1) (drop (at + 1) text)
one_byte_token text at k lt is = tokens_step between text at k lt (sym is)

-- an atom that ends at a place
pub atom_token : (text : List ℕ) (at to : ℕ) → at < length text → AtomByte ≡ class_of (get_or text at 0)
    → slice_range text at to ≡ atom_run (drop at text) → tokens in_atom at (drop at text) ≡ tokens between to (drop to text) →
    tokens between at (drop at text) ≡ atom_at at (slice_range text at to) ∷ tokens between to (drop to text)
atom_token text at to lt is run_is rest =
    tokens_step between text at AtomByte lt (sym is)
    ∙ ap (λ (w : List ℕ). atom_at at w ∷ tokens in_atom (at + 1) (drop (at + 1) text)) (sym run_is)
    ∙ ap (λ (ts : List Token). atom_at at (slice_range text at to) ∷ ts) (sym (atom_goes_on text at lt is) ∙ rest)

pub atom_is_long : (text : List ℕ) (at to : ℕ) → at < length text → AtomByte ≡ class_of (get_or text at 0)
    → slice_range text at to ≡ atom_run (drop at text) → at < to
atom_is_long text at to lt is run_is =
    let long = ap length (run_is ∙ run_step text at AtomByte lt (sym is)) in
    omega (arith, long, length-take (to - at) (drop at text))
