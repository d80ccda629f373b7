-- The first line of a text, and lines that are read byte by byte.
use Rattle.std.proofs.Common.{◌≡◌, ◌≢◌, ◌<◌, ◌+◌, ◌-◌, inl, inr, ℕ, List, [], ◌∷◌, ◌++◌, ◌==◌, All, Option, Some, None, IfSome, length, take, drop}
use Rattle.std.proofs.Common.{true, false, if◌then◌else◌, sym, ap, subst, ◌∙◌, arith, append-nil, append_assoc, length-append, length-drop, take_all}
use Rattle.std.{proofs.Math.Seq.{drop-append_seam}, proofs.lemmas.List.{drop-drop}, specs.Io.BufRead.{take_through, drop_through}}
use Rattle.std.{specs.Io.KnownBytes.{Consumes}, proofs.BufReadLemmas.{take_through-append, drop_through-append}}
use Rattle.stack_shelf.specs.Lines.{IsFirstOf}

-- a line that ends with its first line feed, and what is behind it
fed_first : (front rest : List ℕ) → All (λ b. b ≢ 10) front
    → (take_through 10 ((front ++ 10 ∷ []) ++ rest) ≡ front ++ 10 ∷ []) × (drop_through 10 ((front ++ 10 ∷ []) ++ rest) ≡ rest)
fed_first front rest others =
    let joined : (front ++ 10 ∷ []) ++ rest ≡ front ++ 10 ∷ rest = append_assoc front (10 ∷ []) rest in (
      ap (take_through 10) joined ∙ take_through-append 10 front (10 ∷ rest) others,
      ap (drop_through 10) joined ∙ drop_through-append 10 front (10 ∷ rest) others,
    )

-- a line without one, which is the last
bare_first : (line : List ℕ) → All (λ b. b ≢ 10) line → (take_through 10 line ≡ line) × (drop_through 10 line ≡ [])
bare_first line others = (
  ap (take_through 10) (sym (append-nil line)) ∙ take_through-append 10 line [] others ∙ append-nil line,
  ap (drop_through 10) (sym (append-nil line)) ∙ drop_through-append 10 line [] others,
)

-- the first line of a text and what is behind it are what a reader takes and leaves
pub first_is : (line rest text : List ℕ) → line ++ rest ≡ text → IsFirstOf line rest
    → (line ≡ take_through 10 text) × (rest ≡ drop_through 10 text)
first_is line rest text whole (inl (others, none)) =
    let alone : text ≡ line = sym whole ∙ ap (λ (l : List ℕ). line ++ l) none ∙ append-nil line in
    let is = bare_first line others in (
      sym (is.0) ∙ ap (take_through 10) (sym alone),
      none ∙ sym (is.1) ∙ ap (drop_through 10) (sym alone),
    )
first_is line rest text whole (inr (front, fed, others)) =
    let joined : (front ++ 10 ∷ []) ++ rest ≡ text = ap (λ (l : List ℕ). l ++ rest) (sym fed) ∙ whole in
    let is = fed_first front rest others in (
      fed ∙ sym (is.0) ∙ ap (take_through 10) joined,
      sym (is.1) ∙ ap (drop_through 10) joined,
    )

-- a text that goes on behind bytes without a line feed has a longer first line
pub longer : (line rest text : List ℕ) (byte : ℕ) → text ≡ line ++ byte ∷ rest → All (λ b. b ≢ 10) line
    → length line < length (take_through 10 text)
longer line rest text byte is others =
    let through : take_through 10 text ≡ line ++ take_through 10 (byte ∷ rest) =
    ap (take_through 10) is ∙ take_through-append 10 line (byte ∷ rest) others in
    subst (λ (l : List ℕ). length line < length l) (sym through)
    (omega (arith, length-append line (take_through 10 (byte ∷ rest)), some_through byte rest))
  where
    some_through : (byte : ℕ) (rest : List ℕ) → 0 < length (take_through 10 (byte ∷ rest))
    some_through byte rest =
        elim (byte == 10) as (λ b. 0 < length (if b then byte ∷ [] else byte ∷ take_through 10 rest))
        [ true ↦ omega arith | false ↦ omega arith ]

-- the same of known bytes, of which a part was read, and then one byte more
pub over_limit : (old now new : Option (List ℕ)) (line : List ℕ) (byte limit : ℕ) → Consumes old now line → Consumes now new (byte ∷ [])
    → length line ≡ limit → All (λ b. b ≢ 10) line → IfSome old (λ text. limit < length (take_through 10 text))
over_limit None now new line byte limit before one full others = tt
over_limit (Some text) None new line byte limit before one full others = absurd before
over_limit (Some text) (Some left) None line byte limit before one full others = absurd one
over_limit (Some text) (Some left) (Some rest) line byte limit before one full others =
    let is : text ≡ line ++ byte ∷ rest = before ∙ ap (λ (l : List ℕ). line ++ l) one in
    subst (λ (n : ℕ). n < length (take_through 10 text)) full (longer line rest text byte is others)

-- the first line of what is behind a place, and what is behind that line
pub line_behind : (all text line rest given : List ℕ) (place : ℕ) → drop place all ≡ text → line ++ rest ≡ text → IsFirstOf line rest
    → given ≡ line → (given ≡ take_through 10 text) × (drop (place + length given) all ≡ drop_through 10 text)
line_behind all text line rest given place behind whole first same =
    let is = first_is line rest text whole first in (
      same ∙ is.0,
      sym (drop-drop (length given) place all)
          ∙ ap (λ (l : List ℕ). drop (length given) l) (behind ∙ sym whole)
          ∙ ap (λ (l : List ℕ). drop (length l) (line ++ rest)) same
          ∙ drop-append_seam line rest ∙ is.1,
    )

-- what a slice from a place to the end has
pub rest_of : (all : List ℕ) (place : ℕ) → take (length all - place) (drop place all) ≡ drop place all
rest_of all place = take_all (length all - place) (drop place all) (omega (arith, length-drop place all))
