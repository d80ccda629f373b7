-- The bytes of a log that ends: the beginning of a text, and bytes of its own.
use Rattle.std.proofs.Common.{◌≡◌, ◌≤◌, ◌<◌, ◌+◌, ◌-◌, ◌++◌, ◌∙◌, ℕ, List, [], ◌∷◌, length, take, drop, refl, sym, ap, arith, append_assoc, append-nil}
use Rattle.std.{proofs.Common.{take-add, length-append, take_all}, proofs.Math.Seq.{take-append-add, take-append_seam}}

pub none_there : (xs : List ℕ) → length xs ≡ 0 → xs ≡ []
none_there [] none = refl
none_there (x ∷ xs) none = absurd (omega (arith, none))

-- what still fits, behind the others, is what the whole has up to the end of the log
room_fits : (most : ℕ) (xs ys : List ℕ) → length xs ≤ most → xs ++ take (most - length xs) ys ≡ take most (xs ++ ys)
room_fits most xs ys le =
    let all : length xs + (most - length xs) ≡ most = omega (arith, le) in
    sym (take-append-add xs ys (most - length xs)) ∙ ap (λ (n : ℕ). take n (xs ++ ys)) all

-- the same, by how much room is left
fits_behind : (most room : ℕ) (xs fits bytes : List ℕ) → fits ≡ take room bytes → room ≡ most - length xs → length xs ≤ most
    → xs ++ fits ≡ take most (xs ++ bytes)
fits_behind most room xs fits bytes some left le =
    ap (λ (l : List ℕ). xs ++ l) (some ∙ ap (λ (n : ℕ). take n bytes) left) ∙ room_fits most xs bytes le

-- bytes were appended to its own
pub noted_own : (most room : ℕ) (front own new fits bytes : List ℕ) → new ≡ own ++ fits → fits ≡ take room bytes
    → room ≡ most - length (front ++ own) → length (front ++ own) ≤ most → front ++ new ≡ take most ((front ++ own) ++ bytes)
noted_own most room front own new fits bytes is some left le =
    ap (λ (l : List ℕ). front ++ l) is ∙ sym (append_assoc front own fits) ∙ fits_behind most room (front ++ own) fits bytes some left le

-- the text goes on with the bytes, and there are none of its own
pub noted_offered : (most room count : ℕ) (text own fits bytes : List ℕ) → own ≡ []
    → take (count + length fits) text ≡ take count text ++ fits → fits ≡ take room bytes → room ≡ most - length (take count text ++ own)
    → length (take count text ++ own) ≤ most → take (count + length fits) text ++ own ≡ take most ((take count text ++ own) ++ bytes)
noted_offered most room count text own fits bytes none goes some left le =
    let front : List ℕ = take count text in
    let alone : front ++ own ≡ front = ap (λ (l : List ℕ). front ++ l) none ∙ append-nil front in
    ap (λ (l : List ℕ). l ++ own) goes
    ∙ ap (λ (l : List ℕ). (front ++ fits) ++ l) none ∙ append-nil (front ++ fits)
    ∙ ap (λ (l : List ℕ). l ++ fits) (sym alone)
    ∙ fits_behind most room (front ++ own) fits bytes some left le

-- a text that has these bytes from a place on
pub goes_on : (text bytes rest : List ℕ) (place : ℕ) → drop place text ≡ bytes ++ rest
    → take (place + length bytes) text ≡ take place text ++ bytes
goes_on text bytes rest place is =
    take-add place (length bytes) text
    ∙ ap (λ (l : List ℕ). take place text ++ l) (ap (λ (l : List ℕ). take (length bytes) l) is ∙ take-append_seam bytes rest)

-- One more is noted if there is room, and else the first ones stay.
pub fits_one : (most : ℕ) (xs : List ℕ) (x : ℕ) → length xs < most → xs ++ x ∷ [] ≡ take most (xs ++ x ∷ [])
fits_one most xs x lt = sym (take_all most (xs ++ x ∷ []) (omega (arith, lt, length-append xs (x ∷ []))))

pub full_already : (most : ℕ) (xs : List ℕ) (x : ℕ) → most ≤ length xs → length xs ≤ most → xs ≡ take most (xs ++ x ∷ [])
full_already most xs x full le =
    let count : most ≡ length xs = omega (arith, full, le) in
    sym (ap (λ (n : ℕ). take n (xs ++ x ∷ [])) count ∙ take-append_seam xs (x ∷ []))
