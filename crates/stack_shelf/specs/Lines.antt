-- Lines that come one after the other.
use Rattle.std.specs.Prelude.{◌≡◌, ◌≢◌, ◌⊎◌, ◌<◌, ℕ, List, [], ◌∷◌, ◌++◌, length, All, Option, Some, None, IfSome, Result, Ok, Err}
use Rattle.std.specs.{Global.{Vec}, Io.{BufRead.{take_through, drop_through}, KnownBytes.{Consumes, IsAtEnd}}}
use Rattle.stack_shelf.specs.declared.fault.LineFault.{LineFault}
use Rattle.stack_shelf.specs.declared.fault.LineFault.TheVariants.{TooLong, Failed, Memory}

-- a line has its line feed at its end and no other; the last one may have none, and has a byte then
abbrev pub IsLine : List ℕ → Type 0
IsLine line =
    (text : List ℕ) × All (λ byte. byte ≢ 10) text × ((line ≡ text ++ 10 ∷ []) ⊎ ((line ≡ text) × (line ≢ [])))

-- What a call gives if the text that is still to come is known: its first line, which it loses, and at its end nothing. A line may be
-- over the limit; the call may also fail, or run out of memory, which is left open.
abbrev pub Comes : ℕ → Option (List ℕ) → Option (List ℕ) → Result (Option (Vec ℕ)) LineFault → Type 0
Comes limit old new (Ok (Some line)) =
    IfSome old (λ text. (line.items ≡ take_through 10 text) × (new ≡ Some (drop_through 10 text)))
Comes limit old new (Ok None) = IfSome old (λ text. text ≡ []) × (new ≡ old)
Comes limit old new (Err TooLong) = IfSome old (λ text. limit < length (take_through 10 text))
Comes limit old new (Err Failed) = Unit {0}
Comes limit old new (Err Memory) = Unit {0}

-- the first line of a text, and the text behind it
abbrev pub IsFirstOf : List ℕ → List ℕ → Type 0
IsFirstOf line rest =
    (All (λ byte. byte ≢ 10) line × (rest ≡ [])) ⊎ ((text : List ℕ) × (line ≡ text ++ 10 ∷ []) × All (λ byte. byte ≢ 10) text)

-- a byte is read, or the end is there
abbrev pub ReadsByte : Option (List ℕ) → Option (List ℕ) → Option ℕ → Type 0
ReadsByte old new (Some byte) = Consumes old new (byte ∷ [])
ReadsByte old new None = Consumes old new [] × IsAtEnd new

-- What is read of a stream: a line, which its bytes begin with, and its end if the line has no line feed; or its end at once.
abbrev pub ReadsLine : ℕ → Option (List ℕ) → Option (List ℕ) → Result (Option (Vec ℕ)) LineFault → Type 0
ReadsLine limit old new (Ok (Some line)) = Consumes old new line.items × (((text : List ℕ) × (line.items ≡ text ++ 10 ∷ [])) ⊎ IsAtEnd new)
ReadsLine limit old new (Ok None) = IsAtEnd old
ReadsLine limit old new (Err TooLong) = IfSome old (λ text. limit < length (take_through 10 text))
ReadsLine limit old new (Err Failed) = Unit {0}
ReadsLine limit old new (Err Memory) = Unit {0}
