-- Runs of atom bytes at the front of a text, and one byte of it after the other.
use Rattle.std.proofs.Common.{◌≡◌, ℕ, ◌+◌, ◌<◌, List, [], ◌∷◌, ◌++◌, map, length, refl, ap, ◌∙◌, arith}
use Rattle.stack_text.{specs.declared.class.Class.Class, specs.declared.class.Class.TheVariants.{LineEnd, Space, Semicolon, Opening, Closing, AtomByte}}
use Rattle.stack_text.{specs.declared.class.Class.TheVariants.Invalid, specs.Tokens.{class_of, Token, atom_at, between, in_atom, next, if_atom_byte, atom_run}}
use Rattle.stack_text.{specs.Tokens.{begins, tokens}, specs.Trees.as_kept}

-- bytes that are all one run
atom_front : (k : Class) (b : ℕ) (r bs : List ℕ) → if_atom_byte k (b ∷ r) ≡ b ∷ bs → (k ≡ AtomByte) × (r ≡ bs)
atom_front LineEnd b r bs e = absurd cc
atom_front Space b r bs e = absurd cc
atom_front Semicolon b r bs e = absurd cc
atom_front Opening b r bs e = absurd cc
atom_front Closing b r bs e = absurd cc
atom_front AtomByte b r bs e = (refl, cc)
atom_front Invalid b r bs e = absurd cc

pub atom_run-append : (w rest : List ℕ) → atom_run w ≡ w → atom_run rest ≡ [] → atom_run (w ++ rest) ≡ w
atom_run-append [] rest all stop = stop
atom_run-append (b ∷ bs) rest all stop =
    let h = atom_front (class_of b) b (atom_run bs) bs all in
    rw h.0 (ap (λ (r : List ℕ). b ∷ r) (atom_run-append bs rest h.1 stop))

stops_at : (k : Class) (b at : ℕ) (bs r : List ℕ) → if_atom_byte k (b ∷ r) ≡ [] → begins in_atom k at (b ∷ bs) ++ tokens (next in_atom k) (at + 1) bs
    ≡ begins between k at (b ∷ bs) ++ tokens (next between k) (at + 1) bs
stops_at LineEnd b at bs r e = refl
stops_at Space b at bs r e = refl
stops_at Semicolon b at bs r e = refl
stops_at Opening b at bs r e = refl
stops_at Closing b at bs r e = refl
stops_at AtomByte b at bs r e = absurd cc
stops_at Invalid b at bs r e = refl

tokens-stop : (rest : List ℕ) (at : ℕ) → atom_run rest ≡ [] → tokens in_atom at rest ≡ tokens between at rest
unfolding tokens
tokens-stop [] at e = refl
tokens-stop (b ∷ bs) at e = stops_at (class_of b) b at bs (atom_run bs) e

pub tokens-in_atom : (w rest : List ℕ) (at : ℕ) → atom_run w ≡ w → atom_run rest ≡ [] → tokens in_atom at (w ++ rest) ≡ tokens between (at + length w) rest
unfolding tokens
tokens-in_atom [] rest at all stop = tokens-stop rest at stop ∙ ap (λ (n : ℕ). tokens between n rest) (omega arith)
tokens-in_atom (b ∷ bs) rest at all stop =
    let h = atom_front (class_of b) b (atom_run bs) bs all in
    rw h.0 (tokens-in_atom bs rest (at + 1) h.1 stop ∙ ap (λ (n : ℕ). tokens between n rest) (omega arith))

pub tokens-byte : (b : ℕ) (rest : List ℕ) (at : ℕ) (k : Class) → class_of b ≡ k → tokens between at (b ∷ rest) ≡ begins between k at (b ∷ rest)
    ++ tokens (next between k) (at + 1) rest
unfolding tokens
tokens-byte b rest at k is = rw is refl

pub tokens-atom_at : (w rest : List ℕ) (at : ℕ) → 0 < length w → atom_run w ≡ w → atom_run rest ≡ []
    → tokens between at (w ++ rest) ≡ atom_at at w ∷ tokens between (at + length w) rest
tokens-atom_at [] rest at long all stop = absurd (omega arith)
tokens-atom_at (b ∷ bs) rest at long all stop =
    let h = atom_front (class_of b) b (atom_run bs) bs all in
    tokens-byte b (bs ++ rest) at AtomByte h.0
    ∙ ap (λ (w : List ℕ). atom_at at w ∷ tokens in_atom (at + 1) (bs ++ rest)) (atom_run-append (b ∷ bs) rest all stop)
    ∙ ap (λ (ts : List Token). atom_at at (b ∷ bs) ∷ ts) (tokens-in_atom bs rest (at + 1) h.1 stop ∙ ap (λ (n : ℕ). tokens between n rest) (omega arith))

-- the tokens from a place on, without what no tree keeps
abbrev pub kept_from : ℕ → List ℕ → List Token
kept_from at bytes = map as_kept (tokens between at bytes)

pub tokens-nil : (at : ℕ) → tokens between at [] ≡ []
unfolding tokens
tokens-nil at = refl
