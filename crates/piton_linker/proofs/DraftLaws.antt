-- What filling does to words so far, where a word more or a fix-up more comes behind them.
use Rattle.std.proofs.Common.{◌≡◌, ℕ, zero, suc, ◌+◌, ◌<◌, ◌≤◌, Bool, true, false, ◌==◌, if◌then◌else◌, Some, None, List, [], ◌∷◌, ◌++◌, length, map, take, set}
use Rattle.std.{proofs.Common.{refl, sym, ap, ◌∙◌, subst, arith, length-append, length-set}, specs.Prelude.{get_or, slice_get}, proofs.lemmas.Bool.eqb-true}
use Rattle.std.{proofs.lemmas.List.set-append_left, proofs.Math.Seq.set-append_seam}
use Rattle.piton_check.{specs.declared.piece.Piece.Piece, specs.declared.piece.Piece.TheVariants.{Code, Number, Place, Entry, Area, TempEnd, TempStart}}
use Rattle.piton_check.{specs.declared.piece.Piece.TheVariants.{CtrlStart, Table}, specs.Instruction.{Instruction, SystemView}}
use Rattle.piton_semantics.{specs.Fits.Each, proofs.EachLaws.each_append, specs.Addresses.Addresses, specs.State.program_of, specs.Placed.entry_of}
use Rattle.piton_semantics.{specs.Placed.{address_of_place, instruction_size, instructions_size, prelude_size, addresses_of}, specs.Templates.word_of}
use Rattle.piton_linker.{specs.declared.draft.FixUp.FixUp, specs.Tables.{starts, row_at, PieceExists}, specs.Drafts.{IsRow, known_word, DraftOf, filled}}
use Rattle.piton_linker.specs.Drafts.{drafted, IsFixUp, IsDraft}

pub length-filled : (A : Addresses) (ws : List ℕ) (fs : List FixUp) → length (filled A ws fs) ≡ length ws
length-filled A ws [] = refl
length-filled A ws (f ∷ fs) =
    let v = word_of A (A.base + f.place) f.piece in
    length-filled A (set ws f.place v) fs ∙ length-set ws f.place v

pub length-drafted : (s : SystemView) (d : DraftOf) → length (drafted s d) ≡ length d.words
length-drafted s d = length-filled (addresses_of s) d.words d.fixups

-- a word behind all fix-ups stays as it is
filled-word : (s : SystemView) (ws : List ℕ) (fs : List FixUp) (w : ℕ) → Each (IsFixUp s (length ws)) fs
    → filled (addresses_of s) (ws ++ w ∷ []) fs ≡ filled (addresses_of s) ws fs ++ w ∷ []
filled-word s ws [] w h = refl
filled-word s ws (f ∷ fs) w h =
    let A = addresses_of s in
    let v = word_of A (A.base + f.place) f.piece in
    let kept : Each (IsFixUp s (length (set ws f.place v))) fs = subst (λ n. Each (IsFixUp s n) fs) (sym (length-set ws f.place v)) h.1 in
    ap (λ us. filled A us fs) (set-append_left ws (w ∷ []) f.place v h.0.0) ∙ filled-word s (set ws f.place v) fs w kept

-- the last fix-up is filled last
filled-last : (A : Addresses) (ws : List ℕ) (fs : List FixUp) (f : FixUp) → filled A ws (fs ++ f ∷ [])
    ≡ set (filled A ws fs) f.place (word_of A (A.base + f.place) f.piece)
filled-last A ws [] f = refl
filled-last A ws (g ∷ fs) f = filled-last A (set ws g.place (word_of A (A.base + g.place) g.piece)) fs f

-- a zero more, and the fix-up for its place
filled-open : (s : SystemView) (ws : List ℕ) (fs : List FixUp) (piece : Piece) → Each (IsFixUp s (length ws)) fs
    → filled (addresses_of s) (ws ++ 0 ∷ []) (fs ++ record { place = length ws; piece = piece } ∷ []) ≡ filled (addresses_of s) ws fs
    ++ word_of (addresses_of s) (s.base + length ws) piece ∷ []
filled-open s ws fs piece h =
    let A = addresses_of s in
    let v = word_of A (s.base + length ws) piece in
    let made = filled A ws fs in
    filled-last A (ws ++ 0 ∷ []) fs record { place = length ws; piece = piece }
    ∙ ap (λ us. set us (length ws) v) (filled-word s ws fs 0 h)
    ∙ ap (λ n. set (made ++ 0 ∷ []) n v) (sym (length-filled A ws fs))
    ∙ set-append_seam made 0 [] v

known_place_is : (s : SystemView) (program to place w : ℕ) (row : List ℕ) (b : Bool) → (to == program) ≡ b → IsRow s program row
    → (if b then slice_get row place else None) ≡ Some w → w ≡ address_of_place s to place
known_place_is s program to place w row true e r h = r place w h ∙ ap (λ q. address_of_place s q place) (sym (eqb-true to program e))
known_place_is s program to place w row false e r h = absurd cc

known_is : (s : SystemView) (program a : ℕ) (row : List ℕ) (p : Piece) (w : ℕ) → IsRow s program row → known_word program row a p ≡ Some w
    → w ≡ word_of (addresses_of s) a p
known_is s program a row (Code word) w r e = cc
known_is s program a row (Number number) w r e = cc
known_is s program a row (Place to place) w r e = known_place_is s program to place w row (to == program) refl r e
known_is s program a row (Entry to) w r e = absurd cc
known_is s program a row (Area area offset) w r e = absurd cc
known_is s program a row (TempEnd minus) w r e = absurd cc
known_is s program a row TempStart w r e = absurd cc
known_is s program a row CtrlStart w r e = absurd cc
known_is s program a row Table w r e = cc

-- a program's addresses so far
first_places : (a k j w : ℕ) (is : List Instruction) → slice_get (take k (starts a (map instruction_size is))) j ≡ Some w
    → w ≡ a + instructions_size (take j is)
first_places a zero j w is h = absurd cc
first_places a (suc k) j w [] h = absurd cc
first_places a (suc k) zero w (x ∷ is) h = let same : a ≡ w = cc in omega (arith, same)
first_places a (suc k) (suc j) w (x ∷ is) h = omega (arith, first_places (a + instruction_size x) k j w is h)

pub is_row : (s : SystemView) (program k : ℕ) (row : List ℕ) → row ≡ take k (row_at (entry_of s program) (program_of s program)) → IsRow s program row
is_row s program k row is place a h =
    let p = program_of s program in
    first_places (entry_of s program + prelude_size p) k place a p.instructions (ap (λ ns. slice_get ns place) (sym is) ∙ h)

-- fix-ups stay fix-ups as words come behind
fixups_more : (s : SystemView) (n m : ℕ) (fs : List FixUp) → n ≤ m → Each (IsFixUp s n) fs → Each (IsFixUp s m) fs
fixups_more s n m [] le h = tt
fixups_more s n m (f ∷ fs) le h = ((omega (arith, h.0.0), h.0.1), fixups_more s n m fs le h.1)

-- a piece more: its word is known, or there is a fix-up for it
pub more_known : (s : SystemView) (program : ℕ) (row : List ℕ) (d e : DraftOf) (a w : ℕ) (piece : Piece) → IsRow s program row → IsDraft s d
    → known_word program row a piece ≡ Some w → a ≡ s.base + length d.words → e ≡ record { words = d.words ++ w ∷ []; fixups = d.fixups }
    → drafted s e ≡ drafted s d ++ word_of (addresses_of s) (s.base + length d.words) piece ∷ []
more_known s program row d e a w piece r h known at is =
    ap (drafted s) is
    ∙ filled-word s d.words d.fixups w h
    ∙ ap (λ v. drafted s d ++ v ∷ []) (known_is s program a row piece w r known ∙ ap (λ b. word_of (addresses_of s) b piece) at)

pub more_open : (s : SystemView) (d e : DraftOf) (n : ℕ) (piece : Piece) → IsDraft s d → n ≡ length d.words
    → e ≡ record { words = d.words ++ 0 ∷ []; fixups = d.fixups ++ record { place = n; piece = piece } ∷ [] }
    → drafted s e ≡ drafted s d ++ word_of (addresses_of s) (s.base + length d.words) piece ∷ []
more_open s d e n piece h at is =
    ap (drafted s) is
    ∙ ap (λ m. filled (addresses_of s) (d.words ++ 0 ∷ []) (d.fixups ++ record { place = m; piece = piece } ∷ [])) at
    ∙ filled-open s d.words d.fixups piece h

pub still_draft : (s : SystemView) (d e : DraftOf) (n : ℕ) (piece : Piece) → IsDraft s d → PieceExists s piece → n ≡ length d.words
    → e ≡ record { words = d.words ++ 0 ∷ []; fixups = d.fixups ++ record { place = n; piece = piece } ∷ [] } → IsDraft s e
still_draft s d e n piece h named at is =
    let m = length (d.words ++ 0 ∷ []) in
    let size : m ≡ length d.words + 1 = length-append d.words (0 ∷ []) in
    let more : Each (IsFixUp s m) d.fixups = fixups_more s (length d.words) m d.fixups (omega (arith, size)) h in
    let last : IsFixUp s m record { place = n; piece = piece } = (omega (arith, size, at), named) in
    subst (IsDraft s) (sym is) (each_append (IsFixUp s m) d.fixups (record { place = n; piece = piece } ∷ []) more (last, tt))

-- one fix-up more is filled
pub filled_next : (A : Addresses) (ws : List ℕ) (k : ℕ) (fs : List FixUp) (d : FixUp) → k < length fs
    → filled A ws (take (k + 1) fs) ≡ set (filled A ws (take k fs)) (get_or fs k d).place
    (word_of A (A.base + (get_or fs k d).place) (get_or fs k d).piece)
filled_next A ws k [] d lt = absurd (omega arith)
filled_next A ws zero (f ∷ fs) d lt = refl
filled_next A ws (suc k) (f ∷ fs) d lt =
    let count : suc k + 1 ≡ suc (k + 1) = omega arith in
    ap (λ n. filled A ws (take n (f ∷ fs))) count ∙ filled_next A (set ws f.place (word_of A (A.base + f.place) f.piece)) k fs d (omega arith)

pub fixup_at : (s : SystemView) (n k : ℕ) (fs : List FixUp) (d : FixUp) → k < length fs → Each (IsFixUp s n) fs → IsFixUp s n (get_or fs k d)
fixup_at s n k [] d lt h = absurd (omega arith)
fixup_at s n zero (f ∷ fs) d lt h = h.0
fixup_at s n (suc k) (f ∷ fs) d lt h = fixup_at s n k fs d (omega arith) h.1
