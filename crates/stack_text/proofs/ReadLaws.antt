-- What is read has its places in order, and its atoms are runs of atom bytes.
use Rattle.std.proofs.Common.{◌≡◌, ℕ, ◌+◌, ◌<◌, ◌≤◌, ◌^◌, List, [], ◌∷◌, ◌++◌, map, length, refl, sym, ap, subst, ◌∙◌, append_assoc, arith}
use Rattle.std.proofs.lemmas.List.{append-nil, length-append, length-map}
use Rattle.stack_text.{specs.declared.class.Class.Class, specs.declared.class.Class.TheVariants.{LineEnd, Space, Semicolon, Opening, Closing, AtomByte}}
use Rattle.stack_text.{specs.declared.class.Class.TheVariants.Invalid, specs.Tokens.{class_of, Token, opens_at, closes_at, atom_at, invalid_at, Mode, between}}
use Rattle.stack_text.{specs.Tokens.{in_atom, in_comment, next, if_atom_byte, atom_run, begins, tokens}, specs.Trees.{Node, Nodes, atom, list, none, more}}
use Rattle.stack_text.specs.Trees.{tokens_of, tokens_of_all, as_kept, TreeOf, AtomsAreRuns, AllAtomsAreRuns, node_count, node_counts, IsWellFormed}
use Rattle.stack_text.specs.PlaceOrder.{InOrder, AllInOrder, IsInOrder}

-- the places of the tokens go up from lo on, and their atoms are runs
abbrev Sound : ℕ → List Token → Type 0
Sound lo [] = Unit {0}
Sound lo (opens_at q ∷ ts) = (lo ≤ q) × Sound (q + 1) ts
Sound lo (closes_at q ∷ ts) = Sound lo ts
Sound lo (atom_at q w ∷ ts) = (lo ≤ q) × ((0 < length w) × (atom_run w ≡ w)) × Sound (q + 1) ts
Sound lo (invalid_at q ∷ ts) = Sound lo ts

Sound-weaker : (lo low : ℕ) (ts : List Token) → low ≤ lo → Sound lo ts → Sound low ts
Sound-weaker lo low [] le h = tt
Sound-weaker lo low (opens_at q ∷ ts) le h = (omega (arith, h.0), h.1)
Sound-weaker lo low (closes_at q ∷ ts) le h = Sound-weaker lo low ts le h
Sound-weaker lo low (atom_at q w ∷ ts) le h = (omega (arith, h.0), h.1, h.2)
Sound-weaker lo low (invalid_at q ∷ ts) le h = Sound-weaker lo low ts le h

Sound-as_kept : (lo : ℕ) (ts : List Token) → Sound lo ts → Sound lo (map as_kept ts)
Sound-as_kept lo [] h = tt
Sound-as_kept lo (opens_at q ∷ ts) h = (h.0, Sound-as_kept (q + 1) ts h.1)
Sound-as_kept lo (closes_at q ∷ ts) h = Sound-as_kept lo ts h
Sound-as_kept lo (atom_at q w ∷ ts) h = (h.0, h.1, Sound-as_kept (q + 1) ts h.2)
Sound-as_kept lo (invalid_at q ∷ ts) h = Sound-as_kept lo ts h

run_again : (k : Class) (b : ℕ) (r : List ℕ) → class_of b ≡ k → atom_run r ≡ r → atom_run (if_atom_byte k (b ∷ r)) ≡ if_atom_byte k (b ∷ r)
run_again LineEnd b r is h = refl
run_again Space b r is h = refl
run_again Semicolon b r is h = refl
run_again Opening b r is h = refl
run_again Closing b r is h = refl
run_again AtomByte b r is h = ap (λ (k : Class). if_atom_byte k (b ∷ atom_run r)) is ∙ ap (λ (w : List ℕ). b ∷ w) h
run_again Invalid b r is h = refl

atom_run-atom_run : (bs : List ℕ) → atom_run (atom_run bs) ≡ atom_run bs
atom_run-atom_run [] = refl
atom_run-atom_run (b ∷ bs) = run_again (class_of b) b (atom_run bs) refl (atom_run-atom_run bs)

sound_byte : (m : Mode) (k : Class) (at b : ℕ) (bs : List ℕ) (ts : List Token) → class_of b ≡ k → Sound (at + 1) ts → Sound at (begins m k at (b ∷ bs) ++ ts)
sound_byte in_comment k at b bs ts is h = Sound-weaker (at + 1) at ts (omega arith) h
sound_byte in_atom LineEnd at b bs ts is h = Sound-weaker (at + 1) at ts (omega arith) h
sound_byte in_atom Space at b bs ts is h = Sound-weaker (at + 1) at ts (omega arith) h
sound_byte in_atom Semicolon at b bs ts is h = Sound-weaker (at + 1) at ts (omega arith) h
sound_byte in_atom Opening at b bs ts is h = (omega arith, h)
sound_byte in_atom Closing at b bs ts is h = Sound-weaker (at + 1) at ts (omega arith) h
sound_byte in_atom AtomByte at b bs ts is h = Sound-weaker (at + 1) at ts (omega arith) h
sound_byte in_atom Invalid at b bs ts is h = Sound-weaker (at + 1) at ts (omega arith) h
sound_byte between LineEnd at b bs ts is h = Sound-weaker (at + 1) at ts (omega arith) h
sound_byte between Space at b bs ts is h = Sound-weaker (at + 1) at ts (omega arith) h
sound_byte between Semicolon at b bs ts is h = Sound-weaker (at + 1) at ts (omega arith) h
sound_byte between Opening at b bs ts is h = (omega arith, h)
sound_byte between Closing at b bs ts is h = Sound-weaker (at + 1) at ts (omega arith) h
sound_byte between AtomByte at b bs ts is h =
    let first : atom_run (b ∷ bs) ≡ b ∷ atom_run bs = ap (λ (k : Class). if_atom_byte k (b ∷ atom_run bs)) is in
    (omega arith, (omega (arith, ap length first), atom_run-atom_run (b ∷ bs)), h)
sound_byte between Invalid at b bs ts is h = Sound-weaker (at + 1) at ts (omega arith) h

tokens_sound : (m : Mode) (at : ℕ) (bs : List ℕ) → Sound at (tokens m at bs)
unfolding tokens
tokens_sound m at [] = tt
tokens_sound m at (b ∷ bs) = sound_byte m (class_of b) at b bs (tokens (next m (class_of b)) (at + 1) bs) refl (tokens_sound (next m (class_of b)) (at + 1) bs)

mutual
  sound_tree : (t : Node) (lo : ℕ) (ts : List Token) → Sound lo (tokens_of t ++ ts) → AtomsAreRuns t
      × ((mid : ℕ) × InOrder lo t mid × (lo ≤ mid) × Sound mid ts)
  sound_tree (atom p w) lo ts h = (h.1, (p + 1, (h.0, omega arith), omega (arith, h.0), h.2))
  sound_tree (list p us) lo ts h =
      let k = sound_trees us (p + 1) (closes_at 0 ∷ ts) (subst (Sound (p + 1)) (append_assoc (tokens_of_all us) (closes_at 0 ∷ []) ts) h.1) in
      (k.0, (k.1.0, (h.0, omega (arith, k.1.2), k.1.1), omega (arith, k.1.2, h.0), k.1.3))

  sound_trees : (us : Nodes) (lo : ℕ) (ts : List Token) → Sound lo (tokens_of_all us ++ ts) → AllAtomsAreRuns us
      × ((mid : ℕ) × AllInOrder lo us mid × (lo ≤ mid) × Sound mid ts)
  sound_trees none lo ts h = (tt, (lo, omega arith, omega arith, h))
  sound_trees (more u us) lo ts h =
      let k = sound_tree u lo (tokens_of_all us ++ ts) (subst (Sound lo) (append_assoc (tokens_of u) (tokens_of_all us) ts) h) in
      let l = sound_trees us k.1.0 ts k.1.3 in
      ((k.0, l.0), (l.1.0, (k.1.0, k.1.1, l.1.1), omega (arith, k.1.2, l.1.2), l.1.3))

sound_text : (text : List ℕ) (t : Node) → TreeOf text t → Sound 0 (tokens_of t ++ [])
sound_text text t h = subst (Sound 0) (h.tokens_are ∙ sym (append-nil (tokens_of t))) (Sound-as_kept 0 (tokens between 0 text) (tokens_sound between 0 text))

pub text_is_in_order : (text : List ℕ) (t : Node) → TreeOf text t → IsInOrder t
text_is_in_order text t h = let k = sound_tree t 0 [] (sound_text text t h) in (k.1.0, k.1.1)

-- ---- no more trees than bytes

short_begins : (m : Mode) (k : Class) (at : ℕ) (bytes : List ℕ) → length (begins m k at bytes) ≤ 1
short_begins in_comment k at bytes = omega arith
short_begins in_atom LineEnd at bytes = omega arith
short_begins in_atom Space at bytes = omega arith
short_begins in_atom Semicolon at bytes = omega arith
short_begins in_atom Opening at bytes = omega arith
short_begins in_atom Closing at bytes = omega arith
short_begins in_atom AtomByte at bytes = omega arith
short_begins in_atom Invalid at bytes = omega arith
short_begins between LineEnd at bytes = omega arith
short_begins between Space at bytes = omega arith
short_begins between Semicolon at bytes = omega arith
short_begins between Opening at bytes = omega arith
short_begins between Closing at bytes = omega arith
short_begins between AtomByte at bytes = omega arith
short_begins between Invalid at bytes = omega arith

pub few_tokens : (m : Mode) (at : ℕ) (bs : List ℕ) → length (tokens m at bs) ≤ length bs
unfolding tokens
few_tokens m at [] = omega arith
few_tokens m at (b ∷ bs) =
    omega (
      arith,
      few_tokens (next m (class_of b)) (at + 1) bs,
      short_begins m (class_of b) at (b ∷ bs),
      length-append (begins m (class_of b) at (b ∷ bs)) (tokens (next m (class_of b)) (at + 1) bs),
    )

mutual
  few_trees : (t : Node) → node_count t ≤ length (tokens_of t)
  few_trees (atom p w) = omega arith
  few_trees (list p ts) = omega (arith, few_lists ts, length-append (tokens_of_all ts) (closes_at 0 ∷ []))

  few_lists : (ts : Nodes) → node_counts ts ≤ length (tokens_of_all ts)
  few_lists none = omega arith
  few_lists (more t ts) = omega (arith, few_trees t, few_lists ts, length-append (tokens_of t) (tokens_of_all ts))

pub text_is_well_formed : (text : List ℕ) → length text ≤ 2 ^ 31 → (t : Node) → TreeOf text t → IsWellFormed t
text_is_well_formed text small t h = record {
  atoms = (sound_tree t 0 [] (sound_text text t h)).0;
  shallow = h.shallow;
  few = omega (arith, few_trees t, ap length h.tokens_are, length-map (tokens between 0 text) as_kept, few_tokens between 0 text);
}
