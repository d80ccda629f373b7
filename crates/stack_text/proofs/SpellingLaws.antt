-- A text that spells a tree with any separators is read as that tree but for places.
use Rattle.std.proofs.Common.{◌≡◌, ℕ, suc, ◌+◌, ◌<◌, max, List, [], ◌∷◌, ◌++◌, map, length, refl, sym, ap, ◌∙◌, append_assoc, arith}
use Rattle.std.proofs.lemmas.List.{append-nil, length-append}
use Rattle.stack_text.{specs.declared.class.Class.Class, specs.declared.class.Class.TheVariants.{LineEnd, Space, Semicolon, Opening, Closing, AtomByte}}
use Rattle.stack_text.{specs.declared.class.Class.TheVariants.Invalid, specs.Tokens.{class_of, Token, opens_at, closes_at, atom_at, between, if_atom_byte}}
use Rattle.stack_text.{specs.Tokens.{atom_run, tokens}, specs.Trees.{Node, Nodes, atom, list, none, more, tokens_of, tokens_of_all, depth, depths, as_kept}}
use Rattle.stack_text.specs.Trees.{AtomsAreRuns, AllAtomsAreRuns, IsWellFormed, without_places, all_without_places, ReadsAs}
use Rattle.stack_text.{specs.Internal.Spellings.{IsSeparator, IsWhitespace, Spells, SpellsAll, SpellsRest}, proofs.RunLaws.{kept_from, tokens-atom_at}}
use Rattle.stack_text.proofs.RunLaws.{tokens-byte, tokens-nil}

-- a tree that was read from a place on: its tokens, and that it differs in places alone
record Lies (t : Node) (at : ℕ) (text rest : List ℕ) : Type 0 where
  as_read : Node
  tokens_are : kept_from at (text ++ rest) ≡ tokens_of as_read ++ kept_from (at + length text) rest
  same : without_places as_read ≡ without_places t
  as_deep : depth as_read ≡ depth t

record AllLie (ts : Nodes) (at : ℕ) (text rest : List ℕ) : Type 0 where
  as_read : Nodes
  tokens_are : kept_from at (text ++ rest) ≡ tokens_of_all as_read ++ kept_from (at + length text) rest
  same : all_without_places as_read ≡ all_without_places ts
  as_deep : depths as_read ≡ depths ts

blank_step : (k : Class) (b at : ℕ) (rest : List ℕ) → IsSeparator k → class_of b ≡ k → tokens between at (b ∷ rest) ≡ tokens between (at + 1) rest
blank_step LineEnd b at rest h is = tokens-byte b rest at LineEnd is
blank_step Space b at rest h is = tokens-byte b rest at Space is
blank_step Semicolon b at rest h is = absurd h
blank_step Opening b at rest h is = absurd h
blank_step Closing b at rest h is = absurd h
blank_step AtomByte b at rest h is = absurd h
blank_step Invalid b at rest h is = absurd h

pub tokens-blank : (gap rest : List ℕ) (at : ℕ) → IsWhitespace gap → tokens between at (gap ++ rest) ≡ tokens between (at + length gap) rest
tokens-blank [] rest at h = ap (λ (n : ℕ). tokens between n rest) (omega arith)
tokens-blank (b ∷ bs) rest at h =
    blank_step (class_of b) b at (bs ++ rest) h.0 refl ∙ tokens-blank bs rest (at + 1) h.1 ∙ ap (λ (n : ℕ). tokens between n rest) (omega arith)

blank_stops : (k : Class) (w : List ℕ) → IsSeparator k → if_atom_byte k w ≡ []
blank_stops LineEnd w h = refl
blank_stops Space w h = refl
blank_stops Semicolon w h = absurd h
blank_stops Opening w h = absurd h
blank_stops Closing w h = absurd h
blank_stops AtomByte w h = absurd h
blank_stops Invalid w h = absurd h

atom_run-blank : (gap rest : List ℕ) → 0 < length gap → IsWhitespace gap → atom_run (gap ++ rest) ≡ []
atom_run-blank [] rest lt h = absurd (omega arith)
atom_run-blank (b ∷ bs) rest lt h = blank_stops (class_of b) (b ∷ atom_run (bs ++ rest)) h.0

atom_run-rest : (ts : Nodes) (text rest : List ℕ) → SpellsRest ts text → atom_run rest ≡ [] → atom_run (text ++ rest) ≡ []
atom_run-rest none text rest h stop = ap (λ (w : List ℕ). atom_run (w ++ rest)) h ∙ stop
atom_run-rest (more t ts) text rest h stop =
    ap (λ (w : List ℕ). atom_run (w ++ rest)) h.7 ∙ ap atom_run (append_assoc h.0 (h.1 ++ h.2) rest) ∙ atom_run-blank h.0 ((h.1 ++ h.2) ++ rest) h.3 h.4

mutual
  lies : (t : Node) (at : ℕ) (text rest : List ℕ) → AtomsAreRuns t → Spells t text → atom_run rest ≡ [] → Lies t at text rest
  lies (atom q w) at text rest fine h stop = record {
    as_read = atom at w;
    tokens_are = ap (λ (x : List ℕ). kept_from at (x ++ rest)) h ∙ ap (map as_kept) (tokens-atom_at w rest at fine.0 fine.1 stop)
        ∙ ap (λ (x : List ℕ). atom_at at w ∷ kept_from (at + length x) rest) (sym h);
    same = refl;
    as_deep = refl;
  }
  lies (list q ts) at text rest fine h stop =
      let inner = h.0 in
      let all = all_lie ts (at + 1) inner (41 ∷ rest) fine h.1 refl in
      let whole : text ++ rest ≡ 40 ∷ (inner ++ 41 ∷ rest) =
      ap (λ (w : List ℕ). w ++ rest) h.2 ∙ ap (λ (w : List ℕ). 40 ∷ w) (append_assoc inner (41 ∷ []) rest) in
      let place : at + 1 + length inner + 1 ≡ at + length text = omega (arith, ap length h.2, length-append inner (41 ∷ [])) in
      record {
        as_read = list at all.as_read;
        tokens_are = ap (kept_from at) whole ∙ ap (map as_kept) (tokens-byte 40 (inner ++ 41 ∷ rest) at Opening refl)
            ∙ ap (λ (us : List Token). opens_at at ∷ us) (all.tokens_are
            ∙ ap (λ (us : List Token). tokens_of_all all.as_read ++ us)
            (ap (map as_kept) (tokens-byte 41 rest (at + 1 + length inner) Closing refl) ∙ ap (λ (n : ℕ). closes_at 0 ∷ kept_from n rest) place)
            ∙ sym (append_assoc (tokens_of_all all.as_read) (closes_at 0 ∷ []) (kept_from (at + length text) rest)));
        same = ap (list 0) all.same;
        as_deep = ap suc all.as_deep;
      }

  all_lie : (ts : Nodes) (at : ℕ) (text rest : List ℕ) → AllAtomsAreRuns ts → SpellsAll ts text → atom_run rest ≡ [] → AllLie ts at text rest
  all_lie none at text rest fine h stop = record {
    as_read = none;
    tokens_are = ap (λ (w : List ℕ). kept_from at (w ++ rest)) h ∙ ap (λ (n : ℕ). kept_from n rest) (omega (arith, ap length h));
    same = refl;
    as_deep = refl;
  }
  all_lie (more t ts) at text rest fine h stop =
      let first = lies t at h.0 (h.1 ++ rest) fine.0 h.2 (atom_run-rest ts h.1 rest h.3 stop) in
      let others = rest_lies ts (at + length h.0) h.1 rest fine.1 h.3 stop in
      record {
        as_read = more first.as_read others.as_read;
        tokens_are = ap (λ (w : List ℕ). kept_from at (w ++ rest)) h.4 ∙ ap (kept_from at) (append_assoc h.0 h.1 rest) ∙ first.tokens_are
            ∙ ap (λ (us : List Token). tokens_of first.as_read ++ us) others.tokens_are
            ∙ sym (append_assoc (tokens_of first.as_read) (tokens_of_all others.as_read) (kept_from (at + length h.0 + length h.1) rest))
            ∙ ap (λ (n : ℕ). tokens_of_all (more first.as_read others.as_read) ++ kept_from n rest) (omega (arith, ap length h.4, length-append h.0 h.1));
        same = ap (λ (x : Node). more x (all_without_places others.as_read)) first.same ∙ ap (more (without_places t)) others.same;
        as_deep = ap (λ (n : ℕ). max n (depths others.as_read)) first.as_deep ∙ ap (max (depth t)) others.as_deep;
      }

  rest_lies : (ts : Nodes) (at : ℕ) (text rest : List ℕ) → AllAtomsAreRuns ts → SpellsRest ts text → atom_run rest ≡ [] → AllLie ts at text rest
  rest_lies none at text rest fine h stop = record {
    as_read = none;
    tokens_are = ap (λ (w : List ℕ). kept_from at (w ++ rest)) h ∙ ap (λ (n : ℕ). kept_from n rest) (omega (arith, ap length h));
    same = refl;
    as_deep = refl;
  }
  rest_lies (more t ts) at text rest fine h stop =
      let first = lies t (at + length h.0) h.1 (h.2 ++ rest) fine.0 h.5 (atom_run-rest ts h.2 rest h.6 stop) in
      let others = rest_lies ts (at + length h.0 + length h.1) h.2 rest fine.1 h.6 stop in
      record {
        as_read = more first.as_read others.as_read;
        tokens_are = ap (λ (w : List ℕ). kept_from at (w ++ rest)) h.7 ∙ ap (kept_from at)
            (append_assoc h.0 (h.1 ++ h.2) rest ∙ ap (λ (w : List ℕ). h.0 ++ w) (append_assoc h.1 h.2 rest))
            ∙ ap (map as_kept) (tokens-blank h.0 (h.1 ++ (h.2 ++ rest)) at h.4) ∙ first.tokens_are
            ∙ ap (λ (us : List Token). tokens_of first.as_read ++ us) others.tokens_are
            ∙ sym (append_assoc (tokens_of first.as_read) (tokens_of_all others.as_read) (kept_from (at + length h.0 + length h.1 + length h.2) rest))
            ∙ ap (λ (n : ℕ). tokens_of_all (more first.as_read others.as_read) ++ kept_from n rest)
            (omega (arith, ap length h.7, length-append h.0 (h.1 ++ h.2), length-append h.1 h.2));
        same = ap (λ (x : Node). more x (all_without_places others.as_read)) first.same ∙ ap (more (without_places t)) others.same;
        as_deep = ap (λ (n : ℕ). max n (depths others.as_read)) first.as_deep ∙ ap (max (depth t)) others.as_deep;
      }

-- A text that spells a tree with any separators between items, and perhaps some after it, is read as that tree but for places.
pub spelled_is_read : (t : Node) (text gap : List ℕ) → IsWellFormed t → Spells t text → IsWhitespace gap → ReadsAs (text ++ gap) t
spelled_is_read t text gap form h blank =
    let l = lies t 0 text gap form.atoms h (gap_stops gap blank) in
    let nothing : kept_from (0 + length text) gap ≡ [] =
    ap (kept_from (0 + length text)) (sym (append-nil gap)) ∙ ap (map as_kept)
    (tokens-blank gap [] (0 + length text) blank ∙ tokens-nil (0 + length text + length gap)) in (
      l.as_read,
      record {
        tokens_are = l.tokens_are ∙ ap (λ (us : List Token). tokens_of l.as_read ++ us) nothing ∙ append-nil (tokens_of l.as_read);
        shallow = omega (arith, l.as_deep, form.shallow);
      },
      l.same,
    )
  where
    gap_stops : (bytes : List ℕ) → IsWhitespace bytes → atom_run bytes ≡ []
    gap_stops [] w = refl
    gap_stops (b ∷ bs) w = blank_stops (class_of b) (b ∷ atom_run bs) w.0
