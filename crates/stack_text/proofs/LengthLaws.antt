-- No atom and no list of a tree is longer than the text that it was read from.
use Rattle.std.proofs.Common.{◌≡◌, Vec, Global, ℕ, zero, suc, ◌+◌, ◌<◌, ◌≤◌, max, get_or, take, List, [], ◌∷◌, ◌++◌, map, length, arith, ap}
use Rattle.std.proofs.lemmas.List.{length-append, length-map, length-take}
use Rattle.stack_text.{specs.declared.class.Class.Class, specs.declared.class.Class.TheVariants.AtomByte, specs.Tokens.{Token, opens_at, closes_at, atom_at}}
use Rattle.stack_text.{specs.Tokens.{invalid_at, between, in_atom, in_comment, Mode, tokens, begins, next, class_of, atom_run, if_atom_byte}, specs.Trees.Node}
use Rattle.stack_text.{specs.Trees.{Nodes, atom, list, none, more, tokens_of, tokens_of_all, as_kept}, specs.Grammar.Parts.count_of}
use Rattle.stack_text.{specs.Views.TreeView.{node_of, nodes_of, owned_node}, specs.Lengths.{longest_in, longest_among}, specs.declared.tree.Tree.Tree}
use Rattle.stack_text.{specs.declared.tree.TextTree.TextTree, specs.declared.tree.TextTree.TheViews.List as MadeList, proofs.TreeViewLaws.node_of-list}
use Rattle.stack_text.{proofs.TreeListLaws.count_of_all, proofs.ReadLaws.few_tokens}

abbrev atom_length : Token → ℕ
atom_length (opens_at p) = 0
atom_length (closes_at p) = 0
atom_length (atom_at p w) = length w
atom_length (invalid_at p) = 0

-- how many bytes the longest atom among the tokens has
abbrev longest_atom : List Token → ℕ
longest_atom [] = 0
longest_atom (t ∷ ts) = max (atom_length t) (longest_atom ts)

longest_atom-append : (ts us : List Token) → longest_atom (ts ++ us) ≡ max (longest_atom ts) (longest_atom us)
longest_atom-append [] us = omega arith
longest_atom-append (t ∷ ts) us = omega (arith, longest_atom-append ts us)

longest_atom-as_kept : (ts : List Token) → longest_atom (map as_kept ts) ≡ longest_atom ts
longest_atom-as_kept [] = omega arith
longest_atom-as_kept (opens_at p ∷ ts) = omega (arith, longest_atom-as_kept ts)
longest_atom-as_kept (closes_at p ∷ ts) = omega (arith, longest_atom-as_kept ts)
longest_atom-as_kept (atom_at p w ∷ ts) = omega (arith, longest_atom-as_kept ts)
longest_atom-as_kept (invalid_at p ∷ ts) = omega (arith, longest_atom-as_kept ts)

short_if_atom_byte : (k : Class) (bytes : List ℕ) → length (if_atom_byte k bytes) ≤ length bytes
short_if_atom_byte AtomByte bytes = omega arith
short_if_atom_byte k bytes = omega arith

short_run : (bs : List ℕ) → length (atom_run bs) ≤ length bs
short_run [] = omega arith
short_run (b ∷ bs) = omega (arith, short_if_atom_byte (class_of b) (b ∷ atom_run bs), short_run bs)

short_atom : (m : Mode) (k : Class) (at : ℕ) (bytes : List ℕ) → longest_atom (begins m k at bytes) ≤ length bytes
short_atom in_comment k at bytes = omega arith
short_atom in_atom AtomByte at bytes = omega arith
short_atom in_atom k at bytes = omega arith
short_atom between AtomByte at bytes = omega (arith, short_run bytes)
short_atom between k at bytes = omega arith

short_atoms : (m : Mode) (at : ℕ) (bs : List ℕ) → longest_atom (tokens m at bs) ≤ length bs
unfolding tokens
short_atoms m at [] = omega arith
short_atoms m at (b ∷ bs) =
    omega (
      arith,
      short_atoms (next m (class_of b)) (at + 1) bs,
      short_atom m (class_of b) at (b ∷ bs),
      longest_atom-append (begins m (class_of b) at (b ∷ bs)) (tokens (next m (class_of b)) (at + 1) bs),
    )

some_token : (t : Node) → 1 ≤ length (tokens_of t)
some_token (atom p w) = omega arith
some_token (list p ts) = omega arith

few_items : (ts : Nodes) → count_of ts ≤ length (tokens_of_all ts)
few_items none = omega arith
few_items (more t ts) = omega (arith, some_token t, few_items ts, length-append (tokens_of t) (tokens_of_all ts))

mutual
  longest_in-tokens : (t : Node) → longest_in t ≤ max (length (tokens_of t)) (longest_atom (tokens_of t))
  longest_in-tokens (atom p w) = omega arith
  longest_in-tokens (list p ts) =
      omega (
        arith,
        few_items ts,
        longest_among-tokens ts,
        length-append (tokens_of_all ts) (closes_at 0 ∷ []),
        longest_atom-append (tokens_of_all ts) (closes_at 0 ∷ []),
      )

  longest_among-tokens : (ts : Nodes) → longest_among ts ≤ max (length (tokens_of_all ts)) (longest_atom (tokens_of_all ts))
  longest_among-tokens none = omega arith
  longest_among-tokens (more t ts) =
      omega (
        arith,
        longest_in-tokens t,
        longest_among-tokens ts,
        length-append (tokens_of t) (tokens_of_all ts),
        longest_atom-append (tokens_of t) (tokens_of_all ts),
      )

pub longest_in-text : (text : List ℕ) (t : Node) → map as_kept (tokens between 0 text) ≡ tokens_of t → longest_in t ≤ length text
longest_in-text text t is =
    omega (
      arith,
      longest_in-tokens t,
      ap length is,
      length-map (tokens between 0 text) as_kept,
      few_tokens between 0 text,
      ap longest_atom is,
      longest_atom-as_kept (tokens between 0 text),
      short_atoms between 0 text,
    )

-- ---- a list whose items are copied in a loop

-- it has no more items than its longest list
pub items_within : (p : ℕ) (v : Vec TextTree Global) (t : TextTree) → t ≡ MadeList p v → length v.items ≤ longest_in (node_of t)
items_within p v t is = omega (arith, ap (λ (u : TextTree). longest_in (node_of u)) is, ap longest_in (node_of-list p v), count_of_all v.items)

-- nor is an item longer than the longest
among : (ts : List TextTree) (i : ℕ) (u : TextTree) → i < length ts → u ≡ get_or ts i u → longest_in (node_of u) ≤ longest_among (nodes_of ts)
among [] i u lt is = absurd (omega (arith, lt))
among (t ∷ ts) zero u lt is = omega (arith, ap (λ (x : TextTree). longest_in (node_of x)) is)
among (t ∷ ts) (suc i) u lt is = let rest = among ts i u (omega (arith, lt)) is in omega (arith, rest)

pub item_within : (p : ℕ) (v : Vec TextTree Global) (t : TextTree) (i : ℕ) (u : TextTree) → t ≡ MadeList p v → i < length v.items
    → u ≡ get_or v.items i u → longest_in (node_of u) ≤ longest_in (node_of t)
item_within p v t i u is lt u_is =
    omega (
      arith,
      ap (λ (x : TextTree). longest_in (node_of x)) is,
      ap longest_in (node_of-list p v),
      among v.items i u lt u_is,
    )

-- no more items are copied than there are
pub few_copied : (owned : List Tree) (ts : List TextTree) (i : ℕ) → map owned_node owned ≡ map node_of (take i ts) → length owned ≤ length ts
few_copied owned ts i is = omega (arith, ap length is, length-map owned owned_node, length-map (take i ts) node_of, length-take i ts)
