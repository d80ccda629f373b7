-- Reading trees one after the other, as a loop does.
use Rattle.std.proofs.Common.{◌≡◌, ◌≢◌, ℕ, ◌+◌, ◌<◌, ◌≤◌, List, [], ◌∷◌, ◌++◌, length, get_or, drop, Option, Some, None, Result, Ok, Err, option_map, refl, sym}
use Rattle.std.{proofs.Common.{ap, ◌∙◌, append_assoc, arith}, proofs.lemmas.List.{drop_all, append-nil}}
use Rattle.stack_text.{proofs.Loops.drop-item, proofs.ResultLoops.with_front, specs.Trees.{Node, more}, specs.Views.TreeView.{node_of, nodes_of}}
use Rattle.stack_text.specs.declared.tree.TextTree.{TextTree}
use Rattle.fm_loader.{specs.declared.parsed.Scalar.Scalar, specs.declared.parsed.Entry.Entry, specs.declared.fault.ValuesFault.ValuesFault}
use Rattle.fm_loader.{specs.declared.fault.ValuesFault.TheVariants.{Refused, Memory}, specs.Parsed.{scalar_at, scalars_of, pair_of}, specs.Values.entry_at}
use Rattle.fm_loader.{specs.Values.entries_of, specs.Rules.{Fault, FailsUnless}}

-- ---- the single values of a list

abbrev pub behind_scalars : List Scalar → Option (List Scalar) → Option (List Scalar)
behind_scalars front rest = option_map (λ others. front ++ others) rest

scalar_before : (front : List Scalar) (x : Scalar) (rest : Option (List Scalar))
    → behind_scalars front (option_map (λ others. x ∷ others) rest) ≡ behind_scalars (front ++ x ∷ []) rest
scalar_before front x None = refl
scalar_before front x (Some others) = ap Some (sym (append_assoc front (x ∷ []) others))

scalars_step : (tree : Node) (trees : List TextTree) (x : Scalar) → Some x ≡ scalar_at tree → (rest : Option (List Scalar))
    → scalars_of (nodes_of trees) ≡ rest → option_map (λ others. x ∷ others) rest ≡ scalars_of (more tree (nodes_of trees))
unfolding scalars_of
scalars_step tree trees x is None e = rw (← is, e) refl
scalars_step tree trees x is (Some others) e = rw (← is, e) refl

pub scalars_next : (trees : List TextTree) (i : ℕ) (tree : TextTree) (front : List Scalar) (x : Scalar) (all : Option (List Scalar)) → i < length trees
    → tree ≡ get_or trees i tree → Some x ≡ scalar_at (node_of tree)
    → all ≡ behind_scalars front (scalars_of (nodes_of (drop i trees))) → all ≡ behind_scalars (front ++ x ∷ []) (scalars_of (nodes_of (drop (i + 1) trees)))
scalars_next trees i tree front x all lt is read so_far =
    let step = scalars_step (node_of tree) (drop (i + 1) trees) x read (scalars_of (nodes_of (drop (i + 1) trees))) refl in
    so_far ∙ ap (λ (ts : List TextTree). behind_scalars front (scalars_of (nodes_of ts))) (drop-item trees i tree lt is)
    ∙ ap (behind_scalars front) (sym step) ∙ scalar_before front x (scalars_of (nodes_of (drop (i + 1) trees)))

pub scalars_stop : (trees : List TextTree) (i : ℕ) (tree : TextTree) (front : List Scalar) (all : Option (List Scalar)) → i < length trees
    → tree ≡ get_or trees i tree → None ≡ scalar_at (node_of tree)
    → all ≡ behind_scalars front (scalars_of (nodes_of (drop i trees))) → all ≡ None
unfolding scalars_of
scalars_stop trees i tree front all lt is read so_far =
    so_far ∙ ap (λ (ts : List TextTree). behind_scalars front (scalars_of (nodes_of ts))) (drop-item trees i tree lt is) ∙ rw (← read) refl

pub scalars_end : (trees : List TextTree) (i : ℕ) (front : List Scalar) (all : Option (List Scalar)) → length trees ≤ i
    → all ≡ behind_scalars front (scalars_of (nodes_of (drop i trees))) → all ≡ Some front
unfolding scalars_of
scalars_end trees i front all past so_far =
    so_far ∙ ap (λ (ts : List TextTree). behind_scalars front (scalars_of (nodes_of ts))) (drop_all i trees past) ∙ ap Some (append-nil front)

-- ---- the trees of a list of two

pub no_pair : (trees : List TextTree) → length trees ≢ 2 → None ≡ pair_of (nodes_of trees)
no_pair [] ne = refl
no_pair (a ∷ []) ne = refl
no_pair (a ∷ b ∷ []) ne = absurd (ne refl)
no_pair (a ∷ b ∷ c ∷ trees) ne = refl

pub is_pair : (trees : List TextTree) (first second : TextTree) → length trees ≡ 2 → first ≡ get_or trees 0 first → second ≡ get_or trees 1 second
    → Some (node_of first, node_of second) ≡ pair_of (nodes_of trees)
is_pair [] first second two is is' = absurd (omega arith)
is_pair (a ∷ []) first second two is is' = absurd (omega arith)
is_pair (a ∷ b ∷ []) first second two is is' =
    ap (λ (t : TextTree). Some (node_of t, node_of second)) is ∙ ap (λ (t : TextTree). Some (node_of a, node_of t)) is'
is_pair (a ∷ b ∷ c ∷ trees) first second two is is' = absurd (omega arith)

-- ---- the entries of a text

entry_before : (front : List Entry) (x : Entry) (tree : Node) (trees : List TextTree) → entry_at tree ≡ Ok x → (rest : Result (List Entry) Fault)
    → entries_of (nodes_of trees) ≡ rest →
    with_front front (entries_of (more tree (nodes_of trees))) ≡ with_front (front ++ x ∷ []) rest
unfolding entries_of
entry_before front x tree trees is (Ok others) e = rw (is, e) (ap Ok (sym (append_assoc front (x ∷ []) others)))
entry_before front x tree trees is (Err fault) e = rw (is, e) refl

pub entries_next : (trees : List TextTree) (i : ℕ) (tree : TextTree) (front : List Entry) (x : Entry) (all : Result (List Entry) Fault)
    → i < length trees → tree ≡ get_or trees i tree → entry_at (node_of tree) ≡ Ok x
    → all ≡ with_front front (entries_of (nodes_of (drop i trees))) → all ≡ with_front (front ++ x ∷ []) (entries_of (nodes_of (drop (i + 1) trees)))
entries_next trees i tree front x all lt is read so_far =
    so_far ∙ ap (λ (ts : List TextTree). with_front front (entries_of (nodes_of ts))) (drop-item trees i tree lt is)
    ∙ entry_before front x (node_of tree) (drop (i + 1) trees) read (entries_of (nodes_of (drop (i + 1) trees))) refl

pub entries_stop : (memory : Type 0) (e : ValuesFault) (trees : List TextTree) (i : ℕ) (tree : TextTree) (front : List Entry) (all : Result (List Entry) Fault)
    → i < length trees → tree ≡ get_or trees i tree → FailsUnless memory e (entry_at (node_of tree))
    → all ≡ with_front front (entries_of (nodes_of (drop i trees))) → FailsUnless memory e all
unfolding entries_of
entries_stop memory Memory trees i tree front all lt is fails so_far = fails
entries_stop memory (Refused rule place) trees i tree front all lt is fails so_far =
    so_far ∙ ap (λ (ts : List TextTree). with_front front (entries_of (nodes_of ts))) (drop-item trees i tree lt is) ∙ rw fails refl

pub entries_end : (trees : List TextTree) (i : ℕ) (front : List Entry) (all : Result (List Entry) Fault) → length trees ≤ i
    → all ≡ with_front front (entries_of (nodes_of (drop i trees))) → all ≡ Ok front
unfolding entries_of
entries_end trees i front all past so_far =
    so_far ∙ ap (λ (ts : List TextTree). with_front front (entries_of (nodes_of ts))) (drop_all i trees past) ∙ ap Ok (append-nil front)
