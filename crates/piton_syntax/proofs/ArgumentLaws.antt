-- The arguments of an operation, where each is of its kind.
use Rattle.std.{proofs.Common.{◌≡◌, ◌≢◌, ◌<◌, ◌+◌, ℕ, List, [], ◌∷◌, length, drop, get_or, refl, ap, subst}, specs.Prelude.{IsTrue, Bool, true, false, ◌&&◌}}
use Rattle.std.specs.List.{list_all}
use Rattle.stack_text.{specs.Views.TreeView.{node_of, nodes_of}, specs.declared.tree.TextTree.TextTree, specs.Grammar.Judged.{each_of, fault}}
use Rattle.stack_text.proofs.Loops.{drop-item}
use Rattle.piton_syntax.{specs.declared.argument.ArgKind.ArgKind, specs.Grammar.{are_of_kind, argument_of, arguments_of, is_of_kind}}
use Rattle.piton_syntax.specs.declared.argument.Arguments.TheVariants as row

pub all_of_kind : (k : ArgKind) (ts : List TextTree) → list_all (λ t. is_of_kind k (node_of t)) ts ≡ are_of_kind k (nodes_of ts)
all_of_kind k [] = refl
all_of_kind k (t ∷ ts) = ap (λ b. is_of_kind k (node_of t) && b) (all_of_kind k ts)

second_true : (b : Bool) (c : Bool) → IsTrue (b && c) → IsTrue c
second_true true true h = refl
second_true true false h = h
second_true false true h = refl
second_true false false h = h

first_true : (b : Bool) (c : Bool) → IsTrue (b && c) → IsTrue b
first_true true true h = refl
first_true true false h = refl
first_true false true h = h
first_true false false h = h

-- the first of the trees that are of the kind is of the kind
pub kind_here : (k : ArgKind) (trees : List TextTree) (i : ℕ) (t : TextTree) → i < length trees → t ≡ get_or trees i t
    → IsTrue (are_of_kind k (nodes_of (drop i trees))) → IsTrue (is_of_kind k (node_of t))
kind_here k trees i t lt is h =
    first_true (is_of_kind k (node_of t)) (are_of_kind k (nodes_of (drop (i + 1) trees)))
    (subst (λ ts. IsTrue (are_of_kind k (nodes_of ts))) (drop-item trees i t lt is) h)

-- the trees after one of their kind are of the kind
pub kinds_left : (k : ArgKind) (trees : List TextTree) (i : ℕ) (t : TextTree) → i < length trees → t ≡ get_or trees i t
    → IsTrue (are_of_kind k (nodes_of (drop i trees)))
    → IsTrue (are_of_kind k (nodes_of (drop (i + 1) trees)))
kinds_left k trees i t lt is h =
    second_true (is_of_kind k (node_of t)) (are_of_kind k (nodes_of (drop (i + 1) trees)))
    (subst (λ ts. IsTrue (are_of_kind k (nodes_of ts))) (drop-item trees i t lt is) h)

pub some_kinds : (k : ArgKind) (p : ℕ) (ts : List TextTree) → length ts ≢ 0 → are_of_kind k (nodes_of ts) ≡ true
    → arguments_of (row.OneOrMore k) p (nodes_of ts) ≡ each_of (argument_of k) (nodes_of ts)
some_kinds k p [] ne e = absurd (ne refl)
some_kinds k p (t ∷ ts) ne e = rw e refl

pub other_kinds : (k : ArgKind) (p : ℕ) (ts : List TextTree) → length ts ≢ 0 → are_of_kind k (nodes_of ts) ≡ false
    → arguments_of (row.OneOrMore k) p (nodes_of ts) ≡ fault p 7
other_kinds k p [] ne e = absurd (ne refl)
other_kinds k p (t ∷ ts) ne e = rw e refl
