-- What follows `dl`, by its shape.
use Rattle.std.proofs.Common.{◌≡◌, ◌≢◌, ℕ, List, [], ◌∷◌, length, get_or, Ok, Some, Bor, Vec, Global, refl, sym, ◌∙◌, arith}
use Rattle.stack_text.{specs.Trees.{Node, Nodes, atom, list, none, more}, specs.Views.TreeView.{node_of, nodes_of}, specs.declared.tree.TextTree.TextTree}
use Rattle.stack_text.{specs.declared.tree.TextTree.{Atom, List as ListOf}, proofs.TreeViewLaws.{node_of-atom, node_of-list}}
use Rattle.stack_text.{specs.declared.grammar.fault.FormFault.FormFault, specs.Grammar.Judged.{fault, ◌⊛◌}, specs.Grammar.Reading.IsFirstFault}
use Rattle.stack_text.proofs.PartLaws.{first_of_parts, first_of_value}
use Rattle.piton_syntax.{specs.declared.op.PitonOp.PitonOp, specs.Grammar.{arguments_of, called_of, labelled_of, named_of}, specs.Operations.op_arguments}
use Rattle.piton_syntax.{specs.Operations.operation_named, specs.Systems.new_instruction}

two_behind : (p : ℕ) (t u : Node) → labelled_of p (more t (more u none)) ≡ fault p 6
two_behind p t (atom q bytes) = refl
two_behind p t (list q none) = refl
two_behind p t (list q (more u us)) = refl

four_behind : (p : ℕ) (t u v w : Node) (ts : Nodes) → labelled_of p (more t (more u (more v (more w ts)))) ≡ fault p 6
four_behind p t (atom q bytes) v w ts = refl
four_behind p t (list q (more u us)) v w ts = refl
four_behind p t (list q none) (atom r bytes) w ts = refl
four_behind p t (list q none) (list r none) w ts = refl
four_behind p t (list q none) (list r (more (atom s bytes) vs)) w ts = refl
four_behind p t (list q none) (list r (more (list s us) vs)) w ts = refl

pub not_three_behind : (p : ℕ) (ts : List TextTree) → length ts ≢ 3 → labelled_of p (nodes_of ts) ≡ fault p 6
not_three_behind p [] ne = refl
not_three_behind p (t ∷ []) ne = refl
not_three_behind p (t ∷ u ∷ []) ne = two_behind p (node_of t) (node_of u)
not_three_behind p (t ∷ u ∷ v ∷ []) ne = absurd (ne refl)
not_three_behind p (t ∷ u ∷ v ∷ w ∷ ts) ne = four_behind p (node_of t) (node_of u) (node_of v) (node_of w) (nodes_of ts)

-- the middle tree is no empty list
pub no_gap : (p : ℕ) (t : Node) (q : ℕ) (items : List TextTree) (us : Nodes) → length items ≢ 0
    → labelled_of p (more t (more (list q (nodes_of items)) us)) ≡ fault p 6
no_gap p t q [] us ne = absurd (ne refl)
no_gap p t q (u ∷ items) us ne = refl

pub behind_atom : (p : ℕ) (ts : List TextTree) (gap : TextTree) → length ts ≡ 3 → gap ≡ get_or ts 1 gap → (q : ℕ) (text : Bor (List ℕ))
    → gap ≡ Atom q text → labelled_of p (nodes_of ts) ≡ fault p 6
behind_atom p [] gap e is q text gap_is = absurd (omega (arith, e))
behind_atom p (t ∷ []) gap e is q text gap_is = absurd (omega (arith, e))
behind_atom p (t ∷ u ∷ ts) gap e is q text gap_is = rw (sym is ∙ gap_is, node_of-atom q text) refl

pub behind_items : (p : ℕ) (ts : List TextTree) (gap : TextTree) → length ts ≡ 3 → gap ≡ get_or ts 1 gap → (q : ℕ) (items : Vec TextTree Global)
    → gap ≡ ListOf q items → length items.items ≢ 0
    → labelled_of p (nodes_of ts) ≡ fault p 6
behind_items p [] gap e is q items gap_is ne = absurd (omega (arith, e))
behind_items p (t ∷ []) gap e is q items gap_is ne = absurd (omega (arith, e))
behind_items p (t ∷ u ∷ ts) gap e is q items gap_is ne = rw (sym is ∙ gap_is, node_of-list q items) (no_gap p (node_of t) q items.items (nodes_of ts) ne)

-- the first fault of a labelled instruction whose operation is known
pub fault_in_label : (R : Type 0) (e : FormFault) (p q : ℕ) (label : Node) (name : List ℕ) (o : PitonOp) (ts : Nodes) → operation_named name ≡ Some o
    → IsFirstFault R e (named_of label)
    → IsFirstFault R e (called_of p (Ok Some ⊛ named_of label) (operation_named name) q ts)
fault_in_label R e p q label name o ts found h =
    rw found
    (first_of_parts R e (Ok (new_instruction p o) ⊛ (Ok Some ⊛ named_of label)) (arguments_of (op_arguments o) q ts)
    (first_of_value R e (new_instruction p o) (Ok Some ⊛ named_of label) (first_of_value R e Some (named_of label) h)))
