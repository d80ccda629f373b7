-- What a reader of texts by a grammar returns is what the text has; what is read keeps the form, and is read back.
use Rattle.std.{proofs.Common.{◌≡◌, ◌≤◌, ℕ, List, Option, Some, None, Result, Ok, Err, length, refl, sym, ap, ◌∙◌, subst}, specs.Prelude.◌^◌}
use Rattle.stack_text.{specs.declared.text_fault.TextRule.TextRule, specs.declared.text_fault.TextFault.TextFault}
use Rattle.stack_text.{specs.declared.grammar.fault.FormFault.FormFault, specs.declared.grammar.fault.FormFault.TheVariants.{Form, Memory}}
use Rattle.stack_text.{specs.Gives.FailsUnless, specs.PlaceOrder.IsInOrder, specs.Results.unless_fault, specs.Views.TreeView.node_of}
use Rattle.stack_text.{specs.TextFaults.text_fault, specs.Tokens.{between, tokens}, specs.TreeIn.{GivesTreeUnless, first_item, items_of, tree_in}}
use Rattle.stack_text.{specs.Trees.{Node, TreeOf, ReadsAs, IsWellFormed, without_places}, specs.Grammar.Judged.Judged, specs.Grammar.Reading.IsFirstFault}
use Rattle.stack_text.specs.Grammar.TextReaders.{TextReader, fault_of_breach, fault_of_form, fault_of_text, judgement, value_by, value_in, KeepsFormOf}
use Rattle.stack_text.{specs.Grammar.TextReaders.ReadsBack, proofs.FaultLaws.no_fault_has_tree, proofs.PlacesLaws.same_lifted}
use Rattle.stack_text.{proofs.ReadLaws.text_is_well_formed, proofs.RiseLaws.first_is_judged, proofs.TreeInLaws.tree_in-TreeOf, proofs.WalkLaws.Part}
use Rattle.stack_text.specs.declared.text_fault.TextFault.TheVariants as text

-- ---- faults

-- which fault an error is: each but out of memory is one
pub record TellsFaults {X F : Type 0} (r : TextReader X F) (fault_of : F → Option F) : Type 0 where
  pub of_text : (rule : TextRule) (place : ℕ) → fault_of (r.text_fault rule place) ≡ Some (r.text_fault rule place)
  pub of_form : (rule place : ℕ) → fault_of (r.form_fault rule place) ≡ Some (r.form_fault rule place)
  pub of_memory : fault_of r.out_of_memory ≡ None

pub text_at_fault : {X F : Type 0} → (r : TextReader X F) (fault_of : F → Option F) → TellsFaults r fault_of
    → (R : Type 0) (e : TextFault) (bytes : List ℕ)
    → GivesTreeUnless R node_of (Err e) (tree_in bytes) → FailsUnless R (fault_of (fault_of_text r e)) (value_in r bytes)
text_at_fault r fault_of tells R (text.Fault rule place) bytes h = rw (tells.of_text rule place, h) refl
text_at_fault r fault_of tells R text.Memory bytes h = rw tells.of_memory h

-- the first fault in reading order, which is what the reader of a tree returns, is the least
pub tree_at_fault : {X F : Type 0} {P : Node → X → Type 0} → (r : TextReader X F) (fault_of : F → Option F) → TellsFaults r fault_of
    → ((t : Node) → Part r.judge r.unplaced P t)
    → (R : Type 0) (e : FormFault) (bytes : List ℕ) (t : Node) → tree_in bytes ≡ Ok t → IsInOrder t
    → IsFirstFault R e (r.judge t) → FailsUnless R (fault_of (fault_of_form r e)) (value_in r bytes)
tree_at_fault r fault_of tells part R (Form rule place) bytes t is order h =
    rw (tells.of_form rule place, is, h.1)
    (ap (λ f. Err (fault_of_breach r f)) (first_is_judged t (part t).rises order (record { place = place; rule = rule }) h.0 h.1))
tree_at_fault r fault_of tells part R Memory bytes t is order h = rw tells.of_memory h

-- ---- values

-- the tree that a text is found to have is one of it
pub TreeOf-tree_in : (text : List ℕ) (t : Node) → tree_in text ≡ Ok t → TreeOf text t
unfolding tree_in
TreeOf-tree_in text t is = by_fault (text_fault text) refl is
  where
    by_fault : (fault : Option (TextRule × ℕ)) → text_fault text ≡ fault
        → unless_fault fault (first_item (items_of (tokens between 0 text))) ≡ Ok t → TreeOf text t
    by_fault (Some fault) none h = absurd cc
    by_fault None none h =
        let found = no_fault_has_tree text none in
        let both : Ok found.0 ≡ Ok t = sym (tree_in-TreeOf text found.0 found.1) ∙ is in
        let same : found.0 ≡ t = cc in
        subst (TreeOf text) same found.1

-- a tree of which a text has its value
abbrev pub ValueTree : {X F : Type 0} → TextReader X F → List ℕ → X → Type 0
ValueTree r text x = (t : Node) × (tree_in text ≡ Ok t) × (r.judge t ≡ Ok x)

pub value_tree : {X F : Type 0} → (r : TextReader X F) (text : List ℕ) (x : X) → value_in r text ≡ Ok x → ValueTree r text x
value_tree {X = X} r text x is = by_tree (tree_in text) refl is
  where
    by_judgement : (t : Node) → tree_in text ≡ Ok t → (judged : Judged X) → r.judge t ≡ judged → judgement r judged ≡ Ok x
        → ValueTree r text x
    by_judgement t there (Ok y) reads h = let same : y ≡ x = cc in (t, there, reads ∙ ap (λ (z : X). Ok z) same)
    by_judgement t there (Err faults) reads h = absurd cc

    by_tree : (found : Result Node (TextRule × ℕ)) → tree_in text ≡ found → value_by r found ≡ Ok x → ValueTree r text x
    by_tree (Ok t) there h = by_judgement t there (r.judge t) refl h
    by_tree (Err fault) there h = absurd cc

-- the value of a text keeps the form, where that of each tree does
pub text_keeps_form : {X F : Type 0} → (r : TextReader X F)
    → ((t : Node) (x : X) → r.judge t ≡ Ok x → IsWellFormed t → KeepsFormOf r x)
    → (text : List ℕ) → length text ≤ 2 ^ 31 → (x : X) → value_in r text ≡ Ok x → KeepsFormOf r x
text_keeps_form r keeps text short x is =
    let found = value_tree r text x is in
    keeps found.0 x found.2 (text_is_well_formed text short found.0 (TreeOf-tree_in text found.0 found.1))

-- a text that is a value's tree but for places is read as that value, where a tree is judged to be the same without places
pub read_back : {X F : Type 0} {P : Node → X → Type 0} → (r : TextReader X F)
    → ((t : Node) → Part r.judge r.unplaced P t) → (text : List ℕ) (x : X)
    → ReadsAs text (r.tree x) → without_places (r.tree x) ≡ r.tree x → r.judge (r.tree x) ≡ Ok (r.unplaced x) → ReadsBack r text x
read_back r part text x h plain reads =
    let same : r.judge (without_places h.0) ≡ Ok (r.unplaced x) = ap r.judge (h.2 ∙ plain) ∙ reads in
    let found = same_lifted r.unplaced (r.judge h.0) (r.judge (without_places h.0)) (r.unplaced x) (part h.0).same same in
    (found.0, ap (value_by r) (tree_in-TreeOf text h.0 h.1) ∙ ap (judgement r) found.1, found.2)
