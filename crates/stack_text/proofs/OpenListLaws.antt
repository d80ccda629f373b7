-- How the open lists change.
use Rattle.std.proofs.Common.{◌≡◌, ◌≢◌, Bor, Vec, Global, ℕ, suc, ◌+◌, ◌<◌, ◌≤◌, List, [], ◌∷◌, ◌++◌, map, length, Option, Some, None, Result, Ok, Err, refl}
use Rattle.std.{proofs.Common.{sym, ap, ◌∙◌, append_assoc, arith}, proofs.lemmas.List.{append-nil, length-set, map_push, take_all, take_more_set}}
use Rattle.std.{proofs.Math.Seq.take-suc, specs.Prelude.{slice_index_or, slice_set, take}, proofs.lemmas.Bool.{lt-ltb, le-ltb}}
use Rattle.stack_text.{specs.Tokens.{Token, opens_at, closes_at, atom_at, between, tokens}, specs.Trees.{Node, tokens_of, tokens_of_all, as_kept}}
use Rattle.stack_text.{specs.Views.TreeView.{nodes, node_of, nodes_of}, specs.TextFaults.{Context, before, within, after, open_lists, after_tree, first_fault}}
use Rattle.stack_text.{specs.TextFaults.text_fault, specs.Internal.OpenLists.{opened, context_from, context, Puts, Steps, ReadsText, ReturnsAlone}}
use Rattle.stack_text.{specs.declared.reader.OpenList.OpenList, specs.declared.tree.TextTree.TextTree, specs.declared.tree.TextTree.TheBlock.Atom}
use Rattle.stack_text.{specs.declared.tree.TextTree.TheViews.List as MadeList, specs.declared.text_fault.TextFault.TextFault}
use Rattle.stack_text.{specs.declared.text_fault.TextFault.TheVariants.{Fault, Memory}, specs.declared.text_fault.TextRule.TheVariants.{G2, G4}}
use Rattle.stack_text.proofs.TreeViewLaws.{node_of-atom, node_of-list}

pub opened-push : (os : List OpenList) (o : OpenList) → opened (os ++ o ∷ []) ≡ opened os ++ (opens_at o.place ∷ tokens_of_all (nodes_of o.items.items))
opened-push [] o = ap (λ (ts : List Token). opens_at o.place ∷ ts) (append-nil (tokens_of_all (nodes_of o.items.items)))
opened-push (x ∷ os) o =
    ap (λ (ts : List Token). opens_at x.place ∷ (tokens_of_all (nodes_of x.items.items) ++ ts)) (opened-push os o)
    ∙ ap (λ (ts : List Token). opens_at x.place ∷ ts)
    (sym (append_assoc (tokens_of_all (nodes_of x.items.items)) (opened os) (opens_at o.place ∷ tokens_of_all (nodes_of o.items.items))))

pub context_from-push : (s : Context) (os : List OpenList) (o : OpenList) → context_from s (os ++ o ∷ []) ≡ within o.place (context_from s os)
context_from-push s [] o = refl
context_from-push s (x ∷ os) o = context_from-push (within x.place s) os o

pub tokens_of_all-push : (ts : List Node) (t : Node) → tokens_of_all (nodes (ts ++ t ∷ [])) ≡ tokens_of_all (nodes ts) ++ tokens_of t
tokens_of_all-push [] t = append-nil (tokens_of t)
tokens_of_all-push (x ∷ ts) t =
    ap (λ (us : List Token). tokens_of x ++ us) (tokens_of_all-push ts t) ∙ sym (append_assoc (tokens_of x) (tokens_of_all (nodes ts)) (tokens_of t))

pub tokens_of_all-nodes_of-push : (ts : List TextTree) (t : TextTree) → tokens_of_all (nodes_of (ts ++ t ∷ [])) ≡ tokens_of_all (nodes_of ts)
    ++ tokens_of (node_of t)
tokens_of_all-nodes_of-push ts t = ap (λ (us : List Node). tokens_of_all (nodes us)) (map_push node_of ts t) ∙ tokens_of_all-push (map node_of ts) (node_of t)

puts : (old rest new : List OpenList) (o p : OpenList) (t : TextTree) → old ≡ rest ++ o ∷ [] → new ≡ rest ++ p ∷ [] → p.place ≡ o.place
    → p.items.items ≡ o.items.items ++ t ∷ [] →
    (opened new ≡ opened old ++ tokens_of (node_of t)) × (context new ≡ after_tree (context old))
puts old rest new o p t old_is new_is place_is items_is = (
  ap opened new_is ∙ opened-push rest p
      ∙ ap (λ (q : ℕ). opened rest ++ (opens_at q ∷ tokens_of_all (nodes_of p.items.items))) place_is
      ∙ ap (λ (ts : List TextTree). opened rest ++ (opens_at o.place ∷ tokens_of_all (nodes_of ts))) items_is
      ∙ ap (λ (ts : List Token). opened rest ++ (opens_at o.place ∷ ts)) (tokens_of_all-nodes_of-push o.items.items t)
      ∙ sym (append_assoc (opened rest) (opens_at o.place ∷ tokens_of_all (nodes_of o.items.items)) (tokens_of (node_of t)))
      ∙ ap (λ (ts : List Token). ts ++ tokens_of (node_of t)) (sym (opened-push rest o) ∙ sym (ap opened old_is)),
  ap context new_is ∙ context_from-push before rest p ∙ ap (λ (q : ℕ). within q (context rest)) place_is
      ∙ sym (ap after_tree (ap context old_is ∙ context_from-push before rest o)),
)

-- the innermost list grows in its place
pub puts_in_place : (old : List OpenList) (at : ℕ) (o p : OpenList) (t : TextTree) → at + 1 ≡ length old → o ≡ slice_index_or old at o
    → p.place ≡ o.place → p.items.items ≡ o.items.items ++ t ∷ [] →
    (opened (slice_set old at p) ≡ opened old ++ tokens_of (node_of t)) × (context (slice_set old at p) ≡ after_tree (context old))
puts_in_place old at o p t end found place_is items_is = puts old (take at old) (slice_set old at p) o p t old_is new_is place_is items_is
  where
    old_is : old ≡ take at old ++ o ∷ []
    old_is = sym (take_all (suc at) old (omega (arith, end))) ∙ take-suc old at o (omega (arith, end))
        ∙ ap (λ (x : OpenList). take at old ++ x ∷ []) (sym found)

    new_is : slice_set old at p ≡ take at old ++ p ∷ []
    new_is = sym (take_all (at + 1) (slice_set old at p) (omega (arith, end, length-set old at p))) ∙ take_more_set old at p (omega (arith, end))

-- ---- what a token makes of the context

never_after : (s : Context) (os : List OpenList) → s ≢ after → context_from s os ≢ after
never_after s [] ne = ne
never_after s (o ∷ os) ne = never_after (within o.place s) os (λ e. cc)

pub open_lists-context_from : (s : Context) (os : List OpenList) → open_lists (context_from s os) ≡ open_lists s + length os
open_lists-context_from s [] = omega arith
open_lists-context_from s (o ∷ os) = omega (arith, open_lists-context_from (within o.place s) os)

fault-atom_at : (s : Context) (p : ℕ) (w : List ℕ) (end : ℕ) (ts : List Token) → s ≢ after
    → first_fault end s (atom_at p w ∷ ts) ≡ first_fault end (after_tree s) ts
fault-atom_at before p w end ts ne = refl
fault-atom_at (within q s) p w end ts ne = refl
fault-atom_at after p w end ts ne = absurd (ne refl)

fault-open : (s : Context) (p end : ℕ) (ts : List Token) → s ≢ after → open_lists s < 200
    → first_fault end s (opens_at p ∷ ts) ≡ first_fault end (within p s) ts
fault-open before p end ts ne lt = refl
fault-open (within q s) p end ts ne lt = rw (lt-ltb (suc (open_lists s)) 200 lt) refl
fault-open after p end ts ne lt = absurd (ne refl)

fault-deep : (s : Context) (p end : ℕ) (ts : List Token) → 200 ≤ open_lists s → first_fault end s (opens_at p ∷ ts) ≡ Some (G4, p)
fault-deep before p end ts le = absurd (omega arith)
fault-deep (within q s) p end ts le = rw (le-ltb (suc (open_lists s)) 200 le) refl
fault-deep after p end ts le = absurd (omega arith)

-- ---- the steps

steps_put : (R : Type 0) (old rest new : List OpenList) (tok : Token) (t : TextTree) (r : Result (Option TextTree) TextFault) → Puts R rest t r new
    → opened old ++ as_kept tok ∷ [] ≡ opened rest ++ tokens_of (node_of t) →
    ((end : ℕ) (ts : List Token) → first_fault end (context old) (tok ∷ ts) ≡ first_fault end (after_tree (context rest)) ts) → Steps R old tok r new
steps_put R old rest new tok t (Ok None) h e f = (e ∙ sym h.0, λ end ts. f end ts ∙ ap (λ (s : Context). first_fault end s ts) (sym h.1))
steps_put R old rest new tok t (Ok (Some u)) h e f = (
  e ∙ ap (λ (os : List OpenList). opened os ++ tokens_of (node_of t)) h.0 ∙ ap (λ (x : TextTree). tokens_of (node_of x)) (sym h.1),
  λ end ts. f end ts ∙ ap (λ (os : List OpenList). first_fault end (after_tree (context os)) ts) h.0,
)
steps_put R old rest new tok t (Err (Fault r p)) h e f = absurd h
steps_put R old rest new tok t (Err Memory) h e f = h

pub steps_atom : (R : Type 0) (old new : List OpenList) (p : ℕ) (w : List ℕ) (v : Bor (List ℕ)) (r : Result (Option TextTree) TextFault) → v.now ≡ w
    → Puts R old (Atom p v) r new → Steps R old (atom_at p w) r new
steps_atom R old new p w v r is h =
    steps_put R old old new (atom_at p w) (Atom p v) r h
    (ap (λ (x : List ℕ). opened old ++ atom_at p x ∷ []) (sym is) ∙ ap (λ (n : Node). opened old ++ tokens_of n) (sym (node_of-atom p v)))
    (λ end ts. fault-atom_at (context old) p w end ts (never_after before old (λ e. cc)))

pub steps_close : (R : Type 0) (old rest new : List OpenList) (o : OpenList) (q : ℕ) (r : Result (Option TextTree) TextFault) → old ≡ rest ++ o ∷ []
    → Puts R rest (MadeList o.place o.items) r new → Steps R old (closes_at q) r new
steps_close R old rest new o q r is h =
    steps_put R old rest new (closes_at q) (MadeList o.place o.items) r h
    (ap (λ (os : List OpenList). opened os ++ closes_at 0 ∷ []) is ∙ ap (λ (ts : List Token). ts ++ closes_at 0 ∷ []) (opened-push rest o)
    ∙ append_assoc (opened rest) (opens_at o.place ∷ tokens_of_all (nodes_of o.items.items)) (closes_at 0 ∷ [])
    ∙ ap (λ (n : Node). opened rest ++ tokens_of n) (sym (node_of-list o.place o.items)))
    (λ end ts. ap (λ (s : Context). first_fault end s (closes_at q ∷ ts)) (ap context is ∙ context_from-push before rest o))

pub steps_open : (R : Type 0) (old new : List OpenList) (p : ℕ) (v : Vec TextTree Global) → v.items ≡ [] → length old < 200
    → new ≡ old ++ record { place = p; items = v } ∷ [] → Steps R old (opens_at p) (Ok None) new
steps_open R old new p v none_yet lt is = (
  sym (ap opened is ∙ opened-push old (record { place = p; items = v }) ∙ ap
      (λ (ts : List TextTree). opened old ++ (opens_at p ∷ tokens_of_all (nodes_of ts))) none_yet),
  λ end ts. fault-open (context old) p end ts (never_after before old (λ e. cc)) (omega (arith, open_lists-context_from before old))
      ∙ ap (λ (s : Context). first_fault end s ts) (sym (ap context is ∙ context_from-push before old (record { place = p; items = v }))),
)

pub steps_deep : (R : Type 0) (old new : List OpenList) (p : ℕ) → 200 ≤ length old → Steps R old (opens_at p) (Err (Fault G4 p)) new
steps_deep R old new p le = λ end ts. fault-deep (context old) p end ts (omega (arith, open_lists-context_from before old))

-- ---- what a step says of the whole text

pub text_ends : (R : Type 0) (text : List ℕ) (old new : List OpenList) (tok : Token) (e : TextFault) (ts : List Token) → Steps R old tok (Err e) new
    → text_fault text ≡ first_fault (length text) (context old) (tok ∷ ts) → ReadsText R node_of text (Err e)
text_ends R text old new tok (Fault r p) ts h is = is ∙ h (length text) ts
text_ends R text old new tok Memory ts h is = h

pub text_finishes : (R : Type 0) (text : List ℕ) (old new : List OpenList) (tok : Token) (t : TextTree) (ts : List Token)
    (r : Result TextTree TextFault) → Steps R old tok (Ok (Some t)) new → ReturnsAlone (length text) t ts r →
    map as_kept (tokens between 0 text) ≡ opened old ++ map as_kept (tok ∷ ts) → text_fault text ≡ first_fault (length text) (context old) (tok ∷ ts)
    → ReadsText R node_of text r
text_finishes R text old new tok t ts (Ok u) h f kept_is fault_is = (
  fault_is ∙ h.1 (length text) ts ∙ ap (λ (us : List Token). first_fault (length text) after us) f.0,
  kept_is ∙ ap (λ (us : List Token). opened old ++ map as_kept (tok ∷ us)) f.0 ∙ h.0 ∙ ap (λ (x : TextTree). tokens_of (node_of x)) (sym f.1),
)
text_finishes R text old new tok t ts (Err (Fault r p)) h f kept_is fault_is = fault_is ∙ h.1 (length text) ts ∙ f
text_finishes R text old new tok t ts (Err Memory) h f kept_is fault_is = absurd f

pub kept_goes_on : (R : Type 0) (all : List Token) (old new : List OpenList) (tok : Token) (ts : List Token) → Steps R old tok (Ok None) new
    → all ≡ opened old ++ map as_kept (tok ∷ ts) → all ≡ opened new ++ map as_kept ts
kept_goes_on R all old new tok ts h is =
    is ∙ sym (append_assoc (opened old) (as_kept tok ∷ []) (map as_kept ts)) ∙ ap (λ (us : List Token). us ++ map as_kept ts) h.0

pub unfinished : (text : List ℕ) (os rest : List OpenList) (o : OpenList) → os ≡ rest ++ o ∷ []
    → text_fault text ≡ first_fault (length text) (context os) [] → text_fault text ≡ Some (G2, o.place)
unfinished text os rest o is h = h ∙ ap (λ (s : Context). first_fault (length text) s []) (ap context is ∙ context_from-push before rest o)
