-- What lists ask of the heap while a text is read.
use Rattle.std.proofs.Common.{◌≡◌, ℕ, suc, ◌+◌, ◌≤◌, List, [], ◌∷◌, ◌++◌, map, length, arith, ap, ◌∙◌, sym, take, slice_index_or, Option, Result, Ok, Err}
use Rattle.std.{proofs.Common.IfErr, proofs.lemmas.List.{length-append, take_all, length-map}, proofs.Math.Seq.take-suc}
use Rattle.stack_heap.specs.Heaps.{RefusesWithin, room_after}
use Rattle.stack_text.{specs.Tokens.{Token, opens_at, between, tokens}, specs.Trees.{Node, atom, list, tokens_of, tokens_of_all, as_kept}}
use Rattle.stack_text.{specs.Views.TreeView.{node_of, nodes_of, nodes}, specs.Internal.OpenLists.opened, specs.declared.reader.OpenList.OpenList}
use Rattle.stack_text.{specs.declared.text_fault.TextFault.TextFault, specs.declared.text_fault.TextFault.TheVariants.Memory}
use Rattle.stack_text.{specs.declared.tree.TextTree.TextTree, proofs.OpenListLaws.opened-push, proofs.ReadLaws.few_tokens}

pub refuses_less : (refuses : ℕ → Type 0) (m n : ℕ) → m ≤ n → RefusesWithin refuses (room_after m) → RefusesWithin refuses (room_after n)
refuses_less refuses m n le h = let small = h.1 in (h.0, omega (arith, le, small), h.2)

some_token : (t : Node) → 1 ≤ length (tokens_of t)
some_token (atom p bytes) = omega arith
some_token (list p ts) = omega arith

many_tokens : (ts : List Node) → length ts ≤ length (tokens_of_all (nodes ts))
many_tokens [] = omega arith
many_tokens (t ∷ ts) = omega (arith, some_token t, many_tokens ts, length-append (tokens_of t) (tokens_of_all (nodes ts)))

-- there are no more lists open than tokens were read
pub few_open : (os : List OpenList) → length os ≤ length (opened os)
few_open [] = omega arith
few_open (o ∷ os) = omega (arith, few_open os, length-append (tokens_of_all (nodes_of o.items.items)) (opened os))

-- nor has the innermost more items
pub few_items : (os : List OpenList) (at : ℕ) (o : OpenList) → at + 1 ≡ length os → o ≡ slice_index_or os at o
    → length o.items.items ≤ length (opened os)
few_items os at o end found =
    let os_is : os ≡ take at os ++ o ∷ []
    = sym (take_all (suc at) os (omega (arith, end))) ∙ take-suc os at o (omega (arith, end))
    ∙ ap (λ (x : OpenList). take at os ++ x ∷ []) (sym found) in
    let tokens_are = ap length (ap opened os_is ∙ opened-push (take at os) o) in
    let items = length-append (opened (take at os)) (opens_at o.place ∷ tokens_of_all (nodes_of o.items.items)) in
    omega (arith, tokens_are, items, many_tokens (map node_of o.items.items), length-map o.items.items node_of)

-- what was read is no longer than the text
pub few_opened : (text : List ℕ) (os : List OpenList) (rest : List Token)
    → map as_kept (tokens between 0 text) ≡ opened os ++ rest → length (opened os) ≤ length text
few_opened text os rest is =
    omega (arith, ap length is, length-append (opened os) rest, length-map (tokens between 0 text) as_kept, few_tokens between 0 text)

-- where the innermost list is closed, there were no fewer tokens
pub few_outer : (old rest : List OpenList) (o : OpenList) → old ≡ rest ++ o ∷ [] → length (opened rest) ≤ length (opened old)
few_outer old rest o is =
    let tokens_are = ap length (ap opened is ∙ opened-push rest o) in
    omega (arith, tokens_are, length-append (opened rest) (opens_at o.place ∷ tokens_of_all (nodes_of o.items.items)))

-- what is refused once the innermost list is closed, is so with it open
pub refused_before : (refuses : ℕ → Type 0) (old rest : List OpenList) (o : OpenList) (r : Result (Option TextTree) TextFault)
    → old ≡ rest ++ o ∷ [] → IfErr r (λ e. e ≡ Memory → RefusesWithin refuses (room_after (length (opened rest))))
    → IfErr r (λ e. e ≡ Memory → RefusesWithin refuses (room_after (length (opened old))))
refused_before refuses old rest o (Ok x) is h = tt
refused_before refuses old rest o (Err e) is h =
    λ k. refuses_less refuses (length (opened rest)) (length (opened old)) (few_outer old rest o is) (h k)
