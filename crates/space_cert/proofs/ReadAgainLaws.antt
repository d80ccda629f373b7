-- The text that is printed for a certificate is read as that certificate, and is short.
use Rattle.std.proofs.Common.{◌≡◌, ℕ, zero, suc, ◌+◌, ◌*◌, ◌<◌, ◌≤◌, ◌^◌, nat_le, List, [], ◌∷◌, ◌++◌, length, get_or, set, drop, true, if◌then◌else◌, Option}
use Rattle.std.{proofs.Common.{Some, None, Result, Ok, Err, refl, ap, sym, ◌∙◌, arith}, specs.Prelude.pos, specs.List.{All, IsDistinct}, specs.Option.is_some}
use Rattle.std.{specs.Str.bytes_eq, specs.Fmt.decimal, proofs.lemmas.Bool.{and_parts, le-leb, leb-true, lt-ltb}, proofs.lemmas.List.append_assoc}
use Rattle.std.{proofs.lemmas.List.{length-append, length_push}, proofs.lemmas.List.Elements.{All-head, All-tail}, proofs.lemmas.Fmt.length-decimal-le}
use Rattle.stack_text.{specs.Names.{is_name, name_of, place_among}, specs.Numerals.fits_128_bits, specs.Results.◌>>=◌, specs.Trees.{Node, Nodes, atom, list}}
use Rattle.stack_text.specs.Trees.{none, more, node_counts, depths, AtomsAreRuns, AllAtomsAreRuns, IsWellFormed, without_places, all_without_places}
use Rattle.stack_text.{specs.TreeText.{tree_text, items_text, spaced_text}, specs.Views.TreeView.nodes, proofs.AtomLaws.{name_is_run, numeral_is_run}}
use Rattle.stack_text.{proofs.NumeralTextLaws.{digits-pos, numeral-signed_decimal, value-signed_decimal}, proofs.PrintLaws.tree_text_reads}
use Rattle.stack_text.{proofs.TreeInLaws.tree_in-TreeOf, proofs.SharedLaws.name_few, specs.TreeNames.name_of_tree}
use Rattle.space_cert.{specs.Bounded.{is_bound, are_bounds}, specs.Covers.{Bounds, no_bounds}, specs.CertText.{Fault, or_fault, three_of, place_for}}
use Rattle.space_cert.specs.CertText.{up_to_limit, number_of, number_at, parts_entry, entry_at, with_entries, bounds_at, bounds_on, bounds_in, entry_tree}
use Rattle.space_cert.{specs.CertText.{entry_trees, certificate_tree, certificate_text}, proofs.NameLaws.place_own}

-- What is read goes by no place.

name_same : (t : Node) → name_of_tree t ≡ name_of_tree (without_places t)
name_same (atom p w) = refl
name_same (list p ts) = refl

number_same : (t : Node) → number_at t ≡ number_at (without_places t)
number_same (atom p w) = refl
number_same (list p ts) = refl

-- the procedure and its bounds, once they are found or not
abbrev found_entry : ℕ → Option ℕ → Option ℕ → Option ℕ → Result (ℕ × (ℕ × ℕ)) Fault
found_entry place o temp ctrl = do
  p ← or_fault (2, place) o
  t ← or_fault (3, place) temp
  c ← or_fault (3, place) ctrl
  Ok (p, (t, c))

abbrev named_entry : List (List ℕ) → Bounds → ℕ → Option (List ℕ) → Option ℕ → Option ℕ → Result (ℕ × (ℕ × ℕ)) Fault
named_entry names bs place o temp ctrl = or_fault (1, place) o >>= λ name. found_entry place (place_for bs (place_among name names)) temp ctrl

found_lifts : (place : ℕ) (o temp ctrl : Option ℕ) (e : ℕ × (ℕ × ℕ)) → found_entry 0 o temp ctrl ≡ Ok e → found_entry place o temp ctrl ≡ Ok e
found_lifts place None temp ctrl e h = cc
found_lifts place (Some p) None ctrl e h = cc
found_lifts place (Some p) (Some t) None e h = cc
found_lifts place (Some p) (Some t) (Some c) e h = h

module _ (names : List (List ℕ)) where
  named_lifts : (bs : Bounds) (place : ℕ) (o : Option (List ℕ)) (temp ctrl : Option ℕ) (e : ℕ × (ℕ × ℕ)) → named_entry names bs 0 o temp ctrl ≡ Ok e
      → named_entry names bs place o temp ctrl ≡ Ok e
  named_lifts bs place None temp ctrl e h = cc
  named_lifts bs place (Some name) temp ctrl e h = found_lifts place (place_for bs (place_among name names)) temp ctrl e h

  three_lifts : (bs : Bounds) (place : ℕ) (ts : Nodes) (e : ℕ × (ℕ × ℕ))
      → (or_fault (1, 0) (three_of (all_without_places ts)) >>= parts_entry names bs 0) ≡ Ok e
      → (or_fault (1, place) (three_of ts) >>= parts_entry names bs place) ≡ Ok e
  unfolding parts_entry
  three_lifts bs place none e h = cc
  three_lifts bs place (more a none) e h = cc
  three_lifts bs place (more a (more b none)) e h = cc
  three_lifts bs place (more a (more b (more c none))) e h = named_lifts bs place _ _ _ e
      ((λ i. named_entry names bs 0 (name_same a i) (number_same b i) (number_same c i)) ∙ h)
  three_lifts bs place (more a (more b (more c (more d ts)))) e h = cc

  entry_lifts : (bs : Bounds) (t : Node) (e : ℕ × (ℕ × ℕ)) → entry_at names bs (without_places t) ≡ Ok e → entry_at names bs t ≡ Ok e
  unfolding entry_at
  entry_lifts bs (atom p w) e h = cc
  entry_lifts bs (list p ts) e h = three_lifts bs p ts e h

  -- an entry, and then the others
  then_lifts : (bs ds : Bounds) (t : Node) (ts us : Nodes) (r : Result (ℕ × (ℕ × ℕ)) Fault) → entry_at names bs (without_places t) ≡ r
      → ((cs : Bounds) → with_entries names cs us ≡ Ok ds → with_entries names cs ts ≡ Ok ds) →
      (r >>= λ e. with_entries names (set bs e.0 (Some e.1)) us) ≡ Ok ds → (entry_at names bs t >>= λ e. with_entries names (set bs e.0 (Some e.1)) ts) ≡ Ok ds
  then_lifts bs ds t ts us (Ok e) is later h = cc (entry_lifts bs t e is, later (set bs e.0 (Some e.1)) h)
  then_lifts bs ds t ts us (Err fault) is later h = cc

  entries_lift : (ts : Nodes) (ds bs : Bounds) → with_entries names bs (all_without_places ts) ≡ Ok ds → with_entries names bs ts ≡ Ok ds
  unfolding with_entries
  entries_lift none ds bs h = h
  entries_lift (more t ts) ds bs h = then_lifts bs ds t ts _ _ refl (entries_lift ts ds) h

  bounds_lift : (t : Node) (ds : Bounds) → bounds_at names (without_places t) ≡ Ok ds → bounds_at names t ≡ Ok ds
  bounds_lift (atom p w) ds h = cc
  bounds_lift (list p ts) ds h = entries_lift ts ds (no_bounds (length names)) h

-- A number is read from its digits.

fits_small : (n : ℕ) → n ≤ 2 ^ 40 → fits_128_bits (pos n) ≡ true
fits_small n le = lt-ltb n (2 ^ 127) (omega (arith, le))

number_reads : (n : ℕ) → n ≤ 2 ^ 40 → number_of (decimal n) ≡ Some n
number_reads n le =
    let fits = fits_small n le in
    (λ i. if digits-pos n fits i then up_to_limit (value-signed_decimal (pos n) fits i) else None) ∙ ap (λ b. if b then Some n else None) (le-leb n (2 ^ 40) le)

name_reads : (name : List ℕ) → is_name name ≡ true → name_of name ≡ Some name
name_reads name h = ap (λ b. if b then Some name else None) h

both_small : (b : ℕ × ℕ) → is_bound (Some b) ≡ true → (b.0 ≤ 2 ^ 40) × (b.1 ≤ 2 ^ 40)
both_small b h =
    let k = and_parts (nat_le b.0 (2 ^ 40)) (nat_le b.1 (2 ^ 40)) h in
    (leb-true b.0 (2 ^ 40) k.0, leb-true b.1 (2 ^ 40) k.1)

-- Each entry gives its procedure its bounds.

drop_head : (names : List (List ℕ)) (k : ℕ) (name : List ℕ) (rest : List (List ℕ)) → drop k names ≡ name ∷ rest → (k < length names)
    × (name ≡ get_or names k name) × (drop (k + 1) names ≡ rest)
drop_head [] zero name rest e = cc
drop_head [] (suc k) name rest e = cc
drop_head (x ∷ names) zero name rest e = (omega arith, sym (ap (λ (xs : List (List ℕ)). get_or xs 0 name) e), ap (drop 1) e)
drop_head (x ∷ names) (suc k) name rest e =
    let h = drop_head names k name rest e in
    let next : suc k + 1 ≡ suc (k + 1) = omega arith in
    (omega arith, h.1, ap (λ (n : ℕ). drop n (x ∷ names)) next ∙ h.2)

get_between : (front back : Bounds) (o : Option (ℕ × ℕ)) → get_or (front ++ o ∷ back) (length front) None ≡ o
get_between [] back o = refl
get_between (x ∷ front) back o = get_between front back o

set_between : (front back : Bounds) (o p : Option (ℕ × ℕ)) → set (front ++ o ∷ back) (length front) p ≡ front ++ p ∷ back
set_between [] back o p = refl
set_between (x ∷ front) back o p = ap (λ (bs : Bounds). x ∷ bs) (set_between front back o p)

module _ (names : List (List ℕ)) (own : IsDistinct bytes_eq names) where
  entry_gives : (bs : Bounds) (k : ℕ) (name : List ℕ) (b : ℕ × ℕ) → k < length names → name ≡ get_or names k name → is_name name ≡ true
      → get_or bs k None ≡ None → is_bound (Some b) ≡ true → entry_at names bs (entry_tree name b) ≡ Ok (k, b)
  unfolding entry_at parts_entry
  entry_gives bs k name b lt is named free small =
      let place : place_for bs (place_among name names) ≡ Some k = ap (place_for bs) (place_own names k name own lt is)
      ∙ ap (λ o. if is_some o then None else Some k) free in
      let s = both_small b small in
      (λ i. named_entry names bs 0 (name_reads name named i) (number_reads b.0 s.0 i) (number_reads b.1 s.1 i))
      ∙ ap (λ o. found_entry 0 o (Some b.0) (Some b.1)) place

  entries_give : (rest : List (List ℕ)) (bs front : Bounds) → drop (length front) names ≡ rest → All (λ n. is_name n ≡ true) rest
      → length bs ≡ length rest → are_bounds bs ≡ true →
      with_entries names (front ++ no_bounds (length rest)) (nodes (entry_trees rest bs)) ≡ Ok (front ++ bs)
  unfolding with_entries
  entries_give [] [] front e named many small = refl
  entries_give [] (b ∷ bs) front e named many small = absurd (omega (arith, many))
  entries_give (name ∷ rest) [] front e named many small = absurd (omega (arith, many))
  entries_give (name ∷ rest) (None ∷ bs) front e named many small =
      let h = drop_head names _ name rest e in
      let next : drop (length (front ++ None ∷ [])) names ≡ rest = cc (length_push front None, h.2) in
      ap (λ cs. with_entries names cs (nodes (entry_trees rest bs))) (sym (append_assoc front (None ∷ []) (no_bounds (length rest))))
      ∙ (entries_give rest bs _ next (All-tail (λ n. is_name n ≡ true) name rest named) (omega arith)
      (and_parts (is_bound None) _ small).1 ∙ ap (λ cs. Ok cs) (append_assoc front (None ∷ []) bs))
  entries_give (name ∷ rest) (Some b ∷ bs) front e named many small =
      let h = drop_head names (length front) name rest e in
      let k = and_parts (is_bound (Some b)) _ small in
      let next : drop (length (front ++ Some b ∷ [])) names ≡ rest = cc (length_push front (Some b), h.2) in
      let one = entry_gives _ _ name b h.0 h.1 (All-head (λ n. is_name n ≡ true) name rest named) (get_between front (no_bounds (length rest)) None) k.0 in
      ap (λ r. r >>= λ e. with_entries names (set (front ++ None ∷ no_bounds (length rest)) e.0 (Some e.1)) (nodes (entry_trees rest bs))) one
      ∙ (ap (λ cs. with_entries names cs (nodes (entry_trees rest bs)))
      (set_between front _ None (Some b) ∙ sym (append_assoc front (Some b ∷ []) (no_bounds (length rest))))
      ∙ (entries_give rest bs _ next (All-tail (λ n. is_name n ≡ true) name rest named) (omega arith) k.1 ∙ ap (λ cs. Ok cs) (append_assoc front _ bs)))

-- The tree keeps the form of a tree, has 0 in all its places, and its text is short.

number_run : (n : ℕ) → n ≤ 2 ^ 40 → AtomsAreRuns (atom 0 (decimal n))
number_run n le = numeral_is_run (decimal n) (numeral-signed_decimal (pos n) (fits_small n le))

entries_run : (names : List (List ℕ)) (bs : Bounds) → All (λ n. is_name n ≡ true) names → are_bounds bs ≡ true → AllAtomsAreRuns (nodes (entry_trees names bs))
entries_run [] bs named small = tt
entries_run (name ∷ names) [] named small = tt
entries_run (name ∷ names) (None ∷ bs) named small =
    entries_run names bs (All-tail (λ n. is_name n ≡ true) name names named) (and_parts (is_bound None) (are_bounds bs) small).1
entries_run (name ∷ names) (Some b ∷ bs) named small =
    let k = and_parts (is_bound (Some b)) (are_bounds bs) small in
    let s = both_small b k.0 in (
      (name_is_run name (All-head (λ n. is_name n ≡ true) name names named), (number_run b.0 s.0, (number_run b.1 s.1, tt))),
      entries_run names bs (All-tail (λ n. is_name n ≡ true) name names named) k.1,
    )

entries_low : (names : List (List ℕ)) (bs : Bounds) → depths (nodes (entry_trees names bs)) ≤ 1
entries_low [] bs = omega arith
entries_low (name ∷ names) [] = omega arith
entries_low (name ∷ names) (None ∷ bs) = entries_low names bs
entries_low (name ∷ names) (Some b ∷ bs) = omega (arith, entries_low names bs)

entries_few : (names : List (List ℕ)) (bs : Bounds) → node_counts (nodes (entry_trees names bs)) ≤ 4 * length names
entries_few [] bs = omega arith
entries_few (name ∷ names) [] = omega arith
entries_few (name ∷ names) (None ∷ bs) = let h = entries_few names bs in omega (arith, h)
entries_few (name ∷ names) (Some b ∷ bs) = let h = entries_few names bs in omega (arith, h)

entries_plain : (names : List (List ℕ)) (bs : Bounds) → all_without_places (nodes (entry_trees names bs)) ≡ nodes (entry_trees names bs)
entries_plain [] bs = refl
entries_plain (name ∷ names) [] = refl
entries_plain (name ∷ names) (None ∷ bs) = entries_plain names bs
entries_plain (name ∷ names) (Some b ∷ bs) = ap (more (entry_tree name b)) (entries_plain names bs)

entry_length : (n t c : List ℕ) → length (40 ∷ ((n ++ (32 ∷ (t ++ (32 ∷ (c ++ []))))) ++ 41 ∷ [])) ≡ length n + length t + length c + 4
entry_length n t c =
    omega (
      arith,
      length-append (n ++ (32 ∷ (t ++ (32 ∷ (c ++ []))))) (41 ∷ []),
      length-append n (32 ∷ (t ++ (32 ∷ (c ++ [])))),
      length-append t (32 ∷ (c ++ [])),
      length-append c [],
    )

entries_short : (names : List (List ℕ)) (bs : Bounds) → All (λ n. is_name n ≡ true) names → are_bounds bs ≡ true
    → length (spaced_text (nodes (entry_trees names bs))) ≤ 95 * length names
entries_short [] bs named small = omega arith
entries_short (name ∷ names) [] named small = omega arith
entries_short (name ∷ names) (None ∷ bs) named small =
    let h = entries_short names bs (All-tail (λ n. is_name n ≡ true) name names named) (and_parts (is_bound None) (are_bounds bs) small).1 in
    omega (arith, h)
entries_short (name ∷ names) (Some b ∷ bs) named small =
    let k = and_parts (is_bound (Some b)) (are_bounds bs) small in
    let s = both_small b k.0 in
    let others = entries_short names bs (All-tail (λ n. is_name n ≡ true) name names named) k.1 in
    let one = entry_length name (decimal b.0) (decimal b.1) in
    let word = name_few name (All-head (λ n. is_name n ≡ true) name names named) in
    let first : length (decimal b.0) ≤ 13 = length-decimal-le 13 b.0 (omega arith) (omega (arith, s.0)) (omega (arith, s.0)) in
    let second : length (decimal b.1) ≤ 13 = length-decimal-le 13 b.1 (omega arith) (omega (arith, s.1)) (omega (arith, s.1)) in
    omega (arith, others, one, word, first, second, length-append (tree_text (entry_tree name b)) (spaced_text (nodes (entry_trees names bs))))

items_shorter : (ts : Nodes) → length (items_text ts) ≤ length (spaced_text ts)
items_shorter none = omega arith
items_shorter (more t ts) = omega arith

module _ (names : List (List ℕ)) (bs : Bounds) (named : All (λ n. is_name n ≡ true) names) (few : length names ≤ 1000) (small : are_bounds bs ≡ true) where
  pub printed_short : length (certificate_text names bs) ≤ 2 ^ 17
  unfolding certificate_text
  printed_short =
      let items = items_text (nodes (entry_trees names bs)) in
      omega (arith, few, entries_short names bs named small, items_shorter (nodes (entry_trees names bs)), length-append items (41 ∷ []))

  pub printed_reads : IsDistinct bytes_eq names → length bs ≡ length names → bounds_in names (certificate_text names bs) ≡ Ok bs
  unfolding bounds_in certificate_text
  printed_reads own many =
      let t = certificate_tree names bs in
      let form : IsWellFormed t = record { atoms = entries_run names bs named small; shallow = omega (arith, entries_low); few = omega (arith, entries_few) } in
      let read = tree_text_reads t form in
      let plain : without_places t ≡ t = ap (list 0) (entries_plain names bs) in
      ap (bounds_on names) (tree_in-TreeOf (tree_text t) read.0 read.1)
      ∙ bounds_lift names read.0 bs (ap (bounds_at names) (read.2 ∙ plain) ∙ entries_give names own names bs [] refl named many small)
