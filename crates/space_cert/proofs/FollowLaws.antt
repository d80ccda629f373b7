-- Following a call, and the end of a group.
use Rattle.std.proofs.Common.{◌≡◌, ℕ, ◌<◌, ◌≤◌, List, [], ◌∷◌, length, get_or, Bool, true, false, refl, ap, sym, ◌∙◌, subst, arith}
use Rattle.std.{proofs.lemmas.List.get_or_read, proofs.lemmas.List.Elements.All-from_get_or, specs.List.All}
use Rattle.space_cert.specs.Internal.SearchState.{SearchOf, mark_at, AreMarked, IsSearch, IsFound, left_to_do, with_call, with_joined}
use Rattle.space_cert.{specs.Internal.SearchView.{AreCalls, HasFinished, HasAdvanced}, specs.declared.search.Mark.Mark}
use Rattle.space_cert.{specs.declared.search.Mark.TheVariants.{New, Entered}, specs.declared.search.Group.Group, proofs.MarkLaws.{marked_below, new_apart}}
use Rattle.space_cert.proofs.SearchingLaws.{called, joins_keeps, some_below, ends_found, ends_keeps, ends_less}

-- a mark, as it is read
pub mark_read : (marks : List Mark) (w : ℕ) (x m : Mark) → w < length marks → x ≡ get_or marks w x → x ≡ m → mark_at marks w ≡ m
mark_read marks w x m lt e i = sym (get_or_read marks w x lt e New) ∙ i

pub follow_below : (cs : List (List ℕ)) (main : ℕ) (s : SearchOf) (w : ℕ) → AreCalls cs → IsSearch cs main (with_call w s) → s.top.from ≤ length s.todo
    → w < length cs
follow_below cs main s w a h le = called cs main (with_call w s) h s.todo w refl le (length cs) a

pub follow_joins : (cs : List (List ℕ)) (main : ℕ) (s : SearchOf) (w : ℕ) → IsSearch cs main (with_call w s) → s.top.from ≤ length s.todo → (at : ℕ)
    → mark_at s.marks w ≡ Entered at → at < s.top.first →
    (t u : SearchOf) → t ≡ with_call w s → ((k : Group) (ks : List Group) → t.below ≡ k ∷ ks → u ≡ with_joined k ks t) → IsSearch cs main u
    × (left_to_do cs u < left_to_do cs (with_call w s))
follow_joins cs main s w h le at m lt t u is f = pick s.below refl
  where
    pick : (ks : List Group) → s.below ≡ ks → IsSearch cs main u × (left_to_do cs u < left_to_do cs (with_call w s))
    pick [] b = absurd (some_below cs main (with_call w s) h s.todo w refl le at m lt b)
    pick (k ∷ ks) b =
        let e = f k ks (ap (λ x. x.below) is ∙ b) ∙ ap (with_joined k ks) is in (
          subst (IsSearch cs main) (sym e) (joins_keeps cs main (with_call w s) h s.todo w refl le at m lt k ks b),
          subst (λ x. left_to_do cs x < left_to_do cs (with_call w s)) (sym e) (omega (arith, ap length b)),
        )

-- what is entered is marked
pub entered_below : (marks : List Mark) (entered done : List ℕ) → AreMarked marks entered done → All (λ p. p < length marks) entered
entered_below marks entered done h = All-from_get_or (λ p. p < length marks) entered 0 (λ i lt. marked_below marks _ (λ e. new_apart (sym e ∙ h.places i lt)))

pub finish_advances : (cs : List (List ℕ)) (main : ℕ) (s t : SearchOf) → IsSearch cs main s → length s.todo ≤ s.top.from → (more : Bool)
    → HasFinished s t more → HasAdvanced cs main s t more
finish_advances cs main s t h le true (k, ks, b, e) =
    let no_more : length s.todo ≡ s.top.from = omega arith in (
      subst (IsSearch cs main) (sym e) (ends_keeps cs main s h no_more k ks b),
      subst (λ x. left_to_do cs x < left_to_do cs s) (sym e) (ends_less cs main s h no_more k ks b),
    )
finish_advances cs main s t h le false (b, e) =
    let no_more : length s.todo ≡ s.top.from = omega arith in
    let found = ends_found cs main s h no_more b in
    subst (λ x. IsFound cs main x.done x.first) (sym e) found
