-- How clauses see the search.
use Rattle.std.specs.{Prelude.{◌≡◌, ℕ, ◌<◌, ◌≤◌, List, [], ◌∷◌, ◌++◌, map, length, reverse, take, drop, Bool, true, false}, List.{All}}
use Rattle.std.specs.{List.{Contains}, Global.{Vec}}
use Rattle.space_cert.specs.{Internal.Search.{first_with}, Internal.SearchState.{SearchOf, call_of, done_marks, with_next, with_top_done}}
use Rattle.space_cert.specs.{Internal.SearchState.{IsSearch, IsFound, left_to_do}, declared.search.Group.{Group}}
use Rattle.space_cert.specs.declared.search.Search.{Search}

-- the callees of each procedure
abbrev pub seen_calls : List (Vec ℕ) → List (List ℕ)
seen_calls calls = map (λ v. v.items) calls

abbrev pub search_of : Search → SearchOf
search_of s = record {
  marks = s.marks.items;
  entered = s.entered.items;
  todo = s.todo.items;
  top = s.top;
  below = reverse s.below.items;
  done = reverse s.order.items;
  first = s.first;
}

-- each call is of one of the procedures
abbrev pub AreCalls : List (List ℕ) → Type 0
AreCalls cs = (a c : ℕ) → Contains (call_of cs a) c → c < length cs

-- on the way from s, where the top group of s is being closed
pub record IsClosing (s t : Search) : Type 0 where
  pub there : s.top.first ≤ length t.entered.items
  pub taken : take s.top.first t.entered.items ≡ take s.top.first s.entered.items
  pub marks_are : done_marks (drop s.top.first t.entered.items) t.marks.items ≡ done_marks (drop s.top.first s.entered.items) s.marks.items
  pub order_is : drop s.top.first t.entered.items ++ reverse t.order.items ≡ drop s.top.first s.entered.items ++ reverse s.order.items
  pub first_is :
      first_with s.top.again (drop s.top.first t.entered.items) t.first ≡ first_with s.top.again (drop s.top.first s.entered.items) s.first
  pub within : All (λ p. p < length t.marks.items) t.entered.items
  pub todo_is : t.todo.items ≡ s.todo.items
  pub top_is : t.top ≡ s.top
  pub below_is : t.below.items ≡ s.below.items
  pub main_is : t.main ≡ s.main

-- the top group is done; another is on top, or there is none
abbrev pub HasFinished : SearchOf → SearchOf → Bool → Type 0
HasFinished s t true = (k : Group) × (ks : List Group) × (s.below ≡ k ∷ ks) × (t ≡ with_next k ks (with_top_done s))
HasFinished s t false = (s.below ≡ []) × (t ≡ with_top_done s)

-- there is less to do, or nothing
abbrev pub HasAdvanced : List (List ℕ) → ℕ → SearchOf → SearchOf → Bool → Type 0
HasAdvanced cs main s t true = IsSearch cs main t × (left_to_do cs t < left_to_do cs s)
HasAdvanced cs main s t false = IsFound cs main t.done t.first
