-- The search, as the code keeps it.
use Rattle.std.specs.Prelude.{◌≡◌, ℕ, ◌+◌, ◌<◌, ◌≤◌, List, [], ◌∷◌, ◌++◌, length, get_or, take, drop, slice_set, true, false, ◌⊎◌, Option}
use Rattle.std.specs.List.{Contains}
use Rattle.space_cert.specs.{Reaches.{Leads}, Internal.Search.{GroupOf, AreGroups, AreDone, first_with}, declared.search.Mark.{Mark}}
use Rattle.space_cert.specs.{declared.search.Mark.TheVariants.{New, Entered, Done}, declared.search.Group.{Group}}

-- `top` is the topmost group, the others follow from the top down; the last procedure that is done stands first
pub record SearchOf : Type 0 where
  pub marks : List Mark
  pub entered : List ℕ
  pub todo : List ℕ
  pub top : Group
  pub below : List Group
  pub done : List ℕ
  pub first : Option ℕ

abbrev pub call_of : List (List ℕ) → ℕ → List ℕ
call_of cs p = get_or cs p []

abbrev pub mark_at : List Mark → ℕ → Mark
mark_at marks p = get_or marks p New

abbrev pub groups_in : List Group → List ℕ → List ℕ → List GroupOf
groups_in [] entered todo = []
groups_in (k ∷ ks) entered todo =
    record { members = drop k.first entered; todo = drop k.from todo; again = k.again } ∷
    groups_in ks (take k.first entered) (take k.from todo)

-- the groups are all that is entered and to be followed
abbrev pub IsCut : List Group → List ℕ → List ℕ → Type 0
IsCut [] entered todo = (entered ≡ []) × (todo ≡ [])
IsCut (k ∷ ks) entered todo = (k.first ≤ length entered) × (k.from ≤ length todo) × IsCut ks (take k.first entered) (take k.from todo)

abbrev pub is_new : Mark → ℕ
is_new New = 1
is_new (Entered at) = 0
is_new Done = 0

abbrev pub new_count : List Mark → ℕ
new_count [] = 0
new_count (m ∷ ms) = is_new m + new_count ms

-- the calls of the procedures that are new, and one more for each
abbrev pub weight : Mark → List ℕ → ℕ
weight New c = length c + 1
weight (Entered at) c = 0
weight Done c = 0

abbrev pub new_weight : List Mark → List (List ℕ) → ℕ
new_weight [] cs = 0
new_weight (m ∷ ms) [] = 0
new_weight (m ∷ ms) (c ∷ cs) = weight m c + new_weight ms cs

-- procedures are marked as what they are
pub record AreMarked (marks : List Mark) (entered done : List ℕ) : Type 0 where
  pub places : (i : ℕ) → i < length entered → mark_at marks (get_or entered i 0) ≡ Entered i
  pub finished : (p : ℕ) → Contains done p → mark_at marks p ≡ Done
  pub entered_is : (p at : ℕ) → mark_at marks p ≡ Entered at → (at < length entered) × (get_or entered at 0 ≡ p)
  pub finished_is : (p : ℕ) → mark_at marks p ≡ Done → Contains done p

-- main is entered or done, and leads to all that are
pub record AreReached (cs : List (List ℕ)) (main : ℕ) (entered done : List ℕ) : Type 0 where
  pub leads : (p : ℕ) → Contains entered p ⊎ Contains done p → Leads (call_of cs) main p
  pub main_there : Contains entered main ⊎ Contains done main

pub record IsSearch (cs : List (List ℕ)) (main : ℕ) (s : SearchOf) : Type 0 where
  pub number : length s.marks ≡ length cs
  pub cut : IsCut (s.top ∷ s.below) s.entered s.todo
  pub groups : AreGroups (call_of cs) s.done [] (groups_in (s.top ∷ s.below) s.entered s.todo)
  pub done : AreDone (call_of cs) s.done s.first
  pub marked : AreMarked s.marks s.entered s.done
  pub reached : AreReached cs main s.entered s.done
  pub count : new_count s.marks + length s.entered + length s.done ≡ length cs

-- what the search still has before it
abbrev pub left_to_do : List (List ℕ) → SearchOf → ℕ
left_to_do cs s = length s.todo + length s.below + new_weight s.marks cs

-- once all groups are done
pub record IsFound (cs : List (List ℕ)) (main : ℕ) (done : List ℕ) (first : Option ℕ) : Type 0 where
  pub done_are : AreDone (call_of cs) done first
  pub leads : (p : ℕ) → Contains done p → Leads (call_of cs) main p
  pub main_there : Contains done main
  pub below : (p : ℕ) → Contains done p → p < length cs
  pub few : length done ≤ length cs

-- these are done
abbrev pub done_marks : List ℕ → List Mark → List Mark
done_marks [] marks = marks
done_marks (p ∷ ps) marks = slice_set (done_marks ps marks) p Done

-- The moves.

-- w is entered
abbrev pub with_entered : List (List ℕ) → ℕ → List ℕ → SearchOf → SearchOf
with_entered cs w ts s = record {
  marks = slice_set s.marks w (Entered (length s.entered));
  entered = s.entered ++ w ∷ [];
  todo = ts ++ call_of cs w;
  top = record { first = length s.entered; from = length ts; again = false };
  below = s.top ∷ s.below;
  done = s.done;
  first = s.first;
}

-- w is done, and there is nothing to do for it
abbrev pub with_todo : List ℕ → SearchOf → SearchOf
with_todo ts s = record s { todo = ts }

-- w is of the top group
abbrev pub with_circle : List ℕ → SearchOf → SearchOf
with_circle ts s = record s { todo = ts; top = record { first = s.top.first; from = s.top.from; again = true } }

-- w is of a group below: the two topmost become one
abbrev pub with_joined : Group → List Group → SearchOf → SearchOf
with_joined k ks s = record s { top = record { first = k.first; from = k.from; again = true }; below = ks }

-- the top group is done
abbrev pub with_top_done : SearchOf → SearchOf
with_top_done s = record s {
  marks = done_marks (drop s.top.first s.entered) s.marks;
  entered = take s.top.first s.entered;
  done = drop s.top.first s.entered ++ s.done;
  first = first_with s.top.again (drop s.top.first s.entered) s.first;
}

-- with one more call to be followed
abbrev pub with_call : ℕ → SearchOf → SearchOf
with_call w s = record s { todo = s.todo ++ w ∷ [] }

-- this group is on top
abbrev pub with_next : Group → List Group → SearchOf → SearchOf
with_next k ks s = record s { top = k; below = ks }
