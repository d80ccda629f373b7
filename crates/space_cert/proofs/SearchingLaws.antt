-- Each move of the search keeps what is known of it, and leaves less to do.
use Rattle.std.proofs.Common.{◌≡◌, ℕ, zero, suc, ◌+◌, ◌<◌, ◌≤◌, List, [], ◌∷◌, ◌++◌, length, take, drop, set, replicate, true, false, ◌⊎◌, inl, inr, Some, None}
use Rattle.std.{proofs.Common.{refl, ap, sym, ◌∙◌, subst, arith}, proofs.lemmas.List.{get_or-replicate, length-set, length-replicate, length_push}}
use Rattle.std.proofs.lemmas.List.{length-append, length-take, length-drop, take-append-drop, take-append-le, drop-append-le, take-take, take_at, drop_at}
use Rattle.std.{proofs.lemmas.List.{drop_all, take_all}, specs.List.Contains, proofs.lemmas.List.Elements.{Contains-push, Contains-append_left}}
use Rattle.std.proofs.lemmas.List.Elements.{Contains-append_right, Contains-append_cases}
use Rattle.space_cert.{specs.Reaches.Leads, specs.Internal.Search.{GroupOf, all_members, IsGroup, AreGroups, AreDone, first_with}}
use Rattle.space_cert.specs.Internal.SearchState.{SearchOf, call_of, mark_at, groups_in, IsCut, is_new, new_count, weight, new_weight, AreMarked, AreReached}
use Rattle.space_cert.specs.Internal.SearchState.{IsSearch, IsFound, left_to_do, done_marks, with_entered, with_todo, with_circle, with_joined}
use Rattle.space_cert.{specs.declared.search.Mark.TheVariants.{New, Entered, Done}, specs.declared.search.Group.Group, proofs.ContainsLaws.contains_none}
use Rattle.space_cert.{proofs.ContainsLaws.{contains_first, contains_cases}, proofs.SearchLaws.{visited, passed, circled, joined, finished, left_groups}}
use Rattle.space_cert.{proofs.SearchLaws.{lead_on, call_leads}, proofs.MarkLaws.{new_apart, new_not_done, count_set, weight_set, marked_below, new_is}}
use Rattle.space_cert.proofs.MarkLaws.{not_both, enters, leaves, done_marks-length, done_counts, done_weighs, take_there, drop_there}

-- Lists that end with w.

group_of : Group → List ℕ → List ℕ → GroupOf
group_of k es ts = record { members = drop k.first es; todo = drop k.from ts; again = k.again }

module _ (cs : List (List ℕ)) (main : ℕ) where
  -- the groups, where the last call to be followed is of w
  last_call : (top : Group) (below : List Group) (es ts : List ℕ) (w : ℕ) → top.from ≤ length ts →
      groups_in (top ∷ below) es (ts ++ w ∷ []) ≡ record { members = drop top.first es; todo = drop top.from ts ++ w ∷ []; again = top.again }
      ∷ groups_in below (take top.first es) (take top.from ts)
  last_call top below es ts w le = λ i. record { members = drop top.first es; todo = drop-append-le top.from ts (w ∷ []) le i; again = top.again }
      ∷ groups_in below (take top.first es) (take-append-le top.from ts (w ∷ []) le i)

  -- what is cut stays cut
  last_cut : (top : Group) (below : List Group) (es ts : List ℕ) (w : ℕ) → top.from ≤ length ts → IsCut (top ∷ below) es (ts ++ w ∷ [])
      → IsCut (top ∷ below) es ts
  last_cut top below es ts w le h = (h.0, le, subst (IsCut below (take top.first es)) (take-append-le top.from ts (w ∷ []) le) h.2)

  -- all that is entered is in a group
  in_groups : (ks : List Group) (es ts : List ℕ) (p : ℕ) → IsCut ks es ts → Contains es p → Contains (all_members (groups_in ks es ts)) p
  in_groups [] es ts p h k = subst (λ x. Contains x p) h.0 k
  in_groups (g ∷ ks) es ts p h k =
      elim (Contains-append_cases _ _ p (subst (λ x. Contains x p) (sym (take-append-drop g.first es)) k)) [
        | inl l ↦ Contains-append_right _ _ p (in_groups ks (take g.first es) (take g.from ts) p h.2 l)
        | inr l ↦ Contains-append_left _ _ p l
      ]

  module _ (s : SearchOf) (h : IsSearch cs main s) (ts : List ℕ) (w : ℕ) (is : s.todo ≡ ts ++ w ∷ []) (le : s.top.from ≤ length ts) where
    -- the groups, where w is called last
    last_groups : AreGroups (call_of cs) s.done []
        (record { members = drop s.top.first s.entered; todo = drop s.top.from ts ++ w ∷ []; again = s.top.again }
        ∷ groups_in s.below (take s.top.first s.entered) (take s.top.from ts))
    last_groups = subst (AreGroups (call_of cs) s.done []) (ap (groups_in (s.top ∷ s.below) s.entered) is ∙ last_call s.top s.below s.entered ts w le) h.groups

    still_cut : IsCut (s.top ∷ s.below) s.entered ts
    still_cut = last_cut s.top s.below s.entered ts w le (subst (IsCut (s.top ∷ s.below) s.entered) is h.cut)

    -- the procedure that calls w
    source : (a : ℕ) × Contains s.entered a × Contains (call_of cs a) w
    source = up (last_groups.0.sources w (Contains-push (drop s.top.from ts) w))
      where
        up : (a : ℕ) × Contains (drop s.top.first s.entered) a × Contains (call_of cs a) w → (a : ℕ) × Contains s.entered a × Contains (call_of cs a) w
        up (a, i, c) = (
          a,
          subst (λ x. Contains x a) (take-append-drop s.top.first s.entered)
              (Contains-append_right (take s.top.first s.entered) (drop s.top.first s.entered) a i),
          c,
        )

    pub called : (n : ℕ) → ((a c : ℕ) → Contains (call_of cs a) c → c < n) → w < n
    called n f = f source.0 w source.2

    pub enters_keeps : mark_at s.marks w ≡ New → w < length cs → IsSearch cs main (with_entered cs w ts s)
    enters_keeps new lt = record {
      number = length-set s.marks w (Entered (length s.entered)) ∙ h.number;
      cut = (
        omega (arith, length_push s.entered w),
        omega (arith, length-append ts (call_of cs w)),
        subst (IsCut (s.top ∷ s.below) (take (length s.entered) (s.entered ++ w ∷ []))) (sym (take_at ts (call_of cs w) (length ts) refl))
            (subst (λ x. IsCut (s.top ∷ s.below) x ts) (sym (take_at s.entered (w ∷ []) (length s.entered) refl)) still_cut),
      );
      groups = subst (AreGroups (call_of cs) s.done []) (sym same)
          (visited (call_of cs) s.done (record { members = drop s.top.first s.entered; todo = drop s.top.from ts ++ w ∷ []; again = s.top.again })
          (groups_in s.below (take s.top.first s.entered) (take s.top.from ts)) (drop s.top.from ts) w refl last_groups);
      done = h.done;
      marked = enters s.marks s.entered s.done h.marked w (omega (arith, lt, h.number)) new;
      reached = record {
        leads = λ p k. elim k [
          | inl e ↦ elim (Contains-append_cases s.entered (w ∷ []) p e) [
            | inl i ↦ h.reached.leads p (inl i)
            | inr i ↦ elim (contains_cases w [] p i) [
              | inl j ↦ subst (Leads (call_of cs) main) j
                  (lead_on (call_of cs) main source.0 w (h.reached.leads source.0 (inl source.1)) (call_leads (call_of cs) source.0 w source.2))
              | inr n ↦ absurd (contains_none n)
            ]
          ]
          | inr d ↦ h.reached.leads p (inr d)
        ];
        main_there = elim h.reached.main_there [ inl e ↦ inl (Contains-append_left s.entered (w ∷ []) main e) | inr d ↦ inr d ];
      };
      count = omega (arith, h.count, length_push s.entered w, count_set s.marks w (Entered (length s.entered)) (omega (arith, lt, h.number)), ap is_new new);
    }
      where
        same : groups_in (record { first = length s.entered; from = length ts; again = false } ∷ s.top ∷ s.below) (s.entered ++ w ∷ []) (ts ++ call_of cs w)
            ≡ record { members = w ∷ []; todo = call_of cs w; again = false }
            ∷ record { members = drop s.top.first s.entered; todo = drop s.top.from ts; again = s.top.again }
            ∷ groups_in s.below (take s.top.first s.entered) (take s.top.from ts)
        same = λ i. record {
          members = drop_at s.entered (w ∷ []) (length s.entered) refl i;
          todo = drop_at ts (call_of cs w) (length ts) refl i;
          again =
              false;
        } ∷ groups_in (s.top ∷ s.below) (take_at s.entered (w ∷ []) (length s.entered) refl i) (take_at ts (call_of cs w) (length ts) refl i)

    pub enters_less : mark_at s.marks w ≡ New → w < length cs → left_to_do cs (with_entered cs w ts s) < left_to_do cs s
    enters_less new lt =
        let weighs = weight_set s.marks cs w (Entered (length s.entered)) (omega (arith, lt, h.number)) lt in
        omega (arith, ap length is, length_push ts w, length-append ts (call_of cs w), weighs, ap (λ m. weight m (call_of cs w)) new)

    pub passes_keeps : mark_at s.marks w ≡ Done → IsSearch cs main (with_todo ts s)
    passes_keeps m = record {
      number = h.number;
      cut = still_cut;
      groups = passed (call_of cs) s.done (record { members = drop s.top.first s.entered; todo = drop s.top.from ts ++ w ∷ []; again = s.top.again })
          (groups_in s.below (take s.top.first s.entered) (take s.top.from ts)) (drop s.top.from ts) w refl (h.marked.finished_is w m) last_groups;
      done = h.done;
      marked = h.marked;
      reached = h.reached;
      count = h.count;
    }

    pub less_todo : length ts < length s.todo
    less_todo = omega (arith, ap length is, length_push ts w)

    pub circles_keeps : (at : ℕ) → mark_at s.marks w ≡ Entered at → s.top.first ≤ at → IsSearch cs main (with_circle ts s)
    circles_keeps at m ge =
        let there = h.marked.entered_is w at m in
        record {
          number = h.number;
          cut = still_cut;
          groups = circled (call_of cs) s.done (record
              { members = drop s.top.first s.entered; todo = drop s.top.from ts ++ w ∷ []; again = s.top.again })
              (groups_in s.below (take s.top.first s.entered) (take s.top.from ts)) (drop s.top.from ts) w refl
              (subst (Contains (drop s.top.first s.entered)) there.1 (drop_there s.marks s.entered s.done s.top.first h.marked at there.0 ge)) last_groups;
          done = h.done;
          marked = h.marked;
          reached = h.reached;
          count = h.count;
        }

    pub joins_keeps : (at : ℕ) → mark_at s.marks w ≡ Entered at → at < s.top.first → (k : Group) (ks : List Group) → s.below ≡ k ∷ ks
        → IsSearch cs main (with_joined k ks s)
    joins_keeps at m lt k ks b = record {
      number = h.number;
      cut = (
        omega (arith, cut.0, cut.2.0, length-take s.top.first s.entered),
        omega (arith, cut.1, cut.2.1, length-take s.top.from s.todo),
        subst (IsCut ks (take k.first s.entered)) twice_todo (subst (λ x. IsCut ks x (take k.from (take s.top.from s.todo))) twice cut.2.2),
      );
      groups = subst (AreGroups (call_of cs) s.done []) same
          (joined (call_of cs) s.done (record { members = drop s.top.first s.entered; todo = drop s.top.from s.todo; again = s.top.again })
          (record { members = drop k.first (take s.top.first s.entered); todo = drop k.from (take s.top.from s.todo); again = k.again })
          (groups_in ks (take k.first (take s.top.first s.entered)) (take k.from (take s.top.from s.todo))) w
          (subst (λ x. Contains x w) (sym (ap (drop s.top.from) is ∙ drop-append-le s.top.from ts (w ∷ []) le)) (Contains-push (drop s.top.from ts) w)) below
          (subst (λ x. AreGroups (call_of cs) s.done [] (groups_in (s.top ∷ x) s.entered s.todo)) b h.groups));
      done = h.done;
      marked = h.marked;
      reached = h.reached;
      count = h.count;
    }
      where
        cut : IsCut (s.top ∷ k ∷ ks) s.entered s.todo
        cut = subst (λ x. IsCut (s.top ∷ x) s.entered s.todo) b h.cut

        first_le : k.first ≤ s.top.first
        first_le = omega (arith, cut.2.0, length-take s.top.first s.entered)

        from_le : k.from ≤ s.top.from
        from_le = omega (arith, cut.2.1, length-take s.top.from s.todo)

        twice : take k.first (take s.top.first s.entered) ≡ take k.first s.entered
        twice = take-take k.first s.top.first s.entered first_le

        twice_todo : take k.from (take s.top.from s.todo) ≡ take k.from s.todo
        twice_todo = take-take k.from s.top.from s.todo from_le

        members_are : drop k.first (take s.top.first s.entered) ++ drop s.top.first s.entered ≡ drop k.first s.entered
        members_are = sym (drop-append-le k.first (take s.top.first s.entered) (drop s.top.first s.entered) cut.2.0)
            ∙ ap (drop k.first) (take-append-drop s.top.first s.entered)

        todo_is : drop k.from (take s.top.from s.todo) ++ drop s.top.from s.todo ≡ drop k.from s.todo
        todo_is = sym (drop-append-le k.from (take s.top.from s.todo) (drop s.top.from s.todo) cut.2.1) ∙ ap (drop k.from) (take-append-drop s.top.from s.todo)

        same : record {
          members = drop k.first (take s.top.first s.entered) ++ drop s.top.first s.entered;
          todo = drop k.from (take s.top.from s.todo) ++ drop s.top.from s.todo;
          again = true;
        }
            ∷ groups_in ks (take k.first (take s.top.first s.entered)) (take k.from (take s.top.from s.todo))
            ≡ record { members = drop k.first s.entered; todo = drop k.from s.todo; again = true } ∷ groups_in ks (take k.first s.entered) (take k.from s.todo)
        same = λ i. record { members = members_are i; todo = todo_is i; again = true } ∷ groups_in ks (twice i) (twice_todo i)

        below : Contains (drop k.first (take s.top.first s.entered) ++ all_members
            (groups_in ks (take k.first (take s.top.first s.entered)) (take k.from (take s.top.from s.todo)))) w
        below =
            let there = h.marked.entered_is w at m in
            in_groups (k ∷ ks) (take s.top.first s.entered) (take s.top.from s.todo) w cut.2
            (subst (Contains (take s.top.first s.entered)) there.1 (take_there s.marks s.entered s.done s.top.first h.marked at there.0 lt))

    -- where w is of a group below, there is one
    pub some_below : (at : ℕ) → mark_at s.marks w ≡ Entered at → at < s.top.first → s.below ≡ [] → ⊥
    some_below at m lt b =
        let cut : IsCut (s.top ∷ []) s.entered s.todo = subst (λ x. IsCut (s.top ∷ x) s.entered s.todo) b h.cut in
        let there = h.marked.entered_is w at m in
        contains_none (subst (λ x. Contains x w) cut.2.0
        (subst (Contains (take s.top.first s.entered)) there.1 (take_there s.marks s.entered s.done s.top.first h.marked at there.0 lt)))

  -- The top group is done.

  module _ (s : SearchOf) (h : IsSearch cs main s) (no_more : length s.todo ≡ s.top.from) where
    members : List ℕ
    members = drop s.top.first s.entered

    top_marked : AreMarked (done_marks (drop s.top.first s.entered) s.marks) (take s.top.first s.entered) (drop s.top.first s.entered ++ s.done)
    top_marked = leaves s.marks s.entered s.done s.top.first h.marked h.cut.0

    no_todo : drop s.top.from s.todo ≡ []
    no_todo = drop_all s.top.from s.todo (omega (arith, no_more))

    all_todo : take s.top.from s.todo ≡ s.todo
    all_todo = take_all s.top.from s.todo (omega (arith, no_more))

    member_entered : (p : ℕ) → Contains (drop s.top.first s.entered) p → Contains s.entered p
    member_entered p k = subst (λ x. Contains x p) (take-append-drop s.top.first s.entered)
        (Contains-append_right (take s.top.first s.entered) (drop s.top.first s.entered) p k)

    not_new : (p : ℕ) → Contains (drop s.top.first s.entered) p → mark_at s.marks p ≡ New → ⊥
    not_new p k e = (new_is s.marks s.entered s.done h.marked p e).0 (member_entered p k)

    all_done : AreDone (call_of cs) (drop s.top.first s.entered ++ s.done) (first_with s.top.again (drop s.top.first s.entered) s.first)
    all_done = finished (call_of cs) s.done s.first
        (record { members = drop s.top.first s.entered; todo = drop s.top.from s.todo; again = s.top.again })
        (groups_in s.below (take s.top.first s.entered) (take s.top.from s.todo)) no_todo h.groups h.done
        (λ p k d. not_both s.marks s.entered s.done h.marked p (member_entered p k) d)

    moved : (p : ℕ) → Contains s.entered p → Contains (take s.top.first s.entered) p ⊎ Contains (drop s.top.first s.entered) p
    moved p k = Contains-append_cases (take s.top.first s.entered) (drop s.top.first s.entered) p
        (subst (λ x. Contains x p) (sym (take-append-drop s.top.first s.entered)) k)

    still_reached : AreReached cs main (take s.top.first s.entered) (drop s.top.first s.entered ++ s.done)
    still_reached = record {
      leads = λ p k. elim k [
        | inl e ↦ h.reached.leads p (inl (subst (λ x. Contains x p) (take-append-drop s.top.first s.entered)
            (Contains-append_left (take s.top.first s.entered) (drop s.top.first s.entered) p e)))
        | inr d ↦ elim (Contains-append_cases (drop s.top.first s.entered) s.done p d)
            [ inl i ↦ h.reached.leads p (inl (member_entered p i)) | inr i ↦ h.reached.leads p (inr i) ]
      ];
      main_there = elim h.reached.main_there [
        | inl e ↦ elim (moved main e) [ inl i ↦ inl i | inr i ↦ inr (Contains-append_left (drop s.top.first s.entered) s.done main i) ]
        | inr d ↦ inr (Contains-append_right (drop s.top.first s.entered) s.done main d)
      ];
    }

    still_count : new_count (done_marks (drop s.top.first s.entered) s.marks) + length (take s.top.first s.entered)
        + length (drop s.top.first s.entered ++ s.done) ≡ length cs
    still_count = omega (
      arith,
      h.count,
      done_counts (drop s.top.first s.entered) s.marks not_new,
      length-append (drop s.top.first s.entered) s.done,
      length-take s.top.first s.entered,
      length-drop s.top.first s.entered,
    )

    pub ends_found : s.below ≡ [] → IsFound cs main (drop s.top.first s.entered ++ s.done) (first_with s.top.again (drop s.top.first s.entered) s.first)
    ends_found b = record {
      done_are = all_done;
      leads = λ p k. still_reached.leads p (inr k);
      main_there = elim still_reached.main_there [
        | inl e ↦ absurd (contains_none (subst (λ x. Contains x main) none e))
        | inr d ↦ d
      ];
      below = λ p k.
          let lt = marked_below (done_marks (drop s.top.first s.entered) s.marks) p
          (λ e. (new_is (done_marks (drop s.top.first s.entered) s.marks) (take s.top.first s.entered) (drop s.top.first s.entered ++ s.done)
          top_marked p e).1 k) in
          omega (arith, lt, done_marks-length (drop s.top.first s.entered) s.marks, h.number);
      few = omega (arith, still_count);
    }
      where
        none : take s.top.first s.entered ≡ []
        none = (subst (λ x. IsCut (s.top ∷ x) s.entered s.todo) b h.cut).2.0

    pub ends_keeps : (k : Group) (ks : List Group) → s.below ≡ k ∷ ks → IsSearch cs main record {
      marks = done_marks (drop s.top.first s.entered) s.marks;
      entered = take s.top.first s.entered;
      todo = s.todo;
      top = k;
      below = ks;
      done = drop s.top.first s.entered ++ s.done;
      first = first_with s.top.again (drop s.top.first s.entered) s.first;
    }
    ends_keeps k ks b = record {
      number = done_marks-length (drop s.top.first s.entered) s.marks ∙ h.number;
      cut = subst (IsCut (k ∷ ks) (take s.top.first s.entered)) all_todo (subst (λ x. IsCut (s.top ∷ x) s.entered s.todo) b h.cut).2;
      groups = subst (λ x. AreGroups (call_of cs) (drop s.top.first s.entered ++ s.done) [] (groups_in x (take s.top.first s.entered) s.todo)) b
          (subst (λ t. AreGroups (call_of cs) (drop s.top.first s.entered ++ s.done) [] (groups_in s.below (take s.top.first s.entered) t)) all_todo
          (left_groups (call_of cs) s.done (record { members = drop s.top.first s.entered; todo = drop s.top.from s.todo; again = s.top.again })
          (groups_in s.below (take s.top.first s.entered) (take s.top.from s.todo)) h.groups));
      done = all_done;
      marked = top_marked;
      reached = still_reached;
      count = still_count;
    }

    pub ends_less : (k : Group) (ks : List Group) → s.below ≡ k ∷ ks → length s.todo + length ks
        + new_weight (done_marks (drop s.top.first s.entered) s.marks) cs < left_to_do cs s
    ends_less k ks b = omega (arith, ap length b, done_weighs (drop s.top.first s.entered) s.marks cs h.number not_new)

  -- The beginning: main is entered.

  pub begins : main < length cs → IsSearch cs main record {
    marks = set (replicate (length cs) New) main (Entered 0);
    entered = main ∷ [];
    todo = call_of cs main;
    top = record { first = 0; from = 0; again = false };
    below = [];
    done = [];
    first = None;
  }
  begins lt = record {
    number = length-set _ main (Entered 0) ∙ length-replicate (length cs) New;
    cut = (omega arith, omega arith, (refl, refl));
    groups = (alone, (λ b a k l. absurd (contains_none k)), tt);
    done = record {
      closed = λ a c k l. absurd (contains_none k);
      order = λ e. tt;
      circular = λ r e. absurd (none_is_some r e);
      least = λ a k r. absurd (contains_none k);
    };
    marked = enters _ [] [] nothing main (omega (arith, length-replicate (length cs) New)) (get_or-replicate (length cs) main New New lt);
    reached = record {
      leads = λ p k. elim k [
        | inl e ↦ elim (contains_cases main [] p e) [ inl i ↦ inl i | inr n ↦ absurd (contains_none n) ]
        | inr d ↦ absurd (contains_none d)
      ];
      main_there = inl (contains_first main []);
    };
    count = omega (
      arith,
      all_new (length cs),
      count_set (replicate (length cs) New) main (Entered 0) (omega (arith, length-replicate (length cs) New)),
      ap is_new (get_or-replicate (length cs) main New New lt),
    );
  }
    where
      none_is_some : (r : ℕ) → None ≡ Some r → ⊥
      none_is_some r e = cc

      all_new : (n : ℕ) → new_count (replicate n New) ≡ n
      all_new zero = refl
      all_new (suc n) = omega (arith, all_new n)

      new_at : (n p : ℕ) → mark_at (replicate n New) p ≡ New
      new_at zero p = refl
      new_at (suc n) zero = refl
      new_at (suc n) (suc p) = new_at n p

      nothing : AreMarked (replicate (length cs) New) [] []
      nothing = record {
        places = λ i l. absurd (omega arith);
        finished = λ p k. absurd (contains_none k);
        entered_is = λ p at e. absurd (new_apart (sym (new_at (length cs) p) ∙ e));
        finished_is = λ p e. absurd (new_not_done (sym (new_at (length cs) p) ∙ e));
      }

      alone : IsGroup (call_of cs) [] [] (record { members = main ∷ []; todo = call_of cs main; again = false })
      alone = record {
        strong = λ a b k l. inl (sym (is_main a k) ∙ is_main b l);
        sources = λ c k. (main, contains_first main [], k);
        followed = λ a c k l. inr (inl (subst (λ x. Contains (call_of cs x) c) (sym (is_main a k)) l));
        circular = λ e. cc;
        single = λ e. (main, refl);
      }
        where
          is_main : (a : ℕ) → Contains (main ∷ []) a → main ≡ a
          is_main a k = elim (contains_cases main [] a k) [ inl e ↦ e | inr n ↦ absurd (contains_none n) ]
