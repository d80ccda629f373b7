-- Going along the calls keeps groups.
use Rattle.std.proofs.Common.{◌≡◌, ℕ, ◌≤◌, min, List, [], ◌∷◌, ◌++◌, Bool, true, false, ◌⊎◌, inl, inr, Option, Some, None, refl, ap, sym, ◌∙◌, subst, arith}
use Rattle.std.{specs.List.{All, Contains}, proofs.lemmas.Bool.cases_lt, specs.Option.unwrap_or, proofs.lemmas.List.Elements.{All-nil, All-cons}}
use Rattle.std.proofs.lemmas.List.Elements.{Contains-append_left, Contains-append_right, Contains-append_cases, Contains-push}
use Rattle.space_cert.{specs.Reaches.{Reaches, Directly, Further, Leads}, specs.Internal.Search.{GroupOf, all_members, IsGroup, AreGroups, AreDone, earlier}}
use Rattle.space_cert.{specs.Internal.Search.{earliest, first_with}, proofs.ContainsLaws.{contains_none, contains_first, contains_later, contains_cases}}
use Rattle.space_cert.proofs.ReachLaws.{reached_by}

module _ (calls : ℕ → List ℕ) where
  -- Ways.

  pub lead_reach : (a b c : ℕ) → Leads calls a b → Reaches calls b c → Reaches calls a c
  lead_reach a b c (inl e) h = subst (λ x. Reaches calls x c) (sym e) h
  lead_reach a b c (inr g) h = reached_by calls a b c g h

  pub reach_lead : (a b c : ℕ) → Reaches calls a b → Leads calls b c → Reaches calls a c
  reach_lead a b c h (inl e) = subst (Reaches calls a) e h
  reach_lead a b c h (inr g) = reached_by calls a b c h g

  pub lead_on : (a b c : ℕ) → Leads calls a b → Leads calls b c → Leads calls a c
  lead_on a b c (inl e) h = subst (λ x. Leads calls x c) (sym e) h
  lead_on a b c (inr g) h = inr (reach_lead a b c g h)

  pub call_leads : (a b : ℕ) → Contains (calls a) b → Leads calls a b
  call_leads a b h = inr (Directly h)

  -- More is above.

  group_more : (done above more : List ℕ) (g : GroupOf) → ((c : ℕ) → Contains above c → Contains more c) → IsGroup calls done above g
      → IsGroup calls done more g
  group_more done above more g f h = record {
    strong = h.strong;
    sources = h.sources;
    followed = λ a c m k.
        elim (h.followed a c m k) [
          | inl d ↦ inl d
          | inr r ↦ inr (elim r [ inl t ↦ inl t | inr s ↦ inr (elim s [ inl u ↦ inl (f c u) | inr v ↦ inr v ]) ])
        ];
    circular = h.circular;
    single = h.single;
  }

  append_more : (xs above more : List ℕ) → ((c : ℕ) → Contains above c → Contains more c) → (c : ℕ) → Contains (xs ++ above) c → Contains (xs ++ more) c
  append_more xs above more f c h =
      elim (Contains-append_cases xs above c h) [ inl k ↦ Contains-append_left xs more c k | inr k ↦ Contains-append_right xs more c (f c k) ]

  pub groups_more : (done above more : List ℕ) (gs : List GroupOf) → ((c : ℕ) → Contains above c → Contains more c) → AreGroups calls done above gs
      → AreGroups calls done more gs
  groups_more done above more [] f h = tt
  groups_more done above more (g ∷ gs) f h = (group_more done above more g f h.0, h.1, groups_more done _ _ gs (append_more g.members above more f) h.2)

  -- What is above becomes done.

  group_done : (done above now up : List ℕ) (g : GroupOf) → ((c : ℕ) → Contains done c → Contains now c)
      → ((c : ℕ) → Contains above c → Contains now c ⊎ Contains up c) → IsGroup calls done above g → IsGroup calls now up g
  group_done done above now up g f u h = record {
    strong = h.strong;
    sources = h.sources;
    followed = λ a c m k.
        elim (h.followed a c m k) [
          | inl d ↦ inl (f c d)
          | inr r ↦ elim r [
            | inl t ↦ inr (inl t)
            | inr s ↦ elim s [
              | inl v ↦ elim (u c v) [ inl d ↦ inl d | inr w ↦ inr (inr (inl w)) ]
              | inr v ↦ inr (inr (inr v))
            ]
          ]
        ];
    circular = h.circular;
    single = h.single;
  }

  append_done : (xs above now up : List ℕ) → ((c : ℕ) → Contains above c → Contains now c ⊎ Contains up c) → (c : ℕ) → Contains (xs ++ above) c
      → Contains now c ⊎ Contains (xs ++ up) c
  append_done xs above now up u c h =
      elim (Contains-append_cases xs above c h) [
        | inl k ↦ inr (Contains-append_left xs up c k)
        | inr k ↦ elim (u c k) [ inl d ↦ inl d | inr w ↦ inr (Contains-append_right xs up c w) ]
      ]

  pub groups_done : (done above now up : List ℕ) (gs : List GroupOf) → ((c : ℕ) → Contains done c → Contains now c)
      → ((c : ℕ) → Contains above c → Contains now c ⊎ Contains up c) → AreGroups calls done above gs → AreGroups calls now up gs
  groups_done done above now up [] f u h = tt
  groups_done done above now up (g ∷ gs) f u h =
      (group_done done above now up g f u h.0, h.1, groups_done done (g.members ++ above) now (g.members ++ up) gs f (append_done g.members above now up u) h.2)

  -- The moves.

  -- a call in the top group comes from one of its procedures
  todo_last : (ts : List ℕ) (w : ℕ) → Contains (ts ++ w ∷ []) w
  todo_last ts w = Contains-push ts w

  -- a procedure that is new
  pub visited : (done : List ℕ) (g : GroupOf) (gs : List GroupOf) (ts : List ℕ) (w : ℕ) → g.todo ≡ ts ++ w ∷ [] → AreGroups calls done [] (g ∷ gs) →
      AreGroups calls done [] (record { members = w ∷ []; todo = calls w; again = false } ∷ record { members = g.members; todo = ts; again = g.again } ∷ gs)
  visited done g gs ts w e h =
      let source = h.0.sources w (subst (λ t. Contains t w) (sym e) (todo_last ts w)) in (
        fresh,
        chain source,
        (below, h.1, groups_more done _ _ gs (append_more g.members [] (w ∷ []) (λ c k. absurd (contains_none k))) h.2),
      )
    where
      is_w : (a : ℕ) → Contains (w ∷ []) a → w ≡ a
      is_w a k = elim (contains_cases w [] a k) [ inl e ↦ e | inr n ↦ absurd (contains_none n) ]

      fresh : IsGroup calls done [] (record { members = w ∷ []; todo = calls w; again = false })
      fresh = record {
        strong = λ a b k l. inl (sym (is_w a k) ∙ is_w b l);
        sources = λ c k. (w, contains_first w [], k);
        followed = λ a c k l. inr (inl (subst (λ x. Contains (calls x) c) (sym (is_w a k)) l));
        circular = λ e. cc;
        single = λ e. (w, refl);
      }

      chain : (a : ℕ) × Contains g.members a × Contains (calls a) w → (b a : ℕ) → Contains (g.members ++ all_members gs) b → Contains (w ∷ []) a
          → Leads calls b a
      chain (u, m, c) b a k l = subst (Leads calls b) (is_w a l) (lead_on b u w
          (elim (Contains-append_cases g.members (all_members gs) b k) [ inl i ↦ h.0.strong b u i m | inr i ↦ h.1 b u i m ]) (call_leads u w c))

      below : IsGroup calls done (w ∷ []) (record { members = g.members; todo = ts; again = g.again })
      below = record {
        strong = h.0.strong;
        sources = λ c k. h.0.sources c (subst (λ t. Contains t c) (sym e) (Contains-append_left ts (w ∷ []) c k));
        followed = λ a c k l.
            elim (h.0.followed a c k l) [
              | inl d ↦ inl d
              | inr r ↦ elim r [
                | inl t ↦ elim (Contains-append_cases ts (w ∷ []) c (subst (λ x. Contains x c) e t)) [ inl i ↦ inr (inl i) | inr i ↦ inr (inr (inl i)) ]
                | inr s ↦ elim s [ inl n ↦ absurd (contains_none n) | inr o ↦ inr (inr (inr o)) ]
              ]
            ];
        circular = h.0.circular;
        single = h.0.single;
      }

  -- a procedure that is done
  pub passed : (done : List ℕ) (g : GroupOf) (gs : List GroupOf) (ts : List ℕ) (w : ℕ) → g.todo ≡ ts ++ w ∷ [] → Contains done w
      → AreGroups calls done [] (g ∷ gs) →
      AreGroups calls done [] (record { members = g.members; todo = ts; again = g.again } ∷ gs)
  passed done g gs ts w e there h = (now, h.1, h.2)
    where
      is_done : (c : ℕ) → Contains (w ∷ []) c → Contains done c
      is_done c k = elim (contains_cases w [] c k) [ inl i ↦ subst (Contains done) i there | inr n ↦ absurd (contains_none n) ]

      now : IsGroup calls done [] (record { members = g.members; todo = ts; again = g.again })
      now = record {
        strong = h.0.strong;
        sources = λ c k. h.0.sources c (subst (λ t. Contains t c) (sym e) (Contains-append_left ts (w ∷ []) c k));
        followed = λ a c k l.
            elim (h.0.followed a c k l) [
              | inl d ↦ inl d
              | inr r ↦ elim r [
                | inl t ↦ elim (Contains-append_cases ts (w ∷ []) c (subst (λ x. Contains x c) e t)) [ inl i ↦ inr (inl i) | inr i ↦ inl (is_done c i) ]
                | inr s ↦ inr (inr s)
              ]
            ];
        circular = h.0.circular;
        single = h.0.single;
      }

  -- a procedure of the top group
  pub circled : (done : List ℕ) (g : GroupOf) (gs : List GroupOf) (ts : List ℕ) (w : ℕ) → g.todo ≡ ts ++ w ∷ [] → Contains g.members w
      → AreGroups calls done [] (g ∷ gs) →
      AreGroups calls done [] (record { members = g.members; todo = ts; again = true } ∷ gs)
  circled done g gs ts w e there h = (now (h.0.sources w (subst (λ t. Contains t w) (sym e) (todo_last ts w))), h.1, h.2)
    where
      is_member : (c : ℕ) → Contains (w ∷ []) c → Contains g.members c
      is_member c k = elim (contains_cases w [] c k) [ inl i ↦ subst (Contains g.members) i there | inr n ↦ absurd (contains_none n) ]

      now : (a : ℕ) × Contains g.members a × Contains (calls a) w → IsGroup calls done [] (record { members = g.members; todo = ts; again = true })
      now (u, m, c) = record {
        strong = h.0.strong;
        sources = λ c k. h.0.sources c (subst (λ t. Contains t c) (sym e) (Contains-append_left ts (w ∷ []) c k));
        followed = λ a c k l.
            elim (h.0.followed a c k l) [
              | inl d ↦ inl d
              | inr r ↦ elim r [
                | inl t ↦ elim (Contains-append_cases ts (w ∷ []) c (subst (λ x. Contains x c) e t))
                    [ inl i ↦ inr (inl i) | inr i ↦ inr (inr (inr (is_member c i, refl))) ]
                | inr s ↦ elim s [ inl n ↦ inr (inr (inl n)) | inr o ↦ inr (inr (inr (o.0, refl))) ]
              ]
            ];
        circular = λ e a k. lead_reach a u a (h.0.strong a u k m) (reach_lead u w a (Directly c) (h.0.strong w a there k));
        single = λ e. cc;
      }

  -- a procedure of a group below: the two topmost are one
  pub joined : (done : List ℕ) (g k : GroupOf) (gs : List GroupOf) (w : ℕ) → Contains g.todo w → Contains (all_members (k ∷ gs)) w
      → AreGroups calls done [] (g ∷ k ∷ gs) →
      AreGroups calls done [] (record { members = k.members ++ g.members; todo = k.todo ++ g.todo; again = true } ∷ gs)
  joined done g k gs w t there h =
      let up = h.0 in
      (now (up.sources w t), chain, groups_more done _ _ gs regroup h.2.2)
    where
      regroup : (c : ℕ) → Contains (k.members ++ (g.members ++ [])) c → Contains ((k.members ++ g.members) ++ []) c
      regroup c i =
          elim (Contains-append_cases k.members _ c i) [
            | inl l ↦ Contains-append_left _ [] c (Contains-append_left k.members g.members c l)
            | inr l ↦ elim (Contains-append_cases g.members [] c l) [
              | inl m ↦ Contains-append_left _ [] c (Contains-append_right k.members g.members c m)
              | inr n ↦ absurd (contains_none n)
            ]
          ]

      chain : (b a : ℕ) → Contains (all_members gs) b → Contains (k.members ++ g.members) a → Leads calls b a
      chain b a i l =
          elim (Contains-append_cases k.members g.members a l) [
            | inl m ↦ h.2.1 b a i m
            | inr m ↦ h.1 b a (Contains-append_right k.members (all_members gs) b i) m
          ]

      -- the procedure that is called leads to words_sum groups
      leads : (a : ℕ) → Contains (k.members ++ g.members) a → Leads calls w a
      leads a i =
          elim (Contains-append_cases k.members g.members a i) [
            | inl m ↦ elim (Contains-append_cases k.members _ w there) [ inl l ↦ h.2.0.strong w a l m | inr l ↦ h.2.1 w a l m ]
            | inr m ↦ h.1 w a there m
          ]

      now : (a : ℕ) × Contains g.members a × Contains (calls a) w → IsGroup calls done []
          (record { members = k.members ++ g.members; todo = k.todo ++ g.todo; again = true })
      now (u, m, c) = record {
        strong = λ a b i l. inr (lead_reach a u b (back a i) (reach_lead u w b (Directly c) (leads b l)));
        sources = λ x i.
            elim (Contains-append_cases k.todo g.todo x i) [ inl l ↦ left_source x (h.2.0.sources x l) | inr l ↦ right_source x (h.0.sources x l) ];
        followed = λ a x i l.
            elim (Contains-append_cases k.members g.members a i) [
              | inl j ↦ elim (h.2.0.followed a x j l) [
                | inl d ↦ inl d
                | inr r ↦ elim r [
                  | inl t ↦ inr (inl (Contains-append_left k.todo g.todo x t))
                  | inr s ↦ elim s [
                    | inl v ↦ elim (Contains-append_cases g.members [] x v)
                        [ inl y ↦ inr (inr (inr (Contains-append_right k.members g.members x y, refl))) | inr n ↦ absurd (contains_none n) ]
                    | inr o ↦ inr (inr (inr (Contains-append_left k.members g.members x o.0, refl)))
                  ]
                ]
              ]
              | inr j ↦ elim (h.0.followed a x j l) [
                | inl d ↦ inl d
                | inr r ↦ elim r [
                  | inl t ↦ inr (inl (Contains-append_right k.todo g.todo x t))
                  | inr s ↦ elim s [ inl n ↦ absurd (contains_none n) | inr o ↦ inr (inr (inr (Contains-append_right k.members g.members x o.0, refl))) ]
                ]
              ]
            ];
        circular = λ e a i. lead_reach a u a (back a i) (reach_lead u w a (Directly c) (leads a i));
        single = λ e. cc;
      }
        where
          back : (a : ℕ) → Contains (k.members ++ g.members) a → Leads calls a u
          back a i =
              elim (Contains-append_cases k.members g.members a i) [ inl l ↦ h.1 a u (Contains-append_left k.members _ a l) m | inr l ↦ h.0.strong a u l m ]

          left_source : (x : ℕ) → (a : ℕ) × Contains k.members a × Contains (calls a) x → (a : ℕ) × Contains (k.members ++ g.members) a × Contains (calls a) x
          left_source x (a, i, l) = (a, Contains-append_left k.members g.members a i, l)

          right_source : (x : ℕ) → (a : ℕ) × Contains g.members a × Contains (calls a) x → (a : ℕ) × Contains (k.members ++ g.members) a × Contains (calls a) x
          right_source x (a, i, l) = (a, Contains-append_right k.members g.members a i, l)

  -- a group is done
  pub closed_now : (done : List ℕ) (first : Option ℕ) (g : GroupOf) (gs : List GroupOf) → g.todo ≡ [] → AreGroups calls done [] (g ∷ gs)
      → AreDone calls done first → (a c : ℕ) → Contains (g.members ++ done) a → Contains (calls a) c → Contains (g.members ++ done) c
  closed_now done first g gs e h d a c k l =
      elim (Contains-append_cases g.members done a k) [
        | inl m ↦ elim (h.0.followed a c m l) [
          | inl i ↦ Contains-append_right g.members done c i
          | inr r ↦ elim r [
            | inl t ↦ absurd (contains_none (subst (λ x. Contains x c) e t))
            | inr s ↦ elim s [ inl n ↦ absurd (contains_none n) | inr o ↦ Contains-append_left g.members done c o.0 ]
          ]
        ]
        | inr m ↦ Contains-append_right g.members done c (d.closed a c m l)
      ]

  -- where all of p's calls are of what is closed, so is all that p reaches
  stays_in : (done : List ℕ) → ((a c : ℕ) → Contains done a → Contains (calls a) c → Contains done c) → (p r : ℕ)
      → ((c : ℕ) → Contains (calls p) c → Contains done c) → Reaches calls p r → Contains done r
  stays_in done closed p r f (Directly h) = f r h
  stays_in done closed p r f (Further {r = s} h g) = closed s r (stays_in done closed p s f h) g

  -- a group of one procedure that doesn't reach itself
  once : (done : List ℕ) (first : Option ℕ) (v : ℕ) → AreDone calls done first → (Contains done v → ⊥)
      → ((c : ℕ) → Contains (calls v) c → Contains done c) → AreDone calls (v ∷ done) first
  once done first v d n f = record {
    closed = λ a c k l. contains_later v done c
        (elim (contains_cases v done a k) [ inl e ↦ f c (subst (λ x. Contains (calls x) c) (sym e) l) | inr m ↦ d.closed a c m l ]);
    order = λ e. (n, each (calls v) f, d.order e);
    circular = λ r e. (contains_later v done r (d.circular r e).0, (d.circular r e).1);
    least = λ a k h.
        elim (contains_cases v done a k) [
          | inl e ↦ absurd (n (stays_in done d.closed v v f (subst (λ x. Reaches calls x x) (sym e) h)))
          | inr m ↦ d.least a m h
        ];
  }
    where
      each : (xs : List ℕ) → ((c : ℕ) → Contains xs c → Contains done c) → All (Contains done) xs
      each [] f = All-nil (Contains done)
      each (x ∷ xs) f = All-cons (Contains done) x xs (f x (contains_first x xs)) (each xs (λ c k. f c (contains_later x xs c k)))

  earliest_there : (members : List ℕ) (first : Option ℕ) → (m : ℕ) → Contains members m → (r : ℕ) × (earliest members first ≡ Some r) × (r ≤ m)
  earliest_there [] first m k = absurd (contains_none k)
  earliest_there (p ∷ ps) first m k = pick (earliest ps first) refl (contains_cases p ps m k) (earliest_there ps first m)
    where
      pick : (o : Option ℕ) → earliest ps first ≡ o → (p ≡ m) ⊎ Contains ps m → (Contains ps m → (r : ℕ) × (earliest ps first ≡ Some r) × (r ≤ m))
          → (r : ℕ) × (earlier p o ≡ Some r) × (r ≤ m)
      pick None e (inl i) f = (p, refl, omega (arith, i))
      pick (Some r) e (inl i) f = (min p r, refl, omega (arith, i))
      pick None e (inr l) f = absurd (none_is_some (sym e ∙ (f l).1))
        where
          none_is_some : None ≡ Some (f l).0 → ⊥
          none_is_some e = cc
      pick (Some r) e (inr l) f = (min p r, refl, lower (some_is (sym e ∙ (f l).1)) (f l).2)
        where
          some_is : Some r ≡ Some (f l).0 → r ≡ (f l).0
          some_is e = ap (λ o. unwrap_or o 0) e

          lower : r ≡ (f l).0 → (f l).0 ≤ m → min p r ≤ m
          lower e h = omega (arith, e, h)

  -- it is no later than what was first before
  earliest_kept : (members : List ℕ) (r : ℕ) → (s : ℕ) × (earliest members (Some r) ≡ Some s) × (s ≤ r)
  earliest_kept [] r = (r, refl, omega arith)
  earliest_kept (p ∷ ps) r = pick (earliest_kept ps r)
    where
      pick : (s : ℕ) × (earliest ps (Some r) ≡ Some s) × (s ≤ r) → (s : ℕ) × (earlier p (earliest ps (Some r)) ≡ Some s) × (s ≤ r)
      pick (s, e, h) = (min p s, ap (earlier p) e, omega (arith, h))

  one_of : (a b : ℕ) → (min a b ≡ a) ⊎ (min a b ≡ b)
  one_of a b = elim (cases_lt a b) [ inl h ↦ inl (omega (arith, h)) | inr h ↦ inr (omega (arith, h)) ]

  -- and it is one of them
  earliest_of : (members : List ℕ) (first : Option ℕ) (r : ℕ) → earliest members first ≡ Some r → Contains members r ⊎ (first ≡ Some r)
  earliest_of [] first r e = inr e
  earliest_of (p ∷ ps) first r e = pick (earliest ps first) refl e (earliest_of ps first)
    where
      pick : (o : Option ℕ) → earliest ps first ≡ o → earlier p o ≡ Some r → ((r : ℕ) → earliest ps first ≡ Some r → Contains ps r ⊎ (first ≡ Some r))
          → Contains (p ∷ ps) r ⊎ (first ≡ Some r)
      pick None e i f = inl (subst (Contains (p ∷ ps)) (ap (λ o. unwrap_or o 0) i) (contains_first p ps))
      pick (Some s) e i f =
          elim (one_of p s) [
            | inl l ↦ inl (subst (Contains (p ∷ ps)) (sym l ∙ ap (λ o. unwrap_or o 0) i) (contains_first p ps))
            | inr l ↦ elim (f s e) [
              | inl k ↦ inl (subst (Contains (p ∷ ps)) (sym l ∙ ap (λ o. unwrap_or o 0) i) (contains_later p ps s k))
              | inr k ↦ inr (k ∙ (ap Some (sym l) ∙ i))
            ]
          ]

  some_again : (members : List ℕ) (first : Option ℕ) (m : ℕ) → Contains members m → earliest members first ≡ None → ⊥
  some_again members first m k e = pick (earliest_there members first m k)
    where
      pick : (r : ℕ) × (earliest members first ≡ Some r) × (r ≤ m) → ⊥
      pick (r, i, h) = none_is_some (sym e ∙ i)
        where
          none_is_some : None ≡ Some r → ⊥
          none_is_some e = cc

  -- a group whose procedures reach themselves
  again_done : (done : List ℕ) (first : Option ℕ) (members : List ℕ)
      → ((a c : ℕ) → Contains (members ++ done) a → Contains (calls a) c → Contains (members ++ done) c)
      → ((a : ℕ) → Contains members a → Reaches calls a a) → AreDone calls done first → AreDone calls (members ++ done) (earliest members first)
  again_done done first [] closed f d = d
  again_done done first (p ∷ ps) closed f d = record {
    closed = closed;
    order = λ e. absurd (some_again (p ∷ ps) first p (contains_first p ps) e);
    circular = λ r e.
        elim (earliest_of (p ∷ ps) first r e) [
          | inl k ↦ (Contains-append_left (p ∷ ps) done r k, f r k)
          | inr k ↦ (Contains-append_right (p ∷ ps) done r (d.circular r k).0, (d.circular r k).1)
        ];
    least = λ a k h.
        elim (Contains-append_cases (p ∷ ps) done a k) [
          | inl m ↦ earliest_there (p ∷ ps) first a m
          | inr m ↦ before a (d.least a m h)
        ];
  }
    where
      before : (a : ℕ) → (r : ℕ) × (first ≡ Some r) × (r ≤ a) → (r : ℕ) × (earliest (p ∷ ps) first ≡ Some r) × (r ≤ a)
      before a (r, e, h) = pick (earliest_kept (p ∷ ps) r)
        where
          pick : (s : ℕ) × (earliest (p ∷ ps) (Some r) ≡ Some s) × (s ≤ r) → (s : ℕ) × (earliest (p ∷ ps) first ≡ Some s) × (s ≤ a)
          pick (s, i, l) = (s, ap (earliest (p ∷ ps)) e ∙ i, omega (arith, h, l))

  pub finished : (done : List ℕ) (first : Option ℕ) (g : GroupOf) (gs : List GroupOf) → g.todo ≡ [] → AreGroups calls done [] (g ∷ gs)
      → AreDone calls done first → ((c : ℕ) → Contains g.members c → Contains done c → ⊥) →
      AreDone calls (g.members ++ done) (first_with g.again g.members first)
  finished done first g gs e h d apart = pick g.again refl
    where
      closed : (a c : ℕ) → Contains (g.members ++ done) a → Contains (calls a) c → Contains (g.members ++ done) c
      closed = closed_now done first g gs e h d

      single : (v : ℕ) → g.members ≡ v ∷ [] → g.again ≡ false → AreDone calls (g.members ++ done) first
      single v m n =
          subst (λ x. AreDone calls (x ++ done) first) (sym m)
          (once done first v d (apart v (subst (λ x. Contains x v) (sym m) (contains_first v [])))
          (λ c k. elim (h.0.followed v c (subst (λ x. Contains x v) (sym m) (contains_first v [])) k) [
            | inl i ↦ i
            | inr r ↦ elim r [
              | inl t ↦ absurd (contains_none (subst (λ x. Contains x c) e t))
              | inr s ↦ elim s [ inl o ↦ absurd (contains_none o) | inr o ↦ absurd (false_true (sym n ∙ o.1)) ]
            ]
          ]))
        where
          false_true : false ≡ true → ⊥
          false_true e = cc

      pick : (b : Bool) → g.again ≡ b → AreDone calls (g.members ++ done) (first_with b g.members first)
      pick true i = again_done done first g.members closed (h.0.circular i) d
      pick false i = by (h.0.single i)
        where
          by : (a : ℕ) × (g.members ≡ a ∷ []) → AreDone calls (g.members ++ done) first
          by (v, m) = single v m i

  pub left_groups : (done : List ℕ) (g : GroupOf) (gs : List GroupOf) → AreGroups calls done [] (g ∷ gs) → AreGroups calls (g.members ++ done) [] gs
  left_groups done g gs h = groups_done done _ _ [] gs (λ c k. Contains-append_right g.members done c k)
      (λ c k. elim (Contains-append_cases g.members [] c k) [ inl m ↦ inl (Contains-append_left g.members done c m) | inr n ↦ absurd (contains_none n) ]) h.2
