-- Marks.
use Rattle.std.proofs.Common.{◌≡◌, ℕ, zero, suc, ◌+◌, ◌-◌, ◌<◌, ◌≤◌, List, [], ◌∷◌, ◌++◌, length, get_or, take, drop, set, ◌⊎◌, inl, inr, refl, ap, sym, ◌∙◌}
use Rattle.std.{proofs.Common.{subst, arith}, proofs.lemmas.Bool.{cases_eq, cases_lt}, proofs.lemmas.List.{get_or-set_same, get_or-set_other, length-set}}
use Rattle.std.proofs.lemmas.List.{get_or_past, get_or_push, get_or_append_left, length_push, get_or-take, get_or-drop, get_or_default, length-drop}
use Rattle.std.{proofs.lemmas.List.{length-take, set_past}, specs.List.Contains, proofs.lemmas.List.Elements.{Contains-append_left, Contains-append_right}}
use Rattle.std.proofs.lemmas.List.Elements.{Contains-append_cases}
use Rattle.space_cert.{specs.Internal.SearchState.{mark_at, is_new, new_count, weight, new_weight, AreMarked, done_marks}, specs.declared.search.Mark.Mark}
use Rattle.space_cert.{specs.declared.search.Mark.TheVariants.{New, Entered, Done}, proofs.ContainsLaws.{contains_none, contains_first, contains_later}}
use Rattle.space_cert.proofs.ContainsLaws.{contains_cases}

-- what was new and is no more
pub count_set : (marks : List Mark) (p : ℕ) (m : Mark) → p < length marks → new_count (set marks p m) + is_new (mark_at marks p) ≡ new_count marks + is_new m
count_set [] p m lt = absurd (omega (arith, lt))
count_set (x ∷ marks) zero m lt = omega arith
count_set (x ∷ marks) (suc p) m lt = omega (arith, count_set marks p m (omega (arith, lt)))

pub weight_set : (marks : List Mark) (cs : List (List ℕ)) (p : ℕ) (m : Mark) → p < length marks → p < length cs
    → new_weight (set marks p m) cs + weight (mark_at marks p) (get_or cs p []) ≡ new_weight marks cs + weight m (get_or cs p [])
weight_set [] cs p m lt le = absurd (omega (arith, lt))
weight_set (x ∷ marks) [] p m lt le = absurd (omega (arith, le))
weight_set (x ∷ marks) (c ∷ cs) zero m lt le = omega arith
weight_set (x ∷ marks) (c ∷ cs) (suc p) m lt le = omega (arith, weight_set marks cs p m (omega (arith, lt)) (omega (arith, le)))

pub new_apart : {at : ℕ} → New ≡ Entered at → ⊥
new_apart e = cc

pub new_not_done : New ≡ Done → ⊥
new_not_done e = cc

entered_not_done : {at : ℕ} → Entered at ≡ Done → ⊥
entered_not_done e = cc

entered_same : {a b : ℕ} → Entered a ≡ Entered b → a ≡ b
entered_same {a} {b} e = ap place e
  where
    place : Mark → ℕ
    place New = 0
    place (Entered at) = at
    place Done = 0

-- a marked procedure is one of the source's
pub marked_below : (marks : List Mark) (p : ℕ) → (mark_at marks p ≡ New → ⊥) → p < length marks
marked_below marks p n = elim (cases_lt p (length marks)) [ inl h ↦ h | inr h ↦ absurd (n (get_or_past marks p New h)) ]

module _ (marks : List Mark) (entered done : List ℕ) (h : AreMarked marks entered done) where
  pub entered_mark : (p : ℕ) → Contains entered p → (at : ℕ) × (mark_at marks p ≡ Entered at)
  entered_mark p (k, lt, e) = (k, subst (λ x. mark_at marks x ≡ Entered k) (get_or_zero entered k p lt e) (h.places k lt))
    where
      get_or_zero : (xs : List ℕ) (k p : ℕ) → k < length xs → get_or xs k p ≡ p → get_or xs k 0 ≡ p
      get_or_zero [] k p lt e = absurd (omega (arith, lt))
      get_or_zero (x ∷ xs) zero p lt e = e
      get_or_zero (x ∷ xs) (suc k) p lt e = get_or_zero xs k p (omega (arith, lt)) e

  pub new_is : (p : ℕ) → mark_at marks p ≡ New → (Contains entered p → ⊥) × (Contains done p → ⊥)
  new_is p e = (λ k. apart (entered_mark p k), λ k. new_not_done (sym e ∙ h.finished p k))
    where
      apart : (at : ℕ) × (mark_at marks p ≡ Entered at) → ⊥
      apart (at, i) = new_apart (sym e ∙ i)

  pub not_both : (p : ℕ) → Contains entered p → Contains done p → ⊥
  not_both p k d = apart (entered_mark p k)
    where
      apart : (at : ℕ) × (mark_at marks p ≡ Entered at) → ⊥
      apart (at, i) = entered_not_done (sym i ∙ h.finished p d)

  -- a procedure is entered
  pub enters : (w : ℕ) → w < length marks → mark_at marks w ≡ New → AreMarked (set marks w (Entered (length entered))) (entered ++ w ∷ []) done
  enters w lt new = record {
    places = λ i l. elim (cases_eq i (length entered)) [
      | inl e ↦ subst (λ x. mark_at now x ≡ Entered i) (sym (ap (λ j. get_or (entered ++ w ∷ []) j 0) e ∙ get_or_push entered w 0 (length entered) refl))
          (get_or-set_same marks w (Entered (length entered)) New lt ∙ ap Entered (sym e))
      | inr n ↦
          let small : i < length entered = omega (arith, length_push) in
          let is = get_or_append_left entered (w ∷ []) 0 i small in
          ap (mark_at now) is ∙ (other (get_or entered i 0) (λ e. new_apart (sym new ∙ (ap (mark_at marks) (sym e) ∙ h.places i small))) ∙ h.places i small)
    ];
    finished = λ p k. other p (λ e. (new_is w new).1 (subst (Contains done) e k)) ∙ h.finished p k;
    entered_is = λ p at e. elim (cases_eq p w) [
      | inl i ↦
          let place : length entered ≡ at = entered_same (sym (get_or-set_same marks w (Entered (length entered)) New lt) ∙ (ap (mark_at now) (sym i) ∙ e)) in (
            omega (arith, length_push),
            ap (λ j. get_or (entered ++ w ∷ []) j 0) (sym place) ∙ (get_or_push entered w 0 (length entered) refl ∙ sym i),
          )
      | inr n ↦
          let old = h.entered_is p at (sym (other p n) ∙ e) in
          (omega (arith, length_push), get_or_append_left entered (w ∷ []) 0 at old.0 ∙ old.1)
    ];
    finished_is = λ p e. elim (cases_eq p w) [
      | inl i ↦ absurd (entered_not_done (sym (get_or-set_same marks w (Entered (length entered)) New lt) ∙ (ap (mark_at now) (sym i) ∙ e)))
      | inr n ↦ h.finished_is p (sym (other p n) ∙ e)
    ];
  }
    where
      now : List Mark
      now = set marks w (Entered (length entered))

      other : (p : ℕ) → (p ≡ w → ⊥) → mark_at now p ≡ mark_at marks p
      other p n = get_or-set_other marks w p (Entered (length entered)) New n

-- Marks of what is done.

pub done_marks-length : (ps : List ℕ) (marks : List Mark) → length (done_marks ps marks) ≡ length marks
done_marks-length [] marks = refl
done_marks-length (p ∷ ps) marks = length-set (done_marks ps marks) p Done ∙ done_marks-length ps marks

pub done_marks-push : (ps : List ℕ) (p : ℕ) (marks : List Mark) → done_marks (ps ++ p ∷ []) marks ≡ done_marks ps (set marks p Done)
done_marks-push [] p marks = refl
done_marks-push (x ∷ ps) p marks = ap (λ m. set m x Done) (done_marks-push ps p marks)

-- a mark afterwards
pub done_mark : (ps : List ℕ) (marks : List Mark) (p : ℕ) (m : Mark) → mark_at (done_marks ps marks) p ≡ m → (Contains ps p × (m ≡ Done))
    ⊎ (mark_at marks p ≡ m)
done_mark [] marks p m e = inr e
done_mark (x ∷ ps) marks p m e =
    elim (cases_eq p x) [
      | inl i ↦ elim (cases_lt x _) [
        | inl lt ↦ inl (
          subst (Contains (x ∷ ps)) (sym i) (contains_first x ps),
          sym e ∙ (ap (mark_at (set (done_marks ps marks) x Done)) i ∙ get_or-set_same _ x Done New lt),
        )
        | inr ge ↦ up (done_mark ps marks p m (sym (set_out (done_marks ps marks) x ge p) ∙ e))
      ]
      | inr n ↦ up (done_mark ps marks p m (sym (get_or-set_other (done_marks ps marks) x p Done New n) ∙ e))
    ]
  where
    up : (Contains ps p × (m ≡ Done)) ⊎ (mark_at marks p ≡ m) → (Contains (x ∷ ps) p × (m ≡ Done)) ⊎ (mark_at marks p ≡ m)
    up (inl (k, i)) = inl (contains_later x ps p k, i)
    up (inr i) = inr i

    set_out : (ms : List Mark) (x : ℕ) → length ms ≤ x → (p : ℕ) → mark_at (set ms x Done) p ≡ mark_at ms p
    set_out ms x ge p = ap (λ l. mark_at l p) (set_past ms x Done ge)

pub done_there : (ps : List ℕ) (marks : List Mark) (p : ℕ) → Contains ps p → p < length marks → mark_at (done_marks ps marks) p ≡ Done
done_there [] marks p k lt = absurd (contains_none k)
done_there (x ∷ ps) marks p k lt =
    elim (cases_eq p x) [
      | inl i ↦ ap (mark_at (set (done_marks ps marks) x Done)) i ∙ get_or-set_same _ x Done New (omega (arith, done_marks-length))
      | inr n ↦ elim (contains_cases x ps p k) [ inl e ↦ absurd (n (sym e)) | inr l ↦ get_or-set_other _ x p Done New n ∙ done_there ps marks p l lt ]
    ]

pub done_elsewhere : (ps : List ℕ) (marks : List Mark) (p : ℕ) → (Contains ps p → ⊥) → mark_at (done_marks ps marks) p ≡ mark_at marks p
done_elsewhere [] marks p n = refl
done_elsewhere (x ∷ ps) marks p n = get_or-set_other _ x p Done New (λ e. n (subst (Contains (x ∷ ps)) (sym e) (contains_first x ps)))
    ∙ done_elsewhere ps marks p (λ k. n (contains_later x ps p k))

-- nothing that was new is done
pub done_counts : (ps : List ℕ) (marks : List Mark) → ((p : ℕ) → Contains ps p → mark_at marks p ≡ New → ⊥) → new_count (done_marks ps marks) ≡ new_count marks
done_counts [] marks f = refl
done_counts (x ∷ ps) marks f = one (mark_at (done_marks ps marks) x) refl (done_counts ps marks (λ p k. f p (contains_later x ps p k)))
  where
    one : (m : Mark) → mark_at (done_marks ps marks) x ≡ m → new_count (done_marks ps marks) ≡ new_count marks
        → new_count (set (done_marks ps marks) x Done) ≡ new_count marks
    one New e h = absurd (f x (contains_first x ps) (elim (done_mark ps marks x New e) [ inl k ↦ absurd (new_not_done k.1) | inr i ↦ i ]))
    one (Entered at) e h = omega (arith, count_set _ x Done (marked_below (done_marks ps marks) x (λ i. new_apart (sym i ∙ e))), ap is_new e)
    one Done e h = omega (arith, h, count_set (done_marks ps marks) x Done (marked_below (done_marks ps marks) x (λ i. new_not_done (sym i ∙ e))), ap is_new e)

pub done_weighs : (ps : List ℕ) (marks : List Mark) (cs : List (List ℕ)) → length marks ≡ length cs
    → ((p : ℕ) → Contains ps p → mark_at marks p ≡ New → ⊥) → new_weight (done_marks ps marks) cs ≡ new_weight marks cs
done_weighs [] marks cs n f = refl
done_weighs (x ∷ ps) marks cs n f = one (mark_at (done_marks ps marks) x) refl (done_weighs ps marks cs n (λ p k. f p (contains_later x ps p k)))
  where
    one : (m : Mark) → mark_at (done_marks ps marks) x ≡ m → new_weight (done_marks ps marks) cs ≡ new_weight marks cs
        → new_weight (set (done_marks ps marks) x Done) cs ≡ new_weight marks cs
    one New e h = absurd (f x (contains_first x ps) (elim (done_mark ps marks x New e) [ inl k ↦ absurd (new_not_done k.1) | inr i ↦ i ]))
    one (Entered at) e h =
        let lt = marked_below (done_marks ps marks) x (λ i. new_apart (sym i ∙ e)) in
        omega (arith, weight_set (done_marks ps marks) cs x Done lt (omega (arith, lt, n, done_marks-length ps marks)), ap (λ m. weight m (get_or cs x [])) e)
    one Done e h =
        let lt = marked_below (done_marks ps marks) x (λ i. new_not_done (sym i ∙ e)) in
        omega (arith, weight_set (done_marks ps marks) cs x Done lt (omega (arith, lt, n, done_marks-length ps marks)), ap (λ m. weight m (get_or cs x [])) e)

-- the entered ones from a place on are done
module _ (marks : List Mark) (entered done : List ℕ) (first : ℕ) (h : AreMarked marks entered done) where
  -- an entered one from the place on stands there
  from_there : (p at : ℕ) → mark_at marks p ≡ Entered at → Contains (drop first entered) p → first ≤ at
  from_there p at e (k, lt, i) =
      let small : first + k < length entered = omega (arith, lt, length-drop first entered) in
      let is : get_or entered (first + k) 0 ≡ p = sym (get_or_default entered (first + k) p 0 small) ∙ (sym (get_or-drop first entered k p) ∙ i) in
      let same : first + k ≡ at = entered_same (sym (h.places (first + k) small) ∙ (ap (mark_at marks) is ∙ e)) in
      omega (arith, same)

  pub drop_there : (at : ℕ) → at < length entered → first ≤ at → Contains (drop first entered) (get_or entered at 0)
  drop_there at lt le =
      let d = get_or-drop first entered (at - first) (get_or entered at 0) in
      let e : first + (at - first) ≡ at = omega arith in (
        at - first,
        omega (arith, length-drop first entered),
        d ∙ (ap (λ j. get_or entered j (get_or entered at 0)) e ∙ get_or_default entered at (get_or entered at 0) 0 lt),
      )

  pub take_there : (at : ℕ) → at < length entered → at < first → Contains (take first entered) (get_or entered at 0)
  take_there at lt small = (
    at,
    omega (arith, length-take first entered),
    get_or-take first entered at (get_or entered at 0) small ∙ get_or_default entered at (get_or entered at 0) 0 lt,
  )

  pub leaves : first ≤ length entered → AreMarked (done_marks (drop first entered) marks) (take first entered) (drop first entered ++ done)
  leaves le = record {
    places = λ i lt.
        let small : i < first = omega (arith, length-take first entered) in
        let there : i < length entered = omega arith in
        let is = get_or-take first entered i 0 small in
        ap (mark_at _) is ∙ (done_elsewhere (drop first entered) marks _ (λ k. absurd (omega (arith, from_there _ i (h.places i there) k))) ∙ h.places i there);
    finished = λ p k. elim (Contains-append_cases _ done p k) [
      | inl d ↦ done_there _ marks p d (member_below p d)
      | inr d ↦ done_elsewhere _ marks p (λ i. not_both marks entered done h p (dropped p i) d) ∙ h.finished p d
    ];
    entered_is = λ p at e. elim (done_mark (drop first entered) marks p _ e) [
      | inl k ↦ absurd (entered_not_done k.1)
      | inr i ↦ old p at i (h.entered_is p at i) e
    ];
    finished_is = λ p e. elim (done_mark (drop first entered) marks p Done e) [
      | inl k ↦ Contains-append_left _ done p k.0
      | inr i ↦ Contains-append_right _ done p (h.finished_is p i)
    ];
  }
    where
      dropped : (p : ℕ) → Contains (drop first entered) p → Contains entered p
      dropped p (k, lt, i) = (first + k, omega (arith, lt, length-drop first entered), sym (get_or-drop first entered k p) ∙ i)

      member_below : (p : ℕ) → Contains (drop first entered) p → p < length marks
      member_below p k = marked_below marks p (λ e. (new_is marks entered done h p e).0 (dropped p k))

      old : (p at : ℕ) → mark_at marks p ≡ Entered at → (at < length entered) × (get_or entered at 0 ≡ p)
          → mark_at (done_marks (drop first entered) marks) p ≡ Entered at → (at < length (take first entered)) × (get_or (take first entered) at 0 ≡ p)
      old p at m (lt, is) e = elim (cases_lt at first) [
        | inl small ↦ (omega (arith, length-take first entered), get_or-take first entered at 0 small ∙ is)
        | inr ge ↦ absurd (entered_not_done (sym e ∙ done_there (drop first entered) marks p
            (subst (Contains (drop first entered)) is (drop_there at lt ge)) (marked_below marks p (λ i. new_apart (sym i ∙ m)))))
      ]
