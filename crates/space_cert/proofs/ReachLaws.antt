-- Which procedures are reached is computed, procedure after procedure.
use Rattle.std.{proofs.Common.{◌≡◌, ℕ, zero, suc, ◌<◌, true, ◌&&◌, ◌==◌, List, [], ◌∷◌, ◌⊎◌, inl, inr, subst, arith}, proofs.lemmas.Bool.{cases_eq, eqb-true}}
use Rattle.std.{proofs.lemmas.Bool.{eq-eqb, or_cases, or_left, or_right, and_from, and_parts}, proofs.lemmas.List.Elements.All-contains, specs.List.All}
use Rattle.std.specs.List.{Contains, list_any}
use Rattle.space_cert.{specs.Reaches.{Reaches, Directly, Further}, specs.Certified.reaches_below, proofs.ContainsLaws.{contains_none, contains_first}}
use Rattle.space_cert.proofs.ContainsLaws.{contains_later, contains_cases}

any_there : (r : ℕ) (cs : List ℕ) → list_any (λ c. c == r) cs ≡ true → Contains cs r
any_there r [] h = absurd cc
any_there r (c ∷ cs) h =
    elim (or_cases (c == r) _ h) [
      | inl e ↦ subst (Contains (c ∷ cs)) (eqb-true c r e) (contains_first c cs)
      | inr k ↦ contains_later c cs r (any_there r cs k)
    ]

there_any : (r : ℕ) (cs : List ℕ) → Contains cs r → list_any (λ c. c == r) cs ≡ true
there_any r [] k = absurd (contains_none k)
there_any r (c ∷ cs) k = elim (contains_cases c cs r k) [ inl e ↦ or_left (c == r) _ (eq-eqb c r e) | inr l ↦ or_right (c == r) _ (there_any r cs l) ]

module _ (calls : ℕ → List ℕ) where
  abbrev Computed : ℕ → ℕ → ℕ → Type 0
  Computed n p r = reaches_below calls n p r ≡ true

  starts : (p r : ℕ) → Contains (calls p) r → Computed zero p r
  unfolding reaches_below
  starts p r k = there_any r (calls p) k

  started : (p r : ℕ) → Computed zero p r → Contains (calls p) r
  unfolding reaches_below
  started p r h = any_there r (calls p) h

  rises : (n p r : ℕ) → Computed n p r → Computed (suc n) p r
  unfolding reaches_below
  rises n p r h = or_left (reaches_below calls n p r) (reaches_below calls n p n && reaches_below calls n n r) h

  joins : (n p r : ℕ) → Computed n p n → Computed n n r → Computed (suc n) p r
  unfolding reaches_below
  joins n p r h g = or_right _ _ (and_from (reaches_below calls n p n) (reaches_below calls n n r) h g)

  splits : (n p r : ℕ) → Computed (suc n) p r → Computed n p r ⊎ (Computed n p n × Computed n n r)
  unfolding reaches_below
  splits n p r h = elim (or_cases _ _ h) [ inl a ↦ inl a | inr b ↦ inr (and_parts (reaches_below calls n p n) (reaches_below calls n n r) b) ]

  -- what is computed is reached

  pub reached_by : (p n r : ℕ) → Reaches calls p n → Reaches calls n r → Reaches calls p r
  reached_by p n r h (Directly g) = Further h g
  reached_by p n r h (Further {r = s} k g) = Further (reached_by p n s h k) g

  pub computed_reached : (n p r : ℕ) → Computed n p r → Reaches calls p r
  computed_reached zero p r h = Directly (started p r h)
  computed_reached (suc n) p r h =
      elim (splits n p r h) [
        | inl a ↦ computed_reached n p r a
        | inr b ↦ reached_by p n r (computed_reached n p n b.0) (computed_reached n n r b.1)
      ]

  -- what is reached is computed

  through : (n p s r : ℕ) → s < n → Computed n p s → Computed n s r → Computed n p r
  through zero p s r lt h g = absurd (omega arith)
  through (suc n) p s r lt h g =
      elim (cases_eq s n) [
        | inl e ↦ joins n p r (to (subst (λ x. Computed (suc n) p x) e h)) (from (subst (λ x. Computed (suc n) x r) e g))
        | inr d ↦ elim (splits n p s h) [
          | inl a ↦ elim (splits n s r g) [
            | inl b ↦ rises n p r (through n p s r (omega arith) a b)
            | inr b ↦ joins n p r (through n p s n (omega arith) a b.0) b.1
          ]
          | inr a ↦ elim (splits n s r g) [ inl b ↦ joins n p r a.0 (through n n s r (omega arith) a.1 b) | inr b ↦ joins n p r a.0 b.1 ]
        ]
      ]
    where
      to : Computed (suc n) p n → Computed n p n
      to k = elim (splits n p n k) [ inl a ↦ a | inr b ↦ b.0 ]

      from : Computed (suc n) n r → Computed n n r
      from k = elim (splits n n r k) [ inl a ↦ a | inr b ↦ b.1 ]

  direct : (n p r : ℕ) → Contains (calls p) r → Computed n p r
  direct zero p r k = starts p r k
  direct (suc n) p r k = rises n p r (direct n p r k)

  module _ (n : ℕ) (below : (p : ℕ) → All (λ r. r < n) (calls p)) where
    pub reached_below : (p r : ℕ) → Reaches calls p r → r < n
    reached_below p r (Directly k) = All-contains (λ r. r < n) (calls p) r (below p) k
    reached_below p r (Further {r = s} h k) = All-contains (λ r. r < n) (calls s) r (below s) k

    pub reached_computed : (p r : ℕ) → Reaches calls p r → Computed n p r
    reached_computed p r (Directly k) = direct n p r k
    reached_computed p r (Further {r = s} h k) = through n p s r (reached_below p s h) (reached_computed p s h) (direct n s r k)
