-- A text has at most one fault of its tokens, and none where it is a program's whose tokens break no rule.
use Rattle.std.proofs.Common.{◌≡◌, inl, inr, ℕ, ◌≤◌, List, [], ◌∷◌, ◌++◌, refl, sym, ap, subst, ◌∙◌, arith}
use Rattle.mini_syntax.{specs.Faults.{AreFree, BreaksAt, BreaksFirst, IsTextFault}, specs.Grammar.{IsProgram, InfixProgram}, specs.Tokens.{Token, place_of}}
use Rattle.mini_syntax.specs.Tokens.{tokens_in}

-- two tokens of one list are the same, or one of them comes first
data Order (a b : List Token) (t u : Token) : Type 0 where
  here : a ≡ b → t ≡ u → Order a b t u
  first : (rest : List Token) → b ≡ a ++ t ∷ rest → Order a b t u
  second : (rest : List Token) → a ≡ b ++ u ∷ rest → Order a b t u

front : (v w : Token) (a b : List Token) (t u : Token) → v ≡ w → Order a b t u → Order (v ∷ a) (w ∷ b) t u
front v w a b t u e (here p q) = let whole : v ∷ a ≡ w ∷ b = cc in here whole q
front v w a b t u e (first rest p) = let whole : w ∷ b ≡ (v ∷ a) ++ t ∷ rest = cc in first rest whole
front v w a b t u e (second rest p) = let whole : v ∷ a ≡ (w ∷ b) ++ u ∷ rest = cc in second rest whole

order : (a b x y : List Token) (t u : Token) → a ++ t ∷ x ≡ b ++ u ∷ y → Order a b t u
order [] [] x y t u e = let heads : t ≡ u = cc in here refl heads
order [] (w ∷ b) x y t u e = let whole : w ∷ b ≡ t ∷ b = cc in first b whole
order (v ∷ a) [] x y t u e = let whole : v ∷ a ≡ u ∷ a = cc in second a whole
order (v ∷ a) (w ∷ b) x y t u e =
    let heads : v ≡ w = cc in
    let tails : a ++ t ∷ x ≡ b ++ u ∷ y = cc in
    front v w a b t u heads (order a b x y t u tails)

module _ (text : List ℕ) where
  two_breaks : (r p s q : ℕ) → BreaksFirst text r p → BreaksFirst text s q → (r ≡ s) × (p ≡ q)
  two_breaks r p s q f g = pick (order f.before g.before f.after g.after f.token g.token (sym f.parts ∙ g.parts))
    where
      pick : Order f.before g.before f.token g.token → (r ≡ s) × (p ≡ q)
      pick (here e h) =
          let low : r ≤ s = f.least s (subst (λ x. BreaksAt f.before x s) (sym h) (subst (λ x. BreaksAt x g.token s) (sym e) g.breaks)) in
          let high : s ≤ r = g.least r (subst (λ x. BreaksAt g.before x r) h (subst (λ x. BreaksAt x f.token r) e f.breaks)) in
          (omega (arith, low, high), f.at ∙ ap place_of h ∙ sym g.at)
      pick (first rest e) = absurd (g.free f.before f.token rest r e f.breaks)
      pick (second rest e) = absurd (f.free g.before g.token rest s e g.breaks)

  broken : (r p : ℕ) → BreaksFirst text r p → AreFree (tokens_in text) → ⊥
  broken r p f free = free f.before f.token f.after r f.parts f.breaks

  pub one : (r p s q : ℕ) → IsTextFault text r p → IsTextFault text s q → (r ≡ s) × (p ≡ q)
  one r p s q (inl f) (inl g) = two_breaks r p s q f g
  one r p s q (inl f) (inr g) = absurd (broken r p f g.free)
  one r p s q (inr f) (inl g) = absurd (broken s q g f.free)
  one r p s q (inr f) (inr g) = (f.rule_is ∙ sym g.rule_is, f.at ∙ sym g.at)

  pub none : (r p : ℕ) (q : InfixProgram) → AreFree (tokens_in text) → IsProgram text q → IsTextFault text r p → ⊥
  none r p q free is (inl f) = broken r p f free
  none r p q free is (inr f) = f.no_program q is
