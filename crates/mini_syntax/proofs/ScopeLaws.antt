-- The table of variables, one declaration after the other.
use Rattle.std.proofs.Common.{◌≡◌, ℕ, suc, ◌+◌, List, [], ◌∷◌, ◌++◌, length, Option, Some, None, true, false, cond, refl, sym, ap, ◌∙◌, arith}
use Rattle.std.specs.Str.{bytes_eq}
use Rattle.std.specs.Prelude as std
use Rattle.mini_syntax.{specs.Breaches.{named_from, variable_named}, specs.declared.program.Declared.Declared, specs.declared.scope.Variable.Variable}
use Rattle.stack_text.specs.Options.{first_or}

-- one declaration more
named_from-push : (n : ℕ) (ds : List Declared) (d : Declared) (name : List ℕ) → named_from n (ds ++ d ∷ []) name
    ≡ first_or (named_from n ds name) (bytes_eq name d.name) record { index = n + length ds; sort = d.sort }
named_from-push n [] d name = by_test (bytes_eq name d.name)
  where
    by_test : (b : std.Bool) → cond {A = Option Variable} b (Some record { index = n; sort = d.sort }) None
        ≡ first_or {V = Variable} None b record { index = n + 0; sort = d.sort }
    by_test true = let e : n ≡ n + 0 = omega arith in ap (λ (i : ℕ). Some record { index = i; sort = d.sort }) e
    by_test false = refl
named_from-push n (c ∷ ds) d name = by_test (bytes_eq name c.name) (named_from-push (n + 1) ds d name)
  where
    by_test : (b : std.Bool) → named_from (n + 1) (ds ++ d ∷ []) name ≡ first_or (named_from (n + 1) ds name) (bytes_eq name d.name)
        record { index = n + 1 + length ds; sort = d.sort } →
        cond {A = Option Variable} b (Some record { index = n; sort = c.sort }) (named_from (n + 1) (ds ++ d ∷ []) name)
        ≡ first_or (cond {A = Option Variable} b (Some record { index = n; sort = c.sort }) (named_from (n + 1) ds name)) (bytes_eq name d.name)
        record { index = n + suc (length ds); sort = d.sort }
    by_test true h = refl
    by_test false h =
        let counted : n + 1 + length ds ≡ n + suc (length ds) = omega arith in
        h ∙ ap (λ (i : ℕ). first_or (named_from (n + 1) ds name) (bytes_eq name d.name) record { index = i; sort = d.sort }) counted

-- the table has one declaration more
pub knows_more : (known more : List ℕ → Option Variable) (ds after : List Declared) (d : Declared) (index : ℕ)
    → ((name : List ℕ) → known name ≡ variable_named ds name) → index ≡ length ds →
    ((name : List ℕ) → more name ≡ first_or (known name) (bytes_eq name d.name) record { index = index; sort = d.sort }) → after ≡ ds ++ d ∷ []
    → (name : List ℕ) → more name ≡ variable_named after name
knows_more known more ds after d index so_far count entered pushed name =
    let at : index ≡ 0 + length ds = omega (arith, count) in
    entered name ∙ ap (λ (o : Option Variable). first_or o (bytes_eq name d.name) record { index = index; sort = d.sort }) (so_far name)
    ∙ ap (λ (i : ℕ). first_or (variable_named ds name) (bytes_eq name d.name) record { index = i; sort = d.sort }) at
    ∙ sym (named_from-push 0 ds d name) ∙ ap (λ (x : List Declared). variable_named x name) (sym pushed)
