use Rattle.std.proofs.Common.{rules, ◌≡◌, ◌∙◌, sym, ap, map, find, bytes_eq, option_map, ℕ, List, Vec, Global, Option, Some, None, Bor}
use Rattle.display_maps.{specs.declared.shown.Shown.Shown, proofs.ItemLaws.items_found}
use Rattle.display_maps.proofs.reading.Reading.items_of.Goals as goal

pub returns-in-Some : goal.returns-in-Some
returns-in-Some c =
    let name : List ℕ = c.args.name.now in
    let variables : List (List ℕ × Vec Shown Global) = c.self.inside.items.items in
    let view : map (λ (v : List ℕ × Vec Shown Global). (v.0, v.1.items)) c.self.inside.items.items ≡ c.args.self.now.items = search rules in
    let items : c.as_slice.result.now ≡ c.in-Some.field-0.now.1.items = search rules in
    let is : Some c.in-Some.field-0.now ≡ find (λ (v : List ℕ × Vec Shown Global). bytes_eq v.0 name) variables =
    sym (ap (λ (o : Option (Bor (List ℕ × Vec Shown Global))). option_map (λ (v : Bor (List ℕ × Vec Shown Global)). v.now) o) c.in-Some.is)
    ∙ c.first_named.ensures
    ∙ ap (λ (vs : List (List ℕ × Vec Shown Global)). find (λ (v : List ℕ × Vec Shown Global). bytes_eq v.0 name) vs) c.deref.ensures.value in
    ap (λ (xs : List Shown). Some xs) items ∙ items_found name variables c.args.self.now.items (Some c.in-Some.field-0.now) view is

pub returns-in-None : goal.returns-in-None
returns-in-None c =
    let name : List ℕ = c.args.name.now in
    let variables : List (List ℕ × Vec Shown Global) = c.self.inside.items.items in
    let view : map (λ (v : List ℕ × Vec Shown Global). (v.0, v.1.items)) c.self.inside.items.items ≡ c.args.self.now.items = search rules in
    let is : None ≡ find (λ (v : List ℕ × Vec Shown Global). bytes_eq v.0 name) variables =
    sym (ap (λ (o : Option (Bor (List ℕ × Vec Shown Global))). option_map (λ (v : Bor (List ℕ × Vec Shown Global)). v.now) o) c.in-None.is)
    ∙ c.first_named.ensures
    ∙ ap (λ (vs : List (List ℕ × Vec Shown Global)). find (λ (v : List ℕ × Vec Shown Global). bytes_eq v.0 name) vs) c.deref.ensures.value in
    items_found name variables c.args.self.now.items None view is
