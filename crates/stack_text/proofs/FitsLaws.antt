-- What a value fits doesn't count its places.
use Rattle.std.{proofs.Common.{List, [], ◌∷◌, map, All}, proofs.lemmas.List.Elements.{All-nil, All-cons, All-head, All-tail}}
use Rattle.stack_text.{specs.declared.name.Named.Named, specs.Grammar.Parts.IsNamed, specs.Grammar.Printed.unplaced_name}

pub all_under : {X : Type 0} (P : X → Type 0) (f : X → X) → ((x : X) → P (f x) → P x) → (xs : List X) → All P (map f xs) → All P xs
all_under P f back [] h = All-nil P
all_under P f back (x ∷ xs) h = All-cons P x xs (back x (All-head P (f x) (map f xs) h)) (all_under P f back xs (All-tail P (f x) (map f xs) h))

pub placed_names : (ns : List Named) → All IsNamed (map unplaced_name ns) → All IsNamed ns
placed_names = all_under IsNamed unplaced_name (λ n h. h)
