-- What an empty list of breaches says of its parts.
use Rattle.std.proofs.Common.{◌≡◌, List, [], ◌∷◌, ◌++◌, refl}
use Rattle.stack_text.specs.declared.breach.Breach.{Breach}

pub two : (a b : List Breach) → a ++ b ≡ [] → (a ≡ []) × (b ≡ [])
two [] b e = (refl, e)
two (x ∷ a) b e = cc

pub three : (a b c : List Breach) → a ++ (b ++ c) ≡ [] → (a ≡ []) × (b ≡ []) × (c ≡ [])
three a b c e = let h = two a (b ++ c) e in let k = two b c h.1 in (h.0, k.0, k.1)
