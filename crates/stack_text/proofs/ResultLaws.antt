-- Steps one after the other, each of which may fail.
use Rattle.std.proofs.Common.{◌≡◌, Result, Ok, Err, refl, ap}
use Rattle.stack_text.specs.Results.{◌>>=◌}

-- where the whole came to a value, so did its first step, and the second from there
pub bind_ok : {A B F : Type 0} (r : Result A F) (go : A → Result B F) (y : B) → (r >>= go) ≡ Ok y → (x : A) × (r ≡ Ok x) × (go x ≡ Ok y)
bind_ok (Ok x) go y h = (x, refl, h)
bind_ok (Err fault) go y h = absurd cc

-- after a step that came to a value
pub bind_at : {A B F : Type 0} (r : Result A F) (go : A → Result B F) (x : A) → r ≡ Ok x → (r >>= go) ≡ go x
bind_at {A} {B} {F} r go x e = ap (λ (s : Result A F). s >>= go) e
