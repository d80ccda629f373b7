-- Steps one after the other, each of which may have no value.
use Rattle.std.proofs.Common.{◌≡◌, Option, Some, None, refl}
use Rattle.stack_text.specs.Options.{◌>>=◌}

-- where the whole came to a value, so did its first step, and the second from there
pub bind_some : {A B : Type 0} (o : Option A) (go : A → Option B) (y : B) → (o >>= go) ≡ Some y → (x : A) × (o ≡ Some x) × (go x ≡ Some y)
bind_some (Some x) go y h = (x, refl, h)
bind_some None go y h = absurd cc
