-- Options, one after the other.
use Rattle.std.specs.Prelude.{Bool, true, false, Option, Some, None}

-- what is there goes on to the next step
infixl 10 ◌>>=◌
abbrev pub ◌>>=◌ : {A B : Type 0} → Option A → (A → Option B) → Option B
(Some x) >>= go = go x
None >>= go = None

-- what is known, or else the value where the test holds
abbrev pub first_or : {V : Type 0} → Option V → Bool → V → Option V
first_or (Some known) test value = Some known
first_or None true value = Some value
first_or None false value = None
