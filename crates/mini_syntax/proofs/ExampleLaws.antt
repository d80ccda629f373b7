-- Worked texts.
use Rattle.std.proofs.Common.{refl}
use Rattle.mini_syntax.{specs.Examples.TextsAre, specs.Tokens.tokens}

pub texts_are : TextsAre
unfolding tokens
texts_are = record { tokens = refl; program = refl; refused = refl }
