-- Worked rows of the product.
use Rattle.std.specs.Prelude.{◌≡◌, ℤ, pos, negsuc, [], ◌∷◌}
use Rattle.gypsy_syntax.specs.declared.predef.Predef.TheVariants as row
use Rattle.gypsy_syntax.specs.{Predefined.{predef_effect}, Effects.{Effect, Normal, Fault, integer_value}}

-- what `(mg-integer-multiply x x y)` does
abbrev pub product_of : ℤ → ℤ → Effect
product_of x y = predef_effect row.MgIntegerMultiply (integer_value x ∷ integer_value x ∷ integer_value y ∷ [])

-- 46341 times -46341 doesn't fit; -65536 times 32768 is the least number; 2147483647 times -1 fits, -2147483648 times -1 doesn't
pub record ProductRows : Type 0 where
  pub below : product_of (pos 46341) (negsuc 46340) ≡ Fault
  pub least : product_of (negsuc 65535) (pos 32768) ≡ Normal (integer_value (negsuc 2147483647))
  pub greatest_turned : product_of (pos 2147483647) (negsuc 0) ≡ Normal (integer_value (negsuc 2147483646))
  pub least_turned : product_of (negsuc 2147483647) (negsuc 0) ≡ Fault
