-- The numbers that items of each kind can be.
use Rattle.std.specs.Prelude.{ℤ, pos, negsuc, ◌^◌, Bool, false, ◌==◌, ◌||◌, nat_lt, nat_le}
use Rattle.stack_text.specs.{declared.shape.Kind.{Kind}, declared.shape.Kind.TheVariants.{Integer, Boolean, Character}}

-- a signed number of 32 bits; 0 or 1; or 0 to 127
abbrev pub is_in_range : Kind → ℤ → Bool
is_in_range Integer (pos n) = nat_lt n (2 ^ 31)
is_in_range Integer (negsuc n) = nat_lt n (2 ^ 31)
is_in_range Boolean (pos n) = n == 0 || n == 1
is_in_range Boolean (negsuc n) = false
is_in_range Character (pos n) = nat_le n 127
is_in_range Character (negsuc n) = false
