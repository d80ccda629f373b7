-- Fields, each of which is read at the beginning of what is left of a file, or is the first fault.
use Rattle.std.specs.Prelude.{ℕ, zero, suc, ◌-◌, List, [], ◌∷◌, ◌++◌, length, take, drop, Ok, Err, Bool, nat_lt, nat_le, ◌&&◌}
use Rattle.std.specs.{Prelude.{if◌then◌else◌}, Int.{w32, from_be_bytes}}
use Rattle.stack_text.specs.{SharedLimits.{most_name_bytes}, Results.{◌>>=◌}}
use Rattle.fm_image.specs.{declared.fault.Rule.{Rule}, Rules.{rule_number, Parser}}
use Rattle.fm_image.specs.declared.fault.Rule.TheVariants as rules

-- where the field begins that is first in what is left of a file that ends at a place
abbrev pub place : ℕ → List ℕ → ℕ
place end left = end - length left

-- four bytes, highest first; a file that ends within them is truncated, at its end
abbrev pub number_at : ℕ → Parser ℕ
number_at end left =
    if nat_lt (length left) 4 then Err (rule_number rules.Truncated, end) else Ok (from_be_bytes w32 (take 4 left), drop 4 left)

-- a field whose value has to pass a test, or breaks a rule at its place
abbrev pub passing : {A : Type 0} → (A → Bool) → Rule → ℕ → Parser A → Parser A
passing test rule end field left = field left >>= λ x. if test x.0 then Ok x else Err (rule_number rule, place end left)

-- so many bytes
abbrev pub bytes_at : ℕ → ℕ → Parser (List ℕ)
bytes_at end count left =
    if nat_lt (length left) count then Err (rule_number rules.Truncated, end) else Ok (take count left, drop count left)

abbrev pub is_name_length : ℕ → Bool
is_name_length n = nat_le 1 n && nat_le n most_name_bytes

-- a length and so many bytes
abbrev pub text_at : ℕ → Parser (List ℕ)
text_at end left = passing is_name_length rules.Name end (number_at end) left >>= λ count. bytes_at end count.0 count.1

-- so many items, after those that were read before
unfoldable pub items_at : {A : Type 0} → (List A → Parser A) → ℕ → List A → Parser (List A)
items_at item zero earlier left = Ok (earlier, left)
items_at item (suc n) earlier left = item earlier left >>= λ next. items_at item n (earlier ++ next.0 ∷ []) next.1
