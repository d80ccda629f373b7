-- What the flags say of a word that was moved, and of a difference.
use Rattle.std.specs.Prelude.{ℕ, ◌^◌, ◌==◌, nat_le, false}
use Rattle.fm_words.specs.{declared.operation.Op.TheVariants.{Sub}, declared.operation.AluOut.{AluOut}, declared.condition.Flags.{Flags}}
use Rattle.fm_words.specs.Alu.{alu_of}

-- all four flags of a result
abbrev pub flags_of_result : AluOut → Flags
flags_of_result out = record { c = out.c; v = out.v; n = nat_le (2 ^ 31) out.word; z = out.word == 0 }

-- the flags of the word x, after it was moved
abbrev pub flags_of_word : ℕ → Flags
flags_of_word x = record { c = false; v = false; n = nat_le (2 ^ 31) x; z = x == 0 }

-- the flags of s - t
abbrev pub flags_of_difference : ℕ → ℕ → Flags
flags_of_difference s t = flags_of_result (alu_of Sub false t s)
