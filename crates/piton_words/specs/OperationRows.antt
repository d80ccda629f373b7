-- The rows of the word operations, on the third word, the second and the top.
use Rattle.std.specs.Prelude.{ℕ, ◌*◌, ◌-◌, ◌^◌, ◌/◌, ◌%◌, ℤ, pos, negsuc, ◌+ℤ◌, ◌-ℤ◌, ◌*ℤ◌, List, get_or, Result, Ok, Err, Bool, false, not}
use Rattle.std.specs.{Prelude.{◌&&◌, ◌||◌, ◌==◌, nat_lt, int_lt, unsigned_abs, bit_and, bit_or, bit_xor}, Int.{w32, from_bool as bit}}
use Rattle.std.specs.Int.{cast_signed}
use Rattle.fm_words.specs.{Word.{is_int, is_nat, wrapped, are_same_ints}, Alu.{are_same as are_same_bools}}
use Rattle.piton_words.specs.{declared.word.Word.{Word}, declared.word.Word.TheVariants.{Int, Nat, Bitv, Bool as Truth, Addr, Pc, Subr}}
use Rattle.piton_words.specs.{declared.op.WordOp.{WordOp}, declared.outcome.Outcome.{Outcome}, declared.outcome.Outcome.TheVariants.{One}}
use Rattle.piton_words.specs.{declared.outcome.Outcome.TheVariants.{Two}, declared.outcome.WordError.{WordError}}
use Rattle.piton_words.specs.{declared.outcome.WordError.TheVariants.{Tag}, Views.{int_of, nat_of, bitv_of, bool_of, addr_of, where_true}}
use Rattle.piton_words.specs.declared.op.WordOp.TheVariants as op
use Rattle.stack_text.specs.Results.{◌>>=◌}

-- an exact number as a word, where it is in range
abbrev pub int_word : ℤ → Result Outcome WordError
int_word i = where_true (is_int i) (Ok (One (Int i)))

abbrev pub nat_word : ℤ → Result Outcome WordError
nat_word i = where_true (is_nat i) (Ok (One (Nat (unsigned_abs i))))

abbrev pub bitv_word : ℕ → Result Outcome WordError
bitv_word bits = Ok (One (Bitv bits))

abbrev pub bool_word : Bool → Result Outcome WordError
bool_word b = Ok (One (Truth b))

-- whether an exact number is out of range, and then what 32 bits keep of it
abbrev pub int_carried : ℤ → Result Outcome WordError
int_carried i = Ok (Two (Truth (not (is_int i))) (Int (cast_signed w32 (wrapped i))))

abbrev pub nat_carried : ℤ → Result Outcome WordError
nat_carried i = Ok (Two (Truth (not (is_nat i))) (Nat (wrapped i)))

-- a truth value as 0 or 1
abbrev pub carry : Bool → ℤ
carry b = pos (bit b)

-- an offset in an area, where the area has such a word
abbrev pub is_offset : List ℕ → ℕ → ℤ → Bool
is_offset areas area (pos offset) = nat_lt offset (get_or areas area 0)
is_offset areas area (negsuc n) = false

abbrev pub addr_word : List ℕ → ℕ → ℤ → Result Outcome WordError
addr_word areas area offset = where_true (is_offset areas area offset) (Ok (One (Addr area (unsigned_abs offset))))

-- whether two words of one tag are the same
abbrev pub are_same : Word → Word → Result Bool WordError
are_same (Int s) (Int t) = Ok (are_same_ints s t)
are_same (Nat s) (Nat t) = Ok (s == t)
are_same (Bitv s) (Bitv t) = Ok (s == t)
are_same (Truth s) (Truth t) = Ok (are_same_bools s t)
are_same (Addr area offset) (Addr area' offset') = Ok (area == area' && offset == offset')
are_same (Pc program place) (Pc program' place') = Ok (program == program' && place == place')
are_same (Subr program) (Subr program') = Ok (program == program')
are_same s t = Err Tag

-- the second and the top, looked at from the top
abbrev pub ints : Word → Word → (ℤ → ℤ → Result Outcome WordError) → Result Outcome WordError
ints second top row = int_of top >>= λ t. int_of second >>= λ s. row s t

abbrev pub nats : Word → Word → (ℕ → ℕ → Result Outcome WordError) → Result Outcome WordError
nats second top row = nat_of top >>= λ t. nat_of second >>= λ s. row s t

abbrev pub bitvs : Word → Word → (ℕ → ℕ → Result Outcome WordError) → Result Outcome WordError
bitvs second top row = bitv_of top >>= λ t. bitv_of second >>= λ s. row s t

abbrev pub bools : Word → Word → (Bool → Bool → Result Outcome WordError) → Result Outcome WordError
bools second top row = bool_of top >>= λ t. bool_of second >>= λ s. row s t

-- one row for each operation
abbrev pub row_of : WordOp → Word → Word → Word → List ℕ → Result Outcome WordError
row_of op.Eq third second top areas = are_same second top >>= bool_word
row_of op.AddInt third second top areas = ints second top (λ s t. int_word (s +ℤ t))
row_of op.AddNat third second top areas = nats second top (λ s t. nat_word (pos s +ℤ pos t))
row_of op.SubInt third second top areas = ints second top (λ s t. int_word (s -ℤ t))
row_of op.SubNat third second top areas = nats second top (λ s t. nat_word (pos s -ℤ pos t))
row_of op.AddAddr third second top areas =
    nat_of top >>= λ t. addr_of second >>= λ s. addr_word areas s.0 (pos s.1 +ℤ pos t)
row_of op.SubAddr third second top areas =
    nat_of top >>= λ t. addr_of second >>= λ s. addr_word areas s.0 (pos s.1 -ℤ pos t)
row_of op.LtInt third second top areas = ints second top (λ s t. bool_word (int_lt s t))
row_of op.LtNat third second top areas = nats second top (λ s t. bool_word (nat_lt s t))
row_of op.LtAddr third second top areas =
    addr_of top >>= λ t. addr_of second >>= λ s. where_true (s.0 == t.0) (bool_word (nat_lt s.1 t.1))
row_of op.Add1Int third second top areas = int_of top >>= λ t. int_word (t +ℤ pos 1)
row_of op.Add1Nat third second top areas = nat_of top >>= λ t. nat_word (pos t +ℤ pos 1)
row_of op.Sub1Int third second top areas = int_of top >>= λ t. int_word (t -ℤ pos 1)
row_of op.Sub1Nat third second top areas = nat_of top >>= λ t. nat_word (pos t -ℤ pos 1)
row_of op.NegInt third second top areas = int_of top >>= λ t. int_word (pos 0 -ℤ t)
row_of op.IntToNat third second top areas = int_of top >>= λ t. nat_word t
row_of op.Mult2Nat third second top areas = nat_of top >>= λ t. nat_word (pos 2 *ℤ pos t)
row_of op.AddIntWithCarry third second top areas =
    ints second top (λ s t. bool_of third >>= λ u. int_carried (s +ℤ t +ℤ carry u))
row_of op.AddNatWithCarry third second top areas =
    nats second top (λ s t. bool_of third >>= λ u. nat_carried (pos s +ℤ pos t +ℤ carry u))
row_of op.SubIntWithCarry third second top areas =
    ints second top (λ s t. bool_of third >>= λ u. int_carried (s -ℤ t -ℤ carry u))
row_of op.SubNatWithCarry third second top areas =
    nats second top (λ s t. bool_of third >>= λ u. nat_carried (pos s -ℤ pos t -ℤ carry u))
row_of op.Mult2NatWithCarryOut third second top areas = nat_of top >>= λ t. nat_carried (pos 2 *ℤ pos t)
row_of op.Div2Nat third second top areas = nat_of top >>= λ t. Ok (Two (Nat (t / 2)) (Nat (t % 2)))
row_of op.OrBitv third second top areas = bitvs second top (λ s t. bitv_word (bit_or t s))
row_of op.AndBitv third second top areas = bitvs second top (λ s t. bitv_word (bit_and t s))
row_of op.XorBitv third second top areas = bitvs second top (λ s t. bitv_word (bit_xor t s))
row_of op.OrBool third second top areas = bools second top (λ s t. bool_word (s || t))
row_of op.AndBool third second top areas = bools second top (λ s t. bool_word (s && t))
row_of op.NotBitv third second top areas = bitv_of top >>= λ t. bitv_word (2 ^ 32 - 1 - t)
row_of op.RshBitv third second top areas = bitv_of top >>= λ t. bitv_word (t / 2)
row_of op.LshBitv third second top areas = bitv_of top >>= λ t. bitv_word (2 * t % 2 ^ 32)
row_of op.NotBool third second top areas = bool_of top >>= λ t. bool_word (not t)
