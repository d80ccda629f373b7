-- What a word operation gives: how many words, and that they name what exists where its operands do.
use Rattle.std.{proofs.Common.{◌≡◌, ℕ, ◌+◌, ◌≤◌, ℤ, pos, negsuc, Result, Ok, Bool, true, false, List, length, map, refl, subst, arith}, specs.Prelude.◌^◌}
use Rattle.std.specs.Prelude.{◌<◌, ◌-◌, ◌*◌, ◌/◌, ◌%◌, ◌+ℤ◌, ◌-ℤ◌, ◌*ℤ◌, ◌==◌, not, ◌&&◌, ◌||◌, nat_lt, int_lt, get_or, unsigned_abs, bit_and, bit_or, bit_xor}
use Rattle.std.{specs.Int.{w32, cast_signed}, proofs.lemmas.Bool.{ltb-true, lt-ltb}, proofs.lemmas.Int.ints, proofs.lemmas.Nat.{xor_lt, or_lt, and_le_l}}
use Rattle.piton_words.{specs.declared.word.Word.Word, specs.declared.word.Word.TheVariants.{Int, Nat, Bitv, Bool as Truth, Addr}}
use Rattle.piton_words.{specs.declared.op.WordOp.WordOp, specs.declared.outcome.Outcome.Outcome, specs.declared.outcome.Outcome.TheVariants.{One, Two}}
use Rattle.piton_words.{specs.declared.outcome.WordError.WordError, specs.Views.{int_of, nat_of, bitv_of, bool_of, addr_of, where_true}}
use Rattle.piton_words.specs.OperationRows.{int_word, nat_word, bitv_word, bool_word, int_carried, nat_carried, carry, addr_word, are_same, row_of}
use Rattle.piton_words.specs.declared.op.WordOp.TheVariants as op
use Rattle.fm_words.{specs.Word.{is_int, is_nat, wrapped}, proofs.WordLaws.wrapped_below}
use Rattle.stack_text.specs.Results.{◌>>=◌}
use Rattle.piton_check.specs.Instruction.{SystemView}
use Rattle.piton_semantics.{specs.Views.words_taken, specs.InstructionRows.{results_on, does_grow}, specs.Fits.{Each, IsWordOf}, proofs.WordViewLaws.same_Ok}
use Rattle.piton_semantics.proofs.WordViewLaws.{went_on, nat_is, bitv_is, held, nat_fits, ints_are, nats_are, bitvs_are, bools_are}

-- how many words an operation pushes
abbrev pub words_pushed : WordOp → ℕ
words_pushed op.AddIntWithCarry = 2
words_pushed op.AddNatWithCarry = 2
words_pushed op.SubIntWithCarry = 2
words_pushed op.SubNatWithCarry = 2
words_pushed op.Mult2NatWithCarryOut = 2
words_pushed op.Div2Nat = 2
words_pushed op = 1

-- an operation gave so many words on what lies below, and all name what exists
pub record Gave (s : SystemView) (n : ℕ) (below : List Word) (out : Outcome) : Type 0 where
  pub words : Each (IsWordOf s) (results_on out below)
  pub size : length (results_on out below) ≡ n + length below

gave_one : (s : SystemView) (below : List Word) (w : Word) (out : Outcome) →
    Each (IsWordOf s) below → IsWordOf s w → ◌≡◌ {A = Result Outcome WordError} (Ok (One w)) (Ok out) → Gave s 1 below out
gave_one s below w out rest ok h = subst (Gave s 1 below) (same_Ok h) (record { words = (ok, rest); size = omega arith })

gave_two : (s : SystemView) (below : List Word) (v w : Word) (out : Outcome) → Each (IsWordOf s) below → IsWordOf s v → IsWordOf s w →
    ◌≡◌ {A = Result Outcome WordError} (Ok (Two v w)) (Ok out) → Gave s 2 below out
gave_two s below v w out rest ok ok' h =
    subst (Gave s 2 below) (same_Ok h) (record { words = (ok', (ok, rest)); size = omega arith })

signed_fits : (n : ℕ) → n < 2 ^ 32 → is_int (cast_signed w32 n) ≡ true
signed_fits n h = by_cases (cast_signed w32 n) refl
  where
    by_cases : (z : ℤ) → cast_signed w32 n ≡ z → is_int z ≡ true
    by_cases (pos m) e = lt-ltb m (2 ^ 31) (omega (arith, ints))
    by_cases (negsuc m) e = lt-ltb m (2 ^ 31) (omega (arith, ints))

module _ (s : SystemView) (below : List Word) (rest : Each (IsWordOf s) below) (out : Outcome) where
  int_gave : (i : ℤ) → int_word i ≡ Ok out → Gave s 1 below out
  int_gave i h = let f = held (is_int i) (Ok (One (Int i))) out h in gave_one s below (Int i) out rest f.holds f.goes

  nat_gave : (i : ℤ) → nat_word i ≡ Ok out → Gave s 1 below out
  nat_gave i h =
      let f = held (is_nat i) (Ok (One (Nat (unsigned_abs i)))) out h in
      gave_one s below (Nat (unsigned_abs i)) out rest (nat_fits i f.holds) f.goes

  bool_gave : (b : Bool) → bool_word b ≡ Ok out → Gave s 1 below out
  bool_gave b h = gave_one s below (Truth b) out rest tt h

  bitv_gave : (n : ℕ) → n < 2 ^ 32 → bitv_word n ≡ Ok out → Gave s 1 below out
  bitv_gave n fits h = gave_one s below (Bitv n) out rest fits h

  int_carried_gave : (i : ℤ) → int_carried i ≡ Ok out → Gave s 2 below out
  int_carried_gave i h =
      gave_two s below (Truth (not (is_int i))) (Int (cast_signed w32 (wrapped i))) out rest tt (signed_fits _ (wrapped_below i)) h

  nat_carried_gave : (i : ℤ) → nat_carried i ≡ Ok out → Gave s 2 below out
  nat_carried_gave i h = gave_two s below (Truth (not (is_nat i))) (Nat (wrapped i)) out rest tt (wrapped_below i) h

  addr_gave : (area : ℕ) (i : ℤ) → addr_word (map length s.areas) area i ≡ Ok out → Gave s 1 below out
  addr_gave area (pos offset) h =
      let f = held (nat_lt offset (get_or (map length s.areas) area 0)) (Ok (One (Addr area offset))) out h in
      gave_one s below (Addr area offset) out rest (ltb-true _ _ f.holds) f.goes
  addr_gave area (negsuc n) h = cc

  pub results_are : (o : WordOp) (third second top : Word) → IsWordOf s third → IsWordOf s second → IsWordOf s top →
      row_of o third second top (map length s.areas) ≡ Ok out → Gave s (words_pushed o) below out
  results_are op.Eq third second top u v w h = let f = went_on (are_same second top) bool_word out h in bool_gave f.value f.goes
  results_are op.AddInt third second top u v w h = let f = ints_are second top (λ s t. int_word (s +ℤ t)) out h in int_gave (f.s +ℤ f.t) f.goes
  results_are op.AddNat third second top u v w h =
      let f = nats_are second top (λ s t. nat_word (pos s +ℤ pos t)) out h in nat_gave (pos f.s +ℤ pos f.t) f.goes
  results_are op.SubInt third second top u v w h = let f = ints_are second top (λ s t. int_word (s -ℤ t)) out h in int_gave (f.s -ℤ f.t) f.goes
  results_are op.SubNat third second top u v w h =
      let f = nats_are second top (λ s t. nat_word (pos s -ℤ pos t)) out h in nat_gave (pos f.s -ℤ pos f.t) f.goes
  results_are op.AddAddr third second top u v w h =
      let f = went_on (nat_of top) (λ t. addr_of second >>= λ a. addr_word (map length s.areas) a.0 (pos a.1 +ℤ pos t)) out h in
      let g = went_on (addr_of second) (λ a. addr_word (map length s.areas) a.0 (pos a.1 +ℤ pos f.value)) out f.goes in
      addr_gave g.value.0 (pos g.value.1 +ℤ pos f.value) g.goes
  results_are op.SubAddr third second top u v w h =
      let f = went_on (nat_of top) (λ t. addr_of second >>= λ a. addr_word (map length s.areas) a.0 (pos a.1 -ℤ pos t)) out h in
      let g = went_on (addr_of second) (λ a. addr_word (map length s.areas) a.0 (pos a.1 -ℤ pos f.value)) out f.goes in
      addr_gave g.value.0 (pos g.value.1 -ℤ pos f.value) g.goes
  results_are op.LtInt third second top u v w h = let f = ints_are second top (λ s t. bool_word (int_lt s t)) out h in bool_gave (int_lt f.s f.t) f.goes
  results_are op.LtNat third second top u v w h = let f = nats_are second top (λ s t. bool_word (nat_lt s t)) out h in bool_gave (nat_lt f.s f.t) f.goes
  results_are op.LtAddr third second top u v w h =
      let f = went_on (addr_of top) (λ t. addr_of second >>= λ a. where_true (a.0 == t.0) (bool_word (nat_lt a.1 t.1))) out h in
      let g = went_on (addr_of second) (λ a. where_true (a.0 == f.value.0) (bool_word (nat_lt a.1 f.value.1))) out f.goes in
      let k = held (g.value.0 == f.value.0) (bool_word (nat_lt g.value.1 f.value.1)) out g.goes in
      bool_gave (nat_lt g.value.1 f.value.1) k.goes
  results_are op.Add1Int third second top u v w h = let f = went_on (int_of top) (λ t. int_word (t +ℤ pos 1)) out h in int_gave (f.value +ℤ pos 1) f.goes
  results_are op.Add1Nat third second top u v w h =
      let f = went_on (nat_of top) (λ t. nat_word (pos t +ℤ pos 1)) out h in nat_gave (pos f.value +ℤ pos 1) f.goes
  results_are op.Sub1Int third second top u v w h = let f = went_on (int_of top) (λ t. int_word (t -ℤ pos 1)) out h in int_gave (f.value -ℤ pos 1) f.goes
  results_are op.Sub1Nat third second top u v w h =
      let f = went_on (nat_of top) (λ t. nat_word (pos t -ℤ pos 1)) out h in nat_gave (pos f.value -ℤ pos 1) f.goes
  results_are op.NegInt third second top u v w h = let f = went_on (int_of top) (λ t. int_word (pos 0 -ℤ t)) out h in int_gave (pos 0 -ℤ f.value) f.goes
  results_are op.IntToNat third second top u v w h = let f = went_on (int_of top) (λ t. nat_word t) out h in nat_gave f.value f.goes
  results_are op.Mult2Nat third second top u v w h =
      let f = went_on (nat_of top) (λ t. nat_word (pos 2 *ℤ pos t)) out h in nat_gave (pos 2 *ℤ pos f.value) f.goes
  results_are op.AddIntWithCarry third second top u v w h =
      let f = ints_are second top (λ s t. bool_of third >>= λ u. int_carried (s +ℤ t +ℤ carry u)) out h in
      let g = went_on (bool_of third) (λ u. int_carried (f.s +ℤ f.t +ℤ carry u)) out f.goes in
      int_carried_gave (f.s +ℤ f.t +ℤ carry g.value) g.goes
  results_are op.AddNatWithCarry third second top u v w h =
      let f = nats_are second top (λ s t. bool_of third >>= λ u. nat_carried (pos s +ℤ pos t +ℤ carry u)) out h in
      let g = went_on (bool_of third) (λ u. nat_carried (pos f.s +ℤ pos f.t +ℤ carry u)) out f.goes in
      nat_carried_gave (pos f.s +ℤ pos f.t +ℤ carry g.value) g.goes
  results_are op.SubIntWithCarry third second top u v w h =
      let f = ints_are second top (λ s t. bool_of third >>= λ u. int_carried (s -ℤ t -ℤ carry u)) out h in
      let g = went_on (bool_of third) (λ u. int_carried (f.s -ℤ f.t -ℤ carry u)) out f.goes in
      int_carried_gave (f.s -ℤ f.t -ℤ carry g.value) g.goes
  results_are op.SubNatWithCarry third second top u v w h =
      let f = nats_are second top (λ s t. bool_of third >>= λ u. nat_carried (pos s -ℤ pos t -ℤ carry u)) out h in
      let g = went_on (bool_of third) (λ u. nat_carried (pos f.s -ℤ pos f.t -ℤ carry u)) out f.goes in
      nat_carried_gave (pos f.s -ℤ pos f.t -ℤ carry g.value) g.goes
  results_are op.Mult2NatWithCarryOut third second top u v w h =
      let f = went_on (nat_of top) (λ t. nat_carried (pos 2 *ℤ pos t)) out h in nat_carried_gave (pos 2 *ℤ pos f.value) f.goes
  results_are op.Div2Nat third second top u v w h =
      let f = went_on (nat_of top) (λ t. Ok (Two (Nat (t / 2)) (Nat (t % 2)))) out h in
      let fits : f.value < 2 ^ 32 = subst (IsWordOf s) (nat_is _ _ f.is) w in
      gave_two s below (Nat (f.value / 2)) (Nat (f.value % 2)) out rest (omega arith) (omega arith) f.goes
  results_are op.OrBitv third second top u v w h =
      let f = bitvs_are second top (λ s t. bitv_word (bit_or t s)) out h in
      bitv_gave (bit_or f.t f.s) (or_lt 32 f.t f.s (subst (IsWordOf s) f.top_is w) (subst (IsWordOf s) f.second_is v)) f.goes
  results_are op.AndBitv third second top u v w h =
      let f = bitvs_are second top (λ s t. bitv_word (bit_and t s)) out h in
      let top_fits : f.t < 2 ^ 32 = subst (IsWordOf s) f.top_is w in
      let fits : bit_and f.t f.s < 2 ^ 32 = omega (arith, and_le_l f.t f.s) in
      bitv_gave (bit_and f.t f.s) fits f.goes
  results_are op.XorBitv third second top u v w h =
      let f = bitvs_are second top (λ s t. bitv_word (bit_xor t s)) out h in
      bitv_gave (bit_xor f.t f.s) (xor_lt 32 f.t f.s (subst (IsWordOf s) f.top_is w) (subst (IsWordOf s) f.second_is v)) f.goes
  results_are op.OrBool third second top u v w h = let f = bools_are second top (λ s t. bool_word (s || t)) out h in bool_gave (f.s || f.t) f.goes
  results_are op.AndBool third second top u v w h = let f = bools_are second top (λ s t. bool_word (s && t)) out h in bool_gave (f.s && f.t) f.goes
  results_are op.NotBitv third second top u v w h =
      let f = went_on (bitv_of top) (λ t. bitv_word (2 ^ 32 - 1 - t)) out h in bitv_gave (2 ^ 32 - 1 - f.value) (omega arith) f.goes
  results_are op.RshBitv third second top u v w h =
      let f = went_on (bitv_of top) (λ t. bitv_word (t / 2)) out h in
      let fits : f.value < 2 ^ 32 = subst (IsWordOf s) (bitv_is _ _ f.is) w in
      bitv_gave (f.value / 2) (omega arith) f.goes
  results_are op.LshBitv third second top u v w h =
      let f = went_on (bitv_of top) (λ t. bitv_word (2 * t % 2 ^ 32)) out h in bitv_gave (2 * f.value % 2 ^ 32) (omega arith) f.goes
  results_are op.NotBool third second top u v w h = let f = went_on (bool_of top) (λ t. bool_word (not t)) out h in bool_gave (not f.value) f.goes

-- how many words there are then, whatever the operands name
module _ (below : List Word) (areas : List ℕ) (out : Outcome) where
  one_sized : (w : Word) → ◌≡◌ {A = Result Outcome WordError} (Ok (One w)) (Ok out) → length (results_on out below) ≡ 1 + length below
  one_sized w h = subst (λ o. length (results_on o below) ≡ 1 + length below) (same_Ok h) (omega arith)

  two_sized : (v w : Word) → ◌≡◌ {A = Result Outcome WordError} (Ok (Two v w)) (Ok out) → length (results_on out below) ≡ 2 + length below
  two_sized v w h = subst (λ o. length (results_on o below) ≡ 2 + length below) (same_Ok h) (omega arith)

  int_sized : (i : ℤ) → int_word i ≡ Ok out → length (results_on out below) ≡ 1 + length below
  int_sized i h = one_sized _ (held (is_int i) (Ok (One (Int i))) out h).goes

  nat_sized : (i : ℤ) → nat_word i ≡ Ok out → length (results_on out below) ≡ 1 + length below
  nat_sized i h = one_sized _ (held (is_nat i) (Ok (One (Nat (unsigned_abs i)))) out h).goes

  addr_sized : (area : ℕ) (i : ℤ) → addr_word areas area i ≡ Ok out → length (results_on out below) ≡ 1 + length below
  addr_sized area (pos offset) h = one_sized _ (held (nat_lt offset (get_or areas area 0)) (Ok (One (Addr area offset))) out h).goes
  addr_sized area (negsuc n) h = cc

  pub results_count : (o : WordOp) (third second top : Word) →
      row_of o third second top areas ≡ Ok out → length (results_on out below) ≡ words_pushed o + length below
  results_count op.Eq third second top h = let f = went_on (are_same second top) bool_word out h in one_sized _ f.goes
  results_count op.AddInt third second top h = let f = ints_are second top (λ s t. int_word (s +ℤ t)) out h in int_sized (f.s +ℤ f.t) f.goes
  results_count op.AddNat third second top h =
      let f = nats_are second top (λ s t. nat_word (pos s +ℤ pos t)) out h in nat_sized (pos f.s +ℤ pos f.t) f.goes
  results_count op.SubInt third second top h = let f = ints_are second top (λ s t. int_word (s -ℤ t)) out h in int_sized (f.s -ℤ f.t) f.goes
  results_count op.SubNat third second top h =
      let f = nats_are second top (λ s t. nat_word (pos s -ℤ pos t)) out h in nat_sized (pos f.s -ℤ pos f.t) f.goes
  results_count op.AddAddr third second top h =
      let f = went_on (nat_of top) (λ t. addr_of second >>= λ a. addr_word areas a.0 (pos a.1 +ℤ pos t)) out h in
      let g = went_on (addr_of second) (λ a. addr_word areas a.0 (pos a.1 +ℤ pos f.value)) out f.goes in
      addr_sized g.value.0 (pos g.value.1 +ℤ pos f.value) g.goes
  results_count op.SubAddr third second top h =
      let f = went_on (nat_of top) (λ t. addr_of second >>= λ a. addr_word areas a.0 (pos a.1 -ℤ pos t)) out h in
      let g = went_on (addr_of second) (λ a. addr_word areas a.0 (pos a.1 -ℤ pos f.value)) out f.goes in
      addr_sized g.value.0 (pos g.value.1 -ℤ pos f.value) g.goes
  results_count op.LtInt third second top h = let f = ints_are second top (λ s t. bool_word (int_lt s t)) out h in one_sized _ f.goes
  results_count op.LtNat third second top h = let f = nats_are second top (λ s t. bool_word (nat_lt s t)) out h in one_sized _ f.goes
  results_count op.LtAddr third second top h =
      let f = went_on (addr_of top) (λ t. addr_of second >>= λ a. where_true (a.0 == t.0) (bool_word (nat_lt a.1 t.1))) out h in
      let g = went_on (addr_of second) (λ a. where_true (a.0 == f.value.0) (bool_word (nat_lt a.1 f.value.1))) out f.goes in
      let k = held (g.value.0 == f.value.0) (bool_word (nat_lt g.value.1 f.value.1)) out g.goes in
      one_sized _ k.goes
  results_count op.Add1Int third second top h = let f = went_on (int_of top) (λ t. int_word (t +ℤ pos 1)) out h in int_sized (f.value +ℤ pos 1) f.goes
  results_count op.Add1Nat third second top h =
      let f = went_on (nat_of top) (λ t. nat_word (pos t +ℤ pos 1)) out h in nat_sized (pos f.value +ℤ pos 1) f.goes
  results_count op.Sub1Int third second top h = let f = went_on (int_of top) (λ t. int_word (t -ℤ pos 1)) out h in int_sized (f.value -ℤ pos 1) f.goes
  results_count op.Sub1Nat third second top h =
      let f = went_on (nat_of top) (λ t. nat_word (pos t -ℤ pos 1)) out h in nat_sized (pos f.value -ℤ pos 1) f.goes
  results_count op.NegInt third second top h = let f = went_on (int_of top) (λ t. int_word (pos 0 -ℤ t)) out h in int_sized (pos 0 -ℤ f.value) f.goes
  results_count op.IntToNat third second top h = let f = went_on (int_of top) (λ t. nat_word t) out h in nat_sized f.value f.goes
  results_count op.Mult2Nat third second top h =
      let f = went_on (nat_of top) (λ t. nat_word (pos 2 *ℤ pos t)) out h in nat_sized (pos 2 *ℤ pos f.value) f.goes
  results_count op.AddIntWithCarry third second top h =
      let f = ints_are second top (λ s t. bool_of third >>= λ u. int_carried (s +ℤ t +ℤ carry u)) out h in
      let g = went_on (bool_of third) (λ u. int_carried (f.s +ℤ f.t +ℤ carry u)) out f.goes in
      two_sized _ _ g.goes
  results_count op.AddNatWithCarry third second top h =
      let f = nats_are second top (λ s t. bool_of third >>= λ u. nat_carried (pos s +ℤ pos t +ℤ carry u)) out h in
      let g = went_on (bool_of third) (λ u. nat_carried (pos f.s +ℤ pos f.t +ℤ carry u)) out f.goes in
      two_sized _ _ g.goes
  results_count op.SubIntWithCarry third second top h =
      let f = ints_are second top (λ s t. bool_of third >>= λ u. int_carried (s -ℤ t -ℤ carry u)) out h in
      let g = went_on (bool_of third) (λ u. int_carried (f.s -ℤ f.t -ℤ carry u)) out f.goes in
      two_sized _ _ g.goes
  results_count op.SubNatWithCarry third second top h =
      let f = nats_are second top (λ s t. bool_of third >>= λ u. nat_carried (pos s -ℤ pos t -ℤ carry u)) out h in
      let g = went_on (bool_of third) (λ u. nat_carried (pos f.s -ℤ pos f.t -ℤ carry u)) out f.goes in
      two_sized _ _ g.goes
  results_count op.Mult2NatWithCarryOut third second top h =
      let f = went_on (nat_of top) (λ t. nat_carried (pos 2 *ℤ pos t)) out h in two_sized _ _ f.goes
  results_count op.Div2Nat third second top h =
      let f = went_on (nat_of top) (λ t. Ok (Two (Nat (t / 2)) (Nat (t % 2)))) out h in
      two_sized _ _ f.goes
  results_count op.OrBitv third second top h =
      let f = bitvs_are second top (λ s t. bitv_word (bit_or t s)) out h in
      one_sized _ f.goes
  results_count op.AndBitv third second top h =
      let f = bitvs_are second top (λ s t. bitv_word (bit_and t s)) out h in
      one_sized _ f.goes
  results_count op.XorBitv third second top h =
      let f = bitvs_are second top (λ s t. bitv_word (bit_xor t s)) out h in
      one_sized _ f.goes
  results_count op.OrBool third second top h = let f = bools_are second top (λ s t. bool_word (s || t)) out h in one_sized _ f.goes
  results_count op.AndBool third second top h = let f = bools_are second top (λ s t. bool_word (s && t)) out h in one_sized _ f.goes
  results_count op.NotBitv third second top h =
      let f = went_on (bitv_of top) (λ t. bitv_word (2 ^ 32 - 1 - t)) out h in one_sized _ f.goes
  results_count op.RshBitv third second top h =
      let f = went_on (bitv_of top) (λ t. bitv_word (t / 2)) out h in
      one_sized _ f.goes
  results_count op.LshBitv third second top h =
      let f = went_on (bitv_of top) (λ t. bitv_word (2 * t % 2 ^ 32)) out h in one_sized _ f.goes
  results_count op.NotBool third second top h = let f = went_on (bool_of top) (λ t. bool_word (not t)) out h in one_sized _ f.goes

-- no operation but those two pushes more than it takes
pub pushes_no_more : (o : WordOp) → does_grow o ≡ false → words_pushed o ≤ words_taken o
pushes_no_more op.Mult2NatWithCarryOut h = cc
pushes_no_more op.Div2Nat h = cc
pushes_no_more op.Eq h = omega arith
pushes_no_more op.AddInt h = omega arith
pushes_no_more op.AddNat h = omega arith
pushes_no_more op.SubInt h = omega arith
pushes_no_more op.SubNat h = omega arith
pushes_no_more op.AddAddr h = omega arith
pushes_no_more op.SubAddr h = omega arith
pushes_no_more op.LtInt h = omega arith
pushes_no_more op.LtNat h = omega arith
pushes_no_more op.LtAddr h = omega arith
pushes_no_more op.Add1Int h = omega arith
pushes_no_more op.Add1Nat h = omega arith
pushes_no_more op.Sub1Int h = omega arith
pushes_no_more op.Sub1Nat h = omega arith
pushes_no_more op.NegInt h = omega arith
pushes_no_more op.IntToNat h = omega arith
pushes_no_more op.Mult2Nat h = omega arith
pushes_no_more op.AddIntWithCarry h = omega arith
pushes_no_more op.AddNatWithCarry h = omega arith
pushes_no_more op.SubIntWithCarry h = omega arith
pushes_no_more op.SubNatWithCarry h = omega arith
pushes_no_more op.OrBitv h = omega arith
pushes_no_more op.AndBitv h = omega arith
pushes_no_more op.XorBitv h = omega arith
pushes_no_more op.OrBool h = omega arith
pushes_no_more op.AndBool h = omega arith
pushes_no_more op.NotBitv h = omega arith
pushes_no_more op.RshBitv h = omega arith
pushes_no_more op.LshBitv h = omega arith
pushes_no_more op.NotBool h = omega arith

-- what an operation pushes is at most one word more than what it takes
pub pushes_one_more : (o : WordOp) → words_pushed o ≤ 1 + words_taken o
pushes_one_more op.Mult2NatWithCarryOut = omega arith
pushes_one_more op.Div2Nat = omega arith
pushes_one_more op.Eq = omega arith
pushes_one_more op.AddInt = omega arith
pushes_one_more op.AddNat = omega arith
pushes_one_more op.SubInt = omega arith
pushes_one_more op.SubNat = omega arith
pushes_one_more op.AddAddr = omega arith
pushes_one_more op.SubAddr = omega arith
pushes_one_more op.LtInt = omega arith
pushes_one_more op.LtNat = omega arith
pushes_one_more op.LtAddr = omega arith
pushes_one_more op.Add1Int = omega arith
pushes_one_more op.Add1Nat = omega arith
pushes_one_more op.Sub1Int = omega arith
pushes_one_more op.Sub1Nat = omega arith
pushes_one_more op.NegInt = omega arith
pushes_one_more op.IntToNat = omega arith
pushes_one_more op.Mult2Nat = omega arith
pushes_one_more op.AddIntWithCarry = omega arith
pushes_one_more op.AddNatWithCarry = omega arith
pushes_one_more op.SubIntWithCarry = omega arith
pushes_one_more op.SubNatWithCarry = omega arith
pushes_one_more op.OrBitv = omega arith
pushes_one_more op.AndBitv = omega arith
pushes_one_more op.XorBitv = omega arith
pushes_one_more op.OrBool = omega arith
pushes_one_more op.AndBool = omega arith
pushes_one_more op.NotBitv = omega arith
pushes_one_more op.RshBitv = omega arith
pushes_one_more op.LshBitv = omega arith
pushes_one_more op.NotBool = omega arith
