-- A cycle of the netlist is a cycle of the circuit.
use Rattle.std.proofs.Common.{◌≡◌, ℕ, zero, suc, ◌-◌, ◌^◌, ◌<◌, ◌==◌, ◌&&◌, Bool, true, false, not, List, [], ◌∷◌, Option, Some, None, refl, ap, sym, subst}
use Rattle.std.{proofs.Common.{◌∙◌, arith, if◌then◌else◌}, proofs.lemmas.Bool.lt-ltb, proofs.lemmas.Nat.Bits.{bit_at-lt, bit_at-zero, same_from_bits_below}}
use Rattle.std.{specs.Prelude.{map, min, get_or, is_some, unwrap_or, slice_index}, specs.Int.{from_bool as bit_of, bit_at}}
use Rattle.fm_words.proofs.FlagsLaws.{bit_small}
use Rattle.fm_machine.specs.State.{word_at, with_word}
use Rattle.fm_circuit.{specs.declared.wire.Wire.Wire, specs.declared.circuit.Pin.TheVariants.{Whole, Constant}, specs.Widths.width_of, specs.Circuit.driven}
use Rattle.fm_circuit.{specs.Processor.driver_of, specs.Board.{cycle, cycle_with, cycles, on_board, registers, levels}, specs.Following.AreWords}
use Rattle.fm_circuit.{specs.Sizes.{FitWidths, register_widths, input_widths}, proofs.SettledLaws.{settled_on, only_settled}, proofs.SizeLaws.driven_fits}
use Rattle.fm_circuit.{proofs.SizeLaws.{settled_fits, sized, memory_fits}, proofs.WordsLaws.word_found}
use Rattle.fm_circuit.specs.declared.wire.Wire.TheVariants as w
use Rattle.fm_gates.{specs.Gates.{Signals, gate_value, constant_gate, equal_gate, next_gate, file_gate, file_numbers, write_gate}, specs.Netlist.BitBoard}
use Rattle.fm_gates.specs.Netlist.{HasBits, AreNets, Lowered, GoesOn, Runs, word_of_bits, words_of, register_numbers, input_bit, signals_of, carried_word}
use Rattle.fm_gates.{specs.Netlist.next_bits, proofs.GateLaws.{carried_value, carries_are, carries_hold, driver_bit, equal_value, agrees_is}}
use Rattle.fm_gates.proofs.WordLaws.{word_below, bit_of_word, word_of_own, zero_word, picked_word, file_words, write_bit, file_bit, is_one}

constant_small : (s : Signals) (n : ℕ) → n < 2 → gate_value s (constant_gate n) < 2
constant_small s zero h = omega arith
constant_small s (suc zero) h = omega arith
constant_small s (suc (suc n)) h = absurd (omega arith)

-- one of two bits
pick_small : (a b by : ℕ) → a < 2 → b < 2 → slice_index (a ∷ b ∷ []) by < 2
pick_small a b zero h g = h
pick_small a b (suc zero) h g = g
pick_small a b (suc (suc by)) h g = omega arith

-- three gates of a write
write_path : (a b b' c c' : ℕ) → b ≡ b' → c ≡ c' → min a (min b c) ≡ min a (min b' c')
write_path a b b' c c' e f = λ j. min a (min (e j) (f j))

option_word : (base : ℕ) (m : List ℕ) (a : ℕ) (o : Option ℕ) → AreWords m → word_at base m a ≡ o → unwrap_or o 0 < 2 ^ 32
option_word base m a (Some x) h e = word_found base m a x h e
option_word base m a None h e = omega arith

-- a board of bits
module _ (b : BitBoard) (has : HasBits b) where
  abbrev inputs : List ℕ
  inputs = word_of_bits 32 b.read ∷ b.outside ∷ []

  held : (k i : ℕ) → i < slice_index register_widths k → b.registers k i ≡ bit_at (slice_index (words_of b).kept.registers k) i
  held zero i lt = sym (bit_of_word 4 (b.registers 0) i (has.registers 0) lt)
  held (suc zero) i lt = sym (bit_of_word 32 (b.registers 1) i (has.registers 1) lt)
  held (suc (suc zero)) i lt = sym (bit_of_word 32 (b.registers 2) i (has.registers 2) lt)
  held (suc (suc (suc zero))) i lt = sym (bit_of_word 32 (b.registers 3) i (has.registers 3) lt)
  held (suc (suc (suc (suc zero)))) i lt = sym (bit_of_word 32 (b.registers 4) i (has.registers 4) lt)
  held (suc (suc (suc (suc (suc zero))))) i lt = sym (bit_of_word 1 (b.registers 5) i (has.registers 5) lt)
  held (suc (suc (suc (suc (suc (suc zero)))))) i lt = sym (bit_of_word 1 (b.registers 6) i (has.registers 6) lt)
  held (suc (suc (suc (suc (suc (suc (suc zero))))))) i lt = sym (bit_of_word 1 (b.registers 7) i (has.registers 7) lt)
  held (suc (suc (suc (suc (suc (suc (suc (suc zero)))))))) i lt = sym (bit_of_word 1 (b.registers 8) i (has.registers 8) lt)
  held (suc (suc (suc (suc (suc (suc (suc (suc (suc k))))))))) i lt = absurd (omega arith)

  held_fit : FitWidths register_widths (words_of b).kept.registers
  held_fit zero = word_below 4 (b.registers 0) (has.registers 0)
  held_fit (suc zero) = word_below 32 (b.registers 1) (has.registers 1)
  held_fit (suc (suc zero)) = word_below 32 (b.registers 2) (has.registers 2)
  held_fit (suc (suc (suc zero))) = word_below 32 (b.registers 3) (has.registers 3)
  held_fit (suc (suc (suc (suc zero)))) = word_below 32 (b.registers 4) (has.registers 4)
  held_fit (suc (suc (suc (suc (suc zero))))) = word_below 1 (b.registers 5) (has.registers 5)
  held_fit (suc (suc (suc (suc (suc (suc zero)))))) = word_below 1 (b.registers 6) (has.registers 6)
  held_fit (suc (suc (suc (suc (suc (suc (suc zero))))))) = word_below 1 (b.registers 7) (has.registers 7)
  held_fit (suc (suc (suc (suc (suc (suc (suc (suc zero)))))))) = word_below 1 (b.registers 8) (has.registers 8)
  held_fit (suc (suc (suc (suc (suc (suc (suc (suc (suc k))))))))) = omega arith

  given : (k i : ℕ) → i < slice_index input_widths k → input_bit b k i ≡ bit_at (slice_index inputs k) i
  given zero i lt = sym (bit_of_word 32 b.read i has.read lt)
  given (suc zero) i lt = let here : 0 ≡ i = omega arith in subst (λ j. b.outside ≡ bit_at b.outside j) here (let below = has.outside in omega (arith, below))
  given (suc (suc k)) i lt = absurd (omega arith)

  given_fit : FitWidths input_widths inputs
  given_fit zero = word_below 32 b.read has.read
  given_fit (suc zero) = let below = has.outside in omega (arith, below)
  given_fit (suc (suc k)) = omega arith

  filed : (r i : ℕ) → r < 16 → i < 32 → b.file r i ≡ bit_at (slice_index (words_of b).kept.file r) i
  filed zero i h lt = sym (bit_of_word 32 (b.file 0) i (λ j below. has.file 0 j h below) lt)
  filed (suc zero) i h lt = sym (bit_of_word 32 (b.file 1) i (λ j below. has.file 1 j h below) lt)
  filed (suc (suc zero)) i h lt = sym (bit_of_word 32 (b.file 2) i (λ j below. has.file 2 j h below) lt)
  filed (suc (suc (suc zero))) i h lt = sym (bit_of_word 32 (b.file 3) i (λ j below. has.file 3 j h below) lt)
  filed (suc (suc (suc (suc zero)))) i h lt = sym (bit_of_word 32 (b.file 4) i (λ j below. has.file 4 j h below) lt)
  filed (suc (suc (suc (suc (suc zero))))) i h lt = sym (bit_of_word 32 (b.file 5) i (λ j below. has.file 5 j h below) lt)
  filed (suc (suc (suc (suc (suc (suc zero)))))) i h lt = sym (bit_of_word 32 (b.file 6) i (λ j below. has.file 6 j h below) lt)
  filed (suc (suc (suc (suc (suc (suc (suc zero))))))) i h lt = sym (bit_of_word 32 (b.file 7) i (λ j below. has.file 7 j h below) lt)
  filed (suc (suc (suc (suc (suc (suc (suc (suc zero)))))))) i h lt = sym (bit_of_word 32 (b.file 8) i (λ j below. has.file 8 j h below) lt)
  filed (suc (suc (suc (suc (suc (suc (suc (suc (suc zero))))))))) i h lt = sym (bit_of_word 32 (b.file 9) i (λ j below. has.file 9 j h below) lt)
  filed (suc (suc (suc (suc (suc (suc (suc (suc (suc (suc zero)))))))))) i h lt = sym (bit_of_word 32 (b.file 10) i (λ j below. has.file 10 j h below) lt)
  filed (suc (suc (suc (suc (suc (suc (suc (suc (suc (suc (suc zero))))))))))) i h lt = sym (bit_of_word 32 (b.file 11) i (λ j below. has.file 11 j h below) lt)
  filed (suc (suc (suc (suc (suc (suc (suc (suc (suc (suc (suc (suc zero)))))))))))) i h lt =
      sym (bit_of_word 32 (b.file 12) i (λ j below. has.file 12 j h below) lt)
  filed (suc (suc (suc (suc (suc (suc (suc (suc (suc (suc (suc (suc (suc zero))))))))))))) i h lt =
      sym (bit_of_word 32 (b.file 13) i (λ j below. has.file 13 j h below) lt)
  filed (suc (suc (suc (suc (suc (suc (suc (suc (suc (suc (suc (suc (suc (suc zero)))))))))))))) i h lt =
      sym (bit_of_word 32 (b.file 14) i (λ j below. has.file 14 j h below) lt)
  filed (suc (suc (suc (suc (suc (suc (suc (suc (suc (suc (suc (suc (suc (suc (suc zero))))))))))))))) i h lt =
      sym (bit_of_word 32 (b.file 15) i (λ j below. has.file 15 j h below) lt)
  filed (suc (suc (suc (suc (suc (suc (suc (suc (suc (suc (suc (suc (suc (suc (suc (suc r)))))))))))))))) i h lt = absurd (omega arith)

  filed_fit : AreWords (words_of b).kept.file
  filed_fit zero = word_below 32 (b.file 0) (λ j below. has.file 0 j (omega arith) below)
  filed_fit (suc zero) = word_below 32 (b.file 1) (λ j below. has.file 1 j (omega arith) below)
  filed_fit (suc (suc zero)) = word_below 32 (b.file 2) (λ j below. has.file 2 j (omega arith) below)
  filed_fit (suc (suc (suc zero))) = word_below 32 (b.file 3) (λ j below. has.file 3 j (omega arith) below)
  filed_fit (suc (suc (suc (suc zero)))) = word_below 32 (b.file 4) (λ j below. has.file 4 j (omega arith) below)
  filed_fit (suc (suc (suc (suc (suc zero))))) = word_below 32 (b.file 5) (λ j below. has.file 5 j (omega arith) below)
  filed_fit (suc (suc (suc (suc (suc (suc zero)))))) = word_below 32 (b.file 6) (λ j below. has.file 6 j (omega arith) below)
  filed_fit (suc (suc (suc (suc (suc (suc (suc zero))))))) = word_below 32 (b.file 7) (λ j below. has.file 7 j (omega arith) below)
  filed_fit (suc (suc (suc (suc (suc (suc (suc (suc zero)))))))) = word_below 32 (b.file 8) (λ j below. has.file 8 j (omega arith) below)
  filed_fit (suc (suc (suc (suc (suc (suc (suc (suc (suc zero))))))))) = word_below 32 (b.file 9) (λ j below. has.file 9 j (omega arith) below)
  filed_fit (suc (suc (suc (suc (suc (suc (suc (suc (suc (suc zero)))))))))) = word_below 32 (b.file 10) (λ j below. has.file 10 j (omega arith) below)
  filed_fit (suc (suc (suc (suc (suc (suc (suc (suc (suc (suc (suc zero))))))))))) = word_below 32 (b.file 11) (λ j below. has.file 11 j (omega arith) below)
  filed_fit (suc (suc (suc (suc (suc (suc (suc (suc (suc (suc (suc (suc zero)))))))))))) =
      word_below 32 (b.file 12) (λ j below. has.file 12 j (omega arith) below)
  filed_fit (suc (suc (suc (suc (suc (suc (suc (suc (suc (suc (suc (suc (suc zero))))))))))))) =
      word_below 32 (b.file 13) (λ j below. has.file 13 j (omega arith) below)
  filed_fit (suc (suc (suc (suc (suc (suc (suc (suc (suc (suc (suc (suc (suc (suc zero)))))))))))))) =
      word_below 32 (b.file 14) (λ j below. has.file 14 j (omega arith) below)
  filed_fit (suc (suc (suc (suc (suc (suc (suc (suc (suc (suc (suc (suc (suc (suc (suc zero))))))))))))))) =
      word_below 32 (b.file 15) (λ j below. has.file 15 j (omega arith) below)
  filed_fit (suc (suc (suc (suc (suc (suc (suc (suc (suc (suc (suc (suc (suc (suc (suc (suc r)))))))))))))))) = omega arith

  -- the words of wires
  module _ (reset : Bool) (wires carries : Wire → ℕ → ℕ) (nets : AreNets (signals_of reset b wires carries)) where
    abbrev s : Signals
    s = signals_of reset b wires carries

    abbrev on : Wire → ℕ
    on wire = word_of_bits (width_of wire) (wires wire)

    fit : (wire : Wire) → on wire < 2 ^ width_of wire
    fit wire = word_below (width_of wire) (wires wire) (nets.bits wire)

    known : (wire : Wire) (i : ℕ) → i < width_of wire → wires wire i ≡ bit_at (on wire) i
    known wire i lt = sym (bit_of_word (width_of wire) (wires wire) i (nets.bits wire) lt)

    -- each is what drives it
    driven_on : (wire : Wire) → on wire ≡ driven (words_of b).kept inputs on (driver_of wire)
    driven_on wire =
        same_from_bits_below (width_of wire) (on wire) (driven (words_of b).kept inputs on (driver_of wire)) (fit wire)
        (driven_fits on fit (words_of b).kept inputs held_fit filed_fit given_fit (width_of wire) (driver_of wire) (sized wire)) (λ i lt.
        sym (known wire i lt) ∙ nets.wires wire i lt ∙ driver_bit (words_of b).kept inputs on s fit known held given filed wire (width_of wire)
        (driver_of wire) i (sized wire) (carries_are (words_of b).kept inputs on s fit known wire (width_of wire) (driver_of wire) (sized wire)
        (nets.carries wire)) lt)

    -- so they are those of the board of words
    on_is : (wire : Wire) → on wire ≡ on_board (words_of b) wire
    on_is wire = only_settled on (words_of b).kept inputs driven_on wire

    -- what a register takes
    register_word : (t : Bool) (wire : Wire) → word_of_bits (width_of wire)
        (λ i. slice_index (wires wire i ∷ gate_value s (constant_gate (bit_at 0 i)) ∷ []) (bit_of t)) ≡ (if t then 0 else on_board (words_of b) wire)
    register_word true wire =
        zero_word (width_of wire) (λ i. gate_value s (constant_gate (bit_at 0 i))) (λ i. ap (λ n. gate_value s (constant_gate n)) (bit_at-zero i))
    register_word false wire = on_is wire

    registers_are : map (λ k. word_of_bits (slice_index register_widths k) (λ i. gate_value s (next_gate (driver_of (get_or registers k w.Phase)) i)))
        register_numbers ≡ (cycle_with reset (words_of b)).kept.registers
    unfolding driver_of
    registers_are =
        λ j. register_word reset w.NextPhase j ∷ register_word reset w.NextIr j ∷ register_word reset w.NextA j ∷ register_word reset w.NextB j
        ∷ register_word reset w.NextAt j ∷ register_word reset w.NextC j ∷ register_word reset w.NextV j ∷ register_word reset w.NextN j
        ∷ register_word reset w.NextZ j ∷ []

    low_bit : (wire : Wire) → width_of wire ≡ 1 → wires wire 0 ≡ on_board (words_of b) wire
    low_bit wire one =
        let lt : 0 < width_of wire = omega (arith, one) in
        let below : on wire < 2 ^ 1 = subst (λ n. on wire < 2 ^ n) one (fit wire) in
        let whole : bit_at (on wire) 0 ≡ on wire = omega (arith, below) in
        known wire 0 lt ∙ whole ∙ on_is wire

    bit_below : (wire : Wire) → width_of wire ≡ 1 → on_board (words_of b) wire < 2
    bit_below wire one = subst (λ x. x < 2) (low_bit wire one) (nets.bits wire 0 (omega (arith, one)))

    -- what a word of the file takes
    word_takes : (r : ℕ) → r < 16 → word_of_bits 32 (λ i. gate_value s (file_gate r i))
        ≡ (if (not reset && (on_board (words_of b) w.FileWrite == 1)) && (on_board (words_of b) w.Number == r) then on_board (words_of b) w.FileData
        else word_of_bits 32 (b.file r))
    word_takes r lt =
        let equal : gate_value s (equal_gate (Whole w.Number) (Constant 4 r) 4) ≡ bit_of (on w.Number == r) =
        equal_value (words_of b).kept inputs on s fit known (Whole w.Number) (Constant 4 r) 4 4 refl (lt-ltb r 16 lt) (omega arith)
        ∙ ap bit_of (agrees_is (on w.Number) r 4 (fit w.Number) lt) in
        let chosen : gate_value s (equal_gate (Whole w.Number) (Constant 4 r) 4) ≡ bit_of (on_board (words_of b) w.Number == r) =
        equal ∙ ap (λ n. bit_of (n == r)) (on_is w.Number) in
        let by = write_path (1 - bit_of reset) _ _ _ _ (low_bit w.FileWrite refl) chosen
        ∙ file_bit reset (on_board (words_of b) w.Number == r) (on_board (words_of b) w.FileWrite) (bit_below w.FileWrite refl) in
        picked_word ((not reset && (on_board (words_of b) w.FileWrite == 1)) && (on_board (words_of b) w.Number == r)) 32 _ (b.file r)
        (wires w.FileData) by ∙ ap (λ x. if (not reset && (on_board (words_of b) w.FileWrite == 1)) && (on_board (words_of b) w.Number == r) then x
        else word_of_bits 32 (b.file r)) (on_is w.FileData)

    file_is : map (λ r. word_of_bits 32 (λ i. gate_value s (file_gate r i))) file_numbers ≡ (cycle_with reset (words_of b)).kept.file
    file_is = file_words (not reset && (on_board (words_of b) w.FileWrite == 1)) (on_board (words_of b) w.Number) (on_board (words_of b) w.FileData)
        (λ r. word_of_bits 32 (b.file r)) (λ r. word_of_bits 32 (λ i. gate_value s (file_gate r i))) word_takes

    write_is : (gate_value s write_gate == 1) ≡ (not reset && (on_board (words_of b) w.MemoryWrite == 1))
    write_is = ap (λ n. min (1 - bit_of reset) n == 1) (low_bit w.MemoryWrite refl)
        ∙ ap (λ n. n == 1) (write_bit reset (on_board (words_of b) w.MemoryWrite) (bit_below w.MemoryWrite refl))
        ∙ is_one (not reset && (on_board (words_of b) w.MemoryWrite == 1))

    read_is : (address : ℕ) → word_of_bits 32 (bit_at (unwrap_or (word_at b.base b.memory address) 0)) ≡ unwrap_or (word_at b.base b.memory address) 0
    read_is address = word_of_own 32 (unwrap_or (word_at b.base b.memory address) 0)
        (option_word b.base b.memory address (word_at b.base b.memory address) has.memory refl)

    words_then : words_of (next_bits b s (word_at b.base b.memory (on_board (words_of b) w.Address))) ≡ cycle_with reset (words_of b)
    words_then =
        λ j. record {
          kept = record { registers = registers_are j; file = file_is j };
          read = read_is (on_board (words_of b) w.Address) j;
          outside = bit_of (not (is_some (word_at b.base b.memory (on_board (words_of b) w.Address))));
          base = b.base;
          memory = if write_is j && is_some (word_at b.base b.memory (on_board (words_of b) w.Address))
              then with_word b.base b.memory (on_is w.Address j) (on_is w.Out j) else b.memory;
        }

    words_are : words_of (next_bits b s (word_at b.base b.memory (on w.Address))) ≡ cycle_with reset (words_of b)
    words_are = ap (λ a. words_of (next_bits b s (word_at b.base b.memory a))) (on_is w.Address) ∙ words_then

    -- what the cycle leaves
    register_bits : (wire : Wire) (i : ℕ) → i < width_of wire → slice_index (wires wire i ∷ gate_value s (constant_gate (bit_at 0 i)) ∷ []) (bit_of reset) < 2
    register_bits wire i lt = pick_small (wires wire i) (gate_value s (constant_gate (bit_at 0 i))) (bit_of reset) (nets.bits wire i lt)
        (constant_small s (bit_at 0 i) (bit_at-lt 0 i))

    leaves_bits : (k i : ℕ) → i < slice_index register_widths k → gate_value s (next_gate (driver_of (get_or registers k w.Phase)) i) < 2
    unfolding driver_of
    leaves_bits zero i lt = register_bits w.NextPhase i lt
    leaves_bits (suc zero) i lt = register_bits w.NextIr i lt
    leaves_bits (suc (suc zero)) i lt = register_bits w.NextA i lt
    leaves_bits (suc (suc (suc zero))) i lt = register_bits w.NextB i lt
    leaves_bits (suc (suc (suc (suc zero)))) i lt = register_bits w.NextAt i lt
    leaves_bits (suc (suc (suc (suc (suc zero))))) i lt = register_bits w.NextC i lt
    leaves_bits (suc (suc (suc (suc (suc (suc zero)))))) i lt = register_bits w.NextV i lt
    leaves_bits (suc (suc (suc (suc (suc (suc (suc zero))))))) i lt = register_bits w.NextN i lt
    leaves_bits (suc (suc (suc (suc (suc (suc (suc (suc zero)))))))) i lt = register_bits w.NextZ i lt
    leaves_bits (suc (suc (suc (suc (suc (suc (suc (suc (suc k))))))))) i lt = absurd (omega arith)

    bits_left : HasBits (next_bits b s (word_at b.base b.memory (on w.Address)))
    bits_left =
        record {
          registers = leaves_bits;
          file = λ r i below lt. pick_small (b.file r i) (wires w.FileData i) _ (has.file r i below lt) (nets.bits w.FileData i lt);
          read = λ i lt. bit_at-lt (unwrap_or (word_at b.base b.memory (on w.Address)) 0) i;
          outside = omega (arith, bit_small (not (is_some (word_at b.base b.memory (on w.Address)))));
          memory = memory_fits (gate_value s write_gate == 1 && is_some (word_at b.base b.memory (on w.Address))) b.base b.memory (on w.Address)
              (on w.Out) has.memory (fit w.Out);
        }

  -- the bits of the words are nets
  module _ (reset : Bool) where
    abbrev own : Signals
    own = signals_of reset b (λ wire. bit_at (on_board (words_of b) wire)) (λ wire. carried_value (on_board (words_of b)) (driver_of wire))

    fits : (wire : Wire) → on_board (words_of b) wire < 2 ^ width_of wire
    fits wire = settled_fits (words_of b).kept inputs held_fit filed_fit given_fit levels wire

    own_nets : AreNets own
    own_nets =
        record {
          bits = λ wire i lt. bit_at-lt (on_board (words_of b) wire) i;
          wires = λ wire i lt. ap (λ x. bit_at x i) (sym (settled_on (words_of b).kept inputs wire))
              ∙ sym (driver_bit (words_of b).kept inputs (on_board (words_of b)) own fits (λ v j below. refl) held given filed wire (width_of wire)
              (driver_of wire) i (sized wire) (λ j below. refl) lt);
          carries = λ wire i lt. carries_hold (words_of b).kept inputs (on_board (words_of b)) own fits (λ v j below. refl) wire (width_of wire)
              (driver_of wire) (sized wire) (λ j. refl) i lt;
        }

pub lowered : Lowered
lowered reset b c has cycles = (
  ap words_of cycles.next ∙ words_are b has reset cycles.wires cycles.carries cycles.nets,
  subst HasBits (sym cycles.next) (bits_left b has reset cycles.wires cycles.carries cycles.nets),
)

pub goes_on : GoesOn
goes_on reset b has =
    let s = own b has reset in (
      next_bits b s (word_at b.base b.memory (carried_word s w.Address)),
      record { wires = s.wire; carries = s.carry; nets = own_nets b has reset; next = refl },
    )

pub runs : Runs
unfolding cycle cycles
runs zero b c has e = sym (ap words_of e)
runs (suc n) b c has many =
    let step = lowered false b many.0 has many.1 in
    runs n many.0 c step.1 many.2 ∙ ap (cycles n) step.0
