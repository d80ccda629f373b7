-- What the cycle does in which an instruction is carried out.
use Rattle.std.proofs.Common.{◌≡◌, ℕ, ◌-◌, ◌/◌, ◌%◌, ◌^◌, ◌<◌, ◌==◌, Bool, true, false, not, ◌&&◌, ◌||◌, List, [], ◌∷◌, refl, ap, ◌∙◌, if◌then◌else◌, add-zero}
use Rattle.std.{specs.Prelude.{is_some, unwrap_or, slice_index, slice_set, nat_le, bit_or, bit_xor}, specs.Int.from_bool as bit_of}
use Rattle.fm_words.{specs.declared.condition.Cc.Cc, specs.declared.condition.Flags.Flags, specs.declared.operation.Op.Op, specs.declared.instruction.Mode.Mode}
use Rattle.fm_words.{specs.declared.instruction.Mode.TheVariants.{Register, Indirect, PreDecrement, PostIncrement}, specs.Alu.{alu_of, does_hold, are_same}}
use Rattle.fm_words.{specs.Code.flags_of, specs.Encoding.{op_number, cc_number, mode_number}}
use Rattle.fm_words.specs.declared.condition.Cc.TheVariants as cc
use Rattle.fm_machine.{specs.State.{word_at, with_word}, specs.Step.{registers_after, flags_set}}
use Rattle.fm_circuit.specs.declared.wire.Wire.TheVariants as w
use Rattle.fm_circuit.{specs.Circuit.settled, specs.Processor.driver_of, specs.Phases.{fetch, execute, stored}, specs.Board.{cycle, on_board, board_of}}
use Rattle.fm_circuit.{proofs.AdderLaws.{not_bit, xor_bits, and_bits, bit_31}, proofs.ResultLaws.{result, result_below}, proofs.PhaseLaws.place}
use Rattle.fm_circuit.proofs.WordFields.{set_c, set_v, set_n, set_z}

or_bits : (p q : Bool) → bit_or (bit_of p) (bit_of q) ≡ bit_of (p || q)
or_bits true true = refl
or_bits true false = refl
or_bits false true = refl
or_bits false false = refl

twice : (t : Bool) → not (not t) ≡ t
twice true = refl
twice false = refl

-- one of two bits
picked : (t p q : Bool) (x y z : ℕ) → x ≡ bit_of t → y ≡ bit_of p → z ≡ bit_of q → slice_index (y ∷ z ∷ []) x ≡ bit_of (if t then q else p)
picked true p q x y z e f g = ap (λ k. slice_index (y ∷ z ∷ []) k) e ∙ g
picked false p q x y z e f g = ap (λ k. slice_index (y ∷ z ∷ []) k) e ∙ f

module _ (ir a b at : ℕ) (f : Flags) (rs : List ℕ) (read outside base : ℕ) (m : List ℕ) where
  ge : 1 - bit_xor (bit_of f.n) (bit_of f.v) ≡ bit_of (are_same f.n f.v)
  ge = rw (xor_bits f.n f.v) (not_bit (not (are_same f.n f.v)) ∙ ap bit_of (twice (are_same f.n f.v)))

  -- the store condition
  holds : (k : Cc) → ir / 2 ^ 20 % 16 ≡ cc_number k → on_board (board_of execute ir a b at f rs read outside base m) w.Holds ≡ bit_of (does_hold k f)
  unfolding settled driver_of
  holds cc.Cc e = rw e (not_bit f.c)
  holds cc.Cs e = rw e
  holds cc.Vc e = rw e (not_bit f.v)
  holds cc.Vs e = rw e
  holds cc.Nc e = rw e (not_bit f.n)
  holds cc.Ns e = rw e
  holds cc.Zc e = rw e (not_bit f.z)
  holds cc.Zs e = rw e
  holds cc.Hi e = rw (e, not_bit f.c, not_bit f.z) (and_bits (not f.c) (not f.z))
  holds cc.Ls e = rw e (or_bits f.c f.z)
  holds cc.Ge e = rw e ge
  holds cc.Lt e = rw e (xor_bits f.n f.v)
  holds cc.Gt e = rw (e, ge, not_bit f.z) (and_bits (are_same f.n f.v) (not f.z))
  holds cc.Le e = rw (e, xor_bits f.n f.v) (or_bits (not (are_same f.n f.v)) f.z)
  holds cc.Al e = rw e
  holds cc.Nv e = rw e

  module _ (op : Op) (p : a < 2 ^ 32) (q : b < 2 ^ 32) (e : ir / 2 ^ 24 % 16 ≡ op_number op) where
    -- the flags
    c_is : on_board (board_of execute ir a b at f rs read outside base m) w.NextC ≡ bit_of (flags_set (flags_of (ir / 2 ^ 16 % 16)) f (alu_of op f.c a b)).c
    unfolding settled driver_of
    c_is = picked (flags_of (ir / 2 ^ 16 % 16)).c f.c (alu_of op f.c a b).c _ _ _ (set_c ir) refl (result ir a b at f rs read outside base m op p q e).carry

    v_is : on_board (board_of execute ir a b at f rs read outside base m) w.NextV ≡ bit_of (flags_set (flags_of (ir / 2 ^ 16 % 16)) f (alu_of op f.c a b)).v
    unfolding settled driver_of
    v_is = picked (flags_of (ir / 2 ^ 16 % 16)).v f.v (alu_of op f.c a b).v _ _ _ (set_v ir) refl (result ir a b at f rs read outside base m op p q e).overflow

    n_is : on_board (board_of execute ir a b at f rs read outside base m) w.NextN ≡ bit_of (flags_set (flags_of (ir / 2 ^ 16 % 16)) f (alu_of op f.c a b)).n
    unfolding settled driver_of
    n_is = picked (flags_of (ir / 2 ^ 16 % 16)).n f.n (nat_le (2 ^ 31) (alu_of op f.c a b).word) _ _ _ (set_n ir) refl
        (ap (λ x. x / 2 ^ 31 % 2) (result ir a b at f rs read outside base m op p q e).word
        ∙ bit_31 (alu_of op f.c a b).word (result_below op f.c a b p q))

    z_is : on_board (board_of execute ir a b at f rs read outside base m) w.NextZ ≡ bit_of (flags_set (flags_of (ir / 2 ^ 16 % 16)) f (alu_of op f.c a b)).z
    unfolding settled driver_of
    z_is = picked (flags_of (ir / 2 ^ 16 % 16)).z f.z ((alu_of op f.c a b).word == 0) _ _ _ (set_z ir) refl
        (ap (λ x. bit_of (x == 0)) (result ir a b at f rs read outside base m op p q e).word)

    -- the flags after the instruction
    abbrev pub flags_after : Flags
    flags_after = flags_set (flags_of (ir / 2 ^ 16 % 16)) f (alu_of op f.c a b)

    executed : (phase address : ℕ) (rs' : List ℕ) (stores : Bool) → on_board (board_of execute ir a b at f rs read outside base m) w.NextPhase ≡ phase
        → on_board (board_of execute ir a b at f rs read outside base m) w.Address ≡ address
        → (if on_board (board_of execute ir a b at f rs read outside base m) w.FileWrite == 1
        then slice_set rs (ir / 2 ^ 10 % 16) (on_board (board_of execute ir a b at f rs read outside base m) w.FileData) else rs) ≡ rs'
        → on_board (board_of execute ir a b at f rs read outside base m) w.MemoryWrite ≡ bit_of stores
        → cycle (board_of execute ir a b at f rs read outside base m) ≡ board_of phase ir a b address flags_after rs'
        (unwrap_or (word_at base m address) 0) (bit_of (not (is_some (word_at base m address)))) base
        (if bit_of stores == 1 && is_some (word_at base m address) then with_word base m address (alu_of op f.c a b).word else m)
    unfolding cycle settled driver_of
    executed phase address rs' stores ph ad fi mw =
        λ i. record {
          kept = record { registers = ph i ∷ ir ∷ a ∷ b ∷ ad i ∷ c_is i ∷ v_is i ∷ n_is i ∷ z_is i ∷ []; file = fi i };
          read = unwrap_or (word_at base m (ad i)) 0;
          outside = bit_of (not (is_some (word_at base m (ad i))));
          base = base;
          memory = if mw i == 1 && is_some (word_at base m (ad i)) then with_word base m (ad i)
              ((result ir a b at f rs read outside base m op p q e).word i) else m;
        }

    -- the phase after it
    abbrev pub past_execute : Bool → Mode → ℕ
    past_execute true Register = fetch
    past_execute true mode = stored
    past_execute false mode = fetch

    -- the registers after it
    abbrev pub file_after : Bool → Mode → List ℕ
    file_after true Register = slice_set rs (ir / 2 ^ 10 % 16) (alu_of op f.c a b).word
    file_after true mode = registers_after mode (ir / 2 ^ 10 % 16) rs
    file_after false mode = registers_after mode (ir / 2 ^ 10 % 16) rs

    -- whether it stores
    abbrev pub stores_after : Bool → Mode → Bool
    stores_after true Register = false
    stores_after true mode = true
    stores_after false mode = false

    address_is : (mode : Mode) → ir / 2 ^ 14 % 4 ≡ mode_number mode → on_board (board_of execute ir a b at f rs read outside base m) w.Address
        ≡ place mode (ir / 2 ^ 10 % 16) rs
    unfolding settled driver_of
    address_is Register g = rw g
    address_is Indirect g = rw g
    address_is PreDecrement g = rw (g, add-zero)
    address_is PostIncrement g = rw g

    module _ (h : Bool) (hz : on_board (board_of execute ir a b at f rs read outside base m) w.Holds ≡ bit_of h) where
      phase_is : (mode : Mode) (t : Bool) → h ≡ t → ir / 2 ^ 14 % 4 ≡ mode_number mode
          → on_board (board_of execute ir a b at f rs read outside base m) w.NextPhase ≡ past_execute t mode
      unfolding settled driver_of
      phase_is Register true o g = rw (hz, o, g)
      phase_is Indirect true o g = rw (hz, o, g)
      phase_is PreDecrement true o g = rw (hz, o, g)
      phase_is PostIncrement true o g = rw (hz, o, g)
      phase_is Register false o g = rw (hz, o)
      phase_is Indirect false o g = rw (hz, o)
      phase_is PreDecrement false o g = rw (hz, o)
      phase_is PostIncrement false o g = rw (hz, o)

      write_is : (mode : Mode) (t : Bool) → h ≡ t → ir / 2 ^ 14 % 4 ≡ mode_number mode
          → on_board (board_of execute ir a b at f rs read outside base m) w.MemoryWrite ≡ bit_of (stores_after t mode)
      unfolding settled driver_of
      write_is Register true o g = rw (hz, o, g)
      write_is Indirect true o g = rw (hz, o, g)
      write_is PreDecrement true o g = rw (hz, o, g)
      write_is PostIncrement true o g = rw (hz, o, g)
      write_is Register false o g = rw (hz, o)
      write_is Indirect false o g = rw (hz, o)
      write_is PreDecrement false o g = rw (hz, o)
      write_is PostIncrement false o g = rw (hz, o)

      file_is : (mode : Mode) (t : Bool) → h ≡ t → ir / 2 ^ 14 % 4 ≡ mode_number mode
          → (if on_board (board_of execute ir a b at f rs read outside base m) w.FileWrite == 1
          then slice_set rs (ir / 2 ^ 10 % 16) (on_board (board_of execute ir a b at f rs read outside base m) w.FileData) else rs) ≡ file_after t mode
      unfolding settled driver_of
      file_is Register true o g = rw (hz, o, g, (result ir a b at f rs read outside base m op p q e).word)
      file_is Indirect true o g = rw g
      file_is PreDecrement true o g = rw (g, add-zero)
      file_is PostIncrement true o g = rw (g, add-zero)
      file_is Register false o g = rw (hz, o, g)
      file_is Indirect false o g = rw g
      file_is PreDecrement false o g = rw (g, add-zero)
      file_is PostIncrement false o g = rw (g, add-zero)

    -- the cycle, by whether the store condition holds
    pub at_execute : (mode : Mode) (k : Cc) (t : Bool) → ir / 2 ^ 14 % 4 ≡ mode_number mode → ir / 2 ^ 20 % 16 ≡ cc_number k → does_hold k f ≡ t
        → cycle (board_of execute ir a b at f rs read outside base m) ≡ board_of (past_execute t mode) ir a b (place mode (ir / 2 ^ 10 % 16) rs)
        flags_after (file_after t mode) (unwrap_or (word_at base m (place mode (ir / 2 ^ 10 % 16) rs)) 0)
        (bit_of (not (is_some (word_at base m (place mode (ir / 2 ^ 10 % 16) rs))))) base
        (if bit_of (stores_after t mode) == 1 && is_some (word_at base m (place mode (ir / 2 ^ 10 % 16) rs))
        then with_word base m (place mode (ir / 2 ^ 10 % 16) rs) (alu_of op f.c a b).word else m)
    at_execute mode k t g c o =
        let hz = holds k c in
        executed (past_execute t mode) (place mode (ir / 2 ^ 10 % 16) rs) (file_after t mode) (stores_after t mode)
        (phase_is (does_hold k f) hz mode t o g) (address_is mode g) (file_is (does_hold k f) hz mode t o g) (write_is (does_hold k f) hz mode t o g)
