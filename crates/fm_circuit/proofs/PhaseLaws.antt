-- What a cycle does in each phase but the one in which the instruction is carried out.
use Rattle.std.{proofs.Common.{◌≡◌, ℕ, ◌+◌, ◌*◌, ◌/◌, ◌%◌, ◌^◌, Bool, true, false, not, List, [], ◌∷◌, refl, add-zero}, specs.Prelude.{is_some, unwrap_or}}
use Rattle.std.{specs.Prelude.slice_index, specs.Int.from_bool as bit_of}
use Rattle.fm_words.{specs.declared.condition.Flags.Flags, specs.declared.instruction.Mode.Mode, specs.declared.instruction.Mode.TheVariants.Register}
use Rattle.fm_words.{specs.declared.instruction.Mode.TheVariants.{Indirect, PreDecrement, PostIncrement}, specs.Encoding.mode_number}
use Rattle.fm_machine.{specs.State.word_at, specs.Step.{with_increment, registers_after, address_of}}
use Rattle.fm_circuit.{specs.Circuit.settled, specs.Processor.driver_of, specs.Phases.{fetch, fetched, read_a, got_a, read_b, got_b, execute, stored, fault}}
use Rattle.fm_circuit.specs.Board.{Board, cycle, board_of}

-- a board that has asked its memory for the word at an address
abbrev pub asked : ℕ → ℕ → ℕ → ℕ → ℕ → Flags → List ℕ → ℕ → List ℕ → Board
asked phase ir a b at f rs base m = board_of phase ir a b at f rs (unwrap_or (word_at base m at) 0) (bit_of (not (is_some (word_at base m at)))) base m

-- the address that is asked for: the operand's, or what its register holds
abbrev pub place : Mode → ℕ → List ℕ → ℕ
place mode r rs = unwrap_or (address_of mode r rs) (slice_index rs r)

module _ (ir a b at : ℕ) (f : Flags) (rs : List ℕ) (read : ℕ) (base : ℕ) (m : List ℕ) where
  pub at_fetch : (outside : ℕ) → cycle (board_of fetch ir a b at f rs read outside base m)
      ≡ asked fetched ir a b (slice_index rs 15) f (with_increment rs 15) base m
  unfolding cycle settled driver_of
  at_fetch outside = rw add-zero

  pub at_fetched : let now =
      board_of fetched ir a b at f rs read 0 base m in cycle now ≡ board_of read_a read a b at f rs (cycle now).read (cycle now).outside base m
  unfolding cycle settled driver_of
  at_fetched = refl

  pub at_fetched_outside : let now =
      board_of fetched ir a b at f rs read 1 base m in cycle now ≡ board_of fault read a b at f rs (cycle now).read (cycle now).outside base m
  unfolding cycle settled driver_of
  at_fetched_outside = refl

  pub at_got_a : let now =
      board_of got_a ir a b at f rs read 0 base m in cycle now ≡ board_of read_b ir read b at f rs (cycle now).read (cycle now).outside base m
  unfolding cycle settled driver_of
  at_got_a = refl

  pub at_got_a_outside : let now =
      board_of got_a ir a b at f rs read 1 base m in cycle now ≡ board_of fault ir read b at f rs (cycle now).read (cycle now).outside base m
  unfolding cycle settled driver_of
  at_got_a_outside = refl

  pub at_got_b : let now =
      board_of got_b ir a b at f rs read 0 base m in cycle now ≡ board_of execute ir a read at f rs (cycle now).read (cycle now).outside base m
  unfolding cycle settled driver_of
  at_got_b = refl

  pub at_got_b_outside : let now =
      board_of got_b ir a b at f rs read 1 base m in cycle now ≡ board_of fault ir a read at f rs (cycle now).read (cycle now).outside base m
  unfolding cycle settled driver_of
  at_got_b_outside = refl

  pub at_stored : let now =
      board_of stored ir a b at f rs read 0 base m in cycle now ≡ board_of fetch ir a b at f rs (cycle now).read (cycle now).outside base m
  unfolding cycle settled driver_of
  at_stored = refl

  pub at_stored_outside : let now =
      board_of stored ir a b at f rs read 1 base m in cycle now ≡ board_of fault ir a b at f rs (cycle now).read (cycle now).outside base m
  unfolding cycle settled driver_of
  at_stored_outside = refl

  pub at_fault : (outside : ℕ) → let now =
      board_of fault ir a b at f rs read outside base m in cycle now ≡ board_of fault ir a b at f rs (cycle now).read (cycle now).outside base m
  unfolding cycle settled driver_of
  at_fault outside = refl

  -- the first operand, an immediate
  pub at_immediate : (outside : ℕ) → ir / 2 ^ 9 % 2 ≡ 1 → let now = board_of read_a ir a b at f rs read outside base m in
      cycle now ≡ board_of read_b ir (slice_index (0 ∷ 8388607 ∷ []) (ir / 2 ^ 8 % 2) * 2 ^ 9 + ir % 2 ^ 9) b (slice_index rs (ir % 16)) f rs
      (cycle now).read (cycle now).outside base m
  unfolding cycle settled driver_of
  at_immediate outside e = rw e

  -- the phase after the address of the first operand
  abbrev pub past_a : Mode → ℕ
  past_a Register = read_b
  past_a mode = got_a

  -- the first operand, at a place
  pub at_place : (mode : Mode) (outside : ℕ) → ir / 2 ^ 9 % 2 ≡ 0 → ir / 2 ^ 4 % 4 ≡ mode_number mode
      → cycle (board_of read_a ir a b at f rs read outside base m) ≡ asked (past_a mode) ir (slice_index rs (ir % 16)) b (place mode (ir % 16) rs) f
      (registers_after mode (ir % 16) rs) base m
  unfolding cycle settled driver_of
  at_place Register outside e g = rw (e, g)
  at_place Indirect outside e g = rw (e, g)
  at_place PreDecrement outside e g = rw (e, g, add-zero)
  at_place PostIncrement outside e g = rw (e, g, add-zero)

  -- the phase after the address of the second operand
  abbrev pub past_b : Bool → Mode → ℕ
  past_b true Register = execute
  past_b true mode = got_b
  past_b false mode = execute

  -- the second operand, whether it is read or not
  pub at_second : (mode : Mode) (reads : Bool) (outside : ℕ) → ir / 2 ^ 14 % 4 ≡ mode_number mode
      → slice_index (0 ∷ 0 ∷ 1 ∷ 1 ∷ 0 ∷ 0 ∷ 1 ∷ 1 ∷ 0 ∷ 0 ∷ 0 ∷ 1 ∷ 1 ∷ 1 ∷ 0 ∷ 0 ∷ []) (ir / 2 ^ 24 % 16) ≡ bit_of reads
      → cycle (board_of read_b ir a b at f rs read outside base m) ≡ asked (past_b reads mode) ir a (slice_index rs (ir / 2 ^ 10 % 16))
      (place mode (ir / 2 ^ 10 % 16) rs) f rs base m
  unfolding cycle settled driver_of
  at_second Register true outside e g = rw (e, g)
  at_second Indirect true outside e g = rw (e, g)
  at_second PreDecrement true outside e g = rw (e, g, add-zero)
  at_second PostIncrement true outside e g = rw (e, g)
  at_second Register false outside e g = rw (e, g)
  at_second Indirect false outside e g = rw (e, g)
  at_second PreDecrement false outside e g = rw (e, g, add-zero)
  at_second PostIncrement false outside e g = rw (e, g)
