-- The operands of an instruction, in the cycles that they take.
use Rattle.std.proofs.Common.{◌≡◌, ◌≢◌, ℕ, ◌/◌, ◌%◌, ◌^◌, ◌≤◌, true, not, List, [], ◌∷◌, Option, Some, None, Result, Ok, Err, refl, ap, sym, subst, ◌∙◌, arith}
use Rattle.std.{specs.Prelude.{is_some, unwrap_or, slice_index}, specs.Int.from_bool as bit_of}
use Rattle.fm_words.{specs.declared.condition.Flags.Flags, specs.declared.instruction.Mode.Mode, specs.declared.instruction.Mode.TheVariants.Register}
use Rattle.fm_words.{specs.declared.instruction.Mode.TheVariants.{Indirect, PreDecrement, PostIncrement}, specs.declared.instruction.OperandA.OperandA}
use Rattle.fm_words.{specs.declared.instruction.OperandA.TheVariants.{Immediate, Place}, specs.Word.word_of_int, specs.Code.imm_of, specs.Encoding.mode_number}
use Rattle.fm_machine.{specs.State.{Fm, word_at}, specs.Step.{found_word, value_at, value_a, address_of, registers_after, registers_after_a}}
use Rattle.fm_machine.specs.declared.fault.Outside.{Outside}
use Rattle.fm_circuit.{specs.Phases.{fetch, read_a, got_a, read_b, got_b, execute, fault}, specs.Board.{Board, cycle, board_of}, specs.Following.phase_of}
use Rattle.fm_circuit.{specs.Following.{place_cycles, cycles_of_a}, proofs.PassLaws.{Passes, one, after}, proofs.PhaseLaws.{asked, at_immediate, at_place}}
use Rattle.fm_circuit.{proofs.PhaseLaws.{at_got_a, at_got_a_outside, at_second, at_got_b, at_got_b_outside}, proofs.WordFields.immediate_word}

-- after k cycles the board is in a phase, with this instruction, these operands, flags, registers and window
pub record Reaches (now : Board) (k phase ir a b : ℕ) (f : Flags) (rs : List ℕ) (base : ℕ) (m : List ℕ) : Type 0 where
  pub at : ℕ
  pub read : ℕ
  pub outside : ℕ
  pub passes : Passes now k (board_of phase ir a b at f rs read outside base m)

-- within a number of cycles the board stops at an address
pub record Halts (now : Board) (most address : ℕ) : Type 0 where
  pub count : ℕ
  pub few : count ≤ most
  pub ir : ℕ
  pub x : ℕ
  pub y : ℕ
  pub flags : Flags
  pub registers : List ℕ
  pub read : ℕ
  pub outside : ℕ
  pub base : ℕ
  pub memory : List ℕ
  pub passes : Passes now count (board_of fault ir x y address flags registers read outside base memory)

-- what follows from a value, or that the board stops
abbrev pub Comes : {A : Type 0} → Board → ℕ → (A → Type 0) → Result A Outside → Type 0
Comes now most P (Ok x) = P x
Comes now most P (Err e) = Halts now most e.address

-- a board whose memory was asked, where a word was found and where none was
abbrev pub answered : ℕ → ℕ → ℕ → ℕ → ℕ → Flags → List ℕ → ℕ → List ℕ → Option ℕ → Board
answered phase ir a b at f rs base m o = board_of phase ir a b at f rs (unwrap_or o 0) (bit_of (not (is_some o))) base m

-- a word's first operand is this one
abbrev pub IsA : ℕ → OperandA → Type 0
IsA w (Immediate n) = (w / 2 ^ 9 % 2 ≡ 1) × (word_of_int n ≡ word_of_int (imm_of (w % 2 ^ 9)))
IsA w (Place mode r) = (w / 2 ^ 9 % 2 ≡ 0) × (w / 2 ^ 4 % 4 ≡ mode_number mode) × (r ≡ w % 16)

module _ (s : Fm) (w : ℕ) (f : Flags) where
  -- the word of the first operand comes, or none
  loaded_a : (now : Board) (a y ad : ℕ) (rs : List ℕ) → phase_of now ≢ fetch → cycle now ≡ asked got_a w a y ad f rs s.base s.memory
      → Comes now 2 (λ x. Reaches now 2 read_b w x y f rs s.base s.memory) (found_word (word_at s.base s.memory ad) ad)
  loaded_a now a y ad rs ne e = by_word (word_at s.base s.memory ad) refl
    where
      by_word : (o : Option ℕ) → word_at s.base s.memory ad ≡ o → Comes now 2 (λ x. Reaches now 2 read_b w x y f rs s.base s.memory) (found_word o ad)
      by_word (Some x) h =
          let mid : Board = board_of got_a w a y ad f rs x 0 s.base s.memory in
          record {
            at = ad;
            read = (cycle mid).read;
            outside = (cycle mid).outside;
            passes = after 1 1 (one now _ ne (e ∙ ap (λ o. answered got_a w a y ad f rs s.base s.memory o) h))
                (one mid _ (omega arith) (at_got_a w a y ad f rs x s.base s.memory));
          }
      by_word None h =
          let mid : Board = board_of got_a w a y ad f rs 0 1 s.base s.memory in
          record {
            count = 2;
            few = omega arith;
            ir = w;
            x = 0;
            y = y;
            flags = f;
            registers = rs;
            read = (cycle mid).read;
            outside = (cycle mid).outside;
            base = s.base;
            memory = s.memory;
            passes = after 1 1 (one now _ ne (e ∙ ap (λ o. answered got_a w a y ad f rs s.base s.memory o) h))
                (one mid _ (omega arith) (at_got_a_outside w a y ad f rs 0 s.base s.memory));
          }

  place_a : (mode : Mode) (a y at : ℕ) (rs : List ℕ) (read outside : ℕ) → w / 2 ^ 9 % 2 ≡ 0 → w / 2 ^ 4 % 4 ≡ mode_number mode
      → Comes (board_of read_a w a y at f rs read outside s.base s.memory) 2
      (λ x. Reaches (board_of read_a w a y at f rs read outside s.base s.memory) (place_cycles mode) read_b w x y f (registers_after mode (w % 16) rs)
      s.base s.memory) (value_at s (address_of mode (w % 16) rs) (slice_index rs (w % 16)))
  place_a Register a y at rs read outside e g =
      record {
        at = slice_index rs (w % 16);
        read = unwrap_or (word_at s.base s.memory (slice_index rs (w % 16))) 0;
        outside = bit_of (not (is_some (word_at s.base s.memory (slice_index rs (w % 16)))));
        passes = one (board_of read_a w a y at f rs read outside s.base s.memory) _ (omega arith)
            (at_place w a y at f rs read s.base s.memory Register outside e g);
      }
  place_a Indirect a y at rs read outside e g =
      loaded_a (board_of read_a w a y at f rs read outside s.base s.memory) _ y _ _ (omega arith)
      (at_place w a y at f rs read s.base s.memory Indirect outside e g)
  place_a PreDecrement a y at rs read outside e g =
      loaded_a (board_of read_a w a y at f rs read outside s.base s.memory) _ y _ _ (omega arith)
      (at_place w a y at f rs read s.base s.memory PreDecrement outside e g)
  place_a PostIncrement a y at rs read outside e g =
      loaded_a (board_of read_a w a y at f rs read outside s.base s.memory) _ y _ _ (omega arith)
      (at_place w a y at f rs read s.base s.memory PostIncrement outside e g)

  -- the first operand
  pub stage_a : (o : OperandA) (a y at : ℕ) (rs : List ℕ) (read outside : ℕ) → IsA w o
      → Comes (board_of read_a w a y at f rs read outside s.base s.memory) 2
      (λ x. Reaches (board_of read_a w a y at f rs read outside s.base s.memory) (cycles_of_a o) read_b w x y f (registers_after_a o rs) s.base
      s.memory) (value_a s o rs)
  stage_a (Immediate n) a y at rs read outside i =
      let now : Board = board_of read_a w a y at f rs read outside s.base s.memory in
      record {
        at = slice_index rs (w % 16);
        read = (cycle now).read;
        outside = (cycle now).outside;
        passes = one now _ (omega arith) (at_immediate w a y at f rs read s.base s.memory outside i.0
            ∙ ap (λ v. board_of read_b w v y (slice_index rs (w % 16)) f rs (cycle now).read (cycle now).outside s.base s.memory)
            (immediate_word w ∙ sym i.1));
      }
  stage_a (Place mode r) a y at rs read outside i =
      subst (λ q. Comes (board_of read_a w a y at f rs read outside s.base s.memory) 2
      (λ x. Reaches (board_of read_a w a y at f rs read outside s.base s.memory) (place_cycles mode) read_b w x y f (registers_after mode q rs)
      s.base s.memory) (value_at s (address_of mode q rs) (slice_index rs q))) (sym i.2) (place_a mode a y at rs read outside i.0 i.1)

  -- the word of the second operand comes, or none
  loaded_b : (now : Board) (a y ad : ℕ) (rs : List ℕ) → phase_of now ≢ fetch → cycle now ≡ asked got_b w a y ad f rs s.base s.memory
      → Comes now 2 (λ x. Reaches now 2 execute w a x f rs s.base s.memory) (found_word (word_at s.base s.memory ad) ad)
  loaded_b now a y ad rs ne e = by_word (word_at s.base s.memory ad) refl
    where
      by_word : (o : Option ℕ) → word_at s.base s.memory ad ≡ o → Comes now 2 (λ x. Reaches now 2 execute w a x f rs s.base s.memory) (found_word o ad)
      by_word (Some x) h =
          let mid : Board = board_of got_b w a y ad f rs x 0 s.base s.memory in
          record {
            at = ad;
            read = (cycle mid).read;
            outside = (cycle mid).outside;
            passes = after 1 1 (one now _ ne (e ∙ ap (λ o. answered got_b w a y ad f rs s.base s.memory o) h))
                (one mid _ (omega arith) (at_got_b w a y ad f rs x s.base s.memory));
          }
      by_word None h =
          let mid : Board = board_of got_b w a y ad f rs 0 1 s.base s.memory in
          record {
            count = 2;
            few = omega arith;
            ir = w;
            x = a;
            y = 0;
            flags = f;
            registers = rs;
            read = (cycle mid).read;
            outside = (cycle mid).outside;
            base = s.base;
            memory = s.memory;
            passes = after 1 1 (one now _ ne (e ∙ ap (λ o. answered got_b w a y ad f rs s.base s.memory o) h))
                (one mid _ (omega arith) (at_got_b_outside w a y ad f rs 0 s.base s.memory));
          }

  -- the second operand where it is read
  pub place_b : (mode : Mode) (a y at : ℕ) (rs : List ℕ) (read outside : ℕ) → w / 2 ^ 14 % 4 ≡ mode_number mode
      → slice_index (0 ∷ 0 ∷ 1 ∷ 1 ∷ 0 ∷ 0 ∷ 1 ∷ 1 ∷ 0 ∷ 0 ∷ 0 ∷ 1 ∷ 1 ∷ 1 ∷ 0 ∷ 0 ∷ []) (w / 2 ^ 24 % 16) ≡ 1
      → Comes (board_of read_b w a y at f rs read outside s.base s.memory) 2
      (λ x. Reaches (board_of read_b w a y at f rs read outside s.base s.memory) (place_cycles mode) execute w a x f rs s.base s.memory)
      (value_at s (address_of mode (w / 2 ^ 10 % 16) rs) (slice_index rs (w / 2 ^ 10 % 16)))
  place_b Register a y at rs read outside g h =
      record {
        at = slice_index rs (w / 2 ^ 10 % 16);
        read = unwrap_or (word_at s.base s.memory (slice_index rs (w / 2 ^ 10 % 16))) 0;
        outside = bit_of (not (is_some (word_at s.base s.memory (slice_index rs (w / 2 ^ 10 % 16)))));
        passes = one (board_of read_b w a y at f rs read outside s.base s.memory) _ (omega arith)
            (at_second w a y at f rs read s.base s.memory Register true outside g h);
      }
  place_b Indirect a y at rs read outside g h =
      loaded_b (board_of read_b w a y at f rs read outside s.base s.memory) a _ _ _ (omega arith)
      (at_second w a y at f rs read s.base s.memory Indirect true outside g h)
  place_b PreDecrement a y at rs read outside g h =
      loaded_b (board_of read_b w a y at f rs read outside s.base s.memory) a _ _ _ (omega arith)
      (at_second w a y at f rs read s.base s.memory PreDecrement true outside g h)
  place_b PostIncrement a y at rs read outside g h =
      loaded_b (board_of read_b w a y at f rs read outside s.base s.memory) a _ _ _ (omega arith)
      (at_second w a y at f rs read s.base s.memory PostIncrement true outside g h)
