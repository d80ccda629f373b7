-- The board makes the step of its machine.
use Rattle.std.proofs.Common.{◌≡◌, ◌≢◌, ℕ, zero, suc, ◌+◌, ◌-◌, ◌/◌, ◌%◌, ◌^◌, ◌<◌, ◌≤◌, ◌==◌, Bool, true, false, not, List, Option, Some, None, Result, Ok}
use Rattle.std.{proofs.Common.{Err, refl, ap, sym, subst, ◌∙◌, arith, if◌then◌else◌}, proofs.lemmas.Bool.eqb-true, proofs.lemmas.Bool.Decides.nat_tests}
use Rattle.std.{proofs.lemmas.Int.ints, specs.Prelude.{is_some, unwrap_or, slice_index, slice_set}, specs.Int.from_bool as bit_of}
use Rattle.fm_words.{specs.declared.operation.Op.Op, specs.declared.operation.AluOut.AluOut, specs.declared.condition.Cc.Cc}
use Rattle.fm_words.{specs.declared.condition.Flags.Flags, specs.declared.instruction.Mode.Mode, specs.declared.instruction.Mode.TheVariants.Register}
use Rattle.fm_words.{specs.declared.instruction.Mode.TheVariants.{Indirect, PreDecrement, PostIncrement}, specs.declared.instruction.OperandA.OperandA}
use Rattle.fm_words.{specs.declared.instruction.OperandA.TheVariants.{Immediate, Place}, specs.Word.word_of_int, specs.Alu.{alu_of, does_hold}}
use Rattle.fm_words.{specs.Code.{mode_of, imm_of, flags_of, operand_of, decode_of}, specs.Encoding.{op_number, cc_number, mode_number}}
use Rattle.fm_words.proofs.FieldLaws.{op_number_back, cc_number_back, mode_number_back}
use Rattle.fm_machine.{specs.State.{Fm, word_at, with_word}, specs.Step.{then_on, found_word, read_word, with_increment, address_of, registers_after}}
use Rattle.fm_machine.specs.Step.{registers_after_a, value_at, value_a, value_b, reads_b, flags_set, store_at_if, store_result, effect_of, effect_of_rest}
use Rattle.fm_machine.{specs.Step.{effect_of_values, fm_step}, specs.declared.fault.Outside.Outside, proofs.StepLaws.{unread, ending, found_there}}
use Rattle.fm_circuit.{specs.Phases.{fetch, fetched, read_a, read_b, execute, stored, fault}, specs.Board.{Board, cycle, cycles, board_of}}
use Rattle.fm_circuit.specs.Following.{AreWords, HasWords, StandsFor, HasStopped, phase_of, place_cycles, cycles_of_a, cycles_of, cycles_with, step_cycles}
use Rattle.fm_circuit.{specs.Laws.{Steps, Faults}, proofs.PassLaws.{Passes, one, after, same_start}, proofs.PhaseLaws.{asked, place, at_fetch, at_fetched}}
use Rattle.fm_circuit.{proofs.PhaseLaws.{at_fetched_outside, at_second, at_stored, at_stored_outside, at_fault}, proofs.ExecuteLaws.at_execute}
use Rattle.fm_circuit.{proofs.ResultLaws.result_below, proofs.WordFields.reads_bit, proofs.WordsLaws.{words_set, words_after, words_increment, word_found}}
use Rattle.fm_circuit.{proofs.WordsLaws.words_with, proofs.StageLaws.{Reaches, Halts, Comes, answered, IsA, stage_a, place_b}}

-- after k cycles the board stands for a machine
record Lands (now : Board) (k : ℕ) (u : Fm) : Type 0 where
  board : Board
  passes : Passes now k board
  stands : StandsFor board u
  words : HasWords u

halts_sooner : {now : Board} {address : ℕ} (p q : ℕ) → p ≤ q → Halts now p address → Halts now q address
halts_sooner p q le h =
    let few = h.few in
    record {
      count = h.count;
      few = omega arith;
      ir = h.ir;
      x = h.x;
      y = h.y;
      flags = h.flags;
      registers = h.registers;
      read = h.read;
      outside = h.outside;
      base = h.base;
      memory = h.memory;
      passes = h.passes;
    }

halts_after : {now mid : Board} {address : ℕ} (j p q : ℕ) → j + p ≤ q → Passes now j mid → Halts mid p address → Halts now q address
halts_after j p q le first h =
    let few = h.few in
    record {
      count = j + h.count;
      few = omega arith;
      ir = h.ir;
      x = h.x;
      y = h.y;
      flags = h.flags;
      registers = h.registers;
      read = h.read;
      outside = h.outside;
      base = h.base;
      memory = h.memory;
      passes = after j h.count first h.passes;
    }

comes_after : (now mid : Board) (r : Result Fm Outside) (j k p q : ℕ) → j + p ≤ q → Passes now j mid → Comes mid p (λ u. Lands mid k u) r
    → Comes now q (λ u. Lands now (j + k) u) r
comes_after now mid (Ok u) j k p q le first l = record { board = l.board; passes = after j k first l.passes; stands = l.stands; words = l.words }
comes_after now mid (Err e) j k p q le first h = halts_after j p q le first h

then_comes : (now : Board) (P : ℕ → Type 0) (k p q : ℕ) (r : Result ℕ Outside) (go : ℕ → Result Fm Outside) → p ≤ q → Comes now p P r
    → ((x : ℕ) → r ≡ Ok x → P x → Comes now q (λ u. Lands now k u) (go x)) → Comes now q (λ u. Lands now k u) (then_on r go)
then_comes now P k p q (Ok x) go le first next = next x refl first
then_comes now P k p q (Err e) go le first next = halts_sooner p q le first

-- a value has 32 bits
value_below : (s : Fm) (o : Option ℕ) (own x : ℕ) → AreWords s.memory → own < 2 ^ 32 → value_at s o own ≡ Ok x → x < 2 ^ 32
value_below s None own x h p e = let same : own ≡ x = cc in subst (λ v. v < 2 ^ 32) same p
value_below s (Some a) own x h p e = word_found s.base s.memory a x h (found_there (word_at s.base s.memory a) a x e)

-- the first operand of a word
is_a : (w : ℕ) → IsA w (operand_of w)
is_a w = by_test (w / 2 ^ 9 % 2 == 1) refl
  where
    zero_bit : (x : ℕ) → x < 2 → (x == 1) ≡ false → x ≡ 0
    zero_bit x h e = grind (arith, nat_tests)

    by_test : (t : Bool) → (w / 2 ^ 9 % 2 == 1) ≡ t → IsA w (if t then Immediate (imm_of (w % 2 ^ 9)) else Place (mode_of (w / 2 ^ 4 % 4)) (w % 16))
    by_test true e = (eqb-true _ _ e, refl)
    by_test false e = (zero_bit (w / 2 ^ 9 % 2) (omega arith) e, sym (mode_number_back (w / 2 ^ 4 % 4) (omega arith)), refl)

first_below : (s : Fm) (w : ℕ) (o : OperandA) (rs : List ℕ) (x : ℕ) → AreWords s.memory → AreWords rs → IsA w o → value_a s o rs ≡ Ok x → x < 2 ^ 32
first_below s w (Immediate n) rs x h g i e =
    let same : word_of_int n ≡ x = cc in
    subst (λ v. v < 2 ^ 32) (sym i.1 ∙ same) (immediate_below (w % 2 ^ 9) (omega arith))
  where
    immediate_below : (n : ℕ) → n < 512 → word_of_int (imm_of n) < 2 ^ 32
    immediate_below n h = grind (arith, nat_tests, ints)
first_below s w (Place mode r) rs x h g i e = value_below s (address_of mode r rs) (slice_index rs r) x h (g r) e

words_after_a : (o : OperandA) (rs : List ℕ) → AreWords rs → AreWords (registers_after_a o rs)
words_after_a (Immediate n) rs h = h
words_after_a (Place mode r) rs h = words_after mode r rs h

places_few : (mode : Mode) → place_cycles mode ≤ 2
places_few Register = omega arith
places_few Indirect = omega arith
places_few PreDecrement = omega arith
places_few PostIncrement = omega arith

second_few : (t : Bool) (mode : Mode) → (if t then place_cycles mode else 1) ≤ 2
second_few true mode = places_few mode
second_few false mode = omega arith

first_few : (o : OperandA) → cycles_of_a o ≤ 2
first_few (Immediate n) = omega arith
first_few (Place mode r) = places_few mode

-- the second operand, read or not: what the board has, and that it gives the result
record Second (now : Board) (k w a : ℕ) (op : Op) (f : Flags) (rs : List ℕ) (base : ℕ) (m : List ℕ) (x : ℕ) : Type 0 where
  b : ℕ
  below : b < 2 ^ 32
  same : (c : Bool) → alu_of op c a b ≡ alu_of op c a x
  reaches : Reaches now k execute w a b f rs base m

module _ (s : Fm) (w : ℕ) where
  stage_b : (t : Bool) (op : Op) (mode : Mode) (a y at : ℕ) (rs : List ℕ) (read outside : ℕ) → reads_b op ≡ t → w / 2 ^ 24 % 16 ≡ op_number op
      → w / 2 ^ 14 % 4 ≡ mode_number mode → AreWords rs → AreWords s.memory → Comes (board_of read_b w a y at s.flags rs read outside s.base s.memory) 2
      (λ x. Second (board_of read_b w a y at s.flags rs read outside s.base s.memory) (if t then place_cycles mode else 1) w a op s.flags rs s.base
      s.memory x) (if t then value_at s (address_of mode (w / 2 ^ 10 % 16) rs) (slice_index rs (w / 2 ^ 10 % 16)) else Ok 0)
  stage_b true op mode a y at rs read outside h e g words memory =
      with_bound (value_at s (address_of mode (w / 2 ^ 10 % 16) rs) (slice_index rs (w / 2 ^ 10 % 16)))
      (place_b s w s.flags mode a y at rs read outside g (reads_bit op _ e ∙ ap bit_of h))
      (λ x v. value_below s (address_of mode (w / 2 ^ 10 % 16) rs) (slice_index rs (w / 2 ^ 10 % 16)) x memory (words (w / 2 ^ 10 % 16)) v)
    where
      with_bound : (r : Result ℕ Outside) → Comes (board_of read_b w a y at s.flags rs read outside s.base s.memory) 2
          (λ x. Reaches (board_of read_b w a y at s.flags rs read outside s.base s.memory) (place_cycles mode) execute w a x s.flags rs s.base s.memory) r
          → ((x : ℕ) → r ≡ Ok x → x < 2 ^ 32) → Comes (board_of read_b w a y at s.flags rs read outside s.base s.memory) 2
          (λ x. Second (board_of read_b w a y at s.flags rs read outside s.base s.memory) (place_cycles mode) w a op s.flags rs s.base s.memory x) r
      with_bound (Ok x) reaches bound = record { b = x; below = bound x refl; same = λ c. refl; reaches = reaches }
      with_bound (Err e) halts bound = halts
  stage_b false op mode a y at rs read outside h e g words memory =
      record {
        b = slice_index rs (w / 2 ^ 10 % 16);
        below = words (w / 2 ^ 10 % 16);
        same = λ c. unread op c a (slice_index rs (w / 2 ^ 10 % 16)) 0 h;
        reaches = record {
          at = place mode (w / 2 ^ 10 % 16) rs;
          read = unwrap_or (word_at s.base s.memory (place mode (w / 2 ^ 10 % 16) rs)) 0;
          outside = bit_of (not (is_some (word_at s.base s.memory (place mode (w / 2 ^ 10 % 16) rs))));
          passes = one (board_of read_b w a y at s.flags rs read outside s.base s.memory) _ (omega arith)
              (at_second w a y at s.flags rs read s.base s.memory mode false outside g (reads_bit op _ e ∙ ap bit_of h));
        };
      }

  module _ (words : HasWords s) where
    -- a result that goes to memory
    saved : (now : Board) (x y ad word : ℕ) (fl : Flags) (rs : List ℕ) → phase_of now ≢ fetch → AreWords rs → word < 2 ^ 32
        → cycle now ≡ board_of stored w x y ad fl rs (unwrap_or (word_at s.base s.memory ad) 0) (bit_of (not (is_some (word_at s.base s.memory ad))))
        s.base (if is_some (word_at s.base s.memory ad) then with_word s.base s.memory ad word else s.memory)
        → Comes now 2 (λ u. Lands now 2 u) (store_at_if (is_some (word_at s.base s.memory ad)) (record s { registers = rs; flags = fl }) ad word)
    saved now x y ad word fl rs ne good fits e = by_word (word_at s.base s.memory ad) refl
      where
        by_word : (o : Option ℕ) → word_at s.base s.memory ad ≡ o → Comes now 2 (λ u. Lands now 2 u)
            (store_at_if (is_some o) (record s { registers = rs; flags = fl }) ad word)
        by_word (Some v) h =
            let mid : Board = board_of stored w x y ad fl rs v 0 s.base (with_word s.base s.memory ad word) in
            record {
              board = board_of fetch w x y ad fl rs (cycle mid).read (cycle mid).outside s.base (with_word s.base s.memory ad word);
              passes = after 1 1 (one now mid ne (e ∙ ap
                  (λ o. board_of stored w x y ad fl rs (unwrap_or o 0) (bit_of (not (is_some o))) s.base
                  (if is_some o then with_word s.base s.memory ad word else s.memory)) h))
                  (one mid _ (omega arith) (at_stored w x y ad fl rs v s.base (with_word s.base s.memory ad word)));
              stands = record { ir = w; x = x; y = y; at = ad; read = (cycle mid).read; outside = (cycle mid).outside; is = refl };
              words = record { registers = good; memory = words_with s.base s.memory ad word words.memory fits };
            }
        by_word None h =
            let mid : Board = board_of stored w x y ad fl rs 0 1 s.base s.memory in
            record {
              count = 2;
              few = omega arith;
              ir = w;
              x = x;
              y = y;
              flags = fl;
              registers = rs;
              read = (cycle mid).read;
              outside = (cycle mid).outside;
              base = s.base;
              memory = s.memory;
              passes = after 1 1 (one now mid ne (e ∙ ap
                  (λ o. board_of stored w x y ad fl rs (unwrap_or o 0) (bit_of (not (is_some o))) s.base
                  (if is_some o then with_word s.base s.memory ad word else s.memory)) h))
                  (one mid _ (omega arith) (at_stored_outside w x y ad fl rs 0 s.base s.memory));
            }

    -- the end of an instruction
    stage_c : (t : Bool) (op : Op) (mode : Mode) (k : Cc) (a b at : ℕ) (rs : List ℕ) (read outside : ℕ) → does_hold k s.flags ≡ t
        → w / 2 ^ 24 % 16 ≡ op_number op → w / 2 ^ 14 % 4 ≡ mode_number mode → w / 2 ^ 20 % 16 ≡ cc_number k → a < 2 ^ 32 → b < 2 ^ 32 → AreWords rs →
        let r : ℕ = w / 2 ^ 10 % 16 in
        let out : AluOut = alu_of op s.flags.c a b in
        let next : Fm = record s { registers = registers_after mode r rs; flags = flags_set (flags_of (w / 2 ^ 16 % 16)) s.flags out } in
        let now : Board = board_of execute w a b at s.flags rs read outside s.base s.memory in
        Comes now 2 (λ u. Lands now (if t then place_cycles mode else 1) u) (if t then store_result next (address_of mode r rs) r out.word else Ok next)
    stage_c false op mode k a b at rs read outside o e g c p q good =
        record {
          board = asked fetch w a b (place mode (w / 2 ^ 10 % 16) rs) (flags_set (flags_of (w / 2 ^ 16 % 16)) s.flags (alu_of op s.flags.c a b))
              (registers_after mode (w / 2 ^ 10 % 16) rs) s.base s.memory;
          passes = one (board_of execute w a b at s.flags rs read outside s.base s.memory) _ (omega arith)
              (at_execute w a b at s.flags rs read outside s.base s.memory op p q e mode k false g c o);
          stands = record {
            ir = w;
            x = a;
            y = b;
            at = place mode (w / 2 ^ 10 % 16) rs;
            read = unwrap_or (word_at s.base s.memory (place mode (w / 2 ^ 10 % 16) rs)) 0;
            outside =
                bit_of (not (is_some (word_at s.base s.memory (place mode (w / 2 ^ 10 % 16) rs))));
            is = refl;
          };
          words = record { registers = words_after mode (w / 2 ^ 10 % 16) rs good; memory = words.memory };
        }
    stage_c true op Register k a b at rs read outside o e g c p q good =
        record {
          board = asked fetch w a b (slice_index rs (w / 2 ^ 10 % 16)) (flags_set (flags_of (w / 2 ^ 16 % 16)) s.flags (alu_of op s.flags.c a b))
              (slice_set rs (w / 2 ^ 10 % 16) (alu_of op s.flags.c a b).word) s.base s.memory;
          passes = one (board_of execute w a b at s.flags rs read outside s.base s.memory) _ (omega arith)
              (at_execute w a b at s.flags rs read outside s.base s.memory op p q e Register k true g c o);
          stands = record {
            ir = w;
            x = a;
            y = b;
            at = slice_index rs (w / 2 ^ 10 % 16);
            read = unwrap_or (word_at s.base s.memory (slice_index rs (w / 2 ^ 10 % 16))) 0;
            outside =
                bit_of (not (is_some (word_at s.base s.memory (slice_index rs (w / 2 ^ 10 % 16)))));
            is = refl;
          };
          words = record { registers = words_set rs (w / 2 ^ 10 % 16) _ good (result_below op s.flags.c a b p q); memory = words.memory };
        }
    stage_c true op Indirect k a b at rs read outside o e g c p q good =
        saved (board_of execute w a b at s.flags rs read outside s.base s.memory) a b _ _ _ _ (omega arith)
        (words_after Indirect (w / 2 ^ 10 % 16) rs good) (result_below op s.flags.c a b p q)
        (at_execute w a b at s.flags rs read outside s.base s.memory op p q e Indirect k true g c o)
    stage_c true op PreDecrement k a b at rs read outside o e g c p q good =
        saved (board_of execute w a b at s.flags rs read outside s.base s.memory) a b _ _ _ _ (omega arith)
        (words_after PreDecrement (w / 2 ^ 10 % 16) rs good) (result_below op s.flags.c a b p q)
        (at_execute w a b at s.flags rs read outside s.base s.memory op p q e PreDecrement k true g c o)
    stage_c true op PostIncrement k a b at rs read outside o e g c p q good =
        saved (board_of execute w a b at s.flags rs read outside s.base s.memory) a b _ _ _ _ (omega arith)
        (words_after PostIncrement (w / 2 ^ 10 % 16) rs good) (result_below op s.flags.c a b p q)
        (at_execute w a b at s.flags rs read outside s.base s.memory op p q e PostIncrement k true g c o)

    op_is : w / 2 ^ 24 % 16 ≡ op_number (decode_of w).op
    op_is = sym (op_number_back (w / 2 ^ 24 % 16) (omega arith))

    mode_is : w / 2 ^ 14 % 4 ≡ mode_number (decode_of w).mode_b
    mode_is = sym (mode_number_back (w / 2 ^ 14 % 4) (omega arith))

    cc_is : w / 2 ^ 20 % 16 ≡ cc_number (decode_of w).cc
    cc_is = sym (cc_number_back (w / 2 ^ 20 % 16) (omega arith))

    -- the cycles of the three parts
    abbrev of_a : ℕ
    of_a = cycles_of_a (decode_of w).a

    abbrev of_b : ℕ
    of_b = if reads_b (decode_of w).op then place_cycles (decode_of w).mode_b else 1

    abbrev of_c : ℕ
    of_c = if does_hold (decode_of w).cc s.flags then place_cycles (decode_of w).mode_b else 1

    few_a : of_a ≤ 2
    few_a = first_few (decode_of w).a

    few_b : of_b ≤ 2
    few_b = second_few (reads_b (decode_of w).op) (decode_of w).mode_b

    few_c : of_c ≤ 2
    few_c = second_few (does_hold (decode_of w).cc s.flags) (decode_of w).mode_b

    from_read_b : (a y at : ℕ) (rs : List ℕ) (read outside : ℕ) → a < 2 ^ 32 → AreWords rs
        → Comes (board_of read_b w a y at s.flags rs read outside s.base s.memory) 4
        (λ u. Lands (board_of read_b w a y at s.flags rs read outside s.base s.memory) (of_b + of_c) u) (effect_of_rest s (decode_of w) rs a)
    from_read_b a y at rs read outside p good =
        let now : Board = board_of read_b w a y at s.flags rs read outside s.base s.memory in
        then_comes now (λ x. Second now of_b w a (decode_of w).op s.flags rs s.base s.memory x) (of_b + of_c) 2 4 (value_b s (decode_of w) rs)
        (effect_of_values s (decode_of w) rs a) (omega arith)
        (stage_b (reads_b (decode_of w).op) (decode_of w).op (decode_of w).mode_b a y at rs read outside refl op_is mode_is good words.memory)
        (λ x v second. rest x second)
      where
        rest : (x : ℕ) → Second (board_of read_b w a y at s.flags rs read outside s.base s.memory) of_b w a (decode_of w).op s.flags rs s.base s.memory
            x → Comes (board_of read_b w a y at s.flags rs read outside s.base s.memory) 4
            (λ u. Lands (board_of read_b w a y at s.flags rs read outside s.base s.memory) (of_b + of_c) u) (effect_of_values s (decode_of w) rs a x)
        rest x second =
            let now : Board = board_of read_b w a y at s.flags rs read outside s.base s.memory in
            let mid : Board = board_of execute w a second.b second.reaches.at s.flags rs second.reaches.read second.reaches.outside s.base s.memory in
            let le : of_b + 2 ≤ 4 = omega (arith, few_b) in
            subst (λ out. Comes now 4 (λ u. Lands now (of_b + of_c) u) (ending s (decode_of w) rs out)) (second.same s.flags.c)
            (comes_after now mid (ending s (decode_of w) rs (alu_of (decode_of w).op s.flags.c a second.b)) of_b of_c 2 4 le second.reaches.passes
            (stage_c (does_hold (decode_of w).cc s.flags) (decode_of w).op (decode_of w).mode_b (decode_of w).cc a second.b second.reaches.at rs
            second.reaches.read second.reaches.outside refl op_is mode_is cc_is p second.below good))

    from_read_a : (a y at : ℕ) (rs : List ℕ) (read outside : ℕ) → AreWords rs → Comes (board_of read_a w a y at s.flags rs read outside s.base s.memory)
        6 (λ u. Lands (board_of read_a w a y at s.flags rs read outside s.base s.memory) (of_a + (of_b + of_c)) u) (effect_of s (decode_of w) rs)
    from_read_a a y at rs read outside good =
        let now : Board = board_of read_a w a y at s.flags rs read outside s.base s.memory in
        then_comes now (λ x. Reaches now of_a read_b w x y s.flags (registers_after_a (decode_of w).a rs) s.base s.memory) (of_a + (of_b + of_c)) 2 6
        (value_a s (decode_of w).a rs) (effect_of_rest s (decode_of w) (registers_after_a (decode_of w).a rs)) (omega arith)
        (stage_a s w s.flags (decode_of w).a a y at rs read outside (is_a w)) (λ x v reaches. rest x v reaches)
      where
        rest : (x : ℕ) → value_a s (decode_of w).a rs ≡ Ok x → Reaches (board_of read_a w a y at s.flags rs read outside s.base s.memory) of_a read_b w
            x y s.flags (registers_after_a (decode_of w).a rs) s.base s.memory → Comes (board_of read_a w a y at s.flags rs read outside s.base s.memory)
            6 (λ u. Lands (board_of read_a w a y at s.flags rs read outside s.base s.memory) (of_a + (of_b + of_c)) u)
            (effect_of_rest s (decode_of w) (registers_after_a (decode_of w).a rs) x)
        rest x v reaches =
            let now : Board = board_of read_a w a y at s.flags rs read outside s.base s.memory in
            let after_a : List ℕ = registers_after_a (decode_of w).a rs in
            let mid : Board = board_of read_b w x y reaches.at s.flags after_a reaches.read reaches.outside s.base s.memory in
            let le : of_a + 4 ≤ 6 = omega (arith, few_a) in
            comes_after now mid (effect_of_rest s (decode_of w) after_a x) of_a (of_b + of_c) 4 6 le reaches.passes
            (from_read_b x y reaches.at after_a reaches.read reaches.outside (first_below s w (decode_of w).a rs x words.memory good (is_a w) v)
            (words_after_a (decode_of w).a rs good))

-- from the cycle after that of the fetch
module _ (s : Fm) (words : HasWords s) (ir x y : ℕ) where
  abbrev asked_word : Board
  asked_word = asked fetched ir x y (slice_index s.registers 15) s.flags (with_increment s.registers 15) s.base s.memory

  abbrev go_on : ℕ → Result Fm Outside
  go_on word = effect_of s (decode_of word) (with_increment s.registers 15)

  whole : Comes asked_word 7 (λ u. Lands asked_word (step_cycles s - 1) u) (fm_step s)
  whole = by_word (word_at s.base s.memory (slice_index s.registers 15)) refl
    where
      by_word : (o : Option ℕ) → word_at s.base s.memory (slice_index s.registers 15) ≡ o
          → Comes asked_word 7 (λ u. Lands asked_word (cycles_with s.flags (found_word o (slice_index s.registers 15)) - 1) u)
          (then_on (found_word o (slice_index s.registers 15)) go_on)
      by_word (Some w) h =
          let rs : List ℕ = with_increment s.registers 15 in
          let now : Board = board_of fetched ir x y (slice_index s.registers 15) s.flags rs w 0 s.base s.memory in
          let mid : Board = board_of read_a w x y (slice_index s.registers 15) s.flags rs (cycle now).read (cycle now).outside s.base s.memory in
          let first : Passes asked_word 1 mid = same_start
          (ap (λ o. answered fetched ir x y (slice_index s.registers 15) s.flags rs s.base s.memory o) h)
          (one now mid (omega arith) (at_fetched ir x y (slice_index s.registers 15) s.flags rs w s.base s.memory)) in
          let n : 1 + (of_a s w words + (of_b s w words + of_c s w words)) ≡ cycles_of (decode_of w) s.flags - 1 = omega arith in
          subst (λ n. Comes asked_word 7 (λ u. Lands asked_word n u) (go_on w)) n
          (comes_after asked_word mid (go_on w) 1 (of_a s w words + (of_b s w words + of_c s w words)) 6 7 (omega arith) first
          (from_read_a s w words x y (slice_index s.registers 15) rs (cycle now).read (cycle now).outside
          (words_increment s.registers 15 words.registers)))
      by_word None h =
          let rs : List ℕ = with_increment s.registers 15 in
          let now : Board = board_of fetched ir x y (slice_index s.registers 15) s.flags rs 0 1 s.base s.memory in
          record {
            count = 1;
            few = omega arith;
            ir = 0;
            x = x;
            y = y;
            flags = s.flags;
            registers = rs;
            read = (cycle now).read;
            outside = (cycle now).outside;
            base = s.base;
            memory = s.memory;
            passes = same_start (ap (λ o. answered fetched ir x y (slice_index s.registers 15) s.flags rs s.base s.memory o) h)
                (one now _ (omega arith) (at_fetched_outside ir x y (slice_index s.registers 15) s.flags rs 0 s.base s.memory));
          }

few_cycles : (s : Fm) → HasWords s → (1 ≤ step_cycles s) × (step_cycles s ≤ 8)
few_cycles s words = by_word (read_word s (slice_index s.registers 15))
  where
    by_word : (r : Result ℕ Outside) → (1 ≤ cycles_with s.flags r) × (cycles_with s.flags r ≤ 8)
    by_word (Ok w) = (omega arith, omega (arith, few_a s w words, few_b s w words, few_c s w words))
    by_word (Err e) = (omega arith, omega arith)

-- the first cycle, and those after it
busy_after : (b c d : Board) (k : ℕ) → cycle b ≡ c → Passes c k d → (j : ℕ) → 0 < j → j < suc k → phase_of (cycles j b) ≢ fetch
unfolding cycles
busy_after b c d k e p zero lt h = absurd (omega arith)
busy_after b c d k e p (suc j) lt h = subst (λ x. phase_of (cycles j x) ≢ fetch) (sym e) (p.busy j (omega arith))

ends_after : (b c d : Board) (k : ℕ) → cycle b ≡ c → Passes c k d → cycles (suc k) b ≡ d
unfolding cycles
ends_after b c d k e p = ap (cycles k) e ∙ p.ends

pub steps : Steps
steps b s t stands words e =
    let now : Board = asked_word s words stands.ir stands.x stands.y in
    let first : cycle b ≡ now =
    ap cycle stands.is ∙ at_fetch stands.ir stands.x stands.y stands.at s.flags s.registers stands.read s.base s.memory stands.outside in
    let lands : Lands now (step_cycles s - 1) t =
    subst (λ r. Comes now 7 (λ u. Lands now (step_cycles s - 1) u) r) e (whole s words stands.ir stands.x stands.y) in
    let few = few_cycles s words in
    let n : suc (step_cycles s - 1) ≡ step_cycles s = omega (arith, few.0) in
    record {
      there = subst (λ c. StandsFor c t) (sym (ap (λ k. cycles k b) (sym n) ∙ ends_after b now lands.board (step_cycles s - 1) first lands.passes))
          lands.stands;
      busy = λ j p q. busy_after b now lands.board (step_cycles s - 1) first lands.passes j p (omega arith);
      few = few.1;
      words = lands.words;
    }

-- a board that has stopped
stopped_on : (b : Board) (address : ℕ) → HasStopped b address → HasStopped (cycle b) address
stopped_on b address h =
    let now : Board = board_of fault h.ir h.x h.y address h.flags h.registers h.read h.outside h.base h.memory in
    record {
      ir = h.ir;
      x = h.x;
      y = h.y;
      flags = h.flags;
      registers = h.registers;
      read = (cycle now).read;
      outside = (cycle now).outside;
      base = h.base;
      memory = h.memory;
      is = ap cycle h.is ∙ at_fault h.ir h.x h.y address h.flags h.registers h.read h.base h.memory h.outside;
    }

stopped_for : (n : ℕ) (b : Board) (address : ℕ) → HasStopped b address → HasStopped (cycles n b) address
unfolding cycles
stopped_for zero b address h = h
stopped_for (suc n) b address h = stopped_for n (cycle b) address (stopped_on b address h)

pub faults : Faults
faults b s e stands words r =
    let now : Board = asked_word s words stands.ir stands.x stands.y in
    let first : cycle b ≡ now =
    ap cycle stands.is ∙ at_fetch stands.ir stands.x stands.y stands.at s.flags s.registers stands.read s.base s.memory stands.outside in
    let halts : Halts now 7 e.address = subst (λ v. Comes now 7 (λ u. Lands now (step_cycles s - 1) u) v) r (whole s words stands.ir stands.x stands.y) in
    let few = halts.few in
    let end : cycles (suc halts.count) b ≡ board_of fault halts.ir halts.x halts.y e.address halts.flags halts.registers halts.read halts.outside
    halts.base halts.memory = ends_after b now _ halts.count first halts.passes in
    let there : HasStopped (cycles (suc halts.count) b) e.address =
    record {
      ir = halts.ir;
      x = halts.x;
      y = halts.y;
      flags = halts.flags;
      registers = halts.registers;
      read = halts.read;
      outside = halts.outside;
      base = halts.base;
      memory = halts.memory;
      is = end;
    } in
    record {
      count = suc halts.count;
      few = omega arith;
      there = there;
      busy = busy_after b now _ halts.count first halts.passes;
      stays = λ n. stopped_for n (cycles (suc halts.count) b) e.address there;
    }
