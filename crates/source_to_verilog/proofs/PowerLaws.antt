-- What the printed module does from a reset on.
use Rattle.std.proofs.Common.{◌≡◌, ℕ, zero, suc, ◌==◌, ◌&&◌, ◌<◌, ◌≤◌, ◌^◌, true, false, not, List, [], ◌∷◌, map, ap, refl, sym, subst, ◌∙◌, arith, codes}
use Rattle.std.{proofs.Common.{is_some, unwrap_or, if◌then◌else◌}, specs.Prelude.{slice_index, IfOk}, specs.Int.from_bool as bit_of}
use Rattle.stack_text.specs.Values.{ValueOf}
use Rattle.fm_words.specs.Code.{no_flags}
use Rattle.fm_machine.specs.State.{Fm, word_at, with_word}
use Rattle.fm_image.specs.Image.{ImageOf}
use Rattle.fm_loader.specs.Loaded.{loaded}
use Rattle.fm_circuit.{specs.declared.wire.Wire.Wire, specs.Board.{Board, cycles, reset_cycle, registers}, specs.Following.{AreWords, HasWords, StandsFor}}
use Rattle.fm_circuit.{specs.Following.IsAt, specs.Laws.machine_of, specs.Sizes.{FitWidths, FitsBoard, input_widths}, specs.Widths.width_of}
use Rattle.fm_circuit.{proofs.RunningLaws.begins, proofs.SizeLaws.fitting}
use Rattle.fm_circuit.specs.declared.wire.Wire.TheVariants as w
use Rattle.fm_gates.specs.Gates.{file_numbers}
use Rattle.fm_verilog.specs.WireNames.{name_of}
use Rattle.verilog_meaning.{specs.Meaning.Snapshot, specs.Laws.{Shows, IsBoardCycle, Answers, IsRun}, proofs.CycleLaws.means, proofs.RunLaws.runs}
use Rattle.display_maps.specs.Reading.{ReadingOf}
use Rattle.gypsy_syntax.specs.Sources.{SourceOf}
use Rattle.gypsy_space.specs.Needs.{StackSizes, stack_sizes}
use Rattle.stack_build.{specs.Implements.{Implements, meaning_shown}, specs.Image.image_of, specs.Build.BuildsText, specs.Joined.BuiltImplements}
use Rattle.board_images.{specs.OnBoard.{ComesOnBoard, cycles_to}, proofs.LoadedLaws.loaded_words, proofs.BoardLaws.spelled_on_board}
use Rattle.source_to_verilog.specs.SourceToVerilog.{PowersUp, FetchesAt, ComesInVerilog, ImageRunsInVerilog, TextRunsInVerilog}

-- 1. The board that a snapshot shows.

abbrev board_at : Snapshot → ℕ → List ℕ → Board
board_at now base memory = record {
  kept = record { registers = map (λ wire. now.value (name_of wire)) registers; file = map (now.word (codes "file")) file_numbers };
  read = now.value (codes "bus_read");
  outside = now.value (codes "bus_outside");
  base = base;
  memory = memory;
}

wires_fit : (value : Wire → ℕ) (bits : (wire : Wire) → value wire < 2 ^ width_of wire) (wires : List Wire)
    → FitWidths (map width_of wires) (map value wires)
wires_fit value bits [] i = omega arith
wires_fit value bits (wire ∷ wires) zero = bits wire
wires_fit value bits (wire ∷ wires) (suc i) = wires_fit value bits wires i

inputs_fit : (read outside : ℕ) → read < 2 ^ 32 → outside < 2 → FitWidths input_widths (read ∷ outside ∷ [])
inputs_fit read outside r o zero = r
inputs_fit read outside r o (suc zero) = o
inputs_fit read outside r o (suc (suc i)) = omega arith

board_fits : (now : Snapshot) (base : ℕ) (memory : List ℕ) (s : Fm) → PowersUp now memory s → HasWords s → FitsBoard (board_at now base memory)
board_fits now base memory s up words = record {
  registers = wires_fit (λ wire. now.value (name_of wire)) up.bits registers;
  file = subst AreWords (sym up.file) words.registers;
  inputs = inputs_fit (now.value (codes "bus_read")) (now.value (codes "bus_outside")) up.read up.outside;
  memory = subst AreWords (sym up.memory_words) words.memory;
}

shows_board : (now : Snapshot) (base : ℕ) (memory : List ℕ) (s : Fm) → PowersUp now memory s → Shows now true (board_at now base memory)
shows_board now base memory s up = record { kept = record { registers = refl; file = refl }; reset = up.reset; read = refl; outside = refl }

-- 2. The cycle with the reset.

reset_made : (now next : Snapshot) (b : Board) (before after : List ℕ) → before ≡ b.memory → IsBoardCycle now next true b →
    Answers now next b.base before after → next.value (codes "reset") ≡ 0 → Shows next false (reset_cycle b) × (after ≡ (reset_cycle b).memory)
unfolding reset_cycle
reset_made now next b before after same done answers low = (
  record {
    kept = done.kept;
    reset = low;
    read = answers.read ∙ (λ j. unwrap_or (word_at b.base (same j) (done.address j)) 0);
    outside = answers.outside ∙ (λ j. bit_of (not (is_some (word_at b.base (same j) (done.address j)))));
  },
  answers.stored
      ∙ (λ j. if (done.write j == 1) && is_some (word_at b.base (same j) (done.address j)) then with_word b.base (same j) (done.address j) (done.out j)
      else same j),
)

-- the cycles after the first, or the first of those
later : (n k base : ℕ) (at : ℕ → Snapshot) (memory : ℕ → List ℕ) → k ≤ n → IsRun (suc n) at base memory →
    IsRun k (λ i. at (suc i)) base (λ i. memory (suc i))
later n k base at memory few run = record {
  cycle = λ i lt. run.cycle (suc i) (omega (arith, lt, few));
  answers = λ i lt. run.answers (suc i) (omega (arith, lt, few));
  reset = λ i lt. run.reset (suc i) (omega (arith, lt, few));
}

reset_base : (b : Board) → (reset_cycle b).base ≡ b.base
unfolding reset_cycle
reset_base b = refl

-- 3. From the reset on the module shows what the board is.

module _ (n : ℕ) (at : ℕ → Snapshot) (memory : ℕ → List ℕ) (base : ℕ) (s : Fm) (up : PowersUp (at 0) (memory 0) s) (words : HasWords s)
    (run : IsRun (suc n) at base memory) where
  abbrev first : Board
  first = board_at (at 0) base (memory 0)

  begun : Shows (at 1) false (reset_cycle first) × (memory 1 ≡ (reset_cycle first).memory)
  begun = reset_made (at 0) (at 1) first (memory 0) (memory 1) refl
      (means (at 0) (at 1) true first (board_fits (at 0) base (memory 0) s up words) (shows_board (at 0) base (memory 0) s up)
      (run.cycle 0 (omega arith))) (run.answers 0 (omega arith)) (run.reset 0 (omega arith))

  shown_after : (k : ℕ) → k ≤ n → Shows (at (suc k)) false (cycles k (reset_cycle first)) × (memory (suc k) ≡ (cycles k (reset_cycle first)).memory)
  shown_after k few =
      runs k (λ i. at (suc i)) (λ i. memory (suc i)) (reset_cycle first)
      (fitting first (board_fits (at 0) base (memory 0) s up words)).2 begun.0 begun.1
      (subst (λ b. IsRun k (λ i. at (suc i)) b (λ i. memory (suc i))) (sym (reset_base first)) (later n k base at memory few run))

-- a snapshot that shows a board fetches where the board does
shows_at : (now : Snapshot) (b : Board) (pc : ℕ) → Shows now false b → IsAt pc b → FetchesAt pc now
shows_at now b pc shows is = record {
  phase = ap (λ xs. slice_index xs 0) shows.kept.registers ∙ is.0;
  at = ap (λ xs. slice_index xs 15) shows.kept.file ∙ is.1;
}

at_shown : (now : Snapshot) (b : Board) (pc : ℕ) → Shows now false b → FetchesAt pc now → IsAt pc b
at_shown now b pc shows is = (
  sym (ap (λ xs. slice_index xs 0) shows.kept.registers) ∙ is.phase,
  sym (ap (λ xs. slice_index xs 15) shows.kept.file) ∙ is.at,
)

-- 4. The image's machine.

flags_none : (source : SourceOf) (sizes : StackSizes) (base : ℕ) → (image_of source sizes base).flags ≡ no_flags
unfolding image_of
flags_none source sizes base = refl

machine_is : (now : Snapshot) (memory : List ℕ) (image : ImageOf) (values : List ValueOf) → image.flags ≡ no_flags
    → PowersUp now memory (loaded image values) → machine_of (board_at now image.base memory) ≡ loaded image values
machine_is now memory image values none up =
    λ i. record { registers = up.file i; flags = sym none i; base = image.base; memory = up.memory_words i }

comes : (image : ImageOf) (values : List ValueOf) (count : ℕ) (read : ReadingOf) (at : ℕ → Snapshot) (memory : ℕ → List ℕ)
    → HasWords (loaded image values) → PowersUp (at 0) (memory 0) (loaded image values)
    → IsRun (suc (cycles_to image values count)) at image.base memory
    → ComesOnBoard (reset_cycle (board_at (at 0) image.base (memory 0))) image values count read
    → ComesInVerilog at memory image values count read
comes image values count read at memory words up run on =
    let n : ℕ = cycles_to image values count in
    let s : Fm = loaded image values in
    let b : Board = reset_cycle (board_at (at 0) image.base (memory 0)) in
    let shown = shown_after n at memory image.base s up words run n (omega arith) in
    record {
      there = shows_at (at (suc n)) (cycles n b) image.final_pc shown.0 on.at;
      few = on.stands.few;
      before = λ j lt is. on.stands.before j lt
          (at_shown (at (suc j)) (cycles j b) image.final_pc (shown_after n at memory image.base s up words run j (omega (arith, lt))).0 is);
      state = on.state;
      registers = shown.0.kept.file ∙ ap (λ (c : Board). c.kept.file) on.stands.there.is;
      memory_words = shown.1 ∙ ap (λ (c : Board). c.memory) on.stands.there.is;
      reads = on.reads;
    }

pub image_runs_in_verilog : ImageRunsInVerilog
image_runs_in_verilog bytes image source sizes values finals way count at memory spells none implements fits done up run =
    let b : Board = board_at (at 0) image.base (memory 0) in
    let stands : StandsFor (reset_cycle b) (loaded image values) =
    subst (StandsFor (reset_cycle b)) (machine_is (at 0) (memory 0) image values none up) (begins b) in
    comes image values count (meaning_shown source finals way) at memory
    (loaded_words image source values spells.registers spells.words fits) up run
    ((spelled_on_board bytes image source sizes spells).runs implements values finals way count (reset_cycle b) fits done stands)

pub text_runs_in_verilog : BuiltImplements → TextRunsInVerilog
text_runs_in_verilog implements text ctrl temp base source made values finals way count at memory long high is e fits done up run =
    let builds : BuildsText text ctrl temp made = subst (λ r. IfOk r (BuildsText text ctrl temp)) e (implements text ctrl temp base long high) in
    let none : made.image.flags ≡ no_flags =
    ap (λ (i : ImageOf). i.flags) builds.builds.is ∙ flags_none builds.source (stack_sizes ctrl temp) builds.builds.base in
    let same : builds.source ≡ source = cc (builds.read, is) in
    image_runs_in_verilog made.bytes made.image source (stack_sizes ctrl temp) values finals way count at memory builds.builds.spells none
    (subst (λ s. Implements made.image s (stack_sizes ctrl temp)) same builds.builds.implements) fits done up run
