-- A number of cycles of the module, with the memory beside it.
use Rattle.std.proofs.Common.{◌≡◌, ℕ, zero, suc, ◌==◌, ◌&&◌, false, not, List, ap, ◌∙◌, arith, codes, is_some, unwrap_or, if◌then◌else◌}
use Rattle.std.specs.Int.{from_bool as bit_of}
use Rattle.fm_machine.specs.State.{word_at, with_word}
use Rattle.fm_circuit.specs.declared.wire.Wire.TheVariants as w
use Rattle.fm_circuit.{specs.Board.{Board, cycle, cycles, on_board}, proofs.SizeLaws.fitting}
use Rattle.fm_gates.proofs.WordLaws.{is_one}
use Rattle.verilog_meaning.{specs.Meaning.Snapshot, specs.Laws.{Shows, IsBoardCycle, Answers, IsRun, Runs}, proofs.CycleLaws.means}

stepped : (now next : Snapshot) (b : Board) (before after : List ℕ) → Shows now false b → before ≡ b.memory → IsBoardCycle now next false b →
    Answers now next b.base before after → next.value (codes "reset") ≡ 0 → Shows next false (cycle b) × (after ≡ (cycle b).memory)
unfolding cycle
stepped now next b before after shows same done answers low =
    let writes : (now.value (codes "bus_write") == 1) ≡ (on_board b w.MemoryWrite == 1) = ap (λ x. x == 1) done.write
    ∙ is_one (on_board b w.MemoryWrite == 1) in (
      record {
        kept = done.kept;
        reset = low;
        read = answers.read ∙ (λ j. unwrap_or (word_at b.base (same j) (done.address j)) 0);
        outside = answers.outside ∙ (λ j. bit_of (not (is_some (word_at b.base (same j) (done.address j)))));
      },
      answers.stored
          ∙ (λ j. if writes j && is_some (word_at b.base (same j) (done.address j)) then with_word b.base (same j) (done.address j) (done.out j) else same
          j),
    )

rest : (b : Board) (n : ℕ) (at : ℕ → Snapshot) (memory : ℕ → List ℕ) → IsRun (suc n) at b.base memory →
    IsRun n (λ i. at (suc i)) (cycle b).base (λ i. memory (suc i))
unfolding cycle
rest b n at memory run =
    record {
      cycle = λ i lt. run.cycle (suc i) (omega arith);
      answers = λ i lt. run.answers (suc i) (omega arith);
      reset = λ i lt. run.reset (suc i) (omega arith);
    }

pub runs : Runs
unfolding cycles
runs zero at memory b fits shows same run = (shows, same)
runs (suc n) at memory b fits shows same run =
    let done = means (at 0) (at 1) false b fits shows (run.cycle 0 (omega arith)) in
    let one = stepped (at 0) (at 1) b (memory 0) (memory 1) shows same done (run.answers 0 (omega arith)) (run.reset 0 (omega arith)) in
    runs n (λ i. at (suc i)) (λ i. memory (suc i)) (cycle b) (fitting b fits).1 one.0 one.1 (rest b n at memory run)
