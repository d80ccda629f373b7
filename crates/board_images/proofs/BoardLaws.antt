-- What images do on a board.
use Rattle.std.{proofs.Common.{◌≡◌, ℕ, zero, suc, ◌+◌, ◌≤◌, List, Result, Ok, Err, refl, sym, ap, subst, ◌∙◌, arith}, specs.Prelude.{IfOk, option_map}}
use Rattle.stack_text.specs.Values.{ValueOf}
use Rattle.fm_machine.{specs.State.Fm, specs.Step.{then_on, read_word, fm_step}, specs.Run.{fm_run, pc_of, Avoids}, specs.Outcome.{IsOutcome, RunOutcome}}
use Rattle.fm_machine.{specs.Outcome.outcome, specs.declared.fault.Outside.Outside, specs.declared.processor.Run.Run, proofs.RunLaws.outcome_is}
use Rattle.fm_machine.specs.declared.processor.Run.TheVariants as run
use Rattle.fm_image.{specs.Image.ImageOf, specs.Spelling.Spelled}
use Rattle.fm_loader.specs.Loaded.{loaded}
use Rattle.fm_circuit.{specs.Board.{Board, cycles}, specs.Following.{StandsFor, IsAt, if_ok, cycles_with, step_cycles, run_cycles}, proofs.RunningLaws.runs}
use Rattle.fm_circuit.proofs.RunningLaws.{avoided, at_address}
use Rattle.display_maps.specs.Reading.{ReadingOf}
use Rattle.gypsy_syntax.{specs.Sources.SourceOf, specs.Resolved.program_of}
use Rattle.gypsy_space.{specs.Costs.Tally, specs.Needs.{StackSizes, stack_sizes}}
use Rattle.gypsy_semantics.{specs.Calls.CurrentCondition, specs.Counted.{CountedOutcome, CountedDone, CountedUnfinished, counted_meaning, uncounted, tally_of}}
use Rattle.gypsy_semantics.{specs.Machine.{At, Move, Next, Ended}, specs.Meaning.{Done, meaning}, proofs.CountLaws.meaning-uncounted}
use Rattle.gypsy_codegen.specs.Moments.{moment_from}
use Rattle.stack_build.{specs.Implements.{FitsFormals, Finishes}, specs.ComesTo.ComesTo, specs.Moments.ArrivesAt, specs.Build.BuildsText}
use Rattle.stack_build.specs.Joined.{BuiltImplements}
use Rattle.board_images.specs.OnBoard.{StandsAfter, ComesOnBoard, ArrivesOnBoard, RunsOnBoard, KeepsMomentsOnBoard, StaysUnfinishedOnBoard, SpelledOnBoard}
use Rattle.board_images.{specs.OnBoard.{BuiltRunsOnBoard, cycles_to}, proofs.LoadedLaws.loaded_words}

-- a meaning that is done has a count
finishes : (source : SourceOf) (sizes : StackSizes) (values finals : List ValueOf) (way : CurrentCondition) (bound : ℕ)
    → meaning (program_of source) sizes values bound ≡ Done finals way
    → (count : ℕ) × Finishes source sizes values finals way count
finishes source sizes values finals way bound done =
    by_counted (counted_meaning (program_of source) sizes values bound) refl (meaning-uncounted (program_of source) sizes values bound ∙ done)
  where
    by_counted : (o : CountedOutcome) → counted_meaning (program_of source) sizes values bound ≡ o → uncounted o ≡ Done finals way → (count : ℕ)
        × Finishes source sizes values finals way count
    by_counted (CountedDone x c t) is same = (
      t.count,
      record { bound = bound; done = done; counted = ap (λ (o : CountedOutcome). option_map (λ (t : Tally). t.count) (tally_of o)) is },
    )
    by_counted CountedUnfinished is same = absurd cc

-- so many steps take at least so many cycles
takes_some : (s : Fm) → 1 ≤ step_cycles s
takes_some s = by_word (read_word s (pc_of s))
  where
    by_word : (r : Result ℕ Outside) → 1 ≤ cycles_with s.flags r
    by_word (Ok w) = omega arith
    by_word (Err e) = omega arith

takes : (k : ℕ) (s t : Fm) → fm_run k s ≡ Ok t → k ≤ run_cycles k s
unfolding fm_run run_cycles
takes zero s t e = omega arith
takes (suc k) s t e = by_step (λ u g. takes k u t g) (fm_step s) refl e
  where
    by_step : ((u : Fm) → fm_run k u ≡ Ok t → k ≤ run_cycles k u) → (r : Result Fm Outside) → fm_step s ≡ r → then_on r (fm_run k) ≡ Ok t
        → suc k ≤ run_cycles (suc k) s
    by_step again (Ok u) h g =
        let n : run_cycles (suc k) s ≡ step_cycles s + run_cycles k u = ap (λ r. step_cycles s + if_ok r (run_cycles k)) h in
        let some = takes_some s in
        let rest = again u g in
        omega (arith, n, some, rest)
    by_step again (Err f) h g = absurd (let no : Err f ≡ Ok t = g in cc)

module _ (bytes : List ℕ) (image : ImageOf) (source : SourceOf) (spells : Spelled bytes image) (values : List ValueOf)
    (fits : FitsFormals source values) (b : Board) (stands : StandsFor b (loaded image values)) where
  -- a run that keeps off the final program counter
  stands_after : (count : ℕ) (state : Fm) → fm_run count (loaded image values) ≡ Ok state → Avoids (loaded image values) image.final_pc count
      → StandsAfter b image values count state
  stands_after count state reached avoids =
      let words = loaded_words image source values spells.registers spells.words fits in
      let made = runs b (loaded image values) count state stands words reached in
      record {
        there = made.there;
        few = made.few;
        before = avoided count b (loaded image values) state image.final_pc stands words reached avoids;
      }

  comes_on_board : (count : ℕ) (read : ReadingOf) → ComesTo image values count read → ComesOnBoard b image values count read
  comes_on_board count read comes =
      let after = stands_after count comes.state comes.first.reached comes.first.before in
      let at = at_address (cycles (cycles_to image values count) b) comes.state after.there in
      record { state = comes.state; stands = after; at = (at.0, at.1 ∙ comes.first.there); reads = comes.reads }

  arrives_on_board : (sizes : StackSizes) (move : Move) → ArrivesAt source sizes image values move → ArrivesOnBoard b source sizes image values move
  arrives_on_board sizes (Next (At p x w fs t)) arrives =
      let after = stands_after t.count arrives.state arrives.reached (λ i u below run. arrives.goes_on i u (omega arith) run) in
      let at = at_address (cycles (cycles_to image values t.count) b) arrives.state after.there in
      record {
        state = arrives.state;
        stands = after;
        goes_on = λ is. arrives.goes_on t.count arrives.state (omega arith) arrives.reached (sym at.1 ∙ is.1);
        reads = arrives.reads;
      }
  arrives_on_board sizes (Ended x c t) arrives = comes_on_board t.count _ arrives.comes

  -- a run that is unfinished at each budget
  never_at_end : ((budget : ℕ) → (outcome budget image.final_pc (loaded image values)).run ≡ run.Spent) → (j : ℕ) → ¬ (IsAt image.final_pc (cycles j b))
  never_at_end unfinished j is =
      let o : RunOutcome = outcome (suc j) image.final_pc (loaded image values) in
      let spent : IsOutcome (loaded image values) image.final_pc (suc j) run.Spent o.state =
      subst (λ (r : Run). IsOutcome (loaded image values) image.final_pc (suc j) r o.state) (unfinished (suc j))
      (outcome_is (loaded image values) image.final_pc (suc j)) in
      let after = stands_after (suc j) o.state spent.0 (λ i u below. spent.1 i u (omega arith)) in
      after.before j (omega (arith, takes (suc j) (loaded image values) o.state spent.0)) is

pub spelled_on_board : SpelledOnBoard
spelled_on_board bytes image source sizes spells =
    record {
      runs = λ implements values finals way count b fits done stands. comes_on_board bytes image source spells values fits b stands count
          _ (implements values finals way count fits done);
      moments = λ keeps values k b fits stands. arrives_on_board bytes image source spells values fits b stands sizes
          (moment_from (program_of source) sizes values k) (keeps values k fits);
      unfinished =
          λ stays values b j fits never stands. never_at_end bytes image source spells values fits b stands (λ budget. stays values budget fits never) j;
      carries = λ implements program means values finals way bound b fits done stands.
          let counted = finishes source sizes values finals way bound (means sizes values bound fits ∙ done) in
          (counted.0, comes_on_board bytes image source spells values fits b stands counted.0 _ (implements values finals way counted.0 fits counted.1));
    }

pub built_on_board : BuiltImplements → BuiltRunsOnBoard
built_on_board implements text ctrl temp base source made long high is e =
    let builds : BuildsText text ctrl temp made = subst (λ r. IfOk r (BuildsText text ctrl temp)) e (implements text ctrl temp base long high) in
    let same : builds.source ≡ source = cc (builds.read, is) in
    let laws = spelled_on_board made.bytes made.image builds.source (stack_sizes ctrl temp) builds.builds.spells in
    subst (λ s. RunsOnBoard made.image s (stack_sizes ctrl temp) × KeepsMomentsOnBoard made.image s (stack_sizes ctrl temp)
    × StaysUnfinishedOnBoard made.image s (stack_sizes ctrl temp)) same
    (laws.runs builds.builds.implements, laws.moments builds.builds.moments, laws.unfinished builds.builds.unfinished)
