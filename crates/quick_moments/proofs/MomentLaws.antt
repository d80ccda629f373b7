-- Each moment of a run: the steps up to it, one after the other.
use Rattle.std.proofs.Common.{◌≡◌, ℕ, zero, suc, ◌+◌, Ok, None, subst, arith}
use Rattle.fm_machine.{specs.State.Fm, specs.Run.{fm_run, Avoids}, proofs.RunLaws.{run_none, avoids_none, run_then, avoids_then}}
use Rattle.fm_code.specs.Execution.{final_pc}
use Rattle.gypsy_syntax.specs.Programs.{Program}
use Rattle.gypsy_semantics.{specs.Calls.CurrentCondition, specs.Machine.{State, Move, Next, Ended, gypsy_step}, specs.Views.Moments.{moment, moved_on}}
use Rattle.quick_moments.{specs.QuickShows.{Site, ShowsQuick}, specs.QuickSteps.{ComesToEnd, ComesToMove, if_next, quick_cost_to, under_way_at}}
use Rattle.quick_moments.{specs.QuickSteps.{under_way_after, QuickMomentsShow}, proofs.StepLaws.quick_steps_show}

module _ (k : Site) (q : Program) where
  -- a run before it
  after_run : (n j : ℕ) (m m' : Fm) (way : CurrentCondition) (v : Move) → fm_run n m ≡ Ok m' → Avoids m (final_pc k.parts) n
      → ComesToMove k q j m' way v → ComesToMove k q (n + j) m way v
  after_run n j m m' way (Next g) r a h =
      record {
        state = h.state;
        runs = run_then n j m m' h.state r h.runs;
        avoids = avoids_then m m' (final_pc k.parts) n j r a h.avoids;
        shows = h.shows;
      }
  after_run n j m m' way (Ended x c t) r a h =
      record {
        values = h.values;
        left = h.left;
        comes = record {
          x3 = h.comes.x3;
          fl = h.comes.fl;
          comes = record {
            state = h.comes.comes.state;
            runs = run_then n j m m' h.comes.comes.state r h.comes.comes.runs;
            avoids = avoids_then m m' (final_pc k.parts) n j r a h.comes.comes.avoids;
            stands = h.comes.comes.stands;
          };
        };
        finals_are = h.finals_are;
        way_is = h.way_is;
      }

  -- a step, and what follows it
  then_moves : (n : ℕ) (m : Fm) (way : CurrentCondition) (v : Move) (cost : State → ℕ) (later : State → CurrentCondition) (next : State → Move)
      → ComesToMove k q n m way v → ((g : State) (m' : Fm) → ShowsQuick k m' way g → ComesToMove k q (cost g) m' (later g) (next g))
      → ComesToMove k q (n + if_next v 0 cost) m (if_next v None later) (moved_on v next)
  then_moves n m way (Next g) cost later next h go =
      after_run n (cost g) m h.state (later g) (next g) h.runs h.avoids (go g h.state h.shows)
  then_moves n m way (Ended x c t) cost later next h go =
      let e : n ≡ n + 0 = omega arith in
      subst (λ i. ComesToEnd k q i m x c) e h

pub quick_moments_show : QuickMomentsShow
quick_moments_show k q sizes m way g zero is h =
    record { state = m; runs = run_none m; avoids = avoids_none m (final_pc k.parts); shows = h }
quick_moments_show k q sizes m way g (suc j) is h =
    then_moves k q _ m (under_way_after g) (gypsy_step q sizes g) (quick_cost_to q sizes k.layout j (under_way_after g))
    (under_way_at q sizes j (under_way_after g)) (moment q sizes j) (quick_steps_show k q sizes m way g is h)
    (λ g' m' s. quick_moments_show k q sizes m' (under_way_after g) g' j is s)
