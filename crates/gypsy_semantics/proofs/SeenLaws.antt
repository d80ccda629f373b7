-- Steps of what a run shows.
use Rattle.std.proofs.Common.{◌≡◌, ℕ, zero, suc, ◌≤◌, List, refl, sym, subst, ◌∙◌}
use Rattle.stack_text.specs.Values.{ValueOf}
use Rattle.gypsy_syntax.{specs.ProgramFits.ProgramFits, specs.Programs.{Program, proc_at}, specs.ValuesFit.VarsFit}
use Rattle.gypsy_space.specs.Needs.{StackSizes, main_need}
use Rattle.gypsy_semantics.specs.Views.RunView.{StageFits, Finished, IsOfRun, Running, Seen, Stage, after, after_move, answer_of, left_from, left_of, opening}
use Rattle.gypsy_semantics.{specs.Views.RunView.{ran_on, meaning_run}, specs.Kept.MoveFits, specs.Room.{MoveRoom, StateRoom}, specs.Machine.{At, Ended, Move}}
use Rattle.gypsy_semantics.{specs.Machine.{Next, gypsy_step}, specs.declared.answers.Moved.Moved, proofs.Keeping.{start_fits, step_keeps}}
use Rattle.gypsy_semantics.{proofs.LendingLaws.{back_fits, back_words}, proofs.Rooms.{start_room, step_room}}
use Rattle.gypsy_semantics.specs.declared.answers.Moved.TheVariants as moved

-- one more step, made last
pub after_last : (k : ℕ) (v : Seen) → after (suc k) v ≡ left_of (after k v)
unfolding after
after_last zero v = refl
after_last (suc k) v = after_last k (left_of v)

move_same : (v : Seen) (a : Move) → IsOfRun v (after_move v a)
move_same v (Next g) = record { program = refl; sizes = refl; values = refl }
move_same v (Ended x c t) = record { program = refl; sizes = refl; values = refl }

from_same : (v : Seen) (s : Stage) → IsOfRun v (left_from v s)
from_same v (Running g) = move_same v (gypsy_step v.program v.sizes g)
from_same v (Finished x c) = record { program = refl; sizes = refl; values = refl }

pub left_same : (v : Seen) → IsOfRun v (left_of v)
unfolding left_of
left_same v = from_same v v.stage

pub after_same : (k : ℕ) (v : Seen) → IsOfRun v (after k v)
unfolding after
after_same zero v = record { program = refl; sizes = refl; values = refl }
after_same (suc k) v =
    let s = left_same v in
    let t = after_same k (left_of v) in
    record { program = t.program ∙ s.program; sizes = t.sizes ∙ s.sizes; values = t.values ∙ s.values }

by_same : (k : ℕ) (a : Moved) (v : Seen) → ((w : Seen) → IsOfRun w (meaning_run k w).seen) → IsOfRun v (ran_on a v (meaning_run k)).seen
by_same k moved.Moved v rest = rest v
by_same k moved.Ended v rest = record { program = refl; sizes = refl; values = refl }

pub run_same : (k : ℕ) (v : Seen) → IsOfRun v (meaning_run k v).seen
unfolding meaning_run
run_same zero v = record { program = refl; sizes = refl; values = refl }
run_same (suc k) v =
    let s = left_same v in
    let t = by_same k (answer_of v) (left_of v) (run_same k) in
    record { program = t.program ∙ s.program; sizes = t.sizes ∙ s.sizes; values = t.values ∙ s.values }

-- What stages keep.

abbrev pub StageRoom : Program → StackSizes → Stage → Type 0
StageRoom q sizes (Running g) = StateRoom q sizes g
StageRoom q sizes (Finished x c) = Unit {0}

abbrev pub Fits : Seen → Type 0
Fits v = StageFits v.program v.stage × StageRoom v.program v.sizes v.stage

move_fits : (v : Seen) (a : Move) → Fits v → MoveFits v.program a → MoveRoom v.program v.sizes a → Fits (after_move v a)
move_fits v (Next (At p x w fs t)) h f r = ((f.0, f.1, back_fits v.program p x fs f.0 f.2), (r.0, back_words v.program v.sizes p x fs r.1))
move_fits v (Ended x c t) h f r = (f, tt)

from_fits : (v : Seen) (s : Stage) → ProgramFits v.program → Fits v → StageFits v.program s → StageRoom v.program v.sizes s → Fits (left_from v s)
from_fits v (Running g) fits h f r =
    move_fits v (gypsy_step v.program v.sizes g) h (step_keeps v.program v.sizes fits g f) (step_room v.program v.sizes g r)
from_fits v (Finished x c) fits h f r = h

pub left_fits : (v : Seen) → ProgramFits v.program → Fits v → Fits (left_of v)
unfolding left_of
left_fits v fits h = from_fits v v.stage fits h h.0 h.1

pub after_fits : (k : ℕ) (v : Seen) → ProgramFits v.program → Fits v → Fits (after k v)
unfolding after
after_fits zero v fits h = h
after_fits (suc k) v fits h =
    let P : Program → Type 0 = ProgramFits in
    after_fits k (left_of v) (subst P (sym (left_same v).program) fits) (left_fits v fits h)

pub opening_fits : (q : Program) (sizes : StackSizes) (v : List ValueOf) → ProgramFits q → VarsFit (proc_at q q.main).formals v →
    (main_need q).temp ≤ sizes.temp → (main_need q).ctrl ≤ sizes.ctrl → Fits (opening q sizes v)
opening_fits q sizes v fits h temp ctrl = (start_fits q sizes fits v h, start_room q sizes v temp ctrl)
