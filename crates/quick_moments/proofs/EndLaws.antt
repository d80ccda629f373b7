-- The run of the step machine that quick code follows ends as the source's meaning does.
use Rattle.std.proofs.Common.{◌≡◌, ℕ, zero, suc, List, Some, None, refl, sym, ap, ◌∙◌}
use Rattle.stack_text.{specs.declared.shape.Shape.Shape, specs.Values.ValueOf}
use Rattle.gypsy_syntax.specs.Programs.{ConditionOf, Leave, Routine, Space, Declared, Program, proc_at, Stmt, Skip, NoOp, Signal, Seq, Loop, If, Begin, Call}
use Rattle.gypsy_syntax.{specs.Programs.Apply, specs.Resolved.program_of, specs.Sources.SourceOf, specs.Effects.{value_at, is_true_value}}
use Rattle.gypsy_space.{specs.Costs.Tally, specs.Needs.{StackSizes, main_used}}
use Rattle.gypsy_semantics.{specs.Calls.{CurrentCondition, is_passed_on, main_way, main_formals, main_start}, specs.Machine.{State, Move, Next, Ended, Ending}}
use Rattle.gypsy_semantics.{specs.Machine.{Over, go_on, run, gypsy_step, start}, specs.Views.Moments.{moment, moved_on}, specs.Meaning.{MeaningOutcome, Done}}
use Rattle.gypsy_semantics.{specs.Meaning.{Unfinished, then_do, either_way, caught, round_end, evaluate, main_end, meaning}, specs.Counted.counted_meaning}
use Rattle.gypsy_semantics.{proofs.CountLaws.meaning-uncounted, proofs.ReachLaws.counted_too, proofs.Runs.agree, proofs.LendingLaws.as_many}
use Rattle.quick_gypsy.{specs.Quick.IsPlain, specs.InLineRuns.{CanLine, lined_start, lined_outcome}, proofs.LinedLaws.calls_are_lined}
use Rattle.quick_gypsy.proofs.PlainLaws.{lined_mains_are_plain}
use Rattle.quick_build.specs.QuickImage.{most_nested, quick_main}
use Rattle.quick_moments.specs.ImageMoments.{quick_program, QuickRunsEnd}

-- a statement without calls means the same in each program
plain_same : (q r : Program) (sizes u v : StackSizes) (shapes : List Shape) (n : ℕ) (s : Stmt) (x : List ValueOf) → IsPlain shapes s
    → evaluate q sizes n s u x ≡ evaluate r sizes n s v x
plain_same q r sizes u v shapes zero s x f = refl
plain_same q r sizes u v shapes (suc n) Skip x f = refl
plain_same q r sizes u v shapes (suc n) (NoOp place) x f = refl
plain_same q r sizes u v shapes (suc n) (Signal place c) x f = refl
plain_same q r sizes u v shapes (suc n) (Seq a b) x f =
    λ i. then_do (plain_same q r sizes u v shapes (suc n) a x f.0 i) (λ y. plain_same q r sizes u v shapes (suc n) b y f.1 i)
plain_same q r sizes u v shapes (suc n) (Loop place s) x f =
    λ i. round_end (plain_same q r sizes u v shapes (suc n) s x f i) (λ y. plain_same q r sizes u v shapes n (Loop place s) y f i)
plain_same q r sizes u v shapes (suc n) (If place b s w) x f =
    λ i. either_way (is_true_value (value_at x b)) (plain_same q r sizes u v shapes (suc n) s x f.1 i) (plain_same q r sizes u v shapes (suc n) w x f.2 i)
plain_same q r sizes u v shapes (suc n) (Begin place s cs w) x f =
    λ i. caught (plain_same q r sizes u v shapes (suc n) s x f.0 i) cs (λ y. plain_same q r sizes u v shapes (suc n) w y f.1 i)
plain_same q r sizes u v shapes (suc n) (Call place p xs cs) x f = absurd f
plain_same q r sizes u v shapes (suc n) (Apply place p args) x f = refl

-- main with its calls in line ends alike, as a program of its own
way_same : (s : SourceOf) (sizes : StackSizes) (c : ConditionOf) → main_way (quick_program s sizes) c ≡ main_way (program_of s) c
unfolding main_way is_passed_on
way_same s sizes Leave = refl
way_same s sizes Routine = refl
way_same s sizes Space = refl
way_same s sizes (Declared i) = refl

end_same : (s : SourceOf) (sizes : StackSizes) (o : MeaningOutcome) → main_end (quick_program s sizes) o ≡ main_end (program_of s) o
unfolding main_formals
end_same s sizes (Done x None) = refl
end_same s sizes (Done x (Some c)) = ap (λ d. Done (main_formals (program_of s) x) (Some d)) (way_same s sizes c)
end_same s sizes Unfinished = refl

-- Moments.

move_ends : (v : Move) (go : State → Ending) (next : State → Move) (x : List ValueOf) (c : CurrentCondition) (t : Tally) → go_on v go ≡ Over x c t
    → ((g : State) → go g ≡ Over x c t → next g ≡ Ended x c t) → moved_on v next ≡ Ended x c t
move_ends (Next g) go next x c t e h = h g e
move_ends (Ended y d u) go next x c t e h =
    let values : y ≡ x = cc in
    let way : d ≡ c = cc in
    let spent : u ≡ t = cc in
    λ i. Ended (values i) (way i) (spent i)

run_moment : (q : Program) (sizes : StackSizes) (j : ℕ) (g : State) (x : List ValueOf) (c : CurrentCondition) (t : Tally)
    → run q sizes j g ≡ Over x c t → moment q sizes j g ≡ Ended x c t
run_moment q sizes zero g x c t e = absurd cc
run_moment q sizes (suc j) g x c t e =
    move_ends (gypsy_step q sizes g) (run q sizes j) (moment q sizes j) x c t e (λ g' f. run_moment q sizes j g' x c t f)

both_end : (v : Move) (one two : State → Move) (x y : List ValueOf) (c d : CurrentCondition) (t u : Tally) → moved_on v one ≡ Ended x c t
    → moved_on v two ≡ Ended y d u → ((g : State) → one g ≡ Ended x c t → two g ≡ Ended y d u → (x ≡ y) × (c ≡ d)) → (x ≡ y) × (c ≡ d)
both_end (Next g) one two x y c d t u e f h = h g e f
both_end (Ended z b w) one two x y c d t u e f h = (cc, cc)

-- a run has one end
pub ended_once : (q : Program) (sizes : StackSizes) (i j : ℕ) (g : State) (x y : List ValueOf) (c d : CurrentCondition) (t u : Tally)
    → moment q sizes i g ≡ Ended x c t → moment q sizes j g ≡ Ended y d u → (x ≡ y) × (c ≡ d)
ended_once q sizes zero j g x y c d t u e f = absurd cc
ended_once q sizes (suc i) zero g x y c d t u e f = absurd cc
ended_once q sizes (suc i) (suc j) g x y c d t u e f =
    both_end (gypsy_step q sizes g) (moment q sizes i) (moment q sizes j) x y c d t u e f
    (λ g' a b. ended_once q sizes i j g' x y c d t u a b)

pub quick_runs_end : QuickRunsEnd
unfolding main_start
quick_runs_end vs s base end sizes values finals way bound accepted can fits done =
    let q = program_of s in
    let r = quick_program s sizes in
    let lines : CanLine q sizes most_nested values = record {
      fits = accepted.fits;
      nests = can.nests;
      number = sym (as_many (proc_at q q.main).formals values fits);
    } in
    let plain = lined_mains_are_plain q sizes most_nested accepted.fits can.nests in
    let same : meaning r sizes values bound ≡ main_end r (lined_outcome q sizes most_nested values bound) =
    ap (main_end r) (plain_same r q sizes (main_used r) (main_used q) _ bound (quick_main s sizes).body (lined_start q sizes most_nested values) plain) in
    let lined : meaning r sizes values bound ≡ Done finals way =
    same ∙ end_same s sizes (lined_outcome q sizes most_nested values bound) ∙ calls_are_lined q sizes most_nested values bound finals way lines done in
    let counted = counted_too (counted_meaning r sizes values bound) finals way (meaning-uncounted r sizes values bound ∙ lined) in
    let ran = (agree r sizes values).done bound finals way counted.0 counted.1 in
    (ran.0, counted.0, run_moment r sizes ran.0 (start r values) finals way counted.0 ran.1)
