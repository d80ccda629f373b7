-- The step that ends a run.
use Rattle.std.{proofs.Common.{◌≡◌, ℕ, List, [], ◌∷◌, length, map, take, Bool, true, false, Some, refl, sym, ap, ◌∙◌}, proofs.lemmas.List.take-map}
use Rattle.std.specs.Global.{Vec}
use Rattle.stack_text.{specs.declared.name.Name.Name, specs.declared.value.Value.Value}
use Rattle.gypsy_syntax.specs.Programs.{ConditionOf, proc_at}
use Rattle.gypsy_space.{specs.Costs.{Tally, spend, main_spend, start_tally}, specs.Nodes.{seen_cond, seen_program}, specs.Events.event_count}
use Rattle.gypsy_space.{specs.declared.need.Need.Need, specs.declared.program.Condition.Condition}
use Rattle.gypsy_space.specs.declared.event.CostEvent.TheVariants as event
use Rattle.gypsy_semantics.{specs.Calls.{is_passed_on, main_formals, main_way}, specs.Machine.{Item, Out, At, Ended, gypsy_step}, specs.Views.RunView.added}
use Rattle.gypsy_meaning.{specs.Internal.Finishing.{IsFinished, end_price}, specs.Views.Held.{EndsRun, Keeps}, specs.Views.Running.{frames_in, frames_of}}
use Rattle.gypsy_meaning.{specs.Views.Running.{sizes_of, state_of, way_of, paid}, specs.Views.Work.work_of, specs.declared.running.Ending.Ending}
use Rattle.gypsy_meaning.specs.declared.running.Meaning.{Meaning}
use Rattle.gypsy_semantics.specs.Machine as machine
use Rattle.gypsy_meaning.specs.declared.running.Ending.TheVariants as ending

-- with what is left of the variables
pub finished : (e : Ending) (cost : ℕ) (m : Meaning) (vars : Vec (Name × Value)) (count : ℕ) → vars.items ≡ take count m.variables.items
    → count ≡ length (proc_at (seen_program m.program) m.program.main).formals → IsFinished e cost m
    (paid cost (record m { variables = vars; ending = Some e }))
unfolding main_formals
finished e cost m vars count left is = record {
  values = ap (map (λ v. v.1)) left ∙ sym (take-map (λ v. v.1) count m.variables.items) ∙ ap (λ n. take n (map (λ v. v.1) m.variables.items)) is;
  named = ap (map (λ v. v.0)) left ∙ sym (take-map (λ v. v.0) count m.variables.items) ∙ ap (λ n. take n (map (λ v. v.0) m.variables.items)) is;
  others = refl;
}

finished_keeps : (e : Ending) (cost : ℕ) (m n : Meaning) → IsFinished e cost m n → Keeps m n
finished_keeps e cost m n f = record {
  program = ap (λ (k : Meaning). k.program) f.others;
  temp = ap (λ (k : Meaning). k.temp) f.others;
  ctrl = ap (λ (k : Meaning). k.ctrl) f.others;
  values = ap (λ (k : Meaning). k.values) f.others;
  names = ap (λ (k : Meaning). k.names) f.others;
  unnamed = ap (λ (k : Meaning). k.unnamed) f.others;
  steps = ap (λ (k : Meaning). k.steps) f.others;
}

finishes : (e : Ending) (cost : ℕ) (m n : Meaning) (u : Tally) → m.waiting.items ≡ [] → IsFinished e cost m n → u.count ≡ cost →
    gypsy_step (seen_program m.program) (sizes_of m) (state_of m) ≡ Ended (main_formals (seen_program m.program) (map (λ v. v.1) m.variables.items))
    (way_of e) u → EndsRun m n
finishes e cost m n u alone f costs step = record {
  alone = alone;
  ended_by = e;
  ending = ap (λ (k : Meaning). k.ending) f.others;
  spent = u;
  ends = step ∙ ap (λ x. Ended x (way_of e) u) (sym f.values);
  costs = record {
    counted = ap (λ (k : Meaning). k.counted) f.others ∙ ap (added m.counted) (sym costs);
    last = ap (λ (k : Meaning). k.cost) f.others ∙ sym costs;
  };
  keeps = finished_keeps e cost m n f;
  named = f.named;
}

pub end_finishes : (ns : List Need) (m n : Meaning) → work_of m.work ≡ [] → m.waiting.items ≡ []
    → IsFinished ending.Normal (event_count ns event.EndMain) m n → EndsRun m n
unfolding event_count spend
end_finishes ns m n nothing alone f =
    let q = seen_program m.program in
    let x = map (λ v. v.1) m.variables.items in
    finishes ending.Normal 5 m n (spend 5 2 start_tally) alone f refl
    (ap (λ (w : List Item). gypsy_step q (sizes_of m) (At m.procedure x w (frames_in m) start_tally)) nothing
    ∙ ap (λ (fs : List machine.Frame). gypsy_step q (sizes_of m) (At m.procedure x [] fs start_tally)) (ap (frames_of x) alone))

price_is : (passed : Bool) → (main_spend passed start_tally).count ≡ end_price passed
unfolding spend main_spend
price_is true = refl
price_is false = refl

pub leave_finishes : (m n : Meaning) (c d : Condition) (below : List Item) → work_of m.work ≡ Out (seen_cond c) ∷ below → m.waiting.items ≡ []
    → seen_cond d ≡ main_way (seen_program m.program) (seen_cond c) →
    IsFinished (ending.Raised d) (end_price (is_passed_on (seen_program m.program) m.program.main (seen_cond c))) m n → EndsRun m n
leave_finishes m n c d below out alone way f =
    let q = seen_program m.program in
    let x = map (λ v. v.1) m.variables.items in
    let passed = is_passed_on q q.main (seen_cond c) in
    finishes (ending.Raised d) (end_price passed) m n (main_spend passed start_tally) alone f (price_is passed)
    (ap (λ (w : List Item). gypsy_step q (sizes_of m) (At m.procedure x w (frames_in m) start_tally)) out
    ∙ ap (λ (fs : List machine.Frame). gypsy_step q (sizes_of m) (At m.procedure x (Out (seen_cond c) ∷ below) fs start_tally)) (ap (frames_of x) alone)
    ∙ ap (λ (k : ConditionOf). Ended (main_formals q x) (Some k) (main_spend passed start_tally)) (sym way))
