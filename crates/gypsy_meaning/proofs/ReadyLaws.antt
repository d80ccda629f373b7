-- What a step of a state that fits has.
use Rattle.std.{proofs.Common.{◌≡◌, ◌+◌, List, ◌∷◌, length, map, true, ap₂, ◌∙◌, subst, arith}, proofs.lemmas.List.length-map}
use Rattle.stack_text.{specs.declared.shape.Kind.Kind, specs.declared.shape.Shape.Shape, specs.Values.{ValueOf, is_item}}
use Rattle.gypsy_syntax.{specs.declared.predef.Predef.Predef, specs.Effects.{item_of_value, value_at}, specs.Predefined.slots_of, specs.ProgramFits.ArgsFit}
use Rattle.gypsy_syntax.{specs.Programs.{proc_at, shapes_of}, specs.ValuesFit.VarsFit, proofs.RangeLaws.range_item}
use Rattle.gypsy_syntax.specs.declared.predef.Predef.TheVariants as row
use Rattle.gypsy_space.{specs.Nodes.{seen_arg, seen_program}, specs.declared.need.Need.Need, specs.declared.program.Argument.Argument}
use Rattle.gypsy_space.specs.declared.program.CallSite.{CallSite}
use Rattle.gypsy_meaning.{specs.Internal.PredefinedEffects.Suits, specs.Internal.Entering.{AreLent, call_top}, specs.Views.Named.variables_of}
use Rattle.gypsy_meaning.{specs.Internal.Stepping.IsReady, specs.Internal.Within.WorkSuits, specs.Views.Work.work_of, specs.declared.running.Meaning.Meaning}
use Rattle.gypsy_meaning.proofs.ApplyLaws.{value_listed}
use Rattle.gypsy_semantics.{specs.Calls.values_of, specs.Kept.WorkFits, specs.Machine.Item, proofs.EffectLaws.stored_item, proofs.LendingLaws.actuals_length}
use Rattle.gypsy_semantics.proofs.LendingLaws.{actuals_there, as_many}

-- a call has the names of its callee's variables
pub call_sized : (ns : List Need) (m : Meaning) (site : CallSite) (below : List Item) → IsReady ns m → work_of m.work ≡ call_top site ∷ below →
    length (variables_of m.names.items site.callee) ≡ length site.actuals.items + length (proc_at (seen_program m.program) site.callee).locals
call_sized ns m site below ready turn =
    let q = seen_program m.program in
    let P : List Item → Type 0 = WorkFits q (proc_at q m.procedure) in
    let fits = subst P turn ready.state_fits.1 in
    let sized : length (variables_of m.names.items site.callee) ≡ length (proc_at q site.callee).formals + length (proc_at q site.callee).locals =
    ready.sized site.callee in
    let same : length site.actuals.items ≡ length (proc_at q site.callee).formals =
    actuals_length (shapes_of (proc_at q m.procedure)) (proc_at q site.callee).formals site.actuals.items fits.0.actuals in
    omega (arith, sized, same)

-- its actuals may be lent
pub call_lent : (ns : List Need) (m : Meaning) (site : CallSite) (below : List Item) → IsReady ns m → work_of m.work ≡ call_top site ∷ below
    → AreLent (length m.variables.items) site.actuals.items
call_lent ns m site below ready turn =
    let q = seen_program m.program in
    let p = proc_at q m.procedure in
    let P : List Item → Type 0 = WorkFits q p in
    let fits = subst P turn ready.state_fits.1 in
    let x : List ValueOf = map (λ v. v.1) m.variables.items in
    let number : length (shapes_of p) ≡ length m.variables.items = as_many (shapes_of p) x ready.state_fits.0 ∙ length-map m.variables.items (λ v. v.1) in
    record {
      there = actuals_there (shapes_of p) (proc_at q site.callee).formals site.actuals.items (length m.variables.items) fits.0.actuals number;
      distinct = fits.0.distinct;
    }

suits : (r : Predef) (shapes : List Shape) (k : Kind) (x : List ValueOf) (args : List Argument) → VarsFit shapes x
    → ArgsFit shapes k (slots_of r) (map seen_arg args) → Suits r x args
unfolding Suits values_of
suits row.MgArrayElementAssignment shapes k x args h f =
    let vs = values_of x (map seen_arg args) in
    let item : is_item (value_at vs 0).shape.kind (item_of_value (value_at vs 2)) ≡ true =
    range_item (value_at vs 0).shape.kind (item_of_value (value_at vs 2)) (stored_item shapes x k (map seen_arg args) h f) in
    ap₂ (λ (a b : ValueOf). is_item a.shape.kind (item_of_value b)) (value_listed x (map seen_arg args) 0) (value_listed x (map seen_arg args) 2) ∙ item
suits r shapes k x args h f = tt

-- the predefined call on top suits
pub work_suits : (ns : List Need) (m : Meaning) → IsReady ns m → WorkSuits (map (λ v. v.1) m.variables.items) (work_of m.work)
work_suits ns m ready call below turn =
    let q = seen_program m.program in
    let P : List Item → Type 0 = WorkFits q (proc_at q m.procedure) in
    let fits = subst P turn ready.state_fits.1 in
    suits call.which (shapes_of (proc_at q m.procedure)) fits.0.0 (map (λ v. v.1) m.variables.items) call.args.items ready.state_fits.0 fits.0.1
