use Rattle.std.{proofs.Common.{◌≡◌, ℕ, List, [], ◌∷◌, ◌++◌, length, map, drop, refl, ap, ◌∙◌}, specs.Global.Vec}
use Rattle.stack_text.{specs.declared.name.Name.Name, specs.declared.value.Value.Value}
use Rattle.gypsy_syntax.specs.Effects.{value_at}
use Rattle.gypsy_space.specs.declared.program.CallSite.{CallSite}
use Rattle.gypsy_semantics.specs.Calls.{copied_out}
use Rattle.gypsy_meaning.{specs.Internal.Entering.call_top, specs.Views.Work.work_of, specs.declared.running.Frame.Frame}
use Rattle.gypsy_meaning.proofs.running.Meaning.wait.Goals as goal

pub returns-clause-done : goal.returns-clause-done
returns-clause-done g c = λ below top.
    let m = c.args.self.now in
    let x = map (λ v. v.1) m.variables.items in
    let y = map (λ v. v.1) c.args.callee.items in
    let actuals : c.as_slice.result.now ≡ c.args.site.value.actuals.items = c.as_slice.ensures.value ∙ ap (λ (s : CallSite). s.actuals.items) c.deref.ensures in
    let f : Frame = record {
      procedure = m.procedure;
      variables = c.replace.result;
      work = c.replace-2.result;
      call = c.args.site;
      used_temp = m.used_temp;
      used_ctrl = m.used_ctrl;
    } in
    record {
      behind = c.replace-2.result;
      behind_is = ap work_of c.replace-2.ensures.value ∙ c.pop.ensures (call_top c.args.site.value) below (ap work_of c.hand_room.ensures.own ∙ top);
      caller = c.replace.result;
      waiting = c.in-Ok.ensures.items ∙ ap (λ (fs : List Frame). fs ++ f ∷ []) c.in_ok-reserve.ensures.items;
      left = ap (λ (v : Vec (Name × Value)). map (λ w. w.1) v.items) c.replace.ensures.value ∙ c.lend.ensures.left
          ∙ ap (λ (xs : List ℕ). copied_out xs y x) actuals;
      left_names = ap (λ (v : Vec (Name × Value)). map (λ w. w.0) v.items) c.replace.ensures.value ∙ c.lend.ensures.left_names;
      lent = ap (λ (v : Vec (Name × Value)). map (λ w. w.1) v.items) c.replace.ensures.after ∙ c.lend.ensures.lent
          ∙ ap (λ (xs : List ℕ). map (value_at x) xs ++ drop (length xs) y) actuals;
      lent_names = ap (λ (v : Vec (Name × Value)). map (λ w. w.0) v.items) c.replace.ensures.after ∙ c.lend.ensures.lent_names;
      work_is = c.replace-2.ensures.after ∙ c.hand_room.ensures.other;
      others = refl;
    }
