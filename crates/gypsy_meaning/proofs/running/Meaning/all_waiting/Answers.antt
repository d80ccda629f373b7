use Rattle.std.{proofs.Common.{◌≡◌, ◌+◌, ◌-◌, ◌++◌, ℕ, suc, List, [], ◌∷◌, map, reverse, take, sym, ap, ◌∙◌, append-nil, arith}, proofs.Math.Seq.take-suc}
use Rattle.stack_text.specs.Values.{ValueOf}
use Rattle.gypsy_semantics.specs.Views.RunView.{handed_back}
use Rattle.gypsy_meaning.{specs.Internal.Stacking.{activation_back, last_values}, specs.Views.Running.kept_frames, specs.Views.Stacks.ActivationOf}
use Rattle.gypsy_meaning.{specs.Views.Stacks.{activation_of, activation_seen}, specs.declared.running.Frame.Frame, proofs.WaitingLaws.{made_next, named_next}}
use Rattle.gypsy_meaning.proofs.running.Meaning.all_waiting.Goals as goal

pub loop-place-preserved : goal.loop-place-preserved
loop-place-preserved g c =
    let m = c.args.self.now in
    let ws : List Frame = m.waiting.items in
    let k : ℕ = c.loop-place.place - 1 in
    let f = c.index-frame.result.now in
    let x : List ValueOf = map (λ v. v.1) m.variables.items in
    let before = map activation_seen c.loop-place.all.items in
    let count : c.loop-place.place ≡ suc k = omega (arith, c.loop-place-test.true) in
    let grown : take c.loop-place.place ws ≡ take k ws ++ f ∷ [] =
    ap (λ (n : ℕ). take n ws) count ∙ take-suc ws k f (omega (arith, c.loop-place.invariant.0, count))
    ∙ ap (λ (w : Frame). take k ws ++ w ∷ []) (sym c.index-frame.ensures) in
    let made : map activation_seen c.push_waiting.new.all.items ≡ before ++ activation_back (last_values x before) f ∷ [] =
    c.in_ok-push_waiting.ensures.seen
    ∙ ap (λ (y : List ValueOf). before ++ activation_back (last_values y before) f ∷ []) (ap (map (λ v. v.1)) c.as_slice.ensures.value) in
    let names = map (λ a. map (λ v. v.0) a.variables.items) c.loop-place.all.items in (
      omega (arith, c.loop-place.invariant.0),
      ap (λ (all : List ActivationOf). all ++ map activation_of (handed_back (last_values x all) (kept_frames (take k ws)))) made
          ∙ made_next x before (take k ws) f _
          (ap (λ (fs : List Frame). before ++ map activation_of (handed_back (last_values x before) (kept_frames fs))) (sym grown)
          ∙ c.loop-place.invariant.1),
      ap (λ (all : List (List (List ℕ))). all ++ map (λ f. map (λ v. v.0) f.variables.items) (reverse (take k ws))) c.in_ok-push_waiting.ensures.names
          ∙ named_next names (take k ws) f _
          (ap (λ (fs : List Frame). names ++ map (λ f. map (λ v. v.0) f.variables.items) (reverse fs)) (sym grown) ∙ c.loop-place.invariant.2),
    )

pub returns-clause-values : goal.returns-clause-values
returns-clause-values g c =
    let m = c.args.self.now in
    let x : List ValueOf = map (λ v. v.1) m.variables.items in
    let all = map activation_seen c.loop-place.all.items in
    let none : c.loop-place.place ≡ 0 = omega (arith, c.loop-place-test.false) in
    sym (append-nil all)
    ∙ ap (λ (n : ℕ). all ++ map activation_of (handed_back (last_values x all) (kept_frames (take n m.waiting.items)))) (sym none)
    ∙ c.loop-place.invariant.1

pub returns-clause-names : goal.returns-clause-names
returns-clause-names g c =
    let m = c.args.self.now in
    let names = map (λ a. map (λ v. v.0) a.variables.items) c.loop-place.all.items in
    let none : c.loop-place.place ≡ 0 = omega (arith, c.loop-place-test.false) in
    sym (append-nil names)
    ∙ ap (λ (n : ℕ). names ++ map (λ f. map (λ v. v.0) f.variables.items) (reverse (take n m.waiting.items))) (sym none)
    ∙ c.loop-place.invariant.2
