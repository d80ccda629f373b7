-- What the code's counters show.
use Rattle.std.{proofs.Common.{◌≡◌, ℕ, ◌+◌, List, length, map, slice_set, Bool, true, false, refl, ap, sym, ◌∙◌, arith}, proofs.lemmas.List.length-set}
use Rattle.stack_text.specs.Values.{ValueOf}
use Rattle.gypsy_syntax.specs.Programs.{Program}
use Rattle.gypsy_space.{specs.Costs.{Tally, spend, start_tally, pay}, specs.Needs.StackSizes, specs.Nodes.seen_program, specs.Events.event_count}
use Rattle.gypsy_space.{specs.declared.event.CostEvent.CostEvent, specs.declared.need.Need.Need}
use Rattle.gypsy_space.specs.declared.event.CostEvent.TheVariants as event
use Rattle.gypsy_semantics.{specs.Machine.{Item, Frame, At, Next, gypsy_step}, specs.Views.RunView.{added, bare, handed_back}, proofs.LendingLaws.back_again}
use Rattle.gypsy_meaning.{specs.Views.Work.{work_of, caught_spend}, specs.Internal.Turns.{IsPlain, GoesOn, OpensTo}, specs.Internal.PredefinedSteps.WritesOn}
use Rattle.gypsy_meaning.{specs.Views.Held.Moves, specs.Views.Running.{price, advanced, Goes, frames_in, kept_frames, sizes_of, state_of, paid}}
use Rattle.gypsy_meaning.{specs.declared.turn.Advance.Advance, specs.declared.running.Meaning.Meaning, specs.declared.work.Item.Item as Kept}

caught_is : (b : Bool) (ns : List Need) (e : CostEvent) (t : Tally) (u : Tally) → u.count ≡ t.count + event_count ns e
    → (caught_spend b u).count ≡ t.count + price ns e b
unfolding price spend
caught_is true ns e t u h = omega (arith, h)
caught_is false ns e t u h = h

pub plain_table : (ns : List Need) (e : CostEvent) → IsPlain e → (t : Tally) → (pay e t).count ≡ t.count + event_count ns e
unfolding spend event_count
plain_table ns event.NoOp p t = refl
plain_table ns (event.Call callee) p t = absurd p
plain_table ns e p t = refl

-- what is lent stays lent
still_lent : (p : ℕ) (x : List ValueOf) (w : List Item) (fs : List Frame) (t : Tally)
    → bare (At p x w (handed_back x fs) t) ≡ At p x w (handed_back x fs) start_tally
still_lent p x w fs t = ap (λ (gs : List Frame). At p x w gs start_tally) (back_again x x fs refl)

-- a step that changes the work alone
advance_goes : (q : Program) (sizes : StackSizes) (ns : List Need) (a : Advance) (w : List Kept) (m : Meaning) → IsPlain a.event →
    gypsy_step q sizes (state_of m) ≡ Next (At m.procedure (map (λ v. v.1) m.variables.items) (work_of w) (frames_in m)
    (caught_spend a.caught (pay a.event start_tally))) → Goes q sizes m (advanced ns a w m)
advance_goes q sizes ns a w m plain step =
    let u = pay a.event start_tally in
    let paid : (caught_spend a.caught u).count ≡ 0 + price ns a.event a.caught =
    caught_is a.caught ns a.event start_tally u (plain_table ns a.event plain start_tally) in
    let cost : price ns a.event a.caught ≡ (caught_spend a.caught u).count = omega (arith, paid) in
    let x : List ValueOf = map (λ v. v.1) m.variables.items in
    let spent : Tally = caught_spend a.caught u in (
      At m.procedure x (work_of w) (frames_in m) spent,
      step,
      still_lent m.procedure x (work_of w) (kept_frames m.waiting.items) spent,
      record { counted = ap (added m.counted) cost; last = cost },
    )

pub step_moves : (ns : List Need) (a : Advance) (w : List Kept) (m : Meaning) → IsPlain a.event →
    gypsy_step (seen_program m.program) (sizes_of m) (state_of m) ≡ Next
    (At m.procedure (map (λ v. v.1) m.variables.items) (work_of w) (frames_in m) (caught_spend a.caught (pay a.event start_tally))) →
    Moves m (advanced ns a w m)
step_moves ns a w m plain step = record {
  goes = advance_goes (seen_program m.program) (sizes_of m) ns a w m plain step;
  keeps = record { program = refl; temp = refl; ctrl = refl; values = refl; names = refl; unnamed = refl; steps = refl };
  ending = refl;
  held = λ h. record { top = h.top; waiting = h.waiting };
}

pub advance_moves : (ns : List Need) (a : Advance) (w : List Kept) (m : Meaning)
    → GoesOn (map (λ v. v.1) m.variables.items) (work_of m.work) (work_of w) a → Moves m (advanced ns a w m)
advance_moves ns a w m goes = step_moves ns a w m goes.0 (goes.1 (seen_program m.program) (sizes_of m) m.procedure (frames_in m) start_tally)

-- a step that writes a variable, where the state in between is known by its values and names
pub write_moves : (ns : List Need) (i : ℕ) (v : ValueOf) (a : Advance) (w : List Kept) (m n : Meaning)
    → WritesOn (map (λ z. z.1) m.variables.items) (work_of m.work) (work_of w) i v a
    → map (λ w. w.1) n.variables.items ≡ slice_set (map (λ w. w.1) m.variables.items) i v
    → map (λ w. w.0) n.variables.items ≡ map (λ w. w.0) m.variables.items → Moves m (advanced ns a w (record m { variables = n.variables }))
write_moves ns i v a w m n goes wrote named =
    let q = seen_program m.program in
    let u = pay a.event start_tally in
    let paid : (caught_spend a.caught u).count ≡ 0 + price ns a.event a.caught =
    caught_is a.caught ns a.event start_tally u (plain_table ns a.event goes.0 start_tally) in
    let cost : price ns a.event a.caught ≡ (caught_spend a.caught u).count = omega (arith, paid) in
    let spent : Tally = caught_spend a.caught u in
    let x : List ValueOf = map (λ w. w.1) m.variables.items in
    let y : List ValueOf = map (λ w. w.1) n.variables.items in
    let sized : length x ≡ length y = sym (length-set x i v) ∙ ap length (sym wrote) in
    record {
      goes = (
        At m.procedure y (work_of w) (frames_in m) spent,
        goes.1 q (sizes_of m) m.procedure (frames_in m) start_tally ∙
            ap (λ (l : List ValueOf). Next (At m.procedure l (work_of w) (frames_in m) spent)) (sym wrote),
        ap (λ (gs : List Frame). At m.procedure y (work_of w) gs start_tally) (back_again x y (kept_frames m.waiting.items) sized),
        record { counted = ap (added m.counted) cost; last = cost },
      );
      keeps = record { program = refl; temp = refl; ctrl = refl; values = refl; names = refl; unnamed = refl; steps = refl };
      ending = refl;
      held = λ h. record { top = record { named = named ∙ h.top.named; used_words = h.top.used_words }; waiting = h.waiting };
    }

-- a step that opens the work, at no cost
pub open_moves : (w : List Kept) (m : Meaning) → OpensTo (map (λ v. v.1) m.variables.items) (work_of m.work) (work_of w)
    → Moves m (paid 0 (record m { work = w }))
open_moves w m opens = record {
  goes = (
    At m.procedure (map (λ v. v.1) m.variables.items) (work_of w) (frames_in m) start_tally,
    opens (seen_program m.program) (sizes_of m) m.procedure (frames_in m) start_tally,
    still_lent m.procedure (map (λ v. v.1) m.variables.items) (work_of w) (kept_frames m.waiting.items) start_tally,
    record { counted = refl; last = refl },
  );
  keeps = record { program = refl; temp = refl; ctrl = refl; values = refl; names = refl; unnamed = refl; steps = refl };
  ending = refl;
  held = λ h. record { top = h.top; waiting = h.waiting };
}
