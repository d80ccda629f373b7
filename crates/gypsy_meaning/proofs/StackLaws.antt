-- The activations that wait, and how they go on.
use Rattle.std.{proofs.Common.{◌≡◌, ℕ, ◌+◌, List, [], ◌∷◌, map, Bool, true, false, refl, sym, ap, ◌∙◌}, proofs.lemmas.List.length-map}
use Rattle.stack_text.specs.Values.{ValueOf}
use Rattle.gypsy_syntax.specs.Programs.{ConditionOf}
use Rattle.gypsy_space.specs.Costs.{Tally, out_spend, pay, start_tally}
use Rattle.gypsy_space.specs.declared.event.CostEvent.TheVariants as event
use Rattle.gypsy_semantics.{specs.Calls.{copied_out, has_cond, is_leave, is_passed_on, matching}, proofs.LendingLaws.{back_again, copied_again}}
use Rattle.gypsy_semantics.specs.Machine.{Item, Do, Back, JoinThen, JoinOne, Guard, Out, Frame, State, At, Move, Next, open_on, raise, settle, stop_if}
use Rattle.gypsy_semantics.specs.Views.RunView.{Running, Finished, bare, handed_back}
use Rattle.gypsy_meaning.{specs.StackLaws.{CountsWaiting, GoesOnAsShown}, specs.Views.Stacks.{ActivationOf, activation_of, active_in, waiting_at}}

pub counts : CountsWaiting
unfolding waiting_at
counts (Running (At p x w fs t)) = ap (λ (n : ℕ). n + 1) (length-map fs activation_of)
counts (Finished x c) = refl

-- what is shown of a state
abbrev shown_in : State → List ActivationOf
shown_in g = active_in g ∷ waiting_at (Running (bare g))

-- a procedure with these variables goes on, above these that were handed back before
back_shown : (p : ℕ) (y z : List ValueOf) (xs : List ℕ) (w : List Item) (fs : List Frame) (t : Tally) →
    let x = copied_out xs y z in
    shown_in (At p (copied_out xs y x) w (handed_back x fs) t) ≡ shown_in (At p x w (handed_back x fs) t)
back_shown p y z xs w fs t =
    ap (λ (l : List ValueOf). shown_in (At p l w (handed_back (copied_out xs y z) fs) t)) (copied_again xs y y z refl)

kept_shown : (p : ℕ) (x : List ValueOf) (w : List Item) (fs : List Frame) (t : Tally) →
    shown_in (At p x w (handed_back x fs) t) ≡ record { procedure = p; values = x } ∷ map activation_of (handed_back x fs)
unfolding waiting_at
kept_shown p x w fs t =
    ap (λ (l : List Frame). let a : ActivationOf = record { procedure = p; values = x } in a ∷ map activation_of l) (back_again x x fs refl)

stop_shown : (b : Bool) (g r : State) (all : List ActivationOf) → shown_in g ≡ all → shown_in r ≡ all → shown_in (stop_if b g r) ≡ all
stop_shown true g r all e f = e
stop_shown false g r all e f = f

-- no condition that is raised changes what is shown
raise_shown : (c : ConditionOf) (p : ℕ) (x : List ValueOf) (w v : List Item) (fs : List Frame) (t u : Tally)
    → shown_in (raise c p x w fs t) ≡ shown_in (At p x v fs u)
unfolding waiting_at
raise_shown c p x [] v fs t u = refl
raise_shown c p x (Do s ∷ w) v fs t u = raise_shown c p x w v fs t u
raise_shown c p x (Back place s ∷ w) v fs t u =
    stop_shown (is_leave c) (At p x (settle w) fs (pay event.Caught t)) (raise c p x w fs t) _ refl (raise_shown c p x w v fs t u)
raise_shown c p x (JoinThen place s ∷ w) v fs t u = raise_shown c p x w v fs t u
raise_shown c p x (JoinOne place ∷ w) v fs t u = raise_shown c p x w v fs t u
raise_shown c p x (Guard place cs s ∷ w) v fs t u =
    stop_shown (has_cond c cs) (At p x (open_on s (JoinOne place ∷ w)) fs (pay event.Caught t)) (raise c p x w fs t) _ refl
    (raise_shown c p x w v fs t u)
raise_shown c p x (Out d ∷ w) v fs t u = raise_shown c p x w v fs t u

-- what a step leads to
abbrev moved_in : Move → State → State
moved_in (Next g) h = g
moved_in _ h = h

pub ends_as_shown : GoesOnAsShown []
unfolding waiting_at
ends_as_shown q sizes p c y x w xs cs fs t g next =
    let z = copied_out xs y x in
    let led : At c (copied_out xs y z) (settle w) (handed_back z fs) (pay event.EndProc start_tally) ≡ g = ap (λ (m : Move). moved_in m g) next in
    ap shown_in (sym led)
    ∙ back_shown c y x xs (settle w) fs (pay event.EndProc start_tally)
    ∙ kept_shown c z (settle w) fs (pay event.EndProc start_tally)

pub leaves_as_shown : (d : ConditionOf) (below : List Item) → GoesOnAsShown (Out d ∷ below)
unfolding waiting_at
leaves_as_shown d below q sizes p c y x w xs cs fs t g next =
    let z = copied_out xs y x in
    let u = out_spend (is_passed_on q p d) start_tally in
    let led : raise (matching q p cs d) c (copied_out xs y z) w (handed_back z fs) u ≡ g = ap (λ (m : Move). moved_in m g) next in
    ap shown_in (sym led)
    ∙ raise_shown (matching q p cs d) c (copied_out xs y z) w w (handed_back z fs) u u
    ∙ back_shown c y x xs w fs u
    ∙ kept_shown c z w fs u
