-- The opening state, and runs taken apart by their first step.
use Rattle.std.{proofs.Common.{◌≡◌, ℕ, zero, suc, ◌≤◌, Result, Ok, Err, List, [], ◌∷◌, length, refl, ap, sym, ◌∙◌, arith}, proofs.lemmas.List.length-reverse}
use Rattle.piton_words.specs.declared.word.Word.{Word}
use Rattle.piton_semantics.{specs.declared.error_kind.ErrorKind.ErrorKind, specs.State.Frame, specs.Fits.{Each, IsWordOf, IsWellFormed}, specs.StateView.Seen}
use Rattle.piton_semantics.specs.StateView.{IsSeen, seen_from, seen_step, answer_by, answer_of, left_of, end_by, ran_on, state_run, opening}
use Rattle.piton_semantics.proofs.EachLaws.{each_reverse}
use Rattle.piton_semantics.specs.declared.stepped.Stepped.TheVariants as stepped
use Rattle.piton_semantics.specs.declared.stepped.PitonRun.TheVariants as ran
use Rattle.piton_check.specs.Instruction.{SystemView}

pub opening_seen : (s : SystemView) (stack : List Word) → IsWellFormed s → length stack ≤ s.temp → Each (IsWordOf s) stack → IsSeen s (opening s stack)
opening_seen s stack sound room words =
    record {
      state = record {
        place = sound.begins s.main sound.main;
        frames = (omega (arith, sound.main_formals), sound.temporaries s.main, sound.begins s.main sound.main, tt);
        frames_fit = omega (arith, sound.main_fits);
        stack = each_reverse (IsWordOf s) stack words;
        stack_fits = omega (arith, length-reverse stack);
        areas = sound.areas;
        lengths = refl;
      };
      ctrl = refl;
      temp = refl;
    }

-- a halted state stays
stays_by : (s : SystemView) (v : Seen) (fs : List Frame) → fs ≡ [] → seen_from s v fs ≡ Ok v
stays_by s v [] e = refl
stays_by s v (f ∷ fs) e = cc

pub stays : (s : SystemView) (k : ℕ) (v : Seen) → v.state.frames ≡ [] → state_run s k v ≡ record { run = ran.Halted; seen = v }
unfolding state_run
stays s zero v e = ap (λ fs. record { run = end_by fs; seen = v }) e
stays s (suc k) v e = ap (λ r. ran_on v r (state_run s k)) (stays_by s v v.state.frames e) ∙ stays s k v e

pub first_step : (s : SystemView) (k : ℕ) (v : Seen) (r : Result Seen ErrorKind) → seen_step s v ≡ r → state_run s (suc k) v ≡ ran_on v r (state_run s k)
unfolding state_run
first_step s k v r e = ap (λ r. ran_on v r (state_run s k)) e

none_left : (fs : List Frame) → stepped.Halted ≡ answer_by fs → fs ≡ []
none_left [] h = refl
none_left (f ∷ fs) h = cc

never_error : (fs : List Frame) (kind : ErrorKind) → stepped.Error kind ≡ answer_by fs → ⊥
never_error [] kind h = cc
never_error (f ∷ fs) kind h = cc

module _ (s : SystemView) (k : ℕ) (v w : Seen) where
  next_by : (r : Result Seen ErrorKind) → seen_step s v ≡ r → stepped.Next ≡ answer_of r → w ≡ left_of v r → state_run s (suc k) v ≡ state_run s k w
  next_by (Ok u) e a left = first_step s k v (Ok u) e ∙ ap (state_run s k) (sym left)
  next_by (Err kind) e a left = cc

  pub ran_next : stepped.Next ≡ answer_of (seen_step s v) → w ≡ left_of v (seen_step s v) → state_run s (suc k) v ≡ state_run s k w
  ran_next a left = next_by (seen_step s v) refl a left

  halted_by : (r : Result Seen ErrorKind) → seen_step s v ≡ r → stepped.Halted ≡ answer_of r → w ≡ left_of v r →
      state_run s (suc k) v ≡ record { run = ran.Halted; seen = w }
  halted_by (Ok u) e a left = first_step s k v (Ok u) e ∙ stays s k u (none_left u.state.frames a) ∙ ap (λ x. record { run = ran.Halted; seen = x }) (sym left)
  halted_by (Err kind) e a left = cc

  pub ran_halted : stepped.Halted ≡ answer_of (seen_step s v) → w ≡ left_of v (seen_step s v) →
      state_run s (suc k) v ≡ record { run = ran.Halted; seen = w }
  ran_halted a left = halted_by (seen_step s v) refl a left

  error_by : (kind : ErrorKind) (r : Result Seen ErrorKind) → seen_step s v ≡ r → stepped.Error kind ≡ answer_of r → w ≡ left_of v r →
      state_run s (suc k) v ≡ record { run = ran.Error kind; seen = w }
  error_by kind (Ok u) e a left = absurd (never_error u.state.frames kind a)
  error_by kind (Err other) e a left =
      let same : other ≡ kind = cc in
      first_step s k v (Err other) e ∙ ap (λ x. record { run = ran.Error other; seen = x }) (sym left) ∙ ap (λ x. record { run = ran.Error x; seen = w }) same

  pub ran_error : (kind : ErrorKind) → stepped.Error kind ≡ answer_of (seen_step s v) → w ≡ left_of v (seen_step s v) →
      state_run s (suc k) v ≡ record { run = ran.Error kind; seen = w }
  ran_error kind a left = error_by kind (seen_step s v) refl a left

pub ran_none : (s : SystemView) (v : Seen) → state_run s 0 v ≡ record { run = end_by v.state.frames; seen = v }
unfolding state_run
ran_none s v = refl

pub end_halted : (fs : List Frame) → length fs ≡ 0 → end_by fs ≡ ran.Halted
end_halted [] h = refl
end_halted (f ∷ fs) h = absurd (omega arith)

pub end_spent : (fs : List Frame) → (length fs ≡ 0 → ⊥) → end_by fs ≡ ran.Spent
end_spent [] h = absurd (h refl)
end_spent (f ∷ fs) h = refl
