-- Steps that a session makes one after the other are one walk.
use Rattle.std.proofs.Common.{◌≡◌, ◌+◌, ◌^◌, ◌<◌, ◌≤◌, ◌==◌, ℕ, zero, suc, Bool, false, cond, List, [], ◌∷◌, ◌++◌, length, map, refl, sym, ap, subst, ◌∙◌}
use Rattle.std.{proofs.Common.{add-one, arith, length-append, inl, inr}, proofs.lemmas.Bool.eq-eqb, proofs.lemmas.Bool.Decides.eqb_tells}
use Rattle.std.proofs.lemmas.List.Sums.{fold-append}
use Rattle.piton_semantics.specs.StateView.{saturated}
use Rattle.level_debuggers.{specs.declared.watch.Event.Event, specs.declared.advance.Stop.Stop, specs.declared.advance.Advance.Advance}
use Rattle.level_debuggers.{specs.declared.session.SessionRun.SessionRun, specs.Levels.{LevelOf, next_of}, specs.Steps.{Next, Over, Stops, Makes, IsAdvance}}
use Rattle.level_debuggers.{specs.Steps.is_over, specs.Tallies.{Watching, tally_step, told}, specs.Walks.{Walk, with_event, walk_on, walk, SessionOf}}
use Rattle.level_debuggers.specs.Walks.{after_event, after_walk, refused_after, ends_by, stepped_by, stepped, HasMadeSome, SessionsGoOn}
use Rattle.level_debuggers.specs.declared.advance.Advance.TheVariants as advance
use Rattle.level_debuggers.specs.declared.session.SessionRun.TheVariants as run

-- One step more.
more_from : (i : ℕ) (level after : LevelOf) (event : Event) (next : Next LevelOf)
    → ((start : LevelOf) → length (walk i start).events ≡ i → next_of (walk i start).level ≡ Makes event after
    → walk (suc i) start ≡ record { events = (walk i start).events ++ event ∷ []; level = after })
    → length (walk_on level (walk i) next).events ≡ suc i → next_of (walk_on level (walk i) next).level ≡ Makes event after
    → walk_on level (walk (suc i)) next ≡ record { events = (walk_on level (walk i) next).events ++ event ∷ []; level = after }
more_from i level after event Over later whole is = absurd (omega arith)
more_from i level after event (Stops stop) later whole is = absurd (omega arith)
more_from i level after event (Makes first start) later whole is = ap (with_event first) (later start (omega arith) is)

walk_suc : (i : ℕ) (level after : LevelOf) (event : Event) → length (walk i level).events ≡ i → next_of (walk i level).level ≡ Makes event after
    → walk (suc i) level ≡ record { events = (walk i level).events ++ event ∷ []; level = after }
unfolding walk
walk_suc zero level after event whole is = ap (walk_on level (walk zero)) is
walk_suc (suc i) level after event whole is =
    more_from i level after event (next_of level) (λ start whole is. walk_suc i start after event whole is) whole is

-- the walk does not go on
unfoldable pub IsStop : Next LevelOf → Type 0
IsStop Over = Unit {0}
IsStop (Stops stop) = Unit {0}
IsStop (Makes event after) = ⊥

stays_from : (level : LevelOf) (n : ℕ) (next : Next LevelOf) → IsStop next → walk_on level (walk n) next ≡ record { events = []; level = level }
unfolding IsStop
stays_from level n Over stop = refl
stays_from level n (Stops s) stop = refl
stays_from level n (Makes event after) stop = absurd stop

same_from : (level : LevelOf) (i n : ℕ) (next : Next LevelOf)
    → ((start : LevelOf) → IsStop (next_of (walk i start).level) → walk n start ≡ walk i start)
    → IsStop (next_of (walk_on level (walk i) next).level) → walk_on level (walk n) next ≡ walk_on level (walk i) next
same_from level i n Over later stop = refl
same_from level i n (Stops s) later stop = refl
same_from level i n (Makes event start) later stop = ap (with_event event) (later start stop)

pub walk_stays : (i n : ℕ) (level : LevelOf) → i ≤ n → IsStop (next_of (walk i level).level) → walk n level ≡ walk i level
unfolding walk
walk_stays zero zero level le stop = refl
walk_stays zero (suc n) level le stop = stays_from level n (next_of level) stop
walk_stays (suc i) zero level le stop = absurd (omega arith)
walk_stays (suc i) (suc n) level le stop =
    same_from level i n (next_of level) (λ start stop. walk_stays i n start (omega arith) stop) stop

-- Watches.
told_both : (events more : List Event) (watch : Watching) → told (events ++ more) watch ≡ told more (told events watch)
told_both events more watch =
    ap (λ tally. record watch { tally = tally }) (fold-append (tally_step watch.rule) watch.tally events more)

all_told_both : (events more : List Event) (watches : List Watching)
    → map (told more) (map (told events) watches) ≡ map (told (events ++ more)) watches
all_told_both events more [] = refl
all_told_both events more (watch ∷ watches) = cc (told_both events more watch, all_told_both events more watches)

none_told : (watches : List Watching) → map (told []) watches ≡ watches
none_told [] = refl
none_told (watch ∷ watches) = ap (λ (ws : List Watching). watch ∷ ws) (none_told watches)

-- a walk and one behind it
abbrev both : Walk → Walk → Walk
both first second = record { events = first.events ++ second.events; level = second.level }

after_both : (s : SessionOf) (first second : Walk) → after_walk (after_walk s first) second ≡ after_walk s (both first second)
after_both s first second =
    let steps : saturated (saturated (s.steps + length first.events) + length second.events) ≡ saturated (s.steps + length (first.events ++ second.events))
    = omega (arith, length-append first.events second.events) in
    let attached = all_told_both first.events second.events s.attached in
    λ i. record { level = second.level; steps = steps i; waiting = s.waiting; attached = attached i }

-- in n steps a session has come from old to new
pub record Made (n : ℕ) (old new : SessionOf) : Type 0 where
  pub whole : length (walk n old.level).events ≡ n
  pub comes : new ≡ after_walk old (walk n old.level)

pub made_none : (s : SessionOf) → s.steps < 2 ^ 64 → Made 0 s s
unfolding walk
made_none s few = record {
  whole = refl;
  comes =
      let steps : s.steps ≡ saturated (s.steps + 0) = omega arith in
      let attached = sym (none_told s.attached) in
      λ i. record { level = s.level; steps = steps i; waiting = s.waiting; attached = attached i };
}

pub made_more : (n : ℕ) (old middle new : SessionOf) (event : Event) (after : LevelOf) → Made n old middle → next_of middle.level ≡ Makes event after
    → new ≡ after_event event (record middle { level = after }) → Made (n + 1) old new
made_more n old middle new event after made is becomes =
    let level : middle.level ≡ (walk n old.level).level = ap (λ (s : SessionOf). s.level) made.comes in
    let more : walk (suc n) old.level ≡ record { events = (walk n old.level).events ++ event ∷ []; level = after }
    = walk_suc n old.level after event made.whole (sym (ap next_of level) ∙ is) in
    rw (add-one n) record {
      whole = ap (λ (w : Walk). length w.events) more ∙ omega (arith, made.whole, length-append (walk n old.level).events (event ∷ []));
      comes =
          becomes ∙ ap (λ (s : SessionOf). after_event event (record s { level = after })) made.comes
          ∙ after_both old (walk n old.level) record { events = event ∷ []; level = after }
          ∙ ap (after_walk old) (sym more);
    }

-- what the call answers once the walk does not go on
answer_at : (m n : ℕ) (old new : SessionOf) (next : Next LevelOf) → Made m old new → m ≤ n → next_of new.level ≡ next → IsStop next
    → stepped n old ≡ record { run = ends_by n m new.steps next; session = new }
answer_at m n old new next made le is stop =
    let level : (walk m old.level).level ≡ new.level = sym (ap (λ (s : SessionOf). s.level) made.comes) in
    let there : next_of (walk m old.level).level ≡ next = ap next_of level ∙ is in
    let stays : walk n old.level ≡ walk m old.level = walk_stays m n old.level le (subst_stop (sym there) stop) in
    ap (stepped_by n old) stays
    ∙ ap (λ (k : ℕ). record {
      run = ends_by n k (after_walk old (walk m old.level)).steps (next_of (walk m old.level).level);
      session = after_walk old (walk m old.level);
    }) made.whole
    ∙ ap (λ (x : Next LevelOf). record { run = ends_by n m (after_walk old (walk m old.level)).steps x; session = after_walk old (walk m old.level) }) there
    ∙ ap (λ (s : SessionOf). record { run = ends_by n m s.steps next; session = s }) (sym made.comes)
  where
    subst_stop : {x y : Next LevelOf} → x ≡ y → IsStop x → IsStop y
    subst_stop e s = rw (sym e) s

-- the end was reached
pub ended : (m n : ℕ) (old new : SessionOf) → Made m old new → m ≤ n → next_of new.level ≡ Over
    → stepped n old ≡ record { run = run.Ended m; session = new }
unfolding IsStop
ended m n old new made le is = answer_at m n old new Over made le is tt

not_same : (m n : ℕ) → m < n → (m == n) ≡ false
not_same m n lt = elim (eqb_tells m n) [ inl h ↦ absurd (omega (arith, h.1)) | inr h ↦ h.0 ]

-- the next step is refused before all steps were made
pub refused : (m n : ℕ) (old new : SessionOf) (stop : Stop) → Made m old new → m < n → next_of new.level ≡ Stops stop
    → stepped n old ≡ record { run = refused_after new.steps stop; session = new }
unfolding IsStop
refused m n old new stop made lt is =
    answer_at m n old new (Stops stop) made (omega arith) is tt
    ∙ ap (λ (b : Bool). record { run = cond b (run.Moved n) (refused_after new.steps stop); session = new }) (not_same m n (omega arith))

-- all steps were made
at_last : (n steps : ℕ) (next : Next LevelOf) → ends_by n n steps next ≡ cond (is_over next) (run.Ended n) (run.Moved n)
at_last n steps Over = refl
at_last n steps (Stops stop) = ap (λ (b : Bool). cond b (run.Moved n) (refused_after steps stop)) (eq-eqb n n refl)
at_last n steps (Makes event after) = refl

by_all : (n : ℕ) (old new : SessionOf) (over : Bool) → Made n old new → is_over (next_of new.level) ≡ over
    → stepped n old ≡ record { run = cond over (run.Ended n) (run.Moved n); session = new }
by_all n old new over made is =
    ap (λ (k : ℕ). record {
      run = ends_by n k (after_walk old (walk n old.level)).steps (next_of (walk n old.level).level);
      session = after_walk old (walk n old.level);
    }) made.whole
    ∙ ap (λ (s : SessionOf). record { run = ends_by n n s.steps (next_of s.level); session = s }) (sym made.comes)
    ∙ ap (λ (r : SessionRun). record { run = r; session = new }) (at_last n new.steps (next_of new.level))
    ∙ ap (λ (b : Bool). record { run = cond b (run.Ended n) (run.Moved n); session = new }) is

pub made_all : (m n : ℕ) (old new : SessionOf) (over : Bool) → Made m old new → m ≡ n → is_over (next_of new.level) ≡ over
    → stepped n old ≡ record { run = cond over (run.Ended n) (run.Moved n); session = new }
made_all m n old new over made e is = by_all n old new over (subst (λ (k : ℕ). Made k old new) e made) is

-- Of what a session's run has done in a call: the run has come from the session's level to another.
module _ (m n : ℕ) (old middle : SessionOf) (after : LevelOf) (done : Advance) (made : Made m old middle)
    (step : IsAdvance next_of middle.level after done) where
  seen : {x : Advance} → done ≡ x → IsAdvance next_of middle.level after x
  seen e = rw (← e) step

  pub step_made : (new : SessionOf) (event : Event) → done ≡ advance.Makes event → new ≡ after_event event (record middle { level = after })
      → Made (m + 1) old new
  step_made new event is becomes = made_more m old middle new event after made (seen is) becomes

  same : after ≡ middle.level → record middle { level = after } ≡ middle
  same e = ap (λ (l : LevelOf). record middle { level = l }) e

  pub step_over : m ≤ n → done ≡ advance.Over
      → stepped n old ≡ record { run = run.Ended m; session = record middle { level = after } }
  step_over le is =
      let over = seen is in
      ended m n old middle made le over.0 ∙ ap (λ (s : SessionOf). record { run = run.Ended m; session = s }) (sym (same over.1))

  pub step_refused : (stop : Stop) (answer : SessionRun) → m < n → done ≡ advance.Stops stop → answer ≡ refused_after middle.steps stop
      → stepped n old ≡ record { run = answer; session = record middle { level = after } }
  step_refused stop answer lt is says =
      let stopped = seen is in
      refused m n old middle stop made lt stopped.0
      ∙ ap (λ (r : SessionRun). record { run = r; session = middle }) (sym says)
      ∙ ap (λ (s : SessionOf). record { run = answer; session = s }) (sym (same stopped.1))

-- memory ran out in a step, which has changed nothing
pub step_failed : (m n : ℕ) (old middle : SessionOf) (after : LevelOf) → Made m old middle → m ≤ n → after ≡ middle.level
    → HasMadeSome n old (record middle { level = after })
step_failed m n old middle after made le same =
    (m, le, made.whole, ap (λ (l : LevelOf). record middle { level = l }) same ∙ made.comes)

-- A walk of n steps is one of as many as were made of them.
made_from : (n : ℕ) (level : LevelOf) (next : Next LevelOf) → next_of level ≡ next
    → ((start : LevelOf) → (length (walk n start).events ≤ n) × (walk (length (walk n start).events) start ≡ walk n start))
    → (length (walk_on level (walk n) next).events ≤ suc n) × (walk (length (walk_on level (walk n) next).events) level ≡ walk_on level (walk n) next)
unfolding walk
made_from n level Over is later = (omega arith, refl)
made_from n level (Stops stop) is later = (omega arith, refl)
made_from n level (Makes event after) is later =
    let rest = later after in
    (omega (arith, rest.0), ap (walk_on level (walk (length (walk n after).events))) is ∙ ap (with_event event) rest.1)

made_of : (n : ℕ) (level : LevelOf) → (length (walk n level).events ≤ n) × (walk (length (walk n level).events) level ≡ walk n level)
unfolding walk
made_of zero level = (omega arith, refl)
made_of (suc n) level = made_from n level (next_of level) refl (made_of n)

-- a call that was asked for n steps has made some of them
pub stepped_some : (n : ℕ) (s : SessionOf) → HasMadeSome n s (stepped n s).session
stepped_some n s =
    let made = made_of n s.level in
    (length (walk n s.level).events, made.0, ap (λ (w : Walk). length w.events) made.1, ap (after_walk s) (sym made.1))

-- A walk of m steps that were all made, and one of k steps from where it led, are one of all of them.
both_from : (m k : ℕ) (level : LevelOf) (next : Next LevelOf)
    → ((start : LevelOf) → length (walk m start).events ≡ m → walk (m + k) start ≡ both (walk m start) (walk k (walk m start).level))
    → length (walk_on level (walk m) next).events ≡ suc m
    → walk_on level (walk (m + k)) next ≡ both (walk_on level (walk m) next) (walk k (walk_on level (walk m) next).level)
both_from m k level Over later whole = absurd (omega arith)
both_from m k level (Stops stop) later whole = absurd (omega arith)
both_from m k level (Makes event after) later whole = ap (with_event event) (later after (omega arith))

walk_both : (m k : ℕ) (level : LevelOf) → length (walk m level).events ≡ m → walk (m + k) level ≡ both (walk m level) (walk k (walk m level).level)
unfolding walk
walk_both zero k level whole =
    let same : 0 + k ≡ k = omega arith in
    ap (λ (n : ℕ). walk n level) same
walk_both (suc m) k level whole =
    let same : suc m + k ≡ suc (m + k) = omega arith in
    ap (λ (n : ℕ). walk n level) same ∙ both_from m k level (next_of level) (λ start whole. walk_both m k start whole) whole

-- a session that has made some steps of a call goes on from them
pub goes_on : SessionsGoOn
goes_on n k old left made =
    ap (λ (s : SessionOf). after_walk s (walk k s.level)) made.3
    ∙ after_both old (walk made.0 old.level) (walk k (walk made.0 old.level).level)
    ∙ ap (after_walk old) (sym (walk_both made.0 k old.level made.2))

-- A walk from where another led comes to where both lead together, whether or not all its steps were made.
level_from : (m k : ℕ) (level : LevelOf) (next : Next LevelOf) → next_of level ≡ next
    → ((start : LevelOf) → (walk k (walk m start).level).level ≡ (walk (m + k) start).level)
    → (walk k (walk_on level (walk m) next).level).level ≡ (walk_on level (walk (m + k)) next).level
unfolding walk IsStop
level_from m k level Over is later = ap (λ (w : Walk). w.level) (walk_stays 0 k level (omega arith) (subst IsStop (sym is) tt))
level_from m k level (Stops stop) is later = ap (λ (w : Walk). w.level) (walk_stays 0 k level (omega arith) (subst IsStop (sym is) tt))
level_from m k level (Makes event after) is later = later after

pub walk_level : (m k : ℕ) (level : LevelOf) → (walk k (walk m level).level).level ≡ (walk (m + k) level).level
unfolding walk
walk_level zero k level =
    let same : k ≡ 0 + k = omega arith in
    ap (λ (n : ℕ). (walk n level).level) same
walk_level (suc m) k level =
    let same : suc (m + k) ≡ suc m + k = omega arith in
    level_from m k level (next_of level) refl (λ start. walk_level m k start) ∙ ap (λ (n : ℕ). (walk n level).level) same
