-- First arrivals at a place, or wherever a test holds.
use Rattle.std.proofs.Common.{◌≡◌, ◌+◌, ◌<◌, ◌≤◌, ℕ, zero, suc, Bool, true, false, cond, ◌||◌, List, [], ◌∷◌, Option, Some, None, refl, sym, ap, subst, ◌∙◌}
use Rattle.std.{proofs.Common.{arith, length, drop, get_or}, proofs.lemmas.List.drop_all, specs.List.{find, list_any, range_with_len}, proofs.Math.Dec.ltb}
use Rattle.std.proofs.lemmas.Bool.{ltb-true, ltb-false}
use Rattle.stack_text.proofs.Loops.{drop-item}
use Rattle.debug_script.specs.declared.command.Place.{Place}
use Rattle.level_debuggers.{specs.declared.advance.Advance.Advance, specs.declared.advance.Stop.Stop, specs.declared.session.SessionRun.SessionRun}
use Rattle.level_debuggers.{specs.Arrivals.{IsFirstTime, arrived, arrived_at_one, arrived_by, arrived_where, first_where}, specs.Levels.{LevelOf, next_of}}
use Rattle.level_debuggers.{specs.Levels.{stands_at, stands_at_one}, specs.Steps.{IsAdvance, is_over}, specs.Walks.{HasMadeSome, SessionOf, Stepped, Walk}}
use Rattle.level_debuggers.{specs.Walks.{refused_after, stepped, walk}, proofs.WalkLaws.{IsStop, Made, made_all, step_over, step_refused, stepped_some}}
use Rattle.level_debuggers.proofs.WalkLaws.{walk_stays}
use Rattle.level_debuggers.specs.declared.advance.Advance.TheVariants as advance
use Rattle.level_debuggers.specs.declared.session.SessionRun.TheVariants as run
use Rattle.level_debuggers.specs.declared.arrival.Arrival.TheVariants as arrival

-- Of numbers from one on, the first that passes.
module _ (p : ℕ → Bool) where
  found : (a i n : ℕ) → i < n → p (a + i) ≡ true → ((j : ℕ) → a ≤ j → j < a + i → p j ≡ false) → find p (range_with_len a n) ≡ Some (a + i)
  found a i zero lt here before = absurd (omega arith)
  found a zero (suc n) lt here before =
      let same : a + 0 ≡ a = omega arith in
      let passes : p a ≡ true = ap p (sym same) ∙ here in
      ap (λ (b : Bool). cond b (Some a) (find p (range_with_len (a + 1) n))) passes ∙ ap (λ (k : ℕ). Some k) (sym same)
  found a (suc i) (suc n) lt here before =
      let next : a + 1 + i ≡ a + suc i = omega arith in
      let later : find p (range_with_len (a + 1) n) ≡ Some (a + 1 + i)
      = found (a + 1) i n (omega arith) (ap p next ∙ here) (λ j le lt. before j (omega arith) (omega arith)) in
      ap (λ (b : Bool). cond b (Some a) (find p (range_with_len (a + 1) n))) (before a (omega arith) (omega arith))
      ∙ later ∙ ap (λ (k : ℕ). Some k) next

  none : (a n : ℕ) → ((j : ℕ) → a ≤ j → j < a + n → p j ≡ false) → find p (range_with_len a n) ≡ None
  none a zero fails = refl
  none a (suc n) fails =
      ap (λ (b : Bool). cond b (Some a) (find p (range_with_len (a + 1) n))) (fails a (omega arith) (omega arith))
      ∙ none (a + 1) n (λ j le lt. fails j (omega arith) (omega arith))

  by_test : (a n k : ℕ) (b : Bool) → (find p (range_with_len (a + 1) n) ≡ Some k → k < a + 1 + n)
      → cond b (Some a) (find p (range_with_len (a + 1) n)) ≡ Some k → k < a + suc n
  by_test a n k true later first = let same : a ≡ k = cc in omega (arith, same)
  by_test a n k false later rest = omega (arith, later rest)

  within : (a n k : ℕ) → find p (range_with_len a n) ≡ Some k → k < a + n
  within a zero k e = absurd cc
  within a (suc n) k e = by_test a n k (p a) (within (a + 1) n k) e

-- A run of which a test holds after k steps and not before.
pub is_first : (test : LevelOf → Bool) (n k : ℕ) (level : LevelOf) → k ≤ n → IsFirstTime test k level → first_where test n level ≡ Some k
unfolding first_where
is_first test n k level le first =
    let same : 0 + k ≡ k = omega arith in
    found (λ j. test (walk j level).level) 0 k (n + 1) (omega arith)
    (ap (λ (j : ℕ). test (walk j level).level) same ∙ first.stands) (λ j le lt. first.first j (omega arith))
    ∙ ap (λ (j : ℕ). Some j) same

pub is_none : (test : LevelOf → Bool) (n : ℕ) (level : LevelOf) → ((j : ℕ) → j ≤ n → test (walk j level).level ≡ false) → first_where test n level ≡ None
unfolding first_where
is_none test n level fails = none (λ j. test (walk j level).level) 0 (n + 1) (λ j le lt. fails j (omega arith))

first_within : (test : LevelOf → Bool) (n k : ℕ) (level : LevelOf) → first_where test n level ≡ Some k → k ≤ n
unfolding first_where
first_within test n k level e = omega (arith, within (λ j. test (walk j level).level) 0 (n + 1) k e)

-- Of a session that has made some steps and was at none of its places there.
module _ (test : LevelOf → Bool) (m n : ℕ) (old middle : SessionOf) (made : Made m old middle)
    (before : (j : ℕ) → j < m → test (walk j old.level).level ≡ false) where
  level_is : middle.level ≡ (walk m old.level).level
  level_is = ap (λ (s : SessionOf). s.level) made.comes

  -- it stands at the place now
  pub arrives : m ≤ n → test middle.level ≡ true → arrived_where test n old ≡ record { arrival = arrival.There m; session = middle }
  arrives le stands =
      let here : test (walk m old.level).level ≡ true = sym (ap test level_is) ∙ stands in
      ap (arrived_by n old) (is_first test n m old.level le record { stands = here; first = before })
      ∙ ap (λ (s : SessionOf). record { arrival = arrival.There m; session = s }) (sym made.comes)

  -- it doesn't, and so it is at one step more
  pub passed : test middle.level ≡ false → (j : ℕ) → j < m + 1 → test (walk j old.level).level ≡ false
  passed misses j lt = by_order (ltb j m) refl
    where
      by_order : (b : Bool) → ltb j m ≡ b → test (walk j old.level).level ≡ false
      by_order true e = before j (ltb-true j m e)
      by_order false e =
          let same : j ≡ m = omega (arith, ltb-false j m e, lt) in
          ap (λ (i : ℕ). test (walk i old.level).level) same ∙ sym (ap test level_is) ∙ misses

  -- nor does it go on
  pub misses_all : test middle.level ≡ false → m ≤ n → IsStop (next_of middle.level) → first_where test n old.level ≡ None
  misses_all misses le stop = is_none test n old.level (λ j within. by_order j (ltb j m) refl)
    where
      stays : IsStop (next_of (walk m old.level).level)
      stays = subst (λ (l : LevelOf). IsStop (next_of l)) level_is stop

      by_order : (j : ℕ) (b : Bool) → ltb j m ≡ b → test (walk j old.level).level ≡ false
      by_order j true e = before j (ltb-true j m e)
      by_order j false e =
          ap (λ (w : Walk). test w.level) (walk_stays m j old.level (ltb-false j m e) stays)
          ∙ sym (ap test level_is) ∙ misses

  -- all steps were made, and it did not come there
  misses_at_last : test middle.level ≡ false → m ≡ n → first_where test n old.level ≡ None
  misses_at_last misses e = is_none test n old.level (λ j le. passed misses j (omega (arith, e, le)))

-- it made the steps that were asked for
elsewhere : (test : LevelOf → Bool) (n : ℕ) (old new : SessionOf) (ran : SessionRun) → first_where test n old.level ≡ None
    → stepped n old ≡ record { run = ran; session = new } → arrived_where test n old ≡ record { arrival = arrival.Elsewhere ran; session = new }
elsewhere test n old new ran none is =
    ap (arrived_by n old) none
    ∙ ap (λ (made : Stepped). record { arrival = arrival.Elsewhere made.run; session = made.session }) is

-- it made them all, and stood at the place at none of them; how it ended is told by whether its run is over
pub never_there : (test : LevelOf → Bool) (m n : ℕ) (old middle : SessionOf) (over : Bool) → Made m old middle
    → ((j : ℕ) → j < m → test (walk j old.level).level ≡ false) → test middle.level ≡ false
    → m ≡ n → is_over (next_of middle.level) ≡ over
    → arrived_where test n old ≡ record { arrival = arrival.Elsewhere (cond over (run.Ended n) (run.Moved n)); session = middle }
never_there test m n old middle over made before misses all is =
    elsewhere test n old middle (cond over (run.Ended n) (run.Moved n))
    (misses_at_last test m n old middle made before misses all) (made_all m n old middle over made all is)

-- what was done from where it was is no step
module _ (test : LevelOf → Bool) (m n : ℕ) (old middle : SessionOf) (after : LevelOf) (done : Advance) (made : Made m old middle)
    (before : (j : ℕ) → j < m → test (walk j old.level).level ≡ false)
    (misses : test middle.level ≡ false) (step : IsAdvance next_of middle.level after done) where
  seen_step : {x : Advance} → done ≡ x → IsAdvance next_of middle.level after x
  seen_step e = rw (← e) step

  pub until_over : m ≤ n → done ≡ advance.Over
      → arrived_where test n old ≡ record { arrival = arrival.Elsewhere (run.Ended m); session = record middle { level = after } }
  unfolding IsStop
  until_over le is =
      let over = seen_step is in
      elsewhere test n old (record middle { level = after }) (run.Ended m)
      (misses_all test m n old middle made before misses le (subst IsStop (sym over.0) tt))
      (step_over m n old middle after done made step le is)

  pub until_refused : (stop : Stop) (answer : SessionRun) → m < n → done ≡ advance.Stops stop → answer ≡ refused_after middle.steps stop
      → arrived_where test n old ≡ record { arrival = arrival.Elsewhere answer; session = record middle { level = after } }
  unfolding IsStop
  until_refused stop answer lt is says =
      let stopped = seen_step is in
      elsewhere test n old (record middle { level = after }) answer
      (misses_all test m n old middle made before misses (omega (arith, lt)) (subst IsStop (sym stopped.0) tt))
      (step_refused m n old middle after done made step stop answer lt is says)

-- a call that was asked for n steps has made some of them
some_by : (test : LevelOf → Bool) (n : ℕ) (s : SessionOf) (first : Option ℕ) → first_where test n s.level ≡ first
    → HasMadeSome n s (arrived_by n s first).session
some_by test n s (Some k) e =
    let made = stepped_some k s in
    (made.0, omega (arith, made.1, first_within test n k s.level e), made.2, made.3)
some_by test n s None e = stepped_some n s

pub arrived_some : (test : LevelOf → Bool) (n : ℕ) (s : SessionOf) → HasMadeSome n s (arrived_where test n s).session
arrived_some test n s = some_by test n s (first_where test n s.level) refl

-- one place alone
same_test : (there : Place) (level : LevelOf) (b : Bool) → stands_at there level ≡ b → stands_at_one (there ∷ []) level ≡ b
same_test there level true e = ap (λ (c : Bool). c || false) e
same_test there level false e = ap (λ (c : Bool). c || false) e

pub one_place : (there : Place) (n : ℕ) (s : SessionOf) → arrived there n s ≡ arrived_at_one (there ∷ []) n s
one_place there n s =
    let same : (level : LevelOf) → stands_at_one (there ∷ []) level ≡ stands_at there level = λ level. same_test there level (stands_at there level) refl in
    sym (ap (λ (test : LevelOf → Bool). arrived_where test n s) (λ i level. same level i))

-- Of a run that stands at none of the places before the one that is asked for.
module _ (p : Place → Bool) (places : List Place) (i : ℕ) (there : Place) (all : Bool) (lt : i < length places) (is : there ≡ get_or places i there)
    (so_far : list_any p (drop i places) ≡ all) where
  opened : (b : Bool) → p there ≡ b → (b || list_any p (drop (i + 1) places)) ≡ all
  opened b e = ap (λ (c : Bool). c || list_any p (drop (i + 1) places)) (sym e) ∙ ap (list_any p) (sym (drop-item places i there lt is)) ∙ so_far

  pub at_this : p there ≡ true → true ≡ all
  at_this e = opened true e

  pub passed_by : p there ≡ false → list_any p (drop (i + 1) places) ≡ all
  passed_by e = opened false e

pub at_none : (p : Place → Bool) (places : List Place) (i : ℕ) (all : Bool) → length places ≤ i → list_any p (drop i places) ≡ all → false ≡ all
at_none p places i all le so_far = ap (list_any p) (sym (drop_all i places le)) ∙ so_far
