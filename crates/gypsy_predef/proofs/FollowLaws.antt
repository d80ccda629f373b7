-- A body that is followed by computation: what its next steps ask, and that they are made where it is given.
use Rattle.std.proofs.Common.{◌≡◌, ℕ, zero, suc, ◌+◌, ◌-◌, ◌≤◌, ◌<◌, Some, None, Ok, Bool, true, false, not, Option, List, [], ◌∷◌, ◌++◌, length, map, refl, ap}
use Rattle.std.{proofs.Common.{subst, arith, length-append, length-set}, specs.Prelude.{slice_get, slice_set, nat_lt, if◌then◌else◌}}
use Rattle.std.proofs.lemmas.Bool.{ltb-true, not-true}
use Rattle.piton_words.{specs.declared.word.Word.Word, specs.declared.word.Word.TheVariants.Nat, specs.declared.op.WordOp.WordOp}
use Rattle.piton_words.{specs.declared.outcome.Outcome.Outcome, specs.declared.outcome.Outcome.TheVariants.{One, Two}}
use Rattle.piton_words.specs.OperationRows as words
use Rattle.piton_syntax.{specs.declared.test_kind.TestFamily.TestFamily, specs.declared.test_kind.TestKind.TestKind}
use Rattle.piton_check.specs.Instruction as i
use Rattle.piton_check.specs.Instruction.{Instruction}
use Rattle.piton_semantics.{specs.State.{PitonState, element, with_element, with_word}, specs.Views.{then_on, words_taken, operands_of, test_of}}
use Rattle.piton_semantics.{specs.InstructionRows.{does_grow, results_on, row_of}, specs.Step.{cost_of, operation_cost}, specs.Law.{Steps, none}}
use Rattle.piton_semantics.proofs.RowLaws.{does_push, does_push_local, does_pop_local, does_set_local, does_pop_global, does_fetch_temp_stk}
use Rattle.piton_semantics.proofs.RowLaws.{does_deposit_temp_stk, does_test_and_jump, does_apply}
use Rattle.gypsy_predef.{proofs.RunningLaws.{Called, At, within, afterwards, goes}, proofs.StackLaws.element_over}

-- ---- what is looked at; where it isn't there, nothing can be given

abbrev Where : Bool → Type 0 → Type 0
Where true asked = asked
Where false asked = ⊥

abbrev WithWord : Option Word → (Word → Type 0) → Type 0
WithWord None asked = ⊥
WithWord (Some w) asked = asked w

abbrev WithTop : List Word → (Word → List Word → Type 0) → Type 0
WithTop [] asked = ⊥
WithTop (w ∷ below) asked = asked w below

abbrev WithIndex : List Word → (ℕ → List Word → Type 0) → Type 0
WithIndex [] asked = ⊥
WithIndex (Nat n ∷ below) asked = asked n below
WithIndex (w ∷ below) asked = ⊥

abbrev WithOne : List Word → (Word → Type 0) → Type 0
WithOne [] asked = ⊥
WithOne (w ∷ []) asked = asked w
WithOne (w ∷ v ∷ below) asked = ⊥

abbrev WithOperands : ℕ → List Word → (Word → Word → Word → List Word → Type 0) → Type 0
WithOperands (suc zero) (t ∷ below) asked = asked t t t below
WithOperands (suc (suc zero)) (t ∷ u ∷ below) asked = asked t u t below
WithOperands (suc (suc (suc zero))) (t ∷ u ∷ v ∷ below) asked = asked v u t below
WithOperands n stack asked = ⊥

-- what is asked at a place with these locals, words pushed since the call, stack below them and areas, at a cost so far
abbrev Asks : Type 1
Asks = ℕ → List Word → List Word → List Word → List (List Word) → ℕ → Type 0

module _ (here : Called) (room : ℕ) where
  -- what an instruction asks: the word that is fetched, the outcome of an operation or a test, that an element is there to be
  -- written; and then what is asked behind it, or at the end
  abbrev Asked : ℕ → List Word → List Word → List Word → List (List Word) → ℕ → Option Instruction → Asks → (PitonState → ℕ → Type 0) → Type 0
  Asked l locals pushed base areas cost None behind end = ⊥
  Asked l locals pushed base areas cost (Some (i.PushConstant w)) behind end =
      Where (nat_lt (length pushed) room) (behind (l + 1) locals (w ∷ pushed) base areas (cost + 1))
  Asked l locals pushed base areas cost (Some (i.PushLocal o)) behind end =
      Where (nat_lt (length pushed) room) (WithWord (slice_get locals o) (λ w. behind (l + 1) locals (w ∷ pushed) base areas (cost + 3)))
  Asked l locals pushed base areas cost (Some (i.PopLocal o)) behind end =
      WithTop pushed (λ w below. behind (l + 1) (slice_set locals o w) below base areas (cost + 3))
  Asked l locals pushed base areas cost (Some (i.SetLocal o)) behind end =
      WithTop pushed (λ w below. behind (l + 1) (slice_set locals o w) pushed base areas (cost + 3))
  Asked l locals pushed base areas cost (Some (i.PopGlobal area)) behind end =
      WithTop pushed (λ w below. behind (l + 1) locals below base (with_word areas area 0 w) (cost + 2))
  Asked l locals pushed base areas cost (Some i.FetchTempStk) behind end =
      WithIndex pushed (λ n below. (w : Word) × (element base n ≡ Some w) × behind (l + 1) locals (w ∷ below) base areas (cost + 3))
  Asked l locals pushed base areas cost (Some i.DepositTempStk) behind end =
      WithIndex pushed (λ n below. WithOne below (λ w. (n < length base) × behind (l + 1) locals [] (with_element base n w) areas (cost + 3)))
  Asked l locals pushed base areas cost (Some (i.TestAndJump family kind to)) behind end =
      WithTop pushed (λ w below. (b : Bool) × (test_of family kind w ≡ Ok b) × behind (if b then to else l + 1) locals below base areas (cost + 2))
  Asked l locals pushed base areas cost (Some (i.Apply o)) behind end =
      Where (not (does_grow o)) (WithOperands (words_taken o) pushed (λ v u t below. (out : Outcome) × (words.row_of o v u t (map length areas) ≡ Ok out) ×
      behind (l + 1) locals (results_on out below) base areas (cost + operation_cost o)))
  Asked l locals pushed base areas cost (Some (i.Jump to)) behind end = behind to locals pushed base areas (cost + 1)
  Asked l locals pushed base areas cost (Some i.NoOp) behind end = behind (l + 1) locals pushed base areas (cost + 1)
  Asked l locals pushed base areas cost (Some i.Pop) behind end = WithTop pushed (λ w below. behind (l + 1) locals below base areas (cost + 1))
  Asked l locals pushed base areas cost (Some i.Ret) behind end = end (afterwards here (pushed ++ base) areas) (cost + 4)
  Asked l locals pushed base areas cost (Some other) behind end = ⊥

  -- the end of so many steps, which the last of them may be: the cost is n, and the state r
  abbrev Ends : ℕ → ℕ → PitonState → PitonState → ℕ → Type 0
  Ends zero n r p cost = (cost ≡ n) × (p ≡ r)
  Ends (suc k) n r p cost = ⊥

  -- what the next k steps ask, that they end at the cost n in the state r
  abbrev pub Follows : ℕ → ℕ → PitonState → Asks
  Follows zero n r l locals pushed base areas cost = (cost ≡ n) × (within here l locals (pushed ++ base) areas ≡ r)
  Follows (suc k) n r l locals pushed base areas cost =
      Asked l locals pushed base areas cost (slice_get here.body.instructions l) (Follows k n r) (Ends k n r)

  -- the steps are made
  pub record Went (k n cost : ℕ) (p r : PitonState) : Type 0 where
    pub took : ℕ
    pub sum : cost + took ≡ n
    pub steps : Steps here.s k took p r

  there : (b : Bool) (asked : Type 0) → Where b asked → (b ≡ true) × asked
  there true asked h = (refl, h)
  there false asked h = absurd h

  has_room : (pushed base : List Word) → nat_lt (length pushed) room ≡ true → length base + room ≤ here.s.temp → length (pushed ++ base) < here.s.temp
  has_room pushed base few enough = let less = ltb-true (length pushed) room few in omega (arith, less, enough, length-append pushed base)

  element_under : (pushed base : List Word) (n : ℕ) (w : Word) → element base n ≡ Some w → element (pushed ++ base) n ≡ Some w
  element_under [] base n w h = h
  element_under (v ∷ pushed) base n w h = element_over v (pushed ++ base) n w (element_under pushed base n w h)

  results_under : (out : Outcome) (below base : List Word) → results_on out below ++ base ≡ results_on out (below ++ base)
  results_under (One w) below base = refl
  results_under (Two w v) below base = refl

  -- at a place, where the law holds of k steps from the next one
  module _ (k n : ℕ) (r : PitonState) (l : ℕ) (locals base : List Word) (areas : List (List Word)) (cost : ℕ)
      (enough : length base + room ≤ here.s.temp)
      (law : (l : ℕ) (locals pushed base : List Word) (areas : List (List Word)) (cost : ℕ) → length base + room ≤ here.s.temp →
      Follows k n r l locals pushed base areas cost → Went k n cost (within here l locals (pushed ++ base) areas) r) where
    abbrev from : List Word → PitonState
    from pushed = within here l locals (pushed ++ base) areas

    abbrev Does : List Word → Instruction → Type 0
    Does pushed ins =
        At here l ins → Asked l locals pushed base areas cost (Some ins) (Follows k n r) (Ends k n r) → Went (suc k) n cost (from pushed) r

    went : (pushed : List Word) (ins : Instruction) (q : PitonState) → At here l ins → row_of here.s (from pushed) ins ≡ Ok q →
        Went k n (cost + cost_of here.s (from pushed) ins) q r → Went (suc k) n cost (from pushed) r
    went pushed ins q at row rest = record {
      took = cost_of here.s (from pushed) ins + rest.took;
      sum = omega (arith, rest.sum);
      steps = goes here l locals (pushed ++ base) areas ins at row rest.steps;
    }

    constant : (w : Word) (pushed : List Word) → Does pushed (i.PushConstant w)
    constant w pushed at asked =
        let few = there (nat_lt (length pushed) room) _ asked in
        went pushed (i.PushConstant w) _ at (does_push here.s.temp (from pushed) w (has_room pushed base few.0 enough))
        (law (l + 1) locals (w ∷ pushed) base areas (cost + 1) enough few.1)

    local_there : (o : ℕ) (pushed : List Word) (found : Option Word) → slice_get locals o ≡ found → nat_lt (length pushed) room ≡ true →
        At here l (i.PushLocal o) → WithWord found (λ w. Follows k n r (l + 1) locals (w ∷ pushed) base areas (cost + 3)) → Went (suc k) n cost (from pushed) r
    local_there o pushed None is few at asked = absurd asked
    local_there o pushed (Some w) is few at asked =
        went pushed (i.PushLocal o) _ at (does_push_local here.s.temp (from pushed) o w is (has_room pushed base few enough))
        (law (l + 1) locals (w ∷ pushed) base areas (cost + 3) enough asked)

    local : (o : ℕ) (pushed : List Word) → Does pushed (i.PushLocal o)
    local o pushed at asked =
        let few = there (nat_lt (length pushed) room) _ asked in
        local_there o pushed (slice_get locals o) refl few.0 at few.1

    pop_local : (o : ℕ) (pushed : List Word) → Does pushed (i.PopLocal o)
    pop_local o [] at asked = absurd asked
    pop_local o (w ∷ below) at asked =
        went (w ∷ below) (i.PopLocal o) _ at (does_pop_local (from (w ∷ below)) o w (below ++ base) refl)
        (law (l + 1) (slice_set locals o w) below base areas (cost + 3) enough asked)

    set_local : (o : ℕ) (pushed : List Word) → Does pushed (i.SetLocal o)
    set_local o [] at asked = absurd asked
    set_local o (w ∷ below) at asked =
        went (w ∷ below) (i.SetLocal o) _ at (does_set_local (from (w ∷ below)) o w (below ++ base) refl)
        (law (l + 1) (slice_set locals o w) (w ∷ below) base areas (cost + 3) enough asked)

    pop_global : (area : ℕ) (pushed : List Word) → Does pushed (i.PopGlobal area)
    pop_global area [] at asked = absurd asked
    pop_global area (w ∷ below) at asked =
        went (w ∷ below) (i.PopGlobal area) _ at (does_pop_global (from (w ∷ below)) area w (below ++ base) refl)
        (law (l + 1) locals below base (with_word areas area 0 w) (cost + 2) enough asked)

    fetch : (pushed : List Word) → Does pushed i.FetchTempStk
    fetch [] at asked = absurd asked
    fetch (Nat index ∷ below) at asked =
        let there = element_under below base index asked.0 asked.1 in
        went (Nat index ∷ below) i.FetchTempStk _ at (does_fetch_temp_stk (from (Nat index ∷ below)) index (below ++ base) asked.0 refl there)
        (law (l + 1) locals (asked.0 ∷ below) base areas (cost + 3) enough asked.2)
    fetch (w ∷ below) at asked = absurd asked

    deposit : (pushed : List Word) → Does pushed i.DepositTempStk
    deposit [] at asked = absurd asked
    deposit (Nat index ∷ []) at asked = absurd asked
    deposit (Nat index ∷ w ∷ []) at asked =
        let same = length-set base (length base - 1 - index) w in
        went (Nat index ∷ w ∷ []) i.DepositTempStk _ at (does_deposit_temp_stk (from (Nat index ∷ w ∷ [])) index w base refl asked.0)
        (law (l + 1) locals [] (with_element base index w) areas (cost + 3) (omega (arith, enough, same)) asked.1)
    deposit (Nat index ∷ w ∷ v ∷ below) at asked = absurd asked
    deposit (w ∷ below) at asked = absurd asked

    test : (family : TestFamily) (kind : TestKind) (to : ℕ) (pushed : List Word) → Does pushed (i.TestAndJump family kind to)
    test family kind to [] at asked = absurd asked
    test family kind to (w ∷ below) at asked =
        went (w ∷ below) (i.TestAndJump family kind to) _ at
        (does_test_and_jump (from (w ∷ below)) family kind to w (below ++ base) asked.0 refl asked.1)
        (law (if asked.0 then to else l + 1) locals below base areas (cost + 2) enough asked.2)

    drop_top : (pushed : List Word) → Does pushed i.Pop
    unfolding then_on
    drop_top [] at asked = absurd asked
    drop_top (w ∷ below) at asked = went (w ∷ below) i.Pop _ at refl (law (l + 1) locals below base areas (cost + 1) enough asked)

    operated : (o : WordOp) (v u t : Word) (pushed below : List Word) (out : Outcome) → does_grow o ≡ false → At here l (i.Apply o) →
        operands_of (words_taken o) (pushed ++ base) ≡ Ok record { third = v; second = u; top = t; below = below ++ base } →
        words.row_of o v u t (map length areas) ≡ Ok out →
        Follows k n r (l + 1) locals (results_on out below) base areas (cost + operation_cost o) → Went (suc k) n cost (from pushed) r
    operated o v u t pushed below out small at taken row asked =
        went pushed (i.Apply o) _ at
        (does_apply here.s.temp (from pushed) o record { third = v; second = u; top = t; below = below ++ base } out taken row small)
        (subst (λ stack. Went k n (cost + operation_cost o) (within here (l + 1) locals stack areas) r) (results_under out below base)
        (law (l + 1) locals (results_on out below) base areas (cost + operation_cost o) enough asked))

    operation_there : (o : WordOp) (taken : ℕ) (pushed : List Word) → words_taken o ≡ taken → does_grow o ≡ false → At here l (i.Apply o) →
        WithOperands taken pushed (λ v u t below. (out : Outcome) × (words.row_of o v u t (map length areas) ≡ Ok out) ×
        Follows k n r (l + 1) locals (results_on out below) base areas (cost + operation_cost o)) → Went (suc k) n cost (from pushed) r
    operation_there o zero pushed is small at asked = absurd asked
    operation_there o (suc zero) [] is small at asked = absurd asked
    operation_there o (suc zero) (t ∷ below) is small at asked =
        operated o t t t (t ∷ below) below asked.0 small at (ap (λ j. operands_of j (t ∷ (below ++ base))) is) asked.1 asked.2
    operation_there o (suc (suc zero)) [] is small at asked = absurd asked
    operation_there o (suc (suc zero)) (t ∷ []) is small at asked = absurd asked
    operation_there o (suc (suc zero)) (t ∷ u ∷ below) is small at asked =
        operated o t u t (t ∷ u ∷ below) below asked.0 small at (ap (λ j. operands_of j (t ∷ u ∷ (below ++ base))) is) asked.1 asked.2
    operation_there o (suc (suc (suc zero))) [] is small at asked = absurd asked
    operation_there o (suc (suc (suc zero))) (t ∷ []) is small at asked = absurd asked
    operation_there o (suc (suc (suc zero))) (t ∷ u ∷ []) is small at asked = absurd asked
    operation_there o (suc (suc (suc zero))) (t ∷ u ∷ v ∷ below) is small at asked =
        operated o v u t (t ∷ u ∷ v ∷ below) below asked.0 small at (ap (λ j. operands_of j (t ∷ u ∷ v ∷ (below ++ base))) is) asked.1 asked.2
    operation_there o (suc (suc (suc (suc taken)))) pushed is small at asked = absurd asked

    -- the last step
    last : (pushed : List Word) (j : ℕ) → j ≡ k → At here l i.Ret → Ends j n r (afterwards here (pushed ++ base) areas) (cost + 4) →
        Went (suc k) n cost (from pushed) r
    last pushed zero is at asked =
        let end : Steps here.s 1 4 (from pushed) r = subst (λ q. Steps here.s 1 4 (from pushed) q) asked.1
        (goes here l locals (pushed ++ base) areas i.Ret at refl none) in
        record { took = 4; sum = asked.0; steps = subst (λ j. Steps here.s (suc j) 4 (from pushed) r) is end }
    last pushed (suc j) is at asked = absurd asked

    step_there : (pushed : List Word) (found : Option Instruction) → slice_get here.body.instructions l ≡ found →
        Asked l locals pushed base areas cost found (Follows k n r) (Ends k n r) → Went (suc k) n cost (from pushed) r
    step_there pushed None at asked = absurd asked
    step_there pushed (Some (i.PushConstant w)) at asked = constant w pushed at asked
    step_there pushed (Some (i.PushLocal o)) at asked = local o pushed at asked
    step_there pushed (Some (i.PopLocal o)) at asked = pop_local o pushed at asked
    step_there pushed (Some (i.SetLocal o)) at asked = set_local o pushed at asked
    step_there pushed (Some (i.PopGlobal area)) at asked = pop_global area pushed at asked
    step_there pushed (Some i.FetchTempStk) at asked = fetch pushed at asked
    step_there pushed (Some i.DepositTempStk) at asked = deposit pushed at asked
    step_there pushed (Some (i.TestAndJump family kind to)) at asked = test family kind to pushed at asked
    step_there pushed (Some (i.Apply o)) at asked =
        let small = there (not (does_grow o)) _ asked in
        operation_there o (words_taken o) pushed refl (not-true (does_grow o) small.0) at small.1
    step_there pushed (Some (i.Jump to)) at asked = went pushed (i.Jump to) _ at refl (law to locals pushed base areas (cost + 1) enough asked)
    step_there pushed (Some i.NoOp) at asked = went pushed i.NoOp _ at refl (law (l + 1) locals pushed base areas (cost + 1) enough asked)
    step_there pushed (Some i.Pop) at asked = drop_top pushed at asked
    step_there pushed (Some i.Ret) at asked = last pushed k refl at asked
    step_there pushed (Some other) at asked = absurd asked

  pub follow : (k n : ℕ) (r : PitonState) (l : ℕ) (locals pushed base : List Word) (areas : List (List Word)) (cost : ℕ) →
      length base + room ≤ here.s.temp → Follows k n r l locals pushed base areas cost → Went k n cost (within here l locals (pushed ++ base) areas) r
  follow zero n r l locals pushed base areas cost enough asked = record {
    took = 0;
    sum = omega (arith, asked.0);
    steps = subst (λ q. Steps here.s 0 0 (within here l locals (pushed ++ base) areas) q) asked.1 none;
  }
  follow (suc k) n r l locals pushed base areas cost enough asked =
      step_there k n r l locals base areas cost enough (λ l locals pushed base areas cost enough asked.
      follow k n r l locals pushed base areas cost enough asked) pushed (slice_get here.body.instructions l) refl asked
