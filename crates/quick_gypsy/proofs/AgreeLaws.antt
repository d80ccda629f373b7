-- A statement and the one with its calls in line, side by side: what their outcomes have in common, part by part.
use Rattle.std.proofs.Common.{◌≡◌, ℕ, ◌+◌, ◌<◌, ◌≤◌, List, [], ◌∷◌, map, length, get_or, slice_set, Bool, true, false, Option, Some, None, refl, ap, sym, ◌∙◌}
use Rattle.std.{proofs.Common.{subst, arith}, specs.Prelude.{◌==◌, option_map, if◌then◌else◌}, proofs.lemmas.Bool.{eqb-true, eqb-false, eq-eqb}}
use Rattle.stack_text.specs.Values.{ValueOf}
use Rattle.gypsy_syntax.{specs.declared.predef.Predef.Predef, specs.Programs.{ConditionOf, Leave, Routine, Space, Declared, Arg}, specs.Predefined.predef_cost}
use Rattle.gypsy_syntax.specs.Effects.{Effect, Normal, Fault, Beyond}
use Rattle.gypsy_space.specs.Costs.{Tally, spend}
use Rattle.gypsy_semantics.{specs.Calls.{CurrentCondition, same_cond, has_cond, is_leave, target_of}, specs.Kept.RaisedFits, specs.Meaning.MeaningOutcome}
use Rattle.gypsy_semantics.{specs.Meaning.{Done, Unfinished, then_do, either_way, caught, round_end, applied}, specs.Counted.{CountedOutcome, CountedDone}}
use Rattle.gypsy_semantics.specs.Counted.{CountedUnfinished, counted_then, counted_part, counted_either, counted_caught, counted_round_end, counted_applied}
use Rattle.quick_gypsy.{specs.InLine.condition_from, specs.Quick.{after_part, after_body}, proofs.ViewLaws.{view, view_set, Apart, Keeps, keeps_all}}
use Rattle.quick_gypsy.proofs.ViewLaws.{keeps_then, keeps_set}

-- Conditions.

same_declared : (k i j : ℕ) → (k + i == k + j) ≡ (i == j)
same_declared k i j = pick (i == j) refl
  where
    pick : (t : Bool) → (i == j) ≡ t → (k + i == k + j) ≡ t
    pick true e = eq-eqb (k + i) (k + j) (ap (λ a. k + a) (eqb-true i j e))
    pick false e = turn (k + i == k + j) refl
      where
        turn : (r : Bool) → (k + i == k + j) ≡ r → r ≡ false
        turn true f =
            let sums : k + i ≡ k + j = eqb-true (k + i) (k + j) f in
            absurd (eqb-false i j e (omega (arith, sums)))
        turn false f = refl

same_from : (k : ℕ) (c d : ConditionOf) → same_cond (condition_from k c) (condition_from k d) ≡ same_cond c d
same_from k Leave Leave = refl
same_from k Leave Routine = refl
same_from k Leave Space = refl
same_from k Leave (Declared j) = refl
same_from k Routine Leave = refl
same_from k Routine Routine = refl
same_from k Routine Space = refl
same_from k Routine (Declared j) = refl
same_from k Space Leave = refl
same_from k Space Routine = refl
same_from k Space Space = refl
same_from k Space (Declared j) = refl
same_from k (Declared i) Leave = refl
same_from k (Declared i) Routine = refl
same_from k (Declared i) Space = refl
same_from k (Declared i) (Declared j) = same_declared k i j

has_from : (k : ℕ) (c : ConditionOf) (cs : List ConditionOf) → has_cond (condition_from k c) (map (condition_from k) cs) ≡ has_cond c cs
has_from k c [] = refl
has_from k c (d ∷ cs) =
    ap (λ t. if t then true else has_cond (condition_from k c) (map (condition_from k) cs)) (same_from k c d)
    ∙ ap (λ r. if same_cond c d then true else r) (has_from k c cs)

leave_from : (k : ℕ) (c : ConditionOf) → is_leave (condition_from k c) ≡ is_leave c
leave_from k Leave = refl
leave_from k Routine = refl
leave_from k Space = refl
leave_from k (Declared i) = refl

-- a condition that passes a loop
past_loop : (conds : ℕ) (looping : Bool) (c : ConditionOf) → is_leave c ≡ false → RaisedFits true conds c → RaisedFits looping conds c
past_loop conds looping Leave e h = absurd cc
past_loop conds looping Routine e h = tt
past_loop conds looping Space e h = tt
past_loop conds looping (Declared i) e h = h

abbrev pub Ends : Bool → ℕ → CurrentCondition → Type 0
Ends looping conds None = Unit {0}
Ends looping conds (Some c) = RaisedFits looping conds c

-- What a part of the cost is.

body_normal : (y : List ValueOf) (cs : List ConditionOf) (g : Option ConditionOf) (k : List ValueOf → ℕ) → after_body g (Done y None) cs k ≤ 1
body_normal y cs None k = omega arith
body_normal y cs (Some d) k = omega arith

body_caught : (y : List ValueOf) (c : ConditionOf) (cs : List ConditionOf) (g : Option ConditionOf) (k : List ValueOf → ℕ) (b : Bool)
    → has_cond c cs ≡ b → after_body g (Done y (Some c)) cs k ≤ (if b then k y else 0)
body_caught y c cs None k b e = subst (λ t. (if t then k y else 0) ≤ (if b then k y else 0)) (sym e) (omega arith)
body_caught y c cs (Some d) k b e = omega arith

-- A: where the statement is done, the other one may not be, because its bound is less. B: the other way round.
module _ (A B : Type 0) (vs : List ℕ) (below first conds : ℕ) where
  pub record Same (looping : Bool) (X : List ValueOf) (t t' : Tally) (y Y : List ValueOf) (c C : CurrentCondition) (k : ℕ) : Type 0 where
    pub seen : view vs Y ≡ y
    pub keeps : Keeps vs below X Y
    pub way : C ≡ option_map (condition_from first) c
    pub ends : Ends looping conds c
    pub cost : k + t.count ≤ t'.count

  abbrev pub Agree : Bool → List ValueOf → Tally → CountedOutcome → MeaningOutcome → ℕ → Type 0
  Agree looping X t (CountedDone y c t') (Done Y C) k = Same looping X t t' y Y c C k
  Agree looping X t (CountedDone y c t') Unfinished k = A
  Agree looping X t CountedUnfinished (Done Y C) k = B
  Agree looping X t CountedUnfinished Unfinished k = Unit {0}

  pub short : (looping : Bool) (X : List ValueOf) (t : Tally) (o : CountedOutcome) (k : ℕ) → A → Agree looping X t o Unfinished k
  short looping X t (CountedDone y c t') k a = a
  short looping X t CountedUnfinished k a = tt

  pub long : (looping : Bool) (X : List ValueOf) (t : Tally) (O : MeaningOutcome) (k : ℕ) → B → Agree looping X t CountedUnfinished O k
  long looping X t (Done Y C) k b = b
  long looping X t Unfinished k b = tt

  -- a part in the normal condition, and what follows it
  chained : (looping inner : Bool) (j k l : ℕ) (X y Y : List ValueOf) (t0 t t' u : Tally) (o : CountedOutcome) (O : MeaningOutcome)
      → Same inner X t0 t' y Y None None j → ((m : ℕ) → k + u.count ≤ m → j + t0.count ≤ t'.count → l + t.count ≤ m)
      → Agree looping Y u o O k → Agree looping X t o O l
  chained looping inner j k l X y Y t0 t t' u (CountedDone z c v) (Done Z C) one total h =
      record {
        seen = h.seen;
        keeps = keeps_then vs below X Y Z one.keeps h.keeps;
        way = h.way;
        ends = h.ends;
        cost = total v.count h.cost one.cost;
      }
  chained looping inner j k l X y Y t0 t t' u (CountedDone z c v) Unfinished one total h = h
  chained looping inner j k l X y Y t0 t t' u CountedUnfinished (Done Z C) one total h = h
  chained looping inner j k l X y Y t0 t t' u CountedUnfinished Unfinished one total h = tt

  -- what is seen of the variables stands for them
  seen_as : (looping : Bool) (Y y : List ValueOf) (t : Tally) (go : List ValueOf → Tally → CountedOutcome) (O : MeaningOutcome) (k : ℕ)
      → view vs Y ≡ y → Agree looping Y t (go (view vs Y) t) O k → Agree looping Y t (go y t) O k
  seen_as looping Y y t go O k e h = subst (λ z. Agree looping Y t (go z t) O k) e h

  pub then_agree : (looping : Bool) (X : List ValueOf) (t : Tally) (o : CountedOutcome) (O : MeaningOutcome) (j : ℕ)
      (go : List ValueOf → Tally → CountedOutcome) (Go : List ValueOf → MeaningOutcome) (k : List ValueOf → ℕ)
      → Agree looping X t o O j
      → ((Y : List ValueOf) (t' : Tally) → length Y ≡ length X → Agree looping Y t' (go (view vs Y) t') (Go Y) (k Y))
      → Agree looping X t (counted_then o go) (then_do O Go) (j + after_part O k)
  then_agree looping X t (CountedDone y None t') (Done Y None) j go Go k h next =
      chained looping looping j (k Y) (j + k Y) X y Y t t t' t' (go y t') (Go Y) h (λ m a b. omega (arith, a, b))
      (seen_as looping Y y t' go (Go Y) (k Y) h.seen (next Y t' h.keeps.long))
  then_agree looping X t (CountedDone y None t') (Done Y (Some C)) j go Go k h next = let e = h.way in absurd cc
  then_agree looping X t (CountedDone y (Some c) t') (Done Y None) j go Go k h next = let e = h.way in absurd cc
  then_agree looping X t (CountedDone y (Some c) t') (Done Y (Some C)) j go Go k h next =
      record { seen = h.seen; keeps = h.keeps; way = h.way; ends = h.ends; cost = omega (arith, h.cost) }
  then_agree looping X t (CountedDone y None t') Unfinished j go Go k h next = short looping X t (go y t') (j + 0) h
  then_agree looping X t (CountedDone y (Some c) t') Unfinished j go Go k h next = h
  then_agree looping X t CountedUnfinished (Done Y None) j go Go k h next = long looping X t (Go Y) (j + k Y) h
  then_agree looping X t CountedUnfinished (Done Y (Some C)) j go Go k h next = h
  then_agree looping X t CountedUnfinished Unfinished j go Go k h next = tt

  pub round_agree : (looping : Bool) (X : List ValueOf) (t : Tally) (o : CountedOutcome) (O : MeaningOutcome) (j : ℕ)
      (go : List ValueOf → Tally → CountedOutcome) (Go : List ValueOf → MeaningOutcome) (k : List ValueOf → ℕ)
      → Agree true X (spend 1 1 t) o O j
      → ((Y : List ValueOf) (t' : Tally) → length Y ≡ length X → Agree looping Y t' (go (view vs Y) t') (Go Y) (k Y))
      → Agree looping X t (counted_round_end o go) (round_end O Go) (j + after_part O (λ y. 1 + k y))
  unfolding spend
  round_agree looping X t (CountedDone y None t') (Done Y None) j go Go k h next =
      chained looping true j (k Y) (j + (1 + k Y)) X y Y (spend 1 1 t) t t' (spend 1 1 t') (go y (spend 1 1 t')) (Go Y) h
      (λ m a b. omega (arith, a, b))
      (seen_as looping Y y (spend 1 1 t') go (Go Y) (k Y) h.seen (next Y (spend 1 1 t') h.keeps.long))
  round_agree looping X t (CountedDone y None t') (Done Y (Some C)) j go Go k h next = let e = h.way in absurd cc
  round_agree looping X t (CountedDone y (Some c) t') (Done Y None) j go Go k h next = let e = h.way in absurd cc
  round_agree looping X t (CountedDone y (Some c) t') (Done Y (Some C)) j go Go k h next =
      let e : C ≡ condition_from first c = cc in
      pick (is_leave c) refl (ap is_leave e ∙ leave_from first c)
    where
      pick : (b : Bool) → is_leave c ≡ b → is_leave C ≡ is_leave c
          → Agree looping X t (counted_either (is_leave c) (CountedDone y None (spend 3 2 t')) (CountedDone y (Some c) t'))
          (either_way (is_leave C) (Done Y None) (Done Y (Some C))) (j + 0)
      pick true f g =
          subst (λ r. Agree looping X t (counted_either (is_leave c) (CountedDone y None (spend 3 2 t')) (CountedDone y (Some c) t'))
          (either_way r (Done Y None) (Done Y (Some C))) (j + 0)) (sym (g ∙ f))
          (subst (λ r. Agree looping X t (counted_either r (CountedDone y None (spend 3 2 t')) (CountedDone y (Some c) t')) (Done Y None) (j + 0)) (sym f)
          (record { seen = h.seen; keeps = h.keeps; way = refl; ends = tt; cost = let a : j + (t.count + 1) ≤ t'.count = h.cost in omega (arith, a) }))
      pick false f g =
          subst (λ r. Agree looping X t (counted_either (is_leave c) (CountedDone y None (spend 3 2 t')) (CountedDone y (Some c) t'))
          (either_way r (Done Y None) (Done Y (Some C))) (j + 0)) (sym (g ∙ f))
          (subst (λ r. Agree looping X t (counted_either r (CountedDone y None (spend 3 2 t')) (CountedDone y (Some c) t')) (Done Y (Some C)) (j + 0)) (sym f)
          (record {
            seen = h.seen;
            keeps = h.keeps;
            way = h.way;
            ends = past_loop conds looping c f h.ends;
            cost = let a : j + (t.count + 1) ≤ t'.count = h.cost in omega (arith, a);
          }))
  round_agree looping X t (CountedDone y None t') Unfinished j go Go k h next = short looping X t (go y (spend 1 1 t')) (j + 0) h
  round_agree looping X t (CountedDone y (Some c) t') Unfinished j go Go k h next = pick (is_leave c)
    where
      pick : (b : Bool) → Agree looping X t (counted_either b (CountedDone y None (spend 3 2 t')) (CountedDone y (Some c) t')) Unfinished (j + 0)
      pick true = h
      pick false = h
  round_agree looping X t CountedUnfinished (Done Y None) j go Go k h next = long looping X t (Go Y) (j + (1 + k Y)) h
  round_agree looping X t CountedUnfinished (Done Y (Some C)) j go Go k h next = pick (is_leave C)
    where
      pick : (b : Bool) → Agree looping X t CountedUnfinished (either_way b (Done Y None) (Done Y (Some C))) (j + 0)
      pick true = h
      pick false = h
  round_agree looping X t CountedUnfinished Unfinished j go Go k h next = tt

  -- a part that a join follows
  parted : (looping : Bool) (X : List ValueOf) (i l : ℕ) (t : Tally) (o : CountedOutcome) (O : MeaningOutcome) (k : ℕ)
      → Agree looping X t o O k → Agree looping X t (counted_part o (spend i l)) O k
  unfolding spend
  parted looping X i l t (CountedDone y None t') (Done Y C) k h =
      record { seen = h.seen; keeps = h.keeps; way = h.way; ends = h.ends; cost = let a : k + t.count ≤ t'.count = h.cost in omega (arith, a) }
  parted looping X i l t (CountedDone y (Some c) t') (Done Y C) k h = h
  parted looping X i l t (CountedDone y None t') Unfinished k h = h
  parted looping X i l t (CountedDone y (Some c) t') Unfinished k h = h
  parted looping X i l t CountedUnfinished (Done Y C) k h = h
  parted looping X i l t CountedUnfinished Unfinished k h = tt

  pub cheaper : (looping : Bool) (X : List ValueOf) (t : Tally) (o : CountedOutcome) (O : MeaningOutcome) (j k : ℕ) → j ≤ k
      → Agree looping X t o O k → Agree looping X t o O j
  cheaper looping X t (CountedDone y c t') (Done Y C) j k le h =
      record { seen = h.seen; keeps = h.keeps; way = h.way; ends = h.ends; cost = let a : k + t.count ≤ t'.count = h.cost in omega (arith, a, le) }
  cheaper looping X t (CountedDone y c t') Unfinished j k le h = h
  cheaper looping X t CountedUnfinished (Done Y C) j k le h = h
  cheaper looping X t CountedUnfinished Unfinished j k le h = tt

  -- the first part of an `if`, and the jump over the second
  true_agree : (looping : Bool) (f j : ℕ) (X : List ValueOf) (t : Tally) (o : CountedOutcome) (O : MeaningOutcome) → f ≤ 1
      → Agree looping X (spend 8 3 t) o O j → Agree looping X t (counted_part o (spend 2 2)) O (f + 1 + 1 + (j + after_part O (λ y. 1)))
  unfolding spend
  true_agree looping f j X t (CountedDone y None t') (Done Y None) low h =
      record {
        seen = h.seen;
        keeps = h.keeps;
        way = h.way;
        ends = h.ends;
        cost = let a : j + (t.count + 8) ≤ t'.count = h.cost in omega (arith, a, low);
      }
  true_agree looping f j X t (CountedDone y None t') (Done Y (Some C)) low h = let e = h.way in absurd cc
  true_agree looping f j X t (CountedDone y (Some c) t') (Done Y None) low h = let e = h.way in absurd cc
  true_agree looping f j X t (CountedDone y (Some c) t') (Done Y (Some C)) low h =
      record {
        seen = h.seen;
        keeps = h.keeps;
        way = h.way;
        ends = h.ends;
        cost = let a : j + (t.count + 8) ≤ t'.count = h.cost in omega (arith, a, low);
      }
  true_agree looping f j X t (CountedDone y None t') Unfinished low h = h
  true_agree looping f j X t (CountedDone y (Some c) t') Unfinished low h = h
  true_agree looping f j X t CountedUnfinished (Done Y C) low h = h
  true_agree looping f j X t CountedUnfinished Unfinished low h = tt

  false_agree : (looping : Bool) (f j : ℕ) (X : List ValueOf) (t : Tally) (o : CountedOutcome) (O : MeaningOutcome) → f ≤ 1
      → Agree looping X (spend 9 4 t) o O j → Agree looping X t (counted_part o (spend 1 1)) O (f + 1 + 1 + j)
  unfolding spend
  false_agree looping f j X t (CountedDone y None t') (Done Y C) low h =
      record {
        seen = h.seen;
        keeps = h.keeps;
        way = h.way;
        ends = h.ends;
        cost = let a : j + (t.count + 9) ≤ t'.count = h.cost in omega (arith, a, low);
      }
  false_agree looping f j X t (CountedDone y (Some c) t') (Done Y C) low h =
      record {
        seen = h.seen;
        keeps = h.keeps;
        way = h.way;
        ends = h.ends;
        cost = let a : j + (t.count + 9) ≤ t'.count = h.cost in omega (arith, a, low);
      }
  false_agree looping f j X t (CountedDone y None t') Unfinished low h = h
  false_agree looping f j X t (CountedDone y (Some c) t') Unfinished low h = h
  false_agree looping f j X t CountedUnfinished (Done Y C) low h = h
  false_agree looping f j X t CountedUnfinished Unfinished low h = tt

  pub if_agree : (looping b : Bool) (f ks kw : ℕ) (X : List ValueOf) (t : Tally) (os ow : CountedOutcome) (Os Ow : MeaningOutcome) → f ≤ 1
      → Agree looping X (spend 8 3 t) os Os ks → Agree looping X (spend 9 4 t) ow Ow kw
      → Agree looping X t (counted_either b (counted_part os (spend 2 2)) (counted_part ow (spend 1 1))) (either_way b Os Ow)
      (f + 1 + 1 + (if b then ks + after_part Os (λ y. 1) else kw))
  if_agree looping true f ks kw X t os ow Os Ow low h g = true_agree looping f ks X t os Os low h
  if_agree looping false f ks kw X t os ow Os Ow low h g = false_agree looping f kw X t ow Ow low g

  pub caught_agree : (looping : Bool) (X : List ValueOf) (t : Tally) (o : CountedOutcome) (O : MeaningOutcome) (j : ℕ) (cs : List ConditionOf)
      (g : Option ConditionOf) (go : List ValueOf → Tally → CountedOutcome) (Go : List ValueOf → MeaningOutcome) (k : List ValueOf → ℕ)
      → Agree looping X t o O j
      → ((Y : List ValueOf) (t' : Tally) → length Y ≡ length X → Agree looping Y t' (go (view vs Y) t') (Go Y) (k Y))
      → Agree looping X t (counted_caught o cs go) (caught O (map (condition_from first) cs) Go) (j + after_body g O (map (condition_from first) cs) k)
  unfolding spend
  caught_agree looping X t (CountedDone y None t') (Done Y None) j cs g go Go k h next =
      record {
        seen = h.seen;
        keeps = h.keeps;
        way = h.way;
        ends = tt;
        cost = let a : j + t.count ≤ t'.count = h.cost in omega (arith, a, body_normal Y (map (condition_from first) cs) g k);
      }
  caught_agree looping X t (CountedDone y None t') (Done Y (Some C)) j cs g go Go k h next = let e = h.way in absurd cc
  caught_agree looping X t (CountedDone y (Some c) t') (Done Y None) j cs g go Go k h next = let e = h.way in absurd cc
  caught_agree looping X t (CountedDone y (Some c) t') (Done Y (Some C)) j cs g go Go k h next =
      let e : C ≡ condition_from first c = cc in
      let f : has_cond C (map (condition_from first) cs) ≡ has_cond c cs =
      ap (λ d. has_cond d (map (condition_from first) cs)) e ∙ has_from first c cs in
      pick (has_cond c cs) refl f
    where
      pick : (b : Bool) → has_cond c cs ≡ b → has_cond C (map (condition_from first) cs) ≡ has_cond c cs
          → Agree looping X t
          (counted_either (has_cond c cs) (counted_part (go y (spend 3 2 t')) (spend 1 1)) (CountedDone y (Some c) t'))
          (either_way (has_cond C (map (condition_from first) cs)) (Go Y) (Done Y (Some C)))
          (j + after_body g (Done Y (Some C)) (map (condition_from first) cs) k)
      pick true d f =
          let le : after_body g (Done Y (Some C)) (map (condition_from first) cs) k ≤ k Y =
          body_caught Y C (map (condition_from first) cs) g k true (f ∙ d) in
          let K = j + after_body g (Done Y (Some C)) (map (condition_from first) cs) k in
          let arm = seen_as looping Y y (spend 3 2 t') go (Go Y) (k Y) h.seen (next Y (spend 3 2 t') h.keeps.long) in
          subst (λ r. Agree looping X t (counted_either (has_cond c cs) (counted_part (go y (spend 3 2 t')) (spend 1 1)) (CountedDone y (Some c) t'))
          (either_way r (Go Y) (Done Y (Some C))) K) (sym (f ∙ d))
          (subst (λ r. Agree looping X t (counted_either r (counted_part (go y (spend 3 2 t')) (spend 1 1)) (CountedDone y (Some c) t')) (Go Y) K) (sym d)
          (parted looping X 1 1 t (go y (spend 3 2 t')) (Go Y) K
          (follow (go y (spend 3 2 t')) (Go Y) K (omega (arith, le)) arm)))
        where
          follow : (o : CountedOutcome) (O : MeaningOutcome) (K : ℕ) → K ≤ j + k Y → Agree looping Y (spend 3 2 t') o O (k Y) → Agree looping X t o O K
          follow (CountedDone z e v) (Done Z E) K le a =
              record {
                seen = a.seen;
                keeps = keeps_then vs below X Y Z h.keeps a.keeps;
                way = a.way;
                ends = a.ends;
                cost = let one : j + t.count ≤ t'.count = h.cost in let two : k Y + (t'.count + 3) ≤ v.count = a.cost in omega (arith, one, two, le);
              }
          follow (CountedDone z e v) Unfinished K le a = a
          follow CountedUnfinished (Done Z E) K le a = a
          follow CountedUnfinished Unfinished K le a = tt
      pick false d f =
          let le : after_body g (Done Y (Some C)) (map (condition_from first) cs) k ≤ 0 =
          body_caught Y C (map (condition_from first) cs) g k false (f ∙ d) in
          let K = j + after_body g (Done Y (Some C)) (map (condition_from first) cs) k in
          subst (λ r. Agree looping X t (counted_either (has_cond c cs) (counted_part (go y (spend 3 2 t')) (spend 1 1)) (CountedDone y (Some c) t'))
          (either_way r (Go Y) (Done Y (Some C))) K) (sym (f ∙ d))
          (subst (λ r. Agree looping X t (counted_either r (counted_part (go y (spend 3 2 t')) (spend 1 1)) (CountedDone y (Some c) t')) (Done Y (Some C)) K)
          (sym d)
          (cheaper looping X t (CountedDone y (Some c) t') (Done Y (Some C)) K j (omega (arith, le)) h))
  caught_agree looping X t (CountedDone y None t') Unfinished j cs g go Go k h next = h
  caught_agree looping X t (CountedDone y (Some c) t') Unfinished j cs g go Go k h next = pick (has_cond c cs)
    where
      K : ℕ
      K = j + after_body g Unfinished (map (condition_from first) cs) k

      pick : (b : Bool) → Agree looping X t (counted_either b (counted_part (go y (spend 3 2 t')) (spend 1 1)) (CountedDone y (Some c) t')) Unfinished K
      pick true = short looping X t (counted_part (go y (spend 3 2 t')) (spend 1 1)) K h
      pick false = h
  caught_agree looping X t CountedUnfinished (Done Y None) j cs g go Go k h next = h
  caught_agree looping X t CountedUnfinished (Done Y (Some C)) j cs g go Go k h next = pick (has_cond C (map (condition_from first) cs))
    where
      K : ℕ
      K = j + after_body g (Done Y (Some C)) (map (condition_from first) cs) k

      pick : (b : Bool) → Agree looping X t CountedUnfinished (either_way b (Go Y) (Done Y (Some C))) K
      pick true = long looping X t (Go Y) K h
      pick false = h
  caught_agree looping X t CountedUnfinished Unfinished j cs g go Go k h next = tt

  -- a predefined call: it writes a variable of the view
  pub apply_agree : (looping : Bool) (next : ℕ) (X : List ValueOf) (t : Tally) (r : Predef) (args args' : List Arg) (e : Effect) (k : ℕ)
      → Apart vs next → next ≤ length X → target_of args < length vs → target_of args' ≡ get_or vs (target_of args) 0 → k ≤ (predef_cost r e).0
      → Agree looping X t (counted_applied r args e (view vs X) t) (applied args' e X) k
  unfolding spend
  apply_agree looping next X t r args args' (Normal v) k is room lt there low =
      record {
        seen = ap (λ b. view vs (slice_set X b v)) there ∙ view_set vs next X (target_of args) v is lt room;
        keeps = subst (λ b. Keeps vs below X (slice_set X b v)) (sym there) (keeps_set vs below X (target_of args) v lt);
        way = refl;
        ends = tt;
        cost = omega (arith, low);
      }
  apply_agree looping next X t r args args' Fault k is room lt there low =
      record { seen = refl; keeps = keeps_all vs below X; way = refl; ends = tt; cost = omega (arith, low) }
  apply_agree looping next X t r args args' Beyond k is room lt there low =
      record { seen = refl; keeps = keeps_all vs below X; way = refl; ends = tt; cost = omega (arith, low) }
