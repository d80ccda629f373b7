-- The rules, by the statement's form. A rule's conclusion is what a statement ends with, its premises are what the parts have to end
-- with; a proof is written from the outside to the inside. What a triple says is said by `λ x holds. ..`.
use Rattle.std.proofs.Common.{◌≡◌, ℕ, zero, suc, ◌+◌, ◌<◌, ◌≤◌, List, [], ◌∷◌, map, length, take, Bool, true, false, Some, None, refl, sym, ap, ◌∙◌, subst}
use Rattle.std.{proofs.Common.{slice_set, arith}, specs.Prelude.nat_le, proofs.lemmas.Bool.{le-leb, and_from}}
use Rattle.stack_text.specs.Values.{ValueOf}
use Rattle.gypsy_syntax.{specs.declared.predef.Predef.Predef, specs.Programs.{ConditionOf, Leave, Routine, Space, Declared, Arg, Program, proc_at, body_of}}
use Rattle.gypsy_syntax.{specs.Programs.{Stmt, Skip, NoOp, Signal, Seq, Loop, If, Begin, Call, Apply}, specs.Predefined.predef_effect, specs.Effects.Effect}
use Rattle.gypsy_syntax.specs.Effects.{Normal, Fault, Beyond, value_at, is_true_value}
use Rattle.gypsy_space.specs.Needs.{StackSizes, main_used, with_call, call_need, has_room}
use Rattle.gypsy_semantics.specs.Calls.{CurrentCondition, has_cond, is_passed_on, matching, values_of, target_of, copied_in, copied_out, main_start}
use Rattle.gypsy_semantics.{specs.Calls.{main_formals, main_way}, specs.Meaning.{MeaningOutcome, Done, main_end, meaning}}
use Rattle.gypsy_logic.{specs.Runs.Runs, specs.Written.{written, KeepsOthers}, specs.Ends.{Condition, Exit, Ends, Then, Either, Handled, Round, Again, Stands}}
use Rattle.gypsy_logic.specs.Ends.{passed, Returned, Applied, Entry, Outcome, Meets, Given, Gives, opened, formals_of, ended, MainEnds, Means}
use Rattle.gypsy_logic.{proofs.TableLaws.follows_table, proofs.WrittenLaws.run_keeps}

-- a rule before what is left to show, so that a proof reads as the program does: `seq_rule ▸ assign_rule ▸ ..`
infixr 1 ◌▸◌
abbrev pub ◌▸◌ : {A B : Type 0} → (A → B) → A → B
f ▸ a = f a

-- conditions that leave a procedure, and the program

matched : (q : Program) (p : ℕ) (cs : List ConditionOf) (c : ConditionOf) → passed q p cs (Some c) ≡ Some (matching q p cs c)
unfolding matching
matched q p cs Leave = refl
matched q p cs Routine = refl
matched q p cs Space = refl
matched q p cs (Declared i) = refl

pub way_ended : (q : Program) (c : ConditionOf) → ended q (Some c) ≡ Some (main_way q c)
unfolding main_way is_passed_on
way_ended q Leave = refl
way_ended q Routine = refl
way_ended q Space = refl
way_ended q (Declared i) = refl

module _ {q : Program} {sizes u : StackSizes} where
  -- ---- statements without parts

  pub skip_rule : {x : List ValueOf} {Q : Exit} → Q x None → Ends q sizes u Skip x Q
  skip_rule {x = x} h = record { vars = x; way = None; runs = (follows_table q sizes).skip u x; holds = h }

  pub no_op_rule : {place : ℕ} {x : List ValueOf} {Q : Exit} → Q x None → Ends q sizes u (NoOp place) x Q
  no_op_rule {place = place} {x = x} h = record { vars = x; way = None; runs = (follows_table q sizes).no_op place u x; holds = h }

  pub signal_rule : {place : ℕ} {c : ConditionOf} {x : List ValueOf} {Q : Exit} → Q x (Some c) → Ends q sizes u (Signal place c) x Q
  signal_rule {place = place} {c = c} {x = x} h = record { vars = x; way = Some c; runs = (follows_table q sizes).signal place c u x; holds = h }

  -- ---- one after the other

  after_first : (a b : Stmt) (x y : List ValueOf) (c : CurrentCondition) (Q : Exit) → Runs q sizes u a x y c → Then (λ z. Ends q sizes u b z Q) Q y c
      → Ends q sizes u (Seq a b) x Q
  after_first a b x y None Q r h = record { vars = h.vars; way = h.way; runs = (follows_table q sizes).seq_on a b u x y h.vars h.way r h.runs; holds = h.holds }
  after_first a b x y (Some c) Q r h = record { vars = y; way = Some c; runs = (follows_table q sizes).seq_stops a b u x y c r; holds = h }

  pub seq_rule : {a b : Stmt} {x : List ValueOf} {Q : Exit} → Ends q sizes u a x (Then (λ y. Ends q sizes u b y Q) Q) → Ends q sizes u (Seq a b) x Q
  seq_rule {a = a} {b = b} {x = x} {Q = Q} h = after_first a b x h.vars h.way Q h.runs h.holds

  -- ---- one or the other

  pub if_true : {place b : ℕ} {s w : Stmt} {x : List ValueOf} {Q : Exit} → is_true_value (value_at x b) ≡ true → Ends q sizes u s x Q
      → Ends q sizes u (If place b s w) x Q
  if_true {place = place} {b = b} {s = s} {w = w} {x = x} e h =
      record { vars = h.vars; way = h.way; runs = (follows_table q sizes).if_true place b s w u x h.vars h.way e h.runs; holds = h.holds }

  pub if_false : {place b : ℕ} {s w : Stmt} {x : List ValueOf} {Q : Exit} → is_true_value (value_at x b) ≡ false → Ends q sizes u w x Q
      → Ends q sizes u (If place b s w) x Q
  if_false {place = place} {b = b} {s = s} {w = w} {x = x} e h =
      record { vars = h.vars; way = h.way; runs = (follows_table q sizes).if_false place b s w u x h.vars h.way e h.runs; holds = h.holds }

  pub if_rule : {place b : ℕ} {s w : Stmt} {x : List ValueOf} {Q : Exit} → (is_true_value (value_at x b) ≡ true → Ends q sizes u s x Q)
      → (is_true_value (value_at x b) ≡ false → Ends q sizes u w x Q) → Ends q sizes u (If place b s w) x Q
  if_rule {place = place} {b = b} {s = s} {w = w} {x = x} {Q = Q} h k = pick (is_true_value (value_at x b)) refl
    where
      pick : (t : Bool) → is_true_value (value_at x b) ≡ t → Ends q sizes u (If place b s w) x Q
      pick true e = if_true e (h e)
      pick false e = if_false e (k e)

  -- ---- handlers

  after_body : (place : ℕ) (s : Stmt) (cs : List ConditionOf) (w : Stmt) (x y : List ValueOf) (c : CurrentCondition) (Q : Exit) → Runs q sizes u s x y c
      → Handled cs (λ z. Ends q sizes u w z Q) Q y c → Ends q sizes u (Begin place s cs w) x Q
  after_body place s cs w x y None Q r h = record { vars = y; way = None; runs = (follows_table q sizes).begin_ends place s cs w u x y r; holds = h }
  after_body place s cs w x y (Some c) Q r h = pick (has_cond c cs) refl h
    where
      pick : (t : Bool) → has_cond c cs ≡ t → Either t (Ends q sizes u w y Q) (Q y (Some c)) → Ends q sizes u (Begin place s cs w) x Q
      pick true e k = record {
        vars = k.vars;
        way = k.way;
        runs = (follows_table q sizes).begin_handles place s cs w u x y k.vars c k.way e r k.runs;
        holds = k.holds;
      }
      pick false e k = record { vars = y; way = Some c; runs = (follows_table q sizes).begin_stops place s cs w u x y c e r; holds = k }

  pub begin_rule : {place : ℕ} {s : Stmt} {cs : List ConditionOf} {w : Stmt} {x : List ValueOf} {Q : Exit}
      → Ends q sizes u s x (Handled cs (λ y. Ends q sizes u w y Q) Q) → Ends q sizes u (Begin place s cs w) x Q
  begin_rule {place = place} {s = s} {cs = cs} {w = w} {x = x} {Q = Q} h = after_body place s cs w x h.vars h.way Q h.runs h.holds

  -- ---- loops

  module _ (place : ℕ) (s : Stmt) (I : ℕ → Condition) (Q : Exit) (each : (n : ℕ) (x : List ValueOf) → I n x → Ends q sizes u s x (Round (Again I n) Q)) where
    rounds : (k n : ℕ) → n < k → (x : List ValueOf) → I n x → Ends q sizes u (Loop place s) x Q
    rounds zero n less x i = absurd (omega arith)
    rounds (suc k) n less x i = let r = each n x i in pick (λ m lt y j. rounds k m lt y j) r.vars r.way r.runs r.holds
      where
        pick : ((m : ℕ) → m < k → (y : List ValueOf) → I m y → Ends q sizes u (Loop place s) y Q) → (y : List ValueOf) (c : CurrentCondition)
            → Runs q sizes u s x y c → Round (Again I n) Q y c → Ends q sizes u (Loop place s) x Q
        pick next y None r h =
            let t = next h.0 (omega (arith, h.1)) y h.2 in
            record { vars = t.vars; way = t.way; runs = (follows_table q sizes).loop_on place s u x y t.vars t.way r t.runs; holds = t.holds }
        pick next y (Some Leave) r h = record { vars = y; way = None; runs = (follows_table q sizes).loop_left place s u x y r; holds = h }
        pick next y (Some Routine) r h =
            record { vars = y; way = Some Routine; runs = (follows_table q sizes).loop_stops place s u x y Routine refl r; holds = h }
        pick next y (Some Space) r h = record { vars = y; way = Some Space; runs = (follows_table q sizes).loop_stops place s u x y Space refl r; holds = h }
        pick next y (Some (Declared j)) r h =
            record { vars = y; way = Some (Declared j); runs = (follows_table q sizes).loop_stops place s u x y (Declared j) refl r; holds = h }

  -- An invariant I n, where n is the measure: at each round it holds again with a smaller one, or the loop ends with what Q says.
  pub loop_rule : {place : ℕ} {s : Stmt} {x : List ValueOf} {Q : Exit} (I : ℕ → Condition)
      → ((n : ℕ) (y : List ValueOf) → I n y → Ends q sizes u s y (Round (Again I n) Q)) → (n : ℕ) → I n x → Ends q sizes u (Loop place s) x Q
  loop_rule {place = place} {s = s} {x = x} {Q = Q} I each n i = rounds place s I Q each (suc n) n (omega arith) x i

  -- The same for a loop whose variables are written out: vars n a, from a state a with the measure n. A round leads to the variables of
  -- a state with a smaller one.
  pub loop_over : {place : ℕ} {s : Stmt} {Q : Exit} (State : ℕ → Type 0) (vars : (n : ℕ) → State n → List ValueOf)
      → ((n : ℕ) (a : State n) → Ends q sizes u s (vars n a) (Round (Again (Stands State vars) n) Q)) → (n : ℕ) (a : State n)
      → Ends q sizes u (Loop place s) (vars n a) Q
  loop_over {place = place} {s = s} {Q = Q} State vars each n a =
      loop_rule (Stands State vars)
      (λ m y h. subst (λ (z : List ValueOf). Ends q sizes u s z (Round (Again (Stands State vars) m) Q)) (sym h.1) (each m h.0))
      n (a, refl)

  -- ---- predefined procedures

  pub apply_rule : {place : ℕ} {r : Predef} {args : List Arg} {x : List ValueOf} {Q : Exit} → Applied args x Q (predef_effect r (values_of x args))
      → Ends q sizes u (Apply place r args) x Q
  apply_rule {place = place} {r = r} {args = args} {x = x} {Q = Q} h = pick (predef_effect r (values_of x args)) refl h
    where
      pick : (e : Effect) → predef_effect r (values_of x args) ≡ e → Applied args x Q e → Ends q sizes u (Apply place r args) x Q
      pick (Normal v) e k = record { vars = slice_set x (target_of args) v; way = None; runs = (follows_table q sizes).writes place r args u x v e; holds = k }
      pick Fault e k = record { vars = x; way = Some Routine; runs = (follows_table q sizes).fails place r args u x e; holds = k }
      pick Beyond e k = record { vars = x; way = Some Routine; runs = (follows_table q sizes).is_beyond place r args u x e; holds = k }

  -- ---- calls of procedures

  after_callee : (place p : ℕ) (xs : List ℕ) (cs : List ConditionOf) (x y : List ValueOf) (c : CurrentCondition) (Q : Exit)
      → has_room q sizes p u ≡ true → Runs q sizes (with_call q p u) (body_of q p) (copied_in q p xs x) y c → Returned q p xs cs x Q y c
      → Ends q sizes u (Call place p xs cs) x Q
  after_callee place p xs cs x y None Q room r h =
      record { vars = copied_out xs y x; way = None; runs = (follows_table q sizes).call_returns place p xs cs u x y room r; holds = h }
  after_callee place p xs cs x y (Some c) Q room r h =
      record {
        vars = copied_out xs y x;
        way = Some (matching q p cs c);
        runs = (follows_table q sizes).call_raises place p xs cs u x y c room r;
        holds = subst (Q (copied_out xs y x)) (matched q p cs c) h;
      }

  -- by the callee's body, where the stacks have room for the call
  pub call_rule : {place p : ℕ} {xs : List ℕ} {cs : List ConditionOf} {x : List ValueOf} {Q : Exit} → has_room q sizes p u ≡ true
      → Ends q sizes (with_call q p u) (body_of q p) (opened q p (map (value_at x) xs)) (Returned q p xs cs x Q)
      → Ends q sizes u (Call place p xs cs) x Q
  unfolding copied_in
  call_rule {place = place} {p = p} {xs = xs} {cs = cs} {x = x} {Q = Q} room h = after_callee place p xs cs x h.vars h.way Q room h.runs h.holds

  -- where they have none
  pub call_without_room : {place p : ℕ} {xs : List ℕ} {cs : List ConditionOf} {x : List ValueOf} {Q : Exit} → has_room q sizes p u ≡ false
      → Q x (Some Space) → Ends q sizes u (Call place p xs cs) x Q
  call_without_room {place = place} {p = p} {xs = xs} {cs = cs} {x = x} room h =
      record { vars = x; way = Some Space; runs = (follows_table q sizes).call_without_room place p xs cs u x room; holds = h }

  -- ---- for any statement

  -- consequence
  pub weaker : {s : Stmt} {x : List ValueOf} {Q R : Exit} → Ends q sizes u s x Q → ((y : List ValueOf) (c : CurrentCondition) → Q y c → R y c)
      → Ends q sizes u s x R
  weaker h k = record { vars = h.vars; way = h.way; runs = h.runs; holds = k h.vars h.way h.holds }

  -- what isn't written stays
  pub frame_rule : {s : Stmt} {x : List ValueOf} {Q : Exit} → Ends q sizes u s x Q → Ends q sizes u s x (λ y c. Q y c × KeepsOthers (written s) x y)
  frame_rule {s = s} {x = x} h = record { vars = h.vars; way = h.way; runs = h.runs; holds = (h.holds, run_keeps q sizes u s x h.vars h.way h.runs) }

-- the formals' values are all that a caller gets back
pub copied_taken : (xs : List ℕ) (y x : List ValueOf) → copied_out xs (take (length xs) y) x ≡ copied_out xs y x
copied_taken [] y x = refl
copied_taken (a ∷ xs) [] x = refl
copied_taken (a ∷ xs) (v ∷ y) x = copied_taken xs y (slice_set x a v)

module _ {q : Program} {sizes u : StackSizes} where
  -- by the callee's contract: with the formals' values w at its end, the caller's are these, and so is the condition
  pub contract_rule : {place p : ℕ} {xs : List ℕ} {cs : List ConditionOf} {x : List ValueOf} {Q : Exit} {Pre : Entry} {Post : Outcome}
      → Meets q sizes p Pre Post → length xs ≡ length (proc_at q p).formals → has_room q sizes p u ≡ true → Pre u (map (value_at x) xs)
      → ((w : List ValueOf) (c : CurrentCondition) → Post (map (value_at x) xs) w c → Q (copied_out xs w x) (passed q p cs c))
      → Ends q sizes u (Call place p xs cs) x Q
  contract_rule {p = p} {xs = xs} {cs = cs} {x = x} {Q = Q} meets same room pre k =
      call_rule room (weaker (meets.ends u (map (value_at x) xs) pre) (λ y c post.
      subst (λ (z : List ValueOf). Q z (passed q p cs c)) (ap (λ (n : ℕ). copied_out xs (take n y) x) (sym same) ∙ copied_taken xs y x)
      (k (take (length (proc_at q p).formals) y) c post)))

module _ {q : Program} {sizes : StackSizes} {p : ℕ} {Room : StackSizes → Type 0} where
  -- a contract for given values: what the body ends with
  pub meets_rule : {v : List ValueOf} {Post : Outcome}
      → ((u : StackSizes) → Room u → Ends q sizes (with_call q p u) (body_of q p) (opened q p v) (λ y c. Post v (formals_of q p y) c))
      → Meets q sizes p (Given v Room) Post
  meets_rule {v = v} {Post = Post} h = record {
    ends = λ u w given.
        subst (λ (w : List ValueOf). Ends q sizes (with_call q p u) (body_of q p) (opened q p w) (λ y c. Post w (formals_of q p y) c)) (sym given.0)
        (h u given.1);
  }

  -- by a contract that says which values and which condition come back
  pub given_rule : {u : StackSizes} {place : ℕ} {xs : List ℕ} {cs : List ConditionOf} {x v w : List ValueOf} {c : CurrentCondition} {Q : Exit}
      → Meets q sizes p (Given v Room) (Gives w c) → map (value_at x) xs ≡ v → length xs ≡ length (proc_at q p).formals → has_room q sizes p u ≡ true
      → Room u → Q (copied_out xs w x) (passed q p cs c) → Ends q sizes u (Call place p xs cs) x Q
  given_rule {xs = xs} {cs = cs} {x = x} {w = w} {c = c} {Q = Q} meets given same has room h =
      contract_rule meets same has (given, room) (λ y d post.
      subst (Q (copied_out xs y x)) (ap (λ (d : CurrentCondition). passed q p cs d) (sym post.1))
      (subst (λ (y : List ValueOf). Q (copied_out xs y x) (passed q p cs c)) (sym post.0) h))

-- Recursion: what is so at n where it is so below n, is so at each n. C n is the contract, or the contracts, at the measure n.
pub recursion_rule : (C : ℕ → Type 0) → ((n : ℕ) → ((m : ℕ) → m < n → C m) → C n) → (n : ℕ) → C n
recursion_rule C each n = below (suc n) n (omega arith)
  where
    below : (k m : ℕ) → m < k → C m
    below zero m less = absurd (omega arith)
    below (suc k) m less = each m (λ i lt. below k i (omega arith))

-- main
module _ {q : Program} {sizes : StackSizes} {v : List ValueOf} where
  at_main : (o : MeaningOutcome) (y : List ValueOf) (c : CurrentCondition) (Q : Exit) (n : ℕ) → meaning q sizes v n ≡ main_end q o → o ≡ Done y c
      → MainEnds q Q y c → Means q sizes v Q
  unfolding main_formals
  at_main o y None Q n is e h = record { finals = main_formals q y; way = None; bound = n; done = is ∙ ap (main_end q) e; holds = h }
  at_main o y (Some c) Q n is e h = record {
    finals = main_formals q y;
    way = Some (main_way q c);
    bound = n;
    done = is ∙ ap (main_end q) e;
    holds = subst (Q (formals_of q q.main y)) (way_ended q c) h;
  }

  pub main_rule : {Q : Exit} → Ends q sizes (main_used q) (body_of q q.main) (opened q q.main v) (MainEnds q Q) → Means q sizes v Q
  unfolding main_start
  main_rule {Q = Q} h = at_main _ h.vars h.way Q h.runs.bound refl h.runs.done h.holds

-- ---- room

-- a call has room where neither stack is too small
pub room_is : (q : Program) (sizes : StackSizes) (p : ℕ) (u : StackSizes) → u.temp + (call_need q p).temp ≤ sizes.temp
    → u.ctrl + (call_need q p).ctrl ≤ sizes.ctrl → has_room q sizes p u ≡ true
unfolding has_room
room_is q sizes p u temp ctrl =
    and_from (nat_le (u.temp + (call_need q p).temp) sizes.temp) (nat_le (u.ctrl + (call_need q p).ctrl) sizes.ctrl) (le-leb _ _ temp) (le-leb _ _ ctrl)
