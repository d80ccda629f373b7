-- What those that wait have lent to their callees: no step looks at it before it writes it.
use Rattle.std.proofs.Common.{◌≡◌, ◌≢◌, ℕ, zero, suc, ◌<◌, ◌≤◌, List, [], ◌∷◌, ◌++◌, length, map, take, drop, slice_set, slice_get, Bool, true, false, Some}
use Rattle.std.{proofs.Common.{refl, ap, sym, ◌∙◌, subst, ⊎_elim, arith}, proofs.lemmas.Bool.cases_eq, proofs.lemmas.List.{drop_all, length-set, set-set}}
use Rattle.std.proofs.lemmas.List.{set_comm, get_or-set_other, take-append-drop}
use Rattle.stack_text.{specs.declared.shape.Shape.Shape, specs.Values.ValueOf}
use Rattle.gypsy_syntax.{specs.declared.predef.Predef.Predef, specs.ProgramFits.{ActualsFit, Distinct, Each, Misses}, specs.Programs.{ConditionOf, Routine}}
use Rattle.gypsy_syntax.specs.Programs.{Space, Arg, Program, body_of, proc_at, shapes_of, Stmt, Skip, NoOp, Signal, Seq, Loop, If, Begin, Call, Apply}
use Rattle.gypsy_syntax.{specs.Predefined.predef_effect, specs.Effects.{Effect, Normal, Fault, Beyond, no_value, value_at, is_true_value}}
use Rattle.gypsy_syntax.specs.ValuesFit.{VarsFit}
use Rattle.gypsy_space.{specs.Costs.{Tally, spend, predef_spend, out_spend}, specs.Needs.{StackSizes, lack_of, call_spend, with_call}}
use Rattle.gypsy_space.{specs.declared.need.Lack.Lack, specs.declared.need.Lack.TheVariants.{Nothing, Temporary, Control}}
use Rattle.gypsy_semantics.{specs.Calls.{has_cond, is_leave, is_passed_on, matching, values_of, target_of, copied_in, copied_out}, specs.Kept.FramesFit}
use Rattle.gypsy_semantics.specs.Machine.{Item, Do, Back, JoinThen, JoinOne, Guard, Out, Frame, Held, State, At, Move, Next, Ended, Ending, go_on, open_on}
use Rattle.gypsy_semantics.specs.Machine.{settle, stop_if, raise, either_move, apply_step, used, call_step, do_step, end_step, out_step, gypsy_step, run}
use Rattle.gypsy_semantics.{specs.Room.{HasWords, HaveWords}, specs.Views.RunView.{handed_back, lending, lending_move}, proofs.Keeping.copies_back}

-- a variable that is no actual keeps its value
pub copied_miss : (xs : List ℕ) (y x : List ValueOf) (a : ℕ) → Misses a xs → value_at (copied_out xs y x) a ≡ value_at x a
copied_miss [] y x a m = refl
copied_miss (b ∷ xs) [] x a m = refl
copied_miss (b ∷ xs) (v ∷ y) x a m = copied_miss xs y (slice_set x b v) a m.1 ∙ get_or-set_other x b a v no_value m.0

-- Writes.

-- writes, the last one first
abbrev Writes : Type 0
Writes = List (ℕ × ValueOf)

abbrev wrote : Writes → List ValueOf → List ValueOf
wrote [] x = x
wrote (w ∷ ws) x = slice_set (wrote ws x) w.0 w.1

-- a later write of a place hides an earlier one
hides : (ws : Writes) (x : List ValueOf) (a : ℕ) (v u : ValueOf) → slice_set (wrote ws (slice_set x a v)) a u ≡ slice_set (wrote ws x) a u
hides [] x a v u = set-set x a v u
hides (w ∷ ws) x a v u =
    let before = wrote ws (slice_set x a v) in
    let plain = wrote ws x in
    ⊎_elim
    (λ (e : w.0 ≡ a).
    ap (λ (i : ℕ). slice_set (slice_set before i w.1) a u) e
    ∙ set-set before a w.1 u
    ∙ hides ws x a v u
    ∙ sym (set-set plain a w.1 u)
    ∙ ap (λ (i : ℕ). slice_set (slice_set plain i w.1) a u) (sym e))
    (λ (other : w.0 ≢ a).
    set_comm before w.0 a w.1 u other
    ∙ ap (λ (l : List ValueOf). slice_set l w.0 w.1) (hides ws x a v u)
    ∙ sym (set_comm plain w.0 a w.1 u other))
    (cases_eq w.0 a)

-- so formals that are written back hide those that were written back before, whatever was written in between
hidden : (xs : List ℕ) (y y' : List ValueOf) (ws : Writes) (x : List ValueOf) → length y ≡ length y'
    → copied_out xs y' (wrote ws (copied_out xs y x)) ≡ copied_out xs y' (wrote ws x)
hidden [] y y' ws x e = refl
hidden (a ∷ xs) [] [] ws x e = refl
hidden (a ∷ xs) [] (u ∷ y') ws x e = absurd (omega (arith, e))
hidden (a ∷ xs) (v ∷ y) [] ws x e = absurd (omega (arith, e))
hidden (a ∷ xs) (v ∷ y) (u ∷ y') ws x e =
    hidden xs y y' ((a, u) ∷ ws) (slice_set x a v) (omega (arith, e))
    ∙ ap (copied_out xs y') (hides ws x a v u)

pub copied_again : (xs : List ℕ) (y y' x : List ValueOf) → length y ≡ length y' → copied_out xs y' (copied_out xs y x) ≡ copied_out xs y' x
copied_again xs y y' x e = hidden xs y y' [] x e

pub length-copied_out : (xs : List ℕ) (y x : List ValueOf) → length (copied_out xs y x) ≡ length x
length-copied_out [] y x = refl
length-copied_out (a ∷ xs) [] x = refl
length-copied_out (a ∷ xs) (v ∷ y) x = length-copied_out xs y (slice_set x a v) ∙ length-set x a v

-- What is handed back.

-- what is handed back last counts
pub back_again : (y y' : List ValueOf) (fs : List Frame) → length y ≡ length y' → handed_back y' (handed_back y fs) ≡ handed_back y' fs
back_again y y' [] e = refl
back_again y y' (Held p x w xs cs ∷ fs) e =
    let z = copied_out xs y x in
    let z' = copied_out xs y' x in
    let same : copied_out xs y' z ≡ z' = copied_again xs y y' x e in
    let sized : length z ≡ length z' = length-copied_out xs y x ∙ sym (length-copied_out xs y' x) in
    ap (λ (l : List ValueOf). Held p l w xs cs ∷ handed_back l (handed_back z fs)) same
    ∙ ap (λ (l : List Frame). Held p z' w xs cs ∷ l) (back_again z z' fs sized)

pub length-back : (y : List ValueOf) (fs : List Frame) → length (handed_back y fs) ≡ length fs
length-back y [] = refl
length-back y (Held p x w xs cs ∷ fs) = ap suc (length-back (copied_out xs y x) fs)

pub used_back : (q : Program) (p : ℕ) (y : List ValueOf) (fs : List Frame) → used q p (handed_back y fs) ≡ used q p fs
used_back q p y [] = refl
used_back q p y (Held c x w xs cs ∷ fs) = ap (with_call q p) (used_back q c (copied_out xs y x) fs)

pub back_fits : (q : Program) (p : ℕ) (y : List ValueOf) (fs : List Frame) → VarsFit (shapes_of (proc_at q p)) y → FramesFit q p fs
    → FramesFit q p (handed_back y fs)
back_fits q p y [] v g = g
back_fits q p y (Held c x w xs cs ∷ fs) v g =
    let z = copies_back (shapes_of (proc_at q c)) (proc_at q p).formals (map (λ (u : ValueOf). u.shape) (proc_at q p).locals) xs y x g.0.actuals v g.1 in
    (g.0, z, g.2, back_fits q c (copied_out xs y x) fs z g.3)

pub back_words : (q : Program) (sizes : StackSizes) (p : ℕ) (y : List ValueOf) (fs : List Frame) → HaveWords q sizes p fs
    → HaveWords q sizes p (handed_back y fs)
back_words q sizes p y [] h = h
back_words q sizes p y (Held c x w xs cs ∷ fs) h =
    let z = copied_out xs y x in
    let P : StackSizes → Type 0 = λ u. HasWords q sizes p (with_call q p u) in
    (subst P (sym (used_back q c z fs)) h.0, h.1, back_words q sizes c z fs h.2)

-- Steps.

next_lent : (p : ℕ) (y x : List ValueOf) (w : List Item) (fs : List Frame) (t : Tally) → length y ≡ length x
    → lending_move (Next (At p x w (handed_back y fs) t)) ≡ lending_move (Next (At p x w fs t))
next_lent p y x w fs t e = ap (λ (gs : List Frame). Next (At p x w gs t)) (back_again y x fs e)

stop_lent : (b : Bool) (g r h s : State) → lending g ≡ lending h → lending r ≡ lending s → lending (stop_if b g r) ≡ lending (stop_if b h s)
stop_lent true g r h s e f = e
stop_lent false g r h s e f = f

at_lent : (p : ℕ) (y x : List ValueOf) (w : List Item) (fs : List Frame) (t : Tally) → length y ≡ length x
    → lending (At p x w (handed_back y fs) t) ≡ lending (At p x w fs t)
at_lent p y x w fs t e = ap (λ (gs : List Frame). At p x w gs t) (back_again y x fs e)

raise_lent : (c : ConditionOf) (p : ℕ) (y x : List ValueOf) (w : List Item) (fs : List Frame) (t : Tally) → length y ≡ length x
    → lending (raise c p x w (handed_back y fs) t) ≡ lending (raise c p x w fs t)
raise_lent c p y x [] fs t e = at_lent p y x (Out c ∷ []) fs t e
raise_lent c p y x (Do s ∷ w) fs t e = raise_lent c p y x w fs t e
raise_lent c p y x (Back place s ∷ w) fs t e =
    stop_lent (is_leave c) _ _ (At p x (settle w) fs (spend 3 2 t)) (raise c p x w fs t)
    (at_lent p y x (settle w) fs (spend 3 2 t) e) (raise_lent c p y x w fs t e)
raise_lent c p y x (JoinThen place v ∷ w) fs t e = raise_lent c p y x w fs t e
raise_lent c p y x (JoinOne place ∷ w) fs t e = raise_lent c p y x w fs t e
raise_lent c p y x (Guard place cs v ∷ w) fs t e =
    stop_lent (has_cond c cs) _ _ (At p x (open_on v (JoinOne place ∷ w)) fs (spend 3 2 t)) (raise c p x w fs t)
    (at_lent p y x (open_on v (JoinOne place ∷ w)) fs (spend 3 2 t) e) (raise_lent c p y x w fs t e)
raise_lent c p y x (Out d ∷ w) fs t e = raise_lent c p y x w fs t e

raised_lent : (c : ConditionOf) (p : ℕ) (y x : List ValueOf) (w : List Item) (fs : List Frame) (t : Tally) → length y ≡ length x
    → lending_move (Next (raise c p x w (handed_back y fs) t)) ≡ lending_move (Next (raise c p x w fs t))
raised_lent c p y x w fs t e = ap Next (raise_lent c p y x w fs t e)

apply_lent : (r : Predef) (args : List Arg) (o : Effect) (p : ℕ) (x : List ValueOf) (w : List Item) (fs : List Frame) (t : Tally)
    → lending_move (apply_step r args o p x w (handed_back x fs) t) ≡ lending_move (apply_step r args o p x w fs t)
apply_lent r args (Normal v) p x w fs t =
    next_lent p x (slice_set x (target_of args) v) (settle w) fs (predef_spend r (Normal v) t) (sym (length-set x (target_of args) v))
apply_lent r args Fault p x w fs t = raised_lent Routine p x x w fs (predef_spend r Fault t) refl
apply_lent r args Beyond p x w fs t = raised_lent Routine p x x w fs (predef_spend r Beyond t) refl

either_lent : (b : Bool) (g r h s : State) → lending g ≡ lending h → lending r ≡ lending s
    → lending_move (either_move b (Next g) (Next r)) ≡ lending_move (either_move b (Next h) (Next s))
either_lent true g r h s e f = ap Next e
either_lent false g r h s e f = ap Next f

called_lent : (q : Program) (l : Lack) (c : ℕ) (xs : List ℕ) (cs : List ConditionOf) (p : ℕ) (x : List ValueOf) (w : List Item) (fs : List Frame)
    (t : Tally) → lending_move (call_step q l c xs cs p x w (handed_back x fs) t) ≡ lending_move (call_step q l c xs cs p x w fs t)
called_lent q Nothing c xs cs p x w fs t =
    let y = copied_in q c xs x in
    let z = copied_out xs y x in
    ap (λ (gs : List Frame). Next (At c y (open_on (body_of q c) []) (Held p z w xs cs ∷ gs) (call_spend q c t)))
    (back_again x z fs (sym (length-copied_out xs y x)))
called_lent q Temporary c xs cs p x w fs t = raised_lent Space p x x w fs (spend 15 7 t) refl
called_lent q Control c xs cs p x w fs t = raised_lent Space p x x w fs (spend 26 11 t) refl

module _ (q : Program) (sizes : StackSizes) where
  do_lent : (s : Stmt) (p : ℕ) (x : List ValueOf) (w : List Item) (fs : List Frame) (t : Tally)
      → lending_move (do_step q sizes s p x w (handed_back x fs) t) ≡ lending_move (do_step q sizes s p x w fs t)
  do_lent Skip p x w fs t = next_lent p x x (settle w) fs t refl
  do_lent (NoOp place) p x w fs t = next_lent p x x (settle w) fs (spend 1 1 t) refl
  do_lent (Signal place c) p x w fs t = raised_lent c p x x w fs (spend 4 3 t) refl
  do_lent (Seq a b) p x w fs t = next_lent p x x (open_on (Seq a b) w) fs t refl
  do_lent (Loop place s) p x w fs t = next_lent p x x (open_on s (Back place s ∷ w)) fs (spend 1 1 t) refl
  do_lent (If place b s v) p x w fs t =
      either_lent (is_true_value (value_at x b)) _ _ (At p x (open_on s (JoinThen place v ∷ w)) fs (spend 8 3 t))
      (At p x (open_on v (JoinOne place ∷ w)) fs (spend 9 4 t))
      (at_lent p x x (open_on s (JoinThen place v ∷ w)) fs (spend 8 3 t) refl)
      (at_lent p x x (open_on v (JoinOne place ∷ w)) fs (spend 9 4 t) refl)
  do_lent (Begin place s cs v) p x w fs t = next_lent p x x (open_on (Begin place s cs v) w) fs t refl
  do_lent (Call place c xs cs) p x w fs t =
      ap (λ (u : StackSizes). lending_move (call_step q (lack_of q sizes c u) c xs cs p x w (handed_back x fs) t)) (used_back q p x fs)
      ∙ called_lent q (lack_of q sizes c (used q p fs)) c xs cs p x w fs t
  do_lent (Apply place r args) p x w fs t = apply_lent r args (predef_effect r (values_of x args)) p x w fs t

  end_lent : (p : ℕ) (y : List ValueOf) (fs : List Frame) (t : Tally) → lending_move (end_step q p y (handed_back y fs) t) ≡ lending_move (end_step q p y fs t)
  end_lent p y [] t = refl
  end_lent p y (Held c x w xs cs ∷ fs) t =
      let z = copied_out xs y x in
      ap (λ (l : List ValueOf). lending_move (Next (At c l (settle w) (handed_back z fs) (spend 12 6 t)))) (copied_again xs y y x refl)
      ∙ next_lent c z z (settle w) fs (spend 12 6 t) refl

  out_lent : (d : ConditionOf) (p : ℕ) (y : List ValueOf) (fs : List Frame) (t : Tally)
      → lending_move (out_step q d p y (handed_back y fs) t) ≡ lending_move (out_step q d p y fs t)
  out_lent d p y [] t = refl
  out_lent d p y (Held c x w xs cs ∷ fs) t =
      let z = copied_out xs y x in
      let u = out_spend (is_passed_on q p d) t in
      ap (λ (l : List ValueOf). lending_move (Next (raise (matching q p cs d) c l w (handed_back z fs) u))) (copied_again xs y y x refl)
      ∙ raised_lent (matching q p cs d) c z z w fs u refl

  pub step_lent : (g : State) → lending_move (gypsy_step q sizes (lending g)) ≡ lending_move (gypsy_step q sizes g)
  step_lent (At p x [] fs t) = end_lent p x fs t
  step_lent (At p x (Do s ∷ w) fs t) = do_lent s p x w fs t
  step_lent (At p x (Back place s ∷ w) fs t) = next_lent p x x (open_on (Loop place s) w) fs (spend 1 1 t) refl
  step_lent (At p x (JoinThen place v ∷ w) fs t) = next_lent p x x (settle w) fs (spend 2 2 t) refl
  step_lent (At p x (JoinOne place ∷ w) fs t) = next_lent p x x (settle w) fs (spend 1 1 t) refl
  step_lent (At p x (Guard place cs v ∷ w) fs t) = next_lent p x x (settle w) fs (spend 2 2 t) refl
  step_lent (At p x (Out c ∷ w) fs t) = out_lent c p x fs t

  -- Runs.

  go_lent : (go : State → Ending) (a : Move) → ((g : State) → go (lending g) ≡ go g) → go_on (lending_move a) go ≡ go_on a go
  go_lent go (Next g) h = h g
  go_lent go (Ended x c t) h = refl

  pub run_lent : (k : ℕ) (g : State) → run q sizes k (lending g) ≡ run q sizes k g
  run_lent zero g = refl
  run_lent (suc k) g =
      let go = run q sizes k in
      sym (go_lent go (gypsy_step q sizes (lending g)) (run_lent k))
      ∙ ap (λ (a : Move). go_on a go) (step_lent g)
      ∙ go_lent go (gypsy_step q sizes g) (run_lent k)

-- The exchange.

-- a caller's variables go over one after the other
abbrev pub taken : List ℕ → List ValueOf → List ValueOf → List ValueOf
taken [] x y = y
taken (a ∷ xs) x [] = []
taken (a ∷ xs) x (v ∷ y) = value_at x a ∷ taken xs (slice_set x a v) y

unread : (a : ℕ) (v : ValueOf) (xs : List ℕ) (x : List ValueOf) → Misses a xs → map (value_at (slice_set x a v)) xs ≡ map (value_at x) xs
unread a v [] x h = refl
unread a v (b ∷ xs) x h =
    let other : b ≢ a = λ e. h.0 (sym e) in
    ap (λ (u : ValueOf). u ∷ map (value_at (slice_set x a v)) xs) (get_or-set_other x a b v no_value other)
    ∙ ap (λ (l : List ValueOf). value_at x b ∷ l) (unread a v xs x h.1)

pub taken_all : (xs : List ℕ) (x y : List ValueOf) → Distinct xs → length xs ≤ length y → taken xs x y ≡ map (value_at x) xs ++ drop (length xs) y
taken_all [] x y h le = refl
taken_all (a ∷ xs) x [] h le = absurd (omega (arith, le))
taken_all (a ∷ xs) x (v ∷ y) h le =
    ap (λ (l : List ValueOf). value_at x a ∷ l)
    (taken_all xs (slice_set x a v) y h.1 (omega (arith, le))
    ∙ ap (λ (l : List ValueOf). l ++ drop (length xs) y) (unread a v xs x h.0))

-- once all have gone over
pub all_taken : (xs : List ℕ) (k : ℕ) (x y : List ValueOf) → length xs ≤ k → take k y ++ taken (drop k xs) x (drop k y) ≡ y
all_taken xs k x y le = ap (λ (l : List ℕ). take k y ++ taken l x (drop k y)) (drop_all k xs le) ∙ take-append-drop k y

-- The actuals of a call that fits are there.

listed : (shapes : List Shape) (a : ℕ) (s : Shape) → slice_get shapes a ≡ Some s → a < length shapes
listed [] a s e = absurd cc
listed (r ∷ shapes) zero s e = omega arith
listed (r ∷ shapes) (suc a) s e = let lt : a < length shapes = listed shapes a s e in omega (arith, lt)

pub as_many : (shapes : List Shape) (x : List ValueOf) → VarsFit shapes x → length shapes ≡ length x
as_many [] [] h = refl
as_many [] (v ∷ x) h = absurd h
as_many (s ∷ shapes) [] h = absurd h
as_many (s ∷ shapes) (v ∷ x) h = ap suc (as_many shapes x h.2)

pub actuals_there : (shapes formals : List Shape) (xs : List ℕ) (n : ℕ) → ActualsFit shapes formals xs → length shapes ≡ n → Each (λ a. a < n) xs
actuals_there shapes [] [] n f e = tt
actuals_there shapes [] (a ∷ xs) n f e = absurd f
actuals_there shapes (s ∷ formals) [] n f e = absurd f
actuals_there shapes (s ∷ formals) (a ∷ xs) n f e =
    let lt : a < length shapes = listed shapes a s f.0 in
    (omega (arith, lt, e), actuals_there shapes formals xs n f.1 e)

-- as many actuals as formals
pub actuals_length : (shapes formals : List Shape) (xs : List ℕ) → ActualsFit shapes formals xs → length xs ≡ length formals
actuals_length shapes [] [] f = refl
actuals_length shapes [] (x ∷ xs) f = absurd f
actuals_length shapes (s ∷ formals) [] f = absurd f
actuals_length shapes (s ∷ formals) (x ∷ xs) f = let e : length xs ≡ length formals = actuals_length shapes formals xs f.1 in omega (arith, e)
