-- Each mark of the step machine is among the marks of the generated program.
use Rattle.std.proofs.Common.{◌≡◌, ℕ, zero, suc, ◌+◌, ◌-◌, ◌<◌, List, [], ◌∷◌, ◌++◌, length, flat_map, Bool, true, false, refl, subst, arith, append_assoc}
use Rattle.std.{specs.Prelude.if◌then◌else◌, specs.List.Contains, proofs.lemmas.List.Elements.{Contains-append_left, Contains-append_right}}
use Rattle.stack_text.specs.Values.{ValueOf}
use Rattle.gypsy_syntax.{specs.declared.predef.Predef.Predef, specs.Programs.{ConditionOf, Routine, Space, Arg, Program, proc_at, body_of, Stmt, Skip, NoOp}}
use Rattle.gypsy_syntax.{specs.Programs.{Signal, Seq, Loop, If, Begin, Call, Apply}, specs.ProgramFits.{Each, ProgramFits}, specs.Predefined.predef_effect}
use Rattle.gypsy_syntax.specs.Effects.{Effect, Normal, Fault, Beyond, value_at, is_true_value}
use Rattle.gypsy_space.{specs.Costs.{Tally, spend, predef_spend, out_spend}, specs.Needs.{StackSizes, lack_of}, specs.declared.need.Lack.Lack}
use Rattle.gypsy_space.specs.declared.need.Lack.TheVariants.{Nothing, Temporary, Control}
use Rattle.gypsy_semantics.{specs.Calls.{has_cond, is_leave, is_passed_on, matching, values_of, copied_out}, specs.Machine.{Item, Do, Back, JoinThen, JoinOne}}
use Rattle.gypsy_semantics.specs.Machine.{Guard, Out, Frame, Held, State, At, Move, Next, Ended, opens, settle, open_on, stop_if, raise, either_move}
use Rattle.gypsy_semantics.{specs.Machine.{apply_step, call_step, do_step, gypsy_step, used, start, place_of}, specs.Kept.StateFits}
use Rattle.gypsy_codegen.{specs.declared.marking.MarkAt.MarkAt, specs.Generated.{size, count_from}, specs.Showing.{rest_size, mark_of}, specs.Moments.moved_on}
use Rattle.gypsy_codegen.{specs.Moments.moment, specs.Marks.{mark_at, statement_marks, tail_marks, procedure_marks, marks_of, top_mark, EachMomentIsMarked}}
use Rattle.gypsy_codegen.{proofs.LayoutLaws.proc_there, proofs.MomentLaws.{IsOpened, StateOpened, from_opened, moment_fits}}

-- ---- lists of marks

each_left : (P : MarkAt → Type 0) (xs ys : List MarkAt) → Each P (xs ++ ys) → Each P xs
each_left P [] ys h = tt
each_left P (x ∷ xs) ys h = (h.0, each_left P xs ys h.1)

each_right : (P : MarkAt → Type 0) (xs ys : List MarkAt) → Each P (xs ++ ys) → Each P ys
each_right P [] ys h = h
each_right P (x ∷ xs) ys h = each_right P xs ys h.1

contains_first : (x : MarkAt) (xs : List MarkAt) → Contains (x ∷ xs) x
contains_first x xs = (0, omega arith, refl)

-- each of a list's own end is in it
contains_own : (front xs : List MarkAt) → Each (Contains (front ++ xs)) xs
contains_own front [] = tt
contains_own front (x ∷ xs) =
    let one : (front ++ x ∷ []) ++ xs ≡ front ++ (x ∷ xs) = append_assoc front (x ∷ []) xs in (
      Contains-append_right front (x ∷ xs) x (contains_first x xs),
      subst (λ (all : List MarkAt). Each (Contains all) xs) one
          (contains_own (front ++ x ∷ []) xs),
    )

-- the marks of one procedure are among those of all
contains_in_all : (q : Program) (m : MarkAt) (k n j : ℕ) → j < n → Contains (procedure_marks q (k + j)) m
    → Contains (flat_map (procedure_marks q) (count_from k n)) m
contains_in_all q m k zero j lt h = absurd (omega (arith, lt))
contains_in_all q m k (suc n) zero lt h =
    let here : k + 0 ≡ k = omega arith in
    Contains-append_left (procedure_marks q k) (flat_map (procedure_marks q) (count_from (suc k) n)) m
    (subst (λ (p : ℕ). Contains (procedure_marks q p) m) here h)
contains_in_all q m k (suc n) (suc j) lt h =
    let next : k + suc j ≡ suc k + j = omega arith in
    Contains-append_right (procedure_marks q k) (flat_map (procedure_marks q) (count_from (suc k) n)) m
    (contains_in_all q m (suc k) n j (omega (arith, lt)) (subst (λ (p : ℕ). Contains (procedure_marks q p) m) next h))

-- ---- the marks of work

module _ (q : Program) (p : ℕ) where
  -- it is a mark of the procedure
  abbrev pub Has : ℕ → ℕ → Type 0
  Has at place = Contains (procedure_marks q p) (mark_at p at place)

  abbrev pub HasAll : List MarkAt → Type 0
  HasAll ms = Each (Contains (procedure_marks q p)) ms

  -- the code of these items stands from this place on, and their marks are marks of the procedure
  abbrev pub Marked : ℕ → List Item → Type 0
  Marked at [] = at ≡ size q (body_of q p)
  Marked at (Do s ∷ w) = HasAll (statement_marks q p at s) × Marked (at + size q s) w
  Marked at (Back place s ∷ w) =
      (a : ℕ) × (a + 1 + size q s ≡ at) × HasAll (statement_marks q p a (Loop place s)) × Marked (at + 3) w
  Marked at (JoinThen place v ∷ w) = Has at place × Marked (at + 2 + size q v + 1) w
  Marked at (JoinOne place ∷ w) = Has at place × Marked (at + 1) w
  Marked at (Guard place cs v ∷ w) =
      Has at place × HasAll (statement_marks q p (at + 3) v) × Has (at + 3 + size q v) place × Marked (at + 3 + size q v + 1) w
  Marked at (Out c ∷ w) = Marked at w

  marked_to : (at to : ℕ) (w : List Item) → at ≡ to → Marked at w → Marked to w
  marked_to at to w e h = subst (λ (a : ℕ). Marked a w) e h

  has_to : (at to place : ℕ) → at ≡ to → Has at place → Has to place
  has_to at to place e h = subst (λ (a : ℕ). Has a place) e h

  left : (xs ys : List MarkAt) → HasAll (xs ++ ys) → HasAll xs
  left xs ys h = each_left (Contains (procedure_marks q p)) xs ys h

  right : (xs ys : List MarkAt) → HasAll (xs ++ ys) → HasAll ys
  right xs ys h = each_right (Contains (procedure_marks q p)) xs ys h

  opens_marked : (s : Stmt) (at : ℕ) (w ws : List Item) → HasAll (statement_marks q p at s) → Marked (at + size q s) w → Marked (at + size q s) ws
      → Marked at (opens s w ws)
  opens_marked Skip at w ws h m o = marked_to (at + 0) at ws (omega arith) o
  opens_marked (NoOp place) at w ws h m o = (h, m)
  opens_marked (Signal place c) at w ws h m o = (h, m)
  opens_marked (Seq a b) at w ws h m o =
      let e : at + (size q a + size q b) ≡ at + size q a + size q b = omega arith in
      let second = right (statement_marks q p at a) (statement_marks q p (at + size q a) b) h in
      let behind = marked_to _ _ w e m in
      opens_marked a at (Do b ∷ w) (opens b w ws) (left (statement_marks q p at a) (statement_marks q p (at + size q a) b) h) (second, behind)
      (opens_marked b (at + size q a) w ws second behind (marked_to _ _ ws e o))
  opens_marked (Loop place s) at w ws h m o = (h, m)
  opens_marked (If place b s v) at w ws h m o = (h, m)
  opens_marked (Begin place s cs v) at w ws h m o =
      let jump = at + size q s in
      let last = mark_at p (jump + 3 + size q v) place ∷ [] in
      let e : at + (size q s + size q v + 4) ≡ jump + 3 + size q v + 1 = omega arith in
      let rest = right (statement_marks q p at s) (mark_at p jump place ∷ (statement_marks q p (jump + 3) v ++ last)) h in
      let guarded : Marked jump (Guard place cs v ∷ w) =
      (rest.0, left (statement_marks q p (jump + 3) v) last rest.1, (right (statement_marks q p (jump + 3) v) last rest.1).0, marked_to _ _ w e m) in
      opens_marked s at (Guard place cs v ∷ w) (Guard place cs v ∷ w)
      (left (statement_marks q p at s) (mark_at p jump place ∷ (statement_marks q p (jump + 3) v ++ last)) h) guarded guarded
  opens_marked (Call place c xs cs) at w ws h m o = (h, m)
  opens_marked (Apply place r args) at w ws h m o = (h, m)

  settle_marked : (at : ℕ) (w : List Item) → Marked at w → Marked at (settle w)
  settle_marked at [] m = m
  settle_marked at (Do s ∷ w) m = opens_marked s at w (settle w) m.0 m.1 (settle_marked (at + size q s) w m.1)
  settle_marked at (Back place s ∷ w) m = m
  settle_marked at (JoinThen place v ∷ w) m = m
  settle_marked at (JoinOne place ∷ w) m = m
  settle_marked at (Guard place cs v ∷ w) m = m
  settle_marked at (Out c ∷ w) m = m

  open_marked : (s : Stmt) (at : ℕ) (w : List Item) → HasAll (statement_marks q p at s) → Marked (at + size q s) w → Marked at (open_on s w)
  open_marked s at w h m = opens_marked s at w (settle w) h m (settle_marked (at + size q s) w m)

  -- the whole body
  own_marks : HasAll (procedure_marks q p)
  own_marks = contains_own [] (procedure_marks q p)

  body_marked : Marked 0 (open_on (body_of q p) [])
  body_marked =
      let n = size q (body_of q p) in
      open_marked (body_of q p) 0 [] (left (statement_marks q p 0 (body_of q p)) (tail_marks p n (proc_at q p).place) own_marks) (omega arith)

  -- where the code of the top item begins
  marked_place : (at : ℕ) (w : List Item) → Marked at w → at + rest_size q w ≡ size q (body_of q p)
  marked_place at [] m = omega (arith, m)
  marked_place at (Do s ∷ w) m = omega (arith, marked_place (at + size q s) w m.1)
  marked_place at (Back place s ∷ w) m = omega (arith, marked_place (at + 3) w m.3)
  marked_place at (JoinThen place v ∷ w) m = omega (arith, marked_place (at + 2 + size q v + 1) w m.1)
  marked_place at (JoinOne place ∷ w) m = omega (arith, marked_place (at + 1) w m.1)
  marked_place at (Guard place cs v ∷ w) m = omega (arith, marked_place (at + 3 + size q v + 1) w m.3)
  marked_place at (Out c ∷ w) m = marked_place at w m

  out_has : (b : Bool) → Has (if b then size q (body_of q p) + 3 else size q (body_of q p) + 1) (proc_at q p).place
  out_has b = pick b (right (statement_marks q p 0 (body_of q p)) (tail_marks p (size q (body_of q p)) (proc_at q p).place) own_marks)
    where
      pick : (b : Bool) → HasAll (tail_marks p (size q (body_of q p)) (proc_at q p).place)
          → Has (if b then size q (body_of q p) + 3 else size q (body_of q p) + 1) (proc_at q p).place
      pick true h = h.1.1.0
      pick false h = h.1.0

  top_has : (at : ℕ) (x : List ValueOf) (w : List Item) (fs : List Frame) (t : Tally) → Marked at w → IsOpened w
      → Has (mark_of q p w) (place_of q (At p x w fs t))
  top_has at x [] fs t m o =
      let ends = right (statement_marks q p 0 (body_of q p)) (tail_marks p (size q (body_of q p)) (proc_at q p).place) own_marks in
      has_to (size q (body_of q p)) _ (proc_at q p).place (omega arith) ends.0
  top_has at x (Do Skip ∷ w) fs t m o = absurd o
  top_has at x (Do (NoOp place) ∷ w) fs t m o = has_to at _ place (omega (arith, marked_place at (Do (NoOp place) ∷ w) m)) m.0.0
  top_has at x (Do (Signal place c) ∷ w) fs t m o = has_to at _ place (omega (arith, marked_place at (Do (Signal place c) ∷ w) m)) m.0.0
  top_has at x (Do (Seq a b) ∷ w) fs t m o = absurd o
  top_has at x (Do (Loop place s) ∷ w) fs t m o = has_to at _ place (omega (arith, marked_place at (Do (Loop place s) ∷ w) m)) m.0.0
  top_has at x (Do (If place b s v) ∷ w) fs t m o = has_to at _ place (omega (arith, marked_place at (Do (If place b s v) ∷ w) m)) m.0.0
  top_has at x (Do (Begin place s cs v) ∷ w) fs t m o = absurd o
  top_has at x (Do (Call place c xs cs) ∷ w) fs t m o = has_to at _ place (omega (arith, marked_place at (Do (Call place c xs cs) ∷ w) m)) m.0.0
  top_has at x (Do (Apply place r args) ∷ w) fs t m o = has_to at _ place (omega (arith, marked_place at (Do (Apply place r args) ∷ w) m)) m.0.0
  top_has at x (Back place s ∷ w) fs t m o =
      let back = (right (statement_marks q p (m.0 + 1) s) (mark_at p (m.0 + 1 + size q s) place ∷ []) m.2.1).0 in
      has_to (m.0 + 1 + size q s) _ place (omega (arith, m.1, marked_place at (Back place s ∷ w) m)) back
  top_has at x (JoinThen place v ∷ w) fs t m o = has_to at _ place (omega (arith, marked_place at (JoinThen place v ∷ w) m)) m.0
  top_has at x (JoinOne place ∷ w) fs t m o = has_to at _ place (omega (arith, marked_place at (JoinOne place ∷ w) m)) m.0
  top_has at x (Guard place cs v ∷ w) fs t m o = has_to at _ place (omega (arith, marked_place at (Guard place cs v ∷ w) m)) m.0
  top_has at x (Out c ∷ w) fs t m o = out_has (is_passed_on q p c)

-- ---- states

module _ (q : Program) where
  abbrev pub WorkMarked : ℕ → List Item → Type 0
  WorkMarked p w = (at : ℕ) × Marked q p at w

  abbrev pub FramesMarked : List Frame → Type 0
  FramesMarked [] = Unit {0}
  FramesMarked (Held c x w xs cs ∷ fs) = WorkMarked c w × FramesMarked fs

  abbrev pub StateMarked : State → Type 0
  StateMarked (At p x w fs t) = WorkMarked p w × FramesMarked fs

  abbrev pub MoveMarked : Move → Type 0
  MoveMarked (Next g) = StateMarked g
  MoveMarked (Ended x c t) = Unit {0}

  settled : (p at : ℕ) (w : List Item) → Marked q p at w → WorkMarked p (settle w)
  settled p at w m = (at, settle_marked q p at w m)

  stop_marked : (b : Bool) (g h : State) → StateMarked g → StateMarked h → StateMarked (stop_if b g h)
  stop_marked true g h x y = x
  stop_marked false g h x y = y

  raise_marked : (c : ConditionOf) (p : ℕ) (x : List ValueOf) (at : ℕ) (w : List Item) (fs : List Frame) (t : Tally) → Marked q p at w → FramesMarked fs
      → StateMarked (raise c p x w fs t)
  raise_marked c p x at [] fs t m f = ((at, m), f)
  raise_marked c p x at (Do s ∷ w) fs t m f = raise_marked c p x (at + size q s) w fs t m.1 f
  raise_marked c p x at (Back place s ∷ w) fs t m f =
      stop_marked (is_leave c) (At p x (settle w) fs (spend 3 2 t)) (raise c p x w fs t) (settled p (at + 3) w m.3, f)
      (raise_marked c p x (at + 3) w fs t m.3 f)
  raise_marked c p x at (JoinThen place v ∷ w) fs t m f = raise_marked c p x (at + 2 + size q v + 1) w fs t m.1 f
  raise_marked c p x at (JoinOne place ∷ w) fs t m f = raise_marked c p x (at + 1) w fs t m.1 f
  raise_marked c p x at (Guard place cs v ∷ w) fs t m f =
      stop_marked (has_cond c cs) (At p x (open_on v (JoinOne place ∷ w)) fs (spend 3 2 t)) (raise c p x w fs t)
      ((at + 3, open_marked q p v (at + 3) (JoinOne place ∷ w) m.1 (m.2, m.3)), f) (raise_marked c p x (at + 3 + size q v + 1) w fs t m.3 f)
  raise_marked c p x at (Out d ∷ w) fs t m f = raise_marked c p x at w fs t m f

  module _ (sizes : StackSizes) where
    apply_marked : (r : Predef) (args : List Arg) (e : Effect) (p : ℕ) (x : List ValueOf) (at : ℕ) (w : List Item) (fs : List Frame) (t : Tally)
        → Marked q p at w → FramesMarked fs → MoveMarked (apply_step r args e p x w fs t)
    apply_marked r args (Normal v) p x at w fs t m f = (settled p at w m, f)
    apply_marked r args Fault p x at w fs t m f = raise_marked Routine p x at w fs (predef_spend r Fault t) m f
    apply_marked r args Beyond p x at w fs t m f = raise_marked Routine p x at w fs (predef_spend r Beyond t) m f

    call_marked : (l : Lack) (c : ℕ) (xs : List ℕ) (cs : List ConditionOf) (p : ℕ) (x : List ValueOf) (at : ℕ) (w : List Item) (fs : List Frame)
        (t : Tally) → Marked q p at w → FramesMarked fs → MoveMarked (call_step q l c xs cs p x w fs t)
    call_marked Nothing c xs cs p x at w fs t m f = ((0, body_marked q c), ((at, m), f))
    call_marked Temporary c xs cs p x at w fs t m f = raise_marked Space p x at w fs (spend 15 7 t) m f
    call_marked Control c xs cs p x at w fs t m f = raise_marked Space p x at w fs (spend 26 11 t) m f

    either_marked : (b : Bool) (m n : Move) → MoveMarked m → MoveMarked n → MoveMarked (either_move b m n)
    either_marked true m n x y = x
    either_marked false m n x y = y

    do_marked : (s : Stmt) (p : ℕ) (x : List ValueOf) (at : ℕ) (w : List Item) (fs : List Frame) (t : Tally) → HasAll q p (statement_marks q p at s)
        → Marked q p (at + size q s) w → FramesMarked fs → MoveMarked (do_step q sizes s p x w fs t)
    do_marked Skip p x at w fs t h m f = (settled p (at + 0) w m, f)
    do_marked (NoOp place) p x at w fs t h m f = (settled p (at + 1) w m, f)
    do_marked (Signal place c) p x at w fs t h m f = raise_marked c p x (at + 3) w fs (spend 4 3 t) m f
    do_marked (Seq a b) p x at w fs t h m f = ((at, open_marked q p (Seq a b) at w h m), f)
    do_marked (Loop place s) p x at w fs t h m f =
        let e : at + (size q s + 4) ≡ at + 1 + size q s + 3 = omega arith in
        let back : Marked q p (at + 1 + size q s) (Back place s ∷ w) = (at, refl, h, marked_to q p _ _ w e m) in (
          (
            at + 1,
            open_marked q p s (at + 1) (Back place s ∷ w)
                (left q p (statement_marks q p (at + 1) s) (mark_at p (at + 1 + size q s) place ∷ []) h.1) back,
          ),
          f,
        )
    do_marked (If place b s v) p x at w fs t h m f =
        let jump = at + 3 + size q s in
        let last = mark_at p (jump + 2 + size q v) place ∷ [] in
        let rest = right q p (statement_marks q p (at + 3) s) (mark_at p jump place ∷ (statement_marks q p (jump + 2) v ++ last)) h.1 in
        let e : at + (size q s + size q v + 6) ≡ jump + 2 + size q v + 1 = omega arith in
        let behind = marked_to q p _ _ w e m in
        either_marked (is_true_value (value_at x b)) (Next (At p x (open_on s (JoinThen place v ∷ w)) fs (spend 8 3 t)))
        (Next (At p x (open_on v (JoinOne place ∷ w)) fs (spend 9 4 t))) (
          (
            at + 3,
            open_marked q p s (at + 3) (JoinThen place v ∷ w)
                (left q p (statement_marks q p (at + 3) s) (mark_at p jump place ∷ (statement_marks q p (jump + 2) v ++ last)) h.1) (rest.0, behind),
          ),
          f,
        ) (
          (
            jump + 2,
            open_marked q p v (jump + 2) (JoinOne place ∷ w) (left q p (statement_marks q p (jump + 2) v) last rest.1)
                ((right q p (statement_marks q p (jump + 2) v) last rest.1).0, behind),
          ),
          f,
        )
    do_marked (Begin place s cs v) p x at w fs t h m f = ((at, open_marked q p (Begin place s cs v) at w h m), f)
    do_marked (Call place c xs cs) p x at w fs t h m f =
        call_marked (lack_of q sizes c (used q p fs)) c xs cs p x (at + size q (Call place c xs cs)) w fs t m f
    do_marked (Apply place r args) p x at w fs t h m f =
        apply_marked r args (predef_effect r (values_of x args)) p x (at + size q (Apply place r args)) w fs t m f

    step_marked : (g : State) → StateMarked g → MoveMarked (gypsy_step q sizes g)
    step_marked (At p x [] [] t) h = tt
    step_marked (At p x [] (Held c y w xs cs ∷ fs) t) h = (settled c h.1.0.0 w h.1.0.1, h.1.1)
    step_marked (At p x (Do s ∷ w) fs t) h = do_marked s p x h.0.0 w fs t h.0.1.0 h.0.1.1 h.1
    step_marked (At p x (Back place s ∷ w) fs t) h =
        let a = h.0.1.0 in
        let e : h.0.0 + 3 ≡ a + (size q s + 4) = omega (arith, h.0.1.1) in
        ((a, (h.0.1.2, marked_to q p _ _ w e h.0.1.3)), h.1)
    step_marked (At p x (JoinThen place v ∷ w) fs t) h = (settled p (h.0.0 + 2 + size q v + 1) w h.0.1.1, h.1)
    step_marked (At p x (JoinOne place ∷ w) fs t) h = (settled p (h.0.0 + 1) w h.0.1.1, h.1)
    step_marked (At p x (Guard place cs v ∷ w) fs t) h = (settled p (h.0.0 + 3 + size q v + 1) w h.0.1.3, h.1)
    step_marked (At p x (Out d ∷ w) [] t) h = tt
    step_marked (At p x (Out d ∷ w) (Held c y v xs cs ∷ fs) t) h =
        raise_marked (matching q p cs d) c (copied_out xs x y) h.1.0.0 v fs (out_spend (is_passed_on q p d) t) h.1.0.1 h.1.1

    moment_marked : (j : ℕ) (g : State) → StateMarked g → MoveMarked (moment q sizes j g)
    moment_marked zero g h = h
    moment_marked (suc j) g h = by_move (gypsy_step q sizes g) (step_marked g h) (λ k m. moment_marked j k m)
      where
        by_move : (m : Move) → MoveMarked m → ((k : State) → StateMarked k → MoveMarked (moment q sizes j k)) → MoveMarked (moved_on m (moment q sizes j))
        by_move (Next k) m go = go k m
        by_move (Ended x c t) m go = tt

state_is_marked : (q : Program) → ProgramFits q → (g : State) → StateFits q g → StateOpened g → StateMarked q g → Contains (marks_of q) (top_mark q g)
state_is_marked q fits (At p x w fs t) sf o m =
    let here = top_has q p m.0.0 x w fs t m.0.1 o in
    let e : p ≡ 0 + p = omega arith in
    contains_in_all q (top_mark q (At p x w fs t)) 0 (length q.procs) p (proc_there q fits p fs sf.2)
    (subst (λ (i : ℕ). Contains (procedure_marks q i) (top_mark q (At p x w fs t))) e here)

pub each_moment_is_marked : EachMomentIsMarked
each_moment_is_marked q sizes v j g fits vf e =
    let start_marked : StateMarked q (start q v) = ((0, body_marked q q.main), tt) in
    state_is_marked q fits g (moment_fits q sizes fits v j g vf e) (from_opened q sizes v j g e)
    (subst (MoveMarked q) e (moment_marked q sizes j (start q v) start_marked))
