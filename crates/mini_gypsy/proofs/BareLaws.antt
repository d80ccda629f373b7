-- What a program means doesn't depend on the places in it.
use Rattle.std.proofs.Common.{◌≡◌, ℕ, zero, suc, ◌+◌, List, [], ◌∷◌, ◌++◌, map, length, get_or, take, max, Bool, cond, Some, None, refl, sym, ap, ap₂, ◌∙◌}
use Rattle.std.specs.Prelude.{◌&&◌, nat_le, nat_lt}
use Rattle.stack_text.{specs.declared.shape.Shape.Shape, specs.Values.ValueOf}
use Rattle.gypsy_syntax.{specs.declared.predef.Predef.Predef, specs.Predefined.{predef_temp, predef_ctrl}, specs.Effects.{value_at, is_true_value}}
use Rattle.gypsy_syntax.specs.Programs.{ConditionOf, Leave, Routine, Space, Declared, Proc, Program, no_proc, proc_at, body_of, shapes_of, words_of, Stmt, Skip}
use Rattle.gypsy_syntax.specs.Programs.{NoOp, Signal, Seq, Loop, If, Begin, Call, Apply}
use Rattle.gypsy_space.specs.Needs.{StackSizes, greatest, temp_need, ctrl_need, local_words, frame_of, main_used, with_call, call_need, has_room}
use Rattle.gypsy_semantics.{specs.Calls.{is_passed_on, matching, main_way, copied_in, copied_out, main_start, main_formals}, specs.Meaning.MeaningOutcome}
use Rattle.gypsy_semantics.specs.Meaning.{Done, Unfinished, then_do, either_way, caught, round_end, returned, if_room, evaluate, main_end, meaning}

-- ---- a program with 0 in all its places

abbrev pub bare_statement : Stmt → Stmt
bare_statement Skip = Skip
bare_statement (NoOp place) = NoOp 0
bare_statement (Signal place c) = Signal 0 c
bare_statement (Seq a b) = Seq (bare_statement a) (bare_statement b)
bare_statement (Loop place s) = Loop 0 (bare_statement s)
bare_statement (If place b s w) = If 0 b (bare_statement s) (bare_statement w)
bare_statement (Begin place s cs w) = Begin 0 (bare_statement s) cs (bare_statement w)
bare_statement (Call place p xs cs) = Call 0 p xs cs
bare_statement (Apply place row args) = Apply 0 row args

abbrev pub bare_procedure : Proc → Proc
bare_procedure p = record { place = 0; formals = p.formals; locals = p.locals; conds = p.conds; local_conds = p.local_conds; body = bare_statement p.body }

abbrev pub bare_program : Program → Program
bare_program q = record { main = q.main; procs = map bare_procedure q.procs }

bare_at : (ps : List Proc) (p : ℕ) → get_or (map bare_procedure ps) p no_proc ≡ bare_procedure (get_or ps p no_proc)
bare_at [] p = refl
bare_at (c ∷ ps) zero = refl
bare_at (c ∷ ps) (suc p) = bare_at ps p

proc_bare : (q : Program) (p : ℕ) → proc_at (bare_program q) p ≡ bare_procedure (proc_at q p)
proc_bare q p = bare_at q.procs p

-- ---- what it needs

greatest_bare : (each : ℕ) (f : Predef → ℕ) (s : Stmt) → greatest each f (bare_statement s) ≡ greatest each f s
greatest_bare each f Skip = refl
greatest_bare each f (NoOp place) = refl
greatest_bare each f (Signal place c) = refl
greatest_bare each f (Seq a b) = ap₂ max (greatest_bare each f a) (greatest_bare each f b)
greatest_bare each f (Loop place s) = greatest_bare each f s
greatest_bare each f (If place b s w) = ap₂ max (greatest_bare each f s) (greatest_bare each f w)
greatest_bare each f (Begin place s cs w) = ap₂ max (greatest_bare each f s) (greatest_bare each f w)
greatest_bare each f (Call place p xs cs) = refl
greatest_bare each f (Apply place r args) = refl

temp_bare : (c : Proc) → temp_need (bare_procedure c) ≡ temp_need c
temp_bare c = ap (λ (n : ℕ). max 1 n) (greatest_bare 2 predef_temp c.body)

ctrl_bare : (c : Proc) → ctrl_need (bare_procedure c) ≡ ctrl_need c
ctrl_bare c = greatest_bare 0 predef_ctrl c.body

-- what a call of a procedure wants, by the procedure
abbrev need_by : Proc → StackSizes
need_by c = record { temp = max (local_words c + length c.locals + length c.formals) (local_words c + temp_need c); ctrl = frame_of c + ctrl_need c }

need_bare : (c : Proc) → need_by (bare_procedure c) ≡ need_by c
need_bare c =
    let t = temp_bare c in
    let k = ctrl_bare c in
    λ i. record { temp = max (local_words c + length c.locals + length c.formals) (local_words c + t i); ctrl = frame_of c + k i }

call_bare : (q : Program) (p : ℕ) → call_need (bare_program q) p ≡ call_need q p
unfolding call_need
call_bare q p = ap need_by (proc_bare q p) ∙ need_bare (proc_at q p)

room_bare : (q : Program) (sizes : StackSizes) (p : ℕ) (u : StackSizes) → has_room (bare_program q) sizes p u ≡ has_room q sizes p u
unfolding has_room
room_bare q sizes p u = ap (λ (w : StackSizes). nat_le (u.temp + w.temp) sizes.temp && nat_le (u.ctrl + w.ctrl) sizes.ctrl) (call_bare q p)

abbrev used_by : StackSizes → Proc → StackSizes
used_by u c = record { temp = u.temp + local_words c; ctrl = u.ctrl + frame_of c }

used_bare : (q : Program) (p : ℕ) (u : StackSizes) → with_call (bare_program q) p u ≡ with_call q p u
unfolding with_call
used_bare q p u = ap (used_by u) (proc_bare q p)

abbrev main_words : Proc → StackSizes
main_words c = record { temp = words_of (shapes_of c); ctrl = frame_of c }

main_used_bare : (q : Program) → main_used (bare_program q) ≡ main_used q
unfolding main_used
main_used_bare q = ap main_words (proc_bare q q.main)

-- ---- its variables and conditions

copied_bare : (q : Program) (p : ℕ) (xs : List ℕ) (x : List ValueOf) → copied_in (bare_program q) p xs x ≡ copied_in q p xs x
unfolding copied_in
copied_bare q p xs x = ap (λ (c : Proc). map (value_at x) xs ++ c.locals) (proc_bare q p)

matching_bare : (q : Program) (p : ℕ) (cs : List ConditionOf) (c : ConditionOf) → matching (bare_program q) p cs c ≡ matching q p cs c
unfolding matching
matching_bare q p cs Leave = refl
matching_bare q p cs Routine = refl
matching_bare q p cs Space = refl
matching_bare q p cs (Declared i) = ap (λ (d : Proc). cond (nat_lt i d.conds) (get_or cs i Routine) Routine) (proc_bare q p)

returned_bare : (q : Program) (p : ℕ) (xs : List ℕ) (cs : List ConditionOf) (x : List ValueOf) (o : MeaningOutcome)
    → returned (bare_program q) p xs cs x o ≡ returned q p xs cs x o
returned_bare q p xs cs x (Done y None) = refl
returned_bare q p xs cs x (Done y (Some c)) = ap (λ (d : ConditionOf). Done (copied_out xs y x) (Some d)) (matching_bare q p cs c)
returned_bare q p xs cs x Unfinished = refl

passed_bare : (q : Program) (p : ℕ) (c : ConditionOf) → is_passed_on (bare_program q) p c ≡ is_passed_on q p c
unfolding is_passed_on
passed_bare q p Leave = refl
passed_bare q p Routine = refl
passed_bare q p Space = refl
passed_bare q p (Declared i) = ap (λ (d : Proc). nat_lt i d.conds) (proc_bare q p)

way_bare : (q : Program) (c : ConditionOf) → main_way (bare_program q) c ≡ main_way q c
unfolding main_way
way_bare q c = ap (λ (b : Bool). cond b c Routine) (passed_bare q q.main c)

start_bare : (q : Program) (v : List ValueOf) → main_start (bare_program q) v ≡ main_start q v
unfolding main_start
start_bare q v = ap (λ (c : Proc). v ++ c.locals) (proc_bare q q.main)

formals_bare : (q : Program) (x : List ValueOf) → main_formals (bare_program q) x ≡ main_formals q x
unfolding main_formals
formals_bare q x = ap (λ (c : Proc). take (length c.formals) x) (proc_bare q q.main)

-- ---- what it means

then_same : (o p : MeaningOutcome) (f g : List ValueOf → MeaningOutcome) → o ≡ p → ((x : List ValueOf) → f x ≡ g x) → then_do o f ≡ then_do p g
then_same o p f g e h = ap (λ (r : MeaningOutcome). then_do r f) e ∙ ap (then_do p) (λ i x. h x i)

round_same : (o p : MeaningOutcome) (f g : List ValueOf → MeaningOutcome) → o ≡ p → ((x : List ValueOf) → f x ≡ g x) → round_end o f ≡ round_end p g
round_same o p f g e h = ap (λ (r : MeaningOutcome). round_end r f) e ∙ ap (round_end p) (λ i x. h x i)

caught_same : (o p : MeaningOutcome) (cs : List ConditionOf) (f g : List ValueOf → MeaningOutcome) → o ≡ p → ((x : List ValueOf) → f x ≡ g x)
    → caught o cs f ≡ caught p cs g
caught_same o p cs f g e h = ap (λ (r : MeaningOutcome). caught r cs f) e ∙ ap (caught p cs) (λ i x. h x i)

evaluate_bare : (q : Program) (sizes : StackSizes) (n : ℕ) (s : Stmt) (u : StackSizes) (x : List ValueOf)
    → evaluate (bare_program q) sizes n (bare_statement s) u x ≡ evaluate q sizes n s u x
evaluate_bare q sizes zero s u x = refl
evaluate_bare q sizes (suc n) Skip u x = refl
evaluate_bare q sizes (suc n) (NoOp place) u x = refl
evaluate_bare q sizes (suc n) (Signal place c) u x = refl
evaluate_bare q sizes (suc n) (Seq a b) u x =
    then_same (evaluate (bare_program q) sizes (suc n) (bare_statement a) u x) (evaluate q sizes (suc n) a u x)
    (evaluate (bare_program q) sizes (suc n) (bare_statement b) u) (evaluate q sizes (suc n) b u)
    (evaluate_bare q sizes (suc n) a u x) (evaluate_bare q sizes (suc n) b u)
evaluate_bare q sizes (suc n) (Loop place s) u x =
    round_same (evaluate (bare_program q) sizes (suc n) (bare_statement s) u x) (evaluate q sizes (suc n) s u x)
    (evaluate (bare_program q) sizes n (bare_statement (Loop place s)) u) (evaluate q sizes n (Loop place s) u)
    (evaluate_bare q sizes (suc n) s u x) (evaluate_bare q sizes n (Loop place s) u)
evaluate_bare q sizes (suc n) (If place b s w) u x =
    ap₂ (either_way (is_true_value (value_at x b))) (evaluate_bare q sizes (suc n) s u x) (evaluate_bare q sizes (suc n) w u x)
evaluate_bare q sizes (suc n) (Begin place s cs w) u x =
    caught_same (evaluate (bare_program q) sizes (suc n) (bare_statement s) u x) (evaluate q sizes (suc n) s u x) cs
    (evaluate (bare_program q) sizes (suc n) (bare_statement w) u) (evaluate q sizes (suc n) w u)
    (evaluate_bare q sizes (suc n) s u x) (evaluate_bare q sizes (suc n) w u)
evaluate_bare q sizes (suc n) (Call place p xs cs) u x =
    let body = ap (λ (c : Proc). c.body) (proc_bare q p) in
    let used = used_bare q p u in
    let copied = copied_bare q p xs x in
    let inner : evaluate (bare_program q) sizes n (body_of (bare_program q) p) (with_call (bare_program q) p u) (copied_in (bare_program q) p xs x)
    ≡ evaluate q sizes n (body_of q p) (with_call q p u) (copied_in q p xs x) =
    (λ i. evaluate (bare_program q) sizes n (body i) (used i) (copied i)) ∙ evaluate_bare q sizes n (body_of q p) (with_call q p u) (copied_in q p xs x) in
    let room = room_bare q sizes p u in
    (λ i. if_room (room i) x (returned (bare_program q) p xs cs x (inner i)))
    ∙ ap (if_room (has_room q sizes p u) x) (returned_bare q p xs cs x (evaluate q sizes n (body_of q p) (with_call q p u) (copied_in q p xs x)))
evaluate_bare q sizes (suc n) (Apply place r args) u x = refl

end_bare : (q : Program) (o : MeaningOutcome) → main_end (bare_program q) o ≡ main_end q o
end_bare q (Done x None) = ap (λ (y : List ValueOf). Done y None) (formals_bare q x)
end_bare q (Done x (Some c)) =
    let formals = formals_bare q x in
    let way = way_bare q c in
    λ i. Done (formals i) (Some (way i))
end_bare q Unfinished = refl

meaning_bare : (q : Program) (sizes : StackSizes) (v : List ValueOf) (n : ℕ) → meaning (bare_program q) sizes v n ≡ meaning q sizes v n
meaning_bare q sizes v n =
    let body = ap (λ (c : Proc). c.body) (proc_bare q q.main) in
    let used = main_used_bare q in
    let start = start_bare q v in
    let inner : evaluate (bare_program q) sizes n (body_of (bare_program q) q.main) (main_used (bare_program q)) (main_start (bare_program q) v)
    ≡ evaluate q sizes n (body_of q q.main) (main_used q) (main_start q v) =
    (λ i. evaluate (bare_program q) sizes n (body i) (used i) (start i)) ∙ evaluate_bare q sizes n (body_of q q.main) (main_used q) (main_start q v) in
    ap (main_end (bare_program q)) inner ∙ end_bare q (evaluate q sizes n (body_of q q.main) (main_used q) (main_start q v))

-- ---- two programs that differ in places alone

abbrev pub main_shapes : Program → List Shape
main_shapes q = (proc_at q q.main).formals

module _ (q r : Program) (same : bare_program q ≡ bare_program r) where
  pub same_shapes : main_shapes q ≡ main_shapes r
  same_shapes =
      sym (ap (λ (c : Proc). c.formals) (proc_bare q q.main)) ∙ ap (λ (p : Program). (proc_at p p.main).formals) same
      ∙ ap (λ (c : Proc). c.formals) (proc_bare r r.main)

  pub same_meaning : (sizes : StackSizes) (v : List ValueOf) (n : ℕ) → meaning q sizes v n ≡ meaning r sizes v n
  same_meaning sizes v n = sym (meaning_bare q sizes v n) ∙ ap (λ (p : Program). meaning p sizes v n) same ∙ meaning_bare r sizes v n
