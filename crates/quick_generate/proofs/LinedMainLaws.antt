-- Main with its calls in line, as code makes it of an accepted source.
use Rattle.std.proofs.Common.{◌≡◌, ℕ, zero, suc, ◌<◌, ◌≤◌, List, [], ◌∷◌, ◌++◌, length, Bool, true, false, Some, None, ap, sym, ◌∙◌, subst, arith, get_or, map}
use Rattle.std.{specs.Prelude.{All, if◌then◌else◌}, proofs.lemmas.Bool.{le-leb, lt-leb}, proofs.lemmas.List.Elements.{All-head, All-tail}}
use Rattle.gypsy_syntax.specs.Programs.{ConditionOf, Leave, Routine, Space, Declared, Proc, Program, no_proc, proc_at, body_of, conds_of, shapes_of, words_of}
use Rattle.gypsy_syntax.{specs.Programs.{Stmt, Skip, NoOp, Signal, Seq, Loop, If, Begin, Call, Apply}, specs.ProgramFits.{Each, CondFits, HandlerFits}}
use Rattle.gypsy_syntax.{specs.ProgramFits.StmtFits, specs.Resolved.{procedure_of, program_of}, specs.Sources.{ProcOf, SourceOf}, specs.Fits.FitsProcedure}
use Rattle.gypsy_syntax.proofs.FitsLaws.{keeps_fits}
use Rattle.gypsy_check.specs.Accepted.{IsAccepted}
use Rattle.gypsy_space.{specs.Needs.{StackSizes, frame_of, main_used}, specs.Events.{AreNeeds, AreSmall}, specs.Nodes.{seen_proc, seen_statement}}
use Rattle.gypsy_space.specs.declared.program.Procedure.{Procedure}
use Rattle.quick_gypsy.{specs.InLine.{in_line, lined_main, main_context, new_locals, numbers_from}, proofs.ViewLaws.numbers_length}
use Rattle.quick_gypsy.specs.InLine as line
use Rattle.quick_build.specs.QuickImage.{most_nested, quick_main}
use Rattle.quick_generate.{specs.Lining.{CanGo, HasLowNumber, lined_size, main_size, most_levels, most_lined}, specs.LinedViews.{HasNumbers, IsMainItself}}
use Rattle.quick_generate.{specs.LinedViews.{IsTable, line_in, more_in, called_program, seen_in_main, size_in, sizes_of, used_in}, specs.QuickOf.main_found}
use Rattle.quick_generate.{specs.QuickOf.main_proc, specs.declared.calls.Calls.Calls, specs.declared.in_main.InMain.InMain, proofs.PlacedLaws.few_variables}

-- 1. Statements that fit have low numbers, if their procedure has few conditions.

cond_low : (b : Bool) (n : ℕ) (c : ConditionOf) → n ≤ 65536 → CondFits b n c → HasLowNumber c
cond_low b n Leave le h = tt
cond_low b n Routine le h = tt
cond_low b n Space le h = tt
cond_low b n (Declared i) le h = omega (arith, h, le)

conds_low : (b : Bool) (n : ℕ) (cs : List ConditionOf) → n ≤ 65536 → Each (CondFits b n) cs → Each HasLowNumber cs
conds_low b n [] le h = tt
conds_low b n (c ∷ cs) le h = (cond_low b n c le h.0, conds_low b n cs le h.1)

handler_low : (n : ℕ) (c : ConditionOf) → n ≤ 65536 → HandlerFits n c → HasLowNumber c
handler_low n Leave le h = tt
handler_low n Routine le h = tt
handler_low n Space le h = tt
handler_low n (Declared i) le h = omega (arith, h, le)

handlers_low : (n : ℕ) (cs : List ConditionOf) → n ≤ 65536 → Each (HandlerFits n) cs → Each HasLowNumber cs
handlers_low n [] le h = tt
handlers_low n (c ∷ cs) le h = (handler_low n c le h.0, handlers_low n cs le h.1)

can_go : (q : Program) (shapes : _) (n : ℕ) (b : Bool) (s : Stmt) → n ≤ 65536 → StmtFits q shapes n b s → CanGo q s
can_go q shapes n b Skip le h = tt
can_go q shapes n b (NoOp place) le h = tt
can_go q shapes n b (Signal place c) le h = cond_low b n c le h
can_go q shapes n b (Seq s t) le h = (can_go q shapes n b s le h.0, can_go q shapes n b t le h.1)
can_go q shapes n b (Loop place s) le h = can_go q shapes n true s le h
can_go q shapes n b (If place v s w) le h = (can_go q shapes n b s le h.1, can_go q shapes n b w le h.2)
can_go q shapes n b (Begin place s cs w) le h = (handlers_low n cs le h.0, can_go q shapes n b s le h.1, can_go q shapes n b w le h.2)
can_go q shapes n b (Call place p xs cs) le h = (h.callee, h.number, conds_low b n cs le h.conds)
can_go q shapes n b (Apply place r args) le h = tt

-- each procedure has few
few_at : (s : SourceOf) (procs : List ProcOf) (i : ℕ) → All FitsProcedure procs → conds_of (get_or (map (procedure_of s) procs) i no_proc) ≤ 200
few_at s [] i h = omega arith
few_at s (p ∷ procs) zero h = (All-head FitsProcedure p procs h).few_conds
few_at s (p ∷ procs) (suc i) h = few_at s procs i (All-tail FitsProcedure p procs h)

few_conditions : (s : SourceOf) → IsAccepted s → (p : ℕ) → conds_of (proc_at (program_of s) p) ≤ 200
few_conditions s accepted p = few_at s s.procs p (keeps_fits s accepted.form).procs

can_go_all : (s : SourceOf) → IsAccepted s → (p : ℕ) → CanGo (program_of s) (body_of (program_of s) p)
can_go_all s accepted p =
    let c : Proc = proc_at (program_of s) p in
    let few = few_conditions s accepted p in
    can_go (program_of s) (shapes_of c) (conds_of c) false c.body (omega (arith, few)) (accepted.fits.procs p).body

pub table_is : (calls : Calls) (s : SourceOf) → IsAccepted s → called_program calls ≡ program_of s → AreNeeds (program_of s) calls.needs.now.procedures.items
    → AreSmall calls.needs.now.procedures.items → IsTable calls
table_is calls s accepted same needs small =
    record {
      needs = subst (λ (q : Program). AreNeeds q calls.needs.now.procedures.items) (sym same) needs;
      small = small;
      all = λ p. subst (λ (q : Program). CanGo q (body_of q p)) (sym same) (can_go_all s accepted p);
    }

-- 2. Main.

module _ (q : Program) (s : SourceOf) (main : Procedure) (accepted : IsAccepted s) (same : q ≡ program_of s)
    (at : seen_proc main ≡ proc_at q q.main) where
  pub main_variables : length (shapes_of (seen_proc main)) ≤ 200
  main_variables =
      let few = few_variables s accepted in
      let here : seen_proc main ≡ main_proc s = at ∙ ap (λ (z : Program). proc_at z z.main) same in
      omega (arith, few, ap (λ (r : Proc). length (shapes_of r)) here)

  pub main_conditions : conds_of (seen_proc main) ≤ 200
  main_conditions =
      let few = few_conditions s accepted (program_of s).main in
      let here : seen_proc main ≡ main_proc s = at ∙ ap (λ (z : Program). proc_at z z.main) same in
      omega (arith, few, ap conds_of here)

  pub main_can : CanGo q (seen_statement main.body.value)
  main_can =
      let there : CanGo q (body_of q q.main) = subst (λ (z : Program). CanGo z (body_of z z.main)) (sym same) (can_go_all s accepted (program_of s).main) in
      subst (λ (r : Proc). CanGo q r.body) (sym at) there

module _ (calls : Calls) (s : SourceOf) (main : Procedure) (accepted : IsAccepted s) (same : called_program calls ≡ program_of s)
    (at : seen_proc main ≡ proc_at (called_program calls) (called_program calls).main) where
  abbrev q : Program
  q = called_program calls

  abbrev sizes : StackSizes
  sizes = sizes_of calls

  abbrev p : Proc
  p = seen_proc main

  module _ (h : InMain) (is : IsMainItself p h) where
    used_is : used_in h.activation ≡ main_used q
    unfolding main_used
    used_is =
        is.used ∙ ap (λ (r : Proc). let u : StackSizes = record { temp = words_of (shapes_of r); ctrl = frame_of r } in u) at

    pub size_same : size_in calls h.activation most_levels p.body ≡ main_size (program_of s) sizes
    size_same =
        ap (λ (d : ℕ). lined_size q sizes d most_levels (used_in h.activation) p.body) is.calls
        ∙ ap (λ (u : StackSizes). lined_size q sizes most_nested most_levels u p.body) used_is
        ∙ ap (λ (r : Proc). lined_size q sizes most_nested most_levels (main_used q) r.body) at
        ∙ ap (λ (z : Program). main_size z sizes) same

    pub count_is : length h.variables.items ≡ length (shapes_of p)
    count_is = ap length is.variables ∙ numbers_length 0 (length (shapes_of p))

    pub numbers_there : size_in calls h.activation most_levels p.body ≤ most_lined
        → HasNumbers h (length h.variables.items) (size_in calls h.activation most_levels p.body)
    numbers_there small =
        let variables = main_variables q s main accepted same at in
        let conditions = main_conditions q s main accepted same at in
        let count = count_is in
        let next = is.next in
        let first = is.first in
        record {
          small = small;
          variables = omega (arith, small, variables, count);
          first = omega (arith, first);
          conditions = omega (arith, small, conditions, next);
        }

    context_is : seen_in_main h (length h.variables.items) ≡ main_context q
    unfolding main_context
    context_is =
        let n : length h.variables.items ≡ length (shapes_of (proc_at q q.main)) = count_is ∙ ap (λ (r : Proc). length (shapes_of r)) at in
        let vs : h.variables.items ≡ numbers_from 0 (length (shapes_of (proc_at q q.main))) =
        is.variables ∙ ap (λ (r : Proc). numbers_from 0 (length (shapes_of r))) at in
        let u = used_is in
        let k : h.next_cond ≡ conds_of (proc_at q q.main) = is.next ∙ ap conds_of at in
        let f = is.first in
        λ i. record { used = u i; variables = vs i; next = n i; first_cond = f i; next_cond = k i }

    more_same : more_in calls h.activation p.body ≡ new_locals q sizes most_nested (main_used q) (body_of q q.main)
    more_same =
        ap (λ (d : ℕ). new_locals q sizes d (used_in h.activation) p.body) is.calls
        ∙ ap (λ (u : StackSizes). new_locals q sizes most_nested u p.body) used_is
        ∙ ap (λ (r : Proc). new_locals q sizes most_nested (main_used q) r.body) at

    line_same : line_in calls h (length h.variables.items) p.body ≡ in_line q sizes most_nested (main_context q) (body_of q q.main)
    line_same =
        ap (λ (d : ℕ). in_line q sizes d (seen_in_main h (length h.variables.items)) p.body) is.calls
        ∙ ap (λ (z : line.InMain). in_line q sizes most_nested z p.body) context_is
        ∙ ap (λ (r : Proc). in_line q sizes most_nested (main_context q) r.body) at

    pub main_made : (made : Proc)
        → made ≡ (let r : Proc = record p {
          locals = p.locals ++ more_in calls h.activation p.body;
          body = line_in calls h (length h.variables.items) p.body;
        } in r)
        → made ≡ quick_main s sizes
    main_made made e =
        let more = more_same in
        let lined = line_same in
        e ∙ (λ i. record p { locals = p.locals ++ more i; body = lined i })
        ∙ ap (λ (r : Proc). let z : Proc = record r {
          locals = r.locals ++ new_locals q sizes most_nested (main_used q) (body_of q q.main);
          body = in_line q sizes most_nested (main_context q) (body_of q q.main);
        } in z) at
        ∙ ap (λ (z : Program). lined_main z sizes most_nested) same

-- 3. Whether that is too much.

pub is_found : (s : SourceOf) (sizes : StackSizes) → main_size (program_of s) sizes ≤ most_lined → main_found s sizes ≡ Some (quick_main s sizes)
unfolding main_found
is_found s sizes small =
    ap (λ (b : Bool). if b then Some (quick_main s sizes) else None) (le-leb (main_size (program_of s) sizes) most_lined small)

pub none_found : (s : SourceOf) (sizes : StackSizes) → most_lined < main_size (program_of s) sizes → main_found s sizes ≡ None
unfolding main_found
none_found s sizes large =
    ap (λ (b : Bool). if b then Some (quick_main s sizes) else None) (lt-leb (main_size (program_of s) sizes) most_lined large)
