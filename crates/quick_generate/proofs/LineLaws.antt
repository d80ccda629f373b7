-- Statements in line, made of their parts.
use Rattle.std.proofs.Common.{◌≡◌, ℕ, zero, suc, ◌+◌, ◌-◌, ◌<◌, ◌≤◌, ◌^◌, List, [], ◌∷◌, ◌++◌, map, replicate, length, true, refl, ap, sym, ◌∙◌, subst, arith}
use Rattle.std.{proofs.Common.{append_assoc, get_or, drop}, specs.Prelude.{if◌then◌else◌, Result, Ok, Err}, specs.declared.alloc.Global.Global}
use Rattle.std.{specs.declared.rc.Rc.Rc, proofs.lemmas.List.{length-append, length-map, length-replicate, drop_all}}
use Rattle.stack_heap.specs.Heaps.{IfOkUnless, OnOkUnless}
use Rattle.stack_text.{specs.Values.ValueOf, specs.declared.name.Name.Name, proofs.Loops.drop-item}
use Rattle.gypsy_syntax.specs.Programs.{ConditionOf, Routine, Space, Signal, Lit, Var, Program, Proc, Stmt, Skip, Seq, Call, Apply, proc_at, body_of, conds_of}
use Rattle.gypsy_syntax.specs.declared.predef.Predef.TheVariants.{MgSimpleConstantAssignment}
use Rattle.gypsy_space.{specs.Needs.{StackSizes, with_call, has_room}, specs.declared.program.Node.Node, specs.Nodes.{held_values, seen_statement}}
use Rattle.gypsy_space.{specs.Nodes.{seen_statements, seen_cond, seen_proc}, specs.CallSites.sequenced, specs.declared.program.CallSite.CallSite}
use Rattle.gypsy_space.{specs.declared.program.Condition.Condition, specs.declared.program.Procedure.Procedure}
use Rattle.quick_gypsy.specs.InLine as line
use Rattle.quick_gypsy.specs.InLine.{after_locals, callee_context, condition_from, in_line, new_locals, passing, ways_out}
use Rattle.quick_generate.{specs.Lining.{call_size, inside, lined_size, most_lined, CanGo}, specs.LinedViews.{HasNumbers, seen_in_main, used_in, line_in}}
use Rattle.quick_generate.{specs.LinedViews.{more_in, called_program, seen_call, size_in, sizes_of}, specs.declared.calls.Calls.Calls}
use Rattle.quick_generate.{specs.declared.in_main.InMain.InMain, proofs.LinedSizeLaws.{body_size, few_inside, locals_few}}

-- 1. Sequences.

pub sequenced-push : (ns : List (Rc Node Global)) (n : Rc Node Global) (rest : Stmt)
    → sequenced (ns ++ n ∷ []) rest ≡ sequenced ns (Seq (seen_statement n.value) rest)
sequenced-push [] n rest = refl
sequenced-push (m ∷ ns) n rest = ap (Seq (seen_statement m.value)) (sequenced-push ns n rest)

pub sequenced-skip : (ns : List (Rc Node Global)) → sequenced ns Skip ≡ seen_statements ns
sequenced-skip [] = refl
sequenced-skip (n ∷ ns) = ap (Seq (seen_statement n.value)) (sequenced-skip ns)

-- one more assignment is there, and one fewer is to come
pub assigned_next : (place next k : ℕ) (locals : List (Name × ValueOf)) (old new : List (Rc Node Global)) (n : Rc Node Global) (x : Name × ValueOf)
    → k < length locals → x ≡ get_or locals k x → new ≡ old ++ n ∷ []
    → seen_statement n.value ≡ Apply place MgSimpleConstantAssignment (Var (next + k) ∷ Lit x.1 ∷ [])
    → ((s : Stmt) → sequenced old (after_locals place (next + k) (held_values (drop k locals)) s) ≡ after_locals place next (held_values locals) s)
    → (s : Stmt) → sequenced new (after_locals place (next + (k + 1)) (held_values (drop (k + 1) locals)) s)
    ≡ after_locals place next (held_values locals) s
assigned_next place next k locals old new n x lt is now made so_far s =
    let further : next + (k + 1) ≡ suc (next + k) = omega arith in
    let rest : List (Name × ValueOf) = drop (k + 1) locals in
    ap (λ (ns : List (Rc Node Global)). sequenced ns (after_locals place (next + (k + 1)) (held_values rest) s)) now
    ∙ sequenced-push old n (after_locals place (next + (k + 1)) (held_values rest) s)
    ∙ ap (λ (st : Stmt). sequenced old (Seq st (after_locals place (next + (k + 1)) (held_values rest) s))) made
    ∙ ap (λ (m : ℕ). sequenced old
    (Seq (Apply place MgSimpleConstantAssignment (Var (next + k) ∷ Lit x.1 ∷ [])) (after_locals place m (held_values rest) s))) further
    ∙ ap (λ (xs : List (Name × ValueOf)). sequenced old (after_locals place (next + k) (held_values xs) s)) (sym (drop-item locals k x lt is))
    ∙ so_far s

-- all assignments are there, and the body
pub assigned_all : (place next k : ℕ) (locals : List (Name × ValueOf)) (old new : List (Rc Node Global)) (body : Rc Node Global) → length locals ≤ k
    → new ≡ old ++ body ∷ []
    → ((s : Stmt) → sequenced old (after_locals place (next + k) (held_values (drop k locals)) s) ≡ after_locals place next (held_values locals) s)
    → seen_statements new ≡ after_locals place next (held_values locals) (seen_statement body.value)
assigned_all place next k locals old new body past now so_far =
    let s : Stmt = seen_statement body.value in
    sym (sequenced-skip new) ∙ ap (λ (ns : List (Rc Node Global)). sequenced ns Skip) now ∙ sequenced-push old body Skip
    ∙ ap (λ (xs : List (Name × ValueOf)). sequenced old (after_locals place (next + k) (held_values xs) s)) (sym (drop_all k locals past))
    ∙ so_far s

-- what is so beside what was returned
pub on_ok_of : {X E : Type 0} (refused : Type 0) (result : Result X E) (P : X → Type 0) (Q : Type 0) → Q → IfOkUnless refused result P
    → OnOkUnless refused result Q
on_ok_of refused (Ok x) P Q so is = so
on_ok_of refused (Err e) P Q so is = is

-- 2. Room for what is still to come.

-- behind a first part, which takes variables
pub then_numbers : (h : InMain) (next behind first rest more : ℕ) → HasNumbers h next (1 + first + rest) → behind ≡ next + more → more ≤ first
    → HasNumbers h behind rest
then_numbers h next behind first rest more g is few =
    record {
      small = omega (arith, g.small);
      variables = omega (arith, g.variables, is, few);
      first = g.first;
      conditions = omega (arith, g.conditions);
    }

-- 3. Calls.

module _ (q : Program) (sizes : StackSizes) where
  -- a call that has room, and isn't too much
  pub record GoesInLine (d k : ℕ) (u : StackSizes) (place p : ℕ) (xs : List ℕ) (cs : List ConditionOf) : Type 0 where
    pub nests : 0 < d
    pub size : lined_size q sizes d k u (Call place p xs cs)
        ≡ call_size (proc_at q p) + body_size q sizes (d - 1) (k - conds_of (proc_at q p)) u p
    pub more : new_locals q sizes d u (Call place p xs cs) ≡ (proc_at q p).locals ++ new_locals q sizes (d - 1) (with_call q p u) (body_of q p)
    pub is : (h : line.InMain) → h.used ≡ u → in_line q sizes d h (Call place p xs cs)
        ≡ passing place h.next_cond (ways_out q h p cs)
        (after_locals place h.next (proc_at q p).locals (in_line q sizes (d - 1) (callee_context q h p xs) (body_of q p)))

  pub goes_in_line : (d k : ℕ) (u : StackSizes) (place p : ℕ) (xs : List ℕ) (cs : List ConditionOf) → has_room q sizes p u ≡ true
      → lined_size q sizes d k u (Call place p xs cs) ≤ most_lined → GoesInLine d k u place p xs cs
  goes_in_line zero k u place p xs cs room small = absurd (omega (arith, small))
  goes_in_line (suc d) k u place p xs cs room small =
      let c : Proc = proc_at q p in
      let same : d ≡ suc d - 1 = omega arith in
      record {
        nests = omega arith;
        size = ap (λ b. if b then call_size c + body_size q sizes d (k - conds_of c) u p else 1) room
            ∙ ap (λ e. call_size c + body_size q sizes e (k - conds_of c) u p) same;
        more = ap (λ b. if b then c.locals ++ new_locals q sizes d (with_call q p u) (body_of q p) else []) room
            ∙ ap (λ e. c.locals ++ new_locals q sizes e (with_call q p u) (body_of q p)) same;
        is = λ h used.
            let r : has_room q sizes p h.used ≡ true = ap (has_room q sizes p) used ∙ room in
            let made : ℕ → Stmt = λ e. passing place h.next_cond (ways_out q h p cs)
            (after_locals place h.next c.locals (in_line q sizes e (callee_context q h p xs) (body_of q p))) in
            ap (λ b. if b then made d else Signal place Space) r ∙ ap made same;
      }

module _ (calls : Calls) (h : InMain) (k next : ℕ) (site : CallSite) (callee : Procedure)
    (room : has_room (called_program calls) (sizes_of calls) site.callee (used_in h.activation) ≡ true)
    (numbers : HasNumbers h next (size_in calls h.activation k (seen_call site)))
    (at : seen_proc callee ≡ proc_at (called_program calls) site.callee) where
  abbrev q : Program
  q = called_program calls

  abbrev c : Proc
  c = proc_at q site.callee

  abbrev Line : Type 0
  Line = GoesInLine q (sizes_of calls) h.activation.calls k (used_in h.activation) site.place site.callee site.actuals.items (map seen_cond site.conds.items)

  goes : Line
  goes =
      goes_in_line q (sizes_of calls) h.activation.calls k (used_in h.activation) site.place site.callee site.actuals.items
      (map seen_cond site.conds.items) room numbers.small

  pub locals_counted : length callee.locals.items ≡ length c.locals
  locals_counted = omega (arith, length-map callee.locals.items (λ (v : Name × ValueOf). v.1), ap (λ (r : Proc). length r.locals) at)

  -- there are numbers for its locals and conditions
  pub locals_fit : next + length c.locals < 2 ^ 32
  locals_fit =
      let g : Line = goes in
      omega (arith, numbers.variables, g.size, locals_few c.locals)

  pub conditions_fit : h.next_cond + conds_of c < 2 ^ 32
  conditions_fit =
      let g : Line = goes in
      omega (arith, numbers.conditions, g.size)

  pub ways_fit : (ways : List Condition) (local_conds : ℕ) → CanGo q (seen_call site) → local_conds ≡ length callee.local_conds.items
      → map seen_cond ways ≡ map (condition_from h.first_cond) (map seen_cond site.conds.items) ++ replicate local_conds Routine
      → h.next_cond + length ways < 2 ^ 32
  ways_fit ways local_conds can count is =
      let f = conditions_fit in
      let named : List ConditionOf = map seen_cond site.conds.items in
      omega (
        arith,
        f,
        count,
        can.1,
        ap (λ (r : Proc). r.local_conds) at,
        ap (λ (cs : List ConditionOf). length cs) is,
        length-map ways seen_cond,
        length-map named (condition_from h.first_cond),
        length-append (map (condition_from h.first_cond) named) (replicate local_conds Routine),
        length-replicate local_conds Routine,
      )

  -- and for its body
  module _ (inner : InMain) (conds : ℕ) (counted : conds ≡ conds_of (seen_proc callee))
      (is : seen_in_main inner (next + length c.locals) ≡ callee_context q (seen_in_main h next) site.callee site.actuals.items)
      (nests : inner.activation.calls ≡ h.activation.calls - 1) (first : inner.first_cond ≡ h.next_cond) where
    used_is : used_in inner.activation ≡ with_call q site.callee (used_in h.activation)
    unfolding callee_context
    used_is = ap (λ (z : line.InMain). z.used) is

    next_is : inner.next_cond ≡ h.next_cond + conds_of c
    unfolding callee_context
    next_is = ap (λ (z : line.InMain). z.next_cond) is

    abbrev left : ℕ
    left = k - conds

    size_is : inside left (size_in calls inner.activation (left - 1) (seen_statement callee.body.value))
        ≡ body_size q (sizes_of calls) (h.activation.calls - 1) (k - conds_of c) (used_in h.activation) site.callee
    size_is =
        let same : left ≡ k - conds_of c = ap (λ m. k - m) (counted ∙ ap conds_of at) in
        ap (λ m. inside m (lined_size q (sizes_of calls) inner.activation.calls (m - 1) (used_in inner.activation) (seen_statement callee.body.value))) same
        ∙ ap (λ d. inside (k - conds_of c)
        (lined_size q (sizes_of calls) d (k - conds_of c - 1) (used_in inner.activation) (seen_statement callee.body.value))) nests
        ∙ ap (λ u. inside (k - conds_of c)
        (lined_size q (sizes_of calls) (h.activation.calls - 1) (k - conds_of c - 1) u (seen_statement callee.body.value))) used_is
        ∙ ap (λ (r : Proc). inside (k - conds_of c) (lined_size q (sizes_of calls) (h.activation.calls - 1) (k - conds_of c - 1)
        (with_call q site.callee (used_in h.activation)) r.body)) at

    pub body_numbers : (behind : ℕ) → behind ≡ next + length c.locals
        → HasNumbers inner behind (inside left (size_in calls inner.activation (left - 1) (seen_statement callee.body.value)))
    body_numbers behind end =
        let g : Line = goes in
        let s = size_is in
        let n = next_is in
        record {
          small = omega (arith, numbers.small, g.size, s);
          variables = omega (arith, numbers.variables, g.size, s, end, locals_few c.locals);
          first = omega (arith, n, first);
          conditions = omega (arith, numbers.conditions, g.size, s, n);
        }

    abbrev body : Stmt
    body = seen_statement callee.body.value

    -- what is made of it
    pub more_is : (behind : ℕ) (old mid new : List ValueOf) → mid ≡ old ++ held_values callee.locals.items → new ≡ mid ++ more_in calls inner.activation body
        → new ≡ old ++ more_in calls h.activation (seen_call site)
    more_is behind old mid new e f =
        let g : Line = goes in
        let inside_is : more_in calls inner.activation body
        ≡ new_locals q (sizes_of calls) (h.activation.calls - 1) (with_call q site.callee (used_in h.activation)) c.body =
        ap (λ d. new_locals q (sizes_of calls) d (used_in inner.activation) body) nests
        ∙ ap (λ u. new_locals q (sizes_of calls) (h.activation.calls - 1) u body) used_is
        ∙ ap (λ (r : Proc). new_locals q (sizes_of calls) (h.activation.calls - 1) (with_call q site.callee (used_in h.activation)) r.body) at in
        f ∙ ap (λ (vs : List ValueOf). vs ++ more_in calls inner.activation body) (e ∙ ap (λ (r : Proc). old ++ r.locals) at)
        ∙ append_assoc old c.locals (more_in calls inner.activation body)
        ∙ ap (λ (vs : List ValueOf). old ++ (c.locals ++ vs)) inside_is
        ∙ ap (λ (vs : List ValueOf). old ++ vs) (sym g.more)

    pub next_more : (mid new : ℕ) → mid ≡ next + length callee.locals.items → new ≡ mid + length (more_in calls inner.activation body)
        → new ≡ next + length (more_in calls h.activation (seen_call site))
    next_more mid new e f =
        let all : held_values callee.locals.items ++ more_in calls inner.activation body ≡ more_in calls h.activation (seen_call site) =
        more_is mid [] (held_values callee.locals.items) _ refl refl in
        omega (
          arith,
          e,
          f,
          ap (λ (vs : List ValueOf). length vs) all,
          length-append (held_values callee.locals.items) (more_in calls inner.activation body),
          length-map callee.locals.items (λ (v : Name × ValueOf). v.1),
        )

    pub call_is : (behind : ℕ) (ways : List ConditionOf) (begun lined : Stmt) (locals : List ValueOf) (local_conds : ℕ) → behind ≡ next + length c.locals
        → lined ≡ line_in calls inner behind body → locals ≡ held_values callee.locals.items → begun ≡ after_locals site.place next locals lined
        → local_conds ≡ length callee.local_conds.items
        → ways ≡ map (condition_from h.first_cond) (map seen_cond site.conds.items) ++ replicate local_conds Routine
        → passing site.place h.next_cond ways begun ≡ line_in calls h next (seen_call site)
    call_is behind ways begun lined locals local_conds end made values started count named =
        let g : Line = goes in
        let way : ways ≡ ways_out q (seen_in_main h next) site.callee (map seen_cond site.conds.items) =
        named ∙ ap (λ (n : ℕ). map (condition_from h.first_cond) (map seen_cond site.conds.items) ++ replicate n Routine)
        (count ∙ ap (λ (r : Proc). r.local_conds) at) in
        let lining : lined
        ≡ in_line q (sizes_of calls) (h.activation.calls - 1) (callee_context q (seen_in_main h next) site.callee site.actuals.items) c.body =
        made ∙ ap (λ (n : ℕ). line_in calls inner n body) end
        ∙ ap (λ (z : line.InMain). in_line q (sizes_of calls) inner.activation.calls z body) is
        ∙ ap (λ (d : ℕ). in_line q (sizes_of calls) d (callee_context q (seen_in_main h next) site.callee site.actuals.items) body) nests
        ∙ ap (λ (r : Proc). in_line q (sizes_of calls) (h.activation.calls - 1) (callee_context q (seen_in_main h next) site.callee site.actuals.items) r.body)
        at in
        let begins : begun ≡ after_locals site.place next c.locals
        (in_line q (sizes_of calls) (h.activation.calls - 1) (callee_context q (seen_in_main h next) site.callee site.actuals.items) c.body) =
        started ∙ ap (λ (vs : List ValueOf). after_locals site.place next vs lined) (values ∙ ap (λ (r : Proc). r.locals) at)
        ∙ ap (λ (s : Stmt). after_locals site.place next c.locals s) lining in
        ap (λ (cs : List ConditionOf). passing site.place h.next_cond cs begun) way
        ∙ ap (λ (s : Stmt). passing site.place h.next_cond (ways_out q (seen_in_main h next) site.callee (map seen_cond site.conds.items)) s) begins
        ∙ sym (g.is (seen_in_main h next) refl)

-- 4. Parts.

-- one more part is there, and one fewer is to come
module _ (calls : Calls) (h : InMain) (k : ℕ) (parts : List (Rc Node Global)) (index : ℕ) (x : Rc Node Global) (lt : index < length parts)
    (is : x ≡ get_or parts index x) where
  abbrev rest : Stmt
  rest = seen_statements (drop (index + 1) parts)

  abbrev part : Stmt
  part = seen_statement x.value

  pub then_rest : seen_statements (drop index parts) ≡ Seq part rest
  then_rest = ap seen_statements (drop-item parts index x lt is)

  module _ (old new : ℕ)
      (numbers : HasNumbers h old (size_in calls h.activation k (seen_statements (drop index parts)))) where
    all_numbers : HasNumbers h old (1 + inside k (size_in calls h.activation (k - 1) part) + size_in calls h.activation k rest)
    all_numbers = subst (λ (s : Stmt). HasNumbers h old (size_in calls h.activation k s)) then_rest numbers

    pub rest_numbers : new ≡ old + length (more_in calls h.activation part) → HasNumbers h new (size_in calls h.activation k rest)
    rest_numbers e =
        let n = all_numbers in
        then_numbers h old new (inside k (size_in calls h.activation (k - 1) part)) (size_in calls h.activation k rest)
        (length (more_in calls h.activation part)) n e
        (few_inside (called_program calls) (sizes_of calls) h.activation.calls k (used_in h.activation) part (omega (arith, n.small)))

  pub part_stands : (old new : ℕ) (ns ms : List (Rc Node Global)) (n : Rc Node Global) (whole : Stmt) → ms ≡ ns ++ n ∷ []
      → new ≡ old + length (more_in calls h.activation part) → seen_statement n.value ≡ line_in calls h old part
      → sequenced ns (line_in calls h old (seen_statements (drop index parts))) ≡ whole → sequenced ms (line_in calls h new rest) ≡ whole
  part_stands old new ns ms n whole pushed e made so_far =
      ap (λ (zs : List (Rc Node Global)). sequenced zs (line_in calls h new rest)) pushed
      ∙ sequenced-push ns n (line_in calls h new rest)
      ∙ ap (λ (s : Stmt). sequenced ns (Seq s (line_in calls h new rest))) made
      ∙ ap (λ (m : ℕ). sequenced ns (Seq (line_in calls h old part) (line_in calls h m rest))) e
      ∙ ap (λ (s : Stmt). sequenced ns (line_in calls h old s)) (sym then_rest)
      ∙ so_far

  pub part_more : (old new all : List ValueOf) → new ≡ old ++ more_in calls h.activation part
      → old ++ more_in calls h.activation (seen_statements (drop index parts)) ≡ all → new ++ more_in calls h.activation rest ≡ all
  part_more old new all e so_far =
      ap (λ (vs : List ValueOf). vs ++ more_in calls h.activation rest) e
      ∙ append_assoc old (more_in calls h.activation part) (more_in calls h.activation rest)
      ∙ ap (λ (s : Stmt). old ++ more_in calls h.activation s) (sym then_rest)
      ∙ so_far

  pub part_next : (old new all : ℕ) → new ≡ old + length (more_in calls h.activation part)
      → old + length (more_in calls h.activation (seen_statements (drop index parts))) ≡ all → new + length (more_in calls h.activation rest) ≡ all
  part_next old new all e so_far =
      omega (
        arith,
        e,
        so_far,
        ap (λ (s : Stmt). length (more_in calls h.activation s)) then_rest,
        length-append (more_in calls h.activation part) (more_in calls h.activation rest),
      )

  pub part_can : CanGo (called_program calls) (seen_statements (drop index parts)) → CanGo (called_program calls) part × CanGo (called_program calls) rest
  part_can can = subst (λ (s : Stmt). CanGo (called_program calls) s) then_rest can
