-- Statements and procedures that break no rule fit.
use Rattle.std.proofs.Common.{◌≡◌, ℕ, zero, suc, ◌+◌, ◌<◌, ◌≤◌, ℤ, List, [], ◌∷◌, ◌++◌, map, length, get_or, slice_get, if◌then◌else◌, bytes_eq, nat_lt, ◌==◌}
use Rattle.std.proofs.Common.{Bool, true, false, not, ◌&&◌, ◌||◌, Option, Some, None, is_none, unwrap_or, refl, ap, sym, ◌∙◌, subst, arith, flat_map, eqb-true}
use Rattle.std.{proofs.Common.{ltb-false, true≢false, length-append, codes}, proofs.lemmas.List.length-map, proofs.lemmas.Bool.{false_from_ne_true, not-true}}
use Rattle.std.proofs.lemmas.Slice.Eq.{bytes_eq-Decides}
use Rattle.stack_text.{specs.Names.place_among, specs.declared.name.Named.Named, specs.declared.shape.Kind.Kind, specs.declared.shape.Kind.TheVariants.Boolean}
use Rattle.stack_text.{specs.declared.shape.Shape.Shape, specs.Breaches.when, specs.Values.same_kind, proofs.SharedLaws.{rule_holds, rule_fails, some_of}}
use Rattle.stack_text.proofs.SharedLaws.{append_none}
use Rattle.gypsy_syntax.{specs.declared.literal.TypeText.TypeText, specs.declared.literal.Decl.Decl, specs.Sources.{StmtOf, StmtsOf, no_op, signal, seq, loop}}
use Rattle.gypsy_syntax.{specs.Sources.{branch, begin, call, predef, no_parts, part, ProcOf, SourceOf, LocalOf}, specs.Resolved.{position_of, variable_names}}
use Rattle.gypsy_syntax.specs.Resolved.{variable_types, condition_names, procedure_names, shape_of, local_value, is_leave_name, is_routine_name, is_space_name}
use Rattle.gypsy_syntax.specs.Resolved.{cond_of, variable_of, statement_of, statement_of_all, procedure_of, program_of, procedure_at, procedure_named}
use Rattle.gypsy_syntax.{specs.Predefined.slots_of, specs.Programs.{ConditionOf, Leave, Routine, Space, Declared, simple, shapes_of, words_of, Proc, Program}}
use Rattle.gypsy_syntax.{specs.Programs.{no_proc, proc_at}, specs.ProgramFits.{Each, CondFits, HandlerFits, ActualsFit, CallFits, StmtFits, ProcFits}}
use Rattle.gypsy_syntax.{specs.ProgramFits.ProgramFits, specs.ValuesFit.ValueFits}
use Rattle.gypsy_check.{specs.Declarations.{type_of, is_condition, variables_of, conditions_of, repeats}, specs.Types.{same_length, same_type, is_boolean}}
use Rattle.gypsy_check.{specs.Types.{has_length, words_of_types}, specs.Rules.{raised_breaches, handled_breaches, handlers_breaches, undeclared, is_of_type}}
use Rattle.gypsy_check.specs.Rules.{test_breaches, actuals_breaches, data_breaches, callee_breaches, callee_name_breaches, actual_name_breaches, call_breaches}
use Rattle.gypsy_check.specs.Rules.{statement_breaches, parts_breaches, is_reserved, condition_breaches, type_breaches, local_breaches, variable_breaches}
use Rattle.gypsy_check.specs.Rules.{condition_name_breaches, size_breaches, procedure_breaches, name_breaches, main_breaches, violations}
use Rattle.gypsy_check.{proofs.CleanLaws.{three, four, chosen, each_of, each_map, get_or_map, each_place}, proofs.NameLaws.{Found, found_below, found_name}}
use Rattle.gypsy_check.{proofs.NameLaws.{one_name, eq_self, procedure_found, distinct, shapes_are, shape_found, variable_found}, proofs.LiteralLaws.type_same}
use Rattle.gypsy_check.{proofs.LiteralLaws.{local_fits, words_are, few_lengths}, proofs.ArgumentLaws.predef_fits}

-- Conditions.

abbrev chosen_cond : Bool → Bool → Bool → ℕ → ConditionOf
chosen_cond l r s i = if l then Leave else if r then Routine else if s then Space else Declared i

raised_fits : (l r s k in_loop : Bool) (n i : ℕ) → (k ≡ true → i < n) → (l || r || k) ≡ true → (l && not in_loop) ≡ false → (s ≡ true → k ≡ false)
    → CondFits in_loop n (chosen_cond l r s i)
raised_fits true r s k true n i h e f g = refl
raised_fits true r s k false n i h e f g = cc
raised_fits false true s k in_loop n i h e f g = tt
raised_fits false false true k in_loop n i h e f g = let a = g refl in cc
raised_fits false false false k in_loop n i h e f g = h e

handled_fits : (l r s k : Bool) (n i : ℕ) → (k ≡ true → i < n) → (r || s || k) ≡ true → (l ≡ true → k ≡ false) → (l ≡ true → r ≡ false)
    → (l ≡ true → s ≡ false) → HandlerFits n (chosen_cond l r s i)
handled_fits true true s k n i h e f g u = let a = g refl in cc
handled_fits true false true k n i h e f g u = let a = u refl in cc
handled_fits true false false k n i h e f g u = let a = f refl in cc
handled_fits false true s k n i h e f g u = tt
handled_fits false false true k n i h e f g u = tt
handled_fits false false false k n i h e f g u = h e

number_of_names : (p : ProcOf) → length (condition_names p) ≡ length p.conds + length p.local_conds
number_of_names p =
    let a : length (condition_names p) ≡ length (map (λ (n : Named). n.name) p.conds) + length (map (λ (n : Named). n.name) p.local_conds) =
    length-append (map (λ (n : Named). n.name) p.conds) (map (λ (n : Named). n.name) p.local_conds) in
    omega (arith, a, length-map p.conds (λ (n : Named). n.name), length-map p.local_conds (λ (n : Named). n.name))

condition_below : (p : ProcOf) (name : List ℕ) → is_condition p name ≡ true → position_of name (condition_names p) < length p.conds + length p.local_conds
condition_below p name e =
    omega (arith, found_below name (condition_names p) (not-true (is_none (place_among name (condition_names p))) e), number_of_names p)

leave_not_routine : (name : List ℕ) → is_leave_name name ≡ true → is_routine_name name ≡ false
leave_not_routine name e =
    let same : name ≡ codes "leave" = (bytes_eq-Decides name (codes "leave")).0 e in
    subst (λ m. is_routine_name m ≡ false) (sym same) refl

leave_not_space : (name : List ℕ) → is_leave_name name ≡ true → is_space_name name ≡ false
leave_not_space name e =
    let same : name ≡ codes "leave" = (bytes_eq-Decides name (codes "leave")).0 e in
    subst (λ m. is_space_name m ≡ false) (sym same) refl

not_reserved : (cs : List Named) (i : ℕ) → flat_map condition_breaches cs ≡ [] → i < length cs
    → is_reserved (get_or (map (λ (n : Named). n.name) cs) i []) ≡ false
not_reserved [] i e h = absurd (omega (arith, h))
not_reserved (c ∷ cs) zero e h = rule_fails (is_reserved c.name) c.place 6 (append_none (condition_breaches c) (flat_map condition_breaches cs) e).0
not_reserved (c ∷ cs) (suc i) e h = not_reserved cs i (append_none (condition_breaches c) (flat_map condition_breaches cs) e).1 (omega (arith, h))

names_join : (xs ys : List Named) → map (λ (n : Named). n.name) xs ++ map (λ (n : Named). n.name) ys ≡ map (λ (n : Named). n.name) (xs ++ ys)
names_join [] ys = refl
names_join (x ∷ xs) ys = ap (λ ns. x.name ∷ ns) (names_join xs ys)

leave_reserved : (name : List ℕ) → is_leave_name name ≡ true → is_reserved name ≡ true
leave_reserved name e = rw e refl

space_reserved : (name : List ℕ) → is_space_name name ≡ true → is_reserved name ≡ true
space_reserved name e =
    let same : name ≡ codes "spaceerror" = (bytes_eq-Decides name (codes "spaceerror")).0 e in
    subst (λ m. is_reserved m ≡ true) (sym same) refl

reserved_not_declared : (p : ProcOf) (name : List ℕ) → flat_map condition_breaches (p.conds ++ p.local_conds) ≡ [] → is_reserved name ≡ true
    → is_condition p name ≡ false
reserved_not_declared p name e is =
    false_from_ne_true (is_condition p name) (λ k. true≢false (sym is ∙ kept k))
  where
    kept : is_condition p name ≡ true → is_reserved name ≡ false
    kept k =
        let found : Found (condition_names p) name = not-true (is_none (place_among name (condition_names p))) k in
        let i = position_of name (condition_names p) in
        let below : i < length (p.conds ++ p.local_conds) = omega (arith, condition_below p name k, length-append p.conds p.local_conds) in
        let at : get_or (map (λ (n : Named). n.name) (p.conds ++ p.local_conds)) i [] ≡ name =
        ap (λ ns. get_or ns i []) (sym (names_join p.conds p.local_conds)) ∙ found_name name (condition_names p) found in
        ap is_reserved (sym at) ∙ not_reserved (p.conds ++ p.local_conds) i e below

cond_fits : (p : ProcOf) → flat_map condition_breaches (p.conds ++ p.local_conds) ≡ [] → (in_loop : Bool) (c : Named) → raised_breaches p in_loop c ≡ []
    → CondFits in_loop (length p.conds + length p.local_conds) (cond_of p c)
cond_fits p reserved in_loop c e =
    let l = is_leave_name c.name in
    let r = is_routine_name c.name in
    let s = is_space_name c.name in
    let k = is_condition p c.name in
    let h = append_none (when (not (l || r || k)) c.place 10) (when (l && not in_loop) c.place 11) e in
    raised_fits l r s k in_loop (length p.conds + length p.local_conds) (position_of c.name (condition_names p)) (condition_below p c.name)
    (rule_holds (l || r || k) c.place 10 h.0) (rule_fails (l && not in_loop) c.place 11 h.1)
    (λ is. reserved_not_declared p c.name reserved (space_reserved c.name is))

handler_fits : (p : ProcOf) → flat_map condition_breaches (p.conds ++ p.local_conds) ≡ [] → (c : Named) → handled_breaches p c ≡ []
    → HandlerFits (length p.conds + length p.local_conds) (cond_of p c)
handler_fits p reserved c e =
    let l = is_leave_name c.name in
    let r = is_routine_name c.name in
    let s = is_space_name c.name in
    let k = is_condition p c.name in
    handled_fits l r s k (length p.conds + length p.local_conds) (position_of c.name (condition_names p)) (condition_below p c.name)
    (rule_holds (r || s || k) c.place 12 e) (λ is. reserved_not_declared p c.name reserved (leave_reserved c.name is)) (leave_not_routine c.name)
    (leave_not_space c.name)

-- Variables.

simple_length : (k : Kind) (m : Option ℤ) → (same_kind k Boolean && is_none m) ≡ true → (same_kind k Boolean && same_length m None) ≡ true
simple_length k None g = g
simple_length k (Some z) g = g

boolean_shape : (t : TypeText) → is_boolean t ≡ true → shape_of t ≡ simple Boolean
boolean_shape t g = type_same t record { place = 0; kind = Boolean; length = None } (simple_length t.kind t.length g)

test_fits : (s : SourceOf) (p : ProcOf) (n : Named) → test_breaches p n ≡ [] → slice_get (shapes_of (procedure_of s p)) (variable_of p n)
    ≡ Some (simple Boolean)
test_fits s p n e =
    let k = append_none (undeclared p n) (when (not (is_of_type is_boolean (type_of p n.name))) n.place 15) e in
    let t = some_of (type_of p n.name) (rule_fails (is_none (type_of p n.name)) n.place 14 k.0) in
    let good : is_boolean t.0 ≡ true = ap (is_of_type is_boolean) (sym t.1) ∙ rule_holds (is_of_type is_boolean (type_of p n.name)) n.place 15 k.1 in
    shape_found s p n.name t.0 t.1 ∙ ap Some (boolean_shape t.0 good)

-- Calls.

actuals_fit : (s : SourceOf) (p : ProcOf) (formals : List Decl) (xs : List Named) → actuals_breaches p (map (λ (d : Decl). d.shape) formals) xs ≡ []
    → length xs ≡ length formals → flat_map (undeclared p) xs ≡ [] → ActualsFit (shapes_of (procedure_of s p))
    (map (λ (d : Decl). shape_of d.shape) formals) (map (variable_of p) xs)
actuals_fit s p [] [] e n h = tt
actuals_fit s p [] (x ∷ xs) e n h = absurd (omega (arith, n))
actuals_fit s p (f ∷ fs) [] e n h = absurd (omega (arith, n))
actuals_fit s p (f ∷ fs) (x ∷ xs) e n h =
    let a = append_none (when (not (is_of_type (same_type f.shape) (type_of p x.name))) x.place 21)
    (actuals_breaches p (map (λ (d : Decl). d.shape) fs) xs) e in
    let b = append_none (undeclared p x) (flat_map (undeclared p) xs) h in
    let t = some_of (type_of p x.name) (rule_fails (is_none (type_of p x.name)) x.place 14 b.0) in
    let good : same_type f.shape t.0 ≡ true =
    ap (is_of_type (same_type f.shape)) (sym t.1) ∙ rule_holds (is_of_type (same_type f.shape) (type_of p x.name)) x.place 21 a.0 in
    (shape_found s p x.name t.0 t.1 ∙ ap Some (sym (type_same f.shape t.0 good)), actuals_fit s p fs xs a.1 (omega (arith, n)) b.1)

procedure_there : (procs : List ProcOf) (o : Option ℕ) (c : ProcOf) (s : SourceOf) → procedure_at procs o ≡ Some c
    → get_or (map (procedure_of s) procs) (unwrap_or o 0) no_proc ≡ procedure_of s c
procedure_there procs None c s e = cc
procedure_there procs (Some i) c s e = get_or_map (procedure_of s) procs i c no_proc e

named_below : (s : SourceOf) (name : List ℕ) → is_none (procedure_named s name) ≡ false → position_of name (procedure_names s) < length (program_of s).procs
named_below s name e =
    let found : Found (procedure_names s) name = procedure_found s.procs (place_among name (procedure_names s)) e in
    omega (arith, found_below name (procedure_names s) found, length-map s.procs (λ (p : ProcOf). p.name.name), length-map s.procs (procedure_of s))

-- what a callee that is there says of the actuals
callee_fits : (s : SourceOf) (p c : ProcOf) (xs_place : ℕ) (xs : List Named) (cs_place : ℕ) (cs : List Named)
    → callee_breaches p (Some c) xs_place xs cs_place cs ≡ [] → flat_map (undeclared p) xs ≡ []
    → ActualsFit (shapes_of (procedure_of s p)) (procedure_of s c).formals (map (variable_of p) xs) × (length cs ≡ length c.conds)
callee_fits s p c xs_place xs cs_place cs e h =
    let a = append_none (data_breaches p c xs_place xs) (when (not (length cs == length c.conds)) cs_place 19) e in
    let b = chosen (length xs == length c.formals) (actuals_breaches p (map (λ (d : Decl). d.shape) c.formals) xs)
    (record { place = xs_place; rule = 18 }) a.0 in (
      actuals_fit s p c.formals xs b.1 (eqb-true (length xs) (length c.formals) b.0) h,
      eqb-true (length cs) (length c.conds) (rule_holds (length cs == length c.conds) cs_place 19 a.1),
    )

call_fits : (s : SourceOf) (p : ProcOf) (in_loop : Bool) (callee : Named) (xs_place : ℕ) (xs : List Named) (cs_place : ℕ) (cs : List Named)
    → is_none (procedure_named s s.main.name) ≡ false → flat_map condition_breaches (p.conds ++ p.local_conds) ≡ []
    → call_breaches s p in_loop callee xs_place xs cs_place cs ≡ [] → CallFits (program_of s) (shapes_of (procedure_of s p))
    (length p.conds + length p.local_conds) in_loop (position_of callee.name (procedure_names s)) (map (variable_of p) xs) (map (cond_of p) cs)
call_fits s p in_loop callee xs_place xs cs_place cs main reserved e =
    let v10 = flat_map (raised_breaches p in_loop) cs in
    let v18 = callee_breaches p (procedure_named s callee.name) xs_place xs cs_place cs in
    let parts = four (callee_name_breaches s callee) (actual_name_breaches p xs) v10 v18 e in
    let a = append_none (when (is_none (procedure_named s callee.name)) callee.place 16) (when (bytes_eq callee.name s.main.name) callee.place 17) parts.0 in
    let b = append_none (flat_map (undeclared p) xs) (repeats 20 [] xs) parts.1 in
    let there : is_none (procedure_named s callee.name) ≡ false = rule_fails (is_none (procedure_named s callee.name)) callee.place 16 a.0 in
    let c = some_of (procedure_named s callee.name) there in
    let found : Found (procedure_names s) callee.name = procedure_found s.procs (place_among callee.name (procedure_names s)) there in
    let main_found : Found (procedure_names s) s.main.name = procedure_found s.procs (place_among s.main.name (procedure_names s)) main in
    let other : bytes_eq callee.name s.main.name ≡ false = rule_fails (bytes_eq callee.name s.main.name) callee.place 17 a.1 in
    let at : proc_at (program_of s) (position_of callee.name (procedure_names s)) ≡ procedure_of s c.0 =
    procedure_there s.procs (place_among callee.name (procedure_names s)) c.0 s c.1 in
    let good = callee_fits s p c.0 xs_place xs cs_place cs (subst (λ o. callee_breaches p o xs_place xs cs_place cs ≡ []) c.1 parts.3) b.0 in
    let shapes = shapes_of (procedure_of s p) in
    record {
      callee = named_below s callee.name there;
      not_main =
          λ same. true≢false (sym (eq_self callee.name s.main.name (one_name callee.name s.main.name (procedure_names s) found main_found same)) ∙ other);
      actuals = subst (λ (r : Proc). ActualsFit shapes r.formals (map (variable_of p) xs)) (sym at) good.0;
      distinct = distinct (variable_names p) 20 [] xs b.1
          (each_of (undeclared p) (λ (n : Named). Found (variable_names p) n.name) xs
          (λ n u. variable_found p n.name (rule_fails (is_none (type_of p n.name)) n.place 14 u)) b.0);
      number = length-map cs (cond_of p) ∙ good.1 ∙ ap (λ (r : Proc). r.conds) (sym at);
      conds = each_map (cond_of p) (CondFits in_loop (length p.conds + length p.local_conds)) (λ n. raised_breaches p in_loop n ≡ []) cs
          (cond_fits p reserved in_loop) (each_of (raised_breaches p in_loop) (λ n. raised_breaches p in_loop n ≡ []) cs (λ n u. u) parts.2);
    }

-- Statements.

module _ (s : SourceOf) (p : ProcOf) (main : is_none (procedure_named s s.main.name) ≡ false) (types : flat_map type_breaches (variable_types p) ≡ [])
    (reserved : flat_map condition_breaches (p.conds ++ p.local_conds) ≡ []) where
  mutual
    statement_fits : (in_loop : Bool) (b : StmtOf) → statement_breaches s p in_loop b ≡ []
        → StmtFits (program_of s) (shapes_of (procedure_of s p)) (length p.conds + length p.local_conds) in_loop (statement_of s p b)
    statement_fits in_loop (no_op place) e = tt
    statement_fits in_loop (signal place c) e = cond_fits p reserved in_loop c e
    statement_fits in_loop (seq place parts) e = parts_fit in_loop parts e
    statement_fits in_loop (loop place body) e = statement_fits true body e
    statement_fits in_loop (branch place test b c) e =
        let h = three (test_breaches p test) (statement_breaches s p in_loop b) (statement_breaches s p in_loop c) e in
        (test_fits s p test h.0, statement_fits in_loop b h.1, statement_fits in_loop c h.2)
    statement_fits in_loop (begin place body conds arm) e =
        let h = three (statement_breaches s p in_loop body) (handlers_breaches p conds) (statement_breaches s p in_loop arm) e in
        let k = append_none (flat_map (handled_breaches p) conds) (repeats 13 [] conds) h.1 in (
          each_map (cond_of p) (HandlerFits (length p.conds + length p.local_conds)) (λ n. handled_breaches p n ≡ []) conds (handler_fits p reserved)
              (each_of (handled_breaches p) (λ n. handled_breaches p n ≡ []) conds (λ n u. u) k.0),
          statement_fits in_loop body h.0,
          statement_fits in_loop arm h.2,
        )
    statement_fits in_loop (call place callee xs_place xs cs_place cs) e = call_fits s p in_loop callee xs_place xs cs_place cs main reserved e
    statement_fits in_loop (predef place which args) e =
        predef_fits s p place (slots_of which) args types e

    parts_fit : (in_loop : Bool) (parts : StmtsOf) → parts_breaches s p in_loop parts ≡ []
        → StmtFits (program_of s) (shapes_of (procedure_of s p)) (length p.conds + length p.local_conds) in_loop (statement_of_all s p parts)
    parts_fit in_loop no_parts e = tt
    parts_fit in_loop (part b rest) e =
        let h = append_none (statement_breaches s p in_loop b) (parts_breaches s p in_loop rest) e in
        (statement_fits in_loop b h.0, parts_fit in_loop rest h.1)

-- Procedures.

formal_lengths : (formals : List Decl) (types : List TypeText) → flat_map type_breaches (map (λ (d : Decl). d.shape) formals ++ types) ≡ []
    → Each (λ (s : Shape). s.length ≤ 4096) (map (λ (d : Decl). shape_of d.shape) formals)
formal_lengths [] types e = tt
formal_lengths (d ∷ ds) types e =
    let h = append_none (type_breaches d.shape) (flat_map type_breaches (map (λ (d : Decl). d.shape) ds ++ types)) e in
    (few_lengths d.shape.length (rule_holds (has_length d.shape.length) d.shape.place 7 h.0), formal_lengths ds types h.1)

local_values : (formals : List Decl) (locals : List LocalOf) → flat_map type_breaches
    (map (λ (d : Decl). d.shape) formals ++ map (λ (l : LocalOf). l.decl.shape) locals) ≡ [] → flat_map local_breaches locals ≡ []
    → Each ValueFits (map local_value locals)
local_values (d ∷ ds) locals e h = local_values ds locals
    (append_none (type_breaches d.shape) (flat_map type_breaches (map (λ (d : Decl). d.shape) ds ++ map (λ (l : LocalOf). l.decl.shape) locals)) e).1 h
local_values [] [] e h = tt
local_values [] (l ∷ ls) e h =
    let a = append_none (type_breaches l.decl.shape) (flat_map type_breaches (map (λ (l : LocalOf). l.decl.shape) ls)) e in
    let b = append_none (local_breaches l) (flat_map local_breaches ls) h in
    (local_fits l (rule_holds (has_length l.decl.shape.length) l.decl.shape.place 7 a.0) b.0, local_values [] ls a.1 b.1)

procedure_fits : (s : SourceOf) (p : ProcOf) → is_none (procedure_named s s.main.name) ≡ false → procedure_breaches s p ≡ []
    → ProcFits (program_of s) (procedure_of s p)
procedure_fits s p main e =
    let parts = four (variable_breaches p) (condition_name_breaches p) (size_breaches p) (statement_breaches s p false p.body) e in
    let variables = three (repeats 4 [] (variables_of p)) (flat_map type_breaches (variable_types p)) (flat_map local_breaches p.locals) parts.0 in
    let conditions = append_none (repeats 5 [] (conditions_of p)) (flat_map condition_breaches (conditions_of p)) parts.1 in
    let few : words_of_types (variable_types p) ≤ 65536 =
    ltb-false 65536 (words_of_types (variable_types p)) (rule_fails (nat_lt 65536 (words_of_types (variable_types p))) p.place 24 parts.2) in
    let words : words_of (shapes_of (procedure_of s p)) ≡ words_of_types (variable_types p) =
    ap words_of (shapes_are s p) ∙ words_are (variable_types p) variables.1 in
    record {
      formals = formal_lengths p.formals (map (λ (l : LocalOf). l.decl.shape) p.locals) variables.1;
      locals = local_values p.formals p.locals variables.1 variables.2;
      words = omega (arith, few, words);
      body = statement_fits s p main variables.1 conditions.1 false p.body parts.3;
    }

no_proc_fits : (q : Program) → ProcFits q no_proc
no_proc_fits q = record { formals = tt; locals = tt; words = omega arith; body = tt }

pub source_fits : (s : SourceOf) → violations s ≡ [] → ProgramFits (program_of s)
unfolding violations
source_fits s e =
    let a = four (repeats 1 [] (map (λ (p : ProcOf). p.name) s.procs)) (main_breaches s) (flat_map name_breaches s.procs)
    (flat_map (procedure_breaches s) s.procs) e in
    let main : is_none (procedure_named s s.main.name) ≡ false = rule_fails (is_none (procedure_named s s.main.name)) s.main.place 3 a.1 in
    record {
      main = named_below s s.main.name main;
      procs = λ i. each_place (procedure_breaches s) (procedure_of s) (ProcFits (program_of s)) no_proc s.procs i (λ p h. procedure_fits s p main h)
          (no_proc_fits (program_of s)) a.3;
    }
