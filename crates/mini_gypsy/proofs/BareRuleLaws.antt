-- Which static rules a source breaks doesn't depend on the places in it.
use Rattle.std.proofs.Common.{◌≡◌, ℕ, ◌+◌, ℤ, pos, List, [], ◌∷◌, ◌++◌, map, length, Bool, true, false, Some, None, Option, refl, sym, ap, ap₂, subst, ◌∙◌}
use Rattle.std.{specs.Prelude.{not, ◌&&◌, ◌||◌, ◌==◌, nat_lt, option_map, is_none, if◌then◌else◌}, specs.List.{list_any, flat_map}, specs.Str.bytes_eq}
use Rattle.std.{proofs.lemmas.List.{length-map, map-append}, proofs.lemmas.Option.slice_get-map}
use Rattle.stack_text.{specs.Names.{is_among, place_among}, specs.declared.breach.Breach.Breach, specs.declared.name.Named.Named}
use Rattle.stack_text.{specs.declared.shape.Kind.Kind, specs.declared.shape.Kind.TheVariants.{Integer, Character}, specs.Breaches.when}
use Rattle.stack_text.specs.Grammar.Printed.{unplaced_name}
use Rattle.gypsy_syntax.{specs.declared.literal.Decl.Decl, specs.declared.literal.TypeText.TypeText, specs.declared.slot.Form.Form}
use Rattle.gypsy_syntax.{specs.declared.slot.Form.TheVariants.{Simple, Array, Literal}, specs.declared.slot.Slot.Slot, specs.Effects.same_int}
use Rattle.gypsy_syntax.specs.Places.{unplaced_type, unplaced_literal, unplaced_literals, unplaced_arg, unplaced_decl, unplaced_local, unplaced_stmt}
use Rattle.gypsy_syntax.{specs.Places.{unplaced_stmts, unplaced_proc, without_places}, specs.Predefined.slots_of, specs.Ranges.is_in_range}
use Rattle.gypsy_syntax.specs.Resolved.{variable_names, variable_types, procedure_names, is_leave_name, is_routine_name, is_space_name, procedure_at}
use Rattle.gypsy_syntax.{specs.Resolved.procedure_named, specs.Sources.{LiteralOf, LiteralsOf, integer, truth, character, array, no_items, item, literal_place}}
use Rattle.gypsy_syntax.specs.Sources.{ArgOf, variable, constant, arg_place, StmtOf, StmtsOf, no_op, signal, seq, loop, branch, begin, call, predef, no_parts}
use Rattle.gypsy_syntax.specs.Sources.{part, LocalOf, ProcOf, SourceOf}
use Rattle.gypsy_check.{specs.Arguments.{kind_of_type, kind_of_literal, kind_of, is_wanted, settled_by, is_undeclared}, specs.Declarations.is_predefined}
use Rattle.gypsy_check.{specs.Declarations.{type_at, type_of, is_condition, variables_of, conditions_of, repeats}, specs.Rules.literal_breaches}
use Rattle.gypsy_check.specs.Rules.{items_breaches, raised_breaches, handled_breaches, handlers_breaches, undeclared, is_of_type, test_breaches}
use Rattle.gypsy_check.specs.Rules.{actuals_breaches, data_breaches, callee_breaches, actual_name_breaches, call_breaches, slots_breaches, argument_breaches}
use Rattle.gypsy_check.specs.Rules.{predef_breaches, statement_breaches, parts_breaches, is_reserved, condition_breaches, type_breaches, local_breaches}
use Rattle.gypsy_check.specs.Rules.{variable_breaches, condition_name_breaches, size_breaches, procedure_breaches, name_breaches, violations}
use Rattle.gypsy_check.specs.Types.{same_type, is_boolean, has_length, is_of_kind, are_of_kind, item_number, suits, words_of_length, words_of_types}
use Rattle.mini_gypsy.proofs.PlaceLaws.{map_over, kind_same, variables_same, conditions_same, procedures_same}

-- ---- breaches of the same rules

abbrev rules_of : List Breach → List ℕ
rules_of bs = map (λ (b : Breach). b.rule) bs

record AreSame (bs cs : List Breach) : Type 0 where
  are : rules_of bs ≡ rules_of cs

none_same : AreSame [] []
none_same = record { are = refl }

when_same : (rule p q : ℕ) (a b : Bool) → b ≡ a → AreSame (when a p rule) (when b q rule)
when_same rule p q true true e = record { are = refl }
when_same rule p q false false e = record { are = refl }
when_same rule p q true false e = absurd cc
when_same rule p q false true e = absurd cc

-- the same, at another place
moved : (rule p q : ℕ) (a : Bool) → AreSame (when a p rule) (when a q rule)
moved rule p q a = when_same rule p q a a refl

join_same : (a b c d : List Breach) → AreSame a b → AreSame c d → AreSame (a ++ c) (b ++ d)
join_same a b c d h k = record {
  are = map-append (λ (x : Breach). x.rule) a c ∙ ap₂ (λ (x y : List ℕ). x ++ y) h.are k.are ∙ sym (map-append (λ (x : Breach). x.rule) b d);
}

if_same : (x y : Bool) (a b c d : List Breach) → y ≡ x → AreSame a b → AreSame c d → AreSame (if x then a else c) (if y then b else d)
if_same true true a b c d e h k = h
if_same false false a b c d e h k = k
if_same true false a b c d e h k = absurd cc
if_same false true a b c d e h k = absurd cc

all_same : {X : Type 0} (f g : X → List Breach) (u : X → X) → ((x : X) → AreSame (f x) (g (u x))) → (xs : List X)
    → AreSame (flat_map f xs) (flat_map g (map u xs))
all_same f g u each [] = none_same
all_same f g u each (x ∷ xs) = join_same (f x) (g (u x)) (flat_map f xs) (flat_map g (map u xs)) (each x) (all_same f g u each xs)

any_same : {X : Type 0} (f g : X → Bool) (u : X → X) → ((x : X) → g (u x) ≡ f x) → (xs : List X) → list_any g (map u xs) ≡ list_any f xs
any_same f g u each [] = refl
any_same f g u each (x ∷ xs) = ap₂ (λ (a b : Bool). a || b) (each x) (any_same f g u each xs)

count_same : {X Y : Type 0} (u : X → X) (xs : List X) (ys : List Y) → (length (map u xs) == length ys) ≡ (length xs == length ys)
count_same {X} {Y} u xs ys = ap (λ (n : ℕ). n == length ys) (length-map xs u)

repeats_same : (rule : ℕ) (earlier : List (List ℕ)) (ns : List Named) → AreSame (repeats rule earlier ns) (repeats rule earlier (map unplaced_name ns))
repeats_same rule earlier [] = none_same
repeats_same rule earlier (n ∷ ns) =
    join_same (when (is_among n.name earlier) n.place rule) (when (is_among n.name earlier) 0 rule) (repeats rule (n.name ∷ earlier) ns)
    (repeats rule (n.name ∷ earlier) (map unplaced_name ns))
    (moved rule n.place 0 (is_among n.name earlier)) (repeats_same rule (n.name ∷ earlier) ns)

-- ---- literals

mutual
  literal_breaks_same : (l : LiteralOf) → AreSame (literal_breaches l) (literal_breaches (unplaced_literal l))
  literal_breaks_same (integer place number) = moved 9 place 0 (not (is_in_range Integer number))
  literal_breaks_same (truth place b) = none_same
  literal_breaks_same (character place code) = moved 9 place 0 (not (is_in_range Character code))
  literal_breaks_same (array place items) = items_break_same items

  items_break_same : (ls : LiteralsOf) → AreSame (items_breaches ls) (items_breaches (unplaced_literals ls))
  items_break_same no_items = none_same
  items_break_same (item l ls) =
      join_same (literal_breaches l) (literal_breaches (unplaced_literal l)) (items_breaches ls) (items_breaches (unplaced_literals ls))
      (literal_breaks_same l) (items_break_same ls)

number_same : (ls : LiteralsOf) → item_number (unplaced_literals ls) ≡ item_number ls
number_same no_items = refl
number_same (item l ls) = ap (λ (n : ℕ). 1 + n) (number_same ls)

kinds_same : (kind : Kind) (ls : LiteralsOf) → are_of_kind kind (unplaced_literals ls) ≡ are_of_kind kind ls
kinds_same kind no_items = refl
kinds_same kind (item l ls) = ap₂ (λ (a b : Bool). a && b) (ap (is_of_kind kind) (kind_same l)) (kinds_same kind ls)

suits_same : (kind : Kind) (n : Option ℤ) (l : LiteralOf) → suits kind n (unplaced_literal l) ≡ suits kind n l
suits_same kind None l = ap (is_of_kind kind) (kind_same l)
suits_same kind (Some n) (integer place number) = refl
suits_same kind (Some n) (truth place b) = refl
suits_same kind (Some n) (character place code) = refl
suits_same kind (Some n) (array place ls) =
    let count = number_same ls in
    let kinds = kinds_same kind ls in
    λ i. same_int n (pos (count i)) && kinds i

-- ---- types of names

none_over : {X : Type 0} (f : X → X) (o : Option X) → is_none (option_map f o) ≡ is_none o
none_over f None = refl
none_over f (Some x) = refl

at_same : (types : List TypeText) (o : Option ℕ) → type_at (map unplaced_type types) o ≡ option_map unplaced_type (type_at types o)
at_same types None = refl
at_same types (Some i) = slice_get-map unplaced_type types i

decl_types : (ds : List Decl) → map (λ (d : Decl). d.shape) (map unplaced_decl ds) ≡ map unplaced_type (map (λ (d : Decl). d.shape) ds)
decl_types ds =
    map_over (λ (d : Decl). d.shape) unplaced_decl (λ (d : Decl). unplaced_type d.shape) (λ d. refl) ds
    ∙ sym (map_over unplaced_type (λ (d : Decl). d.shape) (λ (d : Decl). unplaced_type d.shape) (λ d. refl) ds)

local_types : (ls : List LocalOf) → map (λ (l : LocalOf). l.decl.shape) (map unplaced_local ls) ≡ map unplaced_type (map (λ (l : LocalOf). l.decl.shape) ls)
local_types ls =
    map_over (λ (l : LocalOf). l.decl.shape) unplaced_local (λ (l : LocalOf). unplaced_type l.decl.shape) (λ l. refl) ls
    ∙ sym (map_over unplaced_type (λ (l : LocalOf). l.decl.shape) (λ (l : LocalOf). unplaced_type l.decl.shape) (λ l. refl) ls)

types_same : (p : ProcOf) → variable_types (unplaced_proc p) ≡ map unplaced_type (variable_types p)
types_same p =
    ap₂ (λ (a b : List TypeText). a ++ b) (decl_types p.formals) (local_types p.locals)
    ∙ sym (map-append unplaced_type (map (λ (d : Decl). d.shape) p.formals) (map (λ (l : LocalOf). l.decl.shape) p.locals))

type_same : (p : ProcOf) (name : List ℕ) → type_of (unplaced_proc p) name ≡ option_map unplaced_type (type_of p name)
type_same p name =
    let types = types_same p in
    let names = variables_same p in
    (λ i. type_at (types i) (place_among name (names i))) ∙ at_same (variable_types p) (place_among name (variable_names p))

declared_same : (p : ProcOf) (name : List ℕ) → is_none (type_of (unplaced_proc p) name) ≡ is_none (type_of p name)
declared_same p name = ap is_none (type_same p name) ∙ none_over unplaced_type (type_of p name)

passes_same : (test : TypeText → Bool) → ((t : TypeText) → test (unplaced_type t) ≡ test t) → (o : Option TypeText)
    → is_of_type test (option_map unplaced_type o) ≡ is_of_type test o
passes_same test same None = refl
passes_same test same (Some t) = same t

is_condition_same : (p : ProcOf) (name : List ℕ) → is_condition (unplaced_proc p) name ≡ is_condition p name
is_condition_same p name = ap (λ (names : List (List ℕ)). not (is_none (place_among name names))) (conditions_same p)

-- ---- procedures of names

procedure_at_same : (ps : List ProcOf) (o : Option ℕ) → procedure_at (map unplaced_proc ps) o ≡ option_map unplaced_proc (procedure_at ps o)
procedure_at_same ps None = refl
procedure_at_same ps (Some i) = slice_get-map unplaced_proc ps i

pub procedure_same : (s : SourceOf) (name : List ℕ) → procedure_named (without_places s) name ≡ option_map unplaced_proc (procedure_named s name)
procedure_same s name =
    ap (λ (names : List (List ℕ)). procedure_at (map unplaced_proc s.procs) (place_among name names)) (procedures_same s)
    ∙ procedure_at_same s.procs (place_among name (procedure_names s))

-- ---- statements

module _ (p : ProcOf) where
  undeclared_same : (n : Named) → AreSame (undeclared p n) (undeclared (unplaced_proc p) (unplaced_name n))
  undeclared_same n = when_same 14 n.place 0 (is_none (type_of p n.name)) (is_none (type_of (unplaced_proc p) n.name)) (declared_same p n.name)

  raised_same : (in_loop : Bool) (c : Named) → AreSame (raised_breaches p in_loop c) (raised_breaches (unplaced_proc p) in_loop (unplaced_name c))
  raised_same in_loop c =
      join_same _ _ _ _
      (when_same 10 c.place 0 _ _ (ap (λ (b : Bool). not (is_leave_name c.name || is_routine_name c.name || b)) (is_condition_same p c.name)))
      (moved 11 c.place 0 (is_leave_name c.name && not in_loop))

  handled_same : (c : Named) → AreSame (handled_breaches p c) (handled_breaches (unplaced_proc p) (unplaced_name c))
  handled_same c = when_same 12 c.place 0 _ _ (ap (λ (b : Bool). not (is_routine_name c.name || is_space_name c.name || b)) (is_condition_same p c.name))

  handlers_same : (cs : List Named) → AreSame (handlers_breaches p cs) (handlers_breaches (unplaced_proc p) (map unplaced_name cs))
  handlers_same cs =
      join_same _ _ _ _ (all_same (handled_breaches p) (handled_breaches (unplaced_proc p)) unplaced_name handled_same cs) (repeats_same 13 [] cs)

  of_type_same : (test : TypeText → Bool) → ((t : TypeText) → test (unplaced_type t) ≡ test t) → (name : List ℕ)
      → is_of_type test (type_of (unplaced_proc p) name) ≡ is_of_type test (type_of p name)
  of_type_same test same name = ap (is_of_type test) (type_same p name) ∙ passes_same test same (type_of p name)

  test_same : (n : Named) → AreSame (test_breaches p n) (test_breaches (unplaced_proc p) (unplaced_name n))
  test_same n = join_same _ _ _ _ (undeclared_same n) (when_same 15 n.place 0 _ _ (ap not (of_type_same is_boolean (λ t. refl) n.name)))

  actuals_same : (ds : List Decl) (ns : List Named) →
      AreSame (actuals_breaches p (map (λ (d : Decl). d.shape) ds) ns)
      (actuals_breaches (unplaced_proc p) (map (λ (d : Decl). d.shape) (map unplaced_decl ds)) (map unplaced_name ns))
  actuals_same [] ns = none_same
  actuals_same (d ∷ ds) [] = none_same
  actuals_same (d ∷ ds) (n ∷ ns) =
      join_same _ _ _ _ (when_same 21 n.place 0 _ _ (ap not (of_type_same (same_type d.shape) (λ t. refl) n.name))) (actuals_same ds ns)

  data_same : (callee : ProcOf) (place other : ℕ) (xs : List Named) → AreSame (data_breaches p callee place xs)
      (data_breaches (unplaced_proc p) (unplaced_proc callee) other (map unplaced_name xs))
  data_same callee place other xs =
      if_same _ _ _ _ _ _
      (let m = length-map xs unplaced_name in let n = length-map callee.formals unplaced_decl in λ i. m i == n i)
      (actuals_same callee.formals xs) (moved 18 place other true)

  callee_same : (o : Option ProcOf) (xs_place cs_place : ℕ) (xs cs : List Named) →
      AreSame (callee_breaches p o xs_place xs cs_place cs)
      (callee_breaches (unplaced_proc p) (option_map unplaced_proc o) 0 (map unplaced_name xs) 0 (map unplaced_name cs))
  callee_same None xs_place cs_place xs cs = none_same
  callee_same (Some callee) xs_place cs_place xs cs =
      join_same _ _ _ _ (data_same callee xs_place 0 xs)
      (when_same 19 cs_place 0 _ _ (let m = length-map cs unplaced_name in let n = length-map callee.conds unplaced_name in λ i. not (m i == n i)))

  actual_names_same : (xs : List Named) → AreSame (actual_name_breaches p xs) (actual_name_breaches (unplaced_proc p) (map unplaced_name xs))
  actual_names_same xs = join_same _ _ _ _ (all_same (undeclared p) (undeclared (unplaced_proc p)) unplaced_name undeclared_same xs) (repeats_same 20 [] xs)

  -- ---- predefined procedures

  kind_of_type_same : (form : Form) (o : Option TypeText) → kind_of_type form (option_map unplaced_type o) ≡ kind_of_type form o
  kind_of_type_same form None = refl
  kind_of_type_same Simple (Some t) = refl
  kind_of_type_same Array (Some t) = refl
  kind_of_type_same Literal (Some t) = refl

  kind_of_literal_same : (form : Form) (l : LiteralOf) → kind_of_literal form (unplaced_literal l) ≡ kind_of_literal form l
  kind_of_literal_same Simple l = refl
  kind_of_literal_same Array l = refl
  kind_of_literal_same Literal l = kind_same l

  kind_of_same : (form : Form) (a : ArgOf) → kind_of (unplaced_proc p) form (unplaced_arg a) ≡ kind_of p form a
  kind_of_same form (variable n) = ap (kind_of_type form) (type_same p n.name) ∙ kind_of_type_same form (type_of p n.name)
  kind_of_same form (constant l) = kind_of_literal_same form l

  slots_same : (settled : Option Kind) (slots : List Slot) (args : List ArgOf) → AreSame (slots_breaches p settled slots args)
      (slots_breaches (unplaced_proc p) settled slots (map unplaced_arg args))
  slots_same settled [] args = none_same
  slots_same settled (slot ∷ slots) [] = none_same
  slots_same settled (slot ∷ slots) (a ∷ args) =
      let kind : kind_of (unplaced_proc p) slot.form (unplaced_arg a) ≡ kind_of p slot.form a = kind_of_same slot.form a in
      join_same _ _ _ _
      (when_same 23 (arg_place a) (arg_place (unplaced_arg a)) _ _ (ap (λ (k : Option Kind). not (is_wanted settled slot.kind k)) kind))
      (subst (λ (k : Option Kind). AreSame (slots_breaches p (settled_by settled slot.kind (kind_of p slot.form a)) slots args)
      (slots_breaches (unplaced_proc p) (settled_by settled slot.kind k) slots (map unplaced_arg args)))
      (sym kind) (slots_same (settled_by settled slot.kind (kind_of p slot.form a)) slots args))

  argument_breaks_same : (a : ArgOf) → AreSame (argument_breaches p a) (argument_breaches (unplaced_proc p) (unplaced_arg a))
  argument_breaks_same (variable n) = undeclared_same n
  argument_breaks_same (constant l) = literal_breaks_same l

  is_undeclared_same : (a : ArgOf) → is_undeclared (unplaced_proc p) (unplaced_arg a) ≡ is_undeclared p a
  is_undeclared_same (variable n) = declared_same p n.name
  is_undeclared_same (constant l) = refl

  predef_same : (place : ℕ) (slots : List Slot) (args : List ArgOf) → AreSame (predef_breaches p place slots args)
      (predef_breaches (unplaced_proc p) 0 slots (map unplaced_arg args))
  predef_same place slots args =
      join_same _ _ _ _ (all_same (argument_breaches p) (argument_breaches (unplaced_proc p)) unplaced_arg argument_breaks_same args)
      (if_same _ _ _ _ _ _ (count_same unplaced_arg args slots)
      (if_same _ _ _ _ _ _ (any_same (is_undeclared p) (is_undeclared (unplaced_proc p)) unplaced_arg is_undeclared_same args) none_same
      (slots_same None slots args))
      (moved 22 place 0 true))

call_same : (s : SourceOf) (p : ProcOf) (in_loop : Bool) (callee : Named) (xs_place cs_place : ℕ) (xs cs : List Named) →
    AreSame (call_breaches s p in_loop callee xs_place xs cs_place cs)
    (call_breaches (without_places s) (unplaced_proc p) in_loop (unplaced_name callee) 0 (map unplaced_name xs) 0 (map unplaced_name cs))
call_same s p in_loop callee xs_place cs_place xs cs =
    join_same _ _ _ _
    (join_same _ _ _ _
    (join_same _ _ _ _
    (join_same _ _ _ _
    (when_same 16 callee.place 0 _ _ (ap is_none (procedure_same s callee.name) ∙ none_over unplaced_proc (procedure_named s callee.name)))
    (moved 17 callee.place 0 (bytes_eq callee.name s.main.name)))
    (actual_names_same p xs))
    (all_same (raised_breaches p in_loop) (raised_breaches (unplaced_proc p) in_loop) unplaced_name (raised_same p in_loop) cs))
    (subst (λ (o : Option ProcOf). AreSame (callee_breaches p (procedure_named s callee.name) xs_place xs cs_place cs)
    (callee_breaches (unplaced_proc p) o 0 (map unplaced_name xs) 0 (map unplaced_name cs)))
    (sym (procedure_same s callee.name)) (callee_same p (procedure_named s callee.name) xs_place cs_place xs cs))

mutual
  statement_breaks_same : (s : SourceOf) (p : ProcOf) (in_loop : Bool) (b : StmtOf)
      → AreSame (statement_breaches s p in_loop b) (statement_breaches (without_places s) (unplaced_proc p) in_loop (unplaced_stmt b))
  statement_breaks_same s p in_loop (no_op place) = none_same
  statement_breaks_same s p in_loop (signal place c) = raised_same p in_loop c
  statement_breaks_same s p in_loop (seq place parts) = parts_break_same s p in_loop parts
  statement_breaks_same s p in_loop (loop place body) = statement_breaks_same s p true body
  statement_breaks_same s p in_loop (branch place test b c) =
      join_same _ _ _ _ (join_same _ _ _ _ (test_same p test) (statement_breaks_same s p in_loop b)) (statement_breaks_same s p in_loop c)
  statement_breaks_same s p in_loop (begin place body conds arm) =
      join_same _ _ _ _ (join_same _ _ _ _ (statement_breaks_same s p in_loop body) (handlers_same p conds)) (statement_breaks_same s p in_loop arm)
  statement_breaks_same s p in_loop (call place callee xs_place xs cs_place cs) = call_same s p in_loop callee xs_place cs_place xs cs
  statement_breaks_same s p in_loop (predef place which args) = predef_same p place (slots_of which) args

  parts_break_same : (s : SourceOf) (p : ProcOf) (in_loop : Bool) (bs : StmtsOf)
      → AreSame (parts_breaches s p in_loop bs) (parts_breaches (without_places s) (unplaced_proc p) in_loop (unplaced_stmts bs))
  parts_break_same s p in_loop no_parts = none_same
  parts_break_same s p in_loop (part b bs) = join_same _ _ _ _ (statement_breaks_same s p in_loop b) (parts_break_same s p in_loop bs)

-- ---- declarations

module _ (p : ProcOf) where
  variables_of_same : variables_of (unplaced_proc p) ≡ map unplaced_name (variables_of p)
  variables_of_same =
      ap₂ (λ (a b : List Named). a ++ b)
      (map_over (λ (d : Decl). d.name) unplaced_decl (λ (d : Decl). unplaced_name d.name) (λ d. refl) p.formals
      ∙ sym (map_over unplaced_name (λ (d : Decl). d.name) (λ (d : Decl). unplaced_name d.name) (λ d. refl) p.formals))
      (map_over (λ (l : LocalOf). l.decl.name) unplaced_local (λ (l : LocalOf). unplaced_name l.decl.name) (λ l. refl) p.locals
      ∙ sym (map_over unplaced_name (λ (l : LocalOf). l.decl.name) (λ (l : LocalOf). unplaced_name l.decl.name) (λ l. refl) p.locals))
      ∙ sym (map-append unplaced_name (map (λ (d : Decl). d.name) p.formals) (map (λ (l : LocalOf). l.decl.name) p.locals))

  conditions_of_same : conditions_of (unplaced_proc p) ≡ map unplaced_name (conditions_of p)
  conditions_of_same = sym (map-append unplaced_name p.conds p.local_conds)

  type_breaks_same : (t : TypeText) → AreSame (type_breaches t) (type_breaches (unplaced_type t))
  type_breaks_same t = moved 7 t.place 0 (not (has_length t.length))

  local_breaks_same : (l : LocalOf) → AreSame (local_breaches l) (local_breaches (unplaced_local l))
  local_breaks_same l =
      join_same _ _ _ _
      (when_same 8 (literal_place l.value) (literal_place (unplaced_literal l.value)) _ _ (ap not (suits_same l.decl.shape.kind l.decl.shape.length l.value)))
      (literal_breaks_same l.value)

  variable_breaks_same : AreSame (variable_breaches p) (variable_breaches (unplaced_proc p))
  variable_breaks_same =
      join_same _ _ _ _
      (join_same _ _ _ _
      (subst (λ (ns : List Named). AreSame (repeats 4 [] (variables_of p)) (repeats 4 [] ns)) (sym variables_of_same) (repeats_same 4 [] (variables_of p)))
      (subst (λ (ts : List TypeText). AreSame (flat_map type_breaches (variable_types p)) (flat_map type_breaches ts)) (sym (types_same p))
      (all_same type_breaches type_breaches unplaced_type type_breaks_same (variable_types p))))
      (all_same local_breaches local_breaches unplaced_local local_breaks_same p.locals)

  condition_breaks_same : (n : Named) → AreSame (condition_breaches n) (condition_breaches (unplaced_name n))
  condition_breaks_same n = moved 6 n.place 0 (is_reserved n.name)

  condition_names_same : AreSame (condition_name_breaches p) (condition_name_breaches (unplaced_proc p))
  condition_names_same =
      subst (λ (ns : List Named). AreSame (condition_name_breaches p) (repeats 5 [] ns ++ flat_map condition_breaches ns)) (sym conditions_of_same)
      (join_same _ _ _ _ (repeats_same 5 [] (conditions_of p))
      (all_same condition_breaches condition_breaches unplaced_name condition_breaks_same (conditions_of p)))

  words_same : (ts : List TypeText) → words_of_types (map unplaced_type ts) ≡ words_of_types ts
  words_same [] = refl
  words_same (t ∷ ts) = ap (λ (n : ℕ). words_of_length t.length + n) (words_same ts)

  size_same : AreSame (size_breaches p) (size_breaches (unplaced_proc p))
  size_same = when_same 24 p.place 0 _ _ (ap (λ (n : ℕ). nat_lt 65536 n) (ap words_of_types (types_same p) ∙ words_same (variable_types p)))

-- ---- the whole

module _ (s : SourceOf) where
  procedure_breaks_same : (p : ProcOf) → AreSame (procedure_breaches s p) (procedure_breaches (without_places s) (unplaced_proc p))
  procedure_breaks_same p =
      join_same _ _ _ _ (join_same _ _ _ _ (join_same _ _ _ _ (variable_breaks_same p) (condition_names_same p)) (size_same p))
      (statement_breaks_same s p false p.body)

  name_breaks_same : (p : ProcOf) → AreSame (name_breaches p) (name_breaches (unplaced_proc p))
  name_breaks_same p = moved 2 p.name.place 0 (is_predefined p.name.name)

  procedure_names_same : map (λ (p : ProcOf). p.name) (map unplaced_proc s.procs) ≡ map unplaced_name (map (λ (p : ProcOf). p.name) s.procs)
  procedure_names_same =
      map_over (λ (p : ProcOf). p.name) unplaced_proc (λ (p : ProcOf). unplaced_name p.name) (λ p. refl) s.procs
      ∙ sym (map_over unplaced_name (λ (p : ProcOf). p.name) (λ (p : ProcOf). unplaced_name p.name) (λ p. refl) s.procs)

  violations_same : AreSame (violations s) (violations (without_places s))
  unfolding violations
  violations_same =
      join_same _ _ _ _
      (join_same _ _ _ _
      (join_same _ _ _ _
      (subst (λ (ns : List Named). AreSame (repeats 1 [] (map (λ (p : ProcOf). p.name) s.procs)) (repeats 1 [] ns)) (sym procedure_names_same)
      (repeats_same 1 [] (map (λ (p : ProcOf). p.name) s.procs)))
      (when_same 3 s.main.place 0 _ _ (ap is_none (procedure_same s s.main.name) ∙ none_over unplaced_proc (procedure_named s s.main.name))))
      (all_same name_breaches name_breaches unplaced_proc name_breaks_same s.procs))
      (all_same (procedure_breaches s) (procedure_breaches (without_places s)) unplaced_proc procedure_breaks_same s.procs)

none_left : (bs : List Breach) → rules_of bs ≡ [] → bs ≡ []
none_left [] e = refl
none_left (b ∷ bs) e = absurd cc

-- of two sources that are the same but for places, both break a rule or none does
pub none_broken : (r s : SourceOf) → without_places r ≡ without_places s → violations s ≡ [] → violations r ≡ []
none_broken r s e none =
    let first = violations_same r in
    let second = violations_same s in
    none_left (violations r) (first.are ∙ ap (λ (t : SourceOf). rules_of (violations t)) e ∙ sym second.are ∙ ap rules_of none)
