-- What a source is, by positions in place of names, is the same but for places as of the source without places.
use Rattle.std.{proofs.Common.{◌≡◌, ℕ, ℤ, List, [], ◌∷◌, ◌++◌, map, refl, sym, ap, ap₂, ◌∙◌}, specs.Prelude.if◌then◌else◌, specs.Option.unwrap_or}
use Rattle.std.proofs.lemmas.List.{length-map}
use Rattle.stack_text.{specs.declared.name.Named.Named, specs.declared.shape.Kind.TheVariants.Integer, specs.Grammar.Printed.unplaced_name}
use Rattle.gypsy_syntax.{specs.declared.literal.Decl.Decl, specs.Places.{unplaced_literal, unplaced_literals, unplaced_arg, unplaced_decl, unplaced_local}}
use Rattle.gypsy_syntax.{specs.Places.{unplaced_stmt, unplaced_stmts, unplaced_proc, without_places}, specs.Programs.{Leave, Routine, Space, Declared, Var}}
use Rattle.gypsy_syntax.{specs.Programs.{Lit, simple, Signal, Seq, Loop, If, Begin, Call, Apply}, specs.Resolved.{position_of, variable_names, condition_names}}
use Rattle.gypsy_syntax.specs.Resolved.{procedure_names, shape_of, item_of, items_of_all, value_items, literal_kind, literal_value, local_value, is_leave_name}
use Rattle.gypsy_syntax.specs.Resolved.{is_routine_name, is_space_name, cond_of, variable_of, argument_of, statement_of, statement_of_all, procedure_of}
use Rattle.gypsy_syntax.{specs.Resolved.program_of, specs.Sources.{LiteralOf, LiteralsOf, integer, truth, character, array, no_items, item, ArgOf, variable}}
use Rattle.gypsy_syntax.specs.Sources.{constant, StmtOf, StmtsOf, no_op, signal, seq, loop, branch, begin, call, predef, no_parts, part, LocalOf, ProcOf}
use Rattle.gypsy_syntax.specs.Sources.{SourceOf}
use Rattle.mini_gypsy.proofs.BareLaws.{bare_statement, bare_procedure, bare_program}

-- what a list's items give, where each is changed first to one that gives what it gave
pub map_over : {X Y Z : Type 0} (f : Y → Z) (g : X → Y) (h : X → Z) → ((x : X) → f (g x) ≡ h x) → (xs : List X) → map f (map g xs) ≡ map h xs
map_over f g h e [] = refl
map_over {X} {Y} {Z} f g h e (x ∷ xs) = ap₂ (λ (z : Z) (zs : List Z). z ∷ zs) (e x) (map_over f g h e xs)

-- ---- literals

pub item_same : (l : LiteralOf) → item_of (unplaced_literal l) ≡ item_of l
item_same (integer place number) = refl
item_same (truth place b) = refl
item_same (character place code) = refl
item_same (array place items) = refl

items_same : (ls : LiteralsOf) → items_of_all (unplaced_literals ls) ≡ items_of_all ls
items_same no_items = refl
items_same (item l ls) = ap₂ (λ (z : ℤ) (zs : List ℤ). z ∷ zs) (item_same l) (items_same ls)

pub kind_same : (l : LiteralOf) → literal_kind (unplaced_literal l) ≡ literal_kind l
kind_same (integer place number) = refl
kind_same (truth place b) = refl
kind_same (character place code) = refl
kind_same (array place items) = refl

value_items_same : (l : LiteralOf) → value_items (unplaced_literal l) ≡ value_items l
value_items_same (integer place number) = refl
value_items_same (truth place b) = refl
value_items_same (character place code) = refl
value_items_same (array place items) = items_same items

literal_same : (l : LiteralOf) → literal_value (unplaced_literal l) ≡ literal_value l
literal_same l =
    let kind = kind_same l in
    let items = value_items_same l in
    λ i. record { shape = simple (unwrap_or (kind i) Integer); items = items i }

local_same : (l : LocalOf) → local_value (unplaced_local l) ≡ local_value l
local_same l =
    let items = value_items_same l.value in
    λ i. record { shape = shape_of l.decl.shape; items = items i }

-- ---- names

decl_names : (ds : List Decl) → map (λ (d : Decl). d.name.name) (map unplaced_decl ds) ≡ map (λ (d : Decl). d.name.name) ds
decl_names = map_over (λ (d : Decl). d.name.name) unplaced_decl (λ (d : Decl). d.name.name) (λ d. refl)

local_names : (ls : List LocalOf) → map (λ (l : LocalOf). l.decl.name.name) (map unplaced_local ls) ≡ map (λ (l : LocalOf). l.decl.name.name) ls
local_names = map_over (λ (l : LocalOf). l.decl.name.name) unplaced_local (λ (l : LocalOf). l.decl.name.name) (λ l. refl)

cond_names : (ns : List Named) → map (λ (n : Named). n.name) (map unplaced_name ns) ≡ map (λ (n : Named). n.name) ns
cond_names = map_over (λ (n : Named). n.name) unplaced_name (λ (n : Named). n.name) (λ n. refl)

pub variables_same : (p : ProcOf) → variable_names (unplaced_proc p) ≡ variable_names p
variables_same p = ap₂ (λ (a b : List (List ℕ)). a ++ b) (decl_names p.formals) (local_names p.locals)

pub conditions_same : (p : ProcOf) → condition_names (unplaced_proc p) ≡ condition_names p
conditions_same p = ap₂ (λ (a b : List (List ℕ)). a ++ b) (cond_names p.conds) (cond_names p.local_conds)

pub procedures_same : (s : SourceOf) → procedure_names (without_places s) ≡ procedure_names s
procedures_same s = map_over (λ (p : ProcOf). p.name.name) unplaced_proc (λ (p : ProcOf). p.name.name) (λ p. refl) s.procs

-- ---- statements

module _ (p : ProcOf) where
  cond_same : (n : Named) → cond_of (unplaced_proc p) (unplaced_name n) ≡ cond_of p n
  cond_same n =
      ap (λ (names : List (List ℕ)).
      if is_leave_name n.name then Leave else if is_routine_name n.name then Routine else if is_space_name n.name then Space
      else Declared (position_of n.name names))
      (conditions_same p)

  conds_same : (ns : List Named) → map (cond_of (unplaced_proc p)) (map unplaced_name ns) ≡ map (cond_of p) ns
  conds_same = map_over (cond_of (unplaced_proc p)) unplaced_name (cond_of p) cond_same

  variable_same : (n : Named) → variable_of (unplaced_proc p) (unplaced_name n) ≡ variable_of p n
  variable_same n = ap (position_of n.name) (variables_same p)

  positions_same : (ns : List Named) → map (variable_of (unplaced_proc p)) (map unplaced_name ns) ≡ map (variable_of p) ns
  positions_same = map_over (variable_of (unplaced_proc p)) unplaced_name (variable_of p) variable_same

  argument_same : (a : ArgOf) → argument_of (unplaced_proc p) (unplaced_arg a) ≡ argument_of p a
  argument_same (variable n) = ap Var (variable_same n)
  argument_same (constant l) = ap Lit (literal_same l)

  arguments_same : (args : List ArgOf) → map (argument_of (unplaced_proc p)) (map unplaced_arg args) ≡ map (argument_of p) args
  arguments_same = map_over (argument_of (unplaced_proc p)) unplaced_arg (argument_of p) argument_same

mutual
  statement_same : (s : SourceOf) (p : ProcOf) (b : StmtOf) → statement_of (without_places s) (unplaced_proc p) (unplaced_stmt b)
      ≡ bare_statement (statement_of s p b)
  statement_same s p (no_op place) = refl
  statement_same s p (signal place c) = ap (Signal 0) (cond_same p c)
  statement_same s p (seq place parts) = parts_same s p parts
  statement_same s p (loop place body) = ap (Loop 0) (statement_same s p body)
  statement_same s p (branch place test b c) =
      let v = variable_same p test in
      let first = statement_same s p b in
      let second = statement_same s p c in
      λ i. If 0 (v i) (first i) (second i)
  statement_same s p (begin place body conds arm) =
      let first = statement_same s p body in
      let handled = conds_same p conds in
      let second = statement_same s p arm in
      λ i. Begin 0 (first i) (handled i) (second i)
  statement_same s p (call place callee xs_place xs cs_place cs) =
      let to = ap (position_of callee.name) (procedures_same s) in
      let data_actuals = positions_same p xs in
      let actuals = conds_same p cs in
      λ i. Call 0 (to i) (data_actuals i) (actuals i)
  statement_same s p (predef place which args) = ap (Apply 0 which) (arguments_same p args)

  parts_same : (s : SourceOf) (p : ProcOf) (bs : StmtsOf) → statement_of_all (without_places s) (unplaced_proc p) (unplaced_stmts bs)
      ≡ bare_statement (statement_of_all s p bs)
  parts_same s p no_parts = refl
  parts_same s p (part b bs) = ap₂ Seq (statement_same s p b) (parts_same s p bs)

-- ---- procedures and programs

procedure_same : (s : SourceOf) (p : ProcOf) → procedure_of (without_places s) (unplaced_proc p) ≡ bare_procedure (procedure_of s p)
procedure_same s p =
    let formals = map_over (λ (d : Decl). shape_of d.shape) unplaced_decl (λ (d : Decl). shape_of d.shape) (λ d. refl) p.formals in
    let locals = map_over local_value unplaced_local local_value local_same p.locals in
    let conds = length-map p.conds unplaced_name in
    let local_conds = length-map p.local_conds unplaced_name in
    let body = statement_same s p p.body in
    λ i. record { place = 0; formals = formals i; locals = locals i; conds = conds i; local_conds = local_conds i; body = body i }

program_same : (s : SourceOf) → program_of (without_places s) ≡ bare_program (program_of s)
program_same s =
    let main = ap (position_of s.main.name) (procedures_same s) in
    let procs : map (procedure_of (without_places s)) (map unplaced_proc s.procs) ≡ map bare_procedure (map (procedure_of s) s.procs) =
    map_over (procedure_of (without_places s)) unplaced_proc (λ (p : ProcOf). bare_procedure (procedure_of s p)) (procedure_same s) s.procs
    ∙ sym (map_over bare_procedure (procedure_of s) (λ (p : ProcOf). bare_procedure (procedure_of s p)) (λ p. refl) s.procs) in
    λ i. record { main = main i; procs = procs i }

-- two sources that are the same but for places have programs that differ in places alone
pub bare_same : (r s : SourceOf) → without_places r ≡ without_places s → bare_program (program_of r) ≡ bare_program (program_of s)
bare_same r s e = sym (program_same r) ∙ ap program_of e ∙ program_same s
