-- What an accepted source gives: positions and numbers of 32 bits, and literals that are values.
use Rattle.std.proofs.Common.{◌≡◌, ℕ, suc, ◌+◌, ◌<◌, ◌≤◌, ◌^◌, ℤ, pos, negsuc, List, [], ◌∷◌, ◌++◌, map, length, get_or, flat_map, nat_lt, ◌==◌, ◌||◌, cond}
use Rattle.std.proofs.Common.{bytes_eq, Bool, true, false, Some, None, unwrap_or, All, IsTrue, refl, arith, length-append, lt-ltb, ltb-true, leb-true, eqb-true}
use Rattle.std.{proofs.Common.eq-eqb, specs.List.{list_all, position_or_len}, proofs.lemmas.Bool.{and_parts, and_from}, proofs.lemmas.List.length-map}
use Rattle.std.proofs.lemmas.List.Elements.{All-nil, All-cons, All-head, All-tail}
use Rattle.stack_text.{specs.Names.place_among, specs.declared.name.Named.Named, specs.declared.shape.Kind.Kind, specs.declared.shape.Kind.TheVariants.Integer}
use Rattle.stack_text.{specs.declared.shape.Kind.TheVariants.{Boolean, Character}, specs.declared.shape.Shape.Shape, specs.Values.{ValueOf, is_item, is_value}}
use Rattle.stack_text.{specs.Values.item_count, proofs.SharedLaws.{rule_holds, append_none}}
use Rattle.gypsy_syntax.{specs.declared.literal.Decl.Decl, specs.declared.literal.Literal.Literal, specs.declared.literal.TypeText.TypeText}
use Rattle.gypsy_syntax.{specs.declared.slot.Form.Form, specs.declared.slot.Slot.Slot, specs.declared.statement.Stmt.Stmt as Text, specs.Fits.FitsForm}
use Rattle.gypsy_syntax.{specs.Fits.FitsProcedure, specs.Predefined.slots_of, specs.Programs.no_proc, specs.ProgramFits.{ArgFits, ArgsFit, Each, ProcFits}}
use Rattle.gypsy_syntax.{specs.ProgramFits.{StmtFits, slot_kind}, specs.Ranges.is_in_range, specs.ValuesFit.ValueFits, specs.Resolved.argument_of}
use Rattle.gypsy_syntax.specs.Resolved.{condition_names, item_of, items_of_all, local_value, position_of, procedure_of, program_of, statement_of}
use Rattle.gypsy_syntax.{specs.Resolved.{statement_of_all, value_items, variable_names, variable_types}, specs.Sources.{LiteralOf, integer, truth, character}}
use Rattle.gypsy_syntax.specs.Sources.{array, ArgOf, variable, constant, LocalOf, ProcOf, SourceOf, StmtOf, StmtsOf, no_op, signal, seq, loop, branch, begin}
use Rattle.gypsy_syntax.{specs.Sources.{call, predef, no_parts, part}, specs.Views.SourceView.{items_of_list, literal_of, parts_of_list, stmt_of}}
use Rattle.gypsy_syntax.{proofs.FitsLaws.keeps_fits, proofs.RangeLaws.range_item}
use Rattle.gypsy_syntax.specs.declared.slot.Form.TheVariants as form
use Rattle.gypsy_check.{specs.Accepted.IsAccepted, specs.Declarations.{repeats, variables_of}, specs.Rules.{condition_name_breaches, local_breaches}}
use Rattle.gypsy_check.specs.Rules.{main_breaches, name_breaches, procedure_breaches, size_breaches, statement_breaches, type_breaches, variable_breaches}
use Rattle.gypsy_check.{specs.Rules.violations, specs.Types.has_length, proofs.CleanLaws.{four, three}}
use Rattle.gypsy_space.specs.Resolvable.{ConstantFits, ConstantsFit, IsResolvable, LocalFits, PartsFit}

-- ---- positions

below : (b : Bool) (n l : ℕ) → (b ≡ true → n ≤ l) → unwrap_or (cond b (Some n) None) 0 ≤ l
below true n l h = h refl
below false n l h = omega arith

-- a position is no more than the number of names
position_below : (name : List ℕ) (names : List (List ℕ)) → position_of name names ≤ length names
unfolding place_among
position_below name names =
    let n = position_or_len (bytes_eq name) names in
    below (nat_lt n (length names)) n (length names) (λ e. let lt : n < length names = ltb-true n (length names) e in omega (arith, lt))

pub variable_small : (p : ProcOf) (name : List ℕ) → FitsProcedure p → position_of name (variable_names p) < 2 ^ 32
variable_small p name f =
    let formals = map (λ (d : Decl). d.name.name) p.formals in
    let locals = map (λ (l : LocalOf). l.decl.name.name) p.locals in
    let le : position_of name (variable_names p) ≤ length (variable_names p) = position_below name (variable_names p) in
    let number : length (variable_names p) ≡ length formals + length locals = length-append formals locals in
    omega (arith, le, number, length-map p.formals (λ (d : Decl). d.name.name), length-map p.locals (λ (l : LocalOf). l.decl.name.name), f.few_variables)

pub condition_small : (p : ProcOf) (name : List ℕ) → FitsProcedure p → position_of name (condition_names p) < 2 ^ 32
condition_small p name f =
    let formals = map (λ (n : Named). n.name) p.conds in
    let locals = map (λ (n : Named). n.name) p.local_conds in
    let le : position_of name (condition_names p) ≤ length (condition_names p) = position_below name (condition_names p) in
    let number : length (condition_names p) ≡ length formals + length locals = length-append formals locals in
    omega (arith, le, number, length-map p.conds (λ (n : Named). n.name), length-map p.local_conds (λ (n : Named). n.name), f.few_conds)

-- ---- values

truth_small : (n : ℕ) (a b : Bool) → (n == 0) ≡ a → (n == 1) ≡ b → (a || b) ≡ true → n < 2 ^ 31
truth_small n true b e f h = let here : n ≡ 0 = eqb-true n 0 e in omega (arith, here)
truth_small n false true e f h = let here : n ≡ 1 = eqb-true n 1 f in omega (arith, here)
truth_small n false false e f h = cc

-- an item of any kind has 32 bits
wider : (k : Kind) (z : ℤ) → is_in_range k z ≡ true → is_in_range Integer z ≡ true
wider Integer z e = e
wider Boolean (pos n) e = lt-ltb n (2 ^ 31) (truth_small n (n == 0) (n == 1) refl refl e)
wider Boolean (negsuc n) e = cc
wider Character (pos n) e = lt-ltb n (2 ^ 31) (let le : n ≤ 127 = leb-true n 127 e in omega (arith, le))
wider Character (negsuc n) e = cc

pub all_wider : (k : Kind) (zs : List ℤ) → list_all (is_in_range k) zs ≡ true → list_all (is_in_range Integer) zs ≡ true
all_wider k [] e = refl
all_wider k (z ∷ zs) e =
    let p = and_parts (is_in_range k z) (list_all (is_in_range k) zs) e in
    and_from (is_in_range Integer z) (list_all (is_in_range Integer) zs) (wider k z p.0) (all_wider k zs p.1)

items_are : (k : Kind) (zs : List ℤ) → list_all (is_in_range k) zs ≡ true → list_all (λ z. is_item k z) zs ≡ true
items_are k [] e = refl
items_are k (z ∷ zs) e =
    let p = and_parts (is_in_range k z) (list_all (is_in_range k) zs) e in
    and_from (is_item k z) (list_all (λ z. is_item k z) zs) (range_item k z p.0) (items_are k zs p.1)

-- what fits is a value
pub value_is : (v : ValueOf) → ValueFits v → is_value v.shape v.items ≡ true
value_is v f =
    and_from (length v.items == item_count v.shape) (list_all (λ z. is_item v.shape.kind z) v.items)
    (eq-eqb (length v.items) (item_count v.shape) f.number) (items_are v.shape.kind v.items f.items)

-- the item of a simple literal, and those of a list
pub item_in : (l : LiteralOf) → list_all (is_in_range Integer) (value_items l) ≡ true → is_in_range Integer (item_of l) ≡ true
item_in (integer place z) e = (and_parts (is_in_range Integer z) true e).0
item_in (truth place true) e = refl
item_in (truth place false) e = refl
item_in (character place z) e = (and_parts (is_in_range Integer z) true e).0
item_in (array place ls) e = refl

-- an item of 32 bits
abbrev pub InRange : Literal → Type 0
InRange l = IsTrue (is_in_range Integer (item_of (literal_of l)))

pub items_in : (ls : List Literal) → list_all (is_in_range Integer) (items_of_all (items_of_list ls)) ≡ true → All InRange ls
items_in [] e = All-nil InRange
items_in (l ∷ ls) e =
    let p = and_parts (is_in_range Integer (item_of (literal_of l))) (list_all (is_in_range Integer) (items_of_all (items_of_list ls))) e in
    All-cons InRange l ls p.0 (items_in ls p.1)

-- ---- statements

pub each_before : {X Y : Type 0} (P : Y → Type 0) (f : X → Y) (xs : List X) → All P (map f xs) → All (λ (x : X). P (f x)) xs
each_before P f [] h = All-nil (λ x. P (f x))
each_before P f (x ∷ xs) h = All-cons (λ x. P (f x)) x xs (All-head P (f x) (map f xs) h) (each_before P f xs (All-tail P (f x) (map f xs) h))

pub parts_fit : (ss : List Text) → PartsFit (parts_of_list ss) → All (λ (s : Text). ConstantsFit (stmt_of s)) ss
parts_fit [] h = All-nil (λ (s : Text). ConstantsFit (stmt_of s))
parts_fit (s ∷ ss) h = All-cons (λ (s : Text). ConstantsFit (stmt_of s)) s ss h.0 (parts_fit ss h.1)

module _ (s : SourceOf) (p : ProcOf) (shapes : List Shape) (n : ℕ) where
  argument_fits : (f : Form) (k : Kind) (a : ArgOf) → ArgFits shapes f k (argument_of p a) → ConstantFits a
  argument_fits f k (variable name) h = tt
  argument_fits form.Simple k (constant l) h = absurd h
  argument_fits form.Array k (constant l) h = absurd h
  argument_fits form.Literal k (constant l) h = h.1

  arguments_fit : (k : Kind) (slots : List Slot) (args : List ArgOf) → ArgsFit shapes k slots (map (argument_of p) args) → All ConstantFits args
  arguments_fit k slots [] h = All-nil ConstantFits
  arguments_fit k [] (a ∷ args) h = absurd h
  arguments_fit k (slot ∷ slots) (a ∷ args) h =
      All-cons ConstantFits a args (argument_fits slot.form (slot_kind k slot.kind) a h.0) (arguments_fit k slots args h.1)

  mutual
    constants_fit : (in_loop : Bool) (b : StmtOf) → StmtFits (program_of s) shapes n in_loop (statement_of s p b) → ConstantsFit b
    constants_fit in_loop (no_op place) h = tt
    constants_fit in_loop (signal place c) h = tt
    constants_fit in_loop (seq place parts) h = all_constants_fit in_loop parts h
    constants_fit in_loop (loop place body) h = constants_fit true body h
    constants_fit in_loop (branch place test b c) h = (constants_fit in_loop b h.1, constants_fit in_loop c h.2)
    constants_fit in_loop (begin place body conds arm) h = (constants_fit in_loop body h.1, constants_fit in_loop arm h.2)
    constants_fit in_loop (call place callee xs_place xs cs_place cs) h = tt
    constants_fit in_loop (predef place which args) h = arguments_fit h.0 (slots_of which) args h.1

    all_constants_fit : (in_loop : Bool) (parts : StmtsOf) → StmtFits (program_of s) shapes n in_loop (statement_of_all s p parts) → PartsFit parts
    all_constants_fit in_loop no_parts h = tt
    all_constants_fit in_loop (part b rest) h = (constants_fit in_loop b h.0, all_constants_fit in_loop rest h.1)

-- ---- procedures

-- the formals come before the locals
lengths_of : (formals : List Decl) (types : List TypeText) → flat_map type_breaches (map (λ (d : Decl). d.shape) formals ++ types) ≡ []
    → All (λ (d : Decl). IsTrue (has_length d.shape.length)) formals × (flat_map type_breaches types ≡ [])
lengths_of [] types e = (All-nil (λ (d : Decl). IsTrue (has_length d.shape.length)), e)
lengths_of (d ∷ ds) types e =
    let h = append_none (type_breaches d.shape) (flat_map type_breaches (map (λ (d : Decl). d.shape) ds ++ types)) e in
    let k = lengths_of ds types h.1 in
    (All-cons (λ (d : Decl). IsTrue (has_length d.shape.length)) d ds (rule_holds (has_length d.shape.length) d.shape.place 7 h.0) k.0, k.1)

locals_fit : (locals : List LocalOf) → flat_map type_breaches (map (λ (l : LocalOf). l.decl.shape) locals) ≡ []
    → Each ValueFits (map local_value locals) → All LocalFits locals
locals_fit [] e f = All-nil LocalFits
locals_fit (l ∷ ls) e f =
    let h = append_none (type_breaches l.decl.shape) (flat_map type_breaches (map (λ (l : LocalOf). l.decl.shape) ls)) e in
    All-cons LocalFits l ls (record { length = rule_holds (has_length l.decl.shape.length) l.decl.shape.place 7 h.0; value = f.0 }) (locals_fit ls h.1 f.1)

resolvable : (s : SourceOf) (p : ProcOf) → FitsProcedure p → procedure_breaches s p ≡ [] → ProcFits (program_of s) (procedure_of s p) → IsResolvable p
resolvable s p form clean fits =
    let parts = four (variable_breaches p) (condition_name_breaches p) (size_breaches p) (statement_breaches s p false p.body) clean in
    let variables = three (repeats 4 [] (variables_of p)) (flat_map type_breaches (variable_types p)) (flat_map local_breaches p.locals) parts.0 in
    let lengths = lengths_of p.formals (map (λ (l : LocalOf). l.decl.shape) p.locals) variables.1 in
    record {
      form = form;
      formals = lengths.0;
      locals = locals_fit p.locals lengths.1 fits.locals;
      constants = constants_fit s p _ _ false p.body fits.body;
    }

all_resolvable : (s : SourceOf) (ps : List ProcOf) → All FitsProcedure ps → flat_map (procedure_breaches s) ps ≡ []
    → ((i : ℕ) → ProcFits (program_of s) (get_or (map (procedure_of s) ps) i no_proc)) → All IsResolvable ps
all_resolvable s [] form clean fits = All-nil IsResolvable
all_resolvable s (p ∷ ps) form clean fits =
    let h = append_none (procedure_breaches s p) (flat_map (procedure_breaches s) ps) clean in
    All-cons IsResolvable p ps (resolvable s p (All-head FitsProcedure p ps form) h.0 (fits 0))
    (all_resolvable s ps (All-tail FitsProcedure p ps form) h.1 (λ i. fits (suc i)))

pub source_form : (s : SourceOf) → IsAccepted s → FitsForm s
source_form s a = keeps_fits s a.form

pub source_resolvable : (s : SourceOf) → IsAccepted s → All IsResolvable s.procs
unfolding violations
source_resolvable s a =
    let clean = four (repeats 1 [] (map (λ (p : ProcOf). p.name) s.procs)) (main_breaches s) (flat_map name_breaches s.procs)
    (flat_map (procedure_breaches s) s.procs) a.rules in
    all_resolvable s s.procs (source_form s a).procs clean.3 a.fits.procs
