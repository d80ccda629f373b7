-- The lowered source keeps the form.
use Rattle.std.proofs.Common.{◌≡◌, ℕ, zero, suc, ◌+◌, ◌*◌, ◌^◌, ◌<◌, ◌≤◌, max, List, [], ◌∷◌, ◌++◌, map, length, true, Some, refl, ap, arith}
use Rattle.std.{specs.Prelude.{slice_get, pos, All, IsTrue}, specs.List.sum_by, proofs.lemmas.Bool.lt-ltb, proofs.lemmas.List.Sums.sum_by-cons}
use Rattle.std.proofs.lemmas.List.Elements.{All-nil, All-cons}
use Rattle.stack_text.{specs.Grammar.Parts.IsNamed, specs.Names.is_name}
use Rattle.gypsy_syntax.{specs.Fits.{FitsDecl, FitsLocal, FitsStatement, FitsStatements, FitsProcedure, FitsForm}, proofs.FitsLaws.{two_fit, three_fit}}
use Rattle.gypsy_syntax.{specs.Made.{statements, new_seq, new_predef}, specs.ProgramFits.Each, specs.Sizes.{deepest, parts_size, local_size, procedure_size}}
use Rattle.gypsy_syntax.{specs.Sizes.text_size, specs.Sources.{integer, truth, constant, LocalOf, StmtOf}}
use Rattle.mini_syntax.{specs.declared.program.Declared.Declared, specs.declared.sort.Sort.Sort, specs.declared.sort.Sort.TheVariants.{Int, Bool}}
use Rattle.mini_syntax.{specs.Language.{Exp, Variable, Number, Truth, Before, Between, Stmt, Nothing, Then, Assign, While, If}, specs.Lawful.{IsLawful, levels}}
use Rattle.mini_syntax.{specs.Lawful.{size_of, part_count, nth_name}, specs.Names.is_variable_name, specs.Sorted.{depth, depths, IsWellSorted, AreFine}}
use Rattle.mini_syntax.{specs.Operands.{sort_of, prefix_sort, infix_sort}, proofs.VariableLaws.variable_is_name}
use Rattle.mini_gypsy.specs.Lowered.{decl_of, temporary_local, locals_from, temporary_name, temporaries, argument, set_name, value_parts, statement_parts}
use Rattle.mini_gypsy.{specs.Lowered.{block_parts, choice_parts, leave, main_procedure, lowered}, specs.Steps.{prefix_row, infix_row}}
use Rattle.mini_gypsy.{proofs.NameLaws.{all_named, temporary_is_name}, proofs.ResolveLaws.depth_some}

-- ---- names

named_at : (ds : List Declared) (i : ℕ) (s : Sort) → Each (λ d. is_variable_name d.name ≡ true) ds → slice_get (map (λ (d : Declared). d.sort) ds) i ≡ Some s →
    IsTrue (is_name (nth_name (map (λ (d : Declared). d.name) ds) i))
named_at [] i s good e = cc
named_at (d ∷ ds) zero s good e = variable_is_name d.name good.0
named_at (d ∷ ds) (suc i) s good e = named_at ds i s good.1 e

-- ---- statements

parts_fit : (xs ys : List StmtOf) → FitsStatements (statements xs) → FitsStatements (statements ys) → FitsStatements (statements (xs ++ ys))
parts_fit [] ys e f = f
parts_fit (x ∷ xs) ys e f = (e.0, parts_fit xs ys e.1 f)

-- a sequence with a last part
seq_fits : (xs : List StmtOf) (x : StmtOf) → FitsStatements (statements (xs ++ x ∷ [])) → FitsStatement (new_seq 0 (xs ++ x ∷ []))
seq_fits [] x e = e
seq_fits (y ∷ xs) x e = e

module _ (names : List (List ℕ)) (sorts : List Sort) (named : (i : ℕ) (s : Sort) → slice_get sorts i ≡ Some s → IsTrue (is_name (nth_name names i))) where
  values_fit : (k : ℕ) (e : Exp) → IsWellSorted sorts e → k + depth e ≤ depths → FitsStatements (statements (value_parts names k e))
  unfolding value_parts
  values_fit k (Variable s i) sorted small =
      (two_fit (argument (temporary_name s k)) (argument (nth_name names i)) (temporary_is_name s k (omega arith)) (named i s sorted), tt)
  values_fit k (Number n) sorted small =
      (two_fit (argument (temporary_name Int k)) (constant (integer 0 (pos n))) (temporary_is_name Int k (omega arith)) (lt-ltb n (2 ^ 127) (omega arith)), tt)
  values_fit k (Truth b) sorted small = (two_fit (argument (temporary_name Bool k)) (constant (truth 0 b)) (temporary_is_name Bool k (omega arith)) tt, tt)
  values_fit k (Before op e) sorted small =
      let some = depth_some e in
      parts_fit (value_parts names k e) (new_predef 0 (prefix_row op)
      (argument (temporary_name (prefix_sort op) k) ∷ argument (temporary_name (sort_of e) k) ∷ []) ∷ [])
      (values_fit k e sorted.0 small) (
        two_fit (argument (temporary_name (prefix_sort op) k)) (argument (temporary_name (sort_of e) k))
            (temporary_is_name (prefix_sort op) k (omega arith)) (temporary_is_name (sort_of e) k (omega arith)),
        tt,
      )
  values_fit k (Between op a b) sorted small =
      let some = depth_some b in
      let last = new_predef 0 (infix_row op) (argument (temporary_name (infix_sort op) k) ∷ argument (temporary_name (sort_of a) k)
      ∷ argument (temporary_name (sort_of b) (suc k)) ∷ []) in
      parts_fit (value_parts names k a) (value_parts names (suc k) b ++ last ∷ []) (values_fit k a sorted.0 (omega arith))
      (parts_fit (value_parts names (suc k) b) (last ∷ []) (values_fit (suc k) b sorted.1 (omega arith)) (
        three_fit (argument (temporary_name (infix_sort op) k)) (argument (temporary_name (sort_of a) k)) (argument (temporary_name (sort_of b) (suc k)))
            (temporary_is_name (infix_sort op) k (omega arith)) (temporary_is_name (sort_of a) k (omega arith))
            (temporary_is_name (sort_of b) (suc k) (omega arith)),
        tt,
      ))

  statements_fit : (s : Stmt) → AreFine sorts s → FitsStatements (statements (statement_parts names s))
  unfolding statement_parts
  statements_fit Nothing fine = tt
  statements_fit (Then s t) fine = parts_fit (statement_parts names s) (statement_parts names t) (statements_fit s fine.0) (statements_fit t fine.1)
  statements_fit (Assign i e) fine =
      parts_fit (value_parts names 0 e) (set_name (nth_name names i) (temporary_name (sort_of e) 0) ∷ [])
      (values_fit 0 e fine.1.sorted (omega (arith, fine.1.shallow))) (
        two_fit (argument (nth_name names i)) (argument (temporary_name (sort_of e) 0)) (named i (sort_of e) fine.0)
            (temporary_is_name (sort_of e) 0 (omega arith)),
        tt,
      )
  statements_fit (While e s) fine = (
    seq_fits (value_parts names 0 e) (choice_parts (block_parts (statement_parts names s)) leave)
        (parts_fit (value_parts names 0 e) (choice_parts (block_parts (statement_parts names s)) leave ∷ [])
        (values_fit 0 e fine.0.sorted (omega (arith, fine.0.shallow)))
        ((temporary_is_name Bool 0 (omega arith), (tt, statements_fit s fine.1), refl), tt)),
    tt,
  )
  statements_fit (If e s t) fine =
      parts_fit (value_parts names 0 e) (choice_parts (block_parts (statement_parts names s)) (block_parts (statement_parts names t)) ∷ [])
      (values_fit 0 e fine.0.sorted (omega (arith, fine.0.shallow)))
      ((temporary_is_name Bool 0 (omega arith), (tt, statements_fit s fine.1), (tt, statements_fit t fine.2)), tt)

-- ---- nesting, and how many atoms and lists

deepest_append : (xs ys : List StmtOf) → deepest (statements (xs ++ ys)) ≡ max (deepest (statements xs)) (deepest (statements ys))
deepest_append [] ys = omega arith
deepest_append (x ∷ xs) ys = let rest = deepest_append xs ys in omega (arith, rest)

size_append : (xs ys : List StmtOf) → parts_size (statements (xs ++ ys)) ≡ parts_size (statements xs) + parts_size (statements ys)
size_append [] ys = omega arith
size_append (x ∷ xs) ys = let rest = size_append xs ys in omega (arith, rest)

-- these nest at most so deep, and have at most so many atoms and lists
record AreSmall (xs : List StmtOf) (deep long : ℕ) : Type 0 where
  shallow : deepest (statements xs) ≤ deep
  short : parts_size (statements xs) ≤ long

values_small : (names : List (List ℕ)) (k : ℕ) (e : Exp) → AreSmall (value_parts names k e) 1 (5 * size_of e)
unfolding value_parts
values_small names k (Variable s i) = record { shallow = omega arith; short = omega arith }
values_small names k (Number n) = record { shallow = omega arith; short = omega arith }
values_small names k (Truth b) = record { shallow = omega arith; short = omega arith }
values_small names k (Before op e) =
    let last = new_predef 0 (prefix_row op) (argument (temporary_name (prefix_sort op) k) ∷ argument (temporary_name (sort_of e) k) ∷ []) ∷ [] in
    let first = values_small names k e in
    record {
      shallow = omega (arith, deepest_append (value_parts names k e) last, first.shallow);
      short = omega (arith, size_append (value_parts names k e) last, first.short);
    }
values_small names k (Between op a b) =
    let last = new_predef 0 (infix_row op) (argument (temporary_name (infix_sort op) k) ∷ argument (temporary_name (sort_of a) k)
    ∷ argument (temporary_name (sort_of b) (suc k)) ∷ []) ∷ [] in
    let first = values_small names k a in
    let second = values_small names (suc k) b in
    let rest = value_parts names (suc k) b ++ last in
    record {
      shallow = omega (
        arith,
        deepest_append (value_parts names k a) rest,
        deepest_append (value_parts names (suc k) b) last,
        first.shallow,
        second.shallow,
      );
      short = omega (arith, size_append (value_parts names k a) rest, size_append (value_parts names (suc k) b) last, first.short, second.short);
    }

statements_small : (names : List (List ℕ)) (s : Stmt) → AreSmall (statement_parts names s) (1 + 4 * levels s) (20 * part_count s)
unfolding statement_parts
statements_small names Nothing = record { shallow = omega arith; short = omega arith }
statements_small names (Then s t) =
    let first = statements_small names s in
    let second = statements_small names t in
    record {
      shallow = omega (arith, deepest_append (statement_parts names s) (statement_parts names t), first.shallow, second.shallow);
      short = omega (arith, size_append (statement_parts names s) (statement_parts names t), first.short, second.short);
    }
statements_small names (Assign i e) =
    let last = set_name (nth_name names i) (temporary_name (sort_of e) 0) ∷ [] in
    let first = values_small names 0 e in
    record {
      shallow = omega (arith, deepest_append (value_parts names 0 e) last, first.shallow);
      short = omega (arith, size_append (value_parts names 0 e) last, first.short);
    }
statements_small names (While e s) =
    let last = choice_parts (block_parts (statement_parts names s)) leave ∷ [] in
    let first = values_small names 0 e in
    let second = statements_small names s in
    record {
      shallow = omega (arith, deepest_append (value_parts names 0 e) last, first.shallow, second.shallow);
      short = omega (arith, size_append (value_parts names 0 e) last, first.short, second.short);
    }
statements_small names (If e s t) =
    let last = choice_parts (block_parts (statement_parts names s)) (block_parts (statement_parts names t)) ∷ [] in
    let first = values_small names 0 e in
    let second = statements_small names s in
    let third = statements_small names t in
    record {
      shallow = omega (arith, deepest_append (value_parts names 0 e) last, first.shallow, second.shallow, third.shallow);
      short = omega (arith, size_append (value_parts names 0 e) last, first.short, second.short, third.short);
    }

-- ---- the whole

formals_fit : (ds : List Declared) → Each (λ d. is_variable_name d.name ≡ true) ds → All FitsDecl (map (λ (d : Declared). decl_of d.name d.sort) ds)
formals_fit [] good = All-nil FitsDecl
formals_fit (d ∷ ds) good =
    All-cons FitsDecl (decl_of d.name d.sort) (map (λ (e : Declared). decl_of e.name e.sort) ds)
    record { name = variable_is_name d.name good.0; length = tt } (formals_fit ds good.1)

local_fits : (s : Sort) (k : ℕ) → k < depths → FitsLocal (temporary_local s k)
local_fits Int k lt = record { decl = record { name = temporary_is_name Int k lt; length = tt }; value = refl }
local_fits Bool k lt = record { decl = record { name = temporary_is_name Bool k lt; length = tt }; value = tt }

locals_fit : (s : Sort) (k count : ℕ) (rest : List LocalOf) → k + count ≤ depths → All FitsLocal rest → All FitsLocal (locals_from s k count ++ rest)
unfolding locals_from
locals_fit s k zero rest le fits = fits
locals_fit s k (suc count) rest le fits =
    All-cons FitsLocal (temporary_local s k) (locals_from s (k + 1) count ++ rest) (local_fits s k (omega arith))
    (locals_fit s (k + 1) count rest (omega arith) fits)

all_bools : All FitsLocal (locals_from Bool 0 depths ++ [])
all_bools = locals_fit Bool 0 depths [] (omega arith) (All-nil FitsLocal)

temporaries_fit : All FitsLocal temporaries
unfolding temporaries locals_from
temporaries_fit = locals_fit Int 0 depths (locals_from Bool 0 depths) (omega arith) all_bools

temporaries_count : length temporaries ≡ 82
unfolding temporaries locals_from
temporaries_count = refl

temporaries_small : sum_by local_size temporaries ≡ 574
unfolding temporaries locals_from
temporaries_small = refl

formals_count : (ds : List Declared) → length (map (λ (d : Declared). decl_of d.name d.sort) ds) ≡ length ds
formals_count [] = refl
formals_count (d ∷ ds) = ap suc (formals_count ds)

pub lowered_fits : (ds : List Declared) (s : Stmt) → IsLawful ds s → FitsForm (lowered ds s)
lowered_fits ds s lawful = record {
  main = refl;
  procs = All-cons FitsProcedure (main_procedure ds s) [] procedure_fits (All-nil FitsProcedure);
  some_procs = omega arith;
  few_procs = omega arith;
}
  where
    names : List (List ℕ)
    names = map (λ (d : Declared). d.name) ds

    procedure_fits : FitsProcedure (main_procedure ds s)
    procedure_fits = record {
      name = refl;
      formals = formals_fit ds (all_named ds lawful.names);
      conds = All-nil IsNamed;
      locals = temporaries_fit;
      local_conds = All-nil IsNamed;
      body = (tt, statements_fit names (map (λ (d : Declared). d.sort) ds) (λ i r e. named_at ds i r (all_named ds lawful.names) e) s lawful.fine);
      few_variables = omega (arith, formals_count ds, temporaries_count, lawful.few);
      few_conds = omega arith;
      shallow = let small = statements_small names s in omega (arith, small.shallow, lawful.shallow);
    }

pub lowered_small : (ds : List Declared) (s : Stmt) → IsLawful ds s → text_size (lowered ds s) ≤ 2 ^ 31
lowered_small ds s lawful =
    let parts = statements_small (map (λ (d : Declared). d.name) ds) s in
    omega (arith, sum_by-cons procedure_size (main_procedure ds s) [], parts.short, temporaries_small, formals_count ds, lawful.few, lawful.short)
