-- A large source keeps the form.
use Rattle.std.{proofs.Common.{◌≡◌, ◌+◌, ◌*◌, ◌<◌, ◌≤◌, ◌^◌, ◌%◌, ℕ, zero, suc, [], ◌∷◌, length, refl, arith}, specs.Prelude.{All, codes}, specs.List.sum_by}
use Rattle.std.{proofs.lemmas.Bool.lt-ltb, proofs.lemmas.List.Sums.sum_by-cons, proofs.lemmas.List.Elements.{All-nil, All-cons}}
use Rattle.stack_text.{specs.Grammar.Printed.unplaced, specs.Grammar.Parts.IsNamed}
use Rattle.gypsy_syntax.{specs.Fits.{FitsDecl, FitsLocal, FitsStatement, FitsStatements, FitsProcedure, FitsForm}, proofs.FitsLaws.{two_fit, three_fit}}
use Rattle.gypsy_syntax.{specs.Made.statements, specs.Sizes.{nesting, deepest, statement_size, parts_size, procedure_size, text_size}}
use Rattle.gypsy_gen.{specs.declared.body.Body.Body, specs.declared.body.Body.TheVariants.{Add, Subtract, Minus, Assign}}
use Rattle.gypsy_gen.{specs.declared.parts.Variable.TheVariants.{X, C}, specs.Parts.{argument, formal, local, body_of, body}, specs.Large.next_state}
use Rattle.gypsy_gen.{specs.Large.{procedure, procedures_from, calls_from, main_procedure, large_of}, proofs.NameLaws.procedure_named}

-- ---- each procedure

formal_fits : FitsDecl formal
formal_fits = record { name = refl; length = tt }

formals_fit : All FitsDecl (formal ∷ [])
formals_fit = All-cons FitsDecl formal [] formal_fits (All-nil FitsDecl)

local_fits : (n : ℕ) → n < 1000 → FitsLocal (local n)
local_fits n lt = record { decl = record { name = refl; length = tt }; value = lt-ltb n (2 ^ 127) (omega arith) }

body_fits : (b : Body) → FitsStatement (body b)
body_fits Add = three_fit (argument X) (argument X) (argument C) refl refl refl
body_fits Subtract = three_fit (argument X) (argument X) (argument C) refl refl refl
body_fits Minus = two_fit (argument X) (argument X) refl refl
body_fits Assign = (tt, (two_fit (argument X) (argument C) refl refl, tt))

body_shallow : (b : Body) → nesting (body b) ≤ 198
body_shallow Add = omega arith
body_shallow Subtract = omega arith
body_shallow Minus = omega arith
body_shallow Assign = omega arith

procedure_fits : (index state : ℕ) → index < 2 ^ 32 → FitsProcedure (procedure index state)
procedure_fits index state lt = record {
  name = procedure_named index lt;
  formals = formals_fit;
  conds = All-nil IsNamed;
  locals = All-cons FitsLocal (local (state % 1000)) [] (local_fits (state % 1000) (omega arith)) (All-nil FitsLocal);
  local_conds = All-nil IsNamed;
  body = body_fits (body_of state);
  few_variables = omega arith;
  few_conds = omega arith;
  shallow = body_shallow (body_of state);
}

procedures_fit : (index state count : ℕ) → index + count < 2 ^ 32 → All FitsProcedure (procedures_from index state count)
unfolding procedures_from
procedures_fit index state zero lt = All-nil FitsProcedure
procedures_fit index state (suc count) lt =
    All-cons FitsProcedure (procedure index (next_state state)) (procedures_from (index + 1) (next_state state) count)
    (procedure_fits index (next_state state) (omega arith)) (procedures_fit (index + 1) (next_state state) count (omega arith))

-- ---- the main procedure

calls_fit : (index count : ℕ) → index + count < 2 ^ 32 → FitsStatements (statements (calls_from index count))
unfolding calls_from
calls_fit index zero lt = tt
calls_fit index (suc count) lt = (
  (procedure_named index (omega arith), All-cons IsNamed (unplaced (codes "x")) [] refl (All-nil IsNamed), All-nil IsNamed),
  calls_fit (index + 1) count (omega arith),
)

main_body_fits : (size : ℕ) → 1 ≤ size → size < 2 ^ 31 → FitsStatement (main_procedure size).body
unfolding calls_from
main_body_fits zero low high = absurd (omega arith)
main_body_fits (suc count) low high = calls_fit 1 (suc count) (omega arith)

calls_shallow : (index count : ℕ) → deepest (statements (calls_from index count)) ≤ 2
unfolding calls_from
calls_shallow index zero = omega arith
calls_shallow index (suc count) = let rest = calls_shallow (index + 1) count in omega (arith, rest)

main_fits : (size : ℕ) → 1 ≤ size → size < 2 ^ 31 → FitsProcedure (main_procedure size)
main_fits size low high = record {
  name = refl;
  formals = formals_fit;
  conds = All-nil IsNamed;
  locals = All-nil FitsLocal;
  local_conds = All-nil IsNamed;
  body = main_body_fits size low high;
  few_variables = omega arith;
  few_conds = omega arith;
  shallow = let shallow = calls_shallow 1 size in omega (arith, shallow);
}

procedure_count : (index state count : ℕ) → length (procedures_from index state count) ≡ count
unfolding procedures_from
procedure_count index state zero = refl
procedure_count index state (suc count) = let rest = procedure_count (index + 1) (next_state state) count in omega (arith, rest)

pub large_fits : (number size : ℕ) → 1 ≤ size → size ≤ 900 → FitsForm (large_of number size)
large_fits number size low high = record {
  main = refl;
  procs =
      All-cons FitsProcedure (main_procedure size) (procedures_from 1 number size) (main_fits size low (omega arith))
      (procedures_fit 1 number size (omega arith));
  some_procs = omega arith;
  few_procs = let count = procedure_count 1 number size in omega (arith, count);
}

-- ---- how many atoms and lists the text has

body_small : (b : Body) → statement_size (body b) ≤ 9
body_small Add = omega arith
body_small Subtract = omega arith
body_small Minus = omega arith
body_small Assign = omega arith

procedures_small : (index state count : ℕ) → sum_by procedure_size (procedures_from index state count) ≤ 40 * count
unfolding procedures_from
procedures_small index state zero = omega arith
procedures_small index state (suc count) =
    let first = procedure index (next_state state) in
    let rest = procedures_from (index + 1) (next_state state) count in
    let small = body_small (body_of (next_state state)) in
    let others = procedures_small (index + 1) (next_state state) count in
    omega (arith, sum_by-cons procedure_size first rest, small, others)

calls_small : (index count : ℕ) → parts_size (statements (calls_from index count)) ≡ 6 * count
unfolding calls_from
calls_small index zero = refl
calls_small index (suc count) = let rest = calls_small (index + 1) count in omega (arith, rest)

pub large_small : (number size : ℕ) → size ≤ 900 → text_size (large_of number size) ≤ 2 ^ 31
large_small number size high =
    let calls = calls_small 1 size in
    let others = procedures_small 1 number size in
    omega (arith, sum_by-cons procedure_size (main_procedure size) (procedures_from 1 number size), calls, others)
