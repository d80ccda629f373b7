-- What keeps the form fits it in plain words, since the tree that it is printed as is read so, and places don't count.
use Rattle.std.{proofs.Common.{◌≡◌, ℕ, ◌≤◌, [], ◌∷◌, All, refl, subst, arith}, proofs.lemmas.List.length-map, proofs.lemmas.List.Elements.{All-nil, All-cons}}
use Rattle.stack_text.{specs.Grammar.Printed.unplaced_name, proofs.FitsLaws.{all_under, placed_names}, proofs.KeepsLaws.holds_at}
use Rattle.gypsy_syntax.{specs.declared.literal.Decl.Decl, specs.GypsyReading.KeepsForm, specs.Fits.{FitsSimple, AllSimple, FitsLiteral, FitsArgument}}
use Rattle.gypsy_syntax.{specs.Fits.{FitsDecl, FitsLocal, FitsStatement, FitsStatements, FitsProcedure, FitsForm}, specs.Grammar.source_in}
use Rattle.gypsy_syntax.specs.Places.{unplaced_literal, unplaced_literals, unplaced_arg, unplaced_decl, unplaced_local, unplaced_stmt, unplaced_stmts}
use Rattle.gypsy_syntax.{specs.Places.{unplaced_proc, without_places}, specs.Printed.tree_of, specs.Sizes.{nesting, deepest}, specs.Sources.LiteralOf}
use Rattle.gypsy_syntax.specs.Sources.{LiteralsOf, integer, truth, character, array, no_items, item, ArgOf, variable, constant, StmtOf, StmtsOf, no_op, signal}
use Rattle.gypsy_syntax.{specs.Sources.{seq, loop, branch, begin, call, predef, no_parts, part, LocalOf, ProcOf, SourceOf}, proofs.WalkLaws.FittedSource}
use Rattle.gypsy_syntax.proofs.WalkLaws.{source_part}

placed_simple : (l : LiteralOf) → FitsSimple (unplaced_literal l) → FitsSimple l
placed_simple (integer p z) h = h
placed_simple (truth p b) h = h
placed_simple (character p z) h = h
placed_simple (array p ls) h = h

placed_items : (ls : LiteralsOf) → AllSimple (unplaced_literals ls) → AllSimple ls
placed_items no_items h = h
placed_items (item l ls) h = (placed_simple l h.0, placed_items ls h.1)

placed_literal : (l : LiteralOf) → FitsLiteral (unplaced_literal l) → FitsLiteral l
placed_literal (integer p z) h = h
placed_literal (truth p b) h = h
placed_literal (character p z) h = h
placed_literal (array p ls) h = placed_items ls h

placed_argument : (a : ArgOf) → FitsArgument (unplaced_arg a) → FitsArgument a
placed_argument (variable n) h = h
placed_argument (constant l) h = placed_simple l h

placed_decl : (d : Decl) → FitsDecl (unplaced_decl d) → FitsDecl d
placed_decl d h = record { name = h.name; length = h.length }

placed_local : (l : LocalOf) → FitsLocal (unplaced_local l) → FitsLocal l
placed_local l h = record { decl = placed_decl l.decl h.decl; value = placed_literal l.value h.value }

mutual
  placed_statement : (s : StmtOf) → FitsStatement (unplaced_stmt s) → FitsStatement s
  placed_statement (no_op p) h = tt
  placed_statement (signal p c) h = h
  placed_statement (seq p no_parts) h = h
  placed_statement (seq p (part s ss)) h = (placed_statement s h.0, placed_statements ss h.1)
  placed_statement (loop p s) h = placed_statement s h
  placed_statement (branch p b s t) h = (h.0, placed_statement s h.1, placed_statement t h.2)
  placed_statement (begin p s cs t) h = (placed_statement s h.0, omega (arith, h.1, length-map cs unplaced_name), placed_names cs h.2, placed_statement t h.3)
  placed_statement (call p f q xs r cs) h = (h.0, placed_names xs h.1, placed_names cs h.2)
  placed_statement (predef p which args) h = all_under FitsArgument unplaced_arg placed_argument args h

  placed_statements : (ss : StmtsOf) → FitsStatements (unplaced_stmts ss) → FitsStatements ss
  placed_statements no_parts h = tt
  placed_statements (part s ss) h = (placed_statement s h.0, placed_statements ss h.1)

mutual
  nesting-unplaced : (s : StmtOf) → nesting (unplaced_stmt s) ≡ nesting s
  nesting-unplaced (no_op p) = refl
  nesting-unplaced (signal p c) = refl
  nesting-unplaced (seq p ss) = rw (deepest-unplaced ss) refl
  nesting-unplaced (loop p s) = rw (nesting-unplaced s) refl
  nesting-unplaced (branch p b s t) = rw (nesting-unplaced s, nesting-unplaced t) refl
  nesting-unplaced (begin p s cs t) = rw (nesting-unplaced s, nesting-unplaced t) refl
  nesting-unplaced (call p f q xs r cs) = refl
  nesting-unplaced (predef p which args) = refl

  deepest-unplaced : (ss : StmtsOf) → deepest (unplaced_stmts ss) ≡ deepest ss
  deepest-unplaced no_parts = refl
  deepest-unplaced (part s ss) = rw (nesting-unplaced s, deepest-unplaced ss) refl

placed_procedure : (p : ProcOf) → FitsProcedure (unplaced_proc p) → FitsProcedure p
placed_procedure p h = record {
  name = h.name;
  formals = all_under FitsDecl unplaced_decl placed_decl p.formals h.formals;
  conds = placed_names p.conds h.conds;
  locals = all_under FitsLocal unplaced_local placed_local p.locals h.locals;
  local_conds = placed_names p.local_conds h.local_conds;
  body = placed_statement p.body h.body;
  few_variables = omega (arith, h.few_variables, length-map p.formals unplaced_decl, length-map p.locals unplaced_local);
  few_conds = omega (arith, h.few_conds, length-map p.conds unplaced_name, length-map p.local_conds unplaced_name);
  shallow = subst (λ (n : ℕ). n ≤ 198) (nesting-unplaced p.body) h.shallow;
}

placed_source : (s : SourceOf) → FitsForm (without_places s) → FitsForm s
placed_source s h = record {
  main = h.main;
  procs = all_under FitsProcedure unplaced_proc placed_procedure s.procs h.procs;
  some_procs = omega (arith, h.some_procs, length-map s.procs unplaced_proc);
  few_procs = omega (arith, h.few_procs, length-map s.procs unplaced_proc);
}

-- what keeps the form fits it
pub keeps_fits : (s : SourceOf) → KeepsForm s → FitsForm s
keeps_fits s h =
    let read = holds_at (FittedSource (tree_of s)) (source_in (tree_of s)) (without_places s) (source_part (tree_of s)).holds h.reads in
    placed_source s (read.fits h.well_formed.shallow)

-- ---- arguments that fit, one by one

one_fits : (a : ArgOf) → FitsArgument a → All FitsArgument (a ∷ [])
one_fits a p = All-cons FitsArgument a [] p (All-nil FitsArgument)

pub two_fit : (a b : ArgOf) → FitsArgument a → FitsArgument b → All FitsArgument (a ∷ b ∷ [])
two_fit a b p q = All-cons FitsArgument a (b ∷ []) p (one_fits b q)

pub three_fit : (a b c : ArgOf) → FitsArgument a → FitsArgument b → FitsArgument c → All FitsArgument (a ∷ b ∷ c ∷ [])
three_fit a b c p q r = All-cons FitsArgument a (b ∷ c ∷ []) p (two_fit b c q r)
