-- What a source without violations says of its names: they differ, and none is predefined.
use Rattle.std.proofs.Common.{◌≡◌, ℕ, zero, suc, ◌+◌, ◌<◌, List, [], ◌∷◌, ◌++◌, map, length, get_or, bytes_eq, Bool, true, false, cond, ◌&&◌, not, is_none}
use Rattle.std.{proofs.Common.{true≢false, refl, ap, sym, subst, ◌∙◌, arith, flat_map, length-append}, specs.Prelude.{IsTrue, ◌==◌, ◌≤◌, All}}
use Rattle.std.{specs.List.list_all, proofs.lemmas.List.length-map, proofs.lemmas.List.Elements.{All-head, All-tail}, proofs.lemmas.Slice.Eq.bytes_eq-Decides}
use Rattle.std.proofs.lemmas.Bool.{and_parts, not-true}
use Rattle.gypsy_syntax.{specs.Fits.{FitsDecl, FitsLocal, FitsProcedure}, specs.declared.literal.Decl.Decl, specs.declared.predef.Predef.Predef}
use Rattle.gypsy_syntax.{specs.Keywords.{keyword_name, form_named, predef_named}, specs.Sources.{LocalOf, ProcOf, SourceOf}, specs.Programs.Program}
use Rattle.gypsy_syntax.{specs.Predefined.{predefs, predef_name}, specs.Resolved.{variable_names, variable_types, procedure_names, procedure_named}}
use Rattle.gypsy_syntax.specs.ProgramFits.{Each}
use Rattle.stack_text.{specs.Names.is_name, specs.declared.name.Named.Named, proofs.SharedLaws.{rule_fails, append_none}}
use Rattle.gypsy_syntax.specs.declared.predef.Predef.TheVariants as row
use Rattle.gypsy_check.{specs.Declarations.{is_predefined, variables_of, repeats}, specs.Rules.{type_breaches, local_breaches, condition_name_breaches}}
use Rattle.gypsy_check.specs.Rules.{size_breaches, statement_breaches, variable_breaches, procedure_breaches, name_breaches, main_breaches, violations}
use Rattle.gypsy_check.{proofs.CleanLaws.{three, four}, proofs.NameLaws.{Found, procedure_found}}
use Rattle.gypsy_codegen.{specs.Text.{program_texts, frame_texts}, proofs.CopyLaws.each_both, proofs.DeclareLaws.{Differ, Unlike, Cross, differ_both}}
use Rattle.gypsy_codegen.proofs.DeclareLaws.{differ_swap, differ_source}

-- closed lists by computing
abbrev pub differ_all : List (List ℕ) → Bool
differ_all [] = true
differ_all (n ∷ names) = list_all (λ m. not (bytes_eq m n)) names && differ_all names

unlike_of : (name : List ℕ) (names : List (List ℕ)) → list_all (λ m. not (bytes_eq m name)) names ≡ true → Unlike name names
unlike_of name [] e = tt
unlike_of name (m ∷ names) e =
    let h = and_parts (not (bytes_eq m name)) (list_all (λ m. not (bytes_eq m name)) names) e in (not-true (bytes_eq m name) h.0, unlike_of name names h.1)

pub differ_of : (names : List (List ℕ)) → differ_all names ≡ true → Differ names
differ_of [] e = tt
differ_of (n ∷ names) e =
    let h = and_parts (list_all (λ m. not (bytes_eq m n)) names) (differ_all names) e in (unlike_of n names h.0, differ_of names h.1)

pub named_at : (names : List (List ℕ)) (b : ℕ) → Each (λ name. IsTrue (is_name name)) names → b < length names → IsTrue (is_name (get_or names b []))
named_at [] b h lt = absurd (omega (arith, lt))
named_at (n ∷ names) zero h lt = h.0
named_at (n ∷ names) (suc b) h lt = named_at names b h.1 (omega (arith, lt))

-- ---- procedures

names_mapped : (procs : List ProcOf) → map (λ n. n.name) (map (λ p. p.name) procs) ≡ map (λ p. p.name.name) procs
names_mapped [] = refl
names_mapped (p ∷ procs) = ap (λ z. p.name.name ∷ z) (names_mapped procs)

-- a name that isn't predefined is unlike each that is
is_predefined_name : (r : Predef) → is_predefined (predef_name r) ≡ true
unfolding keyword_name form_named predef_named
is_predefined_name row.MgSimpleVariableAssignment = refl
is_predefined_name r = refl

unlike_predef : (name : List ℕ) (r : Predef) → is_predefined name ≡ false → bytes_eq (predef_name r) name ≡ false
unlike_predef name r e = by_test (bytes_eq (predef_name r) name) refl
  where
    by_test : (t : Bool) → bytes_eq (predef_name r) name ≡ t → t ≡ false
    by_test true f = absurd (true≢false (sym (is_predefined_name r) ∙ ap is_predefined ((bytes_eq-Decides (predef_name r) name).0 f) ∙ e))
    by_test false f = refl

unlike_predefs : (name : List ℕ) (rs : List Predef) → is_predefined name ≡ false → Unlike name (map predef_name rs)
unlike_predefs name [] e = tt
unlike_predefs name (r ∷ rs) e = (unlike_predef name r e, unlike_predefs name rs e)

cross_predefs : (procs : List ProcOf) → flat_map name_breaches procs ≡ [] → Cross (map (λ p. p.name.name) procs) (map predef_name predefs)
cross_predefs [] e = tt
cross_predefs (p ∷ procs) e =
    let k = append_none (name_breaches p) (flat_map name_breaches procs) e in
    (unlike_predefs p.name.name predefs (rule_fails (is_predefined p.name.name) p.name.place 2 k.0), cross_predefs procs k.1)

-- what the rules leave
pub record Kept (s : SourceOf) : Type 0 where
  pub main : Found (procedure_names s) s.main.name
  pub names : Differ (program_texts s)
  pub procs : flat_map (procedure_breaches s) s.procs ≡ []

pub kept : (s : SourceOf) → violations s ≡ [] → Kept s
unfolding violations
kept s e =
    let h = four (repeats 1 [] (map (λ p. p.name) s.procs)) (main_breaches s) (flat_map name_breaches s.procs) (flat_map (procedure_breaches s) s.procs) e in
    record {
      main = procedure_found s.procs _ (rule_fails (is_none (procedure_named s s.main.name)) s.main.place 3 h.1);
      names =
          differ_both (procedure_names s) (map predef_name predefs) (subst Differ (names_mapped s.procs) (differ_source 1 [] (map (λ p. p.name) s.procs) h.0))
          (differ_of (map predef_name predefs) refl) (cross_predefs s.procs h.2);
      procs = h.3;
    }

-- ---- variables

formal_names : (ds : List Decl) → map (λ n. n.name) (map (λ d. d.name) ds) ≡ map (λ d. d.name.name) ds
formal_names [] = refl
formal_names (d ∷ ds) = ap (λ z. d.name.name ∷ z) (formal_names ds)

local_names : (ls : List LocalOf) → map (λ n. n.name) (map (λ l. l.decl.name) ls) ≡ map (λ l. l.decl.name.name) ls
local_names [] = refl
local_names (l ∷ ls) = ap (λ z. l.decl.name.name ∷ z) (local_names ls)

name_append : (a b : List Named) → map (λ n. n.name) (a ++ b) ≡ map (λ n. n.name) a ++ map (λ n. n.name) b
name_append [] b = refl
name_append (n ∷ a) b = ap (λ z. n.name ∷ z) (name_append a b)

variables_named : (p : ProcOf) → map (λ n. n.name) (variables_of p) ≡ variable_names p
variables_named p =
    name_append (map (λ d. d.name) p.formals) (map (λ l. l.decl.name) p.locals)
    ∙ ap (λ z. z ++ map (λ n. n.name) (map (λ l. l.decl.name) p.locals)) (formal_names p.formals)
    ∙ ap (λ z. map (λ d. d.name.name) p.formals ++ z) (local_names p.locals)

variables_differ : (s : SourceOf) (p : ProcOf) → procedure_breaches s p ≡ [] → Differ (variable_names p)
variables_differ s p e =
    let h = four (variable_breaches p) (condition_name_breaches p) (size_breaches p) (statement_breaches s p false p.body) e in
    let k = three (repeats 4 [] (variables_of p)) (flat_map type_breaches (variable_types p)) (flat_map local_breaches p.locals) h.0 in
    subst Differ (variables_named p) (differ_source 4 [] (variables_of p) k.0)

-- the frame has the variables' names, once each
pub frame_differs : (s : SourceOf) (q : Program) (i : ℕ) (p : ProcOf) → procedure_breaches s p ≡ [] → Differ (frame_texts q i p)
frame_differs s q i p e = by_main (i == q.main) (variables_differ s p e)
  where
    by_main : (b : Bool) → Differ (variable_names p) → Differ
        (cond b (variable_names p) (map (λ l. l.decl.name.name) p.locals ++ map (λ d. d.name.name) p.formals))
    by_main true d = d
    by_main false d = differ_swap (map (λ d. d.name.name) p.formals) (map (λ l. l.decl.name.name) p.locals) d

each_parts : {X : Type 0} (P : X → Type 0) (a b : List X) → Each P (a ++ b) → Each P a × Each P b
each_parts P [] b h = (tt, h)
each_parts P (x ∷ a) b h = let k = each_parts P a b h.1 in ((h.0, k.0), k.1)

each_swap : {X : Type 0} (P : X → Type 0) (a b : List X) → Each P a → Each P b → Each P (b ++ a)
each_swap P a [] h k = h
each_swap P a (x ∷ b) h k = (k.0, each_swap P a b h k.1)

pub frame_named : (q : Program) (i : ℕ) (p : ProcOf) → Each (λ name. IsTrue (is_name name)) (variable_names p)
    → Each (λ name. IsTrue (is_name name)) (frame_texts q i p)
frame_named q i p e = by_main (i == q.main)
  where
    by_main : (b : Bool) → Each (λ name. IsTrue (is_name name))
        (cond b (variable_names p) (map (λ l. l.decl.name.name) p.locals ++ map (λ d. d.name.name) p.formals))
    by_main true = e
    by_main false =
        let h = each_parts (λ name. IsTrue (is_name name)) (map (λ d. d.name.name) p.formals) (map (λ l. l.decl.name.name) p.locals) e in
        each_swap (λ name. IsTrue (is_name name)) (map (λ d. d.name.name) p.formals) (map (λ l. l.decl.name.name) p.locals) h.0 h.1

pub frame_count : (q : Program) (i : ℕ) (p : ProcOf) → length (frame_texts q i p) ≡ length p.formals + length p.locals
frame_count q i p = by_main (i == q.main)
  where
    by_main : (b : Bool) → length (cond b (variable_names p) (map (λ l. l.decl.name.name) p.locals ++ map (λ d. d.name.name) p.formals))
        ≡ length p.formals + length p.locals
    by_main true =
        omega (
          arith,
          length-append (map (λ d. d.name.name) p.formals) (map (λ l. l.decl.name.name) p.locals),
          length-map p.formals (λ d. d.name.name),
          length-map p.locals (λ l. l.decl.name.name),
        )
    by_main false =
        omega (
          arith,
          length-append (map (λ l. l.decl.name.name) p.locals) (map (λ d. d.name.name) p.formals),
          length-map p.formals (λ d. d.name.name),
          length-map p.locals (λ l. l.decl.name.name),
        )

-- ---- the form

-- what the form of a procedure says of its names and counts
pub record ProcForm (p : ProcOf) : Type 0 where
  pub name : IsTrue (is_name p.name.name)
  pub variables : Each (λ name. IsTrue (is_name name)) (variable_names p)
  pub few_variables : length p.formals + length p.locals ≤ 200
  pub few_conds : length p.conds + length p.local_conds ≤ 200

each_named : {X : Type 0} (P : X → Type 0) (name : X → List ℕ) → ((x : X) → P x → IsTrue (is_name (name x))) → (xs : List X) → All P xs
    → Each (λ name. IsTrue (is_name name)) (map name xs)
each_named P name h [] a = tt
each_named P name h (x ∷ xs) a = (h x (All-head P x xs a), each_named P name h xs (All-tail P x xs a))

proc_form : (p : ProcOf) → FitsProcedure p → ProcForm p
proc_form p f = record {
  name = f.name;
  variables = each_both (λ name. IsTrue (is_name name)) (map (λ d. d.name.name) p.formals) (map (λ l. l.decl.name.name) p.locals)
      (each_named FitsDecl (λ d. d.name.name) (λ d h. h.name) p.formals f.formals)
      (each_named FitsLocal (λ l. l.decl.name.name) (λ l h. h.decl.name) p.locals f.locals);
  few_variables = f.few_variables;
  few_conds = f.few_conds;
}

pub procs_form : (procs : List ProcOf) → All FitsProcedure procs → Each ProcForm procs
procs_form [] a = tt
procs_form (p ∷ procs) a = (proc_form p (All-head FitsProcedure p procs a), procs_form procs (All-tail FitsProcedure p procs a))
