-- The names that the code keeps are the source's.
use Rattle.std.proofs.Common.{◌≡◌, ℕ, zero, suc, ◌+◌, List, [], ◌∷◌, ◌++◌, map, length, get_or, refl, sym, ap, ◌∙◌, arith, length-append}
use Rattle.std.{proofs.lemmas.List.length-map, proofs.lemmas.Simd.map-map}
use Rattle.gypsy_syntax.{specs.Sources.{LocalOf, ProcOf, SourceOf}, specs.Programs.{Program, no_proc, proc_at}, specs.Resolved.{condition_names, local_value}}
use Rattle.gypsy_syntax.specs.Resolved.{procedure_of, program_of, shape_of, variable_names}
use Rattle.gypsy_space.{specs.Nodes.{seen_proc, seen_program}, specs.declared.program.Program.Program as Code}
use Rattle.gypsy_meaning.{specs.Views.Named.{NamesOf, conditions_of, proc_names, seen_names, shown_names, variables_of}, specs.declared.names.Names.Names}
use Rattle.gypsy_semantics.specs.Views.Shown.{conditions_at, variables_at}

module _ (s : SourceOf) (names : List Names) (same : map seen_names names ≡ map proc_names s.procs) where
  pub variables_same : (p : ℕ) → variables_of names p ≡ variables_at s p
  variables_same p =
      let each : map (λ n. n.variables.items) names ≡ map variable_names s.procs =
      sym (map-map (λ (r : NamesOf). r.variables) seen_names names) ∙ ap (map (λ (r : NamesOf). r.variables)) same
      ∙ map-map (λ (r : NamesOf). r.variables) proc_names s.procs in
      ap (λ rows. get_or rows p []) each

  rows_names : (rows : List ProcOf) (p : ℕ) → get_or (map (λ r. shown_names (condition_names r)) rows) p []
      ≡ shown_names (get_or (map condition_names rows) p [])
  rows_names [] p = refl
  rows_names (r ∷ rows) zero = refl
  rows_names (r ∷ rows) (suc p) = rows_names rows p

  pub conditions_same : (p : ℕ) → conditions_of names p ≡ shown_names (conditions_at s p)
  conditions_same p =
      let each : map (λ n. n.conditions.items) names ≡ map (λ r. shown_names (condition_names r)) s.procs =
      sym (map-map (λ (r : NamesOf). r.conditions) seen_names names) ∙ ap (map (λ (r : NamesOf). r.conditions)) same
      ∙ map-map (λ (r : NamesOf). r.conditions) proc_names s.procs in
      ap (λ rows. get_or rows p []) each ∙ rows_names s.procs p

  pub number_same : (code : Code) → seen_program code ≡ program_of s → length names ≡ length code.procedures.items
  number_same code e =
      let a : length names ≡ length s.procs = sym (length-map names seen_names) ∙ ap length same ∙ length-map s.procs proc_names in
      let b : length code.procedures.items ≡ length s.procs =
      sym (length-map code.procedures.items seen_proc) ∙ ap (λ (q : Program). length q.procs) e ∙ length-map s.procs (procedure_of s) in
      a ∙ sym b

rows_sized : (s : SourceOf) (rows : List ProcOf) (p : ℕ) → let proc = get_or (map (procedure_of s) rows) p no_proc in
    length (get_or (map variable_names rows) p []) ≡ length proc.formals + length proc.locals
rows_sized s [] p = refl
rows_sized s (r ∷ rows) zero =
    let formals = map (λ d. d.name.name) r.formals in
    let locals = map (λ (l : LocalOf). l.decl.name.name) r.locals in
    let a : length formals ≡ length r.formals = length-map r.formals (λ d. d.name.name) in
    let b : length locals ≡ length r.locals = length-map r.locals (λ l. l.decl.name.name) in
    let c : length (map (λ d. shape_of d.shape) r.formals) ≡ length r.formals = length-map r.formals (λ d. shape_of d.shape) in
    let d : length (map local_value r.locals) ≡ length r.locals = length-map r.locals local_value in
    let e : length (formals ++ locals) ≡ length formals + length locals = length-append formals locals in
    omega (arith, a, b, c, d, e)
rows_sized s (r ∷ rows) (suc p) = rows_sized s rows p

-- a procedure has as many variables as names
pub variables_sized : (s : SourceOf) (p : ℕ) → let proc = proc_at (program_of s) p in length (variables_at s p) ≡ length proc.formals + length proc.locals
variables_sized s p = rows_sized s s.procs p
