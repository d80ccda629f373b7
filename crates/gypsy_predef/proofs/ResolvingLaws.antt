-- The texts of the bodies keep the form and the rules, and mean the programs.
use Rattle.std.{proofs.Common.{◌≡◌, ℕ, ◌+◌, ◌++◌, List, [], map, length, Option, Some, refl, ap, ◌∙◌}, specs.Prelude.slice_get, specs.Option.option_map}
use Rattle.std.proofs.lemmas.Option.{slice_get-map}
use Rattle.stack_text.{specs.declared.breach.Breach.Breach, proofs.SharedLaws.get_after}
use Rattle.piton_syntax.specs.Systems.{ProgramOf, SystemOf}
use Rattle.piton_syntax.specs.Operations as operations
use Rattle.piton_check.{specs.Resolved.{resolved, resolved_program}, specs.Declarations.{area_names, first_of}, specs.Violations.program_breaches}
use Rattle.piton_check.specs.Instruction.{ProgramView, program_view, system_view}
use Rattle.gypsy_syntax.{specs.declared.predef.Predef.Predef, specs.Predefined.predef_number}
use Rattle.gypsy_syntax.specs.declared.predef.Predef.TheVariants as row
use Rattle.gypsy_predef.{specs.Bodies.body_of, specs.Texts.{body_text, body_texts, condition_area}, specs.Resolving.{BodiesResolve, BodiesStandResolved}}
use Rattle.gypsy_predef.{specs.Resolving.{BodiesKeepRules, DoTheirCalls, DoTheirRows}, proofs.CallLaws.calls, proofs.RowLaws.runs}

-- with the area's position beside it, which not all of the bodies name
resolve_there : (s : SystemOf) (r : Predef) → first_of (area_names s) condition_area ≡ Some 0 →
    ◌≡◌ {A = Option ℕ × ProgramView} (first_of (area_names s) condition_area, program_view (resolved_program s (body_text r))) (Some 0, body_of r)
unfolding operations.row_of
resolve_there s row.MgSimpleVariableAssignment h = rw h refl
resolve_there s r h = rw h refl

pub resolve : BodiesResolve
resolve s r h = ap (λ b. b.1) (resolve_there s r h)

text_number : (r : Predef) → slice_get body_texts (predef_number r) ≡ Some (body_text r)
text_number row.MgSimpleVariableAssignment = refl
text_number r = refl

pub stand_resolved : BodiesStandResolved
stand_resolved s programs r e h =
    let view = λ (p : ProgramOf). program_view (resolved_program s p) in
    let there : slice_get s.programs (length programs + predef_number r) ≡ Some (body_text r) =
    ap (λ (ps : List ProgramOf). slice_get ps (length programs + predef_number r)) e ∙ get_after programs body_texts (predef_number r) ∙ text_number r in
    slice_get-map program_view (map (resolved_program s) s.programs) (length programs + predef_number r)
    ∙ ap (option_map program_view) (slice_get-map (resolved_program s) s.programs (length programs + predef_number r)
    ∙ ap (option_map (resolved_program s)) there)
    ∙ ap Some (resolve s r h)

pub do_rows : (texts : List ProgramOf) → texts ≡ body_texts → DoTheirRows texts
do_rows texts same s programs r k args stack f fs p ends area at fits =
    let last : s.programs ≡ programs ++ body_texts = ends ∙ ap (λ (ps : List ProgramOf). programs ++ ps) same in
    runs (system_view (resolved s)) (length programs) r k args stack f fs p (stand_resolved s programs r last area) at fits

pub do_calls : (texts : List ProgramOf) → texts ≡ body_texts → DoTheirCalls texts
do_calls texts same s programs target r k args f fs p ends area at =
    let last : s.programs ≡ programs ++ body_texts = ends ∙ ap (λ (ps : List ProgramOf). programs ++ ps) same in
    calls (system_view (resolved s)) (length programs) target r k args f fs p (stand_resolved s programs r last area) at

keep_there : (s : SystemOf) (r : Predef) → first_of (area_names s) condition_area ≡ Some 0 →
    ◌≡◌ {A = Option ℕ × List Breach} (first_of (area_names s) condition_area, program_breaches s (body_text r)) (Some 0, [])
unfolding operations.row_of
keep_there s row.MgSimpleVariableAssignment h = rw h refl
keep_there s r h = rw h refl

pub keep_rules : BodiesKeepRules
keep_rules s r h = ap (λ b. b.1) (keep_there s r h)
