-- What is known of the main procedure of an accepted source.
use Rattle.std.proofs.Common.{◌≡◌, ◌<◌, ◌≤◌, ◌∙◌, ℕ, zero, suc, pos, false, List, [], ◌∷◌, length, map, flat_map, get_or, slice_get, Option, Some, None, refl}
use Rattle.std.{proofs.Common.{ap, subst, arith}, specs.Prelude.{is_none, All}, specs.Option.unwrap_or, proofs.lemmas.List.{length-map, length-replicate}}
use Rattle.std.proofs.lemmas.List.Elements.{All-head, All-tail}
use Rattle.stack_text.{specs.Names.place_among, specs.declared.shape.Shape.Shape, specs.Values.item_count, proofs.SharedLaws.append_none}
use Rattle.gypsy_syntax.{specs.Sources.{ProcOf, SourceOf}, specs.Programs.{no_proc, proc_at}, specs.Resolved.{procedure_names, procedure_of, program_of}}
use Rattle.gypsy_syntax.{specs.Resolved.procedure_at, specs.ProgramFits.Each, specs.Fits.FitsProcedure, specs.ValuesFit.VarsFit, proofs.FitsLaws.keeps_fits}
use Rattle.gypsy_check.{specs.Accepted.IsAccepted, specs.Rules.procedure_breaches}
use Rattle.gypsy_codegen.{specs.WordsOf.zero_value, proofs.SourceLaws.kept, proofs.SystemLaws.zeros_in_range}
use Rattle.stack_build.specs.Formals.{main_of}

-- it is there, and keeps the form and the rules
pub record IsMain (s : SourceOf) (p : ProcOf) : Type 0 where
  pub found : main_of s ≡ Some p
  pub at : proc_at (program_of s) (program_of s).main ≡ procedure_of s p
  pub form : FitsProcedure p
  pub rules : procedure_breaches s p ≡ []

proc_is : (s : SourceOf) (procs : List ProcOf) (i : ℕ) → i < length procs → (p : ProcOf) × (slice_get procs i ≡ Some p)
    × (get_or (map (procedure_of s) procs) i no_proc ≡ procedure_of s p)
proc_is s [] i lt = absurd (omega (arith, lt))
proc_is s (p ∷ procs) zero lt = (p, refl, refl)
proc_is s (p ∷ procs) (suc i) lt = proc_is s procs i (omega (arith, lt))

form_is : (procs : List ProcOf) (i : ℕ) (p : ProcOf) → All FitsProcedure procs → slice_get procs i ≡ Some p → FitsProcedure p
form_is [] i p h e = absurd cc
form_is (q ∷ procs) zero p h e = let same : q ≡ p = cc in subst FitsProcedure same (All-head FitsProcedure q procs h)
form_is (q ∷ procs) (suc i) p h e = form_is procs i p (All-tail FitsProcedure q procs h) e

rules_are : (s : SourceOf) (procs : List ProcOf) (i : ℕ) (p : ProcOf) → flat_map (procedure_breaches s) procs ≡ [] → slice_get procs i ≡ Some p
    → procedure_breaches s p ≡ []
rules_are s [] i p h e = absurd cc
rules_are s (q ∷ procs) zero p h e =
    let same : q ≡ p = cc in
    subst (λ (r : ProcOf). procedure_breaches s r ≡ []) same (append_none (procedure_breaches s q) (flat_map (procedure_breaches s) procs) h).0
rules_are s (q ∷ procs) (suc i) p h e = rules_are s procs i p (append_none (procedure_breaches s q) (flat_map (procedure_breaches s) procs) h).1 e

pub main_is : (s : SourceOf) → IsAccepted s → (p : ProcOf) × IsMain s p
unfolding main_of
main_is s accepted =
    let k = kept s accepted.rules in
    by_place (place_among s.main.name (procedure_names s)) refl k.main
  where
    by_place : (o : Option ℕ) → place_among s.main.name (procedure_names s) ≡ o → is_none o ≡ false → (p : ProcOf) × IsMain s p
    by_place None e h = absurd cc
    by_place (Some i) e h =
        let here : (program_of s).main ≡ i = ap (λ (o : Option ℕ). unwrap_or o 0) e in
        let main = accepted.fits.main in
        let count : length (program_of s).procs ≡ length s.procs = length-map s.procs (procedure_of s) in
        let f = proc_is s s.procs i (omega (arith, main, here, count)) in
        let form = keeps_fits s accepted.form in
        let k = kept s accepted.rules in (
          f.0,
          record {
            found = ap (procedure_at s.procs) e ∙ f.1;
            at = ap (λ (j : ℕ). get_or (program_of s).procs j no_proc) here ∙ f.2;
            form = form_is s.procs i f.0 form.procs f.1;
            rules = rules_are s s.procs i f.0 k.procs f.1;
          },
        )

-- values of zeros fit
pub zero_values : (shapes : List Shape) → Each (λ s. s.length ≤ 4096) shapes → VarsFit shapes (map zero_value shapes)
zero_values [] h = tt
zero_values (s ∷ shapes) h =
    (refl, record { few = h.0; number = length-replicate (item_count s) (pos 0); items = zeros_in_range s.kind (item_count s) }, zero_values shapes h.1)
