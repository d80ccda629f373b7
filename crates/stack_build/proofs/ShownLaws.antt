-- The main procedure, as it is looked up.
use Rattle.std.proofs.Common.{◌≡◌, ℕ, suc, Bool, true, false, cond, List, [], ◌∷◌, map, Option, Some, None, bytes_eq, refl, sym, ap, ◌∙◌}
use Rattle.std.{specs.Prelude.option_map, specs.List.find}
use Rattle.stack_text.specs.Names.{place_among}
use Rattle.gypsy_syntax.{specs.declared.proc.Proc.Proc, specs.declared.proc.Source.Source, specs.Sources.ProcOf, specs.Views.SourceView.{proc_of, source_of}}
use Rattle.gypsy_syntax.specs.Resolved.{procedure_at}
use Rattle.gypsy_check.proofs.LookupLaws.{place_cons, procedure_past}
use Rattle.stack_build.specs.Formals.{main_of}

none_there : (o : Option ℕ) → procedure_at [] o ≡ None
none_there None = refl
none_there (Some i) = refl

-- the first procedure of a name is the one that is found
named_is : (name : List ℕ) (procs : List ProcOf) → procedure_at procs (place_among name (map (λ (p : ProcOf). p.name.name) procs))
    ≡ find (λ (p : ProcOf). bytes_eq name p.name.name) procs
named_is name [] = none_there (place_among name [])
named_is name (p ∷ procs) =
    ap (procedure_at (p ∷ procs)) (place_cons name p.name.name (map (λ (r : ProcOf). r.name.name) procs))
    ∙ pick (bytes_eq name p.name.name) (named_is name procs)
  where
    pick : (b : Bool) → procedure_at procs (place_among name (map (λ (r : ProcOf). r.name.name) procs))
        ≡ find (λ (r : ProcOf). bytes_eq name r.name.name) procs →
        procedure_at (p ∷ procs) (cond b (Some 0) (option_map suc (place_among name (map (λ (r : ProcOf). r.name.name) procs))))
        ≡ cond b (Some p) (find (λ (r : ProcOf). bytes_eq name r.name.name) procs)
    pick true e = refl
    pick false e = procedure_past p procs (place_among name (map (λ (r : ProcOf). r.name.name) procs)) ∙ e

find_viewed : (name : List ℕ) (procs : List Proc) → option_map proc_of (find (λ (p : Proc). bytes_eq name p.name.name) procs)
    ≡ find (λ (p : ProcOf). bytes_eq name p.name.name) (map proc_of procs)
find_viewed name [] = refl
find_viewed name (p ∷ procs) = pick (bytes_eq name p.name.name) (find_viewed name procs)
  where
    pick : (b : Bool) → option_map proc_of (find (λ (r : Proc). bytes_eq name r.name.name) procs)
        ≡ find (λ (r : ProcOf). bytes_eq name r.name.name) (map proc_of procs) →
        option_map proc_of (cond b (Some p) (find (λ (r : Proc). bytes_eq name r.name.name) procs))
        ≡ cond b (Some (proc_of p)) (find (λ (r : ProcOf). bytes_eq name r.name.name) (map proc_of procs))
    pick true e = refl
    pick false e = e

pub main_found : (source : Source) → option_map proc_of (find (λ (p : Proc). bytes_eq source.main.name p.name.name) source.procs.items)
    ≡ main_of (source_of source)
unfolding main_of
main_found source = find_viewed source.main.name source.procs.items ∙ sym (named_is source.main.name (map proc_of source.procs.items))
