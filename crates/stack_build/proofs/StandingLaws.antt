-- The processor stands for Piton's machine at every step of it.
use Rattle.std.proofs.Common.{map, refl, sym, subst}
use Rattle.fm_machine.specs.State.{Fm}
use Rattle.piton_check.specs.Instruction.{SystemView}
use Rattle.piton_semantics.{proofs.ReadyLaws.end_fits, specs.Step.run_cost}
use Rattle.piton_linker.specs.Theorem.{ComesToStand, PitonRunsOnProcessor}
use Rattle.gypsy_codegen.{specs.Acceptable.GeneratedIsAcceptable, specs.Generated.generated_view, specs.WordsOf.{words_of_values, zero_value}}
use Rattle.gypsy_semantics.specs.Calls.{main_start}
use Rattle.gypsy_syntax.{specs.Programs.{Program, proc_at}, specs.Resolved.program_of}
use Rattle.stack_build.{specs.StandsForPiton.{opened_on, GeneratedImageStandsForPiton}, proofs.Initial.is_initial, proofs.MainLaws.zero_values}
use Rattle.stack_build.proofs.MomentLaws.{loaded_is}

-- from the theorem of the linker
pub images_stand : GeneratedIsAcceptable → PitonRunsOnProcessor → GeneratedImageStandsForPiton
unfolding main_start
images_stand acceptable piton_runs s sizes base accepted limits small v j a fits runs =
    let q : Program = program_of s in
    let S : SystemView = generated_view q sizes base in
    let sound = (acceptable s sizes base accepted limits).sound in
    let theorem = piton_runs S sound small in
    let p = proc_at q q.main in
    let here = accepted.fits.procs q.main in
    let initial = is_initial S p.formals (map zero_value p.formals) v p.locals (zero_values p.formals here.formals) fits here.locals refl in
    subst (λ (m : Fm). ComesToStand S m (run_cost S j (opened_on S s v)) a)
    (sym (loaded_is s sizes base accepted sound theorem (end_fits S sound.low_base small) v fits))
    (theorem (words_of_values (main_start q v)) j a initial runs)
