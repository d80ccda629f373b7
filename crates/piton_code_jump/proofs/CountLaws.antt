-- A checked system has few places and few locals.
use Rattle.std.{proofs.Common.{◌≡◌, ℕ, ◌+◌, ◌<◌, ◌≤◌, Some, sym, subst, arith}, specs.Prelude.◌^◌, proofs.lemmas.Option.slice_get_within}
use Rattle.piton_check.{specs.PitonChecking.{CheckedOf, IsChecked}, specs.Instruction.{Instruction, SystemView, system_view}, specs.Resolved.ResolvedOf}
use Rattle.piton_check.specs.Sound.{IsSound}
use Rattle.piton_semantics.{specs.State.{program_of, instruction_at, variables_of}, specs.Fits.system_in, proofs.SoundLaws.known}

pub next_fits : (s : SystemView) → IsSound s → (program place : ℕ) (instruction : Instruction) → instruction_at s program place ≡ Some instruction
    → place + 1 < 2 ^ 32
next_fits s sound program place instruction e =
    let few = (known s sound).lengths program in
    let within = slice_get_within (program_of s program).instructions place instruction e in
    omega arith

pub checked_few : (c : CheckedOf) (r : ResolvedOf) (program : ℕ) → r ≡ c.resolved → IsChecked c → variables_of (system_view r) program ≤ 400
checked_few c r program same h =
    subst (λ (u : ResolvedOf). variables_of (system_view u) program ≤ 400) (sym same) ((known (system_in c) h.sound).variables program)
