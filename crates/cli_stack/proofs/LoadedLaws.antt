-- A machine that is loaded with the image of a linked system is the placed machine.
use Rattle.std.proofs.Common.{◌≡◌, ℕ, List, [], ap}
use Rattle.fm_words.specs.Code.{no_flags}
use Rattle.fm_loader.specs.Loaded as loader
use Rattle.piton_check.{specs.PitonChecking.{CheckedOf, IsChecked}, specs.Instruction.SystemView}
use Rattle.piton_semantics.{specs.Fits.system_in, specs.Placed.{placed, loaded}, proofs.SizeLaws.length-placed, proofs.SoundLaws.known}
use Rattle.stack_build.{specs.Image.linked_image, proofs.Windows.all_stand}

-- the loaded machine is the placed one
pub image_loaded : (c : CheckedOf) → IsChecked c → loader.loaded (linked_image (system_in c)) [] ≡ loaded (system_in c) (system_in c).stack
image_loaded c is =
    let s : SystemView = system_in c in
    let all = all_stand s.base (placed s).size (placed s).words (length-placed s (known s is.sound)) in
    ap (λ (memory : List ℕ). record { base = s.base; registers = (placed s).registers; flags = no_flags; memory = memory }) all
