-- That the image which is stored of an assembly text is the one that it spells, and that an assembly text which is stored of an image
-- spells it.
use Rattle.std.specs.Prelude.{◌≡◌, ◌≤◌, ◌<◌, ℕ, List, length, Option, Some, Ok, All, IsTrue}
use Rattle.stack_shelf.specs.Files.{Files, file_at}
use Rattle.fm_image.specs.{Image.{ImageOf}, Reading.{read_of}, Spelling.{Spelled}}
use Rattle.fm_asm.specs.{Assembly.{IsAssembly}, Printing.{is_plain}}
use Rattle.command_line.specs.{declared.command.Command.{Command}, declared.role.Role.TheVariants.{Assembly, Image}, Roles.{limit_of}}
use Rattle.cli_stack.specs.FilesAndSizes.{ReadsFile, StoresFile}

-- the bytes are an image file that can be read again, and spell the image that the assembly text in a file spells
pub record HoldsAssembled (files : Files) (name bytes : List ℕ) : Type 0 where
  pub text : List ℕ
  pub there : file_at files name ≡ Some text
  pub image : ImageOf
  pub assembles : IsAssembly text image
  pub short : length bytes ≤ limit_of Image
  pub spells : Spelled bytes image

-- who reads an assembly text and stores an image stores the one that it spells
abbrev pub StoresAssembled : Command → Files → Option (List ℕ × List ℕ) → Type 0
StoresAssembled command files output =
    (text image stored bytes : List ℕ) → ReadsFile command Assembly text → StoresFile command Image image
    → output ≡ Some (stored, bytes) → HoldsAssembled files text bytes

-- the text spells an image again, and can be read again
pub record SpellsAgain (bytes text : List ℕ) (image : ImageOf) : Type 0 where
  pub spells : Spelled bytes image
  pub assembles : IsAssembly text image
  pub short : length text ≤ limit_of Assembly

-- the image in a file is plain, and the text spells it, since a file has bytes
pub record HoldsAssembly (files : Files) (name text : List ℕ) : Type 0 where
  pub bytes : List ℕ
  pub there : file_at files name ≡ Some bytes
  pub image : ImageOf
  pub read : read_of bytes ≡ Ok image
  pub plain : IsTrue (is_plain image)
  pub again : All (λ byte. byte < 256) bytes → SpellsAgain bytes text image

-- who reads an image and stores an assembly text stores one that spells the image
abbrev pub StoresAssembly : Command → Files → Option (List ℕ × List ℕ) → Type 0
StoresAssembly command files output =
    (image text stored written : List ℕ) → ReadsFile command Image image → StoresFile command Assembly text
    → output ≡ Some (stored, written) → HoldsAssembly files image written

-- both
pub record Assembles (command : Command) (files : Files) (output : Option (List ℕ × List ℕ)) : Type 0 where
  pub images : StoresAssembled command files output
  pub texts : StoresAssembly command files output
