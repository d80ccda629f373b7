-- The roles in which commands read files.
use Rattle.std.specs.Prelude.{ℕ, Bool, true, false}
use Rattle.stack_text.specs.SharedLimits.{most_text, most_image_file}
use Rattle.command_line.specs.{declared.role.Role.{Role}, declared.role.Role.TheVariants.{Source, Piton, Image, Values, Script, Assembly}}
use Rattle.command_line.specs.declared.role.Role.TheVariants.{Certificate, Infix, TaskSource, TaskValues, QuickImage, SessionImage}

-- the bytes of a text of Piton
abbrev pub most_piton_text : ℕ
most_piton_text = 16777216

-- the most bytes of a file that is read in this role
abbrev pub limit_of : Role → ℕ
limit_of Source = most_text
limit_of Piton = most_piton_text
limit_of Image = most_image_file
limit_of Values = most_text
limit_of Script = most_text
limit_of Assembly = most_image_file
limit_of Certificate = most_text
limit_of Infix = most_text
limit_of TaskSource = most_text
limit_of TaskValues = most_text
limit_of QuickImage = most_image_file
limit_of SessionImage = most_image_file

-- the two are one role
abbrev pub is_role : Role → Role → Bool
is_role Source Source = true
is_role Piton Piton = true
is_role Image Image = true
is_role Values Values = true
is_role Script Script = true
is_role Assembly Assembly = true
is_role Certificate Certificate = true
is_role Infix Infix = true
is_role TaskSource TaskSource = true
is_role TaskValues TaskValues = true
is_role QuickImage QuickImage = true
is_role SessionImage SessionImage = true
is_role role other = false
