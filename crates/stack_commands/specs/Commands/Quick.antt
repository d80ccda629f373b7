-- The command `quick`: it refuses what `build` refuses, and stores the quick image in place of the plain one, if the source has one.
use Rattle.std.specs.Prelude.{ℕ, List, Option, Some, None, Result, Ok, Err}
use Rattle.stack_text.specs.Results.{◌>>=◌}
use Rattle.fm_image.specs.{Image.{ImageOf}, Spelling.{spelling}}
use Rattle.gypsy_space.specs.Needs.{stack_sizes}
use Rattle.stack_build.specs.{declared.fault.BuildFault.{BuildFault}, Build.{accepted_source, source_built}}
use Rattle.quick_generate.specs.Quickened.{quickened}
use Rattle.command_replies.specs.Replies.{ReplyOf, verdict_alone, built_reply}
use Rattle.stack_commands.specs.Commands.SourceText.{build_verdict}

-- what `build` makes of a text, quickened
unfoldable pub quick_built : List ℕ → ℕ → ℕ → Result ImageOf BuildFault
quick_built text control temporary = do
  source ← accepted_source text
  plain ← source_built source (stack_sizes control temporary) 0
  Ok (quickened source (stack_sizes control temporary) plain.image)

-- what is stored
abbrev pub quick_stored : Result ImageOf BuildFault → Option (List ℕ)
quick_stored (Err fault) = None
quick_stored (Ok image) = Some (spelling image)

-- how many words the image's window has
abbrev pub quick_reply : Result ImageOf BuildFault → ReplyOf
quick_reply (Err fault) = verdict_alone (build_verdict fault)
quick_reply (Ok image) = built_reply image.size
