-- The command `big`: builds and runs a large source, without the shelf.
use Rattle.std.specs.{Prelude.{ℕ, List, length, ◌++◌, codes}, Fmt.{decimal}}
use Rattle.stack_text.specs.{SharedLimits.{most_steps}, Lines.{line}}
use Rattle.gypsy_syntax.specs.{Printed.{gypsy_text}, Sources.{SourceOf}}
use Rattle.gypsy_space.specs.Needs.{stack_sizes}
use Rattle.gypsy_gen.specs.Large.{large_of}
use Rattle.stack_build.specs.Build.{source_built}
use Rattle.command_replies.specs.Replies.{ReplyOf}
use Rattle.stack_commands.specs.Commands.Go.{go_reply}

-- a reply with a text before all that it says
abbrev pub after_text : List ℕ → ReplyOf → ReplyOf
after_text text reply = record reply { said = text ++ reply.said }

-- how many bytes the printed source has
unfoldable pub source_line : ℕ → ℕ → List ℕ
source_line number procedures = line (codes "source " ++ decimal (length (gypsy_text (large_of number procedures))))

-- what `go` replies to a source, on the value 0, with 64 words for each stack and a budget of 2^40
unfoldable pub go_on_source : SourceOf → ReplyOf
go_on_source source = go_reply (source_built source (stack_sizes 64 64) 0) (codes "((x 0))") most_steps

-- the same of the large source, after that line
unfoldable pub big_reply : ℕ → ℕ → ReplyOf
big_reply number procedures = after_text (source_line number procedures) (go_on_source (large_of number procedures))
