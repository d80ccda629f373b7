-- What a command makes of its texts: what it stores, and what it replies. Watches are handed in, for sessions.
use Rattle.std.specs.Prelude.{ℕ, List, Option, None}
use Rattle.gypsy_space.specs.Needs.{stack_sizes}
use Rattle.stack_build.specs.Build.{built, compiled}
use Rattle.level_debuggers.specs.Tallies.{Watching}
use Rattle.command_line.specs.{declared.command.Command.{Command}, declared.command.Command.TheVariants.{Check, Mean, Pit, Build, Pcheck}}
use Rattle.command_line.specs.declared.command.Command.TheVariants.{Prun, Pbuild, Run, Go, Show, Migrate, Asm, Unasm, Need, Cert, Debug}
use Rattle.command_line.specs.{declared.command.Command.TheVariants.{Pdebug, Idebug, Turns, Big, Mini, Quick}, Gathered.{Texts, text_of}}
use Rattle.command_line.specs.Gathered.{texts_of}
use Rattle.command_line.specs.declared.role.Role.TheVariants as role
use Rattle.command_replies.specs.{Replies.{ReplyOf}, Commands.Pcheck.{pcheck_reply}, Commands.Prun.{prun_reply}}
use Rattle.command_replies.specs.{Commands.Run.{image_file_reply}, Commands.Show.{show_reply}, Commands.Migrate.{migrate_stored}}
use Rattle.command_replies.specs.{Commands.Migrate.{migrate_reply}, Commands.Asm.{asm_stored, asm_reply}, Commands.Unasm.{unasm_stored}}
use Rattle.command_replies.specs.{Commands.Unasm.{unasm_reply}, Commands.Mini.{mini_stored, mini_reply}}
use Rattle.stack_commands.specs.{Commands.Check.{check_reply}, Commands.Mean.{mean_reply}, Commands.Pit.{pit_stored, pit_reply}}
use Rattle.stack_commands.specs.{Commands.Build.{image_stored, build_reply}, Commands.Pbuild.{pbuild_stored, pbuild_reply}}
use Rattle.stack_commands.specs.{Commands.Go.{go_reply}, Commands.Need.{need_stored, need_reply}, Commands.Cert.{cert_reply}}
use Rattle.stack_commands.specs.{Commands.Debug.{debug_reply}, Commands.Turns.{turns_reply}, Commands.Big.{big_reply}}
use Rattle.stack_commands.specs.{Commands.Pdebug.{pdebug_reply}, Commands.Idebug.{idebug_reply}, Commands.Quick.{quick_built, quick_stored}}
use Rattle.stack_commands.specs.Commands.Quick.{quick_reply}

unfoldable pub stored_by : Command → Texts → Option (List ℕ)
stored_by (Pit source control temporary piton) texts = pit_stored (compiled (text_of role.Source texts) control temporary 0)
stored_by (Build source control temporary image) texts = image_stored (built (text_of role.Source texts) control temporary 0)
stored_by (Pbuild piton image) texts = pbuild_stored (text_of role.Piton texts)
stored_by (Go source values control temporary budget image) texts =
    image_stored (built (text_of role.Source texts) control temporary 0)
stored_by (Migrate image output) texts = migrate_stored (text_of role.Image texts)
stored_by (Asm assembly image) texts = asm_stored (text_of role.Assembly texts)
stored_by (Unasm image assembly) texts = unasm_stored (text_of role.Image texts)
stored_by (Need source certificate) texts = need_stored (text_of role.Source texts)
stored_by (Mini program source) texts = mini_stored (text_of role.Infix texts)
stored_by (Quick source control temporary image) texts = quick_stored (quick_built (text_of role.Source texts) control temporary)
stored_by _ texts = None

unfoldable pub reply_by : Command → List Watching → Texts → ReplyOf
reply_by (Check source) watches texts = check_reply (text_of role.Source texts)
reply_by (Mean source values control temporary limit) watches texts =
    mean_reply (text_of role.Source texts) (text_of role.Values texts) control temporary limit
reply_by (Pit source control temporary piton) watches texts = pit_reply piton (compiled (text_of role.Source texts) control temporary 0)
reply_by (Build source control temporary image) watches texts = build_reply (built (text_of role.Source texts) control temporary 0)
reply_by (Pcheck piton) watches texts = pcheck_reply (text_of role.Piton texts)
reply_by (Prun piton limit) watches texts = prun_reply (text_of role.Piton texts) limit
reply_by (Pbuild piton image) watches texts = pbuild_reply (text_of role.Piton texts)
reply_by (Run image values budget) watches texts = image_file_reply (text_of role.Image texts) (text_of role.Values texts) budget
reply_by (Go source values control temporary budget image) watches texts =
    go_reply (built (text_of role.Source texts) control temporary 0) (text_of role.Values texts) budget
reply_by (Show image) watches texts = show_reply (text_of role.Image texts)
reply_by (Migrate image output) watches texts = migrate_reply output (text_of role.Image texts)
reply_by (Asm assembly image) watches texts = asm_reply (text_of role.Assembly texts)
reply_by (Unasm image assembly) watches texts = unasm_reply assembly (text_of role.Image texts)
reply_by (Need source certificate) watches texts = need_reply (text_of role.Source texts)
reply_by (Cert source certificate control temporary) watches texts =
    cert_reply (text_of role.Source texts) (text_of role.Certificate texts) control temporary
reply_by (Debug level source values control temporary script) watches texts =
    debug_reply level (text_of role.Source texts) (text_of role.Values texts) control temporary (text_of role.Script texts) watches
reply_by (Pdebug piton script) watches texts = pdebug_reply (text_of role.Piton texts) (text_of role.Script texts) watches
reply_by (Idebug image values script) watches texts =
    idebug_reply (text_of role.SessionImage texts) (text_of role.Values texts) (text_of role.Script texts) watches
reply_by (Turns turn budget control temporary tasks) watches texts =
    turns_reply turn budget (stack_sizes control temporary) (texts_of role.TaskSource texts) (texts_of role.TaskValues texts)
reply_by (Big number procedures) watches texts = big_reply number procedures
reply_by (Mini program source) watches texts = mini_reply source (text_of role.Infix texts)
reply_by (Quick source control temporary image) watches texts = quick_reply (quick_built (text_of role.Source texts) control temporary)
