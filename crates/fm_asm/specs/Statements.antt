-- Statements.
use Rattle.std.specs.{Prelude.{ℕ, List, Option, Some, None, if◌then◌else◌, codes, option_map}, Str.{bytes_eq}}
use Rattle.stack_text.specs.Options.{◌>>=◌}
use Rattle.fm_asm.specs.declared.statement.Statement as declared
use Rattle.fm_asm.specs.declared.statement.Statement.TheVariants as variants
use Rattle.fm_asm.specs.{declared.statement.Directive.{Directive}, Cuts.{split_once}, Values.{Value, value_of, decimal_in, value_in}}
use Rattle.fm_asm.specs.Instructions.{instruction_in}
use Rattle.fm_asm.specs.declared.statement.Directive.TheVariants as directive

-- a statement; an instruction is its word, and what is out of its range is `None`: a number, or an instruction by its immediate
pub data Statement : Type 0 where
  base : Option ℕ → Statement
  size : Option ℕ → Statement
  final : Value → Statement
  start : Value → Statement
  word : Value → Statement
  instruction : Option ℕ → Statement

-- what clauses see of a `Statement`
abbrev pub statement_of : declared.Statement → Statement
statement_of (variants.Base n) = base n
statement_of (variants.Size n) = size n
statement_of (variants.Final v) = final (value_of v)
statement_of (variants.Start v) = start (value_of v)
statement_of (variants.Word v) = word (value_of v)
statement_of (variants.Instruction n) = instruction n

-- the directive that a first word names
unfoldable pub directive_named : List ℕ → Option Directive
directive_named name =
    if bytes_eq name (codes ".base") then Some directive.Base
    else (if bytes_eq name (codes ".size") then Some directive.Size
    else (if bytes_eq name (codes ".final") then Some directive.Final
    else (if bytes_eq name (codes ".start") then Some directive.Start
    else (if bytes_eq name (codes ".word") then Some directive.Word else None))))

-- the statement of a directive and the word after it
unfoldable pub directed : Directive → List ℕ → Option Statement
directed directive.Base argument = option_map base (decimal_in argument)
directed directive.Size argument = option_map size (decimal_in argument)
directed directive.Final argument = option_map final (value_in argument)
directed directive.Start argument = option_map start (value_in argument)
directed directive.Word argument = option_map word (value_in argument)

-- the statement of a first word, which names a directive or begins an instruction, and of what stands after the space
unfoldable pub by_directive : Option Directive → List ℕ → List ℕ → Option Statement
by_directive (Some d) head rest = directed d rest
by_directive None head rest = option_map instruction (instruction_in head rest)

-- the statement of a text: its first word ends at the first space (32)
unfoldable pub statement_in : List ℕ → Option Statement
statement_in text = do
  parts ← split_once 32 text
  by_directive (directive_named parts.0) parts.0 parts.1
