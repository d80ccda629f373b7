-- Exit statuses and their numbers.
use Rattle.std.specs.{Prelude.{ℕ, Result, Ok, Err}, IoError.{error_kind}, declared.io.Error.{Error as IoError}}
use Rattle.std.specs.declared.io.ErrorKind.{ErrorKind}
use Rattle.std.specs.declared.io.ErrorKind.TheVariants as kind
use Rattle.command_line.specs.{declared.status.Status.{Status}, declared.status.Status.TheVariants.{Done, Usage, Refused, Values, Image}}
use Rattle.command_line.specs.declared.status.Status.TheVariants.{Unfinished, Outside, Error, Missing, ShelfFault, SinkFault, Size, Script}
use Rattle.command_line.specs.declared.status.Status.TheVariants.{OutOfMemory, NotPlain, Recursive, Certificate, NoWords}

abbrev pub status_code : Status → ℕ
status_code Done = 0
status_code Usage = 1
status_code Refused = 2
status_code Values = 3
status_code Image = 4
status_code Unfinished = 5
status_code Outside = 6
status_code Error = 8
status_code Missing = 9
status_code ShelfFault = 10
status_code SinkFault = 11
status_code Size = 12
status_code Script = 13
status_code OutOfMemory = 14
status_code NotPlain = 16
status_code Recursive = 17
status_code Certificate = 18
status_code NoWords = 19

-- the status where the words can't be read, by the kind of the error
abbrev pub status_without_words : ErrorKind → Status
status_without_words kind.OutOfMemory = OutOfMemory
status_without_words kind = NoWords

-- the exit status of the program
abbrev pub exit_code : Result ℕ IoError → ℕ
exit_code (Ok code) = code
exit_code (Err error) = status_code (status_without_words (error_kind error))
