-- What reading a text returns: its program, or what is wrong with it.
use Rattle.std.specs.Prelude.{◌≡◌, ℕ, ◌≤◌, List, [], length, Some, Result, Ok, Err}
use Rattle.stack_text.specs.{declared.breach.Breach.{Breach}, Breaches.{least}}
use Rattle.mini_syntax.specs.{declared.fault.MiniFault.{MiniFault}, declared.fault.MiniFault.TheVariants.{Refused, Memory}}
use Rattle.mini_syntax.specs.{declared.program.InfixProgram.{InfixProgram}, Breaches.{body_of, breaches, declared_of}, Faults.{AreFree}}
use Rattle.mini_syntax.specs.{Faults.{IsTextFault}, Grammar.{IsProgram}, Lawful.{IsLawful}, ProgramView.{block_in}, Spelled.{program_bytes}}
use Rattle.mini_syntax.specs.Tokens.{tokens_in}
use Rattle.mini_syntax.specs.Grammar as grammar

-- the text is the program, and none of its tokens breaks a rule
pub record IsRead (text : List ℕ) (p : grammar.InfixProgram) : Type 0 where
  pub program : IsProgram text p
  pub free : AreFree (tokens_in text)

-- and no name, operand or number
pub record IsFaultless (text : List ℕ) (p : grammar.InfixProgram) : Type 0 where
  pub read : IsRead text p
  pub clean : breaches p ≡ []

-- what is wrong with a text: the fault of its tokens, or the least breach of its program
pub data IsFault (text : List ℕ) (rule place : ℕ) : Type 0 where
  of_tokens : IsTextFault text rule place → IsFault text rule place
  of_program : (p : grammar.InfixProgram) → IsRead text p → least (breaches p) ≡ Some record { place = place; rule = rule } →
      IsFault text rule place

-- the text has no fault, and is this program, which keeps the rules and is no longer than the text
pub record ReadsText (text : List ℕ) (program : InfixProgram) : Type 0 where
  pub tree : grammar.InfixProgram
  pub faultless : IsFaultless text tree
  pub declared : program.declared.items ≡ declared_of tree
  pub body : block_in program.body.items ≡ body_of tree
  pub lawful : IsLawful (declared_of tree) (body_of tree)
  pub short : program_bytes (declared_of tree) (body_of tree) ≤ length text

-- a text is a program that breaks no rule, or has a fault
pub data TextReading (text : List ℕ) : Type 0 where
  faultless : (program : grammar.InfixProgram) → IsFaultless text program → TextReading text
  faulty : (breach : Breach) → IsFault text breach.rule breach.place → TextReading text

-- an error is the text's fault; out of memory comes only where memory was refused
abbrev pub RefusesTextUnless : {X : Type 0} → Type 0 → List ℕ → Result X MiniFault → Type 0
RefusesTextUnless refused text (Ok x) = Unit {0}
RefusesTextUnless refused text (Err Memory) = refused
RefusesTextUnless refused text (Err (Refused rule place)) = IsFault text rule place
