-- Statements are read from what they are written as.
use Rattle.std.{proofs.Common.{◌≡◌, ℕ, ◌==◌, true, false, List, ◌∷◌, ◌++◌, Option, Some, None, option_map, refl, ap, ◌∙◌, codes}, proofs.lemmas.Bool.and_from}
use Rattle.fm_words.{specs.declared.operation.Op.Op, specs.declared.operation.Op.TheVariants.{Move, Inc, Addc, Add, Neg, Dec, Subb, Sub, Ror, Asr, Lsr, Xor}}
use Rattle.fm_words.{specs.declared.operation.Op.TheVariants.{Or, And, Not, M15}, specs.declared.condition.Cc.Cc, specs.declared.condition.Flags.Flags}
use Rattle.fm_show.specs.Disassembly.{place_text}
use Rattle.fm_asm.{specs.Cuts.{cut, split_once}, specs.Statements.{Statement, base, size, final, start, word, instruction, directive_named, directed}}
use Rattle.fm_asm.{specs.Statements.{by_directive, statement_in}, specs.Assembly.{SpellsInstruction, SpellsStatement, says_base, says_size, says_final}}
use Rattle.fm_asm.{specs.Assembly.{says_start, says_word, says_instruction}, proofs.CutLaws.{lacks, lacks-append, split_once-append}}
use Rattle.fm_asm.{proofs.ValueLaws.{decimal_written, value_written, value_colonless, digits_lack}, proofs.InstructionLaws.{head_text, operands_text}}
use Rattle.fm_asm.proofs.InstructionLaws.{regrouped, instruction_read, head_spaceless, head_colonless, place_lacks, operand_colonless}

-- no instruction begins as a directive does
no_directive : (op : Op) (k : Cc) (f : Flags) → directive_named (head_text op k f) ≡ None
unfolding directive_named head_text
no_directive Move k f = refl
no_directive Inc k f = refl
no_directive Addc k f = refl
no_directive Add k f = refl
no_directive Neg k f = refl
no_directive Dec k f = refl
no_directive Subb k f = refl
no_directive Sub k f = refl
no_directive Ror k f = refl
no_directive Asr k f = refl
no_directive Lsr k f = refl
no_directive Xor k f = refl
no_directive Or k f = refl
no_directive And k f = refl
no_directive Not k f = refl
no_directive M15 k f = refl

instruction_split : (text : List ℕ) (w : Option ℕ) (i : SpellsInstruction text w)
    → split_once 32 text ≡ Some (head_text i.op i.condition i.set, operands_text i.mode i.reg i.operand)
instruction_split text w i = cc (
  i.text_is,
  regrouped i.op i.condition i.set i.mode i.reg i.operand,
  split_once-append 32 (head_text i.op i.condition i.set) (operands_text i.mode i.reg i.operand) (head_spaceless i.op i.condition i.set),
)

instruction_statement : (text : List ℕ) (w : Option ℕ) → SpellsInstruction text w → statement_in text ≡ Some (instruction w)
unfolding statement_in by_directive
instruction_statement text w i =
    rw (instruction_split text w i)
    (rw (no_directive i.op i.condition i.set) (ap (option_map instruction) (instruction_read text w i)))

pub statement_read : (text : List ℕ) (s : Statement) → SpellsStatement text s → statement_in text ≡ Some s
unfolding statement_in by_directive directive_named directed cut split_once
statement_read _ _ (says_base digits h) = ap (option_map base) (decimal_written digits h)
statement_read _ _ (says_size digits h) = ap (option_map size) (decimal_written digits h)
statement_read _ _ (says_final text v h) = ap (option_map final) (value_written text v h)
statement_read _ _ (says_start text v h) = ap (option_map start) (value_written text v h)
statement_read _ _ (says_word text v h) = ap (option_map word) (value_written text v h)
statement_read _ _ (says_instruction text w i) = instruction_statement text w i

-- ---- a statement's text has no `:`, and begins with no space

pub record IsStatementText (text : List ℕ) : Type 0 where
  pub colonless : lacks 58 text ≡ true
  pub first : ℕ
  pub rest : List ℕ
  pub begins : text ≡ first ∷ rest
  pub spaceless : (first == 32) ≡ false

directive_text : (front : List ℕ) (argument : List ℕ) → lacks 58 (46 ∷ front) ≡ true → lacks 58 argument ≡ true → IsStatementText (46 ∷ front ++ argument)
directive_text front argument a b =
    record { colonless = lacks-append 58 (46 ∷ front) argument a b; first = 46; rest = front ++ argument; begins = refl; spaceless = refl }

pub record BeginsWell (text : List ℕ) : Type 0 where
  pub first : ℕ
  pub rest : List ℕ
  pub begins : text ≡ first ∷ rest
  pub spaceless : (first == 32) ≡ false

pub head_begins : (op : Op) (k : Cc) (f : Flags) (more : List ℕ) → BeginsWell (head_text op k f ++ more)
unfolding head_text
head_begins Move k f more = record { first = 77; rest = _; begins = refl; spaceless = refl }
head_begins Inc k f more = record { first = 73; rest = _; begins = refl; spaceless = refl }
head_begins Addc k f more = record { first = 65; rest = _; begins = refl; spaceless = refl }
head_begins Add k f more = record { first = 65; rest = _; begins = refl; spaceless = refl }
head_begins Neg k f more = record { first = 78; rest = _; begins = refl; spaceless = refl }
head_begins Dec k f more = record { first = 68; rest = _; begins = refl; spaceless = refl }
head_begins Subb k f more = record { first = 83; rest = _; begins = refl; spaceless = refl }
head_begins Sub k f more = record { first = 83; rest = _; begins = refl; spaceless = refl }
head_begins Ror k f more = record { first = 82; rest = _; begins = refl; spaceless = refl }
head_begins Asr k f more = record { first = 65; rest = _; begins = refl; spaceless = refl }
head_begins Lsr k f more = record { first = 76; rest = _; begins = refl; spaceless = refl }
head_begins Xor k f more = record { first = 88; rest = _; begins = refl; spaceless = refl }
head_begins Or k f more = record { first = 79; rest = _; begins = refl; spaceless = refl }
head_begins And k f more = record { first = 65; rest = _; begins = refl; spaceless = refl }
head_begins Not k f more = record { first = 78; rest = _; begins = refl; spaceless = refl }
head_begins M15 k f more = record { first = 77; rest = _; begins = refl; spaceless = refl }

instruction_text_is : (text : List ℕ) (w : Option ℕ) → SpellsInstruction text w → IsStatementText text
unfolding operands_text
instruction_text_is text w i =
    let split = i.text_is ∙ regrouped i.op i.condition i.set i.mode i.reg i.operand in
    let start = head_begins i.op i.condition i.set _ in
    let operands : lacks 58 (place_text i.mode i.reg ++ 44 ∷ i.operand) ≡ true =
    lacks-append 58 (place_text i.mode i.reg) _ (place_lacks 58 i.mode i.reg refl refl i.register)
    (and_from _ _ refl (operand_colonless i.operand i.a i.operand_is)) in
    let all : lacks 58 (head_text i.op i.condition i.set ++ 32 ∷ operands_text i.mode i.reg i.operand) ≡ true =
    lacks-append 58 (head_text i.op i.condition i.set) _ (head_colonless i.op i.condition i.set) (and_from _ _ refl operands) in
    record { colonless = ap (lacks 58) split ∙ all; first = start.first; rest = start.rest; begins = split ∙ start.begins; spaceless = start.spaceless }

pub statement_text : (text : List ℕ) (s : Statement) → SpellsStatement text s → IsStatementText text
statement_text _ _ (says_base digits h) = directive_text (codes "base ") digits refl (digits_lack 58 digits refl h)
statement_text _ _ (says_size digits h) = directive_text (codes "size ") digits refl (digits_lack 58 digits refl h)
statement_text _ _ (says_final text v h) = directive_text (codes "final ") text refl (value_colonless text v h)
statement_text _ _ (says_start text v h) = directive_text (codes "start ") text refl (value_colonless text v h)
statement_text _ _ (says_word text v h) = directive_text (codes "word ") text refl (value_colonless text v h)
statement_text _ _ (says_instruction text w i) = instruction_text_is text w i
