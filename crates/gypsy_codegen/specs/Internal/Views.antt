-- What clauses see of the generator's types, and what its code needs.
use Rattle.std.specs.Prelude.{◌≡◌, ℕ, suc, ◌+◌, ◌<◌, ◌≤◌, pos, List, [], ◌∷◌, ◌++◌, map, length, Option, Some, None, option_map, ◌^◌}
use Rattle.stack_text.specs.{declared.shape.Shape.{Shape}, Values.{ValueOf}, Grammar.Printed.{unplaced}}
use Rattle.piton_words.specs.{declared.word.Word.{Word}, declared.word.Word.TheVariants.{Nat}}
use Rattle.piton_syntax.specs.{declared.argument.ArgText.{ArgText}, declared.op.PitonOp.{PitonOp}, declared.word_text.WordText.{WordText}}
use Rattle.piton_syntax.specs.Systems.{InstrOf, AreaOf, new_area}
use Rattle.piton_syntax.specs.declared.argument.ArgText.TheVariants as arg
use Rattle.piton_syntax.specs.declared.op.PitonOp.TheVariants as op
use Rattle.piton_syntax.specs.declared.test_kind.TestKind.TheVariants as test
use Rattle.piton_syntax.specs.declared.word_text.WordItem.TheVariants as item
use Rattle.piton_check.specs.Instruction.{Instruction}
use Rattle.gypsy_syntax.specs.{Predefined.{predefs}, Programs.{Program, Proc, Arg, Var, Lit, proc_at, shapes_of, body_of, Stmt, Skip, NoOp}}
use Rattle.gypsy_syntax.specs.{Programs.{Signal, Seq, Loop, If, Begin, Call, Apply}, Sources.{ProcOf}, ProgramFits.{Each, ProgramFits}}
use Rattle.gypsy_space.specs.{declared.need.Need.{Need}, Events.{AreNeeds, AreSmall}, Needs.{vars_of}, Nodes.{seen_cond, seen_program}}
use Rattle.gypsy_predef.specs.Texts.{instruction, constant, of_name, condition_area, number}
use Rattle.gypsy_codegen.specs.{declared.context.Context.{Context}, declared.context.Scopes.{Scopes, Outside, InLoop', InBegin'}}
use Rattle.gypsy_codegen.specs.{WordsOf.{words_of_values, number_of_way, zero_value}, Generated.{Scope, InLoop, InBegin, offset}}
use Rattle.gypsy_codegen.specs.{Generated.{push_indices}, Lines.{unmarked, labels, lines}, Text.{names_by, frame_texts}, Written.{Names}}
use Rattle.gypsy_codegen.specs.Written.{label_name, label_arg, written_word, written}

-- the names with which a procedure is written
abbrev pub names_of : Context → Names
names_of c = names_by c.programs.now c.locals.now

-- the names that words of values are written with: none
abbrev pub nameless : Names
nameless = names_by [] []

-- the program that a context's procedure is of
abbrev pub program_in : Context → Program
program_in c = seen_program c.program.now

-- words of values, as a text has them
abbrev pub word_texts : List Word → List WordText
word_texts ws = map (written_word nameless) ws

-- an instruction that may have a label
abbrev pub labelled : Option ℕ → PitonOp → List ArgText → InstrOf
labelled label op args = instruction (option_map label_name label) op args

-- instructions without labels, as the text of a context's procedure has them
abbrev pub code_in : Context → List Instruction → List InstrOf
code_in c code = map (written (names_of c)) (unmarked code)

abbrev pub env : Scopes → List Scope
env Outside = []
env (InLoop' behind p outer) = InLoop behind ∷ env outer
env (InBegin' handled handler p outer) = InBegin (map seen_cond handled.now.conds.now) handler ∷ env outer

-- the lines of a statement whose first label is this one, as the text of a context's procedure has them
abbrev pub statement_text : Context → Scopes → ℕ → Stmt → List InstrOf
statement_text c scopes first s = map (written (names_of c)) (lines (program_in c) c.procedure (env scopes) first s)

-- the program fits, and each procedure's needs are known, each variable's shape, and the name of each word of the frame and of
-- each program
pub record IsReady (c : Context) : Type 0 where
  pub fits : ProgramFits (seen_program c.program.now)
  pub needs : AreNeeds (seen_program c.program.now) c.needs.now.procedures.items
  pub small : AreSmall c.needs.now.procedures.items
  pub shapes : c.shapes.now ≡ shapes_of (proc_at (seen_program c.program.now) c.procedure)
  pub locals : length c.locals.now ≡ vars_of (proc_at (seen_program c.program.now) c.procedure)
  pub programs : length c.programs.now ≡ length (seen_program c.program.now).procs + length predefs

-- a variable has a word in the frame
abbrev pub HasWord : Program → ℕ → ℕ → Type 0
HasWord q p b = offset q p b < vars_of (proc_at q p)

abbrev pub ArgHasWord : Program → ℕ → Arg → Type 0
ArgHasWord q p (Var b) = HasWord q p b
ArgHasWord q p (Lit v) = Unit {0}

-- the variables and procedures that a statement of procedure p names are there
abbrev pub NamesAreThere : Program → ℕ → Stmt → Type 0
NamesAreThere q p Skip = Unit {0}
NamesAreThere q p (NoOp place) = Unit {0}
NamesAreThere q p (Signal place c) = Unit {0}
NamesAreThere q p (Seq a b) = NamesAreThere q p a × NamesAreThere q p b
NamesAreThere q p (Loop place s) = NamesAreThere q p s
NamesAreThere q p (If place b s w) = HasWord q p b × NamesAreThere q p s × NamesAreThere q p w
NamesAreThere q p (Begin place s cs w) = NamesAreThere q p s × NamesAreThere q p w
NamesAreThere q p (Call place c xs cs) = (c < length q.procs) × Each (HasWord q p) xs
NamesAreThere q p (Apply place r args) = Each (ArgHasWord q p) args

-- a condition is raised: the number that is put into `c-c`, where the first instruction may have a label, and the target
abbrev pub raise_text : Option ℕ → ℕ → ℕ → List InstrOf
raise_text label n target =
    constant (option_map label_name label) (item.Nat (number (pos n))) ∷ of_name op.PopGlobal condition_area ∷
    instruction None op.Jump (label_arg target ∷ []) ∷ []

-- half of a guard: the words that an instruction pushes as free ones, compared with a need, and fewer go to a label
abbrev pub half_guard : PitonOp → ℕ → ℕ → List InstrOf
half_guard free need to =
    instruction None free [] ∷ constant None (item.Nat (number (pos need))) ∷ instruction None op.LtNat [] ∷
    instruction None op.TestBoolAndJump (arg.Test test.T ∷ label_arg to ∷ []) ∷ []

-- the push of a word
abbrev pub word_constant : WordText → InstrOf
word_constant w = instruction None op.PushConstant (arg.Word w ∷ [])

-- the pushes of the words of values
abbrev pub local_constants : List ValueOf → List InstrOf
local_constants x = map word_constant (word_texts (words_of_values x))

-- the pushes of the indices of locals
abbrev pub index_text : ℕ → ℕ → ℕ → List Shape → List InstrOf
index_text l k o shapes = map (written nameless) (unmarked (push_indices l k o shapes))

-- the condition is normal again, from a label on
abbrev pub normal_text : ℕ → List InstrOf
normal_text label =
    constant (Some (label_name label)) (item.Nat (number (pos (number_of_way None)))) ∷ of_name op.PopGlobal condition_area ∷ []

-- all that a procedure's code names is there, and its labels are few
pub record IsWritable (q : Program) (programs : List (List ℕ)) (p : ℕ) (proc : ProcOf) : Type 0 where
  pub fits : ProgramFits q
  pub there : p < length q.procs
  pub programs_known : length programs ≡ length q.procs + length predefs
  pub frame : length (frame_texts q p proc) ≡ vars_of (proc_at q p)
  pub names : NamesAreThere q p (body_of q p)
  pub few_labels : 2 + labels (body_of q p) < 2 ^ 32

abbrev pub AreWritable : Program → List (List ℕ) → ℕ → List ProcOf → Type 0
AreWritable q programs p [] = Unit {0}
AreWritable q programs p (proc ∷ procs) = IsWritable q programs p proc × AreWritable q programs (suc p) procs

-- the stack at the start, where this procedure is main
abbrev pub opening_text : Proc → List WordText
opening_text p = word_texts (words_of_values (map zero_value p.formals ++ p.locals))

-- the one area
abbrev pub area_text : AreaOf
area_text = new_area 0 (unplaced condition_area) (written_word nameless (Nat (number_of_way None)) ∷ [])

-- the words of code of procedures together
abbrev pub words_together : List Need → ℕ
words_together [] = 0
words_together (need ∷ needs) = need.code_words + words_together needs

-- the code of each takes at most 2^50 words
abbrev pub AreModest : List Need → Type 0
AreModest needs = Each (λ need. need.code_words ≤ 2 ^ 50) needs
