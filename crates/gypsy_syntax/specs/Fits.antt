-- The form of a source in plain words: names are names, what must not be empty isn't, a value is simple or a list of simple
-- values, numbers have 128 bits, and all counts are within the limits.
use Rattle.std.specs.Prelude.{◌+◌, ◌<◌, ◌≤◌, ℤ, length, Option, Some, None, All}
use Rattle.stack_text.specs.{SharedLimits.{most_declared, most_procedures}, Grammar.Parts.{IsNamed}, Numerals.{IsNatural, IsNumber}}
use Rattle.gypsy_syntax.specs.{declared.literal.Decl.{Decl}, Sizes.{nesting}, Sources.{LiteralOf, LiteralsOf, integer, truth, character}}
use Rattle.gypsy_syntax.specs.Sources.{array, no_items, item, ArgOf, variable, constant, StmtOf, StmtsOf, no_op, signal, seq, loop, branch}
use Rattle.gypsy_syntax.specs.Sources.{begin, call, predef, no_parts, part, LocalOf, ProcOf, SourceOf}

-- the length of an array, if there is one
abbrev pub FitsLength : Option ℤ → Type 0
FitsLength None = Unit {0}
FitsLength (Some n) = IsNumber n

-- a simple value
abbrev pub FitsSimple : LiteralOf → Type 0
FitsSimple (integer place number) = IsNumber number
FitsSimple (truth place b) = Unit {0}
FitsSimple (character place code) = IsNatural code
FitsSimple (array place items) = ⊥

abbrev pub AllSimple : LiteralsOf → Type 0
AllSimple no_items = Unit {0}
AllSimple (item l ls) = FitsSimple l × AllSimple ls

-- a simple value, or a list of simple values
abbrev pub FitsLiteral : LiteralOf → Type 0
FitsLiteral (integer place number) = FitsSimple (integer place number)
FitsLiteral (truth place b) = FitsSimple (truth place b)
FitsLiteral (character place code) = FitsSimple (character place code)
FitsLiteral (array place items) = AllSimple items

-- a variable, or a simple value
abbrev pub FitsArgument : ArgOf → Type 0
FitsArgument (variable n) = IsNamed n
FitsArgument (constant l) = FitsSimple l

pub record FitsDecl (d : Decl) : Type 0 where
  pub name : IsNamed d.name
  pub length : FitsLength d.shape.length

pub record FitsLocal (l : LocalOf) : Type 0 where
  pub decl : FitsDecl l.decl
  pub value : FitsLiteral l.value

abbrev mutual
  -- a sequence has a part or more, and a handler a condition or more
  pub FitsStatement : StmtOf → Type 0
  FitsStatement (no_op place) = Unit {0}
  FitsStatement (signal place cond) = IsNamed cond
  FitsStatement (seq place no_parts) = ⊥
  FitsStatement (seq place (part s ss)) = FitsStatement s × FitsStatements ss
  FitsStatement (loop place body) = FitsStatement body
  FitsStatement (branch place test s t) = IsNamed test × FitsStatement s × FitsStatement t
  FitsStatement (begin place body conds arm) = FitsStatement body × (0 < length conds) × All IsNamed conds × FitsStatement arm
  FitsStatement (call place callee xs_place xs cs_place cs) = IsNamed callee × All IsNamed xs × All IsNamed cs
  FitsStatement (predef place which args) = All FitsArgument args

  pub FitsStatements : StmtsOf → Type 0
  FitsStatements no_parts = Unit {0}
  FitsStatements (part s ss) = FitsStatement s × FitsStatements ss

-- with the lists of the source and of the procedure no more than 200 lists nest
pub record FitsProcedure (p : ProcOf) : Type 0 where
  pub name : IsNamed p.name
  pub formals : All FitsDecl p.formals
  pub conds : All IsNamed p.conds
  pub locals : All FitsLocal p.locals
  pub local_conds : All IsNamed p.local_conds
  pub body : FitsStatement p.body
  pub few_variables : length p.formals + length p.locals ≤ most_declared
  pub few_conds : length p.conds + length p.local_conds ≤ most_declared
  pub shallow : nesting p.body ≤ 198

pub record FitsForm (s : SourceOf) : Type 0 where
  pub main : IsNamed s.main
  pub procs : All FitsProcedure s.procs
  pub some_procs : 0 < length s.procs
  pub few_procs : length s.procs ≤ most_procedures
