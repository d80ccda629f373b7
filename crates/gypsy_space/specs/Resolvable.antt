-- What positions of 32 bits and values of a shape can hold: a procedure within the limits of the form, with lengths in range
-- and literals that are values.
use Rattle.std.specs.Prelude.{All, IsTrue}
use Rattle.gypsy_syntax.specs.{declared.literal.Decl.{Decl}, Fits.{FitsProcedure}, ValuesFit.{ValueFits}, Resolved.{literal_value}}
use Rattle.gypsy_syntax.specs.{Resolved.{local_value}, Sources.{ArgOf, variable, constant, StmtOf, StmtsOf, no_op, signal, seq, loop}}
use Rattle.gypsy_syntax.specs.Sources.{branch, begin, call, predef, no_parts, part, LocalOf, ProcOf}
use Rattle.gypsy_check.specs.Types.{has_length}

-- a literal that stands as an argument is a value
abbrev pub ConstantFits : ArgOf → Type 0
ConstantFits (variable n) = Unit {0}
ConstantFits (constant l) = ValueFits (literal_value l)

-- each argument of a predefined call in a statement
abbrev mutual
  pub ConstantsFit : StmtOf → Type 0
  ConstantsFit (no_op place) = Unit {0}
  ConstantsFit (signal place cond) = Unit {0}
  ConstantsFit (seq place parts) = PartsFit parts
  ConstantsFit (loop place body) = ConstantsFit body
  ConstantsFit (branch place test s t) = ConstantsFit s × ConstantsFit t
  ConstantsFit (begin place body conds arm) = ConstantsFit body × ConstantsFit arm
  ConstantsFit (call place callee xs_place xs cs_place cs) = Unit {0}
  ConstantsFit (predef place which args) = All ConstantFits args

  pub PartsFit : StmtsOf → Type 0
  PartsFit no_parts = Unit {0}
  PartsFit (part s rest) = ConstantsFit s × PartsFit rest

-- the type's length is in range, and the literal is a value of the type
pub record LocalFits (l : LocalOf) : Type 0 where
  pub length : IsTrue (has_length l.decl.shape.length)
  pub value : ValueFits (local_value l)

pub record IsResolvable (p : ProcOf) : Type 0 where
  pub form : FitsProcedure p
  pub formals : All (λ (d : Decl). IsTrue (has_length d.shape.length)) p.formals
  pub locals : All LocalFits p.locals
  pub constants : ConstantsFit p.body
