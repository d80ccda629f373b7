-- Parts of a large source, with 0 in all their places.
use Rattle.std.specs.{Prelude.{ℕ, pos, ◌/◌, ◌%◌, ◌==◌, if◌then◌else◌, List, [], ◌∷◌, codes}, Fmt.{decimal}}
use Rattle.stack_text.specs.{Grammar.Printed.{unplaced}, declared.shape.Kind.TheVariants.{Integer}}
use Rattle.gypsy_syntax.specs.{declared.literal.Decl.{Decl}, declared.predef.Predef.TheVariants.{MgIntegerAdd, MgIntegerSubtract}}
use Rattle.gypsy_syntax.specs.{declared.predef.Predef.TheVariants.{MgIntegerUnaryMinus, MgSimpleVariableAssignment}, Made.{new_simple}}
use Rattle.gypsy_syntax.specs.{Made.{new_decl, new_local, new_seq, new_call, new_predef}, Sources.{integer, ArgOf, variable, LocalOf}}
use Rattle.gypsy_syntax.specs.Sources.{StmtOf, no_op}
use Rattle.gypsy_gen.specs.{declared.parts.Variable.{Variable}, declared.parts.Variable.TheVariants.{X, C}, declared.body.Body.{Body}}
use Rattle.gypsy_gen.specs.declared.body.Body.TheVariants.{Add, Subtract, Minus, Assign}

-- `p7`
abbrev pub procedure_name : ℕ → List ℕ
procedure_name index = 112 ∷ decimal index

abbrev pub name_of : Variable → List ℕ
name_of X = codes "x"
name_of C = codes "c"

abbrev pub argument : Variable → ArgOf
argument v = variable (unplaced (name_of v))

-- `(x integer)`
abbrev pub formal : Decl
formal = new_decl (unplaced (name_of X)) (new_simple 0 Integer)

-- `(c integer 748)`
abbrev pub local : ℕ → LocalOf
local number = new_local (unplaced (name_of C)) (new_simple 0 Integer) (integer 0 (pos number))

-- `(call p7 (x) ())`
abbrev pub call_of : ℕ → StmtOf
call_of index = new_call 0 0 0 (unplaced (procedure_name index)) (unplaced (name_of X) ∷ []) []

-- what a state of the generator makes a procedure do
unfoldable pub body_of : ℕ → Body
body_of state =
    let rest = state / 65536 % 4 in
    if rest == 0 then Add else (if rest == 1 then Subtract else (if rest == 2 then Minus else Assign))

-- `(mg-integer-add x x c)`, `(mg-integer-subtract x x c)`, `(mg-integer-unary-minus x x)`, and
-- `(seq (no-op) (mg-simple-variable-assignment x c))`
abbrev pub body : Body → StmtOf
body Add = new_predef 0 MgIntegerAdd (argument X ∷ argument X ∷ argument C ∷ [])
body Subtract = new_predef 0 MgIntegerSubtract (argument X ∷ argument X ∷ argument C ∷ [])
body Minus = new_predef 0 MgIntegerUnaryMinus (argument X ∷ argument X ∷ [])
body Assign = new_seq 0 (no_op 0 ∷ new_predef 0 MgSimpleVariableAssignment (argument X ∷ argument C ∷ []) ∷ [])
