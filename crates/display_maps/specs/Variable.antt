-- The variables of a reading, as they are handed to be printed.
use Rattle.display_maps.specs.{declared.printing.Variable.{Variable}, Report.{VariableOf}}

-- what clauses see of a `Variable`
abbrev pub variable_of_line : Variable → VariableOf
variable_of_line variable = record { name = variable.name.now; shape = variable.shape; items = variable.items.now }
