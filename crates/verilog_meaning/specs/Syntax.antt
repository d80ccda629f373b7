-- The few forms of Verilog in which a circuit is printed, and how they are written.
use Rattle.std.specs.{Prelude.{ℕ, ◌-◌, ◌==◌, List, [], ◌∷◌, ◌++◌, codes, nat_lt, if◌then◌else◌}, List.{flat_map}, Fmt.{decimal}}

-- an expression: a number of so many bits, an integer, a name, some bits of a name, and a word of a memory; and the operators
pub data Expression : Type 0 where
  Number : ℕ → ℕ → Expression
  Integer : ℕ → Expression
  Named : List ℕ → Expression
  Part : List ℕ → ℕ → ℕ → Expression
  Word : List ℕ → Expression → Expression
  Join : Expression → Expression → Expression
  Inverse : Expression → Expression
  Not : Expression → Expression
  Sum : Expression → Expression → Expression
  Equal : Expression → Expression → Expression
  And : Expression → Expression → Expression
  Xor : Expression → Expression → Expression
  Or : Expression → Expression → Expression
  Both : Expression → Expression → Expression
  Choice : Expression → Expression → Expression → Expression

-- a name that is declared, with its width in bits
pub record Signal : Type 0 where
  pub name : List ℕ
  pub width : ℕ

-- a declaration of a wire, a register or a memory of so many words; a file of a memory's first words; an assignment; and what a register,
-- or under a condition a word of a memory, takes at each rising edge of the clock
pub data Item : Type 0 where
  Wire : Signal → Item
  Register : Signal → Item
  Memory : Signal → ℕ → Item
  Begins : List ℕ → List ℕ → Item
  Assign : List ℕ → Expression → Item
  Clocked : List ℕ → Expression → Item
  Stored : Expression → List ℕ → Expression → Expression → Item

-- a module, with a parameter that is a file's name
pub record Module : Type 0 where
  pub name : List ℕ
  pub parameter : List ℕ
  pub file : List ℕ
  pub inputs : List Signal
  pub outputs : List Signal
  pub items : List Item

-- how tightly the operator of an expression binds: `?:`, `&&`, `|`, `^`, `&`, `==`, `+`, those of one operand, and what has none
abbrev pub binding : Expression → ℕ
binding (Choice c e f) = 1
binding (Both e f) = 2
binding (Or e f) = 3
binding (Xor e f) = 4
binding (And e f) = 5
binding (Equal e f) = 6
binding (Sum e f) = 7
binding (Not e) = 8
binding (Inverse e) = 8
binding e = 9

-- the text of an operand, in brackets where it binds less tightly than this
abbrev pub operand_text : ℕ → Expression → List ℕ → List ℕ
operand_text least e text = if nat_lt (binding e) least then codes "(" ++ text ++ codes ")" else text

-- The text of an expression. Operators of two operands go from the left to the right, a choice from the right.
abbrev pub written : Expression → List ℕ
written (Number width value) = decimal width ++ codes "'d" ++ decimal value
written (Integer value) = decimal value
written (Named name) = name
written (Part name high low) = name ++ codes "[" ++ decimal high ++ codes ":" ++ decimal low ++ codes "]"
written (Word name at) = name ++ codes "[" ++ written at ++ codes "]"
written (Join e f) = codes "{" ++ written e ++ codes ", " ++ written f ++ codes "}"
written (Inverse e) = codes "~" ++ operand_text 9 e (written e)
written (Not e) = codes "!" ++ operand_text 9 e (written e)
written (Sum e f) = operand_text 7 e (written e) ++ codes " + " ++ operand_text 8 f (written f)
written (Equal e f) = operand_text 6 e (written e) ++ codes " == " ++ operand_text 7 f (written f)
written (And e f) = operand_text 5 e (written e) ++ codes " & " ++ operand_text 6 f (written f)
written (Xor e f) = operand_text 4 e (written e) ++ codes " ^ " ++ operand_text 5 f (written f)
written (Or e f) = operand_text 3 e (written e) ++ codes " | " ++ operand_text 4 f (written f)
written (Both e f) = operand_text 2 e (written e) ++ codes " && " ++ operand_text 3 f (written f)
written (Choice c e f) =
    operand_text 2 c (written c) ++ codes " ? " ++ operand_text 2 e (written e) ++ codes " : " ++ operand_text 1 f (written f)

-- `[31:0] ir`
abbrev pub signal_text : Signal → List ℕ
signal_text s = codes "[" ++ decimal (s.width - 1) ++ codes ":0] " ++ s.name

-- the line of an item
abbrev pub item_text : Item → List ℕ
item_text (Wire s) = codes "wire " ++ signal_text s ++ codes ";\n"
item_text (Register s) = codes "reg " ++ signal_text s ++ codes ";\n"
item_text (Memory s count) = codes "reg " ++ signal_text s ++ codes " [0:" ++ decimal (count - 1) ++ codes "];\n"
item_text (Begins parameter name) = codes "initial $readmemh(" ++ parameter ++ codes ", " ++ name ++ codes ");\n"
item_text (Assign name e) = codes "assign " ++ name ++ codes " = " ++ written e ++ codes ";\n"
item_text (Clocked name e) = codes "always @(posedge clk) " ++ name ++ codes " <= " ++ written e ++ codes ";\n"
item_text (Stored c name at e) =
    codes "always @(posedge clk) if (" ++ written c ++ codes ") " ++ name ++ codes "[" ++ written at ++ codes "] <= " ++ written e
    ++ codes ";\n"

-- `input reset` or `input [31:0] bus_read`
abbrev pub port_text : List ℕ → Signal → List ℕ
port_text kind s = kind ++ (if s.width == 1 then s.name else signal_text s)

-- ports with commas between them
abbrev pub ports_text : List ℕ → List Signal → List ℕ
ports_text kind [] = []
ports_text kind (s ∷ []) = port_text kind s
ports_text kind (s ∷ t ∷ ports) = port_text kind s ++ codes ", " ++ ports_text kind (t ∷ ports)

-- the text of a module; `clk`, the clock, is its first input
abbrev pub module_text : Module → List ℕ
module_text m =
    codes "module " ++ m.name ++ codes " #(parameter " ++ m.parameter ++ codes " = \"" ++ m.file ++ codes "\") (\n"
    ++ codes "  input clk, " ++ ports_text (codes "input ") m.inputs ++ codes ",\n"
    ++ codes "  " ++ ports_text (codes "output ") m.outputs ++ codes ");\n"
    ++ flat_map item_text m.items
    ++ codes "endmodule\n"
