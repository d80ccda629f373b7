-- How many bytes the tokens of a program have at least.
use Rattle.std.specs.Prelude.{ℕ, ◌+◌, List, [], ◌∷◌, map, length, max, Some, if◌then◌else◌}
use Rattle.mini_syntax.specs.{declared.program.Declared.{Declared}, Language.{Exp, Variable, Number, Truth, Before, Between, Stmt, Nothing}}
use Rattle.mini_syntax.specs.{Language.{Then, Assign, While, If}, Lawful.{nth_name}, Names.{spelling}, Tokens.{Token, name_at, number_at}}
use Rattle.mini_syntax.specs.Tokens.{word_at, mark_at, wrong_at, is_pair}

-- a name has its bytes, a number and an operator one or more, and a truth value four or more
abbrev pub exp_bytes : List (List ℕ) → Exp → ℕ
exp_bytes names (Variable sort i) = length (nth_name names i)
exp_bytes names (Number n) = 1
exp_bytes names (Truth b) = 4
exp_bytes names (Before op e) = 1 + exp_bytes names e
exp_bytes names (Between op a b) = 1 + exp_bytes names a + exp_bytes names b

-- with `:=` and `;`, with `while` and two braces, with `if`, `else` and four braces
abbrev pub stmt_bytes : List (List ℕ) → Stmt → ℕ
stmt_bytes names Nothing = 0
stmt_bytes names (Then s t) = stmt_bytes names s + stmt_bytes names t
stmt_bytes names (Assign i e) = length (nth_name names i) + 3 + exp_bytes names e
stmt_bytes names (While e s) = 7 + exp_bytes names e + stmt_bytes names s
stmt_bytes names (If e s t) = 10 + exp_bytes names e + stmt_bytes names s + stmt_bytes names t

-- with `int` or `bool`, and `;`
abbrev pub declared_bytes : List Declared → ℕ
declared_bytes [] = 0
declared_bytes (d ∷ ds) = length d.name + 4 + declared_bytes ds

abbrev pub program_bytes : List Declared → Stmt → ℕ
program_bytes ds s = declared_bytes ds + stmt_bytes (map (λ d. d.name) ds) s

-- how many bytes tokens have at least, one or more for each but what is no token
abbrev pub token_bytes : Token → ℕ
token_bytes (name_at place bytes) = max 1 (length bytes)
token_bytes (number_at place digits) = max 1 (length digits)
token_bytes (word_at place w) = length (spelling w)
token_bytes (mark_at place m) = if is_pair (Some m) then 2 else 1
token_bytes (wrong_at place) = 0

abbrev pub bytes_of_all : List Token → ℕ
bytes_of_all [] = 0
bytes_of_all (t ∷ ts) = token_bytes t + bytes_of_all ts
