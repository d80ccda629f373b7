-- Large sources.
use Rattle.std.specs.Prelude.{ℕ, zero, suc, ◌+◌, ◌*◌, ◌%◌, ◌^◌, List, [], ◌∷◌, codes}
use Rattle.stack_text.specs.Grammar.Printed.{unplaced}
use Rattle.gypsy_syntax.specs.{Made.{new_seq, new_proc, new_source}, Sources.{ProcOf, SourceOf, StmtOf}}
use Rattle.gypsy_gen.specs.Parts.{procedure_name, formal, local, call_of, body_of, body}

-- the state of the generator after this one
unfoldable pub next_state : ℕ → ℕ
next_state state = (1664525 * state + 1013904223) % 2 ^ 32

-- a procedure, by its number and the state of the generator
abbrev pub procedure : ℕ → ℕ → ProcOf
procedure index state =
    new_proc 0 (unplaced (procedure_name index)) (formal ∷ []) [] (local (state % 1000) ∷ []) [] (body (body_of state))

-- so many procedures from a number on, where the state before the first of them is this
unfoldable pub procedures_from : ℕ → ℕ → ℕ → List ProcOf
procedures_from index state zero = []
procedures_from index state (suc count) = procedure index (next_state state) ∷ procedures_from (index + 1) (next_state state) count

-- the calls of so many procedures from a number on
unfoldable pub calls_from : ℕ → ℕ → List StmtOf
calls_from index zero = []
calls_from index (suc count) = call_of index ∷ calls_from (index + 1) count

abbrev pub main_procedure : ℕ → ProcOf
main_procedure size = new_proc 0 (unplaced (codes "main")) (formal ∷ []) [] [] [] (new_seq 0 (calls_from 1 size))

-- the source of a number and a size
abbrev pub large_of : ℕ → ℕ → SourceOf
large_of number size = new_source 0 (unplaced (codes "main")) (main_procedure size ∷ procedures_from 1 number size)
