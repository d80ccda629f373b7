-- Calls and procedures that are made one after the other.
use Rattle.std.proofs.Common.{◌≡◌, ◌+◌, ◌-◌, ◌<◌, ◌≤◌, ℕ, suc, List, [], ◌∷◌, ◌++◌, map, sym, ap, ◌∙◌, append-nil, arith}
use Rattle.stack_text.proofs.SharedLaws.{seen_more}
use Rattle.gypsy_syntax.specs.Sources.{StmtOf, ProcOf}
use Rattle.gypsy_gen.{specs.Parts.call_of, specs.Large.{next_state, procedure, procedures_from, calls_from}}

pub call_more : {X : Type 0} (see : X → StmtOf) (items new : List X) (x : X) (index size : ℕ) (all : List StmtOf) → index < size + 1
    → new ≡ items ++ x ∷ [] → see x ≡ call_of index → map see items ++ calls_from index (size + 1 - index) ≡ all
    → map see new ++ calls_from (index + 1) (size + 1 - (index + 1)) ≡ all
unfolding calls_from
call_more see items new x index size all lt pushed is so_far =
    let count : size + 1 - index ≡ suc (size + 1 - (index + 1)) = omega arith in
    seen_more see items new x (call_of index) (calls_from (index + 1) (size + 1 - (index + 1))) all pushed is
    (ap (λ n. map see items ++ calls_from index n) (sym count) ∙ so_far)

pub calls_done : {X : Type 0} (see : X → StmtOf) (items : List X) (index size : ℕ) (all : List StmtOf) → size + 1 ≤ index
    → map see items ++ calls_from index (size + 1 - index) ≡ all → map see items ≡ all
unfolding calls_from
calls_done see items index size all past so_far =
    let count : size + 1 - index ≡ 0 = omega arith in
    sym (append-nil (map see items)) ∙ ap (λ n. map see items ++ calls_from index n) (sym count) ∙ so_far

pub procedure_more : {X : Type 0} (see : X → ProcOf) (items new : List X) (x : X) (index state next size : ℕ) (all : List ProcOf) → index < size + 1
    → new ≡ items ++ x ∷ [] → next ≡ next_state state → see x ≡ procedure index next
    → map see items ++ procedures_from index state (size + 1 - index) ≡ all
    → map see new ++ procedures_from (index + 1) next (size + 1 - (index + 1)) ≡ all
unfolding procedures_from
procedure_more see items new x index state next size all lt pushed steps is so_far =
    let count : size + 1 - index ≡ suc (size + 1 - (index + 1)) = omega arith in
    seen_more see items new x (procedure index next) (procedures_from (index + 1) next (size + 1 - (index + 1))) all pushed is
    (ap (λ s. map see items ++ procedure index s ∷ procedures_from (index + 1) s (size + 1 - (index + 1))) steps
    ∙ ap (λ n. map see items ++ procedures_from index state n) (sym count) ∙ so_far)

pub procedures_done : {X : Type 0} (see : X → ProcOf) (items : List X) (index state size : ℕ) (all : List ProcOf) → size + 1 ≤ index
    → map see items ++ procedures_from index state (size + 1 - index) ≡ all → map see items ≡ all
unfolding procedures_from
procedures_done see items index state size all past so_far =
    let count : size + 1 - index ≡ 0 = omega arith in
    sym (append-nil (map see items)) ∙ ap (λ n. map see items ++ procedures_from index state n) (sym count) ∙ so_far
