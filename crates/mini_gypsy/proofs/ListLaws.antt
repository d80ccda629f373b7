-- Lists that are made item by item.
use Rattle.std.proofs.Common.{◌≡◌, ◌+◌, ◌-◌, ◌<◌, ◌≤◌, ℕ, suc, List, [], ◌∷◌, ◌++◌, drop, get_or, length, map, sym, ap, subst, ◌∙◌, append_assoc, append-nil}
use Rattle.std.{proofs.Common.arith, proofs.lemmas.List.drop_all}
use Rattle.stack_text.{proofs.Loops.drop-item, proofs.SharedLaws.seen_more}
use Rattle.gypsy_syntax.specs.Sources.{LocalOf, StmtOf}
use Rattle.mini_syntax.{specs.declared.program.Statement.Statement, specs.declared.sort.Sort.Sort, specs.ProgramView.{block_in, statement_in}}
use Rattle.mini_syntax.specs.Sorted.{AreFine, depths}
use Rattle.mini_gypsy.specs.Lowered.{locals_from, statement_parts, temporary_local}

pub locals_more : {X : Type 0} (see : X → LocalOf) (items new : List X) (x : X) (s : Sort) (k : ℕ) (all : List LocalOf) → k < depths
    → new ≡ items ++ x ∷ [] → see x ≡ temporary_local s k → map see items ++ locals_from s k (depths - k) ≡ all
    → map see new ++ locals_from s (k + 1) (depths - (k + 1)) ≡ all
unfolding locals_from
locals_more see items new x s k all lt pushed is so_far =
    let count : depths - k ≡ suc (depths - (k + 1)) = omega arith in
    seen_more see items new x (temporary_local s k) (locals_from s (k + 1) (depths - (k + 1))) all pushed is
    (ap (λ n. map see items ++ locals_from s k n) (sym count) ∙ so_far)

pub locals_done : {X : Type 0} (see : X → LocalOf) (items : List X) (s : Sort) (k : ℕ) (all : List LocalOf) → depths ≤ k
    → map see items ++ locals_from s k (depths - k) ≡ all → map see items ≡ all
unfolding locals_from
locals_done see items s k all past so_far =
    let count : depths - k ≡ 0 = omega arith in
    sym (append-nil (map see items)) ∙ ap (λ n. map see items ++ locals_from s k n) (sym count) ∙ so_far

-- statements that are lowered one after another
pub block_next : (ss : List Statement) (k : ℕ) (s : Statement) → k < length ss → s ≡ get_or ss k s → block_in (drop k ss) ≡ block_in (s ∷ drop (k + 1) ss)
block_next ss k s lt is = ap block_in (drop-item ss k s lt is)

pub statements_more : (names : List (List ℕ)) (ss : List Statement) (k : ℕ) (s : Statement) (old new whole : List StmtOf) → k < length ss → s ≡ get_or ss k s
    → new ≡ old ++ statement_parts names (statement_in s) → old ++ statement_parts names (block_in (drop k ss)) ≡ whole
    → new ++ statement_parts names (block_in (drop (k + 1) ss)) ≡ whole
unfolding statement_parts
statements_more names ss k s old new whole lt is made so_far =
    let rest = statement_parts names (block_in (drop (k + 1) ss)) in
    ap (λ (xs : List StmtOf). xs ++ rest) made
    ∙ append_assoc old (statement_parts names (statement_in s)) rest
    ∙ ap (λ (b : _). old ++ statement_parts names b) (sym (block_next ss k s lt is))
    ∙ so_far

pub statements_done : (names : List (List ℕ)) (ss : List Statement) (k : ℕ) (old whole : List StmtOf) → length ss ≤ k
    → old ++ statement_parts names (block_in (drop k ss)) ≡ whole → old ≡ whole
unfolding statement_parts
statements_done names ss k old whole past so_far =
    sym (append-nil old) ∙ ap (λ (xs : List Statement). old ++ statement_parts names (block_in xs)) (sym (drop_all k ss past)) ∙ so_far

pub fine_next : (sorts : List Sort) (ss : List Statement) (k : ℕ) (s : Statement) → k < length ss → s ≡ get_or ss k s → AreFine sorts (block_in (drop k ss))
    → AreFine sorts (statement_in s) × AreFine sorts (block_in (drop (k + 1) ss))
fine_next sorts ss k s lt is fine = subst (AreFine sorts) (block_next ss k s lt is) fine
