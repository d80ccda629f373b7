-- What is appended for an expression, part by part.
use Rattle.std.{proofs.Common.{◌≡◌, ℕ, suc, List, [], ◌∷◌, ◌++◌, map, sym, ap, ap₂, ◌∙◌, append_assoc}, proofs.lemmas.List.map-append}
use Rattle.gypsy_syntax.{specs.declared.statement.Stmt.Stmt as Made, specs.Made.{new_predef, new_seq}, specs.Sources.{loop, no_op, StmtOf}}
use Rattle.gypsy_syntax.specs.Views.SourceView.{stmt_of}
use Rattle.mini_syntax.{specs.declared.operator.Infix.Infix, specs.declared.operator.Prefix.Prefix, specs.declared.sort.Sort.Sort, specs.Language.{Exp, Before}}
use Rattle.mini_syntax.{specs.Language.{Between, Stmt, Assign, While, If}, specs.Lawful.nth_name, specs.Operands.{infix_sort, prefix_sort, sort_of}}
use Rattle.mini_gypsy.specs.Lowered.{argument, block_parts, choice_parts, leave, set_name, statement_parts, temporary_name, value_parts}
use Rattle.mini_gypsy.specs.Steps.{infix_row, prefix_row}

-- one more
pub one_pushed : (old new : List Made) (made : Made) (s : StmtOf) → new ≡ old ++ made ∷ [] → stmt_of made ≡ s → map stmt_of new ≡ map stmt_of old ++ s ∷ []
one_pushed old new made s pushed is =
    ap (map stmt_of) pushed ∙ map-append stmt_of old (made ∷ []) ∙ ap (λ (z : StmtOf). map stmt_of old ++ z ∷ []) is

-- the parts of an expression that has one
pub leaf_pushed : (names : List (List ℕ)) (k : ℕ) (e : Exp) (s : StmtOf) (old new : List Made) (made : Made) → value_parts names k e ≡ s ∷ []
    → new ≡ old ++ made ∷ [] → stmt_of made ≡ s →
    map stmt_of new ≡ map stmt_of old ++ value_parts names k e
leaf_pushed names k e s old new made parts pushed is = one_pushed old new made s pushed is ∙ ap (λ (ss : List StmtOf). map stmt_of old ++ ss) (sym parts)

pub before_pushed : (names : List (List ℕ)) (k : ℕ) (op : Prefix) (whole operand : Exp) (r : Sort) (old mid new : List Made) (made : Made)
    → whole ≡ Before op operand → r ≡ sort_of operand
    → map stmt_of mid ≡ map stmt_of old ++ value_parts names k operand
    → stmt_of made ≡ new_predef 0 (prefix_row op) (argument (temporary_name (prefix_sort op) k) ∷ argument (temporary_name r k) ∷ [])
    → new ≡ mid ++ made ∷ []
    → map stmt_of new ≡ map stmt_of old ++ value_parts names k whole
unfolding value_parts
before_pushed names k op whole operand r old mid new made is sort first last pushed =
    let call : Sort → StmtOf = λ s. new_predef 0 (prefix_row op) (argument (temporary_name (prefix_sort op) k) ∷ argument (temporary_name s k) ∷ []) in
    one_pushed mid new made (call (sort_of operand)) pushed (last ∙ ap call sort)
    ∙ ap (λ (ss : List StmtOf). ss ++ call (sort_of operand) ∷ []) first
    ∙ append_assoc (map stmt_of old) (value_parts names k operand) (call (sort_of operand) ∷ [])
    ∙ ap (λ (e : Exp). map stmt_of old ++ value_parts names k e) (sym is)

pub between_pushed : (names : List (List ℕ)) (k : ℕ) (op : Infix) (whole a b : Exp) (r s : Sort) (old one two new : List Made) (made : Made)
    → whole ≡ Between op a b → r ≡ sort_of a → s ≡ sort_of b
    → map stmt_of one ≡ map stmt_of old ++ value_parts names k a
    → map stmt_of two ≡ map stmt_of one ++ value_parts names (suc k) b
    → stmt_of made ≡ new_predef 0 (infix_row op)
    (argument (temporary_name (infix_sort op) k) ∷ argument (temporary_name r k) ∷ argument (temporary_name s (suc k)) ∷ [])
    → new ≡ two ++ made ∷ []
    → map stmt_of new ≡ map stmt_of old ++ value_parts names k whole
unfolding value_parts
between_pushed names k op whole a b r s old one two new made is left right first second last pushed =
    let call : Sort → Sort → StmtOf = λ i j. new_predef 0 (infix_row op)
    (argument (temporary_name (infix_sort op) k) ∷ argument (temporary_name i k) ∷ argument (temporary_name j (suc k)) ∷ []) in
    let end : StmtOf = call (sort_of a) (sort_of b) in
    one_pushed two new made end pushed (last ∙ ap₂ call left right)
    ∙ ap (λ (ss : List StmtOf). ss ++ end ∷ []) (second ∙ ap (λ (ss : List StmtOf). ss ++ value_parts names (suc k) b) first)
    ∙ append_assoc (map stmt_of old ++ value_parts names k a) (value_parts names (suc k) b) (end ∷ [])
    ∙ append_assoc (map stmt_of old) (value_parts names k a) (value_parts names (suc k) b ++ end ∷ [])
    ∙ ap (λ (e : Exp). map stmt_of old ++ value_parts names k e) (sym is)

-- ---- statements

pub assigned_pushed : (names : List (List ℕ)) (i : ℕ) (e : Exp) (r : Sort) (old mid new : List Made) (made : Made)
    → r ≡ sort_of e → map stmt_of mid ≡ map stmt_of old ++ value_parts names 0 e
    → stmt_of made ≡ set_name (nth_name names i) (temporary_name r 0) → new ≡ mid ++ made ∷ []
    → map stmt_of new ≡ map stmt_of old ++ statement_parts names (Assign i e)
unfolding statement_parts
assigned_pushed names i e r old mid new made sort value is pushed =
    let last : StmtOf = set_name (nth_name names i) (temporary_name (sort_of e) 0) in
    one_pushed mid new made last pushed (is ∙ ap (λ (s : Sort). set_name (nth_name names i) (temporary_name s 0)) sort)
    ∙ ap (λ (ss : List StmtOf). ss ++ last ∷ []) value
    ∙ append_assoc (map stmt_of old) (value_parts names 0 e) (last ∷ [])

pub while_pushed : (values : List StmtOf) (old new first round : List Made) (whole choice end : Made) (then : StmtOf)
    → map stmt_of first ≡ values → stmt_of end ≡ leave → stmt_of choice ≡ choice_parts then (stmt_of end)
    → round ≡ first ++ choice ∷ [] → stmt_of whole ≡ loop 0 (new_seq 0 (map stmt_of round)) → new ≡ old ++ whole ∷ []
    → map stmt_of new ≡ map stmt_of old ++ loop 0 (new_seq 0 (values ++ choice_parts then leave ∷ [])) ∷ []
while_pushed values old new first round whole choice end then value is_leave is_choice pushed is_loop pushed_whole =
    let last : StmtOf = choice_parts then leave in
    one_pushed old new whole (loop 0 (new_seq 0 (values ++ last ∷ []))) pushed_whole
    (is_loop
    ∙ ap (λ (ss : List StmtOf). loop 0 (new_seq 0 ss))
    (one_pushed first round choice last pushed (is_choice ∙ ap (choice_parts then) is_leave) ∙ ap (λ (ss : List StmtOf). ss ++ last ∷ []) value))

pub if_pushed : (values : List StmtOf) (old mid new : List Made) (choice : Made) (last : StmtOf)
    → map stmt_of mid ≡ map stmt_of old ++ values → stmt_of choice ≡ last → new ≡ mid ++ choice ∷ []
    → map stmt_of new ≡ map stmt_of old ++ (values ++ last ∷ [])
if_pushed values old mid new choice last value is_choice pushed =
    one_pushed mid new choice last pushed is_choice
    ∙ ap (λ (ss : List StmtOf). ss ++ last ∷ []) value
    ∙ append_assoc (map stmt_of old) values (last ∷ [])

-- what was appended is what the statement becomes
pub while_is : (names : List (List ℕ)) (e : Exp) (b whole : Stmt) (old new : List StmtOf) (then : StmtOf)
    → new ≡ old ++ loop 0 (new_seq 0 (value_parts names 0 e ++ choice_parts then leave ∷ [])) ∷ []
    → then ≡ block_parts (statement_parts names b) → whole ≡ While e b → new ≡ old ++ statement_parts names whole
unfolding statement_parts
while_is names e b whole old new then made block is =
    made
    ∙ ap (λ (s : StmtOf). old ++ loop 0 (new_seq 0 (value_parts names 0 e ++ choice_parts s leave ∷ [])) ∷ []) block
    ∙ ap (λ (s : Stmt). old ++ statement_parts names s) (sym is)

pub if_is : (names : List (List ℕ)) (e : Exp) (b d whole : Stmt) (old new : List StmtOf) (then otherwise : StmtOf)
    → new ≡ old ++ (value_parts names 0 e ++ choice_parts then otherwise ∷ [])
    → then ≡ block_parts (statement_parts names b) → otherwise ≡ block_parts (statement_parts names d) → whole ≡ If e b d
    → new ≡ old ++ statement_parts names whole
unfolding statement_parts
if_is names e b d whole old new then otherwise made one two is =
    made
    ∙ ap₂ (λ (s t : StmtOf). old ++ (value_parts names 0 e ++ choice_parts s t ∷ [])) one two
    ∙ ap (λ (s : Stmt). old ++ statement_parts names s) (sym is)

-- a block of what was appended to the no-op
pub block_is : (made : Made) (opened inner : List Made) (parts parts' : List StmtOf)
    → stmt_of made ≡ new_seq 0 (map stmt_of inner) → map stmt_of inner ≡ map stmt_of opened ++ parts → map stmt_of opened ≡ no_op 0 ∷ [] → parts ≡ parts'
    → stmt_of made ≡ block_parts parts'
block_is made opened inner parts parts' is appended begun same =
    is ∙ ap (new_seq 0) (appended ∙ ap (λ (ss : List StmtOf). ss ++ parts) begun ∙ ap (λ (ss : List StmtOf). no_op 0 ∷ ss) same)
