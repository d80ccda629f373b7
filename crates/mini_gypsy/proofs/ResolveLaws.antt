-- The lowered source has positions where the steps have them.
use Rattle.std.proofs.Common.{◌≡◌, ℕ, suc, ◌+◌, ◌<◌, ◌≤◌, List, [], ◌∷◌, ◌++◌, map, length, Option, Some, unwrap_or, refl, ap, ap₂, ◌∙◌, arith}
use Rattle.std.{specs.Prelude.{slice_get, pos}, proofs.lemmas.List.map-append}
use Rattle.stack_text.specs.Names.{place_among}
use Rattle.gypsy_syntax.{specs.declared.predef.Predef.Predef, specs.Effects.{integer_value, truth_value}, specs.Made.{statements, new_predef}}
use Rattle.gypsy_syntax.{specs.Programs.{Arg, Var, Lit}, specs.Resolved.{variable_names, argument_of, statement_of, statement_of_all}, specs.Sources.ArgOf}
use Rattle.gypsy_syntax.specs.Sources.{StmtOf, ProcOf, SourceOf}
use Rattle.gypsy_syntax.specs.declared.predef.Predef.TheVariants as row
use Rattle.gypsy_syntax.specs.Programs as gypsy
use Rattle.mini_syntax.{specs.declared.sort.Sort.Sort, specs.declared.sort.Sort.TheVariants.{Int, Bool}, specs.Language.{Exp, Variable, Number, Truth, Before}}
use Rattle.mini_syntax.{specs.Language.{Between, Stmt, Nothing, Then, Assign, While, If}, specs.Lawful.nth_name, specs.Sorted.{depth, IsWellSorted, AreFine}}
use Rattle.mini_syntax.{specs.Sorted.depths, specs.Operands.{sort_of, prefix_sort, infix_sort}}
use Rattle.mini_gypsy.{specs.Lowered.{temporary_name, argument, set_name, value_parts, statement_parts, block_parts, choice_parts, leave}, specs.Steps.in_turn}
use Rattle.mini_gypsy.specs.Steps.{temporary_at, prefix_row, infix_row, set_variable, value_steps, statement_steps, block_of, choice_of}
use Rattle.mini_gypsy.proofs.NameLaws.{Knows}

-- parts in turn
pub all_in_turn : (q : SourceOf) (p : ProcOf) (parts : List StmtOf) → statement_of_all q p (statements parts) ≡ in_turn (map (statement_of q p) parts)
all_in_turn q p [] = refl
all_in_turn q p (s ∷ parts) = ap (gypsy.Seq (statement_of q p s)) (all_in_turn q p parts)

pub depth_some : (e : Exp) → 0 < depth e
depth_some (Variable sort i) = omega arith
depth_some (Number n) = omega arith
depth_some (Truth b) = omega arith
depth_some (Before op e) = depth_some e
depth_some (Between op a b) = omega arith

module _ (q : SourceOf) (p : ProcOf) (names : List (List ℕ)) (sorts : List Sort) (known : Knows names sorts p) where
  temporary_is : (s : Sort) (k : ℕ) → k < depths → argument_of p (argument (temporary_name s k)) ≡ Var (temporary_at (length names) s k)
  temporary_is s k lt = ap (λ (o : Option ℕ). Var (unwrap_or o 0)) (known.temporary_stands s k lt)

  declared_is : (i : ℕ) (s : Sort) → slice_get sorts i ≡ Some s → argument_of p (argument (nth_name names i)) ≡ Var i
  declared_is i s e = ap (λ (o : Option ℕ). Var (unwrap_or o 0)) (known.declared_place i s e)

  one_is : (which : Predef) (a : ArgOf) (b : Arg) → argument_of p a ≡ b → statement_of q p (new_predef 0 which (a ∷ [])) ≡ gypsy.Apply 0 which (b ∷ [])
  one_is which a b e = ap (λ (c : Arg). gypsy.Apply 0 which (c ∷ [])) e

  two_are : (which : Predef) (a b : ArgOf) (c d : Arg) → argument_of p a ≡ c → argument_of p b ≡ d →
      statement_of q p (new_predef 0 which (a ∷ b ∷ [])) ≡ gypsy.Apply 0 which (c ∷ d ∷ [])
  two_are which a b c d e f = ap₂ (λ (x y : Arg). gypsy.Apply 0 which (x ∷ y ∷ [])) e f

  three_are : (which : Predef) (a b c : ArgOf) (x y z : Arg) → argument_of p a ≡ x → argument_of p b ≡ y → argument_of p c ≡ z →
      statement_of q p (new_predef 0 which (a ∷ b ∷ c ∷ [])) ≡ gypsy.Apply 0 which (x ∷ y ∷ z ∷ [])
  three_are which a b c x y z e f g =
      ap₂ (λ (v w : Arg). gypsy.Apply 0 which (v ∷ w ∷ argument_of p c ∷ [])) e f ∙ ap (λ (w : Arg). gypsy.Apply 0 which (x ∷ y ∷ w ∷ [])) g

  joined : (cs bs : List StmtOf) (xs ys : List gypsy.Stmt) → map (statement_of q p) cs ≡ xs → map (statement_of q p) bs ≡ ys
      → map (statement_of q p) (cs ++ bs) ≡ xs ++ ys
  joined cs bs xs ys e f = map-append (statement_of q p) cs bs ∙ ap₂ (λ (us vs : List gypsy.Stmt). us ++ vs) e f

  one_more : (s : StmtOf) (t : gypsy.Stmt) → statement_of q p s ≡ t → map (statement_of q p) (s ∷ []) ≡ t ∷ []
  one_more s t e = ap (λ (v : gypsy.Stmt). v ∷ []) e

  pub values_are : (k : ℕ) (e : Exp) → IsWellSorted sorts e → k + depth e ≤ depths
      → map (statement_of q p) (value_parts names k e) ≡ value_steps (length names) k e
  unfolding value_parts value_steps
  values_are k (Variable s i) sorted small =
      one_more (set_name (temporary_name s k) (nth_name names i)) (set_variable (temporary_at (length names) s k) i)
      (two_are row.MgSimpleVariableAssignment (argument (temporary_name s k)) (argument (nth_name names i)) (Var (temporary_at (length names) s k)) (Var i)
      (temporary_is s k (omega arith)) (declared_is i s sorted))
  values_are k (Number n) sorted small =
      ap (λ (x : Arg). gypsy.Apply 0 row.MgSimpleConstantAssignment (x ∷ Lit (integer_value (pos n)) ∷ []) ∷ []) (temporary_is Int k (omega arith))
  values_are k (Truth b) sorted small =
      ap (λ (x : Arg). gypsy.Apply 0 row.MgSimpleConstantAssignment (x ∷ Lit (truth_value b) ∷ []) ∷ []) (temporary_is Bool k (omega arith))
  values_are k (Before op e) sorted small =
      let some = depth_some e in
      joined (value_parts names k e) (new_predef 0 (prefix_row op)
      (argument (temporary_name (prefix_sort op) k) ∷ argument (temporary_name (sort_of e) k) ∷ []) ∷ [])
      (value_steps (length names) k e) (gypsy.Apply 0 (prefix_row op)
      (Var (temporary_at (length names) (prefix_sort op) k) ∷ Var (temporary_at (length names) (sort_of e) k) ∷ []) ∷ [])
      (values_are k e sorted.0 small)
      (ap₂ (λ (x y : Arg). gypsy.Apply 0 (prefix_row op) (x ∷ y ∷ []) ∷ []) (temporary_is (prefix_sort op) k (omega arith))
      (temporary_is (sort_of e) k (omega arith)))
  values_are k (Between op a b) sorted small =
      let some = depth_some b in
      let last = new_predef 0 (infix_row op) (argument (temporary_name (infix_sort op) k) ∷ argument (temporary_name (sort_of a) k)
      ∷ argument (temporary_name (sort_of b) (suc k)) ∷ []) in
      let step = gypsy.Apply 0 (infix_row op) (Var (temporary_at (length names) (infix_sort op) k) ∷ Var (temporary_at (length names) (sort_of a) k)
      ∷ Var (temporary_at (length names) (sort_of b) (suc k)) ∷ []) in
      joined (value_parts names k a) (value_parts names (suc k) b ++ last ∷ []) (value_steps (length names) k a)
      (value_steps (length names) (suc k) b ++ step ∷ [])
      (values_are k a sorted.0 (omega arith))
      (joined (value_parts names (suc k) b) (last ∷ []) (value_steps (length names) (suc k) b) (step ∷ [])
      (values_are (suc k) b sorted.1 (omega arith))
      (one_more last step
      (three_are (infix_row op) (argument (temporary_name (infix_sort op) k)) (argument (temporary_name (sort_of a) k))
      (argument (temporary_name (sort_of b) (suc k)))
      (Var (temporary_at (length names) (infix_sort op) k)) (Var (temporary_at (length names) (sort_of a) k))
      (Var (temporary_at (length names) (sort_of b) (suc k)))
      (temporary_is (infix_sort op) k (omega arith)) (temporary_is (sort_of a) k (omega arith)) (temporary_is (sort_of b) (suc k) (omega arith)))))

  block_is : (parts : List StmtOf) (steps : List gypsy.Stmt) → map (statement_of q p) parts ≡ steps → statement_of q p (block_parts parts) ≡ block_of steps
  block_is parts steps e = ap (gypsy.Seq (gypsy.NoOp 0)) (all_in_turn q p parts ∙ ap in_turn e)

  choice_is : (s t : StmtOf) (a b : gypsy.Stmt) → statement_of q p s ≡ a → statement_of q p t ≡ b
      → statement_of q p (choice_parts s t) ≡ choice_of (length names) a b
  choice_is s t a b e f =
      ap₂ (λ (x y : gypsy.Stmt). gypsy.If 0 (unwrap_or (place p) 0) x y) e f
      ∙ ap (λ (o : Option ℕ). gypsy.If 0 (unwrap_or o 0) a b) (known.temporary_stands Bool 0 (omega arith))
    where
      place : ProcOf → Option ℕ
      place r = place_among (temporary_name Bool 0) (variable_names r)

  pub statements_are : (s : Stmt) → AreFine sorts s → map (statement_of q p) (statement_parts names s) ≡ statement_steps (length names) s
  unfolding statement_parts statement_steps
  statements_are Nothing fine = refl
  statements_are (Then s t) fine =
      joined (statement_parts names s) (statement_parts names t) (statement_steps (length names) s) (statement_steps (length names) t)
      (statements_are s fine.0) (statements_are t fine.1)
  statements_are (Assign i e) fine =
      joined (value_parts names 0 e) (set_name (nth_name names i) (temporary_name (sort_of e) 0) ∷ []) (value_steps (length names) 0 e)
      (set_variable i (temporary_at (length names) (sort_of e) 0) ∷ [])
      (values_are 0 e fine.1.sorted (omega (arith, fine.1.shallow)))
      (ap₂ (λ (x y : Arg). gypsy.Apply 0 row.MgSimpleVariableAssignment (x ∷ y ∷ []) ∷ []) (declared_is i (sort_of e) fine.0)
      (temporary_is (sort_of e) 0 (omega arith)))
  statements_are (While e s) fine =
      let block = block_parts (statement_parts names s) in
      let block' = block_of (statement_steps (length names) s) in
      ap (λ (x : gypsy.Stmt). gypsy.Loop 0 x ∷ [])
      (all_in_turn q p (value_parts names 0 e ++ choice_parts block leave ∷ [])
      ∙ ap in_turn
      (joined (value_parts names 0 e) (choice_parts block leave ∷ []) (value_steps (length names) 0 e)
      (choice_of (length names) block' (gypsy.Signal 0 gypsy.Leave) ∷ [])
      (values_are 0 e fine.0.sorted (omega (arith, fine.0.shallow)))
      (one_more (choice_parts block leave) (choice_of (length names) block' (gypsy.Signal 0 gypsy.Leave))
      (choice_is block leave block' (gypsy.Signal 0 gypsy.Leave)
      (block_is (statement_parts names s) (statement_steps (length names) s) (statements_are s fine.1)) refl))))
  statements_are (If e s t) fine =
      let yes_block = block_parts (statement_parts names s) in
      let yes_steps = block_of (statement_steps (length names) s) in
      let no_block = block_parts (statement_parts names t) in
      let no_steps = block_of (statement_steps (length names) t) in
      joined (value_parts names 0 e) (choice_parts yes_block no_block ∷ []) (value_steps (length names) 0 e) (choice_of (length names) yes_steps no_steps ∷ [])
      (values_are 0 e fine.0.sorted (omega (arith, fine.0.shallow)))
      (one_more (choice_parts yes_block no_block) (choice_of (length names) yes_steps no_steps)
      (choice_is yes_block no_block yes_steps no_steps
      (block_is (statement_parts names s) (statement_steps (length names) s) (statements_are s fine.1))
      (block_is (statement_parts names t) (statement_steps (length names) t) (statements_are t fine.2))))
