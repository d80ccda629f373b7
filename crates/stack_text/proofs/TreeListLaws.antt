-- Lists of trees by how many they are.
use Rattle.std.proofs.Common.{◌≡◌, ◌≢◌, ◌+◌, ◌-◌, ℕ, List, [], ◌∷◌, length, take, drop, get_or, length-drop, refl, ap, ◌∙◌, arith}
use Rattle.std.proofs.lemmas.List.{take_all}
use Rattle.stack_text.{specs.Grammar.Parts.count_of, specs.Trees.{Node, Nodes, none, more}, specs.Views.TreeView.{node_of, nodes_of}}
use Rattle.stack_text.specs.declared.tree.TextTree.{TextTree}

-- what holds of none and of two or more holds of all but one
pub not_one : (P : Nodes → Type 0) → P none → ((t u : Node) (ts : Nodes) → P (more t (more u ts))) → (ts : List TextTree) → length ts ≢ 1 → P (nodes_of ts)
not_one P zero_ two_ [] ne = zero_
not_one P zero_ two_ (t ∷ []) ne = absurd (ne refl)
not_one P zero_ two_ (t ∷ u ∷ ts) ne = two_ _ _ _

-- likewise for all but two
pub not_two : (P : Nodes → Type 0) → P none → ((t : Node) → P (more t none)) → ((t u v : Node) (ts : Nodes) → P (more t (more u (more v ts))))
    → (ts : List TextTree) → length ts ≢ 2 → P (nodes_of ts)
not_two P zero_ one_ three_ [] ne = zero_
not_two P zero_ one_ three_ (t ∷ []) ne = one_ _
not_two P zero_ one_ three_ (t ∷ u ∷ []) ne = absurd (ne refl)
not_two P zero_ one_ three_ (t ∷ u ∷ v ∷ ts) ne = three_ _ _ _ _

-- what holds of one or more holds of all that are not empty
pub not_none : (P : Nodes → Type 0) → ((t : Node) (ts : Nodes) → P (more t ts)) → (ts : List TextTree) → length ts ≢ 0 → P (nodes_of ts)
not_none P some_ [] ne = absurd (ne refl)
not_none P some_ (t ∷ ts) ne = some_ _ _

pub no_parts : (ts : List TextTree) → length ts ≡ 0 → nodes_of ts ≡ none
no_parts [] e = refl
no_parts (t ∷ ts) e = absurd (omega (arith, e))

-- two trees, and three, by their numbers
pub two_parts : (ts : List TextTree) (t u : TextTree) → length ts ≡ 2 → t ≡ get_or ts 0 t → u ≡ get_or ts 1 u
    → nodes_of ts ≡ more (node_of t) (more (node_of u) none)
two_parts [] t u e t_is u_is = absurd (omega (arith, e))
two_parts (x ∷ []) t u e t_is u_is = absurd (omega (arith, e))
two_parts (x ∷ y ∷ []) t u e t_is u_is = rw (t_is, u_is) refl
two_parts (x ∷ y ∷ z ∷ ts) t u e t_is u_is = absurd (omega (arith, e))

pub three_parts : (ts : List TextTree) (t u v : TextTree) → length ts ≡ 3 → t ≡ get_or ts 0 t → u ≡ get_or ts 1 u → v ≡ get_or ts 2 v
    → nodes_of ts ≡ more (node_of t) (more (node_of u) (more (node_of v) none))
three_parts [] t u v e t_is u_is v_is = absurd (omega (arith, e))
three_parts (x ∷ []) t u v e t_is u_is v_is = absurd (omega (arith, e))
three_parts (x ∷ y ∷ []) t u v e t_is u_is v_is = absurd (omega (arith, e))
three_parts (x ∷ y ∷ z ∷ []) t u v e t_is u_is v_is = rw (t_is, u_is, v_is) refl
three_parts (x ∷ y ∷ z ∷ w ∷ ts) t u v e t_is u_is v_is = absurd (omega (arith, e))

pub count_of_all : (ts : List TextTree) → count_of (nodes_of ts) ≡ length ts
count_of_all [] = refl
count_of_all (t ∷ ts) = ap (λ n. 1 + n) (count_of_all ts) ∙ omega arith

-- what a slice from a number on has
abbrev pub rest : {A : Type 0} → ℕ → List A → List A
rest n ts = take (length ts - n) (drop n ts)

pub rest_is_drop : {A : Type 0} → (n : ℕ) (ts : List A) → rest n ts ≡ drop n ts
rest_is_drop n ts = take_all (length ts - n) (drop n ts) (omega (arith, length-drop n ts))

-- likewise for all but three
pub not_three : (P : Nodes → Type 0) → P none → ((t : Node) → P (more t none)) → ((t u : Node) → P (more t (more u none)))
    → ((t u v w : Node) (ts : Nodes) → P (more t (more u (more v (more w ts))))) → (ts : List TextTree) → length ts ≢ 3 → P (nodes_of ts)
not_three P zero_ one_ two_ four_ [] ne = zero_
not_three P zero_ one_ two_ four_ (t ∷ []) ne = one_ _
not_three P zero_ one_ two_ four_ (t ∷ u ∷ []) ne = two_ _ _
not_three P zero_ one_ two_ four_ (t ∷ u ∷ v ∷ []) ne = absurd (ne refl)
not_three P zero_ one_ two_ four_ (t ∷ u ∷ v ∷ w ∷ ts) ne = four_ _ _ _ _ _

pub one_part : (ts : List TextTree) (t : TextTree) → length ts ≡ 1 → t ≡ get_or ts 0 t → nodes_of ts ≡ more (node_of t) none
one_part [] t e t_is = absurd (omega (arith, e))
one_part (x ∷ []) t e t_is = rw t_is refl
one_part (x ∷ y ∷ ts) t e t_is = absurd (omega (arith, e))
