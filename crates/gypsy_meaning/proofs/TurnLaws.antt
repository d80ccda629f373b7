-- What a step does with the top of the work.
use Rattle.std.{proofs.Common.{◌≡◌, ℕ, List, [], ◌∷◌, refl, sym, subst}, specs.declared.rc.Rc.Rc, specs.declared.alloc.Global.Global}
use Rattle.stack_text.specs.Values.{ValueOf}
use Rattle.gypsy_syntax.specs.Programs.{Stmt}
use Rattle.gypsy_space.{specs.declared.program.Node.Node, specs.Nodes.seen_statements}
use Rattle.gypsy_semantics.specs.Machine.{Item, Do, settle}
use Rattle.gypsy_meaning.{specs.Internal.Turns.{GoesOn, IsTurn, OpensTo}, specs.declared.turn.Advance.Advance, specs.declared.turn.Turn.Turn}
use Rattle.gypsy_meaning.specs.declared.turn.Turn.TheVariants as turn

parts_open : (ns : List (Rc Node Global)) (x : List ValueOf) (w : List Item) → OpensTo x (Do (seen_statements ns) ∷ w) (settle (Do (seen_statements ns) ∷ w))
parts_open [] x w = λ q sizes p fs t. refl
parts_open (n ∷ ns) x w = λ q sizes p fs t. refl

-- with what is known of the work, of what is left, and of the cost
pub goes_from : (x : List ValueOf) (w w' u u' : List Item) (a a' : Advance) → w ≡ w' → u ≡ u' → a ≡ a' → GoesOn x w' u' a' → GoesOn x w u a
goes_from x w w' u u' a a' e f h g =
    let P : List Item → Type 0 = λ l. GoesOn x l u a in
    let Q : List Item → Type 0 = λ l. GoesOn x w' l a in
    let R : Advance → Type 0 = λ b. GoesOn x w' u' b in
    subst P (sym e) (subst Q (sym f) (subst R (sym h) g))

pub opens_from : (x : List ValueOf) (w w' u : List Item) → w ≡ w' → u ≡ settle w → OpensTo x w' (settle w') → OpensTo x w u
opens_from x w w' u e f g =
    let P : List Item → Type 0 = λ l. OpensTo x l (settle l) in
    let Q : List Item → Type 0 = OpensTo x w in
    subst Q (sym f) (subst P (sym e) g)

pub parts_from : (x : List ValueOf) (w v u : List Item) (s : Stmt) (ns : List (Rc Node Global)) → w ≡ Do s ∷ v → s ≡ seen_statements ns →
    u ≡ settle w → OpensTo x w u
parts_from x w v u s ns e same f =
    let P : Stmt → Type 0 = λ r. OpensTo x (Do r ∷ v) (settle (Do r ∷ v)) in
    opens_from x w (Do s ∷ v) u e f (subst P (sym same) (parts_open ns x v))

-- what is known of a step, once the work is changed
pub opens_moved : (x : List ValueOf) (w v u : List Item) (left : ℕ → List Item) (kept : ℕ) (t : Turn) → IsTurn x w left t → t ≡ turn.Opens kept →
    v ≡ w → u ≡ left kept → OpensTo x v u
opens_moved x w v u left kept t h is same moved =
    let P : Turn → Type 0 = IsTurn x w left in
    let Q : List Item → Type 0 = λ l. OpensTo x l u in
    let R : List Item → Type 0 = OpensTo x w in
    subst Q (sym same) (subst R (sym moved) (subst P is h))

pub goes_moved : (x : List ValueOf) (w v u : List Item) (left : ℕ → List Item) (kept : ℕ) (a : Advance) (t : Turn) → IsTurn x w left t →
    t ≡ turn.Goes kept a → v ≡ w → u ≡ left kept → GoesOn x v u a
goes_moved x w v u left kept a t h is same moved =
    let P : Turn → Type 0 = IsTurn x w left in
    goes_from x v w u (left kept) a a same moved refl (subst P is h)
