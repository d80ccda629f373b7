-- What fits a grammar keeps its form: the tree of a part is judged to be that part but for places, its atoms are runs, and it is
-- shallow.
use Rattle.std.{proofs.Common.{◌≡◌, ℕ, ◌≤◌, ◌<◌, Bool, true, List, [], ◌∷◌, length, map, Ok, All, refl, ap, ◌∙◌, arith}, proofs.lemmas.List.Elements.All-head}
use Rattle.std.proofs.lemmas.List.Elements.{All-tail}
use Rattle.stack_text.{specs.declared.name.Named.Named, specs.Trees.{Node, depth, depths, AtomsAreRuns, AllAtomsAreRuns}, specs.Views.TreeView.nodes}
use Rattle.stack_text.{specs.Grammar.Judged.{Judged, front, each_of, judged, ◌⊛◌}, specs.Grammar.Parts.{IsNamed, count_of, name_or}}
use Rattle.stack_text.{specs.Grammar.Printed.{name_tree, unplaced_name}, proofs.AtomLaws.name_is_run, specs.Names.is_name, specs.Tokens.atom_run}

-- an atom's bytes
abbrev pub IsRun : List ℕ → Type 0
IsRun bytes = (0 < length bytes) × (atom_run bytes ≡ bytes)

-- ---- a judgement of known parts

pub passes : {X : Type 0} (p rule : ℕ) (b : Bool) (r : Judged X) (x : X) → b ≡ true → r ≡ Ok x → judged p rule b r ≡ Ok x
passes p rule b r x e h = ap (λ (c : Bool). judged p rule c r) e ∙ h

pub ok : {X : Type 0} (x : X) → ◌≡◌ {A = Judged X} (Ok x) (Ok x)
ok x = refl

-- the value of one part more
infixl 30 ◌◂◌
pub ◌◂◌ : {X Y : Type 0} {r : Judged (X → Y)} {f : X → Y} {s : Judged X} {x : X} → r ≡ Ok f → s ≡ Ok x → (r ⊛ s) ≡ Ok (f x)
◌◂◌ {X} {Y} {r} {f} {s} {x} h k = ap (λ (u : Judged (X → Y)). u ⊛ s) h ∙ ap (λ (u : Judged X). Ok f ⊛ u) k

-- ---- what fits, printed and read again

-- the tree of a part is that part but for places, its atoms are runs, and at most n of its lists nest
pub record Made {X : Type 0} (judge : Node → Judged X) (tree : X → Node) (view : X → X) (n : ℕ) (x : X) : Type 0 where
  pub reads : judge (tree x) ≡ Ok (view x)
  pub runs : AtomsAreRuns (tree x)
  pub low : depth (tree x) ≤ n

-- the same of each part of a list
pub record MadeEach {X : Type 0} (judge : Node → Judged X) (tree : X → Node) (view : X → X) (n : ℕ) (xs : List X) : Type 0 where
  pub reads : each_of judge (nodes (map tree xs)) ≡ Ok (map view xs)
  pub runs : AllAtomsAreRuns (nodes (map tree xs))
  pub low : depths (nodes (map tree xs)) ≤ n
  pub count : count_of (nodes (map tree xs)) ≡ length xs

pub made_each : {X : Type 0} (P : X → Type 0) (judge : Node → Judged X) (tree : X → Node) (view : X → X) (n : ℕ)
    → ((x : X) → P x → Made judge tree view n x) → (xs : List X) → All P xs → MadeEach judge tree view n xs
made_each P judge tree view n made [] h = record { reads = refl; runs = tt; low = omega arith; count = refl }
made_each P judge tree view n made (x ∷ xs) h =
    let one_ = made x (All-head P x xs h) in
    let others = made_each P judge tree view n made xs (All-tail P x xs h) in
    record {
      reads = ok front ◂ one_.reads ◂ others.reads;
      runs = (one_.runs, others.runs);
      low = omega (arith, one_.low, others.low);
      count = let k : count_of (nodes (map tree xs)) ≡ length xs = others.count in omega (arith, k);
    }

pub named_again : (rule : ℕ) (n : Named) → is_name n.name ≡ true → name_or rule (name_tree n) ≡ Ok (unplaced_name n)
named_again rule n h = passes 0 rule (is_name n.name) _ _ h refl

pub made_name : (rule : ℕ) (n : Named) → IsNamed n → Made (name_or rule) name_tree unplaced_name 0 n
made_name rule n h = record { reads = named_again rule n h; runs = name_is_run n.name h; low = omega arith }

pub made_names : (rule : ℕ) (ns : List Named) → All IsNamed ns → MadeEach (name_or rule) name_tree unplaced_name 0 ns
made_names rule = made_each IsNamed (name_or rule) name_tree unplaced_name 0 (made_name rule)
